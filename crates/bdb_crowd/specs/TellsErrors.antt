-- Errors as the lines told tell them: exactly what isn't fine is told so. Each law is the contract of a function of `error_laws`.
use Rattle.std.specs.Prelude.{◌≡◌, ℕ, Bool, false, not, ◌&&◌, ◌||◌, List, [], ◌∷◌, codes, if◌then◌else◌}
use Rattle.std.specs.Char.{is_ascii_digit}
use Rattle.std.specs.List.{list_any}
use Rattle.bdb_base.specs.Segments.{is_prefix}
use Rattle.bdb_session.specs.ErrorLaws.{HasValidBase}
use Rattle.bdb_session.specs.ErrorLines.{lines_of, tells_error}
use Rattle.bdb_crowd.specs.Asked.{Asked, Point, all_fine, is_fine, replies, reply_of}

-- what stands behind the digits that a line begins with
abbrev pub behind_digits : List ℕ → List ℕ
behind_digits [] = []
behind_digits (b ∷ line) = if is_ascii_digit b then behind_digits line else b ∷ line

-- a line begins with a number and `: error `
abbrev pub tells_session_error : List ℕ → Bool
tells_session_error [] = false
tells_session_error (b ∷ line) = is_ascii_digit b && is_prefix (codes ": error ") (behind_digits line)

-- a line tells an error, to a session or to none
abbrev pub tells_any_error : List ℕ → Bool
tells_any_error line = tells_error line || tells_session_error line

-- a line of a text tells an error
abbrev pub has_error : List ℕ → Bool
has_error text = list_any tells_any_error (lines_of text)

-- over a valid base, what a stream asks for isn't fine exactly where a line of its reply tells an error
abbrev pub RepliesTellErrors : Type 0
RepliesTellErrors = (p : Point) (a : Asked) → HasValidBase p.state → has_error (reply_of p a) ≡ not (is_fine p a)

-- over a valid base, one of several things isn't fine exactly where a line of their replies tells an error
abbrev pub StreamsTellErrors : Type 0
StreamsTellErrors = (p : Point) (asked : List Asked) → HasValidBase p.state → has_error (replies p asked) ≡ not (all_fine p asked)
