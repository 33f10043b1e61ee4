-- What handles the pieces of a stream one after the other: what the stream asks for, how far it has come, and what comes of it.
use Rattle.std.specs.Prelude.{◌≡◌, ℕ, ◌+◌, Bool, true, ◌&&◌, List, [], ◌∷◌, ◌++◌, map}
use Rattle.bdb_keep.specs.Tables.{Tables}
use Rattle.bdb_lex.specs.Cut.{pieces_of, has_rest, rest_of}
use Rattle.bdb_lex.specs.declared.token.Piece.{Piece}
use Rattle.bdb_lex.specs.declared.token.Rest.{Rest}
use Rattle.bdb_session.specs.Known.{Known, RemembersSome}

-- What a stream asks of a handler with H at hand: a thing for each piece, and perhaps one for its rest. It goes from point to point: of
-- each thing there is the reply, whether that tells no error, how often the thing commits, and the point behind it; and so there is of
-- several things. What is at hand has a session, which agrees on a point with tables, and more that may stand for a point.
pub record Handling (H : Type 0) : Type 1 where
  pub Point : Type 0
  pub Asked : Type 0
  pub asked_by : Piece → Asked
  pub rest_asks : Rest → List Asked
  pub reply_of : Point → Asked → List ℕ
  pub is_fine : Point → Asked → Bool
  pub commits_by : Point → Asked → ℕ
  pub next_point : Point → Asked → Point
  pub replies : Point → List Asked → List ℕ
  pub all_fine : Point → List Asked → Bool
  pub committed : Point → List Asked → ℕ
  pub after : Point → List Asked → Point
  pub session_of : H → Known
  pub Agrees : Tables → Known → Point → Type 0
  pub StandsFor : H → Point → Type 0

-- several things are handled one after the other
pub record IsInOrder {H : Type 0} (m : Handling H) : Type 0 where
  pub no_reply : (p : m.Point) → m.replies p [] ≡ []
  pub replies : (p : m.Point) (a : m.Asked) (asked : List m.Asked)
      → m.replies p (a ∷ asked) ≡ m.reply_of p a ++ m.replies (m.next_point p a) asked
  pub none_fine : (p : m.Point) → m.all_fine p [] ≡ true
  pub fine : (p : m.Point) (a : m.Asked) (asked : List m.Asked)
      → m.all_fine p (a ∷ asked) ≡ m.is_fine p a && m.all_fine (m.next_point p a) asked
  pub no_commit : (p : m.Point) → m.committed p [] ≡ 0
  pub commits : (p : m.Point) (a : m.Asked) (asked : List m.Asked)
      → m.committed p (a ∷ asked) ≡ m.commits_by p a + m.committed (m.next_point p a) asked
  pub stays : (p : m.Point) → m.after p [] ≡ p
  pub leads : (p : m.Point) (a : m.Asked) (asked : List m.Asked) → m.after p (a ∷ asked) ≡ m.after (m.next_point p a) asked

-- What is at hand, and tables, have come as far as this point: the session agrees with the tables on it, and all else stands for it.
pub record IsAt {H : Type 0} (m : Handling H) (t : Tables) (hand : H) (p : m.Point) : Type 0 where
  pub agrees : m.Agrees t (m.session_of hand) p
  pub stands : m.StandsFor hand p

-- there is such a point, and the changes that the session knows stand for some bases
pub record IsAtSome {H : Type 0} (m : Handling H) (t : Tables) (hand : H) : Type 0 where
  pub point : m.Point
  pub at : IsAt m t hand point
  pub remembers : RemembersSome t (m.session_of hand)

-- what a stream asks for: its pieces, which are what stands before each end of its spans (`pieces_are_of_spans` of `bdb_lex`), and then
-- its rest where it holds something, which is a text or a byte other than a blank behind the last end (`rest_is_of_spans`)
abbrev pub asked_of : {H : Type 0} (m : Handling H) → List ℕ → List m.Asked
asked_of m bytes = map m.asked_by (pieces_of bytes) ++ m.rest_asks (rest_of (has_rest bytes))

-- What the pieces ask for that end in these bytes, each what stands before an end of their spans (`pieces_are_of_spans` of `bdb_lex`). That
-- bytes come in parts changes no piece (`pieces_come_in_parts`, `states_come_in_parts`).
abbrev pub ended_in : {H : Type 0} (m : Handling H) → List ℕ → List m.Asked
ended_in m bytes = map m.asked_by (pieces_of bytes)

-- one list is the front of another
abbrev pub IsFrontOf : {A : Type 0} → List A → List A → Type 0
IsFrontOf {A} front whole = (rest : List A) × (whole ≡ front ++ rest)
