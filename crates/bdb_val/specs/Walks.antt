-- Walks down the tree of suffix links, which settle one world after the other.
use Rattle.std.specs.Prelude.{◌≡◌, ℕ, ◌+◌, false, ◌⊎◌, List, [], ◌∷◌, ◌++◌, length, filter, Option, map}
use Rattle.std.specs.List.{list_any}
use Rattle.bdb_keep.specs.Tables.{Tables}
use Rattle.bdb_key.specs.Bytes.{num_bytes}
use Rattle.bdb_tables.specs.Codec.{HasAt}
use Rattle.bdb_tables.specs.InUse.{ValKey, link_codec, linked_codec}
use Rattle.bdb_tables.specs.Marks.{Mark}
use Rattle.bdb_tables.specs.Spans.{AreUnder}
use Rattle.bdb_val.specs.Settling.{mark_in}
use Rattle.bdb_val.specs.Steps.{IsSettling, rows_made, turns, is_new, is_gone}

-- the worlds whose suffix links lead to a world, as they are read
pub record AreLinkedTo (t : Tables) (wid : ℕ) (more : List ℕ) : Type 0 where
  pub entries : List ((ℕ × ℕ) × Unit {0})
  pub under : AreUnder linked_codec t (num_bytes wid) entries
  pub listed : more ≡ map (λ e. e.0.1) entries

-- a world's link is read, and its rows under a beginning are settled
pub record IsVisit (keys : ℕ → ℕ) (prefix : ℕ → List ℕ) (t u : Tables) (wid : ℕ) : Type 0 where
  pub link : Option ℕ
  pub linked : HasAt link_codec t wid link
  pub settling : IsSettling keys t u wid link prefix

-- the changes of a visit
abbrev pub changes_of : {keys : ℕ → ℕ} {prefix : ℕ → List ℕ} {t u : Tables} {wid : ℕ} → IsVisit keys prefix t u wid → List (ValKey × Option Mark)
changes_of {keys} {prefix} {t} {u} {wid} s = rows_made keys wid s.settling.own s.settling.from

-- how many rows a visit puts where there was none
abbrev pub put_by : {keys : ℕ → ℕ} {prefix : ℕ → List ℕ} {t u : Tables} {wid : ℕ} → IsVisit keys prefix t u wid → ℕ
put_by s = length (filter (is_new (mark_in s.settling.own)) (changes_of s))

-- how many rows a visit takes away
abbrev pub taken_by : {keys : ℕ → ℕ} {prefix : ℕ → List ℕ} {t u : Tables} {wid : ℕ} → IsVisit keys prefix t u wid → ℕ
taken_by s = length (filter (is_gone (mark_in s.settling.own)) (changes_of s))

-- no tuple has another sign after a visit
abbrev pub IsQuiet : {keys : ℕ → ℕ} {prefix : ℕ → List ℕ} {t u : Tables} {wid : ℕ} → IsVisit keys prefix t u wid → Type 0
IsQuiet s = list_any (turns (mark_in s.settling.own)) (changes_of s) ≡ false

-- A walk from a world: it is visited, and the worlds linked to it are listed; then those on the list are visited, and the
-- worlds linked to them listed too, unless no sign is another. The walk has come to these tables, with these worlds left, and
-- has made these changes, of which so many put a new row, and so many took one away.
pub data Walked (keys : ℕ → ℕ) (prefix : ℕ → List ℕ) (t : Tables) (start : ℕ) : Tables → List ℕ → List (ValKey × Option Mark) → ℕ → ℕ → Type 0 where
  first : (u : Tables) (more : List ℕ) (s : IsVisit keys prefix t u start) → AreLinkedTo u start more → Walked keys prefix t start u more (changes_of s) (put_by s) (taken_by s)
  next : (u v : Tables) (wid : ℕ) (left more : List ℕ) (made : List (ValKey × Option Mark)) (put taken : ℕ) → Walked keys prefix t start u (wid ∷ left) made put taken
      → (s : IsVisit keys prefix u v wid) → ((more ≡ []) × IsQuiet s) ⊎ AreLinkedTo v wid more
      → Walked keys prefix t start v (left ++ more) (made ++ changes_of s) (put + put_by s) (taken + taken_by s)
