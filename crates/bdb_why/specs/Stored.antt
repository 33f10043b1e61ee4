-- Certificates over the base that tables store, whichever it is.
use Rattle.std.specs.Prelude.{◌≡◌, ℕ, ◌+◌, ◌*◌, true, List, length, filter, sum_by}
use Rattle.bdb_base.specs.Bases.{Contents, fits_relation, key_lengths}
use Rattle.bdb_base.specs.Clash.{same_key}
use Rattle.bdb_base.specs.States.{is_state}
use Rattle.bdb_base.specs.WorldRows.{world_of}
use Rattle.bdb_base.specs.declared.kinds.Held.{Held}
use Rattle.bdb_base.specs.declared.kinds.Sign.{Sign}
use Rattle.bdb_base.specs.declared.kinds.Stmt.{Stmt}
use Rattle.bdb_base.specs.declared.tuple.Tuple.{Tuple}
use Rattle.bdb_keep.specs.Seen.{Seen}
use Rattle.bdb_keep.specs.Tables.{Tables}
use Rattle.bdb_worlds.specs.Bounds.{EndsWithin}
use Rattle.bdb_catalog.specs.Bases.{HasUsers}
use Rattle.bdb_why.specs.declared.kinds.Why.{Why}
use Rattle.bdb_why.specs.Certificates.{why_of}
use Rattle.bdb_why.specs.Ends.{ends_in, is_at_an_end}

-- tables store a valid base, among whose users are those of a path, and a relation of which a tuple fits
pub record MayAsk (t : Tables) (path : List ℕ) (u : Tuple) (b : Contents) : Type 0 where
  pub has : HasUsers t path b
  pub fits : fits_relation b.catalog.rels u ≡ true

-- there is such a base
pub record SomeMayAsk (t : Tables) (path : List ℕ) (u : Tuple) : Type 0 where
  pub base : Contents
  pub may : MayAsk t path u base

-- whichever base it is, this is the certificate of the signed tuple there
abbrev pub IsWhyOf : Tables → List ℕ → Tuple → Sign → Why → Type 0
IsWhyOf t path u s y = (b : Contents) → MayAsk t path u b → y ≡ why_of (key_lengths b.catalog.rels) b.stmts path u s

-- whichever base it is, these are its statements near the path
abbrev pub AreNear : Tables → List ℕ → Tuple → List Stmt → Type 0
AreNear t path u xs = (b : Contents) → MayAsk t path u b → xs ≡ filter (is_at_an_end (key_lengths b.catalog.rels) path u) b.stmts

-- ---- how much is read

-- the rows of a path's world whose tuples have a tuple's relation and key
abbrev pub rows_of_key : (ℕ → ℕ) → List Stmt → Tuple → List ℕ → List Held
rows_of_key keys stmts u w = filter (λ h. same_key keys h.tuple u) (world_of keys stmts w)

-- four reads for each row of the key in a world, and four for the world
abbrev pub reads_at : (ℕ → ℕ) → List Stmt → Tuple → List ℕ → ℕ
reads_at keys stmts u w = 4 * length (rows_of_key keys stmts u w) + 4

-- Whichever base it is: one read for each user of the path, and those at each state among the path's ends, at most.
abbrev pub ReadsNear : Seen → Seen → List ℕ → Tuple → Type 0
ReadsNear old new path u = (b : Contents) → MayAsk old.kept path u b
    → EndsWithin (length path + sum_by (reads_at (key_lengths b.catalog.rels) b.stmts u) (ends_in (is_state b.stmts) path)) old.reads new.reads
