-- Statements of one path in place of others: what is read of a base to tell what it comes to. Tables are told of by whichever
-- base they store.
use Rattle.std.specs.Prelude.{◌≡◌, ℕ, Bool, true, not, ◌&&◌, ◌||◌, List, [], ◌∷◌, filter, cond}
use Rattle.std.specs.List.{list_any, list_all, flat_map}
use Rattle.bdb_base.specs.Alternation.{alternates}
use Rattle.bdb_base.specs.Bases.{Contents, IsValid, has_tuple, is_user}
use Rattle.bdb_base.specs.Same.{same_path, same_tuple}
use Rattle.bdb_base.specs.States.{is_state}
use Rattle.bdb_base.specs.declared.kinds.Stmt.{Stmt}
use Rattle.bdb_base.specs.declared.tuple.Tuple.{Tuple}
use Rattle.bdb_keep.specs.Tables.{Tables}
use Rattle.bdb_val.specs.declared.stored.StoredRow.{StoredRow}
use Rattle.bdb_tables.specs.Stored.{Stores}

-- the statements at a path
abbrev pub at_path : List ℕ → List Stmt → List Stmt
at_path w stmts = filter (λ x. same_path x.path w) stmts

-- a statement of another path has the tuple
abbrev pub told_elsewhere : List Stmt → List ℕ → Tuple → Bool
told_elsewhere stmts w u = list_any (λ x. not (same_path x.path w) && same_tuple u x.tuple) stmts

-- those of some statements whose tuple no other path's statement has, nor any of these
abbrev pub lost_of : List Stmt → List ℕ → List Stmt → List Stmt → List Stmt
lost_of stmts w reached gone = filter (λ x. not (has_tuple reached x.tuple || told_elsewhere stmts w x.tuple)) gone

-- those of some statements whose tuple no statement of the base has
abbrev pub fresh_of : List Stmt → List Stmt → List Stmt
fresh_of stmts come = filter (λ x. not (has_tuple stmts x.tuple)) come

-- ---- what stands at a path

-- tables store a valid base, of which a path of its users is a state
pub record HasState (t : Tables) (w : List ℕ) (b : Contents) : Type 0 where
  pub stored : Stores t b
  pub valid : IsValid b.catalog b.stmts
  pub apart : alternates w ≡ true
  pub users : list_all (is_user b.catalog.users) w ≡ true
  pub state : is_state b.stmts w ≡ true

pub record SomeHasState (t : Tables) (w : List ℕ) : Type 0 where
  pub base : Contents
  pub has : HasState t w base

-- the statement at a path that a row of its world is, if it is explicit
abbrev pub said_of : List ℕ → StoredRow → List Stmt
said_of w r = cond r.mark.1 (record { path = w; sign = r.mark.0; tuple = r.tuple } ∷ []) []

abbrev pub said_at : List ℕ → List StoredRow → List Stmt
said_at w rows = flat_map (said_of w) rows

-- whichever base tables store, these are its statements at a path that is a state
abbrev pub StandAt : Tables → List ℕ → List Stmt → Type 0
StandAt t w xs = (b : Contents) → HasState t w b → xs ≡ at_path w b.stmts
