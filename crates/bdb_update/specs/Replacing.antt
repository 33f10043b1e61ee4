-- Statements go, and others come, one after the other. Tables are told of by whichever base they store.
use Rattle.std.specs.Prelude.{◌≡◌, ◌+◌, Bool, true, false, List, [], ◌∷◌, length, Result, OnOk}
use Rattle.std.specs.List.{list_all}
use Rattle.bdb_base.specs.Bases.{Contents, IsValid, belongs, stands}
use Rattle.bdb_base.specs.Changes.{with_statements, without_statements}
use Rattle.bdb_base.specs.declared.kinds.Stmt.{Stmt}
use Rattle.bdb_canon.specs.declared.sizes.Counts.{Counts}
use Rattle.bdb_keep.specs.Seen.{Seen}
use Rattle.bdb_keep.specs.Tables.{Tables}
use Rattle.bdb_tables.specs.declared.tab.TabError.{TabError}
use Rattle.bdb_update.specs.Bounds.{WritesWithinMore}
use Rattle.bdb_update.specs.Calls.{StoresSized, none_comes_again, with_stmts, with_others}
use Rattle.bdb_update.specs.declared.answer.UpdateError.{UpdateError}
use Rattle.bdb_update.specs.declared.answer.UpdateError.TheVariants.{Clash, Full, Fault, Memory}

-- tables store a base of these sizes, of which statements stand, each once
pub record MayGo (t : Tables) (counts : Counts) (gone : List Stmt) (b : Contents) : Type 0 where
  pub base : StoresSized t counts b
  pub stand : list_all (stands b.stmts) gone ≡ true
  pub apart : none_comes_again gone ≡ true

pub record SomeMayGo (t : Tables) (counts : Counts) (gone : List Stmt) : Type 0 where
  pub base : Contents
  pub may : MayGo t counts gone base

-- the statements have gone
abbrev pub Go : Tables → Tables → Counts → Counts → List Stmt → Type 0
Go t u before after gone = (b : Contents) → MayGo t before gone b → StoresSized u after (with_stmts b (without_statements b.stmts gone))

-- One statement that goes alone is taken away with as many writes as are told of taking it away by itself: for each place at which
-- the rows before and after differ no more than its path has users, and two; and eight more in all.
abbrev pub WritesForOne : List Stmt → Seen → Seen → Result (Unit {0}) TabError → Type 0
WritesForOne gone old new result = (x : Stmt) → gone ≡ x ∷ [] → OnOk result (WritesWithinMore (length x.path + 2) 8 old new)

-- tables store a base of these sizes, which is valid with all of some statements of its catalog
pub record MayCome (t : Tables) (counts : Counts) (come : List Stmt) (b : Contents) : Type 0 where
  pub base : StoresSized t counts b
  pub belong : list_all (belongs b.catalog) come ≡ true
  pub next : IsValid b.catalog (with_statements b.stmts come)

pub record SomeMayCome (t : Tables) (counts : Counts) (come : List Stmt) : Type 0 where
  pub base : Contents
  pub may : MayCome t counts come base

-- the statements have come
abbrev pub Come : Tables → Tables → Counts → Counts → List Stmt → Type 0
Come t u before after come = (b : Contents) → MayCome t before come b → StoresSized u after (with_stmts b (with_statements b.stmts come))

-- tables store a base of these sizes, which is valid with some statements in place of others that stand
pub record MayReplaceAll (t : Tables) (counts : Counts) (gone come : List Stmt) (b : Contents) : Type 0 where
  pub may : MayGo t counts gone b
  pub belong : list_all (belongs b.catalog) come ≡ true
  pub next : IsValid b.catalog (with_statements (without_statements b.stmts gone) come)

pub record SomeMayReplace (t : Tables) (counts : Counts) (gone come : List Stmt) : Type 0 where
  pub base : Contents
  pub may : MayReplaceAll t counts gone come base

-- the statements are in place of the others
abbrev pub Replace : Tables → Tables → Counts → Counts → List Stmt → List Stmt → Type 0
Replace t u before after gone come = (b : Contents) → MayReplaceAll t before gone come b → StoresSized u after (with_others b gone come)

-- an answer is neither a clash nor that a limit is passed
abbrev pub is_stop : UpdateError → Bool
is_stop (Clash least) = false
is_stop (Full what) = false
is_stop Fault = true
is_stop Memory = true
