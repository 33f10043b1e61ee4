-- What settles a group of rows at a world and at all worlds whose suffix links lead to it.
use Rattle.std.specs.Prelude.{◌≡◌, ℕ, Bool, true, ◌&&◌, ◌||◌, nat_eq, List, Option, is_some}
use Rattle.bdb_base.specs.declared.kinds.Stmt.{Stmt}
use Rattle.bdb_base.specs.declared.kinds.Value.{Value}
use Rattle.bdb_base.specs.declared.tuple.Tuple.{Tuple}
use Rattle.bdb_keep.specs.Seen.{Seen}
use Rattle.bdb_keep.specs.Tables.{Tables}
use Rattle.bdb_tables.specs.InUse.{ValKey, link_codec, linked_codec}
use Rattle.bdb_tables.specs.Marks.{Mark}
use Rattle.bdb_tables.specs.Names.{Names, AreNames, path_of, is_named, link_of, leads_to}
use Rattle.bdb_tables.specs.Rows.{HoldsRows}
use Rattle.bdb_tables.specs.States.{row_where}
use Rattle.bdb_tables.specs.Writes.{Gives}
use Rattle.bdb_val.specs.Counts.{TellsDifferences}
use Rattle.bdb_val.specs.Middle.{worlds_of, HasExplicit, AreSettledBut}
use Rattle.bdb_val.specs.Reads.{is_of_group}
use Rattle.bdb_val.specs.Settled.{HasStates}
use Rattle.bdb_val.specs.declared.stored.Settled.{Settled}

-- what tables have of suffix links, and of the links turned round
pub record HasLinks (ns : Names) (t : Tables) : Type 0 where
  pub link : Gives link_codec t (link_of ns)
  pub linked : Gives linked_codec t (λ k. row_where (leads_to (link_of ns k.1) k.0))

-- a row is of a tuple that passes a test, in a world or in one whose suffix link leads to it
abbrev pub is_near : Names → (Tuple → Bool) → ℕ → ℕ → Tuple → Bool
is_near ns test wid m u = test u && (nat_eq m wid || leads_to (link_of ns m) wid)

-- The tables have named worlds and their links, and rows of which the explicit ones are the statements. All rows are settled,
-- but for those of tuples that pass a test at a world and at the worlds linked to it.
pub record IsUnsettled (keys : ℕ → ℕ) (stmts : List Stmt) (ns : Names) (tuple : ℕ → Option Tuple) (f : ValKey → Option Mark) (t : Tables) (wid : ℕ) (test : Tuple → Bool) : Type 0 where
  pub names : AreNames ns
  pub states : HasStates stmts (is_named ns)
  pub links : HasLinks ns t
  pub explicit : HasExplicit keys stmts (worlds_of ns) tuple f t
  pub named : is_some (path_of ns wid) ≡ true
  pub settled : AreSettledBut keys stmts (worlds_of ns) tuple f (is_near ns test wid)

-- whichever statements and lengths of keys they are, the rows of the worlds are held where only those of a group at a world, and
-- at the worlds linked to it, were not settled
abbrev pub SettlesGroup : Tables → Tables → ℕ → ℕ → List Value → Type 0
SettlesGroup t u wid rel vs = (keys : ℕ → ℕ) (stmts : List Stmt) (ns : Names) (tuple : ℕ → Option Tuple) (f : ValKey → Option Mark) → IsUnsettled keys stmts ns tuple f t wid (is_of_group keys rel vs)
    → HoldsRows keys stmts (path_of ns) tuple u

-- whichever statements and lengths of keys they are, where only those rows were not settled one write was made for each row that
-- is another, and it is told how many rows were put where there was none and how many were taken away
abbrev pub TellsGroup : Seen → Seen → ℕ → ℕ → List Value → Settled → Type 0
TellsGroup old new wid rel vs s = (keys : ℕ → ℕ) (stmts : List Stmt) (ns : Names) (tuple : ℕ → Option Tuple) (f : ValKey → Option Mark) → IsUnsettled keys stmts ns tuple f old.kept wid (is_of_group keys rel vs)
    → TellsDifferences old new s.put s.taken
