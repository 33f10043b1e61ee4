-- Suffix links and edges, turned round.
use Rattle.std.specs.Prelude.{◌≡◌, ℕ, List, [], ◌∷◌, ◌++◌, take, drop, Option, Some}
use Rattle.std.specs.FinMap as tables
use Rattle.bdb_keep.specs.Scans.{next_key}
use Rattle.bdb_keep.specs.Tables.{Tables, IsLeastFrom}
use Rattle.bdb_tables.specs.InUse.{link_codec, linked_codec, edge_codec, led_codec}
use Rattle.bdb_tables.specs.Names.{leads_to}
use Rattle.bdb_tables.specs.States.{row_where}
use Rattle.bdb_tables.specs.Writes.{Gives}
use Rattle.bdb_graph.specs.declared.turning.Way.{Way}
use Rattle.bdb_graph.specs.declared.turning.Way.TheVariants.{Round, Back}

-- the key and the row that a row is, turned round: the row goes before the key, or the key's first number is the row
abbrev pub turned : Way → List ℕ → List ℕ → List ℕ × List ℕ
turned Round k r = (r ++ k, [])
turned Back k r = (drop 4 k, take 4 k)

-- a row, turned round, is in a table
abbrev pub HasTurned : Tables → Way → ℕ → List ℕ → List ℕ → Type 0
HasTurned t way other k r = tables.get t (other ∷ (turned way k r).0) ≡ Some (turned way k r).1

-- each row of a table, turned round, is in another one
abbrev pub AreTurned : Tables → ℕ → Way → ℕ → Type 0
AreTurned t tab way other = (k r : List ℕ) → tables.get t (tab ∷ k) ≡ Some r → HasTurned t way other k r

-- a table has the rows of another one turned round, and no others
pub record BothTurned (t : Tables) (tab other : ℕ) : Type 0 where
  pub round : AreTurned t tab Round other
  pub back : AreTurned t other Back tab

-- this is the first row from `low` on, and `behind` the least key above its key
pub record IsNextRow (t : Tables) (tab : ℕ) (low behind key row : List ℕ) : Type 0 where
  pub least : IsLeastFrom t tab low key row
  pub moved : behind ≡ next_key key

-- whatever suffix links and edges the tables have, they have them turned round
pub record TurnRound (t : Tables) : Type 0 where
  pub links : (f : ℕ → Option ℕ) → Gives link_codec t f → Gives linked_codec t (λ k. row_where (leads_to (f k.1) k.0))
  pub edges : (f : ℕ × ℕ → Option ℕ) → Gives edge_codec t f → Gives led_codec t (λ k. row_where (leads_to (f (k.1, k.2)) k.0))
