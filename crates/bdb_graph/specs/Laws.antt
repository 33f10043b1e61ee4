-- What holds of the worlds of tables of any bytes: the contract of a function of `laws`.
use Rattle.std.specs.Prelude.{ℕ, Bool, List}
use Rattle.bdb_keep.specs.Tables.{Tables}
use Rattle.bdb_tables.specs.Names.{Names}
use Rattle.bdb_tables.specs.States.{HoldsStates}
use Rattle.bdb_graph.specs.Naming.{AreWorlds, names_of}
use Rattle.bdb_names.specs.declared.named.NamedWorld.{NamedWorld}

-- whichever states tables hold, they hold those of their worlds
abbrev pub WorldsAreHeld : Type 0
WorldsAreHeld = (t : Tables) (users : ℕ → Bool) (ns : Names) (worlds : List NamedWorld) → AreWorlds t worlds → HoldsStates users ns t → HoldsStates users (names_of worlds) t
