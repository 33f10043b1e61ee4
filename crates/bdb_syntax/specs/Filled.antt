-- Commands whose lists that the grammar wants filled are filled.
use Rattle.std.specs.Prelude.{Bool, true, false, ◌&&◌, ◌≡◌, List, [], ◌∷◌}
use Rattle.bdb_syntax.specs.declared.command.RawQuery.{RawQuery}
use Rattle.bdb_syntax.specs.declared.command.Command.{Command}
use Rattle.bdb_syntax.specs.declared.command.Command.TheVariants.{CreateUser, DropUser, CreateRelation, Insert, Delete, Update, Select, Explain, ShowWorld, Why, ShowTables, Undo, Redo}

-- a list has an item
abbrev pub is_filled : {X : Type 0} → List X → Bool
is_filled [] = false
is_filled (x ∷ xs) = true

-- a query takes a column and has an item
abbrev pub query_filled : RawQuery → Bool
query_filled q = is_filled q.take && is_filled q.items

-- the lists of a command that the grammar wants filled are filled
abbrev pub command_filled : Command → Bool
command_filled (CreateUser name) = true
command_filled (DropUser name) = true
command_filled (CreateRelation name cols key) = is_filled cols
command_filled (Insert users sign rel vals) = is_filled vals
command_filled (Delete users sign rel conds) = true
command_filled (Update users sign rel sets conds) = is_filled sets
command_filled (Select query) = query_filled query
command_filled (Explain query) = query_filled query
command_filled (ShowWorld users) = true
command_filled (Why users sign rel vals) = is_filled vals
command_filled ShowTables = true
command_filled Undo = true
command_filled Redo = true

-- a command has those lists filled
abbrev pub IsFilled : Command → Type 0
IsFilled c = command_filled c ≡ true
