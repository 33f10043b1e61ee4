-- Whether the literals of a command are in i64.
use Rattle.std.specs.Prelude.{ℤ, Bool, true, ◌&&◌, Option, None, Some}
use Rattle.std.specs.List.{list_all}
use Rattle.bdb_base.specs.declared.kinds.Value.{Value}
use Rattle.bdb_base.specs.declared.kinds.Value.TheVariants.{Int, Text}
use Rattle.bdb_syntax.specs.declared.command.RawSide.{RawSide}
use Rattle.bdb_syntax.specs.declared.command.RawSide.TheVariants.{Col, Lit}
use Rattle.bdb_syntax.specs.declared.command.RawCond.{RawCond}
use Rattle.bdb_syntax.specs.declared.command.RawSet.{RawSet}
use Rattle.bdb_syntax.specs.declared.command.RawQuery.{RawQuery}
use Rattle.bdb_syntax.specs.declared.command.Command.{Command}
use Rattle.bdb_syntax.specs.declared.command.Command.TheVariants.{CreateUser, DropUser, CreateRelation, Insert, Delete, Update, Select, Explain, ShowWorld, Why, ShowTables, Undo, Redo}
use Rattle.bdb_parse.specs.Numbers.{is_i64}

-- a value is a text or in i64
abbrev pub value_fits : Value → Bool
value_fits (Int n) = is_i64 n
value_fits (Text t) = true

-- so is a literal at the right of a comparison
abbrev pub side_fits : RawSide → Bool
side_fits (Col c) = true
side_fits (Lit v) = value_fits v

-- so is the literal of a comparison
abbrev pub cond_fits : RawCond → Bool
cond_fits c = side_fits c.right

-- so is what an update sets
abbrev pub set_fits : RawSet → Bool
set_fits s = value_fits s.to

-- so is each literal of a query
abbrev pub query_fits : RawQuery → Bool
query_fits q = list_all cond_fits q.conds

-- so is the length of a key, where it is said
abbrev pub key_fits : Option ℤ → Bool
key_fits None = true
key_fits (Some length) = is_i64 length

-- each literal is in i64, and so is the length of a key
abbrev pub fits : Command → Bool
fits (CreateUser name) = true
fits (DropUser name) = true
fits (CreateRelation name cols key) = key_fits key
fits (Insert users sign rel vals) = list_all value_fits vals
fits (Delete users sign rel conds) = list_all cond_fits conds
fits (Update users sign rel sets conds) = list_all set_fits sets && list_all cond_fits conds
fits (Select query) = query_fits query
fits (Explain query) = query_fits query
fits (ShowWorld users) = true
fits (Why users sign rel vals) = list_all value_fits vals
fits ShowTables = true
fits Undo = true
fits Redo = true
