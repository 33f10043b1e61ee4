-- The printed form of commands: keywords in lower case but BELIEF in capitals, one space between two tokens, with none
-- before a comma or a closing parenthesis, after an opening one, around a dot, and before the parenthesis of a new
-- relation's columns or of values.
use Rattle.std.specs.Prelude.{ℕ, ℤ, codes, List, [], ◌∷◌, ◌++◌, map, Option, None, Some}
use Rattle.std.specs.List.{flat_map}
use Rattle.bdb_base.specs.declared.kinds.ColDef.{ColDef}
use Rattle.bdb_base.specs.declared.kinds.Sign.{Sign}
use Rattle.bdb_base.specs.declared.kinds.Sign.TheVariants.{Plus, Minus}
use Rattle.bdb_base.specs.declared.kinds.Value.{Value}
use Rattle.bdb_base.specs.Texts.{cmp_text, column_text, int_text, joined, quoted, separated, value_text, named_column}
use Rattle.bdb_syntax.specs.declared.command.Command.{Command}
use Rattle.bdb_syntax.specs.declared.command.Command.TheVariants.{CreateUser, DropUser, CreateRelation, Insert, Delete, Update, Select, Explain, ShowWorld, Why, ShowTables, Undo, Redo}
use Rattle.bdb_syntax.specs.declared.command.RawCol.{RawCol}
use Rattle.bdb_syntax.specs.declared.command.RawCond.{RawCond}
use Rattle.bdb_syntax.specs.declared.command.RawItem.{RawItem}
use Rattle.bdb_syntax.specs.declared.command.RawQuery.{RawQuery}
use Rattle.bdb_syntax.specs.declared.command.RawSet.{RawSet}
use Rattle.bdb_syntax.specs.declared.command.RawSide.{RawSide}
use Rattle.bdb_syntax.specs.declared.command.RawSide.TheVariants.{Col, Lit}
use Rattle.bdb_syntax.specs.declared.command.RawWho.{RawWho}
use Rattle.bdb_syntax.specs.declared.command.RawWho.TheVariants as who

abbrev pub col_text : RawCol → List ℕ
col_text c = named_column c.alias c.col

abbrev pub side_text : RawSide → List ℕ
side_text (Col c) = col_text c
side_text (Lit v) = value_text v

abbrev pub cond_text : RawCond → List ℕ
cond_text c = col_text c.left ++ codes " " ++ cmp_text c.cmp ++ codes " " ++ side_text c.right

-- the conditions behind `where`; nothing where there are none
abbrev pub where_text : List RawCond → List ℕ
where_text [] = []
where_text (c ∷ cs) = codes " where " ++ separated (codes " and ") (map cond_text (c ∷ cs))

abbrev pub set_text : RawSet → List ℕ
set_text s = s.col ++ codes " = " ++ value_text s.to

-- a user of a path, with the space before it
abbrev pub belief_text : List ℕ → List ℕ
belief_text user = codes " BELIEF " ++ quoted user

-- a user of a query's path, with the space before it
abbrev pub who_text : RawWho → List ℕ
who_text (who.Name user) = belief_text user
who_text (who.Col c) = codes " BELIEF " ++ col_text c

-- `not` for a minus, with the space before it
abbrev pub not_text : Sign → List ℕ
not_text Plus = []
not_text Minus = codes " not"

-- the path, the sign and the relation that a command names, with the space before them
abbrev pub target_text : List (List ℕ) → Sign → List ℕ → List ℕ
target_text users sign rel = flat_map belief_text users ++ not_text sign ++ codes " " ++ rel

-- the values of a tuple, with the space before them
abbrev pub values_text : List Value → List ℕ
values_text vals = codes " values(" ++ joined (map value_text vals) ++ codes ")"

-- a path, a sign and a tuple, with the space before them
abbrev pub signed_text : List (List ℕ) → Sign → List ℕ → List Value → List ℕ
signed_text users sign rel vals = target_text users sign rel ++ values_text vals

-- an item of a query, with the space before it; the alias is always written
abbrev pub item_text : RawItem → List ℕ
item_text i = flat_map who_text i.path ++ not_text i.sign ++ codes " " ++ i.rel ++ codes " " ++ i.alias

abbrev pub query_text : RawQuery → List ℕ
query_text q = codes "select " ++ joined (map col_text q.take) ++ codes " from" ++ separated (codes ",") (map item_text q.items)
    ++ where_text q.conds

-- a new relation's name and columns, and the words before them
abbrev pub columns_text : List ℕ → List ColDef → List ℕ
columns_text name cols = codes "create relation " ++ name ++ codes "(" ++ joined (map column_text cols) ++ codes ")"

-- the length of a key where it is said, with the space before the word
abbrev pub key_text : Option ℤ → List ℕ
key_text None = []
key_text (Some length) = codes " key " ++ int_text length

-- the printed form of a command, without a semicolon
abbrev pub printed : Command → List ℕ
printed (CreateUser name) = codes "create user " ++ quoted name
printed (DropUser name) = codes "drop user " ++ quoted name
printed (CreateRelation name cols key) = columns_text name cols ++ key_text key
printed (Insert users sign rel vals) = codes "insert into" ++ signed_text users sign rel vals
printed (Delete users sign rel conds) = codes "delete from" ++ target_text users sign rel ++ where_text conds
printed (Update users sign rel sets conds) = codes "update" ++ target_text users sign rel ++ codes " set " ++ joined (map set_text sets) ++ where_text conds
printed (Select query) = query_text query
printed (Explain query) = codes "explain " ++ query_text query
printed (ShowWorld users) = codes "show world" ++ flat_map belief_text users
printed (Why users sign rel vals) = codes "why" ++ signed_text users sign rel vals
printed ShowTables = codes "show tables"
printed Undo = codes "undo"
printed Redo = codes "redo"
