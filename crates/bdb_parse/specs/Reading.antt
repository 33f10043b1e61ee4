-- Tokens read as a command. What reads the front of a list gives the rest too; what has a list's whole reads all of it.
use Rattle.std.specs.Prelude.{ℕ, ℤ, Bool, true, false, not, ◌&&◌, List, [], ◌∷◌, Option, Some, None, if◌then◌else◌, codes}
use Rattle.std.specs.Option.{option_map, option_and_then}
use Rattle.bdb_base.specs.declared.kinds.Value.{Value}
use Rattle.bdb_base.specs.declared.kinds.Value.TheVariants as values
use Rattle.bdb_base.specs.declared.kinds.Kind.{Kind}
use Rattle.bdb_base.specs.declared.kinds.Kind.TheVariants as kinds
use Rattle.bdb_base.specs.declared.kinds.Sign.{Sign}
use Rattle.bdb_base.specs.declared.kinds.Sign.TheVariants.{Plus, Minus}
use Rattle.bdb_base.specs.declared.kinds.Cmp.{Cmp}
use Rattle.bdb_base.specs.declared.kinds.Cmp.TheVariants as signs
use Rattle.bdb_base.specs.declared.kinds.ColDef.{ColDef}
use Rattle.bdb_lex.specs.declared.token.Token.{Token}
use Rattle.bdb_lex.specs.declared.token.Token.TheVariants.{Word, Text, Num, Dot, ParenL, Eq, Ne, Lt, Le, Gt, Ge}
use Rattle.bdb_syntax.specs.declared.command.RawCol.{RawCol}
use Rattle.bdb_syntax.specs.declared.command.RawSide.{RawSide}
use Rattle.bdb_syntax.specs.declared.command.RawSide.TheVariants as sides
use Rattle.bdb_syntax.specs.declared.command.RawCond.{RawCond}
use Rattle.bdb_syntax.specs.declared.command.RawWho.{RawWho}
use Rattle.bdb_syntax.specs.declared.command.RawWho.TheVariants as whos
use Rattle.bdb_syntax.specs.declared.command.RawItem.{RawItem}
use Rattle.bdb_syntax.specs.declared.command.RawSet.{RawSet}
use Rattle.bdb_syntax.specs.declared.command.RawQuery.{RawQuery}
use Rattle.bdb_syntax.specs.declared.command.Command.{Command}
use Rattle.bdb_syntax.specs.declared.command.Command.TheVariants.{CreateUser, DropUser, CreateRelation, Insert, Delete, Update, Select, Explain, ShowWorld, Why, ShowTables, Undo, Redo}
use Rattle.bdb_parse.specs.declared.stop.Stop.{Stop}
use Rattle.bdb_parse.specs.declared.stop.Stop.TheVariants as stops
use Rattle.bdb_parse.specs.declared.target.Target.{Target}
use Rattle.bdb_syntax.specs.Keywords.{is_keyword, is_reserved}
use Rattle.bdb_parse.specs.Numbers.{number_written}
use Rattle.bdb_parse.specs.Stops.{cut, parts}

infixl 10 ◌>>=◌
-- a reading, and what goes on from it
abbrev pub ◌>>=◌ : {A B : Type 0} → Option A → (A → Option B) → Option B
o >>= f = option_and_then f o

-- nothing is left
abbrev pub end_at : List Token → Option (List Token)
end_at [] = Some []
end_at (t ∷ ts) = None

-- a word
abbrev pub word_at : List Token → Option (List ℕ × List Token)
word_at (Word w ∷ ts) = Some (w, ts)
word_at _ = None

-- a text
abbrev pub text_at : List Token → Option (List ℕ × List Token)
text_at (Text t ∷ ts) = Some (t, ts)
text_at _ = None

-- a dot
abbrev pub dot_at : List Token → Option (List Token)
dot_at (Dot ∷ ts) = Some ts
dot_at _ = None

-- an equals sign
abbrev pub equals_at : List Token → Option (List Token)
equals_at (Eq ∷ ts) = Some ts
equals_at _ = None

-- an opening parenthesis
abbrev pub open_at : List Token → Option (List Token)
open_at (ParenL ∷ ts) = Some ts
open_at _ = None

-- a comparison's sign
abbrev pub cmp_at : List Token → Option (Cmp × List Token)
cmp_at (Eq ∷ ts) = Some (signs.Eq, ts)
cmp_at (Ne ∷ ts) = Some (signs.Ne, ts)
cmp_at (Lt ∷ ts) = Some (signs.Lt, ts)
cmp_at (Le ∷ ts) = Some (signs.Le, ts)
cmp_at (Gt ∷ ts) = Some (signs.Gt, ts)
cmp_at (Ge ∷ ts) = Some (signs.Ge, ts)
cmp_at _ = None

-- this keyword, in any case
unfoldable pub keyword_at : List ℕ → List Token → Option (List Token)
keyword_at keyword ts = do
  word ← word_at ts
  if is_keyword keyword word.0 then Some word.1 else None

-- a word that isn't reserved, as written
unfoldable pub name_at : List Token → Option (List ℕ × List Token)
name_at ts = do
  word ← word_at ts
  if is_reserved word.0 then None else Some word

-- 'belief' and a text, again and again
abbrev pub beliefs_at : List Token → List (List ℕ) × List Token
beliefs_at (Word w ∷ Text t ∷ ts) = if is_keyword (codes "belief") w then (t ∷ (beliefs_at ts).0, (beliefs_at ts).1) else ([], Word w ∷ Text t ∷ ts)
beliefs_at ts = ([], ts)

-- the user of 'belief' and a text
abbrev pub believer : Token → Token → Option (List ℕ)
believer (Word w) (Text t) = if is_keyword (codes "belief") w then Some t else None
believer _ _ = None

-- the tokens after 'not', or all where it isn't there
abbrev pub sign_of : List Token → Option (List Token) → Sign × List Token
sign_of ts None = (Plus, ts)
sign_of ts (Some rest) = (Minus, rest)

-- the sign, and the tokens after it
unfoldable pub sign_at : List Token → Sign × List Token
sign_at ts = sign_of ts (keyword_at (codes "not") ts)

-- the users, the sign and the relation that a command names
unfoldable pub target_at : List Token → Option (Target × List Token)
target_at ts = do
  let users = beliefs_at ts
  let sign = sign_at users.1
  rel ← name_at sign.1
  Some (record { users = users.0; sign = sign.0; rel = rel.0 }, rel.1)

-- what read gives of each part
abbrev pub all_of : {X : Type 0} → (List Token → Option X) → List (List Token) → Option (List X)
all_of read [] = Some []
all_of read (part ∷ parts) = read part >>= λ x. all_of read parts >>= λ xs. Some (x ∷ xs)

-- one item or more, with this stop between two
unfoldable pub list_of : {X : Type 0} → (List Token → Option X) → Stop → List Token → Option (List X)
list_of read stop ts = all_of read (parts stop ts)

-- the tokens in parentheses, and those behind them
unfoldable pub inside_at : List Token → Option (List Token × List Token)
inside_at ts = do
  body ← open_at ts
  let halves = cut stops.Close body
  after ← halves.1
  Some (halves.0, after)

-- the tokens in parentheses that take up the whole
unfoldable pub inside_of : List Token → Option (List Token)
inside_of ts = do
  inside ← inside_at ts
  _ ← end_at inside.1
  Some inside.0

-- the conditions after a 'where', and none without it
abbrev pub conds_of : (List Token → Option RawCond) → Option (List Token) → Option (List RawCond)
conds_of read None = Some []
conds_of read (Some ts) = list_of read stops.And ts

-- the kind that a word names
unfoldable pub kind_of : List ℕ → Option Kind
kind_of word = if is_keyword (codes "int") word then Some kinds.Int else (if is_keyword (codes "text") word then Some kinds.Text else None)

-- a column of a new relation
unfoldable pub column_of : List Token → Option ColDef
column_of ts = do
  name ← name_at ts
  word ← word_at name.1
  _ ← end_at word.1
  kind ← kind_of word.0
  Some (record { name = name.0; kind = kind })

-- a literal, where number reads the spelling of a number
abbrev pub literal_of : (List ℕ → Option ℤ) → List Token → Option Value
literal_of number (Text t ∷ []) = Some (values.Text t)
literal_of number (Num s ∷ []) = option_map values.Int (number s)
literal_of number _ = None

-- a column, an equals sign and a literal
unfoldable pub set_of : (List ℕ → Option ℤ) → List Token → Option RawSet
set_of number ts = do
  col ← name_at ts
  rest ← equals_at col.1
  value ← literal_of number rest
  Some (record { col = col.0; to = value })

-- a column without an alias
abbrev pub bare : List ℕ → RawCol
bare name = record { alias = None; col = name }

-- a name, the whole list
unfoldable pub bare_of : List Token → Option RawCol
bare_of ts = do
  name ← name_at ts
  _ ← end_at name.1
  Some (bare name.0)

-- a column behind an alias
unfoldable pub col_at : List Token → Option (RawCol × List Token)
col_at ts = do
  alias ← name_at ts
  rest ← dot_at alias.1
  col ← name_at rest
  Some (record { alias = Some alias.0; col = col.0 }, col.1)

-- a column behind an alias, the whole list
unfoldable pub col_of : List Token → Option RawCol
col_of ts = do
  col ← col_at ts
  _ ← end_at col.1
  Some col.0

-- whether the first token is a word
abbrev pub begins_with_word : List Token → Bool
begins_with_word (Word w ∷ ts) = true
begins_with_word _ = false

-- the right side of a comparison: what column reads where a word comes, else a literal
unfoldable pub side_of : (List Token → Option RawCol) → (List ℕ → Option ℤ) → List Token → Option RawSide
side_of column number ts = if begins_with_word ts then option_map sides.Col (column ts) else option_map sides.Lit (literal_of number ts)

-- a comparison of a change's where
unfoldable pub test_of : (List ℕ → Option ℤ) → List Token → Option RawCond
test_of number ts = do
  left ← name_at ts
  cmp ← cmp_at left.1
  right ← side_of bare_of number cmp.1
  Some (record { left = bare left.0; cmp = cmp.0; right = right })

-- a comparison of a query's where
unfoldable pub cond_of : (List ℕ → Option ℤ) → List Token → Option RawCond
cond_of number ts = do
  left ← col_at ts
  cmp ← cmp_at left.1
  right ← side_of col_of number cmp.1
  Some (record { left = left.0; cmp = cmp.0; right = right })

-- 'belief' and a text or a column, again and again
abbrev pub whos_at : List Token → List RawWho × List Token
whos_at (Word w ∷ Text t ∷ ts) = if is_keyword (codes "belief") w then (whos.Name t ∷ (whos_at ts).0, (whos_at ts).1) else ([], Word w ∷ Text t ∷ ts)
whos_at (Word w ∷ Word a ∷ Dot ∷ Word c ∷ ts) =
    if is_keyword (codes "belief") w && (not (is_reserved a) && not (is_reserved c))
    then (whos.Col (record { alias = Some a; col = c }) ∷ (whos_at ts).0, (whos_at ts).1)
    else ([], Word w ∷ Word a ∷ Dot ∷ Word c ∷ ts)
whos_at ts = ([], ts)

-- 'belief' and a text or a column
abbrev pub who_at : List Token → Option (RawWho × List Token)
who_at (Word w ∷ Text t ∷ ts) = if is_keyword (codes "belief") w then Some (whos.Name t, ts) else None
who_at (Word w ∷ Word a ∷ Dot ∷ Word c ∷ ts) =
    if is_keyword (codes "belief") w && (not (is_reserved a) && not (is_reserved c)) then Some (whos.Col (record { alias = Some a; col = c }), ts) else None
who_at _ = None

-- the tokens after 'as', or all where it isn't there
abbrev pub past : List Token → Option (List Token) → List Token
past ts None = ts
past ts (Some rest) = rest

-- the alias of an item: the relation's name where nothing stands behind it
unfoldable pub alias_of : List ℕ → List Token → Option (List ℕ)
alias_of rel [] = Some rel
alias_of rel (t ∷ ts) = do
  name ← name_at (past (t ∷ ts) (keyword_at (codes "as") (t ∷ ts)))
  _ ← end_at name.1
  Some name.0

-- an item of a query
unfoldable pub item_of : List Token → Option RawItem
item_of ts = do
  let path = whos_at ts
  let sign = sign_at path.1
  rel ← name_at sign.1
  alias ← alias_of rel.0 rel.1
  Some (record { path = path.0; sign = sign.0; rel = rel.0; alias = alias })

-- what follows 'create user'
unfoldable pub create_user_of : List Token → Option Command
create_user_of ts = do
  name ← text_at ts
  _ ← end_at name.1
  Some (CreateUser name.0)

-- a number, where number reads its spelling
abbrev pub num_of : (List ℕ → Option ℤ) → List Token → Option ℤ
num_of number (Num s ∷ []) = number s
num_of number _ = None

-- the length of a key: 'key' and a number, or nothing where it isn't said
unfoldable pub key_of : (List ℕ → Option ℤ) → List Token → Option (Option ℤ)
key_of number [] = Some None
key_of number (t ∷ ts) = do
  rest ← keyword_at (codes "key") (t ∷ ts)
  option_map Some (num_of number rest)

-- what follows 'create relation'
unfoldable pub create_relation_of : (List ℕ → Option ℤ) → List Token → Option Command
create_relation_of number ts = do
  name ← name_at ts
  inside ← inside_at name.1
  cols ← list_of column_of stops.Comma inside.0
  key ← key_of number inside.1
  Some (CreateRelation name.0 cols key)

-- what follows 'create'
unfoldable pub create_of : (List ℕ → Option ℤ) → List Token → Option Command
create_of number ts = do
  word ← word_at ts
  if is_keyword (codes "user") word.0 then create_user_of word.1 else (if is_keyword (codes "relation") word.0 then create_relation_of number word.1 else None)

-- a path, a sign and a tuple
unfoldable pub signed_of : (List ℕ → Option ℤ) → List Token → Option (Target × List Value)
signed_of number ts = do
  target ← target_at ts
  rest ← keyword_at (codes "values") target.1
  inside ← inside_of rest
  vals ← list_of (literal_of number) stops.Comma inside
  Some (target.0, vals)

-- what follows 'insert'
unfoldable pub insert_of : (List ℕ → Option ℤ) → List Token → Option Command
insert_of number ts = do
  rest ← keyword_at (codes "into") ts
  signed ← signed_of number rest
  Some (Insert signed.0.users signed.0.sign signed.0.rel signed.1)

-- what follows 'delete'
unfoldable pub delete_of : (List ℕ → Option ℤ) → List Token → Option Command
delete_of number ts = do
  rest ← keyword_at (codes "from") ts
  target ← target_at rest
  let halves = cut stops.Where target.1
  _ ← end_at halves.0
  conds ← conds_of (test_of number) halves.1
  Some (Delete target.0.users target.0.sign target.0.rel conds)

-- what follows 'update'
unfoldable pub update_of : (List ℕ → Option ℤ) → List Token → Option Command
update_of number ts = do
  target ← target_at ts
  rest ← keyword_at (codes "set") target.1
  let halves = cut stops.Where rest
  sets ← list_of (set_of number) stops.Comma halves.0
  conds ← conds_of (test_of number) halves.1
  Some (Update target.0.users target.0.sign target.0.rel sets conds)

-- a query, behind its 'select'
unfoldable pub query_of : (List ℕ → Option ℤ) → List Token → Option RawQuery
query_of number ts = do
  let halves = cut stops.From ts
  rest ← halves.1
  let body = cut stops.Where rest
  take ← list_of col_of stops.Comma halves.0
  items ← list_of item_of stops.Comma body.0
  conds ← conds_of (cond_of number) body.1
  Some (record { take = take; items = items; conds = conds })

-- what follows 'explain'
unfoldable pub explain_of : (List ℕ → Option ℤ) → List Token → Option Command
explain_of number ts = do
  rest ← keyword_at (codes "select") ts
  option_map Explain (query_of number rest)

-- what follows 'show world'
unfoldable pub show_world_of : List Token → Option Command
show_world_of ts = do
  let users = beliefs_at ts
  _ ← end_at users.1
  Some (ShowWorld users.0)

-- what follows 'show'
unfoldable pub show_of : List Token → Option Command
show_of ts = do
  word ← word_at ts
  if is_keyword (codes "world") word.0 then show_world_of word.1 else (if is_keyword (codes "tables") word.0 then option_map (λ _. ShowTables) (end_at word.1) else None)

-- what follows 'why'
unfoldable pub why_of : (List ℕ → Option ℤ) → List Token → Option Command
why_of number ts = do
  signed ← signed_of number ts
  Some (Why signed.0.users signed.0.sign signed.0.rel signed.1)

-- what follows 'drop'
unfoldable pub drop_of : List Token → Option Command
drop_of ts = do
  rest ← keyword_at (codes "user") ts
  name ← text_at rest
  _ ← end_at name.1
  Some (DropUser name.0)

-- the command that is one word, with nothing behind it
unfoldable pub one_word_of : List ℕ → List Token → Option Command
one_word_of word ts =
    if is_keyword (codes "undo") word then option_map (λ _. Undo) (end_at ts)
    else (if is_keyword (codes "redo") word then option_map (λ _. Redo) (end_at ts) else None)

-- the command that a first word begins
unfoldable pub command_after : (List ℕ → Option ℤ) → List ℕ → List Token → Option Command
command_after number word ts =
    if is_keyword (codes "create") word then create_of number ts
    else (if is_keyword (codes "insert") word then insert_of number ts
    else (if is_keyword (codes "delete") word then delete_of number ts
    else (if is_keyword (codes "update") word then update_of number ts
    else (if is_keyword (codes "select") word then option_map Select (query_of number ts)
    else (if is_keyword (codes "explain") word then explain_of number ts
    else (if is_keyword (codes "show") word then show_of ts
    else (if is_keyword (codes "why") word then why_of number ts
    else (if is_keyword (codes "drop") word then drop_of ts else one_word_of word ts))))))))

-- the command of these tokens, where number reads the spelling of a number
unfoldable pub command_by : (List ℕ → Option ℤ) → List Token → Option Command
command_by number ts = do
  word ← word_at ts
  command_after number word.0 word.1

-- the command of these tokens, with literals of any whole number; none outside the grammar
unfoldable pub command_of : List Token → Option Command
command_of ts = command_by number_written ts
