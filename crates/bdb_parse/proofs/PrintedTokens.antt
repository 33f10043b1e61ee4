-- The tokens of a command's printed form.
use Rattle.std.specs.Prelude.{ℕ, ℤ, codes, List, [], ◌∷◌, ◌++◌, map, Option, None, Some}
use Rattle.std.specs.List.{flat_map}
use Rattle.bdb_base.specs.declared.kinds.Cmp.{Cmp}
use Rattle.bdb_base.specs.declared.kinds.Cmp.TheVariants as cmp
use Rattle.bdb_base.specs.declared.kinds.ColDef.{ColDef}
use Rattle.bdb_base.specs.declared.kinds.Sign.{Sign}
use Rattle.bdb_base.specs.declared.kinds.Sign.TheVariants.{Plus, Minus}
use Rattle.bdb_base.specs.declared.kinds.Value.{Value}
use Rattle.bdb_base.specs.declared.kinds.Value.TheVariants as value
use Rattle.bdb_base.specs.Texts.{int_text, kind_text}
use Rattle.bdb_lex.specs.declared.token.Token.{Token}
use Rattle.bdb_lex.specs.declared.token.Token.TheVariants.{Word, Text, Num, Comma, Dot, ParenL, ParenR, Eq, Ne, Lt, Le, Gt, Ge}
use Rattle.bdb_syntax.specs.declared.command.Command.{Command}
use Rattle.bdb_syntax.specs.declared.command.Command.TheVariants.{CreateUser, DropUser, CreateRelation, Insert, Delete, Update, Select, Explain, ShowWorld, Why, ShowTables, Undo, Redo}
use Rattle.bdb_syntax.specs.declared.command.RawCol.{RawCol}
use Rattle.bdb_syntax.specs.declared.command.RawCond.{RawCond}
use Rattle.bdb_syntax.specs.declared.command.RawItem.{RawItem}
use Rattle.bdb_syntax.specs.declared.command.RawQuery.{RawQuery}
use Rattle.bdb_syntax.specs.declared.command.RawSet.{RawSet}
use Rattle.bdb_syntax.specs.declared.command.RawSide.{RawSide}
use Rattle.bdb_syntax.specs.declared.command.RawSide.TheVariants.{Col, Lit}
use Rattle.bdb_syntax.specs.declared.command.RawWho.{RawWho}
use Rattle.bdb_syntax.specs.declared.command.RawWho.TheVariants as who

-- the tokens of several, with a token between each two
abbrev pub parted : Token → List (List Token) → List Token
parted between [] = []
parted between (first ∷ rest) = first ++ flat_map (λ ts. between ∷ ts) rest

abbrev pub value_token : Value → Token
value_token (value.Int n) = Num (int_text n)
value_token (value.Text t) = Text t

abbrev pub value_tokens : Value → List Token
value_tokens v = value_token v ∷ []

abbrev pub named_tokens : Option (List ℕ) → List ℕ → List Token
named_tokens None col = Word col ∷ []
named_tokens (Some alias) col = Word alias ∷ Dot ∷ Word col ∷ []

abbrev pub col_tokens : RawCol → List Token
col_tokens c = named_tokens c.alias c.col

abbrev pub side_tokens : RawSide → List Token
side_tokens (Col c) = col_tokens c
side_tokens (Lit v) = value_tokens v

abbrev pub cmp_token : Cmp → Token
cmp_token cmp.Eq = Eq
cmp_token cmp.Ne = Ne
cmp_token cmp.Lt = Lt
cmp_token cmp.Le = Le
cmp_token cmp.Gt = Gt
cmp_token cmp.Ge = Ge

abbrev pub cond_tokens : RawCond → List Token
cond_tokens c = col_tokens c.left ++ cmp_token c.cmp ∷ [] ++ side_tokens c.right

abbrev pub where_tokens : List RawCond → List Token
where_tokens [] = []
where_tokens (c ∷ cs) = Word (codes "where") ∷ parted (Word (codes "and")) (map cond_tokens (c ∷ cs))

abbrev pub set_tokens : RawSet → List Token
set_tokens s = Word s.col ∷ Eq ∷ value_tokens s.to

abbrev pub column_tokens : ColDef → List Token
column_tokens c = Word c.name ∷ Word (kind_text c.kind) ∷ []

abbrev pub belief_tokens : List ℕ → List Token
belief_tokens user = Word (codes "BELIEF") ∷ Text user ∷ []

abbrev pub who_tokens : RawWho → List Token
who_tokens (who.Name user) = belief_tokens user
who_tokens (who.Col c) = Word (codes "BELIEF") ∷ col_tokens c

abbrev pub not_tokens : Sign → List Token
not_tokens Plus = []
not_tokens Minus = Word (codes "not") ∷ []

abbrev pub target_tokens : List (List ℕ) → Sign → List ℕ → List Token
target_tokens users sign rel = flat_map belief_tokens users ++ not_tokens sign ++ Word rel ∷ []

abbrev pub values_tokens : List Value → List Token
values_tokens vals = Word (codes "values") ∷ ParenL ∷ [] ++ parted Comma (map value_tokens vals) ++ ParenR ∷ []

abbrev pub signed_tokens : List (List ℕ) → Sign → List ℕ → List Value → List Token
signed_tokens users sign rel vals = target_tokens users sign rel ++ values_tokens vals

abbrev pub item_tokens : RawItem → List Token
item_tokens i = flat_map who_tokens i.path ++ not_tokens i.sign ++ Word i.rel ∷ [] ++ Word i.alias ∷ []

abbrev pub query_tokens : RawQuery → List Token
query_tokens q = Word (codes "select") ∷ [] ++ parted Comma (map col_tokens q.take) ++ Word (codes "from") ∷ [] ++ parted Comma (map item_tokens q.items)
    ++ where_tokens q.conds

abbrev pub key_tokens : Option ℤ → List Token
key_tokens None = []
key_tokens (Some length) = Word (codes "key") ∷ Num (int_text length) ∷ []

abbrev pub printed_tokens : Command → List Token
printed_tokens (CreateUser name) = Word (codes "create") ∷ Word (codes "user") ∷ [] ++ Text name ∷ []
printed_tokens (DropUser name) = Word (codes "drop") ∷ Word (codes "user") ∷ [] ++ Text name ∷ []
printed_tokens (CreateRelation name cols key) = Word (codes "create") ∷ Word (codes "relation") ∷ [] ++ Word name ∷ [] ++ ParenL ∷ [] ++ parted Comma (map column_tokens cols) ++ ParenR ∷ [] ++ key_tokens key
printed_tokens (Insert users sign rel vals) = Word (codes "insert") ∷ Word (codes "into") ∷ [] ++ signed_tokens users sign rel vals
printed_tokens (Delete users sign rel conds) = Word (codes "delete") ∷ Word (codes "from") ∷ [] ++ target_tokens users sign rel ++ where_tokens conds
printed_tokens (Update users sign rel sets conds) = Word (codes "update") ∷ [] ++ target_tokens users sign rel ++ Word (codes "set") ∷ [] ++ parted Comma (map set_tokens sets) ++ where_tokens conds
printed_tokens (Select query) = query_tokens query
printed_tokens (Explain query) = Word (codes "explain") ∷ [] ++ query_tokens query
printed_tokens (ShowWorld users) = Word (codes "show") ∷ Word (codes "world") ∷ [] ++ flat_map belief_tokens users
printed_tokens (Why users sign rel vals) = Word (codes "why") ∷ [] ++ signed_tokens users sign rel vals
printed_tokens ShowTables = Word (codes "show") ∷ Word (codes "tables") ∷ []
printed_tokens Undo = Word (codes "undo") ∷ []
printed_tokens Redo = Word (codes "redo") ∷ []
