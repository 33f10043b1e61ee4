-- The grammar: which tokens spell which command. Each definition takes a value and says which lists of tokens spell it.
use Rattle.std.specs.Prelude.{◌≡◌, ◌⊎◌, ℕ, ℤ, true, false, List, [], ◌∷◌, ◌++◌, Option, Some, None, codes}
use Rattle.bdb_base.specs.declared.kinds.Value.{Value}
use Rattle.bdb_base.specs.declared.kinds.Value.TheVariants as values
use Rattle.bdb_base.specs.declared.kinds.Kind.{Kind}
use Rattle.bdb_base.specs.declared.kinds.Kind.TheVariants as kinds
use Rattle.bdb_base.specs.declared.kinds.Sign.{Sign}
use Rattle.bdb_base.specs.declared.kinds.Sign.TheVariants.{Plus, Minus}
use Rattle.bdb_base.specs.declared.kinds.Cmp.{Cmp}
use Rattle.bdb_base.specs.declared.kinds.Cmp.TheVariants as signs
use Rattle.bdb_base.specs.declared.kinds.ColDef.{ColDef}
use Rattle.bdb_lex.specs.declared.token.Token.{Token}
use Rattle.bdb_lex.specs.declared.token.Token.TheVariants.{Word, Text, Num, Comma, Dot, ParenL, ParenR, Eq, Ne, Lt, Le, Gt, Ge}
use Rattle.bdb_syntax.specs.declared.command.RawCol.{RawCol}
use Rattle.bdb_syntax.specs.declared.command.RawSide.{RawSide}
use Rattle.bdb_syntax.specs.declared.command.RawSide.TheVariants as sides
use Rattle.bdb_syntax.specs.declared.command.RawCond.{RawCond}
use Rattle.bdb_syntax.specs.declared.command.RawWho.{RawWho}
use Rattle.bdb_syntax.specs.declared.command.RawWho.TheVariants as whos
use Rattle.bdb_syntax.specs.declared.command.RawItem.{RawItem}
use Rattle.bdb_syntax.specs.declared.command.RawSet.{RawSet}
use Rattle.bdb_syntax.specs.declared.command.RawQuery.{RawQuery}
use Rattle.bdb_syntax.specs.declared.command.Command.{Command}
use Rattle.bdb_syntax.specs.declared.command.Command.TheVariants.{CreateUser, DropUser, CreateRelation, Insert, Delete, Update, Select, Explain, ShowWorld, Why, ShowTables, Undo, Redo}
use Rattle.bdb_syntax.specs.Keywords.{is_keyword, is_reserved}
use Rattle.bdb_parse.specs.Numbers.{number_written}

infixr 5 ◌▸◌
-- one after the other
abbrev pub ◌▸◌ : (List Token → Type 0) → (List Token → Type 0) → List Token → Type 0
(P ▸ Q) ts = (front : List Token) × (rest : List Token) × (ts ≡ front ++ rest) × P front × Q rest

-- no token
abbrev pub IsNothing : List Token → Type 0
IsNothing ts = ts ≡ []

-- this token
abbrev pub IsToken : Token → List Token → Type 0
IsToken t ts = ts ≡ t ∷ []

-- this keyword, in any case
abbrev pub IsKeyword : List ℕ → List Token → Type 0
IsKeyword keyword ts = (word : List ℕ) × (ts ≡ Word word ∷ []) × (is_keyword keyword word ≡ true)

-- a name: a word that isn't reserved
abbrev pub IsName : List ℕ → List Token → Type 0
IsName name ts = (ts ≡ Word name ∷ []) × (is_reserved name ≡ false)

-- a number
abbrev pub IsNumToken : ℤ → List Token → Type 0
IsNumToken n ts = (spelling : List ℕ) × (ts ≡ Num spelling ∷ []) × (number_written spelling ≡ Some n)

-- a text or a number
abbrev pub IsLiteral : Value → List Token → Type 0
IsLiteral (values.Text t) ts = ts ≡ Text t ∷ []
IsLiteral (values.Int n) ts = IsNumToken n ts

-- each of these, one or more, with a separator between two
abbrev pub AreSeparated : {X : Type 0} → (X → List Token → Type 0) → (List Token → Type 0) → List X → List Token → Type 0
AreSeparated P separator [] ts = ⊥
AreSeparated P separator (x ∷ []) ts = P x ts
AreSeparated P separator (x ∷ y ∷ xs) ts = (P x ▸ separator ▸ AreSeparated P separator (y ∷ xs)) ts

-- each of these, none or more
abbrev pub AreRepeated : {X : Type 0} → (X → List Token → Type 0) → List X → List Token → Type 0
AreRepeated P [] ts = ts ≡ []
AreRepeated P (x ∷ xs) ts = (P x ▸ AreRepeated P xs) ts

-- a user behind 'belief'
abbrev pub IsBelief : List ℕ → List Token → Type 0
IsBelief user = IsKeyword (codes "belief") ▸ IsToken (Text user)

-- 'not', or nothing
abbrev pub IsSign : Sign → List Token → Type 0
IsSign Plus = IsNothing
IsSign Minus = IsKeyword (codes "not")

-- the word of a kind
abbrev pub IsKind : Kind → List Token → Type 0
IsKind kinds.Int = IsKeyword (codes "int")
IsKind kinds.Text = IsKeyword (codes "text")

-- a name and a kind
abbrev pub IsColumn : ColDef → List Token → Type 0
IsColumn c = IsName c.name ▸ IsKind c.kind

-- 'key' and the length of a key, or nothing where it isn't said
abbrev pub IsKeyClause : Option ℤ → List Token → Type 0
IsKeyClause None = IsNothing
IsKeyClause (Some length) = IsKeyword (codes "key") ▸ IsNumToken length

-- the token of a comparison
abbrev pub cmp_token : Cmp → Token
cmp_token signs.Eq = Eq
cmp_token signs.Ne = Ne
cmp_token signs.Lt = Lt
cmp_token signs.Le = Le
cmp_token signs.Gt = Gt
cmp_token signs.Ge = Ge

-- a column without an alias
abbrev pub IsBareCol : RawCol → List Token → Type 0
IsBareCol c ts = (c.alias ≡ None) × IsName c.col ts

-- a column behind an alias
abbrev pub IsFullCol : RawCol → List Token → Type 0
IsFullCol c ts =
    (alias : List ℕ) × (c.alias ≡ Some alias) × (IsName alias ▸ IsToken Dot ▸ IsName c.col) ts

-- the right side of a comparison: a column or a literal
abbrev pub IsSide : (RawCol → List Token → Type 0) → RawSide → List Token → Type 0
IsSide IsCol (sides.Col c) = IsCol c
IsSide IsCol (sides.Lit v) = IsLiteral v

-- a comparison
abbrev pub IsCond : (RawCol → List Token → Type 0) → RawCond → List Token → Type 0
IsCond IsCol c = IsCol c.left ▸ IsToken (cmp_token c.cmp) ▸ IsSide IsCol c.right

-- 'where' and comparisons with 'and' between two, or nothing
abbrev pub AreConds : (RawCol → List Token → Type 0) → List RawCond → List Token → Type 0
AreConds IsCol [] = IsNothing
AreConds IsCol (c ∷ cs) =
    IsKeyword (codes "where") ▸ AreSeparated (IsCond IsCol) (IsKeyword (codes "and")) (c ∷ cs)

-- a column, an equals sign and a literal
abbrev pub IsSet : RawSet → List Token → Type 0
IsSet s = IsName s.col ▸ IsToken Eq ▸ IsLiteral s.to

-- what stands behind 'belief' in an item: a text or a column
abbrev pub IsWho : RawWho → List Token → Type 0
IsWho (whos.Name t) = IsToken (Text t)
IsWho (whos.Col c) = IsFullCol c

-- a user of an item's path, behind 'belief'
abbrev pub IsItemBelief : RawWho → List Token → Type 0
IsItemBelief who = IsKeyword (codes "belief") ▸ IsWho who

-- an alias, with 'as' or without; or nothing, where it is the relation's name
abbrev pub IsAlias : List ℕ → List ℕ → List Token → Type 0
IsAlias rel alias ts = ((ts ≡ []) × (alias ≡ rel)) ⊎ (IsName alias ts ⊎ (IsKeyword (codes "as") ▸ IsName alias) ts)

-- an item: its path, its sign, its relation and its alias
abbrev pub IsItem : RawItem → List Token → Type 0
IsItem i = AreRepeated IsItemBelief i.path ▸ IsSign i.sign ▸ IsName i.rel ▸ IsAlias i.rel i.alias

-- a path, a sign and a relation, and what follows
abbrev pub IsTarget : List (List ℕ) → Sign → List ℕ → (List Token → Type 0) → List Token → Type 0
IsTarget users sign rel After = AreRepeated IsBelief users ▸ IsSign sign ▸ IsName rel ▸ After

-- a path, a sign and a tuple
abbrev pub IsSigned : List (List ℕ) → Sign → List ℕ → List Value → List Token → Type 0
IsSigned users sign rel vals =
    IsTarget users sign rel
    (IsKeyword (codes "values") ▸ IsToken ParenL ▸ AreSeparated IsLiteral (IsToken Comma) vals ▸ IsToken ParenR)

-- a query
abbrev pub IsQuery : RawQuery → List Token → Type 0
IsQuery q =
    IsKeyword (codes "select") ▸ AreSeparated IsFullCol (IsToken Comma) q.take
    ▸ IsKeyword (codes "from") ▸ AreSeparated IsItem (IsToken Comma) q.items ▸ AreConds IsFullCol q.conds

-- the tokens of a command
abbrev pub IsCommand : List Token → Command → Type 0
IsCommand ts (CreateUser name) =
    (IsKeyword (codes "create") ▸ IsKeyword (codes "user") ▸ IsToken (Text name)) ts
IsCommand ts (DropUser name) =
    (IsKeyword (codes "drop") ▸ IsKeyword (codes "user") ▸ IsToken (Text name)) ts
IsCommand ts (CreateRelation name cols key) =
    (IsKeyword (codes "create") ▸ IsKeyword (codes "relation") ▸ IsName name
    ▸ IsToken ParenL ▸ AreSeparated IsColumn (IsToken Comma) cols ▸ IsToken ParenR ▸ IsKeyClause key) ts
IsCommand ts (Insert users sign rel vals) =
    (IsKeyword (codes "insert") ▸ IsKeyword (codes "into") ▸ IsSigned users sign rel vals) ts
IsCommand ts (Delete users sign rel conds) =
    (IsKeyword (codes "delete") ▸ IsKeyword (codes "from") ▸ IsTarget users sign rel (AreConds IsBareCol conds)) ts
IsCommand ts (Update users sign rel sets conds) =
    (IsKeyword (codes "update") ▸ IsTarget users sign rel
    (IsKeyword (codes "set") ▸ AreSeparated IsSet (IsToken Comma) sets ▸ AreConds IsBareCol conds)) ts
IsCommand ts (Select query) = IsQuery query ts
IsCommand ts (Explain query) = (IsKeyword (codes "explain") ▸ IsQuery query) ts
IsCommand ts (ShowWorld users) =
    (IsKeyword (codes "show") ▸ IsKeyword (codes "world") ▸ AreRepeated IsBelief users) ts
IsCommand ts (Why users sign rel vals) = (IsKeyword (codes "why") ▸ IsSigned users sign rel vals) ts
IsCommand ts ShowTables = (IsKeyword (codes "show") ▸ IsKeyword (codes "tables")) ts
IsCommand ts Undo = IsKeyword (codes "undo") ts
IsCommand ts Redo = IsKeyword (codes "redo") ts
