-- Commands that have a printed form.
use Rattle.std.specs.Prelude.{◌≡◌, ℕ, Bool, true, false, ◌&&◌, List, [], ◌∷◌, length, None, IsSomeAnd, nat_le}
use Rattle.std.specs.List.{list_all, AllByRecursion}
use Rattle.std.specs.Str.{IsUtf8}
use Rattle.bdb_base.specs.Limits.{longest_word}
use Rattle.bdb_base.specs.declared.kinds.Value.{Value}
use Rattle.bdb_base.specs.declared.kinds.Value.TheVariants as values
use Rattle.bdb_base.specs.declared.kinds.ColDef.{ColDef}
use Rattle.bdb_base.specs.Letters.{is_letter, is_word_byte}
use Rattle.bdb_syntax.specs.declared.command.RawCol.{RawCol}
use Rattle.bdb_syntax.specs.declared.command.RawSide.{RawSide}
use Rattle.bdb_syntax.specs.declared.command.RawSide.TheVariants as sides
use Rattle.bdb_syntax.specs.declared.command.RawCond.{RawCond}
use Rattle.bdb_syntax.specs.declared.command.RawWho.{RawWho}
use Rattle.bdb_syntax.specs.declared.command.RawWho.TheVariants as whos
use Rattle.bdb_syntax.specs.declared.command.RawItem.{RawItem}
use Rattle.bdb_syntax.specs.declared.command.RawSet.{RawSet}
use Rattle.bdb_syntax.specs.declared.command.RawQuery.{RawQuery}
use Rattle.bdb_syntax.specs.declared.command.Command.{Command}
use Rattle.bdb_syntax.specs.declared.command.Command.TheVariants.{CreateUser, DropUser, CreateRelation, Insert, Delete, Update, Select, Explain, ShowWorld, Why, ShowTables, Undo, Redo}
use Rattle.bdb_syntax.specs.Keywords.{is_reserved}
use Rattle.bdb_syntax.specs.Filled.{IsFilled}

-- a letter or '_', then letters, digits or '_'; at most 255 bytes in all
abbrev pub is_short_word : List ℕ → Bool
is_short_word [] = false
is_short_word (c ∷ cs) = is_letter c && (list_all is_word_byte cs && nat_le (length (c ∷ cs)) longest_word)

-- a word that isn't reserved
abbrev pub IsNameWord : List ℕ → Type 0
IsNameWord w = (is_short_word w ≡ true) × (is_reserved w ≡ false)

-- UTF-8 without characters below U+0020
abbrev pub IsContent : List ℕ → Type 0
IsContent t = IsUtf8 t × (list_all (λ b. nat_le 32 b) t ≡ true)

-- a value whose text is allowed
abbrev pub IsPrintableValue : Value → Type 0
IsPrintableValue (values.Int n) = Unit {0}
IsPrintableValue (values.Text t) = IsContent t

-- a column of a change: a name without an alias
abbrev pub IsBareColumn : RawCol → Type 0
IsBareColumn c = (c.alias ≡ None) × IsNameWord c.col

-- a column of a query: a name behind an alias
abbrev pub IsFullColumn : RawCol → Type 0
IsFullColumn c = IsSomeAnd c.alias IsNameWord × IsNameWord c.col

-- the right side of a comparison, whose columns are as IsCol says
abbrev pub IsPrintableSide : (RawCol → Type 0) → RawSide → Type 0
IsPrintableSide IsCol (sides.Col c) = IsCol c
IsPrintableSide IsCol (sides.Lit v) = IsPrintableValue v

-- a comparison, whose columns are as IsCol says
abbrev pub IsPrintableCond : (RawCol → Type 0) → RawCond → Type 0
IsPrintableCond IsCol c = IsCol c.left × IsPrintableSide IsCol c.right

-- a user of a path
abbrev pub IsPrintableWho : RawWho → Type 0
IsPrintableWho (whos.Name t) = IsContent t
IsPrintableWho (whos.Col c) = IsFullColumn c

-- an item of a query
abbrev pub IsPrintableItem : RawItem → Type 0
IsPrintableItem i = AllByRecursion IsPrintableWho i.path × IsNameWord i.rel × IsNameWord i.alias

-- a column that an update sets
abbrev pub IsPrintableSet : RawSet → Type 0
IsPrintableSet s = IsNameWord s.col × IsPrintableValue s.to

-- a query
abbrev pub IsPrintableQuery : RawQuery → Type 0
IsPrintableQuery q = AllByRecursion IsFullColumn q.take × AllByRecursion IsPrintableItem q.items × AllByRecursion (IsPrintableCond IsFullColumn) q.conds

-- a path and a tuple
abbrev pub IsPrintableSigned : List (List ℕ) → List ℕ → List Value → Type 0
IsPrintableSigned users rel vals = AllByRecursion IsContent users × IsNameWord rel × AllByRecursion IsPrintableValue vals

-- the names, the texts and the columns of a command are as the grammar wants them
abbrev pub HasPrintableParts : Command → Type 0
HasPrintableParts (CreateUser name) = IsContent name
HasPrintableParts (DropUser name) = IsContent name
HasPrintableParts (CreateRelation name cols key) = IsNameWord name × AllByRecursion (λ (c : ColDef). IsNameWord c.name) cols
HasPrintableParts (Insert users sign rel vals) = IsPrintableSigned users rel vals
HasPrintableParts (Delete users sign rel conds) = AllByRecursion IsContent users × IsNameWord rel × AllByRecursion (IsPrintableCond IsBareColumn) conds
HasPrintableParts (Update users sign rel sets conds) = AllByRecursion IsContent users × IsNameWord rel × AllByRecursion IsPrintableSet sets × AllByRecursion (IsPrintableCond IsBareColumn) conds
HasPrintableParts (Select query) = IsPrintableQuery query
HasPrintableParts (Explain query) = IsPrintableQuery query
HasPrintableParts (ShowWorld users) = AllByRecursion IsContent users
HasPrintableParts (Why users sign rel vals) = IsPrintableSigned users rel vals
HasPrintableParts ShowTables = Unit {0}
HasPrintableParts Undo = Unit {0}
HasPrintableParts Redo = Unit {0}

-- a command has a printed form
pub record IsPrintable (c : Command) : Type 0 where
  pub parts : HasPrintableParts c
  pub filled : IsFilled c
