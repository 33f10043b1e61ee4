-- Which parts are in the grammar of keys.
use Rattle.std.specs.Prelude.{◌≡◌, ℕ, ◌^◌, ◌<◌, true, List, [], ◌∷◌, length, FitsSigned}
use Rattle.std.specs.Int.{w64}
use Rattle.std.specs.List.{AllByRecursion}
use Rattle.bdb_base.specs.Alternation.{alternates}
use Rattle.bdb_base.specs.Bases.{is_plain}
use Rattle.bdb_base.specs.declared.kinds.Value.{Value}
use Rattle.bdb_base.specs.declared.kinds.Value.TheVariants.{Int, Text}
use Rattle.bdb_key.specs.declared.part.Part.{Part}
use Rattle.bdb_key.specs.declared.part.Part.TheVariants as parts
use Rattle.bdb_key.specs.declared.part.Slot.{Slot}
use Rattle.bdb_key.specs.declared.part.Slot.TheVariants as slots

-- a plain text: at most 255 bytes of UTF-8, and no character below U+0020
abbrev pub IsPlain : List ℕ → Type 0
IsPlain text = is_plain text ≡ true

-- a number of four bytes
abbrev pub IsNum : ℕ → Type 0
IsNum n = n < 2 ^ 32

-- an integer is one of eight bytes
abbrev pub HasEightBytes : Value → Type 0
HasEightBytes (Int m) = FitsSigned w64 m
HasEightBytes (Text text) = Unit {0}

-- a text is a plain one
abbrev pub HasPlainText : Value → Type 0
HasPlainText (Int m) = Unit {0}
HasPlainText (Text text) = IsPlain text

-- an integer of eight bytes, or a plain text
abbrev pub IsPlainValue : Value → Type 0
IsPlainValue (Int m) = FitsSigned w64 m
IsPlainValue (Text text) = IsPlain text

-- each of these values is plain
abbrev pub ArePlain : List Value → Type 0
ArePlain values = AllByRecursion IsPlainValue values

-- a list of plain values, its length a number of four bytes
pub record AreKeyVals (values : List Value) : Type 0 where
  pub short : IsNum (length values)
  pub plain : ArePlain values

-- a path without equal neighbours, its length and its users numbers of four bytes
pub record IsKeyPath (path : List ℕ) : Type 0 where
  pub apart : alternates path ≡ true
  pub short : IsNum (length path)
  pub users : AllByRecursion IsNum path

-- a part that may stand in a slot
abbrev pub FitsSlot : Slot → Part → Type 0
FitsSlot slots.Num (parts.Num n) = IsNum n
FitsSlot slots.Val (parts.Val value) = IsPlainValue value
FitsSlot slots.Vals (parts.Vals values) = AreKeyVals values
FitsSlot slots.Path (parts.Path path) = IsKeyPath path
FitsSlot slots.Rest (parts.Val value) = IsPlainValue value
FitsSlot slot part = ⊥

-- a slot takes one part, and not the rest
abbrev pub IsOne : Slot → Type 0
IsOne slots.Rest = ⊥
IsOne slot = Unit {0}

-- a key of a shape: a part for each slot; a slot for the rest takes all values to the end
abbrev pub IsKey : List Slot → List Part → Type 0
IsKey [] [] = Unit {0}
IsKey [] (part ∷ more) = ⊥
IsKey (slots.Rest ∷ shape) key = AllByRecursion (FitsSlot slots.Rest) key
IsKey (slot ∷ shape) [] = ⊥
IsKey (slot ∷ shape) (part ∷ key) = FitsSlot slot part × IsKey shape key

-- a part whose values or path, if it is a list of values or a path, have a length of four bytes
abbrev pub IsShortPart : Part → Type 0
IsShortPart (parts.Num n) = Unit {0}
IsShortPart (parts.Val value) = Unit {0}
IsShortPart (parts.Vals values) = IsNum (length values)
IsShortPart (parts.Path path) = IsNum (length path)

-- a part whose numbers are of four bytes, and whose integers are of eight
abbrev pub IsWholePart : Part → Type 0
IsWholePart (parts.Num n) = IsNum n
IsWholePart (parts.Val value) = HasEightBytes value
IsWholePart (parts.Vals values) = AllByRecursion HasEightBytes values
IsWholePart (parts.Path path) = AllByRecursion IsNum path
