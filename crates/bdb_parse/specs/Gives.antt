-- What a reader of the code answers, beside the definition that it follows.
use Rattle.std.specs.Prelude.{◌≡◌, ℕ, ℤ, pos, List, Option, Some, None, Result, Ok, Err, if◌then◌else◌}
use Rattle.bdb_parse.specs.declared.error.ParseError.{ParseError}
use Rattle.bdb_parse.specs.declared.error.ParseError.TheVariants.{Syntax, Number, Memory}
use Rattle.bdb_parse.specs.declared.wide.Wide.{Wide}
use Rattle.bdb_parse.specs.declared.wide.Wide.TheVariants.{Refused, Zero}
use Rattle.bdb_parse.specs.Numbers.{number_written, is_i64}
use Rattle.bdb_parse.specs.Reading.{◌>>=◌}

-- an error where nothing is read, or where memory ran out
abbrev pub Fails : {Y : Type 0} → ParseError → Option Y → Type 0
Fails Syntax read = read ≡ None
Fails Number read = ⊥
Fails Memory read = Unit {0}

-- what a reader answered, seen by view, is what reading gives, unless memory ran out
abbrev pub Gives : {X Y : Type 0} → (X → Y) → Result X ParseError → Option Y → Type 0
Gives view (Ok x) read = read ≡ Some (view x)
Gives view (Err e) read = Fails e read

-- what stands for a number outside i64
abbrev pub wide_number : Wide → Option ℤ
wide_number Refused = None
wide_number Zero = Some (pos 0)

-- a number of i64 as it is, and another as this reading has it
abbrev pub narrow : Wide → ℤ → Option ℤ
narrow wide n = if is_i64 n then Some n else wide_number wide

-- the number that a spelling writes, where this reading has one
abbrev pub number_in : Wide → List ℕ → Option ℤ
number_in wide spelling = number_written spelling >>= narrow wide
