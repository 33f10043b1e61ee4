-- The kinds of values and columns.
use Rattle.bdb_base.specs.declared.kinds.Kind.{Kind}
use Rattle.bdb_base.specs.declared.kinds.Kind.TheVariants as kind
use Rattle.bdb_base.specs.declared.kinds.Value.{Value}
use Rattle.bdb_base.specs.declared.kinds.Value.TheVariants.{Int, Text}

-- the kind of a value
abbrev pub kind_of : Value → Kind
kind_of (Int n) = kind.Int
kind_of (Text t) = kind.Text
