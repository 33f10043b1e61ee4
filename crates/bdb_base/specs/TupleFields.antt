-- What contracts see of a tuple.
use Rattle.std.specs.Prelude.{ℕ, List}
use Rattle.bdb_base.specs.declared.kinds.Value.{Value}

-- a relation's number, and the values
pub record Fields : Type 0 where
  pub rel : ℕ
  pub vals : List Value
