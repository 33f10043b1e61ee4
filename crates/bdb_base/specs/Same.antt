-- Tests of equality.
use Rattle.std.specs.Prelude.{ℕ, Bool, true, false, ◌&&◌, nat_eq, List}
use Rattle.std.specs.Ordering.{int_cmp, is_eq}
use Rattle.std.specs.Cmp.Lexicographic.{pointwise}
use Rattle.bdb_base.specs.declared.kinds.Value.{Value}
use Rattle.bdb_base.specs.declared.kinds.Value.TheVariants.{Int, Text}
use Rattle.bdb_base.specs.declared.kinds.Sign.{Sign}
use Rattle.bdb_base.specs.declared.kinds.Sign.TheVariants.{Plus, Minus}
use Rattle.bdb_base.specs.declared.kinds.Kind.{Kind}
use Rattle.bdb_base.specs.declared.kinds.Kind.TheVariants as kind
use Rattle.bdb_base.specs.declared.kinds.Stmt.{Stmt}
use Rattle.bdb_base.specs.declared.tuple.Tuple.{Tuple}

-- two texts, or two names, are the same bytes
abbrev pub same_text : List ℕ → List ℕ → Bool
same_text = pointwise nat_eq

-- two paths are the same users
abbrev pub same_path : List ℕ → List ℕ → Bool
same_path = pointwise nat_eq

abbrev pub same_value : Value → Value → Bool
same_value (Int m) (Int n) = is_eq (int_cmp m n)
same_value (Int m) (Text b) = false
same_value (Text a) (Int n) = false
same_value (Text a) (Text b) = same_text a b

abbrev pub same_values : List Value → List Value → Bool
same_values = pointwise same_value

-- one relation and the same values
abbrev pub same_tuple : Tuple → Tuple → Bool
same_tuple a b = nat_eq a.rel b.rel && same_values a.vals b.vals

abbrev pub same_sign : Sign → Sign → Bool
same_sign Plus Plus = true
same_sign Minus Minus = true
same_sign _ _ = false

abbrev pub same_kind : Kind → Kind → Bool
same_kind kind.Int kind.Int = true
same_kind kind.Text kind.Text = true
same_kind _ _ = false

abbrev pub same_statement : Stmt → Stmt → Bool
same_statement a b = same_path a.path b.path && (same_tuple a.tuple b.tuple && same_sign a.sign b.sign)

-- a tuple of a relation and values
abbrev pub tuple_of : ℕ → List Value → Tuple
tuple_of r v = record { rel = r; vals = v }
