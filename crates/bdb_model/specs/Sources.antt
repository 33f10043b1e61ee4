-- Where the values of a query's minus items come from: for each of their columns a literal, or a column of a `Users` item or
-- a plus item, to which equal comparisons lead. A source is written as an equality of the column with it.
use Rattle.std.specs.Prelude.{◌≡◌, Bool, true, not, ◌&&◌, List, [], ◌∷◌, Option, None, Some, cond, filter, find}
use Rattle.std.specs.List.{list_all, slice_get, flat_map}
use Rattle.std.specs.Option.{option_map, is_some}
use Rattle.bdb_base.specs.declared.kinds.Cond.{Cond}
use Rattle.bdb_base.specs.declared.kinds.Item.{Item}
use Rattle.bdb_base.specs.declared.kinds.Operand.{Operand}
use Rattle.bdb_base.specs.declared.kinds.Operand.TheVariants.{Col, Lit}
use Rattle.bdb_base.specs.declared.kinds.Query.{Query}
use Rattle.bdb_base.specs.declared.kinds.Ref.{Ref}
use Rattle.bdb_base.specs.declared.tuple.Tuple.{Tuple}
use Rattle.bdb_base.specs.Safety.{is_given, same_column, is_equality, IsBound, equality, operand_columns, first_there}
use Rattle.bdb_queries.specs.Slots.{must_all_hold}

-- the first source of a column
abbrev pub source_of : List Cond → Ref → Option Operand
source_of sources r = option_map (λ c. c.right) (find (λ c. same_column r c.left) sources)

-- where a column's value comes from: a column of a `Users` item or a plus item is its own source
abbrev pub source_in : List Item → List Cond → Ref → Option Operand
source_in items sources r = cond (is_given (slice_get items r.item)) (Some (Col r)) (source_of sources r)

-- where the value of a comparison's right side comes from
abbrev pub source_of_operand : List Item → List Cond → Operand → Option Operand
source_of_operand items sources (Col r) = source_in items sources r
source_of_operand items sources (Lit v) = Some (Lit v)

-- a source for a column without one, where it equals what has one
abbrev pub fresh_source : List Item → List Cond → Ref → Operand → Option Cond
fresh_source items sources r o = cond (is_some (source_in items sources r)) None (option_map (equality r) (source_of_operand items sources o))

-- the same from the right side to the left one
abbrev pub turned_source : List Item → List Cond → Ref → Operand → Option Cond
turned_source items sources r (Col s) = fresh_source items sources s (Col r)
turned_source items sources r (Lit v) = None

-- a source that a comparison gives
abbrev pub source_from : List Item → List Cond → Cond → Option Cond
source_from items sources c = cond (is_equality c.cmp) (first_there (fresh_source items sources c.left c.right) (turned_source items sources c.left c.right)) None

-- the first source that comparisons give
abbrev pub next_source : List Item → List Cond → List Cond → Option Cond
next_source items sources [] = None
next_source items sources (c ∷ cs) = first_there (source_from items sources c) (next_source items sources cs)

-- a literal, or a column of a `Users` item or a plus item
abbrev pub is_simple : List Item → Operand → Bool
is_simple items (Col r) = is_given (slice_get items r.item)
is_simple items (Lit v) = true

-- an equality with a literal, or with a column of a `Users` item or a plus item
abbrev pub is_source : List Item → Cond → Bool
is_source items c = is_equality c.cmp && is_simple items c.right

-- the columns that comparisons name
abbrev pub named_columns : List Cond → List Ref
named_columns conds = flat_map (λ c. c.left ∷ operand_columns c.right) conds

-- the columns that comparisons name and that have no source
abbrev pub missing : List Item → List Cond → List Cond → List Ref
missing items sources conds = filter (λ r. not (is_some (source_in items sources r))) (named_columns conds)

-- Equalities are the sources of a query: they hold wherever its comparisons do, each is with a literal or a given column,
-- and each bound column has one.
pub record AreSources (q : Query) (sources : List Cond) : Type 0 where
  pub follow : (slots : List (Option Tuple)) → must_all_hold slots q.conds ≡ true → must_all_hold slots sources ≡ true
  pub simple : list_all (is_source q.items) sources ≡ true
  pub whole : (r : Ref) → IsBound q r → is_some (source_in q.items sources r) ≡ true
