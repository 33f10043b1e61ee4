-- What is read of a statement before anything is written, and what is said of it.
use Rattle.std.specs.Prelude.{◌≡◌, ℕ, ◌+◌, ◌-◌, ◌≤◌, Bool, ◌&&◌, nat_eq, List, [], ◌∷◌, length, Option, Some, None, is_some, cond}
use Rattle.std.specs.Bool.{MatchBool}
use Rattle.std.specs.List.{list_any}
use Rattle.std.specs.Ordering.{is_lt}
use Rattle.bdb_base.specs.Clash.{clash, key_of}
use Rattle.bdb_base.specs.Limits.{deepest_statement, most_worlds, most_tuples, most_statements}
use Rattle.bdb_base.specs.Order.{tuple_cmp}
use Rattle.bdb_base.specs.Same.{same_sign, same_tuple}
use Rattle.bdb_base.specs.declared.kinds.Stmt.{Stmt}
use Rattle.bdb_base.specs.declared.kinds.What.{What}
use Rattle.bdb_base.specs.declared.tuple.Tuple.{Tuple}
use Rattle.bdb_canon.specs.declared.sizes.Counts.{Counts}
use Rattle.bdb_key.specs.Rows.{IsTupleRow}
use Rattle.bdb_keep.specs.Tables.{Tables}
use Rattle.bdb_tables.specs.Codec.{HasAt}
use Rattle.bdb_tables.specs.InUse.{tuple_ix_codec}
use Rattle.bdb_val.specs.declared.stored.StoredRow.{StoredRow}
use Rattle.bdb_worlds.specs.Reach.{ReachesState}
use Rattle.bdb_update.specs.Calls.{size_passed}
use Rattle.bdb_update.specs.Groups.{AreExplicitUnder}
use Rattle.bdb_tables.specs.Lengths.{IsKeyLength}
use Rattle.bdb_tables.specs.GroupMarks.{group_bytes}
use Rattle.bdb_update.specs.declared.looking.Finding.{Finding}
use Rattle.bdb_update.specs.declared.looking.Prospect.{Prospect}
use Rattle.bdb_update.specs.declared.looking.Prospect.TheVariants.{Clashes, Stands, Fills, Fits}

-- how the keys of the rows begin that have a statement's relation and key in a world
abbrev pub prefix_of : (ℕ → ℕ) → ℕ → Stmt → List ℕ
prefix_of keys wid x = group_bytes wid x.tuple.rel (key_of keys x.tuple)

-- the explicit rows of a world for a tuple's relation and key, or none
abbrev pub AreRowsIf : (ℕ → ℕ) → Tables → ℕ → Tuple → Bool → List StoredRow → Type 0
AreRowsIf keys t wid u asked rows = MatchBool asked (AreExplicitUnder t (group_bytes wid u.rel (key_of keys u)) rows) (rows ≡ [])

-- What is read: how far a statement's path goes along states and the number of the last of them, the length of the key of the
-- tuple's relation, the explicit rows of this relation and the tuple's key there where the whole path is a state, and the number
-- of the tuple, if it has one.
pub record IsFinding (t : Tables) (x : Stmt) (p : Finding) : Type 0 where
  pub reaches : ReachesState t x.path p.len p.wid
  pub within : p.len ≤ length x.path
  pub key_length : IsKeyLength t x.tuple.rel p.key_len
  pub rows : p.len ≡ length x.path → AreExplicitUnder t (prefix_of (λ _. p.key_len) p.wid x) p.rows.items
  pub none : (p.len ≡ length x.path → ⊥) → p.rows.items ≡ []
  pub number : HasAt tuple_ix_codec t x.tuple p.tid
  pub fits : IsTupleRow x.tuple

-- an explicit row clashes with a statement of its path
abbrev pub is_clashing : (ℕ → ℕ) → Stmt → StoredRow → Bool
is_clashing keys x r = r.mark.1 && clash keys x.tuple x.sign r.tuple r.mark.0

-- of a row and another, if there is one, that whose tuple comes first
abbrev pub first_of : StoredRow → Option StoredRow → StoredRow
first_of r None = r
first_of r (Some s) = cond (is_lt (tuple_cmp s.tuple r.tuple)) s r

-- the row whose tuple comes first among those that clash with a statement
abbrev pub least_row : (ℕ → ℕ) → Stmt → List StoredRow → Option StoredRow
least_row keys x [] = None
least_row keys x (r ∷ rs) = cond (is_clashing keys x r) (Some (first_of r (least_row keys x rs))) (least_row keys x rs)

-- an explicit row is that of a statement
abbrev pub is_own : Stmt → StoredRow → Bool
is_own x r = r.mark.1 && (same_tuple r.tuple x.tuple && same_sign r.mark.0 x.sign)

-- the sizes with one statement more, but for the rows
abbrev pub counts_with : Stmt → Finding → Counts → Counts
counts_with x p c = record {
  worlds = c.worlds + (length x.path - p.len);
  tuples = c.tuples + cond (is_some p.tid) 0 1;
  stmts = c.stmts + 1;
  rows = c.rows;
}

-- the number of a statement's path, where the whole path is a state
abbrev pub state_of : Stmt → Finding → Option ℕ
state_of x p = cond (nat_eq p.len (length x.path)) (Some p.wid) None

-- what is said where a limit is passed, and where none is
abbrev pub filled_by : Stmt → Finding → Counts → Option What → Prospect
filled_by x p c (Some what) = Fills what
filled_by x p c None = Fits (record { wid = state_of x p; tid = p.tid; key_len = p.key_len; next = c })

-- what is said where no row clashes: the statement has a row, or it has none
abbrev pub joined_by : Stmt → Finding → Counts → Bool → Prospect
joined_by x p c own = cond own Stands (filled_by x p (counts_with x p c) (size_passed (counts_with x p c)))

-- what is said by the row that clashes, if there is one
abbrev pub judged_by : Stmt → Finding → Counts → Option StoredRow → Prospect
judged_by x p c (Some r) = Clashes (record { path = x.path; sign = r.mark.0; tuple = r.tuple })
judged_by x p c None = joined_by x p c (list_any (is_own x) p.rows.items)

abbrev pub judged : Stmt → Finding → Counts → Prospect
judged x p c = judged_by x p c (least_row (λ _. p.key_len) x p.rows.items)

-- the sizes are those of a base within the limits, and the path is not too deep
pub record IsSmall (x : Stmt) (p : Finding) (c : Counts) : Type 0 where
  pub worlds : c.worlds ≤ most_worlds
  pub tuples : c.tuples ≤ most_tuples
  pub stmts : c.stmts ≤ most_statements
  pub within : p.len ≤ length x.path
  pub short : length x.path ≤ deepest_statement
