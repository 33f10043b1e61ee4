-- What an execution has read so far is what the tables have.
use Rattle.std.specs.Prelude.{◌≡◌, ℕ, cond, List, Option, Some, None, IfSome}
use Rattle.std.specs.declared.cmp.Ordering.{Ordering}
use Rattle.std.specs.Ordering.{eq_by_cmp, nat_cmp, ordering_then}
use Rattle.std.specs.BTreeMap.{get}
use Rattle.bdb_base.specs.declared.tuple.Tuple.{Tuple}
use Rattle.bdb_keep.specs.Tables.{Tables, bytes_cmp}
use Rattle.bdb_plan.specs.Running.{plus_tuples}
use Rattle.bdb_tables.specs.Codec.{HasRow}
use Rattle.bdb_tables.specs.InUse.{tuple_codec}
use Rattle.bdb_exec.specs.Indexes.{RecallsIndexes}
use Rattle.bdb_exec.specs.declared.memo.KeyPool.{KeyPool}
use Rattle.bdb_exec.specs.declared.memo.Memo.{Memo}
use Rattle.bdb_exec.specs.Seen.{sight_of, signed_under}

-- the order of pairs
abbrev pub pair_cmp : ℕ × ℕ → ℕ × ℕ → Ordering
pair_cmp a b = ordering_then (nat_cmp a.0 b.0) (nat_cmp a.1 b.1)

-- the tuples of the rows whose keys begin so
abbrev pub pool_of : List ℕ → List Tuple → KeyPool
pool_of prefix tuples = record { prefix = prefix; tuples = tuples }

-- the tuples of the rows whose keys begin so, where these are the ones that are kept
abbrev pub last_pool : Option KeyPool → List ℕ → Option (List Tuple)
last_pool None prefix = None
last_pool (Some p) prefix = cond (eq_by_cmp bytes_cmp p.prefix prefix) (Some p.tuples) None

-- the users, once they are read, are those of the tables
abbrev pub RecallsUsers : Tables → Memo → Type 0
RecallsUsers t m = IfSome m.users (λ users. users ≡ (sight_of t).users)

-- the tuples are those of their numbers
abbrev pub RecallsTuples : Tables → Memo → Type 0
RecallsTuples t m = (tid : ℕ) → IfSome (get nat_cmp m.tuples tid) (λ u. HasRow tuple_codec t tid u)

-- the tuples of a world and relation are those that the world has with plus
abbrev pub RecallsPools : Tables → Memo → Type 0
RecallsPools t m = (place : ℕ × ℕ) → IfSome (get pair_cmp m.pools place) (λ pool. pool ≡ plus_tuples ((sight_of t).rows place.0 place.1))

-- the edges lead where those of the tables do
abbrev pub RecallsEdges : Tables → Memo → Type 0
RecallsEdges t m = (place : ℕ × ℕ) → IfSome (get pair_cmp m.edges place) (λ target. target ≡ (sight_of t).edge place.0 place.1)

-- the keys of relations are as long as the tables show
abbrev pub RecallsLengths : Tables → Memo → Type 0
RecallsLengths t m = (rel : ℕ) → IfSome (get nat_cmp m.lengths rel) (λ n. n ≡ (sight_of t).keys rel)

-- the tuples kept beside bytes are those with plus of the rows whose keys begin so
abbrev pub RecallsKeys : Tables → Memo → Type 0
RecallsKeys t m = (place : ℕ × ℕ) → IfSome (get pair_cmp m.last_pools place) (λ pool. pool.tuples ≡ plus_tuples (signed_under t pool.prefix))

-- all that is remembered is what the tables have
abbrev pub Recalls : Tables → Memo → Type 0
Recalls t m = RecallsUsers t m × RecallsTuples t m × RecallsPools t m × RecallsEdges t m × RecallsKeys t m × RecallsLengths t m × RecallsIndexes t m.indexes
