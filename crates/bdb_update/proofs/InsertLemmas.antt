-- The steps by which a statement joins a base, one after the other.
use Rattle.std.proofs.Common.{◌≡◌, ◌∙◌, ℕ, ◌+◌, arith, Bool, false, List, refl, sym, Option, Some, None}
use Rattle.bdb_base.specs.Bases.{with_statement}
use Rattle.bdb_base.specs.declared.kinds.Stmt.{Stmt}
use Rattle.bdb_base.specs.declared.tuple.Tuple.{Tuple}
use Rattle.bdb_canon.specs.Sizes.{counts_of}
use Rattle.bdb_keep.specs.Tables.{Tables}
use Rattle.bdb_tables.specs.Codec.{HasAt}
use Rattle.bdb_tables.specs.InUse.{tuple_ix_codec}
use Rattle.bdb_val.specs.Steps.{counted as capped}
use Rattle.bdb_update.specs.Joining.{CountsArrived, CountsSettled, CountsJoined, SomeMayJoin, SomeHasWorlds, SomeHasNumber, IsWorld, Arrive, Numbers, Settles, Joins, is_of_tuples}
use Rattle.bdb_tables.specs.Stored.{SameBut}
use Rattle.bdb_update.specs.Calls.{with_one}
use Rattle.bdb_update.proofs.ComeLemmas.{rows_same}
use Rattle.bdb_tables.proofs.SameLemmas.{states_still}
use Rattle.bdb_update.proofs.StoredCounts.{over_count, over_few, stored_count}
use Rattle.bdb_update.proofs.WithinLemmas.{put_is_within}

-- what tables have at a tuple stays where the table of these numbers has not changed
pub number_still : (test : ℕ → Bool) (t u : Tables) (tuple : Tuple) (o : Option ℕ) → SameBut test t u → test 5 ≡ false → HasAt tuple_ix_codec t tuple o → HasAt tuple_ix_codec u tuple o
number_still test t u tuple None same out has = same 5 (tuple_ix_codec.key_bytes tuple) out ∙ has
number_still test t u tuple (Some n) same out has = record { in_grammar = has.in_grammar; found = same 5 (tuple_ix_codec.key_bytes tuple) out ∙ has.found }

pub same_back : (test : ℕ → Bool) (t u : Tables) → SameBut test t u → SameBut test u t
same_back test t u same n k out = sym (same n k out)

-- the number of a world stays where only tables of tuples have changed
pub world_still : (t u : Tables) (w : List ℕ) (wid : ℕ) → SameBut is_of_tuples t u → IsWorld t w wid → IsWorld u w wid
world_still t u w wid same here s h own = here s (states_still is_of_tuples u t (same_back is_of_tuples t u same) s.users s.names refl refl refl refl refl h) own

pub some_worlds : (t u : Tables) (x : Stmt) (worlds wid : ℕ) → SomeMayJoin t x worlds → Arrive t u x wid → SomeHasWorlds u x
some_worlds t u x worlds wid some arrive = record { base = some.base; worlds = (arrive some.base some.stored some.may).worlds; may = some.may }

pub some_number : (t u : Tables) (x : Stmt) → SomeHasWorlds t x → Numbers t u x → SomeHasNumber u x
some_number t u x some numbers = record { base = some.base; number = numbers some.base some.worlds some.may; may = some.may }

pub here_now : (t u v : Tables) (x : Stmt) (worlds wid : ℕ) → SomeMayJoin t x worlds → Arrive t u x wid → SameBut is_of_tuples u v → IsWorld v x.path wid
here_now t u v x worlds wid some arrive same = world_still u v x.path wid same (arrive some.base some.stored some.may).here

pub joins : (t u v w : Tables) (x : Stmt) (wid : ℕ) → Arrive t u x wid → Numbers u v x → Settles v w x → Joins t w x
joins t u v w x wid arrive numbers settles b s may = settles b (numbers b (arrive b s may).worlds may) may

-- ---- how many rows came and went

pub counts_join : (t u v w : Tables) (x : Stmt) (wid rows put taken came : ℕ) → Arrive t u x wid → Numbers u v x → Settles v w x → CountsArrived t u x rows → CountsSettled v w x put taken → SameBut is_of_tuples u v
    → came ≡ capped (rows + put) → CountsJoined t x came taken
counts_join t u v w x wid rows put taken came arrive numbers settles arrived settled same sum b s may =
    let n = (counts_of b).rows in
    let m = (counts_of (with_one b x)).rows in
    let a = arrive b s may in
    let k = numbers b a.worlds may in
    let before = stored_count t b s may.valid in
    let within = put_is_within b.stmts x in
    let o = over_count (with_statement b.stmts x) b.stmts a.worlds.names a.worlds.tuples u b a.worlds.stored may.valid (λ y e. e) in
    let middle = arrived b s may n _ before o in
    let few_middle = over_few (with_statement b.stmts x) b.stmts a.worlds.names a.worlds.tuples u b a.worlds.stored may.valid (λ y e. e) _ o in
    let q = settles b k may in
    let after = stored_count w (with_one b x) q may.next in
    let settling = settled b k may _ m (rows_same u v _ (λ r. same 11 r refl) o) after in
    let balance = settling.balance in
    let few_came = settling.few in
    let few_before = over_few b.stmts b.stmts s.names s.tuples t b s.stored may.valid (λ y e. e) n before in
    let few_after = over_few (with_statement b.stmts x) (with_statement b.stmts x) q.names q.tuples w (with_one b x) q.stored may.next (λ y e. e) m after in
    record { balance = omega arith; few = omega arith }
