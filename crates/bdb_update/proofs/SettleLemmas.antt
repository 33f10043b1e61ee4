-- A statement's row is put, and its group settled.
use Rattle.std.proofs.Common.{◌≡◌, ◌∙◌, ℕ, ◌+◌, ◌≤◌, Bool, true, false, nat_eq, cond, List, [], ◌∷◌, refl, ap, sym, subst, Option, Some, is_some, arith}
use Rattle.std.specs.Option.{option_map}
use Rattle.std.specs.FinMap as tables
use Rattle.bdb_base.specs.Bases.{Contents, with_statement}
use Rattle.bdb_base.specs.Clash.{key_of}
use Rattle.bdb_base.specs.Worlds.{IsConsistent}
use Rattle.bdb_base.specs.declared.kinds.Stmt.{Stmt}
use Rattle.bdb_base.specs.declared.kinds.Value.{Value}
use Rattle.bdb_base.proofs.WorldLemmas.{valid_is_consistent}
use Rattle.bdb_keep.specs.Seen.{Seen}
use Rattle.bdb_keep.specs.Tables.{Tables}
use Rattle.bdb_key.specs.Grammar.{IsNum}
use Rattle.bdb_key.specs.Rows.{IsTupleRow, MayBeTuple}
use Rattle.bdb_tables.specs.Codec.{HasAt, place}
use Rattle.bdb_tables.specs.InUse.{ValKey, IsValKey, tuple_codec, tuple_ix_codec, val_codec}
use Rattle.bdb_tables.specs.Marks.{Mark, explicit_sign}
use Rattle.bdb_tables.specs.Rows.{row_for}
use Rattle.bdb_tables.specs.Names.{path_of}
use Rattle.bdb_tables.specs.Writes.{with_change, with_row_at}
use Rattle.bdb_tables.proofs.Fitting.{belonging_may_be}
use Rattle.bdb_val.specs.Counts.{TellsDifferences}
use Rattle.bdb_val.specs.Groups.{IsUnsettled, SettlesGroup, TellsGroup}
use Rattle.bdb_val.specs.Others.{SamePlacesBut}
use Rattle.bdb_val.specs.Steps.{counted as capped}
use Rattle.bdb_val.specs.declared.stored.Settled.{Settled}
use Rattle.bdb_val.specs.Reads.{HaveTuples, is_of_group}
use Rattle.bdb_val.specs.Settling.{row_key}
use Rattle.bdb_val.proofs.StateLemmas.{changes_keep}
use Rattle.bdb_update.proofs.KeyLemmas.{IsKeyIn}
use Rattle.bdb_update.specs.Calls.{with_one}
use Rattle.bdb_update.specs.Differing.{explicit_row, row_said_at}
use Rattle.bdb_update.specs.Joining.{CountsSettled, HasNumber, MayJoin, SomeHasNumber, IsWorld, Settles, key_made, row_put}
use Rattle.bdb_tables.specs.Stored.{SameBut}
use Rattle.bdb_update.proofs.DifferLemmas.{put_differs_at}
use Rattle.bdb_update.proofs.GroupLemmas.{group_unsettled, settled_group_stores}
use Rattle.bdb_update.proofs.StoredCounts.{over_few, put_count}
use Rattle.bdb_update.proofs.TallyLemmas.{told_balance}
use Rattle.bdb_tables.proofs.SameLemmas.{change_same, same_then}
use Rattle.bdb_tables.proofs.SignLemmas.{put_says_sign}
use Rattle.bdb_update.proofs.StageLemmas.{belongs_parts, over_has_tuples}
use Rattle.bdb_update.proofs.TupleLemmas.{number_read}
use Rattle.bdb_update.proofs.WithinLemmas.{put_is_within}
use Rattle.bdb_update.specs.Keys.{keys_of}

abbrev row_of : ℕ → ℕ → List Value → ℕ → ValKey
row_of wid rel v tid = (wid, rel, v, tid)

-- a statement's tuple may be written
pub may_be_tuple : (b : Contents) (x : Stmt) → MayJoin b x → MayBeTuple x.tuple
may_be_tuple b x may = (belonging_may_be b.catalog x may.valid.catalog may.belongs).tuple

-- a tuple that has a number has its row
pub tuple_there : (t : Tables) (x : Stmt) (tid : ℕ) → SomeHasNumber t x → IsTupleRow x.tuple → IsNum tid → HasAt tuple_ix_codec t x.tuple (Some tid) → is_some (tables.get t (place tuple_codec tid)) ≡ true
tuple_there t x tid some fits num has =
    let told = with_statement some.base.stmts x in
    let h = some.number.stored.tuples in
    let read = number_read told some.number.tuples t x.tuple (Some tid) h fits has in
    ap is_some (h.tuples.rows tid num ∙ ap (option_map tuple_codec.row_bytes) (h.numbered x.tuple tid (sym read)))

module _ (t m v : Tables) (x : Stmt) (wid tid : ℕ) (key : List Value) (first : IsKeyIn t x.tuple key)
    (put : m ≡ row_put t x wid tid key)
    (settles : SettlesGroup m v wid x.tuple.rel key) (same : SameBut (λ n. nat_eq n 11) m v)
    (world : IsWorld t x.path wid) (fits : IsTupleRow x.tuple) (has : HasAt tuple_ix_codec t x.tuple (Some tid)) where
  pub settled : Settles t v x
  settled b h may =
      let next = with_statement b.stmts x in
      let consistent : IsConsistent (keys_of b) next = valid_is_consistent b.catalog next may.next in
      let said : explicit_sign next x.path x.tuple ≡ Some x.sign = put_says_sign (keys_of b) b.stmts x consistent in
      let key_is : row_key (keys_of b) wid tid x.tuple ≡ (wid, x.tuple.rel, key, tid) = ap (λ (z : List Value). row_of wid x.tuple.rel z tid) (first b.catalog.rels h.stored.rels) in
      let made : m ≡ with_change val_codec t (row_said_at (keys_of b) next x.path wid tid x.tuple) = put
      ∙ sym (ap (λ (k : ValKey). with_change val_codec t (k, explicit_row (explicit_sign next x.path x.tuple))) key_is
      ∙ ap (λ o. with_change val_codec t ((wid, x.tuple.rel, key, tid), explicit_row o)) said) in
      let named = world (record { users = _; names = h.names }) h.stored.states (belongs_parts b.catalog x may.belongs).users in
      let read = number_read next h.tuples t x.tuple (Some tid) h.stored.tuples fits has in
      let within = put_is_within b.stmts x in
      record {
        names = h.names;
        tuples = h.tuples;
        stored = settled_group_stores next next next h.names h.tuples t v b x.path x.tuple wid tid h.stored within (record { states = λ w e. e; tuples = λ u e. e })
            (valid_is_consistent b.catalog b.stmts may.valid) consistent (put_differs_at (keys_of b) b.stmts x) (h.stored.states.names.numbered x.path wid named) (h.stored.tuples.numbered x.tuple tid (sym read))
            (subst (λ (z : List Value). SettlesGroup (with_change val_codec t (row_said_at (keys_of b) next x.path wid tid x.tuple)) v wid x.tuple.rel z) (sym (first b.catalog.rels h.stored.rels))
            (subst (λ (z : Tables). SettlesGroup z v wid x.tuple.rel key) made settles))
            (same_then (λ n. nat_eq n 11) t (with_change val_codec t (row_said_at (keys_of b) next x.path wid tid x.tuple)) v (change_same val_codec (λ n. nat_eq n 11) t (row_said_at (keys_of b) next x.path wid tid x.tuple) refl)
            (subst (λ (z : Tables). SameBut (λ n. nat_eq n 11) z v) made same));
      }

-- after the row is put each row has its tuple
pub row_has_tuple : (t m : Tables) (x : Stmt) (wid tid : ℕ) (key : List Value) → SomeHasNumber t x → IsTupleRow x.tuple → IsNum tid → HasAt tuple_ix_codec t x.tuple (Some tid)
    → IsValKey (key_made x wid tid key) → m ≡ row_put t x wid tid key → HaveTuples m
row_has_tuple t m x wid tid key some fits num has key_fits put =
    let told = with_statement some.base.stmts x in
    subst HaveTuples (sym put) (changes_keep ((key_made x wid tid key, Some (x.sign, true)) ∷ []) t
    (over_has_tuples told told some.number.names some.number.tuples t some.base some.number.stored) (record { key = key_fits; row = tt }, tt) (tuple_there t x tid some fits num has, tt))

-- ---- how many rows came and went

-- what is told of the group's rows
module _ (t : Tables) (mid new : Seen) (x : Stmt) (wid tid : ℕ) (key : List Value) (s : Settled) (first : IsKeyIn t x.tuple key) (put : mid.kept ≡ row_put t x wid tid key)
    (tells : TellsGroup mid new wid x.tuple.rel key s) (world : IsWorld t x.path wid) (fits : IsTupleRow x.tuple) (has : HasAt tuple_ix_codec t x.tuple (Some tid)) where
  pub settling_tells : (b : Contents) → HasNumber t b x → MayJoin b x → TellsDifferences mid new s.put s.taken
  settling_tells b h may =
      let next = with_statement b.stmts x in
      let consistent : IsConsistent (keys_of b) next = valid_is_consistent b.catalog next may.next in
      let said : explicit_sign next x.path x.tuple ≡ Some x.sign = put_says_sign (keys_of b) b.stmts x consistent in
      let key_is : row_key (keys_of b) wid tid x.tuple ≡ (wid, x.tuple.rel, key, tid) = ap (λ (v : List Value). row_of wid x.tuple.rel v tid) (first b.catalog.rels h.stored.rels) in
      let made : mid.kept ≡ with_change val_codec t (row_said_at (keys_of b) next x.path wid tid x.tuple) = put
      ∙ sym (ap (λ (k : ValKey). with_change val_codec t (k, explicit_row (explicit_sign next x.path x.tuple))) key_is
      ∙ ap (λ o. with_change val_codec t ((wid, x.tuple.rel, key, tid), explicit_row o)) said) in
      let named = world (record { users = _; names = h.names }) h.stored.states (belongs_parts b.catalog x may.belongs).users in
      let read = number_read next h.tuples t x.tuple (Some tid) h.stored.tuples fits has in
      let within = put_is_within b.stmts x in
      let unsettled = group_unsettled next next next h.names h.tuples t b x.path x.tuple wid tid h.stored within (record { states = λ w e. e; tuples = λ u e. e })
      (valid_is_consistent b.catalog b.stmts may.valid) consistent (put_differs_at (keys_of b) b.stmts x) (h.stored.states.names.numbered x.path wid named) (h.stored.tuples.numbered x.tuple tid (sym read)) in
      let f : ValKey → Option Mark = with_row_at val_codec (row_for (keys_of b) b.stmts (path_of h.names) h.tuples.tuple) (row_said_at (keys_of b) next x.path wid tid x.tuple) in
      tells (keys_of b) next h.names h.tuples.tuple f
      (subst (λ (v : List Value). IsUnsettled (keys_of b) next h.names h.tuples.tuple f mid.kept wid (is_of_group (keys_of b) x.tuple.rel v)) (first b.catalog.rels h.stored.rels)
      (subst (λ (u : Tables). IsUnsettled (keys_of b) next h.names h.tuples.tuple f u wid (is_of_group (keys_of b) x.tuple.rel (key_of (keys_of b) x.tuple))) (sym made) unsettled))

module _ (t : Tables) (mid new : Seen) (x : Stmt) (wid tid : ℕ) (key : List Value) (stood : Bool) (s : Settled) (first : IsKeyIn t x.tuple key) (put : mid.kept ≡ row_put t x wid tid key)
    (had : stood ≡ is_some (tables.get t (place val_codec (key_made x wid tid key)))) (settles : SettlesGroup mid.kept new.kept wid x.tuple.rel key)
    (tells : TellsGroup mid new wid x.tuple.rel key s) (alone : SamePlacesBut (λ n. nat_eq n 11) mid.kept new.kept)
    (world : IsWorld t x.path wid) (fits : IsTupleRow x.tuple) (has : HasAt tuple_ix_codec t x.tuple (Some tid)) where
  pub counts_settle : (more : ℕ) → more ≡ capped (s.put + cond stood 0 1) → CountsSettled t new.kept x more s.taken
  counts_settle more sum b h may a z before after =
      let next = with_statement b.stmts x in
      let within = put_is_within b.stmts x in
      let told = settling_tells t mid new x wid tid key s first put tells world fits has b h may in
      let count = put_count t mid.kept (key_made x wid tid key) (x.sign, true) put a before in
      let few = over_few next next h.names h.tuples t b h.stored may.valid within.tuples a before in
      let stored = settled t mid.kept new.kept x wid tid key first put settles (λ n k out. alone (n ∷ k) out) world fits has b h may in
      let few_after = over_few next next stored.names stored.tuples new.kept (with_one b x) stored.stored may.next (λ u e. e) z after in
      let one : cond (is_some (tables.get t (place val_codec (key_made x wid tid key)))) 0 1 ≤ 1 = at_most (is_some (tables.get t (place val_codec (key_made x wid tid key)))) in
      let balances = told_balance mid new (a + cond (is_some (tables.get t (place val_codec (key_made x wid tid key)))) 0 1) z s.put s.taken alone count after (omega arith) (omega arith) told in
      let balance = balances.balance in
      let few_came = balances.few_came in
      let same : s.put + cond stood 0 1 ≡ s.put + cond (is_some (tables.get t (place val_codec (key_made x wid tid key)))) 0 1 = ap (λ (c : Bool). s.put + cond c 0 1) had in
      record { balance = omega arith; few = omega arith }
    where
      at_most : (c : Bool) → cond c 0 1 ≤ 1
      at_most true = omega arith
      at_most false = omega arith
