-- A statement's row is taken away, and its group settled.
use Rattle.std.proofs.Common.{◌≡◌, ◌∙◌, ℕ, arith, true, nat_eq, List, [], ◌∷◌, refl, ap, sym, subst, Option, Some, None, is_some}
use Rattle.std.specs.Option.{option_map}
use Rattle.std.specs.FinMap as tables
use Rattle.bdb_base.specs.Bases.{Contents, is_user, without_statement}
use Rattle.bdb_base.specs.Worlds.{explicit, IsConsistent}
use Rattle.bdb_base.specs.declared.kinds.Stmt.{Stmt}
use Rattle.bdb_base.specs.declared.kinds.Value.{Value}
use Rattle.bdb_base.proofs.WorldLemmas.{valid_is_consistent, stands_is_explicit}
use Rattle.bdb_keep.specs.Seen.{Seen}
use Rattle.bdb_keep.specs.Tables.{Tables}
use Rattle.bdb_key.specs.Grammar.{IsNum}
use Rattle.bdb_key.specs.Rows.{IsTupleRow, MayBeTuple}
use Rattle.bdb_tables.specs.Codec.{HasAt, place}
use Rattle.bdb_tables.specs.InUse.{ValKey, IsValKey, tuple_codec, tuple_ix_codec, val_codec}
use Rattle.bdb_tables.specs.Marks.{Mark, explicit_of, explicit_sign}
use Rattle.bdb_tables.specs.Names.{path_of}
use Rattle.bdb_tables.specs.Rows.{row_for}
use Rattle.bdb_tables.specs.Writes.{with_change, with_row_at}
use Rattle.bdb_tables.proofs.Fitting.{belonging_may_be}
use Rattle.bdb_val.specs.Counts.{TellsDifferences}
use Rattle.bdb_val.specs.Groups.{IsUnsettled, SettlesGroup, TellsGroup}
use Rattle.bdb_val.specs.Others.{SamePlacesBut}
use Rattle.bdb_val.specs.Reads.{HaveTuples, is_of_group}
use Rattle.bdb_val.specs.Settling.{row_key}
use Rattle.bdb_val.specs.declared.stored.Settled.{Settled}
use Rattle.bdb_val.proofs.HeldLemmas.{held_rows_are_explicit}
use Rattle.bdb_val.proofs.ReadLemmas.{key_fits}
use Rattle.bdb_val.proofs.StateLemmas.{changes_keep}
use Rattle.bdb_update.proofs.KeyLemmas.{IsKeyIn, lengths_fit}
use Rattle.bdb_update.specs.Differing.{explicit_row, row_said_at}
use Rattle.bdb_update.specs.Joining.{IsWorld, key_made}
use Rattle.bdb_update.specs.Keys.{keys_of}
use Rattle.bdb_update.specs.Parting.{MayPart, SomeMayPart, Parts, PartsRows, row_taken}
use Rattle.bdb_tables.specs.Stored.{SameBut, Stores}
use Rattle.bdb_update.specs.Tallies.{HasRowCount}
use Rattle.bdb_update.proofs.DifferLemmas.{drop_differs_at}
use Rattle.bdb_update.proofs.GroupLemmas.{group_unsettled, settled_group_stores}
use Rattle.bdb_tables.proofs.SignLemmas.{one_sign}
use Rattle.bdb_update.proofs.PartRowLemmas.{one_row_less}
use Rattle.bdb_update.proofs.PartWorldLemmas.{consistent_before}
use Rattle.bdb_tables.proofs.SameLemmas.{change_same, same_then}
use Rattle.bdb_tables.proofs.SignLemmas.{drop_says_none}
use Rattle.bdb_update.proofs.StageLemmas.{belongs_parts, over_has_tuples}
use Rattle.bdb_update.proofs.TallyLemmas.{told_balance}
use Rattle.bdb_update.proofs.TupleLemmas.{number_read}
use Rattle.bdb_update.proofs.WithinLemmas.{drop_is_within}

-- a statement's tuple may be written
pub part_may_be_tuple : (b : Contents) (x : Stmt) → MayPart b x → MayBeTuple x.tuple
part_may_be_tuple b x may = (belonging_may_be b.catalog x may.valid.catalog may.belongs).tuple

abbrev row_of : ℕ → ℕ → List Value → ℕ → ValKey
row_of wid rel v tid = (wid, rel, v, tid)

-- a statement of a stored base has a row at its path's world
explicit_has_row : (t : Tables) (b : Contents) (x : Stmt) (h : Stores t b) → IsConsistent (keys_of b) b.stmts → (wid tid : ℕ) → path_of h.names wid ≡ Some x.path → h.tuples.tuple tid ≡ Some x.tuple
    → explicit b.stmts x.path x.tuple x.sign ≡ true → is_some (tables.get t (place val_codec (row_key (keys_of b) wid tid x.tuple))) ≡ true
explicit_has_row t b x h c wid tid path tuple there =
    let ns = h.names in
    let has = held_rows_are_explicit (keys_of b) b.stmts ns h.tuples t (lengths_fit t b.catalog.rels h.stored.rels) h.stored.states.names (λ p e. h.stored.worlds p ∙ e) c h.stored.tuples h.stored.rows in
    let fits = key_fits (keys_of b) h.tuples.tuple _ t has.rows wid tid x.tuple (has.sized wid x.path path) tuple in
    ap is_some (h.stored.rows.rows (row_key (keys_of b) wid tid x.tuple) fits)
    ∙ said (row_for (keys_of b) b.stmts (path_of ns) h.tuples.tuple (row_key (keys_of b) wid tid x.tuple)) (has.explicit wid x.path tid x.tuple path tuple ∙ one_sign (keys_of b) b.stmts x.path x.tuple x.sign c there)
  where
    said : (o : Option Mark) → explicit_of o ≡ Some x.sign → is_some (option_map val_codec.row_bytes o) ≡ true
    said None e = absurd cc
    said (Some m) e = refl

module _ (t m v : Tables) (x : Stmt) (wid tid : ℕ) (key : List Value) (first : IsKeyIn t x.tuple key)
    (taken : m ≡ row_taken t x wid tid key)
    (settles : SettlesGroup m v wid x.tuple.rel key) (same : SameBut (λ n. nat_eq n 11) m v)
    (world : IsWorld t x.path wid) (fits : IsTupleRow x.tuple) (has : HasAt tuple_ix_codec t x.tuple (Some tid)) where
  pub parted : Parts t v x
  parted b h may =
      let next = without_statement b.stmts x in
      let consistent : IsConsistent (keys_of b) b.stmts = valid_is_consistent b.catalog b.stmts may.valid in
      let said : explicit_sign next x.path x.tuple ≡ None = drop_says_none (keys_of b) b.stmts x consistent (sym (stands_is_explicit b.stmts x) ∙ may.there) in
      let key_is : row_key (keys_of b) wid tid x.tuple ≡ (wid, x.tuple.rel, key, tid) = ap (λ (z : List Value). row_of wid x.tuple.rel z tid) (first b.catalog.rels h.stored.rels) in
      let made : m ≡ with_change val_codec t (row_said_at (keys_of b) next x.path wid tid x.tuple) = taken
      ∙ sym (ap (λ (k : ValKey). with_change val_codec t (k, explicit_row (explicit_sign next x.path x.tuple))) key_is
      ∙ ap (λ o. with_change val_codec t ((wid, x.tuple.rel, key, tid), explicit_row o)) said) in
      let named = world (record { users = is_user b.catalog.users; names = h.names }) h.stored.states (belongs_parts b.catalog x may.belongs).users in
      let read = number_read b.stmts h.tuples t x.tuple (Some tid) h.stored.tuples fits has in
      record {
        names = h.names;
        tuples = h.tuples;
        stored = settled_group_stores b.stmts b.stmts next h.names h.tuples t v b x.path x.tuple wid tid h.stored (record { states = λ w e. e; tuples = λ u e. e }) (drop_is_within b.stmts x)
            consistent (consistent_before (keys_of b) b.stmts x consistent) (drop_differs_at (keys_of b) b.stmts x) (h.stored.states.names.numbered x.path wid named) (h.stored.tuples.numbered x.tuple tid (sym read))
            (subst (λ (z : List Value). SettlesGroup (with_change val_codec t (row_said_at (keys_of b) next x.path wid tid x.tuple)) v wid x.tuple.rel z) (sym (first b.catalog.rels h.stored.rels))
            (subst (λ (z : Tables). SettlesGroup z v wid x.tuple.rel key) made settles))
            (same_then (λ n. nat_eq n 11) t (with_change val_codec t (row_said_at (keys_of b) next x.path wid tid x.tuple)) v (change_same val_codec (λ n. nat_eq n 11) t (row_said_at (keys_of b) next x.path wid tid x.tuple) refl)
            (subst (λ (z : Tables). SameBut (λ n. nat_eq n 11) z v) made same));
      }

-- what is told of the group's rows
module _ (t : Tables) (mid new : Seen) (x : Stmt) (wid tid : ℕ) (key : List Value) (s : Settled) (first : IsKeyIn t x.tuple key)
    (taken : mid.kept ≡ row_taken t x wid tid key) (tells : TellsGroup mid new wid x.tuple.rel key s)
    (world : IsWorld t x.path wid) (fits : IsTupleRow x.tuple) (has : HasAt tuple_ix_codec t x.tuple (Some tid)) where
  pub parting_tells : (b : Contents) → Stores t b → MayPart b x → TellsDifferences mid new s.put s.taken
  parting_tells b h may =
      let next = without_statement b.stmts x in
      let consistent : IsConsistent (keys_of b) b.stmts = valid_is_consistent b.catalog b.stmts may.valid in
      let less = consistent_before (keys_of b) b.stmts x consistent in
      let there = sym (stands_is_explicit b.stmts x) ∙ may.there in
      let said : explicit_sign next x.path x.tuple ≡ None = drop_says_none (keys_of b) b.stmts x consistent there in
      let key_is : row_key (keys_of b) wid tid x.tuple ≡ (wid, x.tuple.rel, key, tid) = ap (λ (y : List Value). row_of wid x.tuple.rel y tid) (first b.catalog.rels h.stored.rels) in
      let made : mid.kept ≡ with_change val_codec t (row_said_at (keys_of b) next x.path wid tid x.tuple) = taken
      ∙ sym (ap (λ (k : ValKey). with_change val_codec t (k, explicit_row (explicit_sign next x.path x.tuple))) key_is
      ∙ ap (λ o. with_change val_codec t ((wid, x.tuple.rel, key, tid), explicit_row o)) said) in
      let named = world (record { users = is_user b.catalog.users; names = h.names }) h.stored.states (belongs_parts b.catalog x may.belongs).users in
      let path = h.stored.states.names.numbered x.path wid named in
      let tuple = h.stored.tuples.numbered x.tuple tid (sym (number_read b.stmts h.tuples t x.tuple (Some tid) h.stored.tuples fits has)) in
      let unsettled = group_unsettled b.stmts b.stmts next h.names h.tuples t b x.path x.tuple wid tid h.stored (record { states = λ w e. e; tuples = λ u e. e }) (drop_is_within b.stmts x)
      consistent less (drop_differs_at (keys_of b) b.stmts x) path tuple in
      let changed : ValKey → Option Mark = with_row_at val_codec (row_for (keys_of b) b.stmts (path_of h.names) h.tuples.tuple) (row_said_at (keys_of b) next x.path wid tid x.tuple) in
      tells (keys_of b) next h.names h.tuples.tuple changed
      (subst (λ (v : Tables). IsUnsettled (keys_of b) next h.names h.tuples.tuple changed v wid (is_of_group (keys_of b) x.tuple.rel key)) (sym made)
      (subst (λ (y : List Value). IsUnsettled (keys_of b) next h.names h.tuples.tuple changed (with_change val_codec t (row_said_at (keys_of b) next x.path wid tid x.tuple)) wid (is_of_group (keys_of b) x.tuple.rel y)) (first b.catalog.rels h.stored.rels) unsettled))

-- it balances the numbers of rows
module _ (t : Tables) (mid new : Seen) (x : Stmt) (wid tid : ℕ) (key : List Value) (s : Settled) (first : IsKeyIn t x.tuple key)
    (taken : mid.kept ≡ row_taken t x wid tid key)
    (tells : TellsGroup mid new wid x.tuple.rel key s) (same : SamePlacesBut (λ n. nat_eq n 11) mid.kept new.kept)
    (world : IsWorld t x.path wid) (fits : IsTupleRow x.tuple) (has : HasAt tuple_ix_codec t x.tuple (Some tid)) where
  pub parted_rows : PartsRows t new.kept x s.put s.taken
  parted_rows b h may n m a z ln lm =
      let consistent : IsConsistent (keys_of b) b.stmts = valid_is_consistent b.catalog b.stmts may.valid in
      let there = sym (stands_is_explicit b.stmts x) ∙ may.there in
      let key_is : row_key (keys_of b) wid tid x.tuple ≡ (wid, x.tuple.rel, key, tid) = ap (λ (y : List Value). row_of wid x.tuple.rel y tid) (first b.catalog.rels h.stored.rels) in
      let named = world (record { users = is_user b.catalog.users; names = h.names }) h.stored.states (belongs_parts b.catalog x may.belongs).users in
      let path = h.stored.states.names.numbered x.path wid named in
      let tuple = h.stored.tuples.numbered x.tuple tid (sym (number_read b.stmts h.tuples t x.tuple (Some tid) h.stored.tuples fits has)) in
      let told = parting_tells t mid new x wid tid key s first taken tells world fits has b h may in
      let row = explicit_has_row t b x h consistent wid tid path tuple there in
      let one = one_row_less t (key_made x wid tid key) n a (ap (λ (k : ValKey). is_some (tables.get t (place val_codec k))) (sym key_is) ∙ row) in
      let few = one.one in
      let e = told_balance mid new one.left m s.put s.taken same (subst (λ (v : Tables). HasRowCount v one.left) (sym taken) one.rows) z (omega arith) lm told in
      let balance = e.balance in
      let came = e.few_came in
      let went = e.few_went in
      record { balance = omega arith; few_came = came; few_went = omega arith }

-- after the row is taken away each row has its tuple
pub row_gone_tuple : (t m : Tables) (x : Stmt) (wid tid : ℕ) (key : List Value) → SomeMayPart t x → IsTupleRow x.tuple → IsNum tid → HasAt tuple_ix_codec t x.tuple (Some tid)
    → IsValKey (key_made x wid tid key) → m ≡ row_taken t x wid tid key → HaveTuples m
row_gone_tuple t m x wid tid key some fits num has key_fits taken =
    let b = some.base in
    let s = some.stored in
    let h = s.stored.tuples in
    let read = number_read b.stmts s.tuples t x.tuple (Some tid) h fits has in
    let there : is_some (tables.get t (place tuple_codec tid)) ≡ true = ap is_some (h.tuples.rows tid num ∙ ap (option_map tuple_codec.row_bytes) (h.numbered x.tuple tid (sym read))) in
    subst HaveTuples (sym taken) (changes_keep ((key_made x wid tid key, None) ∷ []) t
    (over_has_tuples b.stmts b.stmts s.names s.tuples t b s.stored) (record { key = key_fits; row = tt }, tt) (there, tt))
