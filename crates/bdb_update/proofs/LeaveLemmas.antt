-- The steps by which a statement leaves a base, one after the other, and what comes of them.
use Rattle.std.proofs.Common.{◌≡◌, ◌∙◌, ℕ, ◌+◌, ◌≤◌, Bool, true, false, not, cond, Some, None, Ok, Err, is_some, refl, ap, sym, subst, inl, inr, arith}
use Rattle.std.specs.Prelude.{sum_by}
use Rattle.std.specs.List.{list_any}
use Rattle.std.proofs.lemmas.Bool.{cases_Bool, cond-true, cond-false, false≢true}
use Rattle.bdb_base.specs.Bases.{Contents, IsValid, stands, without_statement}
use Rattle.bdb_base.specs.declared.kinds.Stmt.{Stmt}
use Rattle.bdb_base.specs.declared.tuple.Tuple.{Tuple}
use Rattle.bdb_base.proofs.BaseLemmas.{take_is_valid}
use Rattle.bdb_base.proofs.WorldLemmas.{explicit_tuple, stands_is_explicit}
use Rattle.bdb_base.proofs.OptionLemmas.{some_of}
use Rattle.bdb_canon.specs.Sizes.{counts_of}
use Rattle.bdb_canon.specs.declared.sizes.Counts.{Counts}
use Rattle.bdb_keep.specs.Seen.{Seen, GoesOn}
use Rattle.bdb_keep.specs.Tables.{Tables}
use Rattle.bdb_names.proofs.NamedLemmas.{names_are_one}
use Rattle.bdb_tables.specs.Codec.{HasAt}
use Rattle.bdb_tables.specs.InUse.{tuple_ix_codec}
use Rattle.bdb_tables.specs.Names.{path_of, number_of}
use Rattle.bdb_tables.specs.Rows.{row_for}
use Rattle.bdb_tables.specs.declared.tab.TabError.{TabError}
use Rattle.bdb_tables.specs.declared.tab.TabError.TheVariants as stop
use Rattle.bdb_val.specs.Steps.{IsChanging, counted}
use Rattle.bdb_update.specs.Calls.{MayMeet, SomeMayMeet, without_one}
use Rattle.bdb_update.specs.Differing.{has_told}
use Rattle.bdb_update.specs.Joining.{IsWorld, is_of_tuples}
use Rattle.bdb_update.specs.Keys.{keys_of}
use Rattle.bdb_update.specs.Leaving.{IsGoneWith, CountsLeft, MayLose, counts_less, standing, TriesDrop}
use Rattle.bdb_update.specs.Looking.{IsFinding, is_own}
use Rattle.bdb_update.specs.Parting.{MayPart, SomeMayPart, SomeHasParted, Parts, PartsRows, SomeHasFewerWorlds, LosesWorlds, CountsWorlds, LosesRows, LosesNumber, TellsNumber, PartsWith}
use Rattle.bdb_tables.specs.Stored.{SameBut, Stores}
use Rattle.bdb_update.specs.Tallies.{HasRowCount}
use Rattle.bdb_update.specs.declared.leaving.Gone.{Gone}
use Rattle.bdb_update.specs.declared.looking.Finding.{Finding}
use Rattle.bdb_update.proofs.CallLemmas.{IsQuiet}
use Rattle.bdb_update.proofs.ComeLemmas.{rows_one, rows_same}
use Rattle.bdb_update.proofs.ExamineLemmas.{world_if_any}
use Rattle.bdb_update.proofs.JudgeLemmas.{none_standing, standing_found}
use Rattle.bdb_update.proofs.OneStored.{explicit_state}
use Rattle.bdb_update.proofs.PartCountLemmas.{one_statement_less, tuples_less}
use Rattle.bdb_update.proofs.RowLemmas.{rows_of}
use Rattle.bdb_update.proofs.StoredCounts.{over_count, over_few, stored_count}
use Rattle.bdb_update.proofs.TryLemmas.{same_counts}
use Rattle.bdb_update.proofs.TupleLemmas.{number_read}
use Rattle.bdb_update.proofs.WithinLemmas.{drop_is_within}

-- ---- all steps together

pub some_parted : (t u : Tables) (x : Stmt) → SomeMayPart t x → Parts t u x → SomeHasParted u x
some_parted t u x s parts = record { base = s.base; parted = parts s.base s.stored s.may; may = s.may }

pub some_fewer : (u v : Tables) (x : Stmt) → SomeHasParted u x → LosesWorlds u v x → SomeHasFewerWorlds v x
some_fewer u v x s loses = record { base = s.base; worlds = loses s.base s.parted s.may; may = s.may }

pub leaves : (t u v w : Tables) (x : Stmt) → Parts t u x → LosesWorlds u v x → LosesNumber v w x → PartsWith t w x
leaves t u v w x parts loses number b s may = number b (loses b (parts b s may) may) may

pub counts_left : (t u v w : Tables) (x : Stmt) (g : Gone) (taken gone : ℕ) → g.went ≡ counted (counted (taken + 1) + gone) → Parts t u x → PartsRows t u x g.came taken → LosesWorlds u v x
    → CountsWorlds u x g.worlds → LosesRows u v gone → LosesNumber v w x → TellsNumber v x g.tuple → SameBut is_of_tuples v w → CountsLeft t x g
counts_left t u v w x g taken gone went parts part_rows loses worlds rows_less number tells same b s may =
    let less = without_statement b.stmts x in
    let valid : IsValid b.catalog less = take_is_valid b.catalog b.stmts x may.valid in
    let p = parts b s may in
    let n0 = (counts_of b).rows in
    let c0 : HasRowCount t n0 = stored_count t b s may.valid in
    let f0 : n0 ≤ 1310720000 = over_few b.stmts b.stmts s.names s.tuples t b s.stored may.valid (λ z e. e) n0 c0 in
    let within : (z : Tuple) → has_told less z ≡ true → has_told b.stmts z ≡ true = λ z e. (drop_is_within b.stmts x).tuples z e in
    let n1 = sum_by (rows_of (keys_of b) less p.names) p.names.used in
    let c1 : HasRowCount u n1 = over_count b.stmts b.stmts p.names p.tuples u (without_one b x) p.stored valid within in
    let f1 : n1 ≤ 1310720000 = over_few b.stmts b.stmts p.names p.tuples u (without_one b x) p.stored valid within n1 c1 in
    let first = part_rows b s may n0 n1 c0 c1 (omega arith) (omega arith) in
    let l = rows_less (row_for (keys_of b) less (path_of p.names) p.tuples.tuple) p.stored.rows n1 c1 (omega arith) in
    let fewer = loses b p may in
    let final : Stores w (without_one b x) = number b fewer may in
    let n2 = (counts_of (without_one b x)).rows in
    let c2 : HasRowCount w n2 = stored_count w (without_one b x) final valid in
    let one : l.left ≡ n2 = rows_one w l.left n2 (rows_same v w l.left (λ k. same 11 k refl) l.rows) c2 in
    let e = first.balance in
    let came = first.few_came in
    let h = l.balance in
    record { worlds = worlds b p may; tuple = tells b fewer may; balance = omega arith; few = omega arith }

-- ---- where a statement stands

module _ (t : Tables) (c : Counts) (x : Stmt) (p : Finding) (place : IsFinding t x p) (b : Contents) (may : MayMeet t c x b) where
  own_stands : list_any (is_own x) p.rows.items ≡ true → stands b.stmts x ≡ true
  own_stands e = standing_found t x p place b may.base.stored may.base.valid may.belongs e

  numbered : stands b.stmts x ≡ true → is_some p.tid ≡ true
  numbered e =
      let s = may.base.stored in
      ap is_some (number_read b.stmts s.tuples t x.tuple p.tid s.stored.tuples place.fits place.number) ∙ s.stored.tuples.stated x.tuple
      ∙ explicit_tuple b.stmts x.path x.tuple x.sign (sym (stands_is_explicit b.stmts x) ∙ e)

  pub none_stood : standing x p ≡ None → stands b.stmts x ≡ false
  none_stood e = elim (cases_Bool (list_any (is_own x) p.rows.items)) [
    | inr n ↦ none_standing t x p place b may.base.stored may.base.valid may.belongs n
    | inl o ↦ absurd (false≢true (ap is_some (sym (sym (cond-true (list_any (is_own x) p.rows.items) p.tid None o) ∙ e)) ∙ numbered (own_stands o)))
  ]

  pub stood : (tid : ℕ) → standing x p ≡ Some tid → stands b.stmts x ≡ true
  stood tid e = elim (cases_Bool (list_any (is_own x) p.rows.items)) [
    | inl o ↦ own_stands o
    | inr n ↦ let f : None ≡ Some tid = sym (cond-false (list_any (is_own x) p.rows.items) p.tid None n) ∙ e in absurd cc
  ]

  pub may_part : (tid : ℕ) → standing x p ≡ Some tid → MayPart b x
  may_part tid e = record { valid = may.base.valid; belongs = may.belongs; there = stood tid e }

  -- its path is a state
  pub world_here : (tid : ℕ) → standing x p ≡ Some tid → IsWorld t x.path p.wid
  world_here tid e w h own =
      let s = may.base.stored in
      let state = explicit_state b.stmts x.path x.tuple x.sign (sym (stands_is_explicit b.stmts x) ∙ stood tid e) in
      let n = some_of (number_of s.names x.path) (s.stored.worlds x.path ∙ state) in
      let path = names_are_one _ w.users s.names w.names t s.stored.states h n.0 in
      let named : number_of w.names x.path ≡ Some n.0 = h.names.named n.0 x.path (sym path ∙ s.stored.states.names.numbered x.path n.0 n.1) in
      world_if_any t x.path p.len p.wid place.reaches w h own (ap is_some named)

pub tid_is : (x : Stmt) (p : Finding) (tid : ℕ) → standing x p ≡ Some tid → p.tid ≡ Some tid
tid_is x p tid e = elim (cases_Bool (list_any (is_own x) p.rows.items)) [
  | inl o ↦ sym (cond-true (list_any (is_own x) p.rows.items) p.tid None o) ∙ e
  | inr n ↦ let f : None ≡ Some tid = sym (cond-false (list_any (is_own x) p.rows.items) p.tid None n) ∙ e in absurd cc
]

-- what is known of a statement that stands, where tables have only been read since
module _ (old mid : Seen) (c : Counts) (x : Stmt) (p : Finding) (place : IsFinding old.kept x p) (q : IsQuiet old mid) (tid : ℕ) (e : standing x p ≡ Some tid) where
  pub some_may_part : SomeMayMeet old.kept c x → SomeMayPart mid.kept x
  some_may_part s = subst (λ (t : Tables). SomeMayPart t x) (sym q.kept) (record { base = s.base; stored = s.may.base.stored; may = may_part old.kept c x p place s.base s.may tid e })

  pub world_now : SomeMayMeet old.kept c x → IsWorld mid.kept x.path p.wid
  world_now s = subst (λ (t : Tables). IsWorld t x.path p.wid) (sym q.kept) (world_here old.kept c x p place s.base s.may tid e)

  pub number_now : HasAt tuple_ix_codec mid.kept x.tuple (Some tid)
  number_now = subst (λ (t : Tables). HasAt tuple_ix_codec t x.tuple (Some tid)) (sym q.kept) (subst (HasAt tuple_ix_codec old.kept x.tuple) (tid_is x p tid e) place.number)

-- ---- sizes

abbrev one_or_none : Bool → ℕ
one_or_none b = cond b 1 0

turned : (b : Bool) → ◌≡◌ {A = ℕ} (cond (not b) 1 0) (cond b 0 1)
turned true = refl
turned false = refl

module _ (b : Contents) (x : Stmt) (may : MayPart b x) (g : Gone) (h : IsGoneWith b x g) where
  less_tuple : ◌≡◌ {A = ℕ} (cond g.tuple 1 0) (cond (has_told (without_statement b.stmts x) x.tuple) 0 1)
  less_tuple = ap one_or_none h.tuple ∙ turned (has_told (without_statement b.stmts x) x.tuple)

  pub may_lose : MayLose (counts_of b) g
  may_lose =
      let s = one_statement_less b.stmts x may.valid.stmts.sorted may.there in
      let t = tuples_less b.stmts x may.valid.stmts.sorted may.there in
      let u = less_tuple in
      let w = h.worlds in
      let r = h.balance in
      record { worlds = omega arith; tuple = omega arith; stmts = omega arith; came = h.few; went = omega arith }

  pub counts_are : counts_less (counts_of b) g ≡ counts_of (without_one b x)
  counts_are =
      let s = one_statement_less b.stmts x may.valid.stmts.sorted may.there in
      let t = tuples_less b.stmts x may.valid.stmts.sorted may.there in
      let u = less_tuple in
      let w = h.worlds in
      let r = h.balance in
      same_counts (counts_less (counts_of b) g) (counts_of (without_one b x)) (omega arith) (omega arith) (omega arith) (omega arith)

-- ---- what comes of trying

pub drop_absent : (old new : Seen) (c : Counts) (x : Stmt) (p : Finding) → IsQuiet old new → IsFinding old.kept x p → standing x p ≡ None → TriesDrop old new c x (Ok None)
drop_absent old new c x p q place e b may = record {
  none = none_stood old.kept c x p place b may e;
  untouched = record { kept = q.kept; writes = q.writes; counts = refl; goes_on = q.goes };
}

pub drop_stops : {T : Type 0} (old new : Seen) (c : Counts) (x : Stmt) (e : TabError) → IsChanging {T = T} {E = TabError} old new (Err e) stop.Fault → TriesDrop old new c x (Err e)
drop_stops old new c x stop.Fault h b may = record { rose = h.steps.cause.rose refl; stopped = record { dropped = h.steps.err; counts = refl } }
drop_stops old new c x stop.Memory h b may = record { dropped = h.steps.err; counts = refl }

module _ (old mid new : Seen) (c : Counts) (x : Stmt) (p : Finding) (place : IsFinding old.kept x p) (q : IsQuiet old mid) (tid : ℕ) (e : standing x p ≡ Some tid) (g : Gone) (left : CountsLeft mid.kept x g) where
  stored_now : (b : Contents) → MayMeet old.kept c x b → Stores mid.kept b
  stored_now b may = subst (λ (t : Tables). Stores t b) (sym q.kept) may.base.stored

  gone_with : (b : Contents) → MayMeet old.kept c x b → IsGoneWith b x g
  gone_with b may = left b (stored_now b may) (may_part old.kept c x p place b may tid e)

  pub may_lose_now : SomeMayMeet old.kept c x → MayLose c g
  may_lose_now s =
      subst (λ (k : Counts). MayLose k g) (sym s.may.base.counted) (may_lose s.base x (may_part old.kept c x p place s.base s.may tid e) g (gone_with s.base s.may))

  pub drop_leaves : (next : Counts) → next ≡ counts_less c g → PartsWith mid.kept new.kept x → GoesOn old new → TriesDrop old new c x (Ok (Some next))
  drop_leaves next is leaves goes b may =
      let part = may_part old.kept c x p place b may tid e in
      record {
        there = part.there;
        stored = leaves b (stored_now b may) part;
        counted = is ∙ ap (λ (k : Counts). counts_less k g) may.base.counted ∙ counts_are b x part g (gone_with b may);
        goes_on = goes;
      }
