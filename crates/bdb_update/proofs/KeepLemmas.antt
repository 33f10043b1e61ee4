-- Numbers of worlds and of tuples go on to stand for what they stood for, step by step.
use Rattle.std.proofs.Common.{◌≡◌, ◌∙◌, ℕ, ◌-◌, Bool, false, nat_eq, take, List, [], ◌∷◌, length, Option, Some, None, MatchOption, refl, ap, sym, subst, inl, inr}
use Rattle.std.specs.Option.{option_map}
use Rattle.std.specs.FinMap as tables
use Rattle.std.proofs.lemmas.Bool.{cases_Bool, cond-true, cond-false}
use Rattle.bdb_base.specs.Bases.{Contents, is_user, with_statement, without_statement}
use Rattle.bdb_base.specs.States.{is_state}
use Rattle.bdb_base.specs.declared.kinds.Stmt.{Stmt}
use Rattle.bdb_base.specs.declared.tuple.Tuple.{Tuple}
use Rattle.bdb_base.proofs.BaseLemmas.{take_is_valid}
use Rattle.bdb_base.proofs.WorldLemmas.{valid_is_consistent, stands_is_explicit}
use Rattle.bdb_base.proofs.OptionLemmas.{none_is_some}
use Rattle.bdb_keep.specs.Tables.{Tables}
use Rattle.bdb_key.specs.Rows.{IsTupleRow}
use Rattle.bdb_names.proofs.NamedLemmas.{named_path, names_are_one, path_is_told}
use Rattle.bdb_tables.specs.Codec.{place}
use Rattle.bdb_tables.specs.InUse.{tuple_codec}
use Rattle.bdb_tables.specs.InUseLaws.{tuple_rows_are_one}
use Rattle.bdb_tables.specs.Names.{Names, path_of, without_name}
use Rattle.bdb_tables.specs.Rows.{Tuples, HoldsTuples, HoldsRows}
use Rattle.bdb_tables.specs.Stored.{SameBut, Stores}
use Rattle.bdb_tables.specs.States.{HoldsStates}
use Rattle.bdb_tables.proofs.SameLemmas.{states_still}
use Rattle.bdb_worlds.specs.Growth.{AddsStates, SameOutside, with_prefixes}
use Rattle.bdb_worlds.specs.Holding.{Worlds}
use Rattle.bdb_worlds.specs.Shrinking.{DropsStates, without_prefixes}
use Rattle.bdb_worlds.proofs.ReadLemmas.{found_is}
use Rattle.bdb_update.specs.Keeping.{KeepsNames, KeepsTuples}
use Rattle.bdb_update.specs.ChangeLaws.{is_of_worlds}
use Rattle.bdb_update.specs.Joining.{Arrive, MayJoin, Numbers, Settles, SomeMayJoin, is_of_tuples}
use Rattle.bdb_update.specs.Keys.{keys_of}
use Rattle.bdb_update.specs.Parting.{LosesWorlds, MayPart, Parts, SomeHasParted}
use Rattle.bdb_update.proofs.ArriveLemmas.{grown}
use Rattle.bdb_update.proofs.LostLemmas.{AreStages}
use Rattle.bdb_update.proofs.OneStored.{explicit_state}
use Rattle.bdb_update.proofs.PartCountLemmas.{put_back}
use Rattle.bdb_update.proofs.PrefixLemmas.{still_named}
use Rattle.bdb_update.proofs.StageLemmas.{belongs_parts}
use Rattle.bdb_update.proofs.TallyLemmas.{rows_alone}

abbrev worlds_of : (ℕ → Bool) → Names → Worlds
worlds_of users names = record { users = users; names = names }

-- ---- names

-- worlds come, and then their rows
pub names_come : (t u v : Tables) (x : Stmt) (worlds : ℕ) (new : List ℕ) → AddsStates t u x.path worlds new → SameOutside 6 10 t u → SameBut rows_alone u v → SomeMayJoin t x worlds → KeepsNames t v
names_come t u v x worlds new added outside same some n w e =
    let ns = some.stored.names in
    let g = grown t u x worlds new added outside some.base some.stored some.may some.counted in
    let states = states_still rows_alone u v same _ (with_prefixes ns x.path g.stood new) refl refl refl refl refl g.states in
    path_is_told _ (with_prefixes ns x.path g.stood new) v states n w (still_named ns x.path g.stood new n w g.least (named_path _ ns t some.stored.stored.states e))

stood_before : (ns : Names) (path : List ℕ) (len : ℕ) (gone : List ℕ) (n : ℕ) (w : List ℕ) → path_of (without_prefixes ns path len gone) n ≡ Some w → path_of ns n ≡ Some w
stood_before ns path len [] n w e = e
stood_before ns path len (m ∷ gone) n w e =
    let f = stood_before (without_name ns m (take len path)) path (len - 1) gone n w e in
    elim (cases_Bool (nat_eq n m)) [
      | inl a ↦ absurd (none_is_some w (sym (cond-true (nat_eq n m) None (path_of ns n) a) ∙ f))
      | inr a ↦ sym (cond-false (nat_eq n m) None (path_of ns n) a) ∙ f
    ]

-- worlds go, and then their rows
pub names_go : (t u v : Tables) (x : Stmt) (gone : List ℕ) → DropsStates t u x.path gone → SameBut rows_alone u v → SomeHasParted t x → KeepsNames v t
names_go t u v x gone drops same some n w e =
    let b = some.base in
    let ns = some.parted.names in
    let h = some.parted.stored in
    let named = h.worlds x.path ∙ explicit_state b.stmts x.path x.tuple x.sign (sym (stands_is_explicit b.stmts x) ∙ some.may.there) in
    let k = drops (worlds_of (is_user b.catalog.users) ns) h.states (belongs_parts b.catalog x some.may.belongs).users named in
    let less = without_prefixes ns x.path (length x.path) gone in
    let states = states_still rows_alone u v same _ less refl refl refl refl refl k.states in
    path_is_told _ ns t h.states n w (stood_before ns x.path (length x.path) gone n w (named_path _ less v states e))

-- which paths numbers stand for, by names of the worlds
names_kept : (users others : ℕ → Bool) (ns ms : Names) (t u : Tables) → HoldsStates users ns t → HoldsStates others ms u → KeepsNames t u → (n : ℕ) (w : List ℕ) → path_of ns n ≡ Some w → path_of ms n ≡ Some w
names_kept users others ns ms t u h k keeps n w e = named_path others ms u k (keeps n w (path_is_told users ns t h n w e))

-- ---- tuples

pub tuple_stays : (told less : List Stmt) (ts us : Tuples) (t u : Tables) → HoldsTuples told ts t → HoldsTuples less us u → KeepsTuples t u → (n : ℕ) (y : Tuple) → ts.tuple n ≡ Some y → us.tuple n ≡ Some y
tuple_stays told less ts us t u h k keeps n y e =
    let num = h.sized n y e in
    let row : IsTupleRow y = subst (λ (o : Option Tuple). MatchOption o (Unit {0}) IsTupleRow) e (h.tuples.written n num) in
    let found : tables.get t (place tuple_codec n) ≡ Some (tuple_codec.row_bytes y) = h.tuples.rows n num ∙ ap (option_map tuple_codec.row_bytes) e in
    sym (found_is tuple_codec tuple_rows_are_one u us.tuple k.tuples n num (Some y) (record { in_grammar = row; found = keeps (tuple_codec.key_bytes n) (tuple_codec.row_bytes y) found }))

pub kept_by_same : (test : ℕ → Bool) (t u : Tables) → test 4 ≡ false → SameBut test t u → KeepsTuples t u
kept_by_same test t u out same k r e = same 4 k out ∙ e

pub kept_back : (test : ℕ → Bool) (t u : Tables) → test 4 ≡ false → SameBut test t u → KeepsTuples u t
kept_back test t u out same k r e = sym (same 4 k out) ∙ e

-- ---- a statement joins a base

pub stages_joined : (t u v w : Tables) (x : Stmt) (wid : ℕ) → Arrive t u x wid → Numbers u v x → Settles v w x → KeepsNames t u → KeepsTuples u v
    → SameBut is_of_worlds t u → SameBut is_of_tuples u v → SameBut rows_alone v w → (b : Contents) → Stores t b → MayJoin b x → AreStages (keys_of b) b.stmts x t u w
stages_joined t u v w x wid arrive numbers settles names keeps worlds tuples rows b s may =
    let a = (arrive b s may).worlds in
    let q = settles b (numbers b a may) may in
    let states = states_still rows_alone v w rows _ a.names refl refl refl refl refl (states_still is_of_tuples u v tuples _ a.names refl refl refl refl refl a.stored.states) in
    record {
      few = s.names;
      all = a.names;
      last = q.names;
      first_tuples = s.tuples;
      tuples = a.tuples;
      last_tuples = q.tuples;
      told = b.stmts;
      told_first = b.stmts;
      told_last = with_statement b.stmts x;
      consistent = valid_is_consistent b.catalog b.stmts may.valid;
      few_names = s.stored.states.names;
      all_names = a.stored.states.names;
      few_are = s.stored.worlds;
      all_are = a.stored.worlds;
      first_held = s.stored.tuples;
      held = a.stored.tuples;
      last_held = q.stored.tuples;
      first_rows = s.stored.rows;
      rows = a.stored.rows;
      last_rows = q.stored.rows;
      names_stay = names_kept _ _ s.names a.names t u s.stored.states a.stored.states names;
      names_last = λ n p e. names_are_one _ _ q.names a.names w q.stored.states states n ∙ e;
      tuples_stay = tuple_stays b.stmts b.stmts s.tuples a.tuples t u s.stored.tuples a.stored.tuples (kept_by_same is_of_worlds t u refl worlds);
      tuples_stood = tuple_stays b.stmts b.stmts a.tuples s.tuples u t a.stored.tuples s.stored.tuples (kept_back is_of_worlds t u refl worlds);
      tuples_last = tuple_stays b.stmts (with_statement b.stmts x) a.tuples q.tuples u w a.stored.tuples q.stored.tuples (λ k r e. kept_by_same rows_alone v w refl rows k r (keeps k r e));
    }

-- ---- a statement leaves a base

pub stages_left : (t u v : Tables) (x : Stmt) → Parts t u x → LosesWorlds u v x → KeepsNames v u → SameBut rows_alone t u → SameBut is_of_worlds u v
    → (b : Contents) → Stores t b → MayPart b x → AreStages (keys_of b) (without_statement b.stmts x) x v u t
stages_left t u v x parts loses names rows worlds b s may =
    let less = without_statement b.stmts x in
    let p = parts b s may in
    let l = loses b p may in
    let back : with_statement less x ≡ b.stmts = put_back b.stmts x may.valid.stmts.sorted may.there in
    let states = states_still rows_alone t u rows _ s.names refl refl refl refl refl s.stored.states in
    record {
      few = l.names;
      all = p.names;
      last = s.names;
      first_tuples = l.tuples;
      tuples = p.tuples;
      last_tuples = s.tuples;
      told = b.stmts;
      told_first = b.stmts;
      told_last = b.stmts;
      consistent = valid_is_consistent b.catalog less (take_is_valid b.catalog b.stmts x may.valid);
      few_names = l.stored.states.names;
      all_names = p.stored.states.names;
      few_are = l.stored.worlds;
      all_are = λ w. p.stored.worlds w ∙ ap (λ (stmts : List Stmt). is_state stmts w) (sym back);
      first_held = l.stored.tuples;
      held = p.stored.tuples;
      last_held = s.stored.tuples;
      first_rows = l.stored.rows;
      rows = p.stored.rows;
      last_rows = subst (λ (stmts : List Stmt). HoldsRows (keys_of b) stmts (path_of s.names) s.tuples.tuple t) (sym back) s.stored.rows;
      names_stay = names_kept _ _ l.names p.names v u l.stored.states p.stored.states names;
      names_last = λ n w e. names_are_one _ _ s.names p.names u states p.stored.states n ∙ e;
      tuples_stay = tuple_stays b.stmts b.stmts l.tuples p.tuples v u l.stored.tuples p.stored.tuples (kept_back is_of_worlds u v refl worlds);
      tuples_stood = tuple_stays b.stmts b.stmts p.tuples l.tuples u v p.stored.tuples l.stored.tuples (kept_by_same is_of_worlds u v refl worlds);
      tuples_last = tuple_stays b.stmts b.stmts p.tuples s.tuples u t p.stored.tuples s.stored.tuples (kept_back rows_alone t u refl rows);
    }
