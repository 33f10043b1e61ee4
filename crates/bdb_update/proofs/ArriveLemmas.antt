-- The worlds of a statement come, with their rows.
use Rattle.std.proofs.Common.{◌≡◌, ◌∙◌, ℕ, ◌+◌, ◌≤◌, Bool, true, false, ◌&&◌, ◌||◌, nat_eq, nat_le, List, [], ◌∷◌, ◌++◌, refl, ap, sym, suc, arith, length, take, drop, inl, inr, Some, None, is_some}
use Rattle.std.proofs.lemmas.Bool.{false≢true, cases_Bool, or_left, or_right, leb-true, cond-true}
use Rattle.std.proofs.lemmas.Bool.Decides.{nat_tests}
use Rattle.std.proofs.lemmas.List.{take-append-drop, take_all}
use Rattle.bdb_base.specs.Bases.{Contents, is_user, with_statement, world_count}
use Rattle.bdb_base.specs.Limits.{most_worlds, most_statements}
use Rattle.bdb_base.specs.Same.{same_path}
use Rattle.bdb_base.specs.SameLemmas.{same_path-Decides}
use Rattle.bdb_base.specs.Segments.{is_prefix}
use Rattle.bdb_base.proofs.SegmentLemmas.{is_prefix_begins}
use Rattle.bdb_base.specs.States.{is_state}
use Rattle.bdb_base.specs.declared.kinds.Stmt.{Stmt}
use Rattle.bdb_base.proofs.WorldLemmas.{is_prefix_itself, valid_is_consistent}
use Rattle.bdb_keep.specs.Tables.{Tables}
use Rattle.bdb_names.proofs.NamedLemmas.{names_are_one}
use Rattle.bdb_paths.proofs.StateLemmas.{put_makes_states}
use Rattle.bdb_tables.specs.InUse.{val_codec}
use Rattle.bdb_tables.specs.Names.{Names, number_of, is_named, with_name}
use Rattle.bdb_tables.specs.States.{HoldsStates}
use Rattle.bdb_worlds.specs.Growth.{with_prefixes, MayGrow, SomeMayGrow, HasGrown, AddsStates, SameOutside}
use Rattle.bdb_worlds.specs.Holding.{Worlds}
use Rattle.bdb_update.proofs.KeyLemmas.{lengths_fit}
use Rattle.bdb_update.specs.ChangeLaws.{is_of_worlds}
use Rattle.bdb_update.specs.Filling.{Before, CountsCome, HaveCome, SomeHaveCome, FillsWorlds, names_now}
use Rattle.bdb_update.specs.Joining.{CountsArrived, MayJoin, SomeMayJoin, IsWorld, IsWorldFound, IsWorldIfAny, last_or, HaveArrived, Arrive}
use Rattle.bdb_tables.specs.Stored.{SameBut, Stores}
use Rattle.bdb_update.proofs.CountLemmas.{numbers_are_counted}
use Rattle.bdb_update.proofs.OneStored.{stored_base_is_one}
use Rattle.bdb_update.proofs.ReachLemmas.{other_worlds_store}
use Rattle.bdb_update.proofs.ComeLemmas.{rows_one, rows_same}
use Rattle.bdb_update.proofs.WithinLemmas.{same_reach_stores}
use Rattle.bdb_tables.proofs.SameLemmas.{gives_still, states_still, tuples_still}
use Rattle.bdb_update.proofs.StageLemmas.{belongs_parts}
use Rattle.bdb_update.specs.Keys.{keys_of}

or_turned : (a b : Bool) → (a || b) ≡ (b || a)
or_turned true true = refl
or_turned true false = refl
or_turned false true = refl
or_turned false false = refl

-- ---- before

module _ (t : Tables) (x : Stmt) (worlds : ℕ) (b : Contents) (s : Stores t b) (may : MayJoin b x) (counted : worlds ≡ world_count b.stmts) where
  abbrev pub ws : Worlds
  ws = record { users = is_user b.catalog.users; names = s.names }

  pub may_grow : MayGrow ws t x.path worlds
  may_grow =
      let parts = belongs_parts b.catalog x may.belongs in
      let few : world_count b.stmts ≤ most_worlds = leb-true (world_count b.stmts) most_worlds may.valid.stmts.few_worlds in
      let short = parts.short in
      record {
        states = s.stored.states;
        own = parts.users;
        count = numbers_are_counted s.names s.stored.states.names b.stmts s.stored.worlds ∙ sym counted;
        stands = 0;
        within = omega arith;
        named = ap is_some s.stored.states.names.root;
        room = omega arith;
        short = omega arith;
      }

pub some_may_grow : (t : Tables) (x : Stmt) (worlds : ℕ) → SomeMayJoin t x worlds → SomeMayGrow t x.path worlds
some_may_grow t x worlds s = record { worlds_held = ws t x worlds s.base s.stored s.may s.counted; may = may_grow t x worlds s.base s.stored s.may s.counted }

-- ---- the number of the path

named_last : (ns : Names) (path : List ℕ) (len wid : ℕ) (new : List ℕ) → number_of ns (take len path) ≡ Some wid → number_of (with_prefixes ns path len new) (take (len + length new) path) ≡ Some (last_or wid new)
named_last ns path len wid [] e = let f : len + 0 ≡ len = omega arith in ap (λ k. number_of ns (take k path)) f ∙ e
named_last ns path len wid (n ∷ new) e =
    let p = take (suc len) path in
    let f : len + suc (length new) ≡ suc len + length new = omega arith in
    ap (λ k. number_of (with_prefixes (with_name ns n p) path (suc len) new) (take k path)) f
    ∙ named_last (with_name ns n p) path (suc len) n new (cond-true (same_path p p) (Some n) (number_of ns p) ((same_path-Decides p p).1 refl))

-- names of new ones do not rest on what was there
last_named : (ns : Names) (path : List ℕ) (len wid : ℕ) (new : List ℕ) → len + length new ≡ length path → (new ≡ [] → number_of ns path ≡ Some wid)
    → number_of (with_prefixes ns path len new) path ≡ Some (last_or wid new)
last_named ns path len wid [] whole old = old refl
last_named ns path len wid (n ∷ new) whole old =
    let p = take (suc len) path in
    let f : suc len + length new ≡ length path = omega arith in
    ap (number_of (with_prefixes (with_name ns n p) path (suc len) new)) (sym (take_all (suc len + length new) path (omega arith)))
    ∙ named_last (with_name ns n p) path (suc len) n new (cond-true (same_path p p) (Some n) (number_of ns p) ((same_path-Decides p p).1 refl))

-- ---- after

abbrev pub in_worlds : ℕ → Bool
in_worlds n = nat_le 6 n && nat_le n 10

wider : (n : ℕ) → is_of_worlds n ≡ false → in_worlds n ≡ false
wider n h = grind (arith, nat_tests)

rows_are_of_worlds : (n : ℕ) → is_of_worlds n ≡ false → nat_eq n 11 ≡ false
rows_are_of_worlds n h = grind (arith, nat_tests)

-- the tables of worlds have changed, and then the rows alone
pub worlds_then_rows : (t u v : Tables) → SameOutside 6 10 t u → SameBut (λ n. nat_eq n 11) u v → SameBut is_of_worlds t v
worlds_then_rows t u v a b n k out = b n k (rows_are_of_worlds n out) ∙ a n k (wider n out)

module _ (t u : Tables) (x : Stmt) (worlds : ℕ) (new : List ℕ) (added : AddsStates t u x.path worlds new) (outside : SameOutside 6 10 t u)
    (b : Contents) (s : Stores t b) (may : MayJoin b x) (counted : worlds ≡ world_count b.stmts) where
  abbrev pub held : Worlds
  held = ws t x worlds b s may counted

  pub grown : HasGrown held u x.path new
  grown = added held (may_grow t x worlds b s may counted)

  abbrev pub before : Before
  before = record { users = is_user b.catalog.users; names = s.names; keys = keys_of b; stmts = b.stmts; tuples = s.tuples; path = x.path; stood = grown.stood }

  pub have_come : HaveCome before u new
  have_come = record {
    names = s.stored.states.names;
    old = s.stored.worlds;
    whole = grown.whole;
    least = grown.least;
    states = grown.states;
    more = λ w e. grown.paths w ∙ or_left (is_named s.names w) (is_prefix w x.path) e;
    rows = gives_still in_worlds t u outside val_codec _ refl s.stored.rows;
  }

  module _ (v : Tables) (wid : ℕ) (first : IsWorldIfAny t x.path wid) (filled : FillsWorlds u v new) (same : SameBut (λ n. nat_eq n 11) u v) where
    abbrev ms : Names
    ms = names_now before new

    states : HoldsStates (is_user b.catalog.users) ms v
    states = states_still (λ n. nat_eq n 11) u v same _ ms refl refl refl refl refl grown.states

    worlds_are : (w : List ℕ) → is_named ms w ≡ is_state (with_statement b.stmts x) w
    worlds_are w = grown.paths w ∙ ap (λ c. c || is_prefix w x.path) (s.stored.worlds w) ∙ or_turned (is_state b.stmts w) (is_prefix w x.path) ∙ sym (put_makes_states b.stmts x w)

    old_number : new ≡ [] → number_of s.names x.path ≡ Some wid
    old_number none = first held s.stored.states (belongs_parts b.catalog x may.belongs).users
        (sym (ap (λ ns. is_named ns x.path) (ap (with_prefixes s.names x.path grown.stood) none))
        ∙ grown.paths x.path ∙ or_right (is_named s.names x.path) (is_prefix x.path x.path) (is_prefix_itself x.path))

    number : number_of ms x.path ≡ Some (last_or wid new)
    number = last_named s.names x.path grown.stood wid new grown.whole old_number

    here : IsWorld v x.path (last_or wid new)
    here w h own =
        let ours = states.names.numbered x.path (last_or wid new) number in
        h.names.named (last_or wid new) x.path (sym (names_are_one (is_user b.catalog.users) w.users ms w.names v states h (last_or wid new)) ∙ ours)

    pub arrived : HaveArrived v b x (last_or wid new)
    arrived = record {
      worlds = record {
        names = ms;
        tuples = s.tuples;
        stored = other_worlds_store b.stmts (with_statement b.stmts x) b.stmts s.names ms s.tuples t v b s.stored states worlds_are (filled before have_come) (worlds_then_rows t u v outside same);
      };
      here = here;
    }

pub arrive : (t u v : Tables) (x : Stmt) (worlds wid : ℕ) (new : List ℕ) → AddsStates t u x.path worlds new → SameOutside 6 10 t u → IsWorldIfAny t x.path wid → FillsWorlds u v new
    → SameBut (λ n. nat_eq n 11) u v → SomeMayJoin t x worlds → Arrive t v x (last_or wid new)
arrive t u v x worlds wid new added outside first filled same some b s may = arrived t u x worlds new added outside b s may counted v wid first filled same
  where
    counted : worlds ≡ world_count b.stmts
    counted = some.counted ∙ ap (λ (c : Contents). world_count c.stmts) (stored_base_is_one t some.base b some.stored s some.may.valid may.valid)

pub some_have_come : (t u : Tables) (x : Stmt) (worlds : ℕ) (new : List ℕ) → AddsStates t u x.path worlds new → SameOutside 6 10 t u → SomeMayJoin t x worlds → SomeHaveCome u new
some_have_come t u x worlds new added outside some = record {
  before = before t u x worlds new added outside some.base some.stored some.may some.counted;
  come = have_come t u x worlds new added outside some.base some.stored some.may some.counted;
}

-- ---- how many rows came

pub counts_arrive : (t u v : Tables) (x : Stmt) (worlds n : ℕ) (new : List ℕ) → AddsStates t u x.path worlds new → SameOutside 6 10 t u → CountsCome u v new n → SomeMayJoin t x worlds → CountsArrived t v x n
counts_arrive t u v x worlds n new added outside counts some b s may a z first last =
    let counted : worlds ≡ world_count b.stmts = some.counted ∙ ap (λ (c : Contents). world_count c.stmts) (stored_base_is_one t some.base b some.stored s some.may.valid may.valid) in
    counts (before t u x worlds new added outside b s may counted) b.stmts (have_come t u x worlds new added outside b s may counted)
    (record {
      tuples = tuples_still in_worlds t u outside b.stmts s.tuples refl refl s.stored.tuples;
      within = λ w e. e;
      lengths = lengths_fit t b.catalog.rels s.stored.rels;
      consistent = valid_is_consistent b.catalog b.stmts may.valid;
      few = leb-true (length b.stmts) most_statements may.valid.stmts.few_stmts;
    })
    a z (rows_same t u a (λ k. outside 11 k refl) first) last

-- ---- a path that is a state already

-- where the path is no state, any number will do
pub no_world : (t : Tables) (w : List ℕ) (wid : ℕ) → IsWorldFound t w None → IsWorldIfAny t w wid
no_world t w wid none s h own named = absurd (false≢true (sym (none s h own) ∙ named))

pub rows_stay : (t : Tables) (x : Stmt) → CountsArrived t t x 0
rows_stay t x b s may a z first last = let e = rows_one t z a last first in omega (arith, e)

-- its statements reach what they reached without this one
pub arrived_already : (t : Tables) (x : Stmt) (wid : ℕ) → IsWorld t x.path wid → Arrive t t x wid
arrived_already t x wid here b s may = record {
  worlds = record { names = s.names; tuples = s.tuples; stored = same_reach_stores b.stmts (with_statement b.stmts x) b.stmts b.stmts s.names s.tuples t b s.stored reach (λ u. refl) };
  here = here;
}
  where
    ws : Worlds
    ws = record { users = is_user b.catalog.users; names = s.names }

    named : is_named s.names x.path ≡ true
    named = ap is_some (here ws s.stored.states (belongs_parts b.catalog x may.belongs).users)

    front : (w : List ℕ) → is_prefix w x.path ≡ true → is_state b.stmts w ≡ true
    front w e =
        let begins : w ≡ take (length w) x.path = (same_path-Decides w (take (length w) x.path)).0 (sym (is_prefix_begins w x.path) ∙ e) in
        sym (s.stored.worlds w)
        ∙ s.stored.states.names.prefixes w (drop (length w) x.path)
        (ap (is_named s.names) (ap (λ v. v ++ drop (length w) x.path) begins ∙ take-append-drop (length w) x.path) ∙ named)

    reach : (w : List ℕ) → is_state (with_statement b.stmts x) w ≡ is_state b.stmts w
    reach w = put_makes_states b.stmts x w ∙ elim (cases_Bool (is_prefix w x.path)) [
      | inl e ↦ ap (λ c. c || is_state b.stmts w) e ∙ sym (front w e)
      | inr e ↦ ap (λ c. c || is_state b.stmts w) e
    ]
