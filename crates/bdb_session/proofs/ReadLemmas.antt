-- How often answering a query reads at most.
use Rattle.std.proofs.Common.{◌≡◌, ◌∙◌, ℕ, ◌+◌, ◌≤◌, ◌^◌, Bool, true, false, ◌&&◌, nat_eq, nat_lt, List, [], ◌∷◌, Option, Some, None, is_some, Result, length, map, refl, ap, sym, subst, inl, inr, arith}
use Rattle.std.specs.FinMap as tables
use Rattle.std.specs.FinMap.Entries.{is_sorted, below_all, is_sorted-where_key}
use Rattle.std.specs.List.{list_any, AllByRecursion}
use Rattle.std.specs.Option.{unwrap_or}
use Rattle.std.specs.Ordering.{is_lt}
use Rattle.std.proofs.lemmas.Bool.{cases_Bool, and_parts, and_from, or_cases, or_left, or_right, or_from, cond-false, false≢true, false_from_ne_true}
use Rattle.std.proofs.lemmas.Bool.Decides.{nat_tests}
use Rattle.std.proofs.lemmas.Cmp.{nat_list_cmp_total, tied_itself}
use Rattle.std.proofs.lemmas.List.{length-map}
use Rattle.bdb_base.specs.Bases.{Contents, distinct_count, key_lengths}
use Rattle.bdb_base.specs.Clash.{key_of}
use Rattle.bdb_base.specs.Safety.{query_fits}
use Rattle.bdb_base.specs.Same.{same_tuple, same_sign}
use Rattle.bdb_base.specs.SameLemmas.{same_tuple-Decides, same_sign-Decides}
use Rattle.bdb_base.specs.Segments.{is_prefix}
use Rattle.bdb_base.specs.States.{is_state, deepest_suffix}
use Rattle.bdb_base.specs.WorldRows.{has_row, same_row, world_of}
use Rattle.bdb_base.specs.Worlds.{explicit, stated}
use Rattle.bdb_base.specs.declared.kinds.Catalog.{Catalog}
use Rattle.bdb_base.specs.declared.kinds.Held.{Held}
use Rattle.bdb_base.specs.declared.kinds.Query.{Query}
use Rattle.bdb_base.specs.declared.kinds.Sign.{Sign}
use Rattle.bdb_base.specs.declared.kinds.Stmt.{Stmt}
use Rattle.bdb_base.specs.declared.kinds.Value.{Value}
use Rattle.bdb_base.specs.declared.tuple.Tuple.{Tuple}
use Rattle.bdb_base.proofs.CountLemmas.{distinct_count-le, one_unless, count_within}
use Rattle.bdb_base.proofs.WorldRowsLemmas.{rows_are_the_world, same_row_tells}
use Rattle.bdb_base.proofs.BoolLemmas.{is_T}
use Rattle.bdb_bind.specs.Fits.{can_be_answered}
use Rattle.bdb_bind.specs.Safe.{is_safe}
use Rattle.bdb_catalog.specs.Bases.{StoresValid}
use Rattle.bdb_catalog.specs.Showing.{inherited}
use Rattle.bdb_catalog.proofs.ShowingLemmas.{plain_paths_inherit}
use Rattle.bdb_exec.specs.Based.{world_number}
use Rattle.bdb_exec.specs.Readable.{CanBeRun}
use Rattle.bdb_exec.specs.Rows.{signed_of, relation_prefix}
use Rattle.bdb_exec.specs.Seen.{sight_of, signed_under}
use Rattle.bdb_exec.proofs.DenyLemmas.{all, all_here, are_typed, IsHere, shown_all}
use Rattle.bdb_exec.proofs.TypedLemmas.{raw}
use Rattle.bdb_exec.proofs.WorldLemmas.{signed_is}
use Rattle.bdb_keep.specs.Seen.{Seen}
use Rattle.bdb_keep.specs.Tables.{Tables, bytes_cmp}
use Rattle.bdb_key.specs.Grammar.{IsNum}
use Rattle.bdb_paths.proofs.SuffixLemmas.{deepest_is_member, deepest_of_member}
use Rattle.bdb_plan.specs.Fitness.{PlanFields}
use Rattle.bdb_plan.specs.Running.{reads_from, start_of}
use Rattle.bdb_plan.specs.Sight.{has_signed}
use Rattle.bdb_tables.specs.Codec.{place}
use Rattle.bdb_tables.specs.InUse.{ValKey, val_codec}
use Rattle.bdb_tables.specs.Marks.{Mark}
use Rattle.bdb_tables.specs.Names.{number_of}
use Rattle.bdb_trans.specs.Bounds.{AreSmall, product_of}
use Rattle.bdb_trans.specs.Orders.{IsPlanInOrder, plan_in}
use Rattle.bdb_trans.proofs.ReadLemmas.{orders_read, plan_reads}
use Rattle.bdb_session.specs.Known.{Known, Agrees}
use Rattle.bdb_session.specs.Laws.{StoredPlansReadFew}
use Rattle.bdb_session.specs.Outcome.{State}
use Rattle.bdb_session.specs.QueryReads.{HasFewRows, ReadsAsBounded}
use Rattle.bdb_session.specs.declared.error.StopError.{StopError}
use Rattle.bdb_session.proofs.QueryLemmas.{stored_shows}
use Rattle.bdb_session.proofs.TellLemmas.{always_ok}

-- ---- the rows of a world and a relation, whose tuples differ

one : {X : Type 0} (o : Option X) (x y : X) → o ≡ Some x → o ≡ Some y → x ≡ y
one o x y p q = cc

module _ (t : Tables) (h : CanBeRun t) (w rel : ℕ) (nw : IsNum w) (nr : IsNum rel) where
  abbrev Here : ValKey × Mark → Type 0
  Here e = IsHere t h w rel nw nr e

  abbrev tuple_in : ValKey × Mark → Tuple
  tuple_in e = (signed_of t e).0

  tuple_is : (e : ValKey × Mark) (k : Here e) → tuple_in e ≡ k.u
  tuple_is e k = ap (λ (x : Tuple × Sign). x.0) (signed_is t e k.u k.row)

  -- rows of one tuple have one key
  one_key : (d e : ValKey × Mark) → Here d → Here e → tuple_in d ≡ tuple_in e → d.0 ≡ e.0
  one_key d e j k same =
      let u : j.u ≡ k.u = sym (tuple_is d j) ∙ same ∙ tuple_is e k in
      let number : d.0.3 ≡ e.0.3 = one (h.tuples.number k.u) d.0.3 e.0.3 (ap h.tuples.number (sym u) ∙ h.held.named d.0.3 j.u j.named) (h.held.named e.0.3 k.u k.named) in
      let values : d.0.2 ≡ e.0.2 = sym j.vals ∙ ap (λ (x : Tuple). key_of (sight_of t).keys x) u ∙ k.vals in
      let world : d.0.0 ≡ e.0.0 = j.at_world ∙ sym k.at_world in
      let relation : d.0.1 ≡ e.0.1 = j.at_rel ∙ sym k.at_rel in
      ap (λ n. key n d.0.1 d.0.2 d.0.3) world ∙ ap (λ n. key e.0.0 n d.0.2 d.0.3) relation ∙ ap (λ vs. key e.0.0 e.0.1 vs d.0.3) values ∙ ap (λ n. key e.0.0 e.0.1 e.0.2 n) number
    where
      key : ℕ → ℕ → List Value → ℕ → ValKey
      key a b vs c = (a, b, vs, c)

  none_again : (d : ValKey × Mark) → Here d → (es : List (ValKey × Mark)) → AllByRecursion Here es → below_all bytes_cmp (place val_codec d.0) (map (raw val_codec) es) ≡ true
      → list_any (same_tuple (tuple_in d)) (map tuple_in es) ≡ false
  none_again d j [] a b = refl
  none_again d j (e ∷ es) a b =
      let p = and_parts (is_lt (bytes_cmp (place val_codec d.0) (place val_codec e.0))) (below_all bytes_cmp (place val_codec d.0) (map (raw val_codec) es)) b in
      or_from (same_tuple (tuple_in d) (tuple_in e)) (list_any (same_tuple (tuple_in d)) (map tuple_in es))
      (false_from_ne_true (same_tuple (tuple_in d) (tuple_in e)) (λ s.
      let key = one_key d e j a.0 ((same_tuple-Decides (tuple_in d) (tuple_in e)).0 s) in
      false≢true (sym (ap is_lt (tied_itself nat_list_cmp_total (place val_codec d.0))) ∙ ap (λ (k : ValKey). is_lt (bytes_cmp (place val_codec d.0) (place val_codec k))) key ∙ p.0)))
      (none_again d j es a.1 p.1)

  tuples_differ : (es : List (ValKey × Mark)) → AllByRecursion Here es → is_sorted bytes_cmp (map (raw val_codec) es) ≡ true → distinct_count same_tuple (map tuple_in es) ≡ length es
  tuples_differ [] a s = refl
  tuples_differ (e ∷ es) a s =
      let p = and_parts (below_all bytes_cmp (place val_codec e.0) (map (raw val_codec) es)) (is_sorted bytes_cmp (map (raw val_codec) es)) s in
      let n : one_unless (list_any (same_tuple (tuple_in e)) (map tuple_in es)) ≡ 1 = ap one_unless (none_again e a.0 es a.1 p.0) in
      let rest = tuples_differ es a.1 p.1 in
      omega arith

  abbrev here : List (ValKey × Mark)
  here = all t h w rel nw nr

  here_sorted : is_sorted bytes_cmp (map (raw val_codec) here) ≡ true
  here_sorted =
      ap (is_sorted bytes_cmp) (sym (are_typed t h w rel nw nr).rows)
      ∙ is_T _ (is_sorted-where_key bytes_cmp (is_prefix (val_codec.number ∷ relation_prefix w rel)) (tables.entries t) (tables.entries_sorted t))

  -- the tuples that are shown
  shown_tuples : map (λ (x : Tuple × Sign). x.0) ((sight_of t).rows w rel) ≡ map tuple_in here
  shown_tuples = ap (map (λ (x : Tuple × Sign). x.0)) (shown_all t h w rel nw nr) ∙ twice here
    where
      twice : (es : List (ValKey × Mark)) → map (λ (x : Tuple × Sign). x.0) (map (signed_of t) es) ≡ map tuple_in es
      twice [] = refl
      twice (e ∷ es) = ap (λ (r : List Tuple). tuple_in e ∷ r) (twice es)

  -- as many different tuples are shown as rows
  pub shown_differ : distinct_count same_tuple (map (λ (x : Tuple × Sign). x.0) ((sight_of t).rows w rel)) ≡ length ((sight_of t).rows w rel)
  shown_differ =
      ap (distinct_count same_tuple) shown_tuples ∙ tuples_differ here (all_here t h w rel nw nr) here_sorted
      ∙ sym (ap length (shown_all t h w rel nw nr) ∙ length-map here (signed_of t))

-- ---- no more than the signed tuples of the world

-- a tuple that is shown is shown with some sign
some_sign : (y : Tuple) (rows : List (Tuple × Sign)) → list_any (same_tuple y) (map (λ (x : Tuple × Sign). x.0) rows) ≡ true → (s : Sign) × (has_signed rows y s ≡ true)
some_sign y [] e = absurd (false≢true e)
some_sign y (x ∷ rows) e = elim (or_cases (same_tuple y x.0) (list_any (same_tuple y) (map (λ (z : Tuple × Sign). z.0) rows)) e) [
  | inl a ↦ (
    x.1,
    or_left (same_tuple x.0 y && same_sign x.1 x.1) (has_signed rows y x.1)
        (and_from (same_tuple x.0 y) (same_sign x.1 x.1) ((same_tuple-Decides x.0 y).1 (sym ((same_tuple-Decides y x.0).0 a))) ((same_sign-Decides x.1 x.1).1 refl)),
  )
  | inr a ↦
      let rest = some_sign y rows a in
      (rest.0, or_right (same_tuple x.0 y && same_sign x.1 rest.0) (has_signed rows y rest.0) rest.1)
]

tuple_of_row : (y : Tuple) (g : Held) (rows : List Held) → g.tuple ≡ y → has_row rows g ≡ true → list_any (same_tuple y) (map (λ (r : Held). r.tuple) rows) ≡ true
tuple_of_row y g [] e h = absurd (false≢true h)
tuple_of_row y g (r ∷ rows) e h = elim (or_cases (same_row g r) (has_row rows g) h) [
  | inl a ↦ or_left (same_tuple y r.tuple) (list_any (same_tuple y) (map (λ (x : Held). x.tuple) rows)) ((same_tuple-Decides y r.tuple).1 (sym e ∙ (same_row_tells g r a).0))
  | inr a ↦ or_right (same_tuple y r.tuple) (list_any (same_tuple y) (map (λ (x : Held). x.tuple) rows)) (tuple_of_row y g rows e a)
]

-- the rows that tables show of a world and a relation, and the rows of the world of a path
abbrev shown_at : (t : Tables) (b : Contents) → StoresValid t b → List ℕ → ℕ → List (Tuple × Sign)
shown_at t b h v rel = (sight_of t).rows (world_number h.stored.names v) rel

abbrev world_rows : Contents → List ℕ → List Held
world_rows b v = world_of (key_lengths b.catalog.rels) b.stmts v

abbrev signed_tuple : Tuple × Sign → Tuple
signed_tuple x = x.0

abbrev held_tuple : Held → Tuple
held_tuple r = r.tuple

no_rows : (t : Tables) (b : Contents) (h : StoresValid t b) (v : List ℕ) (rel : ℕ) → nat_lt rel (2 ^ 32) ≡ false → length (shown_at t b h v rel) ≡ 0
unfolding sight_of
no_rows t b h v rel e = ap length (cond-false (nat_lt rel (2 ^ 32)) (signed_under t (relation_prefix (world_number h.stored.names v) rel)) [] e)

-- a state's world has each tuple that is shown of it
shown_is_told : (t : Tables) (b : Contents) (h : StoresValid t b) (v : List ℕ) (rel : ℕ) → is_state b.stmts v ≡ true → (y : Tuple) → list_any (same_tuple y) (map signed_tuple (shown_at t b h v rel)) ≡ true
    → list_any (same_tuple y) (map held_tuple (world_rows b v)) ≡ true
shown_is_told t b h v rel state y e =
    let keys = key_lengths b.catalog.rels in
    let s = some_sign y (shown_at t b h v rel) e in
    let told = and_parts (nat_eq y.rel rel) (stated keys b.stmts v y s.0) (sym ((stored_shows t b h).shown.rows v rel y s.0 state) ∙ s.1) in
    let g : Held = record { tuple = y; sign = s.0; explicit = explicit b.stmts v y s.0 } in
    tuple_of_row y g (world_rows b v) refl ((rows_are_the_world keys b.stmts v g).1 (told.1, refl))

there_is : (o : Option ℕ) → is_some o ≡ true → o ≡ Some (unwrap_or o 0)
there_is None e = absurd (false≢true e)
there_is (Some n) e = refl

state_rows : (t : Tables) (b : Contents) (h : StoresValid t b) (v : List ℕ) (rel : ℕ) → is_state b.stmts v ≡ true → length (shown_at t b h v rel) ≤ length (world_rows b v)
state_rows t b h v rel state = by (nat_lt rel (2 ^ 32)) refl
  where
    small : nat_lt rel (2 ^ 32) ≡ true → IsNum rel
    small e = grind (arith, nat_tests)

    by : (c : Bool) → nat_lt rel (2 ^ 32) ≡ c → length (shown_at t b h v rel) ≤ length (world_rows b v)
    by true e =
        let named = h.stored.stored.worlds v ∙ state in
        let sized = h.stored.stored.states.names.sized v (world_number h.stored.names v) (there_is (number_of h.stored.names v) named) in
        let differ = shown_differ t (stored_shows t b h).run (world_number h.stored.names v) rel sized (small e) in
        let fewer = distinct_count-le same_tuple same_tuple-Decides (map signed_tuple (shown_at t b h v rel)) (map held_tuple (world_rows b v)) (shown_is_told t b h v rel state) in
        let le = count_within (map held_tuple (world_rows b v)) in
        let m = length-map (world_rows b v) held_tuple in
        omega arith
    by false e = let none = no_rows t b h v rel e in omega arith

-- the world of a path has as many rows as that of the deepest state that it ends in
world_as_long : (keys : ℕ → ℕ) (stmts : List Stmt) (w : List ℕ) → length (world_of keys stmts (deepest_suffix (is_state stmts) w)) ≡ length (world_of keys stmts w)
world_as_long keys stmts w = elim (cases_Bool (is_state stmts w)) [
  | inl e ↦ ap (λ v. length (world_of keys stmts v)) (deepest_of_member (is_state stmts) w e)
  | inr e ↦ sym (ap length (plain_paths_inherit keys stmts w e) ∙ length-map (world_of keys stmts (deepest_suffix (is_state stmts) w)) inherited)
]

few_are_small : (t : Tables) (b : Contents) (h : StoresValid t b) (q : Query) (rows : ℕ → ℕ) → HasFewRows b q rows → AreSmall b (sight_of t) (world_number h.stored.names) q rows
few_are_small t b h q rows few at alias rel sign path item slots w named own apart =
    let v = deepest_suffix (is_state b.stmts) w in
    let le = state_rows t b h v rel (deepest_is_member (is_state b.stmts) w refl) in
    let same = world_as_long (key_lengths b.catalog.rels) b.stmts w in
    let most = few at alias rel sign path item slots w named own apart in
    omega arith

-- whichever tables store a base, the plan of a query reads over them no more than the product
pub stored_plans_read_few : StoredPlansReadFew
stored_plans_read_few t b q rows h fits few =
    let shown = (stored_shows t b h).shown in
    let places = shown.places in
    plan_reads b (sight_of t) (world_number h.stored.names) q (length b.catalog.users) rows h.valid shown fits (omega arith) (few_are_small t b h q rows few)

-- in whichever order the items of a query are set, its plan reads no more than the product over the base of each state
pub plan_reads_few : (t : Tables) (k : Known) (s : State) (q : Query) (plan : PlanFields) (rows : ℕ → ℕ) → Agrees t k s → query_fits k.catalog q ≡ true → IsPlanInOrder k.catalog.rels q plan → HasFewRows s.base q rows
    → reads_from (sight_of t) plan.steps (start_of plan.items) ≤ product_of (length s.base.catalog.users) rows 0 q.items
plan_reads_few t k s q plan rows a fits p few =
    let b = s.base in
    let h = a.base in
    let here : query_fits b.catalog q ≡ true = ap (λ (c : Catalog). query_fits c q) (sym a.catalog) ∙ fits in
    let shown = (stored_shows t b h).shown in
    let places = shown.places in
    let most = orders_read b (sight_of t) (world_number h.stored.names) q p.order (length b.catalog.users) rows h.valid shown here p.can (omega arith) (few_are_small t b h q rows few) in
    let is : plan ≡ plan_in b.catalog.rels q p.order = p.is ∙ ap (λ (c : Catalog). plan_in c.rels q p.order) a.catalog in
    subst (λ (x : PlanFields). reads_from (sight_of t) x.steps (start_of x.items) ≤ product_of (length b.catalog.users) rows 0 q.items) (sym is) most

pub answers_read : {X : Type 0} (k : Known) (q : Query) (plan : PlanFields) (old mid new : Seen) (result : Result X StopError) → can_be_answered k.catalog q ≡ true → IsPlanInOrder k.catalog.rels q plan
    → mid.reads ≤ old.reads + reads_from (sight_of old.kept) plan.steps (start_of plan.items) → new.reads ≡ mid.reads → ReadsAsBounded q k old new result
answers_read k q plan old mid new result fits of_query most same s rows a few =
    let fine = (and_parts (query_fits k.catalog q) (is_safe k.catalog.rels q) fits).0 in
    let least = plan_reads_few old.kept k s q plan rows a fine of_query few in
    always_ok result (omega arith)
