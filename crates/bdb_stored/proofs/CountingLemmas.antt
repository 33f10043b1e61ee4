-- What is counted in the tables of a base are its sizes.
use Rattle.std.proofs.Common.{◌≡◌, ◌∙◌, ℕ, ◌+◌, ◌-◌, ◌*◌, ◌^◌, ◌<◌, ◌≤◌, true, List, [], ◌∷◌, ◌++◌, length, map, take, get_or, Some, is_some, refl, ap, sym, subst, arith}
use Rattle.std.specs.Prelude.{sum_by, min}
use Rattle.std.proofs.lemmas.Bool.{leb-true}
use Rattle.std.proofs.lemmas.List.{length-map, take_more}
use Rattle.std.proofs.lemmas.List.Sums.{sum_by-cons, sum_by_push}
use Rattle.bdb_base.specs.Bases.{Contents, tuple_count, world_count}
use Rattle.bdb_base.specs.Limits.{most_worlds, most_tuples, most_statements}
use Rattle.bdb_base.specs.Order.{path_cmp, tuple_cmp}
use Rattle.bdb_base.specs.OrderLemmas.{path_exact, tuple_exact, is_eq_nat_cmp}
use Rattle.bdb_base.specs.Same.{same_tuple}
use Rattle.bdb_base.specs.SameLemmas.{same_tuple-Decides}
use Rattle.bdb_base.specs.SortedSet.{is_member, sorted_set}
use Rattle.bdb_base.specs.States.{states_of, stated_prefixes}
use Rattle.bdb_base.specs.WorldRows.{tuples_of, world_of}
use Rattle.bdb_base.specs.Worlds.{IsConsistent}
use Rattle.bdb_base.specs.declared.kinds.Held.{Held}
use Rattle.bdb_base.specs.declared.kinds.Stmt.{Stmt}
use Rattle.bdb_base.specs.declared.tuple.Tuple.{Tuple}
use Rattle.bdb_base.proofs.CountLemmas.{put_all_count}
use Rattle.bdb_base.proofs.SetLemmas.{loop_makes_set, set_is_ascending, set_keeps_members}
use Rattle.bdb_base.proofs.WorldLemmas.{valid_is_consistent}
use Rattle.bdb_base.proofs.WorldRowsLemmas.{member_of_map}
use Rattle.bdb_base.proofs.OptionLemmas.{some_of, one_there, some_mapped}
use Rattle.bdb_base.specs.Causes.{is_listed}
use Rattle.bdb_canon.specs.Canonical.{row_count}
use Rattle.bdb_canon.specs.declared.sizes.Counts.{Counts}
use Rattle.bdb_keep.specs.Tables.{Tables}
use Rattle.bdb_key.specs.Grammar.{IsNum}
use Rattle.bdb_paths.proofs.StateLemmas.{list_has_states, states_are_counted}
use Rattle.bdb_tables.specs.InUse.{depth_codec, tuple_codec}
use Rattle.bdb_tables.specs.InUseLaws.{numbers_in_order, number_rows_are_one, tuple_rows_are_one}
use Rattle.bdb_tables.specs.Names.{Names, AreNames, path_of, number_of, is_named, depth_of, are_once}
use Rattle.bdb_tables.specs.Rows.{Tuples}
use Rattle.bdb_tables.specs.Spans.{AreUnder}
use Rattle.bdb_tables.specs.Stored.{StoredAs}
use Rattle.bdb_tables.proofs.UsedLemmas.{AllNamed, rest_named, first_named}
use Rattle.bdb_update.proofs.KeyLemmas.{lengths_fit}
use Rattle.bdb_update.proofs.StageLemmas.{over_has_tuples}
use Rattle.bdb_update.proofs.SumLemmas.{sum_of_states, rows_are_few}
use Rattle.bdb_update.specs.Keys.{keys_of}
use Rattle.bdb_val.specs.Reads.{HaveTuples}
use Rattle.bdb_val.specs.Steps.{counted}
use Rattle.bdb_val.specs.WorldReads.{AreRowsAt}
use Rattle.bdb_stored.specs.Counting.{AreRowsOfWorlds, CountsRows, TellsCounts, explicit_rows}
use Rattle.bdb_stored.specs.Items.{items_of}
use Rattle.bdb_catalog.specs.Bases.{StoresSome, StoresValid}
use Rattle.bdb_catalog.specs.Opening.{IsPartOf}
use Rattle.bdb_stored.proofs.ItemLemmas.{ascending_apart, items_apart, items_cons, items_make_set, items_many, sum_ones, sum_sorted}
use Rattle.bdb_stored.proofs.KeyLemmas.{numbers_are, numbers_once, rows_are_items}
use Rattle.bdb_stored.proofs.PathSums.{at_path, explicit_are_statements, paths_are_members, sum_of_paths}

-- the numbers of rows
abbrev pub numbers_of : {Row : Type 0} → List (ℕ × Row) → List ℕ
numbers_of {Row} es = map (λ (e : ℕ × Row). e.0) es

module _ (t : Tables) (b : Contents) (v : StoresValid t b) where
  abbrev pub ns : Names
  ns = v.stored.names

  abbrev pub ts : Tuples
  ts = v.stored.tuples

  abbrev h : StoredAs ns ts t b
  h = v.stored.stored

  abbrev names : AreNames ns
  names = h.states.names

  pub consistent : IsConsistent (keys_of b) b.stmts
  consistent = valid_is_consistent b.catalog b.stmts v.valid

  pub one_path : (j k : ℕ) (w : List ℕ) → path_of ns j ≡ Some w → path_of ns k ≡ Some w → j ≡ k
  one_path j k w p q = one_there j k (number_of ns w) (names.named j w p) (names.named k w q)

  pub one_tuple : (j k : ℕ) (u : Tuple) → ts.tuple j ≡ Some u → ts.tuple k ≡ Some u → j ≡ k
  one_tuple j k u p q = one_there j k (ts.number u) (h.tuples.named j u p) (h.tuples.named k u q)

  world_sized : (n : ℕ) → is_some (depth_of ns n) ≡ true → IsNum n
  world_sized n e =
      let w = some_of (path_of ns n) (sym (some_mapped (λ w. length w) (path_of ns n)) ∙ e) in
      names.sized w.0 n (names.named n w.0 w.1)

  state_member : (w : List ℕ) → is_member path_cmp (states_of b.stmts) w ≡ is_named ns w
  state_member w = list_has_states b.stmts w ∙ sym (h.worlds w)

  -- ---- worlds

  module _ (es : List (ℕ × ℕ)) (under : AreUnder depth_codec t [] es) where
    abbrev wids : List ℕ
    wids = numbers_of es

    pub wids_are : (n : ℕ) → is_listed n wids ≡ is_some (path_of ns n)
    wids_are n =
        numbers_are depth_codec numbers_in_order is_eq_nat_cmp (λ k f. f) (λ k f. f) number_rows_are_one t (depth_of ns) h.states.tables.depth world_sized es under n
        ∙ some_mapped (λ w. length w) (path_of ns n)

    pub wids_once : are_once wids ≡ true
    wids_once = numbers_once depth_codec numbers_in_order is_eq_nat_cmp (λ k f. f) (λ k f. f) es under.each under.sorted

    pub wids_named : AllNamed (path_of ns) wids
    wids_named k e = sym (wids_are k) ∙ e

    -- the set of their paths are the states
    pub paths_are_states : sorted_set path_cmp (items_of (path_of ns) wids) ≡ states_of b.stmts
    paths_are_states = items_make_set path_exact (path_of ns) one_path wids (states_of b.stmts) (set_is_ascending path_exact (stated_prefixes b.stmts)) wids_are
        (λ w e. let n = some_of (number_of ns w) (sym (state_member w) ∙ e) in (n.0, names.numbered w n.0 n.1))
        (λ n w e. state_member w ∙ ap is_some (names.named n w e))

    -- a sum over the states is one over these paths
    pub sum_over : (f : List ℕ → ℕ) → sum_by f (items_of (path_of ns) wids) ≡ sum_by f (states_of b.stmts)
    sum_over f = sym (sum_sorted path_exact f (items_of (path_of ns) wids) (items_apart path_exact (path_of ns) one_path wids wids_named wids_once)) ∙ ap (sum_by f) paths_are_states

    pub worlds_many : length es ≡ world_count b.stmts
    worlds_many =
        sym (length-map es (λ (e : ℕ × ℕ). e.0)) ∙ sym (items_many (path_of ns) wids wids_named) ∙ sym (sum_ones (items_of (path_of ns) wids)) ∙ sum_over (λ w. 1) ∙ sum_ones (states_of b.stmts)
        ∙ states_are_counted b.stmts

    -- a sum over rows world by world
    sum_of_worlds : (f : List Held → ℕ) (ds : List (ℕ × ℕ)) (held : List (List Held)) → AllNamed (path_of ns) (numbers_of ds) → AreRowsOfWorlds t ds held
        → sum_by f held ≡ sum_by (λ w. f (world_of (keys_of b) b.stmts w)) (items_of (path_of ns) (numbers_of ds))
    sum_of_worlds f [] [] a r = refl
    sum_of_worlds f [] (x ∷ xs) a r = absurd r
    sum_of_worlds f (d ∷ ds) [] a r = absurd r
    sum_of_worlds f (d ∷ ds) (x ∷ xs) a r =
        let g : List ℕ → ℕ = λ w. f (world_of (keys_of b) b.stmts w) in
        let w = first_named (path_of ns) d.0 (numbers_of ds) a in
        let is : x ≡ world_of (keys_of b) b.stmts w.0 = r.0 (keys_of b) b.stmts ns ts w.0 (lengths_fit t b.catalog.rels h.rels) consistent names h.tuples h.rows w.1 in
        let rest = sum_of_worlds f ds xs (rest_named (path_of ns) d.0 (numbers_of ds) a) r.1 in
        sum_by-cons f x xs ∙ ap (λ y. f y + sum_by f xs) is ∙ ap (λ n. f (world_of (keys_of b) b.stmts w.0) + n) rest
        ∙ sym (ap (sum_by (λ w. f (world_of (keys_of b) b.stmts w))) (items_cons (path_of ns) d.0 (numbers_of ds) w.0 w.1) ∙ sum_by-cons (λ w. f (world_of (keys_of b) b.stmts w)) w.0 (items_of (path_of ns) (numbers_of ds)))

    rows_sum : (held : List (List Held)) → AreRowsOfWorlds t es held → sum_by (λ x. length x) held ≡ sum_by (row_count (keys_of b) b.stmts) (states_of b.stmts)
    rows_sum held r = sum_of_worlds (λ x. length x) es held wids_named r ∙ sum_over (row_count (keys_of b) b.stmts)

    few_rows : sum_by (row_count (keys_of b) b.stmts) (states_of b.stmts) ≤ 1310720000
    few_rows = subst (λ n. n ≤ 1310720000) (sum_of_states (keys_of b) b.stmts ns names h.worlds) (rows_are_few (keys_of b) b.stmts ns consistent (leb-true (length b.stmts) most_statements v.valid.stmts.few_stmts) names.few)

    statements_sum : (held : List (List Held)) → AreRowsOfWorlds t es held → sum_by explicit_rows held ≡ length b.stmts
    statements_sum held r =
        sum_of_worlds explicit_rows es held wids_named r ∙ sum_over (λ w. explicit_rows (world_of (keys_of b) b.stmts w))
        ∙ same_sum (states_of b.stmts)
        ∙ sum_of_paths (states_of b.stmts) (ascending_apart path_exact (states_of b.stmts) (set_is_ascending path_exact (stated_prefixes b.stmts))) b.stmts (paths_are_members b.stmts b.stmts (λ p e. e))
      where
        same_sum : (ws : List (List ℕ)) → sum_by (λ w. explicit_rows (world_of (keys_of b) b.stmts w)) ws ≡ sum_by (λ w. length (at_path b.stmts w)) ws
        same_sum [] = refl
        same_sum (w ∷ ws) =
            sum_by-cons (λ u. explicit_rows (world_of (keys_of b) b.stmts u)) w ws
            ∙ ap (λ n. n + sum_by (λ u. explicit_rows (world_of (keys_of b) b.stmts u)) ws) (explicit_are_statements (keys_of b) b.stmts v.valid.stmts.sorted consistent w)
            ∙ ap (λ n. length (at_path b.stmts w) + n) (same_sum ws) ∙ sym (sum_by-cons (λ u. length (at_path b.stmts u)) w ws)

    pub rows_many : (held : List (List Held)) (rows : ℕ) → AreRowsOfWorlds t es held → rows ≡ counted (sum_by (λ x. length x) held) → rows ≡ sum_by (row_count (keys_of b) b.stmts) (states_of b.stmts)
    rows_many held rows r e = let a = rows_sum held r in let f = few_rows in omega arith

    pub statements_many : (held : List (List Held)) (stmts : ℕ) → AreRowsOfWorlds t es held → stmts ≡ counted (sum_by explicit_rows held) → stmts ≡ length b.stmts
    statements_many held stmts r e =
        let a = statements_sum held r in
        let f = leb-true (length b.stmts) most_statements v.valid.stmts.few_stmts in
        omega arith

  -- ---- tuples

  module _ (es : List (ℕ × Tuple)) (under : AreUnder tuple_codec t [] es) where
    abbrev tids : List ℕ
    tids = numbers_of es

    pub tids_are : (n : ℕ) → is_listed n tids ≡ is_some (ts.tuple n)
    tids_are n = numbers_are tuple_codec numbers_in_order is_eq_nat_cmp (λ k f. f) (λ k f. f) tuple_rows_are_one t ts.tuple h.tuples.tuples
        (λ k e. let u = some_of (ts.tuple k) e in h.tuples.sized k u.0 u.1) es under n

    pub tids_named : AllNamed ts.tuple tids
    tids_named k e = sym (tids_are k) ∙ e

    pub tids_once : are_once tids ≡ true
    tids_once = numbers_once tuple_codec numbers_in_order is_eq_nat_cmp (λ k f. f) (λ k f. f) es under.each under.sorted

    tuple_member : (u : Tuple) → is_member tuple_cmp (tuples_of b.stmts) u ≡ is_some (ts.number u)
    tuple_member u = set_keeps_members tuple_exact (map (λ (x : Stmt). x.tuple) b.stmts) u ∙ member_of_map b.stmts u ∙ sym (h.tuples.stated u)

    -- the set of them are the tuples of the statements
    pub tuples_are : sorted_set tuple_cmp (items_of ts.tuple tids) ≡ tuples_of b.stmts
    tuples_are = items_make_set tuple_exact ts.tuple one_tuple tids (tuples_of b.stmts) (set_is_ascending tuple_exact (map (λ (x : Stmt). x.tuple) b.stmts)) tids_are
        (λ u e. let n = some_of (ts.number u) (sym (tuple_member u) ∙ e) in (n.0, h.tuples.numbered u n.0 n.1))
        (λ n u e. tuple_member u ∙ ap is_some (h.tuples.named n u e))

    pub tuples_told : sorted_set tuple_cmp (map (λ (e : ℕ × Tuple). e.1) es) ≡ tuples_of b.stmts
    tuples_told =
        ap (sorted_set tuple_cmp) (sym (rows_are_items tuple_codec numbers_in_order is_eq_nat_cmp (λ k f. f) (λ k f. f) tuple_rows_are_one t ts.tuple h.tuples.tuples es under)) ∙ tuples_are

    -- the rows are as many as the tuples
    pub tuples_as_many : length es ≡ length (tuples_of b.stmts)
    tuples_as_many =
        sym (length-map es (λ (e : ℕ × Tuple). e.0)) ∙ sym (items_many ts.tuple tids tids_named) ∙ sym (sum_ones (items_of ts.tuple tids))
        ∙ sym (sum_sorted tuple_exact (λ u. 1) (items_of ts.tuple tids) (items_apart tuple_exact ts.tuple one_tuple tids tids_named tids_once))
        ∙ sum_ones (sorted_set tuple_cmp (items_of ts.tuple tids)) ∙ ap (λ (xs : List Tuple). length xs) tuples_are

    pub tuples_many : length es ≡ tuple_count b.stmts
    tuples_many =
        tuples_as_many ∙ ap (λ (xs : List Tuple). length xs) (sym (loop_makes_set tuple_exact (map (λ (x : Stmt). x.tuple) b.stmts)))
        ∙ put_all_count same_tuple same_tuple-Decides tuple_exact (map (λ (x : Stmt). x.tuple) b.stmts)

-- the rows of depths are as many as the states
pub states_counted : (t : Tables) (es : List (ℕ × ℕ)) → AreUnder depth_codec t [] es → IsPartOf (λ b. length (states_of b.stmts)) t (length es)
states_counted t es under b v = worlds_many t b v es under ∙ sym (states_are_counted b.stmts)

-- ---- one world more

push_world : (t : Tables) (es : List (ℕ × ℕ)) (e : ℕ × ℕ) (hs : List (List Held)) (x : List Held) → AreRowsOfWorlds t es hs → AreRowsAt t e.0 x → AreRowsOfWorlds t (es ++ e ∷ []) (hs ++ x ∷ [])
push_world t [] e [] x a r = (r, tt)
push_world t [] e (h ∷ hs) x a r = absurd a
push_world t (d ∷ ds) e [] x a r = absurd a
push_world t (d ∷ ds) e (h ∷ hs) x a r = (a.0, push_world t ds e hs x a.1 r)

pub counts_begin : (t : Tables) (es : List (ℕ × ℕ)) → CountsRows t (take 0 es) 0 0
counts_begin t es = record { held = []; are = tt; explicit = refl; all = refl }

pub counts_more : (t : Tables) (es : List (ℕ × ℕ)) (i : ℕ) (stmts rows next_stmts next_rows : ℕ) (x : List Held) → i < length es → CountsRows t (take i es) stmts rows
    → AreRowsAt t (get_or es i (0, 0)).0 x → next_stmts ≡ min (stmts + explicit_rows x) (2 ^ 64 - 1) → next_rows ≡ min (rows + length x) (2 ^ 64 - 1) → CountsRows t (take (i + 1) es) next_stmts next_rows
counts_more t es i stmts rows next_stmts next_rows x lt c r p q = record {
  held = c.held ++ x ∷ [];
  are = subst (λ ds. AreRowsOfWorlds t ds (c.held ++ x ∷ [])) (sym (take_more es i (0, 0) lt)) (push_world t (take i es) (get_or es i (0, 0)) c.held x c.are r);
  explicit = (let a = c.explicit in let b = sum_by_push explicit_rows c.held x in omega arith);
  all = (let a = c.all in let b = sum_by_push (λ h. length h) c.held x in omega arith);
}

-- the reads with one world more
pub reads_more : (before now after i rows next more : ℕ) → (rows < 2 ^ 64 - 1 → now ≤ before + (i + 2 * rows)) → next ≡ min (rows + more) (2 ^ 64 - 1)
    → after ≤ now + (2 * more + 1) → next < 2 ^ 64 - 1 → after ≤ before + (i + 1 + 2 * next)
reads_more before now after i rows next more h e r below =
    let few : rows < 2 ^ 64 - 1 = omega arith in
    let k = h few in
    omega (arith, k)

-- ---- all sizes

-- these are the rows of worlds and of tuples, and what was counted of the rows of worlds
pub record AreRead (t : Tables) (es : List (ℕ × ℕ)) (ds : List (ℕ × Tuple)) (stmts rows : ℕ) : Type 0 where
  pub worlds : AreUnder depth_codec t [] es
  pub tuples : AreUnder tuple_codec t [] ds
  pub counts : CountsRows t es stmts rows

-- they are read one after the other, and nothing changes in between
pub read_in_turn : (t u v : Tables) (es lent : List (ℕ × ℕ)) (ds : List (ℕ × Tuple)) (stmts rows : ℕ) → u ≡ t → v ≡ u → lent ≡ es
    → AreUnder depth_codec t [] es → AreUnder tuple_codec u [] ds → CountsRows v lent stmts rows → AreRead t es ds stmts rows
read_in_turn t u v es lent ds stmts rows first second value worlds tuples counts = record {
  worlds = worlds;
  tuples = subst (λ (x : Tables). AreUnder tuple_codec x [] ds) first tuples;
  counts = subst (λ xs. CountsRows t xs stmts rows) value (subst (λ (x : Tables). CountsRows x lent stmts rows) (second ∙ first) counts);
}

module _ (t : Tables) (es : List (ℕ × ℕ)) (ds : List (ℕ × Tuple)) (stmts rows : ℕ) (r : AreRead t es ds stmts rows) where
  pub sizes_told : TellsCounts t (record { worlds = length es; tuples = length ds; stmts = stmts; rows = rows })
  sizes_told b v =
      ap (λ n. made n (length ds) stmts rows) (worlds_many t b v es r.worlds)
      ∙ ap (λ n. made (world_count b.stmts) n stmts rows) (tuples_many t b v ds r.tuples)
      ∙ ap (λ n. made (world_count b.stmts) (tuple_count b.stmts) n rows) (statements_many t b v es r.worlds r.counts.held stmts r.counts.are r.counts.explicit)
      ∙ ap (λ n. made (world_count b.stmts) (tuple_count b.stmts) (length b.stmts) n) (rows_many t b v es r.worlds r.counts.held rows r.counts.are r.counts.all)
    where
      made : ℕ → ℕ → ℕ → ℕ → Counts
      made w u s n = record { worlds = w; tuples = u; stmts = s; rows = n }

  module _ (some : StoresSome t) where
    abbrev b : Contents
    b = some.base

    pub worlds_few : length es < 2 ^ 32
    worlds_few = let e = worlds_many t b some.stores es r.worlds in let f = leb-true (world_count b.stmts) most_worlds some.stores.valid.stmts.few_worlds in omega arith

    pub tuples_few : length ds < 2 ^ 32
    tuples_few = let e = tuples_many t b some.stores ds r.tuples in let f = leb-true (tuple_count b.stmts) most_tuples some.stores.valid.stmts.few_tuples in omega arith

    pub statements_few : stmts < 2 ^ 32
    statements_few =
        let e = statements_many t b some.stores es r.worlds r.counts.held stmts r.counts.are r.counts.explicit in
        let f = leb-true (length b.stmts) most_statements some.stores.valid.stmts.few_stmts in
        omega arith

    pub rows_few : rows < 2 ^ 32
    rows_few =
        let e = rows_many t b some.stores es r.worlds r.counts.held rows r.counts.are r.counts.all in
        let f = few_rows t b some.stores es r.worlds in
        omega arith

-- ---- what the tables have

pub valid_has_tuples : (t : Tables) → StoresSome t → HaveTuples t
valid_has_tuples t s = over_has_tuples s.base.stmts s.base.stmts s.stores.stored.names s.stores.stored.tuples t s.base s.stores.stored.stored
