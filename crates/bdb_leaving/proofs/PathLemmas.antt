-- Worlds with their paths, in the order of the paths, are the states of a base.
use Rattle.std.proofs.Common.{◌≡◌, ◌∙◌, ℕ, suc, ◌+◌, ◌<◌, ◌≤◌, true, false, cond, List, [], ◌∷◌, length, map, get_or, Option, Some, None, refl, ap, sym, subst, inl, inr, arith}
use Prim.Native.Nat.{zero}
use Rattle.std.specs.Prelude.{sum_by}
use Rattle.std.specs.List.{AllByRecursion, list_all}
use Rattle.std.specs.List.Sorted.{IsPermutation}
use Rattle.std.specs.Option.{option_map, unwrap_or}
use Rattle.std.specs.Ordering.{is_eq, is_lt}
use Rattle.std.specs.declared.cmp.Ordering.{Ordering}
use Rattle.std.specs.declared.cmp.Ordering.TheVariants.{Less, Equal, Greater}
use Rattle.std.proofs.lemmas.Bool.{cases_Bool, and_from, or_parts, false≢true}
use Rattle.std.proofs.lemmas.List.{length-map}
use Rattle.std.proofs.lemmas.List.Elements.{All-from_recursion, recursion_from_All}
use Rattle.std.proofs.lemmas.List.Sorted.{All-permutation, IsPermutation-map, length_permutation, list_any-IsPermutation, ranks_by, sorted_far, sum_by-IsPermutation}
use Rattle.std.proofs.lemmas.List.Sums.{sum_by-cons}
use Rattle.bdb_base.specs.Bases.{Contents, is_user}
use Rattle.bdb_base.specs.Order.{path_cmp}
use Rattle.bdb_base.specs.OrderLemmas.{path_exact, is_eq_nat_cmp}
use Rattle.bdb_base.specs.SortedSet.{IsExactOrder, ascending, is_member}
use Rattle.bdb_base.specs.States.{stated_prefixes, states_of}
use Rattle.bdb_base.proofs.SetLemmas.{is_eq-Equal, is_eq_itself, less_from_greater, members_make_set, set_is_ascending, set_keeps_members}
use Rattle.bdb_base.proofs.OptionLemmas.{same_some, some_mapped}
use Rattle.bdb_keep.specs.Tables.{Tables}
use Rattle.bdb_names.proofs.NamedLemmas.{tables_have_names}
use Rattle.bdb_tables.specs.InUse.{depth_codec}
use Rattle.bdb_tables.specs.InUseLaws.{numbers_in_order, number_rows_are_one}
use Rattle.bdb_tables.specs.Names.{Names, path_of, depth_of}
use Rattle.bdb_tables.specs.Spans.{AreUnder}
use Rattle.bdb_tables.specs.States.{HoldsStates, IsNamed}
use Rattle.bdb_tables.proofs.UsedLemmas.{AllNamed, rest_named, first_named}
use Rattle.bdb_stored.specs.Items.{items_of}
use Rattle.bdb_catalog.specs.Bases.{StoresSome, StoresValid}
use Rattle.bdb_stored.specs.Worlds.{TellsStates, named_world}
use Rattle.bdb_names.specs.declared.named.NamedWorld.{NamedWorld}
use Rattle.bdb_stored.proofs.CountingLemmas.{numbers_of, one_path, paths_are_states, wids_named, wids_once}
use Rattle.bdb_stored.proofs.ItemLemmas.{AreApart, items_apart, items_cons}
use Rattle.bdb_stored.proofs.KeyLemmas.{rows_are_items}
use Rattle.bdb_leaving.specs.Paths.{AreInOrder, HasPath, HavePaths, IsDeep, path_lengths, world_is_before}

-- ---- items in order, none of which comes twice, ascend

module _ {X : Type 0} {R : X → X → Ordering} (o : IsExactOrder R) where
  -- how often an item is in a list
  abbrev count : X → List X → ℕ
  count x xs = sum_by (λ y. cond (is_eq (R y x)) 1 0) xs

  count_same : (x y : X) (ys : List X) → is_eq (R y x) ≡ true → count x (y ∷ ys) ≡ suc (count x ys)
  count_same x y ys e = sum_by-cons (λ z. cond (is_eq (R z x)) 1 0) y ys ∙ ap (λ b. cond b 1 0 + count x ys) e ∙ one (count x ys)
    where
      one : (n : ℕ) → 1 + n ≡ suc n
      one n = omega arith

  count_other : (x y : X) (ys : List X) → is_eq (R y x) ≡ false → count x (y ∷ ys) ≡ count x ys
  count_other x y ys e = sum_by-cons (λ z. cond (is_eq (R z x)) 1 0) y ys ∙ ap (λ b. cond b 1 0 + count x ys) e ∙ none (count x ys)
    where
      none : (n : ℕ) → 0 + n ≡ n
      none n = omega arith

  count_none : (x : X) (ys : List X) → is_member R ys x ≡ false → count x ys ≡ 0
  count_none x [] e = refl
  count_none x (y ∷ ys) e = let k = or_parts (is_eq (R y x)) (is_member R ys x) e in count_other x y ys k.0 ∙ count_none x ys k.1

  -- items that are apart come once
  pub apart_count : (xs : List X) → AreApart R xs → (x : X) → count x xs ≤ 1
  apart_count [] a x = omega arith
  apart_count (y ∷ ys) a x = elim (cases_Bool (is_eq (R y x))) [
    | inl e ↦
        let s = count_same x y ys e in
        let n = count_none x ys (ap (is_member R ys) (sym (o.exact y x (is_eq-Equal (R y x) e))) ∙ a.0) in
        omega (arith, s, n)
    | inr e ↦ let s = count_other x y ys e in let r = apart_count ys a.1 x in omega (arith, s, r)
  ]

  pub order_ascends : (xs : List X) → ((i j : ℕ) (d : X) → i ≤ j → j < length xs → is_lt (R (get_or xs j d) (get_or xs i d)) ≡ false) → ((x : X) → count x xs ≤ 1) → ascending R xs ≡ true
  order_ascends [] far once = refl
  order_ascends (x ∷ xs) far once =
      and_from (list_all (λ y. is_lt (R x y)) xs) (ascending R xs)
      (above xs (λ j d lt. far 0 (suc j) d (omega arith) (omega arith)) (none (once x)))
      (order_ascends xs (λ i j d le lt. far (suc i) (suc j) d (omega arith) (omega arith)) (λ y. fewer y (cond (is_eq (R x y)) 1 0) (sum_by-cons (λ z. cond (is_eq (R z y)) 1 0) x xs) (once y)))
    where
      fewer : (y : X) (n : ℕ) → count y (x ∷ xs) ≡ n + count y xs → count y (x ∷ xs) ≤ 1 → count y xs ≤ 1
      fewer y n e le = omega (arith, e, le)

      itself : is_eq (R x x) ≡ true
      itself = is_eq_itself o x

      none : count x (x ∷ xs) ≤ 1 → count x xs ≤ 0
      none le = let s = count_same x x xs itself in omega (arith, s, le)

      less : (y : X) (r : Ordering) → R y x ≡ r → is_lt r ≡ false → is_eq r ≡ false → is_lt (R x y) ≡ true
      less y Less e a b = absurd (false≢true (sym a))
      less y Equal e a b = absurd (false≢true (sym b))
      less y Greater e a b = ap is_lt (less_from_greater o y x e)

      above : (ys : List X) → ((j : ℕ) (d : X) → j < length ys → is_lt (R (get_or ys j d) x) ≡ false) → count x ys ≤ 0 → list_all (λ y. is_lt (R x y)) ys ≡ true
      above [] up n = refl
      above (y ∷ ys) up n = elim (cases_Bool (is_eq (R y x))) [
        | inl e ↦ let s = count_same x y ys e in absurd (omega (arith, s, n))
        | inr e ↦
            let s = count_other x y ys e in
            and_from (is_lt (R x y)) (list_all (λ z. is_lt (R x z)) ys) (less y (R y x) refl (up 0 y (omega arith)) e) (above ys (λ j d lt. up (suc j) d (omega arith)) (omega (arith, s, n)))
      ]

-- ---- the base that tables store

heads : {X : Type 0} (x y : X) (xs ys : List X) → x ∷ xs ≡ y ∷ ys → x ≡ y
heads x y xs ys e = cc

tails : {X : Type 0} (x y : X) (xs ys : List X) → x ∷ xs ≡ y ∷ ys → xs ≡ ys
tails x y xs ys e = cc

path_there : (p : Option (List ℕ)) (d : ℕ) → option_map (λ w. length w) p ≡ Some d → (w : List ℕ) × (p ≡ Some w) × (length w ≡ d)
path_there None d e = absurd cc
path_there (Some w) d e = (w, refl, same_some (length w) d e)

module _ (t : Tables) (b : Contents) (v : StoresValid t b) where
  abbrev ns : Names
  ns = v.stored.names

  abbrev h : HoldsStates (is_user b.catalog.users) ns t
  h = v.stored.stored.states

  path_is : (n : ℕ) (w : List ℕ) → IsNamed t n w → path_of ns n ≡ Some w
  path_is n w x = (tables_have_names (is_user b.catalog.users) ns t h n w).0 x

  -- ---- rows of depths

  deep : (row : ℕ × ℕ) → depth_of ns row.0 ≡ Some row.1 → IsDeep t row
  deep row e =
      let w = path_there (path_of ns row.0) row.1 e in
      record { path = w.0; named = (tables_have_names (is_user b.catalog.users) ns t h row.0 w.0).1 w.1; long = w.2 }

  each_deep : (rows : List (ℕ × ℕ)) → items_of (depth_of ns) (numbers_of rows) ≡ map (λ (row : ℕ × ℕ). row.1) rows → AllNamed (depth_of ns) (numbers_of rows) → AllByRecursion (IsDeep t) rows
  each_deep [] e named = tt
  each_deep (row ∷ rows) e named =
      let x = first_named (depth_of ns) row.0 (numbers_of rows) named in
      let both = sym (items_cons (depth_of ns) row.0 (numbers_of rows) x.0 x.1) ∙ e in
      (deep row (x.1 ∙ ap Some (heads _ _ _ _ both)), each_deep rows (tails _ _ _ _ both) (rest_named (depth_of ns) row.0 (numbers_of rows) named))

  module _ (rows : List (ℕ × ℕ)) (under : AreUnder depth_codec t [] rows) where
    pub all_deep : AllByRecursion (IsDeep t) rows
    all_deep =
        each_deep rows (rows_are_items depth_codec numbers_in_order is_eq_nat_cmp (λ k f. f) (λ k f. f) number_rows_are_one t (depth_of ns) h.tables.depth rows under)
        (λ k e. some_mapped (λ w. length w) (path_of ns k) ∙ wids_named t b v rows under k e)

    -- ---- worlds with their paths

    module _ (worlds ordered : List NamedWorld) (have : HavePaths t rows worlds) (o : AreInOrder worlds ordered) where
      abbrev paths : List NamedWorld → List (List ℕ)
      paths xs = map (λ (x : NamedWorld). x.path) xs

      paths_by_number : (xs : List NamedWorld) → AllByRecursion (HasPath t) xs → paths xs ≡ items_of (path_of ns) (map (λ (x : NamedWorld). x.wid) xs)
      paths_by_number [] a = refl
      paths_by_number (x ∷ xs) a =
          let ks = map (λ (y : NamedWorld). y.wid) xs in
          ap (λ (ws : List (List ℕ)). x.path ∷ ws) (paths_by_number xs a.1) ∙ sym (items_cons (path_of ns) x.wid ks x.path (path_is x.wid x.path a.0))

      paths_are : paths worlds ≡ items_of (path_of ns) (numbers_of rows)
      paths_are = paths_by_number worlds have.named ∙ ap (items_of (path_of ns)) have.numbers

      apart : AreApart path_cmp (paths worlds)
      apart = subst (AreApart path_cmp) (sym paths_are) (items_apart path_exact (path_of ns) (one_path t b v) (numbers_of rows) (wids_named t b v rows under) (wids_once t b v rows under))

      moved : IsPermutation (paths worlds) (paths ordered)
      moved = IsPermutation-map (λ (x : NamedWorld). x.path) worlds ordered o.moved

      once : (w : List ℕ) → count path_exact w (paths ordered) ≤ 1
      once w =
          let same = sum_by-IsPermutation (λ v. cond (is_eq (path_cmp v w)) 1 0) (paths worlds) (paths ordered) moved in
          let le = apart_count path_exact (paths worlds) apart w in
          omega (arith, same, le)

      abbrev nameless : List ℕ → NamedWorld
      nameless w = record { wid = 0; path = w }

      path_at : (xs : List NamedWorld) (i : ℕ) (d : List ℕ) → get_or (paths xs) i d ≡ (get_or xs i (nameless d)).path
      path_at [] i d = refl
      path_at (x ∷ xs) zero d = refl
      path_at (x ∷ xs) (suc i) d = path_at xs i d

      far : (i j : ℕ) (d : List ℕ) → i ≤ j → j < length (paths ordered) → is_lt (path_cmp (get_or (paths ordered) j d) (get_or (paths ordered) i d)) ≡ false
      far i j d le less =
          let n = length-map ordered (λ (x : NamedWorld). x.path) in
          ap (λ w. is_lt (path_cmp w (get_or (paths ordered) i d))) (path_at ordered j d)
          ∙ ap (λ w. is_lt (path_cmp (get_or ordered j (nameless d)).path w)) (path_at ordered i d)
          ∙ sorted_far world_is_before (ranks_by path_exact.total (λ (x : NamedWorld). x.path)) ordered o.sorted i j (nameless d) le (omega arith)

      -- the paths in order are the states
      paths_in_order : paths ordered ≡ states_of b.stmts
      paths_in_order =
          members_make_set path_exact (paths ordered) (states_of b.stmts) (order_ascends path_exact (paths ordered) far once) (set_is_ascending path_exact (stated_prefixes b.stmts))
          (λ w. sym (list_any-IsPermutation (λ v. is_eq (path_cmp v w)) (paths worlds) (paths ordered) moved) ∙ ap (λ ws. is_member path_cmp ws w) paths_are
          ∙ sym (set_keeps_members path_exact (items_of (path_of ns) (numbers_of rows)) w) ∙ ap (λ ws. is_member path_cmp ws w) (paths_are_states t b v rows under))

      abbrev made : ℕ → List ℕ → NamedWorld
      made n w = record { wid = n; path = w }

      -- each world has the number of its path
      numbered : (xs : List NamedWorld) → AllByRecursion (HasPath t) xs → xs ≡ map (named_world ns) (paths xs)
      numbered [] a = refl
      numbered (x ∷ xs) a =
          let number = h.names.named x.wid x.path (path_is x.wid x.path a.0) in
          ap (λ (y : NamedWorld). y ∷ xs) (sym (ap (λ (k : Option ℕ). made (unwrap_or k 0) x.path) number)) ∙ ap (λ ys. named_world ns x.path ∷ ys) (numbered xs a.1)

      pub ordered_are_states : ordered ≡ map (named_world ns) (states_of b.stmts)
      ordered_are_states =
          numbered ordered (recursion_from_All (HasPath t) ordered (All-permutation (HasPath t) worlds ordered o.moved (All-from_recursion (HasPath t) worlds have.named)))
          ∙ ap (map (named_world ns)) paths_in_order

-- each row of depths tells the length of a world's path
pub rows_are_deep : (t : Tables) (rows : List (ℕ × ℕ)) → StoresSome t → AreUnder depth_codec t [] rows → AllByRecursion (IsDeep t) rows
rows_are_deep t rows s under = all_deep t s.base s.stores rows under

module _ (t : Tables) (rows : List (ℕ × ℕ)) (worlds ordered : List NamedWorld) (have : HavePaths t rows worlds) (o : AreInOrder worlds ordered) where
  -- the worlds in order are the states, whichever base the tables store
  pub ordered_tell : AreUnder depth_codec t [] rows → TellsStates t ordered
  ordered_tell under b v = ordered_are_states t b v rows under worlds ordered have o

  -- the rows of depths are read, and then an edge for each user of each path
  pub all_reads : (before mid after : ℕ) → mid ≤ before + (length rows + 1) → after ≤ mid + path_lengths worlds → after ≤ before + (length ordered + 1 + path_lengths ordered)
  all_reads before mid after first rest =
      let n = length_permutation worlds ordered o.moved in
      let m = sym (length-map worlds (λ (x : NamedWorld). x.wid)) ∙ ap length have.numbers ∙ length-map rows (λ (row : ℕ × ℕ). row.0) in
      let sum = sum_by-IsPermutation (λ (x : NamedWorld). length x.path) worlds ordered o.moved in
      omega (arith, first, rest, n, m, sum)
