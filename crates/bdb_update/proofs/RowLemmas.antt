-- How many rows tables have that hold the rows of named worlds.
use Rattle.std.proofs.Common.{◌≡◌, ◌≢◌, ◌∙◌, ℕ, ◌+◌, ◌≤◌, Bool, true, false, not, ◌||◌, nat_eq, List, [], ◌∷◌, ◌++◌, length, map, Option, Some, None, is_some, refl, sym, ap, subst, inl, inr}
use Rattle.std.specs.Prelude.{sum_by}
use Rattle.std.specs.List.{AllByRecursion, list_all, flat_map}
use Rattle.std.specs.Option.{option_map}
use Rattle.std.specs.Ordering.{is_eq, is_lt}
use Rattle.std.specs.FinMap as tables
use Rattle.std.proofs.lemmas.Bool.{cases_Bool, and_parts, and_from, false≢true, false_from_ne_true, or_left, or_right, or_cases, cond-true, cond-false, eq-eqb, eqb-true, not-true, not_from_false, or_from}
use Rattle.std.proofs.lemmas.List.{length-map}
use Rattle.std.proofs.lemmas.List.Concat.{length-flat_map}
use Rattle.std.proofs.lemmas.List.Folds.{list_any-append}
use Rattle.std.proofs.lemmas.List.Sums.{sum_by-cons}
use Rattle.bdb_base.specs.Bases.{are_distinct}
use Rattle.bdb_base.specs.Order.{tuple_cmp}
use Rattle.bdb_base.specs.OrderLemmas.{tuple_exact}
use Rattle.bdb_base.specs.Same.{same_text}
use Rattle.bdb_base.specs.SameLemmas.{same_text-Decides}
use Rattle.bdb_base.specs.SortedSet.{ascending}
use Rattle.bdb_base.specs.WorldRows.{world_of, has_row, same_row, row_tuple_cmp}
use Rattle.bdb_base.specs.Worlds.{explicit, stated, IsConsistent}
use Rattle.bdb_base.specs.declared.kinds.Held.{Held}
use Rattle.bdb_base.specs.declared.kinds.Sign.{Sign}
use Rattle.bdb_base.specs.declared.kinds.Sign.TheVariants.{Plus, Minus}
use Rattle.bdb_base.specs.declared.kinds.Stmt.{Stmt}
use Rattle.bdb_base.specs.declared.tuple.Tuple.{Tuple}
use Rattle.bdb_base.proofs.SetLemmas.{is_eq_itself, is_lt-Less}
use Rattle.bdb_base.proofs.WorldLemmas.{stated_tuples_are_explicit}
use Rattle.bdb_base.proofs.WorldRowsLemmas.{rows_are_the_world, same_row_tells, same_row_from, tuples_stand_once}
use Rattle.bdb_base.proofs.OptionLemmas.{some_of}
use Rattle.bdb_base.proofs.AllLemmas.{all_append}
use Rattle.bdb_base.specs.Causes.{is_listed}
use Rattle.bdb_canon.specs.Canonical.{row_count}
use Rattle.bdb_keep.specs.Tables.{Tables}
use Rattle.bdb_key.specs.Grammar.{IsNum}
use Rattle.bdb_tables.specs.Codec.{place}
use Rattle.bdb_tables.specs.InUse.{ValKey, IsValKey, val_bytes, val_codec}
use Rattle.bdb_tables.specs.InUseLaws.{vals_are_one}
use Rattle.bdb_tables.specs.Marks.{Mark, sign_by, marked, mark_of}
use Rattle.bdb_tables.specs.Names.{Names, path_of, are_once}
use Rattle.bdb_tables.specs.Rows.{Tuples, HoldsTuples, HoldsRows, row_for, AreKeyLengths}
use Rattle.bdb_tables.proofs.DifferenceLemmas.{is_among, distinct_append}
use Rattle.bdb_tables.proofs.UsedLemmas.{AllNamed, rest_named, first_named}
use Rattle.bdb_val.specs.Reads.{HasRows}
use Rattle.bdb_val.specs.Settling.{row_key}
use Rattle.bdb_val.proofs.HeldLemmas.{held_names, right_row}
use Rattle.bdb_val.proofs.ReadLemmas.{key_fits}
use Rattle.bdb_update.specs.Differing.{has_told}
use Rattle.bdb_update.specs.Tallies.{HasRowCount, vals_at, nothing_at}

-- ---- lists

among_append : (p : List ℕ) (xs ys : List (List ℕ)) → is_among p (xs ++ ys) ≡ (is_among p xs || is_among p ys)
among_append p xs ys = list_any-append (same_text p) xs ys

all_mapped : (P : List ℕ → Type 0) (Q : Held → Type 0) (f : Held → List ℕ) → ((h : Held) → Q h → P (f h)) → (hs : List Held) → AllByRecursion Q hs → AllByRecursion P (map f hs)
all_mapped P Q f g [] a = tt
all_mapped P Q f g (h ∷ hs) a = (g h a.0, all_mapped P Q f g hs a.1)

sign_there : (p m : Bool) (f : Sign → Bool) → is_some (marked f (sign_by p m)) ≡ (p || m)
sign_there true m f = refl
sign_there false true f = refl
sign_there false false f = refl

-- the numbers in use, each once, of named worlds
pub record AreUsed (ns : Names) : Type 0 where
  pub once : are_once ns.used ≡ true
  pub counted : (n : ℕ) → is_listed n ns.used ≡ is_some (path_of ns n)
  pub sized : (n : ℕ) (w : List ℕ) → path_of ns n ≡ Some w → IsNum n

some_path : Option (List ℕ) → List ℕ
some_path None = []
some_path (Some w) = w

some_number : Option ℕ → ℕ
some_number None = 0
some_number (Some n) = n

module _ (keys : ℕ → ℕ) where
  -- ---- signs

  pub stated_marked : (stmts : List Stmt) (w : List ℕ) (u : Tuple) (s : Sign) → stated keys stmts w u s ≡ true → is_some (mark_of keys stmts w u) ≡ true
  stated_marked stmts w u Plus e =
      sign_there (stated keys stmts w u Plus) (stated keys stmts w u Minus) (explicit stmts w u) ∙ or_left (stated keys stmts w u Plus) (stated keys stmts w u Minus) e
  stated_marked stmts w u Minus e =
      sign_there (stated keys stmts w u Plus) (stated keys stmts w u Minus) (explicit stmts w u) ∙ or_right (stated keys stmts w u Plus) (stated keys stmts w u Minus) e

  pub marked_stated : (stmts : List Stmt) (w : List ℕ) (u : Tuple) → is_some (mark_of keys stmts w u) ≡ true → (s : Sign) × (stated keys stmts w u s ≡ true)
  marked_stated stmts w u e = elim (or_cases (stated keys stmts w u Plus) (stated keys stmts w u Minus)
      (sym (sign_there (stated keys stmts w u Plus) (stated keys stmts w u Minus) (explicit stmts w u)) ∙ e)) [
        | inl a ↦ (Plus, a)
        | inr a ↦ (Minus, a)
      ]

  -- ---- worlds with numbers

  -- how many rows the world of a number has
  pub rows_of : List Stmt → Names → ℕ → ℕ
  rows_of stmts ns n = row_count keys stmts (some_path (path_of ns n))

  pub rows_of_is : (stmts : List Stmt) (ns : Names) (n : ℕ) (w : List ℕ) → path_of ns n ≡ Some w → rows_of stmts ns n ≡ row_count keys stmts w
  unfolding rows_of some_path
  rows_of_is stmts ns n w e = ap (λ o. row_count keys stmts (some_path o)) e

  pub rows_of_few : (stmts : List Stmt) (ns : Names) (n : ℕ) {m : ℕ} → ((w : List ℕ) → row_count keys stmts w ≤ m) → rows_of stmts ns n ≤ m
  unfolding rows_of
  rows_of_few stmts ns n h = h (some_path (path_of ns n))

  module _ (stmts told : List Stmt) (ns : Names) (ts : Tuples) (t : Tables) (lengths : AreKeyLengths keys) (used : AreUsed ns) (consistent : IsConsistent keys stmts) (tuples : HoldsTuples told ts t)
      (within : (u : Tuple) → has_told stmts u ≡ true → has_told told u ≡ true) (rows : HoldsRows keys stmts (path_of ns) ts.tuple t) where
    abbrev held : ValKey → Option Mark
    held = row_for keys stmts (path_of ns) ts.tuple

    has : HasRows keys ts.tuple held t
    has = record { lengths = lengths; tuples = tuples.tuples; rows = rows; sized = tuples.sized; keyed = λ k v s. (held_names keys stmts told ns ts t tuples k s).1 }

    world : ℕ → List ℕ
    world n = some_path (path_of ns n)

    number : Tuple → ℕ
    number u = some_number (ts.number u)

    -- the key of a row of a world
    key : ℕ → Held → ValKey
    key n h = row_key keys n (number h.tuple) h.tuple

    at : ℕ → Held → List ℕ
    at n h = place val_codec (key n h)

    abbrev held_of : ℕ → List Held
    held_of n = world_of keys stmts (world n)

    world_is : (n : ℕ) (w : List ℕ) → path_of ns n ≡ Some w → world n ≡ w
    unfolding world some_path
    world_is n w e = ap some_path e

    number_is : (u : Tuple) (n : ℕ) → ts.number u ≡ Some n → number u ≡ n
    unfolding number some_number
    number_is u n e = ap some_number e

    -- what a row of a world says
    abbrev IsOfWorld : List ℕ → Held → Type 0
    IsOfWorld w h = stated keys stmts w h.tuple h.sign ≡ true

    of_world : (w : List ℕ) → AllByRecursion (IsOfWorld w) (world_of keys stmts w)
    of_world w = go (world_of keys stmts w) (λ h e. ((rows_are_the_world keys stmts w h).0 e).0)
      where
        go : (hs : List Held) → ((h : Held) → has_row hs h ≡ true → IsOfWorld w h) → AllByRecursion (IsOfWorld w) hs
        go [] f = tt
        go (h ∷ hs) f = (
          f h (or_left (same_row h h) (has_row hs h) (same_row_from h h refl refl refl)),
          go hs (λ k e. f k (or_right (same_row k h) (has_row hs k) e)),
        )

    -- a tuple of a world has a number
    numbered : (w : List ℕ) (h : Held) → IsOfWorld w h → (tid : ℕ) × (ts.number h.tuple ≡ Some tid)
    numbered w h e = some_of (ts.number h.tuple) (tuples.stated h.tuple ∙ within h.tuple (stated_tuples_are_explicit keys stmts w h.tuple h.sign e))

    key_is : (n : ℕ) (h : Held) (tid : ℕ) → ts.number h.tuple ≡ Some tid → key n h ≡ row_key keys n tid h.tuple
    unfolding key
    key_is n h tid e = ap (λ k. row_key keys n k h.tuple) (number_is h.tuple tid e)

    key_okay : (n : ℕ) (w : List ℕ) (h : Held) → path_of ns n ≡ Some w → IsOfWorld w h → IsValKey (key n h)
    key_okay n w h p e =
        let k = numbered w h e in
        subst IsValKey (sym (key_is n h k.0 k.1)) (key_fits keys ts.tuple held t has n k.0 h.tuple (used.sized n w p) (tuples.numbered h.tuple k.0 k.1))

    same_place : (n m : ℕ) (g h : Held) → at n g ≡ at m h → val_bytes (key n g) ≡ val_bytes (key m h)
    unfolding at
    same_place n m g h e = cc

    -- rows of different worlds, or of different tuples, are at different places
    one_place : (n m : ℕ) (v w : List ℕ) (g h : Held) → path_of ns n ≡ Some v → path_of ns m ≡ Some w → IsOfWorld v g → IsOfWorld w h → at n g ≡ at m h → (n ≡ m) × (g.tuple ≡ h.tuple)
    one_place n m v w g h p q a b e =
        let i = numbered v g a in
        let j = numbered w h b in
        let same = vals_are_one (key n g) (key m h) (key_okay n v g p a) (key_okay m w h q b) (same_place n m g h e) in
        let one_key : row_key keys n i.0 g.tuple ≡ row_key keys m j.0 h.tuple = sym (key_is n g i.0 i.1) ∙ same ∙ key_is m h j.0 j.1 in
        let tid : i.0 ≡ j.0 = ap (λ (z : ValKey). z.3) one_key in (
          ap (λ (z : ValKey). z.0) one_key,
          one_tuple g.tuple h.tuple (ts.tuple j.0) (ap ts.tuple (sym tid) ∙ tuples.numbered g.tuple i.0 i.1) (tuples.numbered h.tuple j.0 j.1),
        )
      where
        one_tuple : (x y : Tuple) (o : Option Tuple) → o ≡ Some x → o ≡ Some y → x ≡ y
        one_tuple x y o c d = cc

    -- ---- the places of one world's rows

    abbrev world_places : ℕ → List (List ℕ)
    world_places n = map (at n) (held_of n)

    there : (n : ℕ) (w : List ℕ) → path_of ns n ≡ Some w → AllByRecursion (IsOfWorld w) (held_of n)
    there n w p = subst (λ v. AllByRecursion (IsOfWorld w) (world_of keys stmts v)) (sym (world_is n w p)) (of_world w)

    once_in : (n : ℕ) (w : List ℕ) → path_of ns n ≡ Some w → (hs : List Held) → AllByRecursion (IsOfWorld w) hs → ascending row_tuple_cmp hs ≡ true → are_distinct (map (at n) hs) ≡ true
    once_in n w p [] a s = refl
    once_in n w p (h ∷ hs) a s =
        let k = and_parts (list_all (λ g. is_lt (row_tuple_cmp h g)) hs) (ascending row_tuple_cmp hs) s in
        and_from (not (is_among (at n h) (map (at n) hs))) (are_distinct (map (at n) hs))
        (not_from_false (is_among (at n h) (map (at n) hs)) (apart hs a.1 k.0)) (once_in n w p hs a.1 k.1)
      where
        apart : (gs : List Held) → AllByRecursion (IsOfWorld w) gs → list_all (λ g. is_lt (row_tuple_cmp h g)) gs ≡ true → is_among (at n h) (map (at n) gs) ≡ false
        apart [] b l = refl
        apart (g ∷ gs) b l =
            let m = and_parts (is_lt (row_tuple_cmp h g)) (list_all (λ z. is_lt (row_tuple_cmp h z)) gs) l in
            or_from (same_text (at n h) (at n g)) (is_among (at n h) (map (at n) gs))
            (false_from_ne_true (same_text (at n h) (at n g)) (λ e.
            let same = one_place n n w w h g p p a.0 b.0 ((same_text-Decides (at n h) (at n g)).0 e) in
            below_itself h.tuple (ap (λ u. is_lt (tuple_cmp h.tuple u)) same.1 ∙ m.0)))
            (apart gs b.1 m.1)
          where
            below_itself : (u : Tuple) → is_lt (tuple_cmp u u) ≡ true → ⊥
            below_itself u e = false≢true (sym (ap is_eq (is_lt-Less (tuple_cmp u u) e)) ∙ is_eq_itself tuple_exact u)

    -- ---- the places of all worlds' rows

    abbrev places : List ℕ → List (List ℕ)
    places ks = flat_map world_places ks

    -- a row of one world is not among those of others
    elsewhere : (n : ℕ) (w : List ℕ) (h : Held) → path_of ns n ≡ Some w → IsOfWorld w h → (ks : List ℕ) → AllNamed (path_of ns) ks → is_listed n ks ≡ false → is_among (at n h) (places ks) ≡ false
    elsewhere n w h p a [] named out = refl
    elsewhere n w h p a (k ∷ ks) named out =
        among_append (at n h) (world_places k) (places ks)
        ∙ or_from (is_among (at n h) (world_places k)) (is_among (at n h) (places ks))
        (not_here (first_named (path_of ns) k ks named).0 (first_named (path_of ns) k ks named).1 (held_of k) (there k (first_named (path_of ns) k ks named).0 (first_named (path_of ns) k ks named).1))
        (elsewhere n w h p a ks (rest_named (path_of ns) k ks named) (false_from_ne_true (is_listed n ks) (λ e. false≢true (sym out ∙ or_right (nat_eq n k) (is_listed n ks) e))))
      where
        not_here : (v : List ℕ) → path_of ns k ≡ Some v → (gs : List Held) → AllByRecursion (IsOfWorld v) gs → is_among (at n h) (map (at k) gs) ≡ false
        not_here v q [] b = refl
        not_here v q (g ∷ gs) b = or_from (same_text (at n h) (at k g)) (is_among (at n h) (map (at k) gs))
            (false_from_ne_true (same_text (at n h) (at k g)) (λ e.
            let same = one_place n k w v h g p q a b.0 ((same_text-Decides (at n h) (at k g)).0 e) in
            false≢true (sym out ∙ or_left (nat_eq n k) (is_listed n ks) (eq-eqb n k same.0))))
            (not_here v q gs b.1)

    once : (ks : List ℕ) → AllNamed (path_of ns) ks → are_once ks ≡ true → are_distinct (places ks) ≡ true
    once [] named o = refl
    once (k ∷ ks) named o =
        let c = and_parts (not (is_listed k ks)) (are_once ks) o in
        let v = first_named (path_of ns) k ks named in
        distinct_append (world_places k) (places ks)
        (once_in k v.0 v.1 (held_of k) (there k v.0 v.1) (tuples_stand_once keys stmts consistent (world k)))
        (once ks (rest_named (path_of ns) k ks named) c.1)
        (all_mapped (λ q. is_among q (places ks) ≡ false) (IsOfWorld v.0) (at k)
        (λ h a. elsewhere k v.0 h v.1 a ks (rest_named (path_of ns) k ks named) (not-true (is_listed k ks) c.0)) (held_of k) (there k v.0 v.1))

    -- each has a row
    has_row_at : (n : ℕ) (w : List ℕ) (h : Held) → path_of ns n ≡ Some w → IsOfWorld w h → is_some (tables.get t (at n h)) ≡ true
    unfolding at
    has_row_at n w h p a =
        let k = numbered w h a in
        let mark : held (key n h) ≡ mark_of keys stmts w h.tuple = ap held (key_is n h k.0 k.1) ∙ right_row keys stmts told ns ts t tuples n w k.0 h.tuple p (tuples.numbered h.tuple k.0 k.1) in
        ap is_some (rows.rows (key n h) (key_okay n w h p a)) ∙ bytes_there (held (key n h)) ∙ ap is_some mark ∙ stated_marked stmts w h.tuple h.sign a
      where
        bytes_there : (o : Option Mark) → is_some (option_map val_codec.row_bytes o) ≡ is_some o
        bytes_there None = refl
        bytes_there (Some m) = refl

    each : (ks : List ℕ) → AllNamed (path_of ns) ks → AllByRecursion (λ q. vals_at t q ≢ nothing_at q) (places ks)
    unfolding at
    each [] named = tt
    each (k ∷ ks) named =
        let v = first_named (path_of ns) k ks named in
        all_append (λ q. vals_at t q ≢ nothing_at q) (world_places k) (places ks)
        (all_mapped (λ q. vals_at t q ≢ nothing_at q) (IsOfWorld v.0) (at k) (λ h a. there_is k h (has_row_at k v.0 h v.1 a)) (held_of k) (there k v.0 v.1)) (each ks (rest_named (path_of ns) k ks named))
      where
        there_is : (n : ℕ) (h : Held) → is_some (tables.get t (at n h)) ≡ true → vals_at t (at n h) ≢ None
        there_is n h s e = false≢true (sym (ap is_some e) ∙ s)

    -- and there are no others
    among_rows : (n : ℕ) (h : Held) (hs : List Held) → has_row hs h ≡ true → is_among (at n h) (map (at n) hs) ≡ true
    unfolding at key
    among_rows n h [] e = absurd (false≢true e)
    among_rows n h (g ∷ gs) e = elim (or_cases (same_row h g) (has_row gs h) e) [
      | inl s ↦ or_left (same_text (at n h) (at n g)) (is_among (at n h) (map (at n) gs))
          ((same_text-Decides (at n h) (at n g)).1 (ap (λ u. place val_codec (row_key keys n (number u) u)) (same_row_tells h g s).0))
      | inr s ↦ or_right (same_text (at n h) (at n g)) (is_among (at n h) (map (at n) gs)) (among_rows n h gs s)
    ]

    among_worlds : (n : ℕ) (q : List ℕ) → is_among q (world_places n) ≡ true → (ks : List ℕ) → is_listed n ks ≡ true → is_among q (places ks) ≡ true
    among_worlds n q a [] l = absurd (false≢true l)
    among_worlds n q a (k ∷ ks) l = among_append q (world_places k) (places ks) ∙ elim (or_cases (nat_eq n k) (is_listed n ks) l) [
      | inl e ↦ or_left (is_among q (world_places k)) (is_among q (places ks)) (ap (λ j. is_among q (world_places j)) (sym (eqb-true n k e)) ∙ a)
      | inr e ↦ or_right (is_among q (world_places k)) (is_among q (places ks)) (among_worlds n q a ks e)
    ]

    -- a row is that of a world and a tuple
    found : (k : ValKey) → IsValKey k → is_some (held k) ≡ true → is_among (place val_codec k) (places ns.used) ≡ true
    unfolding at key
    found k v s =
        let named = held_names keys stmts told ns ts t tuples k s in
        let w = some_of (path_of ns k.0) named.0 in
        let u = named.1.0 in
        let n = named.1.1 in
        let same = named.1.2 in
        let tid : ts.number u ≡ Some k.3 = tuples.named k.3 u n in
        let mark : is_some (mark_of keys stmts w.0 u) ≡ true =
        ap is_some (sym (right_row keys stmts told ns ts t tuples k.0 w.0 k.3 u w.1 n)) ∙ ap (λ z. is_some (held z)) same ∙ s in
        let sign = marked_stated stmts w.0 u mark in
        let h : Held = record { tuple = u; sign = sign.0; explicit = explicit stmts w.0 u sign.0 } in
        let row = (rows_are_the_world keys stmts w.0 h).1 (sign.1, refl) in
        let here : is_among (at k.0 h) (world_places k.0) ≡ true = among_rows k.0 h (held_of k.0) (ap (λ z. has_row (world_of keys stmts z) h) (world_is k.0 w.0 w.1) ∙ row) in
        ap (λ z. is_among (place val_codec z) (places ns.used)) (sym (key_is k.0 h k.3 tid ∙ same))
        ∙ among_worlds k.0 (at k.0 h) here ns.used (used.counted k.0 ∙ named.0)

    only : (q : List ℕ) → is_among q (places ns.used) ≡ false → vals_at t q ≡ nothing_at q
    only [] out = refl
    only (n ∷ k) out = elim (cases_Bool (nat_eq n 11)) [
      | inr e ↦ cond-false (nat_eq n 11) (tables.get t (n ∷ k)) None e
      | inl e ↦ cond-true (nat_eq n 11) (tables.get t (n ∷ k)) None e ∙ none (tables.get t (n ∷ k)) refl (eqb-true n 11 e)
    ]
      where
        none : (o : Option (List ℕ)) → tables.get t (n ∷ k) ≡ o → n ≡ 11 → tables.get t (n ∷ k) ≡ None
        none None f e = f
        none (Some r) f e =
            let entry = rows.fits k r (ap (λ m. tables.get t (m ∷ k)) (sym e) ∙ f) in
            let spelled : place val_codec entry.key ≡ n ∷ k = ap (λ z. 11 ∷ z) entry.key_reads.spelled ∙ ap (λ m. m ∷ k) (sym e) in
            let there : is_some (held entry.key) ≡ true = stands (held entry.key) (sym (rows.rows entry.key entry.key_reads.fits) ∙ ap (tables.get t) spelled ∙ f) in
            absurd (false≢true (sym out ∙ ap (λ z. is_among z (places ns.used)) (sym spelled) ∙ found entry.key entry.key_reads.fits there))
          where
            stands : (o : Option Mark) → option_map val_codec.row_bytes o ≡ Some r → is_some o ≡ true
            stands None g = absurd cc
            stands (Some m) g = refl

    all_named : AllNamed (path_of ns) ns.used
    all_named k e = sym (used.counted k) ∙ e

    counted : (ks : List ℕ) → length (places ks) ≡ sum_by (rows_of stmts ns) ks
    unfolding rows_of world
    counted ks = length-flat_map world_places ks ∙ ap (λ (f : ℕ → ℕ). sum_by f ks) refl ∙ by ks
      where
        by : (js : List ℕ) → sum_by (λ n. length (map (at n) (held_of n))) js ≡ sum_by (λ n. row_count keys stmts (some_path (path_of ns n))) js
        by [] = refl
        by (j ∷ js) =
            sum_by-cons (λ n. length (map (at n) (held_of n))) j js
            ∙ ap (λ n. n + sum_by (λ n. length (map (at n) (held_of n))) js) (length-map (held_of j) (at j))
            ∙ ap (λ n. row_count keys stmts (some_path (path_of ns j)) + n) (by js)
            ∙ sym (sum_by-cons (λ n. row_count keys stmts (some_path (path_of ns n))) j js)

    pub rows_counted : HasRowCount t (sum_by (rows_of stmts ns) ns.used)
    rows_counted = record {
      places = places ns.used;
      are = record { once = once ns.used all_named used.once; each = each ns.used all_named; only = only };
      many = sym (counted ns.used);
    }
