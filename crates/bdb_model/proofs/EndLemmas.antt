-- The statements at a path's ends: where they stand, and that its world depends on them alone.
use Rattle.std.proofs.Common.{◌≡◌, ◌∙◌, ℕ, ◌+◌, ◌<◌, ◌≤◌, Bool, true, false, not, ◌&&◌, ◌||◌, ◌⊎◌, cond, List, [], ◌∷◌, ◌++◌, refl, ap, sym, inl, inr, suc, filter, map, length, take, drop, get_or, append_assoc, arith}
use Prim.Native.Nat.{zero}
use Rattle.std.proofs.lemmas.List.{append-nil, take-append-drop, take_more}
use Rattle.std.proofs.lemmas.List.Elements.{filter-append}
use Rattle.std.proofs.lemmas.List.Folds.{list_all-append}
use Rattle.std.proofs.lemmas.Option.{slice_get_read}
use Rattle.std.proofs.Math.Seq.{drop-cons}
use Rattle.std.specs.List.{list_any, list_all, flat_map}
use Rattle.std.specs.declared.cmp.Ordering.{Ordering}
use Rattle.std.specs.declared.cmp.Ordering.TheVariants.{Less, Equal, Greater}
use Rattle.std.specs.Ordering.{is_eq, is_lt, nat_cmp, ordering_then}
use Rattle.std.specs.Cmp.Lexicographic.{slice_cmp}
use Rattle.std.proofs.lemmas.Bool.{cases_Bool, and_parts, and_from, or_left, or_right, or_from, or_cases, false≢true, false_from_ne_true, not_from_false, cond-false, not-true}
use Rattle.std.proofs.lemmas.Bool.Decides.{nat_tests}
use Rattle.bdb_base.specs.declared.kinds.Held.{Held}
use Rattle.bdb_base.specs.declared.kinds.Sign.{Sign}
use Rattle.bdb_base.specs.declared.kinds.Sign.TheVariants.{Plus, Minus}
use Rattle.bdb_base.specs.declared.kinds.Stmt.{Stmt}
use Rattle.bdb_base.specs.declared.tuple.Tuple.{Tuple}
use Rattle.bdb_base.specs.Clash.{clash}
use Rattle.bdb_base.specs.Order.{path_cmp, sign_cmp, statement_cmp, tuple_cmp}
use Rattle.bdb_base.specs.OrderLemmas.{is_eq_path_cmp, path_exact, path_total, statement_exact, tuple_exact}
use Rattle.bdb_base.specs.Same.{same_path, same_sign, same_tuple}
use Rattle.bdb_base.specs.SameLemmas.{same_path-Decides}
use Rattle.bdb_base.specs.Segments.{is_suffix}
use Rattle.bdb_base.specs.SortedSet.{IsExactOrder, ascending, is_member}
use Rattle.bdb_base.specs.WorldRows.{row_at, rows_at, tuples_of}
use Rattle.bdb_base.specs.Worlds.{contradicted, explicit, stated}
use Rattle.bdb_base.proofs.CountLemmas.{list_any-filter_some}
use Rattle.bdb_base.proofs.ListLemmas.{filter_all, filter_dropped_one, filter_kept_one, list_all_get, list_all_weaker}
use Rattle.bdb_base.proofs.SetLemmas.{filter_keeps_order, is_eq-Equal, is_lt-Less, members_make_set, set_is_ascending, set_keeps_members, stands_at}
use Rattle.bdb_base.proofs.WorldRowsLemmas.{member_of_map, stated_is_member}
use Rattle.bdb_base.proofs.FindLemmas.{list_any-filter_same}
use Rattle.bdb_base.proofs.SegmentLemmas.{suffix_itself, length-suffix}
use Rattle.bdb_model.specs.Ends.{IsFirstAt, WorldsDependOnEnds, path_is_before}
use Rattle.bdb_model.proofs.LevelLemmas.{flat_map_same}

-- ---- lists

not_right : (a b : Bool) → not (a || b) ≡ true → not b ≡ true
not_right true b e = absurd (false≢true e)
not_right false b e = e

filter_none : {X : Type 0} (q : X → Bool) (xs : List X) → list_all (λ x. not (q x)) xs ≡ true → filter q xs ≡ []
filter_none q [] h = refl
filter_none q (x ∷ xs) h =
    let k = and_parts (not (q x)) (list_all (λ y. not (q y)) xs) h in
    filter_dropped_one q x xs (not-true (q x) k.0) ∙ filter_none q xs k.1

-- a test that fails at all items behind one at which it fails
module _ {X : Type 0} {R : X → X → Ordering} (o : IsExactOrder R) (p : X → Bool) (fails_on : (x y : X) → R x y ≡ Less → p x ≡ false → p y ≡ false) where
  passes_back : (x y : X) → R x y ≡ Less → p y ≡ true → p x ≡ true
  passes_back x y e h = elim (cases_Bool (p x)) [
    | inl k ↦ k
    | inr k ↦ absurd (false≢true (sym (fails_on x y e k) ∙ h))
  ]

  -- where an item passes, so do all before it
  pub all_up_to : (xs : List X) (y : X) (m : ℕ) → ascending R xs ≡ true → m < length xs → y ≡ get_or xs m y → p y ≡ true → list_all p (take (m + 1) xs) ≡ true
  all_up_to xs y m h l r e =
      let s = stands_at o xs y m h (slice_get_read xs (length xs) m y refl l r) in
      ap (list_all p) (take_more xs m y l) ∙ list_all-append p (take m xs) (get_or xs m y ∷ [])
      ∙ and_from (list_all p (take m xs)) (list_all p (get_or xs m y ∷ []))
      (list_all_weaker (λ z. is_lt (R z y)) p (λ z k. passes_back z y (is_lt-Less (R z y) k) e) (take m xs) s.below)
      (ap (λ z. p z && true) (sym r) ∙ ap (λ b. b && true) e)

  -- where an item not-true, so do all behind it
  pub none_from : (xs : List X) (y : X) (m : ℕ) → ascending R xs ≡ true → m < length xs → y ≡ get_or xs m y → p y ≡ false → list_all (λ z. not (p z)) (drop m xs) ≡ true
  none_from xs y m h l r e =
      let s = stands_at o xs y m h (slice_get_read xs (length xs) m y refl l r) in
      ap (list_all (λ z. not (p z))) (drop-cons xs m y l)
      ∙ and_from (not (p (get_or xs m y))) (list_all (λ z. not (p z)) (drop (suc m) xs)) (ap (λ z. not (p z)) (sym r) ∙ not_from_false (p y) e)
      (list_all_weaker (λ z. is_lt (R y z)) (λ z. not (p z)) (λ z k. not_from_false (p z) (fails_on y z (is_lt-Less (R y z) k) e)) (drop (suc m) xs) s.above)

drop_ascends : {X : Type 0} (R : X → X → Ordering) (n : ℕ) (xs : List X) → ascending R xs ≡ true → ascending R (drop n xs) ≡ true
drop_ascends R zero xs h = h
drop_ascends R (suc n) [] h = refl
drop_ascends R (suc n) (x ∷ xs) h = drop_ascends R n xs (and_parts (list_all (λ y. is_lt (R x y)) xs) (ascending R xs) h).1

-- ---- paths in order

first_of_then : (p q : Ordering) → ordering_then p q ≡ Less → (p ≡ Less) ⊎ (p ≡ Equal)
first_of_then Less q h = inl refl
first_of_then Equal q h = inr refl
first_of_then Greater q h = cc

-- the paths of statements in order
paths_rise : (x y : Stmt) → statement_cmp x y ≡ Less → (path_cmp x.path y.path ≡ Less) ⊎ (x.path ≡ y.path)
paths_rise x y h = elim (first_of_then (path_cmp x.path y.path) (ordering_then (tuple_cmp x.tuple y.tuple) (sign_cmp x.sign y.sign)) h) [
  | inl e ↦ inl e
  | inr e ↦ inr (path_exact.exact x.path y.path e)
]

lengths_rise : (x y : Stmt) → statement_cmp x y ≡ Less → length x.path ≤ length y.path
lengths_rise x y h = elim (paths_rise x y h) [
  | inl e ↦ by_length (first_of_then (nat_cmp (length x.path) (length y.path)) (slice_cmp nat_cmp x.path y.path) e)
  | inr e ↦ let k = ap length e in omega arith
]
  where
    by_length : (nat_cmp (length x.path) (length y.path) ≡ Less) ⊎ (nat_cmp (length x.path) (length y.path) ≡ Equal) → length x.path ≤ length y.path
    by_length c = grind (arith, nat_tests)

-- once a statement does not come before a path, no later one does
not_before_stays : (w : List ℕ) (x y : Stmt) → statement_cmp x y ≡ Less → path_is_before w x ≡ false → path_is_before w y ≡ false
not_before_stays w x y h e = elim (paths_rise x y h) [
  | inl k ↦ false_from_ne_true (path_is_before w y) (λ t. false≢true (sym e ∙ ap is_lt (path_total.trans x.path y.path w k (is_lt-Less (path_cmp y.path w) t))))
  | inr k ↦ ap (λ v. is_lt (path_cmp v w)) (sym k) ∙ e
]

-- a statement is at a path or comes before it
abbrev is_up_to : List ℕ → Stmt → Bool
is_up_to w x = path_is_before w x || same_path x.path w

not_up_to_stays : (w : List ℕ) (x y : Stmt) → statement_cmp x y ≡ Less → is_up_to w x ≡ false → is_up_to w y ≡ false
not_up_to_stays w x y h e = elim (paths_rise x y h) [
  | inl k ↦ false_from_ne_true (is_up_to w y) (λ t. false≢true (sym e ∙ or_left (path_is_before w x) (same_path x.path w) (ap is_lt (passed k (or_cases (path_is_before w y) (same_path y.path w) t)))))
  | inr k ↦ ap (λ v. is_lt (path_cmp v w) || same_path v w) (sym k) ∙ e
]
  where
    passed : path_cmp x.path y.path ≡ Less → (path_is_before w y ≡ true) ⊎ (same_path y.path w ≡ true) → path_cmp x.path w ≡ Less
    passed k (inl t) = path_total.trans x.path y.path w k (is_lt-Less (path_cmp y.path w) t)
    passed k (inr t) = ap (path_cmp x.path) (sym ((same_path-Decides y.path w).0 t)) ∙ k

-- ---- the binary search

pub search_up : (stmts : List Stmt) (w : List ℕ) (y : Stmt) (m : ℕ) → ascending statement_cmp stmts ≡ true → m < length stmts → y ≡ get_or stmts m y → path_is_before w y ≡ true
    → list_all (path_is_before w) (take (m + 1) stmts) ≡ true
search_up stmts w y m = all_up_to statement_exact (path_is_before w) (not_before_stays w) stmts y m

pub search_down : (stmts : List Stmt) (w : List ℕ) (y : Stmt) (m : ℕ) → ascending statement_cmp stmts ≡ true → m < length stmts → y ≡ get_or stmts m y → path_is_before w y ≡ false
    → list_all (λ x. not (path_is_before w x)) (drop m stmts) ≡ true
search_down stmts w y m = none_from statement_exact (path_is_before w) (not_before_stays w) stmts y m

-- ---- the statements of a path

-- what comes before a path is not at it
not_before_itself : (w : List ℕ) (x : Stmt) → path_is_before w x ≡ true → not (same_path x.path w) ≡ true
not_before_itself w x h = by (path_cmp x.path w) (is_eq_path_cmp x.path w) h
  where
    by : (r : Ordering) → is_eq r ≡ same_path x.path w → is_lt r ≡ true → not (same_path x.path w) ≡ true
    by Less e t = not_from_false (same_path x.path w) (sym e)
    by Equal e t = absurd (false≢true t)
    by Greater e t = absurd (false≢true t)

-- all that are at a path stand from its first place on
from_first : (stmts rest : List Stmt) (w : List ℕ) (at : ℕ) → rest ≡ drop at stmts → IsFirstAt stmts w at → filter (λ x. same_path x.path w) rest ≡ filter (λ x. same_path x.path w) stmts
from_first stmts rest w at is f =
    ap (filter q) is ∙ ap (λ xs. xs ++ filter q (drop at stmts)) (sym none) ∙ sym (filter-append q (take at stmts) (drop at stmts)) ∙ ap (filter q) (take-append-drop at stmts)
  where
    q : Stmt → Bool
    q x = same_path x.path w

    none : filter q (take at stmts) ≡ []
    none = filter_none q (take at stmts) (list_all_weaker (path_is_before w) (λ x. not (q x)) (not_before_itself w) (take at stmts) f.before)

-- where all from the first place on are at the path, these are all that are
pub run_is_whole : (stmts rest : List Stmt) (w : List ℕ) (at : ℕ) → rest ≡ drop at stmts → IsFirstAt stmts w at → list_all (λ x. same_path x.path w) rest ≡ true
    → rest ≡ filter (λ x. same_path x.path w) stmts
run_is_whole stmts rest w at is f h = sym (filter_all (λ x. same_path x.path w) rest h) ∙ from_first stmts rest w at is f

-- where the run of those at the path ends, no more follow
pub run_is_part : (stmts rest : List Stmt) (w : List ℕ) (at n : ℕ) (y : Stmt) → rest ≡ drop at stmts → ascending statement_cmp stmts ≡ true → IsFirstAt stmts w at
    → list_all (λ x. same_path x.path w) (take n rest) ≡ true → n < length rest → y ≡ get_or rest n y → same_path y.path w ≡ false
    → take n rest ≡ filter (λ x. same_path x.path w) stmts
run_is_part stmts rest w at n y is h f t l r e =
    sym (append-nil (take n rest)) ∙ ap (λ xs. xs ++ []) (sym (filter_all q (take n rest) t)) ∙ ap (λ xs. filter q (take n rest) ++ xs) (sym none)
    ∙ sym (filter-append q (take n rest) (drop n rest)) ∙ ap (filter q) (take-append-drop n rest) ∙ from_first stmts rest w at is f
  where
    q : Stmt → Bool
    q x = same_path x.path w

    rises : ascending statement_cmp rest ≡ true
    rises = ap (ascending statement_cmp) is ∙ drop_ascends statement_cmp at stmts h

    behind : path_is_before w y ≡ false
    behind = not-true (path_is_before w y) (list_all_get (λ x. not (path_is_before w x)) rest n y (ap (list_all (λ x. not (path_is_before w x))) is ∙ f.behind) (slice_get_read rest (length rest) n y refl l r))

    none : filter q (drop n rest) ≡ []
    none = filter_none q (drop n rest) (list_all_weaker (λ x. not (is_up_to w x)) (λ x. not (q x)) (λ x k. not_right (path_is_before w x) (q x) k) (drop n rest)
        (none_from statement_exact (is_up_to w) (not_up_to_stays w) rest y n rises l r (or_from (path_is_before w y) (q y) behind e)))

-- ---- the statements at the ends of a path

-- no statement behind one of a longer path is at an end of a path
none_shorter : (w : List ℕ) (x : Stmt) (xs : List Stmt) → length w < length x.path → list_all (λ y. is_lt (statement_cmp x y)) xs ≡ true → filter (λ y. is_suffix y.path w) xs ≡ []
none_shorter w x xs l h = filter_none (λ y. is_suffix y.path w) xs (list_all_weaker (λ y. is_lt (statement_cmp x y)) (λ y. not (is_suffix y.path w)) longer xs h)
  where
    longer : (y : Stmt) → is_lt (statement_cmp x y) ≡ true → not (is_suffix y.path w) ≡ true
    longer y e = not_from_false (is_suffix y.path w) (false_from_ne_true (is_suffix y.path w) (λ t.
        let a = length-suffix y.path w t in
        let b = lengths_rise x y (is_lt-Less (statement_cmp x y) e) in
        omega arith))

-- the statements at the ends of the path without its first user come first, then those of the path
ends_split : (i : ℕ) (w : List ℕ) (stmts : List Stmt) → ascending statement_cmp stmts ≡ true
    → filter (λ x. is_suffix x.path (i ∷ w)) stmts ≡ filter (λ x. is_suffix x.path w) stmts ++ filter (λ x. same_path x.path (i ∷ w)) stmts
ends_split i w [] h = refl
ends_split i w (x ∷ xs) h = elim (cases_Bool (same_path x.path (i ∷ w))) [
  | inl e ↦
      let long = ap length ((same_path-Decides x.path (i ∷ w)).0 e) in
      let none = none_shorter w x xs (omega arith) k.0 in
      let apart : is_suffix x.path w ≡ false = false_from_ne_true (is_suffix x.path w) (λ t. let a = length-suffix x.path w t in omega arith) in
      filter_kept_one end x xs (or_left (same_path x.path (i ∷ w)) (is_suffix x.path w) e)
      ∙ ap (λ ys. x ∷ ys) (ends_split i w xs k.1 ∙ ap (λ ys. ys ++ filter own xs) none)
      ∙ ap (λ ys. ys ++ x ∷ filter own xs) (sym (filter_dropped_one shorter x xs apart ∙ none))
      ∙ ap (λ ys. filter shorter (x ∷ xs) ++ ys) (sym (filter_kept_one own x xs e))
  | inr e ↦ elim (cases_Bool (is_suffix x.path w)) [
    | inl s ↦
        filter_kept_one end x xs (or_right (same_path x.path (i ∷ w)) (is_suffix x.path w) s) ∙ ap (λ ys. x ∷ ys) (ends_split i w xs k.1)
        ∙ ap (λ ys. ys ++ filter own xs) (sym (filter_kept_one shorter x xs s))
        ∙ ap (λ ys. filter shorter (x ∷ xs) ++ ys) (sym (filter_dropped_one own x xs e))
    | inr s ↦
        filter_dropped_one end x xs (or_from (same_path x.path (i ∷ w)) (is_suffix x.path w) e s) ∙ ends_split i w xs k.1
        ∙ ap (λ ys. ys ++ filter own xs) (sym (filter_dropped_one shorter x xs s))
        ∙ ap (λ ys. filter shorter (x ∷ xs) ++ ys) (sym (filter_dropped_one own x xs e))
  ]
]
  where
    end : Stmt → Bool
    end y = is_suffix y.path (i ∷ w)

    shorter : Stmt → Bool
    shorter y = is_suffix y.path w

    own : Stmt → Bool
    own y = same_path y.path (i ∷ w)

    k : (list_all (λ y. is_lt (statement_cmp x y)) xs ≡ true) × (ascending statement_cmp xs ≡ true)
    k = and_parts (list_all (λ y. is_lt (statement_cmp x y)) xs) (ascending statement_cmp xs) h

shorter_ends_first : (w : List ℕ) (stmts : List Stmt) → 0 < length w → ascending statement_cmp stmts ≡ true
    → filter (λ x. is_suffix x.path (drop 1 w)) stmts ++ filter (λ x. same_path x.path w) stmts ≡ filter (λ x. is_suffix x.path w) stmts
shorter_ends_first [] stmts l h = absurd (omega arith)
shorter_ends_first (i ∷ w) stmts l h = sym (ends_split i w stmts h)

-- a list with the statements at the shorter ends, and then those of the path
pub ends_so_far : (w rest : List ℕ) (stmts near now own new : List Stmt) → 0 < length w → rest ≡ drop 1 w → ascending statement_cmp stmts ≡ true
    → now ≡ near ++ filter (λ x. is_suffix x.path rest) stmts → own ≡ filter (λ x. same_path x.path w) stmts → new ≡ now ++ own → new ≡ near ++ filter (λ x. is_suffix x.path w) stmts
ends_so_far w rest stmts near now own new l is h shorter e n =
    n ∙ ap (λ xs. xs ++ own) shorter ∙ ap (λ xs. (near ++ filter (λ x. is_suffix x.path rest) stmts) ++ xs) e
    ∙ append_assoc near (filter (λ x. is_suffix x.path rest) stmts) (filter (λ x. same_path x.path w) stmts)
    ∙ ap (λ v. near ++ (filter (λ x. is_suffix x.path v) stmts ++ filter (λ x. same_path x.path w) stmts)) is
    ∙ ap (λ xs. near ++ xs) (shorter_ends_first w stmts l h)

pub ends_ascend : (w : List ℕ) (stmts : List Stmt) → ascending statement_cmp stmts ≡ true → ascending statement_cmp (filter (λ x. is_suffix x.path w) stmts) ≡ true
ends_ascend w stmts h = filter_keeps_order statement_exact (λ x. is_suffix x.path w) stmts h

-- ---- a world depends on the statements at the path's ends alone

-- a test has all statements of a path's ends
abbrev HasEnds : (Stmt → Bool) → List ℕ → Type 0
HasEnds q w = (x : Stmt) → is_suffix x.path w ≡ true → q x ≡ true

-- at this very path nothing is lost
kept_here : (p q : Stmt → Bool) (stmts : List Stmt) (w : List ℕ) → HasEnds q w
    → list_any (λ x. same_path x.path w && p x) (filter q stmts) ≡ list_any (λ x. same_path x.path w && p x) stmts
kept_here p q stmts w h = list_any-filter_same (λ x. same_path x.path w && p x) q
    (λ x e. h x (ap (λ v. is_suffix v w) ((same_path-Decides x.path w).0 (and_parts (same_path x.path w) (p x) e).0) ∙ suffix_itself w)) stmts

explicit_kept : (q : Stmt → Bool) (stmts : List Stmt) (w : List ℕ) (t : Tuple) (s : Sign) → HasEnds q w → explicit (filter q stmts) w t s ≡ explicit stmts w t s
explicit_kept q stmts w t s h = kept_here (λ x. same_tuple x.tuple t && same_sign x.sign s) q stmts w h

stated_kept : (keys : ℕ → ℕ) (q : Stmt → Bool) (stmts : List Stmt) (w : List ℕ) (t : Tuple) (s : Sign) → HasEnds q w → stated keys (filter q stmts) w t s ≡ stated keys stmts w t s
stated_kept keys q stmts [] t s h = explicit_kept q stmts [] t s h
stated_kept keys q stmts (i ∷ w) t s h =
    ap (λ b. b || (stated keys (filter q stmts) w t s && not (contradicted keys (filter q stmts) (i ∷ w) t s))) (explicit_kept q stmts (i ∷ w) t s h)
    ∙ ap (λ b. explicit stmts (i ∷ w) t s || (b && not (contradicted keys (filter q stmts) (i ∷ w) t s)))
    (stated_kept keys q stmts w t s (λ x e. h x (or_right (same_path x.path (i ∷ w)) (is_suffix x.path w) e)))
    ∙ ap (λ b. explicit stmts (i ∷ w) t s || (stated keys stmts w t s && not b)) (kept_here (λ x. clash keys t s x.tuple x.sign) q stmts (i ∷ w) h)

row_kept : (keys : ℕ → ℕ) (q : Stmt → Bool) (stmts : List Stmt) (w : List ℕ) (t : Tuple) (s : Sign) → HasEnds q w → row_at keys (filter q stmts) w t s ≡ row_at keys stmts w t s
row_kept keys q stmts w t s h =
    ap (λ b. cond b (row (explicit (filter q stmts) w t s) ∷ []) []) (stated_kept keys q stmts w t s h)
    ∙ ap (λ b. cond (stated keys stmts w t s) (row b ∷ []) []) (explicit_kept q stmts w t s h)
  where
    row : Bool → Held
    row e = record { tuple = t; sign = s; explicit = e }

rows_kept : (keys : ℕ → ℕ) (q : Stmt → Bool) (stmts : List Stmt) (w : List ℕ) (t : Tuple) → HasEnds q w → rows_at keys (filter q stmts) w t ≡ rows_at keys stmts w t
rows_kept keys q stmts w t h =
    ap (λ rows. rows ++ row_at keys (filter q stmts) w t Minus) (row_kept keys q stmts w t Plus h)
    ∙ ap (λ rows. row_at keys stmts w t Plus ++ rows) (row_kept keys q stmts w t Minus h)

-- a tuple that is none of the statements has no rows
no_row : (keys : ℕ → ℕ) (stmts : List Stmt) (w : List ℕ) (t : Tuple) (s : Sign) → is_member tuple_cmp (tuples_of stmts) t ≡ false → row_at keys stmts w t s ≡ []
no_row keys stmts w t s h = cond-false (stated keys stmts w t s) (record { tuple = t; sign = s; explicit = explicit stmts w t s } ∷ []) []
    (false_from_ne_true (stated keys stmts w t s) (λ e. false≢true (sym h ∙ stated_is_member keys stmts w t s e)))

no_rows : (keys : ℕ → ℕ) (stmts : List Stmt) (w : List ℕ) (t : Tuple) → is_member tuple_cmp (tuples_of stmts) t ≡ false → rows_at keys stmts w t ≡ []
no_rows keys stmts w t h =
    ap (λ rows. rows ++ row_at keys stmts w t Minus) (no_row keys stmts w t Plus h) ∙ no_row keys stmts w t Minus h

-- items for which a function gives nothing may be left out
flat_map-filter : {X Y : Type 0} (f : X → List Y) (q : X → Bool) → ((x : X) → q x ≡ false → f x ≡ []) → (xs : List X) → flat_map f (filter q xs) ≡ flat_map f xs
flat_map-filter f q h [] = refl
flat_map-filter f q h (x ∷ xs) = elim (cases_Bool (q x)) [
  | inl e ↦ ap (flat_map f) (filter_kept_one q x xs e) ∙ ap (λ ys. f x ++ ys) (flat_map-filter f q h xs)
  | inr e ↦ ap (flat_map f) (filter_dropped_one q x xs e) ∙ flat_map-filter f q h xs ∙ ap (λ ys. ys ++ flat_map f xs) (sym (h x e))
]

-- the tuples of fewer statements are those of all that are among them
fewer_tuples : (q : Stmt → Bool) (stmts : List Stmt) → filter (is_member tuple_cmp (tuples_of (filter q stmts))) (tuples_of stmts) ≡ tuples_of (filter q stmts)
fewer_tuples q stmts =
    members_make_set tuple_exact (filter few all) (tuples_of (filter q stmts)) (filter_keeps_order tuple_exact few all (set_is_ascending tuple_exact (map (λ x. x.tuple) stmts)))
    (set_is_ascending tuple_exact (map (λ x. x.tuple) (filter q stmts))) same
  where
    all : List Tuple
    all = tuples_of stmts

    few : Tuple → Bool
    few = is_member tuple_cmp (tuples_of (filter q stmts))

    listed : (xs : List Stmt) (t : Tuple) → is_member tuple_cmp (tuples_of xs) t ≡ list_any (λ x. same_tuple x.tuple t) xs
    listed xs t = set_keeps_members tuple_exact (map (λ x. x.tuple) xs) t ∙ member_of_map xs t

    same : (t : Tuple) → is_member tuple_cmp (filter few all) t ≡ few t
    same t = elim (cases_Bool (few t)) [
      | inl e ↦
          let here : is_member tuple_cmp all t ≡ true = listed stmts t ∙ list_any-filter_some (λ x. same_tuple x.tuple t) q stmts (sym (listed (filter q stmts) t) ∙ e) in
          list_any-filter_same (λ u. is_eq (tuple_cmp u t)) few (λ u k. ap few (tuple_exact.exact u t (is_eq-Equal (tuple_cmp u t) k)) ∙ e) all ∙ here ∙ sym e
      | inr e ↦ none all e ∙ sym e
    ]
      where
        none : (us : List Tuple) → few t ≡ false → is_member tuple_cmp (filter few us) t ≡ false
        none [] e = refl
        none (u ∷ us) e = elim (cases_Bool (few u)) [
          | inl k ↦ ap (λ ts. is_member tuple_cmp ts t) (filter_kept_one few u us k)
              ∙ ap (λ b. b || is_member tuple_cmp (filter few us) t)
              (false_from_ne_true (is_eq (tuple_cmp u t)) (λ z. false≢true (sym e ∙ ap few (sym (tuple_exact.exact u t (is_eq-Equal (tuple_cmp u t) z))) ∙ k))) ∙ none us e
          | inr k ↦ ap (λ ts. is_member tuple_cmp ts t) (filter_dropped_one few u us k) ∙ none us e
        ]

pub worlds_depend_on_ends : WorldsDependOnEnds
worlds_depend_on_ends keys stmts w =
    let q : Stmt → Bool = λ x. is_suffix x.path w in
    let near = filter q stmts in
    ap (flat_map (rows_at keys near w)) (sym (fewer_tuples q stmts))
    ∙ flat_map-filter (rows_at keys near w) (is_member tuple_cmp (tuples_of near)) (no_rows keys near w) (tuples_of stmts)
    ∙ flat_map_same (rows_at keys near w) (rows_at keys stmts w) (λ t. rows_kept keys q stmts w t (λ x e. e)) (tuples_of stmts)
