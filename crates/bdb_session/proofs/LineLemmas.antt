-- How many lines the structure of a stored base has.
use Rattle.std.proofs.Common.{◌≡◌, ◌∙◌, ℕ, suc, ◌+◌, ◌-◌, ◌*◌, ◌<◌, ◌≤◌, Bool, true, false, not, nat_eq, nat_lt, nat_le, List, [], ◌∷◌, Some, length, map, filter, sum_by, slice_get, refl, ap, sym, subst, inl, inr, arith}
use Rattle.std.specs.Option.{is_some}
use Prim.Native.Nat.{zero}
use Rattle.std.specs.List.{list_all}
use Rattle.std.specs.Ordering.{is_lt}
use Rattle.std.proofs.lemmas.Bool.{cases_Bool, and_parts, false≢true, eqb-true, eqb-false, leb-true, ne_eqb, ltb-true}
use Rattle.std.proofs.lemmas.List.Sums.{sum_by-cons}
use Rattle.bdb_base.specs.Bases.{Contents, is_user, name_at, tuple_count, user_names}
use Rattle.bdb_base.specs.Limits.{most_users}
use Rattle.bdb_base.specs.Order.{path_cmp}
use Rattle.bdb_base.specs.OrderLemmas.{path_exact, tuple_exact}
use Rattle.bdb_base.specs.Queries.{live_numbers, user_numbers}
use Rattle.bdb_base.specs.Same.{same_tuple}
use Rattle.bdb_base.specs.SameLemmas.{same_tuple-Decides}
use Rattle.bdb_base.specs.Segments.{is_suffix}
use Rattle.bdb_base.specs.SortedSet.{ascending, is_member}
use Rattle.bdb_base.specs.States.{states_of, stated_prefixes}
use Rattle.bdb_base.specs.WorldRows.{tuples_of}
use Rattle.bdb_base.specs.declared.kinds.Stmt.{Stmt}
use Rattle.bdb_base.specs.declared.kinds.UserSlot.{UserSlot}
use Rattle.bdb_base.specs.declared.kinds.UserSlot.TheVariants.{Live, Gone}
use Rattle.bdb_base.proofs.CountLemmas.{put_all_count}
use Rattle.bdb_base.proofs.ListLemmas.{filter_dropped_one, filter_kept_one, list_all_weaker}
use Rattle.bdb_base.proofs.SetLemmas.{loop_makes_set, set_is_ascending}
use Rattle.bdb_base.proofs.UserLemmas.{numbers_are_counted, numbers_are_live}
use Rattle.bdb_canon.specs.Canonical.{canon_of, edge_count, line_count}
use Rattle.bdb_canon.specs.Sizes.{counts_of}
use Rattle.bdb_canon.proofs.LineLemmas.{lines_by_counts}
use Rattle.bdb_canon.proofs.PlaceLemmas.{root_is_listed}
use Rattle.bdb_canon.proofs.RangeLemmas.{items_are_members}
use Rattle.bdb_keep.specs.Tables.{Tables}
use Rattle.bdb_paths.proofs.StateLemmas.{list_has_states, states_are_counted}
use Rattle.bdb_paths.proofs.SuffixLemmas.{root_comes_first}
use Rattle.bdb_canon.proofs.UserLemmas.{names_within}
use Rattle.bdb_session.specs.Lines.{edges_by, lines_by}
use Rattle.bdb_tables.specs.Stored.{Stores}

-- ---- the edges of one state

-- the last user of a path that isn't empty
abbrev last_of : ℕ → List ℕ → ℕ
last_of a [] = a
last_of a (b ∷ w) = last_of b w

ends_in_last : (a : ℕ) (w : List ℕ) (j : ℕ) → is_suffix (j ∷ []) (a ∷ w) ≡ nat_eq j (last_of a w)
ends_in_last a [] j = elim (cases_Bool (nat_eq j a)) [ inl e ↦ rw e refl | inr e ↦ rw e refl ]
ends_in_last a (b ∷ w) j = elim (cases_Bool (nat_eq j a)) [ inl e ↦ rw e (ends_in_last b w j) | inr e ↦ rw e (ends_in_last b w j) ]

last_is_user : (p : ℕ → Bool) (a : ℕ) (w : List ℕ) → list_all p (a ∷ w) ≡ true → p (last_of a w) ≡ true
last_is_user p a [] h = (and_parts (p a) true h).0
last_is_user p a (b ∷ w) h = last_is_user p b w (and_parts (p a) (list_all p (b ∷ w)) h).1

-- the numbers of all live users but one
none_left_out : (n l : ℕ) (users : List UserSlot) → l < n → length (filter (λ j. not (nat_eq j l)) (live_numbers n users)) ≡ length (user_names users)
none_left_out n l [] h = refl
none_left_out n l (Live name ∷ users) h =
    let q : ℕ → Bool = λ j. not (nat_eq j l) in
    let other : nat_eq n l ≡ false = ne_eqb n l (λ e. omega arith) in
    ap length (filter_kept_one q n (live_numbers (suc n) users) (ap not other)) ∙ ap suc (none_left_out (suc n) l users (omega arith))
none_left_out n l (Gone ∷ users) h = none_left_out (suc n) l users (omega arith)

-- where the number behind the first one stands in the rest
named_behind : (n l : ℕ) (slot : UserSlot) (users : List UserSlot) → n < l → is_some (name_at (slot ∷ users) (l - n)) ≡ true → is_some (name_at users (l - suc n)) ≡ true
named_behind n l slot users h e =
    let one : l - n ≡ suc (l - suc n) = omega arith in
    subst (λ k. is_some (name_at (slot ∷ users) k) ≡ true) one e

none_is_gone : (n l : ℕ) (users : List UserSlot) → n ≡ l → is_some (name_at (Gone ∷ users) (l - n)) ≡ true → ⊥
none_is_gone n l users h e =
    let first : l - n ≡ 0 = omega arith in
    absurd (false≢true (subst (λ k. is_some (name_at (Gone ∷ users) k) ≡ true) first e))

one_left_out : (n l : ℕ) (users : List UserSlot) → n ≤ l → is_some (name_at users (l - n)) ≡ true
    → length (filter (λ j. not (nat_eq j l)) (live_numbers n users)) + 1 ≡ length (user_names users)
one_left_out n l [] low named = absurd (false≢true named)
one_left_out n l (Live name ∷ users) low named =
    let q : ℕ → Bool = λ j. not (nat_eq j l) in
    elim (cases_Bool (nat_eq n l)) [
      | inl e ↦
          let this = eqb-true n l e in
          let here = ap length (filter_dropped_one q n (live_numbers (suc n) users) (ap not e)) in
          let rest = none_left_out (suc n) l users (omega arith) in
          omega arith
      | inr e ↦
          let other = eqb-false n l e in
          let here = ap length (filter_kept_one q n (live_numbers (suc n) users) (ap not e)) in
          let rest = one_left_out (suc n) l users (omega arith) (named_behind n l (Live name) users (omega arith) named) in
          omega arith
    ]
one_left_out n l (Gone ∷ users) low named =
    elim (cases_Bool (nat_eq n l)) [
      | inl e ↦ absurd (none_is_gone n l users (eqb-true n l e) named)
      | inr e ↦ let other = eqb-false n l e in one_left_out (suc n) l users (omega arith) (named_behind n l Gone users (omega arith) named)
    ]

filter_same : (p q : ℕ → Bool) → ((j : ℕ) → p j ≡ q j) → (js : List ℕ) → length (filter p js) ≡ length (filter q js)
filter_same p q h [] = refl
filter_same p q h (j ∷ js) = elim (cases_Bool (q j)) [
  | inl e ↦ ap length (filter_kept_one p j js (h j ∙ e)) ∙ ap suc (filter_same p q h js) ∙ sym (ap length (filter_kept_one q j js e))
  | inr e ↦ ap length (filter_dropped_one p j js (h j ∙ e)) ∙ filter_same p q h js ∙ sym (ap length (filter_dropped_one q j js e))
]

all_kept : (p : ℕ → Bool) → ((j : ℕ) → p j ≡ true) → (js : List ℕ) → length (filter p js) ≡ length js
all_kept p h [] = refl
all_kept p h (j ∷ js) = ap length (filter_kept_one p j js (h j)) ∙ ap suc (all_kept p h js)

-- one for a state that isn't the empty path
abbrev past_root : List ℕ → ℕ
past_root [] = 0
past_root (i ∷ w) = 1

-- a state has an edge for each user, but for the last one of its path
edges_of_one : (users : List UserSlot) (w : List ℕ) → list_all (is_user users) w ≡ true → edge_count (user_numbers users) w + past_root w ≡ length (user_names users)
edges_of_one users [] h = let k = all_kept (λ j. not (is_suffix (j ∷ []) [])) (λ j. refl) (user_numbers users) in let n = numbers_are_counted users in omega arith
edges_of_one users (a ∷ w) h =
    let l = last_of a w in
    let own = and_parts (nat_lt 0 l) (is_some (name_at users (l - 1))) (last_is_user (is_user users) a w h) in
    let low = ltb-true 0 l own.0 in
    let same = filter_same (λ j. not (is_suffix (j ∷ []) (a ∷ w))) (λ j. not (nat_eq j l)) (λ j. ap not (ends_in_last a w j)) (user_numbers users) in
    let numbers = ap (λ (js : List ℕ). length (filter (λ j. not (nat_eq j l)) js)) (numbers_are_live users) in
    let one = one_left_out 1 l users (omega arith) own.1 in
    omega arith

-- ---- the edges of all states

edges_of_all : (users : List UserSlot) (states : List (List ℕ)) → list_all (λ w. list_all (is_user users) w) states ≡ true
    → sum_by (edge_count (user_numbers users)) states + sum_by past_root states ≡ length states * length (user_names users)
edges_of_all users [] h = omega arith
edges_of_all users (w ∷ ws) h =
    let parts = and_parts (list_all (is_user users) w) (list_all (λ v. list_all (is_user users) v) ws) h in
    let one = edges_of_one users w parts.0 in
    let rest = edges_of_all users ws parts.1 in
    let e = sum_by-cons (edge_count (user_numbers users)) w ws in
    let r = sum_by-cons past_root w ws in
    omega arith

none_is_root : (ws : List (List ℕ)) → list_all (λ y. is_lt (path_cmp [] y)) ws ≡ true → sum_by past_root ws ≡ length ws
none_is_root [] h = refl
none_is_root ([] ∷ ws) h = absurd (false≢true (and_parts (is_lt (path_cmp [] [])) (list_all (λ y. is_lt (path_cmp [] y)) ws) h).0)
none_is_root ((i ∷ w) ∷ ws) h =
    let rest = none_is_root ws (and_parts (is_lt (path_cmp [] (i ∷ w))) (list_all (λ y. is_lt (path_cmp [] y)) ws) h).1 in
    let r = sum_by-cons past_root (i ∷ w) ws in
    omega arith

-- all states but the first are longer than the empty path
one_is_root : (ws : List (List ℕ)) → ascending path_cmp ws ≡ true → slice_get ws 0 ≡ Some [] → sum_by past_root ws + 1 ≡ length ws
one_is_root [] h e = absurd cc
one_is_root (w ∷ ws) h e =
    let first : w ≡ [] = (let s : Some w ≡ Some [] = e in cc) in
    let rises = (and_parts (list_all (λ y. is_lt (path_cmp w y)) ws) (ascending path_cmp ws) h).0 in
    let rest = none_is_root ws (ap (λ v. list_all (λ y. is_lt (path_cmp v y)) ws) (sym first) ∙ rises) in
    let r = sum_by-cons past_root w ws in
    let z = ap past_root first in
    omega arith

-- ---- the lines of a stored base

tuples_counted : (stmts : List Stmt) → length (tuples_of stmts) ≡ tuple_count stmts
tuples_counted stmts =
    let ts = map (λ (x : Stmt). x.tuple) stmts in
    ap length (sym (loop_makes_set tuple_exact ts)) ∙ put_all_count same_tuple same_tuple-Decides tuple_exact ts

-- the paths of a stored base's states are of its users
states_have_users : (t : Tables) (b : Contents) → Stores t b → list_all (λ w. list_all (is_user b.catalog.users) w) (states_of b.stmts) ≡ true
states_have_users t b h =
    list_all_weaker (is_member path_cmp (states_of b.stmts)) (λ w. list_all (is_user b.catalog.users) w)
    (λ w m. h.stored.states.own w (h.stored.worlds w ∙ sym (list_has_states b.stmts w) ∙ m)) (states_of b.stmts) (items_are_members path_exact (states_of b.stmts))

edges_from_sum : (edges worlds users : ℕ) → 0 < worlds → edges + worlds ≡ worlds * users + 1 → edges ≡ edges_by users worlds
edges_from_sum edges zero users some e = absurd (omega arith)
edges_from_sum edges (suc v) zero some e = omega arith
edges_from_sum edges (suc v) (suc m) some e =
    let p : suc v - 1 ≡ v = omega arith in
    let q : suc m - 1 ≡ m = omega arith in
    let r : edges ≡ suc m + v * m = omega arith in
    r ∙ ap (λ x. suc m + x * m) (sym p) ∙ ap (λ x. suc m + (suc v - 1) * x) (sym q)

pub lines_are : (t : Tables) (b : Contents) → Stores t b → line_count b.catalog (canon_of b) ≡ lines_by (length (user_names b.catalog.users)) (length b.catalog.rels) (counts_of b)
lines_are t b h =
    let states = states_of b.stmts in
    let users = user_numbers b.catalog.users in
    let count = numbers_are_counted b.catalog.users in
    let worlds = states_are_counted b.stmts in
    let tuples = tuples_counted b.stmts in
    let some = one_is_root states (set_is_ascending path_exact (stated_prefixes b.stmts)) (root_comes_first states (set_is_ascending path_exact (stated_prefixes b.stmts)) (root_is_listed b.stmts)) in
    let all = edges_of_all b.catalog.users states (states_have_users t b h) in
    let edges = edges_from_sum (sum_by (edge_count users) states) (length states) (length (user_names b.catalog.users)) (omega arith) (omega arith) in
    let same = ap (edges_by (length (user_names b.catalog.users))) worlds in
    let lines = lines_by_counts b in
    omega arith

pub few_live : (users : List UserSlot) (n : ℕ) → n ≡ length (user_names users) → nat_le (length users) most_users ≡ true → n ≤ most_users
few_live users n e few = let within = names_within users in let most = leb-true (length users) most_users few in omega arith
