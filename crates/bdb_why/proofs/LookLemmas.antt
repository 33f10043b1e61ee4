-- The steps of the loops over statements and over rivals.
use Rattle.std.proofs.Common.{◌≡◌, ◌∙◌, ℕ, ◌+◌, ◌<◌, ◌≤◌, ◌++◌, Bool, true, false, cond, find, List, [], ◌∷◌, Some, ap, append_assoc, sym, inl, inr, filter, map, length, drop, get_or}
use Rattle.std.proofs.lemmas.Bool.{cases_Bool, cond-true, cond-false}
use Rattle.std.proofs.lemmas.List.{drop_more, drop_all}
use Rattle.bdb_base.specs.declared.kinds.Stmt.{Stmt}
use Rattle.bdb_base.specs.declared.tuple.Tuple.{Tuple}
use Rattle.bdb_base.specs.Order.{tuple_cmp}
use Rattle.bdb_base.specs.OrderLemmas.{tuple_exact}
use Rattle.bdb_base.specs.SortedSet.{ascending, put_all, put_in, sorted_set}
use Rattle.bdb_base.proofs.ListLemmas.{filter_kept_one, filter_dropped_one}
use Rattle.bdb_base.proofs.SetLemmas.{loop_makes_set, put_keeps_order}
use Rattle.bdb_why.specs.declared.among.Searched.TheVariants.{Held}
use Rattle.bdb_why.specs.declared.kinds.Ruled.{Ruled}
use Rattle.bdb_why.specs.Certificates.{is_held}
use Rattle.bdb_why.specs.Searching.{held_or, searched_by}

-- the tuples of statements that pass
abbrev pub tuples_where : (Stmt → Bool) → List Stmt → List Tuple
tuples_where q xs = map (λ x. x.tuple) (filter q xs)

-- a set with a statement's tuple, where the statement passes
abbrev pub put_where : (Stmt → Bool) → List Tuple → Stmt → List Tuple
put_where q us x = cond (q x) (put_in tuple_cmp us x.tuple) us

pub put_next : (q : Stmt → Bool) (us : List Tuple) (x : Stmt) (xs : List Stmt)
    → put_all tuple_cmp us (tuples_where q (x ∷ xs)) ≡ put_all tuple_cmp (put_where q us x) (tuples_where q xs)
put_next q us x xs = elim (cases_Bool (q x)) [
  | inl e ↦ ap (λ ys. put_all tuple_cmp us (map (λ y. y.tuple) ys)) (filter_kept_one q x xs e)
      ∙ ap (λ vs. put_all tuple_cmp vs (tuples_where q xs)) (sym (cond-true (q x) (put_in tuple_cmp us x.tuple) us e))
  | inr e ↦ ap (λ ys. put_all tuple_cmp us (map (λ y. y.tuple) ys)) (filter_dropped_one q x xs e)
      ∙ ap (λ vs. put_all tuple_cmp vs (tuples_where q xs)) (sym (cond-false (q x) (put_in tuple_cmp us x.tuple) us e))
]

pub put_step : (q : Stmt → Bool) (xs : List Stmt) (i : ℕ) (x : Stmt) (us new all : List Tuple) → i < length xs → x ≡ get_or xs i x
    → new ≡ put_where q us x → put_all tuple_cmp us (tuples_where q (drop i xs)) ≡ all → put_all tuple_cmp new (tuples_where q (drop (i + 1) xs)) ≡ all
put_step q xs i x us new all h r e rest =
    ap (λ l. put_all tuple_cmp l (tuples_where q (drop (i + 1) xs))) e
    ∙ sym (put_next q us x (drop (i + 1) xs))
    ∙ ap (λ y. put_all tuple_cmp us (tuples_where q (y ∷ drop (i + 1) xs))) r
    ∙ ap (λ l. put_all tuple_cmp us (tuples_where q l)) (sym (drop_more xs i x h)) ∙ rest

pub put_keeps : (q : Stmt → Bool) (us : List Tuple) (x : Stmt) (new : List Tuple) → new ≡ put_where q us x → ascending tuple_cmp us ≡ true → ascending tuple_cmp new ≡ true
put_keeps q us x new e h = ap (ascending tuple_cmp) e ∙ elim (cases_Bool (q x)) [
  | inl a ↦ ap (ascending tuple_cmp) (cond-true (q x) (put_in tuple_cmp us x.tuple) us a) ∙ put_keeps_order tuple_exact us x.tuple h
  | inr a ↦ ap (ascending tuple_cmp) (cond-false (q x) (put_in tuple_cmp us x.tuple) us a) ∙ h
]

pub put_end : (q : Stmt → Bool) (xs : List Stmt) (i : ℕ) (us : List Tuple) → length xs ≤ i
    → put_all tuple_cmp us (tuples_where q (drop i xs)) ≡ put_all tuple_cmp [] (tuples_where q xs) → us ≡ sorted_set tuple_cmp (tuples_where q xs)
put_end q xs i us h rest = ap (λ l. put_all tuple_cmp us (tuples_where q l)) (sym (drop_all i xs h)) ∙ rest ∙ loop_makes_set tuple_exact (tuples_where q xs)

-- one look at a rival, of those that are left
module _ (f : Tuple → Ruled) (us : List Tuple) (i : ℕ) (u : Tuple) (r : Ruled) (h : i < length us) (e : u ≡ get_or us i u) (k : r ≡ f u)
    (first : find is_held (map f (drop i us)) ≡ find is_held (map f us)) where
  abbrev left : List Tuple
  left = drop (i + 1) us

  split : drop i us ≡ u ∷ left
  split = drop_more us i u h ∙ ap (λ y. y ∷ left) (sym e)

  now_first : cond (is_held r) (Some r) (find is_held (map f left)) ≡ find is_held (map f us)
  now_first = ap (λ y. cond (is_held y) (Some y) (find is_held (map f left))) k ∙ ap (λ ys. find is_held (map f ys)) (sym split) ∙ first

  pub rival_held : is_held r ≡ true → Held r ≡ searched_by (map f us)
  rival_held b = ap (λ o. held_or o (map f us)) (sym (cond-true (is_held r) (Some r) (find is_held (map f left)) b) ∙ now_first)

  pub rival_passed : is_held r ≡ false → find is_held (map f left) ≡ find is_held (map f us)
  rival_passed b = sym (cond-false (is_held r) (Some r) (find is_held (map f left)) b) ∙ now_first

  pub rival_kept : (others new : List Ruled) → others ++ map f (drop i us) ≡ map f us → new ≡ others ++ r ∷ [] → new ++ map f left ≡ map f us
  rival_kept others new all n =
      ap (λ rs. rs ++ map f left) n ∙ append_assoc others (r ∷ []) (map f left) ∙ ap (λ y. others ++ (y ∷ map f left)) k
      ∙ ap (λ ys. others ++ map f ys) (sym split) ∙ all
