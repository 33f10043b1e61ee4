-- The set of the tuples of rows, as a loop makes it.
use Rattle.std.proofs.Common.{◌≡◌, ◌∙◌, ℕ, ◌+◌, ◌<◌, ◌≤◌, List, [], ◌∷◌, ◌++◌, length, map, take, get_or, refl, ap, sym}
use Rattle.std.proofs.lemmas.List.{map-append, take_all, take_more}
use Rattle.bdb_base.specs.Order.{tuple_cmp}
use Rattle.bdb_base.specs.OrderLemmas.{tuple_exact}
use Rattle.bdb_base.specs.SortedSet.{put_all, put_in, sorted_set}
use Rattle.bdb_base.specs.declared.tuple.Tuple.{Tuple}
use Rattle.bdb_base.proofs.SetLemmas.{loop_makes_set}

abbrev pub tuple_of : ℕ × Tuple → Tuple
tuple_of e = e.1

put_push : (set xs : List Tuple) (x : Tuple) → put_all tuple_cmp set (xs ++ x ∷ []) ≡ put_in tuple_cmp (put_all tuple_cmp set xs) x
put_push set [] x = refl
put_push set (y ∷ xs) x = put_push (put_in tuple_cmp set y) xs x

pub one_put : (rows : List (ℕ × Tuple)) (k : ℕ) (d : ℕ × Tuple) (now next : List Tuple) → k < length rows → now ≡ put_all tuple_cmp [] (map (λ (e : ℕ × Tuple). e.1) (take k rows))
    → next ≡ put_in tuple_cmp now (get_or rows k d).1 → next ≡ put_all tuple_cmp [] (map (λ (e : ℕ × Tuple). e.1) (take (k + 1) rows))
one_put rows k d now next l set is =
    is ∙ ap (λ xs. put_in tuple_cmp xs (get_or rows k d).1) set ∙ sym (put_push [] (map tuple_of (take k rows)) (get_or rows k d).1)
    ∙ ap (put_all tuple_cmp []) (sym (ap (map tuple_of) (take_more rows k d l) ∙ map-append tuple_of (take k rows) (get_or rows k d ∷ [])))

pub all_put : (rows : List (ℕ × Tuple)) (k : ℕ) (set : List Tuple) → length rows ≤ k → set ≡ put_all tuple_cmp [] (map (λ (e : ℕ × Tuple). e.1) (take k rows))
    → set ≡ sorted_set tuple_cmp (map (λ (e : ℕ × Tuple). e.1) rows)
all_put rows k set l is = is ∙ ap (λ es. put_all tuple_cmp [] (map tuple_of es)) (take_all k rows l) ∙ loop_makes_set tuple_exact (map tuple_of rows)
