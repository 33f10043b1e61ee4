-- The ordered set of std puts an item where the sets of bdb_base do.
use Rattle.std.proofs.Common.{◌≡◌, ◌∙◌, List, [], ◌∷◌, refl, ap}
use Rattle.std.specs.declared.cmp.Ordering.{Ordering}
use Rattle.std.specs.declared.cmp.Ordering.TheVariants.{Less, Equal, Greater}
use Rattle.std.specs.Cmp.{IsTotalOrder}
use Rattle.std.specs.Ordering.{match_ordering, ordering_reverse}
use Rattle.std.specs.BTreeSet.{insert_key}
use Rattle.bdb_base.specs.SortedSet.{put_at, put_in}

turned : {X : Type 0} (r : Ordering) (y x : X) (ys a b : List X) → a ≡ b → match_ordering (ordering_reverse r) (x ∷ y ∷ ys) (y ∷ ys) (y ∷ a) ≡ put_at r y ys x b
turned Less y x ys a b e = ap (λ zs. y ∷ zs) e
turned Equal y x ys a b e = refl
turned Greater y x ys a b e = refl

pub insert_is_put : {X : Type 0} (R : X → X → Ordering) → IsTotalOrder R → (xs : List X) (x : X) → insert_key R xs x ≡ put_in R xs x
insert_is_put R o [] x = refl
insert_is_put R o (y ∷ ys) x =
    ap (λ r. match_ordering r (x ∷ y ∷ ys) (y ∷ ys) (y ∷ insert_key R ys x)) (o.antisymm x y)
    ∙ turned (R y x) y x ys (insert_key R ys x) (put_in R ys x) (insert_is_put R o ys x)
