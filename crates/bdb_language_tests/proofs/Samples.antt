-- A sample query of the tests fits each catalog with a relation.
use Rattle.std.proofs.Common.{◌≡◌, ◌∙◌, ℕ, ◌^◌, true, List, [], ◌∷◌, length, refl, ap, arith}
use Rattle.std.specs.Option.{is_some}
use Rattle.std.specs.List.{slice_get}
use Rattle.std.proofs.lemmas.Bool.{and_from, lt-ltb}
use Rattle.bdb_base.specs.declared.kinds.Catalog.{Catalog}
use Rattle.bdb_base.specs.declared.kinds.Cond.{Cond}
use Rattle.bdb_base.specs.declared.kinds.Item.{Item}
use Rattle.bdb_base.specs.declared.kinds.Item.TheVariants.{Rel}
use Rattle.bdb_base.specs.declared.kinds.Query.{Query}
use Rattle.bdb_base.specs.declared.kinds.Ref.{Ref}
use Rattle.bdb_base.specs.declared.kinds.RelDef.{RelDef}
use Rattle.bdb_base.specs.declared.kinds.Sign.TheVariants.{Minus}
use Rattle.bdb_base.specs.Bases.{IsCatalog}
use Rattle.bdb_base.specs.Safety.{query_fits}
use Rattle.bdb_bind.proofs.SafeLemmas.{catalog_few}

first_there : (rels : List RelDef) → length rels ≡ 1 → is_some (slice_get rels 0) ≡ true
first_there [] one = absurd (omega arith)
first_there (r ∷ rs) one = refl

denial_in : (c : Catalog) (alias : List ℕ) → IsCatalog c → length c.rels ≡ 1
    → query_fits c (record { take = []; items = Rel alias 0 Minus [] ∷ []; conds = [] }) ≡ true
denial_in c alias valid one =
    and_from _ _ (lt-ltb 1 (2 ^ 32) (omega arith)) (and_from _ _ (catalog_few c valid)
    (and_from _ _ (and_from _ _ (and_from _ _ (first_there c.rels one) refl) refl) refl))

pub denial_fits : (c : Catalog) (q : Query) (alias : List ℕ) → IsCatalog c → length c.rels ≡ 1 → q.take ≡ [] → q.items ≡ Rel alias 0 Minus [] ∷ []
    → q.conds ≡ [] → query_fits c q ≡ true
denial_fits c q alias valid one take items conds =
    ap (λ (t : List Ref). query_fits c (record { take = t; items = q.items; conds = q.conds })) take
    ∙ ap (λ (i : List Item). query_fits c (record { take = []; items = i; conds = q.conds })) items
    ∙ ap (λ (d : List Cond). query_fits c (record { take = []; items = Rel alias 0 Minus [] ∷ []; conds = d })) conds
    ∙ denial_in c alias valid one
