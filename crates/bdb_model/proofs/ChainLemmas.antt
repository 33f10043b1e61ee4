-- From choices at each stage to slots that hold.
use Rattle.std.proofs.Common.{◌≡◌, ◌∙◌, ℕ, ◌+◌, true, false, ◌&&◌, nat_lt, List, [], ◌∷◌, Option, None, Some, refl, inl, inr, ap, sym, subst, length, map}
use Rattle.std.specs.List.{slice_get}
use Rattle.std.proofs.lemmas.Bool.{false≢true, cases_Bool, cond-true, cond-false, or_cases, and_parts}
use Rattle.bdb_base.specs.declared.kinds.Cond.{Cond}
use Rattle.bdb_base.specs.declared.kinds.Held.{Held}
use Rattle.bdb_base.specs.declared.kinds.Item.{Item}
use Rattle.bdb_base.specs.declared.kinds.Item.TheVariants.{Users, Rel}
use Rattle.bdb_base.specs.declared.kinds.RelDef.{RelDef}
use Rattle.bdb_base.specs.declared.kinds.Sign.TheVariants.{Plus, Minus}
use Rattle.bdb_base.specs.declared.kinds.Value.{Value}
use Rattle.bdb_base.specs.declared.kinds.Who.{Who}
use Rattle.bdb_base.specs.declared.tuple.Tuple.{Tuple}
use Rattle.bdb_base.specs.Bases.{Contents, AreStatements, fits_relation, fits_definition, key_lengths}
use Rattle.bdb_base.specs.Queries.{columns_at, path_believes}
use Rattle.bdb_base.specs.Same.{same_tuple, tuple_of}
use Rattle.bdb_base.specs.SameLemmas.{same_tuple-Decides}
use Rattle.bdb_queries.proofs.FoundLemmas.{Found}
use Rattle.bdb_model.specs.Answering.{open_slots}
use Rattle.bdb_model.specs.Pools.{item_world, world_at, user_pool, plus_pools, minus_pools, sourced_values, denies, is_denied, denied_tuples}
use Rattle.bdb_queries.specs.Slots.{path_of}
use Rattle.bdb_queries.proofs.HoldingLemmas.{SlotsHold}
use Rattle.bdb_model.proofs.PassLemmas.{Chosen}
use Rattle.bdb_queries.proofs.UserLemmas.{found_nowhere, user_of_tuple}
use Rattle.bdb_model.proofs.PoolLemmas.{keys_of, plus_is_believed, denied_at, believed_fits}
use Rattle.bdb_model.proofs.SlotLemmas.{Below}

-- Slots of items come of one another by the three stages, from a place on. The worlds are those of the first slots, and
-- the values of minus items come from the second ones.
pub record Comes (b : Contents) (sources : List Cond) (first second : List (Option Tuple)) (at : ℕ) (items : List Item) (xs ys zs : List (Option Tuple)) : Type 0 where
  pub by_users : Chosen (map (user_pool b.catalog.users) items) (open_slots items) xs
  pub by_plus : Chosen (plus_pools items (map (item_world (keys_of b) b.stmts first) items)) xs ys
  pub by_minus : Chosen (minus_pools b.catalog.rels sources second at items (map (item_world (keys_of b) b.stmts first) items)) ys zs

same_below : (x y : Option Tuple) (xs ys : List (Option Tuple)) → x ≡ y → Below xs ys → Below (x ∷ xs) (y ∷ ys)
same_below None y xs ys e h = h
same_below (Some t) y xs ys e h = (sym e, h)

open_below : (x y : Option Tuple) (xs ys : List (Option Tuple)) → None ≡ x → Below xs ys → Below (x ∷ xs) (y ∷ ys)
open_below None y xs ys e h = h
open_below (Some t) y xs ys e h = cc

-- what is chosen at a stage stays chosen
pub come_below : (b : Contents) (sources : List Cond) (first second : List (Option Tuple)) (at : ℕ) (items : List Item) (xs ys zs : List (Option Tuple))
    → Comes b sources first second at items xs ys zs → Below xs ys × Below ys zs
come_below b sources first second at [] [] [] [] c = (tt, tt)
come_below b sources first second at [] (x ∷ xs) ys zs c = let e : [] ≡ x ∷ xs = c.by_users in cc
come_below b sources first second at [] [] (y ∷ ys) zs c = let e : [] ≡ y ∷ ys = c.by_plus in cc
come_below b sources first second at [] [] [] (z ∷ zs) c = let e : [] ≡ z ∷ zs = c.by_minus in cc
come_below b sources first second at (Users alias ∷ items) [] ys zs c = absurd c.by_users
come_below b sources first second at (Users alias ∷ items) (x ∷ xs) [] zs c = absurd c.by_plus
come_below b sources first second at (Users alias ∷ items) (x ∷ xs) (y ∷ ys) [] c = absurd c.by_minus
come_below b sources first second at (Users alias ∷ items) (x ∷ xs) (y ∷ ys) (z ∷ zs) c =
    let rest = come_below b sources first second (at + 1) items xs ys zs (record { by_users = c.by_users.1; by_plus = c.by_plus.1; by_minus = c.by_minus.1 }) in
    (same_below x y xs ys c.by_plus.0 rest.0, same_below y z ys zs c.by_minus.0 rest.1)
come_below b sources first second at (Rel alias rel Plus path ∷ items) [] ys zs c = absurd c.by_users
come_below b sources first second at (Rel alias rel Plus path ∷ items) (x ∷ xs) [] zs c = absurd c.by_plus
come_below b sources first second at (Rel alias rel Plus path ∷ items) (x ∷ xs) (y ∷ ys) [] c = absurd c.by_minus
come_below b sources first second at (Rel alias rel Plus path ∷ items) (x ∷ xs) (y ∷ ys) (z ∷ zs) c =
    let rest = come_below b sources first second (at + 1) items xs ys zs (record { by_users = c.by_users.1; by_plus = c.by_plus.1; by_minus = c.by_minus.1 }) in
    (open_below x y xs ys c.by_users.0 rest.0, same_below y z ys zs c.by_minus.0 rest.1)
come_below b sources first second at (Rel alias rel Minus path ∷ items) [] ys zs c = absurd c.by_users
come_below b sources first second at (Rel alias rel Minus path ∷ items) (x ∷ xs) [] zs c = absurd c.by_plus
come_below b sources first second at (Rel alias rel Minus path ∷ items) (x ∷ xs) (y ∷ ys) [] c = absurd c.by_minus
come_below b sources first second at (Rel alias rel Minus path ∷ items) (x ∷ xs) (y ∷ ys) (z ∷ zs) c =
    let rest = come_below b sources first second (at + 1) items xs ys zs (record { by_users = c.by_users.1; by_plus = c.by_plus.1; by_minus = c.by_minus.1 }) in
    (open_below x y xs ys c.by_users.0 rest.0, open_below y z ys zs (c.by_users.0 ∙ c.by_plus.0) rest.1)

-- where a path is there in the first slots, it is the same in the last ones
abbrev pub KeepsPaths : List (Option Tuple) → List (Option Tuple) → Type 0
KeepsPaths first last = (path : List Who) (w : List ℕ) → path_of first path ≡ Some w → path_of last path ≡ Some w

-- what a path believes that is there
believes_kept : (b : Contents) (t : Tuple) (p p' : Option (List ℕ)) → ((w : List ℕ) → p ≡ Some w → p' ≡ Some w) → path_believes b t Plus p ≡ true → path_believes b t Plus p' ≡ true
believes_kept b t None p' k e = absurd (false≢true e)
believes_kept b t (Some w) p' k e = ap (path_believes b t Plus) (k w refl) ∙ e

denies_kept : (b : Contents) (t : Tuple) (p p' : Option (List ℕ)) → ((w : List ℕ) → p ≡ Some w → p' ≡ Some w) → path_believes b t Minus p ≡ true → path_believes b t Minus p' ≡ true
denies_kept b t None p' k e = absurd (false≢true e)
denies_kept b t (Some w) p' k e = ap (path_believes b t Minus) (k w refl) ∙ e

-- the tuple of a minus item's pool
denied_tuple : (rels : List RelDef) (world : List Held) (rel : ℕ) (vals : Option (List Value)) (t : Tuple) → Found t (denied_tuples rels world rel vals)
    → (t.rel ≡ rel) × (fits_relation rels t ≡ true) × (denies (key_lengths rels) world t ≡ true)
denied_tuple rels world rel None t f = absurd (found_nowhere t f)
denied_tuple rels world rel (Some vals) t f = elim (cases_Bool (is_denied rels world rel vals)) [
  | inl k ↦
      let one = subst (Found t) (cond-true (is_denied rels world rel vals) (tuple_of rel vals ∷ []) [] k) f in
      let parts = and_parts (nat_lt 0 (length vals)) (fits_definition (slice_get rels rel) vals && denies (key_lengths rels) world (tuple_of rel vals)) k in
      let more = and_parts (fits_definition (slice_get rels rel) vals) (denies (key_lengths rels) world (tuple_of rel vals)) parts.1 in
      elim (or_cases (same_tuple (tuple_of rel vals) t) false (one (λ u. same_tuple u t) ((same_tuple-Decides t t).1 refl))) [
        | inl m ↦
            let same : tuple_of rel vals ≡ t = (same_tuple-Decides (tuple_of rel vals) t).0 m in
            (ap (λ u. u.rel) (sym same), ap (fits_relation rels) (sym same) ∙ more.0, ap (denies (key_lengths rels) world) (sym same) ∙ more.1)
        | inr m ↦ absurd (false≢true m)
      ]
  | inr k ↦ absurd (found_nowhere t (subst (Found t) (cond-false (is_denied rels world rel vals) (tuple_of rel vals ∷ []) [] k) f))
]

-- slots that come by the three stages hold
pub come_hold : (b : Contents) → AreStatements b.catalog b.stmts → (sources : List Cond) (first second last : List (Option Tuple)) → KeepsPaths first last
    → (at : ℕ) (items : List Item) (xs ys zs : List (Option Tuple)) → Comes b sources first second at items xs ys zs → SlotsHold b last items zs
come_hold b valid sources first second last k at [] [] [] [] c = tt
come_hold b valid sources first second last k at [] (x ∷ xs) ys zs c = let e : [] ≡ x ∷ xs = c.by_users in cc
come_hold b valid sources first second last k at [] [] (y ∷ ys) zs c = let e : [] ≡ y ∷ ys = c.by_plus in cc
come_hold b valid sources first second last k at [] [] [] (z ∷ zs) c = let e : [] ≡ z ∷ zs = c.by_minus in cc
come_hold b valid sources first second last k at (Users alias ∷ items) [] ys zs c = absurd c.by_users
come_hold b valid sources first second last k at (Users alias ∷ items) (x ∷ xs) [] zs c = absurd c.by_plus
come_hold b valid sources first second last k at (Users alias ∷ items) (x ∷ xs) (y ∷ ys) [] c = absurd c.by_minus
come_hold b valid sources first second last k at (Users alias ∷ items) (x ∷ xs) (y ∷ ys) (z ∷ zs) c =
    let user = user_of_tuple b.catalog.users c.by_users.0.0 c.by_users.0.2 in
    let is : z ≡ Some c.by_users.0.0 = sym (c.by_plus.0 ∙ c.by_minus.0) ∙ c.by_users.0.1 in (
      (user.0, user.1, user.2, user.3, is ∙ ap Some user.4),
      come_hold b valid sources first second last k (at + 1) items xs ys zs (record { by_users = c.by_users.1; by_plus = c.by_plus.1; by_minus = c.by_minus.1 }),
    )
come_hold b valid sources first second last k at (Rel alias rel Plus path ∷ items) [] ys zs c = absurd c.by_users
come_hold b valid sources first second last k at (Rel alias rel Plus path ∷ items) (x ∷ xs) [] zs c = absurd c.by_plus
come_hold b valid sources first second last k at (Rel alias rel Plus path ∷ items) (x ∷ xs) (y ∷ ys) [] c = absurd c.by_minus
come_hold b valid sources first second last k at (Rel alias rel Plus path ∷ items) (x ∷ xs) (y ∷ ys) (z ∷ zs) c =
    let t = c.by_plus.0.0 in
    let held = plus_is_believed b (path_of first path) rel t c.by_plus.0.2 in
    let kept = believes_kept b t (path_of first path) (path_of last path) (k path) held.1 in (
      (t, sym c.by_minus.0 ∙ c.by_plus.0.1, held.0, believed_fits b valid (path_of first path) t held.1, kept),
      come_hold b valid sources first second last k (at + 1) items xs ys zs (record { by_users = c.by_users.1; by_plus = c.by_plus.1; by_minus = c.by_minus.1 }),
    )
come_hold b valid sources first second last k at (Rel alias rel Minus path ∷ items) [] ys zs c = absurd c.by_users
come_hold b valid sources first second last k at (Rel alias rel Minus path ∷ items) (x ∷ xs) [] zs c = absurd c.by_plus
come_hold b valid sources first second last k at (Rel alias rel Minus path ∷ items) (x ∷ xs) (y ∷ ys) [] c = absurd c.by_minus
come_hold b valid sources first second last k at (Rel alias rel Minus path ∷ items) (x ∷ xs) (y ∷ ys) (z ∷ zs) c =
    let t = c.by_minus.0.0 in
    let denied = denied_tuple b.catalog.rels (world_at (keys_of b) b.stmts (path_of first path)) rel (sourced_values sources second at 0 (columns_at b.catalog.rels rel)) t c.by_minus.0.2 in
    let kept = denies_kept b t (path_of first path) (path_of last path) (k path) (denied_at b (path_of first path) t denied.2) in (
      (t, c.by_minus.0.1, denied.0, denied.1, kept),
      come_hold b valid sources first second last k (at + 1) items xs ys zs (record { by_users = c.by_users.1; by_plus = c.by_plus.1; by_minus = c.by_minus.1 }),
    )
