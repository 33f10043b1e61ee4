-- The users and relations of tables, and whether they are those of a valid base.
use Rattle.std.proofs.Common.{◌≡◌, ◌∙◌, ◌≤◌, ◌^◌, ℕ, suc, Bool, true, false, not, ◌&&◌, ◌||◌, nat_le, List, [], ◌∷◌, length, map, None, Option, refl, ap, sym, subst, arith, inl, inr}
use Rattle.std.specs.List.{list_all, list_any, slice_get}
use Rattle.std.proofs.lemmas.Bool.{and_from, cases_lt, false≢true, leb-true}
use Rattle.std.proofs.lemmas.Option.{slice_get_past}
use Rattle.bdb_base.specs.Bases.{IsCatalog, are_distinct, is_plain, is_called, is_valid_relation, user_names}
use Rattle.bdb_base.specs.Limits.{most_users, most_relations}
use Rattle.bdb_base.specs.Same.{same_text}
use Rattle.bdb_base.specs.SameLemmas.{same_text-Decides}
use Rattle.bdb_base.proofs.ClashLemmas.{turned}
use Rattle.bdb_base.specs.declared.kinds.Catalog.{Catalog}
use Rattle.bdb_base.specs.declared.kinds.RelDef.{RelDef}
use Rattle.bdb_base.specs.declared.kinds.UserSlot.{UserSlot}
use Rattle.bdb_base.specs.declared.kinds.UserSlot.TheVariants.{Live, Gone}
use Rattle.bdb_keep.specs.Tables.{Tables}
use Rattle.bdb_tables.specs.InUse.{user_codec, rel_codec}
use Rattle.bdb_tables.specs.InUseLaws.{slot_rows_are_one, rel_rows_are_one}
use Rattle.bdb_tables.specs.Stored.{slot_of}
use Rattle.bdb_tables.proofs.CatalogLemmas.{same_by_place}
use Rattle.bdb_tables.proofs.WriteLemmas.{gives_one}
use Rattle.bdb_entries.specs.Catalog.{HasCatalog, HasRelations, HasUserPlaces, TellsRelations, TellsUsers, names_differ, are_relations, are_users, has_plain_name, is_catalog, slots_differ}

-- a test of the items of a list, and of what they are taken to
any_named : {X N : Type 0} (f : X → N) (p : N → Bool) (xs : List X) → list_any (λ x. p (f x)) xs ≡ list_any p (map f xs)
any_named f p [] = refl
any_named f p (x ∷ xs) = ap (λ b. p (f x) || b) (any_named f p xs)

pub differ_are_distinct : {X : Type 0} (f : X → List ℕ) (xs : List X) → names_differ f xs ≡ are_distinct (map f xs)
differ_are_distinct f [] = refl
differ_are_distinct f (x ∷ xs) =
    ap (λ b. not b && names_differ f xs) (any_named f (same_text (f x)) xs)
    ∙ ap (λ b. not (list_any (same_text (f x)) (map f xs)) && b) (differ_are_distinct f xs)

-- ---- the names of live users

any_called : (name : List ℕ) (us : List UserSlot) → list_any (is_called name) us ≡ list_any (same_text name) (user_names us)
any_called name [] = refl
any_called name (Live other ∷ us) =
    ap (λ b. b || list_any (is_called name) us) (turned same_text same_text-Decides other name) ∙ ap (λ b. same_text name other || b) (any_called name us)
any_called name (Gone ∷ us) = any_called name us

pub slots_are_distinct : (us : List UserSlot) → slots_differ us ≡ are_distinct (user_names us)
slots_are_distinct [] = refl
slots_are_distinct (Live name ∷ us) =
    ap (λ b. not b && slots_differ us) (any_called name us) ∙ ap (λ b. not (list_any (same_text name) (user_names us)) && b) (slots_are_distinct us)
slots_are_distinct (Gone ∷ us) = slots_are_distinct us

pub slots_are_plain : (us : List UserSlot) → list_all has_plain_name us ≡ list_all is_plain (user_names us)
slots_are_plain [] = refl
slots_are_plain (Live name ∷ us) = ap (λ b. is_plain name && b) (slots_are_plain us)
slots_are_plain (Gone ∷ us) = slots_are_plain us

-- ---- the tests

catalog_passes : (c : Catalog) → IsCatalog c → is_catalog c ≡ true
catalog_passes c h =
    and_from (are_users c.users) (are_relations c.rels)
    (and_from (nat_le (length c.users) most_users) (are_distinct (user_names c.users) && list_all is_plain (user_names c.users)) h.few_users
    (and_from (are_distinct (user_names c.users)) (list_all is_plain (user_names c.users)) h.users_differ h.users_plain))
    (and_from (nat_le (length c.rels) most_relations) (are_distinct (map (λ r. r.name) c.rels) && list_all is_valid_relation c.rels) h.few_rels
    (and_from (are_distinct (map (λ r. r.name) c.rels)) (list_all is_valid_relation c.rels) h.rels_differ h.rels_valid))

-- ---- one list of users, and one of relations

one_users : (t : Tables) (xs ys : List UserSlot) → HasUserPlaces t xs → HasUserPlaces t ys → xs ≡ ys
one_users t xs ys h k = same_by_place xs ys (λ n.
    elim (cases_lt (suc n) (2 ^ 32)) as (λ _. slice_get xs n ≡ slice_get ys n) [
      | inl num ↦ gives_one user_codec slot_rows_are_one t (slot_of xs) (slot_of ys) h.gives k.gives (suc n) num
      | inr past ↦
          let few = h.sized in
          let few2 = k.sized in
          slice_get_past xs n (omega (arith, past, few)) ∙ sym (slice_get_past ys n (omega (arith, past, few2)))
    ])

one_relations : (t : Tables) (xs ys : List RelDef) → HasRelations t xs → HasRelations t ys → xs ≡ ys
one_relations t xs ys h k = same_by_place xs ys (λ n.
    elim (cases_lt n (2 ^ 32)) as (λ _. slice_get xs n ≡ slice_get ys n) [
      | inl num ↦ gives_one rel_codec rel_rows_are_one t (slice_get xs) (slice_get ys) h.gives k.gives n num
      | inr past ↦
          let few = h.sized in
          let few2 = k.sized in
          slice_get_past xs n (omega (arith, past, few)) ∙ sym (slice_get_past ys n (omega (arith, past, few2)))
    ])

users_of : (t : Tables) (c : Catalog) → HasCatalog t c → HasUserPlaces t c.users
users_of t c h = let few : length c.users ≤ most_users = leb-true (length c.users) most_users h.valid.few_users in record { gives = h.users; sized = omega (arith, few) }

relations_of : (t : Tables) (c : Catalog) → HasCatalog t c → HasRelations t c.rels
relations_of t c h = let few : length c.rels ≤ most_relations = leb-true (length c.rels) most_relations h.valid.few_rels in record { gives = h.rels; sized = omega (arith, few) }

-- ---- the catalog

pub no_catalog_users : (t : Tables) (found : Option (List UserSlot)) → found ≡ None → TellsUsers t found → (c : Catalog) → HasCatalog t c → ⊥
no_catalog_users t found e h c has = subst (TellsUsers t) e h c.users (users_of t c has)

pub no_catalog_relations : (t : Tables) (found : Option (List RelDef)) → found ≡ None → TellsRelations t found → (c : Catalog) → HasCatalog t c → ⊥
no_catalog_relations t found e h c has = subst (TellsRelations t) e h c.rels (relations_of t c has)

pub no_catalog : (t : Tables) (users : List UserSlot) (rels : List RelDef) → HasUserPlaces t users → HasRelations t rels → is_catalog (record { rels = rels; users = users }) ≡ false
    → (c : Catalog) → HasCatalog t c → ⊥
no_catalog t users rels h k differ c has =
    let u : c.users ≡ users = one_users t c.users users (users_of t c has) h in
    let r : c.rels ≡ rels = one_relations t c.rels rels (relations_of t c has) k in
    let same : are_users c.users && are_relations c.rels ≡ are_users users && are_relations rels = ap (λ x. are_users x && are_relations c.rels) u ∙ ap (λ x. are_users users && are_relations x) r in
    false≢true (sym differ ∙ sym same ∙ catalog_passes c has.valid)
