-- A catalog with a new user or relation that fits.
use Rattle.std.proofs.Common.{◌≡◌, ◌∙◌, ℕ, ◌<◌, true, false, not, ◌||◌, None, List, [], ◌∷◌, ◌++◌, length, map, refl, ap, sym, arith}
use Rattle.std.specs.List.{list_any}
use Rattle.std.proofs.lemmas.Bool.{and_parts, not-true, or_from, or_parts}
use Rattle.std.proofs.lemmas.List.{length_push}
use Rattle.std.proofs.lemmas.List.Folds.{list_any-append}
use Rattle.bdb_base.specs.declared.kinds.RelDef.{RelDef}
use Rattle.bdb_base.specs.declared.kinds.UserSlot.TheVariants.{Live}
use Rattle.bdb_base.specs.Same.{same_text}
use Rattle.bdb_base.specs.Bases.{Contents, IsValid, is_plain, is_valid_relation, are_distinct, user_names, with_user, with_relation}
use Rattle.bdb_base.specs.Limits.{most_users, most_relations}
use Rattle.bdb_base.proofs.BaseLemmas.{add_user_is_valid, add_relation_is_valid}
use Rattle.bdb_base.specs.SameLemmas.{same_text-Decides}
use Rattle.bdb_base.proofs.ClashLemmas.{turned}
use Rattle.bdb_bind.specs.declared.bound.Bound.TheVariants.{CreateUser, CreateRelation}
use Rattle.bdb_bind.specs.Fits.{fits_catalog}
use Rattle.bdb_session.specs.Machine.{with_catalog}
use Rattle.bdb_session.specs.Sizes.{passed_limit}
use Rattle.bdb_session.proofs.LimitLemmas.{within_limits}

-- a name that may stand behind others is none of them
not_among : (names : List (List ℕ)) (name : List ℕ) → are_distinct (names ++ name ∷ []) ≡ true → list_any (same_text name) names ≡ false
not_among [] name h = refl
not_among (n ∷ ns) name h =
    let k = and_parts (not (list_any (same_text n) (ns ++ name ∷ []))) (are_distinct (ns ++ name ∷ [])) h in
    let none = sym (list_any-append (same_text n) ns (name ∷ [])) ∙ not-true (list_any (same_text n) (ns ++ name ∷ [])) k.0 in
    let last = or_parts (list_any (same_text n) ns) (same_text n name || false) none in
    let this = or_parts (same_text n name) false last.1 in
    or_from (same_text name n) (list_any (same_text name) ns) (turned same_text same_text-Decides name n ∙ this.0) (not_among ns name k.1)

pub user_is_valid : (b : Contents) (name : List ℕ) → IsValid b.catalog b.stmts → fits_catalog b.catalog (CreateUser name) ≡ true → passed_limit (with_catalog b (with_user b.catalog name)) ≡ None
    → IsValid (with_user b.catalog name) b.stmts
user_is_valid b name valid fits fine =
    let few = (within_limits (with_catalog b (with_user b.catalog name)) fine).users in
    let more = length_push b.catalog.users (Live name) in
    let room : length b.catalog.users < most_users = omega arith in
    let parts = and_parts (is_plain name) (are_distinct (user_names b.catalog.users ++ name ∷ [])) fits in
    add_user_is_valid b.catalog b.stmts name valid parts.0 (not_among (user_names b.catalog.users) name parts.1) room

-- the names of relations, one more at the end
names_push : (rels : List RelDef) (def : RelDef) → map (λ (r : RelDef). r.name) (rels ++ def ∷ []) ≡ map (λ (r : RelDef). r.name) rels ++ def.name ∷ []
names_push [] def = refl
names_push (r ∷ rs) def = ap (λ ns. r.name ∷ ns) (names_push rs def)

pub relation_is_valid : (b : Contents) (def : RelDef) → IsValid b.catalog b.stmts → fits_catalog b.catalog (CreateRelation def) ≡ true → passed_limit (with_catalog b (with_relation b.catalog def)) ≡ None
    → IsValid (with_relation b.catalog def) b.stmts
relation_is_valid b def valid fits fine =
    let few = (within_limits (with_catalog b (with_relation b.catalog def)) fine).rels in
    let more = length_push b.catalog.rels def in
    let room : length b.catalog.rels < most_relations = omega arith in
    let parts = and_parts (is_valid_relation def) (are_distinct (map (λ (r : RelDef). r.name) (b.catalog.rels ++ def ∷ []))) fits in
    let apart = ap are_distinct (sym (names_push b.catalog.rels def)) ∙ parts.1 in
    add_relation_is_valid b.catalog b.stmts def valid parts.0 (not_among (map (λ (r : RelDef). r.name) b.catalog.rels) def.name apart) room
