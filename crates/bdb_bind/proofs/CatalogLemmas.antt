-- What a valid catalog gives of the names that are found in it.
use Rattle.std.proofs.Common.{◌≡◌, ◌∙◌, ℕ, ℤ, pos, unsigned_abs, int_lt, ◌^◌, ◌<◌, ◌≤◌, true, ◌&&◌, nat_lt, nat_le, List, [], ◌∷◌, length, Option, Some, None, find, sym, ap, subst, inl, inr, arith}
use Rattle.std.specs.Option.{is_some, option_and_then, IfSome}
use Rattle.std.specs.List.{list_all}
use Rattle.std.proofs.lemmas.Bool.{cases_Bool, and_parts, cond-true, cond-false, leb-true, ltb-true, eqb-true, not-false}
use Rattle.bdb_base.specs.declared.kinds.Catalog.{Catalog}
use Rattle.bdb_base.specs.declared.kinds.RelDef.{RelDef}
use Rattle.bdb_base.specs.declared.kinds.Value.{Value}
use Rattle.bdb_base.specs.Limits.{most_users, most_relations, most_columns}
use Rattle.bdb_base.specs.Alternation.{alternates}
use Rattle.bdb_base.specs.Bases.{IsCatalog, is_valid_relation}
use Rattle.bdb_base.specs.Same.{same_text}
use Rattle.bdb_base.specs.Queries.{columns_of_definition}
use Rattle.bdb_base.proofs.ListLemmas.{list_all_get}
use Rattle.bdb_base.proofs.OptionLemmas.{some_of}
use Rattle.bdb_syntax.specs.declared.command.Command.{Command}
use Rattle.bdb_bind.specs.Lookup.{relation_number, columns_of, path_of}
use Rattle.bdb_bind.specs.Parts.{path_names, new_columns, new_key, relation_name, tuple_values, relation_place, columns_for, change_columns}
use Rattle.bdb_bind.specs.Lines.{unknown_relation, relation_line, values_arity, arity_line}
use Rattle.bdb_bind.specs.Refusal.{names_refused}
use Rattle.bdb_bind.proofs.Founds.{IsFound, found}
use Rattle.bdb_bind.proofs.PathLemmas.{path_alternates}
use Rattle.bdb_bind.proofs.Cleared.{cleared, neither, few_columns, key_told, users_known, names_apart, not_refused}

pub users_few : (c : Catalog) → IsCatalog c → length c.users ≤ most_users
users_few c valid = leb-true (length c.users) most_users valid.few_users

pub relations_few : (c : Catalog) → IsCatalog c → length c.rels ≤ most_relations
relations_few c valid = leb-true (length c.rels) 64 valid.few_rels

-- a valid relation has a column, and not too many
pub columns_within : (def : RelDef) → is_valid_relation def ≡ true → (0 < length def.cols) × (length def.cols ≤ most_columns)
columns_within def valid =
    let counts = and_parts (nat_lt 0 (length def.cols) && nat_le (length def.cols) 16) _ valid in
    let both = and_parts (nat_lt 0 (length def.cols)) (nat_le (length def.cols) 16) counts.0 in
    (ltb-true 0 (length def.cols) both.0, leb-true (length def.cols) 16 both.1)

few_of : (rels : List RelDef) (name : List ℕ) → list_all is_valid_relation rels ≡ true → length (columns_of rels name) ≤ most_columns
few_of [] name valid = omega arith
few_of (r ∷ rs) name valid =
    let parts = and_parts (is_valid_relation r) (list_all is_valid_relation rs) valid in
    let Few : Option RelDef → Type 0 = λ o. length (columns_of_definition o) ≤ 16 in
    elim (cases_Bool (same_text r.name name)) [
      | inl here ↦ subst Few (sym (cond-true (same_text r.name name) (Some r) (find (λ x. same_text x.name name) rs) here)) (columns_within r parts.0).1
      | inr other ↦ subst Few (sym (cond-false (same_text r.name name) (Some r) (find (λ x. same_text x.name name) rs) other)) (few_of rs name parts.1)
    ]

pub columns_few : (c : Catalog) (name : List ℕ) → IsCatalog c → length (columns_of c.rels name) ≤ most_columns
columns_few c name valid = few_of c.rels name valid.rels_valid

-- the relation of a name that is found, and its number
pub relation_found : (c : Catalog) (name : List ℕ) → is_some (relation_number c.rels name) ≡ true
    → (n : ℕ) × (relation_number c.rels name ≡ Some n) × IsFound (λ r. same_text r.name name) 0 c.rels n
relation_found c name known = let w = some_of (relation_number c.rels name) known in (w.0, w.1, found _ 0 c.rels w.0 w.1)

-- the path of a command that isn't refused alternates
pub accepted_alternates : (catalog : Catalog) (c : Command) (names : List (List ℕ)) → names_refused catalog c ≡ None → names ≡ path_names c
    → alternates (path_of catalog.users names) ≡ true
accepted_alternates catalog c names accepted same =
    let clear = cleared catalog c accepted in
    ap (λ n. alternates (path_of catalog.users n)) same
    ∙ path_alternates catalog.users (path_names c) (users_known catalog c clear.user) (names_apart c clear.no_repeat)

-- the length of a new relation's key is a small number
pub key_few : (catalog : Catalog) (c : Command) (said : Option ℤ) → names_refused catalog c ≡ None → said ≡ new_key c → IfSome said (λ n. unsigned_abs n < 2 ^ 32)
key_few catalog c None accepted same = tt
key_few catalog c (Some n) accepted same =
    let clear = cleared catalog c accepted in
    let within = (and_parts (int_lt (pos 0) n) (nat_le (unsigned_abs n) (length (new_columns c))) (key_told c n same clear.key)).1 in
    let few = few_columns c clear.items in
    omega (arith, leb-true (unsigned_abs n) (length (new_columns c)) within)

-- the relation that a command names is there
pub named_relation : (catalog : Catalog) (c : Command) (rel : List ℕ) → relation_name c ≡ Some rel → relation_line catalog c ≡ None
    → is_some (relation_number catalog.rels rel) ≡ true
unfolding relation_line
named_relation catalog c rel named e =
    let known : unknown_relation catalog.rels (Some rel) ≡ None = ap (unknown_relation catalog.rels) (sym named) ∙ (neither _ _ e).0 in
    not-false _ (not_refused _ _ known)

-- the values of its tuple are as many as the columns
pub values_counted : (catalog : Catalog) (c : Command) (rel : List ℕ) (vals : List Value) → relation_name c ≡ Some rel → tuple_values c ≡ Some vals
    → arity_line catalog c ≡ None → length vals ≡ length (columns_of catalog.rels rel)
unfolding arity_line
values_counted catalog c rel vals named valued e =
    let counted : values_arity (columns_for catalog.rels (Some rel)) (Some vals) ≡ None =
    ap (λ o. values_arity (columns_for catalog.rels (Some rel)) o) (sym valued)
    ∙ (ap (λ o. values_arity (columns_for catalog.rels o) (tuple_values c)) (sym named) ∙ e) in
    eqb-true _ _ (not-false _ (not_refused _ _ counted))

-- so there is at least one
pub values_filled : (catalog : Catalog) (c : Command) (rel : List ℕ) (vals : List Value) → IsCatalog catalog → relation_name c ≡ Some rel
    → tuple_values c ≡ Some vals → names_refused catalog c ≡ None → 0 < length vals
values_filled catalog c rel vals valid named valued accepted =
    let clear = cleared catalog c accepted in
    let w = relation_found catalog rel (named_relation catalog c rel named clear.relation) in
    let many = (columns_within w.2.item (list_all_get is_valid_relation catalog.rels w.2.at w.2.item valid.rels_valid w.2.there)).0 in
    let same : columns_of catalog.rels rel ≡ w.2.item.cols = ap columns_of_definition w.2.first in
    let counted = values_counted catalog c rel vals named valued clear.arity in
    omega (arith, ap length same)

placed : (c : Catalog) (name : Option (List ℕ)) (at : ℕ) → IsCatalog c → option_and_then (relation_number c.rels) name ≡ Some at → at < most_relations
placed c None at valid same = cc
placed c (Some name) at valid same =
    let f = found (λ r. same_text r.name name) 0 c.rels at same in
    let few = relations_few c valid in
    omega (arith, f.place, f.within)

-- the place of the relation that a command names is below the most relations
pub place_few : (c : Catalog) (cmd : Command) (place : Option ℕ) → IsCatalog c → place ≡ relation_place c.rels cmd → IfSome place (λ at. at < most_relations)
place_few c cmd None valid same = tt
place_few c cmd (Some at) valid same = placed c (relation_name cmd) at valid (sym same)

few_for : (c : Catalog) (name : Option (List ℕ)) → IsCatalog c → length (columns_for c.rels name) ≤ most_columns
few_for c None valid = omega arith
few_for c (Some name) valid = columns_few c name valid

-- the relation that a command names has few columns
pub change_columns_few : (c : Catalog) (cmd : Command) → IsCatalog c → length (change_columns c.rels cmd) ≤ most_columns
change_columns_few c cmd valid = few_for c (relation_name cmd) valid
