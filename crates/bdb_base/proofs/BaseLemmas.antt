-- What keeps a base valid, and how its counts change.
use Rattle.std.proofs.Common.{◌≡◌, ◌∙◌, ℕ, ◌+◌, ◌-◌, ◌≤◌, Bool, true, false, not, ◌&&◌, ◌||◌, cond, List, [], ◌∷◌, ◌++◌, refl, ap, sym, inl, inr, suc, arith, filter, length, map, nat_eq, nat_lt, nat_le, length-append, Option, Some, None}
use Prim.Native.Nat.{zero}
use Rattle.std.specs.List.{list_any, list_all, slice_get, flat_map}
use Rattle.std.specs.Option.{is_some}
use Rattle.std.specs.declared.cmp.Ordering.{Ordering}
use Rattle.std.specs.Ordering.{is_eq}
use Rattle.std.proofs.lemmas.Bool.{cases_Bool, and_parts, and_from, and_right, or_parts, or_from, or_cases, or_left, or_right, false≢true, not-true, not_from_true, not_from_false, leb-true, le-leb}
use Rattle.std.proofs.lemmas.Bool.Decides.{Decides-eqb}
use Rattle.std.proofs.lemmas.List.{map-append}
use Rattle.std.proofs.lemmas.List.Elements.{filter_map-append}
use Rattle.std.proofs.lemmas.List.Folds.{list_any-append}
use Rattle.bdb_base.specs.declared.kinds.Value.{Value}
use Rattle.bdb_base.specs.declared.kinds.Sign.{Sign}
use Rattle.bdb_base.specs.declared.kinds.Sign.TheVariants.{Plus, Minus}
use Rattle.bdb_base.specs.declared.kinds.RelDef.{RelDef}
use Rattle.bdb_base.specs.declared.kinds.Catalog.{Catalog}
use Rattle.bdb_base.specs.declared.kinds.Stmt.{Stmt}
use Rattle.bdb_base.specs.declared.kinds.UserSlot.{UserSlot}
use Rattle.bdb_base.specs.declared.kinds.UserSlot.TheVariants.{Live}
use Rattle.bdb_base.specs.declared.tuple.Tuple.{Tuple}
use Rattle.bdb_base.specs.Alternation.{alternates}
use Rattle.bdb_base.specs.Order.{statement_cmp, tuple_cmp}
use Rattle.bdb_base.specs.OrderLemmas.{statement_exact, tuple_exact}
use Rattle.bdb_base.specs.Same.{same_text, same_path, same_values, same_tuple}
use Rattle.bdb_base.specs.SameLemmas.{same_text-Decides, same_path-Decides, same_values-Decides, same_tuple-Decides}
use Rattle.bdb_base.specs.SortedSet.{IsExactOrder, is_member, ascending, put_at, put_in}
use Rattle.bdb_base.specs.Clash.{key_of, same_key, clash}
use Rattle.bdb_base.specs.Worlds.{contradicted}
use Rattle.bdb_base.specs.Bases.{AreStatements, are_distinct, belongs, fits_definition, fits_relation, is_user, is_plain, is_valid_relation, key_at, key_lengths, live_name, name_at, stands, tuple_count, user_names, world_count, with_user, with_relation, with_statement, fits_columns, fits_kind}
use Rattle.bdb_base.specs.States.{prefixes, stated_prefixes}
use Rattle.bdb_base.specs.BaseLaws.{PutIsValid, TakeIsValid, AddUserIsValid, AddRelationIsValid, PutCountsTuple, PutCountsStatement}
use Rattle.bdb_base.specs.declared.kinds.ColDef.{ColDef}
use Rattle.bdb_base.specs.Queries.{columns_of_definition}
use Rattle.bdb_base.specs.Limits.{deepest_statement}
use Rattle.bdb_base.proofs.ClashLemmas.{clash_by_length, turned}
use Rattle.bdb_base.proofs.ListLemmas.{list_all_weaker, list_all_both, list_all_from_none, list_all-filter, list_any-filter_none, length-filter_le, list_all_push}
use Rattle.bdb_base.proofs.SetLemmas.{cases_Ordering, are_above, less_from_greater, above_weaker, absent_above, list_any-put_in, list_all-put_in, put_keeps_order, take_keeps_order, is_eq-Equal}
use Rattle.bdb_base.proofs.WorldRowsLemmas.{list_any-flat_map}
use Rattle.bdb_base.proofs.CountLemmas.{list_any-map, list_any-filter_some, one_unless, distinct_count-le, distinct_count-same}

-- ---- tests of equality are symmetric, and so is a clash

clash_turned : (keys : ℕ → ℕ) (a : Tuple) (s : Sign) (b : Tuple) (t : Sign) → clash keys a s b t ≡ clash keys b t a s
clash_turned keys a Plus b Plus =
    ap (λ q. (nat_eq a.rel b.rel && same_values (key_of keys a) (key_of keys b)) && not q) (turned same_tuple same_tuple-Decides a b)
    ∙ ap (λ q. (q && same_values (key_of keys a) (key_of keys b)) && not (same_tuple b a)) (turned nat_eq Decides-eqb a.rel b.rel)
    ∙ ap (λ q. (nat_eq b.rel a.rel && q) && not (same_tuple b a)) (turned same_values same_values-Decides (key_of keys a) (key_of keys b))
clash_turned keys a Plus b Minus = turned same_tuple same_tuple-Decides a b
clash_turned keys a Minus b Plus = turned same_tuple same_tuple-Decides a b
clash_turned keys a Minus b Minus = refl

pub clash_itself : (keys : ℕ → ℕ) (t : Tuple) (s : Sign) → clash keys t s t s ≡ false
clash_itself keys t Plus = and_right (same_key keys t t) (not (same_tuple t t)) (not_from_true (same_tuple t t) ((same_tuple-Decides t t).1 refl))
clash_itself keys t Minus = refl

-- a statement is at the path of another and clashes with it
abbrev opposes : (ℕ → ℕ) → Stmt → Stmt → Bool
opposes keys x y = same_path y.path x.path && clash keys x.tuple x.sign y.tuple y.sign

opposes_turned : (keys : ℕ → ℕ) (x y : Stmt) → opposes keys x y ≡ opposes keys y x
opposes_turned keys x y = ap (λ b. b && clash keys x.tuple x.sign y.tuple y.sign) (turned same_path same_path-Decides y.path x.path)
    ∙ ap (λ b. same_path x.path y.path && b) (clash_turned keys x.tuple x.sign y.tuple y.sign)

-- ---- fewer statements

-- the prefixes of fewer statements are among those of all
fewer_prefixes : (stmts : List Stmt) (q : Stmt → Bool) (w : List ℕ) → list_any (same_path w) (stated_prefixes (filter q stmts)) ≡ true
    → list_any (same_path w) (stated_prefixes stmts) ≡ true
fewer_prefixes stmts q w h =
    let of : Stmt → List (List ℕ) = λ x. prefixes x.path in
    let all = list_any (same_path w) (flat_map of stmts) in
    elim (or_cases (same_path w []) (list_any (same_path w) (flat_map of (filter q stmts))) h) [
      | inl a ↦ or_left (same_path w []) all a
      | inr b ↦ or_right (same_path w []) all (list_any-flat_map (same_path w) of stmts
          ∙ list_any-filter_some (λ x. list_any (same_path w) (of x)) q stmts (sym (list_any-flat_map (same_path w) of (filter q stmts)) ∙ b))
    ]

-- what a test leaves of a valid base's statements is valid
pub filter_is_valid : (c : Catalog) (stmts : List Stmt) (q : Stmt → Bool) → AreStatements c stmts → ascending statement_cmp (filter q stmts) ≡ true → AreStatements c (filter q stmts)
filter_is_valid c stmts q v sorted =
    let keys = key_lengths c.rels in
    let few = leb-true (length stmts) 20000 v.few_stmts in
    let fewer = length-filter_le q stmts in
    let tuples = leb-true (tuple_count stmts) 4000 v.few_tuples in
    let no_more_tuples = distinct_count-le same_tuple same_tuple-Decides (map (λ x. x.tuple) (filter q stmts)) (map (λ x. x.tuple) stmts)
    (λ t k. list_any-map (same_tuple t) (λ x. x.tuple) stmts ∙ list_any-filter_some (λ x. same_tuple t x.tuple) q stmts (sym (list_any-map (same_tuple t) (λ x. x.tuple) (filter q stmts)) ∙ k)) in
    let worlds = leb-true (world_count stmts) 4000 v.few_worlds in
    let no_more_worlds = distinct_count-le same_path same_path-Decides (stated_prefixes (filter q stmts)) (stated_prefixes stmts) (fewer_prefixes stmts q) in
    record {
      sorted = sorted;
      belong = list_all-filter (belongs c) q stmts v.belong;
      no_clash = list_all-filter (λ x. not (contradicted keys (filter q stmts) x.path x.tuple x.sign)) q stmts
          (list_all_weaker (λ x. not (contradicted keys stmts x.path x.tuple x.sign)) (λ x. not (contradicted keys (filter q stmts) x.path x.tuple x.sign))
          (λ x h. not_from_false (contradicted keys (filter q stmts) x.path x.tuple x.sign)
          (list_any-filter_none (opposes keys x) q stmts (not-true (contradicted keys stmts x.path x.tuple x.sign) h))) stmts v.no_clash);
      few_stmts = le-leb (length (filter q stmts)) 20000 (omega arith);
      few_tuples = le-leb (tuple_count (filter q stmts)) 4000 (omega arith);
      few_worlds = le-leb (world_count (filter q stmts)) 4000 (omega arith);
    }

pub take_is_valid : TakeIsValid
take_is_valid c stmts s v = record {
  catalog = v.catalog;
  stmts = filter_is_valid c stmts (λ y. not (is_eq (statement_cmp y s))) v.stmts (take_keeps_order statement_exact stmts s v.stmts.sorted);
}

-- ---- one more statement

pub length-put_in : {X : Type 0} {R : X → X → Ordering} (o : IsExactOrder R) (xs : List X) (x : X) → ascending R xs ≡ true → length (put_in R xs x) ≡ cond (is_member R xs x) 0 1 + length xs
length-put_in o [] x h = omega arith
length-put_in {R = R} o (y ∷ ys) x h =
    let k = and_parts (are_above R y ys) (ascending R ys) h in
    elim (cases_Ordering (R y x)) [
      | inl e ↦
          let ih = length-put_in o ys x k.1 in
          let a : length (put_in R (y ∷ ys) x) ≡ suc (length (put_in R ys x)) = ap (λ r. length (put_at r y ys x (put_in R ys x))) e in
          let b : one_unless (is_eq (R y x) || is_member R ys x) ≡ one_unless (is_member R ys x) = ap (λ r. one_unless (is_eq r || is_member R ys x)) e in
          omega arith
      | inr (inl e) ↦
          let a : length (put_in R (y ∷ ys) x) ≡ suc (length ys) = ap (λ r. length (put_at r y ys x (put_in R ys x))) e in
          let b : one_unless (is_eq (R y x) || is_member R ys x) ≡ 0 = ap (λ r. one_unless (is_eq r || is_member R ys x)) e in
          omega arith
      | inr (inr e) ↦
          let a : length (put_in R (y ∷ ys) x) ≡ suc (suc (length ys)) = ap (λ r. length (put_at r y ys x (put_in R ys x))) e in
          let n : (is_eq (R y x) || is_member R ys x) ≡ false = or_from (is_eq (R y x)) (is_member R ys x) (ap is_eq e) (absent_above o x ys (above_weaker o x y ys (less_from_greater o y x e) k.0)) in
          let b : one_unless (is_eq (R y x) || is_member R ys x) ≡ 1 = ap one_unless n in
          omega arith
    ]

pub put_counts_statement : PutCountsStatement
put_counts_statement c stmts s v = length-put_in statement_exact stmts s v.stmts.sorted

pub put_counts_tuple : PutCountsTuple
put_counts_tuple stmts s =
    distinct_count-same same_tuple same_tuple-Decides (map (λ x. x.tuple) (with_statement stmts s)) (s.tuple ∷ map (λ x. x.tuple) stmts)
    (λ t. list_any-map (same_tuple t) (λ x. x.tuple) (with_statement stmts s) ∙ list_any-put_in statement_exact (λ x. same_tuple t x.tuple) stmts s
    ∙ ap (λ b. same_tuple t s.tuple || b) (sym (list_any-map (same_tuple t) (λ x. x.tuple) stmts)))
    ∙ ap (λ b. cond b 0 1 + tuple_count stmts) (list_any-map (same_tuple s.tuple) (λ x. x.tuple) stmts)

pub put_is_valid : PutIsValid
put_is_valid c stmts s v belong apart room tuples worlds =
    let keys = key_lengths c.rels in
    let next = with_statement stmts s in
    let count = put_counts_statement c stmts s v in
    let few = leb-true (length stmts) 20000 v.stmts.few_stmts in
    let fits : length next ≤ 20000 = elim (cases_Bool (stands stmts s)) [
      | inl e ↦ (let a : one_unless (stands stmts s) ≡ 0 = ap one_unless e in omega arith)
      | inr e ↦ (let a : one_unless (stands stmts s) ≡ 1 = ap one_unless e in let r = room e in omega arith)
    ] in
    record {
      catalog = v.catalog;
      stmts = record {
        sorted = put_keeps_order statement_exact stmts s v.stmts.sorted;
        belong = list_all-put_in statement_exact (belongs c) stmts s v.stmts.belong belong;
        no_clash = list_all-put_in statement_exact (λ x. not (contradicted keys next x.path x.tuple x.sign)) stmts s
            (list_all_both (λ x. not (contradicted keys stmts x.path x.tuple x.sign)) (λ x. not (opposes keys s x)) (λ x. not (contradicted keys next x.path x.tuple x.sign))
            (λ x h g. none_of keys stmts s x (opposes_turned keys x s ∙ not-true (opposes keys s x) g) (not-true (contradicted keys stmts x.path x.tuple x.sign) h)) stmts v.stmts.no_clash
            (list_all_from_none (opposes keys s) (λ x. not (opposes keys s x)) (λ x h. not_from_false (opposes keys s x) h) stmts apart))
            (none_of keys stmts s s (and_right (same_path s.path s.path) (clash keys s.tuple s.sign s.tuple s.sign) (clash_itself keys s.tuple s.sign)) apart);
        few_stmts = le-leb (length next) 20000 fits;
        few_tuples = le-leb (tuple_count next) 4000 tuples;
        few_worlds = le-leb (world_count next) 4000 worlds;
      };
    }
  where
    -- after a put, x clashes with nothing where it did not before, nor does it with the new statement
    none_of : (keys : ℕ → ℕ) (stmts : List Stmt) (s x : Stmt) → opposes keys x s ≡ false → contradicted keys stmts x.path x.tuple x.sign ≡ false
        → not (contradicted keys (with_statement stmts s) x.path x.tuple x.sign) ≡ true
    none_of keys stmts s x h g = not_from_false (contradicted keys (with_statement stmts s) x.path x.tuple x.sign)
        (list_any-put_in statement_exact (opposes keys x) stmts s ∙ or_from (opposes keys x s) (contradicted keys stmts x.path x.tuple x.sign) h g)

-- ---- a longer catalog

distinct_push : (names : List (List ℕ)) (name : List ℕ) → are_distinct names ≡ true → list_any (same_text name) names ≡ false → are_distinct (names ++ name ∷ []) ≡ true
distinct_push [] name h g = refl
distinct_push (n ∷ ns) name h g =
    let k = and_parts (not (list_any (same_text n) ns)) (are_distinct ns) h in
    let l = or_parts (same_text name n) (list_any (same_text name) ns) g in
    and_from (not (list_any (same_text n) (ns ++ name ∷ []))) (are_distinct (ns ++ name ∷ []))
    (not_from_false (list_any (same_text n) (ns ++ name ∷ [])) (list_any-append (same_text n) ns (name ∷ [])
    ∙ or_from (list_any (same_text n) ns) (same_text n name || false) (not-true (list_any (same_text n) ns) k.0)
    (or_from (same_text n name) false (turned same_text same_text-Decides n name ∙ l.0) refl)))
    (distinct_push ns name k.1 l.1)

-- where a place of a list has a name, that place of a longer list has one
name_stays : (users more : List UserSlot) (at : ℕ) → is_some (name_at users at) ≡ true → is_some (name_at (users ++ more) at) ≡ true
name_stays [] more at h = absurd (false≢true h)
name_stays (u ∷ us) more zero h = h
name_stays (u ∷ us) more (suc at) h = name_stays us more at h

-- a user of a list is one of a longer list
pub user_stays : (users more : List UserSlot) (uid : ℕ) → is_user users uid ≡ true → is_user (users ++ more) uid ≡ true
user_stays users more uid h =
    let k = and_parts (nat_lt 0 uid) (is_some (name_at users (uid - 1))) h in
    and_from (nat_lt 0 uid) (is_some (name_at (users ++ more) (uid - 1))) k.0 (name_stays users more (uid - 1) k.1)

-- the names with one more user
pub names_push : (users : List UserSlot) (name : List ℕ) → user_names (users ++ Live name ∷ []) ≡ user_names users ++ name ∷ []
names_push users name = filter_map-append live_name users (Live name ∷ [])

-- what fits a relation of a list fits that relation of a longer list
fit_stays : (rels : List RelDef) (def : RelDef) (rel : ℕ) (vals : List Value) → fits_definition (slice_get rels rel) vals ≡ true → fits_definition (slice_get (rels ++ def ∷ []) rel) vals ≡ true
fit_stays [] def rel vals h = absurd (false≢true h)
fit_stays (r ∷ rels) def zero vals h = h
fit_stays (r ∷ rels) def (suc rel) vals h = fit_stays rels def rel vals h

-- the parts of what belongs to a catalog
pub record Belongs (c : Catalog) (x : Stmt) : Type 0 where
  pub path : (alternates x.path && nat_le (length x.path) 64) ≡ true
  pub users : list_all (is_user c.users) x.path ≡ true
  pub tuple : fits_relation c.rels x.tuple ≡ true

pub belongs_parts : (c : Catalog) (x : Stmt) → belongs c x ≡ true → Belongs c x
belongs_parts c x h =
    let k = and_parts (alternates x.path && nat_le (length x.path) 64 && list_all (is_user c.users) x.path) (fits_relation c.rels x.tuple) h in
    let l = and_parts (alternates x.path && nat_le (length x.path) 64) (list_all (is_user c.users) x.path) k.0 in
    record { path = l.0; users = l.1; tuple = k.1 }

pub belongs_from : (c : Catalog) (x : Stmt) → Belongs c x → belongs c x ≡ true
belongs_from c x b = and_from (alternates x.path && nat_le (length x.path) 64 && list_all (is_user c.users) x.path) (fits_relation c.rels x.tuple)
    (and_from (alternates x.path && nat_le (length x.path) 64) (list_all (is_user c.users) x.path) b.path b.users) b.tuple

pub belongs_with_user : (c : Catalog) (name : List ℕ) (x : Stmt) → belongs c x ≡ true → belongs (with_user c name) x ≡ true
belongs_with_user c name x h =
    let b = belongs_parts c x h in
    belongs_from (with_user c name) x (record {
      path = b.path;
      users = list_all_weaker (is_user c.users) (is_user (c.users ++ Live name ∷ [])) (user_stays c.users (Live name ∷ [])) x.path b.users;
      tuple = b.tuple;
    })

pub belongs_with_relation : (c : Catalog) (def : RelDef) (x : Stmt) → belongs c x ≡ true → belongs (with_relation c def) x ≡ true
belongs_with_relation c def x h =
    let b = belongs_parts c x h in
    belongs_from (with_relation c def) x (record { path = b.path; users = b.users; tuple = fit_stays c.rels def x.tuple.rel x.tuple.vals b.tuple })

pub add_user_is_valid : AddUserIsValid
add_user_is_valid c stmts name v plain apart room =
    let l = length-append c.users (Live name ∷ []) in
    let names = names_push c.users name in
    record {
      catalog = record {
        users_differ = ap are_distinct names ∙ distinct_push (user_names c.users) name v.catalog.users_differ apart;
        users_plain = ap (list_all is_plain) names ∙ list_all_push is_plain (user_names c.users) name v.catalog.users_plain plain;
        few_users = le-leb (length (c.users ++ Live name ∷ [])) 1024 (omega arith);
        rels_differ = v.catalog.rels_differ;
        rels_valid = v.catalog.rels_valid;
        few_rels = v.catalog.few_rels;
      };
      stmts = record {
        sorted = v.stmts.sorted;
        belong = list_all_weaker (belongs c) (belongs (with_user c name)) (belongs_with_user c name) stmts v.stmts.belong;
        no_clash = v.stmts.no_clash;
        few_stmts = v.stmts.few_stmts;
        few_tuples = v.stmts.few_tuples;
        few_worlds = v.stmts.few_worlds;
      };
    }

pub definition_stays : (rels : List RelDef) (def : RelDef) (n : ℕ) (vals : List Value) → fits_definition (slice_get rels n) vals ≡ true → slice_get (rels ++ def ∷ []) n ≡ slice_get rels n
definition_stays [] def n vals h = absurd (false≢true h)
definition_stays (r ∷ rels) def zero vals h = refl
definition_stays (r ∷ rels) def (suc n) vals h = definition_stays rels def n vals h

pub clash_elsewhere : (keys more : ℕ → ℕ) (t : Tuple) (s : Sign) (u : Tuple) (r : Sign) → more t.rel ≡ keys t.rel → clash more t s u r ≡ clash keys t s u r
clash_elsewhere keys more t s u r e = sym (clash_by_length more t s u r) ∙ ap (λ n. clash (λ _. n) t s u r) e ∙ clash_by_length keys t s u r

pub contradicted_elsewhere : (keys more : ℕ → ℕ) (stmts : List Stmt) (w : List ℕ) (t : Tuple) (s : Sign) → more t.rel ≡ keys t.rel → contradicted more stmts w t s ≡ contradicted keys stmts w t s
contradicted_elsewhere keys more [] w t s e = refl
contradicted_elsewhere keys more (x ∷ xs) w t s e =
    ap (λ b. (same_path x.path w && b) || contradicted more xs w t s) (clash_elsewhere keys more t s x.tuple x.sign e)
    ∙ ap (λ b. (same_path x.path w && clash keys t s x.tuple x.sign) || b) (contradicted_elsewhere keys more xs w t s e)

apart_stays : (c : Catalog) (def : RelDef) (stmts xs : List Stmt) → list_all (belongs c) xs ≡ true
    → list_all (λ x. not (contradicted (key_lengths c.rels) stmts x.path x.tuple x.sign)) xs ≡ true
    → list_all (λ x. not (contradicted (key_lengths (c.rels ++ def ∷ [])) stmts x.path x.tuple x.sign)) xs ≡ true
apart_stays c def stmts [] b h = refl
apart_stays c def stmts (x ∷ xs) b h =
    let p = and_parts (belongs c x) (list_all (belongs c) xs) b in
    let q = and_parts (not (contradicted (key_lengths c.rels) stmts x.path x.tuple x.sign)) (list_all (λ y. not (contradicted (key_lengths c.rels) stmts y.path y.tuple y.sign)) xs) h in
    let same : key_lengths (c.rels ++ def ∷ []) x.tuple.rel ≡ key_lengths c.rels x.tuple.rel =
    ap key_at (definition_stays c.rels def x.tuple.rel x.tuple.vals (belongs_parts c x p.0).tuple) in
    and_from (not (contradicted (key_lengths (c.rels ++ def ∷ [])) stmts x.path x.tuple x.sign)) (list_all (λ y. not (contradicted (key_lengths (c.rels ++ def ∷ [])) stmts y.path y.tuple y.sign)) xs)
    (ap not (contradicted_elsewhere (key_lengths c.rels) (key_lengths (c.rels ++ def ∷ [])) stmts x.path x.tuple x.sign same) ∙ q.0)
    (apart_stays c def stmts xs p.1 q.1)

pub add_relation_is_valid : AddRelationIsValid
add_relation_is_valid c stmts def v valid apart room =
    let l = length-append c.rels (def ∷ []) in
    record {
      catalog = record {
        users_differ = v.catalog.users_differ;
        users_plain = v.catalog.users_plain;
        few_users = v.catalog.few_users;
        rels_differ = ap are_distinct (map-append (λ r. r.name) c.rels (def ∷ [])) ∙ distinct_push (map (λ r. r.name) c.rels) def.name v.catalog.rels_differ apart;
        rels_valid = list_all_push is_valid_relation c.rels def v.catalog.rels_valid valid;
        few_rels = le-leb (length (c.rels ++ def ∷ [])) 64 (omega arith);
      };
      stmts = record {
        sorted = v.stmts.sorted;
        belong = list_all_weaker (belongs c) (belongs (with_relation c def)) (belongs_with_relation c def) stmts v.stmts.belong;
        no_clash = apart_stays c def stmts stmts v.stmts.belong v.stmts.no_clash;
        few_stmts = v.stmts.few_stmts;
        few_tuples = v.stmts.few_tuples;
        few_worlds = v.stmts.few_worlds;
      };
    }

-- as many values as columns
pub as_many_values : (cols : List ColDef) (vals : List Value) → fits_columns cols vals ≡ true → length vals ≡ length cols
as_many_values [] [] e = refl
as_many_values [] (v ∷ vals) e = absurd (false≢true e)
as_many_values (c ∷ cols) [] e = absurd (false≢true e)
as_many_values (c ∷ cols) (v ∷ vals) e = ap suc (as_many_values cols vals (and_parts (fits_kind c.kind v) (fits_columns cols vals) e).1)

pub fits_its_columns : (def : Option RelDef) (vals : List Value) → fits_definition def vals ≡ true → fits_columns (columns_of_definition def) vals ≡ true
fits_its_columns None vals h = absurd (false≢true h)
fits_its_columns (Some def) vals h = h

-- what is stated of a relation fits it
pub stated_fits : (c : Catalog) (xs : List Stmt) (u : Tuple) → list_all (belongs c) xs ≡ true → list_any (λ x. same_tuple x.tuple u) xs ≡ true → fits_relation c.rels u ≡ true
stated_fits c [] u b e = absurd (false≢true e)
stated_fits c (x ∷ xs) u b e =
    let p = and_parts (belongs c x) (list_all (belongs c) xs) b in
    let path = alternates x.path && nat_le (length x.path) deepest_statement && list_all (is_user c.users) x.path in
    elim (or_cases (same_tuple x.tuple u) (list_any (λ y. same_tuple y.tuple u) xs) e) [
      | inl k ↦ ap (fits_relation c.rels) (sym ((same_tuple-Decides x.tuple u).0 k)) ∙ (and_parts path (fits_relation c.rels x.tuple) p.0).1
      | inr k ↦ stated_fits c xs u p.1 k
    ]

pub tied_tuple_is : (t u : Tuple) → is_eq (tuple_cmp t u) ≡ true → t ≡ u
tied_tuple_is t u e = tuple_exact.exact t u (is_eq-Equal (tuple_cmp t u) e)

pub tied_statement_is : (x y : Stmt) → is_eq (statement_cmp x y) ≡ true → x ≡ y
tied_statement_is x y e = statement_exact.exact x y (is_eq-Equal (statement_cmp x y) e)
