-- An update and a delete keep a base valid.
use Rattle.std.proofs.Common.{◌≡◌, ◌∙◌, ℕ, Bool, true, false, not, ◌&&◌, ◌||◌, cond, List, [], ◌∷◌, Some, None, refl, ap, sym, inl, inr, filter, find, length, map, nat_eq, nat_le}
use Rattle.std.specs.List.{list_any, list_all}
use Rattle.std.proofs.lemmas.Bool.{cases_Bool, and_parts, and_from, and_left, or_cases, or_from, or_left, or_right, cond-true, cond-false, not-true, not_from_false, le-leb}
use Rattle.std.proofs.lemmas.Bool.Decides.{Decides-eqb}
use Rattle.std.specs.Ordering.{is_eq}
use Rattle.bdb_base.specs.declared.kinds.Catalog.{Catalog}
use Rattle.bdb_base.specs.declared.kinds.Cond.{Cond}
use Rattle.bdb_base.specs.declared.kinds.SetCol.{SetCol}
use Rattle.bdb_base.specs.declared.kinds.Sign.{Sign}
use Rattle.bdb_base.specs.declared.kinds.Stmt.{Stmt}
use Rattle.bdb_base.specs.Alternation.{alternates}
use Rattle.bdb_base.specs.Bases.{belongs, fits_relation, is_user, key_lengths, tuple_count, world_count, with_statement, without_statement, stands}
use Rattle.bdb_base.specs.Changes.{is_taken, taken_by, without_taken, changed_statement, with_statements, updated, without_statements}
use Rattle.bdb_base.specs.Clash.{clash}
use Rattle.bdb_base.specs.Conditions.{meets, changed}
use Rattle.bdb_base.specs.Order.{statement_cmp}
use Rattle.bdb_base.specs.OrderLemmas.{statement_exact}
use Rattle.bdb_base.specs.Same.{same_path, same_sign}
use Rattle.bdb_base.specs.SameLemmas.{same_path-Decides}
use Rattle.bdb_base.specs.SortedSet.{ascending}
use Rattle.bdb_base.specs.UpdateLaws.{UpdateIsValid, DeleteIsValid}
use Rattle.bdb_base.specs.Worlds.{contradicted}
use Rattle.bdb_base.proofs.BaseLemmas.{filter_is_valid}
use Rattle.bdb_base.proofs.ClashLemmas.{turned}
use Rattle.bdb_base.proofs.ListLemmas.{list_all_weaker, list_all_both, list_any_fails, list_all-filter, list_any-filter_none, filter_kept_one, filter_dropped_one, or_false, or_move}
use Rattle.bdb_base.proofs.SetLemmas.{list_any-put_in, list_all-put_in, put_keeps_order, filter_keeps_order, take_keeps_order, take_drops_member, is_eq-Equal, members_make_set, put_adds_member}

-- ---- what a test leaves of a valid base

pub delete_is_valid : DeleteIsValid
delete_is_valid c stmts w s rel conds v = record {
  catalog = v.catalog;
  stmts = filter_is_valid c stmts (λ x. not (is_taken w s rel conds x)) v.stmts (filter_keeps_order statement_exact (λ x. not (is_taken w s rel conds x)) stmts v.stmts.sorted);
}

-- ---- statements with more of them

pub list_any-with : (p : Stmt → Bool) (xs ys : List Stmt) → list_any p (with_statements xs ys) ≡ (list_any p xs || list_any p ys)
list_any-with p xs [] = sym (or_false (list_any p xs))
list_any-with p xs (y ∷ ys) = list_any-with p (with_statement xs y) ys ∙ ap (λ b. b || list_any p ys) (list_any-put_in statement_exact p xs y)
    ∙ or_move (p y) (list_any p xs) (list_any p ys)

pub list_all-with : (p : Stmt → Bool) (xs ys : List Stmt) → list_all p xs ≡ true → list_all p ys ≡ true → list_all p (with_statements xs ys) ≡ true
list_all-with p xs [] h g = h
list_all-with p xs (y ∷ ys) h g =
    let k = and_parts (p y) (list_all p ys) g in
    list_all-with p (with_statement xs y) ys (list_all-put_in statement_exact p xs y h k.0) k.1

pub with_keeps_order : (xs ys : List Stmt) → ascending statement_cmp xs ≡ true → ascending statement_cmp (with_statements xs ys) ≡ true
with_keeps_order xs [] h = h
with_keeps_order xs (y ∷ ys) h = with_keeps_order (with_statement xs y) ys (put_keeps_order statement_exact xs y h)

-- ---- statements taken and changed

-- what is kept and changed passes a test
kept_pass : {X Y : Type 0} (p q : X → Bool) (r : Y → Bool) (f : X → Y) → ((x : X) → p x ≡ true → q x ≡ true → r (f x) ≡ true)
    → (xs : List X) → list_all p xs ≡ true → list_all r (map f (filter q xs)) ≡ true
kept_pass p q r f w [] h = refl
kept_pass p q r f w (x ∷ xs) h =
    let k = and_parts (p x) (list_all p xs) h in
    elim (cases_Bool (q x)) [
      | inl e ↦ ap (λ l. list_all r (map f l)) (filter_kept_one q x xs e)
          ∙ and_from (r (f x)) (list_all r (map f (filter q xs))) (w x k.0 e) (kept_pass p q r f w xs k.1)
      | inr e ↦ ap (λ l. list_all r (map f l)) (filter_dropped_one q x xs e) ∙ kept_pass p q r f w xs k.1
    ]

taken_path : (w : List ℕ) (s : Sign) (rel : ℕ) (conds : List Cond) (x : Stmt) → is_taken w s rel conds x ≡ true → same_path x.path w ≡ true
taken_path w s rel conds x e = (and_parts (same_path x.path w) (same_sign x.sign s && (nat_eq x.tuple.rel rel && meets conds x.tuple)) e).0

taken_rel : (w : List ℕ) (s : Sign) (rel : ℕ) (conds : List Cond) (x : Stmt) → is_taken w s rel conds x ≡ true → x.tuple.rel ≡ rel
taken_rel w s rel conds x e =
    let a = and_parts (same_path x.path w) (same_sign x.sign s && (nat_eq x.tuple.rel rel && meets conds x.tuple)) e in
    let b = and_parts (same_sign x.sign s) (nat_eq x.tuple.rel rel && meets conds x.tuple) a.1 in
    let d = and_parts (nat_eq x.tuple.rel rel) (meets conds x.tuple) b.1 in
    (Decides-eqb x.tuple.rel rel).0 d.0

-- a statement that belongs still does where its changed tuple fits as the tuple did
belongs_changed : (c : Catalog) (sets : List SetCol) (x : Stmt) → belongs c x ≡ true
    → (fits_relation c.rels x.tuple ≡ true → fits_relation c.rels (changed sets x.tuple) ≡ true) → belongs c (changed_statement sets x) ≡ true
belongs_changed c sets x h fit =
    let placed = alternates x.path && nat_le (length x.path) 64 && list_all (is_user c.users) x.path in
    let k = and_parts placed (fits_relation c.rels x.tuple) h in
    and_from placed (fits_relation c.rels (changed sets x.tuple)) k.0 (fit k.1)

-- ---- clashes after an update

-- each item fails a test that finds none
pub none_passes : {X : Type 0} (p : X → Bool) (xs : List X) → find p xs ≡ None → list_all (λ x. not (p x)) xs ≡ true
none_passes p [] e = refl
none_passes p (x ∷ xs) e = elim (cases_Bool (p x)) [
  | inl a ↦ let k : cond (p x) (Some x) (find p xs) ≡ Some x = cond-true (p x) (Some x) (find p xs) a in cc
  | inr b ↦
      let k : cond (p x) (Some x) (find p xs) ≡ find p xs = cond-false (p x) (Some x) (find p xs) b in
      and_from (not (p x)) (list_all (λ y. not (p y)) xs) (not_from_false (p x) b) (none_passes p xs (sym k ∙ e))
]

-- a statement clashes with none of its path
abbrev pub is_free : (ℕ → ℕ) → List Stmt → Stmt → Bool
is_free keys stmts x = not (contradicted keys stmts x.path x.tuple x.sign)

-- a statement is not one of this very path that clashes with another of it
abbrev pub is_free_at : (ℕ → ℕ) → List Stmt → List ℕ → Stmt → Bool
is_free_at keys stmts w x = not (same_path x.path w && contradicted keys stmts w x.tuple x.sign)

-- a statement is of this very path, or clashes with none of its path
abbrev pub is_free_elsewhere : (ℕ → ℕ) → List Stmt → List ℕ → Stmt → Bool
is_free_elsewhere keys stmts w x = same_path x.path w || is_free keys stmts x

-- what is free at a path and elsewhere is free
pub free_everywhere : (keys : ℕ → ℕ) (stmts : List Stmt) (w : List ℕ) (x : Stmt) → is_free_at keys stmts w x ≡ true → is_free_elsewhere keys stmts w x ≡ true
    → is_free keys stmts x ≡ true
free_everywhere keys stmts w x h g =
    let clashes = contradicted keys stmts w x.tuple x.sign in
    elim (or_cases (same_path x.path w) (is_free keys stmts x) g) [
      | inl a ↦
          let free : clashes ≡ false = sym (ap (λ b. b && clashes) a) ∙ not-true (same_path x.path w && clashes) h in
          not_from_false (contradicted keys stmts x.path x.tuple x.sign) (ap (λ u. contradicted keys stmts u x.tuple x.sign) ((same_path-Decides x.path w).0 a) ∙ free)
      | inr b ↦ b
    ]

-- a statement that is free stays so elsewhere than at w, where some go and those that come are all at w
stays_free : (keys : ℕ → ℕ) (stmts : List Stmt) (q : Stmt → Bool) (more : List Stmt) (w : List ℕ) → list_all (λ y. same_path y.path w) more ≡ true
    → (x : Stmt) → is_free keys stmts x ≡ true → is_free_elsewhere keys (with_statements (filter q stmts) more) w x ≡ true
stays_free keys stmts q more w at x h =
    let next = with_statements (filter q stmts) more in
    let p : Stmt → Bool = λ y. same_path y.path x.path && clash keys x.tuple x.sign y.tuple y.sign in
    elim (cases_Bool (same_path x.path w)) [
      | inl a ↦ or_left (same_path x.path w) (is_free keys next x) a
      | inr b ↦
          let before : list_any p (filter q stmts) ≡ false = list_any-filter_none p q stmts (not-true (contradicted keys stmts x.path x.tuple x.sign) h) in
          let came : list_any p more ≡ false = list_any_fails (λ y. same_path y.path w) p
          (λ y k. and_left (same_path y.path x.path) (clash keys x.tuple x.sign y.tuple y.sign)
          (ap (λ u. same_path u x.path) ((same_path-Decides y.path w).0 k) ∙ turned same_path same_path-Decides w x.path ∙ b)) more at in
          or_right (same_path x.path w) (is_free keys next x) (not_from_false (contradicted keys next x.path x.tuple x.sign)
          (list_any-with p (filter q stmts) more ∙ or_from (list_any p (filter q stmts)) (list_any p more) before came))
    ]

pub update_is_valid : UpdateIsValid
update_is_valid c stmts w s rel conds sets v fit none tuples worlds room =
    let keys = key_lengths c.rels in
    let q : Stmt → Bool = is_taken w s rel conds in
    let f : Stmt → Stmt = changed_statement sets in
    let left = without_taken w s rel conds stmts in
    let more = map f (taken_by w s rel conds stmts) in
    let next = updated w s rel conds sets stmts in
    let at : list_all (λ y. same_path y.path w) more ≡ true = kept_pass (belongs c) q (λ y. same_path y.path w) f (λ x h e. taken_path w s rel conds x e) stmts v.stmts.belong in
    record {
      catalog = v.catalog;
      stmts = record {
        sorted = with_keeps_order left more (filter_keeps_order statement_exact (λ x. not (q x)) stmts v.stmts.sorted);
        belong = list_all-with (belongs c) left more (list_all-filter (belongs c) (λ x. not (q x)) stmts v.stmts.belong)
            (kept_pass (belongs c) q (belongs c) f (λ x h e. belongs_changed c sets x h (fit x.tuple (taken_rel w s rel conds x e))) stmts v.stmts.belong);
        no_clash = list_all_both (is_free_at keys next w) (is_free_elsewhere keys next w) (is_free keys next) (free_everywhere keys next w) next
            (none_passes (λ x. same_path x.path w && contradicted keys next w x.tuple x.sign) next none)
            (list_all-with (is_free_elsewhere keys next w) left more
            (list_all-filter (is_free_elsewhere keys next w) (λ x. not (q x)) stmts
            (list_all_weaker (is_free keys stmts) (is_free_elsewhere keys next w) (stays_free keys stmts (λ x. not (q x)) more w at) stmts v.stmts.no_clash))
            (list_all_weaker (λ y. same_path y.path w) (is_free_elsewhere keys next w) (λ y k. or_left (same_path y.path w) (is_free keys next y) k) more at));
        few_stmts = le-leb (length next) 20000 room;
        few_tuples = le-leb (tuple_count next) 4000 tuples;
        few_worlds = le-leb (world_count next) 4000 worlds;
      };
    }

pub without_keeps_order : (xs gone : List Stmt) → ascending statement_cmp xs ≡ true → ascending statement_cmp (without_statements xs gone) ≡ true
without_keeps_order xs [] s = s
without_keeps_order xs (x ∷ gone) s = without_keeps_order (without_statement xs x) gone (take_keeps_order statement_exact xs x s)

pub stands_without : (xs gone : List Stmt) (z : Stmt) → stands (without_statements xs gone) z ≡ (not (stands gone z) && stands xs z)
stands_without xs [] z = refl
stands_without xs (x ∷ gone) z =
    stands_without (without_statement xs x) gone z ∙ ap (λ b. not (stands gone z) && b) (take_drops_member statement_exact xs x z)
    ∙ neither (is_eq (statement_cmp x z)) (stands gone z) (stands xs z)
  where
    neither : (a b c : Bool) → (not b && (not a && c)) ≡ (not (a || b) && c)
    neither true true c = refl
    neither true false c = refl
    neither false b c = refl

-- a statement that stands is put to no effect
pub put_stands : (stmts : List Stmt) (x : Stmt) → ascending statement_cmp stmts ≡ true → stands stmts x ≡ true → with_statement stmts x ≡ stmts
put_stands stmts x s e = members_make_set statement_exact (with_statement stmts x) stmts (put_keeps_order statement_exact stmts x s) s
    (λ z. put_adds_member statement_exact stmts x z ∙ elim (cases_Bool (is_eq (statement_cmp x z))) [
      | inl a ↦ ap (λ b. b || stands stmts z) a ∙ sym (ap (stands stmts) (sym (statement_exact.exact x z (is_eq-Equal (statement_cmp x z) a))) ∙ e)
      | inr a ↦ ap (λ b. b || stands stmts z) a
    ])
