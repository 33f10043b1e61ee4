-- Steps of loops, and names of columns.
use Rattle.std.proofs.Common.{◌≡◌, ◌∙◌, ℕ, suc, ◌+◌, ◌<◌, ◌≤◌, ◌^◌, true, ◌&&◌, nat_lt, List, [], ◌∷◌, ◌++◌, Option, None, Some, refl, ap, sym, subst, length, drop, get_or, find, arith, append_assoc, inl, inr, map}
use Prim.Native.Nat.{zero}
use Rattle.std.specs.List.{list_all, slice_get, flat_map}
use Rattle.std.specs.Option.{option_map}
use Rattle.std.proofs.lemmas.Bool.{cases_Bool, cond-true, cond-false, and_parts, ltb-true}
use Rattle.std.proofs.lemmas.List.{drop_more, append-nil}
use Rattle.bdb_base.specs.declared.kinds.Catalog.{Catalog}
use Rattle.bdb_base.specs.declared.kinds.Cmp.{Cmp}
use Rattle.bdb_base.specs.declared.kinds.Cmp.TheVariants.{Eq, Ne, Lt, Le, Gt, Ge}
use Rattle.bdb_base.specs.declared.kinds.Cond.{Cond}
use Rattle.bdb_base.specs.declared.kinds.Item.{Item}
use Rattle.bdb_base.specs.declared.kinds.Operand.{Operand}
use Rattle.bdb_base.specs.declared.kinds.Operand.TheVariants.{Col, Lit}
use Rattle.bdb_base.specs.declared.kinds.Query.{Query}
use Rattle.bdb_base.specs.declared.kinds.Ref.{Ref}
use Rattle.bdb_base.specs.declared.kinds.RelDef.{RelDef}
use Rattle.bdb_base.specs.declared.kinds.Who.{Who}
use Rattle.bdb_base.specs.Queries.{columns_at, columns_of_definition}
use Rattle.bdb_base.specs.Safety.{is_equality, is_literal, same_column, query_fits, first_there}
use Rattle.bdb_base.proofs.ListLemmas.{list_all_get, filter_kept_one, filter_dropped_one}
use Rattle.bdb_base.proofs.FindLemmas.{find_same}
use Rattle.bdb_base.proofs.ConditionLemmas.{same_column_is}
use Rattle.bdb_plan.specs.declared.step.Step.{Step}
use Rattle.bdb_plan.specs.declared.step.Step.TheVariants as step
use Rattle.bdb_plan.specs.PlanOf.{differ_from, walk_from, setting, denying, due, item_steps}
use Rattle.bdb_plan.specs.Sources.{renamed, renamed_by, stands_for, joined, pins_chain, given_columns, source_of}
use Rattle.bdb_trans.specs.Steps.{is_due, due_step}
use Rattle.bdb_trans.specs.Names.{can_number_columns, named, NameColumns, TakesIn, has_name, pins_name, source_by_names}

-- one more user of a path
pub walk_turn : (item : ℕ) (before : Option Who) (path : List Who) (i : ℕ) (who : Who) → i < length path → who ≡ get_or path i who
    → walk_from item before (drop i path) ≡ differ_from item before who ++ (step.Edge item who ∷ walk_from item (Some who) (drop (i + 1) path))
walk_turn item before path i who lt at =
    ap (walk_from item before) (drop_more path i who lt) ∙ ap (λ x. walk_from item before (x ∷ drop (i + 1) path)) (sym at)

pub walk_end : (item : ℕ) (before : Option Who) (path : List Who) (i : ℕ) → length path ≤ i → walk_from item before (drop i path) ≡ []
walk_end item before path i le = ap (walk_from item before) (drop_past path i le)
  where
    drop_past : (xs : List Who) (n : ℕ) → length xs ≤ n → drop n xs ≡ []
    drop_past [] zero h = refl
    drop_past [] (suc n) h = refl
    drop_past (x ∷ xs) zero h = absurd (omega arith)
    drop_past (x ∷ xs) (suc n) h = drop_past xs n (omega arith)

-- the tests that are due, one comparison after the other
pub due_are_each : (set : List ℕ) (at : ℕ) (conds : List Cond) → map step.Test (due set at conds) ≡ flat_map (due_step set at) conds
due_are_each set at [] = refl
due_are_each set at (c ∷ cs) = elim (cases_Bool (is_due set at c)) [
  | inl k ↦
      ap (map step.Test) (filter_kept_one (is_due set at) c cs k) ∙ ap (λ xs. step.Test c ∷ xs) (due_are_each set at cs)
      ∙ ap (λ xs. xs ++ flat_map (due_step set at) cs) (sym (cond-true (is_due set at c) (step.Test c ∷ []) [] k))
  | inr k ↦
      ap (map step.Test) (filter_dropped_one (is_due set at) c cs k) ∙ due_are_each set at cs
      ∙ ap (λ xs. xs ++ flat_map (due_step set at) cs) (sym (cond-false (is_due set at c) (step.Test c ∷ []) [] k))
]

-- the columns of a relation can be numbered
pub few_columns : (rels : List RelDef) (rel : ℕ) → list_all can_number_columns rels ≡ true → length (columns_at rels rel) < 2 ^ 32
few_columns rels rel h = by (slice_get rels rel) (λ def e. list_all_get can_number_columns rels rel def h e)
  where
    by : (o : Option RelDef) → ((def : RelDef) → o ≡ Some def → can_number_columns def ≡ true) → length (columns_of_definition o) < 2 ^ 32
    by None k = ltb-true 0 (2 ^ 32) refl
    by (Some def) k = ltb-true (length def.cols) (2 ^ 32) (k def refl)

-- a query fits a catalog each of whose relations has columns that can be numbered
pub columns_are_numbered : (catalog : Catalog) (q : Query) → query_fits catalog q ≡ true → list_all can_number_columns catalog.rels ≡ true
columns_are_numbered catalog q h = (and_parts (list_all can_number_columns catalog.rels) _ (and_parts (nat_lt (length q.items) (2 ^ 32)) _ h).1).0

-- a source by names is the column's source
pub source_is_named : (rels : List RelDef) (q : Query) (names : List (Ref × Ref)) (given : List Ref) (r : Ref) → NameColumns q.conds names → given ≡ given_columns rels 0 q.items
    → source_by_names q.conds names given r ≡ source_of rels q r
source_is_named rels q names given r h g =
    ap (λ a. first_there (option_map (λ c. c.right) a) (option_map Col (find (has_name names (named names r)) given))) (find_same (pins_name names (named names r)) (pins_chain q.conds r) pins q.conds)
    ∙ ap (λ a. first_there (option_map (λ c. c.right) (find (pins_chain q.conds r) q.conds)) (option_map Col a)) (find_same (has_name names (named names r)) (joined q.conds r) has given)
    ∙ ap (λ xs. first_there (option_map (λ c. c.right) (find (pins_chain q.conds r) q.conds)) (option_map Col (find (joined q.conds r) xs))) g
  where
    has : (s : Ref) → has_name names (named names r) s ≡ joined q.conds r s
    has s = ap (λ x. same_column x (named names s)) (h r) ∙ ap (same_column (stands_for q.conds r)) (h s)

    pins : (c : Cond) → pins_name names (named names r) c ≡ pins_chain q.conds r c
    pins c = ap (λ b. is_equality c.cmp && (is_literal c.right && b)) (has c.left)

-- ---- names

named_append : (names : List (Ref × Ref)) (x : Ref × Ref) (r : Ref) → named (names ++ x ∷ []) r ≡ renamed x.0 x.1 (named names r)
named_append [] x r = refl
named_append (y ∷ ys) x r = named_append ys x (renamed y.0 y.1 r)

renamed_itself : (old new r : Ref) → same_column old new ≡ true → renamed old new r ≡ r
renamed_itself old new r h = elim (cases_Bool (same_column r old)) [
  | inl k ↦ cond-true (same_column r old) new r k ∙ sym (same_column_is old new h) ∙ sym (same_column_is r old k)
  | inr k ↦ cond-false (same_column r old) new r k
]

-- an equality of two columns, one of whose names gives way
pub taken_in : (c : Cond) (y : Ref) (old : List (Ref × Ref)) → c.cmp ≡ Eq → c.right ≡ Col y → TakesIn c old (old ++ (named old c.left, named old y) ∷ [])
taken_in c y old e o cs h r =
    named_append old (named old c.left, named old y) r
    ∙ ap (λ x. renamed x (named old y) (named old r)) (h c.left) ∙ ap (λ x. renamed (stands_for cs c.left) x (named old r)) (h y) ∙ ap (renamed (stands_for cs c.left) (stands_for cs y)) (h r)
    ∙ sym (ap (λ b. renamed_by b c.right (stands_for cs) c.left r) (ap is_equality e) ∙ ap (λ x. renamed_by true x (stands_for cs) c.left r) o)

-- an equality of two columns that have one name
pub one_name : (c : Cond) (y : Ref) (old : List (Ref × Ref)) → c.cmp ≡ Eq → c.right ≡ Col y → same_column (named old c.left) (named old y) ≡ true → TakesIn c old old
one_name c y old e o s cs h r =
    let same : same_column (stands_for cs c.left) (stands_for cs y) ≡ true = sym (ap (λ x. same_column x (named old y)) (h c.left) ∙ ap (same_column (stands_for cs c.left)) (h y)) ∙ s in
    h r ∙ sym (ap (λ b. renamed_by b c.right (stands_for cs) c.left r) (ap is_equality e) ∙ ap (λ x. renamed_by true x (stands_for cs) c.left r) o
    ∙ renamed_itself (stands_for cs c.left) (stands_for cs y) (stands_for cs r) same)

-- another comparison changes no name
pub not_taken : (c : Cond) (old : List (Ref × Ref)) → ((y : Ref) → c.cmp ≡ Eq → c.right ≡ Col y → ⊥) → TakesIn c old old
not_taken c old k cs h r = h r ∙ by c.cmp c.right (λ y e o. k y e o)
  where
    by : (m : Cmp) (o : Operand) → ((y : Ref) → m ≡ Eq → o ≡ Col y → ⊥) → stands_for cs r ≡ renamed_by (is_equality m) o (stands_for cs) c.left r
    by Eq (Col y) k = absurd (k y refl refl)
    by Eq (Lit v) k = refl
    by Ne o k = refl
    by Lt o k = refl
    by Le o k = refl
    by Gt o k = refl
    by Ge o k = refl

-- one more comparison from the end
pub names_go_on : (conds : List Cond) (i at : ℕ) (c : Cond) (old new : List (Ref × Ref)) → i < length conds → at ≡ i + 1 → c ≡ get_or conds i c → NameColumns (drop at conds) old → TakesIn c old new → NameColumns (drop i conds) new
names_go_on conds i at c old new lt e is h t =
    let rest : NameColumns (drop (i + 1) conds) old = subst (λ k. NameColumns (drop k conds) old) e h in
    let front : c ∷ drop (i + 1) conds ≡ drop i conds = ap (λ x. x ∷ drop (i + 1) conds) is ∙ sym (drop_more conds i c lt) in
    subst (λ xs. NameColumns xs new) front (t (drop (i + 1) conds) rest)

pub no_names : (conds : List Cond) (at : ℕ) → length conds ≤ at → NameColumns (drop at conds) []
no_names conds at le = subst (λ xs. NameColumns xs []) (sym (drop_all conds at le)) (λ r. refl)
  where
    drop_all : (xs : List Cond) (n : ℕ) → length xs ≤ n → drop n xs ≡ []
    drop_all [] zero h = refl
    drop_all [] (suc n) h = refl
    drop_all (x ∷ xs) zero h = absurd (omega arith)
    drop_all (x ∷ xs) (suc n) h = drop_all xs n (omega arith)

-- ---- the steps of an item, part by part

pub item_made : (rels : List RelDef) (q : Query) (set : List ℕ) (at : ℕ) (item : Option Item) (conds : List Cond) (old a b n : List Step) → conds ≡ q.conds → a ≡ old ++ setting rels q at item
    → b ≡ a ++ flat_map (due_step set at) conds → n ≡ b ++ denying at item → n ≡ old ++ item_steps rels q set at item
item_made rels q set at item conds old a b n e h g k =
    let s = setting rels q at item in
    let d = map step.Test (due set at q.conds) in
    let m = denying at item in
    let tests : flat_map (due_step set at) conds ≡ d = ap (flat_map (due_step set at)) e ∙ sym (due_are_each set at q.conds) in
    k ∙ ap (λ x. x ++ m) (g ∙ ap (λ x. x ++ flat_map (due_step set at) conds) h ∙ ap (λ x. (old ++ s) ++ x) tests) ∙ append_assoc (old ++ s) d m ∙ append_assoc old s (d ++ m)

pub none_made : (rels : List RelDef) (q : Query) (set : List ℕ) (at : ℕ) (item : Option Item) (conds : List Cond) (old n : List Step) → item ≡ None → conds ≡ q.conds
    → n ≡ old ++ flat_map (due_step set at) conds → n ≡ old ++ item_steps rels q set at item
none_made rels q set at item conds old n i e h =
    let d = map step.Test (due set at q.conds) in
    let tests : flat_map (due_step set at) conds ≡ d = ap (flat_map (due_step set at)) e ∙ sym (due_are_each set at q.conds) in
    h ∙ ap (λ x. old ++ x) (tests ∙ sym (append-nil d)) ∙ ap (λ o. old ++ item_steps rels q set at o) (sym i)
