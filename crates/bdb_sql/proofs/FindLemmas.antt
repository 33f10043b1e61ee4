-- What a plain query over the one table finds, and what is left where rows are taken out by their numbers.
use Rattle.std.proofs.Common.{◌≡◌, ◌⊎◌, pos, negsuc, ℤ, Bool, true, false, not, cond, List, [], ◌∷◌, ◌++◌, map, flat_map, None, refl, sym, ap, ◌∙◌, subst, inl, inr}
use Rattle.std.specs.List.{list_all}
use Rattle.std.proofs.lemmas.Bool.{not-true}
use Rattle.std.proofs.lemmas.List.Sorted.{IsPermutation-sym}
use Rattle.sqlite_value.specs.declared.value.Value.TheVariants.{Int}
use Rattle.sqlite_value.specs.Order.{Row}
use Rattle.sqlite_trees.specs.declared.store.Shape.TheVariants.{Table}
use Rattle.sqlite_trees.specs.Tree.{Trees, rowid, has_rowid, without_rowid, IsTable}
use Rattle.sqlite_trees.specs.View.{is_int, IsShaped}
use Rattle.sqlite_trees.proofs.TreeLemmas.{IsShaped-filter, IsShaped-put_row}
use Rattle.sqlite_rules.specs.Lists.{Has}
use Rattle.sqlite_rules.specs.Edit.{without_all, put_all, row_at}
use Rattle.sqlite_rules.proofs.ListLemmas.{has_right, has_filtered}
use Rattle.sqlite_rules.proofs.ProbeLemmas.{has_mapped, mapped_has}
use Rattle.sqlite_rules.proofs.PlaceLemmas.{left_or_taken}
use Rattle.sqlite_sql.specs.Term.{Term, lit, holds, eval_all}
use Rattle.sqlite_sql.specs.Query.{Query, Output, output, matches, inner, end, IsAnswer}
use Rattle.sqlite_sql.specs.Program.{overlay}
use Rattle.bdb_sql.proofs.LoadLemmas.{permuted}

-- the rows that pass some tests, and what is shown of them
abbrev pub plain_query : List Term → List Term → Query
plain_query tests shown = record {
  from = inner 0 end;
  filter = tests;
  group = None;
  project = shown;
  distinct = false;
  collations = [];
  order = [];
  limit = lit (Int (negsuc 0));
  offset = lit (Int (pos 0));
}

abbrev pub pass : List Term → Row → Row → Bool
pass tests given r = list_all (holds (given ∷ r ∷ [])) tests

-- these are what is shown of the stored rows that pass
pub record AreFound (tests shown : List Term) (stored : List Row) (given : Row) (found : List Row) : Type 0 where
  pub sound : (x : Row) → Has found x → (r : Row) × Has stored r × (pass tests given r ≡ true) × (x ≡ eval_all shown (given ∷ r ∷ []))
  pub complete : (r : Row) → Has stored r → pass tests given r ≡ true → Has found (eval_all shown (given ∷ r ∷ []))

has_matched : {X Y : Type 0} (p : X → Bool) (f : X → Y) (xs : List X) (y : Y) → Has (flat_map (λ x. cond (p x) (f x ∷ []) []) xs) y → (x : X) × Has xs x × (p x ≡ true) × (y ≡ f x)
has_matched p f [] y h = absurd h
has_matched {X} {Y} p f (x ∷ xs) y h = go (p x) refl h (has_matched p f xs y)
  where
    go : (b : Bool) → p x ≡ b → Has (cond b (f x ∷ []) [] ++ flat_map (λ z. cond (p z) (f z ∷ []) []) xs) y
        → (Has (flat_map (λ z. cond (p z) (f z ∷ []) []) xs) y → (z : X) × Has xs z × (p z ≡ true) × (y ≡ f z)) → (z : X) × Has (x ∷ xs) z × (p z ≡ true) × (y ≡ f z)
    go true is (inl same) later = (x, inl refl, is, same)
    go true is (inr there) later = let r = later there in (r.0, inr r.1, r.2, r.3)
    go false is there later = let r = later there in (r.0, inr r.1, r.2, r.3)

matched_has : {X Y : Type 0} (p : X → Bool) (f : X → Y) (xs : List X) (x : X) → Has xs x → p x ≡ true → Has (flat_map (λ z. cond (p z) (f z ∷ []) []) xs) (f x)
matched_has p f [] x h passes = absurd h
matched_has p f (z ∷ xs) x (inl same) passes = rw (← same, passes) (inl refl)
matched_has p f (z ∷ xs) x (inr later) passes = has_right (cond (p z) (f z ∷ []) []) (flat_map (λ w. cond (p w) (f w ∷ []) []) xs) (f x) (matched_has p f xs x later passes)

pub found_rows : (tests shown : List Term) (trees : Trees) (given : Row) (found : List Row) → IsAnswer (plain_query tests shown) (overlay trees []) given found → AreFound tests shown (trees 0) given found
found_rows tests shown trees given found answer =
    let q = plain_query tests shown in
    let env = λ (r : Row). given ∷ r ∷ [] in
    let all = matches (overlay trees []) tests (inner 0 end) (given ∷ []) in
    let kept : answer.kept ≡ map (output q) all = answer.distinct ∙ ap (map (output q)) answer.grouped in
    record {
      sound = λ x h.
          let o = has_mapped (λ (k : Output). k.1) answer.ordered x (subst (λ l. Has l x) answer.shown h) in
          let e = has_mapped (output q) all o.0 (subst (λ l. Has l o.0) kept (permuted answer.kept answer.ordered o.0 answer.same o.1)) in
          let r = has_matched (pass tests given) env (trees 0) e.0 e.1 in
          (r.0, r.1, r.2, o.2 ∙ ap (λ (k : Output). k.1) (e.2 ∙ ap (output q) r.3));
      complete = λ r h passes.
          let o = output q (env r) in
          let there = subst (λ l. Has l o) (sym kept) (mapped_has (output q) all (env r) (matched_has (pass tests given) env (trees 0) r h passes)) in
          subst (λ l. Has l (eval_all shown (env r))) (sym answer.shown) (mapped_has (λ (k : Output). k.1) answer.ordered o (permuted answer.ordered answer.kept o (IsPermutation-sym _ _ answer.same) there));
    }

-- a row that is left has none of the numbers
pub left_lacks : (ids : List ℤ) (rows : List Row) (r : Row) → Has (without_all rows ids) r → (id : ℤ) → Has ids id → has_rowid id r ≡ false
left_lacks [] rows r h id none = absurd none
left_lacks (i ∷ ids) rows r h id (inr more) = left_lacks ids (without_rowid i rows) r h id more
left_lacks (i ∷ ids) rows r h id (inl same) = subst (λ j. has_rowid j r ≡ false) (sym same) (not-true _ (has_filtered (λ x. not (has_rowid i x)) rows r (was ids (without_rowid i rows) r h)).1)
  where
    was : (ids : List ℤ) (rows : List Row) (r : Row) → Has (without_all rows ids) r → Has rows r
    was [] rows r h = h
    was (j ∷ ids) rows r h = (has_filtered (λ x. not (has_rowid j x)) rows r (was ids (without_rowid j rows) r h)).0

-- a row is left, or is the one with some number
pub parted : (ids : List ℤ) (rows : List Row) (r : Row) → IsTable rows → Has rows r → Has (without_all rows ids) r ⊎ ((id : ℤ) × Has ids id × (r ≡ row_at rows id))
parted ids rows r up h = elim (left_or_taken rows ids r up h) [ inl left ↦ inl left | inr taken ↦ inr (has_mapped (row_at rows) ids r taken) ]

-- numbers rise still
pub without_shaped : (ids : List ℤ) (rows : List Row) → IsShaped Table rows → IsShaped Table (without_all rows ids)
without_shaped [] rows h = h
without_shaped (id ∷ ids) rows h = without_shaped ids (without_rowid id rows) (IsShaped-filter Table (λ r. not (has_rowid id r)) rows h)

pub put_shaped : (news rows : List Row) → ((n : Row) → Has news n → is_int (rowid n) ≡ true) → IsShaped Table rows → IsShaped Table (put_all rows news)
put_shaped [] rows keyed h = h
put_shaped (n ∷ news) rows keyed h = put_shaped news _ (λ m k. keyed m (inr k)) (IsShaped-put_row n rows (keyed n (inl refl)) h)
