-- The rows that are shown are those of the table.
use Rattle.std.proofs.Common.{◌≡◌, inl, inr, List, [], ◌∷◌, map, flat_map, IsPermutation, refl, sym, ap, subst, ◌∙◌}
use Rattle.std.proofs.lemmas.List.Sorted.{IsPermutation-sym}
use Rattle.sqlite_value.specs.Order.{Row}
use Rattle.sqlite_value.specs.declared.value.Value.TheVariants.{Null}
use Rattle.sqlite_trees.specs.Tree.{Trees}
use Rattle.sqlite_trees.proofs.ListLemmas.{all-permutation}
use Rattle.sqlite_rules.specs.Lists.{Has}
use Rattle.sqlite_rules.proofs.ListLemmas.{all_has, all_from}
use Rattle.sqlite_rules.proofs.ProbeLemmas.{has_mapped, mapped_has}
use Rattle.sqlite_sql.specs.Term.{Env}
use Rattle.sqlite_sql.specs.Query.{Output, output, IsAnswer}
use Rattle.sqlite_sql.specs.Program.{overlay}
use Rattle.sqlite.specs.State.{State, Shown}
use Rattle.sqlite.proofs.Callers.{reads_as}
use Rattle.bdb_sql.specs.Kept.{kept_schema}
use Rattle.bdb_sql.specs.Rows.{entry}
use Rattle.bdb_sql.proofs.TextLemmas.{select_text, select_query, select_is, select_plain}

-- these are what is shown of these stored rows
pub record AreShown (stored rows : List Row) : Type 0 where
  pub sound : (x : Row) → Has rows x → (r : Row) × Has stored r × (x ≡ entry r)
  pub complete : (r : Row) → Has stored r → Has rows (entry r)

abbrev way : Row → Env
way r = [] ∷ r ∷ []

abbrev ways : List Row → List Env
ways = flat_map (λ r. way r ∷ [])

has_way : (rows : List Row) (e : Env) → Has (ways rows) e → (r : Row) × Has rows r × (e ≡ way r)
has_way [] e h = absurd h
has_way (r ∷ rows) e (inl same) = (r, inl refl, same)
has_way (r ∷ rows) e (inr later) = let w = has_way rows e later in (w.0, inr w.1, w.2)

way_has : (rows : List Row) (r : Row) → Has rows r → Has (ways rows) (way r)
way_has [] r h = absurd h
way_has (q ∷ rows) r (inl same) = inl (ap way same)
way_has (q ∷ rows) r (inr later) = inr (way_has rows r later)

pub permuted : {X : Type 0} (xs ys : List X) (x : X) → IsPermutation xs ys → Has ys x → Has xs x
permuted xs ys x same = all_has (Has xs) ys x (all-permutation (Has xs) xs ys same (all_from (Has xs) xs (λ e h. h)))

answer_shows : (trees : Trees) (rows : List Row) → IsAnswer select_query (overlay trees []) [] rows → AreShown (trees 0) rows
answer_shows trees rows answer =
    let kept : answer.kept ≡ map (output select_query) (ways (trees 0)) = answer.distinct ∙ ap (map (output select_query)) answer.grouped in
    record {
      sound = λ x h.
          let o = has_mapped (λ (k : Output). k.1) answer.ordered x (subst (λ l. Has l x) answer.shown h) in
          let e = has_mapped (output select_query) (ways (trees 0)) o.0 (subst (λ l. Has l o.0) kept (permuted answer.kept answer.ordered o.0 answer.same o.1)) in
          let r = has_way (trees 0) e.0 e.1 in
          (r.0, r.1, o.2 ∙ ap (λ (k : Output). k.1) (e.2 ∙ ap (output select_query) r.2));
      complete = λ r h.
          let o = output select_query (way r) in
          let there = subst (λ l. Has l o) (sym kept) (mapped_has (output select_query) (ways (trees 0)) (way r) (way_has (trees 0) r h)) in
          subst (λ l. Has l (entry r)) (sym answer.shown) (mapped_has (λ (k : Output). k.1) answer.ordered o (permuted answer.ordered answer.kept o (IsPermutation-sym _ _ answer.same) there));
    }

-- what is shown of the table is all its rows
pub shows_all : (old new : State) (rows : List Row) → old.now.schema ≡ kept_schema → Shown select_text [] old new rows → AreShown (old.now.trees 0) rows
shows_all old new rows has shown = answer_shows old.now.trees rows ((reads_as select_text [] old new kept_schema has _ select_is.0 select_plain select_is.1 rows shown).answer Null)
