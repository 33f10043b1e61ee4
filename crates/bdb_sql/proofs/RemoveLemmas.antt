-- What the text that takes a row away makes of the table.
use Rattle.std.proofs.Common.{◌≡◌, ◌⊎◌, inl, inr, ℕ, pos, List, [], ◌∷◌, None, true, Ok, Err, Result, refl, sym, ap, subst, ◌∙◌}
use Rattle.std.proofs.lemmas.Bool.{both_ways}
use Rattle.sqlite_value.specs.declared.value.Value.TheVariants.{Null, Int, Blob}
use Rattle.sqlite_value.specs.Order.{Row}
use Rattle.sqlite_sql.specs.Term.{col}
use Rattle.sqlite_trees.specs.declared.store.Shape.TheVariants.{Table}
use Rattle.sqlite_trees.specs.Tree.{rowid, has_rowid}
use Rattle.sqlite_trees.specs.View.{IsShaped}
use Rattle.sqlite_schema.specs.declared.command.Command.TheVariants.{Delete}
use Rattle.sqlite_schema.specs.declared.schema.Schema.{Schema}
use Rattle.sqlite_rules.specs.Lists.{Has}
use Rattle.sqlite_rules.specs.declared.error.Rowids.TheVariants.{Given}
use Rattle.sqlite_rules.specs.Edit.{edit_of, id_in, without_all}
use Rattle.sqlite_rules.specs.Calls.{ids_of}
use Rattle.sqlite_rules.proofs.ProbeLemmas.{has_mapped, mapped_has}
use Rattle.sqlite_rules.proofs.TableLemmas.{without_all_has}
use Rattle.sqlite_rules.proofs.PlaceLemmas.{row_at_is}
use Rattle.std.proofs.lemmas.Bool.{and_parts}
use Rattle.sqlite.specs.Does.{Tally, Does}
use Rattle.sqlite.specs.Rows.{Written}
use Rattle.sqlite.specs.Effect.{Database}
use Rattle.sqlite.specs.Listing.{understood}
use Rattle.sqlite.specs.State.{State, mode_of, Executes}
use Rattle.sqlite.proofs.Callers.{statement_of, runs_as, one_step}
use Rattle.bdb_sql.specs.Kept.{kept_table, kept_schema}
use Rattle.bdb_sql.specs.Changes.{IsRowAt, IsRowGone}
use Rattle.bdb_sql.specs.Tied.{HoldsTable}
use Rattle.bdb_sql.proofs.TextLemmas.{remove_text, remove_query, place_terms, remove_is, remove_plain}
use Rattle.bdb_sql.proofs.FindLemmas.{AreFound, pass, found_rows, left_lacks, parted, without_shaped}
use Rattle.bdb_sql.proofs.KeyLemmas.{stored, same_key, key_same, both_true, own_number}

-- a part that gave a value did not stop on the way
pub went : {B E R : Type 0} {b : B} {Stops : E → Type 0} → ((stop : E) × Stops stop × (Ok b ≡ Err stop)) ⊎ R → R
went (inl stopped) = absurd (let e = stopped.2 in cc)
went (inr on) = on

pub same_value : {B E : Type 0} {a b : B} → ◌≡◌ {A = Result B E} (Ok a) (Ok b) → a ≡ b
same_value e = cc

module _ (old new : State) (tab : ℕ) (key : List ℕ) (holds : HoldsTable old) where
  abbrev rows : List Row
  rows = old.now.trees 0

  abbrev params : Row
  params = Int (pos tab) ∷ Blob key ∷ []

  abbrev Finds : List Row → Type 0
  Finds found = AreFound place_terms (col 1 0 ∷ []) rows params found

  passes : (r : Row) → IsRowAt tab key r → pass place_terms params r ≡ true
  passes r at = let e = key_same r tab key at in both_true _ _ e.0 e.1

  stands : (r : Row) → Has rows r → pass place_terms params r ≡ true → IsRowAt tab key r
  stands r there passed =
      let p = and_parts _ _ passed in
      same_key r tab key (stored old holds r there) p.0 (and_parts _ _ p.1).0

  -- what is left where the rows that were found are taken out
  pub gone_from : (found : List Row) → Finds found → IsRowGone tab key rows (without_all rows (ids_of found))
  gone_from found answer =
      let ids = ids_of found in
      record {
        only = λ r left. (
          without_all_has ids rows r left,
          λ at.
              let there = without_all_has ids rows r left in
              let id = mapped_has (λ x. id_in (rowid x)) found (rowid r ∷ []) (answer.complete r there (passes r at)) in
              both_ways _ (left_lacks ids rows r left (id_in (rowid r)) id) (own_number r (stored old holds r there)),
        );
        kept = λ r there apart. elim (parted ids rows r holds.shaped.0 there) [
          | inl left ↦ left
          | inr taken ↦ absurd (
              let x = has_mapped (λ x. id_in (rowid x)) found taken.0 taken.1 in
              let q = answer.sound x.0 x.1 in
              let id : taken.0 ≡ id_in (rowid q.0) = x.2 ∙ ap (λ y. id_in (rowid y)) q.3 in
              let is = row_at_is rows taken.0 q.0 holds.shaped.0 q.1 (subst (λ i. has_rowid i q.0 ≡ true) (sym id) (own_number q.0 (stored old holds q.0 q.1))) in
              apart (subst (IsRowAt tab key) (sym (taken.2 ∙ is)) (stands q.0 q.1 q.2)))
        ];
      }

  pub removes : (count : ℕ) → Executes remove_text params old new (Ok count) → IsRowGone tab key rows (new.now.trees 0) × HoldsTable new
  removes count ran =
      let db = old.now.trees in
      let command = Delete 0 (record { lets = []; body = remove_query }) in
      let w = runs_as remove_text params old new kept_schema holds.schema command remove_is remove_plain count ran in
      let text = statement_of remove_text (understood kept_schema remove_text) in
      let done = went (subst (λ (s : Schema). Does old.step_limit (mode_of old) params (record old.now { schema = s }) text None command (Ok (w.tally, new.now))) holds.schema w.changed) in
      let now = ap (λ (p : Tally × Database). p.1) (same_value (went (went done.2).2).2) in
      let found = went done.1 in
      let edited = went found.2 in
      let answer : Finds found.0 = found_rows place_terms (col 1 0 ∷ []) db params found.0 (found.1.answer Null) in
      let applies = one_step kept_schema _ db edited.0 (edit_of db kept_table (ids_of found.0) Given 0 []) refl edited.1 in
      let is : new.now.trees 0 ≡ without_all rows (ids_of found.0) =
      ap (λ (d : Database). d.trees 0) now ∙ ap (λ (it : Written). it.trees 0) (same_value edited.2) ∙ applies.rows in (
        subst (IsRowGone tab key rows) (sym is) (gone_from found.0 answer),
        record { schema = ap (λ (d : Database). d.schema) now; sound = w.sound; shaped = subst (IsShaped Table) (sym is) (without_shaped (ids_of found.0) rows holds.shaped) },
      )
