-- What the text that puts a row makes of the table.
use Rattle.std.proofs.Common.{◌≡◌, inl, inr, ℕ, pos, ℤ, List, [], ◌∷◌, ◌++◌, map, drop, None, Some, Option, Bool, true, false, ◌&&◌, ◌||◌, cond, Ok, refl, sym, ap, subst, ◌∙◌}
use Rattle.std.proofs.lemmas.Bool.{both_ways, and_parts}
use Rattle.sqlite_value.specs.declared.value.Value.{Value}
use Rattle.sqlite_value.specs.declared.value.Value.TheVariants.{Null, Int, Blob}
use Rattle.sqlite_value.specs.declared.keys.Collation.TheVariants.{Binary}
use Rattle.sqlite_value.specs.Order.{Row, column}
use Rattle.sqlite_value.specs.Keys.{first_key}
use Rattle.sqlite_sql.specs.Term.{Term, col, op2}
use Rattle.sqlite_sql.specs.declared.ops.BinaryOp.TheVariants.{Compare}
use Rattle.sqlite_sql.specs.declared.ops.CompareOp.TheVariants.{Eq}
use Rattle.sqlite_sql.specs.Ops.{unary, is_null}
use Rattle.sqlite_trees.specs.declared.store.Shape.TheVariants.{Table}
use Rattle.sqlite_trees.specs.Tree.{Trees, rowid, has_rowid}
use Rattle.sqlite_trees.specs.View.{IsShaped, is_int}
use Rattle.sqlite_trees.proofs.TreeLemmas.{IsShaped-put_row}
use Rattle.sqlite_schema.specs.declared.command.Command.TheVariants.{InsertOr}
use Rattle.sqlite_schema.specs.declared.command.Source.TheVariants.{Values}
use Rattle.sqlite_schema.specs.declared.command.Conflict.TheVariants.{Abort}
use Rattle.sqlite_schema.specs.declared.schema.Schema.{Schema}
use Rattle.sqlite_schema.specs.declared.schema.Kind.TheVariants.{Integer}
use Rattle.sqlite_schema.specs.declared.schema.Keys.TheVariants.{Enforced}
use Rattle.sqlite_schema.specs.Rules.{equal}
use Rattle.sqlite_rules.specs.Lists.{Has}
use Rattle.sqlite_rules.specs.declared.error.Refusal.{Refusal}
use Rattle.sqlite_rules.specs.declared.error.Rowids.TheVariants.{Chosen, Given}
use Rattle.sqlite_rules.specs.Cast.{cast, cast_row}
use Rattle.sqlite_rules.specs.Keys.{conflicts, AreConflicts}
use Rattle.sqlite_rules.specs.Edit.{edit_of, id_in, next_rowid, with_rowid, without_all, put_all, are_fresh, row_at}
use Rattle.sqlite_rules.specs.Calls.{ids_of}
use Rattle.sqlite_rules.proofs.ListLemmas.{test_has}
use Rattle.sqlite_rules.proofs.ProbeLemmas.{has_mapped, mapped_has}
use Rattle.sqlite_rules.proofs.TableLemmas.{put_all_has, put_all_keeps, put_all_adds, without_all_has}
use Rattle.sqlite_rules.proofs.PlaceLemmas.{row_at_is, tied_same, given}
use Rattle.sqlite.specs.Does.{Tally, Does}
use Rattle.sqlite.specs.Rows.{Task, Written, Puts, Clears, Updates, Meets, Upserts, Judged, Tries, TriesEach, shown, nothing, joined, Gives, count_of}
use Rattle.sqlite.specs.Effect.{Database}
use Rattle.sqlite.specs.Listing.{understood}
use Rattle.sqlite.specs.State.{State, mode_of, Executes}
use Rattle.sqlite.proofs.Callers.{statement_of, runs_as, one_step}
use Rattle.bdb_sql.specs.Kept.{kept_table, kept_schema}
use Rattle.bdb_sql.specs.Rows.{entry}
use Rattle.bdb_sql.specs.Changes.{IsRowAt, IsPut, filed}
use Rattle.bdb_sql.specs.Tied.{HoldsTable}
use Rattle.bdb_sql.proofs.TextLemmas.{put_text, put_terms, put_clauses, put_clause, change_query, put_is, put_plain}
use Rattle.bdb_sql.proofs.FindLemmas.{AreFound, found_rows, left_lacks, parted, without_shaped, put_shaped}
use Rattle.bdb_sql.proofs.KeyLemmas.{IsStored, stored, same_key, key_same, both_true, own_number, number_is, once_at, equal_tied, equal_same}
use Rattle.bdb_sql.proofs.RemoveLemmas.{went, same_value}

either : (b : Bool) (x : Value) → cond b x x ≡ x
either true x = refl
either false x = refl

cast_null : cast Integer Null ≡ Null
unfolding unary
cast_null = either _ Null

cast_int : (n : ℤ) → cast Integer (Int n) ≡ Int n
unfolding unary
cast_int n = either _ (Int n)

or_first : (b : Bool) → (b || false) ≡ true → b ≡ true
or_first true h = refl
or_first false h = h

own_pass_by : (v : Value) → is_null v ≡ false → (equal Binary v v && true) ≡ true
own_pass_by v there = ap (λ b. b && true) (equal_same v there)

abbrev change_tests : List Term
change_tests = op2 (Compare Eq Binary) (col 1 0) (col 0 3) ∷ []

abbrev change_shown : List Term
change_shown = col 1 0 ∷ col 1 0 ∷ col 1 1 ∷ col 1 2 ∷ col 0 7 ∷ []

module _ (old new : State) (tab : ℕ) (key content : List ℕ) (holds : HoldsTable old) where
  abbrev rows : List Row
  rows = old.now.trees 0

  abbrev params : Row
  params = Int (pos tab) ∷ Blob key ∷ Blob content ∷ []

  abbrev task : Task
  task = record { limit = old.step_limit; keys = Enforced; schema = kept_schema; table = kept_table; params = params }

  abbrev new_row : ℤ → Row
  new_row id = Int id ∷ filed tab key content

  cast_new : (id : ℤ) → cast_row kept_table (new_row id) ≡ new_row id
  cast_new id = λ i. cast_int id i ∷ cast_int (pos tab) i ∷ Blob key ∷ Blob content ∷ []

  abbrev Put : Written → Type 0
  Put one = IsPut tab key content rows (one.trees 0) × IsShaped Table (one.trees 0)

  -- a row that was not there
  new_put : (id : ℤ) (one : Written) → ((r : Row) → Has rows r → ¬ IsRowAt tab key r) → Puts task (new_row id) old.now.trees (Ok one) → Put one
  new_put id one none puts =
      let db = old.now.trees in
      let edited = went puts in
      let edit = edit_of db kept_table [] Given 0 (new_row id ∷ []) in
      let news : edit.news ≡ new_row id ∷ [] = ap (λ r. r ∷ []) (cast_new id) in
      let applies = one_step kept_schema Enforced db edited.0 edit refl edited.1 in
      let is : one.trees 0 ≡ put_all rows (new_row id ∷ []) = ap (λ (w : Written). w.trees 0) (same_value edited.2) ∙ applies.rows ∙ ap (put_all rows) news in
      let fresh : are_fresh rows (new_row id ∷ []) ≡ true = subst (λ l. are_fresh rows l ≡ true) news applies.fresh in (
        record {
          there = (new_row id, subst (λ l. Has l (new_row id)) (sym is) (put_all_adds (new_row id ∷ []) rows (new_row id) fresh (inl refl)), refl);
          only = λ r h. elim (put_all_has (new_row id ∷ []) rows r (subst (λ l. Has l r) is h)) [
            | inl (inl same) ↦ inl (ap entry same)
            | inl (inr never) ↦ absurd never
            | inr was ↦ inr (was, none r was)
          ];
          kept = λ r h apart. subst (λ l. Has l r) (sym is) (put_all_keeps (new_row id ∷ []) rows r fresh h);
        },
        subst (IsShaped Table) (sym is) (IsShaped-put_row (new_row id) rows refl holds.shaped),
      )

  module _ (r0 : Row) (there : Has rows r0) (at : IsRowAt tab key r0) where
    it : IsStored r0
    it = stored old holds r0 there

    abbrev given_row : ℤ → Row
    given_row id = params ++ rowid r0 ∷ shown kept_table (new_row id)

    abbrev changed : Row
    changed = Int it.id ∷ new_row it.id

    abbrev casted : Row → Row
    casted s = cast_row kept_table (drop 1 s)

    abbrev Finds : ℤ → List Row → Type 0
    Finds id found = AreFound change_tests change_shown rows (given_row id) found

    abbrev eval_of : Row → Row
    eval_of r = rowid r ∷ rowid r ∷ column r 1 ∷ column r 2 ∷ Blob content ∷ []

    shown_is : eval_of r0 ≡ changed
    shown_is = λ i. number_is r0 it i ∷ number_is r0 it i ∷ at.0 i ∷ at.1 i ∷ Blob content ∷ []

    each_is : (id : ℤ) (found : List Row) → Finds id found → (x : Row) → Has found x → x ≡ changed
    each_is id found answer x h =
        let q = answer.sound x h in
        let tie = equal_tied (rowid q.0) (rowid r0) (and_parts _ _ q.2).0 in
        let same = tied_same rows q.0 r0 holds.shaped.0 q.1 there tie in
        q.3 ∙ ap eval_of same ∙ shown_is

    some_is : (id : ℤ) (found : List Row) → Finds id found → Has found changed
    some_is id found answer = subst (Has found) shown_is (answer.complete r0 there (own_pass_by (rowid r0) (subst (λ v. is_null v ≡ false) (sym (number_is r0 it)) refl)))

    -- the row that was there is changed
    over_put : (id : ℤ) (one : Written) → Updates task (record { lets = []; body = change_query }) (given_row id) old.now.trees (Ok one) → Put one
    over_put id one updates =
        let db = old.now.trees in
        let found = went updates in
        let answer : Finds id found.0 = found_rows change_tests change_shown db (given_row id) found.0 (found.1.answer Null) in
        let ids = ids_of found.0 in
        let edit = edit_of db kept_table ids Given 1 found.0 in
        let edited = went found.2 in
        let applies = one_step kept_schema Enforced db edited.0 edit refl edited.1 in
        let left = without_all rows ids in
        let is : one.trees 0 ≡ put_all left edit.news = ap (λ (w : Written). w.trees 0) (same_value edited.2) ∙ applies.rows in
        let news : edit.news ≡ map casted found.0 = given left (map casted found.0) in
        let only_new : (n : Row) → Has edit.news n → n ≡ new_row it.id = λ n h.
        let x = has_mapped casted found.0 n (subst (λ l. Has l n) news h) in
        x.2 ∙ ap casted (each_is id found.0 answer x.0 x.1) ∙ cast_new it.id in
        let has_new : Has edit.news (new_row it.id) =
        subst (λ l. Has l (new_row it.id)) (sym news) (subst (Has (map casted found.0)) (cast_new it.id) (mapped_has casted found.0 changed (some_is id found.0 answer))) in
        let number : (i : ℤ) → Has ids i → i ≡ it.id = λ i h. let x = has_mapped (λ y. id_in (rowid y)) found.0 i h in x.2 ∙ ap (λ y. id_in (rowid y)) (each_is id found.0 answer x.0 x.1) in
        let has_number : Has ids it.id = mapped_has (λ y. id_in (rowid y)) found.0 changed (some_is id found.0 answer) in
        let own : has_rowid it.id r0 ≡ true = subst (λ v. has_rowid (id_in v) r0 ≡ true) (number_is r0 it) (own_number r0 it) in (
          record {
            there = (new_row it.id, subst (λ l. Has l (new_row it.id)) (sym is) (put_all_adds edit.news left (new_row it.id) applies.fresh has_new), refl);
            only = λ r h. elim (put_all_has edit.news left r (subst (λ l. Has l r) is h)) [
              | inl n ↦ inl (ap entry (only_new r n))
              | inr l ↦ let was = without_all_has ids rows r l in
                  inr (was, λ here. both_ways _ (left_lacks ids rows r l it.id has_number) (subst (λ x. has_rowid it.id x ≡ true) (once_at old holds tab key r0 r there was at here) own))
            ];
            kept = λ r h apart. elim (parted ids rows r holds.shaped.0 h) [
              | inl l ↦ subst (λ x. Has x r) (sym is) (put_all_keeps edit.news left r applies.fresh l)
              | inr taken ↦ absurd (apart (subst (IsRowAt tab key) (sym (taken.2 ∙ ap (row_at rows) (number taken.0 taken.1) ∙ row_at_is rows it.id r0 holds.shaped.0 there own)) at))
            ];
          },
          subst (IsShaped Table) (sym is) (put_shaped edit.news left (λ n h. test_has (λ r. is_int (rowid r)) edit.news n applies.keyed h) (without_shaped ids rows holds.shaped)),
        )

  conflict_is : (id : ℤ) (r : Row) → conflicts (Some (1 ∷ 2 ∷ [])) kept_schema.indexes kept_table (new_row id) r
      ≡ ((equal Binary (column r 1) (Int (pos tab)) && (equal Binary (column r 2) (Blob key) && true)) || false)
  unfolding first_key
  conflict_is id r = refl

  meets : (id : ℤ) (r : Row) → IsRowAt tab key r → conflicts (Some (1 ∷ 2 ∷ [])) kept_schema.indexes kept_table (new_row id) r ≡ true
  meets id r at = let e = key_same r tab key at in conflict_is id r ∙ ap (λ b. b || false) (both_true _ _ e.0 e.1)

  met : (id : ℤ) (r : Row) → Has rows r → conflicts (Some (1 ∷ 2 ∷ [])) kept_schema.indexes kept_table (new_row id) r ≡ true → IsRowAt tab key r
  met id r there h =
      let b = equal Binary (column r 2) (Blob key) in
      let p = and_parts (equal Binary (column r 1) (Int (pos tab))) (b && true) (or_first _ (sym (conflict_is id r) ∙ h)) in
      same_key r tab key (stored old holds r there) p.0 (and_parts b true p.1).0

  cleared : (id : ℤ) (found : List Row) (one : Written) → Clears task Abort (new_row id) old.now.trees found (Ok one) → Puts task (new_row id) old.now.trees (Ok one)
  cleared id [] one h = h
  cleared id (x ∷ found) one h = h

  by_found : (id : ℤ) (found : List Row) (one : Written) → AreConflicts (Some (1 ∷ 2 ∷ [])) kept_schema.indexes kept_table rows (new_row id) found
      → Meets task (Upserts task Abort (new_row id) old.now.trees []) (new_row id) old.now.trees put_clause found (Ok one) → Put one
  by_found id [] one conflict h = new_put id one (λ r there at. conflict.complete r there (meets id r at)) (cleared id h.0 one h.2)
  by_found id (x ∷ found) one conflict h =
      let r = conflict.sound x (inl refl) in
      over_put r.0 r.1 (met id r.0 r.1 r.2) id one
      (subst (λ y. Updates task (record { lets = []; body = change_query }) (params ++ rowid y ∷ shown kept_table (new_row id)) old.now.trees (Ok one)) r.3 h)

  by_verdict : (id : ℤ) (verdict : Option Refusal) (one : Written) → Judged task Abort put_clauses (new_row id) old.now.trees verdict (Ok one) → Put one
  by_verdict id None one h = by_found id h.0 one h.1 h.2
  by_verdict id (Some why) one h = absurd (let e = h in cc)

  tried : (id : ℤ) (one : Written) → Tries task Abort put_clauses (new_row id) old.now.trees (Ok one) → Put one
  tried id one (inl unfit) = absurd (let e = unfit.1 in cc)
  tried id one (inr judged) = by_verdict id judged.0 one judged.2

  abbrev source : Row
  source = Null ∷ filed tab key content

  numbered_new : with_rowid Chosen rows (cast_row kept_table source) ≡ new_row (next_rowid rows)
  numbered_new = λ i. with_rowid Chosen rows (cast_null i ∷ cast_int (pos tab) i ∷ Blob key ∷ Blob content ∷ [])

  -- what the last step wrote is what the transaction sees
  ends_as : (db : Trees) (d : Database) (done : Written) (last : Trees) (made : Written × ℤ) (one : Written) (top : ℤ) → d ≡ record { schema = kept_schema; trees = done.trees }
      → Gives {A = Written} (record made.0 { trees = last }) (Ok done) → Gives made.0.trees (Ok last) → Gives {A = Written × ℤ} (joined (nothing db) one, top) (Ok made) → d.trees 0 ≡ one.trees 0
  ends_as db d done last made one top a b c e =
      ap (λ (x : Database). x.trees 0) a ∙ ap (λ (x : Written). x.trees 0) (same_value b) ∙ ap (λ (t : Trees). t 0) (same_value c) ∙ ap (λ (p : Written × ℤ). p.0.trees 0) (same_value e)

  pub puts : (count : ℕ) → Executes put_text params old new (Ok count) → IsPut tab key content rows (new.now.trees 0) × HoldsTable new
  puts count ran =
      let db = old.now.trees in
      let command = InsertOr 0 Abort (Values put_terms 4) put_clauses in
      let w = runs_as put_text params old new kept_schema holds.schema command put_is put_plain count ran in
      let text = statement_of put_text (understood kept_schema put_text) in
      let done = went (subst (λ (s : Schema). Does old.step_limit (mode_of old) params (record old.now { schema = s }) text None command (Ok (w.tally, new.now))) holds.schema w.changed) in
      let now = ap (λ (p : Tally × Database). p.1) (same_value (went (went done.2).2).2) in
      let read = went done.1 in
      let counter = went read.2 in
      let all = went counter.2 in
      let last = went all.2 in
      let each = went (subst (λ sources. TriesEach task Abort put_clauses sources (count_of counter.0) (nothing db) (Ok all.0)) read.1.1 all.1) in
      let put = tried (next_rowid rows) each.0 (subst (λ r. Tries task Abort put_clauses r db (Ok each.0)) numbered_new each.1) in
      let is : new.now.trees 0 ≡ each.0.trees 0 = ends_as db new.now done.0 last.0 all.0 each.0 _ now last.2 last.1 each.2 in (
        subst (IsPut tab key content rows) (sym is) put.0,
        record { schema = ap (λ (d : Database). d.schema) now; sound = w.sound; shaped = subst (IsShaped Table) (sym is) put.1 },
      )
