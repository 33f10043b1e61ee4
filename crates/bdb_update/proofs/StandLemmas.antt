-- The statements at a path, by the rows of its world.
use Rattle.std.proofs.Common.{◌≡◌, ◌∙◌, ℕ, Bool, true, false, ◌&&◌, ◌||◌, List, [], ◌∷◌, refl, ap, sym, subst, inl, inr, Option, Some, None}
use Rattle.std.specs.List.{list_any, AllByRecursion}
use Rattle.std.specs.Ordering.{is_eq}
use Rattle.std.proofs.lemmas.Bool.{cases_Bool, and_parts, and_from, or_cases, or_left, or_right, cond-true, cond-false, false≢true}
use Rattle.std.proofs.lemmas.List.Folds.{list_any-append}
use Rattle.bdb_base.specs.Bases.{Contents, is_user, stands}
use Rattle.bdb_base.specs.Changes.{with_statements}
use Rattle.bdb_base.specs.Order.{statement_cmp}
use Rattle.bdb_base.specs.OrderLemmas.{statement_exact}
use Rattle.bdb_base.specs.Same.{same_path}
use Rattle.bdb_base.specs.SameLemmas.{same_path-Decides}
use Rattle.bdb_base.specs.SortedSet.{ascending}
use Rattle.bdb_base.specs.Worlds.{explicit, IsConsistent}
use Rattle.bdb_base.specs.declared.kinds.Sign.{Sign}
use Rattle.bdb_base.specs.declared.kinds.Stmt.{Stmt}
use Rattle.bdb_base.specs.declared.tuple.Tuple.{Tuple}
use Rattle.bdb_base.proofs.SetLemmas.{members_make_set, filter_keeps_order, is_eq-Equal, is_eq_itself}
use Rattle.bdb_base.proofs.UpdateLemmas.{list_any-with, with_keeps_order}
use Rattle.bdb_base.proofs.WorldLemmas.{explicit_tuple, valid_is_consistent, stands_is_explicit}
use Rattle.bdb_base.proofs.OptionLemmas.{some_of}
use Rattle.bdb_base.proofs.FindLemmas.{list_any-filter}
use Rattle.bdb_base.proofs.ListLemmas.{list_any_same}
use Rattle.bdb_base.proofs.BoolLemmas.{same_tests}
use Rattle.bdb_keep.specs.Tables.{Tables}
use Rattle.bdb_key.specs.Grammar.{IsNum}
use Rattle.bdb_tables.specs.InUse.{ValKey}
use Rattle.bdb_tables.specs.Marks.{Mark, explicit_of, explicit_sign}
use Rattle.bdb_tables.specs.Names.{Names, path_of, number_of}
use Rattle.bdb_tables.specs.Rows.{Tuples, row_for}
use Rattle.bdb_val.specs.Middle.{worlds_of, HasExplicit}
use Rattle.bdb_val.specs.Reads.{AreReadUnder, IsSpan, world_prefix}
use Rattle.bdb_val.specs.Settling.{mark_in, AreNamed}
use Rattle.bdb_val.specs.declared.stored.StoredRow.{StoredRow}
use Rattle.bdb_val.proofs.HeldLemmas.{held_rows_are_explicit}
use Rattle.bdb_val.proofs.ReadLemmas.{read_named, read_mark, read_apart, world_span}
use Rattle.bdb_val.proofs.StepLemmas.{mark_of_each}
use Rattle.bdb_worlds.specs.Holding.{HoldSome}
use Rattle.bdb_worlds.specs.Reach.{ReachesState}
use Rattle.bdb_update.proofs.KeyLemmas.{lengths_fit}
use Rattle.bdb_update.specs.Keys.{keys_of}
use Rattle.bdb_update.specs.Reached.{HasState, SomeHasState, StandAt, at_path, said_of, said_at}
use Rattle.bdb_tables.specs.Stored.{Stores, StoredAs}
use Rattle.bdb_tables.proofs.SignLemmas.{sign_is_explicit, one_sign}
use Rattle.bdb_update.proofs.ExamineLemmas.{world_if_any}
use Rattle.bdb_update.proofs.MarkLemmas.{explicit_is, row_found, both}
use Rattle.bdb_update.proofs.OwnLemmas.{IsSaid}

-- ---- the rows of a world and the statements of its path

module _ (t : Tables) (b : Contents) (ns : Names) (ts : Tuples) (stored : StoredAs ns ts t b) (consistent : IsConsistent (keys_of b) b.stmts) (w : List ℕ) (wid : ℕ) (number : number_of ns w ≡ Some wid)
    (rows : List StoredRow) (read : AreReadUnder t (world_prefix wid) rows) where
  abbrev held : ValKey → Option Mark
  held = row_for (keys_of b) b.stmts (path_of ns) ts.tuple

  named : path_of ns wid ≡ Some w
  named = stored.states.names.numbered w wid number

  wid_fits : IsNum wid
  wid_fits = stored.states.names.sized w wid number

  has : HasExplicit (keys_of b) b.stmts (worlds_of ns) ts.tuple held t
  has = held_rows_are_explicit (keys_of b) b.stmts ns ts t (lengths_fit t b.catalog.rels stored.rels) stored.states.names (λ v e. stored.worlds v ∙ e) consistent stored.tuples stored.rows

  span : IsSpan (keys_of b) wid (λ _. true) (world_prefix wid)
  span = world_span (keys_of b) wid wid_fits

  tuples : AreNamed ts.tuple rows
  tuples = read_named (keys_of b) ts.tuple held t has.rows (world_prefix wid) rows read

  marks : AllByRecursion (λ r. mark_in rows r.tid ≡ Some r.mark) rows
  marks = mark_of_each rows rows (λ _ _ k. k) (read_apart (keys_of b) ts.tuple held t has.rows wid (λ _. true) (world_prefix wid) rows span read)

  mark : (tid : ℕ) (v : Tuple) → ts.tuple tid ≡ Some v → explicit_of (mark_in rows tid) ≡ explicit_sign b.stmts w v
  mark tid v n =
      ap explicit_of (read_mark (keys_of b) ts.tuple held t has.rows wid (λ _. true) (world_prefix wid) rows wid_fits span read tid v n refl)
      ∙ has.explicit wid w tid v named n

  -- each explicit row is a statement
  said : AllByRecursion (IsSaid b.stmts w) rows
  said = go rows tuples marks
    where
      go : (rs : List StoredRow) → AreNamed ts.tuple rs → AllByRecursion (λ r. mark_in rows r.tid ≡ Some r.mark) rs → AllByRecursion (IsSaid b.stmts w) rs
      go [] a m = tt
      go (r ∷ rs) a m = (
        (λ e. sign_is_explicit b.stmts w r.tuple r.mark.0
            (sym (mark r.tid r.tuple a.0) ∙ ap explicit_of m.0 ∙ cond-true r.mark.1 (Some r.mark.0) None e)),
        go rs a.1 m.1,
      )

  -- each statement of the path has an explicit row, of which holds what holds of all
  row_of : (Q : StoredRow → Type 0) → AllByRecursion Q rows → (v : Tuple) (s : Sign) → explicit b.stmts w v s ≡ true → (r : StoredRow) × (r.tuple ≡ v) × (r.mark ≡ (s, true)) × Q r
  row_of Q all v s e =
      let n = some_of (ts.number v) (stored.tuples.stated v ∙ explicit_tuple b.stmts w v s e) in
      let k = stored.tuples.numbered v n.0 n.1 in
      let m = explicit_is (mark_in rows n.0) s (mark n.0 v k ∙ one_sign (keys_of b) b.stmts w v s consistent e) in
      let r = row_found (λ q. (ts.tuple q.tid ≡ Some q.tuple) × Q q) rows n.0 (s, true) (both (λ q. ts.tuple q.tid ≡ Some q.tuple) Q rows tuples all) m in
      (r.0, same (ts.tuple n.0) (ap ts.tuple (sym r.1) ∙ r.3.0) k, r.2, r.3.1)
    where
      same : {x y : Tuple} (o : Option Tuple) → o ≡ Some x → o ≡ Some y → x ≡ y
      same o p q = cc

  -- the statement that a row is, if it is explicit
  abbrev made : StoredRow → Stmt
  made r = record { path = w; sign = r.mark.0; tuple = r.tuple }

  module _ (z : Stmt) where
    abbrev p : Stmt → Bool
    p y = is_eq (statement_cmp y z)

    -- a statement is among those that rows are only where it stands at the path
    one_said : (r : StoredRow) → IsSaid b.stmts w r → list_any p (said_of w r) ≡ true → (same_path z.path w && stands b.stmts z) ≡ true
    one_said r h e = elim (cases_Bool r.mark.1) [
      | inr f ↦ absurd (false≢true (sym (ap (list_any p) (cond-false r.mark.1 (made r ∷ []) [] f)) ∙ e))
      | inl f ↦
          let g : (p (made r) || false) ≡ true = sym (ap (list_any p) (cond-true r.mark.1 (made r ∷ []) [] f)) ∙ e in
          let same : made r ≡ z = statement_exact.exact (made r) z (is_eq-Equal (statement_cmp (made r) z) (only (p (made r)) g)) in
          subst (λ (y : Stmt). (same_path y.path w && stands b.stmts y) ≡ true) same
          (and_from (same_path w w) (stands b.stmts (made r)) ((same_path-Decides w w).1 refl) (stands_is_explicit b.stmts (made r) ∙ h f))
    ]
      where
        only : (a : Bool) → (a || false) ≡ true → a ≡ true
        only true e = refl
        only false e = e

    some_said : (rs : List StoredRow) → AllByRecursion (IsSaid b.stmts w) rs → list_any p (said_at w rs) ≡ true → (same_path z.path w && stands b.stmts z) ≡ true
    some_said [] a e = absurd (false≢true e)
    some_said (r ∷ rs) a e = elim (or_cases (list_any p (said_of w r)) (list_any p (said_at w rs)) (sym (list_any-append p (said_of w r) (said_at w rs)) ∙ e)) [
      | inl f ↦ one_said r a.0 f
      | inr f ↦ some_said rs a.1 f
    ]

    abbrev IsAmong : StoredRow → Type 0
    IsAmong r = list_any p (said_of w r) ≡ true → list_any p (said_at w rows) ≡ true

    each_among : (rs : List StoredRow) → (list_any p (said_at w rs) ≡ true → list_any p (said_at w rows) ≡ true) → AllByRecursion IsAmong rs
    each_among [] f = tt
    each_among (r ∷ rs) f = (
      (λ e. f (list_any-append p (said_of w r) (said_at w rs) ∙ or_left (list_any p (said_of w r)) (list_any p (said_at w rs)) e)),
      each_among rs (λ e. f (list_any-append p (said_of w r) (said_at w rs) ∙ or_right (list_any p (said_of w r)) (list_any p (said_at w rs)) e)),
    )

    -- and is where it stands there
    all_said : (same_path z.path w && stands b.stmts z) ≡ true → list_any p (said_at w rows) ≡ true
    all_said e =
        let k = and_parts (same_path z.path w) (stands b.stmts z) e in
        let here = (same_path-Decides z.path w).0 k.0 in
        let r = row_of IsAmong (each_among rows (λ h. h)) z.tuple z.sign (ap (λ v. explicit b.stmts v z.tuple z.sign) (sym here) ∙ sym (stands_is_explicit b.stmts z) ∙ k.1) in
        let m : r.0.mark.1 ≡ true = ap (λ (n : Mark). n.1) r.2 in
        let same : z ≡ made r.0 = built z (made r.0) here (sym r.1) (ap (λ (n : Mark). n.0) (sym r.2)) in
        r.3 (ap (list_any p) (cond-true r.0.mark.1 (made r.0 ∷ []) [] m) ∙ or_left (p (made r.0)) false (ap (λ (y : Stmt). is_eq (statement_cmp y z)) (sym same) ∙ is_eq_itself statement_exact z))
      where
        stmt : List ℕ → Sign → Tuple → Stmt
        stmt v g u = record { path = v; sign = g; tuple = u }

        built : (x y : Stmt) → x.path ≡ y.path → x.tuple ≡ y.tuple → x.sign ≡ y.sign → x ≡ y
        built x y e f g = ap (λ v. stmt v x.sign x.tuple) e ∙ ap (λ k. stmt y.path k x.tuple) g ∙ ap (λ u. stmt y.path y.sign u) f

    -- what stands among a path's statements
    stands_at : stands (at_path w b.stmts) z ≡ (same_path z.path w && stands b.stmts z)
    stands_at = list_any-filter p (λ y. same_path y.path w) b.stmts ∙ list_any_same (λ y. same_path y.path w && p y) (λ y. same_path z.path w && p y) swap b.stmts ∙ out (same_path z.path w) b.stmts
      where
        swap : (y : Stmt) → (same_path y.path w && p y) ≡ (same_path z.path w && p y)
        swap y = elim (cases_Bool (p y)) [
          | inl e ↦ ap (λ (x : Stmt). same_path x.path w && p y) (statement_exact.exact y z (is_eq-Equal (statement_cmp y z) e))
          | inr e ↦ ap (λ c. same_path y.path w && c) e ∙ never (same_path y.path w) (same_path z.path w) ∙ sym (ap (λ c. same_path z.path w && c) e)
        ]
          where
            never : (a c : Bool) → (a && false) ≡ (c && false)
            never true true = refl
            never true false = refl
            never false true = refl
            never false false = refl

        out : (a : Bool) (xs : List Stmt) → list_any (λ y. a && p y) xs ≡ (a && list_any p xs)
        out true xs = refl
        out false [] = refl
        out false (x ∷ xs) = out false xs

    both_stand : stands (with_statements [] (said_at w rows)) z ≡ stands (at_path w b.stmts) z
    both_stand = list_any-with p [] (said_at w rows) ∙ same_tests (list_any p (said_at w rows)) (same_path z.path w && stands b.stmts z) (some_said rows said) all_said ∙ sym stands_at

  pub read_are_stated : ascending statement_cmp b.stmts ≡ true → with_statements [] (said_at w rows) ≡ at_path w b.stmts
  read_are_stated s = members_make_set statement_exact (with_statements [] (said_at w rows)) (at_path w b.stmts) (with_keeps_order [] (said_at w rows) refl)
      (filter_keeps_order statement_exact (λ y. same_path y.path w) b.stmts s) both_stand

-- ---- what is read of a path

-- the number of a state
state_number : (t : Tables) (w : List ℕ) (len wid : ℕ) → ReachesState t w len wid → (b : Contents) → HasState t w b → (s : Stores t b) → number_of s.names w ≡ Some wid
state_number t w len wid reaches b h s =
    world_if_any t w len wid reaches (record { users = is_user b.catalog.users; names = s.names }) s.stored.states h.users (s.stored.worlds w ∙ h.state)

pub stand_at : (t u : Tables) (w : List ℕ) (len wid : ℕ) (rows : List StoredRow) (xs : List Stmt) → u ≡ t → ReachesState t w len wid → AreReadUnder u (world_prefix wid) rows
    → xs ≡ with_statements [] (said_at w rows) → StandAt t w xs
stand_at t u w len wid rows xs kept reaches read is b h =
    let s = h.stored in
    is ∙ read_are_stated t b s.names s.tuples s.stored (valid_is_consistent b.catalog b.stmts h.valid) w wid (state_number t w len wid reaches b h s) rows
    (subst (λ (v : Tables). AreReadUnder v (world_prefix wid) rows) kept read) h.valid.stmts.sorted

pub hold_some : (t : Tables) (w : List ℕ) → SomeHasState t w → HoldSome t w
hold_some t w s = record { worlds = record { users = is_user s.base.catalog.users; names = s.has.stored.names }; states = s.has.stored.stored.states; own = s.has.users }
