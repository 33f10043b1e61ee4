-- Where tables hold the rows of statements, each row has its place, and the explicit ones make these statements.
use Rattle.std.proofs.Common.{◌≡◌, ◌∙◌, ℕ, Bool, true, false, ◌||◌, nat_eq, List, [], ◌∷◌, Option, Some, is_some, refl, ap, sym, inl, inr}
use Rattle.std.proofs.lemmas.Bool.{cases_Bool, and_from, eq-eqb, false≢true}
use Rattle.bdb_base.specs.Clash.{key_of}
use Rattle.bdb_base.specs.Order.{statement_cmp}
use Rattle.bdb_base.specs.OrderLemmas.{statement_exact, is_eq_statement_cmp}
use Rattle.bdb_base.specs.Same.{same_statement, same_values}
use Rattle.bdb_base.specs.SameLemmas.{same_values-Decides}
use Rattle.bdb_base.specs.SortedSet.{ascending, is_member}
use Rattle.bdb_base.specs.States.{is_state}
use Rattle.bdb_base.specs.Worlds.{IsConsistent, explicit}
use Rattle.bdb_base.specs.declared.kinds.Sign.{Sign}
use Rattle.bdb_base.specs.declared.kinds.Stmt.{Stmt}
use Rattle.bdb_base.specs.declared.tuple.Tuple.{Tuple}
use Rattle.bdb_base.proofs.SetLemmas.{members_make_set}
use Rattle.bdb_base.proofs.WorldLemmas.{explicit_tuple, explicit_is_stated}
use Rattle.bdb_base.proofs.BoolLemmas.{same_tests}
use Rattle.bdb_base.proofs.OptionLemmas.{some_of, one_there}
use Rattle.bdb_catalog.proofs.ShowingLemmas.{nothing_explicit}
use Rattle.bdb_keep.specs.Tables.{Tables}
use Rattle.bdb_tables.specs.InUse.{ValKey, tuple_codec}
use Rattle.bdb_tables.specs.Marks.{Mark}
use Rattle.bdb_tables.specs.Names.{Names, is_named, number_of, path_of}
use Rattle.bdb_tables.specs.Rows.{AreKeyLengths, Tuples, HoldsRows, HoldsTuples}
use Rattle.bdb_tables.proofs.WriteLemmas.{gives_same}
use Rattle.bdb_tables.proofs.MarkLemmas.{mark_is}
use Rattle.bdb_val.specs.Reads.{HasRows}
use Rattle.bdb_val.specs.Settled.{HasStates}
use Rattle.bdb_val.proofs.HeldLemmas.{held, held_names, held_rows_are_explicit, right_row}
use Rattle.bdb_val.proofs.ReadLemmas.{key_fits}
use Rattle.bdb_val.proofs.WorldLemmas.{mark_has, mark_tells}
use Rattle.bdb_decode.specs.Explicit.{AreMisplaced, AreStated, Paths, TupleRows, is_placed, is_placed_by}
use Rattle.bdb_decode.specs.ExplicitLaws.{AreNamedWorlds, HaveNumbers, HeldRowsHavePlaces, HeldRowsMakeStatements}
use Rattle.bdb_decode.specs.Items.{item_of}
use Rattle.bdb_decode.proofs.OnceLemmas.{stated_ascend}
use Rattle.bdb_decode.proofs.SaidLemmas.{given_stated, stated_given}

member_is_explicit : (zs : List Stmt) (x : Stmt) → is_member statement_cmp zs x ≡ explicit zs x.path x.tuple x.sign
member_is_explicit [] x = refl
member_is_explicit (z ∷ zs) x =
    ap (λ b. b || is_member statement_cmp zs x) (is_eq_statement_cmp z x) ∙ ap (λ b. same_statement z x || b) (member_is_explicit zs x)

module _ (keys : ℕ → ℕ) (stmts : List Stmt) (ns : Names) (ts : Tuples) (t : Tables) (worlds : Paths) (tuples : TupleRows)
    (paths : (n : ℕ) → path_of ns n ≡ item_of worlds n) (named : (n : ℕ) → ts.tuple n ≡ item_of tuples n) (h : HoldsTuples stmts ts t) where
  held_is_placed : (k : ValKey) (m : Mark) → held keys stmts stmts ns ts t h k ≡ Some m → is_placed keys worlds tuples (k, m) ≡ true
  held_is_placed k m e =
      let n = held_names keys stmts stmts ns ts t h k (ap is_some e) in
      let w = some_of (path_of ns k.0) n.0 in
      let u = n.1.0 in
      ap (λ p. is_placed_by keys p (item_of tuples k.3) (k, m)) (sym (paths k.0) ∙ w.1)
      ∙ ap (λ o. is_placed_by keys (Some w.0) o (k, m)) (sym (named k.3) ∙ n.1.1)
      ∙ and_from (nat_eq u.rel k.1) (same_values (key_of keys u) k.2) (eq-eqb u.rel k.1 (ap (λ (z : ValKey). z.1) n.1.2))
      ((same_values-Decides (key_of keys u) k.2).1 (ap (λ (z : ValKey). z.2) n.1.2))

  module _ (r : HoldsRows keys stmts (path_of ns) ts.tuple t) where
    pub not_misplaced : AreMisplaced keys t worlds tuples → ⊥
    not_misplaced (inl m) = m r.fits
    not_misplaced (inr s) =
        let e = mark_is (held keys stmts stmts ns ts t h s.row.0) s.row.1 (sym (r.rows s.row.0 s.fits) ∙ s.there) in
        false≢true (sym s.stray ∙ held_is_placed s.row.0 s.row.1 e)

pub held_rows_have_places : HeldRowsHavePlaces
held_rows_have_places keys stmts ns ts t worlds tuples paths named h r = not_misplaced keys stmts ns ts t worlds tuples paths.paths named h r

module _ (keys : ℕ → ℕ) (stmts xs : List Stmt) (ns : Names) (ts : Tuples) (t : Tables) (worlds : Paths) (tuples : TupleRows) (lengths : AreKeyLengths keys) (paths : AreNamedWorlds worlds ns)
    (named : (n : ℕ) → ts.tuple n ≡ item_of tuples n) (states : HasStates stmts (is_named ns)) (c : IsConsistent keys stmts)
    (h : HoldsTuples stmts ts t) (r : HoldsRows keys stmts (path_of ns) ts.tuple t) (a : AreStated keys t worlds tuples xs) where
  one : (a b : ℕ) (w : List ℕ) → item_of worlds a ≡ Some w → item_of worlds b ≡ Some w → a ≡ b
  one a b w x y = one_there a b (number_of ns w) (paths.names.named a w (paths.paths a ∙ x)) (paths.names.named b w (paths.paths b ∙ y))

  numbers : HaveNumbers t tuples
  numbers = record {
    gives = gives_same tuple_codec t ts.tuple (item_of tuples) (λ n _. named n) h.tuples;
    once = λ a b u x y. one_there a b (ts.number u) (h.named a u (named a ∙ x)) (h.named b u (named b ∙ y));
    sized = λ n u x. h.sized n u (named n ∙ x);
  }

  abbrev f : ValKey → Option Mark
  f = held keys stmts stmts ns ts t h

  rows : HasRows keys ts.tuple f t
  rows = (held_rows_are_explicit keys stmts ns ts t lengths paths.names states c h r).rows

  there : (w : List ℕ) (u : Tuple) (s : Sign) → explicit xs w u s ≡ true → explicit stmts w u s ≡ true
  there w u s x =
      let m = stated_given keys t worlds tuples xs f numbers one a r w u s x in
      sym (mark_tells keys stmts w u (s, true) (sym (right_row keys stmts stmts ns ts t h m.0 w m.1 u (paths.paths m.0 ∙ m.2) (named m.1 ∙ m.3)) ∙ m.4)).1

  is_state_of : (w : List ℕ) (u : Tuple) (s : Sign) → explicit stmts w u s ≡ true → is_state stmts w ≡ true
  is_state_of w u s e = elim (cases_Bool (is_state stmts w)) [
    | inl k ↦ k
    | inr k ↦ absurd (false≢true (sym (nothing_explicit stmts w u s k) ∙ e))
  ]

  back : (w : List ℕ) (u : Tuple) (s : Sign) → explicit stmts w u s ≡ true → explicit xs w u s ≡ true
  back w u s e =
      let n = some_of (number_of ns w) (states w (is_state_of w u s e)) in
      let path = paths.names.numbered w n.0 n.1 in
      let k = some_of (ts.number u) (h.stated u ∙ explicit_tuple stmts w u s e) in
      let tuple = h.numbered u k.0 k.1 in
      let mark = right_row keys stmts stmts ns ts t h n.0 w k.0 u path tuple
      ∙ mark_has keys stmts w u s c (explicit_is_stated keys stmts w u s e) ∙ ap (λ (b : Bool). Some (s, b)) e in
      given_stated keys t worlds tuples xs f numbers one a r n.0 k.0 w u s (key_fits keys ts.tuple f t rows n.0 k.0 u (paths.names.sized w n.0 n.1) tuple)
      (sym (paths.paths n.0) ∙ path) (sym (named k.0) ∙ tuple) mark

  make : ascending statement_cmp stmts ≡ true → xs ≡ stmts
  make up =
      members_make_set statement_exact xs stmts (stated_ascend keys worlds tuples one numbers.once t xs a) up
      (λ x. member_is_explicit xs x ∙ same_tests (explicit xs x.path x.tuple x.sign) (explicit stmts x.path x.tuple x.sign) (there x.path x.tuple x.sign) (back x.path x.tuple x.sign)
      ∙ sym (member_is_explicit stmts x))

pub held_rows_make_statements : HeldRowsMakeStatements
held_rows_make_statements keys stmts xs ns ts t worlds tuples lengths paths named states c up h r a = make keys stmts xs ns ts t worlds tuples lengths paths named states c h r a up
