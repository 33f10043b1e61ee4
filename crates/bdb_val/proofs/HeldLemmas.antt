-- Settled rows are those of tables that hold the rows of the worlds, and the other way round.
use Rattle.std.proofs.Common.{◌≡◌, ◌∙◌, ℕ, Bool, true, false, nat_eq, List, Option, Some, None, cond, inl, inr, refl, ap, sym, is_some}
use Rattle.std.specs.Option.{option_and_then}
use Rattle.std.proofs.lemmas.Bool.{false≢true, cases_Bool, and_parts, and_from, cond-true, cond-false, eqb-true, eq-eqb}
use Rattle.bdb_base.specs.declared.kinds.Sign.{Sign}
use Rattle.bdb_base.specs.declared.kinds.Sign.TheVariants.{Plus, Minus}
use Rattle.bdb_base.specs.declared.kinds.Stmt.{Stmt}
use Rattle.bdb_base.specs.declared.kinds.Value.{Value}
use Rattle.bdb_base.specs.declared.tuple.Tuple.{Tuple}
use Rattle.bdb_base.specs.Clash.{key_of}
use Rattle.bdb_base.specs.Same.{same_values}
use Rattle.bdb_base.specs.SameLemmas.{same_values-Decides, same_tuple-Decides}
use Rattle.bdb_base.specs.States.{deepest_suffix, suffix_link}
use Rattle.bdb_base.specs.Worlds.{explicit, stated, IsConsistent}
use Rattle.bdb_base.proofs.WorldLemmas.{explicit_tuple, worlds_are_consistent, explicit_is_stated}
use Rattle.bdb_base.proofs.OptionLemmas.{some_of, none_and_some, one_there}
use Rattle.bdb_paths.proofs.SuffixLemmas.{deepest_is_member}
use Rattle.bdb_keep.specs.Tables.{Tables}
use Rattle.bdb_tables.specs.InUse.{ValKey, IsValKey, val_codec}
use Rattle.bdb_tables.specs.Marks.{Mark, sign_by, explicit_of, explicit_sign, marked, mark_of}
use Rattle.bdb_tables.specs.Names.{Names, AreNames, path_of, number_of, is_named}
use Rattle.bdb_tables.specs.Rows.{Tuples, HoldsTuples, has_key, row_named, row_for}
use Rattle.bdb_tables.proofs.WriteLemmas.{gives_same}
use Rattle.bdb_val.specs.Laws.{SettledRowsAreHeld, HeldRowsAreExplicit, HeldRowsAreSettled}
use Rattle.bdb_val.specs.Middle.{worlds_of, HasExplicit, AreSettledBut}
use Rattle.bdb_val.specs.Settled.{AreLinked, HasStates}
use Rattle.bdb_val.specs.Settling.{row_key}
use Rattle.bdb_val.proofs.SettledLemmas.{settled_rows_are_right, right_rows_are_settled}

-- ---- names are linked

pub names_are_linked : (ns : Names) → AreNames ns → AreLinked (is_named ns) (worlds_of ns)
names_are_linked ns h = record {
  member = λ wid w e. ap is_some (h.named wid w e);
  root = λ wid e. ap (λ o. option_and_then (number_of ns) (option_and_then (suffix_link (is_named ns)) o)) e;
  link = λ wid i w e.
      let d = deepest_suffix (is_named ns) w in
      let m = some_of (number_of ns d) (deepest_is_member (is_named ns) w (ap is_some h.root)) in
      (m.0, ap (λ o. option_and_then (number_of ns) (option_and_then (suffix_link (is_named ns)) o)) e ∙ m.1, h.numbered d m.0 m.1);
}

-- ---- keys of rows

-- a row's key has a tuple's relation and key where it is the key of the tuple's row
key_of_row : (keys : ℕ → ℕ) (k : ValKey) (u : Tuple) → row_key keys k.0 k.3 u ≡ k → has_key keys k u ≡ true
key_of_row keys k u e = and_from (nat_eq u.rel k.1) (same_values (key_of keys u) k.2)
    (eq-eqb u.rel k.1 (ap (λ (z : ValKey). z.1) e))
    ((same_values-Decides (key_of keys u) k.2).1 (ap (λ (z : ValKey). z.2) e))

abbrev made : ℕ → ℕ → List Value → ℕ → ValKey
made a b c d = (a, b, c, d)

row_of_key : (keys : ℕ → ℕ) (k : ValKey) (u : Tuple) → has_key keys k u ≡ true → row_key keys k.0 k.3 u ≡ k
row_of_key keys k u e =
    let p = and_parts (nat_eq u.rel k.1) (same_values (key_of keys u) k.2) e in
    let r : u.rel ≡ k.1 = eqb-true u.rel k.1 p.0 in
    let v : key_of keys u ≡ k.2 = (same_values-Decides (key_of keys u) k.2).0 p.1 in
    ap (λ (x : ℕ). made k.0 x (key_of keys u) k.3) r ∙ ap (λ (x : List Value). made k.0 k.1 x k.3) v

-- ---- settled rows are held

module _ (keys : ℕ → ℕ) (stmts : List Stmt) (ns : Names) (tuple : ℕ → Option Tuple) (f : ValKey → Option Mark) (t : Tables) (names : AreNames ns) (states : HasStates stmts (is_named ns))
    (h : HasExplicit keys stmts (worlds_of ns) tuple f t) (settled : AreSettledBut keys stmts (worlds_of ns) tuple f (λ _ _. false)) where
  -- a named tuple's row in a named world
  held_row : (wid : ℕ) (w : List ℕ) (tid : ℕ) (u : Tuple) → path_of ns wid ≡ Some w → tuple tid ≡ Some u → f (row_key keys wid tid u) ≡ mark_of keys stmts w u
  held_row wid w tid u p n =
      settled_rows_are_right keys stmts (is_named ns) (worlds_of ns) u (λ m. f (row_key keys m tid u)) h.consistent states (names_are_linked ns names)
      (λ m. settled m tid u n refl) wid w p

  -- a key whose world or tuple has no name, or whose tuple has another key, has no row
  no_row : (k : ValKey) → IsValKey k → ((w : List ℕ) (u : Tuple) → path_of ns k.0 ≡ Some w → tuple k.3 ≡ Some u → row_key keys k.0 k.3 u ≡ k → ⊥) → f k ≡ None
  no_row k v bad = go (f k) refl
    where
      go : (o : Option Mark) → f k ≡ o → f k ≡ None
      go None e = e
      go (Some m) e =
          let s : is_some (f k) ≡ true = ap is_some e in
          let w = some_of (path_of ns k.0) (h.worlds k v s) in
          let u = h.rows.keyed k v s in
          absurd (bad w.0 u.0 w.1 u.1 u.2)

  row_is : (k : ValKey) → IsValKey k → f k ≡ row_for keys stmts (path_of ns) tuple k
  row_is k v = go (path_of ns k.0) (tuple k.3) refl refl
    where
      go : (p : Option (List ℕ)) (o : Option Tuple) → path_of ns k.0 ≡ p → tuple k.3 ≡ o → f k ≡ row_for keys stmts (path_of ns) tuple k
      go None o a b = no_row k v (λ w u x y z. none_and_some w (path_of ns k.0) a x) ∙ sym (ap (λ p. row_named keys stmts k p (tuple k.3)) a)
      go (Some w) None a b = no_row k v (λ w u x y z. none_and_some u (tuple k.3) b y)
          ∙ sym (ap (λ p. row_named keys stmts k p (tuple k.3)) a ∙ ap (row_named keys stmts k (Some w)) b)
      go (Some w) (Some u) a b =
          let row : row_for keys stmts (path_of ns) tuple k ≡ cond (has_key keys k u) (mark_of keys stmts w u) None =
          ap (λ p. row_named keys stmts k p (tuple k.3)) a ∙ ap (row_named keys stmts k (Some w)) b in
          elim (cases_Bool (has_key keys k u)) [
            | inl e ↦
                ap f (sym (row_of_key keys k u e)) ∙ held_row k.0 w k.3 u a b ∙ sym (cond-true (has_key keys k u) (mark_of keys stmts w u) None e) ∙ sym row
            | inr e ↦
                no_row k v (λ w2 u2 x y z. false≢true (sym e ∙ key_of_row keys k u (ap (λ q. row_key keys k.0 k.3 q) (one_there u u2 (tuple k.3) b y) ∙ z)))
                ∙ sym (cond-false (has_key keys k u) (mark_of keys stmts w u) None e) ∙ sym row
          ]

pub settled_rows_are_held : SettledRowsAreHeld
settled_rows_are_held keys stmts ns tuple f t names states h settled =
    gives_same val_codec t f (row_for keys stmts (path_of ns) tuple) (row_is keys stmts ns tuple f t names states h settled) h.rows.rows

-- ---- held rows are explicit where there are statements, and settled. Tuples of other statements may have numbers too.

-- an explicit mark is that of a statement
pub explicit_mark : (keys : ℕ → ℕ) (stmts : List Stmt) (w : List ℕ) (u : Tuple) → IsConsistent keys stmts → explicit_of (mark_of keys stmts w u) ≡ explicit_sign stmts w u
explicit_mark keys stmts w u c =
    cases (explicit stmts w u) (stated keys stmts w u Plus) (stated keys stmts w u Minus) (explicit stmts w u Plus) (explicit stmts w u Minus) refl refl
    (λ e. explicit_is_stated keys stmts w u Plus e) (λ e. explicit_is_stated keys stmts w u Minus e)
    (λ a b. false≢true (sym (worlds_are_consistent keys stmts c w u u Plus Minus a b) ∙ (same_tuple-Decides u u).1 refl))
  where
    cases : (f : Sign → Bool) (sp sm ep em : Bool) → f Plus ≡ ep → f Minus ≡ em → (ep ≡ true → sp ≡ true) → (em ≡ true → sm ≡ true) → (sp ≡ true → sm ≡ true → ⊥)
        → explicit_of (marked f (sign_by sp sm)) ≡ sign_by ep em
    cases f true sm true em a b p m n = ap (λ x. cond x (Some Plus) None) a
    cases f true sm false true a b p m n = absurd (n refl (m refl))
    cases f true sm false false a b p m n = ap (λ x. cond x (Some Plus) None) a
    cases f false sm true em a b p m n = absurd (false≢true (p refl))
    cases f false true false em a b p m n = ap (λ x. cond x (Some Minus) None) b
    cases f false false false true a b p m n = absurd (false≢true (m refl))
    cases f false false false false a b p m n = refl

module _ (keys : ℕ → ℕ) (stmts told : List Stmt) (ns : Names) (ts : Tuples) (t : Tables) (h : HoldsTuples told ts t) where
  abbrev pub held : ValKey → Option Mark
  held = row_for keys stmts (path_of ns) ts.tuple

  named_row : (k : ValKey) (w : List ℕ) (u : Tuple) → path_of ns k.0 ≡ Some w → ts.tuple k.3 ≡ Some u → held k ≡ cond (has_key keys k u) (mark_of keys stmts w u) None
  named_row k w u a b = ap (λ p. row_named keys stmts k p (ts.tuple k.3)) a ∙ ap (row_named keys stmts k (Some w)) b

  -- the row of a named tuple in a named world
  pub right_row : (wid : ℕ) (w : List ℕ) (tid : ℕ) (u : Tuple) → path_of ns wid ≡ Some w → ts.tuple tid ≡ Some u → held (row_key keys wid tid u) ≡ mark_of keys stmts w u
  right_row wid w tid u a b =
      let k = row_key keys wid tid u in
      named_row k w u a b ∙ cond-true (has_key keys k u) (mark_of keys stmts w u) None (key_of_row keys k u refl)

  -- a row that is held is that of a named world and a named tuple with the row's key
  pub held_names : (k : ValKey) → is_some (held k) ≡ true → (is_some (path_of ns k.0) ≡ true) × ((u : Tuple) × (ts.tuple k.3 ≡ Some u) × (row_key keys k.0 k.3 u ≡ k))
  held_names k s = go (path_of ns k.0) (ts.tuple k.3) refl refl
    where
      go : (p : Option (List ℕ)) (o : Option Tuple) → path_of ns k.0 ≡ p → ts.tuple k.3 ≡ o → (is_some (path_of ns k.0) ≡ true) × ((u : Tuple) × (ts.tuple k.3 ≡ Some u) × (row_key keys k.0 k.3 u ≡ k))
      go None o a b = absurd (false≢true (ap (λ p. is_some (row_named keys stmts k p (ts.tuple k.3))) (sym a) ∙ s))
      go (Some w) None a b = absurd (false≢true (ap (λ o. is_some (row_named keys stmts k (Some w) o)) (sym b) ∙ ap (λ p. is_some (row_named keys stmts k p (ts.tuple k.3))) (sym a) ∙ s))
      go (Some w) (Some u) a b = elim (cases_Bool (has_key keys k u)) [
        | inl e ↦ (ap is_some a, (u, b, row_of_key keys k u e))
        | inr e ↦ absurd (false≢true (ap is_some (sym (cond-false (has_key keys k u) (mark_of keys stmts w u) None e)) ∙ ap is_some (sym (named_row k w u a b)) ∙ s))
      ]

pub held_rows_are_explicit : HeldRowsAreExplicit
held_rows_are_explicit keys stmts ns ts t lengths names states c h r = record {
  rows = record {
    lengths = lengths;
    tuples = h.tuples;
    rows = r;
    sized = h.sized;
    keyed = λ k v s. (held_names keys stmts stmts ns ts t h k s).1;
  };
  sized = λ wid w e. names.sized w wid (names.named wid w e);
  worlds = λ k v s. (held_names keys stmts stmts ns ts t h k s).0;
  explicit = λ wid w tid u p n. ap explicit_of (right_row keys stmts stmts ns ts t h wid w tid u p n) ∙ explicit_mark keys stmts w u c;
  numbered = λ w u s e.
      let n = some_of (ts.number u) (h.stated u ∙ explicit_tuple stmts w u s e) in
      (n.0, h.numbered u n.0 n.1);
  consistent = c;
}

pub held_rows_are_settled : HeldRowsAreSettled
held_rows_are_settled keys stmts ns ts t names states c h wid tid u n out =
    right_rows_are_settled keys stmts (is_named ns) (worlds_of ns) u (λ m. row_for keys stmts (path_of ns) ts.tuple (row_key keys m tid u)) c states (names_are_linked ns names)
    (λ m w p. right_row keys stmts stmts ns ts t h m w tid u p n) wid
