-- A change of one explicit row, and what is settled and what is not after it.
use Rattle.std.proofs.Common.{◌≡◌, ℕ, Bool, true, false, ◌&&◌, ◌||◌, nat_eq, List, [], ◌∷◌, Option, Some, None, MatchOption, is_some, refl, ap, sym, subst, ◌∙◌, inl, inr}
use Rattle.std.specs.Ordering.{is_eq}
use Rattle.std.proofs.lemmas.Bool.{cases_Bool, false≢true, false_from_ne_true, and_parts, and_from, or_left, or_right, eq-eqb, cond-true, cond-false}
use Rattle.bdb_base.specs.Clash.{key_of}
use Rattle.bdb_base.specs.Same.{same_path, same_tuple, same_values}
use Rattle.bdb_base.specs.SameLemmas.{same_path-Decides, same_tuple-Decides, same_values-Decides}
use Rattle.bdb_base.specs.Worlds.{contradicted, IsConsistent}
use Rattle.bdb_base.specs.declared.kinds.Sign.{Sign}
use Rattle.bdb_base.specs.declared.kinds.Stmt.{Stmt}
use Rattle.bdb_base.specs.declared.tuple.Tuple.{Tuple}
use Rattle.bdb_base.proofs.OptionLemmas.{one_there}
use Rattle.bdb_keep.specs.Tables.{Tables}
use Rattle.bdb_keep.proofs.RowsLemmas.{same_place}
use Rattle.bdb_key.specs.Grammar.{IsNum}
use Rattle.bdb_key.specs.Rows.{IsAnyMark}
use Rattle.bdb_key.proofs.Forms.{tied}
use Rattle.bdb_tables.specs.InUse.{ValKey, IsValKey, val_bytes, val_codec, tuple_codec, link_codec, linked_codec}
use Rattle.bdb_tables.specs.InUseLaws.{vals_are_one, vals_in_order}
use Rattle.bdb_tables.specs.Marks.{Mark, sign_of, explicit_of, explicit_sign}
use Rattle.bdb_tables.specs.Names.{Names, path_of, number_of, is_named, link_of, leads_to}
use Rattle.bdb_tables.specs.Rows.{Tuples, HoldsTuples, HoldsRows, row_for, AreKeyLengths}
use Rattle.bdb_tables.specs.States.{HoldsStates}
use Rattle.bdb_tables.specs.Writes.{with_change, with_row_at}
use Rattle.bdb_tables.proofs.WriteLemmas.{change_gives, change_elsewhere}
use Rattle.bdb_val.specs.Groups.{IsUnsettled, is_near}
use Rattle.bdb_val.specs.Middle.{worlds_of, IsSettledAt}
use Rattle.bdb_val.specs.Reads.{HasRows, is_of_group}
use Rattle.bdb_val.specs.Settled.{HasStates, settled_mark, sign_at}
use Rattle.bdb_val.specs.Settling.{HaveTupleNumbers, row_key}
use Rattle.bdb_val.proofs.HeldLemmas.{names_are_linked, explicit_mark, right_row, held_names}
use Rattle.bdb_val.proofs.NextMarks.{settled_alike}
use Rattle.bdb_val.proofs.ReadLemmas.{key_fits}
use Rattle.bdb_val.proofs.SettledLemmas.{right_rows_are_settled}
use Rattle.bdb_update.specs.Differing.{is_like, DifferAt, explicit_row, row_said_at}

row_sign : (o : Option Sign) → explicit_of (explicit_row o) ≡ o
row_sign None = refl
row_sign (Some s) = refl

row_fits : (o : Option Sign) → MatchOption (explicit_row o) (Unit {0}) IsAnyMark
row_fits None = tt
row_fits (Some s) = tt

module _ (keys : ℕ → ℕ) (stmts next told : List Stmt) (users : ℕ → Bool) (ns : Names) (ts : Tuples) (t : Tables) (w : List ℕ) (u : Tuple) (wid tid : ℕ)
    (lengths : AreKeyLengths keys) (states : HoldsStates users ns t) (tuples : HoldsTuples told ts t) (rows : HoldsRows keys stmts (path_of ns) ts.tuple t)
    (has : HasStates stmts (is_named ns)) (more : HasStates next (is_named ns)) (numbered : HaveTupleNumbers ts.tuple next)
    (c : IsConsistent keys stmts) (d : IsConsistent keys next) (differ : DifferAt keys stmts next w u)
    (path : path_of ns wid ≡ Some w) (name : ts.tuple tid ≡ Some u) where
  abbrev pub held : ValKey → Option Mark
  held = row_for keys stmts (path_of ns) ts.tuple

  abbrev pub said : Option Sign
  said = explicit_sign next w u

  abbrev pub key : ValKey
  key = row_key keys wid tid u

  -- the rows after the change
  abbrev pub changed : ValKey → Option Mark
  changed = with_row_at val_codec held (row_said_at keys next w wid tid u)

  abbrev pub after : Tables
  after = with_change val_codec t (row_said_at keys next w wid tid u)

  world_num : (m : ℕ) (v : List ℕ) → path_of ns m ≡ Some v → IsNum m
  world_num m v p = states.names.sized v m (states.names.named m v p)

  one_world : (m : ℕ) (v : List ℕ) → path_of ns m ≡ Some v → v ≡ w → m ≡ wid
  one_world m v p e = one_there m wid (number_of ns w) (ap (number_of ns) (sym e) ∙ states.names.named m v p) (states.names.named wid w path)

  one_tuple : (i : ℕ) (y : Tuple) → ts.tuple i ≡ Some y → y ≡ u → i ≡ tid
  one_tuple i y n e = one_there i tid (ts.number u) (ap ts.number (sym e) ∙ tuples.named i y n) (tuples.named tid u name)

  before : HasRows keys ts.tuple held t
  before = record { lengths = lengths; tuples = tuples.tuples; rows = rows; sized = tuples.sized; keyed = λ k v s. (held_names keys stmts told ns ts t tuples k s).1 }

  fits : (m i : ℕ) (v : List ℕ) (y : Tuple) → path_of ns m ≡ Some v → ts.tuple i ≡ Some y → IsValKey (row_key keys m i y)
  fits m i v y p n = key_fits keys ts.tuple held t before m i y (world_num m v p) n

  key_is : IsValKey key
  key_is = fits wid tid w u path name

  here : (q : ValKey) → IsValKey q → is_eq (val_codec.key_cmp q key) ≡ true → q ≡ key
  here q v e = vals_are_one q key v key_is (same_place (val_bytes q) (val_bytes key) (ap is_eq (vals_in_order q key v key_is) ∙ e))

  itself : (q : ValKey) → q ≡ key → is_eq (val_codec.key_cmp q key) ≡ true
  itself q e =
      ap (λ (z : ValKey). is_eq (val_codec.key_cmp z key)) e ∙ ap is_eq (sym (vals_in_order key key key_is key_is) ∙ tied (val_bytes key) (val_bytes key) refl)

  other : (q : ValKey) → IsValKey q → (q ≡ key → ⊥) → is_eq (val_codec.key_cmp q key) ≡ false
  other q v n = false_from_ne_true (is_eq (val_codec.key_cmp q key)) (λ e. n (here q v e))

  stays : (q : ValKey) → is_eq (val_codec.key_cmp q key) ≡ false → changed q ≡ held q
  stays q e = cond-false (is_eq (val_codec.key_cmp q key)) (explicit_row said) (held q) e

  is_said : (q : ValKey) → is_eq (val_codec.key_cmp q key) ≡ true → changed q ≡ explicit_row said
  is_said q e = cond-true (is_eq (val_codec.key_cmp q key)) (explicit_row said) (held q) e

  -- ---- what the tables have

  changed_rows : HasRows keys ts.tuple changed after
  changed_rows = record {
    lengths = lengths;
    tuples = change_elsewhere tuple_codec val_codec (λ e. cc) t ts.tuple (row_said_at keys next w wid tid u) tuples.tuples;
    rows = change_gives val_codec vals_in_order t held (row_said_at keys next w wid tid u) (record { key = key_is; row = row_fits said }) rows;
    sized = tuples.sized;
    keyed = λ q v s. elim (cases_Bool (is_eq (val_codec.key_cmp q key))) as (λ _. (y : Tuple) × (ts.tuple q.3 ≡ Some y) × (row_key keys q.0 q.3 y ≡ q)) [
      | inl e ↦ subst (λ (z : ValKey). (y : Tuple) × (ts.tuple z.3 ≡ Some y) × (row_key keys z.0 z.3 y ≡ z)) (sym (here q v e)) (u, name, refl)
      | inr e ↦ before.keyed q v (ap is_some (sym (stays q e)) ∙ s)
    ];
  }

  -- ---- explicit rows are what the other statements say

  apart : (m i : ℕ) (v : List ℕ) (y : Tuple) → path_of ns m ≡ Some v → ts.tuple i ≡ Some y → is_eq (val_codec.key_cmp (row_key keys m i y) key) ≡ false → (same_path v w && same_tuple y u) ≡ false
  apart m i v y p n out = false_from_ne_true (same_path v w && same_tuple y u) (λ e.
      let a = and_parts (same_path v w) (same_tuple y u) e in
      let q : y ≡ u = (same_tuple-Decides y u).0 a.1 in
      let j = one_world m v p ((same_path-Decides v w).0 a.0) in
      let k = one_tuple i y n q in
      false≢true (sym out ∙ itself (row_key keys m i y) (ap (λ z. row_key keys z i y) j ∙ ap (λ z. row_key keys wid z y) k ∙ ap (λ z. row_key keys wid tid z) q)))

  says : (m i : ℕ) (v : List ℕ) (y : Tuple) → path_of ns m ≡ Some v → ts.tuple i ≡ Some y → row_key keys m i y ≡ key → explicit_sign next v y ≡ said
  says m i v y p n e =
      let j : m ≡ wid = ap (λ (z : ValKey). z.0) e in
      let k : i ≡ tid = ap (λ (z : ValKey). z.3) e in
      let a : v ≡ w = one_there v w (path_of ns wid) (ap (path_of ns) (sym j) ∙ p) path in
      let b : y ≡ u = one_there y u (ts.tuple tid) (ap ts.tuple (sym k) ∙ n) name in
      ap (λ z. explicit_sign next z y) a ∙ ap (explicit_sign next w) b

  changed_explicit : (m : ℕ) (v : List ℕ) (i : ℕ) (y : Tuple) → path_of ns m ≡ Some v → ts.tuple i ≡ Some y → explicit_of (changed (row_key keys m i y)) ≡ explicit_sign next v y
  changed_explicit m v i y p n =
      let q = row_key keys m i y in
      elim (cases_Bool (is_eq (val_codec.key_cmp q key))) [
        | inl e ↦ ap explicit_of (is_said q e) ∙ row_sign said ∙ sym (says m i v y p n (here q (fits m i v y p n) e))
        | inr e ↦
            ap explicit_of (stays q e ∙ right_row keys stmts told ns ts t tuples m v i y p n) ∙ explicit_mark keys stmts v y c
            ∙ sym (differ.signs v y (apart m i v y p n e))
      ]

  -- ---- other rows are settled

  near : (m : ℕ) (y : Tuple) → is_like keys u y ≡ true → m ≡ wid → is_near ns (is_like keys u) wid m y ≡ true
  near m y g e = and_from (is_like keys u y) (nat_eq m wid || leads_to (link_of ns m) wid) g (or_left (nat_eq m wid) (leads_to (link_of ns m) wid) (eq-eqb m wid e))

  near_link : (m : ℕ) (y : Tuple) → is_like keys u y ≡ true → link_of ns m ≡ Some wid → is_near ns (is_like keys u) wid m y ≡ true
  near_link m y g e = and_from (is_like keys u y) (nat_eq m wid || leads_to (link_of ns m) wid) g
      (or_right (nat_eq m wid) (leads_to (link_of ns m) wid) (ap (λ o. leads_to o wid) e ∙ eq-eqb wid wid refl))

  like_by_key : (m i : ℕ) (y : Tuple) → row_key keys m i y ≡ key → is_like keys u y ≡ true
  like_by_key m i y e = and_from (nat_eq y.rel u.rel) (same_values (key_of keys y) (key_of keys u))
      (eq-eqb y.rel u.rel (ap (λ (z : ValKey). z.1) e)) ((same_values-Decides (key_of keys y) (key_of keys u)).1 (ap (λ (z : ValKey). z.2) e))

  like_itself_too : (y : Tuple) → y ≡ u → is_like keys u y ≡ true
  like_itself_too y e = like_by_key wid tid y (ap (λ z. row_key keys wid tid z) e)

  module _ (m i : ℕ) (y : Tuple) (n : ts.tuple i ≡ Some y) (out : is_near ns (is_like keys u) wid m y ≡ false) where
    not_near : is_near ns (is_like keys u) wid m y ≡ true → ⊥
    not_near e = false≢true (sym out ∙ e)

    own_stays : (v : List ℕ) → path_of ns m ≡ Some v → changed (row_key keys m i y) ≡ held (row_key keys m i y)
    own_stays v p = stays (row_key keys m i y) (other (row_key keys m i y) (fits m i v y p n) (λ e. not_near (near m y (like_by_key m i y e) (ap (λ (z : ValKey). z.0) e))))

    from_stays : (v : List ℕ) → path_of ns m ≡ Some v → sign_at (λ k. changed (row_key keys k i y)) (link_of ns m) ≡ sign_at (λ k. held (row_key keys k i y)) (link_of ns m)
    from_stays [] p =
        let l = (names_are_linked ns states.names).root m p in
        ap (λ o. sign_at (λ k. changed (row_key keys k i y)) o) l ∙ ap (λ o. sign_at (λ k. held (row_key keys k i y)) o) (sym l)
    from_stays (a ∷ v) p =
        let l = (names_are_linked ns states.names).link m a v p in
        let k = row_key keys l.0 i y in
        let same : changed k ≡ held k = stays k (other k (fits l.0 i _ y l.2 n) (λ e. not_near (near_link m y (like_by_key l.0 i y e) (l.1 ∙ ap (λ (z : ValKey). Some z.0) e)))) in
        ap (λ o. sign_at (λ k. changed (row_key keys k i y)) o) l.1 ∙ ap sign_of same ∙ ap (λ o. sign_at (λ k. held (row_key keys k i y)) o) (sym l.1)

    sign_stays : (v : List ℕ) → path_of ns m ≡ Some v → explicit_sign next v y ≡ explicit_sign stmts v y
    sign_stays v p = differ.signs v y (false_from_ne_true (same_path v w && same_tuple y u) (λ e.
        let a = and_parts (same_path v w) (same_tuple y u) e in
        not_near (near m y (like_itself_too y ((same_tuple-Decides y u).0 a.1)) (one_world m v p ((same_path-Decides v w).0 a.0)))))

    bars_stay : (v : List ℕ) → path_of ns m ≡ Some v → (s : Sign) → contradicted keys stmts v y s ≡ contradicted keys next v y s
    bars_stay v p s = sym (differ.bars v y s (false_from_ne_true (same_path v w && is_like keys u y) (λ e.
        let a = and_parts (same_path v w) (is_like keys u y) e in
        not_near (near m y a.1 (one_world m v p ((same_path-Decides v w).0 a.0))))))

    still_settled : IsSettledAt keys next (worlds_of ns) changed m i y
    still_settled v p =
        let from = sign_at (λ k. changed (row_key keys k i y)) (link_of ns m) in
        own_stays v p
        ∙ right_rows_are_settled keys stmts (is_named ns) (worlds_of ns) y (λ k. held (row_key keys k i y)) c has (names_are_linked ns states.names)
        (λ k v2 p2. right_row keys stmts told ns ts t tuples k v2 i y p2 n) m v p
        ∙ ap (λ o. settled_mark (explicit_sign stmts v y) (contradicted keys stmts v y) o) (sym (from_stays v p))
        ∙ settled_alike (contradicted keys stmts v y) (contradicted keys next v y) (bars_stay v p) (explicit_sign stmts v y) from
        ∙ ap (λ o. settled_mark o (contradicted keys next v y) from) (sym (sign_stays v p))

  pub changed_row_unsettles : IsUnsettled keys next ns ts.tuple changed after wid (is_of_group keys u.rel (key_of keys u))
  changed_row_unsettles = record {
    names = states.names;
    states = more;
    links = record {
      link = change_elsewhere link_codec val_codec (λ e. cc) t (link_of ns) (row_said_at keys next w wid tid u) states.tables.link;
      linked = change_elsewhere linked_codec val_codec (λ e. cc) t _ (row_said_at keys next w wid tid u) states.tables.linked;
    };
    explicit = record {
      rows = changed_rows;
      sized = λ m v p. world_num m v p;
      worlds = λ q v s. elim (cases_Bool (is_eq (val_codec.key_cmp q key))) as (λ _. is_some (path_of ns q.0) ≡ true) [
        | inl e ↦ ap (λ (z : ValKey). is_some (path_of ns z.0)) (here q v e) ∙ ap is_some path
        | inr e ↦ (held_names keys stmts told ns ts t tuples q (ap is_some (sym (stays q e)) ∙ s)).0
      ];
      explicit = changed_explicit;
      numbered = numbered;
      consistent = d;
    };
    named = ap is_some path;
    settled = λ m i y n out. still_settled m i y n out;
  }
