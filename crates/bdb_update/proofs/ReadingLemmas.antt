-- The rows of a tuple's number that are marked are those of the statements that have the tuple.
use Rattle.std.proofs.Common.{◌≡◌, ◌∙◌, ℕ, Bool, true, ◌&&◌, nat_lt, List, [], ◌∷◌, Option, Some, MatchOption, inl, inr, is_some, refl, ap, sym, subst}
use Rattle.std.specs.Option.{option_map}
use Rattle.std.proofs.lemmas.Bool.{cases_lt, false≢true, false_from_ne_true, and_from, or_cases, or_left, or_right, lt-ltb, le-ltb}
use Rattle.bdb_base.specs.Bases.{Contents}
use Rattle.bdb_base.specs.Same.{same_path, same_sign, same_tuple}
use Rattle.bdb_base.specs.SameLemmas.{same_path-Decides, same_sign-Decides}
use Rattle.bdb_base.specs.Worlds.{explicit, IsConsistent}
use Rattle.bdb_base.specs.declared.kinds.Sign.{Sign}
use Rattle.bdb_base.specs.declared.kinds.Stmt.{Stmt}
use Rattle.bdb_base.specs.declared.tuple.Tuple.{Tuple}
use Rattle.bdb_base.proofs.WorldLemmas.{explicit_tuple, explicit_is_stated}
use Rattle.bdb_base.proofs.OptionLemmas.{some_of}
use Rattle.bdb_keep.specs.Marked.{IsMarkedAt, IsMarkedCount}
use Rattle.bdb_keep.specs.Tables.{Tables}
use Rattle.bdb_keep.specs.declared.keeper.KeyEnd.TheVariants.{Last}
use Rattle.bdb_key.specs.Grammar.{IsNum}
use Rattle.bdb_key.specs.Rows.{IsTupleRow, mark_bytes}
use Rattle.bdb_tables.specs.InUse.{ValKey, IsValKey, val_bytes}
use Rattle.bdb_tables.specs.Marks.{Mark, mark_of}
use Rattle.bdb_tables.specs.Names.{Names, path_of, number_of}
use Rattle.bdb_tables.specs.Rows.{Tuples, row_for}
use Rattle.bdb_tables.specs.Stored.{StoredOver}
use Rattle.bdb_tables.proofs.ExplicitLemmas.{IsExplicitAt, marked_is_explicit, explicit_is_marked, none_there, some_marked}
use Rattle.bdb_tables.proofs.MarkLemmas.{mark_is}
use Rattle.bdb_val.specs.Settling.{row_key}
use Rattle.bdb_val.proofs.HeldLemmas.{held_names, right_row}
use Rattle.bdb_val.proofs.ReadLemmas.{key_of_fits}
use Rattle.bdb_val.proofs.WorldLemmas.{mark_tells, mark_has}
use Rattle.bdb_update.specs.Differing.{AreWithin, has_told}
use Rattle.bdb_update.specs.Keys.{keys_of}
use Rattle.bdb_update.specs.Reads.{TellsTold}
use Rattle.bdb_update.proofs.KeyLemmas.{lengths_fit}
use Rattle.bdb_update.proofs.OneStored.{explicit_state}

-- a tuple that is told is explicit at some path
told_explicit : (stmts : List Stmt) (u : Tuple) → has_told stmts u ≡ true → (w : List ℕ) × (g : Sign) × (explicit stmts w u g ≡ true)
told_explicit [] u e = absurd (false≢true e)
told_explicit (y ∷ ys) u e = elim (or_cases (same_tuple y.tuple u) (has_told ys u) e) [
  | inl a ↦ (
    y.path,
    y.sign,
    or_left (same_path y.path y.path && (same_tuple y.tuple u && same_sign y.sign y.sign)) (explicit ys y.path u y.sign)
        (and_from (same_path y.path y.path) (same_tuple y.tuple u && same_sign y.sign y.sign) ((same_path-Decides y.path y.path).1 refl)
        (and_from (same_tuple y.tuple u) (same_sign y.sign y.sign) a ((same_sign-Decides y.sign y.sign).1 refl))),
  )
  | inr a ↦
      let r = told_explicit ys u a in
      (r.0, r.1, or_right (same_path y.path r.0 && (same_tuple y.tuple u && same_sign y.sign r.1)) (explicit ys r.0 u r.1) r.2)
]

-- these bytes are the key of the row that a tuple has in the world of a path at which a statement has it
pub record IsToldAt (ns : Names) (b : Contents) (u : Tuple) (tid : ℕ) (bytes : List ℕ) (w : List ℕ) : Type 0 where
  pub wid : ℕ
  pub sign : Sign
  pub world : path_of ns wid ≡ Some w
  pub there : explicit b.stmts w u sign ≡ true
  pub key : bytes ≡ val_bytes (row_key (keys_of b) wid tid u)

module _ (reached told : List Stmt) (ns : Names) (ts : Tuples) (t : Tables) (b : Contents) (h : StoredOver reached told ns ts t b) (u : Tuple) (tid : ℕ) (number : ts.tuple tid ≡ Some u) where
  abbrev held : ValKey → Option Mark
  held = row_for (keys_of b) b.stmts (path_of ns) ts.tuple

  pub size : IsNum tid
  size = h.tuples.sized tid u number

  fits : IsTupleRow u
  fits = subst (λ o. MatchOption o (Unit {0}) IsTupleRow) number (h.tuples.tuples.written tid size)

  one_tuple : (v : Tuple) (n : ℕ) → n ≡ tid → ts.tuple n ≡ Some v → v ≡ u
  one_tuple v n same e = some_one (sym e ∙ ap ts.tuple same ∙ number)
    where
      some_one : Some v ≡ Some u → v ≡ u
      some_one e = cc

  -- a marked row of the tuple's number is that of a statement
  pub marked_told : (bytes : List ℕ) → IsMarkedAt t 11 Last tid bytes → (w : List ℕ) × IsToldAt ns b u tid bytes w
  marked_told bytes m =
      let x : IsExplicitAt t Last tid bytes = marked_is_explicit t Last tid bytes h.rows.fits size m in
      let k = x.key in
      let row : held k ≡ Some (x.sign, true) = mark_is (held k) (x.sign, true) (sym (h.rows.rows k x.fits) ∙ x.row.found) in
      let names = held_names (keys_of b) b.stmts told ns ts t h.tuples k (ap is_some row) in
      let w = some_of (path_of ns k.0) names.0 in
      let v = names.1.0 in
      let here : ts.tuple k.3 ≡ Some v = names.1.1 in
      let same : v ≡ u = one_tuple v k.3 x.number here in
      let mark : mark_of (keys_of b) b.stmts w.0 v ≡ Some (x.sign, true) = sym (right_row (keys_of b) b.stmts told ns ts t h.tuples k.0 w.0 k.3 v w.1 here) ∙ ap held names.1.2 ∙ row in
      let stated : explicit b.stmts w.0 v x.sign ≡ true = sym (mark_tells (keys_of b) b.stmts w.0 v (x.sign, true) mark).1 in (
        w.0,
        record {
          wid = k.0;
          sign = x.sign;
          world = w.1;
          there = subst (λ z. explicit b.stmts w.0 z x.sign ≡ true) same stated;
          key = sym x.spelled ∙ ap val_bytes (sym names.1.2) ∙ ap (λ z. val_bytes (row_key (keys_of b) k.0 k.3 z)) same ∙ ap (λ n. val_bytes (row_key (keys_of b) k.0 n u)) x.number;
        },
      )

  -- a statement's row is marked
  pub record HasMarkedRow (w : List ℕ) : Type 0 where
    pub wid : ℕ
    pub world : path_of ns wid ≡ Some w
    pub fits : IsNum wid
    pub marked : IsMarkedAt t 11 Last tid (val_bytes (row_key (keys_of b) wid tid u))

  module _ (within : AreWithin b.stmts reached told) (c : IsConsistent (keys_of b) b.stmts) where
    pub told_marked : (w : List ℕ) (g : Sign) → explicit b.stmts w u g ≡ true → HasMarkedRow w
    told_marked w g e =
        let named = some_of (number_of ns w) (h.worlds w ∙ within.states w (explicit_state b.stmts w u g e)) in
        let wid = named.0 in
        let path = h.states.names.numbered w wid named.1 in
        let num = h.states.names.sized w wid named.1 in
        let k = row_key (keys_of b) wid tid u in
        let key : IsValKey k = record { world = num; rel = fits.rel; key = key_of_fits (keys_of b) (lengths_fit t b.catalog.rels h.rels) u fits; tuple = size } in
        let row : held k ≡ Some (g, true) = right_row (keys_of b) b.stmts told ns ts t h.tuples wid w tid u path number
        ∙ mark_has (keys_of b) b.stmts w u g c (explicit_is_stated (keys_of b) b.stmts w u g e) ∙ ap (λ (z : Bool). Some (g, z)) e in
        record { wid = wid; world = path; fits = num; marked = explicit_is_marked t Last k g (h.rows.rows k key ∙ ap (option_map mark_bytes) row) }

-- whether there are marked rows of a tuple's number tells whether a statement has the tuple
pub count_tells : (t : Tables) (tid n : ℕ) → IsMarkedCount t 11 Last tid n → TellsTold t tid (nat_lt 0 n)
count_tells t tid n counted reached told ns ts b h within c u number = elim (cases_lt 0 n) [
  | inl some ↦
      let m = some_marked t 11 Last tid n counted some in
      let x = marked_told reached told ns ts t b h u tid number m.0 m.1 in
      lt-ltb 0 n some ∙ sym (explicit_tuple b.stmts x.0 u x.1.sign x.1.there)
  | inr none ↦ le-ltb 0 n none ∙ sym (false_from_ne_true (has_told b.stmts u) (λ e.
      let x = told_explicit b.stmts u e in
      let m = told_marked reached told ns ts t b h u tid number within c x.0 x.1 x.2 in
      none_there t 11 Last tid n counted none (val_bytes (row_key (keys_of b) m.wid tid u)) m.marked))
]
