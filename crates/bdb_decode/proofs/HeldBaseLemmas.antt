-- Where explicit rows make statements that are whole, the tables hold their tuples and their worlds.
use Rattle.std.proofs.Common.{◌≡◌, ◌∙◌, ℕ, Bool, true, false, ◌&&◌, List, [], ◌∷◌, Option, Some, is_some, refl, ap, sym, inl, inr}
use Rattle.std.specs.List.{list_all, list_any}
use Rattle.std.specs.Ordering.{nat_cmp, eq_by_cmp}
use Rattle.std.proofs.lemmas.Bool.{cases_Bool, and_parts, and_from, or_cases, or_left, or_right, cond-true, cond-false, false≢true}
use Rattle.bdb_base.specs.Bases.{IsCatalog, has_tuple, key_lengths}
use Rattle.bdb_base.specs.Same.{same_path, same_sign, same_tuple}
use Rattle.bdb_base.specs.SameLemmas.{same_path-Decides, same_sign-Decides, same_tuple-Decides}
use Rattle.bdb_base.specs.Segments.{is_prefix}
use Rattle.bdb_base.specs.States.{is_state}
use Rattle.bdb_base.specs.Worlds.{IsConsistent, explicit}
use Rattle.bdb_base.specs.declared.kinds.Catalog.{Catalog}
use Rattle.bdb_base.specs.declared.kinds.Sign.{Sign}
use Rattle.bdb_base.specs.declared.kinds.Stmt.{Stmt}
use Rattle.bdb_base.specs.declared.tuple.Tuple.{Tuple}
use Rattle.bdb_base.proofs.WorldLemmas.{valid_is_consistent}
use Rattle.bdb_base.proofs.BoolLemmas.{same_tests}
use Rattle.bdb_base.proofs.OptionLemmas.{some_of, one_there}
use Rattle.bdb_keep.specs.Tables.{Tables}
use Rattle.bdb_tables.specs.InUse.{ValKey, tuple_codec, val_codec}
use Rattle.bdb_tables.specs.Marks.{Mark}
use Rattle.bdb_tables.specs.Names.{Names, is_named, number_of}
use Rattle.bdb_tables.specs.Rows.{Tuples}
use Rattle.bdb_tables.specs.Writes.{Gives}
use Rattle.bdb_tables.proofs.WriteLemmas.{gives_same}
use Rattle.bdb_tables.proofs.ListLemmas.{prefix_rest}
use Rattle.bdb_val.specs.Middle.{HasExplicit, worlds_of}
use Rattle.bdb_entries.specs.Tuples.{HasTuples}
use Rattle.bdb_decode.specs.Explicit.{Paths, TupleRows}
use Rattle.bdb_decode.specs.ExplicitLaws.{AreNamedWorlds, HaveNumbers}
use Rattle.bdb_decode.specs.Items.{item_of}
use Rattle.bdb_decode.specs.Whole.{AreBaseStatements, AreHeldExplicit, BaseStatementsAreHeld}
use Rattle.bdb_decode.proofs.SaidLemmas.{stated_given, stated_rows_are_explicit}
use Rattle.bdb_decode.proofs.WholeLemmas.{any_turned, lengths_of}

-- what all items pass, the item of a number does
item_passes : {X : Type 0} (p : X → Bool) (items : List (ℕ × X)) (n : ℕ) (x : X) → list_all (λ e. p e.1) items ≡ true → item_of items n ≡ Some x → p x ≡ true
item_passes p [] n x h e = cc
item_passes p (y ∷ items) n x h e =
    let k = and_parts (p y.1) (list_all (λ d. p d.1) items) h in
    elim (cases_Bool (eq_by_cmp nat_cmp n y.0)) [
      | inl c ↦ ap p (one_there x y.1 (item_of (y ∷ items) n) e (cond-true (eq_by_cmp nat_cmp n y.0) (Some y.1) (item_of items n) c)) ∙ k.0
      | inr c ↦ item_passes p items n x k.1 (sym (cond-false (eq_by_cmp nat_cmp n y.0) (Some y.1) (item_of items n) c) ∙ e)
    ]

-- ---- what a list of statements has is stated somewhere

record IsSaid (stmts : List Stmt) (w : List ℕ) (u : Tuple) : Type 0 where
  sign : Sign
  is : explicit stmts w u sign ≡ true

said_first : (x : Stmt) (stmts : List Stmt) (w : List ℕ) (u : Tuple) → same_path x.path w ≡ true → same_tuple x.tuple u ≡ true → IsSaid (x ∷ stmts) w u
said_first x stmts w u p t = record {
  sign = x.sign;
  is = or_left (same_path x.path w && (same_tuple x.tuple u && same_sign x.sign x.sign)) (explicit stmts w u x.sign)
      (and_from (same_path x.path w) (same_tuple x.tuple u && same_sign x.sign x.sign) p (and_from (same_tuple x.tuple u) (same_sign x.sign x.sign) t ((same_sign-Decides x.sign x.sign).1 refl)));
}

said_later : (x : Stmt) (stmts : List Stmt) (w : List ℕ) (u : Tuple) → IsSaid stmts w u → IsSaid (x ∷ stmts) w u
said_later x stmts w u s = record {
  sign = s.sign;
  is = or_right (same_path x.path w && (same_tuple x.tuple u && same_sign x.sign s.sign)) (explicit stmts w u s.sign) s.is;
}

record HasPath (stmts : List Stmt) (u : Tuple) : Type 0 where
  path : List ℕ
  said : IsSaid stmts path u

tuple_said : (stmts : List Stmt) (u : Tuple) → list_any (λ x. same_tuple x.tuple u) stmts ≡ true → HasPath stmts u
tuple_said [] u h = absurd (false≢true h)
tuple_said (x ∷ stmts) u h = elim (or_cases (same_tuple x.tuple u) (list_any (λ y. same_tuple y.tuple u) stmts) h) [
  | inl a ↦ record { path = x.path; said = said_first x stmts x.path u ((same_path-Decides x.path x.path).1 refl) a }
  | inr b ↦ let k = tuple_said stmts u b in record { path = k.path; said = said_later x stmts k.path u k.said }
]

record HasLonger (stmts : List Stmt) (w : List ℕ) : Type 0 where
  path : List ℕ
  tuple : Tuple
  begins : is_prefix w path ≡ true
  said : IsSaid stmts path tuple

longer_said : (stmts : List Stmt) (w : List ℕ) → list_any (λ x. is_prefix w x.path) stmts ≡ true → HasLonger stmts w
longer_said [] w h = absurd (false≢true h)
longer_said (x ∷ stmts) w h = elim (or_cases (is_prefix w x.path) (list_any (λ y. is_prefix w y.path) stmts) h) [
  | inl a ↦ record { path = x.path; tuple = x.tuple; begins = a; said = said_first x stmts x.path x.tuple ((same_path-Decides x.path x.path).1 refl) ((same_tuple-Decides x.tuple x.tuple).1 refl) }
  | inr b ↦ let k = longer_said stmts w b in record { path = k.path; tuple = k.tuple; begins = k.begins; said = said_later x stmts k.path k.tuple k.said }
]

-- ---- the law

module _ (t : Tables) (c : Catalog) (worlds : Paths) (tuples : TupleRows) (stmts : List Stmt) (ns : Names) (ts : Tuples) (f : ValKey → Option Mark)
    (catalog : IsCatalog c) (paths : AreNamedWorlds worlds ns) (has : HasTuples t ts) (named : (n : ℕ) → ts.tuple n ≡ item_of tuples n) (gives : Gives val_codec t f)
    (h : AreBaseStatements t c worlds tuples stmts) where
  abbrev keys : ℕ → ℕ
  keys = key_lengths c.rels

  one : (a b : ℕ) (w : List ℕ) → item_of worlds a ≡ Some w → item_of worlds b ≡ Some w → a ≡ b
  one a b w x y = one_there a b (number_of ns w) (paths.names.named a w (paths.paths a ∙ x)) (paths.names.named b w (paths.paths b ∙ y))

  numbers : HaveNumbers t tuples
  numbers = record {
    gives = gives_same tuple_codec t ts.tuple (item_of tuples) (λ n _. named n) has.tuples;
    once = λ a b u x y. one_there a b (ts.number u) (has.named a u (named a ∙ x)) (has.named b u (named b ∙ y));
    sized = λ n u x. has.sized n u (named n ∙ x);
  }

  consistent : IsConsistent keys stmts
  consistent = valid_is_consistent c stmts (record { catalog = catalog; stmts = h.whole.valid })

  has_number : (w : List ℕ) (u : Tuple) → IsSaid stmts w u → (is_named ns w ≡ true) × (is_some (ts.number u) ≡ true)
  has_number w u s =
      let m = stated_given keys t worlds tuples stmts f numbers one h.stated gives w u s.sign s.is in (
        ap is_some (paths.names.named m.0 w (paths.paths m.0 ∙ m.2)),
        ap is_some (has.named m.1 u (named m.1 ∙ m.3)),
      )

  stated : (u : Tuple) → is_some (ts.number u) ≡ list_any (λ x. same_tuple x.tuple u) stmts
  stated u = same_tests (is_some (ts.number u)) (list_any (λ x. same_tuple x.tuple u) stmts)
      (λ e.
      let n = some_of (ts.number u) e in
      any_turned stmts u ∙ item_passes (has_tuple stmts) tuples n.0 u h.whole.tuples (sym (named n.0) ∙ has.numbered u n.0 n.1))
      (λ e. let k = tuple_said stmts u e in (has_number k.path u k.said).1)

  state_named : (w : List ℕ) → is_state stmts w ≡ true → is_named ns w ≡ true
  state_named [] e = ap is_some paths.names.root
  state_named (i ∷ w) e =
      let k = longer_said stmts (i ∷ w) e in
      let r = prefix_rest (i ∷ w) k.path k.begins in
      paths.names.prefixes (i ∷ w) r.0 (ap (is_named ns) (sym r.1) ∙ (has_number k.path k.tuple k.said).0)

  pub base_is_held : AreHeldExplicit keys stmts ns ts f t
  base_is_held = record {
    tuples = record { tuples = has.tuples; numbers = has.numbers; named = has.named; numbered = has.numbered; sized = has.sized; stated = stated };
    worlds = λ w. same_tests (is_named ns w) (is_state stmts w)
        (λ e.
        let n = some_of (number_of ns w) e in
        item_passes (is_state stmts) worlds n.0 w h.whole.worlds (sym (paths.paths n.0) ∙ paths.names.numbered w n.0 n.1))
        (state_named w);
    explicit = record {
      rows = record {
        lengths = own.rows.lengths;
        tuples = has.tuples;
        rows = gives;
        sized = has.sized;
        keyed = λ k fits s. let u = own.rows.keyed k fits s in (u.0, named k.3 ∙ u.1, u.2);
      };
      sized = own.sized;
      worlds = own.worlds;
      explicit = λ wid w tid u p n. own.explicit wid w tid u p (sym (named tid) ∙ n);
      numbered = λ w u s e. let n = own.numbered w u s e in (n.0, named n.0 ∙ n.1);
      consistent = consistent;
    };
  }
    where
      own : HasExplicit keys stmts (worlds_of ns) (item_of tuples) f t
      own = stated_rows_are_explicit keys t worlds tuples ns stmts f (lengths_of c catalog) paths numbers h.stated gives consistent

pub base_statements_are_held : BaseStatementsAreHeld
base_statements_are_held t c worlds tuples stmts ns ts f catalog paths has named gives h = base_is_held t c worlds tuples stmts ns ts f catalog paths has named gives h
