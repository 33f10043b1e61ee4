-- Rows that have their places are of worlds and tuples that there are.
use Rattle.std.proofs.Common.{◌≡◌, ◌∙◌, ℕ, Bool, true, nat_eq, List, [], ◌∷◌, Option, Some, None, MatchOption, length, inl, inr, is_some, map, refl, ap, sym, subst}
use Rattle.std.specs.List.{list_all, AllByRecursion}
use Rattle.std.specs.Option.{option_map}
use Rattle.std.specs.Ordering.{eq_by_cmp}
use Rattle.std.specs.FinMap.{find}
use Rattle.std.proofs.lemmas.Bool.{false≢true, cases_Bool, and_parts, cond-false, eqb-true}
use Rattle.bdb_base.specs.Clash.{key_of}
use Rattle.bdb_base.specs.declared.kinds.Value.{Value}
use Rattle.bdb_base.specs.declared.tuple.Tuple.{Tuple}
use Rattle.bdb_base.specs.Same.{same_values}
use Rattle.bdb_base.specs.SameLemmas.{same_values-Decides}
use Rattle.bdb_keep.specs.Tables.{Tables, bytes_cmp}
use Rattle.bdb_keep.proofs.RowsLemmas.{same_place}
use Rattle.bdb_key.specs.Rows.{IsTupleRow, tuple_bytes}
use Rattle.bdb_tables.specs.InUse.{ValKey, IsValKey, val_bytes, depth_codec, val_codec}
use Rattle.bdb_tables.specs.InUseLaws.{vals_are_one}
use Rattle.bdb_tables.specs.Names.{Names, depth_of}
use Rattle.bdb_tables.specs.Rows.{Tuples}
use Rattle.bdb_tables.specs.Spans.{IsUnder, entry_bytes}
use Rattle.bdb_tables.specs.Writes.{Gives}
use Rattle.bdb_val.specs.Reads.{is_of_group}
use Rattle.bdb_val.specs.Settling.{row_key}
use Rattle.bdb_entries.specs.Tuples.{HasTuples}
use Rattle.bdb_decode.specs.Explicit.{Paths, TupleRows, ValRow, is_placed, is_placed_by}
use Rattle.bdb_decode.specs.ExplicitLaws.{AreNamedWorlds}
use Rattle.bdb_decode.specs.Items.{item_of}
use Rattle.bdb_decode.specs.SettledRows.{IsKeyed, PlacedRowsAreKeyed}

abbrev made : ℕ → ℕ → List Value → ℕ → ValKey
made a b c d = (a, b, c, d)

-- a key with the relation and the key of its tuple is the key of the tuple's row
key_is : (keys : ℕ → ℕ) (k : ValKey) (u : Tuple) → is_of_group keys k.1 k.2 u ≡ true → row_key keys k.0 k.3 u ≡ k
key_is keys k u e =
    let p = and_parts (nat_eq u.rel k.1) (same_values (key_of keys u) k.2) e in
    ap (λ n. made k.0 n (key_of keys u) k.3) (eqb-true u.rel k.1 p.0) ∙ ap (λ vs. made k.0 k.1 vs k.3) ((same_values-Decides (key_of keys u) k.2).0 p.1)

-- a row that is found is one of those that are listed, which pass a test
entry_of : (p : ValRow → Bool) (es : List ValRow) → AllByRecursion (IsUnder val_codec []) es → list_all p es ≡ true → (q : List ℕ)
    → is_some (find bytes_cmp q (map (entry_bytes val_codec) es)) ≡ true → (e : ValRow) × (IsUnder val_codec [] e) × (p e ≡ true) × (q ≡ val_bytes e.0)
entry_of p [] a h q s = absurd (false≢true s)
entry_of p (e ∷ es) a h q s =
    let k = and_parts (p e) (list_all p es) h in
    elim (cases_Bool (eq_by_cmp bytes_cmp q (val_bytes e.0))) [
      | inl b ↦ (e, a.0, k.0, same_place q (val_bytes e.0) b)
      | inr b ↦ entry_of p es a.1 k.1 q
          (ap is_some (sym (cond-false (eq_by_cmp bytes_cmp q (val_bytes e.0)) (Some (val_codec.row_bytes e.1)) (find bytes_cmp q (map (entry_bytes val_codec) es)) b)) ∙ s)
    ]

module _ (keys : ℕ → ℕ) (t : Tables) (worlds : Paths) (tuples : TupleRows) (ns : Names) (ts : Tuples) (paths : AreNamedWorlds worlds ns) (depths : Gives depth_codec t (depth_of ns))
    (has : HasTuples t ts) (named : (n : ℕ) → ts.tuple n ≡ item_of tuples n) where
  placed_keyed : (e : ValRow) → IsValKey e.0 → is_placed keys worlds tuples e ≡ true → IsKeyed keys t e.0
  placed_keyed e fits = by (item_of worlds e.0.0) refl (item_of tuples e.0.3) refl
    where
      by : (w : Option (List ℕ)) → item_of worlds e.0.0 ≡ w → (u : Option Tuple) → item_of tuples e.0.3 ≡ u → is_placed_by keys w u e ≡ true → IsKeyed keys t e.0
      by None p u q s = absurd (false≢true s)
      by (Some w) p None q s = absurd (false≢true s)
      by (Some w) p (Some u) q s = record {
        world = ap is_some (depths.rows e.0.0 fits.world) ∙ ap (λ o. is_some (option_map depth_codec.row_bytes (option_map (λ v. length v) o))) (paths.paths e.0.0 ∙ p);
        tuple = u;
        stands = record {
          in_grammar = subst (λ o. MatchOption o (Unit {0}) IsTupleRow) (named e.0.3 ∙ q) (has.tuples.written e.0.3 fits.tuple);
          found = has.tuples.rows e.0.3 fits.tuple ∙ ap (option_map tuple_bytes) (named e.0.3 ∙ q);
        };
        same = key_is keys e.0 u s;
      }

pub placed_rows_are_keyed : PlacedRowsAreKeyed
placed_rows_are_keyed keys t worlds tuples rows ns ts lengths paths depths has named h = record {
  lengths = lengths;
  each = λ k v s.
      let e = entry_of (is_placed keys worlds tuples) rows h.under.each h.placed (val_bytes k) (sym (ap is_some (h.under.found (val_bytes k) refl)) ∙ s) in
      subst (IsKeyed keys t) (sym (vals_are_one k e.0.0 v e.1.key e.3)) (placed_keyed keys t worlds tuples ns ts paths depths has named e.0 e.1.key e.2);
}
