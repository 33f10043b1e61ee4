-- The least number that is not in use.
use Rattle.std.proofs.Common.{◌≡◌, ◌∙◌, ℕ, ◌<◌, true, false, List, refl, ap, sym, inl, inr, arith, length, Option, Some, None}
use Rattle.std.specs.Option.{option_map, is_some}
use Rattle.std.specs.Ordering.{is_le}
use Rattle.std.specs.FinMap as tables
use Rattle.std.proofs.lemmas.Bool.{false≢true, cases_lt}
use Rattle.bdb_base.proofs.OptionLemmas.{some_of}
use Rattle.bdb_base.proofs.Numbers.{number_le}
use Rattle.bdb_keep.specs.Tables.{Tables}
use Rattle.bdb_key.specs.Bytes.{num_bytes}
use Rattle.bdb_key.specs.Grammar.{IsNum}
use Rattle.bdb_tables.specs.Codec.{HasFirst, place}
use Rattle.bdb_tables.specs.Gaps.{IsFirstGap}
use Rattle.bdb_tables.specs.InUse.{depth_codec}
use Rattle.bdb_tables.specs.Names.{path_of, depth_of}
use Rattle.bdb_tables.specs.States.{HoldsStates}
use Rattle.bdb_names.proofs.CountLemmas.{AllBelow, none_missing}
use Rattle.bdb_worlds.specs.Free.{FindsFree}
use Rattle.bdb_worlds.specs.Holding.{Worlds}

is_there : (o : Option ℕ) → is_some (option_map num_bytes o) ≡ is_some o
is_there None = refl
is_there (Some x) = refl

has_path : (o : Option (List ℕ)) → is_some (option_map (λ (w : List ℕ). length w) o) ≡ is_some o
has_path None = refl
has_path (Some w) = refl

module _ (s : Worlds) (t : Tables) (h : HoldsStates s.users s.names t) where
  -- a number has a row exactly where it stands for a path
  row_is : (k : ℕ) → IsNum k → is_some (tables.get t (place depth_codec k)) ≡ is_some (path_of s.names k)
  row_is k fits = ap is_some (h.tables.depth.rows k fits) ∙ is_there (depth_of s.names k) ∙ has_path (path_of s.names k)

  named_fits : (k : ℕ) → is_some (path_of s.names k) ≡ true → IsNum k
  named_fits k e = let w = some_of (path_of s.names k) e in h.names.sized w.0 k (h.names.named k w.0 w.1)

  free_is : (o : Option (List ℕ)) → is_some o ≡ false → o ≡ None
  free_is None e = refl
  free_is (Some w) e = absurd (false≢true (sym e))

  pub is_free : (n : ℕ) → IsNum n → tables.get t (place depth_codec n) ≡ None → path_of s.names n ≡ None
  is_free n fits gone = free_is (path_of s.names n) (sym (row_is n fits) ∙ ap is_some gone)

-- no row from the count on: the count is the least free number
pub count_is_free : (t : Tables) (worlds low : ℕ) → IsNum worlds → HasFirst depth_codec t (λ key. is_le (depth_codec.key_cmp worlds key)) None → FindsFree t worlds low worlds
count_is_free t worlds low fits none = record {
  fits = fits;
  least = λ s h count below.
      let gone = none worlds fits (number_le worlds worlds (omega arith)) in
      let all_below : AllBelow (length s.names.used) s.names.used = λ k listed. elim (cases_lt k worlds) [
        | inl lt ↦ omega arith
        | inr ge ↦
            let path = sym (h.names.counted k) ∙ listed in
            let size = named_fits s t h k path in
            absurd (false≢true (ap is_some (sym (none k size (number_le worlds k ge))) ∙ row_is s t h k size ∙ path))
      ] in
      record {
        free = is_free s t h worlds fits gone;
        least = λ k lt. sym (h.names.counted k) ∙ none_missing s.names.used h.names.once all_below k (omega arith);
      };
}

-- the first number from `low` on that is no key of the table of depths
pub gap_is_free : (t u : Tables) (worlds low n : ℕ) → u ≡ t → IsFirstGap u depth_codec.number low n → FindsFree t worlds low n
gap_is_free t u worlds low n same gap = record {
  fits = gap.fits;
  least = λ s h count below. record {
    free = is_free s t h n gap.fits (ap (λ v. tables.get v (place depth_codec n)) (sym same) ∙ gap.free);
    least = λ k lt. elim (cases_lt k low) [
      | inl b ↦ below k b
      | inr b ↦ sym (row_is s t h k (fits_below k gap.fits lt)) ∙ ap (λ v. is_some (tables.get v (place depth_codec k))) (sym same) ∙ gap.least k b lt
    ];
  };
}
  where
    fits_below : (k : ℕ) → IsNum n → k < n → IsNum k
    fits_below k fits lt = omega arith
