-- Numbers that are tried one after the other, up to the first that is no key.
use Rattle.std.proofs.Common.{◌≡◌, ◌∙◌, ℕ, ◌+◌, ◌≤◌, ◌<◌, Bool, true, false, ◌∷◌, ap, sym, inl, inr, arith}
use Rattle.std.specs.Option.{is_some}
use Rattle.std.specs.FinMap as tables
use Rattle.std.proofs.lemmas.Bool.{cases_lt}
use Rattle.bdb_base.proofs.OptionLemmas.{none_there}
use Rattle.bdb_key.specs.Bytes.{num_bytes}
use Rattle.bdb_key.specs.Grammar.{IsNum}
use Rattle.bdb_keep.specs.Tables.{Tables}
use Rattle.bdb_tables.specs.Gaps.{IsFirstGap}

-- a number is a key of a table
abbrev pub is_number_of : Tables → ℕ → ℕ → Bool
is_number_of t tab k = is_some (tables.get t (tab ∷ num_bytes k))

-- each number of a range is a key, and so often was read
pub record AreTried (t : Tables) (tab low high before now : ℕ) : Type 0 where
  pub from : low ≤ high
  pub keys : (k : ℕ) → low ≤ k → k < high → is_number_of t tab k ≡ true
  pub reads : now + low ≤ before + high

pub none_tried : (t : Tables) (tab low before now : ℕ) → now ≡ before → AreTried t tab low low before now
none_tried t tab low before now e = record { from = omega arith; keys = λ k a b. absurd (omega arith); reads = omega arith }

pub one_tried : (t u : Tables) (tab low n past before now later : ℕ) (found : Bool) → past ≡ n + 1 → later ≤ now + 1 → u ≡ t → found ≡ true
    → AreTried t tab low n before now → is_number_of u tab n ≡ found → AreTried t tab low past before later
one_tried t u tab low n past before now later found e reads same there all here = record {
  from = omega (arith, all.from);
  keys = λ k a b. elim (cases_lt k n) [
    | inl lt ↦ all.keys k a lt
    | inr ge ↦ let one : k ≡ n = omega arith in ap (is_number_of t tab) one ∙ ap (λ v. is_number_of v tab n) (sym same) ∙ here ∙ there
  ];
  reads = omega (arith, all.reads);
}

pub gap_found : (t u : Tables) (tab low n before now : ℕ) (found : Bool) → IsNum n → u ≡ t → found ≡ false
    → AreTried t tab low n before now → is_number_of u tab n ≡ found → IsFirstGap t tab low n
gap_found t u tab low n before now found fits same out all here = record {
  fits = fits;
  from = all.from;
  free = none_there (tables.get t (tab ∷ num_bytes n)) (ap (λ v. is_number_of v tab n) (sym same) ∙ here ∙ out);
  least = all.keys;
}
