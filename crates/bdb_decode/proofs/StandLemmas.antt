-- Tables stand for one base at most, which is of one of two formats.
use Rattle.std.proofs.Common.{◌≡◌, ◌∙◌, ℕ, [], Some, refl, ap, sym, inl, inr, arith}
use Rattle.std.specs.FinMap as tables
use Rattle.std.specs.FinMap.{get-from_entries}
use Rattle.std.proofs.lemmas.Cmp.{nat_list_cmp_total}
use Rattle.bdb_former.specs.Respelled.{respelled}
use Rattle.bdb_keep.specs.Tables.{Tables}
use Rattle.bdb_tables.specs.Codec.{place}
use Rattle.bdb_tables.specs.InUse.{meta_codec}
use Rattle.bdb_tables.specs.InUseLaws.{number_rows_are_one}
use Rattle.bdb_tables.proofs.WriteLemmas.{gives_one}
use Rattle.bdb_update.proofs.OneStored.{stored_base_is_one}
use Rattle.bdb_catalog.specs.Opening.{StandFor}
use Rattle.bdb_entries.specs.Format.{HasFormat}
use Rattle.bdb_decode.specs.Laws.{OneBaseAtMost, OthersStandForNone}

-- tables with no row have no row of the format
pub no_format : (t : Tables) (n : ℕ) → t ≡ tables.empty → HasFormat t n → ⊥
no_format t n e h =
    let none = sym (get-from_entries nat_list_cmp_total [] (place meta_codec tt)) ∙ ap (λ u. tables.get u (place meta_codec tt)) (sym e) ∙ h.rows tt tt in absurd cc

-- tables have one format at most
pub one_format : (t : Tables) (m n : ℕ) → HasFormat t m → HasFormat t n → m ≡ n
one_format t m n a b = let same : Some m ≡ Some n = gives_one meta_codec number_rows_are_one t (λ _. Some m) (λ _. Some n) a b tt tt in cc

-- tables of this format are not of the one before it
pub not_both : (t : Tables) → HasFormat t 3 → HasFormat t 2 → ⊥
not_both t a b = apart 3 2 refl refl (one_format t 3 2 a b)
  where
    apart : (m n : ℕ) → m ≡ 3 → n ≡ 2 → m ≡ n → ⊥
    apart m n three two same = omega arith

pub one_base_at_most : OneBaseAtMost
one_base_at_most t a b p q = by p q
  where
    by : StandFor t a → StandFor t b → a ≡ b
    by (inl p) (inl q) = stored_base_is_one t a b p.stored q.stored p.valid q.valid
    by (inl p) (inr (inl q)) = absurd (no_format t 3 q.0 p.stored.stored.format)
    by (inl p) (inr (inr q)) = absurd (not_both t p.stored.stored.format q.format)
    by (inr (inl p)) (inl q) = absurd (no_format t 3 p.0 q.stored.stored.format)
    by (inr (inl p)) (inr (inl q)) = p.1 ∙ sym q.1
    by (inr (inl p)) (inr (inr q)) = absurd (no_format t 2 p.0 q.format)
    by (inr (inr p)) (inl q) = absurd (not_both t q.stored.stored.format p.format)
    by (inr (inr p)) (inr (inl q)) = absurd (no_format t 2 q.0 p.format)
    by (inr (inr p)) (inr (inr q)) = stored_base_is_one (respelled t) a b p.stored.stored q.stored.stored p.stored.valid q.stored.valid

pub others_stand_for_none : OthersStandForNone
others_stand_for_none t n b h other former s = by s
  where
    by : StandFor t b → ⊥
    by (inl p) = other (one_format t n 3 h p.stored.stored.format)
    by (inr (inl p)) = no_format t n p.0 h
    by (inr (inr p)) = former (one_format t n 2 h p.format)
