-- What tables are: those of a base, of another format, or damaged.
use Rattle.std.proofs.Common.{◌≡◌, ◌≤◌, ◌∙◌, ℕ, Bool, true, false, List, [], ◌∷◌, Option, Some, None, refl, ap, sym, subst, inl, inr}
use Rattle.std.specs.Bool.{MatchBool}
use Rattle.std.specs.FinMap as tables
use Rattle.bdb_base.specs.Bases.{Contents}
use Rattle.bdb_base.proofs.OptionLemmas.{none_is_some}
use Rattle.bdb_catalog.specs.Bases.{StoresValid}
use Rattle.bdb_catalog.specs.Opening.{StandFor, StoredFormerly}
use Rattle.bdb_former.specs.Respelled.{respelled}
use Rattle.bdb_keep.specs.Tables.{LieInTables, Tables}
use Rattle.bdb_keep.proofs.Gets.{get_empty, tables_from_gets}
use Rattle.bdb_tables.specs.Grammar.{InGrammar}
use Rattle.bdb_tables.specs.InUse.{meta_codec}
use Rattle.bdb_update.proofs.GrammarLemmas.{stored_is_in_grammar}
use Rattle.bdb_entries.specs.Format.{HasFormat, IsFormatDamaged}
use Rattle.bdb_entries.specs.Reading.{IsBare, OthersAreBare}
use Rattle.bdb_decode.specs.Opening.{AreDamaged, HaveOtherFormat}
use Rattle.bdb_decode.specs.Parts.{AreFormed, StoreNone}
use Rattle.bdb_decode.proofs.StandLemmas.{no_format, not_both, one_format, others_stand_for_none}

-- ---- tables with no row

pub all_empty : (t : Tables) → LieInTables t → ((n : ℕ) → 1 ≤ n → n ≤ 15 → IsBare t n) → t ≡ tables.empty
all_empty t lie bare = tables_from_gets t tables.empty (λ q. there q (tables.get t q) refl ∙ sym (get_empty q))
  where
    there : (q : List ℕ) (o : Option (List ℕ)) → tables.get t q ≡ o → tables.get t q ≡ None
    there q None e = e
    there [] (Some r) e = absurd (lie [] r e)
    there (n ∷ k) (Some r) e = let p = lie (n ∷ k) r e in bare n p.0 p.1 k

pub empty_bare : (t : Tables) (n : ℕ) → t ≡ tables.empty → IsBare t n
empty_bare t n e k = ap (λ u. tables.get u (n ∷ k)) e ∙ get_empty (n ∷ k)

-- ---- formats

bare_format : (t : Tables) (n : ℕ) → IsBare t 1 → HasFormat t n → ⊥
bare_format t n bare h = none_is_some (meta_codec.row_bytes n) (sym (bare (meta_codec.key_bytes tt)) ∙ h.rows tt tt)

-- tables that are not empty stand only for what they store, in this format or in the one before it
not_empty : (t : Tables) → (t ≡ tables.empty → ⊥) → StoreNone t → ((b : Contents) → StoredFormerly t b → ⊥) → (b : Contents) → StandFor t b → ⊥
not_empty t some none former b s = by s
  where
    by : StandFor t b → ⊥
    by (inl k) = none b k
    by (inr (inl e)) = some e.0
    by (inr (inr k)) = former b k

pub bare_damaged : (t : Tables) → (t ≡ tables.empty → ⊥) → IsBare t 1 → AreDamaged t
bare_damaged t some bare = record {
  none = not_empty t some (λ b s. bare_format t 3 bare s.stored.stored.format) (λ b s. bare_format t 2 bare s.format);
  format = λ n h. absurd (bare_format t n bare h);
}

pub format_damaged : (t : Tables) → IsFormatDamaged t → AreDamaged t
format_damaged t h = record {
  none = not_empty t (λ e. h.some (empty_bare t 1 e)) (λ b s. h.none 3 s.stored.stored.format) (λ b s. h.none 2 s.format);
  format = λ n has. absurd (h.none n has);
}

pub other_format : (t : Tables) (n : ℕ) → HasFormat t n → (n ≡ 3 → ⊥) → (n ≡ 2 → ⊥) → HaveOtherFormat t n
other_format t n h other former = record { has = h; other = other; former = former; none = λ b s. others_stand_for_none t n b h other former s }

pub base_damaged : (t : Tables) → HasFormat t 3 → StoreNone t → AreDamaged t
base_damaged t h none = record {
  none = not_empty t (λ e. no_format t 3 e h) none (λ b s. not_both t h s.format);
  format = λ n has. inr (one_format t n 3 has h);
}

-- tables of the format before this one that, respelled, store no base
pub former_damaged : (t u : Tables) → u ≡ respelled t → HasFormat t 2 → StoreNone u → AreDamaged t
former_damaged t u same h none = record {
  none = not_empty t (λ e. no_format t 2 e h) (λ b s. not_both t s.stored.stored.format h) (λ b s. none b (subst (λ x. StoresValid x b) (sym same) s.stored));
  format = λ n has. inl (one_format t n 2 has h);
}

-- ---- the form

grammar_none : (t : Tables) → (InGrammar t → ⊥) → StoreNone t
grammar_none t h = λ b s. h (stored_is_in_grammar t b s.stored)

pub formed_now : (t u : Tables) (b : Bool) → u ≡ t → HasFormat t 3 → OthersAreBare t → MatchBool b (InGrammar u) (InGrammar u → ⊥) → MatchBool b (AreFormed t) (StoreNone t)
formed_now t u true same f o h = record { format = f; grammar = subst InGrammar same h; others = o }
formed_now t u false same f o h = grammar_none t (λ k. h (subst InGrammar (sym same) k))
