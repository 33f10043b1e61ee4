-- Changes of rows leave all other tables as they were.
use Rattle.std.proofs.Common.{◌≡◌, ◌∙◌, ℕ, Bool, true, nat_eq, List, [], ◌∷◌, Option, cond, refl, ap, sym, subst}
use Rattle.std.specs.Option.{option_map}
use Rattle.std.specs.Ordering.{eq_by_cmp}
use Rattle.std.specs.FinMap as tables
use Rattle.std.proofs.lemmas.Bool.{false≢true, false_from_ne_true}
use Rattle.bdb_keep.specs.Tables.{Tables, bytes_cmp}
use Rattle.bdb_keep.proofs.RowsLemmas.{same_place}
use Rattle.bdb_tables.specs.Codec.{Codec, place}
use Rattle.bdb_tables.specs.InUse.{ValKey, val_codec}
use Rattle.bdb_tables.specs.Marks.{Mark}
use Rattle.bdb_tables.specs.Writes.{with_change, with_changes}
use Rattle.bdb_tables.proofs.WriteLemmas.{get_after_change}
use Rattle.bdb_val.specs.Others.{is_in, SamePlacesBut}

-- a change is in its table alone
change_same : {Key Row : Type 0} (d : Codec Key Row) (test : ℕ → Bool) (t : Tables) (x : Key × Option Row) → test d.number ≡ true → SamePlacesBut test t (with_change d t x)
change_same d test t x here q out =
    get_after_change d t x q
    ∙ ap (λ b. cond b (option_map d.row_bytes x.1) (tables.get t q))
    (false_from_ne_true (eq_by_cmp bytes_cmp q (place d x.0)) (λ e. false≢true (sym out ∙ ap (is_in test) (same_place q (place d x.0) e) ∙ here)))

changes_same : {Key Row : Type 0} (d : Codec Key Row) (test : ℕ → Bool) (t : Tables) (xs : List (Key × Option Row)) → test d.number ≡ true → SamePlacesBut test t (with_changes d t xs)
changes_same d test t [] here q out = refl
changes_same d test t (x ∷ xs) here q out = changes_same d test (with_change d t x) xs here q out ∙ change_same d test t x here q out

-- a table is that of the rows of worlds
abbrev pub is_rows : ℕ → Bool
is_rows n = nat_eq n 11

pub made_same : (t u : Tables) (xs : List (ValKey × Option Mark)) → u ≡ with_changes val_codec t xs → SamePlacesBut is_rows t u
made_same t u xs e = subst (SamePlacesBut is_rows t) (sym e) (changes_same val_codec is_rows t xs refl)
