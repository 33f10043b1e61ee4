-- Places that are set one after the other.
use Rattle.std.proofs.Common.{◌≡◌, ◌⊎◌, inl, inr, ℕ, zero, suc, ◌+◌, Bool, true, false, cond, List, [], ◌∷◌, ◌++◌, length, take, slice_get, Option, Some, Result, Ok, Err, refl, sym, ap, subst, ◌∙◌, arith}
use Rattle.std.specs.Prelude.{OnOk}
use Rattle.std.specs.Ordering.{eq_by_cmp}
use Rattle.std.specs.FinMap as fin
use Rattle.std.proofs.lemmas.Bool.{both_ways}
use Rattle.std.proofs.lemmas.Cmp.{nat_list_cmp_total, eq_by_cmp_equiv}
use Rattle.sqlite_rules.specs.Lists.{Has}
use Rattle.sqlite_rules.proofs.ListLemmas.{has_left, has_right}
use Rattle.sqlite.specs.State.{State}
use Rattle.bdb_memory.specs.StoreContents.{written}
use Rattle.bdb_keep.specs.Tables.{Tables, bytes_cmp, set_at}
use Rattle.bdb_keep.proofs.RowsLemmas.{get-set_at, same_place, set_at-same}
use Rattle.bdb_sql.specs.Rows.{TreesHave}
use Rattle.bdb_sql.specs.Written.{HasTable, SetsPlace, SetsPlaces, Turns}

written_push : (ps : List (List ℕ)) (p : List ℕ) (now t : Tables) → written (ps ++ p ∷ []) now t ≡ set_at (written ps now t) p (fin.get now p)
written_push [] p now t = refl
written_push (q ∷ ps) p now t = written_push ps p now (set_at t q (fin.get now q))

take_next : (ps : List (List ℕ)) (at : ℕ) (p : List ℕ) → slice_get ps at ≡ Some p → take (suc at) ps ≡ take at ps ++ p ∷ []
take_next [] at p h = absurd cc
take_next (q ∷ ps) zero p h = let same : q ≡ p = cc in ap (λ x. x ∷ []) same
take_next (q ∷ ps) (suc at) p h = ap (λ l. q ∷ l) (take_next ps at p h)

-- a place that is set to what `now` has there has just that, and a place that had it has it still
set_as : (t now : Tables) (p q : List ℕ) → (q ≡ p) ⊎ (fin.get t q ≡ fin.get now q) → fin.get (set_at t p (fin.get now p)) q ≡ fin.get now q
set_as t now p q h = get-set_at t p (fin.get now p) q ∙ go (eq_by_cmp bytes_cmp q p) refl h
  where
    go : (b : Bool) → eq_by_cmp bytes_cmp q p ≡ b → (q ≡ p) ⊎ (fin.get t q ≡ fin.get now q) → cond b (fin.get now p) (fin.get t q) ≡ fin.get now q
    go true e _ = ap (fin.get now) (sym (same_place q p e))
    go false e (inr same) = same
    go false e (inl same) = absurd (both_ways _ e (ap (λ x. eq_by_cmp bytes_cmp x p) same ∙ (eq_by_cmp_equiv nat_list_cmp_total).refl p))

-- each of these places has the row that `now` has there
written_has : (ps : List (List ℕ)) (now t : Tables) (q : List ℕ) → Has ps q ⊎ (fin.get t q ≡ fin.get now q) → fin.get (written ps now t) q ≡ fin.get now q
written_has [] now t q (inl none) = absurd none
written_has [] now t q (inr same) = same
written_has (p ∷ ps) now t q (inl (inr later)) = written_has ps now (set_at t p (fin.get now p)) q (inl later)
written_has (p ∷ ps) now t q (inl (inl same)) = written_has ps now (set_at t p (fin.get now p)) q (inr (set_as t now p q (inl same)))
written_has (p ∷ ps) now t q (inr same) = written_has ps now (set_at t p (fin.get now p)) q (inr (set_as t now p q (inr same)))

module _ (all : List (List ℕ)) (at : ℕ) (now : Tables) (place : List ℕ) (is : slice_get all at ≡ Some place) where
  up : at + 1 ≡ suc at
  up = omega arith

  next_is : take (at + 1) all ≡ take at all ++ place ∷ []
  next_is = ap (λ n. take n all) up ∙ take_next all at place is

  -- one place more is set
  pub next_set : (row : Option (List ℕ)) (old mid new : State) → row ≡ fin.get now place → SetsPlaces (take at all) now old mid → SetsPlace place row mid new → SetsPlaces (take (at + 1) all) now old new
  next_set row old mid new row_is was set = record {
    table = set.table;
    rows = λ t are. subst (TreesHave new.now.trees)
        (ap (set_at (written (take at all) now t) place) row_is ∙ sym (written_push (take at all) place now t) ∙ ap (λ ps. written ps now t) (sym next_is))
        (set.rows (written (take at all) now t) (was.rows t are));
    committed = set.shows.committed_is ∙ was.committed;
    mode = set.shows.mode;
  }

  -- a place that was set already has its row
  pub sets_again : (old mid : State) → Has (take at all) place → SetsPlaces (take at all) now old mid → SetsPlaces (take (at + 1) all) now old mid
  sets_again old mid there was = record {
    table = was.table;
    rows = λ t are. subst (TreesHave mid.now.trees)
        (sym (set_at-same (written (take at all) now t) place (fin.get now place) (written_has (take at all) now t place (inl there))) ∙ sym (written_push (take at all) place now t)
        ∙ ap (λ ps. written ps now t) (sym next_is))
        (was.rows t are);
    committed = was.committed;
    mode = was.mode;
  }

  -- what was among the places so far is among them still, and so is this one
  pub still_among : (q : List ℕ) → Has (take at all) q → Has (take (at + 1) all) q
  still_among q h = subst (λ l. Has l q) (sym next_is) (has_left (take at all) (place ∷ []) q h)

  pub now_among : Has (take (at + 1) all) place
  now_among = subst (λ l. Has l place) (sym next_is) (has_right (take at all) (place ∷ []) place (inl refl))

-- all places were set over the rows that the table had
turns_all : (places : List (List ℕ)) (last kept : Tables) (old mid new : State) → written places kept last ≡ kept → HasTable old mid → SetsPlaces places kept mid new → Turns last kept old new
turns_all places last kept old mid new all made set = record {
  table = set.table;
  rows = λ stores. subst (TreesHave new.now.trees) all (set.rows last (made.rows last stores));
  committed = set.committed ∙ made.committed;
  mode = set.mode;
}

-- where writing them went well
pub turns_if : {V E : Type 0} (r : Result V E) (places : List (List ℕ)) (last kept : Tables) (old mid new : State) → written places kept last ≡ kept → HasTable old mid → OnOk r (SetsPlaces places kept mid new)
    → OnOk r (Turns last kept old new)
turns_if (Ok v) places last kept old mid new all made set = turns_all places last kept old mid new all made set
turns_if (Err e) places last kept old mid new all made set = tt

-- where nothing was changed the rows are those last committed
pub none_written : (places : List (List ℕ)) (last kept : Tables) → length places ≡ 0 → written places kept last ≡ kept → last ≡ kept
none_written [] last kept none all = all
none_written (p ∷ places) last kept none all = absurd (omega (arith, none))
