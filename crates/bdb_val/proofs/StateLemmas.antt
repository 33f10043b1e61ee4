-- What the code that settles a group of one world owes.
use Rattle.std.proofs.Common.{◌≡◌, ◌∙◌, ℕ, suc, Bool, true, false, ◌||◌, List, [], ◌∷◌, length, filter, Option, Some, None, MatchOption, cond, inl, inr, is_some, map, refl, ap, sym, subst}
use Rattle.std.specs.List.{list_any, flat_map, AllByRecursion}
use Rattle.std.specs.Ordering.{eq_by_cmp}
use Rattle.std.specs.Option.{option_map}
use Rattle.std.specs.FinMap as tables
use Rattle.std.proofs.lemmas.Bool.{cases_Bool, cond-false}
use Rattle.bdb_base.specs.declared.kinds.Value.{Value}
use Rattle.bdb_base.proofs.AllLemmas.{all_append}
use Rattle.bdb_keep.specs.Tables.{Tables, bytes_cmp}
use Rattle.bdb_keep.proofs.RowsLemmas.{same_place}
use Rattle.bdb_key.specs.Grammar.{IsNum}
use Rattle.bdb_tables.specs.Codec.{HasAt, place}
use Rattle.bdb_tables.specs.GroupMarks.{group_bytes, in_group}
use Rattle.bdb_tables.specs.InUse.{ValKey, val_bytes, link_codec, tuple_codec, val_codec}
use Rattle.bdb_tables.specs.InUseLaws.{vals_are_one}
use Rattle.bdb_tables.specs.Marks.{Mark}
use Rattle.bdb_tables.specs.Spans.{AreUnder}
use Rattle.bdb_tables.specs.Writes.{IsChange, with_change, with_changes}
use Rattle.bdb_tables.proofs.WriteLemmas.{get_after_change, row_elsewhere}
use Rattle.bdb_val.specs.GroupChanges.{mark_under, is_explicit_plus, handed_down, group_change, own_change, new_change, group_changes, turns_at, comes_at, goes_at, TellsMarks}
use Rattle.bdb_val.specs.Reads.{AreTold, HaveTuples}
use Rattle.bdb_val.specs.Settling.{mark_in, same_mark}
use Rattle.bdb_val.specs.Steps.{turns_from, comes, goes, turns, is_new, is_gone, Tells}
use Rattle.bdb_val.specs.declared.stored.SettledWorld.{SettledWorld}
use Rattle.bdb_val.specs.declared.stored.StoredRow.{StoredRow}
use Rattle.bdb_val.proofs.GroupLemmas.{mark_told}
use Rattle.bdb_val.proofs.SettlingLemmas.{all_flat_map}
use Rattle.bdb_val.proofs.ToldLemmas.{Stands, entries_stand}
use Rattle.bdb_val.proofs.RealLemmas.{tail_same}

-- ---- changes of a group

change_each : (P : ℕ × Option Mark → Type 0) (tid : ℕ) (next : Option Mark) (b : Bool) → P (tid, next) → AllByRecursion P (cond b [] ((tid, next) ∷ []))
change_each P tid next true p = tt
change_each P tid next false p = (p, tt)

cond_each : (P : ℕ × Option Mark → Type 0) (xs : List (ℕ × Option Mark)) (b : Bool) → AllByRecursion P xs → AllByRecursion P (cond b [] xs)
cond_each P xs true a = tt
cond_each P xs false a = a

-- what holds of the change of each row to any mark holds of the changes that settle a group
group_each : (own from : List (ℕ × Mark)) (Q : ℕ → Type 0) → AllByRecursion (λ e. Q e.0) own → AllByRecursion (λ e. Q e.0) from → AllByRecursion (λ x. Q x.0) (group_changes own from)
group_each own from Q a b =
    let P : ℕ × Option Mark → Type 0 = λ x. Q x.0 in
    let barred = list_any is_explicit_plus own in
    all_append P (flat_map (own_change barred from) own) (flat_map (new_change barred own) from)
    (all_flat_map (λ (e : ℕ × Mark). Q e.0) P (own_change barred from) (λ e q.
    let next = handed_down barred (mark_under from e.0) in
    cond_each P (group_change e.0 (Some e.1) next) e.1.1 (change_each P e.0 next (same_mark (Some e.1) next) q)) own a)
    (all_flat_map (λ (e : ℕ × Mark). Q e.0) P (new_change barred own) (λ e q.
    let next = handed_down barred (Some e.1) in
    cond_each P (group_change e.0 None next) (is_some (mark_under own e.0)) (change_each P e.0 next (same_mark None next) q)) from b)

-- what holds of keys holds of the numbers to which they are given, and back
all_keyed : {X : Type 0} (wid rel : ℕ) (v : List Value) (Q : ℕ → Type 0) (xs : List (ℕ × X)) → AllByRecursion (λ x. Q x.0) xs → AllByRecursion (λ (e : ValKey × X). Q e.0.3) (map (in_group wid rel v) xs)
all_keyed wid rel v Q [] a = tt
all_keyed wid rel v Q (x ∷ xs) a = (a.0, all_keyed wid rel v Q xs a.1)

all_numbered : {X : Type 0} (wid rel : ℕ) (v : List Value) (Q : ℕ → Type 0) (xs : List (ℕ × X)) → AllByRecursion (λ (e : ValKey × X). Q e.0.3) (map (in_group wid rel v) xs) → AllByRecursion (λ x. Q x.0) xs
all_numbered wid rel v Q [] a = tt
all_numbered wid rel v Q (x ∷ xs) a = (a.0, all_numbered wid rel v Q xs a.1)

-- ---- each row has its tuple still

-- a tuple's number has a row
abbrev pub HasTuple : Tables → ℕ → Type 0
HasTuple t tid = is_some (tables.get t (place tuple_codec tid)) ≡ true

tuple_stays : (t : Tables) (x : ValKey × Option Mark) (tid : ℕ) → tables.get (with_change val_codec t x) (place tuple_codec tid) ≡ tables.get t (place tuple_codec tid)
tuple_stays t x tid = row_elsewhere tuple_codec val_codec (λ e. cc) t x (tuple_codec.key_bytes tid)

one_change : (t : Tables) (x : ValKey × Option Mark) → HaveTuples t → IsChange val_codec x → HasTuple t x.0.3 → HaveTuples (with_change val_codec t x)
one_change t x h c r k v s = ap is_some (tuple_stays t x k.3) ∙ elim (cases_Bool (eq_by_cmp bytes_cmp (place val_codec k) (place val_codec x.0))) [
  | inl e ↦
      let same : k ≡ x.0 = vals_are_one k x.0 v c.key (tail_same 11 (val_bytes k) (val_bytes x.0) (same_place (place val_codec k) (place val_codec x.0) e)) in
      ap (λ (z : ValKey). is_some (tables.get t (place tuple_codec z.3))) same ∙ r
  | inr e ↦ h k v (ap is_some (sym (get_after_change val_codec t x (place val_codec k)
      ∙ cond-false (eq_by_cmp bytes_cmp (place val_codec k) (place val_codec x.0)) (option_map val_codec.row_bytes x.1) (tables.get t (place val_codec k)) e)) ∙ s)
]

pub changes_keep : (cs : List (ValKey × Option Mark)) (t : Tables) → HaveTuples t → AllByRecursion (IsChange val_codec) cs → AllByRecursion (λ x. HasTuple t x.0.3) cs
    → HaveTuples (with_changes val_codec t cs)
changes_keep [] t h c r = h
changes_keep (x ∷ xs) t h c r = changes_keep xs (with_change val_codec t x) (one_change t x h c.0 r.0) c.1 (later xs r.1)
  where
    later : (ys : List (ValKey × Option Mark)) → AllByRecursion (λ y. HasTuple t y.0.3) ys → AllByRecursion (λ y. HasTuple (with_change val_codec t x) y.0.3) ys
    later [] a = tt
    later (y ∷ ys) a = (ap is_some (tuple_stays t x y.0.3) ∙ a.0, later ys a.1)

-- rows that are read have tuples
under_tuples : (t : Tables) (prefix : List ℕ) (es : List (ValKey × Mark)) → HaveTuples t → AreUnder val_codec t prefix es → AllByRecursion (λ e. HasTuple t e.0.3) es
under_tuples t prefix es h u = go es (entries_stand t prefix es u)
  where
    go : (ds : List (ValKey × Mark)) → AllByRecursion (Stands t) ds → AllByRecursion (λ e. HasTuple t e.0.3) ds
    go [] a = tt
    go (d ∷ ds) a = (h d.0 a.0.0 a.0.1, go ds a.1)

-- after the changes that settle a group each row has its tuple
pub group_keeps_tuples : (t u : Tables) (wid rel : ℕ) (v : List Value) (link : Option ℕ) (own from : List (ℕ × Mark)) → HaveTuples t
    → AreUnder val_codec t (group_bytes wid rel v) (map (in_group wid rel v) own) → MatchOption link (from ≡ []) (λ m. AreUnder val_codec t (group_bytes m rel v) (map (in_group m rel v) from))
    → AllByRecursion (IsChange val_codec) (map (in_group wid rel v) (group_changes own from)) → u ≡ with_changes val_codec t (map (in_group wid rel v) (group_changes own from)) → HaveTuples u
group_keeps_tuples t u wid rel v link own from h a b c w =
    subst HaveTuples (sym w) (changes_keep (map (in_group wid rel v) (group_changes own from)) t h c
    (all_keyed wid rel v (HasTuple t) (group_changes own from)
    (group_each own from (HasTuple t) (all_numbered wid rel v (HasTuple t) own (under_tuples t (group_bytes wid rel v) (map (in_group wid rel v) own) h a)) (over link b))))
  where
    over : (o : Option ℕ) → MatchOption o (from ≡ []) (λ m. AreUnder val_codec t (group_bytes m rel v) (map (in_group m rel v) from)) → AllByRecursion (λ e. HasTuple t e.0) from
    over None e = subst (AllByRecursion (λ e. HasTuple t e.0)) (sym e) tt
    over (Some m) e = all_numbered m rel v (HasTuple t) from (under_tuples t (group_bytes m rel v) (map (in_group m rel v) from) h e)

-- a link that is read is a number
pub fits_at : (t : Tables) (wid : ℕ) (link : Option ℕ) → HasAt link_codec t wid link → MatchOption link (Unit {0}) IsNum
fits_at t wid None h = tt
fits_at t wid (Some m) h = h.in_grammar

-- ---- what is told

-- what is told by numbers is told of the rows with their tuples
pub group_tells : (t : Tables) (wid rel : ℕ) (v : List Value) (es : List (ℕ × Mark)) (xs : List StoredRow) (made : List (ℕ × Option Mark)) (s : SettledWorld) → AreTold t (map (in_group wid rel v) es) xs
    → TellsMarks (mark_under es) made s → Tells (mark_in xs) (map (in_group wid rel v) made) s
group_tells t wid rel v es xs made s a h = record {
  turned = h.turned ∙ any_keyed (turns_at (mark_under es)) (turns (mark_in xs)) (λ x. ap (λ m. turns_from m x.1) (mark_told t wid rel v es xs a x.0)) made;
  put = h.put ∙ count_keyed (comes_at (mark_under es)) (is_new (mark_in xs)) (λ x. ap (λ m. comes m x.1) (mark_told t wid rel v es xs a x.0)) made;
  taken = h.taken ∙ count_keyed (goes_at (mark_under es)) (is_gone (mark_in xs)) (λ x. ap (λ m. goes m x.1) (mark_told t wid rel v es xs a x.0)) made;
}
  where
    any_keyed : (p : ℕ × Option Mark → Bool) (q : ValKey × Option Mark → Bool) → ((x : ℕ × Option Mark) → p x ≡ q (in_group wid rel v x)) → (cs : List (ℕ × Option Mark))
        → list_any p cs ≡ list_any q (map (in_group wid rel v) cs)
    any_keyed p q e [] = refl
    any_keyed p q e (c ∷ cs) = ap (λ b. b || list_any p cs) (e c) ∙ ap (λ b. q (in_group wid rel v c) || b) (any_keyed p q e cs)

    count_keyed : (p : ℕ × Option Mark → Bool) (q : ValKey × Option Mark → Bool) → ((x : ℕ × Option Mark) → p x ≡ q (in_group wid rel v x)) → (cs : List (ℕ × Option Mark))
        → length (filter p cs) ≡ length (filter q (map (in_group wid rel v) cs))
    count_keyed p q e [] = refl
    count_keyed p q e (c ∷ cs) = ap (λ b. length (cond b (c ∷ filter p cs) (filter p cs))) (e c) ∙ step (q (in_group wid rel v c)) (count_keyed p q e cs)
      where
        step : (b : Bool) → length (filter p cs) ≡ length (filter q (map (in_group wid rel v) cs))
            → length (cond b (c ∷ filter p cs) (filter p cs)) ≡ length (cond b (in_group wid rel v c ∷ filter q (map (in_group wid rel v) cs)) (filter q (map (in_group wid rel v) cs)))
        step true k = ap suc k
        step false k = k
