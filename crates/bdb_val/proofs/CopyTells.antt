-- What copying and clearing worlds tells of the places where the tables differ.
use Rattle.std.proofs.Common.{◌≡◌, ◌≢◌, ◌∙◌, ℕ, ◌<◌, ◌^◌, Bool, true, false, not, ◌||◌, List, [], ◌∷◌, ◌⊎◌, length, filter, Option, Some, None, cond, inl, inr, is_some, map, refl, ap, sym, subst, arith}
use Rattle.std.specs.List.{list_any, list_all, AllByRecursion}
use Rattle.std.specs.Option.{option_map}
use Rattle.std.specs.Ordering.{is_lt, is_eq, eq_by_cmp}
use Rattle.std.specs.FinMap as tables
use Rattle.std.proofs.lemmas.Bool.{false≢true, cases_Bool, and_parts, and_from, or_from, not_from_false, false_from_ne_true, cond-true, or_right}
use Rattle.bdb_base.specs.Bases.{are_distinct}
use Rattle.bdb_base.specs.Causes.{Rises}
use Rattle.bdb_base.specs.Same.{same_text}
use Rattle.bdb_base.specs.SameLemmas.{same_text-Decides}
use Rattle.bdb_base.specs.SortedSet.{ascending}
use Rattle.bdb_base.proofs.ListLemmas.{length_map}
use Rattle.bdb_keep.specs.Seen.{Seen}
use Rattle.bdb_keep.specs.Tables.{Tables, bytes_cmp}
use Rattle.bdb_key.specs.Grammar.{IsNum}
use Rattle.bdb_key.specs.Rows.{mark_bytes}
use Rattle.bdb_key.proofs.Forms.{tied}
use Rattle.bdb_tables.specs.Codec.{place}
use Rattle.bdb_tables.specs.Copies.{copied, removed}
use Rattle.bdb_tables.specs.Differences.{AreDifferences, AreReal}
use Rattle.bdb_tables.specs.InUse.{ValKey, IsValKey, val_bytes, val_codec}
use Rattle.bdb_tables.specs.InUseLaws.{vals_are_one}
use Rattle.bdb_tables.specs.Marks.{Mark}
use Rattle.bdb_tables.specs.Spans.{AreUnder, IsUnder, entry_cmp}
use Rattle.bdb_tables.specs.Writes.{with_change, with_changes}
use Rattle.bdb_tables.proofs.DifferenceLemmas.{changes_differ}
use Rattle.bdb_tables.proofs.WriteLemmas.{get_after_change}
use Rattle.bdb_val.specs.Counts.{has_none, TellsDifferences}
use Rattle.bdb_val.specs.Reads.{world_prefix}
use Rattle.bdb_val.specs.Steps.{counted}
use Rattle.bdb_val.specs.WorldCopies.{key_in, IsBareWorld, TellsCopy}
use Rattle.bdb_val.proofs.CopyLemmas.{IsFoundIn, not_below_itself, each_found, key_in_fits, key_in_own}
use Rattle.bdb_val.proofs.PlaceLemmas.{filter_whole, filter_nothing}
use Rattle.bdb_val.proofs.ReadLemmas.{world_of_key}
use Rattle.bdb_val.proofs.RealLemmas.{tail_same}
use Rattle.bdb_val.proofs.TreeLemmas.{at_place, tells_from}

counted_itself : (n : ℕ) → n < 2 ^ 64 → n ≡ counted n
counted_itself n le = omega arith

counted_none : 0 ≡ counted 0
counted_none = omega arith

none_is : (t : Tables) (p : List ℕ) → tables.get t p ≡ None → has_none t p ≡ true
none_is t p e = ap (λ o. not (is_some o)) e

-- where there was none and something is another, there is one
some_is : (t u : Tables) (p : List ℕ) → tables.get t p ≡ None → (tables.get t p ≢ tables.get u p) → has_none u p ≡ false
some_is t u p e d = go (tables.get u p) refl
  where
    go : (o : Option (List ℕ)) → tables.get u p ≡ o → not (is_some (tables.get u p)) ≡ false
    go None f = absurd (d (e ∙ sym f))
    go (Some r) f = ap (λ o. not (is_some o)) f

all_both : {X : Type 0} (P Q R : X → Type 0) → ((x : X) → P x → Q x → R x) → (xs : List X) → AllByRecursion P xs → AllByRecursion Q xs → AllByRecursion R xs
all_both P Q R h [] a b = tt
all_both P Q R h (x ∷ xs) a b = (h x a.0 b.0, all_both P Q R h xs a.1 b.1)

all_mapped : {X Y : Type 0} (m : X → Y) (Q : X → Type 0) (P : Y → Type 0) → ((x : X) → Q x → P (m x)) → (xs : List X) → AllByRecursion Q xs → AllByRecursion P (map m xs)
all_mapped m Q P h [] a = tt
all_mapped m Q P h (x ∷ xs) a = (h x a.0, all_mapped m Q P h xs a.1)

module _ (t : Tables) (wid : ℕ) (n : IsNum wid) (es : List (ValKey × Mark)) (a : AreUnder val_codec t (world_prefix wid) es) where
  -- changes of keys that tell the rows' keys are at different places
  apart : (m : ValKey × Mark → ValKey × Option Mark) → ((e : ValKey × Mark) → IsValKey e.0 → IsValKey (m e).0) → ((e : ValKey × Mark) → e.0.0 ≡ wid → key_in wid (m e).0 ≡ e.0)
      → are_distinct (map at_place (map m es)) ≡ true
  apart m fits back = go es a.each a.sorted
    where
      none : (e : ValKey × Mark) → IsUnder val_codec (world_prefix wid) e → (ds : List (ValKey × Mark)) → AllByRecursion (IsUnder val_codec (world_prefix wid)) ds
          → list_all (λ d. is_lt (entry_cmp val_codec e d)) ds ≡ true → list_any (same_text (at_place (m e))) (map at_place (map m ds)) ≡ false
      none e u [] b s = refl
      none e u (d ∷ ds) b s =
          let p = and_parts (is_lt (entry_cmp val_codec e d)) (list_all (λ z. is_lt (entry_cmp val_codec e z)) ds) s in
          or_from (same_text (at_place (m e)) (at_place (m d))) (list_any (same_text (at_place (m e))) (map at_place (map m ds)))
          (false_from_ne_true (same_text (at_place (m e)) (at_place (m d))) (λ k.
          let same = tail_same 11 (val_bytes (m e).0) (val_bytes (m d).0) ((same_text-Decides (at_place (m e)) (at_place (m d))).0 k) in
          let one = vals_are_one (m e).0 (m d).0 (fits e u.key) (fits d b.0.key) same in
          let keys : e.0 ≡ d.0 = sym (back e (world_of_key wid n e.0 u.key u.begins)) ∙ ap (key_in wid) one ∙ back d (world_of_key wid n d.0 b.0.key b.0.begins) in
          not_below_itself (val_bytes e.0) (ap (λ z. is_lt (bytes_cmp (val_bytes e.0) (val_bytes z))) keys ∙ p.0)))
          (none e u ds b.1 p.1)

      go : (ds : List (ValKey × Mark)) → AllByRecursion (IsUnder val_codec (world_prefix wid)) ds → ascending (entry_cmp val_codec) ds ≡ true → are_distinct (map at_place (map m ds)) ≡ true
      go [] b s = refl
      go (d ∷ ds) b s =
          let p = and_parts (list_all (λ z. is_lt (entry_cmp val_codec d z)) ds) (ascending (entry_cmp val_codec) ds) s in
          and_from (not (list_any (same_text (at_place (m d))) (map at_place (map m ds)))) (are_distinct (map at_place (map m ds)))
          (not_from_false (list_any (same_text (at_place (m d))) (map at_place (map m ds))) (none d b.0 ds b.1 p.0)) (go ds b.1 p.1)

  -- each row is where its key says
  found : AllByRecursion (λ e. tables.get t (place val_codec e.0) ≡ Some (mark_bytes e.1)) es
  found = all_both (IsUnder val_codec (world_prefix wid)) (IsFoundIn es) (λ e. tables.get t (place val_codec e.0) ≡ Some (mark_bytes e.1)) (λ e u k. a.found (val_bytes e.0) u.begins ∙ k) es a.each (each_found es a.sorted)

  mapped_twice : (m : ValKey × Mark → ValKey × Option Mark) → length (map at_place (map m es)) ≡ length es
  mapped_twice m = length_map at_place (map m es) ∙ length_map m es

  -- ---- copying

  module _ (to : ℕ) (nt : IsNum to) (bare : IsBareWorld t to) where
    none_before : AllByRecursion (λ p. tables.get t p ≡ None) (map at_place (map (copied to) es))
    none_before = all_mapped at_place (λ x. tables.get t (at_place x) ≡ None) (λ p. tables.get t p ≡ None) (λ x e. e) (map (copied to) es)
        (all_mapped (copied to) (IsUnder val_codec (world_prefix wid)) (λ x. tables.get t (at_place x) ≡ None) (λ e u. bare (key_in to e.0) (key_in_fits to e.0 nt u.key) refl) es a.each)

    copies_are_real : AreReal val_codec t (map (copied to) es)
    copies_are_real = record {
      apart = apart (copied to) (λ e v. key_in_fits to e.0 nt v) (λ e w. key_in_own wid e.0 w);
      each = all_mapped (copied to) (IsUnder val_codec (world_prefix wid)) (λ x. tables.get t (at_place x) ≢ option_map val_codec.row_bytes x.1)
          (λ e u k. none_some (mark_bytes (e.1.0, false)) (tables.get t (at_place (copied to e))) (bare (key_in to e.0) (key_in_fits to e.0 nt u.key) refl) k) es a.each;
    }
      where
        none_some : (r : List ℕ) (o : Option (List ℕ)) → o ≡ None → o ≡ Some r → ⊥
        none_some r o p q = cc

  -- ---- clearing

  removals_are_real : AreReal val_codec t (map removed es)
  removals_are_real = record {
    apart = apart removed (λ e v. v) (λ e w. key_in_own wid e.0 w);
    each = all_mapped removed (λ e. tables.get t (place val_codec e.0) ≡ Some (mark_bytes e.1)) (λ x. tables.get t (at_place x) ≢ option_map val_codec.row_bytes x.1)
        (λ e k none. some_none (mark_bytes e.1) (tables.get t (place val_codec e.0)) k none) es found;
  }
    where
      some_none : (r : List ℕ) (o : Option (List ℕ)) → o ≡ Some r → o ≡ None → ⊥
      some_none r o p q = cc

-- a place at which there is no row, or whose row is taken away, has none after rows were taken away
gone_after : (cs : List (ValKey × Option Mark)) (t : Tables) (q : List ℕ) → AllByRecursion (λ x. x.1 ≡ None) cs → ((tables.get t q ≡ None) ⊎ (list_any (same_text q) (map at_place cs) ≡ true))
    → tables.get (with_changes val_codec t cs) q ≡ None
gone_after [] t q a (inl e) = e
gone_after [] t q a (inr e) = absurd (false≢true e)
gone_after (x ∷ xs) t q a h = gone_after xs (with_change val_codec t x) q a.1 (elim (cases_Bool (same_text q (at_place x))) [
  | inl e ↦ inl (get_after_change val_codec t x q
      ∙ cond-true (eq_by_cmp bytes_cmp q (at_place x)) (option_map val_codec.row_bytes x.1) (tables.get t q) (ap is_eq (tied q (at_place x) ((same_text-Decides q (at_place x)).0 e)))
      ∙ ap (option_map val_codec.row_bytes) a.0)
  | inr e ↦ later h e
])
  where
    kept : (b : Bool) (r o : Option (List ℕ)) → r ≡ None → o ≡ None → cond b r o ≡ None
    kept true r o p q = p
    kept false r o p q = q

    later : (tables.get t q ≡ None) ⊎ (list_any (same_text q) (map at_place (x ∷ xs)) ≡ true) → same_text q (at_place x) ≡ false
        → (tables.get (with_change val_codec t x) q ≡ None) ⊎ (list_any (same_text q) (map at_place xs) ≡ true)
    later (inl e) f = inl (get_after_change val_codec t x q ∙ kept (eq_by_cmp bytes_cmp q (at_place x)) (option_map val_codec.row_bytes x.1) (tables.get t q) (ap (option_map val_codec.row_bytes) a.0) e)
    later (inr e) f = inr (sym (ap (λ b. b || list_any (same_text q) (map at_place xs)) f) ∙ e)

-- each place is among all
members : (ps : List (List ℕ)) → AllByRecursion (λ p. list_any (same_text p) ps ≡ true) ps
members ps = go ps ps (λ q e. e)
  where
    go : (qs all : List (List ℕ)) → ((q : List ℕ) → list_any (same_text q) qs ≡ true → list_any (same_text q) all ≡ true) → AllByRecursion (λ p. list_any (same_text p) all ≡ true) qs
    go [] all h = tt
    go (q ∷ qs) all h = (
      h q (ap (λ b. b || list_any (same_text q) qs) ((same_text-Decides q q).1 refl)),
      go qs all (λ r e. h r (or_right (same_text r q) (list_any (same_text r) qs) e)),
    )

-- ---- what the code owes

pub copy_tells : (old new : Seen) (from to n : ℕ) (es : List (ValKey × Mark)) → IsNum from → IsNum to → n < 2 ^ 64 → AreUnder val_codec old.kept (world_prefix from) es → n ≡ length es
    → new.kept ≡ with_changes val_codec old.kept (map (copied to) es) → Rises (length (map (copied to) es)) old.writes new.writes → TellsCopy old new to n
copy_tells old new from to n es nf nt le u many made rises bare =
    let cs = map (copied to) es in
    let places = map at_place cs in
    let differ : AreDifferences (tables.get old.kept) (tables.get new.kept) places = subst (λ v. AreDifferences (tables.get old.kept) (tables.get v) places) (sym made)
    (changes_differ val_codec old.kept cs (copies_are_real old.kept from nf es u to nt bare)) in
    let none = none_before old.kept from nf es u to nt bare in
    let came : length (filter (has_none old.kept) places) ≡ n =
    filter_whole (has_none old.kept) places (all_both (λ p. tables.get old.kept p ≡ None) (λ p. tables.get old.kept p ≡ None) (λ p. has_none old.kept p ≡ true) (λ p e _. none_is old.kept p e) places none none)
    ∙ mapped_twice old.kept from nf es u (copied to) ∙ sym many in
    let went : length (filter (has_none new.kept) places) ≡ 0 =
    filter_nothing (has_none new.kept) places (all_both (λ p. tables.get old.kept p ≡ None) (λ p. tables.get old.kept p ≢ tables.get new.kept p) (λ p. has_none new.kept p ≡ false)
    (λ p e d. some_is old.kept new.kept p e d) places none differ.each) in
    tells_from old new cs n 0 differ rises
    (counted_itself n le ∙ ap counted (sym came)) (counted_none ∙ ap counted (sym went))

pub clear_tells : (old new : Seen) (wid n : ℕ) (es : List (ValKey × Mark)) → IsNum wid → n < 2 ^ 64 → AreUnder val_codec old.kept (world_prefix wid) es → n ≡ length es
    → new.kept ≡ with_changes val_codec old.kept (map removed es) → Rises (length (map removed es)) old.writes new.writes → TellsDifferences old new 0 n
clear_tells old new wid n es nw le u many made rises =
    let cs = map removed es in
    let places = map at_place cs in
    let differ : AreDifferences (tables.get old.kept) (tables.get new.kept) places = subst (λ v. AreDifferences (tables.get old.kept) (tables.get v) places) (sym made)
    (changes_differ val_codec old.kept cs (removals_are_real old.kept wid nw es u)) in
    let nones : AllByRecursion (λ x. x.1 ≡ None) cs = all_mapped removed (IsUnder val_codec (world_prefix wid)) (λ x. x.1 ≡ None) (λ e _. refl) es u.each in
    let none = members places in
    let went : length (filter (has_none new.kept) places) ≡ n =
    filter_whole (has_none new.kept) places (all_both (λ p. list_any (same_text p) places ≡ true) (λ p. list_any (same_text p) places ≡ true) (λ p. has_none new.kept p ≡ true)
    (λ p e _. none_is new.kept p (ap (λ v. tables.get v p) made ∙ gone_after cs old.kept p nones (inr e))) places none none)
    ∙ mapped_twice old.kept wid nw es u removed ∙ sym many in
    let came : length (filter (has_none old.kept) places) ≡ 0 =
    filter_nothing (has_none old.kept) places (all_both (λ p. list_any (same_text p) places ≡ true) (λ p. tables.get old.kept p ≢ tables.get new.kept p) (λ p. has_none old.kept p ≡ false)
    (λ p e d. some_is new.kept old.kept p (ap (λ v. tables.get v p) made ∙ gone_after cs old.kept p nones (inr e)) (λ k. d (sym k))) places none differ.each) in
    tells_from old new cs 0 n differ rises
    (counted_none ∙ ap counted (sym came)) (counted_itself n le ∙ ap counted (sym went))
