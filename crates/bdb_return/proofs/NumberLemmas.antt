-- The least number that is no key tells how long a list is that is kept by place.
use Rattle.std.proofs.Common.{◌≡◌, ◌∙◌, ℕ, zero, suc, ◌+◌, ◌-◌, ◌<◌, ◌≤◌, true, List, [], ◌∷◌, length, Option, Some, None, is_some, refl, ap, sym, inl, inr, arith}
use Rattle.std.specs.FinMap as tables
use Rattle.std.specs.List.{slice_get}
use Rattle.std.specs.Option.{option_map}
use Rattle.std.proofs.lemmas.Bool.{cases_lt, false≢true}
use Rattle.std.proofs.lemmas.Option.{none-some, slice_get_past}
use Rattle.bdb_base.specs.declared.kinds.RelDef.{RelDef}
use Rattle.bdb_base.specs.declared.kinds.UserSlot.{UserSlot}
use Rattle.bdb_base.proofs.OptionLemmas.{nothing_mapped}
use Rattle.bdb_keep.specs.Tables.{Tables}
use Rattle.bdb_key.specs.Bytes.{num_bytes}
use Rattle.bdb_key.specs.Grammar.{IsNum}
use Rattle.bdb_tables.specs.Gaps.{IsFirstGap}
use Rattle.bdb_tables.specs.InUse.{rel_codec, user_codec}
use Rattle.bdb_tables.specs.Stored.{slot_of}
use Rattle.bdb_return.specs.Numbers.{IsNextRelation, IsNextUser}

some_since : {X : Type 0} (bytes : X → List ℕ) (o : Option X) → is_some (option_map bytes o) ≡ true → is_some o ≡ true
some_since bytes None e = e
some_since bytes (Some x) e = refl

past_end : {X : Type 0} (xs : List X) (n : ℕ) → slice_get xs n ≡ None → length xs ≤ n
past_end [] n e = omega arith
past_end (x ∷ xs) zero e = absurd (none-some x (sym e))
past_end (x ∷ xs) (suc n) e = let h = past_end xs n e in omega arith

-- a list by place from a number on, and the least number from it on at which there is nothing
gap_is : {X : Type 0} (at : ℕ → Option X) (xs : List X) (low n : ℕ) → ((i : ℕ) → at (low + i) ≡ slice_get xs i) → low ≤ n → at n ≡ None
    → ((k : ℕ) → low ≤ k → k < n → is_some (at k) ≡ true) → n ≡ low + length xs
gap_is at xs low n is from free least =
    let i = n - low in
    let there : n ≡ low + i = omega (arith, from) in
    let past = past_end xs i (sym (is i) ∙ ap at (sym there) ∙ free) in
    elim (cases_lt (length xs) i) [
      | inl short ↦
          let none = is (length xs) ∙ slice_get_past xs (length xs) (omega arith) in
          absurd (false≢true (sym (ap is_some none) ∙ least (low + length xs) (omega arith) (omega (arith, there, short))))
      | inr long ↦ omega (arith, there, past, long)
    ]

-- the rows of a table are those of a list by place, and its first gap tells how long the list is
listed : {X : Type 0} (t : Tables) (tab low n : ℕ) (bytes : X → List ℕ) (at : ℕ → Option X) (xs : List X)
    → ((k : ℕ) → IsNum k → tables.get t (tab ∷ num_bytes k) ≡ option_map bytes (at k)) → ((i : ℕ) → at (low + i) ≡ slice_get xs i)
    → IsFirstGap t tab low n → n ≡ low + length xs
listed t tab low n bytes at xs rows is g =
    gap_is at xs low n is g.from (nothing_mapped bytes (at n) (sym (rows n g.fits) ∙ g.free))
    (λ k from below. some_since bytes (at k) (sym (ap is_some (rows k (omega (arith, below, g.fits)))) ∙ g.least k from below))

slots_are : (users : List UserSlot) (i : ℕ) → slot_of users (1 + i) ≡ slice_get users i
slots_are users i = let e : 1 + i ≡ suc i = omega arith in ap (slot_of users) e

rels_are : (rels : List RelDef) (i : ℕ) → slice_get rels (0 + i) ≡ slice_get rels i
rels_are rels i = let e : 0 + i ≡ i = omega arith in ap (slice_get rels) e

pub next_user : (t : Tables) (uid : ℕ) → IsFirstGap t 2 1 uid → IsNextUser t uid
next_user t uid g b s =
    let users = b.catalog.users in
    let e = listed t 2 1 uid user_codec.row_bytes (slot_of users) users s.stored.users.rows (slots_are users) g in
    omega (arith, e)

pub next_relation : (t : Tables) (rel : ℕ) → IsFirstGap t 3 0 rel → IsNextRelation t rel
next_relation t rel g b s =
    let rels = b.catalog.rels in
    let e = listed t 3 0 rel rel_codec.row_bytes (slice_get rels) rels s.stored.rels.rows (rels_are rels) g in
    omega (arith, e)
