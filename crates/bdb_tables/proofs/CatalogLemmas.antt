-- What tables have of a catalog: with one user or relation more, with a user's place set anew, of the empty one, and that they
-- have one.
use Rattle.std.proofs.Common.{◌≡◌, ℕ, suc, ◌+◌, ◌-◌, ◌<◌, ◌≤◌, ◌^◌, true, nat_eq, nat_le, cond, List, [], ◌∷◌, ◌++◌, length, slice_set, Some, None, refl, ap, sym, ◌∙◌, inl, inr, arith}
use Prim.Native.Nat.{zero}
use Rattle.std.specs.List.{slice_get}
use Rattle.std.specs.Ordering.{is_eq, nat_cmp}
use Rattle.std.specs.FinMap as tables
use Rattle.std.specs.FinMap.{get-from_entries}
use Rattle.std.proofs.lemmas.Cmp.{nat_list_cmp_total}
use Rattle.std.proofs.lemmas.Bool.{cases_Bool, cases_lt, false≢true, eqb-true, eq-eqb, cond-true, cond-false, leb-true}
use Rattle.std.proofs.lemmas.Option.{slice_get_past}
use Rattle.bdb_base.specs.Bases.{Contents, is_user}
use Rattle.bdb_base.specs.Limits.{most_users, most_relations}
use Rattle.bdb_base.specs.declared.kinds.RelDef.{RelDef}
use Rattle.bdb_base.specs.declared.kinds.Stmt.{Stmt}
use Rattle.bdb_base.specs.declared.kinds.UserSlot.{UserSlot}
use Rattle.bdb_base.specs.declared.kinds.UserSlot.TheVariants.{Gone}
use Rattle.bdb_base.specs.OrderLemmas.{is_eq_nat_cmp}
use Rattle.bdb_base.proofs.UserLemmas.{user_above, user_within}
use Rattle.bdb_keep.specs.Tables.{Tables}
use Rattle.bdb_key.specs.Grammar.{IsNum}
use Rattle.bdb_key.specs.Rows.{IsRelRow, IsUserRow}
use Rattle.bdb_tables.specs.Codec.{Codec, place}
use Rattle.bdb_tables.specs.InUse.{user_codec, rel_codec}
use Rattle.bdb_tables.specs.InUseLaws.{numbers_in_order, slot_rows_are_one, rel_rows_are_one}
use Rattle.bdb_tables.specs.Stored.{slot_of}
use Rattle.bdb_tables.specs.Writes.{Gives, with_change, with_row_at}
use Rattle.bdb_tables.proofs.WriteLemmas.{change_gives, gives_same, gives_one}

-- ---- tables with no row

abbrev none_kept : Tables
none_kept = tables.empty

pub no_rows : (q : List ℕ) → tables.get none_kept q ≡ None
no_rows q = get-from_entries nat_list_cmp_total [] q

pub empty_gives : {Key Row : Type 0} (c : Codec Key Row) → Gives c tables.empty (λ _. None)
empty_gives c = record {
  fits = λ k r found. let none = sym (no_rows (c.number ∷ k)) ∙ found in absurd cc;
  rows = λ key fits. no_rows (place c key);
  written = λ key fits. tt;
}

pub no_slots : (n : ℕ) → None ≡ slot_of [] n
no_slots zero = refl
no_slots (suc n) = refl

-- ---- lists with one item more

at_end : {X : Type 0} (xs : List X) (x : X) → slice_get (xs ++ x ∷ []) (length xs) ≡ Some x
at_end [] x = refl
at_end (y ∷ xs) x = at_end xs x

not_end : {X : Type 0} (xs : List X) (x : X) (n : ℕ) → (n ≡ length xs → ⊥) → slice_get xs n ≡ slice_get (xs ++ x ∷ []) n
not_end [] x zero h = absurd (h refl)
not_end [] x (suc n) h = refl
not_end (y ∷ xs) x zero h = refl
not_end (y ∷ xs) x (suc n) h = not_end xs x n (λ e. h (ap suc e))

rels_more : (rels : List RelDef) (def : RelDef) (rel k : ℕ) → rel ≡ length rels → cond (is_eq (nat_cmp k rel)) (Some def) (slice_get rels k) ≡ slice_get (rels ++ def ∷ []) k
rels_more rels def rel k s = elim (cases_Bool (nat_eq k rel)) [
  | inl e ↦ cond-true (is_eq (nat_cmp k rel)) (Some def) (slice_get rels k) (is_eq_nat_cmp k rel ∙ e) ∙ sym (ap (slice_get (rels ++ def ∷ [])) (eqb-true k rel e ∙ s) ∙ at_end rels def)
  | inr e ↦ cond-false (is_eq (nat_cmp k rel)) (Some def) (slice_get rels k) (is_eq_nat_cmp k rel ∙ e) ∙ not_end rels def k (λ z. false≢true (sym e ∙ eq-eqb k rel (z ∙ sym s)))
]

-- a list with a slot at one place, and with those of another list at all others
slots_changed : (users after : List UserSlot) (slot : UserSlot) (uid at k : ℕ) → uid ≡ suc at → slice_get after at ≡ Some slot → ((n : ℕ) → (n ≡ at → ⊥) → slice_get users n ≡ slice_get after n)
    → cond (is_eq (nat_cmp k uid)) (Some slot) (slot_of users k) ≡ slot_of after k
slots_changed users after slot uid at k s here else = elim (cases_Bool (nat_eq k uid)) [
  | inl e ↦ cond-true (is_eq (nat_cmp k uid)) (Some slot) (slot_of users k) (is_eq_nat_cmp k uid ∙ e) ∙ sym (ap (slot_of after) (eqb-true k uid e ∙ s) ∙ here)
  | inr e ↦ cond-false (is_eq (nat_cmp k uid)) (Some slot) (slot_of users k) (is_eq_nat_cmp k uid ∙ e) ∙ old k (λ z. false≢true (sym e ∙ eq-eqb k uid (z ∙ sym s)))
]
  where
    old : (k : ℕ) → (k ≡ suc at → ⊥) → slot_of users k ≡ slot_of after k
    old zero n = refl
    old (suc m) n = else m (λ e. n (ap suc e))

-- ---- a place that is set

set_here : {X : Type 0} (xs : List X) (at : ℕ) (x : X) → at < length xs → slice_get (slice_set xs at x) at ≡ Some x
set_here [] at x h = absurd (omega (arith, h))
set_here (y ∷ xs) zero x h = refl
set_here (y ∷ xs) (suc at) x h = set_here xs at x (omega (arith, h))

set_elsewhere : {X : Type 0} (xs : List X) (at : ℕ) (x : X) (n : ℕ) → (n ≡ at → ⊥) → slice_get xs n ≡ slice_get (slice_set xs at x) n
set_elsewhere [] at x n h = refl
set_elsewhere (y ∷ xs) zero x zero h = absurd (h refl)
set_elsewhere (y ∷ xs) zero x (suc n) h = refl
set_elsewhere (y ∷ xs) (suc at) x zero h = refl
set_elsewhere (y ∷ xs) (suc at) x (suc n) h = set_elsewhere xs at x n (λ e. h (ap suc e))

-- ---- a user or a relation more

pub user_more : (t : Tables) (users : List UserSlot) (uid : ℕ) (slot : UserSlot) → uid ≡ length users + 1 → IsNum uid → IsUserRow slot → Gives user_codec t (slot_of users)
    → Gives user_codec (with_change user_codec t (uid, Some slot)) (slot_of (users ++ slot ∷ []))
user_more t users uid slot e num fits h =
    let next : uid ≡ suc (length users) = omega (arith, e) in
    gives_same user_codec (with_change user_codec t (uid, Some slot)) (with_row_at user_codec (slot_of users) (uid, Some slot)) (slot_of (users ++ slot ∷ []))
    (λ k f. slots_changed users (users ++ slot ∷ []) slot uid (length users) k next (at_end users slot) (not_end users slot))
    (change_gives user_codec numbers_in_order t (slot_of users) (uid, Some slot) (record { key = num; row = fits }) h)

-- the row of a place that stands is replaced
pub user_set : (t : Tables) (users : List UserSlot) (uid : ℕ) (slot : UserSlot) → 0 < uid → uid ≤ length users → IsNum uid → IsUserRow slot → Gives user_codec t (slot_of users)
    → Gives user_codec (with_change user_codec t (uid, Some slot)) (slot_of (slice_set users (uid - 1) slot))
user_set t users uid slot above within num fits h =
    let next : uid ≡ suc (uid - 1) = omega (arith, above) in
    let inside : (uid - 1) < length users = omega (arith, above, within) in
    gives_same user_codec (with_change user_codec t (uid, Some slot)) (with_row_at user_codec (slot_of users) (uid, Some slot)) (slot_of (slice_set users (uid - 1) slot))
    (λ k f. slots_changed users (slice_set users (uid - 1) slot) slot uid (uid - 1) k next (set_here users (uid - 1) slot inside) (set_elsewhere users (uid - 1) slot))
    (change_gives user_codec numbers_in_order t (slot_of users) (uid, Some slot) (record { key = num; row = fits }) h)

-- a user leaves
pub user_gone : (t : Tables) (users : List UserSlot) (uid : ℕ) → is_user users uid ≡ true → IsNum uid → Gives user_codec t (slot_of users)
    → Gives user_codec (with_change user_codec t (uid, Some Gone)) (slot_of (slice_set users (uid - 1) Gone))
user_gone t users uid is num h = user_set t users uid Gone (user_above users uid is) (user_within users uid is) num tt h

pub relation_more : (t : Tables) (rels : List RelDef) (rel : ℕ) (def : RelDef) → rel ≡ length rels → IsNum rel → IsRelRow def → Gives rel_codec t (slice_get rels)
    → Gives rel_codec (with_change rel_codec t (rel, Some def)) (slice_get (rels ++ def ∷ []))
relation_more t rels rel def e num fits h =
    gives_same rel_codec (with_change rel_codec t (rel, Some def)) (with_row_at rel_codec (slice_get rels) (rel, Some def)) (slice_get (rels ++ def ∷ []))
    (λ k f. rels_more rels def rel k e) (change_gives rel_codec numbers_in_order t (slice_get rels) (rel, Some def) (record { key = num; row = fits }) h)

-- ---- one catalog

-- two lists with the same items by place are one
pub same_by_place : {X : Type 0} (xs ys : List X) → ((n : ℕ) → slice_get xs n ≡ slice_get ys n) → xs ≡ ys
same_by_place [] [] h = refl
same_by_place [] (y ∷ ys) h = let e = h 0 in absurd cc
same_by_place (x ∷ xs) [] h = let e = h 0 in absurd cc
same_by_place (x ∷ xs) (y ∷ ys) h =
    let e : Some x ≡ Some y = h 0 in
    let s : x ≡ y = cc in
    ap (λ z. z ∷ xs) s ∙ ap (λ zs. y ∷ zs) (same_by_place xs ys (λ n. h (suc n)))

pub one_users : (t : Tables) (xs ys : List UserSlot) → Gives user_codec t (slot_of xs) → Gives user_codec t (slot_of ys)
    → nat_le (length xs) most_users ≡ true → nat_le (length ys) most_users ≡ true → xs ≡ ys
one_users t xs ys h k a b = same_by_place xs ys (λ n.
    elim (cases_lt (suc n) (2 ^ 32)) as (λ _. slice_get xs n ≡ slice_get ys n) [
      | inl num ↦ gives_one user_codec slot_rows_are_one t (slot_of xs) (slot_of ys) h k (suc n) num
      | inr past ↦
          let few : length xs ≤ most_users = leb-true (length xs) most_users a in
          let few2 : length ys ≤ most_users = leb-true (length ys) most_users b in
          slice_get_past xs n (omega (arith, past, few)) ∙ sym (slice_get_past ys n (omega (arith, past, few2)))
    ])

pub one_relations : (t : Tables) (xs ys : List RelDef) → Gives rel_codec t (slice_get xs) → Gives rel_codec t (slice_get ys)
    → nat_le (length xs) most_relations ≡ true → nat_le (length ys) most_relations ≡ true → xs ≡ ys
one_relations t xs ys h k a b = same_by_place xs ys (λ n.
    elim (cases_lt n (2 ^ 32)) as (λ _. slice_get xs n ≡ slice_get ys n) [
      | inl num ↦ gives_one rel_codec rel_rows_are_one t (slice_get xs) (slice_get ys) h k n num
      | inr past ↦
          let few : length xs ≤ most_relations = leb-true (length xs) most_relations a in
          let few2 : length ys ≤ most_relations = leb-true (length ys) most_relations b in
          slice_get_past xs n (omega (arith, past, few)) ∙ sym (slice_get_past ys n (omega (arith, past, few2)))
    ])

-- a base made of its parts
abbrev pub contents_of : List UserSlot → List RelDef → List Stmt → Contents
contents_of users rels stmts = record { catalog = record { rels = rels; users = users }; stmts = stmts }

-- bases with the same users, relations and statements are one
pub one_contents : (a b : Contents) → a.catalog.users ≡ b.catalog.users → a.catalog.rels ≡ b.catalog.rels → a.stmts ≡ b.stmts → a ≡ b
one_contents a b e f g =
    ap (λ users. contents_of users a.catalog.rels a.stmts) e
    ∙ ap (λ rels. contents_of b.catalog.users rels a.stmts) f
    ∙ ap (λ stmts. contents_of b.catalog.users b.catalog.rels stmts) g
