-- Tables of the format before this one: with their rows respelled they are tables of this format.
use Rattle.std.proofs.Common.{◌≡◌, ◌∙◌, ℕ, suc, ◌<◌, Bool, true, List, [], ◌∷◌, length, Some, MatchOption, refl, ap, sym, subst, arith, lit<}
use Rattle.std.specs.Prelude.{nat_eq}
use Rattle.std.specs.FinMap as tables
use Rattle.std.specs.List.{list_all, slice_get}
use Rattle.std.specs.Option.{is_some, option_map}
use Rattle.std.proofs.lemmas.Bool.{and_from, eq-eqb, leb-true}
use Rattle.bdb_base.specs.Bases.{live_name}
use Rattle.bdb_base.specs.Limits.{most_relations, most_users}
use Rattle.bdb_base.specs.declared.kinds.RelDef.{RelDef}
use Rattle.bdb_base.specs.declared.kinds.UserSlot.{UserSlot}
use Rattle.bdb_former.specs.Respelled.{respelled, respelled_at, respelled_key, respelled_place, respelled_row}
use Rattle.bdb_former.proofs.SpellLemmas.{no_user_was_gone, respelled_has_one}
use Rattle.bdb_former.proofs.TableLemmas.{no_other_row_is_there, row_respelled}
use Rattle.bdb_keep.specs.Tables.{Tables}
use Rattle.bdb_key.specs.Bytes.{num_bytes}
use Rattle.bdb_key.specs.Grammar.{IsNum}
use Rattle.bdb_key.specs.Rows.{IsRelRow, rel_bytes, slot_bytes}
use Rattle.bdb_tables.specs.Codec.{IsEntryOf}
use Rattle.bdb_tables.specs.InUse.{meta_codec}
use Rattle.bdb_entries.specs.Format.{HasFormat}
use Rattle.bdb_decode.specs.Laws.{FormerKeysHaveOneColumn, FormerUsersAreLive}

-- ---- the format

module _ (t : Tables) (h : HasFormat t 2) where
  -- the one row of the format's table, respelled
  format_row : (k r l former : List ℕ) → tables.get t (1 ∷ l) ≡ Some former → l ≡ k → respelled_row 1 former ≡ r → IsEntryOf meta_codec k r
  format_row k r l former found same spelled =
      let e = h.fits l former found in
      let at = ap (λ (x : List ℕ). tables.get t (1 ∷ x)) e.key_reads.spelled ∙ found in
      let two : num_bytes 2 ≡ former = some_one (sym (h.rows tt tt) ∙ at) in
      record {
        key = tt;
        row = 3;
        key_reads = record { fits = tt; spelled = e.key_reads.spelled ∙ same };
        row_reads = record { fits = lit< tt; spelled = ap (respelled_row 1) two ∙ spelled };
      }
    where
      some_one : {a b : List ℕ} → Some a ≡ Some b → a ≡ b
      some_one e = cc

  format_fits : (k r place former : List ℕ) → tables.get t place ≡ Some former → respelled_place place ≡ 1 ∷ k → respelled_at place former ≡ r → IsEntryOf meta_codec k r
  format_fits k r [] former found placed spelled = absurd cc
  format_fits k r (n ∷ l) former found placed spelled =
      let one : n ≡ 1 = cc in
      let key : respelled_key n l ≡ k = cc in
      format_row k r l former (subst (λ m. tables.get t (m ∷ l) ≡ Some former) one found)
      (sym (ap (λ m. respelled_key m l) one) ∙ key) (sym (ap (λ m. respelled_row m former) one) ∙ spelled)

  -- the format of former tables, respelled, is this one
  pub format_respelled : HasFormat (respelled t) 3
  format_respelled = record {
    fits = λ k r e. let x = no_other_row_is_there t (1 ∷ k) r e in format_fits k r x.place x.former x.found x.placed x.spelled;
    rows = λ key fits. row_respelled t (1 ∷ num_bytes 0) (num_bytes 2) (h.rows tt tt);
    written = λ key fits. lit< tt;
  }

all_by_gets : {X : Type 0} (p : X → Bool) (xs : List X) → ((i : ℕ) (x : X) → i < length xs → slice_get xs i ≡ Some x → p x ≡ true) → list_all p xs ≡ true
all_by_gets p [] f = refl
all_by_gets p (x ∷ xs) f = and_from (p x) (list_all p xs) (f 0 x (omega arith) refl) (all_by_gets p xs (λ i y lt e. f (suc i) y (omega (arith, lt)) e))

-- ---- the keys of relations

-- a relation that stands in respelled tables has a key of one column
relation_has_one : (t : Tables) (n : ℕ) (def : RelDef) → IsRelRow def → tables.get (respelled t) (3 ∷ num_bytes n) ≡ Some (rel_bytes def) → def.key ≡ 1
relation_has_one t n def fits e = let x = no_other_row_is_there t (3 ∷ num_bytes n) (rel_bytes def) e in by x.place x.former x.placed x.spelled
  where
    by : (place former : List ℕ) → respelled_place place ≡ 3 ∷ num_bytes n → respelled_at place former ≡ rel_bytes def → def.key ≡ 1
    by [] former placed spelled = absurd cc
    by (m ∷ l) former placed spelled =
        let three : m ≡ 3 = cc in
        respelled_has_one former def fits (sym (ap (λ k. respelled_row k former) three) ∙ spelled)

pub former_keys_have_one_column : FormerKeysHaveOneColumn
former_keys_have_one_column t b h = all_by_gets (λ r. nat_eq r.key 1) b.catalog.rels one
  where
    number : (i : ℕ) → i < length b.catalog.rels → IsNum i
    number i lt = let few = leb-true (length b.catalog.rels) most_relations h.stored.valid.catalog.few_rels in omega (arith, few, lt)

    one : (i : ℕ) (def : RelDef) → i < length b.catalog.rels → slice_get b.catalog.rels i ≡ Some def → nat_eq def.key 1 ≡ true
    one i def lt e =
        let rels = h.stored.stored.stored.rels in
        eq-eqb def.key 1 (relation_has_one t i def
        (subst (λ o. MatchOption o (Unit {0}) IsRelRow) e (rels.written i (number i lt)))
        (rels.rows i (number i lt) ∙ ap (option_map rel_bytes) e))

-- ---- users

-- a user who stands in respelled tables has a name
user_has_name : (t : Tables) (n : ℕ) (slot : UserSlot) → tables.get (respelled t) (2 ∷ num_bytes n) ≡ Some (slot_bytes slot) → is_some (live_name slot) ≡ true
user_has_name t n slot e = let x = no_other_row_is_there t (2 ∷ num_bytes n) (slot_bytes slot) e in by x.place x.former x.placed x.spelled
  where
    by : (place former : List ℕ) → respelled_place place ≡ 2 ∷ num_bytes n → respelled_at place former ≡ slot_bytes slot → is_some (live_name slot) ≡ true
    by [] former placed spelled = absurd cc
    by (m ∷ l) former placed spelled =
        let two : m ≡ 2 = cc in
        let named = no_user_was_gone former slot (sym (ap (λ k. respelled_row k former) two) ∙ spelled) in
        ap (λ s. is_some (live_name s)) named.1.0

pub former_users_are_live : FormerUsersAreLive
former_users_are_live t b h = all_by_gets (λ u. is_some (live_name u)) b.catalog.users named
  where
    number : (i : ℕ) → i < length b.catalog.users → IsNum (suc i)
    number i lt = let few = leb-true (length b.catalog.users) most_users h.stored.valid.catalog.few_users in omega (arith, few, lt)

    named : (i : ℕ) (slot : UserSlot) → i < length b.catalog.users → slice_get b.catalog.users i ≡ Some slot → is_some (live_name slot) ≡ true
    named i slot lt e = user_has_name t (suc i) slot (h.stored.stored.stored.users.rows (suc i) (number i lt) ∙ ap (option_map slot_bytes) e)
