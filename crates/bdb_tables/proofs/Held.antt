-- Tables in the grammar, read and changed through the words of one table.
use Rattle.std.proofs.Common.{◌≡◌, ℕ, zero, suc, List, [], ◌∷◌, ◌++◌, Bool, true, cond, Option, Some, None, IsTrue, refl, sym, ap, subst, ◌∙◌, arith, inl, inr, false}
use Rattle.std.specs.declared.cmp.Ordering.{Ordering}
use Rattle.std.specs.declared.cmp.Ordering.TheVariants.{Less, Equal, Greater}
use Rattle.std.specs.Ordering.{is_le, is_lt, eq_by_cmp, nat_cmp, ordering_then}
use Rattle.std.specs.Bool.{MatchBool}
use Rattle.std.specs.FinMap as map
use Rattle.std.specs.FinMap.{get-from_entries}
use Rattle.std.proofs.lemmas.Bool.{cases_Bool, false≢true, eqb-true, eq-eqb}
use Rattle.std.proofs.lemmas.Cmp.{nat_list_cmp_total}
use Rattle.std.specs.Option.{option_map}
use Rattle.bdb_keep.specs.Tables.{Tables, bytes_cmp}
use Rattle.bdb_base.proofs.Numbers.{less}
use Rattle.bdb_base.proofs.OptionLemmas.{none_is_some, same_some}
use Rattle.bdb_keep.proofs.Gets.{get_after_insert, get_after_remove}
use Rattle.bdb_keep.proofs.RowsLemmas.{same_place}
use Rattle.bdb_tables.specs.Codec.{Codec, IsEntryOf, IsKeyOf, IsRowOf, HasFirst, HasLeast, KeepsOrder, TableFits, place}
use Rattle.bdb_tables.specs.Grammar.{IsEntry, InGrammar}
use Rattle.bdb_tables.specs.InUse.{meta_codec, user_codec, rel_codec, plain_codec, depth_codec, link_codec, edge_codec}
use Rattle.bdb_tables.specs.Names.{leads_to}
use Rattle.bdb_tables.specs.States.{row_where}

-- ---- places

pub head_same : (m n : ℕ) (j k : List ℕ) → m ∷ j ≡ n ∷ k → m ≡ n
head_same m n j k e = cc

tail_same : (m n : ℕ) (j k : List ℕ) → m ∷ j ≡ n ∷ k → j ≡ k
tail_same m n j k e = cc

-- a fact of the row at each place, after a put or a removal
module _ (P : ℕ → List ℕ → List ℕ → Type 0) where
  pub put_keeps_each : (t : Tables) (m : ℕ) (j s : List ℕ) → P m j s → ((n : ℕ) (k r : List ℕ) → map.get t (n ∷ k) ≡ Some r → P n k r)
      → (n : ℕ) (k r : List ℕ) → map.get (map.insert t (m ∷ j) s) (n ∷ k) ≡ Some r → P n k r
  put_keeps_each t m j s here h n k r found =
      let after = get_after_insert t (m ∷ j) s (n ∷ k) in
      elim (cases_Bool (eq_by_cmp bytes_cmp (n ∷ k) (m ∷ j))) [
        | inl e ↦
            let same = same_place (n ∷ k) (m ∷ j) e in
            let row : Some s ≡ Some r = sym (after ∙ ap (λ b. cond b (Some s) (map.get t (n ∷ k))) e) ∙ found in
            subst (λ x. P x k r) (sym (head_same n m k j same)) (subst (λ x. P m x r) (sym (tail_same n m k j same)) (subst (P m j) (same_some s r row) here))
        | inr e ↦ h n k r (sym (after ∙ ap (λ b. cond b (Some s) (map.get t (n ∷ k))) e) ∙ found)
      ]

  pub remove_keeps_each : (t : Tables) (p : List ℕ) → ((n : ℕ) (k r : List ℕ) → map.get t (n ∷ k) ≡ Some r → P n k r)
      → (n : ℕ) (k r : List ℕ) → map.get (map.remove t p) (n ∷ k) ≡ Some r → P n k r
  remove_keeps_each t p h n k r found =
      let after = get_after_remove t p (n ∷ k) in
      elim (cases_Bool (eq_by_cmp bytes_cmp (n ∷ k) p)) [
        | inl e ↦ absurd (none_is_some r (sym (after ∙ ap (λ b. cond b None (map.get t (n ∷ k))) e) ∙ found))
        | inr e ↦ h n k r (sym (after ∙ ap (λ b. cond b None (map.get t (n ∷ k))) e) ∙ found)
      ]

-- ---- the grammar

pub remove_keeps : (t : Tables) (p : List ℕ) → InGrammar t → InGrammar (map.remove t p)
remove_keeps t p h = remove_keeps_each IsEntry t p h

-- no rows at all are in it
pub empty_in_grammar : InGrammar map.empty
empty_in_grammar n k r e = let none = sym (get-from_entries nat_list_cmp_total [] (n ∷ k)) ∙ e in absurd cc

-- tables in the grammar fit each table in use
pub meta_fits : (t : Tables) → InGrammar t → TableFits meta_codec t
meta_fits t h k r found = h 1 k r found

pub user_fits : (t : Tables) → InGrammar t → TableFits user_codec t
user_fits t h k r found = h 2 k r found

pub rel_fits : (t : Tables) → InGrammar t → TableFits rel_codec t
rel_fits t h k r found = h 3 k r found

pub plain_fits : (t : Tables) → InGrammar t → TableFits plain_codec t
plain_fits t h k r found = h 12 k r found

module _ {Key Row : Type 0} where
  -- what stands in a table is an entry of it
  pub held : (c : Codec Key Row) (t : Tables) → TableFits c t → (n : ℕ) (k r : List ℕ) → n ≡ c.number → map.get t (n ∷ k) ≡ Some r → IsEntryOf c k r
  held c t h n k r e found = h k r (ap (λ m. map.get t (m ∷ k)) (sym e) ∙ found)

  pub key_of_entry : (c : Codec Key Row) (k r : List ℕ) → IsEntryOf c k r → IsKeyOf c k
  key_of_entry c k r e = (e.key, e.key_reads)

  pub row_of_entry : (c : Codec Key Row) (k r : List ℕ) → IsEntryOf c k r → IsRowOf c r
  row_of_entry c k r e = (e.row, e.row_reads)

  pub put_keeps : (c : Codec Key Row) → ((k r : List ℕ) → IsEntryOf c k r → IsEntry c.number k r) → (t : Tables) (key : Key) (row : Row)
      → c.IsKey key → c.IsRow row → InGrammar t → InGrammar (map.insert t (place c key) (c.row_bytes row))
  put_keeps c back t key row fk fr h =
      put_keeps_each IsEntry t c.number (c.key_bytes key) (c.row_bytes row) (back (c.key_bytes key) (c.row_bytes row) (record {
        key = key;
        row = row;
        key_reads = record { fits = fk; spelled = refl };
        row_reads = record { fits = fr; spelled = refl };
      })) h

-- ---- the keys behind one

-- the bytes with a 0 behind them are the least that are above them
behind : (k q : List ℕ) → is_le (bytes_cmp (k ++ 0 ∷ []) q) ≡ is_lt (bytes_cmp k q)
behind [] [] = refl
behind [] (zero ∷ []) = refl
behind [] (zero ∷ c ∷ q) = refl
behind [] (suc b ∷ q) = ap (λ o. is_le (ordering_then o (bytes_cmp [] q))) (less 0 (suc b) (omega arith))
behind (b ∷ k) [] = refl
behind (b ∷ k) (c ∷ q) = by (nat_cmp b c) (behind k q)
  where
    by : (o : Ordering) → is_le (bytes_cmp (k ++ 0 ∷ []) q) ≡ is_lt (bytes_cmp k q)
        → is_le (ordering_then o (bytes_cmp (k ++ 0 ∷ []) q)) ≡ is_lt (ordering_then o (bytes_cmp k q))
    by Less e = refl
    by Equal e = e
    by Greater e = refl

module _ {Key Row : Type 0} where
  pub first_after : (c : Codec Key Row) → KeepsOrder c → (t : Tables) (key : Key) → c.IsKey key → (found : Option (Key × Row))
      → HasLeast c t (c.key_bytes key ++ 0 ∷ []) found → HasFirst c t (λ q. is_lt (c.key_cmp key q)) found
  first_after c order t key fits None h = λ q fq lt.
      h (c.key_bytes q) (subst IsTrue (sym (behind (c.key_bytes key) (c.key_bytes q) ∙ ap is_lt (order key q fits fq))) lt)
  first_after c order t key fits (Some e) h = record {
    in_grammar = h.key_fits;
    passes = subst IsTrue (behind (c.key_bytes key) (c.key_bytes e.0) ∙ ap is_lt (order key e.0 fits h.key_fits)) h.least.not_below;
    found = record { in_grammar = h.row_fits; found = h.least.found };
    least = λ q fq lt some. subst (λ o. IsTrue (is_le o)) (order e.0 q h.key_fits fq)
        (h.least.least (c.key_bytes q) (subst IsTrue (sym (behind (c.key_bytes key) (c.key_bytes q) ∙ ap is_lt (order key q fits fq))) lt) some);
  }

module _ {Key Row : Type 0} where
  -- tables that are others after a put
  pub put_kept : (c : Codec Key Row) → ((k r : List ℕ) → IsEntryOf c k r → IsEntry c.number k r) → (t u : Tables) (key : Key) (row : Row)
      → c.IsKey key → c.IsRow row → u ≡ map.insert t (place c key) (c.row_bytes row) → InGrammar t → InGrammar u
  put_kept c back t u key row fk fr e h = subst InGrammar (sym e) (put_keeps c back t key row fk fr h)

-- tables that are others after a removal
pub remove_kept : (t u : Tables) (p : List ℕ) → u ≡ map.remove t p → InGrammar t → InGrammar u
remove_kept t u p e h = subst InGrammar (sym e) (remove_keeps t p h)

-- what is known where a test is true
pub at_true : (b : Bool) (P Q : Type 0) → b ≡ true → MatchBool b P Q → P
at_true b P Q e h = subst (λ v. MatchBool v P Q) e h

-- ---- the keys of one table fit

pub depths_fit : (t : Tables) → InGrammar t → TableFits depth_codec t
depths_fit t g k r f = g 6 k r f

pub links_fit : (t : Tables) → InGrammar t → TableFits link_codec t
links_fit t g k r f = g 7 k r f

pub edges_fit : (t : Tables) → InGrammar t → TableFits edge_codec t
edges_fit t g k r f = g 9 k r f

-- ---- where an edge or a link leads

pub leads_is : (o : Option ℕ) (n : ℕ) → leads_to o n ≡ true → o ≡ Some n
leads_is None n h = absurd (false≢true h)
leads_is (Some m) n h = ap Some (eqb-true m n h)

pub leads_self : (o : Option ℕ) (n : ℕ) → o ≡ Some n → leads_to o n ≡ true
leads_self o n e = ap (λ x. leads_to x n) e ∙ eq-eqb n n refl

pub row_is : (b : Bool) (x : List ℕ) → option_map (λ (u : Unit {0}). x) (row_where b) ≡ Some x → b ≡ true
row_is true x e = refl
row_is false x e = absurd cc
