-- Stored rows, and the tables whose rows they are, where one place is set.
use Rattle.std.proofs.Common.{◌≡◌, inl, inr, ℕ, ◌≤◌, pos, Bool, true, false, cond, List, [], ◌∷◌, length, map, Some, None, Ok, Err, Result, refl, sym, ap, subst, ◌∙◌, true≢false}
use Rattle.std.specs.Prelude.{OnOk, is_some}
use Rattle.std.specs.Ordering.{eq_by_cmp}
use Rattle.std.specs.FinMap as fin
use Rattle.std.proofs.lemmas.Bool.{both_ways}
use Rattle.sqlite_value.specs.declared.value.Value.TheVariants.{Int, Blob}
use Rattle.sqlite_value.specs.Order.{Row}
use Rattle.sqlite_rules.specs.Lists.{Has}
use Rattle.sqlite_rules.proofs.ProbeLemmas.{has_mapped, mapped_has}
use Rattle.sqlite.specs.declared.error.Error.{Error}
use Rattle.sqlite.specs.State.{State, ExecutesInside}
use Rattle.bdb_keep.specs.Tables.{Tables, bytes_cmp}
use Rattle.bdb_keep.proofs.Gets.{get_after_insert, get_after_remove, key_itself}
use Rattle.bdb_keep.proofs.RowsLemmas.{same_place}
use Rattle.bdb_sql.specs.Entries.{IsFiledRow, longest}
use Rattle.bdb_sql.specs.Rows.{AreAllRows, entry}
use Rattle.bdb_sql.specs.Changes.{IsRowAt, IsPut, IsRowGone, filed}
use Rattle.bdb_sql.specs.Tied.{HoldsTable}
use Rattle.bdb_sql.specs.Written.{SetsPlace}
use Rattle.bdb_sql.proofs.TextLemmas.{put_text, remove_text}
use Rattle.bdb_sql.proofs.PutLemmas.{puts}
use Rattle.bdb_sql.proofs.RemoveLemmas.{removes}

-- a row that stands for a row of the tables is at its place, and at no other
stands_at : (r : Row) (n : ℕ) (k c : List ℕ) → IsFiledRow (entry r) n k c → IsRowAt n k r
stands_at r n k c s = (s.tab_is, s.key_is)

one_place : (r : Row) (n tab : ℕ) (k key : List ℕ) → IsRowAt n k r → IsRowAt tab key r → n ∷ k ≡ tab ∷ key
one_place r n tab k key a b = let e = sym a.0 ∙ b.0 in let f = sym a.1 ∙ b.1 in cc

-- the places that are set are told apart from the others
other_place : (r : Row) (n tab : ℕ) (k key : List ℕ) → IsRowAt n k r → ¬ IsRowAt tab key r → eq_by_cmp bytes_cmp (n ∷ k) (tab ∷ key) ≡ false
other_place r n tab k key at apart = go (eq_by_cmp bytes_cmp (n ∷ k) (tab ∷ key)) refl
  where
    go : (b : Bool) → eq_by_cmp bytes_cmp (n ∷ k) (tab ∷ key) ≡ b → b ≡ false
    go true e = let same = same_place (n ∷ k) (tab ∷ key) e in absurd (apart (subst (λ x. IsRowAt x key r) (let m : n ≡ tab = cc in m) (subst (λ x. IsRowAt n x r) (let m : k ≡ key = cc in m) at)))
    go false e = refl

apart_from : (r : Row) (n tab : ℕ) (k key : List ℕ) → IsRowAt n k r → eq_by_cmp bytes_cmp (n ∷ k) (tab ∷ key) ≡ false → ¬ IsRowAt tab key r
apart_from r n tab k key a other b = both_ways _ other (ap (λ p. eq_by_cmp bytes_cmp p (tab ∷ key)) (one_place r n tab k key a b) ∙ key_itself (tab ∷ key))

module _ (tab : ℕ) (key : List ℕ) (old new : List Row) (t : Tables) where
  module _ (content : List ℕ) (table : (1 ≤ tab) × (tab ≤ 15)) (sizes : (length key ≤ longest) × (length content ≤ longest)) (put : IsPut tab key content old new) (are : AreAllRows (map entry old) t) where
    abbrev after : Tables
    after = fin.insert t (tab ∷ key) content

    gets : (p : List ℕ) → fin.get after p ≡ cond (eq_by_cmp bytes_cmp p (tab ∷ key)) (Some content) (fin.get t p)
    gets p = get_after_insert t (tab ∷ key) content p

    filed_stands : IsFiledRow (filed tab key content) tab key content
    filed_stands = record { tab_is = refl; key_is = refl; row_is = refl; table = table; sizes = sizes }

    each_put : (r : Row) → Has (map entry new) r → (n : ℕ) × (k c : List ℕ) × IsFiledRow r n k c × (fin.get after (n ∷ k) ≡ Some c)
    each_put r h =
        let x = has_mapped entry new r h in
        elim (put.only x.0 x.1) [
          | inl same ↦ (
            tab,
            key,
            content,
            subst (λ y. IsFiledRow y tab key content) (sym (x.2 ∙ same)) filed_stands,
            gets (tab ∷ key) ∙ ap (λ b. cond b (Some content) (fin.get t (tab ∷ key))) (key_itself (tab ∷ key)),
          )
          | inr was ↦
              let w = are.each (entry x.0) (mapped_has entry old x.0 was.0) in (
                w.0,
                w.1,
                w.2,
                subst (λ y. IsFiledRow y w.0 w.1 w.2) (sym x.2) w.3,
                gets (w.0 ∷ w.1) ∙ ap (λ b. cond b (Some content) (fin.get t (w.0 ∷ w.1))) (other_place x.0 w.0 tab w.1 key (stands_at x.0 w.0 w.1 w.2 w.3) was.1) ∙ w.4,
              )
        ]

    all_put : (n : ℕ) (k c : List ℕ) → fin.get after (n ∷ k) ≡ Some c → (r : Row) × Has (map entry new) r × IsFiledRow r n k c
    all_put n k c some = go (eq_by_cmp bytes_cmp (n ∷ k) (tab ∷ key)) refl (sym (gets (n ∷ k)) ∙ some)
      where
        go : (b : Bool) → eq_by_cmp bytes_cmp (n ∷ k) (tab ∷ key) ≡ b → cond b (Some content) (fin.get t (n ∷ k)) ≡ Some c → (r : Row) × Has (map entry new) r × IsFiledRow r n k c
        go true e s =
            let same = same_place (n ∷ k) (tab ∷ key) e in
            let one : tab ≡ n = cc in
            let two : key ≡ k = cc in
            let three : content ≡ c = cc in
            let there : Has (map entry new) (filed tab key content) = subst (Has (map entry new)) put.there.2 (mapped_has entry new put.there.0 put.there.1) in (
              filed tab key content,
              there,
              subst (λ x. IsFiledRow (filed tab key content) x k c) one (subst (λ x. IsFiledRow (filed tab key content) tab x c) two (subst (λ x. IsFiledRow (filed tab key content) tab key x) three filed_stands)),
            )
        go false e s =
            let w = are.all n k c s in
            let x = has_mapped entry old w.0 w.1 in
            let stands : IsFiledRow (entry x.0) n k c = subst (λ y. IsFiledRow y n k c) x.2 w.2 in
            (entry x.0, mapped_has entry new x.0 (put.kept x.0 x.1 (apart_from x.0 n tab k key (stands_at x.0 n k c stands) e)), stands)

    pub put_rows : AreAllRows (map entry new) after
    put_rows = record { each = each_put; all = all_put }

  module _ (gone : IsRowGone tab key old new) (are : AreAllRows (map entry old) t) where
    abbrev rest : Tables
    rest = fin.remove t (tab ∷ key)

    gets_rest : (p : List ℕ) → fin.get rest p ≡ cond (eq_by_cmp bytes_cmp p (tab ∷ key)) None (fin.get t p)
    gets_rest p = get_after_remove t (tab ∷ key) p

    each_gone : (r : Row) → Has (map entry new) r → (n : ℕ) × (k c : List ℕ) × IsFiledRow r n k c × (fin.get rest (n ∷ k) ≡ Some c)
    each_gone r h =
        let x = has_mapped entry new r h in
        let was = gone.only x.0 x.1 in
        let w = are.each (entry x.0) (mapped_has entry old x.0 was.0) in (
          w.0,
          w.1,
          w.2,
          subst (λ y. IsFiledRow y w.0 w.1 w.2) (sym x.2) w.3,
          gets_rest (w.0 ∷ w.1) ∙ ap (λ b. cond b None (fin.get t (w.0 ∷ w.1))) (other_place x.0 w.0 tab w.1 key (stands_at x.0 w.0 w.1 w.2 w.3) was.1) ∙ w.4,
        )

    all_gone : (n : ℕ) (k c : List ℕ) → fin.get rest (n ∷ k) ≡ Some c → (r : Row) × Has (map entry new) r × IsFiledRow r n k c
    all_gone n k c some = go (eq_by_cmp bytes_cmp (n ∷ k) (tab ∷ key)) refl (sym (gets_rest (n ∷ k)) ∙ some)
      where
        go : (b : Bool) → eq_by_cmp bytes_cmp (n ∷ k) (tab ∷ key) ≡ b → cond b None (fin.get t (n ∷ k)) ≡ Some c → (r : Row) × Has (map entry new) r × IsFiledRow r n k c
        go true e s = absurd (true≢false (sym (ap is_some s)))
        go false e s =
            let w = are.all n k c s in
            let x = has_mapped entry old w.0 w.1 in
            let stands : IsFiledRow (entry x.0) n k c = subst (λ y. IsFiledRow y n k c) x.2 w.2 in
            (entry x.0, mapped_has entry new x.0 (gone.kept x.0 x.1 (apart_from x.0 n tab k key (stands_at x.0 n k c stands) e)), stands)

    pub gone_rows : AreAllRows (map entry new) rest
    gone_rows = record { each = each_gone; all = all_gone }

-- inside a transaction the text that puts a row sets its place
pub puts_place : (old new : State) (tab : ℕ) (key content : List ℕ) (r : Result ℕ Error) → (1 ≤ tab) × (tab ≤ 15) → (length key ≤ longest) × (length content ≤ longest) → HoldsTable old
    → ExecutesInside 0 put_text (Int (pos tab) ∷ Blob key ∷ Blob content ∷ []) old new r → OnOk r (SetsPlace (tab ∷ key) (Some content) old new)
puts_place old new tab key content (Err e) table sizes holds ran = tt
puts_place old new tab key content (Ok count) table sizes holds ran =
    let put = puts old new tab key content holds count ran.0 in
    record { table = put.1; rows = λ t are. put_rows tab key (old.now.trees 0) (new.now.trees 0) t content table sizes put.0 are; shows = ran.1 }

-- and the one that takes a row away
pub removes_place : (old new : State) (tab : ℕ) (key : List ℕ) (r : Result ℕ Error) → HoldsTable old
    → ExecutesInside 0 remove_text (Int (pos tab) ∷ Blob key ∷ []) old new r → OnOk r (SetsPlace (tab ∷ key) None old new)
removes_place old new tab key (Err e) holds ran = tt
removes_place old new tab key (Ok count) holds ran =
    let gone = removes old new tab key holds count ran.0 in
    record { table = gone.1; rows = λ t are. gone_rows tab key (old.now.trees 0) (new.now.trees 0) t gone.0 are; shows = ran.1 }
