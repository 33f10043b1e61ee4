-- The row that a tuple is to have, by the rows that were read, is the settled one.
use Rattle.std.proofs.Common.{◌≡◌, ◌∙◌, ℕ, Bool, true, false, ◌&&◌, nat_eq, List, [], ◌∷◌, Option, Some, None, inl, inr, refl, ap, sym}
use Rattle.std.specs.List.{AllByRecursion}
use Rattle.std.proofs.lemmas.Bool.{false≢true, cases_Bool, and_parts, and_from, or_cases, or_left, or_right, false_from_ne_true, cond-true, cond-false, eqb-true}
use Rattle.bdb_base.specs.declared.kinds.Sign.{Sign}
use Rattle.bdb_base.specs.declared.kinds.Stmt.{Stmt}
use Rattle.bdb_base.specs.declared.tuple.Tuple.{Tuple}
use Rattle.bdb_base.specs.Clash.{clash}
use Rattle.bdb_base.specs.Same.{same_tuple, same_path, same_sign}
use Rattle.bdb_base.specs.SameLemmas.{same_tuple-Decides, same_sign-Decides}
use Rattle.bdb_base.specs.Worlds.{explicit, contradicted, IsConsistent}
use Rattle.bdb_base.proofs.WorldLemmas.{explicit_apart}
use Rattle.bdb_tables.specs.Marks.{Mark, sign_of, explicit_of, explicit_sign}
use Rattle.bdb_tables.proofs.SignLemmas.{one_sign}
use Rattle.bdb_val.specs.Settled.{passed_on, is_barred, settled_mark}
use Rattle.bdb_val.specs.Settling.{mark_in, barred_by, AreNamed, IsClosedGroup, HaveTupleNumbers, IsStatedAt, AreExplicit}
use Rattle.bdb_val.specs.Laws.{NextMarksAreSettled}
use Rattle.bdb_val.specs.declared.stored.StoredRow.{StoredRow}

-- what contradicts is explicit, and clashes
contradicting : (keys : ℕ → ℕ) (stmts : List Stmt) (w : List ℕ) (t : Tuple) (s : Sign) → contradicted keys stmts w t s ≡ true
    → (t' : Tuple) × (s' : Sign) × (explicit stmts w t' s' ≡ true) × (clash keys t s t' s' ≡ true)
contradicting keys [] w t s e = absurd (false≢true e)
contradicting keys (x ∷ xs) w t s e = elim (or_cases (same_path x.path w && clash keys t s x.tuple x.sign) (contradicted keys xs w t s) e) [
  | inl a ↦
      let parts = and_parts (same_path x.path w) (clash keys t s x.tuple x.sign) a in (
        x.tuple,
        x.sign,
        or_left (same_path x.path w && (same_tuple x.tuple x.tuple && same_sign x.sign x.sign)) (explicit xs w x.tuple x.sign)
            (and_from (same_path x.path w) (same_tuple x.tuple x.tuple && same_sign x.sign x.sign) parts.0
            (and_from (same_tuple x.tuple x.tuple) (same_sign x.sign x.sign) ((same_tuple-Decides x.tuple x.tuple).1 refl) ((same_sign-Decides x.sign x.sign).1 refl))),
        parts.1,
      )
  | inr b ↦
      let r = contradicting keys xs w t s b in
      (r.0, r.1, or_right (same_path x.path w && (same_tuple x.tuple r.0 && same_sign x.sign r.1)) (explicit xs w r.0 r.1) r.2, r.3)
]

abbrev no_sign : Option Sign
no_sign = None

none_is_some : (s : Sign) → no_sign ≡ Some s → ⊥
none_is_some s e = cc

explicit_mark : (m : Mark) (s : Sign) → explicit_of (Some m) ≡ Some s → (m.1 ≡ true) × (m.0 ≡ s)
explicit_mark m s e = elim (cases_Bool m.1) [
  | inl a ↦ (a, the_sign (sym (cond-true m.1 (Some m.0) None a) ∙ e))
  | inr a ↦ absurd (none_is_some s (sym (cond-false m.1 (Some m.0) None a) ∙ e))
]
  where
    the_sign : {x y : Sign} → Some x ≡ Some y → x ≡ y
    the_sign e = cc

pub one_tuple : (tuple : ℕ → Option Tuple) (a b : ℕ) (t u : Tuple) → tuple a ≡ Some t → tuple b ≡ Some u → nat_eq a b ≡ true → t ≡ u
one_tuple tuple a b t u p q e = let k : a ≡ b = eqb-true a b e in let l : tuple a ≡ tuple b = ap tuple k in cc

-- an explicit row of a tuple bars what clashes with it
row_bars : (keys : ℕ → ℕ) (tuple : ℕ → Option Tuple) (xs : List StoredRow) (tid : ℕ) (t t' : Tuple) (s s' : Sign) → AreNamed tuple xs → tuple tid ≡ Some t'
    → explicit_of (mark_in xs tid) ≡ Some s' → clash keys t s t' s' ≡ true → barred_by keys xs t s ≡ true
row_bars keys tuple [] tid t t' s s' n e m c = absurd (none_is_some s' m)
row_bars keys tuple (x ∷ xs) tid t t' s s' n e m c = elim (cases_Bool (nat_eq x.tid tid)) [
  | inl a ↦
      let mark = explicit_mark x.mark s' (ap explicit_of (sym (cond-true (nat_eq x.tid tid) (Some x.mark) (mark_in xs tid) a)) ∙ m) in
      let same : x.tuple ≡ t' = one_tuple tuple x.tid tid x.tuple t' n.0 e a in
      or_left (x.mark.1 && clash keys t s x.tuple x.mark.0) (barred_by keys xs t s)
      (and_from x.mark.1 (clash keys t s x.tuple x.mark.0) mark.0 (ap (λ u. clash keys t s u x.mark.0) same ∙ ap (λ r. clash keys t s t' r) mark.1 ∙ c))
  | inr a ↦ or_right (x.mark.1 && clash keys t s x.tuple x.mark.0) (barred_by keys xs t s)
      (row_bars keys tuple xs tid t t' s s' n.1 e (ap explicit_of (sym (cond-false (nat_eq x.tid tid) (Some x.mark) (mark_in xs tid) a)) ∙ m) c)
]

-- what bars is a statement of the path
bars_contradict : (keys : ℕ → ℕ) (stmts : List Stmt) (w : List ℕ) (xs : List StoredRow) (t : Tuple) (s : Sign) → AllByRecursion (IsStatedAt stmts w) xs
    → contradicted keys stmts w t s ≡ false → barred_by keys xs t s ≡ false
bars_contradict keys stmts w [] t s n e = refl
bars_contradict keys stmts w (x ∷ xs) t s n e = false_from_ne_true (barred_by keys (x ∷ xs) t s) (λ h.
    elim (or_cases (x.mark.1 && clash keys t s x.tuple x.mark.0) (barred_by keys xs t s) h) [
      | inl a ↦
          let parts = and_parts x.mark.1 (clash keys t s x.tuple x.mark.0) a in
          false≢true (sym (explicit_apart keys stmts w t x.tuple s x.mark.0 e (n.0 parts.0)) ∙ parts.1)
      | inr b ↦ false≢true (sym (bars_contradict keys stmts w xs t s n.1 e) ∙ b)
    ])

same_bars : (keys : ℕ → ℕ) (stmts : List Stmt) (tuple : ℕ → Option Tuple) (test : Tuple → Bool) (own : List StoredRow) (w : List ℕ)
    → IsConsistent keys stmts → IsClosedGroup keys test → HaveTupleNumbers tuple stmts → AreExplicit tuple test stmts w own
    → (t : Tuple) (s : Sign) → test t ≡ true → barred_by keys own t s ≡ contradicted keys stmts w t s
same_bars keys stmts tuple test own w c g n x t s e = elim (cases_Bool (contradicted keys stmts w t s)) [
  | inl a ↦
      let r = contradicting keys stmts w t s a in
      let tid = n w r.0 r.1 r.2 in
      row_bars keys tuple own tid.0 t r.0 s r.1 x.named tid.1 (x.all tid.0 r.0 tid.1 (g t r.0 s r.1 e r.3) ∙ one_sign keys stmts w r.0 r.1 c r.2) r.3 ∙ sym a
  | inr a ↦ bars_contradict keys stmts w own t s x.stated a ∙ sym a
]

barred_alike : (f g : Sign → Bool) → ((s : Sign) → f s ≡ g s) → (o : Option Sign) → is_barred f o ≡ is_barred g o
barred_alike f g h None = refl
barred_alike f g h (Some s) = h s

pub settled_alike : (f g : Sign → Bool) → ((s : Sign) → f s ≡ g s) → (o from : Option Sign) → settled_mark o f from ≡ settled_mark o g from
settled_alike f g h None from = ap (λ b. passed_on b from) (barred_alike f g h from)
settled_alike f g h (Some s) from = refl

pub next_marks_are_settled : NextMarksAreSettled
next_marks_are_settled keys stmts tuple test own from w c g n x tid t e h =
    ap (λ o. settled_mark o (barred_by keys own t) (sign_of (mark_in from tid))) (x.all tid t e h)
    ∙ settled_alike (barred_by keys own t) (contradicted keys stmts w t) (λ s. same_bars keys stmts tuple test own w c g n x t s h) (explicit_sign stmts w t) (sign_of (mark_in from tid))
