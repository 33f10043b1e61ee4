-- Settled rows are the rows of the worlds, and the other way round.
use Rattle.std.proofs.Common.{◌≡◌, ◌∙◌, ℕ, Bool, true, false, not, ◌&&◌, ◌||◌, List, [], ◌∷◌, Option, Some, None, inl, inr, refl, ap, sym}
use Rattle.std.proofs.lemmas.Bool.{true≢false, false≢true, cases_Bool, and_parts, and_from, false_from_ne_true}
use Rattle.bdb_base.specs.declared.kinds.Sign.{Sign}
use Rattle.bdb_base.specs.declared.kinds.Sign.TheVariants.{Plus, Minus}
use Rattle.bdb_base.specs.declared.kinds.Stmt.{Stmt}
use Rattle.bdb_base.specs.declared.tuple.Tuple.{Tuple}
use Rattle.bdb_base.specs.Clash.{clash}
use Rattle.bdb_base.specs.Same.{same_tuple, same_path, same_sign}
use Rattle.bdb_base.specs.SameLemmas.{same_tuple-Decides, same_sign-Decides}
use Rattle.bdb_base.specs.States.{is_state, deepest_suffix}
use Rattle.bdb_base.specs.Worlds.{explicit, stated, contradicted, IsConsistent}
use Rattle.bdb_base.proofs.WorldLemmas.{list_any_weaker, plain_inheritance, worlds_are_consistent}
use Rattle.bdb_paths.proofs.SuffixLemmas.{deepest_here, deepest_past}
use Rattle.bdb_tables.specs.Marks.{sign_by, sign_in, sign_of, explicit_sign, marked, mark_of}
use Rattle.bdb_val.specs.Settled.{passed_on, is_barred, settled_mark, LinkedWorlds, AreLinked, RowsByWorld, sign_at, IsSettled, HasStates}
use Rattle.bdb_val.specs.Laws.{SettledRowsAreRight, RightRowsAreSettled}

-- a test of signs by its two answers
abbrev by_sign : Bool → Bool → Sign → Bool
by_sign plus minus Plus = plus
by_sign plus minus Minus = minus

barred_by_sign : (bars : Sign → Bool) (o : Option Sign) → is_barred bars o ≡ is_barred (by_sign (bars Plus) (bars Minus)) o
barred_by_sign bars None = refl
barred_by_sign bars (Some Plus) = refl
barred_by_sign bars (Some Minus) = refl

settled_by_sign : (o : Option Sign) (bars : Sign → Bool) (from : Option Sign) → settled_mark o bars from ≡ settled_mark o (by_sign (bars Plus) (bars Minus)) from
settled_by_sign None bars from = ap (λ b. passed_on b from) (barred_by_sign bars from)
settled_by_sign (Some s) bars from = refl

marked_by_sign : (f : Sign → Bool) (o : Option Sign) → marked f o ≡ marked (by_sign (f Plus) (f Minus)) o
marked_by_sign f None = refl
marked_by_sign f (Some Plus) = refl
marked_by_sign f (Some Minus) = refl

table : (ep em sp sm cp cm : Bool) → (ep && em) ≡ false → (sp && sm) ≡ false → (ep && not cm) ≡ false → (em && not cp) ≡ false
    → settled_mark (sign_by ep em) (by_sign cp cm) (sign_by sp sm) ≡ marked (by_sign ep em) (sign_by (ep || (sp && not cp)) (em || (sm && not cm)))
table true true sp sm cp cm a b c d = absurd (true≢false a)
table true false sp sm cp cm a b c d = refl
table false true true sm true cm a b c d = refl
table false true false sm true cm a b c d = refl
table false true sp sm false cm a b c d = absurd (true≢false d)
table false false true true cp cm a b c d = absurd (true≢false b)
table false false true false true cm a b c d = refl
table false false true false false cm a b c d = refl
table false false false true cp true a b c d = refl
table false false false true cp false a b c d = refl
table false false false false cp cm a b c d = refl

both_false : (x y : Bool) → (x ≡ true → y ≡ true → ⊥) → (x && y) ≡ false
both_false x y h = false_from_ne_true (x && y) (λ e. let p = and_parts x y e in h p.0 p.1)

-- what is explicit contradicts the same tuple with the other sign
explicit_bars : (keys : ℕ → ℕ) (stmts : List Stmt) (w : List ℕ) (t : Tuple) (s s' : Sign) → clash keys t s t s' ≡ true → explicit stmts w t s' ≡ true
    → contradicted keys stmts w t s ≡ true
explicit_bars keys stmts w t s s' c e = list_any_weaker (λ x. same_path x.path w && (same_tuple x.tuple t && same_sign x.sign s')) (λ x. same_path x.path w && clash keys t s x.tuple x.sign)
    (λ x a.
    let parts = and_parts (same_path x.path w) (same_tuple x.tuple t && same_sign x.sign s') a in
    let more = and_parts (same_tuple x.tuple t) (same_sign x.sign s') parts.1 in
    let q : x.tuple ≡ t = (same_tuple-Decides x.tuple t).0 more.0 in
    let r : x.sign ≡ s' = (same_sign-Decides x.sign s').0 more.1 in
    and_from (same_path x.path w) (clash keys t s x.tuple x.sign) parts.0 (ap (λ u. clash keys t s u x.sign) q ∙ ap (λ u. clash keys t s t u) r ∙ c)) stmts e

one_tuple : (t : Tuple) → same_tuple t t ≡ true
one_tuple t = (same_tuple-Decides t t).1 refl

-- one step down a path, from the signs of its tail
settled_step : (keys : ℕ → ℕ) (stmts : List Stmt) (i : ℕ) (w : List ℕ) (t : Tuple) → IsConsistent keys stmts
    → settled_mark (explicit_sign stmts (i ∷ w) t) (contradicted keys stmts (i ∷ w) t) (sign_in keys stmts w t) ≡ mark_of keys stmts (i ∷ w) t
settled_step keys stmts i w t c =
    let v = i ∷ w in
    let ep = explicit stmts v t Plus in
    let em = explicit stmts v t Minus in
    let sp = stated keys stmts w t Plus in
    let sm = stated keys stmts w t Minus in
    let cp = contradicted keys stmts v t Plus in
    let cm = contradicted keys stmts v t Minus in
    settled_by_sign (sign_by ep em) (contradicted keys stmts v t) (sign_by sp sm)
    ∙ table ep em sp sm cp cm
    (both_false ep em (λ a b. false≢true (sym (c v t t Plus Minus a b) ∙ one_tuple t)))
    (both_false sp sm (λ a b. false≢true (sym (worlds_are_consistent keys stmts c w t t Plus Minus a b) ∙ one_tuple t)))
    (barred_too ep cm (λ a. explicit_bars keys stmts v t Minus Plus (one_tuple t) a))
    (barred_too em cp (λ a. explicit_bars keys stmts v t Plus Minus (one_tuple t) a))
    ∙ sym (marked_by_sign (explicit stmts v t) (sign_in keys stmts v t))
  where
    barred_too : (x y : Bool) → (x ≡ true → y ≡ true) → (x && not y) ≡ false
    barred_too true true h = refl
    barred_too true false h = sym (h refl)
    barred_too false y h = refl

-- at the empty path nothing is inherited
settled_root : (keys : ℕ → ℕ) (stmts : List Stmt) (t : Tuple) → settled_mark (explicit_sign stmts [] t) (contradicted keys stmts [] t) None ≡ mark_of keys stmts [] t
settled_root keys stmts t = cases (explicit stmts [] t Plus) (explicit stmts [] t Minus) (explicit stmts [] t) (contradicted keys stmts [] t) refl refl
  where
    cases : (p m : Bool) (e c : Sign → Bool) → e Plus ≡ p → e Minus ≡ m → settled_mark (sign_by p m) c None ≡ marked e (sign_by p m)
    cases true m e c a b = ap (λ x. Some (Plus, x)) (sym a)
    cases false true e c a b = ap (λ x. Some (Minus, x)) (sym b)
    cases false false e c a b = refl

-- the sign of a marked sign
sign_of_marked : (f : Sign → Bool) (o : Option Sign) → sign_of (marked f o) ≡ o
sign_of_marked f None = refl
sign_of_marked f (Some s) = refl

-- a path that is no state has the signs of its tail
plain_signs : (keys : ℕ → ℕ) (stmts : List Stmt) (i : ℕ) (w : List ℕ) (t : Tuple) → is_state stmts (i ∷ w) ≡ false → sign_in keys stmts (i ∷ w) t ≡ sign_in keys stmts w t
plain_signs keys stmts i w t h =
    ap (λ b. sign_by b (stated keys stmts (i ∷ w) t Minus)) (plain_inheritance keys stmts (i ∷ w) h t Plus)
    ∙ ap (λ b. sign_by (stated keys stmts w t Plus) b) (plain_inheritance keys stmts (i ∷ w) h t Minus)

no_state : (stmts : List Stmt) (P : List ℕ → Bool) → HasStates stmts P → (w : List ℕ) → P w ≡ false → is_state stmts w ≡ false
no_state stmts P h w e = false_from_ne_true (is_state stmts w) (λ s. false≢true (sym e ∙ h w s))

-- a world's number has the signs of each path whose deepest suffix is its name
signs_right : (keys : ℕ → ℕ) (stmts : List Stmt) (P : List ℕ → Bool) (n : LinkedWorlds) (t : Tuple) (f : RowsByWorld) → IsConsistent keys stmts → HasStates stmts P → AreLinked P n
    → ((wid : ℕ) → IsSettled keys stmts n t f wid)
    → (w : List ℕ) (wid : ℕ) → n.path wid ≡ Some (deepest_suffix P w) → sign_of (f wid) ≡ sign_in keys stmts w t
signs_right keys stmts P n t f c h l s [] wid e =
    ap sign_of (s wid [] e ∙ ap (λ o. settled_mark (explicit_sign stmts [] t) (contradicted keys stmts [] t) (sign_at f o)) (l.root wid e) ∙ settled_root keys stmts t)
    ∙ sign_of_marked (explicit stmts [] t) (sign_in keys stmts [] t)
signs_right keys stmts P n t f c h l s (i ∷ w) wid e = elim (cases_Bool (P (i ∷ w))) [
  | inl a ↦
      let named : n.path wid ≡ Some (i ∷ w) = e ∙ ap Some (deepest_here P i w a) in
      let m = l.link wid i w named in
      ap sign_of (s wid (i ∷ w) named
      ∙ ap (λ o. settled_mark (explicit_sign stmts (i ∷ w) t) (contradicted keys stmts (i ∷ w) t) (sign_at f o)) m.1
      ∙ ap (λ o. settled_mark (explicit_sign stmts (i ∷ w) t) (contradicted keys stmts (i ∷ w) t) o) (signs_right keys stmts P n t f c h l s w m.0 m.2)
      ∙ settled_step keys stmts i w t c)
      ∙ sign_of_marked (explicit stmts (i ∷ w) t) (sign_in keys stmts (i ∷ w) t)
  | inr a ↦ signs_right keys stmts P n t f c h l s w wid (e ∙ ap Some (deepest_past P i w a)) ∙ sym (plain_signs keys stmts i w t (no_state stmts P h (i ∷ w) a))
]

pub settled_rows_are_right : SettledRowsAreRight
settled_rows_are_right keys stmts P n t f c h l s wid [] e =
    s wid [] e ∙ ap (λ o. settled_mark (explicit_sign stmts [] t) (contradicted keys stmts [] t) (sign_at f o)) (l.root wid e) ∙ settled_root keys stmts t
settled_rows_are_right keys stmts P n t f c h l s wid (i ∷ w) e =
    let m = l.link wid i w e in
    s wid (i ∷ w) e
    ∙ ap (λ o. settled_mark (explicit_sign stmts (i ∷ w) t) (contradicted keys stmts (i ∷ w) t) (sign_at f o)) m.1
    ∙ ap (λ o. settled_mark (explicit_sign stmts (i ∷ w) t) (contradicted keys stmts (i ∷ w) t) o) (signs_right keys stmts P n t f c h l s w m.0 m.2)
    ∙ settled_step keys stmts i w t c

-- a path has the signs of its deepest suffix
signs_of_deepest : (keys : ℕ → ℕ) (stmts : List Stmt) (P : List ℕ → Bool) → HasStates stmts P → (w : List ℕ) (t : Tuple)
    → sign_in keys stmts (deepest_suffix P w) t ≡ sign_in keys stmts w t
signs_of_deepest keys stmts P h [] t = refl
signs_of_deepest keys stmts P h (i ∷ w) t = elim (cases_Bool (P (i ∷ w))) [
  | inl a ↦ ap (λ v. sign_in keys stmts v t) (deepest_here P i w a)
  | inr a ↦ ap (λ v. sign_in keys stmts v t) (deepest_past P i w a) ∙ signs_of_deepest keys stmts P h w t ∙ sym (plain_signs keys stmts i w t (no_state stmts P h (i ∷ w) a))
]

pub right_rows_are_settled : RightRowsAreSettled
right_rows_are_settled keys stmts P n t f c h l r wid [] e =
    r wid [] e ∙ sym (settled_root keys stmts t) ∙ ap (λ o. settled_mark (explicit_sign stmts [] t) (contradicted keys stmts [] t) (sign_at f o)) (sym (l.root wid e))
right_rows_are_settled keys stmts P n t f c h l r wid (i ∷ w) e =
    let m = l.link wid i w e in
    r wid (i ∷ w) e ∙ sym (settled_step keys stmts i w t c)
    ∙ ap (λ o. settled_mark (explicit_sign stmts (i ∷ w) t) (contradicted keys stmts (i ∷ w) t) o)
    (sym (ap sign_of (r m.0 (deepest_suffix P w) m.2) ∙ sign_of_marked (explicit stmts (deepest_suffix P w) t) (sign_in keys stmts (deepest_suffix P w) t) ∙ signs_of_deepest keys stmts P h w t))
    ∙ ap (λ o. settled_mark (explicit_sign stmts (i ∷ w) t) (contradicted keys stmts (i ∷ w) t) (sign_at f o)) (sym m.1)
