-- The rows of a world are its signed tuples; no two of them clash, and no tuple stands twice.
use Rattle.std.proofs.Common.{◌≡◌, ◌∙◌, ℕ, Bool, true, false, ◌&&◌, ◌||◌, List, [], ◌∷◌, ◌++◌, ◌⊎◌, inl, inr, refl, ap, sym, map}
use Rattle.std.specs.Cmp.{booleans_Decides}
use Rattle.std.specs.List.{list_any, list_all, flat_map}
use Rattle.std.specs.Ordering.{is_eq, is_lt}
use Rattle.std.specs.Bool.{beq}
use Rattle.std.proofs.lemmas.Bool.{false≢true, cases_Bool, or_cases, or_left, or_right, and_parts, and_from, cond-true, cond-false}
use Rattle.std.proofs.lemmas.List.Folds.{list_any-append, list_all-append}
use Rattle.bdb_base.specs.declared.kinds.Held.{Held}
use Rattle.bdb_base.specs.declared.kinds.Sign.{Sign}
use Rattle.bdb_base.specs.declared.kinds.Sign.TheVariants.{Plus, Minus}
use Rattle.bdb_base.specs.declared.kinds.Stmt.{Stmt}
use Rattle.bdb_base.specs.declared.tuple.Tuple.{Tuple}
use Rattle.bdb_base.specs.Laws.{RowsAreTheWorld, RowsDoNotClash, TuplesStandOnce}
use Rattle.bdb_base.specs.Order.{tuple_cmp}
use Rattle.bdb_base.specs.OrderLemmas.{tuple_exact, is_eq_tuple_cmp}
use Rattle.bdb_base.specs.Same.{same_tuple, same_sign}
use Rattle.bdb_base.specs.SameLemmas.{same_tuple-Decides, same_sign-Decides}
use Rattle.bdb_base.specs.SortedSet.{ascending, is_member}
use Rattle.bdb_base.specs.WorldRows.{tuples_of, row_at, rows_at, same_row, has_row, row_tuple_cmp}
use Rattle.bdb_base.specs.Worlds.{explicit, stated, IsConsistent}
use Rattle.bdb_base.proofs.SetLemmas.{set_is_ascending, set_keeps_members}
use Rattle.bdb_base.proofs.WorldLemmas.{list_any_weaker, found_by, stated_tuples_are_explicit, worlds_are_consistent}

pub list_any-flat_map : {X Y : Type 0} (p : Y → Bool) (f : X → List Y) (xs : List X) → list_any p (flat_map f xs) ≡ list_any (λ x. list_any p (f x)) xs
list_any-flat_map p f [] = refl
list_any-flat_map p f (x ∷ xs) = list_any-append p (f x) (flat_map f xs) ∙ ap (λ b. list_any p (f x) || b) (list_any-flat_map p f xs)

pub list_all-flat_map : {X Y : Type 0} (p : X → Bool) (q : Y → Bool) (f : X → List Y) → ((x : X) → p x ≡ true → list_all q (f x) ≡ true) → (xs : List X) → list_all p xs ≡ true → list_all q (flat_map f xs) ≡ true
list_all-flat_map p q f h [] e = refl
list_all-flat_map p q f h (x ∷ xs) e =
    let parts = and_parts (p x) (list_all p xs) e in
    list_all-append q (f x) (flat_map f xs) ∙ and_from (list_all q (f x)) (list_all q (flat_map f xs)) (h x parts.0) (list_all-flat_map p q f h xs parts.1)

-- a row of a tuple, a sign and a mark
abbrev pub held : Tuple → Sign → Bool → Held
held t s b = record { tuple = t; sign = s; explicit = b }

pub same_row_tells : (a b : Held) → same_row a b ≡ true → (a.tuple ≡ b.tuple) × (a.sign ≡ b.sign) × (a.explicit ≡ b.explicit)
same_row_tells a b e =
    let parts = and_parts (same_tuple a.tuple b.tuple) (same_sign a.sign b.sign && beq a.explicit b.explicit) e in
    let more = and_parts (same_sign a.sign b.sign) (beq a.explicit b.explicit) parts.1 in
    ((same_tuple-Decides a.tuple b.tuple).0 parts.0, (same_sign-Decides a.sign b.sign).0 more.0, (booleans_Decides a.explicit b.explicit).0 more.1)

pub same_row_from : (a b : Held) → a.tuple ≡ b.tuple → a.sign ≡ b.sign → a.explicit ≡ b.explicit → same_row a b ≡ true
same_row_from a b t s e = and_from (same_tuple a.tuple b.tuple) (same_sign a.sign b.sign && beq a.explicit b.explicit) ((same_tuple-Decides a.tuple b.tuple).1 t)
    (and_from (same_sign a.sign b.sign) (beq a.explicit b.explicit) ((same_sign-Decides a.sign b.sign).1 s) ((booleans_Decides a.explicit b.explicit).1 e))

pub row_at_tells : (keys : ℕ → ℕ) (stmts : List Stmt) (w : List ℕ) (t : Tuple) (s : Sign) (h : Held) → has_row (row_at keys stmts w t s) h ≡ true
    → (stated keys stmts w h.tuple h.sign ≡ true) × (h.explicit ≡ explicit stmts w h.tuple h.sign)
row_at_tells keys stmts w t s h e = elim (cases_Bool (stated keys stmts w t s)) [
  | inl a ↦
      let k : row_at keys stmts w t s ≡ held t s (explicit stmts w t s) ∷ [] = cond-true (stated keys stmts w t s) (held t s (explicit stmts w t s) ∷ []) [] a in
      elim (or_cases (same_row h (held t s (explicit stmts w t s))) false (ap (λ rows. has_row rows h) (sym k) ∙ e)) [
        | inl b ↦
            let same = same_row_tells h (held t s (explicit stmts w t s)) b in (
              ap (λ u. stated keys stmts w u h.sign) same.0 ∙ ap (λ u. stated keys stmts w t u) same.1 ∙ a,
              same.2 ∙ ap (λ u. explicit stmts w u s) (sym same.0) ∙ ap (λ u. explicit stmts w h.tuple u) (sym same.1),
            )
        | inr b ↦ absurd (false≢true b)
      ]
  | inr a ↦
      let k : row_at keys stmts w t s ≡ [] = cond-false (stated keys stmts w t s) (held t s (explicit stmts w t s) ∷ []) [] a in
      absurd (false≢true (ap (λ rows. has_row rows h) (sym k) ∙ e))
]

pub row_at_has : (keys : ℕ → ℕ) (stmts : List Stmt) (w : List ℕ) (t : Tuple) (s : Sign) (h : Held) → t ≡ h.tuple → s ≡ h.sign
    → stated keys stmts w h.tuple h.sign ≡ true → h.explicit ≡ explicit stmts w h.tuple h.sign → has_row (row_at keys stmts w t s) h ≡ true
row_at_has keys stmts w t s h p q a e =
    let b : stated keys stmts w t s ≡ true = ap (λ u. stated keys stmts w u s) p ∙ ap (λ u. stated keys stmts w h.tuple u) q ∙ a in
    let k : row_at keys stmts w t s ≡ held t s (explicit stmts w t s) ∷ [] = cond-true (stated keys stmts w t s) (held t s (explicit stmts w t s) ∷ []) [] b in
    let m : h.explicit ≡ explicit stmts w t s = e ∙ ap (λ u. explicit stmts w u h.sign) (sym p) ∙ ap (λ u. explicit stmts w t u) (sym q) in
    ap (λ rows. has_row rows h) k
    ∙ or_left (same_row h (held t s (explicit stmts w t s))) false (same_row_from h (held t s (explicit stmts w t s)) (sym p) (sym q) m)

pub rows_at_has : (keys : ℕ → ℕ) (stmts : List Stmt) (w : List ℕ) (t : Tuple) (h : Held) (s : Sign) → h.sign ≡ s → has_row (row_at keys stmts w t s) h ≡ true → has_row (rows_at keys stmts w t) h ≡ true
rows_at_has keys stmts w t h Plus q e = list_any-append (same_row h) (row_at keys stmts w t Plus) (row_at keys stmts w t Minus)
    ∙ or_left (has_row (row_at keys stmts w t Plus) h) (has_row (row_at keys stmts w t Minus) h) e
rows_at_has keys stmts w t h Minus q e = list_any-append (same_row h) (row_at keys stmts w t Plus) (row_at keys stmts w t Minus)
    ∙ or_right (has_row (row_at keys stmts w t Plus) h) (has_row (row_at keys stmts w t Minus) h) e

pub member_of_map : (stmts : List Stmt) (t : Tuple) → is_member tuple_cmp (map (λ x. x.tuple) stmts) t ≡ list_any (λ x. same_tuple x.tuple t) stmts
member_of_map [] t = refl
member_of_map (x ∷ xs) t = ap (λ b. b || is_member tuple_cmp (map (λ y. y.tuple) xs) t) (is_eq_tuple_cmp x.tuple t) ∙ ap (λ b. same_tuple x.tuple t || b) (member_of_map xs t)

-- a stated tuple is among the tuples of the statements
pub stated_is_member : (keys : ℕ → ℕ) (stmts : List Stmt) (w : List ℕ) (t : Tuple) (s : Sign) → stated keys stmts w t s ≡ true → is_member tuple_cmp (tuples_of stmts) t ≡ true
stated_is_member keys stmts w t s e = set_keeps_members tuple_exact (map (λ x. x.tuple) stmts) t ∙ member_of_map stmts t ∙ stated_tuples_are_explicit keys stmts w t s e

pub rows_are_the_world : RowsAreTheWorld
rows_are_the_world keys stmts w h = (
  (λ e.
      let found = found_by (λ t. has_row (rows_at keys stmts w t) h) (tuples_of stmts) (sym (list_any-flat_map (same_row h) (rows_at keys stmts w) (tuples_of stmts)) ∙ e) in
      elim (or_cases (has_row (row_at keys stmts w found.0 Plus) h) (has_row (row_at keys stmts w found.0 Minus) h)
      (sym (list_any-append (same_row h) (row_at keys stmts w found.0 Plus) (row_at keys stmts w found.0 Minus)) ∙ found.1)) [
        | inl a ↦ row_at_tells keys stmts w found.0 Plus h a
        | inr a ↦ row_at_tells keys stmts w found.0 Minus h a
      ]),
  (λ e. list_any-flat_map (same_row h) (rows_at keys stmts w) (tuples_of stmts)
      ∙ list_any_weaker (λ t. is_eq (tuple_cmp t h.tuple)) (λ t. has_row (rows_at keys stmts w t) h)
      (λ t a. rows_at_has keys stmts w t h h.sign refl
      (row_at_has keys stmts w t h.sign h ((same_tuple-Decides t h.tuple).0 (sym (is_eq_tuple_cmp t h.tuple) ∙ a)) refl e.0 e.1))
      (tuples_of stmts) (stated_is_member keys stmts w h.tuple h.sign e.0)),
)

pub rows_do_not_clash : RowsDoNotClash
rows_do_not_clash keys stmts c w a b e f =
    worlds_are_consistent keys stmts c w a.tuple b.tuple a.sign b.sign ((rows_are_the_world keys stmts w a).0 e).0 ((rows_are_the_world keys stmts w b).0 f).0

-- a tuple has no row, or one
pub one_row : (keys : ℕ → ℕ) (stmts : List Stmt) → IsConsistent keys stmts → (w : List ℕ) (t : Tuple)
    → (rows_at keys stmts w t ≡ []) ⊎ ((h : Held) × (rows_at keys stmts w t ≡ h ∷ []) × (h.tuple ≡ t))
one_row keys stmts c w t = elim (cases_Bool (stated keys stmts w t Plus)) [
  | inl a ↦
      let p : row_at keys stmts w t Plus ≡ held t Plus (explicit stmts w t Plus) ∷ [] = cond-true (stated keys stmts w t Plus) (held t Plus (explicit stmts w t Plus) ∷ []) [] a in
      elim (cases_Bool (stated keys stmts w t Minus)) [
        | inl b ↦
            let apart : same_tuple t t ≡ false = worlds_are_consistent keys stmts c w t t Plus Minus a b in
            absurd (false≢true (sym apart ∙ (same_tuple-Decides t t).1 refl))
        | inr b ↦
            let m : row_at keys stmts w t Minus ≡ [] = cond-false (stated keys stmts w t Minus) (held t Minus (explicit stmts w t Minus) ∷ []) [] b in
            inr (held t Plus (explicit stmts w t Plus), ap (λ rows. rows ++ row_at keys stmts w t Minus) p ∙ ap (λ rows. (held t Plus (explicit stmts w t Plus) ∷ []) ++ rows) m, refl)
      ]
  | inr a ↦
      let p : row_at keys stmts w t Plus ≡ [] = cond-false (stated keys stmts w t Plus) (held t Plus (explicit stmts w t Plus) ∷ []) [] a in
      elim (cases_Bool (stated keys stmts w t Minus)) [
        | inl b ↦
            let m : row_at keys stmts w t Minus ≡ held t Minus (explicit stmts w t Minus) ∷ [] = cond-true (stated keys stmts w t Minus) (held t Minus (explicit stmts w t Minus) ∷ []) [] b in
            inr (held t Minus (explicit stmts w t Minus), ap (λ rows. rows ++ row_at keys stmts w t Minus) p ∙ m, refl)
        | inr b ↦
            let m : row_at keys stmts w t Minus ≡ [] = cond-false (stated keys stmts w t Minus) (held t Minus (explicit stmts w t Minus) ∷ []) [] b in
            inl (ap (λ rows. rows ++ row_at keys stmts w t Minus) p ∙ m)
      ]
]

-- the rows of each tuple above a first one are above it
rows_above : (keys : ℕ → ℕ) (stmts : List Stmt) → IsConsistent keys stmts → (w : List ℕ) (t u : Tuple) → is_lt (tuple_cmp t u) ≡ true
    → list_all (λ h. is_lt (tuple_cmp t h.tuple)) (rows_at keys stmts w u) ≡ true
rows_above keys stmts c w t u e = elim (one_row keys stmts c w u) [
  | inl a ↦ ap (list_all (λ h. is_lt (tuple_cmp t h.tuple))) a
  | inr a ↦ ap (list_all (λ h. is_lt (tuple_cmp t h.tuple))) a.1 ∙ and_from (is_lt (tuple_cmp t a.0.tuple)) true (ap (λ v. is_lt (tuple_cmp t v)) a.2 ∙ e) refl
]

pub rows_ascend : (keys : ℕ → ℕ) (stmts : List Stmt) → IsConsistent keys stmts → (w : List ℕ) (ts : List Tuple) → ascending tuple_cmp ts ≡ true
    → ascending row_tuple_cmp (flat_map (rows_at keys stmts w) ts) ≡ true
rows_ascend keys stmts c w [] e = refl
rows_ascend keys stmts c w (t ∷ ts) e =
    let parts = and_parts (list_all (λ u. is_lt (tuple_cmp t u)) ts) (ascending tuple_cmp ts) e in
    let rest : ascending row_tuple_cmp (flat_map (rows_at keys stmts w) ts) ≡ true = rows_ascend keys stmts c w ts parts.1 in
    let above : list_all (λ h. is_lt (tuple_cmp t h.tuple)) (flat_map (rows_at keys stmts w) ts) ≡ true =
    list_all-flat_map (λ u. is_lt (tuple_cmp t u)) (λ h. is_lt (tuple_cmp t h.tuple)) (rows_at keys stmts w) (λ u k. rows_above keys stmts c w t u k) ts parts.0 in
    elim (one_row keys stmts c w t) [
      | inl a ↦ ap (λ rows. ascending row_tuple_cmp (rows ++ flat_map (rows_at keys stmts w) ts)) a ∙ rest
      | inr a ↦ ap (λ rows. ascending row_tuple_cmp (rows ++ flat_map (rows_at keys stmts w) ts)) a.1
          ∙ and_from (list_all (λ h. is_lt (tuple_cmp a.0.tuple h.tuple)) (flat_map (rows_at keys stmts w) ts)) (ascending row_tuple_cmp (flat_map (rows_at keys stmts w) ts))
          (ap (λ v. list_all (λ h. is_lt (tuple_cmp v h.tuple)) (flat_map (rows_at keys stmts w) ts)) a.2 ∙ above) rest
    ]

pub tuples_stand_once : TuplesStandOnce
tuples_stand_once keys stmts c w = rows_ascend keys stmts c w (tuples_of stmts) (set_is_ascending tuple_exact (map (λ x. x.tuple) stmts))
