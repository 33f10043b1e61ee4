-- Worlds are consistent, are those of their tails where nothing is stated, and negations are believed as defined.
use Rattle.std.proofs.Common.{◌≡◌, ◌≢◌, ◌∙◌, ℕ, Bool, true, false, not, ◌&&◌, ◌||◌, nat_eq, List, [], ◌∷◌, ◌⊎◌, inl, inr, refl, ap, sym}
use Rattle.std.specs.List.{list_any, list_all}
use Rattle.std.proofs.lemmas.Bool.{false≢true, or_cases, or_left, or_right, and_parts, and_from, false_from_ne_true, not-true, not_from_false, eqb-true, eq-eqb}
use Rattle.bdb_base.specs.declared.kinds.Sign.{Sign}
use Rattle.bdb_base.specs.declared.kinds.Sign.TheVariants.{Plus, Minus}
use Rattle.bdb_base.specs.declared.kinds.Stmt.{Stmt}
use Rattle.bdb_base.specs.declared.tuple.Tuple.{Tuple}
use Rattle.bdb_base.specs.Bases.{key_lengths, stands}
use Rattle.bdb_base.specs.Clash.{clash, same_key, key_of}
use Rattle.bdb_base.specs.Laws.{WorldsAreConsistent, ValidIsConsistent, PlainInheritance, HasRival, NegationsAreBelieved}
use Rattle.bdb_base.specs.Same.{same_tuple, same_path, same_sign, same_values, same_statement}
use Rattle.bdb_base.specs.Segments.{is_prefix}
use Rattle.bdb_base.specs.States.{is_state}
use Rattle.bdb_base.specs.Worlds.{explicit, contradicted, stated}
use Rattle.bdb_base.specs.SameLemmas.{same_tuple-Decides, same_path-Decides, same_sign-Decides, same_values-Decides}
use Rattle.bdb_base.specs.OrderLemmas.{is_eq_statement_cmp}
use Rattle.bdb_base.proofs.ClashLemmas.{clash_is_symmetric}
use Rattle.bdb_base.proofs.BoolLemmas.{and_true}

-- what a weaker test finds too
pub list_any_weaker : {X : Type 0} (p q : X → Bool) → ((x : X) → p x ≡ true → q x ≡ true) → (xs : List X) → list_any p xs ≡ true → list_any q xs ≡ true
list_any_weaker p q h [] e = e
list_any_weaker p q h (x ∷ xs) e = elim (or_cases (p x) (list_any p xs) e) [
  | inl a ↦ or_left (q x) (list_any q xs) (h x a)
  | inr b ↦ or_right (q x) (list_any q xs) (list_any_weaker p q h xs b)
]

-- what a weaker test does not find
pub list_any_none_weaker : {X : Type 0} (p q : X → Bool) → ((x : X) → p x ≡ true → q x ≡ true) → (xs : List X) → list_any q xs ≡ false → list_any p xs ≡ false
list_any_none_weaker p q h xs e = false_from_ne_true (list_any p xs) (λ t. let s : list_any q xs ≡ true = list_any_weaker p q h xs t in cc)

-- an item that a test finds
pub found_by : {X : Type 0} (p : X → Bool) (xs : List X) → list_any p xs ≡ true → (x : X) × (p x ≡ true)
found_by p [] e = absurd (false≢true e)
found_by p (x ∷ xs) e = elim (or_cases (p x) (list_any p xs) e) [ inl a ↦ (x, a) | inr b ↦ found_by p xs b ]

-- what holds of each statement's path, tuple and sign holds of what is explicit
pub explicit_at : (P : List ℕ → Tuple → Sign → Bool) (stmts : List Stmt) (w : List ℕ) (t : Tuple) (s : Sign)
    → list_all (λ x. P x.path x.tuple x.sign) stmts ≡ true → explicit stmts w t s ≡ true → P w t s ≡ true
explicit_at P [] w t s h e = absurd (false≢true e)
explicit_at P (x ∷ xs) w t s h e =
    let here = and_parts (P x.path x.tuple x.sign) (list_all (λ y. P y.path y.tuple y.sign) xs) h in
    elim (or_cases (same_path x.path w && (same_tuple x.tuple t && same_sign x.sign s)) (explicit xs w t s) e) [
      | inl a ↦
          let parts = and_parts (same_path x.path w) (same_tuple x.tuple t && same_sign x.sign s) a in
          let more = and_parts (same_tuple x.tuple t) (same_sign x.sign s) parts.1 in
          let p : x.path ≡ w = (same_path-Decides x.path w).0 parts.0 in
          let q : x.tuple ≡ t = (same_tuple-Decides x.tuple t).0 more.0 in
          let r : x.sign ≡ s = (same_sign-Decides x.sign s).0 more.1 in
          let k : P x.path x.tuple x.sign ≡ true = here.0 in
          cc
      | inr b ↦ explicit_at P xs w t s here.1 b
    ]

-- what no statement of a path clashes with clashes with nothing that is explicit there
pub explicit_apart : (keys : ℕ → ℕ) (stmts : List Stmt) (w : List ℕ) (t t' : Tuple) (s s' : Sign)
    → contradicted keys stmts w t s ≡ false → explicit stmts w t' s' ≡ true → clash keys t s t' s' ≡ false
explicit_apart keys stmts w t t' s s' h e = false_from_ne_true (clash keys t s t' s') (λ c.
    let weak : (x : Stmt) → (same_path x.path w && (same_tuple x.tuple t' && same_sign x.sign s')) ≡ true → (same_path x.path w && clash keys t s x.tuple x.sign) ≡ true = (λ x a.
    let parts = and_parts (same_path x.path w) (same_tuple x.tuple t' && same_sign x.sign s') a in
    let more = and_parts (same_tuple x.tuple t') (same_sign x.sign s') parts.1 in
    let q : x.tuple ≡ t' = (same_tuple-Decides x.tuple t').0 more.0 in
    let r : x.sign ≡ s' = (same_sign-Decides x.sign s').0 more.1 in
    let k : clash keys t s x.tuple x.sign ≡ clash keys t s t' s' = cc in
    and_from (same_path x.path w) (clash keys t s x.tuple x.sign) parts.0 (k ∙ c)) in
    let found : contradicted keys stmts w t s ≡ true = list_any_weaker (λ x. same_path x.path w && (same_tuple x.tuple t' && same_sign x.sign s')) (λ x. same_path x.path w && clash keys t s x.tuple x.sign) weak stmts e in
    cc)

-- a signed tuple of a longer path's world is explicit, or inherited and not contradicted
pub stated_cases : (keys : ℕ → ℕ) (stmts : List Stmt) (i : ℕ) (w : List ℕ) (t : Tuple) (s : Sign) → stated keys stmts (i ∷ w) t s ≡ true
    → (explicit stmts (i ∷ w) t s ≡ true) ⊎ ((stated keys stmts w t s ≡ true) × (contradicted keys stmts (i ∷ w) t s ≡ false))
stated_cases keys stmts i w t s e = elim (or_cases (explicit stmts (i ∷ w) t s) (stated keys stmts w t s && not (contradicted keys stmts (i ∷ w) t s)) e) [
  | inl a ↦ inl a
  | inr b ↦
      let parts = and_parts (stated keys stmts w t s) (not (contradicted keys stmts (i ∷ w) t s)) b in
      inr (parts.0, not-true (contradicted keys stmts (i ∷ w) t s) parts.1)
]

pub worlds_are_consistent : WorldsAreConsistent
worlds_are_consistent keys stmts h [] t t' s s' e e' = h [] t t' s s' e e'
worlds_are_consistent keys stmts h (i ∷ w) t t' s s' e e' = elim (stated_cases keys stmts i w t s e) [
  | inl a ↦ elim (stated_cases keys stmts i w t' s' e') [
    | inl b ↦ h (i ∷ w) t t' s s' a b
    | inr b ↦ clash_is_symmetric keys t t' s s' ∙ explicit_apart keys stmts (i ∷ w) t' t s' s b.1 a
  ]
  | inr a ↦ elim (stated_cases keys stmts i w t' s' e') [
    | inl b ↦ explicit_apart keys stmts (i ∷ w) t t' s s' a.1 b
    | inr b ↦ worlds_are_consistent keys stmts h w t t' s s' a.0 b.0
  ]
]

pub valid_is_consistent : ValidIsConsistent
valid_is_consistent c xs h w t t' s s' e e' =
    explicit_apart (key_lengths c.rels) xs w t t' s s'
    (not-true (contradicted (key_lengths c.rels) xs w t s)
    (explicit_at (λ v u r. not (contradicted (key_lengths c.rels) xs v u r)) xs w t s h.stmts.no_clash e))
    e'

pub is_prefix_itself : (w : List ℕ) → is_prefix w w ≡ true
is_prefix_itself [] = refl
is_prefix_itself (i ∷ w) = and_from (nat_eq i i) (is_prefix w w) (eq-eqb i i refl) (is_prefix_itself w)

-- at a path that is no state, no statement passes any test
pub nothing_stands : (stmts : List Stmt) (i : ℕ) (w : List ℕ) (p : Stmt → Bool) → is_state stmts (i ∷ w) ≡ false → list_any (λ x. same_path x.path (i ∷ w) && p x) stmts ≡ false
nothing_stands stmts i w p h = list_any_none_weaker (λ x. same_path x.path (i ∷ w) && p x) (λ x. is_prefix (i ∷ w) x.path)
    (λ x a.
    let e : x.path ≡ (i ∷ w) = (same_path-Decides x.path (i ∷ w)).0 (and_parts (same_path x.path (i ∷ w)) (p x) a).0 in
    ap (λ v. is_prefix (i ∷ w) v) e ∙ is_prefix_itself (i ∷ w))
    stmts h

pub plain_inheritance : PlainInheritance
plain_inheritance keys stmts [] h t s = refl
plain_inheritance keys stmts (i ∷ w) h t s =
    let a : explicit stmts (i ∷ w) t s ≡ false = nothing_stands stmts i w (λ x. same_tuple x.tuple t && same_sign x.sign s) h in
    let b : contradicted keys stmts (i ∷ w) t s ≡ false = nothing_stands stmts i w (λ x. clash keys t s x.tuple x.sign) h in
    ap (λ c. c || (stated keys stmts w t s && not (contradicted keys stmts (i ∷ w) t s))) a
    ∙ ap (λ c. stated keys stmts w t s && not c) b ∙ and_true (stated keys stmts w t s)

-- what is explicit is of a statement's tuple
pub explicit_tuple : (stmts : List Stmt) (w : List ℕ) (t : Tuple) (s : Sign) → explicit stmts w t s ≡ true → list_any (λ x. same_tuple x.tuple t) stmts ≡ true
explicit_tuple stmts w t s e = list_any_weaker (λ x. same_path x.path w && (same_tuple x.tuple t && same_sign x.sign s)) (λ x. same_tuple x.tuple t)
    (λ x a. (and_parts (same_tuple x.tuple t) (same_sign x.sign s) (and_parts (same_path x.path w) (same_tuple x.tuple t && same_sign x.sign s) a).1).0) stmts e

-- a world has only tuples of statements
pub stated_tuples_are_explicit : (keys : ℕ → ℕ) (stmts : List Stmt) (w : List ℕ) (t : Tuple) (s : Sign) → stated keys stmts w t s ≡ true
    → list_any (λ x. same_tuple x.tuple t) stmts ≡ true
stated_tuples_are_explicit keys stmts [] t s e = explicit_tuple stmts [] t s e
stated_tuples_are_explicit keys stmts (i ∷ w) t s e = elim (stated_cases keys stmts i w t s e) [
  | inl a ↦ explicit_tuple stmts (i ∷ w) t s a
  | inr b ↦ stated_tuples_are_explicit keys stmts w t s b.0
]

-- a tuple of one relation and key that differs is a rival
pub rival_from_clash : (keys : ℕ → ℕ) (stmts : List Stmt) (w : List ℕ) (t t' : Tuple) → clash keys t Plus t' Plus ≡ true → stated keys stmts w t' Plus ≡ true
    → HasRival keys stmts w t
rival_from_clash keys stmts w t t' c e =
    let parts = and_parts (same_key keys t t') (not (same_tuple t t')) c in
    let same = and_parts (nat_eq t.rel t'.rel) (same_values (key_of keys t) (key_of keys t')) parts.0 in
    let differs : same_tuple t t' ≡ false = not-true (same_tuple t t') parts.1 in (
      t',
      sym (eqb-true t.rel t'.rel same.0),
      sym ((same_values-Decides (key_of keys t) (key_of keys t')).0 same.1),
      (λ q. let k : same_tuple t t' ≡ true = (same_tuple-Decides t t').1 (sym q) in cc),
      e,
    )

pub clash_from_rival : (keys : ℕ → ℕ) (t t' : Tuple) → t'.rel ≡ t.rel → key_of keys t' ≡ key_of keys t → t' ≢ t → clash keys t Plus t' Plus ≡ true
clash_from_rival keys t t' r k d =
    and_from (same_key keys t t') (not (same_tuple t t'))
    (and_from (nat_eq t.rel t'.rel) (same_values (key_of keys t) (key_of keys t')) (eq-eqb t.rel t'.rel (sym r)) ((same_values-Decides (key_of keys t) (key_of keys t')).1 (sym k)))
    (not_from_false (same_tuple t t') (false_from_ne_true (same_tuple t t') (λ e. d (sym ((same_tuple-Decides t t').0 e)))))

pub negations_are_believed : NegationsAreBelieved
negations_are_believed keys stmts w t = (
  (λ e. elim (or_cases (stated keys stmts w t Minus) (list_any (λ x. clash keys t Plus x.tuple Plus && stated keys stmts w x.tuple Plus) stmts) e) [
    | inl a ↦ inl a
    | inr b ↦
        let x = found_by (λ x. clash keys t Plus x.tuple Plus && stated keys stmts w x.tuple Plus) stmts b in
        let parts = and_parts (clash keys t Plus x.0.tuple Plus) (stated keys stmts w x.0.tuple Plus) x.1 in
        inr (rival_from_clash keys stmts w t x.0.tuple parts.0 parts.1)
  ]),
  (λ e. elim e [
    | inl a ↦ or_left (stated keys stmts w t Minus) (list_any (λ x. clash keys t Plus x.tuple Plus && stated keys stmts w x.tuple Plus) stmts) a
    | inr r ↦
        let c : clash keys t Plus r.0 Plus ≡ true = clash_from_rival keys t r.0 r.1 r.2 r.3 in
        or_right (stated keys stmts w t Minus) (list_any (λ x. clash keys t Plus x.tuple Plus && stated keys stmts w x.tuple Plus) stmts)
        (list_any_weaker (λ x. same_tuple x.tuple r.0) (λ x. clash keys t Plus x.tuple Plus && stated keys stmts w x.tuple Plus)
        (λ x a.
        let q : x.tuple ≡ r.0 = (same_tuple-Decides x.tuple r.0).0 a in
        let k : clash keys t Plus x.tuple Plus ≡ clash keys t Plus r.0 Plus = ap (λ v. clash keys t Plus v Plus) q in
        let m : stated keys stmts w x.tuple Plus ≡ stated keys stmts w r.0 Plus = ap (λ v. stated keys stmts w v Plus) q in
        and_from (clash keys t Plus x.tuple Plus) (stated keys stmts w x.tuple Plus) (k ∙ c) (m ∙ r.4))
        stmts (stated_tuples_are_explicit keys stmts w r.0 Plus r.4))
  ]),
)

pub stands_is_explicit : (stmts : List Stmt) (x : Stmt) → stands stmts x ≡ explicit stmts x.path x.tuple x.sign
stands_is_explicit [] x = refl
stands_is_explicit (y ∷ ys) x = ap (λ b. b || stands ys x) (is_eq_statement_cmp y x) ∙ ap (λ b. same_statement y x || b) (stands_is_explicit ys x)

pub explicit_is_stated : (keys : ℕ → ℕ) (stmts : List Stmt) (w : List ℕ) (t : Tuple) (s : Sign) → explicit stmts w t s ≡ true → stated keys stmts w t s ≡ true
explicit_is_stated keys stmts [] t s e = e
explicit_is_stated keys stmts (i ∷ w) t s e = or_left (explicit stmts (i ∷ w) t s) _ e
