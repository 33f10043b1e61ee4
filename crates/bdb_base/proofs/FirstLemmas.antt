-- The first clashing statement is the least one that clashes with another of its path.
use Rattle.std.proofs.Common.{◌≡◌, ◌∙◌, ℕ, Bool, true, false, ◌&&◌, List, [], ◌∷◌, inl, inr, refl, ap, sym}
use Rattle.std.specs.Bool.{Decides}
use Rattle.std.specs.List.{list_any}
use Rattle.std.proofs.lemmas.Bool.{false≢true, or_cases, or_left, or_right, and_parts, and_from, false_from_ne_true}
use Rattle.bdb_base.specs.declared.kinds.Sign.{Sign}
use Rattle.bdb_base.specs.declared.kinds.Stmt.{Stmt}
use Rattle.bdb_base.specs.declared.tuple.Tuple.{Tuple}
use Rattle.bdb_base.specs.Clash.{clash}
use Rattle.bdb_base.specs.Laws.{ClashesAt, FirstClashingIsLeast, NoFirstClashing}
use Rattle.bdb_base.specs.Order.{statement_cmp}
use Rattle.bdb_base.specs.Same.{same_path, same_tuple, same_sign, same_statement}
use Rattle.bdb_base.specs.SameLemmas.{same_path-Decides, same_tuple-Decides, same_sign-Decides, same_statement-Decides}
use Rattle.bdb_base.specs.Worlds.{explicit, contradicted}
use Rattle.bdb_base.proofs.LeastLemmas.{find_passes, find_is_member, find_is_first, find_none, none_found, clash_test}
use Rattle.bdb_base.proofs.WorldLemmas.{explicit_apart}

-- an item that a test finds is in the list
pub found_member : {X : Type 0} (same : X → X → Bool) → ((x : X) → same x x ≡ true) → (p : X → Bool) (xs : List X) → list_any p xs ≡ true
    → (x : X) × (list_any (same x) xs ≡ true) × (p x ≡ true)
found_member same r p [] e = absurd (false≢true e)
found_member same r p (x ∷ xs) e = elim (or_cases (p x) (list_any p xs) e) [
  | inl a ↦ (x, or_left (same x x) (list_any (same x) xs) (r x), a)
  | inr b ↦ let found = found_member same r p xs b in (found.0, or_right (same found.0 x) (list_any (same found.0) xs) found.1, found.2)
]

-- a test finds an item of the list that passes it
pub member_found : {X : Type 0} (same : X → X → Bool) → ((x y : X) → Decides (same x y) (x ≡ y)) → (p : X → Bool) (xs : List X) (y : X)
    → list_any (same y) xs ≡ true → p y ≡ true → list_any p xs ≡ true
member_found same d p [] y m e = absurd (false≢true m)
member_found same d p (x ∷ xs) y m e = elim (or_cases (same y x) (list_any (same y) xs) m) [
  | inl a ↦ or_left (p x) (list_any p xs) (ap p (sym ((d y x).0 a)) ∙ e)
  | inr b ↦ or_right (p x) (list_any p xs) (member_found same d p xs y b e)
]

pub same_statement_itself : (x : Stmt) → same_statement x x ≡ true
same_statement_itself x = (same_statement-Decides x x).1 refl

-- a contradicted signed tuple clashes with a statement of this very path
pub contradicted_by : (keys : ℕ → ℕ) (stmts : List Stmt) (w : List ℕ) (t : Tuple) (s : Sign) → contradicted keys stmts w t s ≡ true
    → (y : Stmt) × ClashesAt keys stmts w t s y
contradicted_by keys stmts w t s e =
    let found = found_member same_statement same_statement_itself (λ v. same_path v.path w && clash keys t s v.tuple v.sign) stmts e in
    let here = clash_test keys w t s found.0 found.2 in
    (found.0, (found.1, here.0, here.1))

pub contradicted_from : (keys : ℕ → ℕ) (stmts : List Stmt) (w : List ℕ) (t : Tuple) (s : Sign) (y : Stmt) → ClashesAt keys stmts w t s y → contradicted keys stmts w t s ≡ true
contradicted_from keys stmts w t s y c =
    member_found same_statement same_statement-Decides (λ v. same_path v.path w && clash keys t s v.tuple v.sign) stmts y c.0
    (and_from (same_path y.path w) (clash keys t s y.tuple y.sign) ((same_path-Decides y.path w).1 c.1) c.2)

pub within_test : (keys : ℕ → ℕ) (stmts : List Stmt) (w : List ℕ) (x : Stmt) → (same_path x.path w && contradicted keys stmts w x.tuple x.sign) ≡ true
    → (x.path ≡ w) × (contradicted keys stmts w x.tuple x.sign ≡ true)
within_test keys stmts w x e =
    let parts = and_parts (same_path x.path w) (contradicted keys stmts w x.tuple x.sign) e in
    ((same_path-Decides x.path w).0 parts.0, parts.1)

pub first_clashing_is_least : FirstClashingIsLeast
first_clashing_is_least keys stmts s w x e =
    let p : Stmt → Bool = λ v. same_path v.path w && contradicted keys stmts w v.tuple v.sign in
    let here : (x.path ≡ w) × (contradicted keys stmts w x.tuple x.sign ≡ true) = within_test keys stmts w x (find_passes p stmts x e) in (
      (find_is_member same_statement same_statement_itself p stmts x e, here.0, contradicted_by keys stmts w x.tuple x.sign here.1),
      (λ y c. find_is_first same_statement same_statement-Decides statement_cmp p stmts x y s e c.0
          (and_from (same_path y.path w) (contradicted keys stmts w y.tuple y.sign) ((same_path-Decides y.path w).1 c.1)
          (contradicted_from keys stmts w y.tuple y.sign c.2.0 c.2.1))),
    )

-- what is explicit is a statement of this very path
pub explicit_statement : (stmts : List Stmt) (w : List ℕ) (t : Tuple) (s : Sign) → explicit stmts w t s ≡ true
    → (y : Stmt) × (list_any (same_statement y) stmts ≡ true) × (y.path ≡ w) × (y.tuple ≡ t) × (y.sign ≡ s)
explicit_statement stmts w t s e =
    let found = found_member same_statement same_statement_itself (λ v. same_path v.path w && (same_tuple v.tuple t && same_sign v.sign s)) stmts e in
    let parts = and_parts (same_path found.0.path w) (same_tuple found.0.tuple t && same_sign found.0.sign s) found.2 in
    let more = and_parts (same_tuple found.0.tuple t) (same_sign found.0.sign s) parts.1 in
    (found.0, found.1, (same_path-Decides found.0.path w).0 parts.0, (same_tuple-Decides found.0.tuple t).0 more.0, (same_sign-Decides found.0.sign s).0 more.1)

pub statement_explicit : (stmts : List Stmt) (w : List ℕ) (y : Stmt) → list_any (same_statement y) stmts ≡ true → y.path ≡ w → explicit stmts w y.tuple y.sign ≡ true
statement_explicit stmts w y m e =
    member_found same_statement same_statement-Decides (λ v. same_path v.path w && (same_tuple v.tuple y.tuple && same_sign v.sign y.sign)) stmts y m
    (and_from (same_path y.path w) (same_tuple y.tuple y.tuple && same_sign y.sign y.sign) ((same_path-Decides y.path w).1 e)
    (and_from (same_tuple y.tuple y.tuple) (same_sign y.sign y.sign) ((same_tuple-Decides y.tuple y.tuple).1 refl) ((same_sign-Decides y.sign y.sign).1 refl)))

pub no_first_clashing : NoFirstClashing
no_first_clashing keys stmts w =
    let p : Stmt → Bool = λ v. same_path v.path w && contradicted keys stmts w v.tuple v.sign in (
      (λ e t t' s s' a b.
          let y = explicit_statement stmts w t s a in
          let free : contradicted keys stmts w y.0.tuple y.0.sign ≡ false = false_from_ne_true (contradicted keys stmts w y.0.tuple y.0.sign) (λ c.
          find_none same_statement same_statement-Decides p stmts e y.0 y.1
          (and_from (same_path y.0.path w) (contradicted keys stmts w y.0.tuple y.0.sign) ((same_path-Decides y.0.path w).1 y.2) c)) in
          explicit_apart keys stmts w t t' s s'
          (ap (λ u. contradicted keys stmts w u s) (sym y.3) ∙ ap (λ u. contradicted keys stmts w y.0.tuple u) (sym y.4) ∙ free) b),
      (λ h. none_found same_statement same_statement-Decides p stmts (λ y m q.
          let here = within_test keys stmts w y q in
          let z = contradicted_by keys stmts w y.tuple y.sign here.1 in
          false≢true (sym (h y.tuple z.0.tuple y.sign z.0.sign (statement_explicit stmts w y m here.0) (statement_explicit stmts w z.0 z.1.0 z.1.1)) ∙ z.1.2))),
    )
