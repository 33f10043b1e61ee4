-- What is asked of one tuple depends on the length of its relation's key alone.
use Rattle.std.proofs.Common.{◌≡◌, ◌∙◌, ℕ, true, not, ◌&&◌, ◌||◌, nat_eq, List, [], ◌∷◌, inl, inr, refl, ap, sym}
use Rattle.std.specs.List.{list_any}
use Rattle.std.proofs.lemmas.Bool.{cases_Bool, and_parts, eqb-true}
use Rattle.bdb_base.specs.declared.kinds.Held.{Held}
use Rattle.bdb_base.specs.declared.kinds.Sign.{Sign}
use Rattle.bdb_base.specs.declared.kinds.Sign.TheVariants.{Plus, Minus}
use Rattle.bdb_base.specs.declared.kinds.Stmt.{Stmt}
use Rattle.bdb_base.specs.declared.tuple.Tuple.{Tuple}
use Rattle.bdb_base.specs.Clash.{clash, same_key, key_of}
use Rattle.bdb_base.specs.Same.{same_path, same_tuple, same_values}
use Rattle.bdb_base.specs.Worlds.{explicit, contradicted, stated, believes, least_clash}
use Rattle.bdb_base.proofs.ClashLemmas.{clash_by_length, clash_of}
use Rattle.bdb_base.proofs.FindLemmas.{find_same}
use Rattle.bdb_base.proofs.ListLemmas.{list_any_same}
use Rattle.bdb_model.specs.Pools.{denies}

contradicted_by_length : (keys : ℕ → ℕ) (stmts : List Stmt) (w : List ℕ) (t : Tuple) (s : Sign) → contradicted (λ _. keys t.rel) stmts w t s ≡ contradicted keys stmts w t s
contradicted_by_length keys stmts w t s =
    list_any_same (λ x. same_path x.path w && clash (λ _. keys t.rel) t s x.tuple x.sign) (λ x. same_path x.path w && clash keys t s x.tuple x.sign)
    (λ x. ap (λ b. same_path x.path w && b) (clash_by_length keys t s x.tuple x.sign)) stmts

pub stated_by_length : (keys : ℕ → ℕ) (stmts : List Stmt) (w : List ℕ) (t : Tuple) (s : Sign) → stated (λ _. keys t.rel) stmts w t s ≡ stated keys stmts w t s
stated_by_length keys stmts [] t s = refl
stated_by_length keys stmts (i ∷ w) t s =
    ap (λ b. explicit stmts (i ∷ w) t s || (b && not (contradicted (λ _. keys t.rel) stmts (i ∷ w) t s))) (stated_by_length keys stmts w t s)
    ∙ ap (λ b. explicit stmts (i ∷ w) t s || (stated keys stmts w t s && not b)) (contradicted_by_length keys stmts (i ∷ w) t s)

-- tuples that clash with plus are of one relation
pub clash_is_within : (keys : ℕ → ℕ) (t u : Tuple) → clash keys t Plus u Plus ≡ true → t.rel ≡ u.rel
clash_is_within keys t u e =
    let key = and_parts (same_key keys t u) (not (same_tuple t u)) e in
    eqb-true t.rel u.rel (and_parts (nat_eq t.rel u.rel) (same_values (key_of keys t) (key_of keys u)) key.0).0

rival_by_length : (keys : ℕ → ℕ) (stmts : List Stmt) (w : List ℕ) (t u : Tuple)
    → (clash (λ _. keys t.rel) t Plus u Plus && stated (λ _. keys t.rel) stmts w u Plus) ≡ (clash keys t Plus u Plus && stated keys stmts w u Plus)
rival_by_length keys stmts w t u =
    ap (λ b. b && stated (λ _. keys t.rel) stmts w u Plus) (clash_by_length keys t Plus u Plus)
    ∙ elim (cases_Bool (clash keys t Plus u Plus)) [
      | inl e ↦
          ap (λ b. clash keys t Plus u Plus && b) (ap (λ r. stated (λ _. keys r) stmts w u Plus) (clash_is_within keys t u e) ∙ stated_by_length keys stmts w u Plus)
      | inr e ↦ ap (λ b. b && stated (λ _. keys t.rel) stmts w u Plus) e ∙ sym (ap (λ b. b && stated keys stmts w u Plus) e)
    ]

pub believes_by_length : (keys : ℕ → ℕ) (stmts : List Stmt) (w : List ℕ) (t : Tuple) (s : Sign) → believes (λ _. keys t.rel) stmts w t s ≡ believes keys stmts w t s
believes_by_length keys stmts w t Plus = stated_by_length keys stmts w t Plus
believes_by_length keys stmts w t Minus =
    ap (λ b. b || list_any (λ x. clash (λ _. keys t.rel) t Plus x.tuple Plus && stated (λ _. keys t.rel) stmts w x.tuple Plus) stmts) (stated_by_length keys stmts w t Minus)
    ∙ ap (λ b. stated keys stmts w t Minus || b)
    (list_any_same (λ x. clash (λ _. keys t.rel) t Plus x.tuple Plus && stated (λ _. keys t.rel) stmts w x.tuple Plus) (λ x. clash keys t Plus x.tuple Plus && stated keys stmts w x.tuple Plus)
    (λ x. rival_by_length keys stmts w t x.tuple) stmts)

pub least_clash_by_length : (keys : ℕ → ℕ) (stmts : List Stmt) (w : List ℕ) (t : Tuple) (s : Sign) → least_clash (λ _. keys t.rel) stmts w t s ≡ least_clash keys stmts w t s
least_clash_by_length keys stmts w t s =
    find_same (λ x. same_path x.path w && clash (λ _. keys t.rel) t s x.tuple x.sign) (λ x. same_path x.path w && clash keys t s x.tuple x.sign)
    (λ x. ap (λ b. same_path x.path w && b) (clash_by_length keys t s x.tuple x.sign)) stmts

-- ---- the same, from a length and statements that are handed on

pub denies_of : (keys : ℕ → ℕ) (n : ℕ) (world : List Held) (t : Tuple) → n ≡ keys t.rel → denies (λ _. n) world t ≡ denies keys world t
denies_of keys n world t e = list_any_same (λ h. clash (λ _. n) t Plus h.tuple h.sign) (λ h. clash keys t Plus h.tuple h.sign) (λ h. clash_of keys n t Plus h.tuple h.sign e) world

pub stated_of : (keys : ℕ → ℕ) (n : ℕ) (xs stmts : List Stmt) (w : List ℕ) (t : Tuple) (s : Sign) → n ≡ keys t.rel → xs ≡ stmts → stated (λ _. n) xs w t s ≡ stated keys stmts w t s
stated_of keys n xs stmts w t s e f = ap (λ k. stated (λ _. k) xs w t s) e ∙ ap (λ ys. stated (λ _. keys t.rel) ys w t s) f ∙ stated_by_length keys stmts w t s

pub believes_of : (keys : ℕ → ℕ) (n : ℕ) (xs stmts : List Stmt) (w : List ℕ) (t : Tuple) (s : Sign) → n ≡ keys t.rel → xs ≡ stmts → believes (λ _. n) xs w t s ≡ believes keys stmts w t s
believes_of keys n xs stmts w t s e f = ap (λ k. believes (λ _. k) xs w t s) e ∙ ap (λ ys. believes (λ _. keys t.rel) ys w t s) f ∙ believes_by_length keys stmts w t s

pub least_clash_of : (keys : ℕ → ℕ) (n : ℕ) (xs stmts : List Stmt) (w : List ℕ) (t : Tuple) (s : Sign) → n ≡ keys t.rel → xs ≡ stmts → least_clash (λ _. n) xs w t s ≡ least_clash keys stmts w t s
least_clash_of keys n xs stmts w t s e f = ap (λ k. least_clash (λ _. k) xs w t s) e ∙ ap (λ ys. least_clash (λ _. keys t.rel) ys w t s) f ∙ least_clash_by_length keys stmts w t s
