-- What the pools of a query's items hold.
use Rattle.std.proofs.Common.{◌≡◌, ◌∙◌, ℕ, true, ◌&&◌, nat_eq, List, [], Option, None, Some, inl, inr, refl, ap, sym, subst, filter, ◌⊎◌}
use Rattle.std.specs.List.{list_any}
use Rattle.std.proofs.lemmas.Bool.{false≢true, cases_Bool, cond-true, cond-false, and_parts, and_from}
use Rattle.std.proofs.lemmas.Bool.Decides.{Decides-eqb}
use Rattle.bdb_base.specs.declared.kinds.Held.{Held}
use Rattle.bdb_base.specs.declared.kinds.Sign.{Sign}
use Rattle.bdb_base.specs.declared.kinds.Sign.TheVariants.{Plus, Minus}
use Rattle.bdb_base.specs.declared.kinds.Stmt.{Stmt}
use Rattle.bdb_base.specs.declared.tuple.Tuple.{Tuple}
use Rattle.bdb_base.specs.Alternation.{alternates}
use Rattle.bdb_base.specs.Bases.{Contents, AreStatements, belongs, fits_relation, key_lengths}
use Rattle.bdb_base.specs.Clash.{clash}
use Rattle.bdb_base.specs.Queries.{path_believes}
use Rattle.bdb_base.specs.Same.{same_tuple, same_sign}
use Rattle.bdb_base.specs.SameLemmas.{same_tuple-Decides, same_sign-Decides}
use Rattle.bdb_base.specs.WorldRows.{world_of, same_row, has_row}
use Rattle.bdb_base.specs.Worlds.{explicit, stated, believes}
use Rattle.bdb_base.proofs.BaseLemmas.{belongs_parts}
use Rattle.bdb_base.proofs.CountLemmas.{list_any-map}
use Rattle.bdb_base.proofs.WorldLemmas.{stated_tuples_are_explicit, rival_from_clash, clash_from_rival, negations_are_believed}
use Rattle.bdb_base.proofs.WorldRowsLemmas.{rows_are_the_world, same_row_from, same_row_tells}
use Rattle.bdb_base.proofs.FindLemmas.{list_any-filter}
use Rattle.bdb_queries.proofs.FoundLemmas.{Found, found-map, found-filter, found_both}
use Rattle.bdb_model.specs.Pools.{world_at, is_plus_of, plus_tuples, denies}
use Rattle.bdb_queries.proofs.UserLemmas.{found_nowhere}
use Rattle.bdb_queries.proofs.FoundLemmas.{found_with}

-- ---- rows of a world

-- a row of a world is stated
stated_row : (keys : ℕ → ℕ) (stmts : List Stmt) (w : List ℕ) (h : Held) → Found h (world_of keys stmts w) → stated keys stmts w h.tuple h.sign ≡ true
stated_row keys stmts w h f = ((rows_are_the_world keys stmts w h).0 (f (same_row h) (same_row_from h h refl refl refl))).0

abbrev row_of : List Stmt → List ℕ → Tuple → Sign → Held
row_of stmts w t s = record { tuple = t; sign = s; explicit = explicit stmts w t s }

-- what is stated has a row
row_there : (keys : ℕ → ℕ) (stmts : List Stmt) (w : List ℕ) (t : Tuple) (s : Sign) → stated keys stmts w t s ≡ true
    → (h : Held) × (h.tuple ≡ t) × (h.sign ≡ s) × Found h (world_of keys stmts w)
row_there keys stmts w t s e =
    let has : has_row (world_of keys stmts w) (row_of stmts w t s) ≡ true = (rows_are_the_world keys stmts w (row_of stmts w t s)).1 (e, refl) in
    let found = found_with (same_row (row_of stmts w t s)) (world_of keys stmts w) has in
    let same = same_row_tells (row_of stmts w t s) found.0 found.1 in
    (found.0, sym same.0, sym same.1, found.2)

-- the tuples that a world has with plus are its stated ones
pub plus_is_stated : (keys : ℕ → ℕ) (stmts : List Stmt) (w : List ℕ) (rel : ℕ) (t : Tuple) → Found t (plus_tuples rel (world_of keys stmts w)) → (t.rel ≡ rel) × (stated keys stmts w t Plus ≡ true)
plus_is_stated keys stmts w rel t f =
    let world = world_of keys stmts w in
    let any : list_any (λ h. is_plus_of rel h && same_tuple h.tuple t) world ≡ true =
    sym (list_any-filter (λ h. same_tuple h.tuple t) (is_plus_of rel) world) ∙ sym (list_any-map (λ u. same_tuple u t) (λ h. h.tuple) (filter (is_plus_of rel) world))
    ∙ f (λ u. same_tuple u t) ((same_tuple-Decides t t).1 refl) in
    let found = found_with (λ h. is_plus_of rel h && same_tuple h.tuple t) world any in
    let h = found.0 in
    let k = and_parts (is_plus_of rel h) (same_tuple h.tuple t) found.1 in
    let m = and_parts (nat_eq h.tuple.rel rel) (same_sign h.sign Plus) k.0 in
    let same : h.tuple ≡ t = (same_tuple-Decides h.tuple t).0 k.1 in
    let sign : h.sign ≡ Plus = (same_sign-Decides h.sign Plus).0 m.1 in (
      ap (λ u. u.rel) (sym same) ∙ (Decides-eqb h.tuple.rel rel).0 m.0,
      ap (λ u. stated keys stmts w u Plus) (sym same) ∙ ap (λ s. stated keys stmts w h.tuple s) (sym sign) ∙ stated_row keys stmts w h found.2,
    )

pub stated_is_plus : (keys : ℕ → ℕ) (stmts : List Stmt) (w : List ℕ) (rel : ℕ) (t : Tuple) → t.rel ≡ rel → stated keys stmts w t Plus ≡ true → Found t (plus_tuples rel (world_of keys stmts w))
stated_is_plus keys stmts w rel t r e =
    let world = world_of keys stmts w in
    let row = row_there keys stmts w t Plus e in
    let h = row.0 in
    let test : is_plus_of rel h ≡ true =
    and_from (nat_eq h.tuple.rel rel) (same_sign h.sign Plus) ((Decides-eqb h.tuple.rel rel).1 (ap (λ u. u.rel) row.1 ∙ r)) ((same_sign-Decides h.sign Plus).1 row.2) in
    subst (λ u. Found u (plus_tuples rel world)) row.1
    (found-map (λ x. x.tuple) (filter (is_plus_of rel) world) h (found-filter (is_plus_of rel) world h row.3 test))

clash_by_sign : (keys : ℕ → ℕ) (t u : Tuple) (s : Sign) → clash keys t Plus u s ≡ true → ((s ≡ Minus) × (t ≡ u)) ⊎ ((s ≡ Plus) × (clash keys t Plus u Plus ≡ true))
clash_by_sign keys t u Plus e = inr (refl, e)
clash_by_sign keys t u Minus e = inl (refl, (same_tuple-Decides t u).0 e)

-- what a world denies is not believed
pub denied_is_believed : (keys : ℕ → ℕ) (stmts : List Stmt) (w : List ℕ) (t : Tuple) → denies keys (world_of keys stmts w) t ≡ true → believes keys stmts w t Minus ≡ true
denied_is_believed keys stmts w t e =
    let found = found_with (λ h. clash keys t Plus h.tuple h.sign) (world_of keys stmts w) e in
    let h = found.0 in
    let here : stated keys stmts w h.tuple h.sign ≡ true = stated_row keys stmts w h found.2 in
    elim (clash_by_sign keys t h.tuple h.sign found.1) [
      | inl k ↦ (negations_are_believed keys stmts w t).1 (inl (ap (λ u. stated keys stmts w u Minus) k.1 ∙ ap (λ s. stated keys stmts w h.tuple s) (sym k.0) ∙ here))
      | inr k ↦ (negations_are_believed keys stmts w t).1 (inr (rival_from_clash keys stmts w t h.tuple k.1 (ap (λ s. stated keys stmts w h.tuple s) (sym k.0) ∙ here)))
    ]

denied_by : (keys : ℕ → ℕ) (stmts : List Stmt) (w : List ℕ) (t u : Tuple) (s : Sign) → stated keys stmts w u s ≡ true → clash keys t Plus u s ≡ true → denies keys (world_of keys stmts w) t ≡ true
denied_by keys stmts w t u s e k =
    let row = row_there keys stmts w u s e in
    row.3 (λ h. clash keys t Plus h.tuple h.sign) (ap (λ v. clash keys t Plus v row.0.sign) row.1 ∙ ap (λ z. clash keys t Plus u z) row.2 ∙ k)

pub believed_is_denied : (keys : ℕ → ℕ) (stmts : List Stmt) (w : List ℕ) (t : Tuple) → believes keys stmts w t Minus ≡ true → denies keys (world_of keys stmts w) t ≡ true
believed_is_denied keys stmts w t e = elim ((negations_are_believed keys stmts w t).0 e) [
  | inl k ↦ denied_by keys stmts w t t Minus k ((same_tuple-Decides t t).1 refl)
  | inr k ↦ denied_by keys stmts w t k.0 Plus k.4 (clash_from_rival keys t k.0 k.1 k.2 k.3)
]

-- ---- paths that may be missing

-- the length of the key of each relation of a base
abbrev pub keys_of : Contents → ℕ → ℕ
keys_of b = key_lengths b.catalog.rels

pub plus_is_believed : (b : Contents) (p : Option (List ℕ)) (rel : ℕ) (t : Tuple) → Found t (plus_tuples rel (world_at (keys_of b) b.stmts p)) → (t.rel ≡ rel) × (path_believes b t Plus p ≡ true)
plus_is_believed b None rel t f = absurd (found_nowhere t f)
plus_is_believed b (Some w) rel t f = elim (cases_Bool (alternates w)) [
  | inl k ↦
      let world : world_at (keys_of b) b.stmts (Some w) ≡ world_of (keys_of b) b.stmts w = cond-true (alternates w) (world_of (keys_of b) b.stmts w) [] k in
      let m = plus_is_stated (keys_of b) b.stmts w rel t (subst (λ x. Found t (plus_tuples rel x)) world f) in
      (m.0, and_from (alternates w) (stated (keys_of b) b.stmts w t Plus) k m.1)
  | inr k ↦
      let world : world_at (keys_of b) b.stmts (Some w) ≡ [] = cond-false (alternates w) (world_of (keys_of b) b.stmts w) [] k in
      absurd (found_nowhere t (subst (λ x. Found t (plus_tuples rel x)) world f))
]

pub believed_is_plus : (b : Contents) (p : Option (List ℕ)) (rel : ℕ) (t : Tuple) → t.rel ≡ rel → path_believes b t Plus p ≡ true → Found t (plus_tuples rel (world_at (keys_of b) b.stmts p))
believed_is_plus b None rel t r e = absurd (false≢true e)
believed_is_plus b (Some w) rel t r e =
    let k = and_parts (alternates w) (stated (keys_of b) b.stmts w t Plus) e in
    let world : world_at (keys_of b) b.stmts (Some w) ≡ world_of (keys_of b) b.stmts w = cond-true (alternates w) (world_of (keys_of b) b.stmts w) [] k.0 in
    subst (λ x. Found t (plus_tuples rel x)) (sym world) (stated_is_plus (keys_of b) b.stmts w rel t r k.1)

pub denied_at : (b : Contents) (p : Option (List ℕ)) (t : Tuple) → denies (keys_of b) (world_at (keys_of b) b.stmts p) t ≡ true → path_believes b t Minus p ≡ true
denied_at b None t e = absurd (false≢true e)
denied_at b (Some w) t e = elim (cases_Bool (alternates w)) [
  | inl k ↦
      let world : world_at (keys_of b) b.stmts (Some w) ≡ world_of (keys_of b) b.stmts w = cond-true (alternates w) (world_of (keys_of b) b.stmts w) [] k in
      and_from (alternates w) (believes (keys_of b) b.stmts w t Minus) k (denied_is_believed (keys_of b) b.stmts w t (ap (λ x. denies (keys_of b) x t) (sym world) ∙ e))
  | inr k ↦
      let world : world_at (keys_of b) b.stmts (Some w) ≡ [] = cond-false (alternates w) (world_of (keys_of b) b.stmts w) [] k in
      absurd (false≢true (ap (λ x. denies (keys_of b) x t) (sym world) ∙ e))
]

pub believed_at : (b : Contents) (p : Option (List ℕ)) (t : Tuple) → path_believes b t Minus p ≡ true → denies (keys_of b) (world_at (keys_of b) b.stmts p) t ≡ true
believed_at b None t e = absurd (false≢true e)
believed_at b (Some w) t e =
    let k = and_parts (alternates w) (believes (keys_of b) b.stmts w t Minus) e in
    let world : world_at (keys_of b) b.stmts (Some w) ≡ world_of (keys_of b) b.stmts w = cond-true (alternates w) (world_of (keys_of b) b.stmts w) [] k.0 in
    ap (λ x. denies (keys_of b) x t) world ∙ believed_is_denied (keys_of b) b.stmts w t k.1

-- what a path believes with plus fits its relation
pub believed_fits : (b : Contents) → AreStatements b.catalog b.stmts → (p : Option (List ℕ)) (t : Tuple) → path_believes b t Plus p ≡ true → fits_relation b.catalog.rels t ≡ true
believed_fits b h None t e = absurd (false≢true e)
believed_fits b h (Some w) t e =
    let k = and_parts (alternates w) (stated (keys_of b) b.stmts w t Plus) e in
    let found = found_both (belongs b.catalog) (λ x. same_tuple x.tuple t) b.stmts h.belong (stated_tuples_are_explicit (keys_of b) b.stmts w t Plus k.1) in
    let same : found.0.tuple ≡ t = (same_tuple-Decides found.0.tuple t).0 found.2 in
    ap (fits_relation b.catalog.rels) (sym same) ∙ (belongs_parts b.catalog found.0 found.1).tuple
