-- What is stated at each end of a path is all that its world depends on.
use Rattle.std.proofs.Common.{◌≡◌, ◌∙◌, ℕ, Bool, true, false, not, ◌&&◌, ◌||◌, List, [], ◌∷◌, ◌++◌, inl, inr, refl, ap, sym, cond, filter, length, drop, append_assoc, arith, ◌<◌, ◌==◌}
use Rattle.std.specs.List.{list_any, flat_map}
use Rattle.std.proofs.lemmas.Bool.{cases_Bool, or_parts, cond-true, cond-false}
use Rattle.std.proofs.lemmas.Bool.Decides.{nat_tests}
use Rattle.std.proofs.lemmas.List.{append-nil}
use Rattle.bdb_base.specs.declared.kinds.Held.{Held}
use Rattle.bdb_base.specs.declared.kinds.Sign.{Sign}
use Rattle.bdb_base.specs.declared.kinds.Sign.TheVariants.{Plus, Minus}
use Rattle.bdb_base.specs.declared.kinds.Stmt.{Stmt}
use Rattle.bdb_base.specs.declared.tuple.Tuple.{Tuple}
use Rattle.bdb_base.specs.Clash.{clash, same_key}
use Rattle.bdb_base.specs.Order.{tuple_cmp}
use Rattle.bdb_base.specs.OrderLemmas.{tuple_exact, is_eq_tuple_cmp}
use Rattle.bdb_base.specs.Same.{same_path, same_tuple, same_sign}
use Rattle.bdb_base.specs.SortedSet.{is_member, put_in}
use Rattle.bdb_base.specs.WorldRows.{row_at, rows_at, tuples_of, world_of}
use Rattle.bdb_base.specs.Worlds.{explicit, contradicted, stated}
use Rattle.bdb_base.proofs.ClashLemmas.{same_tuple_turned, same_key_turned}
use Rattle.bdb_base.proofs.ListLemmas.{filter_dropped_one, filter_kept_one, or_false, or_move, list_any_same}
use Rattle.bdb_base.proofs.SetLemmas.{put_adds_member}
use Rattle.bdb_base.proofs.BoolLemmas.{and_true, and_false}
use Rattle.bdb_model.specs.LevelSets.{Sets}
use Rattle.bdb_model.specs.Levels.{key_tuple, no_level, with_stated, with_all, level_of, level_if_any, levels_of, has_stated, refuses, stated_by, row_by, rows_by}

-- a level with a statement, where it is one of this very path
abbrev grown : (ℕ → ℕ) → List ℕ → Sets → Stmt → Sets
grown keys w l x = cond (same_path x.path w) (with_stated keys l x.tuple x.sign) l

-- a level with the statements of this very path
abbrev grown_all : (ℕ → ℕ) → List ℕ → Sets → List Stmt → Sets
grown_all keys w l [] = l
grown_all keys w l (x ∷ xs) = grown_all keys w (grown keys w l x) xs

-- to take those of this very path is to pass by the others
with_all_grown : (keys : ℕ → ℕ) (w : List ℕ) (l : Sets) (xs : List Stmt) → with_all keys l (filter (λ x. same_path x.path w) xs) ≡ grown_all keys w l xs
with_all_grown keys w l [] = refl
with_all_grown keys w l (x ∷ xs) = elim (cases_Bool (same_path x.path w)) [
  | inl e ↦
      ap (with_all keys l) (filter_kept_one (λ y. same_path y.path w) x xs e) ∙ with_all_grown keys w (with_stated keys l x.tuple x.sign) xs
      ∙ ap (λ k. grown_all keys w k xs) (sym (cond-true (same_path x.path w) (with_stated keys l x.tuple x.sign) l e))
  | inr e ↦
      ap (with_all keys l) (filter_dropped_one (λ y. same_path y.path w) x xs e) ∙ with_all_grown keys w l xs
      ∙ ap (λ k. grown_all keys w k xs) (sym (cond-false (same_path x.path w) (with_stated keys l x.tuple x.sign) l e))
]

-- a set of a level has a member from before, or one that a statement of this very path brought
pub grown_set : (keys : ℕ → ℕ) (w : List ℕ) (z : Tuple) (f : Sets → List Tuple) (q : Tuple → Sign → Bool)
    → ((l : Sets) (u : Tuple) (s : Sign) → is_member tuple_cmp (f (with_stated keys l u s)) z ≡ (q u s || is_member tuple_cmp (f l) z))
    → (l : Sets) (stmts : List Stmt)
    → is_member tuple_cmp (f (grown_all keys w l stmts)) z ≡ (is_member tuple_cmp (f l) z || list_any (λ x. same_path x.path w && q x.tuple x.sign) stmts)
grown_set keys w z f q h l [] = sym (or_false (is_member tuple_cmp (f l) z))
grown_set keys w z f q h l (x ∷ xs) =
    grown_set keys w z f q h (grown keys w l x) xs
    ∙ ap (λ b. b || list_any (λ y. same_path y.path w && q y.tuple y.sign) xs) here
    ∙ or_move (same_path x.path w && q x.tuple x.sign) (is_member tuple_cmp (f l) z) (list_any (λ y. same_path y.path w && q y.tuple y.sign) xs)
  where
    here : is_member tuple_cmp (f (grown keys w l x)) z ≡ ((same_path x.path w && q x.tuple x.sign) || is_member tuple_cmp (f l) z)
    here = elim (cases_Bool (same_path x.path w)) [
      | inl e ↦ ap (λ k. is_member tuple_cmp (f k) z) (cond-true (same_path x.path w) (with_stated keys l x.tuple x.sign) l e)
          ∙ h l x.tuple x.sign ∙ ap (λ b. (b && q x.tuple x.sign) || is_member tuple_cmp (f l) z) (sym e)
      | inr e ↦ ap (λ k. is_member tuple_cmp (f k) z) (cond-false (same_path x.path w) (with_stated keys l x.tuple x.sign) l e)
          ∙ ap (λ b. (b && q x.tuple x.sign) || is_member tuple_cmp (f l) z) (sym e)
    ]

put_has : (ts : List Tuple) (u z : Tuple) → is_member tuple_cmp (put_in tuple_cmp ts u) z ≡ (same_tuple u z || is_member tuple_cmp ts z)
put_has ts u z = put_adds_member tuple_exact ts u z ∙ ap (λ b. b || is_member tuple_cmp ts z) (is_eq_tuple_cmp u z)

plus_step : (keys : ℕ → ℕ) (t : Tuple) (l : Sets) (u : Tuple) (s : Sign) → is_member tuple_cmp (with_stated keys l u s).plus t ≡ ((same_tuple u t && same_sign s Plus) || is_member tuple_cmp l.plus t)
plus_step keys t l u Plus = put_has l.plus u t ∙ ap (λ b. b || is_member tuple_cmp l.plus t) (sym (and_true (same_tuple u t)))
plus_step keys t l u Minus = ap (λ b. b || is_member tuple_cmp l.plus t) (sym (and_false (same_tuple u t)))

minus_step : (keys : ℕ → ℕ) (t : Tuple) (l : Sets) (u : Tuple) (s : Sign) → is_member tuple_cmp (with_stated keys l u s).minus t ≡ ((same_tuple u t && same_sign s Minus) || is_member tuple_cmp l.minus t)
minus_step keys t l u Plus = ap (λ b. b || is_member tuple_cmp l.minus t) (sym (and_false (same_tuple u t)))
minus_step keys t l u Minus = put_has l.minus u t ∙ ap (λ b. b || is_member tuple_cmp l.minus t) (sym (and_true (same_tuple u t)))

keys_step : (keys : ℕ → ℕ) (t : Tuple) (l : Sets) (u : Tuple) (s : Sign)
    → is_member tuple_cmp (with_stated keys l u s).keys (key_tuple keys t) ≡ ((same_sign s Plus && same_key keys u t) || is_member tuple_cmp l.keys (key_tuple keys t))
keys_step keys t l u Plus = put_has l.keys (key_tuple keys u) (key_tuple keys t)
keys_step keys t l u Minus = refl

pub level_has : (keys : ℕ → ℕ) (stmts : List Stmt) (w : List ℕ) (t : Tuple) (s : Sign) → has_stated (level_of keys stmts w) t s ≡ explicit stmts w t s
level_has keys stmts w t Plus = ap (λ l. is_member tuple_cmp l.plus t) (with_all_grown keys w no_level stmts) ∙ grown_set keys w t (λ l. l.plus) (λ u s. same_tuple u t && same_sign s Plus) (plus_step keys t) no_level stmts
level_has keys stmts w t Minus = ap (λ l. is_member tuple_cmp l.minus t) (with_all_grown keys w no_level stmts) ∙ grown_set keys w t (λ l. l.minus) (λ u s. same_tuple u t && same_sign s Minus) (minus_step keys t) no_level stmts

-- a statement of this very path has plus and the tuple's key
abbrev keyed : (ℕ → ℕ) → List Stmt → List ℕ → Tuple → Bool
keyed keys stmts w t = list_any (λ x. same_path x.path w && (same_sign x.sign Plus && same_key keys x.tuple t)) stmts

level_keyed : (keys : ℕ → ℕ) (stmts : List Stmt) (w : List ℕ) (t : Tuple) → is_member tuple_cmp (level_of keys stmts w).keys (key_tuple keys t) ≡ keyed keys stmts w t
level_keyed keys stmts w t = ap (λ l. is_member tuple_cmp l.keys (key_tuple keys t)) (with_all_grown keys w no_level stmts) ∙ grown_set keys w (key_tuple keys t) (λ l. l.keys) (λ u s. same_sign s Plus && same_key keys u t) (keys_step keys t) no_level stmts

-- what clashes with a plus that is not stated: its denial, or a plus of its key
plus_clash : (keys : ℕ → ℕ) (t u : Tuple) (s : Sign) (b : Bool) → (b && (same_tuple u t && same_sign s Plus)) ≡ false
    → (b && clash keys t Plus u s) ≡ ((b && (same_tuple u t && same_sign s Minus)) || (b && (same_sign s Plus && same_key keys u t)))
plus_clash keys t u s false h = refl
plus_clash keys t u Plus true h =
    let apart : same_tuple t u ≡ false = same_tuple_turned t u ∙ sym (and_true (same_tuple u t)) ∙ h in
    ap (λ e. same_key keys t u && not e) apart ∙ and_true (same_key keys t u) ∙ same_key_turned keys t u
    ∙ ap (λ e. e || same_key keys u t) (sym (and_false (same_tuple u t)))
plus_clash keys t u Minus true h = same_tuple_turned t u ∙ sym (and_true (same_tuple u t)) ∙ sym (or_false (same_tuple u t && true))

or_four : (a b c d : Bool) → ((a || b) || (c || d)) ≡ ((a || c) || (b || d))
or_four true b c d = refl
or_four false true true d = refl
or_four false true false d = refl
or_four false false true d = refl
or_four false false false d = refl

plus_contradicted : (keys : ℕ → ℕ) (stmts : List Stmt) (w : List ℕ) (t : Tuple) → explicit stmts w t Plus ≡ false
    → contradicted keys stmts w t Plus ≡ (explicit stmts w t Minus || keyed keys stmts w t)
plus_contradicted keys [] w t h = refl
plus_contradicted keys (x ∷ xs) w t h =
    let parts = or_parts (same_path x.path w && (same_tuple x.tuple t && same_sign x.sign Plus)) (explicit xs w t Plus) h in
    ap (λ b. b || contradicted keys xs w t Plus) (plus_clash keys t x.tuple x.sign (same_path x.path w) parts.0)
    ∙ ap (λ b. ((same_path x.path w && (same_tuple x.tuple t && same_sign x.sign Minus)) || (same_path x.path w && (same_sign x.sign Plus && same_key keys x.tuple t))) || b)
    (plus_contradicted keys xs w t parts.1)
    ∙ or_four (same_path x.path w && (same_tuple x.tuple t && same_sign x.sign Minus)) (same_path x.path w && (same_sign x.sign Plus && same_key keys x.tuple t))
    (explicit xs w t Minus) (keyed keys xs w t)

-- what clashes with a minus: the same tuple with plus
minus_clash : (keys : ℕ → ℕ) (t u : Tuple) (s : Sign) → (same_tuple u t && same_sign s Plus) ≡ clash keys t Minus u s
minus_clash keys t u Plus = and_true (same_tuple u t) ∙ same_tuple_turned u t
minus_clash keys t u Minus = and_false (same_tuple u t)

pub level_refuses : (keys : ℕ → ℕ) (stmts : List Stmt) (w : List ℕ) (t : Tuple) (s : Sign) → explicit stmts w t s ≡ false
    → refuses (level_of keys stmts w) t (key_tuple keys t) s ≡ contradicted keys stmts w t s
level_refuses keys stmts w t Plus h =
    ap (λ b. b || is_member tuple_cmp (level_of keys stmts w).keys (key_tuple keys t)) (level_has keys stmts w t Minus)
    ∙ ap (λ b. explicit stmts w t Minus || b) (level_keyed keys stmts w t) ∙ sym (plus_contradicted keys stmts w t h)
level_refuses keys stmts w t Minus h =
    level_has keys stmts w t Plus
    ∙ list_any_same (λ x. same_path x.path w && (same_tuple x.tuple t && same_sign x.sign Plus)) (λ x. same_path x.path w && clash keys t Minus x.tuple x.sign)
    (λ x. ap (λ b. same_path x.path w && b) (minus_clash keys t x.tuple x.sign)) stmts

-- a test that matters only where another fails
or_where : (e a b c : Bool) → (e ≡ false → b ≡ c) → (e || (a && not b)) ≡ (e || (a && not c))
or_where true a b c h = refl
or_where false a b c h = ap (λ d. a && not d) (h refl)

any_level : (keys : ℕ → ℕ) (x : Stmt) (xs : List Stmt) → level_if_any keys (x ∷ xs) ≡ with_all keys no_level (x ∷ xs) ∷ []
any_level keys x xs =
    let some : (length (x ∷ xs) == 0) ≡ false = grind (arith, nat_tests) in
    cond-false (length (x ∷ xs) == 0) [] (with_all keys no_level (x ∷ xs) ∷ []) some

-- a level at which nothing is stated may be left out
one_level : (keys : ℕ → ℕ) (xs : List Stmt) (lower : List Sets) (t key : Tuple) (s : Sign)
    → stated_by (level_if_any keys xs ++ lower) t key s ≡ (has_stated (with_all keys no_level xs) t s || (stated_by lower t key s && not (refuses (with_all keys no_level xs) t key s)))
one_level keys [] lower t key Plus = sym (and_true (stated_by lower t key Plus))
one_level keys [] lower t key Minus = sym (and_true (stated_by lower t key Minus))
one_level keys (x ∷ xs) lower t key s = ap (λ ls. stated_by (ls ++ lower) t key s) (any_level keys x xs)

pub stated_by_levels : (keys : ℕ → ℕ) (stmts : List Stmt) (w : List ℕ) (t : Tuple) (s : Sign) → stated_by (levels_of keys stmts w) t (key_tuple keys t) s ≡ stated keys stmts w t s
stated_by_levels keys stmts [] t s =
    ap (λ ls. stated_by ls t (key_tuple keys t) s) (sym (append-nil (levels_of keys stmts [])))
    ∙ one_level keys (filter (λ x. same_path x.path []) stmts) [] t (key_tuple keys t) s
    ∙ or_false (has_stated (level_of keys stmts []) t s) ∙ level_has keys stmts [] t s
stated_by_levels keys stmts (i ∷ w) t s =
    one_level keys (filter (λ x. same_path x.path (i ∷ w)) stmts) (levels_of keys stmts w) t (key_tuple keys t) s
    ∙ ap (λ e. e || (stated_by (levels_of keys stmts w) t (key_tuple keys t) s && not (refuses (level_of keys stmts (i ∷ w)) t (key_tuple keys t) s))) (level_has keys stmts (i ∷ w) t s)
    ∙ ap (λ e. explicit stmts (i ∷ w) t s || (e && not (refuses (level_of keys stmts (i ∷ w)) t (key_tuple keys t) s))) (stated_by_levels keys stmts w t s)
    ∙ or_where (explicit stmts (i ∷ w) t s) (stated keys stmts w t s) (refuses (level_of keys stmts (i ∷ w)) t (key_tuple keys t) s) (contradicted keys stmts (i ∷ w) t s)
    (level_refuses keys stmts (i ∷ w) t s)

pub row_by_levels : (keys : ℕ → ℕ) (stmts : List Stmt) (w : List ℕ) (t : Tuple) (s : Sign) → row_by (levels_of keys stmts w) (level_of keys stmts w) t (key_tuple keys t) s ≡ row_at keys stmts w t s
row_by_levels keys stmts w t s =
    ap (λ e. cond e (held (has_stated (level_of keys stmts w) t s) ∷ []) []) (stated_by_levels keys stmts w t s)
    ∙ ap (λ e. cond (stated keys stmts w t s) (held e ∷ []) []) (level_has keys stmts w t s)
  where
    held : Bool → Held
    held e = record { tuple = t; sign = s; explicit = e }

pub rows_by_levels : (keys : ℕ → ℕ) (stmts : List Stmt) (w : List ℕ) (t : Tuple) → rows_by keys (levels_of keys stmts w) (level_of keys stmts w) t ≡ rows_at keys stmts w t
rows_by_levels keys stmts w t =
    ap (λ rows. rows ++ row_by (levels_of keys stmts w) (level_of keys stmts w) t (key_tuple keys t) Minus) (row_by_levels keys stmts w t Plus)
    ∙ ap (λ rows. row_at keys stmts w t Plus ++ rows) (row_by_levels keys stmts w t Minus)

pub flat_map_same : {X Y : Type 0} (f g : X → List Y) → ((x : X) → f x ≡ g x) → (xs : List X) → flat_map f xs ≡ flat_map g xs
flat_map_same f g h [] = refl
flat_map_same f g h (x ∷ xs) = ap (λ ys. ys ++ flat_map f xs) (h x) ∙ ap (λ ys. g x ++ ys) (flat_map_same f g h xs)

-- the rows by levels of all tuples are the world
pub world_by_levels : (keys : ℕ → ℕ) (stmts : List Stmt) (w : List ℕ) → flat_map (rows_by keys (levels_of keys stmts w) (level_of keys stmts w)) (tuples_of stmts) ≡ world_of keys stmts w
world_by_levels keys stmts w = flat_map_same (rows_by keys (levels_of keys stmts w) (level_of keys stmts w)) (rows_at keys stmts w) (rows_by_levels keys stmts w) (tuples_of stmts)

-- ---- the levels one by one, from the path's on

levels_on : (keys : ℕ → ℕ) (stmts : List Stmt) (w : List ℕ) → 0 < length w
    → levels_of keys stmts w ≡ level_if_any keys (filter (λ x. same_path x.path w) stmts) ++ levels_of keys stmts (drop 1 w)
levels_on keys stmts [] l = absurd (omega arith)
levels_on keys stmts (i ∷ w) l = refl

levels_end : (keys : ℕ → ℕ) (stmts : List Stmt) (w : List ℕ) → length w < 1 → levels_of keys stmts w ≡ level_if_any keys (filter (λ x. same_path x.path w) stmts)
levels_end keys stmts [] l = refl
levels_end keys stmts (i ∷ w) l = absurd (omega arith)

pub next_level : (keys : ℕ → ℕ) (stmts own : List Stmt) (path w rest : List ℕ) (levels new : List Sets) → 0 < length w → rest ≡ drop 1 w
    → own ≡ filter (λ x. same_path x.path w) stmts → levels_of keys stmts path ≡ levels ++ levels_of keys stmts w → new ≡ levels ++ level_if_any keys own
    → levels_of keys stmts path ≡ new ++ levels_of keys stmts rest
next_level keys stmts own path w rest levels new l is e h n =
    h ∙ ap (λ ls. levels ++ ls) (levels_on keys stmts w l) ∙ ap (λ xs. levels ++ (level_if_any keys xs ++ levels_of keys stmts (drop 1 w))) (sym e)
    ∙ ap (λ v. levels ++ (level_if_any keys own ++ levels_of keys stmts v)) (sym is)
    ∙ sym (append_assoc levels (level_if_any keys own) (levels_of keys stmts rest)) ∙ ap (λ ls. ls ++ levels_of keys stmts rest) (sym n)

pub last_level : (keys : ℕ → ℕ) (stmts own : List Stmt) (path w : List ℕ) (levels new : List Sets) → length w < 1
    → own ≡ filter (λ x. same_path x.path w) stmts → levels_of keys stmts path ≡ levels ++ levels_of keys stmts w → new ≡ levels ++ level_if_any keys own
    → new ≡ levels_of keys stmts path
last_level keys stmts own path w levels new l e h n =
    n ∙ ap (λ xs. levels ++ level_if_any keys xs) e ∙ ap (λ ls. levels ++ ls) (sym (levels_end keys stmts w l)) ∙ sym h
