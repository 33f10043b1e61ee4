-- The world of a path is that of the deepest state that it ends in.
use Rattle.std.proofs.Common.{is_some, ◌&&◌, ◌≡◌, ◌∙◌, ℕ, ◌+◌, ◌<◌, Bool, true, false, nat_eq, cond, List, [], ◌∷◌, ◌++◌, refl, ap, sym, inl, inr, suc, arith, length, map}
use Rattle.std.specs.List.{flat_map}
use Rattle.std.proofs.lemmas.Bool.{cases_Bool, false≢true, false_from_ne_true, cond-true, cond-false, eqb-true, eq-eqb}
use Rattle.bdb_base.specs.Bases.{is_user}
use Rattle.bdb_base.specs.States.{is_state, deepest_suffix}
use Rattle.bdb_base.specs.WorldRows.{world_of, row_at, rows_at, tuples_of}
use Rattle.bdb_base.specs.Worlds.{explicit, stated}
use Rattle.bdb_base.specs.Same.{same_tuple, same_sign}
use Rattle.bdb_base.specs.declared.kinds.Held.{Held}
use Rattle.bdb_base.specs.declared.kinds.Sign.{Sign}
use Rattle.bdb_base.specs.declared.kinds.Sign.TheVariants.{Plus, Minus}
use Rattle.bdb_base.specs.declared.kinds.Stmt.{Stmt}
use Rattle.bdb_base.specs.declared.tuple.Tuple.{Tuple}
use Rattle.bdb_base.proofs.WorldLemmas.{nothing_stands}
use Rattle.bdb_keep.specs.Tables.{Tables}
use Rattle.bdb_paths.proofs.SuffixLemmas.{deepest_of_member, deepest_past, deepest_same, length-deepest, states_stand_for_paths}
use Rattle.bdb_tables.specs.Names.{is_named}
use Rattle.bdb_update.proofs.KeyLemmas.{lengths_fit}
use Rattle.bdb_update.proofs.OneStored.{consistent}
use Rattle.bdb_update.specs.Keys.{keys_of}
use Rattle.bdb_val.specs.WorldReads.{AreRowsAt}
use Rattle.bdb_worlds.specs.Holding.{EndsAt}
use Rattle.bdb_catalog.specs.Showing.{FindsState, IsWorldOf, PlainPathsInherit, inherited, shown}

-- ---- paths that are no states

no_state_shorter : (P : List ℕ → Bool) (w : List ℕ) → P [] ≡ true → P w ≡ false → length (deepest_suffix P w) < length w
no_state_shorter P [] root e = absurd (false≢true (sym e ∙ root))
no_state_shorter P (i ∷ w) root e = let d = ap length (deepest_past P i w e) in let k = length-deepest P w in omega arith

-- the deepest suffix of a path is as long as the path exactly where it is the path itself
pub as_deep : (P : List ℕ → Bool) (w : List ℕ) → P [] ≡ true → nat_eq (length (deepest_suffix P w)) (length w) ≡ P w
as_deep P w root = elim (cases_Bool (P w)) [
  | inl e ↦ eq-eqb (length (deepest_suffix P w)) (length w) (ap length (deepest_of_member P w e)) ∙ sym e
  | inr e ↦ false_from_ne_true (nat_eq (length (deepest_suffix P w)) (length w)) (λ k.
      let same : length (deepest_suffix P w) ≡ length w = eqb-true (length (deepest_suffix P w)) (length w) k in
      let less = no_state_shorter P w root e in omega arith) ∙ sym e
]

pub nothing_explicit : (stmts : List Stmt) (w : List ℕ) (t : Tuple) (s : Sign) → is_state stmts w ≡ false → explicit stmts w t s ≡ false
nothing_explicit stmts [] t s e = absurd (false≢true (sym e))
nothing_explicit stmts (i ∷ w) t s e = nothing_stands stmts i w (λ x. same_tuple x.tuple t && same_sign x.sign s) e

one_row : Tuple → Sign → Bool → List Held
one_row t s b = record { tuple = t; sign = s; explicit = b } ∷ []

row_inherited : (keys : ℕ → ℕ) (stmts : List Stmt) (w : List ℕ) (t : Tuple) (s : Sign) → is_state stmts w ≡ false
    → row_at keys stmts w t s ≡ map inherited (row_at keys stmts (deepest_suffix (is_state stmts) w) t s)
unfolding one_row
row_inherited keys stmts w t s e =
    let v = deepest_suffix (is_state stmts) w in
    ap (λ b. cond (stated keys stmts w t s) (one_row t s b) []) (nothing_explicit stmts w t s e)
    ∙ ap (λ b. cond b (one_row t s false) []) (states_stand_for_paths keys stmts w t s)
    ∙ by (stated keys stmts v t s) (explicit stmts v t s)
  where
    by : (b c : Bool) → cond b (one_row t s false) [] ≡ map inherited (cond b (one_row t s c) [])
    by true c = refl
    by false c = refl

map_append : {X Y : Type 0} (f : X → Y) (xs ys : List X) → map f (xs ++ ys) ≡ map f xs ++ map f ys
map_append f [] ys = refl
map_append f (x ∷ xs) ys = ap (λ zs. f x ∷ zs) (map_append f xs ys)

rows_inherited : (keys : ℕ → ℕ) (stmts : List Stmt) (w : List ℕ) → is_state stmts w ≡ false → (ts : List Tuple)
    → flat_map (rows_at keys stmts w) ts ≡ map inherited (flat_map (rows_at keys stmts (deepest_suffix (is_state stmts) w)) ts)
rows_inherited keys stmts w e [] = refl
rows_inherited keys stmts w e (t ∷ ts) =
    let v = deepest_suffix (is_state stmts) w in
    let p = row_at keys stmts v t Plus in
    let m = row_at keys stmts v t Minus in
    let here : rows_at keys stmts w t ≡ map inherited (rows_at keys stmts v t) =
    ap (λ xs. xs ++ row_at keys stmts w t Minus) (row_inherited keys stmts w t Plus e)
    ∙ ap (λ xs. map inherited p ++ xs) (row_inherited keys stmts w t Minus e) ∙ sym (map_append inherited p m) in
    ap (λ xs. xs ++ flat_map (rows_at keys stmts w) ts) here
    ∙ ap (λ xs. map inherited (rows_at keys stmts v t) ++ xs) (rows_inherited keys stmts w e ts)
    ∙ sym (map_append inherited (rows_at keys stmts v t) (flat_map (rows_at keys stmts v) ts))

pub plain_paths_inherit : PlainPathsInherit
plain_paths_inherit keys stmts w e = rows_inherited keys stmts w e (tuples_of stmts)

-- ---- the state that a path ends in

pub state_found : (t : Tables) (path : List ℕ) (wid depth : ℕ) → EndsAt t path path (wid, depth) → FindsState t path (wid, nat_eq depth (length path))
state_found t path wid depth ends s h own =
    let e = ends s h own in
    let root : is_named s.names [] ≡ true = ap is_some (h.names.root) in
    record { number = e.number; own = ap (λ n. nat_eq n (length path)) e.depth ∙ as_deep (is_named s.names) path root }

-- ---- its rows

pub path_world : (t : Tables) (path : List ℕ) (wid : ℕ) (own : Bool) (held : List Held) → FindsState t path (wid, own) → AreRowsAt t wid held → IsWorldOf t path (shown own held)
path_world t path wid own held f a b h =
    let s = h.base.stored in
    let st = s.stored in
    let ns = s.names in
    let is = f (record { users = is_user b.catalog.users; names = ns }) st.states h.own in
    let d = deepest_suffix (is_named ns) path in
    let same : d ≡ deepest_suffix (is_state b.stmts) path = deepest_same (is_named ns) (is_state b.stmts) st.worlds path in
    let rows : held ≡ world_of (keys_of b) b.stmts d =
    a (keys_of b) b.stmts ns s.tuples d (lengths_fit t b.catalog.rels st.rels) (consistent b h.base.valid) st.states.names st.tuples st.rows (st.states.names.numbered d wid is.number) in
    elim (cases_Bool (is_named ns path)) [
      | inl e ↦ cond-true own held (map inherited held) (is.own ∙ e) ∙ rows ∙ ap (world_of (keys_of b) b.stmts) (deepest_of_member (is_named ns) path e)
      | inr e ↦ cond-false own held (map inherited held) (is.own ∙ e) ∙ ap (map inherited) rows
          ∙ ap (λ v. map inherited (world_of (keys_of b) b.stmts v)) same
          ∙ sym (plain_paths_inherit (keys_of b) b.stmts path (sym (st.worlds path) ∙ e))
    ]

pub length_shown : (own : Bool) (rows : List Held) → length (shown own rows) ≡ length rows
length_shown true rows = refl
length_shown false rows = by rows
  where
    by : (xs : List Held) → length (map inherited xs) ≡ length xs
    by [] = refl
    by (x ∷ xs) = ap suc (by xs)
