-- Lengths of keys that are the same where it matters: the worlds by them, the rows that are stored, and the sizes.
use Rattle.std.proofs.Common.{◌≡◌, ◌∙◌, ℕ, ◌+◌, Bool, true, not, ◌&&◌, ◌||◌, nat_eq, cond, List, [], ◌∷◌, ◌++◌, length, map, take, sum_by, refl, ap, sym, inl, inr, Option, Some, None, is_some}
use Rattle.std.specs.List.{flat_map, list_all, list_any}
use Rattle.std.proofs.lemmas.Bool.{and_from, and_parts, eq-eqb, eqb-true, false≢true, or_cases}
use Rattle.std.proofs.lemmas.List.Sums.{sum_by-cons}
use Rattle.bdb_base.specs.Bases.{Contents, belongs, key_at, key_lengths, tuple_count, with_relation, world_count}
use Rattle.bdb_base.specs.Order.{tuple_cmp}
use Rattle.bdb_base.specs.OrderLemmas.{tuple_exact}
use Rattle.bdb_base.specs.Same.{same_tuple, same_values}
use Rattle.bdb_base.specs.SameLemmas.{same_tuple-Decides}
use Rattle.bdb_base.specs.SortedSet.{sorted_set}
use Rattle.bdb_base.specs.States.{states_of}
use Rattle.bdb_base.specs.WorldRows.{row_at, rows_at, tuples_of}
use Rattle.bdb_base.specs.Worlds.{contradicted, explicit, stated}
use Rattle.bdb_base.specs.declared.kinds.Catalog.{Catalog}
use Rattle.bdb_base.specs.declared.kinds.Held.{Held}
use Rattle.bdb_base.specs.declared.kinds.RelDef.{RelDef}
use Rattle.bdb_base.specs.declared.kinds.Sign.{Sign}
use Rattle.bdb_base.specs.declared.kinds.Sign.TheVariants.{Plus, Minus}
use Rattle.bdb_base.specs.declared.kinds.Stmt.{Stmt}
use Rattle.bdb_base.specs.declared.tuple.Tuple.{Tuple}
use Rattle.bdb_base.proofs.BaseLemmas.{belongs_parts, contradicted_elsewhere, definition_stays}
use Rattle.bdb_base.proofs.SetLemmas.{list_all-put_in}
use Rattle.bdb_canon.specs.Canonical.{row_count}
use Rattle.bdb_canon.specs.Sizes.{counts_of}
use Rattle.bdb_canon.specs.declared.sizes.Counts.{Counts}
use Rattle.bdb_keep.specs.Tables.{Tables}
use Rattle.bdb_tables.specs.InUse.{ValKey}
use Rattle.bdb_tables.specs.Marks.{mark_of, marked, sign_by}
use Rattle.bdb_tables.specs.Rows.{HoldsTuples, Tuples, row_for, row_named}

-- ---- worlds by other lengths of keys

-- a world has a tuple with a sign by the length of the keys of the tuple's relation alone
stated_elsewhere : (keys more : ℕ → ℕ) (stmts : List Stmt) (w : List ℕ) (t : Tuple) (s : Sign) → more t.rel ≡ keys t.rel → stated more stmts w t s ≡ stated keys stmts w t s
stated_elsewhere keys more stmts [] t s e = refl
stated_elsewhere keys more stmts (i ∷ w) t s e =
    ap (λ b. explicit stmts (i ∷ w) t s || (b && not (contradicted more stmts (i ∷ w) t s))) (stated_elsewhere keys more stmts w t s e)
    ∙ ap (λ b. explicit stmts (i ∷ w) t s || (stated keys stmts w t s && not b)) (contradicted_elsewhere keys more stmts (i ∷ w) t s e)

-- ---- stored rows by other lengths of keys

mark_elsewhere : (keys more : ℕ → ℕ) (stmts : List Stmt) (w : List ℕ) (u : Tuple) → more u.rel ≡ keys u.rel → mark_of more stmts w u ≡ mark_of keys stmts w u
mark_elsewhere keys more stmts w u e =
    ap (λ b. marked (explicit stmts w u) (sign_by b (stated more stmts w u Minus))) (stated_elsewhere keys more stmts w u Plus e)
    ∙ ap (λ b. marked (explicit stmts w u) (sign_by (stated keys stmts w u Plus) b)) (stated_elsewhere keys more stmts w u Minus e)

row_elsewhere : (keys more : ℕ → ℕ) (stmts : List Stmt) (k : ValKey) (p : Option (List ℕ)) (o : Option Tuple) → ((u : Tuple) → o ≡ Some u → more u.rel ≡ keys u.rel)
    → row_named keys stmts k p o ≡ row_named more stmts k p o
row_elsewhere keys more stmts k None o h = refl
row_elsewhere keys more stmts k (Some w) None h = refl
row_elsewhere keys more stmts k (Some w) (Some u) h =
    let e : keys u.rel ≡ more u.rel = sym (h u refl) in
    ap (λ n. cond (nat_eq u.rel k.1 && same_values (take n u.vals) k.2) (mark_of keys stmts w u) None) e
    ∙ ap (λ m. cond (nat_eq u.rel k.1 && same_values (take (more u.rel) u.vals) k.2) m None) (sym (mark_elsewhere keys more stmts w u (sym e)))

-- ---- a relation more leaves the keys of the tuples of statements that belong to a catalog

own_length : (c : Catalog) (def : RelDef) (x : Stmt) → belongs c x ≡ true → key_lengths (c.rels ++ def ∷ []) x.tuple.rel ≡ key_lengths c.rels x.tuple.rel
own_length c def x h = ap key_at (definition_stays c.rels def x.tuple.rel x.tuple.vals (belongs_parts c x h).tuple)

length_stays : (c : Catalog) (def : RelDef) (stmts : List Stmt) (u : Tuple) → list_all (belongs c) stmts ≡ true → list_any (λ x. same_tuple x.tuple u) stmts ≡ true
    → key_lengths (c.rels ++ def ∷ []) u.rel ≡ key_lengths c.rels u.rel
length_stays c def [] u all any = absurd (false≢true any)
length_stays c def (x ∷ xs) u all any =
    let k = and_parts (belongs c x) (list_all (belongs c) xs) all in
    elim (or_cases (same_tuple x.tuple u) (list_any (λ y. same_tuple y.tuple u) xs) any) [
      | inl e ↦
          let same : x.tuple ≡ u = (same_tuple-Decides x.tuple u).0 e in
          ap (λ (v : Tuple). key_lengths (c.rels ++ def ∷ []) v.rel) (sym same) ∙ own_length c def x k.0 ∙ ap (λ (v : Tuple). key_lengths c.rels v.rel) same
      | inr e ↦ length_stays c def xs u k.1 e
    ]

-- a stored row is the same with a relation more
pub row_stays : (c : Catalog) (def : RelDef) (stmts : List Stmt) (path : ℕ → Option (List ℕ)) (ts : Tuples) (t : Tables) → list_all (belongs c) stmts ≡ true → HoldsTuples stmts ts t → (k : ValKey)
    → row_for (key_lengths c.rels) stmts path ts.tuple k ≡ row_for (key_lengths (c.rels ++ def ∷ [])) stmts path ts.tuple k
row_stays c def stmts path ts t all h k =
    row_elsewhere (key_lengths c.rels) (key_lengths (c.rels ++ def ∷ [])) stmts k (path k.0) (ts.tuple k.3)
    (λ u e. length_stays c def stmts u all (sym (h.stated u) ∙ ap is_some (h.named k.3 u e)))

-- ---- the sizes stay

abbrev held_at : List Stmt → List ℕ → Tuple → Sign → Held
held_at stmts w t s = record { tuple = t; sign = s; explicit = explicit stmts w t s }

rows_elsewhere : (keys more : ℕ → ℕ) (stmts : List Stmt) (w : List ℕ) (t : Tuple) → more t.rel ≡ keys t.rel → rows_at more stmts w t ≡ rows_at keys stmts w t
rows_elsewhere keys more stmts w t e =
    ap (λ b. cond b (held_at stmts w t Plus ∷ []) [] ++ row_at more stmts w t Minus) (stated_elsewhere keys more stmts w t Plus e)
    ∙ ap (λ b. row_at keys stmts w t Plus ++ cond b (held_at stmts w t Minus ∷ []) []) (stated_elsewhere keys more stmts w t Minus e)

abbrev as_long : (ℕ → ℕ) → (ℕ → ℕ) → Tuple → Bool
as_long keys more u = nat_eq (more u.rel) (keys u.rel)

rows_as_long : (keys more : ℕ → ℕ) (stmts : List Stmt) (w : List ℕ) (us : List Tuple) → list_all (as_long keys more) us ≡ true → flat_map (rows_at more stmts w) us ≡ flat_map (rows_at keys stmts w) us
rows_as_long keys more stmts w [] h = refl
rows_as_long keys more stmts w (u ∷ us) h =
    let k = and_parts (as_long keys more u) (list_all (as_long keys more) us) h in
    ap (λ r. r ++ flat_map (rows_at more stmts w) us) (rows_elsewhere keys more stmts w u (eqb-true (more u.rel) (keys u.rel) k.0))
    ∙ ap (λ r. rows_at keys stmts w u ++ r) (rows_as_long keys more stmts w us k.1)

all_in_set : (p : Tuple → Bool) (xs : List Tuple) → list_all p xs ≡ true → list_all p (sorted_set tuple_cmp xs) ≡ true
all_in_set p [] h = refl
all_in_set p (x ∷ xs) h =
    let k = and_parts (p x) (list_all p xs) h in
    list_all-put_in tuple_exact p (sorted_set tuple_cmp xs) x (all_in_set p xs k.1) k.0

tuples_as_long : (c : Catalog) (def : RelDef) (xs : List Stmt) → list_all (belongs c) xs ≡ true
    → list_all (as_long (key_lengths c.rels) (key_lengths (c.rels ++ def ∷ []))) (map (λ x. x.tuple) xs) ≡ true
tuples_as_long c def [] h = refl
tuples_as_long c def (x ∷ xs) h =
    let keys = key_lengths c.rels in
    let more = key_lengths (c.rels ++ def ∷ []) in
    let k = and_parts (belongs c x) (list_all (belongs c) xs) h in
    and_from (as_long keys more x.tuple) (list_all (as_long keys more) (map (λ y. y.tuple) xs))
    (eq-eqb (more x.tuple.rel) (keys x.tuple.rel) (own_length c def x k.0)) (tuples_as_long c def xs k.1)

sums_same : (f g : List ℕ → ℕ) → ((w : List ℕ) → f w ≡ g w) → (ws : List (List ℕ)) → sum_by f ws ≡ sum_by g ws
sums_same f g h [] = refl
sums_same f g h (w ∷ ws) = sum_by-cons f w ws ∙ ap (λ n. n + sum_by f ws) (h w) ∙ ap (λ n. g w + n) (sums_same f g h ws) ∙ sym (sum_by-cons g w ws)

abbrev with_rows : Contents → ℕ → Counts
with_rows b n = record { worlds = world_count b.stmts; tuples = tuple_count b.stmts; stmts = length b.stmts; rows = n }

-- with a relation more the sizes are the same
pub counts_stay : (b : Contents) (def : RelDef) → list_all (belongs b.catalog) b.stmts ≡ true → counts_of b ≡ counts_of (record b { catalog = with_relation b.catalog def })
counts_stay b def all =
    let keys = key_lengths b.catalog.rels in
    let more = key_lengths (b.catalog.rels ++ def ∷ []) in
    let long = all_in_set (as_long keys more) (map (λ x. x.tuple) b.stmts) (tuples_as_long b.catalog def b.stmts all) in
    ap (with_rows b) (sums_same (row_count keys b.stmts) (row_count more b.stmts)
    (λ w. ap (λ rows. length rows) (sym (rows_as_long keys more b.stmts w (tuples_of b.stmts) long))) (states_of b.stmts))
