-- Worlds from what is stated at each end of a path.
use Rattle.std.specs.Prelude.{ℕ, ◌==◌, Bool, false, not, ◌&&◌, ◌||◌, List, [], ◌∷◌, ◌++◌, length, filter, cond}
use Rattle.bdb_base.specs.declared.kinds.Held.{Held}
use Rattle.bdb_base.specs.declared.kinds.Sign.{Sign}
use Rattle.bdb_base.specs.declared.kinds.Sign.TheVariants.{Plus, Minus}
use Rattle.bdb_base.specs.declared.kinds.Stmt.{Stmt}
use Rattle.bdb_base.specs.declared.tuple.Tuple.{Tuple}
use Rattle.bdb_base.specs.Clash.{key_of}
use Rattle.bdb_base.specs.Order.{tuple_cmp}
use Rattle.bdb_base.specs.Same.{same_path}
use Rattle.bdb_base.specs.SortedSet.{is_member, put_in}
use Rattle.bdb_model.specs.LevelSets.{Sets}

-- a tuple's key, as a tuple of its relation
abbrev pub key_tuple : (ℕ → ℕ) → Tuple → Tuple
key_tuple keys t = record { rel = t.rel; vals = key_of keys t }

-- nothing is stated
abbrev pub no_level : Sets
no_level = record { plus = []; minus = []; keys = [] }

-- a level with one more signed tuple
abbrev pub with_stated : (ℕ → ℕ) → Sets → Tuple → Sign → Sets
with_stated keys l t Plus = record { plus = put_in tuple_cmp l.plus t; minus = l.minus; keys = put_in tuple_cmp l.keys (key_tuple keys t) }
with_stated keys l t Minus = record { plus = l.plus; minus = put_in tuple_cmp l.minus t; keys = l.keys }

-- a level with all that statements state
abbrev pub with_all : (ℕ → ℕ) → Sets → List Stmt → Sets
with_all keys l [] = l
with_all keys l (x ∷ xs) = with_all keys (with_stated keys l x.tuple x.sign) xs

-- what is stated at this very path
abbrev pub level_of : (ℕ → ℕ) → List Stmt → List ℕ → Sets
level_of keys stmts w = with_all keys no_level (filter (λ x. same_path x.path w) stmts)

-- the level of statements, unless there are none
abbrev pub level_if_any : (ℕ → ℕ) → List Stmt → List Sets
level_if_any keys stmts = cond (length stmts == 0) [] (with_all keys no_level stmts ∷ [])

-- the level of the path, then that of the path without its first user, and so on to the empty path, without those at
-- which nothing is stated
abbrev pub levels_of : (ℕ → ℕ) → List Stmt → List ℕ → List Sets
levels_of keys stmts [] = level_if_any keys (filter (λ x. same_path x.path []) stmts)
levels_of keys stmts (i ∷ w) = level_if_any keys (filter (λ x. same_path x.path (i ∷ w)) stmts) ++ levels_of keys stmts w

-- a level states a signed tuple
abbrev pub has_stated : Sets → Tuple → Sign → Bool
has_stated l t Plus = is_member tuple_cmp l.plus t
has_stated l t Minus = is_member tuple_cmp l.minus t

-- a level states what clashes with a signed tuple that it does not state itself
abbrev pub refuses : Sets → Tuple → Tuple → Sign → Bool
refuses l t key Plus = is_member tuple_cmp l.minus t || is_member tuple_cmp l.keys key
refuses l t key Minus = is_member tuple_cmp l.plus t

-- the world of the levels' path has a signed tuple
abbrev pub stated_by : List Sets → Tuple → Tuple → Sign → Bool
stated_by [] t key s = false
stated_by (l ∷ lower) t key s = has_stated l t s || (stated_by lower t key s && not (refuses l t key s))

-- the row of a signed tuple, where the world has it
abbrev pub row_by : List Sets → Sets → Tuple → Tuple → Sign → List Held
row_by levels own t key s = cond (stated_by levels t key s) (record { tuple = t; sign = s; explicit = has_stated own t s } ∷ []) []

-- the rows of a tuple
abbrev pub rows_by : (ℕ → ℕ) → List Sets → Sets → Tuple → List Held
rows_by keys levels own t = row_by levels own t (key_tuple keys t) Plus ++ row_by levels own t (key_tuple keys t) Minus
