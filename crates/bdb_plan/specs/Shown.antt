-- What is seen is a base.
use Rattle.std.specs.Prelude.{◌≡◌, ℕ, true, false, ◌&&◌, nat_eq, List, [], ◌∷◌, Some, length}
use Rattle.bdb_base.specs.declared.kinds.Sign.{Sign}
use Rattle.bdb_base.specs.declared.tuple.Tuple.{Tuple}
use Rattle.bdb_base.specs.Bases.{Contents, is_user, key_lengths}
use Rattle.bdb_base.specs.Queries.{columns_at}
use Rattle.bdb_base.specs.Segments.{is_suffix}
use Rattle.bdb_base.specs.States.{is_state, edge_target}
use Rattle.bdb_base.specs.Worlds.{stated}
use Rattle.bdb_queries.specs.Slots.{user_tuples}
use Rattle.bdb_plan.specs.Sight.{Sight, has_signed}

-- What is seen is a base: its places of users, and its users; the edges and rows of its states, each of which has a number,
-- the empty path 0; and its relations.
pub record Shows (b : Contents) (sight : Sight) (number : List ℕ → ℕ) : Type 0 where
  pub places : sight.places ≡ length b.catalog.users
  pub users : sight.users ≡ user_tuples 1 b.catalog.users
  pub root : number [] ≡ 0
  pub edges : (w : List ℕ) (i : ℕ) → is_state b.stmts w ≡ true → is_user b.catalog.users i ≡ true → is_suffix (i ∷ []) w ≡ false
      → sight.edge (number w) i ≡ Some (number (edge_target (is_state b.stmts) w i))
  pub rows : (w : List ℕ) (rel : ℕ) (t : Tuple) (s : Sign) → is_state b.stmts w ≡ true
      → has_signed (sight.rows (number w) rel) t s ≡ (nat_eq t.rel rel && stated (key_lengths b.catalog.rels) b.stmts w t s)
  pub width : (rel : ℕ) → sight.width rel ≡ length (columns_at b.catalog.rels rel)
  pub keys : sight.keys ≡ key_lengths b.catalog.rels
