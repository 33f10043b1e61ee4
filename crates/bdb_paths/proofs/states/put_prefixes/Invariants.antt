use Rattle.std.proofs.Common.{◌≡◌, true, ◌||◌, ◌&&◌, ℕ, List, nat_lt, length}
use Rattle.bdb_base.specs.Order.{path_cmp}
use Rattle.bdb_base.specs.Segments.{is_prefix}
use Rattle.bdb_base.specs.SortedSet.{ascending, is_member}
use Rattle.bdb_paths.proofs.states.put_prefixes.Given as goal

-- the shorter prefixes are there
abbrev pub invariant-loop-len : goal.invariant-loop-len
invariant-loop-len l = record {
  sorted : ascending path_cmp l.states ≡ true;
  members : (w : List ℕ) → is_member path_cmp l.states w ≡ (is_member path_cmp l.initial.states w || (is_prefix w l.path && nat_lt (length w) l.len));
}
