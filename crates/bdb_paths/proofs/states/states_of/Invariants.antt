use Rattle.std.proofs.Common.{◌≡◌, true, ℕ, List, take}
use Rattle.bdb_base.specs.Order.{path_cmp}
use Rattle.bdb_base.specs.SortedSet.{ascending, is_member}
use Rattle.bdb_base.specs.States.{is_state}
use Rattle.bdb_paths.proofs.states.states_of.Given as goal

-- the states of the statements so far
abbrev pub invariant-loop-x : goal.invariant-loop-x
invariant-loop-x l = record {
  sorted : ascending path_cmp l.states ≡ true;
  members : (w : List ℕ) → is_member path_cmp l.states w ≡ is_state (take l.x-index l.stmts) w;
}
