use Rattle.std.proofs.Common.{◌∙◌, ap, sym}
use Rattle.bdb_base.specs.Order.{path_cmp}
use Rattle.bdb_base.specs.SortedSet.{is_member}
use Rattle.bdb_paths.proofs.StateLemmas.{next_states, same_states, all_states}
use Rattle.bdb_paths.proofs.states.states_of.Goals as goal

pub loop-x-preserved-then-contains : goal.loop-x-preserved-then-contains
loop-x-preserved-then-contains c = record {
  sorted = c.loop-x.invariant.sorted;
  members = same_states c.args.stmts.now c.loop-x.x-index c.x-item.result c.loop-x.states c.loop-x-test.true c.x-item.is c.loop-x.invariant.members
      (ap (λ ps. is_member path_cmp ps c.x-item.result.path) (sym c.as_slice.ensures) ∙ sym c.if-contains.ensures);
}

pub loop-x-preserved : goal.loop-x-preserved
loop-x-preserved c = record {
  sorted = c.in_ok-put_prefixes.ensures.sorted;
  members = next_states c.args.stmts.now c.loop-x.x-index c.x-item.result c.loop-x.states c.put_prefixes.new.states c.loop-x-test.true c.x-item.is
      c.loop-x.invariant.members c.in_ok-put_prefixes.ensures.members;
}

pub returns : goal.returns
returns c = all_states c.args.stmts.now c.loop-x.x-index c.loop-x.states c.loop-x-test.false c.loop-x.invariant.sorted c.loop-x.invariant.members
