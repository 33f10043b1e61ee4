use Rattle.std.proofs.Common.{◌∙◌, ap, arith}
use Rattle.bdb_base.specs.Order.{path_cmp}
use Rattle.bdb_base.specs.OrderLemmas.{path_exact}
use Rattle.bdb_base.specs.SortedSet.{ascending, put_in}
use Rattle.bdb_base.proofs.SetLemmas.{put_keeps_order}
use Rattle.bdb_paths.proofs.StateLemmas.{next_prefix, last_prefix}
use Rattle.bdb_paths.proofs.states.put_prefixes.Goals as goal

pub loop-len-preserved : goal.loop-len-preserved
loop-len-preserved c = record {
  sorted = ap (ascending path_cmp) (c.in_ok-_added.ensures.ok) ∙ put_keeps_order path_exact c.loop-len.states c.in_ok-prefix.prefix c.loop-len.invariant.sorted;
  members = next_prefix c.args.path.now c.loop-len.len c.args.states.now c.loop-len.states c.put.new.list (omega arith)
      (c.in_ok-_added.ensures.ok ∙ ap (put_in path_cmp c.loop-len.states) c.in_ok-prefix.ensures) c.loop-len.invariant.members;
}

pub returns-clause-sorted : goal.returns-clause-sorted
returns-clause-sorted c = ap (ascending path_cmp) c.in_ok-_whole.ensures.ok ∙ put_keeps_order path_exact c.loop-len.states c.args.path.now c.loop-len.invariant.sorted

pub returns-clause-members : goal.returns-clause-members
returns-clause-members c = last_prefix c.args.path.now c.loop-len.len c.args.states.now c.loop-len.states c.put_copy.new.list (omega arith) c.in_ok-_whole.ensures.ok c.loop-len.invariant.members
