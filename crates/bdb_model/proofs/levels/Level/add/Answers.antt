use Rattle.std.proofs.Common.{◌≡◌, ◌∙◌, true, List, ap}
use Rattle.bdb_base.specs.declared.tuple.Tuple.{Tuple}
use Rattle.bdb_base.specs.Order.{tuple_cmp}
use Rattle.bdb_base.specs.OrderLemmas.{tuple_exact}
use Rattle.bdb_base.specs.SortedSet.{ascending, put_in}
use Rattle.bdb_base.proofs.SetLemmas.{put_keeps_order}
use Rattle.bdb_model.proofs.levels.Level.add.Goals as goal

after_put : (new ts : List Tuple) (t : Tuple) → new ≡ put_in tuple_cmp ts t → ascending tuple_cmp ts ≡ true → ascending tuple_cmp new ≡ true
after_put new ts t e h = ap (ascending tuple_cmp) e ∙ put_keeps_order tuple_exact ts t h

pub invariant_of-self-in_err-_first-in-Plus : goal.invariant_of-self-in_err-_first-in-Plus
invariant_of-self-in_err-_first-in-Plus c = record {
  plus_ascend = after_put c.put_copy.new.list c.self.inside.plus c.args.x.now.tuple c.in_ok-_added-in-Plus.ensures.ok c.self.invariant.plus_ascend;
  minus_ascend = c.self.invariant.minus_ascend;
  keys_ascend = ap (ascending tuple_cmp) c.in_err-_first-in-Plus.ensures.err ∙ c.self.invariant.keys_ascend;
}

pub invariant_of-self-in-Plus : goal.invariant_of-self-in-Plus
invariant_of-self-in-Plus c = record {
  plus_ascend = after_put c.put_copy.new.list c.self.inside.plus c.args.x.now.tuple c.in_ok-_added-in-Plus.ensures.ok c.self.invariant.plus_ascend;
  minus_ascend = c.self.invariant.minus_ascend;
  keys_ascend = after_put c.put.new.list c.self.inside.keys c.in_ok-key-in-Plus.key c.in_ok-_first-in-Plus.ensures.ok c.self.invariant.keys_ascend;
}

pub invariant_of-self-in-Minus : goal.invariant_of-self-in-Minus
invariant_of-self-in-Minus c = record {
  plus_ascend = c.self.invariant.plus_ascend;
  minus_ascend = after_put c.put_copy-in-Minus.new.list c.self.inside.minus c.args.x.now.tuple c.in_ok-_added-in-Minus.ensures.ok c.self.invariant.minus_ascend;
  keys_ascend = c.self.invariant.keys_ascend;
}
