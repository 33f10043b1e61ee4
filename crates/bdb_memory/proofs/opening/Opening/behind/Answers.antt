use Rattle.std.proofs.Common.{◌∙◌, ap}
use Rattle.std.specs.Ordering.{is_le}
use Rattle.bdb_memory.proofs.OpeningLemmas.{told_behind, told_none}
use Rattle.bdb_memory.proofs.opening.Opening.behind.Goals as goal

pub returns-then-is_le : goal.returns-then-is_le
returns-then-is_le c place i le =
    told_behind c.args.self.now c.self.inside.prefix.now place c.from_index.result.now c.args.head.now c.self.inside.last c.is_le.result c.self.view_is c.self.invariant (c.is_le.ensures ∙ ap is_le c.compare.ensures) c.if-is_le.true c.from_index.ensures i le

pub returns : goal.returns
returns c place i le =
    told_none c.args.self.now c.self.inside.prefix.now place c.args.head.now c.self.inside.last c.is_le.result c.self.view_is c.self.invariant (c.is_le.ensures ∙ ap is_le c.compare.ensures) c.if-is_le.false i le
