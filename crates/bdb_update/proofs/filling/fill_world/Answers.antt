use Rattle.std.proofs.Common.{◌∙◌, ap, sym, subst, arith}
use Rattle.std.specs.FinMap as tables
use Rattle.bdb_keep.specs.Tables.{Tables}
use Rattle.bdb_val.specs.WorldCopies.{CopiesWorld, IsBareWorld}
use Rattle.bdb_val.proofs.WalkingLemmas.{told_back}
use Rattle.bdb_update.proofs.filling.fill_world.Goals as goal

pub returns-in-Ok-copy_world-clause-filled : goal.returns-in-Ok-copy_world-clause-filled
returns-in-Ok-copy_world-clause-filled g c = record {
  link = c.in-Ok.link;
  linked = c.in-Ok.ensures.link;
  copied = subst (λ (t : Tables). CopiesWorld t (g.K.Keeper.seen c.copy_world.new.keeper).kept c.in-Ok.link c.args.wid) c.in-Ok.ensures.read.kept c.in-Ok-copy_world.ensures.copied;
}

pub returns-in-Ok-copy_world-clause-tells : goal.returns-in-Ok-copy_world-clause-tells
returns-in-Ok-copy_world-clause-tells g c =
    let old = g.K.Keeper.seen c.args.keeper.now in
    let mid = g.K.Keeper.seen c.linked_to.new.keeper in
    let new = g.K.Keeper.seen c.copy_world.new.keeper in
    λ bare. told_back old mid new c.in-Ok-copy_world.count 0 c.in-Ok.ensures.read.kept c.in-Ok.ensures.read.writes
    (c.in-Ok-copy_world.ensures.tells (subst (λ (t : Tables). IsBareWorld t c.args.wid) (sym c.in-Ok.ensures.read.kept) bare))

pub returns-in-Ok-copy_world-clause-others : goal.returns-in-Ok-copy_world-clause-others
returns-in-Ok-copy_world-clause-others g c = λ q out. c.in-Ok-copy_world.ensures.others q out ∙ ap (λ (t : Tables). tables.get t q) c.in-Ok.ensures.read.kept

pub returns-in-Ok-copy_world-clause-writes : goal.returns-in-Ok-copy_world-clause-writes
returns-in-Ok-copy_world-clause-writes g c = λ small.
    let a = c.in-Ok-copy_world.ensures.writes small in
    let b = c.in-Ok.ensures.read.writes in
    omega arith
