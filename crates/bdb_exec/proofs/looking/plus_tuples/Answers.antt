use Rattle.std.proofs.Common.{◌≡◌, ◌∙◌, ◌+◌, ◌*◌, ◌≤◌, ap, sym, subst, length, rules}
use Rattle.bdb_plan.specs.Running.{plus_tuples}
use Rattle.bdb_exec.specs.Rows.{relation_prefix}
use Rattle.bdb_exec.specs.Seen.{signed_under}
use Rattle.bdb_exec.proofs.DenyLemmas.{rows_of}
use Rattle.bdb_exec.proofs.looking.plus_tuples.Goals as goal

pub returns-in-Ok-clause-tuples : goal.returns-in-Ok-clause-tuples
returns-in-Ok-clause-tuples g c =
    let t = (g.K.Keeper.seen c.args.keeper.now).kept in
    let given : c.in-Ok.tuples ≡ plus_tuples (signed_under t (relation_prefix c.args.world c.args.rel)) = search rules in
    given ∙ ap plus_tuples (sym (rows_of t c.requires.run c.args.world c.args.rel c.ranges.world.fits c.ranges.rel.fits))

pub returns-in-Ok-clause-reads : goal.returns-in-Ok-clause-reads
returns-in-Ok-clause-reads g c =
    let t = (g.K.Keeper.seen c.args.keeper.now).kept in
    let new = (g.K.Keeper.seen c.plus_under.new.keeper).reads in
    let old = (g.K.Keeper.seen c.args.keeper.now).reads in
    let prefix : c.as_slice.result.now ≡ relation_prefix c.args.world c.args.rel = search rules in
    subst (λ r. new ≤ old + (2 * length r + 1)) (ap (signed_under t) prefix ∙ sym (rows_of t c.requires.run c.args.world c.args.rel c.ranges.world.fits c.ranges.rel.fits)) c.in-Ok.ensures.reads
