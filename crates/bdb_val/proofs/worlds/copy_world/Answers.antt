use Rattle.std.proofs.Common.{◌∙◌, ◌<◌, ◌^◌, map, refl, sym, subst, rules}
use Rattle.bdb_base.specs.Causes.{Rises}
use Rattle.bdb_base.proofs.ListLemmas.{length_map}
use Rattle.bdb_tables.specs.Copies.{copied}
use Rattle.bdb_val.specs.Reads.{world_prefix}
use Rattle.bdb_val.proofs.CopyLemmas.{copies_world, mapped_keep_tuples}
use Rattle.bdb_val.proofs.CopyTells.{copy_tells}
use Rattle.bdb_val.proofs.OtherLemmas.{made_same}
use Rattle.bdb_val.proofs.worlds.copy_world.Goals as goal

pub returns-in-Ok-clause-copied : goal.returns-in-Ok-clause-copied
returns-in-Ok-clause-copied g c =
    let h = c.in-Ok.ensures.copied in
    copies_world (g.K.Keeper.seen c.args.keeper.now).kept (g.K.Keeper.seen c.copy_rows.new.keeper).kept c.args.from c.args.to h.rows c.ranges.from.fits c.ranges.to.fits h.under h.fits h.made

pub returns-in-Ok-clause-others : goal.returns-in-Ok-clause-others
returns-in-Ok-clause-others g c =
    let h = c.in-Ok.ensures.copied in
    made_same (g.K.Keeper.seen c.args.keeper.now).kept (g.K.Keeper.seen c.copy_rows.new.keeper).kept (map (copied c.args.to) h.rows) h.made

pub returns-in-Ok-clause-counted : goal.returns-in-Ok-clause-counted
returns-in-Ok-clause-counted g c =
    let h = c.in-Ok.ensures.copied in
    record { rows = h.rows; under = h.under; many = h.many }

pub returns-in-Ok-clause-tells : goal.returns-in-Ok-clause-tells
returns-in-Ok-clause-tells g c =
    let h = c.in-Ok.ensures.copied in
    let old = g.K.Keeper.seen c.args.keeper.now in
    let new = g.K.Keeper.seen c.copy_rows.new.keeper in
    let small : c.in-Ok.many < 2 ^ 64 = search rules in
    copy_tells old new c.args.from c.args.to c.in-Ok.many h.rows c.ranges.from.fits c.ranges.to.fits small h.under h.many h.made
    (subst (λ n. Rises n old.writes new.writes) (h.many ∙ sym (length_map (copied c.args.to) h.rows)) c.in-Ok.ensures.writes)

pub returns-in-Ok-clause-tuples : goal.returns-in-Ok-clause-tuples
returns-in-Ok-clause-tuples g c =
    let h = c.in-Ok.ensures.copied in
    mapped_keep_tuples (copied c.args.to) (λ e. refl) (g.K.Keeper.seen c.args.keeper.now).kept (g.K.Keeper.seen c.copy_rows.new.keeper).kept (world_prefix c.args.from) h.rows
    c.requires.tuples h.under h.fits h.made
