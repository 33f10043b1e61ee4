use Rattle.std.proofs.Common.{◌∙◌, ◌<◌, ◌^◌, map, refl, sym, subst, rules}
use Rattle.bdb_base.specs.Causes.{Rises}
use Rattle.bdb_base.proofs.ListLemmas.{length_map}
use Rattle.bdb_tables.specs.Copies.{removed}
use Rattle.bdb_val.specs.Reads.{world_prefix}
use Rattle.bdb_val.proofs.CopyLemmas.{clears_world, mapped_keep_tuples}
use Rattle.bdb_val.proofs.CopyTells.{clear_tells}
use Rattle.bdb_val.proofs.OtherLemmas.{made_same}
use Rattle.bdb_val.proofs.worlds.clear_world.Goals as goal

pub returns-in-Ok-clause-cleared : goal.returns-in-Ok-clause-cleared
returns-in-Ok-clause-cleared g c =
    let h = c.in-Ok.ensures.cleared in
    clears_world (g.K.Keeper.seen c.args.keeper.now).kept (g.K.Keeper.seen c.clear_rows.new.keeper).kept c.args.wid h.rows c.ranges.wid.fits h.under h.fits h.made

pub returns-in-Ok-clause-others : goal.returns-in-Ok-clause-others
returns-in-Ok-clause-others g c =
    let h = c.in-Ok.ensures.cleared in
    made_same (g.K.Keeper.seen c.args.keeper.now).kept (g.K.Keeper.seen c.clear_rows.new.keeper).kept (map removed h.rows) h.made

pub returns-in-Ok-clause-counted : goal.returns-in-Ok-clause-counted
returns-in-Ok-clause-counted g c =
    let h = c.in-Ok.ensures.cleared in
    record { rows = h.rows; under = h.under; many = h.many }

pub returns-in-Ok-clause-tells : goal.returns-in-Ok-clause-tells
returns-in-Ok-clause-tells g c =
    let h = c.in-Ok.ensures.cleared in
    let old = g.K.Keeper.seen c.args.keeper.now in
    let new = g.K.Keeper.seen c.clear_rows.new.keeper in
    let small : c.in-Ok.many < 2 ^ 64 = search rules in
    clear_tells old new c.args.wid c.in-Ok.many h.rows c.ranges.wid.fits small h.under h.many h.made
    (subst (λ n. Rises n old.writes new.writes) (h.many ∙ sym (length_map removed h.rows)) c.in-Ok.ensures.writes)

pub returns-in-Ok-clause-tuples : goal.returns-in-Ok-clause-tuples
returns-in-Ok-clause-tuples g c =
    let h = c.in-Ok.ensures.cleared in
    mapped_keep_tuples removed (λ e. refl) (g.K.Keeper.seen c.args.keeper.now).kept (g.K.Keeper.seen c.clear_rows.new.keeper).kept (world_prefix c.args.wid) h.rows
    c.requires.tuples h.under h.fits h.made
