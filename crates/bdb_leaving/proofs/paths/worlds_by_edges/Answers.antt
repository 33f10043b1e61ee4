use Rattle.std.proofs.Common.{sym, subst}
use Rattle.std.specs.List.{AllByRecursion}
use Rattle.bdb_leaving.specs.Paths.{HavePaths, IsDeep}
use Rattle.bdb_leaving.proofs.PathLemmas.{all_reads, ordered_tell, rows_are_deep}
use Rattle.bdb_leaving.proofs.paths.worlds_by_edges.Goals as goal

pub with_paths-requires-clause-rows : goal.with_paths-requires-clause-rows
with_paths-requires-clause-rows g c =
    let kept = (g.K.Keeper.seen c.args.keeper.now).kept in
    subst (λ t. AllByRecursion (IsDeep t) c.deref.result.now) (sym c.in-Ok.ensures.read.kept)
    (subst (AllByRecursion (IsDeep kept)) (sym c.deref.ensures.value) (rows_are_deep kept c.in-Ok.rows.items c.requires.base c.in-Ok.ensures.rows))

pub returns-in-Ok-in_order-clause-worlds : goal.returns-in-Ok-in_order-clause-worlds
returns-in-Ok-in_order-clause-worlds g c =
    let kept = (g.K.Keeper.seen c.args.keeper.now).kept in
    let worlds = c.in-Ok-with_paths.worlds.items in
    let have = subst (λ t. HavePaths t c.in-Ok.rows.items worlds) c.in-Ok.ensures.read.kept (subst (λ rows. HavePaths (g.K.Keeper.seen c.rows_under.new.keeper).kept rows worlds) c.deref.ensures.value c.in-Ok-with_paths.ensures.worlds) in
    ordered_tell kept c.in-Ok.rows.items worlds c.in-Ok-in_order.worlds.items have c.in-Ok-in_order.ensures c.in-Ok.ensures.rows

pub returns-in-Ok-in_order-clause-reads : goal.returns-in-Ok-in_order-clause-reads
returns-in-Ok-in_order-clause-reads g c =
    let kept = (g.K.Keeper.seen c.rows_under.new.keeper).kept in
    let worlds = c.in-Ok-with_paths.worlds.items in
    let have = subst (λ rows. HavePaths kept rows worlds) c.deref.ensures.value c.in-Ok-with_paths.ensures.worlds in
    all_reads kept c.in-Ok.rows.items worlds c.in-Ok-in_order.worlds.items have c.in-Ok-in_order.ensures _ _ _ c.in-Ok.ensures.reads c.in-Ok-with_paths.ensures.reads
