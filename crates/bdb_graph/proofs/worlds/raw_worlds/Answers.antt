use Rattle.bdb_entries.proofs.ReadLemmas.{none_told, some_told}
use Rattle.bdb_graph.proofs.WorldLemmas.{led_ascend, led_no_names, worlds_known}
use Rattle.bdb_graph.proofs.worlds.raw_worlds.Goals as goal

pub named_ups-requires : goal.named_ups-requires
named_ups-requires g c =
    let w = c.in-Ok-Some in
    led_ascend (g.K.Keeper.seen c.args.keeper.now).kept w.ups.items c.deref.result.now (some_told _ _ w.field-0 w.ups w.field-0-is w.ensures.ups) c.deref.ensures.value

pub returns-in-Ok-Some-named_ups-clause-worlds : goal.returns-in-Ok-Some-named_ups-clause-worlds
returns-in-Ok-Some-named_ups-clause-worlds g c =
    let w = c.in-Ok-Some in
    let r = c.in-Ok-Some-named_ups in
    worlds_known (g.K.Keeper.seen c.args.keeper.now).kept w.ups.items c.deref.result.now (some_told _ _ w.field-0 w.ups w.field-0-is w.ensures.ups) c.deref.ensures.value
    r.worlds.items (some_told _ _ r.field-0 r.worlds r.field-0-is r.ensures)

pub returns-in-Ok-None-named_ups-clause-worlds : goal.returns-in-Ok-None-named_ups-clause-worlds
returns-in-Ok-None-named_ups-clause-worlds g c =
    let w = c.in-Ok-Some in
    let r = c.in-Ok-None-named_ups in
    led_no_names (g.K.Keeper.seen c.args.keeper.now).kept w.ups.items c.deref.result.now (some_told _ _ w.field-0 w.ups w.field-0-is w.ensures.ups) c.deref.ensures.value
    (none_told _ _ r.field-0 r.field-0-is r.ensures)
