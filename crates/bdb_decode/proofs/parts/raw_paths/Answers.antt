use Rattle.std.proofs.Common.{sym, subst}
use Rattle.bdb_base.specs.Bases.{is_user}
use Rattle.bdb_tables.specs.Grammar.{InGrammar}
use Rattle.bdb_entries.proofs.ReadLemmas.{none_told, some_told}
use Rattle.bdb_decode.proofs.PartLemmas.{no_paths, paths_known, paths_none, worlds_now}
use Rattle.bdb_decode.proofs.parts.raw_paths.Goals as goal

pub are_states_held-requires-clause-grammar : goal.are_states_held-requires-clause-grammar
are_states_held-requires-clause-grammar g c = subst InGrammar (sym c.in-Ok-Some.ensures.reading.kept) c.requires.grammar

pub are_states_held-requires-clause-worlds : goal.are_states_held-requires-clause-worlds
are_states_held-requires-clause-worlds g c =
    let w = c.in-Ok-Some in
    worlds_now (g.K.Keeper.seen c.args.keeper.now).kept (g.K.Keeper.seen c.raw_worlds.new.keeper).kept w.worlds.items c.deref.result.now w.ensures.reading.kept c.deref.ensures.value
    (some_told _ _ w.field-0 w.worlds w.field-0-is w.ensures.worlds)

pub returns-in-Ok-None-clause-paths : goal.returns-in-Ok-None-clause-paths
returns-in-Ok-None-clause-paths g c =
    no_paths (g.K.Keeper.seen c.args.keeper.now).kept (is_user c.args.users.now) (none_told _ _ c.in-Ok-None.field-0 c.in-Ok-None.field-0-is c.in-Ok-None.ensures.worlds)

pub returns-in-Ok-false-clause-paths : goal.returns-in-Ok-false-clause-paths
returns-in-Ok-false-clause-paths g c =
    let w = c.in-Ok-Some in
    paths_none (g.K.Keeper.seen c.args.keeper.now).kept (g.K.Keeper.seen c.raw_worlds.new.keeper).kept (is_user c.args.users.now) w.worlds.items c.deref.result.now c.in-Ok-false.field-0
    w.ensures.reading.kept c.deref.ensures.value (some_told _ _ w.field-0 w.worlds w.field-0-is w.ensures.worlds) c.in-Ok-false.field-0-test c.in-Ok-false.ensures.held

pub returns-in-Ok-clause-paths : goal.returns-in-Ok-clause-paths
returns-in-Ok-clause-paths g c =
    let w = c.in-Ok-Some in
    paths_known (g.K.Keeper.seen c.args.keeper.now).kept (g.K.Keeper.seen c.raw_worlds.new.keeper).kept (is_user c.args.users.now) w.worlds.items c.deref.result.now c.in-Ok.paths.items c.in-Ok-true.field-0
    w.ensures.reading.kept c.deref.ensures.value (some_told _ _ w.field-0 w.worlds w.field-0-is w.ensures.worlds) c.in-Ok-true.field-0-test c.in-Ok-true.ensures.held c.in-Ok.ensures
