use Rattle.std.proofs.Common.{sym, subst, ◌≤◌, ◌∙◌, length, ap}
use Rattle.bdb_base.specs.Limits.{most_users}
use Rattle.bdb_tables.specs.Grammar.{InGrammar}
use Rattle.bdb_entries.proofs.ReadLemmas.{none_told, past, some_told}
use Rattle.bdb_decode.specs.Parts.{StoreNone}
use Rattle.bdb_decode.proofs.PartLemmas.{few_users, no_catalog, no_states_now, no_tuples_now, parts_now}
use Rattle.bdb_decode.proofs.parts.raw_parts.Goals as goal

pub raw_paths-requires-clause-grammar : goal.raw_paths-requires-clause-grammar
raw_paths-requires-clause-grammar g c = subst InGrammar (sym (c.in-Ok-true.ensures.reading.kept ∙ c.in-Ok-Some-raw_tuples.ensures.reading.kept ∙ c.in-Ok-Some.ensures.read.kept)) c.requires.grammar

pub raw_paths-requires-clause-users : goal.raw_paths-requires-clause-users
raw_paths-requires-clause-users g c =
    let w = c.in-Ok-Some in
    subst (λ n. n ≤ most_users) (ap length (sym c.as_slice.ensures)) (few_users (g.K.Keeper.seen c.args.keeper.now).kept w.catalog (some_told _ _ w.field-0 w.catalog w.field-0-is w.ensures.catalog))

pub returns-in-Ok-None-clause-parts : goal.returns-in-Ok-None-clause-parts
returns-in-Ok-None-clause-parts g c =
    no_catalog (g.K.Keeper.seen c.args.keeper.now).kept (none_told _ _ c.in-Ok-None.field-0 c.in-Ok-None.field-0-is c.in-Ok-None.ensures.catalog)

pub returns-in-Ok-None-raw_tuples-clause-parts : goal.returns-in-Ok-None-raw_tuples-clause-parts
returns-in-Ok-None-raw_tuples-clause-parts g c =
    let r = c.in-Ok-None-raw_tuples in
    no_tuples_now (g.K.Keeper.seen c.args.keeper.now).kept (g.K.Keeper.seen c.raw_catalog.new.keeper).kept c.in-Ok-Some.ensures.read.kept (none_told _ _ r.field-0 r.field-0-is r.ensures.tuples)

pub returns-in-Ok-false-clause-parts : goal.returns-in-Ok-false-clause-parts
returns-in-Ok-false-clause-parts g c =
    let r = c.in-Ok-false in
    subst StoreNone (c.in-Ok-Some-raw_tuples.ensures.reading.kept ∙ c.in-Ok-Some.ensures.read.kept) (past _ _ r.field-0 r.field-0-test r.ensures.within)

pub returns-in-Ok-None-raw_paths-clause-parts : goal.returns-in-Ok-None-raw_paths-clause-parts
returns-in-Ok-None-raw_paths-clause-parts g c =
    let w = c.in-Ok-Some in
    let r = c.in-Ok-None-raw_paths in
    no_states_now (g.K.Keeper.seen c.args.keeper.now).kept (g.K.Keeper.seen c.worlds_are_within_limits.new.keeper).kept w.catalog c.as_slice.result.now
    (c.in-Ok-true.ensures.reading.kept ∙ c.in-Ok-Some-raw_tuples.ensures.reading.kept ∙ w.ensures.read.kept) c.as_slice.ensures (some_told _ _ w.field-0 w.catalog w.field-0-is w.ensures.catalog) (none_told _ _ r.field-0 r.field-0-is r.ensures.paths)

pub returns-clause-parts : goal.returns-clause-parts
returns-clause-parts g c =
    let w = c.in-Ok-Some in
    let u = c.in-Ok-Some-raw_tuples in
    let r = c.in-Ok-Some-raw_paths in
    parts_now (g.K.Keeper.seen c.args.keeper.now).kept (g.K.Keeper.seen c.raw_catalog.new.keeper).kept (g.K.Keeper.seen c.worlds_are_within_limits.new.keeper).kept w.catalog c.as_slice.result.now r.paths.items
    u.tuples.items w.ensures.read.kept (c.in-Ok-true.ensures.reading.kept ∙ u.ensures.reading.kept ∙ w.ensures.read.kept) c.as_slice.ensures (some_told _ _ w.field-0 w.catalog w.field-0-is w.ensures.catalog)
    (some_told _ _ r.field-0 r.paths r.field-0-is r.ensures.paths) (some_told _ _ u.field-0 u.tuples u.field-0-is u.ensures.tuples)
