use Rattle.std.proofs.Common.{sym, subst}
use Rattle.bdb_base.specs.Causes.{Rises}
use Rattle.bdb_tables.specs.Grammar.{InGrammar}
use Rattle.bdb_tables.proofs.Held.{edges_fit}
use Rattle.bdb_worlds.proofs.UserDropLemmas.{edge_absent, edge_present, rises_one}
use Rattle.bdb_worlds.proofs.users.drop_user_edge.Goals as goal

pub get_in-requires-clause-grammar : goal.get_in-requires-clause-grammar
get_in-requires-clause-grammar g c = edges_fit _ c.requires.grammar

pub returns-in-Ok-None-clause-dropped : goal.returns-in-Ok-None-clause-dropped
returns-in-Ok-None-clause-dropped g c =
    edge_absent (g.K.Keeper.seen c.args.keeper.now) (g.K.Keeper.seen c.get_in.new.keeper) (c.args.wid, c.args.uid) c.in-Ok-None.field-0 c.in-Ok-None.field-0-is
    c.in-Ok-None.ensures.read.kept c.in-Ok-None.ensures.read.writes c.in-Ok-None.ensures.found

pub returns-in-Ok-None-clause-grammar : goal.returns-in-Ok-None-clause-grammar
returns-in-Ok-None-clause-grammar g c = subst InGrammar (sym c.in-Ok-None.ensures.read.kept) c.requires.grammar

pub returns-in-Ok-None-clause-reads : goal.returns-in-Ok-None-clause-reads
returns-in-Ok-None-clause-reads g c = rises_one _ _ c.in-Ok-None.ensures.reads

pub returns-in-Ok-clause-dropped : goal.returns-in-Ok-clause-dropped
returns-in-Ok-clause-dropped g c =
    edge_present (g.K.Keeper.seen c.args.keeper.now) (g.K.Keeper.seen c.get_in.new.keeper) (g.K.Keeper.seen c.drop_edge.new.keeper) (c.args.wid, c.args.uid) c.in-Ok-Some.field-0 c.in-Ok-Some.target c.in-Ok-Some.field-0-is
    c.in-Ok-Some.ensures.read.kept c.in-Ok-Some.ensures.read.writes c.in-Ok-Some.ensures.found c.in-Ok.ensures.kept c.in-Ok.ensures.writes

pub returns-in-Ok-clause-grammar : goal.returns-in-Ok-clause-grammar
returns-in-Ok-clause-grammar g c = c.in-Ok.ensures.grammar (subst InGrammar (sym c.in-Ok-Some.ensures.read.kept) c.requires.grammar)

pub returns-in-Ok-clause-reads : goal.returns-in-Ok-clause-reads
returns-in-Ok-clause-reads g c =
    subst (λ n. Rises 1 (g.K.Keeper.seen c.args.keeper.now).reads n) (sym c.in-Ok.ensures.reads) (rises_one _ _ c.in-Ok-Some.ensures.reads)
