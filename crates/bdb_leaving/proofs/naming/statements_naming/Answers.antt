use Rattle.std.proofs.Common.{sym, subst}
use Rattle.bdb_base.specs.Changes.{statements_naming}
use Rattle.bdb_tables.specs.Grammar.{InGrammar}
use Rattle.bdb_val.specs.Reads.{HaveTuples}
use Rattle.bdb_catalog.specs.Opening.{IsPartOf}
use Rattle.bdb_catalog.proofs.OpeningLemmas.{some_grammar}
use Rattle.bdb_stored.specs.Worlds.{TellsStates}
use Rattle.bdb_stored.proofs.CountingLemmas.{valid_has_tuples}
use Rattle.bdb_leaving.proofs.ReadsLemmas.{reads_together}
use Rattle.bdb_leaving.proofs.naming.statements_naming.Goals as goal

pub read_naming-requires-clause-grammar : goal.read_naming-requires-clause-grammar
read_naming-requires-clause-grammar g c =
    subst InGrammar (sym c.in-Ok.ensures.read.kept) (some_grammar (g.K.Keeper.seen c.args.keeper.now).kept c.requires.base)

pub read_naming-requires-clause-tuples : goal.read_naming-requires-clause-tuples
read_naming-requires-clause-tuples g c =
    subst HaveTuples (sym c.in-Ok.ensures.read.kept) (valid_has_tuples (g.K.Keeper.seen c.args.keeper.now).kept c.requires.base)

pub read_naming-requires-clause-worlds : goal.read_naming-requires-clause-worlds
read_naming-requires-clause-worlds g c =
    subst (TellsStates (g.K.Keeper.seen c.worlds_by_edges.new.keeper).kept) (sym c.deref.ensures.value)
    (subst (λ t. TellsStates t c.in-Ok.worlds.items) (sym c.in-Ok.ensures.read.kept) c.in-Ok.ensures.worlds)

pub returns-in-Ok-read_naming-clause-naming : goal.returns-in-Ok-read_naming-clause-naming
returns-in-Ok-read_naming-clause-naming g c =
    subst (λ t. IsPartOf (λ b. statements_naming c.args.uid b.stmts) t c.in-Ok-read_naming.stmts) c.in-Ok.ensures.read.kept c.in-Ok-read_naming.ensures.naming

pub returns-in-Ok-read_naming-clause-reads : goal.returns-in-Ok-read_naming-clause-reads
returns-in-Ok-read_naming-clause-reads g c =
    reads_together c.args.uid (g.K.Keeper.seen c.args.keeper.now) (g.K.Keeper.seen c.worlds_by_edges.new.keeper) (g.K.Keeper.seen c.read_naming.new.keeper) c.in-Ok.worlds.items
    c.in-Ok.ensures.worlds c.in-Ok.ensures.reads c.in-Ok.ensures.read.kept c.in-Ok-read_naming.ensures.reads
