use Rattle.std.proofs.Common.{◌≡◌, ◌∙◌, List, true, false, sym, subst}
use Rattle.bdb_base.specs.declared.kinds.Stmt.{Stmt}
use Rattle.bdb_keep.specs.Tables.{Tables}
use Rattle.bdb_tables.specs.Grammar.{InGrammar}
use Rattle.bdb_tables.specs.Lengths.{HaveKeyLengths}
use Rattle.bdb_tables.specs.declared.tab.TabError.TheVariants.{Fault}
use Rattle.bdb_update.specs.Holding.{AreOfOnePath}
use Rattle.bdb_update.specs.Weighing.{TellsRoom}
use Rattle.bdb_update.proofs.CallLemmas.{looks_err, quiet_read}
use Rattle.bdb_update.proofs.GrammarLemmas.{stored_is_in_grammar}
use Rattle.bdb_update.proofs.KeyLemmas.{relations_tell}
use Rattle.bdb_update.proofs.WeighLemmas.{some_state, reached_stand, gone_tuples, come_tuples, weighs_clash, weighs_room, weighs_none}
use Rattle.bdb_update.proofs.weighing.weigh.Goals as goal

pub read_statements-requires-clause-base : goal.read_statements-requires-clause-base
read_statements-requires-clause-base g c = some_state (g.K.Keeper.seen c.args.keeper.now).kept c.args.counts.now c.args.path.now c.args.gone.now c.args.come.now c.requires.base

pub stored_relations-requires : goal.stored_relations-requires
stored_relations-requires g c = record {
  grammar = subst InGrammar (sym c.in-Ok.ensures.read.kept) (stored_is_in_grammar (g.K.Keeper.seen c.args.keeper.now).kept c.requires.base.base c.requires.base.may.may.base.stored);
}

pub returns-in-Some-clause-weighed : goal.returns-in-Some-clause-weighed
returns-in-Some-clause-weighed g c =
    let rels = c.in-Ok-stored_relations.rels in
    weighs_clash (g.K.Keeper.seen c.args.keeper.now).kept c.args.counts.now c.args.path.now c.args.gone.now c.args.come.now c.in-Ok.stmts c.in-Ok-reach.reached.0 rels c.in-Some.least
    (subst (λ (t : Tables). HaveKeyLengths t rels) c.in-Ok.ensures.read.kept (relations_tell (g.K.Keeper.seen c.read_statements.new.keeper).kept rels c.in-Ok-stored_relations.ensures.relations)) c.in-Ok.ensures.found c.in-Ok-reach.ensures.reached (sym c.in-Some.is ∙ c.in-Ok-reach.ensures.least)

pub tell_room-requires-clause-grammar : goal.tell_room-requires-clause-grammar
tell_room-requires-clause-grammar g c =
    subst InGrammar (sym (c.in-Ok-stored_relations.ensures.looks.kept ∙ c.in-Ok.ensures.read.kept)) (stored_is_in_grammar (g.K.Keeper.seen c.args.keeper.now).kept c.requires.base.base c.requires.base.may.may.base.stored)

pub tell_room-requires-clause-reached : goal.tell_room-requires-clause-reached
tell_room-requires-clause-reached g c =
    subst AreOfOnePath (sym c.as_slice.ensures)
    (reached_stand (g.K.Keeper.seen c.args.keeper.now).kept c.args.counts.now c.args.path.now c.args.gone.now c.args.come.now c.in-Ok.stmts c.in-Ok-reach.reached.0
    c.requires.base c.in-Ok.ensures.found c.in-Ok-reach.ensures.reached)

pub tell_room-requires-clause-gone : goal.tell_room-requires-clause-gone
tell_room-requires-clause-gone g c = gone_tuples (g.K.Keeper.seen c.args.keeper.now).kept c.args.counts.now c.args.path.now c.args.gone.now c.args.come.now c.requires.base

pub tell_room-requires-clause-come : goal.tell_room-requires-clause-come
tell_room-requires-clause-come g c = come_tuples (g.K.Keeper.seen c.args.keeper.now).kept c.args.counts.now c.args.path.now c.args.gone.now c.args.come.now c.requires.base

pub returns-in-Ok-true-clause-weighed : goal.returns-in-Ok-true-clause-weighed
returns-in-Ok-true-clause-weighed g c =
    let t = (g.K.Keeper.seen c.args.keeper.now).kept in
    let u = (g.K.Keeper.seen c.stored_relations.new.keeper).kept in
    let same : u ≡ t = c.in-Ok-stored_relations.ensures.looks.kept ∙ c.in-Ok.ensures.read.kept in
    let rels = c.in-Ok-stored_relations.rels in
    weighs_room t u c.args.counts.now c.args.path.now c.args.gone.now c.args.come.now c.in-Ok.stmts c.in-Ok-reach.reached.0 rels
    (subst (λ (v : Tables). HaveKeyLengths v rels) c.in-Ok.ensures.read.kept (relations_tell (g.K.Keeper.seen c.read_statements.new.keeper).kept rels c.in-Ok-stored_relations.ensures.relations)) c.in-Ok.ensures.found c.in-Ok-reach.ensures.reached same (sym c.in_default.is ∙ c.in-Ok-reach.ensures.least)
    (subst (λ (xs : List Stmt). TellsRoom u c.args.counts.now.tuples xs c.args.gone.now c.args.come.now true) c.as_slice.ensures
    (subst (TellsRoom u c.args.counts.now.tuples c.as_slice.result.now c.args.gone.now c.args.come.now) c.in-Ok-true.field-0-test c.in-Ok-true.ensures.room))

pub returns-in-Ok-false-clause-weighed : goal.returns-in-Ok-false-clause-weighed
returns-in-Ok-false-clause-weighed g c =
    let t = (g.K.Keeper.seen c.args.keeper.now).kept in
    let u = (g.K.Keeper.seen c.stored_relations.new.keeper).kept in
    let same : u ≡ t = c.in-Ok-stored_relations.ensures.looks.kept ∙ c.in-Ok.ensures.read.kept in
    let rels = c.in-Ok-stored_relations.rels in
    weighs_none t u c.args.counts.now c.args.path.now c.args.gone.now c.args.come.now c.in-Ok.stmts c.in-Ok-reach.reached.0 rels
    (subst (λ (v : Tables). HaveKeyLengths v rels) c.in-Ok.ensures.read.kept (relations_tell (g.K.Keeper.seen c.read_statements.new.keeper).kept rels c.in-Ok-stored_relations.ensures.relations)) c.in-Ok.ensures.found c.in-Ok-reach.ensures.reached same (sym c.in_default.is ∙ c.in-Ok-reach.ensures.least)
    (subst (λ (xs : List Stmt). TellsRoom u c.args.counts.now.tuples xs c.args.gone.now c.args.come.now false) c.as_slice.ensures
    (subst (TellsRoom u c.args.counts.now.tuples c.as_slice.result.now c.args.gone.now c.args.come.now) c.in-Ok-false.field-0-test c.in-Ok-false.ensures.room))

pub returns-in-Err-stored_relations-clause-read : goal.returns-in-Err-stored_relations-clause-read
returns-in-Err-stored_relations-clause-read g c =
    let old = g.K.Keeper.seen c.args.keeper.now in
    let a = g.K.Keeper.seen c.read_statements.new.keeper in
    looks_err old a (g.K.Keeper.seen c.stored_relations.new.keeper) c.in-Err-stored_relations.error Fault c.requires.running
    (quiet_read old a c.in-Ok.stmts Fault c.in-Ok.ensures.read) c.in-Err-stored_relations.ensures.looks
