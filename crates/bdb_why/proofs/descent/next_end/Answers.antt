use Rattle.std.proofs.Common.{Some, None, refl, sym, subst}
use Rattle.bdb_keep.specs.Tables.{Tables}
use Rattle.bdb_tables.specs.InUse.{link_codec}
use Rattle.bdb_tables.specs.declared.tab.TabError.TheVariants.{Fault}
use Rattle.bdb_tables.proofs.Numbered.{at_old}
use Rattle.bdb_update.proofs.StandingLemmas.{read_refused}
use Rattle.bdb_why.specs.Reading.{SomeHaveState, StandsForDepth}
use Rattle.bdb_why.proofs.LinkLemmas.{link_has_state, link_is_there, link_leads}
use Rattle.bdb_why.proofs.descent.next_end.Goals as goal

pub unreachable-requires : goal.unreachable-requires
unreachable-requires g c =
    let kept = (g.K.Keeper.seen c.args.keeper.now).kept in
    link_is_there kept c.args.wid c.requires.linked
    (at_old link_codec kept kept c.args.wid c.in-Ok-None.field-0 None refl c.in-Ok-None.field-0-is c.in-Ok-None.ensures.found)

pub returns-in-Err-clause-read : goal.returns-in-Err-clause-read
returns-in-Err-clause-read g c = read_refused (g.K.Keeper.seen c.args.keeper.now) (g.K.Keeper.seen c.get.new.keeper) c.in-Err.error Fault c.in-Err.ensures.read

pub depth_of-requires-clause-state : goal.depth_of-requires-clause-state
depth_of-requires-clause-state g c =
    let kept = (g.K.Keeper.seen c.args.keeper.now).kept in
    subst (λ (t : Tables). SomeHaveState t c.in-Ok-Some.next) (sym c.in-Ok-Some.ensures.read.kept)
    (link_has_state kept c.args.wid c.in-Ok-Some.next c.requires.linked
    (at_old link_codec kept kept c.args.wid c.in-Ok-Some.field-0 (Some c.in-Ok-Some.next) refl c.in-Ok-Some.field-0-is c.in-Ok-Some.ensures.found))

pub returns-in-Ok-clause-at : goal.returns-in-Ok-clause-at
returns-in-Ok-clause-at g c =
    let kept = (g.K.Keeper.seen c.args.keeper.now).kept in
    link_leads kept c.args.wid c.in-Ok-Some.next c.in-Ok.depth
    (at_old link_codec kept kept c.args.wid c.in-Ok-Some.field-0 (Some c.in-Ok-Some.next) refl c.in-Ok-Some.field-0-is c.in-Ok-Some.ensures.found)
    (subst (λ (t : Tables). StandsForDepth t c.in-Ok-Some.next c.in-Ok.depth) c.in-Ok-Some.ensures.read.kept c.in-Ok.ensures.depth)
