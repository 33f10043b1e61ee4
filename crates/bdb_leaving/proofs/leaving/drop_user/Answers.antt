use Rattle.std.proofs.Common.{List, sym, subst}
use Rattle.bdb_base.specs.declared.kinds.Stmt.{Stmt}
use Rattle.bdb_update.specs.Replacing.{Go, SomeMayGo}
use Rattle.bdb_update.specs.Steps.{GoesThrough}
use Rattle.bdb_update.proofs.StayLemmas.{keeps_then}
use Rattle.bdb_update.specs.Keeping.{KeepsNumbers}
use Rattle.bdb_leaving.proofs.LeavingLemmas.{left_through, some_may_go, some_may_lose, some_valid, user_left}
use Rattle.bdb_leaving.proofs.leaving.drop_user.Goals as goal

pub statements_naming-requires : goal.statements_naming-requires
statements_naming-requires g c = record { base = some_valid (g.K.Keeper.seen c.args.keeper.now).kept c.args.counts.now c.args.uid c.requires.base }

pub drop_statements-requires-clause-base : goal.drop_statements-requires-clause-base
drop_statements-requires-clause-base g c =
    let mid = (g.K.Keeper.seen c.statements_naming.new.keeper).kept in
    subst (λ (xs : List Stmt). SomeMayGo mid c.args.counts.now xs) (sym c.as_slice.ensures)
    (some_may_go (g.K.Keeper.seen c.args.keeper.now).kept mid c.in-Ok.ensures.kept c.args.counts.now c.args.uid c.in-Ok.gone c.in-Ok.ensures.naming c.requires.base)

pub empty_place-requires-clause-base : goal.empty_place-requires-clause-base
empty_place-requires-clause-base g c =
    let mid = (g.K.Keeper.seen c.statements_naming.new.keeper).kept in
    let low = (g.K.Keeper.seen c.drop_statements.new.keeper).kept in
    let went = subst (λ (xs : List Stmt). Go mid low c.args.counts.now c.drop_statements.new.counts xs) c.as_slice.ensures c.in-Ok-drop_statements.ensures.gone in
    some_may_lose (g.K.Keeper.seen c.args.keeper.now).kept mid c.in-Ok.ensures.kept c.args.counts.now c.args.uid c.in-Ok.gone c.in-Ok.ensures.naming low c.drop_statements.new.counts went c.requires.base

pub returns-in-Ok-empty_place-clause-left : goal.returns-in-Ok-empty_place-clause-left
returns-in-Ok-empty_place-clause-left g c =
    let mid = (g.K.Keeper.seen c.statements_naming.new.keeper).kept in
    let low = (g.K.Keeper.seen c.drop_statements.new.keeper).kept in
    let went = subst (λ (xs : List Stmt). Go mid low c.args.counts.now c.drop_statements.new.counts xs) c.as_slice.ensures c.in-Ok-drop_statements.ensures.gone in
    user_left (g.K.Keeper.seen c.args.keeper.now).kept mid c.in-Ok.ensures.kept c.args.counts.now c.args.uid c.in-Ok.gone c.in-Ok.ensures.naming low c.drop_statements.new.counts went
    (g.K.Keeper.seen c.empty_place.new.keeper).kept c.in-Ok-empty_place.ensures.lost

pub returns-in-Ok-empty_place-clause-steps : goal.returns-in-Ok-empty_place-clause-steps
returns-in-Ok-empty_place-clause-steps g c =
    let old = g.K.Keeper.seen c.args.keeper.now in
    let mid = g.K.Keeper.seen c.statements_naming.new.keeper in
    let low = g.K.Keeper.seen c.drop_statements.new.keeper in
    let after = c.drop_statements.new.counts in
    let went = subst (λ (xs : List Stmt). Go mid.kept low.kept c.args.counts.now after xs) c.as_slice.ensures c.in-Ok-drop_statements.ensures.gone in
    let goes = subst (λ (xs : List Stmt). GoesThrough c.args.counts.now xs mid low) c.as_slice.ensures c.in-Ok-drop_statements.ensures.steps in
    left_through old mid low (g.K.Keeper.seen c.empty_place.new.keeper) c.args.counts.now after c.args.uid c.in-Ok.gone c.in-Ok.ensures.kept c.in-Ok.ensures.writes c.in-Ok.ensures.naming went goes c.in-Ok-empty_place.ensures.writes

pub returns-in-Ok-empty_place-clause-keeps : goal.returns-in-Ok-empty_place-clause-keeps
returns-in-Ok-empty_place-clause-keeps g c =
    let low = (g.K.Keeper.seen c.drop_statements.new.keeper).kept in
    keeps_then (g.K.Keeper.seen c.empty_place.new.keeper).kept low (g.K.Keeper.seen c.args.keeper.now).kept c.in-Ok-empty_place.ensures.keeps.back
    (subst (KeepsNumbers low) c.in-Ok.ensures.kept c.in-Ok-drop_statements.ensures.keeps)
