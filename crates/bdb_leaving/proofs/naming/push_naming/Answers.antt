use Rattle.std.proofs.Common.{◌≡◌, ◌∙◌, true, false, refl, sym, ap}
use Rattle.bdb_base.specs.Changes.{names_user}
use Rattle.bdb_leaving.proofs.ReadsLemmas.{reads_said}
use Rattle.bdb_leaving.proofs.WorldLemmas.{appends_none, appends_said}
use Rattle.bdb_leaving.proofs.naming.push_naming.Goals as goal

pub returns-then-not-names_user-clause-appended : goal.returns-then-not-names_user-clause-appended
returns-then-not-names_user-clause-appended g c =
    let other : names_user c.args.uid c.args.world.now.path ≡ false = ap (names_user c.args.uid) (sym c.as_slice-users.ensures.users) ∙ sym c.names_user.ensures ∙ c.if-not-names_user.true in
    appends_none (g.K.Keeper.seen c.args.keeper.now).kept c.args.uid c.args.world.now c.args.stmts.now c.args.stmts.now other refl

pub returns-in-Ok-push_said-clause-appended : goal.returns-in-Ok-push_said-clause-appended
returns-in-Ok-push_said-clause-appended g c =
    let named : names_user c.args.uid c.args.world.now.path ≡ true = ap (names_user c.args.uid) (sym c.as_slice-users.ensures.users) ∙ sym c.names_user.ensures ∙ c.if-not-names_user.false in
    appends_said (g.K.Keeper.seen c.args.keeper.now).kept c.args.uid c.args.world.now c.args.stmts.now c.push_said.new.stmts c.in-Ok.world.held named c.in-Ok.ensures.world c.in-Ok-push_said.ensures

pub returns-in-Ok-push_said-clause-reads : goal.returns-in-Ok-push_said-clause-reads
returns-in-Ok-push_said-clause-reads g c =
    let named : names_user c.args.uid c.args.world.now.path ≡ true = ap (names_user c.args.uid) (sym c.as_slice-users.ensures.users) ∙ sym c.names_user.ensures ∙ c.if-not-names_user.false in
    reads_said c.args.uid c.args.world.now (g.K.Keeper.seen c.args.keeper.now) (g.K.Keeper.seen c.world_at.new.keeper) c.in-Ok.world.held named c.in-Ok.ensures.world c.in-Ok.ensures.reads
