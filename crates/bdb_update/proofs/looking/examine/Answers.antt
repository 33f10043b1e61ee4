use Rattle.std.proofs.Common.{sym, subst}
use Rattle.bdb_tables.specs.declared.tab.TabError.TheVariants.{Fault}
use Rattle.bdb_update.specs.Examining.{Examines}
use Rattle.bdb_update.proofs.CallLemmas.{quiet_itself, quiet_read, read_ok, read_err}
use Rattle.bdb_update.proofs.ExamineLemmas.{examined, may_look}
use Rattle.bdb_update.proofs.QuietLemmas.{read_undone}
use Rattle.bdb_update.proofs.looking.examine.Goals as goal

pub look-requires-clause-grammar : goal.look-requires-clause-grammar
look-requires-clause-grammar g c = (may_look (g.K.Keeper.seen c.args.keeper.now).kept c.args.counts.now c.args.stmt.now c.requires.base).grammar

pub look-requires-clause-tuples : goal.look-requires-clause-tuples
look-requires-clause-tuples g c = (may_look (g.K.Keeper.seen c.args.keeper.now).kept c.args.counts.now c.args.stmt.now c.requires.base).tuples

pub look-requires-clause-states : goal.look-requires-clause-states
look-requires-clause-states g c = (may_look (g.K.Keeper.seen c.args.keeper.now).kept c.args.counts.now c.args.stmt.now c.requires.base).states

pub look-requires-clause-apart : goal.look-requires-clause-apart
look-requires-clause-apart g c = (may_look (g.K.Keeper.seen c.args.keeper.now).kept c.args.counts.now c.args.stmt.now c.requires.base).apart

pub look-requires-clause-tuple : goal.look-requires-clause-tuple
look-requires-clause-tuple g c = (may_look (g.K.Keeper.seen c.args.keeper.now).kept c.args.counts.now c.args.stmt.now c.requires.base).tuple

pub returns-in-Err-clause-read : goal.returns-in-Err-clause-read
returns-in-Err-clause-read g c =
    let old = g.K.Keeper.seen c.args.keeper.now in
    read_err old old (g.K.Keeper.seen c.look.new.keeper) c.in-Err.error Fault c.requires.running (quiet_itself old) c.in-Err.ensures.read

pub returns-in-Ok-judge-clause-examined : goal.returns-in-Ok-judge-clause-examined
returns-in-Ok-judge-clause-examined g c =
    let t = (g.K.Keeper.seen c.args.keeper.now).kept in
    subst (Examines t c.args.counts.now c.args.stmt.now) (sym c.in-Ok-judge.ensures) (examined t c.args.counts.now c.args.stmt.now c.in-Ok.finding c.in-Ok.ensures.finding)

pub returns-in-Ok-judge-clause-read : goal.returns-in-Ok-judge-clause-read
returns-in-Ok-judge-clause-read g c =
    let old = g.K.Keeper.seen c.args.keeper.now in
    let new = g.K.Keeper.seen c.look.new.keeper in
    read_ok old new c.in-Ok-judge.verdict Fault c.requires.running (quiet_read old new c.in-Ok.finding Fault c.in-Ok.ensures.read)

pub returns-clause-read : goal.returns-clause-read
returns-clause-read g c =
    let old = g.K.Keeper.seen c.args.keeper.now in
    let mid = g.K.Keeper.seen c.look.new.keeper in
    read_undone old mid (g.K.Keeper.seen c.undo.new.self) c.requires.running (quiet_read old mid c.in-Ok.finding Fault c.in-Ok.ensures.read) c.undo.ensures.undone
