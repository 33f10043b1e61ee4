use Rattle.std.proofs.Common.{◌∷◌, ℕ, Some, true, sym, subst, rules}
use Rattle.bdb_base.specs.Bases.{with_statement}
use Rattle.bdb_key.specs.Grammar.{IsNum}
use Rattle.bdb_tables.specs.declared.tab.TabError.TheVariants.{Fault}
use Rattle.bdb_val.specs.Groups.{SettlesGroup, TellsGroup}
use Rattle.bdb_val.proofs.Calls.{gone_then, gone_changing, changing_ok, changing_err}
use Rattle.bdb_update.specs.Joining.{CountsSettled, key_made}
use Rattle.bdb_update.proofs.CallLemmas.{gone_itself}
use Rattle.bdb_update.proofs.GrammarLemmas.{over_in_grammar}
use Rattle.bdb_update.proofs.KeyLemmas.{key_in, key_texts}
use Rattle.bdb_update.proofs.SettleLemmas.{counts_settle, may_be_tuple, row_has_tuple, settled, settling_tells}
use Rattle.bdb_update.proofs.SpendLemmas.{row_alone, row_then_group}
use Rattle.bdb_update.proofs.joining.settle_statement.Goals as goal

pub put_row-requires-clause-text : goal.put_row-requires-clause-text
put_row-requires-clause-text g c =
    key_texts c.args.n c.args.stmt.now.tuple c.key_of-key.result.now c.ranges.n.fits c.key_of-key.ensures (may_be_tuple c.requires.base.base c.args.stmt.now c.requires.base.may).texts

pub settle_group-requires-clause-grammar : goal.settle_group-requires-clause-grammar
settle_group-requires-clause-grammar g c =
    let n = c.requires.base.number in
    let told = with_statement c.requires.base.base.stmts c.args.stmt.now in
    c.in-Ok.ensures.grammar (over_in_grammar told told n.names n.tuples (g.K.Keeper.seen c.args.keeper.now).kept c.requires.base.base n.stored)

pub settle_group-requires-clause-tuples : goal.settle_group-requires-clause-tuples
settle_group-requires-clause-tuples g c =
    let num : IsNum c.args.tid = search rules in
    let x = c.args.stmt.now in
    let key = c.key_of-key.result.now in
    row_has_tuple (g.K.Keeper.seen c.args.keeper.now).kept (g.K.Keeper.seen c.put_row.new.keeper).kept x c.args.wid c.args.tid key c.requires.base c.requires.fits num
    c.requires.number c.in-Ok.ensures.fits (c.in-Ok.ensures.put)

pub settle_group-requires-clause-text : goal.settle_group-requires-clause-text
settle_group-requires-clause-text g c =
    key_texts c.args.n c.args.stmt.now.tuple c.key_of-key.result.now c.ranges.n.fits c.key_of-key.ensures (may_be_tuple c.requires.base.base c.args.stmt.now c.requires.base.may).texts

pub returns-in-Ok-settle_group-clause-settled : goal.returns-in-Ok-settle_group-clause-settled
returns-in-Ok-settle_group-clause-settled g c =
    let x = c.args.stmt.now in
    let key = c.key_of-key.result.now in
    settled (g.K.Keeper.seen c.args.keeper.now).kept (g.K.Keeper.seen c.put_row.new.keeper).kept (g.K.Keeper.seen c.settle_group.new.keeper).kept x c.args.wid c.args.tid
    key (key_in (g.K.Keeper.seen c.args.keeper.now).kept c.args.n x.tuple key c.key_of-key.ensures c.requires.length) c.in-Ok.ensures.put
    (subst (λ (n : ℕ). SettlesGroup (g.K.Keeper.seen c.put_row.new.keeper).kept (g.K.Keeper.seen c.settle_group.new.keeper).kept c.args.wid n key) c.rel_of-rel.ensures
    c.in-Ok-settle_group.ensures.settled) (λ n k out. c.in-Ok-settle_group.ensures.others (n ∷ k) out)
    c.requires.world c.requires.fits c.requires.number

pub returns-in-Ok-settle_group-clause-counted : goal.returns-in-Ok-settle_group-clause-counted
returns-in-Ok-settle_group-clause-counted g c =
    let t = (g.K.Keeper.seen c.args.keeper.now).kept in
    let mid = g.K.Keeper.seen c.put_row.new.keeper in
    let new = g.K.Keeper.seen c.settle_group.new.keeper in
    let x = c.args.stmt.now in
    let key = c.key_of-key.result.now in
    let counts = counts_settle t mid new x c.args.wid c.args.tid key c.in-Ok.stood c.in-Ok-settle_group.settled
    (key_in t c.args.n x.tuple key c.key_of-key.ensures c.requires.length) c.in-Ok.ensures.put c.in-Ok.ensures.found
    (subst (λ (n : ℕ). SettlesGroup mid.kept new.kept c.args.wid n key) c.rel_of-rel.ensures c.in-Ok-settle_group.ensures.settled)
    (subst (λ (n : ℕ). TellsGroup mid new c.args.wid n key c.in-Ok-settle_group.settled) c.rel_of-rel.ensures c.in-Ok-settle_group.ensures.tells)
    c.in-Ok-settle_group.ensures.others c.requires.world c.requires.fits c.requires.number in
    subst (CountsSettled t new.kept x c.with_row.result.put) (sym c.with_row.ensures.taken) (counts c.with_row.result.put c.with_row.ensures.put)

pub returns-in-Ok-settle_group-clause-changing : goal.returns-in-Ok-settle_group-clause-changing
returns-in-Ok-settle_group-clause-changing g c =
    let old = g.K.Keeper.seen c.args.keeper.now in
    let mid = g.K.Keeper.seen c.put_row.new.keeper in
    let new = g.K.Keeper.seen c.settle_group.new.keeper in
    changing_ok old new _ Fault (gone_then old mid new (gone_changing old mid c.in-Ok.stood Fault c.in-Ok.ensures.changing)
    (gone_changing mid new c.in-Ok-settle_group.settled Fault c.in-Ok-settle_group.ensures.changing))

pub returns-in-Err-settle_group-clause-changing : goal.returns-in-Err-settle_group-clause-changing
returns-in-Err-settle_group-clause-changing g c =
    let old = g.K.Keeper.seen c.args.keeper.now in
    let mid = g.K.Keeper.seen c.put_row.new.keeper in
    changing_err old mid (g.K.Keeper.seen c.settle_group.new.keeper) c.in-Err-settle_group.error Fault
    (gone_changing old mid c.in-Ok.stood Fault c.in-Ok.ensures.changing) c.in-Err-settle_group.ensures.changing

pub returns-in-Ok-settle_group-clause-writes : goal.returns-in-Ok-settle_group-clause-writes
returns-in-Ok-settle_group-clause-writes g c =
    let old = g.K.Keeper.seen c.args.keeper.now in
    let mid = g.K.Keeper.seen c.put_row.new.keeper in
    let new = g.K.Keeper.seen c.settle_group.new.keeper in
    let x = c.args.stmt.now in
    let key = c.key_of-key.result.now in
    let s = c.in-Ok-settle_group.settled in
    let made = c.in-Ok.ensures.put in
    let tells = settling_tells old.kept mid new x c.args.wid c.args.tid key s (key_in old.kept c.args.n x.tuple key c.key_of-key.ensures c.requires.length) made
    (subst (λ (n : ℕ). TellsGroup mid new c.args.wid n key s) c.rel_of-rel.ensures c.in-Ok-settle_group.ensures.tells)
    c.requires.world c.requires.fits c.requires.number c.requires.base.base c.requires.base.number c.requires.base.may in
    row_then_group old mid new (key_made x c.args.wid c.args.tid key, Some (x.sign, true)) s.put s.taken made
    c.in-Ok.ensures.writes c.in-Ok-settle_group.ensures.changing.counts.writes c.in-Ok-settle_group.ensures.others tells

pub returns-in-Ok-settle_group-clause-others : goal.returns-in-Ok-settle_group-clause-others
returns-in-Ok-settle_group-clause-others g c =
    let x = c.args.stmt.now in
    let key = c.key_of-key.result.now in
    row_alone (g.K.Keeper.seen c.args.keeper.now).kept (g.K.Keeper.seen c.put_row.new.keeper).kept (g.K.Keeper.seen c.settle_group.new.keeper).kept (key_made x c.args.wid c.args.tid key, Some (x.sign, true))
    (c.in-Ok.ensures.put) c.in-Ok-settle_group.ensures.others

pub returns-in-Err-clause-changing : goal.returns-in-Err-clause-changing
returns-in-Err-clause-changing g c =
    let old = g.K.Keeper.seen c.args.keeper.now in
    changing_err old old (g.K.Keeper.seen c.put_row.new.keeper) c.in-Err.error Fault (gone_itself old) c.in-Err.ensures.changing
