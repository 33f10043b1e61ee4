use Rattle.std.proofs.Common.{◌∷◌, ℕ, None, subst, rules}
use Rattle.bdb_key.specs.Grammar.{IsNum}
use Rattle.bdb_val.specs.Groups.{SettlesGroup, TellsGroup}
use Rattle.bdb_update.specs.Joining.{key_made}
use Rattle.bdb_update.proofs.GrammarLemmas.{stored_is_in_grammar}
use Rattle.bdb_update.proofs.KeyLemmas.{key_in, key_texts}
use Rattle.bdb_update.proofs.PartLemmas.{part_may_be_tuple, parted, parted_rows, parting_tells, row_gone_tuple}
use Rattle.bdb_update.proofs.SpendLemmas.{row_alone, row_then_group}
use Rattle.bdb_update.proofs.parting.part_statement.Goals as goal

pub settle_group-requires-clause-grammar : goal.settle_group-requires-clause-grammar
settle_group-requires-clause-grammar g c =
    c.in-Ok.ensures.grammar (stored_is_in_grammar (g.K.Keeper.seen c.args.keeper.now).kept c.requires.base.base c.requires.base.stored)

pub settle_group-requires-clause-tuples : goal.settle_group-requires-clause-tuples
settle_group-requires-clause-tuples g c =
    let num : IsNum c.args.tid = search rules in
    row_gone_tuple (g.K.Keeper.seen c.args.keeper.now).kept (g.K.Keeper.seen c.take_row.new.keeper).kept c.args.stmt.now c.args.wid c.args.tid c.key_of-key.result.now c.requires.base c.requires.fits num
    c.requires.number c.in-Ok.ensures.fits c.in-Ok.ensures.taken

pub take_row-requires-clause-text : goal.take_row-requires-clause-text
take_row-requires-clause-text g c =
    key_texts c.args.n c.args.stmt.now.tuple c.key_of-key.result.now c.ranges.n.fits c.key_of-key.ensures (part_may_be_tuple c.requires.base.base c.args.stmt.now c.requires.base.may).texts

pub settle_group-requires-clause-text : goal.settle_group-requires-clause-text
settle_group-requires-clause-text g c =
    key_texts c.args.n c.args.stmt.now.tuple c.key_of-key.result.now c.ranges.n.fits c.key_of-key.ensures (part_may_be_tuple c.requires.base.base c.args.stmt.now c.requires.base.may).texts

pub returns-in-Ok-settle_group-clause-parted : goal.returns-in-Ok-settle_group-clause-parted
returns-in-Ok-settle_group-clause-parted g c =
    parted (g.K.Keeper.seen c.args.keeper.now).kept (g.K.Keeper.seen c.take_row.new.keeper).kept (g.K.Keeper.seen c.settle_group.new.keeper).kept c.args.stmt.now c.args.wid c.args.tid
    c.key_of-key.result.now
    (key_in (g.K.Keeper.seen c.args.keeper.now).kept c.args.n c.args.stmt.now.tuple c.key_of-key.result.now c.key_of-key.ensures c.requires.length) c.in-Ok.ensures.taken
    (subst (λ (n : ℕ). SettlesGroup (g.K.Keeper.seen c.take_row.new.keeper).kept (g.K.Keeper.seen c.settle_group.new.keeper).kept c.args.wid n c.key_of-key.result.now) c.rel_of-rel.ensures
    c.in-Ok-settle_group.ensures.settled) (λ n k out. c.in-Ok-settle_group.ensures.others (n ∷ k) out)
    c.requires.world c.requires.fits c.requires.number

pub returns-in-Ok-settle_group-clause-others : goal.returns-in-Ok-settle_group-clause-others
returns-in-Ok-settle_group-clause-others g c =
    row_alone (g.K.Keeper.seen c.args.keeper.now).kept (g.K.Keeper.seen c.take_row.new.keeper).kept (g.K.Keeper.seen c.settle_group.new.keeper).kept
    (key_made c.args.stmt.now c.args.wid c.args.tid c.key_of-key.result.now, None) c.in-Ok.ensures.taken c.in-Ok-settle_group.ensures.others

pub returns-in-Ok-settle_group-clause-rows : goal.returns-in-Ok-settle_group-clause-rows
returns-in-Ok-settle_group-clause-rows g c =
    let mid = g.K.Keeper.seen c.take_row.new.keeper in
    let new = g.K.Keeper.seen c.settle_group.new.keeper in
    parted_rows (g.K.Keeper.seen c.args.keeper.now).kept mid new c.args.stmt.now c.args.wid c.args.tid
    c.key_of-key.result.now c.in-Ok-settle_group.settled
    (key_in (g.K.Keeper.seen c.args.keeper.now).kept c.args.n c.args.stmt.now.tuple c.key_of-key.result.now c.key_of-key.ensures c.requires.length) c.in-Ok.ensures.taken
    (subst (λ (n : ℕ). TellsGroup mid new c.args.wid n c.key_of-key.result.now c.in-Ok-settle_group.settled) c.rel_of-rel.ensures c.in-Ok-settle_group.ensures.tells)
    c.in-Ok-settle_group.ensures.others c.requires.world c.requires.fits c.requires.number

pub returns-in-Ok-settle_group-clause-writes : goal.returns-in-Ok-settle_group-clause-writes
returns-in-Ok-settle_group-clause-writes g c =
    let old = g.K.Keeper.seen c.args.keeper.now in
    let mid = g.K.Keeper.seen c.take_row.new.keeper in
    let new = g.K.Keeper.seen c.settle_group.new.keeper in
    let x = c.args.stmt.now in
    let key = c.key_of-key.result.now in
    let s = c.in-Ok-settle_group.settled in
    let tells = parting_tells old.kept mid new x c.args.wid c.args.tid key s (key_in old.kept c.args.n x.tuple key c.key_of-key.ensures c.requires.length) c.in-Ok.ensures.taken
    (subst (λ (n : ℕ). TellsGroup mid new c.args.wid n key s) c.rel_of-rel.ensures c.in-Ok-settle_group.ensures.tells)
    c.requires.world c.requires.fits c.requires.number c.requires.base.base c.requires.base.stored c.requires.base.may in
    row_then_group old mid new (key_made x c.args.wid c.args.tid key, None) s.put s.taken c.in-Ok.ensures.taken c.in-Ok.ensures.writes c.in-Ok-settle_group.ensures.changing.counts.writes
    c.in-Ok-settle_group.ensures.others tells
