use Rattle.std.proofs.Common.{◌∙◌, ap, subst, rules, arith}
use Rattle.bdb_base.specs.Bases.{with_statement}
use Rattle.bdb_keep.specs.Tables.{Tables}
use Rattle.bdb_key.specs.Grammar.{IsNum}
use Rattle.bdb_tables.specs.Codec.{HasAt}
use Rattle.bdb_tables.specs.InUse.{tuple_ix_codec}
use Rattle.bdb_update.specs.Numbering.{number_put}
use Rattle.bdb_update.proofs.GrammarLemmas.{over_in_grammar}
use Rattle.bdb_update.proofs.LeastNumbers.{takes_none, takes_number}
use Rattle.bdb_update.proofs.SettleLemmas.{may_be_tuple}
use Rattle.bdb_update.proofs.SpendLemmas.{number_alone, number_keeps}
use Rattle.bdb_update.proofs.TupleLemmas.{numbered_already, numbered_now, number_there}
use Rattle.bdb_update.proofs.joining.number_tuple.Goals as goal

pub returns-in-Some-clause-numbered : goal.returns-in-Some-clause-numbered
returns-in-Some-clause-numbered g c =
    let t = (g.K.Keeper.seen c.args.keeper.now).kept in
    numbered_already t c.args.stmt.now c.in-Some.tid c.requires.fits (subst (HasAt tuple_ix_codec t c.args.stmt.now.tuple) c.in-Some.is c.requires.found)

pub free_tuple-requires-clause-grammar : goal.free_tuple-requires-clause-grammar
free_tuple-requires-clause-grammar g c =
    let t = (g.K.Keeper.seen c.args.keeper.now).kept in
    let b = c.requires.base.base in
    let w = c.requires.base.worlds in
    over_in_grammar (with_statement b.stmts c.args.stmt.now) b.stmts w.names w.tuples t b w.stored

pub put_number-requires-clause-tuple : goal.put_number-requires-clause-tuple
put_number-requires-clause-tuple g c = may_be_tuple c.requires.base.base c.args.stmt.now c.requires.base.may

pub returns-in-Ok-put_number-clause-numbered : goal.returns-in-Ok-put_number-clause-numbered
returns-in-Ok-put_number-clause-numbered g c =
    let t = (g.K.Keeper.seen c.args.keeper.now).kept in
    let u = (g.K.Keeper.seen c.put_number.new.keeper).kept in
    let x = c.args.stmt.now in
    let num : IsNum c.in-Ok.tid = search rules in
    let none = subst (HasAt tuple_ix_codec t x.tuple) c.in-None.is c.requires.found in
    numbered_now t u x c.in-Ok.tid c.requires.fits num none c.in-Ok.ensures.least.free (c.in-Ok-put_number.ensures.put ∙ ap (λ (v : Tables). number_put v c.in-Ok.tid x.tuple) c.in-Ok.ensures.read.kept)

pub returns-in-Ok-put_number-clause-here : goal.returns-in-Ok-put_number-clause-here
returns-in-Ok-put_number-clause-here g c =
    let num : IsNum c.in-Ok.tid = search rules in
    number_there (g.K.Keeper.seen c.free_tuple.new.keeper).kept (g.K.Keeper.seen c.put_number.new.keeper).kept c.args.stmt.now.tuple c.in-Ok.tid num c.in-Ok-put_number.ensures.put

pub returns-in-Ok-put_number-clause-others : goal.returns-in-Ok-put_number-clause-others
returns-in-Ok-put_number-clause-others g c =
    let x = c.args.stmt.now in
    number_alone (g.K.Keeper.seen c.args.keeper.now).kept (g.K.Keeper.seen c.put_number.new.keeper).kept c.in-Ok.tid x.tuple
    (c.in-Ok-put_number.ensures.put ∙ ap (λ (v : Tables). number_put v c.in-Ok.tid x.tuple) c.in-Ok.ensures.read.kept)

pub returns-in-Some-clause-keeps : goal.returns-in-Some-clause-keeps
returns-in-Some-clause-keeps g c = λ k r e. e

pub returns-in-Ok-put_number-clause-keeps : goal.returns-in-Ok-put_number-clause-keeps
returns-in-Ok-put_number-clause-keeps g c =
    let x = c.args.stmt.now in
    number_keeps (g.K.Keeper.seen c.args.keeper.now).kept (g.K.Keeper.seen c.put_number.new.keeper).kept c.in-Ok.tid x.tuple c.in-Ok.ensures.least.free
    (c.in-Ok-put_number.ensures.put ∙ ap (λ (v : Tables). number_put v c.in-Ok.tid x.tuple) c.in-Ok.ensures.read.kept)

pub returns-in-Some-clause-writes : goal.returns-in-Some-clause-writes
returns-in-Some-clause-writes g c = λ small. omega arith

pub returns-in-Ok-put_number-clause-writes : goal.returns-in-Ok-put_number-clause-writes
returns-in-Ok-put_number-clause-writes g c = λ small.
    let a = c.in-Ok-put_number.ensures.writes small in
    let b = c.in-Ok.ensures.read.writes in
    omega arith

pub returns-in-Some-clause-least : goal.returns-in-Some-clause-least
returns-in-Some-clause-least g c =
    let t = (g.K.Keeper.seen c.args.keeper.now).kept in
    let x = c.args.stmt.now.tuple in
    takes_none t t x c.in-Some.tid (subst (HasAt tuple_ix_codec t x) c.in-Some.is c.requires.found)

pub returns-in-Ok-put_number-clause-least : goal.returns-in-Ok-put_number-clause-least
returns-in-Ok-put_number-clause-least g c =
    let u = (g.K.Keeper.seen c.put_number.new.keeper).kept in
    let x = c.args.stmt.now.tuple in
    let num : IsNum c.in-Ok.tid = search rules in
    takes_number (g.K.Keeper.seen c.args.keeper.now).kept u x c.in-Ok.tid c.in-Ok.ensures.least
    (number_there (g.K.Keeper.seen c.free_tuple.new.keeper).kept u x c.in-Ok.tid num c.in-Ok-put_number.ensures.put)
