use Rattle.std.proofs.Common.{◌∙◌, true, false, refl, ap, sym, subst, arith}
use Rattle.bdb_keep.specs.Tables.{Tables}
use Rattle.bdb_update.specs.Keeping.{KeepsTuples}
use Rattle.bdb_update.specs.Numbering.{number_taken}
use Rattle.bdb_update.specs.Parting.{LosesNumber}
use Rattle.bdb_update.specs.Reads.{TellsTold}
use Rattle.bdb_update.proofs.PartLemmas.{part_may_be_tuple}
use Rattle.bdb_update.proofs.PartTupleLemmas.{number_kept, number_lost, number_told}
use Rattle.bdb_update.proofs.SpendLemmas.{number_gone_alone, number_stood}
use Rattle.bdb_update.proofs.parting.drop_number.Goals as goal

pub returns-in-Ok-true-clause-number : goal.returns-in-Ok-true-clause-number
returns-in-Ok-true-clause-number g c =
    let t = (g.K.Keeper.seen c.args.keeper.now).kept in
    let x = c.args.stmt.now in
    subst (λ (v : Tables). LosesNumber t v x) (sym c.in-Ok-true.ensures.read.kept)
    (number_kept t x c.args.tid c.requires.fits c.requires.number (subst (TellsTold t c.args.tid) c.in-Ok-true.field-0-test c.in-Ok-true.ensures.told))

pub take_number-requires-clause-tuple : goal.take_number-requires-clause-tuple
take_number-requires-clause-tuple g c = part_may_be_tuple c.requires.base.base c.args.stmt.now c.requires.base.may

pub returns-in-Ok-clause-number : goal.returns-in-Ok-clause-number
returns-in-Ok-clause-number g c =
    let t = (g.K.Keeper.seen c.args.keeper.now).kept in
    let x = c.args.stmt.now in
    number_lost t x c.args.tid c.requires.fits c.requires.number (g.K.Keeper.seen c.take_number.new.keeper).kept
    (subst (TellsTold t c.args.tid) c.in-Ok-false.field-0-test c.in-Ok-false.ensures.told)
    (c.in-Ok.ensures.taken ∙ ap (λ (v : Tables). number_taken v c.args.tid x.tuple) c.in-Ok-false.ensures.read.kept)

pub returns-in-Ok-true-clause-tells : goal.returns-in-Ok-true-clause-tells
returns-in-Ok-true-clause-tells g c =
    let t = (g.K.Keeper.seen c.args.keeper.now).kept in
    let x = c.args.stmt.now in
    number_told t x c.args.tid c.requires.fits c.requires.number false true refl (subst (TellsTold t c.args.tid) c.in-Ok-true.field-0-test c.in-Ok-true.ensures.told)

pub returns-in-Ok-clause-tells : goal.returns-in-Ok-clause-tells
returns-in-Ok-clause-tells g c =
    let t = (g.K.Keeper.seen c.args.keeper.now).kept in
    let x = c.args.stmt.now in
    number_told t x c.args.tid c.requires.fits c.requires.number true false refl (subst (TellsTold t c.args.tid) c.in-Ok-false.field-0-test c.in-Ok-false.ensures.told)

pub returns-in-Ok-clause-others : goal.returns-in-Ok-clause-others
returns-in-Ok-clause-others g c =
    number_gone_alone (g.K.Keeper.seen c.args.keeper.now).kept (g.K.Keeper.seen c.take_number.new.keeper).kept c.args.tid c.args.stmt.now.tuple
    (c.in-Ok.ensures.taken ∙ ap (λ (v : Tables). number_taken v c.args.tid c.args.stmt.now.tuple) c.in-Ok-false.ensures.read.kept)

pub returns-in-Ok-true-clause-writes : goal.returns-in-Ok-true-clause-writes
returns-in-Ok-true-clause-writes g c = λ small. let a = c.in-Ok-true.ensures.read.writes in omega arith

pub returns-in-Ok-clause-writes : goal.returns-in-Ok-clause-writes
returns-in-Ok-clause-writes g c = λ small.
    let a = c.in-Ok.ensures.writes small in
    let b = c.in-Ok-false.ensures.read.writes in
    omega arith

pub returns-in-Ok-true-clause-stood : goal.returns-in-Ok-true-clause-stood
returns-in-Ok-true-clause-stood g c =
    let t = (g.K.Keeper.seen c.args.keeper.now).kept in
    subst (λ (v : Tables). KeepsTuples v t) (sym c.in-Ok-true.ensures.read.kept) (λ k r e. e)

pub returns-in-Ok-clause-stood : goal.returns-in-Ok-clause-stood
returns-in-Ok-clause-stood g c =
    number_stood (g.K.Keeper.seen c.args.keeper.now).kept (g.K.Keeper.seen c.take_number.new.keeper).kept c.args.tid c.args.stmt.now.tuple
    (c.in-Ok.ensures.taken ∙ ap (λ (v : Tables). number_taken v c.args.tid c.args.stmt.now.tuple) c.in-Ok-false.ensures.read.kept)
