use Rattle.bdb_why.proofs.CheckLemmas.{checked_belief, checked_exactly}
use Rattle.bdb_why.proofs.checking.check_why.Goals as goal

pub returns-clause-exact : goal.returns-clause-exact
returns-clause-exact c = checked_exactly c.args.base.now.catalog c.key_length_in.result c.args.base.now.stmts c.stmts.result.now c.args.path.now c.args.t.now c.args.s c.args.y.now
    c.check_why_among.result c.stmts.ensures.valid c.key_length_in.ensures c.stmts.ensures.value c.check_why_among.ensures

pub returns-clause-belief : goal.returns-clause-belief
returns-clause-belief c = checked_belief c.args.base.now.catalog c.key_length_in.result c.args.base.now.stmts c.stmts.result.now c.args.path.now c.args.t.now c.args.s c.args.y.now
    c.check_why_among.result c.stmts.ensures.valid c.key_length_in.ensures c.stmts.ensures.value c.check_why_among.ensures
