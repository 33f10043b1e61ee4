use Rattle.std.proofs.Common.{◌∙◌, ap}
use Rattle.bdb_base.specs.Worlds.{explicit}
use Rattle.bdb_why.proofs.DescentLemmas.{explicit_here}
use Rattle.bdb_why.proofs.grounds.explicit_at.Goals as goal

pub returns : goal.returns
returns c = c.is_explicit.ensures ∙ ap (λ xs. explicit xs c.args.path.now c.args.t.now c.args.s) c.at_path.ensures
    ∙ explicit_here c.args.stmts.now c.args.path.now c.args.t.now c.args.s
