use Rattle.std.proofs.Common.{◌∙◌, ap}
use Rattle.bdb_base.specs.Worlds.{least_clash}
use Rattle.bdb_why.proofs.DescentLemmas.{least_here}
use Rattle.bdb_why.proofs.grounds.clash_at.Goals as goal

pub returns : goal.returns
returns c = c.clashing_among.ensures ∙ ap (λ xs. least_clash (λ _. c.args.n) xs c.args.path.now c.args.t.now c.args.s) c.at_path.ensures
    ∙ least_here (λ _. c.args.n) c.args.stmts.now c.args.path.now c.args.t.now c.args.s
