use Rattle.std.proofs.Common.{◌∙◌, ◌*◌, ◌/◌, ◌%◌, ◌^◌, ap}
use Rattle.std.proofs.Math.Nat.{mod-lt, mod-add-mod}
use Rattle.bdb_gen.specs.Draws.{next_state, drawn}
use Rattle.bdb_gen.proofs.draws.Draws.draw.Goals as goal

pub returns-clause-drawn : goal.returns-clause-drawn
unfolding next_state drawn
returns-clause-drawn c =
    ap (λ x. (x / 2 ^ 33) % c.args.limit) (mod-add-mod (c.self.inside.state * 6364136223846793005) (2 ^ 64) 1442695040888963407
    ∙ ap next_state c.self.view_is)

pub returns-clause-below : goal.returns-clause-below
returns-clause-below c = mod-lt _ c.requires

pub returns-clause-state : goal.returns-clause-state
unfolding next_state
returns-clause-state c = mod-add-mod (c.self.inside.state * 6364136223846793005) (2 ^ 64) 1442695040888963407 ∙ ap next_state c.self.view_is
