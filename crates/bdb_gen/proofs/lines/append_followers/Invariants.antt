use Rattle.std.proofs.Common.{◌≡◌, ◌<◌, ◌-◌, ◌++◌}
use Rattle.std.specs.List.{flat_map}
use Rattle.bdb_gen.specs.Draws.{state_after, draws}
use Rattle.bdb_gen.specs.Scripts.{sevens, followers, belief_text}
use Rattle.bdb_gen.proofs.lines.append_followers.Given as goal

abbrev pub invariant-loop-further : goal.invariant-loop-further
invariant-loop-further l = (l.user < 8)
    × (l.out.items ++ flat_map belief_text (followers l.user (draws l.draws (sevens (l.count - l._further))))
    ≡ l.fn.out.items ++ flat_map belief_text (followers l.first (draws l.fn.draws (sevens l.count))))
    × (state_after l.draws (l.count - l._further) ≡ state_after l.fn.draws l.count)
