use Rattle.std.proofs.Common.{◌≡◌, ◌∙◌, ◌+◌, ◌-◌, ◌++◌, suc, sym, ap, arith, append_assoc}
use Rattle.std.proofs.Math.Nat.{mod-lt}
use Rattle.std.specs.List.{flat_map}
use Rattle.bdb_gen.specs.Draws.{state_after, drawn, draws}
use Rattle.bdb_gen.specs.Scripts.{sevens, next_user, followers, belief_text}
use Rattle.bdb_gen.proofs.PathLemmas.{followers_more, state_more}
use Rattle.bdb_gen.proofs.lines.append_followers.Goals as goal

pub loop-further-preserved : goal.loop-further-preserved
loop-further-preserved c =
    let x = c.loop-further.draws in
    let left = c.args.count - (c.loop-further._further + 1) in
    let more : c.args.count - c.loop-further._further ≡ suc left = omega (arith, c.loop-further-test.true) in
    let u = next_user c.loop-further.user (drawn x 7) in
    let user : next_user c.loop-further.user c.draw.result ≡ u = ap (next_user c.loop-further.user) c.draw.ensures.drawn in
    let text = c.in_ok-append_belief.ensures in (
      mod-lt _ (omega arith),
      ap (λ t. t ++ flat_map belief_text (followers (next_user c.loop-further.user c.draw.result) (draws c.draw.new.self (sevens left)))) text
          ∙ append_assoc c.loop-further.out.items (belief_text (next_user c.loop-further.user c.draw.result)) (flat_map belief_text (followers (next_user c.loop-further.user c.draw.result) (draws c.draw.new.self (sevens left))))
          ∙ ap (λ v. c.loop-further.out.items ++ (belief_text v ++ flat_map belief_text (followers v (draws c.draw.new.self (sevens left))))) user
          ∙ ap (λ s. c.loop-further.out.items ++ (belief_text u ++ flat_map belief_text (followers u (draws s (sevens left))))) c.draw.ensures.state
          ∙ ap (λ t. c.loop-further.out.items ++ t) (sym (followers_more c.loop-further.user x left (c.args.count - c.loop-further._further) more))
          ∙ c.loop-further.invariant.1,
      ap (λ s. state_after s left) c.draw.ensures.state ∙ sym (state_more x left (c.args.count - c.loop-further._further) more) ∙ c.loop-further.invariant.2,
    )
