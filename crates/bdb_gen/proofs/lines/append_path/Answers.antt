use Rattle.std.proofs.Common.{◌≡◌, ◌∙◌, ◌<◌, ◌-◌, ◌++◌, sym, ap, rules, arith, append-nil}
use Rattle.std.specs.List.{flat_map}
use Rattle.bdb_gen.specs.Draws.{next_state, drawn, draws}
use Rattle.bdb_gen.specs.Scripts.{sevens, followers, belief_text}
use Rattle.bdb_gen.proofs.PathLemmas.{twice, no_path_text, path_text_of}
use Rattle.bdb_gen.proofs.lines.append_path.Goals as goal

pub returns-then-count-eq0-clause-text : goal.returns-then-count-eq0-clause-text
returns-then-count-eq0-clause-text c =
    let none : drawn c.args.draws.now 4 ≡ 0 = sym c.draw-count.ensures.drawn ∙ (search rules) in
    sym (ap (λ t. c.args.out.now.items ++ t) (no_path_text c.args.draws.now none) ∙ append-nil c.args.out.now.items)

pub returns-clause-text : goal.returns-clause-text
returns-clause-text c =
    let x = c.args.draws.now in
    let count = c.draw-count.ensures.drawn in
    let some : 0 < drawn x 4 = omega (arith, count, c.if-count-eq0.false) in
    let first : c.draw-first.result ≡ drawn (next_state x) 8 = c.draw-first.ensures.drawn ∙ ap (λ s. drawn s 8) c.draw-count.ensures.state in
    let state : c.draw-first.new.self ≡ next_state (next_state x) = c.draw-first.ensures.state ∙ ap next_state c.draw-count.ensures.state in
    twice _ _ _ _ _ c.in_ok-append_belief.ensures c.in_ok-append_followers.ensures.text
    ∙ ap (λ u. c.args.out.now.items ++ (belief_text u ++ flat_map belief_text (followers u (draws c.draw-first.new.self (sevens (c.draw-count.result - 1)))))) first
    ∙ ap (λ s. c.args.out.now.items ++ (belief_text (drawn (next_state x) 8) ++ flat_map belief_text (followers (drawn (next_state x) 8) (draws s (sevens (c.draw-count.result - 1)))))) state
    ∙ ap (λ n. c.args.out.now.items ++ (belief_text (drawn (next_state x) 8) ++ flat_map belief_text (followers (drawn (next_state x) 8) (draws (next_state (next_state x)) (sevens (n - 1)))))) count
    ∙ ap (λ t. c.args.out.now.items ++ t) (sym (path_text_of x some))
