use Rattle.std.proofs.Common.{◌≡◌, ◌∙◌, ◌+◌, ◌-◌, ◌++◌, suc, sym, ap, arith, append_assoc}
use Rattle.bdb_gen.specs.Scripts.{line, lines}
use Rattle.bdb_gen.proofs.PathLemmas.{lines_more}
use Rattle.bdb_gen.proofs.scripts.generate.Goals as goal

pub loop-line-preserved : goal.loop-line-preserved
loop-line-preserved c =
    let x = c.loop-line.draws in
    let left = c.args.size - (c.loop-line._line + 1) in
    let more : c.args.size - c.loop-line._line ≡ suc left = omega (arith, c.loop-line-test.true) in
    ap (λ t. t ++ lines c.append_line.new.draws left) c.in_ok-append_line.ensures.text
    ∙ append_assoc c.loop-line.out.items (line x) (lines c.append_line.new.draws left)
    ∙ ap (λ s. c.loop-line.out.items ++ (line x ++ lines s left)) c.in_ok-append_line.ensures.state
    ∙ ap (λ t. c.loop-line.out.items ++ t) (sym (lines_more x left (c.args.size - c.loop-line._line) more))
    ∙ c.loop-line.invariant
