use Rattle.std.proofs.Common.{◌∷◌, ◌∙◌, ap, sym, subst}
use Rattle.bdb_memory.specs.Heads.{IsHeadOf, key_of}
use Rattle.bdb_memory.proofs.HeadsLemmas.{head_itself, key_back}
use Rattle.bdb_memory.proofs.words.Probe.of.Goals as goal

pub invariant_of-result : goal.invariant_of-result
invariant_of-result c =
    head_itself c.args.key.now c.from_index.result.now c.of.result (subst (λ r. IsHeadOf c.args.key.now c.of.result r) (sym c.from_index.ensures) c.of.ensures.head)

pub returns : goal.returns
returns c =
    ap (λ t. t ∷ key_of c.of.result c.from_index.result.now) c.of.ensures.tab
    ∙ ap (λ k. c.args.tab ∷ k) (key_back c.args.key.now c.from_index.result.now c.of.result (subst (λ r. IsHeadOf c.args.key.now c.of.result r) (sym c.from_index.ensures) c.of.ensures.head))
