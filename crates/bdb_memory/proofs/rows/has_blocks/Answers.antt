use Rattle.std.proofs.Common.{◌≡◌, take, take_all, refl, sym, ap, ◌∙◌, subst, rules}
use Rattle.bdb_memory.specs.Entries.{rows_of, AreAmong}
use Rattle.bdb_memory.specs.Blocks.{joined}
use Rattle.bdb_memory.proofs.WithinLemmas.{among-block, among-block-more}
use Rattle.bdb_memory.proofs.rows.has_blocks.Goals as goal

pub loop-block-init : goal.loop-block-init
loop-block-init c = tt

pub returns-then-not-has_all : goal.returns-then-not-has_all
returns-then-not-has_all c =
    let t = rows_of c.args.others.now in (
      λ e. absurd (cc),
      λ all. c.if-not-has_all.ensures.1 (subst (AreAmong t) (sym (c.entries.ensures ∙ c.block-item.is)) (among-block t c.args.blocks.now c.loop-block.block-index c.block-item.result all c.loop-block-test.true)),
    )

pub loop-block-preserved : goal.loop-block-preserved
loop-block-preserved c =
    let t = rows_of c.args.others.now in
    among-block-more t c.args.blocks.now c.loop-block.block-index c.block-item.result c.loop-block-test.true c.loop-block.invariant (subst (AreAmong t) (c.entries.ensures ∙ c.block-item.is) (c.if-not-has_all.ensures.0 refl))

pub returns : goal.returns
returns c =
    let t = rows_of c.args.others.now in
    let all : joined (take c.loop-block.block-index c.args.blocks.now) ≡ joined c.args.blocks.now = ap joined (take_all c.loop-block.block-index c.args.blocks.now (search rules)) in
    (λ _. subst (AreAmong t) all c.loop-block.invariant, λ _. refl)
