use Rattle.std.proofs.Common.{◌≡◌, take, take_all, refl, sym, ap, ◌∙◌, subst, rules}
use Rattle.bdb_keep.specs.Tables.{LieWithin}
use Rattle.bdb_memory.specs.Entries.{rows_of, AreAmong}
use Rattle.bdb_memory.specs.Blocks.{joined}
use Rattle.bdb_memory.proofs.WithinLemmas.{among-block, among-block-more, lie-from-among, among-from-lie}
use Rattle.bdb_memory.proofs.rows.PlacedRows.lies_within.Goals as goal

pub loop-shelf-init : goal.loop-shelf-init
loop-shelf-init c = tt

pub returns-then-not-has_blocks : goal.returns-then-not-has_blocks
returns-then-not-has_blocks c = (
  λ t. absurd (cc),
  λ lie.
      let t = rows_of c.args.others.now in
      let all : AreAmong t (joined c.deref-shelf-items.result.now) =
      subst (λ bs. AreAmong t (joined bs)) (sym c.deref-shelf-items.ensures.value)
      (among-from-lie t (joined c.self.inside.shelves.items) c.self.invariant.sorted.ascends (subst (λ es. LieWithin (rows_of es) t) (sym c.self.view_is) lie)) in
      c.if-not-has_blocks.ensures.1 (subst (AreAmong t) (sym (c.blocks-in-loop-shelf.ensures ∙ c.shelf-item.is)) (among-block t c.deref-shelf-items.result.now c.loop-shelf.shelf-index c.shelf-item.result all c.loop-shelf-test.true)),
)

pub loop-shelf-preserved : goal.loop-shelf-preserved
loop-shelf-preserved c =
    let t = rows_of c.args.others.now in
    among-block-more t c.deref-shelf-items.result.now c.loop-shelf.shelf-index c.shelf-item.result c.loop-shelf-test.true c.loop-shelf.invariant (subst (AreAmong t) (c.blocks-in-loop-shelf.ensures ∙ c.shelf-item.is) (c.if-not-has_blocks.ensures.0 refl))

pub returns : goal.returns
returns c =
    let t = rows_of c.args.others.now in
    let all : joined (take c.loop-shelf.shelf-index c.deref-shelf-items.result.now) ≡ c.args.self.now =
    ap joined (take_all c.loop-shelf.shelf-index c.deref-shelf-items.result.now (search rules) ∙ c.deref-shelf-items.ensures.value) ∙ c.self.view_is in
    (λ _. subst (λ es. LieWithin (rows_of es) t) all (lie-from-among t (joined (take c.loop-shelf.shelf-index c.deref-shelf-items.result.now)) c.loop-shelf.invariant), λ _. refl)
