use Rattle.std.proofs.Common.{◌≡◌, ◌++◌, ◌∷◌, [], get_or, set, take, drop, Some, sym, ap, ◌∙◌, subst}
use Rattle.bdb_memory.specs.Blocks.{joined, before, after, HaveEntries}
use Rattle.bdb_memory.proofs.BlocksLemmas.{block-read, joined-more, full-more, sorted-added}
use Rattle.bdb_memory.proofs.blocks.add.Goals as goal
use Rattle.bdb_memory.proofs.blocks.add.Goals.{In_ok-insert}

made : (c : In_ok-insert) → c.insert.new.self ≡ take c.in_ok-spot.spot.1 (get_or c.make_room.new.blocks.items c.in_ok-spot.spot.0 []) ++ (c.args.probe.now, Some c.args.row.now) ∷ drop c.in_ok-spot.spot.1 (get_or c.make_room.new.blocks.items c.in_ok-spot.spot.0 [])
made c =
    c.in_ok-insert.ensures.ok
    ∙ ap (λ b. take c.in_ok-spot.spot.1 b ++ c.in_ok-entry.entry ∷ drop c.in_ok-spot.spot.1 b)
    (block-read c.make_room.new.blocks.items c.in_ok-spot.spot.0 c.index_mut.result.now c.index_mut.ensures.value c.in_ok-spot.ensures.block)
    ∙ ap (λ e. take c.in_ok-spot.spot.1 (get_or c.make_room.new.blocks.items c.in_ok-spot.spot.0 []) ++ e ∷ drop c.in_ok-spot.spot.1 (get_or c.make_room.new.blocks.items c.in_ok-spot.spot.0 [])) c.in_ok-entry.ensures

pub returns-clause-ok : goal.returns-clause-ok
returns-clause-ok c =
    ap (λ b. joined (set c.make_room.new.blocks.items c.in_ok-spot.spot.0 b)) (made c)
    ∙ joined-more c.make_room.new.blocks.items c.in_ok-spot.spot.0 c.in_ok-spot.spot.1 (c.args.probe.now, Some c.args.row.now) c.in_ok-spot.ensures.block
    ∙ ap (λ x. x ++ (c.args.probe.now, Some c.args.row.now) ∷ after c.make_room.new.blocks.items c.in_ok-spot.spot.0 c.in_ok-spot.spot.1) c.in_ok-spot.ensures.before
    ∙ ap (λ x. before c.args.blocks.now.items c.args.spot.0 c.args.spot.1 ++ (c.args.probe.now, Some c.args.row.now) ∷ x) c.in_ok-spot.ensures.after

pub returns-clause-sorted : goal.returns-clause-sorted
returns-clause-sorted c =
    sorted-added c.args.blocks.now.items (set c.make_room.new.blocks.items c.in_ok-spot.spot.0 c.insert.new.self) c.args.probe.now (Some c.args.row.now) c.args.spot.0 c.args.spot.1 c.requires.sorted c.requires.gap (returns-clause-ok c)
    (subst (λ b. HaveEntries (set c.make_room.new.blocks.items c.in_ok-spot.spot.0 b)) (sym (made c))
    (full-more c.make_room.new.blocks.items c.in_ok-spot.spot.0 c.in_ok-spot.spot.1 (c.args.probe.now, Some c.args.row.now) c.make_room.ensures.sorted.full))
