use Rattle.std.proofs.Common.{◌≡◌, suc, ◌-◌, arith, rules}
use Rattle.std.proofs.lemmas.List.{take-set}
use Rattle.bdb_memory.proofs.StoreLemmas.{undone-step, HavePlaces-step, newest-has}
use Rattle.bdb_memory.proofs.changes.roll_back.Goals as goal

pub put_back-requires : goal.put_back-requires
put_back-requires c =
    let m : c.loop-at.at ≡ suc (c.loop-at.at - 1) = omega arith in
    newest-has c.loop-at.changes.items c.loop-at.at (c.loop-at.at - 1) c.index_mut.result.now c.loop-at.rows m (search rules) (search rules) c.loop-at.invariant.1

pub loop-at-preserved : goal.loop-at-preserved
loop-at-preserved c =
    let m : c.loop-at.at ≡ suc (c.loop-at.at - 1) = omega arith in (
      undone-step c.loop-at.changes.items _ c.loop-at.at (c.loop-at.at - 1) c.index_mut.result.now _ _ _ m (search rules) (search rules) c.put_back.ensures.rows c.loop-at.invariant.0 (take-set _ _ _),
      HavePlaces-step c.loop-at.changes.items _ c.loop-at.at (c.loop-at.at - 1) c.index_mut.result.now c.loop-at.rows _ m (search rules) (search rules) c.loop-at.invariant.1 c.put_back.ensures.keeps (take-set _ _ _),
      search rules,
    )
