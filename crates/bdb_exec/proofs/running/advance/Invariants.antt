use Rattle.std.proofs.Common.{◌≡◌, ◌+◌, ◌≤◌, List, drop}
use Rattle.bdb_base.specs.declared.kinds.Ref.{Ref}
use Rattle.bdb_tables.proofs.Loops.{IsReading}
use Rattle.bdb_plan.specs.Running.{rows_from}
use Rattle.bdb_exec.specs.LookUps.{looks_from}
use Rattle.bdb_exec.specs.Memos.{Recalls}
use Rattle.bdb_exec.specs.Seen.{sight_of}
use Rattle.bdb_exec.proofs.running.advance.Given as goal

-- the steps that are left make of where the run stands what all of them make of its beginning
abbrev pub invariant-loop-step : goal.invariant-loop-step
invariant-loop-step g l =
    let sight = sight_of (g.K.Keeper.seen l.fn.keeper).kept in
    IsReading (g.K.Keeper.seen l.fn.keeper) (g.K.Keeper.seen l.keeper) (record {
      done : l.done ≡ l.step-index;
      rows : (taken : List Ref) → rows_from sight taken (drop l.step-index l.steps) l.state ≡ rows_from sight taken l.steps l.fn.state;
      reads : (g.K.Keeper.seen l.keeper).reads + looks_from sight (drop l.step-index l.steps) l.state ≤ (g.K.Keeper.seen l.fn.keeper).reads + looks_from sight l.steps l.fn.state;
      memo : Recalls (g.K.Keeper.seen l.fn.keeper).kept l.memo;
    })
