use Rattle.std.proofs.Common.{◌≡◌, ◌≤◌, ◌-◌, ℕ, false, List, length}
use Rattle.bdb_base.specs.Causes.{Rises}
use Rattle.bdb_base.specs.Limits.{longest_script}
use Rattle.bdb_keep.specs.Seen.{IsStill, NeverFall}
use Rattle.bdb_stream.specs.Handling.{IsAt, IsAtSome}
use Rattle.bdb_stream.proofs.ReadsLemmas.{Reads}
use Rattle.bdb_stream.proofs.stream.carry_out.Given as goal

abbrev pub invariant-loop-count : goal.invariant-loop-count
invariant-loop-count g l = record {
  reads : (bytes : List ℕ) × (l.taken ≡ length bytes) × ((p : g.H.Handler.handling.Point) → IsAt g.H.Handler.handling (g.K.Keeper.seen l.fn.keeper).kept l.fn.handler p
      → Reads g.H.Handler.handling p (g.S.Source.left l.fn.script) (g.S.Source.left l.script) bytes l.cutter l.handler
      (g.K.Keeper.seen l.fn.keeper) (g.K.Keeper.seen l.keeper) (g.O.Sink.written l.fn.out) (g.O.Sink.written l.out) l.fine);
  ready : l.cutter.is_spent ≡ false;
  small : l.taken ≤ longest_script;
  given : Rises l.taken (g.S.Source.given l.fn.script) (g.S.Source.given l.script);
  source : g.S.Source.faults l.fn.script ≤ g.S.Source.faults l.script;
  count : g.S.Source.given l.fn.script ≤ g.S.Source.given l.script;
  still : IsStill (g.K.Keeper.seen l.keeper);
  at : IsAtSome g.H.Handler.handling (g.K.Keeper.seen l.keeper).kept l.handler;
  keeper : NeverFall (g.K.Keeper.seen l.fn.keeper) (g.K.Keeper.seen l.keeper);
  sink : g.O.Sink.faults l.fn.out ≤ g.O.Sink.faults l.out;
}

abbrev pub decreases-loop-count : goal.decreases-loop-count
decreases-loop-count g l = longest_script - l.taken
