use Rattle.std.proofs.Common.{◌≡◌, ◌++◌, take, drop}
use Rattle.bdb_multi.specs.Sessions.{AreSessions, acts_from, acts_of}
use Rattle.bdb_multi.specs.Slots.{AreSlotsOf}
use Rattle.bdb_multi.proofs.acts.acts_of.Given as goal

abbrev pub invariant-loop-event : goal.invariant-loop-event
invariant-loop-event l = record {
  acts : l.acts ++ acts_from (take l.event-index l.events) (drop l.event-index l.events) ≡ acts_of l.fn.events;
  stands : AreSlotsOf l.desk (take l.event-index l.events);
  sessions : AreSessions (drop l.event-index l.events);
}
