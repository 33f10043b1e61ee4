use Rattle.std.proofs.Common.{ℕ, inl, inr, refl, sym, subst}
use Rattle.std.proofs.lemmas.Bool.{not-true}
use Rattle.bdb_keep.specs.Tables.{Tables}
use Rattle.bdb_val.specs.Others.{SamePlacesBut}
use Rattle.bdb_tables.specs.GroupMarks.{group_bytes}
use Rattle.bdb_val.specs.Visits.{ArePushed}
use Rattle.bdb_val.proofs.FoundLinks.{links_stay}
use Rattle.bdb_val.proofs.OtherLemmas.{is_rows}
use Rattle.bdb_val.proofs.RoomLemmas.{same_room}
use Rattle.bdb_val.proofs.StepsMade.{visited, told, quiet}
use Rattle.bdb_val.proofs.walk.visit_next.Goals as goal

pub returns-then-not-settled-clause-visited : goal.returns-then-not-settled-clause-visited
returns-then-not-settled-clause-visited g c link keys stmts n tuple f h =
    let old = g.K.Keeper.seen c.args.keeper.now in
    let mid = g.K.Keeper.seen c.settle_state.new.keeper in
    let prefix = λ (w : ℕ). group_bytes w c.args.rel c.args.key.now in
    let step = c.in-Ok.ensures.settled link keys stmts n tuple f h in
    record {
      visit = visited keys old mid mid prefix c.args.next.0 c.in-Ok.settled step refl refl;
      told = told keys old mid mid prefix c.args.next.0 c.in-Ok.settled step refl refl;
      pushed = inl (refl, quiet keys old mid mid prefix c.args.next.0 c.in-Ok.settled step refl refl (not-true c.in-Ok.settled.turned c.if-not-settled.true));
    }

pub returns-in-Ok-push_linked-clause-visited : goal.returns-in-Ok-push_linked-clause-visited
returns-in-Ok-push_linked-clause-visited g c link keys stmts n tuple f h =
    let old = g.K.Keeper.seen c.args.keeper.now in
    let mid = g.K.Keeper.seen c.settle_state.new.keeper in
    let new = g.K.Keeper.seen c.push_linked.new.keeper in
    let prefix = λ (w : ℕ). group_bytes w c.args.rel c.args.key.now in
    let step = c.in-Ok.ensures.settled link keys stmts n tuple f h in
    let read = c.in-Ok-push_linked.ensures.read in record {
      visit = visited keys old mid new prefix c.args.next.0 c.in-Ok.settled step read.kept read.writes;
      told = told keys old mid new prefix c.args.next.0 c.in-Ok.settled step read.kept read.writes;
      pushed = inr (subst (λ (t : Tables). ArePushed t c.args.next.0 c.args.list.now.items c.push_linked.new.list.items) (sym read.kept) c.in-Ok-push_linked.ensures.pushed);
    }

pub returns-in-Ok-push_linked-clause-others : goal.returns-in-Ok-push_linked-clause-others
returns-in-Ok-push_linked-clause-others g c =
    subst (λ (t : Tables). SamePlacesBut is_rows (g.K.Keeper.seen c.args.keeper.now).kept t) (sym c.in-Ok-push_linked.ensures.read.kept) c.in-Ok.ensures.others

pub returns-in-Ok-push_linked-clause-room : goal.returns-in-Ok-push_linked-clause-room
returns-in-Ok-push_linked-clause-room g c =
    let room = c.settle_state.new.room in
    same_room (g.K.Keeper.seen c.settle_state.new.keeper).kept (g.K.Keeper.seen c.push_linked.new.keeper).kept c.args.rel c.args.key.now room.group.prefix.items room.handed.from room.handed.rows.items room.handed.singles.items
    c.in-Ok-push_linked.ensures.read.kept c.in-Ok.ensures.room

pub push_linked-requires-clause-links : goal.push_linked-requires-clause-links
push_linked-requires-clause-links g c =
    let links = c.args.links.now in
    links_stay (g.K.Keeper.seen c.args.keeper.now).kept (g.K.Keeper.seen c.settle_state.new.keeper).kept c.in-Ok.ensures.others links.are_all links.list.items c.requires.links
