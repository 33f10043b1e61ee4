use Rattle.std.proofs.Common.{ℕ, sym, subst}
use Rattle.bdb_keep.specs.Tables.{Tables}
use Rattle.bdb_tables.specs.Codec.{HasAt}
use Rattle.bdb_tables.specs.InUse.{link_codec}
use Rattle.bdb_tables.specs.GroupMarks.{group_bytes}
use Rattle.bdb_val.specs.Middle.{HasExplicit}
use Rattle.bdb_val.specs.Others.{SamePlacesBut}
use Rattle.bdb_val.specs.Visits.{ArePushed}
use Rattle.bdb_val.proofs.FoundLinks.{links_stay, links_same}
use Rattle.bdb_val.proofs.OtherLemmas.{is_rows}
use Rattle.bdb_val.proofs.RoomLemmas.{same_room}
use Rattle.bdb_val.proofs.StepsMade.{step_from, visited, told}
use Rattle.bdb_val.proofs.walk.visit_first.Goals as goal

pub get-requires-clause-grammar : goal.get-requires-clause-grammar
get-requires-clause-grammar g c = λ k r found. c.requires.grammar 7 k r found

pub returns-in-Ok-push_linked-clause-visited : goal.returns-in-Ok-push_linked-clause-visited
returns-in-Ok-push_linked-clause-visited g c keys stmts n tuple f h =
    let old = g.K.Keeper.seen c.args.keeper.now in
    let start = g.K.Keeper.seen c.get.new.keeper in
    let mid = g.K.Keeper.seen c.settle_state.new.keeper in
    let new = g.K.Keeper.seen c.push_linked.new.keeper in
    let prefix = λ (w : ℕ). group_bytes w c.args.rel c.args.key.now in
    let s = c.in-Ok-settle_state.settled in
    let link = c.in-Ok.ensures.read in
    let found = subst (λ (t : Tables). HasAt link_codec t c.args.wid c.in-Ok.link) (sym link.kept) c.in-Ok.ensures.found in
    let settled = c.in-Ok-settle_state.ensures.settled found keys stmts n tuple f (subst (HasExplicit keys stmts n tuple f) (sym link.kept) h) in
    let step = step_from keys old start mid prefix c.args.wid s link.kept link.writes settled in
    let read = c.in-Ok-push_linked.ensures.read in record {
      visit = visited keys old mid new prefix c.args.wid s step read.kept read.writes;
      told = told keys old mid new prefix c.args.wid s step read.kept read.writes;
      pushed = subst (λ (t : Tables). ArePushed t c.args.wid c.args.list.now.items c.push_linked.new.list.items) (sym read.kept) c.in-Ok-push_linked.ensures.pushed;
    }

pub returns-in-Ok-push_linked-clause-others : goal.returns-in-Ok-push_linked-clause-others
returns-in-Ok-push_linked-clause-others g c =
    subst (λ (t : Tables). SamePlacesBut is_rows (g.K.Keeper.seen c.args.keeper.now).kept t) (sym c.in-Ok-push_linked.ensures.read.kept)
    (subst (λ (t : Tables). SamePlacesBut is_rows t (g.K.Keeper.seen c.settle_state.new.keeper).kept) c.in-Ok.ensures.read.kept c.in-Ok-settle_state.ensures.others)

pub returns-in-Ok-push_linked-clause-room : goal.returns-in-Ok-push_linked-clause-room
returns-in-Ok-push_linked-clause-room g c =
    let room = c.settle_state.new.room in
    same_room (g.K.Keeper.seen c.settle_state.new.keeper).kept (g.K.Keeper.seen c.push_linked.new.keeper).kept c.args.rel c.args.key.now room.group.prefix.items room.handed.from room.handed.rows.items room.handed.singles.items
    c.in-Ok-push_linked.ensures.read.kept c.in-Ok-settle_state.ensures.room

pub settle_state-requires-clause-room : goal.settle_state-requires-clause-room
settle_state-requires-clause-room g c =
    let room = c.args.room.now in
    same_room (g.K.Keeper.seen c.args.keeper.now).kept (g.K.Keeper.seen c.get.new.keeper).kept c.args.rel c.args.key.now room.group.prefix.items room.handed.from room.handed.rows.items room.handed.singles.items
    c.in-Ok.ensures.read.kept c.requires.room

pub push_linked-requires-clause-links : goal.push_linked-requires-clause-links
push_linked-requires-clause-links g c =
    let start = (g.K.Keeper.seen c.get.new.keeper).kept in
    let links = c.args.links.now in
    links_stay start (g.K.Keeper.seen c.settle_state.new.keeper).kept c.in-Ok-settle_state.ensures.others links.are_all links.list.items
    (links_same (g.K.Keeper.seen c.args.keeper.now).kept start c.in-Ok.ensures.read.kept links.are_all links.list.items c.requires.links)
