use Rattle.std.proofs.Common.{◌≡◌, ◌∙◌, ℕ, ◌+◌, ◌<◌, ◌≤◌, [], ◌∷◌, length, drop, ap, sym, subst, rules, arith}
use Rattle.std.proofs.lemmas.List.{drop_all, drop_more}
use Rattle.bdb_tables.specs.declared.tab.TabError.TheVariants.{Fault, Memory}
use Rattle.bdb_tables.specs.GroupMarks.{group_bytes}
use Rattle.bdb_val.specs.Walks.{Walked}
use Rattle.bdb_val.proofs.Calls.{gone_changing, changing_ok, changing_err, changing_undone}
use Rattle.bdb_val.proofs.RoomLemmas.{bare_room}
use Rattle.bdb_val.proofs.FoundLinks.{links_stay}
use Rattle.bdb_val.proofs.LinkLemmas.{worlds_with}
use Rattle.bdb_val.proofs.TreeLemmas.{walk_tells}
use Rattle.bdb_val.proofs.WalkLemmas.{walk_settles}
use Rattle.bdb_val.proofs.WalkingLemmas.{walk_begins, walk_more, left_of_visit}
use Rattle.bdb_val.proofs.walk.settle_from.Goals as goal

pub loop-init : goal.loop-init
loop-init g c =
    let old = g.K.Keeper.seen c.args.keeper.now in
    let new = g.K.Keeper.seen c.visit_first.new.keeper in (
      walk_begins old new c.args.rel c.args.key.now c.args.wid c.new-list.result.items c.visit_first.new.list.items c.in-Ok-visit_first.settled c.first_of-total.result
          (gone_changing old new c.in-Ok-visit_first.settled Fault c.in-Ok-visit_first.ensures.changing) c.in-Ok-visit_first.ensures.grammar c.in-Ok-visit_first.ensures.tuples c.in-Ok-visit_first.ensures.others c.first_of-total.ensures.put c.first_of-total.ensures.taken
          c.new-list.ensures.items c.in-Ok-visit_first.ensures.visited,
      c.in-Ok-visit_first.ensures.room,
    )

pub returns-then-at-len-clause-settled : goal.returns-then-at-len-clause-settled
returns-then-at-len-clause-settled g c keys stmts ns tuple f u =
    let old = g.K.Keeper.seen c.args.keeper.now in
    let now = g.K.Keeper.seen c.loop.keeper in
    let h = c.loop.invariant.0.walked keys stmts ns tuple f u in
    let prefix = λ (w : ℕ). group_bytes w c.args.rel c.args.key.now in
    let past : length c.loop.list.items ≤ c.loop.at = search rules in
    let none : drop c.loop.at c.loop.list.items ≡ [] = drop_all c.loop.at c.loop.list.items past in
    walk_settles keys old.kept now.kept c.args.wid c.args.rel c.args.key.now h.made h.put h.taken c.ranges.rel.fits c.in-Ok-visit_first.ensures.fits
    (subst (λ xs. Walked keys prefix old.kept c.args.wid now.kept xs h.made h.put h.taken) (ap worlds_with none) h.walked) stmts ns tuple f u

pub returns-then-at-len-clause-changing : goal.returns-then-at-len-clause-changing
returns-then-at-len-clause-changing g c = changing_ok (g.K.Keeper.seen c.args.keeper.now) (g.K.Keeper.seen c.loop.keeper) c.loop.total Fault c.loop.invariant.0.gone

pub returns-in-Err-visit_next-clause-changing : goal.returns-in-Err-visit_next-clause-changing
returns-in-Err-visit_next-clause-changing g c =
    changing_err (g.K.Keeper.seen c.args.keeper.now) (g.K.Keeper.seen c.loop.keeper) (g.K.Keeper.seen c.visit_next.new.keeper) c.in-Err-visit_next.error Fault c.loop.invariant.0.gone
    c.in-Err-visit_next.ensures.changing

pub loop-preserved : goal.loop-preserved
loop-preserved g c =
    let old = g.K.Keeper.seen c.args.keeper.now in
    let now = g.K.Keeper.seen c.loop.keeper in
    let new = g.K.Keeper.seen c.visit_next.new.keeper in
    let v = c.in-Ok-visit_next in
    let list = c.loop.list.items in
    let next = c.index-next.result.now in
    let within : c.loop.at < length list = search rules in
    let is : drop c.loop.at list ≡ next ∷ drop (c.loop.at + 1) list =
    drop_more list c.loop.at next within ∙ ap (λ (x : ℕ × ℕ). x ∷ drop (c.loop.at + 1) list) (sym c.index-next.ensures) in (
      walk_more old now new c.args.rel c.args.key.now c.args.wid next (drop c.loop.at list) (drop (c.loop.at + 1) list) (drop (c.loop.at + 1) c.visit_next.new.list.items) c.loop.total v.settled c.both-total.result
          c.ranges.rel.fits c.in-Ok-visit_first.ensures.fits c.loop.invariant.0 is (gone_changing now new v.settled Fault v.ensures.changing) v.ensures.grammar v.ensures.tuples v.ensures.others
          (λ link keys stmts ns tuple f h. left_of_visit keys now new (λ w. group_bytes w c.args.rel c.args.key.now) next.0 (c.loop.at + 1) list c.visit_next.new.list.items v.settled (omega arith) (v.ensures.visited link keys stmts ns tuple f h))
          c.both-total.ensures.put c.both-total.ensures.taken,
      v.ensures.room,
    )

pub returns-clause-changing : goal.returns-clause-changing
returns-clause-changing g c = changing_undone (g.K.Keeper.seen c.args.keeper.now) (g.K.Keeper.seen c.loop.keeper) (g.K.Keeper.seen c.undo-2.new.self) Memory Fault c.loop.invariant.0.gone c.undo-2.ensures.undone (λ is. cc)

pub returns-then-at-len-clause-others : goal.returns-then-at-len-clause-others
returns-then-at-len-clause-others g c = c.loop.invariant.0.others

pub returns-then-at-len-clause-tells : goal.returns-then-at-len-clause-tells
returns-then-at-len-clause-tells g c keys stmts ns tuple f u =
    let h = c.loop.invariant.0.walked keys stmts ns tuple f u in
    walk_tells keys (g.K.Keeper.seen c.args.keeper.now) (g.K.Keeper.seen c.loop.keeper) c.args.wid c.args.rel c.args.key.now (worlds_with (drop c.loop.at c.loop.list.items)) h.made h.put h.taken c.loop.total c.ranges.rel.fits c.in-Ok-visit_first.ensures.fits
    h.walked h.put_is h.taken_is h.writes stmts ns tuple f u

pub visit_first-requires-clause-room : goal.visit_first-requires-clause-room
visit_first-requires-clause-room g c =
    let room = c.in-Ok.room in
    bare_room (g.K.Keeper.seen c.args.keeper.now).kept c.args.rel c.args.key.now room.group.prefix.items room.handed.from room.handed.rows.items room.handed.singles.items c.in-Ok.ensures.group c.in-Ok.ensures.handed c.in-Ok.ensures.singles

pub visit_next-requires-clause-links : goal.visit_next-requires-clause-links
visit_next-requires-clause-links g c =
    let links = c.args.links.now in
    links_stay (g.K.Keeper.seen c.args.keeper.now).kept (g.K.Keeper.seen c.loop.keeper).kept c.loop.invariant.0.others links.are_all links.list.items c.requires.links
