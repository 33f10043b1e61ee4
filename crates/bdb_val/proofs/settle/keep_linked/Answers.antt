use Rattle.std.proofs.Common.{◌≡◌, [], ℕ, List, Option, Some, None, MatchOption, get_or, map, sym, subst, rules}
use Rattle.bdb_tables.specs.GroupMarks.{group_bytes, in_group}
use Rattle.bdb_tables.specs.InUse.{val_codec}
use Rattle.bdb_tables.specs.Marks.{Mark}
use Rattle.bdb_tables.specs.Spans.{AreUnder}
use Rattle.bdb_val.specs.Rooms.{AreHanded, AreRoomRows, AreSingle}
use Rattle.bdb_val.proofs.settle.keep_linked.Goals as goal

pub returns-in-Ok-clause-rows : goal.returns-in-Ok-clause-rows
returns-in-Ok-clause-rows g c =
    let old = (g.K.Keeper.seen c.args.keeper.now).kept in
    let rel = c.args.rel in
    let v = c.args.key.now in
    let wid = c.in-Some.wid in
    let row = c.in-Some-single.row in
    let rows = c.keep_single.new.handed.rows.items in
    let is : c.args.link ≡ Some wid = search rules in
    let found : get_or c.args.handed.now.singles.items wid None ≡ Some row = search rules in
    subst (λ (o : Option ℕ). MatchOption o (rows ≡ []) (λ m. AreUnder val_codec old (group_bytes m rel v) (map (in_group m rel v) rows))) (sym is)
    (subst (λ (xs : List (ℕ × Mark)). AreUnder val_codec old (group_bytes wid rel v) (map (in_group wid rel v) xs)) (sym c.in-Ok.ensures.rows) (c.requires.room.singles_are wid row found).under)

pub returns-in-Ok-clause-room : goal.returns-in-Ok-clause-room
returns-in-Ok-clause-room g c =
    let old = (g.K.Keeper.seen c.args.keeper.now).kept in
    let rel = c.args.rel in
    let v = c.args.key.now in
    let wid = c.in-Some.wid in
    let row = c.in-Some-single.row in
    let found : get_or c.args.handed.now.singles.items wid None ≡ Some row = search rules in
    record {
      begins = c.requires.room.begins;
      handed = subst (λ (o : Option ℕ). AreHanded old rel v o c.keep_single.new.handed.rows.items) (sym c.in-Ok.ensures.from)
          (subst (λ (xs : List (ℕ × Mark)). AreRoomRows old rel v xs wid) (sym c.in-Ok.ensures.rows) (c.requires.room.singles_are wid row found));
      singles_are = subst (AreSingle old rel v) (sym c.in-Ok.ensures.singles) c.requires.room.singles_are;
    }
