use Rattle.std.proofs.Common.{◌≡◌, ◌∙◌, ℕ, List, length, map, Option, inr, ap, sym, subst}
use Rattle.std.specs.List.{AllByRecursion}
use Rattle.bdb_base.specs.Causes.{Rises}
use Rattle.bdb_base.proofs.ListLemmas.{length_map}
use Rattle.bdb_keep.specs.Tables.{Tables}
use Rattle.bdb_tables.specs.GroupMarks.{BeginsGroup, group_bytes, in_group}
use Rattle.bdb_tables.specs.InUse.{val_codec}
use Rattle.bdb_tables.specs.Marks.{Mark}
use Rattle.bdb_tables.specs.Spans.{AreUnder}
use Rattle.bdb_tables.specs.Writes.{IsChange, with_changes}
use Rattle.bdb_val.specs.GroupChanges.{mark_under, group_changes, TellsMarks}
use Rattle.bdb_val.specs.Rooms.{AreHanded, IsNoted}
use Rattle.bdb_val.specs.Settling.{mark_in}
use Rattle.bdb_val.specs.Steps.{rows_made, Tells}
use Rattle.bdb_val.proofs.GroupLemmas.{group_read}
use Rattle.bdb_val.proofs.RoomLemmas.{handed_stay, singles_after}
use Rattle.bdb_val.proofs.OtherLemmas.{made_same}
use Rattle.bdb_val.proofs.StateLemmas.{fits_at, group_keeps_tuples, group_tells}
use Rattle.bdb_val.proofs.settle.settle_state.Goals as goal

pub returns-in-Ok-write_changes-clause-settled : goal.returns-in-Ok-write_changes-clause-settled
returns-in-Ok-write_changes-clause-settled g c linked keys stmts n tuple f h =
    let old = g.K.Keeper.seen c.args.keeper.now in
    let new = g.K.Keeper.seen c.write_changes.new.keeper in
    let wid = c.args.wid in
    let rel = c.args.rel in
    let v = c.args.key.now in
    let prefix = λ (w : ℕ). group_bytes w rel v in
    let link = c.args.link in
    let es = c.group_marks.new.rows.items in
    let fs = c.keep_linked.new.handed.rows.items in
    let a = c.in-Ok.ensures.read in
    let b = c.in-Ok-group_marks.ensures.read in
    let d = c.in-Ok-find_changes.ensures.read in
    let kept = d.kept ∙ b.kept ∙ a.kept in
    let writes = d.writes ∙ b.writes ∙ a.writes in
    let under = subst (λ (t : Tables). AreUnder val_codec t (prefix wid) (map (in_group wid rel v) es)) a.kept c.in-Ok-group_marks.ensures.rows in
    let fits = c.in-Ok-group_marks.ensures.fits in
    let read = group_read keys stmts n tuple f old.kept h rel v c.ranges.rel.fits fits wid link es fs c.ranges.wid.fits (fits_at old.kept wid link linked) under c.in-Ok.ensures.rows in
    let cs = c.deref-6.result.now in
    let bytes : BeginsGroup c.group_marks.new.room.prefix.items wid rel v = record { world = c.ranges.wid.fits; rel = c.ranges.rel.fits; key = fits; bytes = c.in-Ok-group_marks.ensures.prefix } in
    let changes : cs ≡ group_changes es fs = c.deref-6.ensures.value ∙ c.in-Ok-find_changes.ensures.changes
    ∙ ap (λ (x : List (ℕ × Mark)). group_changes x c.deref-2.result.now) c.deref.ensures.value ∙ ap (group_changes es) c.deref-2.ensures.value in
    let made : map (in_group wid rel v) cs ≡ rows_made keys wid read.own read.from = ap (map (in_group wid rel v)) changes ∙ read.made in
    let told : TellsMarks (mark_under es) cs c.in-Ok-write_changes.settled = subst (λ (x : List (ℕ × Mark)). TellsMarks (mark_under x) cs c.in-Ok-write_changes.settled) c.deref-5.ensures.value c.in-Ok-write_changes.ensures.told in
    record {
      link = link;
      linked = linked;
      settling = record {
        own = read.own;
        from = read.from;
        own_read = read.own_read;
        from_read = read.from_read;
        written = c.in-Ok-write_changes.ensures.kept wid rel v bytes ∙ ap (λ (t : Tables). with_changes val_codec t (map (in_group wid rel v) cs)) kept ∙ ap (with_changes val_codec old.kept) made;
      };
      tells = subst (λ xs. Tells (mark_in read.own) xs c.in-Ok-write_changes.settled) made (group_tells old.kept wid rel v es read.own cs c.in-Ok-write_changes.settled read.told told);
      writes = subst (λ n. Rises n old.writes new.writes) (sym (length_map (in_group wid rel v) cs) ∙ ap length made) (subst (λ n. Rises (length cs) n new.writes) writes c.in-Ok-write_changes.ensures.writes);
    }

pub returns-in-Ok-write_changes-clause-tuples : goal.returns-in-Ok-write_changes-clause-tuples
returns-in-Ok-write_changes-clause-tuples g c =
    let old = g.K.Keeper.seen c.args.keeper.now in
    let new = g.K.Keeper.seen c.write_changes.new.keeper in
    let wid = c.args.wid in
    let rel = c.args.rel in
    let v = c.args.key.now in
    let es = c.group_marks.new.rows.items in
    let fs = c.keep_linked.new.handed.rows.items in
    let a = c.in-Ok.ensures.read in
    let kept = c.in-Ok-find_changes.ensures.read.kept ∙ c.in-Ok-group_marks.ensures.read.kept ∙ a.kept in
    let under = subst (λ (t : Tables). AreUnder val_codec t (group_bytes wid rel v) (map (in_group wid rel v) es)) a.kept c.in-Ok-group_marks.ensures.rows in
    let cs = c.deref-6.result.now in
    let bytes : BeginsGroup c.group_marks.new.room.prefix.items wid rel v = record { world = c.ranges.wid.fits; rel = c.ranges.rel.fits; key = c.in-Ok-group_marks.ensures.fits; bytes = c.in-Ok-group_marks.ensures.prefix } in
    let changes : cs ≡ group_changes es fs = c.deref-6.ensures.value ∙ c.in-Ok-find_changes.ensures.changes
    ∙ ap (λ (x : List (ℕ × Mark)). group_changes x c.deref-2.result.now) c.deref.ensures.value ∙ ap (group_changes es) c.deref-2.ensures.value in
    group_keeps_tuples old.kept new.kept wid rel v c.args.link es fs c.requires.tuples under c.in-Ok.ensures.rows
    (subst (λ xs. AllByRecursion (IsChange val_codec) (map (in_group wid rel v) xs)) changes (c.in-Ok-write_changes.ensures.fits wid rel v bytes))
    (c.in-Ok-write_changes.ensures.kept wid rel v bytes ∙ ap (λ (t : Tables). with_changes val_codec t (map (in_group wid rel v) cs)) kept ∙ ap (λ xs. with_changes val_codec old.kept (map (in_group wid rel v) xs)) changes)

pub returns-in-Ok-write_changes-clause-others : goal.returns-in-Ok-write_changes-clause-others
returns-in-Ok-write_changes-clause-others g c =
    let wid = c.args.wid in
    let rel = c.args.rel in
    let v = c.args.key.now in
    let kept = c.in-Ok-find_changes.ensures.read.kept ∙ c.in-Ok-group_marks.ensures.read.kept ∙ c.in-Ok.ensures.read.kept in
    let cs = c.deref-6.result.now in
    let bytes : BeginsGroup c.group_marks.new.room.prefix.items wid rel v = record { world = c.ranges.wid.fits; rel = c.ranges.rel.fits; key = c.in-Ok-group_marks.ensures.fits; bytes = c.in-Ok-group_marks.ensures.prefix } in
    made_same (g.K.Keeper.seen c.args.keeper.now).kept (g.K.Keeper.seen c.write_changes.new.keeper).kept (map (in_group wid rel v) cs)
    (c.in-Ok-write_changes.ensures.kept wid rel v bytes ∙ ap (λ (t : Tables). with_changes val_codec t (map (in_group wid rel v) cs)) kept)

pub write_changes-requires-clause-group : goal.write_changes-requires-clause-group
write_changes-requires-clause-group g c = record {
  world = c.args.wid;
  rel = c.args.rel;
  key = c.args.key.now;
  begins = record { world = c.ranges.wid.fits; rel = c.ranges.rel.fits; key = c.in-Ok-group_marks.ensures.fits; bytes = c.in-Ok-group_marks.ensures.prefix };
}

pub returns-in-Ok-write_changes-clause-room : goal.returns-in-Ok-write_changes-clause-room
returns-in-Ok-write_changes-clause-room g c =
    let old = g.K.Keeper.seen c.args.keeper.now in
    let new = g.K.Keeper.seen c.write_changes.new.keeper in
    let wid = c.args.wid in
    let rel = c.args.rel in
    let v = c.args.key.now in
    let rows = c.keep_linked.new.handed.rows.items in
    let kept = c.in-Ok-find_changes.ensures.read.kept ∙ c.in-Ok-group_marks.ensures.read.kept ∙ c.in-Ok.ensures.read.kept in
    let fits = c.in-Ok-group_marks.ensures.fits in
    let cs = c.deref-6.result.now in
    let bytes : BeginsGroup c.group_marks.new.room.prefix.items wid rel v = record { world = c.ranges.wid.fits; rel = c.ranges.rel.fits; key = fits; bytes = c.in-Ok-group_marks.ensures.prefix } in
    let es = c.group_marks.new.rows.items in
    let under = subst (λ (t : Tables). AreUnder val_codec t (group_bytes wid rel v) (map (in_group wid rel v) es)) c.in-Ok.ensures.read.kept c.in-Ok-group_marks.ensures.rows in
    let written = c.in-Ok-write_changes.ensures.kept wid rel v bytes ∙ ap (λ (t : Tables). with_changes val_codec t (map (in_group wid rel v) cs)) kept in
    let keeps : c.forget.new.self.singles.items ≡ c.args.room.now.handed.singles.items = c.forget.ensures.singles ∙ c.in-Ok.ensures.singles in
    let noted : IsNoted wid es cs c.args.room.now.handed.singles.items c.note.new.self.singles.items =
    subst (λ (xs : List (Option (ℕ × Mark))). IsNoted wid es cs xs c.note.new.self.singles.items) keeps
    (subst (λ (xs : List (ℕ × Option Mark)). IsNoted wid es xs c.forget.new.self.singles.items c.note.new.self.singles.items) (c.deref-4.ensures.value ∙ sym c.deref-6.ensures.value)
    (subst (λ (xs : List (ℕ × Mark)). IsNoted wid xs c.deref-4.result.now c.forget.new.self.singles.items c.note.new.self.singles.items) c.deref-3.ensures.value c.note.ensures.singles)) in
    record {
      begins = inr (wid, record { world = c.ranges.wid.fits; rel = c.ranges.rel.fits; key = fits; bytes = c.in-Ok-write_changes.ensures.prefix ∙ c.in-Ok-group_marks.ensures.prefix });
      handed = subst (AreHanded new.kept rel v c.note.new.self.from) (sym (c.note.ensures.rows ∙ c.forget.ensures.rows))
          (subst (λ o. AreHanded new.kept rel v o rows) (sym (c.note.ensures.from ∙ c.forget.ensures.from))
          (handed_stay old.kept new.kept wid rel v c.keep_linked.new.handed.from rows cs (c.in-Ok-write_changes.ensures.fits wid rel v bytes) written c.in-Ok.ensures.room.handed));
      singles_are = singles_after old.kept new.kept wid rel v es cs c.args.room.now.handed.singles.items c.note.new.self.singles.items c.ranges.wid.fits under (c.in-Ok-write_changes.ensures.fits wid rel v bytes) written noted c.requires.room.singles_are;
    }

pub group_marks-requires-clause-begins : goal.group_marks-requires-clause-begins
group_marks-requires-clause-begins g c = c.in-Ok.ensures.room.begins
