use Rattle.std.proofs.Common.{◌≡◌, ◌∙◌, ◌≤◌, List, ap, sym, subst, length, take, rules, arith}
use Rattle.std.specs.List.{list_all, list_any}
use Rattle.bdb_base.specs.declared.kinds.Value.{Value}
use Rattle.bdb_base.specs.Clash.{key_of}
use Rattle.bdb_base.proofs.ListLemmas.{length_map}
use Rattle.bdb_key.specs.Grammar.{AreKeyVals, IsNum}
use Rattle.bdb_tables.specs.Codec.{TableFits}
use Rattle.bdb_tables.specs.GroupMarks.{AreNumbered, group_bytes, numbered}
use Rattle.bdb_tables.specs.InUse.{val_codec}
use Rattle.bdb_base.specs.Bases.{is_written}
use Rattle.bdb_exec.specs.Keys.{rows_of_key}
use Rattle.bdb_exec.specs.Rows.{mark_denies}
use Rattle.bdb_exec.specs.Seen.{sight_of}
use Rattle.bdb_exec.proofs.DenyLemmas.{denied_by_number, denied_is, denied_reads, unwritten_denied}
use Rattle.bdb_exec.proofs.LengthLemmas.{key_shown, key_texts, keys_sized}
use Rattle.bdb_exec.proofs.looking.denies_with.Given.{Over}
use Rattle.bdb_exec.proofs.looking.denies_with.Goals as goal
use Rattle.bdb_exec.proofs.looking.denies_with.Goals.{After-drop-prefix-in-Ok-numbered_under}

pub put_group-requires : goal.put_group-requires
put_group-requires g c =
    let t = (g.K.Keeper.seen c.args.keeper.now).kept in
    let size : IsNum c.args.n = subst IsNum (sym c.requires.length) (keys_sized t c.requires.run c.args.rel) in
    record { texts = key_texts c.args.n c.args.tuple.now c.key_of-key.result.now size c.key_of-key.ensures (sym c.are_written.ensures ∙ c.if-not-are_written.false) }

pub numbered_under-requires : goal.numbered_under-requires
numbered_under-requires g c = record { grammar = subst (TableFits val_codec) (sym c.in-Ok.ensures.looks.kept) c.requires.run.rows.fits }

pub returns-then-not-are_written-clause-denies : goal.returns-then-not-are_written-clause-denies
returns-then-not-are_written-clause-denies g c =
    let t = (g.K.Keeper.seen c.args.keeper.now).kept in
    let own : c.key_of-key.result.now ≡ key_of (sight_of t).keys c.args.tuple.now =
    key_shown t c.args.rel c.args.n c.args.tuple.now c.key_of-key.result.now c.requires.relation c.requires.length c.key_of-key.ensures in
    unwritten_denied t c.requires.run c.args.world c.args.rel c.ranges.world.fits c.ranges.rel.fits c.args.tuple.now c.requires.relation
    (ap (list_all is_written) (sym own) ∙ sym c.are_written.ensures ∙ c.if-not-are_written.true)

-- the key that was looked up is the tuple's, as tables show keys
own : (g : Over) (c : After-drop-prefix-in-Ok-numbered_under g)
    → c.key_of-key.result.now ≡ key_of (sight_of (g.K.Keeper.seen c.args.keeper.now).kept).keys c.args.tuple.now
own g c =
    let t = (g.K.Keeper.seen c.args.keeper.now).kept in
    key_shown t c.args.rel c.args.n c.args.tuple.now c.key_of-key.result.now c.requires.relation c.requires.length c.key_of-key.ensures

-- it is one that rows may have
key_fits : (g : Over) (c : After-drop-prefix-in-Ok-numbered_under g)
    → AreKeyVals (key_of (sight_of (g.K.Keeper.seen c.args.keeper.now).kept).keys c.args.tuple.now)
key_fits g c = let fits : AreKeyVals c.key_of-key.result.now = search rules in subst AreKeyVals (own g c) fits

-- what was read are its rows
rows : (g : Over) (c : After-drop-prefix-in-Ok-numbered_under g)
    → AreNumbered (g.K.Keeper.seen c.args.keeper.now).kept
    (group_bytes c.args.world c.args.rel (key_of (sight_of (g.K.Keeper.seen c.args.keeper.now).kept).keys c.args.tuple.now))
    c.in-Ok-numbered_under.entries.items
rows g c =
    let t = (g.K.Keeper.seen c.args.keeper.now).kept in
    let xs = c.in-Ok-numbered_under.entries.items in
    let prefix : c.as_slice.result.now ≡ group_bytes c.args.world c.args.rel c.key_of-key.result.now = search rules in
    subst (λ p. AreNumbered t p xs) (prefix ∙ ap (group_bytes c.args.world c.args.rel) (own g c))
    (subst (λ u. AreNumbered u c.as_slice.result.now xs) c.in-Ok.ensures.looks.kept c.in-Ok-numbered_under.ensures.rows)

pub returns-in-Ok-numbered_under-clause-denies : goal.returns-in-Ok-numbered_under-clause-denies
returns-in-Ok-numbered_under-clause-denies g c =
    let t = (g.K.Keeper.seen c.args.keeper.now).kept in
    let read = rows g c in
    c.one_denies.ensures ∙ ap (list_any (mark_denies c.in-Ok.number)) (c.as_slice-in-Ok-numbered_under.ensures.value ∙ read.are)
    ∙ denied_by_number c.in-Ok.number read.entries
    ∙ denied_is t c.requires.run c.args.world c.args.rel c.ranges.world.fits c.ranges.rel.fits c.args.tuple.now c.requires.relation c.in-Ok.number
    read.entries c.in-Ok.ensures.number (key_fits g c) read.under

pub returns-in-Ok-numbered_under-clause-reads : goal.returns-in-Ok-numbered_under-clause-reads
returns-in-Ok-numbered_under-clause-reads g c =
    let t = (g.K.Keeper.seen c.args.keeper.now).kept in
    let read = rows g c in
    let told : length c.in-Ok-numbered_under.entries.items ≡ length read.entries = ap length read.are ∙ length_map numbered read.entries in
    let all = (sight_of t).rows c.args.world c.args.rel in
    let fewer : length read.entries ≤ length (rows_of_key (take c.args.n c.args.tuple.now.vals) all) =
    subst (λ (vs : List Value). length read.entries ≤ length (rows_of_key vs all)) (sym (own g c) ∙ c.key_of-key.ensures)
    (denied_reads t c.requires.run c.args.world c.args.rel c.ranges.world.fits c.ranges.rel.fits c.args.tuple.now c.requires.relation read.entries
    (key_fits g c) read.under) in
    omega (arith, told, fewer, c.in-Ok.ensures.reads, c.in-Ok-numbered_under.ensures.reads)
