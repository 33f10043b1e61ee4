use Rattle.std.proofs.Common.{◌≤◌, length, refl, arith, rules}
use Rattle.bdb_tables.specs.GroupMarks.{IsNumbered}
use Rattle.bdb_tables.specs.InUse.{val_codec}
use Rattle.bdb_tables.proofs.RangeLemmas.{read_fits, numbered_under, as_long, reads_at_most, reads_each, zip_all, zip_none}
use Rattle.bdb_tables.proofs.marks.read_numbered.Goals as goal

pub fill_numbered-requires : goal.fill_numbered-requires
fill_numbered-requires g c =
    read_fits val_codec (g.K.Keeper.seen c.args.keeper.now).kept 11 c.args.prefix.now c.under.new.span refl c.requires.grammar c.in-Ok.ensures.rows

pub returns-in-Ok-fill_numbered-clause-rows : goal.returns-in-Ok-fill_numbered-clause-rows
returns-in-Ok-fill_numbered-clause-rows g c =
    numbered_under (g.K.Keeper.seen c.args.keeper.now).kept c.args.prefix.now c.under.new.span c.fill_numbered.new.rows.items c.in-Ok.ensures.rows c.in-Ok-fill_numbered.ensures

pub returns-in-Ok-fill_numbered-clause-reads : goal.returns-in-Ok-fill_numbered-clause-reads
returns-in-Ok-fill_numbered-clause-reads g c =
    reads_at_most (g.K.Keeper.seen c.args.keeper.now).reads (g.K.Keeper.seen c.under.new.self).reads (length c.under.new.span) (length c.fill_numbered.new.rows.items) c.in-Ok.ensures.reads
    (as_long (λ b x. IsNumbered b.0 b.1 x) c.under.new.span c.fill_numbered.new.rows.items c.in-Ok-fill_numbered.ensures)

pub returns-in-Ok-fill_numbered-clause-each_read : goal.returns-in-Ok-fill_numbered-clause-each_read
returns-in-Ok-fill_numbered-clause-each_read g c =
    reads_each (g.K.Keeper.seen c.args.keeper.now).reads (g.K.Keeper.seen c.under.new.self).reads (length c.under.new.span) (length c.fill_numbered.new.rows.items) c.in-Ok.ensures.reads
    (as_long (λ b x. IsNumbered b.0 b.1 x) c.under.new.span c.fill_numbered.new.rows.items c.in-Ok-fill_numbered.ensures)

-- no rows
pub returns-then-len-eq0-clause-rows : goal.returns-then-len-eq0-clause-rows
returns-then-len-eq0-clause-rows g c =
    let span = c.under.new.span in
    let none : length span ≤ 0 = omega (arith, c.len.ensures, c.if-len-eq0.true) in
    numbered_under (g.K.Keeper.seen c.args.keeper.now).kept c.args.prefix.now span c.clear.new.self.items c.in-Ok.ensures.rows
    (zip_all (λ b x. IsNumbered b.0 b.1 x) span c.clear.new.self.items 0 none (zip_none (λ b x. IsNumbered b.0 b.1 x) span c.clear.new.self.items (search rules)))
