use Rattle.std.proofs.Common.{◌≡◌, rules}
use Rattle.bdb_tables.specs.GroupMarks.{marks_codec}
use Rattle.bdb_tables.specs.Writes.{IsChange, with_change}
use Rattle.bdb_tables.proofs.MarkLemmas.{entry_in_table}
use Rattle.bdb_tables.proofs.WriteLemmas.{written_grammar}
use Rattle.bdb_tables.proofs.marks.change_mark.Goals as goal

pub returns-in-Ok-clause-grammar : goal.returns-in-Ok-clause-grammar
returns-in-Ok-clause-grammar g c =
    let codec = marks_codec c.args.prefix.now.items in
    let old = (g.K.Keeper.seen c.args.keeper.now).kept in
    let new = (g.K.Keeper.seen c.set_mark.new.keeper).kept in
    let is : IsChange codec c.args.change.now = search rules in
    let made : new ≡ with_change codec old c.args.change.now = search rules in
    written_grammar codec (entry_in_table c.args.prefix.now.items c.requires.group) old new c.args.change.now is made
