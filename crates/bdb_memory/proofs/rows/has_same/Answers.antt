use Rattle.std.proofs.Common.{◌∙◌, sym, ap, rules}
use Rattle.std.specs.Option.{option_copied}
use Rattle.bdb_memory.specs.Entries.{rows_of}
use Rattle.bdb_memory.proofs.WithinLemmas.{among-some, among-none}
use Rattle.bdb_memory.proofs.rows.has_same.Goals as goal

pub returns-in-Some-row_at : goal.returns-in-Some-row_at
returns-in-Some-row_at c =
    among-some (rows_of c.args.others.now) c.args.entry.now c.in-Some.bytes.now c.in-Some-row_at.other.now c.eq.result (sym c.row.ensures ∙ ap option_copied c.in-Some.is)
    c.probe.result c.probe.ensures (ap option_copied (sym c.in-Some-row_at.is) ∙ c.row_at.ensures) (search rules)

pub returns-in-None-row_at : goal.returns-in-None-row_at
returns-in-None-row_at c =
    among-none (rows_of c.args.others.now) c.args.entry.now c.in-Some.bytes.now (sym c.row.ensures ∙ ap option_copied c.in-Some.is) c.probe.result c.probe.ensures (ap option_copied (sym c.in-None-row_at.is) ∙ c.row_at.ensures)
