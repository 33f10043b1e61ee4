use Rattle.std.proofs.Common.{◌≡◌, [], get_or, false, Equal, sym, ap, ◌∙◌}
use Rattle.bdb_keep.specs.Tables.{bytes_cmp}
use Rattle.bdb_memory.specs.Blocks.{entry_at}
use Rattle.bdb_memory.proofs.BesideLemmas.{belongs-here, stands-here}
use Rattle.bdb_memory.proofs.behind.stands_behind.Goals as goal

pub returns-in-Equal-clause-there : goal.returns-in-Equal-clause-there
returns-in-Equal-clause-there c =
    let q = c.args.probe.now in
    let equal : bytes_cmp (entry_at (get_or c.args.blocks.now c.in-Some.at.0 []) c.in-Some.at.1).0 q ≡ Equal = ap (λ e. bytes_cmp e.0 q) (sym c.entry_of.ensures) ∙ sym c.compare.ensures ∙ c.in-Equal.is in
    stands-here c.args.blocks.now q c.in-Some.at.0 c.in-Some.at.1 c.requires c.in-Some.ensures.there equal

pub returns-in-Equal-clause-belongs : goal.returns-in-Equal-clause-belongs
returns-in-Equal-clause-belongs c =
    let q = c.args.probe.now in
    let equal : bytes_cmp (entry_at (get_or c.args.blocks.now c.in-Some.at.0 []) c.in-Some.at.1).0 q ≡ Equal = ap (λ e. bytes_cmp e.0 q) (sym c.entry_of.ensures) ∙ sym c.compare.ensures ∙ c.in-Equal.is in
    belongs-here c.args.blocks.now q false c.in-Some.at.0 c.in-Some.at.1 c.requires c.in-Some.ensures.there equal
