use Rattle.std.proofs.Common.{◌≡◌, ◌+◌, [], get_or, Equal, Greater, sym, ap, ◌∙◌, arith, rules}
use Rattle.bdb_keep.specs.Tables.{bytes_cmp}
use Rattle.bdb_memory.specs.Blocks.{entry_at}
use Rattle.bdb_memory.proofs.BesideLemmas.{belongs-here, stands-here, belongs-between, gap-between, belongs-last, gap-last}
use Rattle.bdb_memory.proofs.finding.find_behind.Goals as goal

pub returns-in-Equal-clause-there : goal.returns-in-Equal-clause-there
returns-in-Equal-clause-there c =
    let q = c.args.probe.now in
    let equal : bytes_cmp (entry_at (get_or c.args.blocks.now c.in-Some.next.0 []) c.in-Some.next.1).0 q ≡ Equal = ap (λ e. bytes_cmp e.0 q) (sym c.entry_of.ensures) ∙ sym c.compare.ensures ∙ c.in-Equal.is in
    stands-here c.args.blocks.now q c.in-Some.next.0 c.in-Some.next.1 c.requires.sorted c.in-Some.ensures.there equal

pub returns-in-Equal-clause-belongs : goal.returns-in-Equal-clause-belongs
returns-in-Equal-clause-belongs c =
    let q = c.args.probe.now in
    let equal : bytes_cmp (entry_at (get_or c.args.blocks.now c.in-Some.next.0 []) c.in-Some.next.1).0 q ≡ Equal = ap (λ e. bytes_cmp e.0 q) (sym c.entry_of.ensures) ∙ sym c.compare.ensures ∙ c.in-Equal.is in
    belongs-here c.args.blocks.now q c.args.is_last c.in-Some.next.0 c.in-Some.next.1 c.requires.sorted c.in-Some.ensures.there equal

pub returns-in-Greater-clause-gap : goal.returns-in-Greater-clause-gap
returns-in-Greater-clause-gap c =
    let q = c.args.probe.now in
    let greater : bytes_cmp (entry_at (get_or c.args.blocks.now c.in-Some.next.0 []) c.in-Some.next.1).0 q ≡ Greater = ap (λ e. bytes_cmp e.0 q) (sym c.entry_of.ensures) ∙ sym c.compare.ensures ∙ c.in-Greater.is in
    gap-between c.args.blocks.now q c.args.spot.0 c.args.spot.1 (c.args.spot.1 + 1) c.in-Some.next.0 c.in-Some.next.1 c.requires.sorted c.requires.there c.requires.below (omega arith) c.in-Some.ensures.there c.in-Some.ensures.after greater

pub returns-in-Greater-clause-belongs : goal.returns-in-Greater-clause-belongs
returns-in-Greater-clause-belongs c =
    let q = c.args.probe.now in
    let greater : bytes_cmp (entry_at (get_or c.args.blocks.now c.in-Some.next.0 []) c.in-Some.next.1).0 q ≡ Greater = ap (λ e. bytes_cmp e.0 q) (sym c.entry_of.ensures) ∙ sym c.compare.ensures ∙ c.in-Greater.is in
    belongs-between c.args.blocks.now q c.args.is_last c.args.spot.0 c.args.spot.1 c.in-Some.next.0 c.in-Some.next.1 c.requires.sorted c.requires.there c.requires.below c.in-Some.ensures.there greater

pub returns-then-is_last-clause-gap : goal.returns-then-is_last-clause-gap
returns-then-is_last-clause-gap c =
    gap-last c.args.blocks.now c.args.probe.now c.args.spot.0 c.args.spot.1 (c.args.spot.1 + 1) c.requires.sorted c.requires.there c.requires.below (omega arith) (search rules)

pub returns-then-is_last-clause-belongs : goal.returns-then-is_last-clause-belongs
returns-then-is_last-clause-belongs c =
    belongs-last c.args.blocks.now c.args.probe.now c.args.is_last c.args.spot.0 c.args.spot.1 c.requires.sorted c.requires.there c.requires.below (search rules)
