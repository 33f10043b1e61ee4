use Rattle.std.proofs.Common.{◌≡◌, true, false, sym, ap, ◌∙◌, rules}
use Rattle.std.specs.Ordering.{is_eq}
use Rattle.bdb_keep.specs.Tables.{bytes_cmp}
use Rattle.bdb_memory.proofs.BlocksLemmas.{stands-found, gap-found}
use Rattle.bdb_memory.proofs.finding.find.Goals as goal

pub returns-then-is_eq-clause-there : goal.returns-then-is_eq-clause-there
returns-then-is_eq-clause-there c =
    let q = c.args.probe.now in
    let eq : is_eq (bytes_cmp c.entry_of.result.now.0 q) ≡ true = search rules in
    stands-found c.args.blocks.now q c.seek-bound.result.0 c.seek-bound.result.1 c.in-Some.spot.0 c.in-Some.spot.1 c.seek-bound.ensures c.in-Some.ensures.there c.in-Some.ensures.before
    (ap (λ e. is_eq (bytes_cmp e.0 q)) (sym c.entry_of.ensures) ∙ eq)

pub returns-else-is_eq-clause-gap : goal.returns-else-is_eq-clause-gap
returns-else-is_eq-clause-gap c =
    let q = c.args.probe.now in
    let eq : is_eq (bytes_cmp c.entry_of.result.now.0 q) ≡ false = search rules in
    gap-found c.args.blocks.now q c.seek-bound.result.0 c.seek-bound.result.1 c.in-Some.spot.0 c.in-Some.spot.1 c.requires c.seek-bound.ensures c.in-Some.ensures.there c.in-Some.ensures.after
    (ap (λ e. is_eq (bytes_cmp e.0 q)) (sym c.entry_of.ensures) ∙ eq)
