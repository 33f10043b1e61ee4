use Rattle.std.proofs.Common.{◌≡◌, ◌-◌, suc, [], get_or, Less, Equal, refl, sym, ap, ◌∙◌, arith}
use Rattle.bdb_keep.specs.Tables.{bytes_cmp}
use Rattle.bdb_memory.specs.Blocks.{IsThere, entry_at}
use Rattle.bdb_memory.proofs.BesideLemmas.{belongs-here, stands-here, belongs-between, gap-between}
use Rattle.bdb_memory.proofs.finding.find_before.Goals as goal

pub returns-in-Equal-clause-there : goal.returns-in-Equal-clause-there
returns-in-Equal-clause-there c =
    let q = c.args.probe.now in
    let there : IsThere c.args.blocks.now c.args.spot.0 (c.args.spot.1 - 1) = record { block = c.requires.there.block; index = let i = c.requires.there.index in omega arith } in
    let equal : bytes_cmp (entry_at (get_or c.args.blocks.now c.args.spot.0 []) (c.args.spot.1 - 1)).0 q ≡ Equal = ap (λ e. bytes_cmp e.0 q) (sym c.entry_of.ensures) ∙ sym c.compare.ensures ∙ c.in-Equal.is in
    stands-here c.args.blocks.now q c.args.spot.0 (c.args.spot.1 - 1) c.requires.sorted there equal

pub returns-in-Equal-clause-belongs : goal.returns-in-Equal-clause-belongs
returns-in-Equal-clause-belongs c =
    let q = c.args.probe.now in
    let there : IsThere c.args.blocks.now c.args.spot.0 (c.args.spot.1 - 1) = record { block = c.requires.there.block; index = let i = c.requires.there.index in omega arith } in
    let equal : bytes_cmp (entry_at (get_or c.args.blocks.now c.args.spot.0 []) (c.args.spot.1 - 1)).0 q ≡ Equal = ap (λ e. bytes_cmp e.0 q) (sym c.entry_of.ensures) ∙ sym c.compare.ensures ∙ c.in-Equal.is in
    belongs-here c.args.blocks.now q c.args.is_last c.args.spot.0 (c.args.spot.1 - 1) c.requires.sorted there equal

pub returns-in-Less-clause-gap : goal.returns-in-Less-clause-gap
returns-in-Less-clause-gap c =
    let q = c.args.probe.now in
    let there : IsThere c.args.blocks.now c.args.spot.0 (c.args.spot.1 - 1) = record { block = c.requires.there.block; index = let i = c.requires.there.index in omega arith } in
    let less : bytes_cmp (entry_at (get_or c.args.blocks.now c.args.spot.0 []) (c.args.spot.1 - 1)).0 q ≡ Less = ap (λ e. bytes_cmp e.0 q) (sym c.entry_of.ensures) ∙ sym c.compare.ensures ∙ c.in-Less.is in
    let some = c.if-spot-eq0.false in
    let next : c.args.spot.1 ≡ suc (c.args.spot.1 - 1) = omega (arith, some) in
    gap-between c.args.blocks.now q c.args.spot.0 (c.args.spot.1 - 1) c.args.spot.1 c.args.spot.0 c.args.spot.1 c.requires.sorted there less next c.requires.there refl c.requires.above

pub returns-in-Less-clause-belongs : goal.returns-in-Less-clause-belongs
returns-in-Less-clause-belongs c =
    let q = c.args.probe.now in
    let there : IsThere c.args.blocks.now c.args.spot.0 (c.args.spot.1 - 1) = record { block = c.requires.there.block; index = let i = c.requires.there.index in omega arith } in
    let less : bytes_cmp (entry_at (get_or c.args.blocks.now c.args.spot.0 []) (c.args.spot.1 - 1)).0 q ≡ Less = ap (λ e. bytes_cmp e.0 q) (sym c.entry_of.ensures) ∙ sym c.compare.ensures ∙ c.in-Less.is in
    belongs-between c.args.blocks.now q c.args.is_last c.args.spot.0 (c.args.spot.1 - 1) c.args.spot.0 c.args.spot.1 c.requires.sorted there less c.requires.there c.requires.above
