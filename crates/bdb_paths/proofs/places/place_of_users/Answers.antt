use Rattle.std.proofs.Common.{◌≡◌, ◌∙◌, arith, ◌+◌, ◌-◌, ◌/◌, ◌<◌, length, ap}
use Rattle.std.specs.declared.cmp.Ordering.TheVariants.{Less, Equal, Greater}
use Rattle.bdb_base.specs.Order.{path_cmp}
use Rattle.bdb_base.specs.OrderLemmas.{path_exact}
use Rattle.bdb_base.proofs.SetLemmas.{search_up, search_down, search_found}
use Rattle.bdb_paths.proofs.places.place_of_users.Goals as goal

pub loop-low-preserved-in-Less : goal.loop-low-preserved-in-Less
loop-low-preserved-in-Less c =
    let mid = c.loop-low.low + (c.loop-low.high - c.loop-low.low) / 2 in
    let within : mid < length c.args.paths.now = omega arith in
    let less : Less ≡ path_cmp c.index-paths-mid.result c.args.users.now = c.in-Less.ensures.order ∙ ap (λ v. path_cmp v c.args.users.now) c.as_slice.ensures.users in
    record {
      in_order = omega arith;
      within = c.loop-low.invariant.within;
      below = search_up path_exact c.args.paths.now c.args.users.now c.index-paths-mid.result mid c.requires within c.index-paths-mid.is less;
      above = c.loop-low.invariant.above;
    }

pub returns-in-Equal : goal.returns-in-Equal
returns-in-Equal c =
    let mid = c.loop-low.low + (c.loop-low.high - c.loop-low.low) / 2 in
    let within : mid < length c.args.paths.now = omega arith in
    let equal : Equal ≡ path_cmp c.index-paths-mid.result c.args.users.now = c.in-Equal.ensures.order ∙ ap (λ v. path_cmp v c.args.users.now) c.as_slice.ensures.users in
    search_found path_exact c.args.paths.now c.args.users.now c.index-paths-mid.result mid within c.index-paths-mid.is equal

pub loop-low-preserved : goal.loop-low-preserved
loop-low-preserved c =
    let mid = c.loop-low.low + (c.loop-low.high - c.loop-low.low) / 2 in
    let within : mid < length c.args.paths.now = omega arith in
    let greater : Greater ≡ path_cmp c.index-paths-mid.result c.args.users.now = c.in-Greater.ensures.order ∙ ap (λ v. path_cmp v c.args.users.now) c.as_slice.ensures.users in
    record {
      in_order = omega arith;
      within = omega arith;
      below = c.loop-low.invariant.below;
      above = search_down path_exact c.args.paths.now c.args.users.now c.index-paths-mid.result mid c.requires within c.index-paths-mid.is greater;
    }
