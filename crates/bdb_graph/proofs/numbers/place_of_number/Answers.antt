use Rattle.std.proofs.Common.{◌≡◌, arith, subst, true, ◌+◌, ◌-◌, ◌/◌, ◌<◌, ◌≤◌, length, map, drop}
use Rattle.std.specs.List.{list_all}
use Rattle.std.specs.Ordering.{is_lt, nat_cmp}
use Rattle.bdb_base.proofs.SetLemmas.{member_belongs}
use Rattle.bdb_graph.proofs.NumberLemmas.{as_many, nat_exact, number_above, number_below, number_found}
use Rattle.bdb_graph.proofs.numbers.place_of_number.Goals as goal

pub loop-low-preserved-in-Less : goal.loop-low-preserved-in-Less
loop-low-preserved-in-Less g c =
    let mid = c.loop-low.low + (c.loop-low.high - c.loop-low.low) / 2 in
    let within : mid < length c.args.items.now = omega arith in
    record {
      in_order = omega arith;
      within = c.loop-low.invariant.within;
      below = number_above g.X.HasNumber.number_of c.args.items.now c.args.number mid c.index-items-mid.result within c.index-items-mid.is c.requires c.in-Less.ensures;
      above = c.loop-low.invariant.above;
    }

pub returns-in-Equal : goal.returns-in-Equal
returns-in-Equal g c =
    let mid = c.loop-low.low + (c.loop-low.high - c.loop-low.low) / 2 in
    let within : mid < length c.args.items.now = omega arith in
    number_found g.X.HasNumber.number_of c.args.items.now c.args.number mid c.index-items-mid.result within c.index-items-mid.is c.in-Equal.ensures

pub loop-low-preserved : goal.loop-low-preserved
loop-low-preserved g c =
    let mid = c.loop-low.low + (c.loop-low.high - c.loop-low.low) / 2 in
    let within : mid < length c.args.items.now = omega arith in
    record {
      in_order = omega arith;
      within = omega arith;
      below = c.loop-low.invariant.below;
      above = number_below g.X.HasNumber.number_of c.args.items.now c.args.number mid c.index-items-mid.result within c.index-items-mid.is c.requires c.in-Greater.ensures;
    }

pub returns : goal.returns
returns g c =
    let same : c.loop-low.high ≡ c.loop-low.low = omega arith in
    let within : c.loop-low.low ≤ length c.args.items.now = omega arith in
    member_belongs nat_exact (map g.X.HasNumber.number_of c.args.items.now) c.args.number c.loop-low.low (record {
      within = as_many g.X.HasNumber.number_of c.args.items.now c.args.number c.loop-low.low within;
      below = c.loop-low.invariant.below;
      above = subst (λ k. list_all (λ y. is_lt (nat_cmp c.args.number y)) (drop k (map g.X.HasNumber.number_of c.args.items.now)) ≡ true) same c.loop-low.invariant.above;
    })
