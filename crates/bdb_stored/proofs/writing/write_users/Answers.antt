use Rattle.std.proofs.Common.{◌∙◌, ◌<◌, List, ap, get_or, length, refl, subst}
use Rattle.bdb_base.specs.declared.kinds.UserSlot.{UserSlot}
use Rattle.bdb_tables.proofs.Loops.{goes_then, counts_then}
use Rattle.bdb_stored.specs.Writing.{with_users}
use Rattle.bdb_stored.proofs.WritingLemmas.{place_added, place_may}
use Rattle.bdb_stored.proofs.writing.write_users.Goals as goal

pub write_place-requires-clause-base : goal.write_place-requires-clause-base
write_place-requires-clause-base g c =
    let k = c.loop-at.at in
    let slot = c.index-users-at.result in
    let same = c.as_slice-users.ensures in
    record {
      base = with_users c.args.catalog.now k;
      may = place_may c.args.catalog.now c.requires.catalog k slot (subst (λ (xs : List UserSlot). k < length xs) same c.loop-at-test.true) (c.index-users-at.is ∙ ap (λ (xs : List UserSlot). get_or xs k slot) same)
          (g.K.Keeper.seen c.loop-at.keeper).kept _ refl c.loop-at.invariant.stored;
    }

pub loop-at-preserved : goal.loop-at-preserved
loop-at-preserved g c =
    let k = c.loop-at.at in
    let slot = c.index-users-at.result in
    let same = c.as_slice-users.ensures in
    record {
      stored = place_added c.args.catalog.now c.requires.catalog k slot (subst (λ (xs : List UserSlot). k < length xs) same c.loop-at-test.true) (c.index-users-at.is ∙ ap (λ (xs : List UserSlot). get_or xs k slot) same)
          (g.K.Keeper.seen c.loop-at.keeper).kept (g.K.Keeper.seen c.write_place.new.keeper).kept _ refl c.loop-at.invariant.stored c.in-Ok.ensures.added;
      counts = counts_then _ _ _ c.loop-at.invariant.counts c.in-Ok.ensures.counts;
      goes_on = goes_then _ _ _ c.loop-at.invariant.goes_on c.in-Ok.ensures.steps.ok;
    }
