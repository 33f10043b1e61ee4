use Rattle.std.proofs.Common.{◌≡◌, ◌+◌, ap, refl, arith}
use Rattle.bdb_copy.proofs.CopyLemmas.{all_copied, none_copied}
use Rattle.bdb_copy.proofs.copying.respelled_copy.Goals as goal

pub loop-before-init : goal.loop-before-init
loop-before-init g c = record {
  reading = record {
    goes = record { faults = omega arith; running = refl; last = refl; commits = refl };
    kept = refl;
    writes = refl;
    counts = record { faults = omega arith; reads = omega arith; writes = omega arith; commits = omega arith };
    read = none_copied (g.K.Keeper.seen c.args.keeper.now).kept c.new-copy.result.kept c.requires.tables (ap (λ k. k.kept) c.new-copy.ensures);
  };
  still = ap (λ k. k.running) c.new-copy.ensures;
}

pub returns-clause-copy : goal.returns-clause-copy
returns-clause-copy g c =
    let whole : c.loop-before.before + 1 ≡ 16 = omega (arith, c.loop-before-test.false, c.loop-before.auto.before-end) in
    all_copied (g.K.Keeper.seen c.args.keeper.now).kept c.loop-before.copy.kept (c.loop-before.before + 1) c.requires.tables whole c.loop-before.invariant.reading.read
