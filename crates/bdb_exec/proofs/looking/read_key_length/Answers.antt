use Rattle.std.proofs.Common.{◌≡◌, sym, subst}
use Rattle.std.specs.Prelude.{IfSome}
use Rattle.std.specs.Ordering.{nat_cmp}
use Rattle.bdb_base.proofs.Numbers.{same_number}
use Rattle.bdb_exec.specs.Seen.{sight_of}
use Rattle.bdb_exec.proofs.LengthLemmas.{length_is}
use Rattle.bdb_exec.proofs.MemoLemmas.{after_insert}
use Rattle.bdb_exec.proofs.looking.read_key_length.Goals as goal

pub returns-in-Some-clause-length : goal.returns-in-Some-clause-length
returns-in-Some-clause-length g c =
    let t = (g.K.Keeper.seen c.args.keeper.now).kept in
    subst (λ o. IfSome o (λ n. n ≡ (sight_of t).keys c.args.rel)) (sym c.in-Some.ensures.value) (c.requires.memo.5 c.args.rel)

pub returns-in-Ok-insert-clause-length : goal.returns-in-Ok-insert-clause-length
returns-in-Ok-insert-clause-length g c = length_is (g.K.Keeper.seen c.args.keeper.now).kept c.args.rel c.in-Ok.n c.ranges.rel.fits c.in-Ok.ensures.row

pub returns-in-Ok-insert-clause-memo : goal.returns-in-Ok-insert-clause-memo
returns-in-Ok-insert-clause-memo g c =
    let t = (g.K.Keeper.seen c.args.keeper.now).kept in
    let h = c.requires.memo in (
      h.0,
      h.1,
      h.2,
      h.3,
      h.4,
      after_insert nat_cmp c.args.memo.now.lengths c.insert.new.self c.args.rel c.in-Ok.n (λ rel n. n ≡ (sight_of t).keys rel) (same_number c.args.rel)
          (length_is t c.args.rel c.in-Ok.n c.ranges.rel.fits c.in-Ok.ensures.row) c.in-Ok-insert.ensures.updates h.5,
      h.6,
    )
