use Rattle.std.proofs.Common.{◌≡◌, ◌∙◌, ap, sym}
use Rattle.std.specs.Option.{option_copied}
use Rattle.bdb_plan.specs.Running.{plus_tuples}
use Rattle.bdb_exec.specs.Memos.{pair_cmp, pool_of}
use Rattle.bdb_exec.specs.Seen.{signed_under}
use Rattle.bdb_exec.proofs.MemoLemmas.{after_insert, pair_tied, pool_recalled}
use Rattle.bdb_exec.proofs.looking.pool_under.Goals as goal

pub returns-in-Ok-clause-tuples : goal.returns-in-Ok-clause-tuples
returns-in-Ok-clause-tuples g c =
    let t = (g.K.Keeper.seen c.args.keeper.now).kept in
    c.in-Ok.ensures
    ∙ pool_recalled t _ c.as_slice.result.now c.in-Some.tuples.now (sym c.last_pool.ensures ∙ ap option_copied c.in-Some.is) (c.requires.memo.4 c.args.place)
    ∙ ap (λ p. plus_tuples (signed_under t p)) c.as_slice.ensures.value

pub returns-in-Ok-keep_pool-clause-memo : goal.returns-in-Ok-keep_pool-clause-memo
returns-in-Ok-keep_pool-clause-memo g c =
    let t = (g.K.Keeper.seen c.args.keeper.now).kept in
    let h = c.in-Ok-plus_under.ensures.memo in
    let tuples : c.in-Ok-plus_under.tuples ≡ plus_tuples (signed_under t c.args.prefix.items) = c.in-Ok-plus_under.ensures.tuples ∙ ap (λ p. plus_tuples (signed_under t p)) c.as_slice-2.ensures.value in (
      h.0,
      h.1,
      h.2,
      h.3,
      after_insert pair_cmp c.plus_under.new.memo.last_pools c.keep_pool.new.pools c.args.place (pool_of c.args.prefix.items c.in-Ok-plus_under.tuples)
          (λ place pool. pool.tuples ≡ plus_tuples (signed_under t pool.prefix)) (pair_tied c.args.place) tuples c.in-Ok-keep_pool.ensures.kept h.4,
      h.5,
      h.6,
    )
