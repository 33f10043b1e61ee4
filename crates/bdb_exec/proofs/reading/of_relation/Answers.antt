use Rattle.std.proofs.Common.{◌≡◌, ◌∙◌, ap, sym, subst, filter}
use Rattle.std.specs.Prelude.{IfSome}
use Rattle.bdb_plan.specs.Running.{plus_tuples}
use Rattle.bdb_exec.specs.Indexes.{place_pool}
use Rattle.bdb_exec.specs.Keys.{passes}
use Rattle.bdb_exec.specs.Memos.{pair_cmp}
use Rattle.bdb_exec.specs.Seen.{sight_of}
use Rattle.bdb_exec.proofs.MemoLemmas.{after_insert, pair_tied}
use Rattle.bdb_exec.proofs.reading.of_relation.Goals as goal

pub returns-in-Ok-clause-pool : goal.returns-in-Ok-clause-pool
returns-in-Ok-clause-pool g c =
    let t = (g.K.Keeper.seen c.args.keeper.now).kept in
    let sight = sight_of t in
    let item = c.args.item in
    let behind = c.args.behind.now in
    let slots = c.args.state.now.slots in
    let all : c.as_slice-all.result.now ≡ place_pool t (c.world-world.result, c.args.rel) = c.as_slice-all.ensures
    ∙ subst (λ o. IfSome o (λ pool. pool ≡ plus_tuples (sight.rows c.world-world.result c.args.rel))) (sym c.in-Some.ensures.value) (c.requires.memo.2 (c.world-world.result, c.args.rel)) in
    c.in-Ok.ensures.pool t all c.requires.memo.6
    ∙ ap (λ zs. filter (passes zs item behind) c.as_slice-all.result.now) c.slots-slots.ensures
    ∙ ap (filter (passes slots item behind)) all
    ∙ ap (λ w. filter (passes slots item behind) (plus_tuples (sight.rows w c.args.rel))) c.world-world.ensures

pub returns-in-Ok-clause-memo : goal.returns-in-Ok-clause-memo
returns-in-Ok-clause-memo g c =
    let t = (g.K.Keeper.seen c.args.keeper.now).kept in
    let all : c.as_slice-all.result.now ≡ place_pool t (c.world-world.result, c.args.rel) = c.as_slice-all.ensures
    ∙ subst (λ o. IfSome o (λ pool. pool ≡ plus_tuples ((sight_of t).rows c.world-world.result c.args.rel))) (sym c.in-Some.ensures.value) (c.requires.memo.2 (c.world-world.result, c.args.rel)) in
    let h = c.requires.memo in (
      h.0,
      h.1,
      h.2,
      h.3,
      h.4,
      h.5,
      c.in-Ok.ensures.indexes t all h.6,
    )

pub returns-in-Ok-insert-clause-memo : goal.returns-in-Ok-insert-clause-memo
returns-in-Ok-insert-clause-memo g c =
    let t = (g.K.Keeper.seen c.args.keeper.now).kept in
    let sight = sight_of t in
    let h = c.in-Ok-plus_tuples.ensures.memo in (
      h.0,
      h.1,
      after_insert pair_cmp c.plus_tuples.new.memo.pools c.insert.new.self (c.world-world.result, c.args.rel) c.in-Ok-plus_tuples.all (λ place pool. pool ≡ plus_tuples (sight.rows place.0 place.1))
          (pair_tied (c.world-world.result, c.args.rel)) c.in-Ok-plus_tuples.ensures.tuples c.in-Ok-insert.ensures.updates h.2,
      h.3,
      h.4,
      h.5,
      h.6,
    )
