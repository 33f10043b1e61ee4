use Rattle.std.proofs.Common.{◌≡◌, sym, subst}
use Rattle.std.specs.Prelude.{IfSome}
use Rattle.bdb_tables.proofs.Held.{edges_fit}
use Rattle.bdb_exec.specs.Memos.{pair_cmp}
use Rattle.bdb_exec.specs.Seen.{sight_of}
use Rattle.bdb_exec.proofs.LookingLemmas.{edge_is}
use Rattle.bdb_exec.proofs.MemoLemmas.{after_insert, pair_tied}
use Rattle.bdb_exec.proofs.looking.edge.Goals as goal

pub returns-in-Some-clause-target : goal.returns-in-Some-clause-target
returns-in-Some-clause-target g c =
    let t = (g.K.Keeper.seen c.args.keeper.now).kept in
    subst (λ o. IfSome o (λ target. target ≡ (sight_of t).edge c.args.world c.args.uid)) (sym c.in-Some.ensures.value) (c.requires.memo.3 (c.args.world, c.args.uid))

pub get-requires-2-clause-grammar : goal.get-requires-2-clause-grammar
get-requires-2-clause-grammar g c = edges_fit (g.K.Keeper.seen c.args.keeper.now).kept c.requires.run.grammar

pub returns-in-Ok-insert-clause-target : goal.returns-in-Ok-insert-clause-target
returns-in-Ok-insert-clause-target g c = edge_is (g.K.Keeper.seen c.args.keeper.now).kept c.args.world c.args.uid c.in-Ok.target c.in-Ok.ensures.found

pub returns-in-Ok-insert-clause-memo : goal.returns-in-Ok-insert-clause-memo
returns-in-Ok-insert-clause-memo g c =
    let t = (g.K.Keeper.seen c.args.keeper.now).kept in
    let h = c.requires.memo in (
      h.0,
      h.1,
      h.2,
      after_insert pair_cmp c.args.memo.now.edges c.insert.new.self (c.args.world, c.args.uid) c.in-Ok.target (λ place target. target ≡ (sight_of t).edge place.0 place.1) (pair_tied (c.args.world, c.args.uid))
          (edge_is t c.args.world c.args.uid c.in-Ok.target c.in-Ok.ensures.found) c.in-Ok-insert.ensures.updates h.3,
      h.4,
      h.5,
      h.6,
    )
