use Rattle.std.proofs.Common.{ap, sym, subst}
use Rattle.std.specs.Prelude.{IfSome, is_some}
use Rattle.std.specs.Ordering.{nat_cmp}
use Rattle.bdb_base.proofs.Numbers.{same_number}
use Rattle.bdb_tables.specs.Codec.{HasRow}
use Rattle.bdb_tables.specs.InUse.{tuple_codec}
use Rattle.bdb_exec.proofs.MemoLemmas.{after_insert}
use Rattle.bdb_exec.proofs.looking.tuple_of.Goals as goal

pub returns-in-Ok-clause-tuple : goal.returns-in-Ok-clause-tuple
returns-in-Ok-clause-tuple g c =
    let t = (g.K.Keeper.seen c.args.keeper.now).kept in
    subst (λ u. HasRow tuple_codec t c.args.tid u) (sym c.in-Ok.ensures)
    (subst (λ o. IfSome o (λ u. HasRow tuple_codec t c.args.tid u)) (sym c.in-Some.ensures.value) (c.requires.memo.1 c.args.tid))

pub read_tuple-requires-clause-grammar : goal.read_tuple-requires-clause-grammar
read_tuple-requires-clause-grammar g c = c.requires.run.grammar

pub read_tuple-requires-clause-there : goal.read_tuple-requires-clause-there
read_tuple-requires-clause-there g c = ap is_some c.requires.there.1.found

pub returns-in-Ok-keep_tuple-clause-memo : goal.returns-in-Ok-keep_tuple-clause-memo
returns-in-Ok-keep_tuple-clause-memo g c =
    let t = (g.K.Keeper.seen c.args.keeper.now).kept in
    let h = c.requires.memo in (
      h.0,
      after_insert nat_cmp c.args.memo.now.tuples c.keep_tuple.new.tuples c.args.tid c.in-Ok-read_tuple.tuple (λ tid u. HasRow tuple_codec t tid u) (same_number c.args.tid) c.in-Ok-read_tuple.ensures.tuple
          c.in-Ok-keep_tuple.ensures.kept h.1,
      h.2,
      h.3,
      h.4,
      h.5,
      h.6,
    )
