use Rattle.std.proofs.Common.{◌≡◌, ◌∙◌, ap, sym, subst, map, length, arith}
use Rattle.std.specs.List.{AllByRecursion}
use Rattle.bdb_base.proofs.ListLemmas.{length_map}
use Rattle.bdb_plan.specs.Running.{plus_tuples}
use Rattle.bdb_tables.specs.GroupMarks.{numbered}
use Rattle.bdb_exec.specs.Rows.{HasTuple, signed_at, signed_of}
use Rattle.bdb_exec.specs.Seen.{signed_under}
use Rattle.bdb_exec.proofs.WorldLemmas.{typed_under, all_have, shown, told_by_number}
use Rattle.bdb_exec.proofs.looking.plus_under.Goals as goal

pub plus_of-requires-clause-there : goal.plus_of-requires-clause-there
plus_of-requires-clause-there g c =
    let t = (g.K.Keeper.seen c.args.keeper.now).kept in
    let rows = c.in-Ok.ensures.rows in
    let typed = typed_under t c.args.prefix.now rows.entries rows.under in
    subst (λ u. AllByRecursion (HasTuple u) c.as_slice.result.now) (sym c.in-Ok.ensures.read.kept)
    (subst (AllByRecursion (HasTuple t)) (sym (c.as_slice.ensures.value ∙ rows.are)) (all_have t c.requires.run c.args.prefix.now rows.entries typed))

pub returns-in-Ok-plus_of-clause-tuples : goal.returns-in-Ok-plus_of-clause-tuples
returns-in-Ok-plus_of-clause-tuples g c =
    let t = (g.K.Keeper.seen c.args.keeper.now).kept in
    let rows = c.in-Ok.ensures.rows in
    let es = rows.entries in
    let typed = typed_under t c.args.prefix.now es rows.under in
    c.in-Ok-plus_of.ensures.tuples ∙ ap (λ u. plus_tuples (map (signed_at u) c.as_slice.result.now)) c.in-Ok.ensures.read.kept
    ∙ ap (λ xs. plus_tuples (map (signed_at t) xs)) (c.as_slice.ensures.value ∙ rows.are)
    ∙ ap plus_tuples (sym (shown t c.args.prefix.now es typed ∙ told_by_number t es))

pub returns-in-Ok-plus_of-clause-reads : goal.returns-in-Ok-plus_of-clause-reads
returns-in-Ok-plus_of-clause-reads g c =
    let t = (g.K.Keeper.seen c.args.keeper.now).kept in
    let rows = c.in-Ok.ensures.rows in
    let es = rows.entries in
    let typed = typed_under t c.args.prefix.now es rows.under in
    let many : length (signed_under t c.args.prefix.now) ≡ length es = ap length (shown t c.args.prefix.now es typed) ∙ length_map (signed_of t) es in
    let told : length c.in-Ok.entries.items ≡ length es = ap length rows.are ∙ length_map numbered es in
    let slice : length c.as_slice.result.now ≡ length c.in-Ok.entries.items = ap length c.as_slice.ensures.value in
    omega (arith, many, told, slice, c.in-Ok.ensures.reads, c.in-Ok-plus_of.ensures.reads)
