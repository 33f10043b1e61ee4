use Rattle.std.proofs.Common.{ℕ, get_or, sym, subst}
use Rattle.std.proofs.lemmas.List.{get_or_default}
use Rattle.bdb_tables.proofs.Loops.{all_at_index}
use Rattle.bdb_leaving.specs.Paths.{IsDeep}
use Rattle.bdb_leaving.proofs.paths.with_paths.Goals as goal

-- what stands in where there is no row
abbrev none : ℕ × ℕ
none = (0, 0)

pub with_path-requires-clause-row : goal.with_path-requires-clause-row
with_path-requires-clause-row g c =
    let t = (g.K.Keeper.seen c.args.keeper.now).kept in
    let i = c.loop-row.row-index in
    let e = get_or c.args.rows.now i none in
    subst (λ u. IsDeep u e) (sym c.loop-row.invariant.kept)
    (all_at_index (IsDeep t) c.args.rows.now i e c.loop-row-test.true (get_or_default c.args.rows.now i none e c.loop-row-test.true) c.requires.rows)
