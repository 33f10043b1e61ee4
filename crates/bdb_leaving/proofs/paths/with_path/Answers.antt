use Rattle.std.proofs.Common.{◌≡◌, ◌∙◌, false, ap, sym, rules}
use Rattle.bdb_base.specs.Alternation.{alternates}
use Rattle.bdb_leaving.proofs.EdgeLemmas.{named_alternates}
use Rattle.bdb_leaving.proofs.paths.with_path.Goals as goal

pub unreachable-requires : goal.unreachable-requires
unreachable-requires g c =
    let repeats : alternates c.deref.result.now ≡ false = search rules in
    named_alternates (g.K.Keeper.seen c.args.keeper.now).kept c.requires.base c.args.row.now.0 c.in-Ok.users.items c.in-Ok.ensures.users (ap alternates (sym c.deref.ensures.value) ∙ repeats)
