use Rattle.std.proofs.Common.{◌≡◌, ◌+◌, ◌-◌, refl, subst, arith}
use Rattle.bdb_entries.proofs.ReadLemmas.{none_told, some_told}
use Rattle.bdb_graph.specs.Ups.{HasDepth}
use Rattle.bdb_graph.proofs.UpLemmas.{no_up, up_from}
use Rattle.bdb_graph.proofs.ups.up_of.Goals as goal

pub returns-in-Ok-Some-clause-up : goal.returns-in-Ok-Some-clause-up
returns-in-Ok-Some-clause-up g c =
    let t = (g.K.Keeper.seen c.args.keeper.now).kept in
    let n = c.args.wid in
    let d = c.args.depth in
    let deep : d ≡ (d - 1) + 1 = omega (arith, c.if-depth-eq0.false) in
    let w = c.in-Ok-Some in
    up_from t n d (d - 1) w.start _ deep refl c.requires.depth (some_told _ _ w.field-0 w.start w.field-0-is w.ensures.parent)

pub returns-in-Ok-None-clause-up : goal.returns-in-Ok-None-clause-up
returns-in-Ok-None-clause-up g c =
    let t = (g.K.Keeper.seen c.args.keeper.now).kept in
    let n = c.args.wid in
    let d = c.args.depth in
    let deep : d ≡ (d - 1) + 1 = omega (arith, c.if-depth-eq0.false) in
    let w = c.in-Ok-None in
    no_up t n (d - 1) (subst (HasDepth t n) deep c.requires.depth) (none_told _ _ w.field-0 w.field-0-is w.ensures.parent)
