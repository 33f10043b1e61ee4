use Rattle.std.proofs.Common.{◌∙◌, ◌+◌, ◌≤◌, ap, sym, subst, length, take, arith}
use Rattle.bdb_plan.specs.Sight.{rows_deny}
use Rattle.bdb_exec.specs.Keys.{rows_of_key}
use Rattle.bdb_exec.specs.Seen.{sight_of}
use Rattle.bdb_exec.proofs.looking.denies_of.Goals as goal

pub denies_with-requires-clause-length : goal.denies_with-requires-clause-length
denies_with-requires-clause-length g c = c.in-Ok.ensures.length ∙ ap (λ t. (sight_of t).keys c.args.rel) (sym c.in-Ok.ensures.looks.kept)

pub returns-in-Ok-denies_with-clause-denies : goal.returns-in-Ok-denies_with-clause-denies
returns-in-Ok-denies_with-clause-denies g c =
    c.in-Ok-denies_with.ensures.denies ∙ ap (λ t. rows_deny (sight_of t).keys ((sight_of t).rows c.args.world c.args.rel) c.args.tuple.now) c.in-Ok.ensures.looks.kept

pub returns-in-Ok-denies_with-clause-reads : goal.returns-in-Ok-denies_with-clause-reads
returns-in-Ok-denies_with-clause-reads g c =
    let mid = (g.K.Keeper.seen c.read_key_length.new.keeper).reads in
    let new = (g.K.Keeper.seen c.denies_with.new.keeper).reads in
    let t = (g.K.Keeper.seen c.args.keeper.now).kept in
    let own : new ≤ mid + (length (rows_of_key (take ((sight_of t).keys c.args.rel) c.args.tuple.now.vals) ((sight_of t).rows c.args.world c.args.rel)) + 2) =
    subst (λ u. new ≤ mid + (length (rows_of_key (take ((sight_of t).keys c.args.rel) c.args.tuple.now.vals) ((sight_of u).rows c.args.world c.args.rel)) + 2)) c.in-Ok.ensures.looks.kept
    (subst (λ n. new ≤ mid + (length (rows_of_key (take n c.args.tuple.now.vals) ((sight_of (g.K.Keeper.seen c.read_key_length.new.keeper).kept).rows c.args.world c.args.rel)) + 2)) c.in-Ok.ensures.length c.in-Ok-denies_with.ensures.reads) in
    omega (arith, own, c.in-Ok.ensures.reads)
