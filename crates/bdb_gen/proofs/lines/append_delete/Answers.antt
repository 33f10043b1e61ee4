use Rattle.std.proofs.Common.{◌++◌, codes}
use Rattle.bdb_gen.specs.Scripts.{path_text, with_key}
use Rattle.bdb_gen.proofs.PathLemmas.{twice}
use Rattle.bdb_gen.proofs.lines.append_delete.Goals as goal

pub returns-clause-text : goal.returns-clause-text
returns-clause-text c =
    let rest = twice _ _ _ (path_text c.args.draws.now) (with_key (codes "R where k = ") c.args.key) c.in_ok-append_path.ensures.text c.in_ok-append_with_key.ensures in
    twice c.args.out.now.items _ _ (codes "delete from ") (path_text c.args.draws.now ++ with_key (codes "R where k = ") c.args.key) c.in_ok-extend_from_slice.ensures.items rest
