use Rattle.bdb_gen.proofs.PathLemmas.{twice}
use Rattle.bdb_gen.proofs.lines.append_first_lines.Goals as goal

pub returns : goal.returns
returns c = twice _ _ _ _ _ c.in_ok-append_users.ensures c.in_ok-append_relation_line.ensures
