use Rattle.std.proofs.Common.{◌+◌, sym, sum_by, arith}
use Rattle.std.proofs.lemmas.Bool.{lt-ltb}
use Rattle.bdb_base.specs.Bases.{key_lengths}
use Rattle.bdb_canon.specs.Canonical.{edge_count, row_count}
use Rattle.bdb_canon.proofs.LineLemmas.{left_none}
use Rattle.bdb_canon.proofs.lines.has_more_parts.Goals as goal

pub returns-in-None : goal.returns-in-None
returns-in-None c =
    let edges = sum_by (edge_count c.args.users.now) c.args.states.now in
    let rows = sum_by (row_count (key_lengths c.args.rels.now) c.args.stmts.now) c.args.states.now in
    let more = left_none c.args.most edges c.in-None.ensures in
    sym (lt-ltb c.args.most (edges + rows) (omega arith))
