use Rattle.bdb_sql.proofs.ContentLemmas.{left_content}
use Rattle.bdb_sql.proofs.laws.what_a_crash_leaves_has_one_content.Goals as goal

pub returns : goal.returns
returns c = left_content
