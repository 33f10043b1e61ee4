use Rattle.bdb_base.proofs.BaseLemmas.{put_counts_statement}
use Rattle.bdb_base.proofs.validity.put_counts_statement.Goals as goal

pub returns : goal.returns
returns c = put_counts_statement
