-- A list of answers is determined by its members.
use Rattle.bdb_queries.proofs.AnswerLemmas.{answers_are_one_list}
use Rattle.bdb_queries.proofs.laws.answers_are_one_list.Goals as goal

pub returns : goal.returns
returns c = answers_are_one_list
