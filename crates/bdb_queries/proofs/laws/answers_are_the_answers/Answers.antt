-- The list of answers is in order, has only answers, and each of them.
use Rattle.bdb_queries.proofs.AnswerLemmas.{answers_are_the_answers}
use Rattle.bdb_queries.proofs.laws.answers_are_the_answers.Goals as goal

pub returns : goal.returns
returns c = answers_are_the_answers
