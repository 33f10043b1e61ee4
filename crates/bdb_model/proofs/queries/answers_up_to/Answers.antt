use Rattle.bdb_model.proofs.AnswerLemmas.{over_domain}
use Rattle.bdb_model.proofs.queries.answers_up_to.Goals as goal

pub returns-clause-domains : goal.returns-clause-domains
returns-clause-domains c = over_domain c.args.base.now c.args.q.now c.args.most c.in_ok-rows.rows c.requires.safe (c.in_ok-rows.ensures c.requires.fits c.requires.safe)
