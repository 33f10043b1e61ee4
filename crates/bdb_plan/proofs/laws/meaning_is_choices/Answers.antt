use Rattle.bdb_plan.proofs.RunLemmas.{meaning_are_choices}
use Rattle.bdb_plan.proofs.laws.meaning_is_choices.Goals as goal

pub returns : goal.returns
returns c = meaning_are_choices
