use Rattle.bdb_events.proofs.FormLemmas.{forms_are_read}
use Rattle.bdb_events.proofs.laws.forms_are_read.Goals as goal

pub returns : goal.returns
returns c = forms_are_read
