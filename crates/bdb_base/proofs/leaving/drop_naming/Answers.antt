use Rattle.std.proofs.Common.{not, rules}
use Rattle.std.proofs.lemmas.Fn.{filter_same}
use Rattle.bdb_base.specs.declared.kinds.Stmt.{Stmt}
use Rattle.bdb_base.specs.Changes.{names_user}
use Rattle.bdb_base.proofs.leaving.drop_naming.Goals as goal

pub returns : goal.returns
returns c = filter_same _ (λ (x : Stmt). not (names_user c.args.uid x.path)) _ (λ x b f' k. search rules) _ _ c.retain.ensures
