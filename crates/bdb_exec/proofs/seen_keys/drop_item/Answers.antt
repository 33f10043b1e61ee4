use Rattle.std.proofs.Common.{nat_eq, not, rules}
use Rattle.std.proofs.lemmas.Fn.{filter_same}
use Rattle.bdb_base.specs.declared.kinds.Ref.{Ref}
use Rattle.bdb_exec.proofs.seen_keys.drop_item.Goals as goal

pub returns : goal.returns
returns c = filter_same _ (λ (r : Ref). not (nat_eq r.item c.args.item)) _ (λ x b f' k. search rules) _ _ c.retain.ensures
