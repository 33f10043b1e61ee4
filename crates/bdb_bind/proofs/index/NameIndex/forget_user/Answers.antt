use Rattle.std.proofs.Common.{◌≡◌, ℕ, List, None, cond, arith}
use Rattle.std.proofs.lemmas.Map.Text.{text_keys}
use Rattle.std.specs.BTreeMap.{get_by_text}
use Rattle.bdb_base.specs.Same.{same_text}
use Rattle.bdb_bind.proofs.index.NameIndex.forget_user.Goals as goal

pub returns-clause-users : goal.returns-clause-users
returns-clause-users c = λ (q : List ℕ).
    let new : get_by_text c.remove.new.self q ≡ cond (same_text c.args.name.now q) None (get_by_text c.args.self.now.users q) = grind (arith, text_keys) in new
