use Rattle.std.proofs.Common.{◌≡◌, ℕ, List, Some, None, cond, arith}
use Rattle.std.proofs.lemmas.Grind.{common_steps}
use Rattle.std.proofs.lemmas.Map.Text.{text_keys}
use Rattle.std.specs.BTreeMap.{get_by_text}
use Rattle.bdb_base.specs.Same.{same_text}
use Rattle.bdb_bind.proofs.IndexLemmas.{added}
use Rattle.bdb_bind.proofs.index.add_place.Goals as goal

pub returns-clause-ok : goal.returns-clause-ok
returns-clause-ok c = λ (q : List ℕ).
    let none : get_by_text c.args.places.now c.args.name.now ≡ None = grind (arith, common_steps) in
    let new : get_by_text c.insert.new.self q ≡ cond (same_text c.args.name.now q) (Some c.args.at) (get_by_text c.args.places.now q) = grind (arith, text_keys) in
    added (get_by_text c.args.places.now) c.args.name.now c.args.at q _ none new
