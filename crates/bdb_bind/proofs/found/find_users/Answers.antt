use Rattle.std.proofs.Common.{◌≡◌, ◌∙◌, ◌∷◌, [], ◌++◌, Some, ap, arith, rules}
use Rattle.bdb_bind.specs.Lookup.{uid_of}
use Rattle.bdb_bind.proofs.PathLemmas.{known_next, path_next}
use Rattle.bdb_bind.proofs.found.find_users.Goals as goal

pub loop-name-preserved : goal.loop-name-preserved
loop-name-preserved c =
    let users = c.args.users.now in
    let names = c.args.names.now in
    let at = c.loop-name.name-index in
    let name = c.name-item.result in
    let here : uid_of users name ≡ Some c.in-Some.uid = search rules in
    let more : c.push.new.self ≡ c.loop-name.ids ++ c.in-Some.uid ∷ [] = search rules in
    record {
      known = c.loop-name.invariant.known ∙ known_next users names at name c.in-Some.uid (omega arith) c.name-item.is here;
      so_far = more ∙ ap (λ ids. ids ++ c.in-Some.uid ∷ []) c.loop-name.invariant.so_far ∙ path_next users names at name c.in-Some.uid (omega arith) c.name-item.is here;
    }
