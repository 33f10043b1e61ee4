use Rattle.std.proofs.Common.{◌≡◌, ◌++◌, [], ◌∷◌, rules}
use Rattle.std.proofs.lemmas.Result.{IfOk-weaker}
use Rattle.bdb_tables.specs.Codec.{HasLeast}
use Rattle.bdb_tables.proofs.Held.{first_after}
use Rattle.bdb_tables.proofs.access.after.Goals as goal

pub returns-clause-found : goal.returns-clause-found
returns-clause-found g c =
    let codec = g.T.Tab.codec in
    let kept = (g.K.Keeper.seen c.args.keeper.now).kept in
    let fits : codec.IsKey c.args.key.now = search rules in
    let bytes : c.deref.result.now ≡ codec.key_bytes c.args.key.now ++ 0 ∷ [] = search rules in
    IfOk-weaker c.first_from.result (HasLeast codec kept c.deref.result.now) _ (λ found h. first_after codec g.met.T.Tab.in_order kept c.args.key.now fits found (rw (← bytes) h)) c.first_from.ensures.found
