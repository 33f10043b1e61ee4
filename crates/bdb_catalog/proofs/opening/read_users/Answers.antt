use Rattle.std.proofs.Common.{◌≡◌, sym, subst, ◌+◌, ◌++◌, [], ◌∷◌, Some, None, rules}
use Rattle.bdb_key.specs.Grammar.{IsNum}
use Rattle.bdb_tables.specs.Codec.{HasAt}
use Rattle.bdb_tables.specs.InUse.{user_codec}
use Rattle.bdb_tables.specs.Grammar.{InGrammar}
use Rattle.bdb_tables.proofs.Held.{user_fits}
use Rattle.bdb_tables.proofs.Numbered.{at_old}
use Rattle.bdb_catalog.proofs.OpeningLemmas.{some_grammar, users_more, users_none}
use Rattle.bdb_catalog.proofs.opening.read_users.Goals as goal

pub get-requires-clause-grammar : goal.get-requires-clause-grammar
get-requires-clause-grammar g c = user_fits _ (subst InGrammar (sym c.loop-number.invariant.kept) (some_grammar (g.K.Keeper.seen c.args.keeper.now).kept c.requires.base))

pub returns-in-Ok-None-clause-users : goal.returns-in-Ok-None-clause-users
returns-in-Ok-None-clause-users g c =
    let n = c.loop-number.number in
    let num : IsNum (n + 1) = search rules in
    users_none (g.K.Keeper.seen c.args.keeper.now).kept n c.loop-number.users num
    (at_old user_codec (g.K.Keeper.seen c.args.keeper.now).kept (g.K.Keeper.seen c.loop-number.keeper).kept (n + 1) c.in-Ok-None.field-0 None c.loop-number.invariant.kept c.in-Ok-None.field-0-is c.in-Ok-None.ensures.found) c.loop-number.invariant.read

pub loop-number-preserved : goal.loop-number-preserved
loop-number-preserved g c =
    let n = c.loop-number.number in
    let num : IsNum (n + 1) = search rules in
    let row : HasAt user_codec (g.K.Keeper.seen c.args.keeper.now).kept (n + 1) (Some c.in-Ok-Some.slot) =
    at_old user_codec (g.K.Keeper.seen c.args.keeper.now).kept (g.K.Keeper.seen c.loop-number.keeper).kept (n + 1) c.in-Ok-Some.field-0 (Some c.in-Ok-Some.slot) c.loop-number.invariant.kept c.in-Ok-Some.field-0-is c.in-Ok-Some.ensures.found in
    let more = users_more (g.K.Keeper.seen c.args.keeper.now).kept n c.in-Ok-Some.slot c.loop-number.users num row c.loop-number.invariant.read in
    let pushed : c.push.new.self ≡ c.loop-number.users ++ c.in-Ok-Some.slot ∷ [] = search rules in
    record { goes = search rules; kept = search rules; writes = search rules; counts = search rules; read = rw pushed more }
