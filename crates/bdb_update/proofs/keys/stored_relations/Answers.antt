use Rattle.std.proofs.Common.{◌≡◌, sym, subst, ◌++◌, [], ◌∷◌, Some, None, rules}
use Rattle.bdb_key.specs.Grammar.{IsNum}
use Rattle.bdb_tables.specs.Codec.{HasAt}
use Rattle.bdb_tables.specs.InUse.{rel_codec}
use Rattle.bdb_tables.specs.Grammar.{InGrammar}
use Rattle.bdb_tables.proofs.Held.{rel_fits}
use Rattle.bdb_tables.proofs.Numbered.{at_old}
use Rattle.bdb_update.proofs.KeyLemmas.{relations_more, relations_none}
use Rattle.bdb_update.proofs.keys.stored_relations.Goals as goal

pub get-requires-clause-grammar : goal.get-requires-clause-grammar
get-requires-clause-grammar g c = rel_fits _ (subst InGrammar (sym c.loop-rel.invariant.kept) c.requires.grammar)

pub returns-in-Ok-None-clause-relations : goal.returns-in-Ok-None-clause-relations
returns-in-Ok-None-clause-relations g c =
    let n = c.loop-rel.rel-counter in
    let num : IsNum n = search rules in
    relations_none (g.K.Keeper.seen c.args.keeper.now).kept n c.loop-rel.rels num
    (at_old rel_codec (g.K.Keeper.seen c.args.keeper.now).kept (g.K.Keeper.seen c.loop-rel.keeper).kept n c.in-Ok-None.field-0 None c.loop-rel.invariant.kept c.in-Ok-None.field-0-is c.in-Ok-None.ensures.found) c.loop-rel.invariant.read

pub loop-rel-preserved : goal.loop-rel-preserved
loop-rel-preserved g c =
    let n = c.loop-rel.rel-counter in
    let num : IsNum n = search rules in
    let row : HasAt rel_codec (g.K.Keeper.seen c.args.keeper.now).kept n (Some c.in-Ok-Some.def) =
    at_old rel_codec (g.K.Keeper.seen c.args.keeper.now).kept (g.K.Keeper.seen c.loop-rel.keeper).kept n c.in-Ok-Some.field-0 (Some c.in-Ok-Some.def) c.loop-rel.invariant.kept c.in-Ok-Some.field-0-is c.in-Ok-Some.ensures.found in
    let more = relations_more (g.K.Keeper.seen c.args.keeper.now).kept n c.in-Ok-Some.def c.loop-rel.rels num row c.loop-rel.invariant.read in
    let pushed : c.push.new.self ≡ c.loop-rel.rels ++ c.in-Ok-Some.def ∷ [] = search rules in
    record { goes = search rules; kept = search rules; writes = search rules; counts = search rules; read = rw pushed more }
