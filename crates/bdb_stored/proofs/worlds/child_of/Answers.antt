use Rattle.std.proofs.Common.{◌≡◌, ◌+◌, length, Some, None, refl, sym, subst, rules}
use Rattle.bdb_tables.specs.Grammar.{InGrammar}
use Rattle.bdb_tables.specs.InUse.{depth_codec, edge_codec}
use Rattle.bdb_tables.proofs.Numbered.{at_old}
use Rattle.bdb_tables.proofs.Held.{depths_fit, edges_fit}
use Rattle.bdb_stored.proofs.ChildLemmas.{told_child, told_no_deeper, told_no_depth, told_no_edge, told_no_path}
use Rattle.bdb_stored.proofs.worlds.child_of.Goals as goal

pub get-requires-clause-grammar : goal.get-requires-clause-grammar
get-requires-clause-grammar g c = edges_fit (g.K.Keeper.seen c.args.keeper.now).kept c.requires.grammar

pub returns-in-Ok-None-clause-child : goal.returns-in-Ok-None-clause-child
returns-in-Ok-None-clause-child g c =
    let t = (g.K.Keeper.seen c.args.keeper.now).kept in
    let x = c.args.world.now in
    told_no_edge t x c.args.uid (at_old edge_codec t t (x.wid, c.args.uid) c.in-Ok-None.field-0 None refl c.in-Ok-None.field-0-is c.in-Ok-None.ensures.found)

pub get-requires-2-clause-grammar : goal.get-requires-2-clause-grammar
get-requires-2-clause-grammar g c = depths_fit _ (subst InGrammar (sym c.in-Ok-Some.ensures.read.kept) c.requires.grammar)

pub returns-in-Ok-None-get-clause-child : goal.returns-in-Ok-None-get-clause-child
returns-in-Ok-None-get-clause-child g c =
    let t = (g.K.Keeper.seen c.args.keeper.now).kept in
    let x = c.args.world.now in
    told_no_depth t x c.args.uid c.in-Ok-Some.target
    (at_old edge_codec t t (x.wid, c.args.uid) c.in-Ok-Some.field-0 (Some c.in-Ok-Some.target) refl c.in-Ok-Some.field-0-is c.in-Ok-Some.ensures.found)
    (at_old depth_codec t (g.K.Keeper.seen c.get.new.keeper).kept c.in-Ok-Some.target c.in-Ok-None-get.field-0 None c.in-Ok-Some.ensures.read.kept c.in-Ok-None-get.field-0-is c.in-Ok-None-get.ensures.found)

pub returns-then-depth-as_slice-clause-child : goal.returns-then-depth-as_slice-clause-child
returns-then-depth-as_slice-clause-child g c =
    let t = (g.K.Keeper.seen c.args.keeper.now).kept in
    let x = c.args.world.now in
    let other : (c.in-Ok-Some-get.depth ≡ length x.path + 1 → ⊥) = search rules in
    told_no_deeper t x c.args.uid c.in-Ok-Some.target
    (at_old edge_codec t t (x.wid, c.args.uid) c.in-Ok-Some.field-0 (Some c.in-Ok-Some.target) refl c.in-Ok-Some.field-0-is c.in-Ok-Some.ensures.found)
    c.in-Ok-Some-get.depth
    (at_old depth_codec t (g.K.Keeper.seen c.get.new.keeper).kept c.in-Ok-Some.target c.in-Ok-Some-get.field-0 (Some c.in-Ok-Some-get.depth) c.in-Ok-Some.ensures.read.kept c.in-Ok-Some-get.field-0-is c.in-Ok-Some-get.ensures.found)
    other

pub returns-in-Ok-clause-child : goal.returns-in-Ok-clause-child
returns-in-Ok-clause-child g c =
    let t = (g.K.Keeper.seen c.args.keeper.now).kept in
    let x = c.args.world.now in
    let same : c.in-Ok-Some-get.depth ≡ length x.path + 1 = search rules in
    told_child t x c.args.uid c.in-Ok-Some.target
    (at_old edge_codec t t (x.wid, c.args.uid) c.in-Ok-Some.field-0 (Some c.in-Ok-Some.target) refl c.in-Ok-Some.field-0-is c.in-Ok-Some.ensures.found)
    c.in-Ok-Some-get.depth c.in-Ok.path
    (at_old depth_codec t (g.K.Keeper.seen c.get.new.keeper).kept c.in-Ok-Some.target c.in-Ok-Some-get.field-0 (Some c.in-Ok-Some-get.depth) c.in-Ok-Some.ensures.read.kept c.in-Ok-Some-get.field-0-is c.in-Ok-Some-get.ensures.found)
    same c.in-Ok.ensures.path

pub returns-in-Err-Repeat-clause-child : goal.returns-in-Err-Repeat-clause-child
returns-in-Err-Repeat-clause-child g c = told_no_path (g.K.Keeper.seen c.args.keeper.now).kept c.args.world.now c.args.uid (search rules)
