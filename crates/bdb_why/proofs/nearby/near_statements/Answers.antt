use Rattle.std.proofs.Common.{◌≡◌, ◌∙◌, ◌-◌, length, take, drop, ap, sym, subst, rules}
use Rattle.std.proofs.lemmas.List.{take_rest}
use Rattle.bdb_base.specs.Order.{statement_cmp}
use Rattle.bdb_base.specs.SortedSet.{ascending}
use Rattle.bdb_keep.specs.Tables.{Tables}
use Rattle.bdb_tables.specs.Grammar.{InGrammar}
use Rattle.bdb_tables.specs.Lengths.{IsKeyLength}
use Rattle.bdb_tables.proofs.Loops.{counts_then, goes_then, steps_err, steps_ok, err_steps}
use Rattle.bdb_val.specs.Reads.{HaveTuples}
use Rattle.bdb_why.specs.Reading.{LinksTo, PutsNear, ReadsHere, SomeHaveLink}
use Rattle.bdb_why.proofs.NearbyLemmas.{apart_after, ask_grammar, ask_states, ask_tuples, linked, near_begins, near_ends, onward, past, reads_begin, reads_end_here}
use Rattle.bdb_why.proofs.nearby.near_statements.Goals as goal

pub deepest_state-requires-clause-grammar : goal.deepest_state-requires-clause-grammar
deepest_state-requires-clause-grammar g c = ask_grammar (g.K.Keeper.seen c.args.keeper.now).kept c.args.path.now c.args.t.now c.requires.base

pub deepest_state-requires-clause-states : goal.deepest_state-requires-clause-states
deepest_state-requires-clause-states g c = ask_states (g.K.Keeper.seen c.args.keeper.now).kept c.args.path.now c.args.t.now c.requires.base

pub returns-in-Err-clause-steps : goal.returns-in-Err-clause-steps
returns-in-Err-clause-steps g c = err_steps _ _ _ _ c.in-Err.ensures.steps

pub loop-rest-init : goal.loop-rest-init
loop-rest-init g c =
    let old = g.K.Keeper.seen c.args.keeper.now in
    let now = g.K.Keeper.seen c.deepest_state.new.keeper in
    let path = c.args.path.now in
    let u = c.args.t.now in
    record {
      goes = c.in-Ok.ensures.steps.ok;
      kept = c.in-Ok.ensures.kept;
      writes = c.in-Ok.ensures.writes;
      counts = c.in-Ok.ensures.counts;
      read = record {
        apart = c.requires.apart;
        sorted = ap (ascending statement_cmp) c.new-stmts.ensures;
        ends = c.in-Ok.ensures.at;
        near = near_begins old.kept path u c.new-stmts.result c.new-stmts.ensures;
        reads = reads_begin old.kept path u old.reads now.reads c.in-Ok.ensures.reads;
      };
    }

pub loop-rest-preserved-then-at-end : goal.loop-rest-preserved-then-at-end
loop-rest-preserved-then-at-end g c =
    let old = g.K.Keeper.seen c.args.keeper.now in
    let now = g.K.Keeper.seen c.loop-rest.keeper in
    let path = c.args.path.now in
    let u = c.args.t.now in
    let h = c.loop-rest.invariant in
    let w = c.loop-rest.rest.now in
    let r = take (length w - 1) (drop 1 w) in
    let other : (c.loop-rest.at.1 ≡ length w → ⊥) = search rules in
    let k = past old.kept path u c.loop-rest.at w r c.loop-rest.stmts old.reads now.reads c.in-len1-up.len_at_least (take_rest w 1) other h.read.ends h.read.near h.read.reads in
    record {
      goes = h.goes;
      kept = h.kept;
      writes = h.writes;
      counts = h.counts;
      read = record { apart = apart_after w r (take_rest w 1) h.read.apart; sorted = h.read.sorted; ends = k.0; near = k.1; reads = k.2 };
    }

pub put_near-requires-clause-grammar : goal.put_near-requires-clause-grammar
put_near-requires-clause-grammar g c =
    subst InGrammar (sym c.loop-rest.invariant.kept) (ask_grammar (g.K.Keeper.seen c.args.keeper.now).kept c.args.path.now c.args.t.now c.requires.base)

pub put_near-requires-clause-length : goal.put_near-requires-clause-length
put_near-requires-clause-length g c = subst (λ (t : Tables). IsKeyLength t c.args.t.now.rel c.args.n) (sym c.loop-rest.invariant.kept) c.requires.length

pub put_near-requires-clause-tuples : goal.put_near-requires-clause-tuples
put_near-requires-clause-tuples g c =
    subst HaveTuples (sym c.loop-rest.invariant.kept) (ask_tuples (g.K.Keeper.seen c.args.keeper.now).kept c.args.path.now c.args.t.now c.requires.base)

pub returns-in-Err-put_near-clause-steps : goal.returns-in-Err-put_near-clause-steps
returns-in-Err-put_near-clause-steps g c = steps_err _ _ _ _ _ c.loop-rest.invariant.goes c.in-Err-put_near.ensures.read.steps

pub next_end-requires-clause-grammar : goal.next_end-requires-clause-grammar
next_end-requires-clause-grammar g c =
    subst InGrammar (sym (c.in-Ok-put_near.ensures.read.kept ∙ c.loop-rest.invariant.kept))
    (ask_grammar (g.K.Keeper.seen c.args.keeper.now).kept c.args.path.now c.args.t.now c.requires.base)

pub next_end-requires-clause-linked : goal.next_end-requires-clause-linked
next_end-requires-clause-linked g c =
    let kept = (g.K.Keeper.seen c.args.keeper.now).kept in
    let w = c.loop-rest.rest.now in
    let here : c.loop-rest.at.1 ≡ length w = search rules in
    subst (λ (t : Tables). SomeHaveLink t c.loop-rest.at.0) (sym (c.in-Ok-put_near.ensures.read.kept ∙ c.loop-rest.invariant.kept))
    (linked kept c.args.path.now c.args.t.now c.loop-rest.at w c.in-len1-up.len_at_least here c.loop-rest.invariant.read.ends c.requires.base)

pub returns-in-Err-next_end-clause-steps : goal.returns-in-Err-next_end-clause-steps
returns-in-Err-next_end-clause-steps g c =
    steps_err _ _ _ _ _ (goes_then _ _ _ c.loop-rest.invariant.goes c.in-Ok-put_near.ensures.read.steps.ok) c.in-Err-next_end.ensures.read.steps

pub loop-rest-preserved : goal.loop-rest-preserved
loop-rest-preserved g c =
    let old = g.K.Keeper.seen c.args.keeper.now in
    let now = g.K.Keeper.seen c.loop-rest.keeper in
    let mid = g.K.Keeper.seen c.put_near.new.keeper in
    let new = g.K.Keeper.seen c.next_end.new.keeper in
    let path = c.args.path.now in
    let u = c.args.t.now in
    let h = c.loop-rest.invariant in
    let at = c.loop-rest.at in
    let w = c.loop-rest.rest.now in
    let r = take (length w - 1) (drop 1 w) in
    let xs = c.loop-rest.stmts in
    let ys = c.put_near.new.stmts in
    let to = c.in-Ok-next_end.next in
    let put = c.in-Ok-put_near.ensures in
    let next_one = c.in-Ok-next_end.ensures in
    let here : at.1 ≡ length w = search rules in
    let puts : PutsNear old.kept at.0 w u xs ys = subst (λ (t : Tables). PutsNear t at.0 w u xs ys) h.kept put.put in
    let spent : ReadsHere old.kept at.0 w u now.reads mid.reads = subst (λ (t : Tables). ReadsHere t at.0 w u now.reads mid.reads) h.kept put.reads in
    let links : LinksTo old.kept at.0 to = subst (λ (t : Tables). LinksTo t at.0 to) (put.read.kept ∙ h.kept) next_one.at in
    let k = onward old.kept path u at w r xs ys to old.reads now.reads mid.reads new.reads c.in-len1-up.len_at_least (take_rest w 1) here h.read.ends h.read.near puts links
    put.read.counts.reads next_one.read.counts.reads spent next_one.reads h.read.reads in
    record {
      goes = goes_then old mid new (goes_then old now mid h.goes put.read.steps.ok) next_one.read.steps.ok;
      kept = next_one.read.kept ∙ put.read.kept ∙ h.kept;
      writes = next_one.read.writes ∙ put.read.writes ∙ h.writes;
      counts = counts_then old mid new (counts_then old now mid h.counts put.read.counts) next_one.read.counts;
      read = record { apart = apart_after w r (take_rest w 1) h.read.apart; sorted = put.sorted; ends = k.0; near = k.1; reads = k.2 };
    }

pub put_near-requires-2-clause-grammar : goal.put_near-requires-2-clause-grammar
put_near-requires-2-clause-grammar g c =
    subst InGrammar (sym c.loop-rest.invariant.kept) (ask_grammar (g.K.Keeper.seen c.args.keeper.now).kept c.args.path.now c.args.t.now c.requires.base)

pub put_near-requires-2-clause-length : goal.put_near-requires-2-clause-length
put_near-requires-2-clause-length g c = subst (λ (t : Tables). IsKeyLength t c.args.t.now.rel c.args.n) (sym c.loop-rest.invariant.kept) c.requires.length

pub put_near-requires-2-clause-tuples : goal.put_near-requires-2-clause-tuples
put_near-requires-2-clause-tuples g c =
    subst HaveTuples (sym c.loop-rest.invariant.kept) (ask_tuples (g.K.Keeper.seen c.args.keeper.now).kept c.args.path.now c.args.t.now c.requires.base)

pub returns-in-Ok-put_near-2-clause-near : goal.returns-in-Ok-put_near-2-clause-near
returns-in-Ok-put_near-2-clause-near g c =
    let old = g.K.Keeper.seen c.args.keeper.now in
    let h = c.loop-rest.invariant in
    let at = c.loop-rest.at in
    let w = c.loop-rest.rest.now in
    let xs = c.loop-rest.stmts in
    let ys = c.put_near-2.new.stmts in
    near_ends old.kept c.args.path.now c.args.t.now at w xs ys c.in_default.len_below h.read.ends h.read.near
    (subst (λ (t : Tables). PutsNear t at.0 w c.args.t.now xs ys) h.kept c.in-Ok-put_near-2.ensures.put)

pub returns-in-Ok-put_near-2-clause-reads : goal.returns-in-Ok-put_near-2-clause-reads
returns-in-Ok-put_near-2-clause-reads g c =
    let old = g.K.Keeper.seen c.args.keeper.now in
    let now = g.K.Keeper.seen c.loop-rest.keeper in
    let mid = g.K.Keeper.seen c.put_near-2.new.keeper in
    let h = c.loop-rest.invariant in
    let at = c.loop-rest.at in
    let w = c.loop-rest.rest.now in
    let put = c.in-Ok-put_near-2.ensures in
    reads_end_here old.kept c.args.path.now c.args.t.now at w old.reads now.reads mid.reads c.in_default.len_below h.read.ends put.read.counts.reads
    (subst (λ (t : Tables). ReadsHere t at.0 w c.args.t.now now.reads mid.reads) h.kept put.reads) h.read.reads

pub returns-in-Ok-put_near-2-clause-steps : goal.returns-in-Ok-put_near-2-clause-steps
returns-in-Ok-put_near-2-clause-steps g c = steps_ok _ _ _ _ (goes_then _ _ _ c.loop-rest.invariant.goes c.in-Ok-put_near-2.ensures.read.steps.ok)

pub returns-in-Err-put_near-2-clause-steps : goal.returns-in-Err-put_near-2-clause-steps
returns-in-Err-put_near-2-clause-steps g c = steps_err _ _ _ _ _ c.loop-rest.invariant.goes c.in-Err-put_near-2.ensures.read.steps
