use Rattle.std.proofs.Common.{◌≡◌, ◌∙◌, ◌+◌, ◌*◌, ◌≤◌, List, ap, sym, subst, length, arith}
use Rattle.bdb_base.specs.declared.kinds.Value.{Value}
use Rattle.bdb_plan.specs.Running.{plus_tuples}
use Rattle.bdb_exec.specs.Keys.{of_key, rows_of_key, values_behind}
use Rattle.bdb_exec.specs.Seen.{sight_of}
use Rattle.bdb_exec.proofs.KeyLemmas.{asked_looks, asked_values}
use Rattle.bdb_exec.proofs.LengthLemmas.{keys_some}
use Rattle.bdb_exec.proofs.looking.plus_tuples_of_key.Given.{Over}
use Rattle.bdb_exec.proofs.looking.plus_tuples_of_key.Goals as goal
use Rattle.bdb_exec.proofs.looking.plus_tuples_of_key.Goals.{In-Ok-plus_tuples_asked}

pub plus_tuples_asked-requires-clause-length : goal.plus_tuples_asked-requires-clause-length
plus_tuples_asked-requires-clause-length g c = c.in-Ok.ensures.length ∙ ap (λ t. (sight_of t).keys c.args.rel) (sym c.in-Ok.ensures.looks.kept)

-- the values that were asked for are those that the state asks for
asked : (g : Over) (c : In-Ok-plus_tuples_asked g)
    → values_behind c.slots.result.now c.args.item c.args.behind.now c.in-Ok.n 0
    ≡ values_behind c.args.state.now.slots c.args.item c.args.behind.now ((sight_of (g.K.Keeper.seen c.args.keeper.now).kept).keys c.args.rel) 0
asked g c =
    ap (λ slots. values_behind slots c.args.item c.args.behind.now c.in-Ok.n 0) c.slots.ensures
    ∙ ap (λ n. values_behind c.args.state.now.slots c.args.item c.args.behind.now n 0) c.in-Ok.ensures.length

-- the rows that were read are those of the state's world
rows : (g : Over) (c : In-Ok-plus_tuples_asked g)
    → (sight_of (g.K.Keeper.seen c.read_key_length.new.keeper).kept).rows c.world-world.result c.args.rel
    ≡ (sight_of (g.K.Keeper.seen c.args.keeper.now).kept).rows c.args.state.now.world c.args.rel
rows g c =
    ap (λ u. (sight_of u).rows c.world-world.result c.args.rel) c.in-Ok.ensures.looks.kept
    ∙ ap (λ w. (sight_of (g.K.Keeper.seen c.args.keeper.now).kept).rows w c.args.rel) c.world-world.ensures

pub returns-in-Ok-plus_tuples_asked-clause-tuples : goal.returns-in-Ok-plus_tuples_asked-clause-tuples
returns-in-Ok-plus_tuples_asked-clause-tuples g c =
    let t = (g.K.Keeper.seen c.args.keeper.now).kept in
    let vals = values_behind c.slots.result.now c.args.item c.args.behind.now c.in-Ok.n 0 in
    let pool = plus_tuples ((sight_of t).rows c.args.state.now.world c.args.rel) in
    c.in-Ok-plus_tuples_asked.ensures.tuples ∙ ap (λ rs. of_key vals (plus_tuples rs)) (rows g c)
    ∙ ap (λ (vs : List Value). of_key vs pool)
    (asked g c ∙ sym (asked_values c.args.state.now.slots c.args.item c.args.behind.now ((sight_of t).keys c.args.rel) c.requires.asks))

pub returns-in-Ok-plus_tuples_asked-clause-reads : goal.returns-in-Ok-plus_tuples_asked-clause-reads
returns-in-Ok-plus_tuples_asked-clause-reads g c =
    let t = (g.K.Keeper.seen c.args.keeper.now).kept in
    let slots = c.args.state.now.slots in
    let keys = (sight_of t).keys c.args.rel in
    let here = (sight_of t).rows c.args.state.now.world c.args.rel in
    let vals = values_behind c.slots.result.now c.args.item c.args.behind.now c.in-Ok.n 0 in
    let old = (g.K.Keeper.seen c.args.keeper.now).reads in
    let mid = (g.K.Keeper.seen c.read_key_length.new.keeper).reads in
    let new = (g.K.Keeper.seen c.plus_tuples_asked.new.keeper).reads in
    let own : new ≤ mid + (2 * length (rows_of_key (values_behind slots c.args.item c.args.behind.now keys 0) here) + 1) =
    subst (λ (vs : List Value). new ≤ mid + (2 * length (rows_of_key vs here) + 1)) (asked g c)
    (subst (λ rs. new ≤ mid + (2 * length (rows_of_key vals rs) + 1)) (rows g c) c.in-Ok-plus_tuples_asked.ensures.reads) in
    let first : mid ≤ old + 1 = c.in-Ok.ensures.reads in
    let all : new ≤ old + (2 * length (rows_of_key (values_behind slots c.args.item c.args.behind.now keys 0) here) + 2) =
    omega (arith, own, first) in
    subst (λ n. new ≤ old + n)
    (asked_looks slots c.args.item c.args.behind.now keys here c.requires.asks (keys_some t c.requires.run c.args.rel)) all
