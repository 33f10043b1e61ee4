use Rattle.std.proofs.Common.{◌≡◌, ◌∙◌, ◌≤◌, ◌+◌, List, filter, rules, sym, ap, subst}
use Rattle.bdb_base.specs.declared.kinds.Value.{Value}
use Rattle.bdb_plan.specs.Running.{plus_tuples}
use Rattle.bdb_exec.specs.Keys.{asks_for_key, key_asked, of_key, passes}
use Rattle.bdb_exec.specs.LookUps.{pool_looks}
use Rattle.bdb_exec.specs.Seen.{sight_of}
use Rattle.bdb_exec.proofs.KeyLemmas.{key_passes, none_asked}
use Rattle.bdb_exec.proofs.reading.some_tuples.Goals as goal

pub returns-in-Ok-clause-reads : goal.returns-in-Ok-clause-reads
returns-in-Ok-clause-reads g c =
    let sight = sight_of (g.K.Keeper.seen c.args.keeper.now).kept in
    let old = (g.K.Keeper.seen c.args.keeper.now).reads in
    let new = (g.K.Keeper.seen c.of_relation.new.keeper).reads in
    let rel = c.args.rel in
    let slots = c.args.state.now.slots in
    let rows = sight.rows c.args.state.now.world rel in
    let none = ap (λ zs. asks_for_key zs c.args.item c.args.behind.now) (sym c.slots.ensures) ∙ sym c.asks_for_key.ensures ∙ c.if-not-asks_for_key.true in
    subst (λ (vs : List Value). new ≤ old + pool_looks vs rows) (sym (none_asked slots c.args.item c.args.behind.now (sight.keys rel) none)) c.in-Ok.ensures.reads

pub plus_tuples_of_key-requires-clause-asks : goal.plus_tuples_of_key-requires-clause-asks
plus_tuples_of_key-requires-clause-asks g c = ap (λ zs. asks_for_key zs c.args.item c.args.behind.now) (sym c.slots.ensures) ∙ sym c.asks_for_key.ensures ∙ c.if-not-asks_for_key.false

pub returns-in-Ok-plus_tuples_of_key-clause-pool : goal.returns-in-Ok-plus_tuples_of_key-clause-pool
returns-in-Ok-plus_tuples_of_key-clause-pool g c =
    let sight = sight_of (g.K.Keeper.seen c.args.keeper.now).kept in
    let slots = c.args.state.now.slots in
    let item = c.args.item in
    let test = passes slots item c.args.behind.now in
    let pool = plus_tuples (sight.rows c.args.state.now.world c.args.rel) in
    let given : c.kept.result ≡ filter test (of_key (key_asked (sight.keys c.args.rel) slots item c.args.behind.now) pool) = search rules in
    given ∙ key_passes slots item c.args.behind.now (sight.keys c.args.rel) pool
