use Rattle.std.proofs.Common.{◌≡◌, ◌∙◌, ◌+◌, ◌-◌, ◌≤◌, ap, sym, take, drop, length, subst}
use Rattle.std.specs.List.{flat_map, sum_by}
use Rattle.std.proofs.lemmas.List.{take_rest}
use Rattle.bdb_exec.specs.Coming.{rows_with, looks_with}
use Rattle.bdb_exec.specs.Keys.{choices_before}
use Rattle.bdb_exec.specs.LookUps.{choice_looks, looks_from}
use Rattle.bdb_exec.specs.Seen.{sight_of}
use Rattle.bdb_exec.proofs.KeyLemmas.{some_choices}
use Rattle.bdb_exec.proofs.RunLemmas.{rows_of_choice, looks_of_choice}
use Rattle.bdb_exec.proofs.running.advance.Goals as goal

pub returns-in-Ok-Some-clause-rows : goal.returns-in-Ok-Some-clause-rows
returns-in-Ok-Some-clause-rows g c = λ taken.
    let sight = sight_of (g.K.Keeper.seen c.args.keeper.now).kept in
    let steps = c.args.steps.now in
    let l = c.loop-step in
    let x = c.step-item.result in
    let given : some_choices c.in-Ok-Some.item c.in-Ok-Some.pool ≡ choices_before (sight_of (g.K.Keeper.seen l.keeper).kept) l.state x (take (length steps - (l.done + 1)) (drop (l.done + 1) steps)) = sym c.in-Ok-Some.field-0-is ∙ c.in-Ok-Some.ensures.choices in
    let chosen = given ∙ ap (choices_before (sight_of (g.K.Keeper.seen l.keeper).kept) l.state x) (take_rest steps (l.done + 1)) ∙ ap (λ t. choices_before (sight_of t) l.state x (drop (l.done + 1) steps)) l.invariant.kept
    ∙ ap (λ n. choices_before sight l.state x (drop (n + 1) steps)) l.invariant.read.done in
    rows_of_choice sight taken steps c.args.state l.state l.step-index c.in-Ok-Some.item x c.in-Ok-Some.pool c.loop-step-test.true c.step-item.is chosen (l.invariant.read.rows taken)
    ∙ ap (λ n. flat_map (rows_with sight taken (drop (n + 1) steps) l.state c.in-Ok-Some.item) c.in-Ok-Some.pool) (sym l.invariant.read.done)

pub returns-in-Ok-Some-clause-reads : goal.returns-in-Ok-Some-clause-reads
returns-in-Ok-Some-clause-reads g c =
    let sight = sight_of (g.K.Keeper.seen c.args.keeper.now).kept in
    let steps = c.args.steps.now in
    let l = c.loop-step in
    let x = c.step-item.result in
    let old = (g.K.Keeper.seen c.args.keeper.now).reads in
    let new = (g.K.Keeper.seen c.choices.new.keeper).reads in
    let given : some_choices c.in-Ok-Some.item c.in-Ok-Some.pool ≡ choices_before (sight_of (g.K.Keeper.seen l.keeper).kept) l.state x (take (length steps - (l.done + 1)) (drop (l.done + 1) steps)) = sym c.in-Ok-Some.field-0-is ∙ c.in-Ok-Some.ensures.choices in
    let chosen = given ∙ ap (choices_before (sight_of (g.K.Keeper.seen l.keeper).kept) l.state x) (take_rest steps (l.done + 1)) ∙ ap (λ t. choices_before (sight_of t) l.state x (drop (l.done + 1) steps)) l.invariant.kept
    ∙ ap (λ n. choices_before sight l.state x (drop (n + 1) steps)) l.invariant.read.done in
    let own : new ≤ (g.K.Keeper.seen l.keeper).reads + choice_looks sight l.state x (drop (l.step-index + 1) steps) =
    subst (λ ys. new ≤ (g.K.Keeper.seen l.keeper).reads + choice_looks sight l.state x ys) (take_rest steps (l.done + 1) ∙ ap (λ n. drop (n + 1) steps) l.invariant.read.done)
    (subst (λ t. new ≤ (g.K.Keeper.seen l.keeper).reads + choice_looks (sight_of t) l.state x (take (length steps - (l.done + 1)) (drop (l.done + 1) steps))) l.invariant.kept c.in-Ok-Some.ensures.reads) in
    subst (λ n. new + sum_by (looks_with sight (drop (n + 1) steps) l.state c.in-Ok-Some.item) c.in-Ok-Some.pool ≤ old + looks_from sight steps c.args.state) (sym l.invariant.read.done)
    (looks_of_choice sight steps c.args.state l.state l.step-index c.in-Ok-Some.item x c.in-Ok-Some.pool old (g.K.Keeper.seen l.keeper).reads new c.loop-step-test.true c.step-item.is chosen
    l.invariant.read.reads own)
