use Rattle.std.proofs.Common.{◌≡◌, ◌∙◌, ◌+◌, ◌≤◌, None, Some, true, drop, ap, sym, length, reverse, subst, rules}
use Rattle.std.specs.List.{flat_map, sum_by}
use Rattle.std.proofs.lemmas.Bool.{eqb-true}
use Rattle.std.proofs.lemmas.List.{take_rest}
use Rattle.bdb_base.specs.Queries.{option_list}
use Rattle.bdb_queries.specs.Slots.{known_row}
use Rattle.bdb_plan.specs.Running.{rows_from, with_slot}
use Rattle.bdb_queries.specs.Collected.{with_rows}
use Rattle.bdb_queries.proofs.CollectedLemmas.{with_rows_full}
use Rattle.bdb_tables.specs.declared.tab.TabError.TheVariants.{Fault}
use Rattle.bdb_tables.proofs.Loops.{only_reads_more}
use Rattle.bdb_exec.specs.Coming.{rows_with, looks_with}
use Rattle.bdb_exec.specs.LookUps.{looks_from}
use Rattle.bdb_exec.specs.Memos.{Recalls}
use Rattle.bdb_exec.specs.Seen.{sight_of}
use Rattle.bdb_exec.specs.Readable.{CanBeRun}
use Rattle.bdb_exec.specs.SeenKeys.{HasSeen, add_nothing, behind_tests}
use Rattle.bdb_exec.proofs.RunLemmas.{rows_after_turn, looks_after_turn, looks_at_end, rows_of_last, looks_of_last, none_left}
use Rattle.bdb_exec.proofs.SeenKeyLemmas.{end_part, no_rows, nothing_added, nothing_then, rest_looks, rest_rows, seen_more, seen_still}
use Rattle.bdb_exec.proofs.running.+running.Goals as goal

pub run_each-loop-tuple-preserved : goal.run_each-loop-tuple-preserved
run_each-loop-tuple-preserved g t c =
    let old = g.K.Keeper.seen c.args.keeper.now in
    let now = g.K.Keeper.seen c.loop-tuple.keeper in
    let new = g.K.Keeper.seen c.run-in-Some.new.keeper in
    let sight = sight_of old.kept in
    let steps = c.args.steps.now in
    let item = c.args.choosing.item in
    let here = c.args.choosing.state in
    let h = c.loop-tuple.invariant in
    let x = c.in-Some.tuple in
    let left = c.loop-tuple.left.items in
    let more = c.pop.new.self.items in
    let F = rows_with sight c.args.plan.now.take steps here item in
    let G = looks_with sight steps here item in
    let next : c.in-Ok-copy_with.next ≡ with_slot here item x = c.in-Ok-copy_with.ensures ∙ ap (λ s. with_slot s item x) h.read.here in
    let rows : c.run-in-Some.new.found ≡ with_rows c.loop-tuple.found (F x) = c.in-Ok-run.ensures.rows
    ∙ ap (λ u. with_rows c.loop-tuple.found (rows_from (sight_of u) c.args.plan.now.take steps c.in-Ok-copy_with.next)) h.kept
    ∙ ap (λ s. with_rows c.loop-tuple.found (rows_from sight c.args.plan.now.take steps s)) next in
    let reads : new.reads ≤ now.reads + G x = subst (λ s. new.reads ≤ now.reads + looks_from sight steps s) next
    (subst (λ u. new.reads ≤ now.reads + looks_from (sight_of u) steps c.in-Ok-copy_with.next) h.kept c.in-Ok-run.ensures.reads) in
    only_reads_more old now new c.in-Ok-run.field-0 Fault h c.in-Ok-run.ensures.looks (record {
      here = h.read.here;
      rows = rows_after_turn F c.loop-tuple.found c.run-in-Some.new.found (with_rows c.args.found.now (flat_map F c.args.choosing.pool)) left more x c.in-Some.ensures.items rows h.read.rows;
      reads = looks_after_turn G left more x now.reads new.reads (old.reads + sum_by G c.args.choosing.pool) c.in-Some.ensures.items h.read.reads reads;
      memo = subst (λ u. Recalls u c.run-in-Some.new.memo) h.kept c.in-Ok-run.ensures.memo;
      keys = subst (λ u. HasSeen (sight_of u) c.args.plan.now c.run-in-Some.new.found c.run-in-Some.new.keys) h.kept c.in-Ok-run.ensures.keys;
    })

pub run_each-returns-then-not-has_room-clause-rows : goal.run_each-returns-then-not-has_room-clause-rows
run_each-returns-then-not-has_room-clause-rows g t c =
    let F = rows_with (sight_of (g.K.Keeper.seen c.args.keeper.now).kept) c.args.plan.now.take c.args.steps.now c.args.choosing.state c.args.choosing.item in
    sym (with_rows_full c.loop-tuple.found (flat_map F (reverse c.loop-tuple.left.items)) (sym c.has_room.ensures ∙ c.if-not-has_room.true)) ∙ c.loop-tuple.invariant.read.rows

pub run_each-returns-then-not-has_room-clause-reads : goal.run_each-returns-then-not-has_room-clause-reads
run_each-returns-then-not-has_room-clause-reads g t c =
    let old = g.K.Keeper.seen c.args.keeper.now in
    let G = looks_with (sight_of old.kept) c.args.steps.now c.args.choosing.state c.args.choosing.item in
    looks_at_end G c.loop-tuple.left.items (g.K.Keeper.seen c.loop-tuple.keeper).reads (old.reads + sum_by G c.args.choosing.pool) c.loop-tuple.invariant.read.reads

pub run_each-returns-in-Ok-clause-rows : goal.run_each-returns-in-Ok-clause-rows
run_each-returns-in-Ok-clause-rows g t c =
    let sight = sight_of (g.K.Keeper.seen c.args.keeper.now).kept in
    let steps = c.args.steps.now in
    let take = c.args.plan.now.take in
    let F = rows_with sight take steps c.args.choosing.state c.args.choosing.item in
    let h = c.loop-tuple.invariant in
    let more = c.pop.new.self.items in
    let empty = none_left more (ap length (sym c.as_slice.ensures.value) ∙ eqb-true (length c.as_slice.result.now) 0 (sym c.is_empty.ensures ∙ c.if-is_empty.true)) in
    rows_of_last F c.loop-tuple.found _ (with_rows c.args.found.now (flat_map F c.args.choosing.pool)) c.loop-tuple.left.items more c.in-Some.tuple c.in-Some.ensures.items empty
    (rows_from (sight_of (g.K.Keeper.seen c.loop-tuple.keeper).kept) take steps c.with-last.result) c.in-Ok.ensures.rows
    (ap (λ u. rows_from (sight_of u) take steps c.with-last.result) h.kept ∙ ap (rows_from sight take steps) (c.with-last.ensures ∙ ap (λ s. with_slot s c.args.choosing.item c.in-Some.tuple) h.read.here)) h.read.rows

pub run_each-returns-in-Ok-clause-reads : goal.run_each-returns-in-Ok-clause-reads
run_each-returns-in-Ok-clause-reads g t c =
    let old = g.K.Keeper.seen c.args.keeper.now in
    let sight = sight_of old.kept in
    let steps = c.args.steps.now in
    let G = looks_with sight steps c.args.choosing.state c.args.choosing.item in
    let h = c.loop-tuple.invariant in
    looks_of_last G c.loop-tuple.left.items c.pop.new.self.items c.in-Some.tuple (g.K.Keeper.seen c.loop-tuple.keeper).reads _ (old.reads + sum_by G c.args.choosing.pool) c.in-Some.ensures.items
    (looks_from (sight_of (g.K.Keeper.seen c.loop-tuple.keeper).kept) steps c.with-last.result) c.in-Ok.ensures.reads
    (ap (λ u. looks_from (sight_of u) steps c.with-last.result) h.kept ∙ ap (looks_from sight steps) (c.with-last.ensures ∙ ap (λ s. with_slot s c.args.choosing.item c.in-Some.tuple) h.read.here)) h.read.reads

pub run-returns-in-None-clause-rows : goal.run-returns-in-None-clause-rows
run-returns-in-None-clause-rows g t c =
    let sight = sight_of (g.K.Keeper.seen c.args.keeper.now).kept in
    let steps = c.args.steps.now in
    let refused : None ≡ behind_tests c.args.state.slots steps = c.in-None.ensures.rest ∙ ap (λ slots. behind_tests slots steps) c.slots.ensures in
    ap (with_rows c.args.found.now) (no_rows sight c.args.plan.now.take steps c.args.state refused)

pub run-run_once-requires : goal.run-run_once-requires
run-run_once-requires g t c κs within =
    (search rules, (search rules, (c.requires.run, (c.requires.memo, (end_part c.args.plan.now.steps c.args.steps.now c.in-Some.done c.requires.end, c.requires.keys)))))

pub run-returns-in-Ok-clause-rows : goal.run-returns-in-Ok-clause-rows
run-returns-in-Ok-clause-rows g t c =
    let sight = sight_of (g.K.Keeper.seen c.args.keeper.now).kept in
    let steps = c.args.steps.now in
    let columns = c.args.plan.now.take in
    let left : Some (drop c.in-Some.done steps) ≡ behind_tests c.args.state.slots steps = c.in-Some.ensures.rest ∙ ap (λ slots. behind_tests slots steps) c.slots.ensures in
    c.in-Ok.ensures.rows
    ∙ ap (λ xs. with_rows c.args.found.now (rows_from sight columns xs c.args.state)) (take_rest steps c.in-Some.done)
    ∙ ap (with_rows c.args.found.now) (rest_rows sight columns steps c.args.state c.in-Some.done left)

pub run-returns-in-Ok-clause-reads : goal.run-returns-in-Ok-clause-reads
run-returns-in-Ok-clause-reads g t c =
    let old = g.K.Keeper.seen c.args.keeper.now in
    let new = g.K.Keeper.seen c.run_once.new.keeper in
    let sight = sight_of old.kept in
    let steps = c.args.steps.now in
    let left : Some (drop c.in-Some.done steps) ≡ behind_tests c.args.state.slots steps = c.in-Some.ensures.rest ∙ ap (λ slots. behind_tests slots steps) c.slots.ensures in
    subst (λ n. new.reads ≤ old.reads + n)
    (ap (λ xs. looks_from sight xs c.args.state) (take_rest steps c.in-Some.done) ∙ rest_looks sight steps c.args.state c.in-Some.done left)
    c.in-Ok.ensures.reads

pub run_each-run-requires : goal.run_each-run-requires
run_each-run-requires g t c κs within =
    let h = c.loop-tuple.invariant in (
      search rules,
      (
        search rules,
        (
          subst CanBeRun (sym h.kept) c.requires.run,
          (
            subst (λ u. Recalls u c.loop-tuple.memo) (sym h.kept) h.read.memo,
            (
              c.requires.end,
              subst (λ u. HasSeen (sight_of u) c.args.plan.now c.loop-tuple.found c.loop-tuple.keys) (sym h.kept) h.read.keys,
            ),
          ),
        ),
      ),
    )

pub run_each-returns-in-Ok-clause-keys : goal.run_each-returns-in-Ok-clause-keys
run_each-returns-in-Ok-clause-keys g t c = subst (λ u. HasSeen (sight_of u) c.args.plan.now c.run.new.found c.run.new.keys) c.loop-tuple.invariant.kept c.in-Ok.ensures.keys

pub run_each-run-requires-in-Some : goal.run_each-run-requires-in-Some
run_each-run-requires-in-Some g t c κs within =
    let h = c.loop-tuple.invariant in (
      search rules,
      (
        search rules,
        (
          subst CanBeRun (sym h.kept) c.requires.run,
          (
            subst (λ u. Recalls u c.loop-tuple.memo) (sym h.kept) h.read.memo,
            (
              c.requires.end,
              subst (λ u. HasSeen (sight_of u) c.args.plan.now c.loop-tuple.found c.loop-tuple.keys) (sym h.kept) h.read.keys,
            ),
          ),
        ),
      ),
    )

pub run_key-returns-then-has-clause-rows : goal.run_key-returns-then-has-clause-rows
run_key-returns-then-has-clause-rows g t c =
    let rows = rows_from (sight_of (g.K.Keeper.seen c.args.keeper.now).kept) c.args.plan.now.take c.args.steps.now c.args.state in
    nothing_added c.args.found.now rows
    (c.requires.keys c.args.steps.now c.args.state c.args.key c.requires.end c.requires.key (sym c.has.ensures ∙ c.if-has.true))

pub run_key-returns-in-Ok-add-clause-keys : goal.run_key-returns-in-Ok-add-clause-keys
run_key-returns-in-Ok-add-clause-keys g t c =
    let sight = sight_of (g.K.Keeper.seen c.args.keeper.now).kept in
    let plan = c.args.plan.now in
    let found = c.run_steps.new.found in
    let rows = rows_from sight plan.take c.args.steps.now c.args.state in
    let nothing = subst (λ f. add_nothing f rows ≡ true) (sym c.in-Ok.ensures.rows) (nothing_then c.args.found.now rows) in
    subst (HasSeen sight plan found) (sym c.in-Ok-add.ensures)
    (seen_more sight plan found c.run_steps.new.keys c.args.steps.now c.args.state c.args.key c.in-Ok.ensures.keys c.requires.end c.requires.key nothing)

pub run_steps-returns-in-Ok-clause-keys : goal.run_steps-returns-in-Ok-clause-keys
run_steps-returns-in-Ok-clause-keys g t c =
    let sight = sight_of (g.K.Keeper.seen c.args.keeper.now).kept in
    let plan = c.args.plan.now in
    subst (λ f. HasSeen sight plan f c.args.keys.now) (sym c.in-Ok.ensures)
    (seen_still sight plan c.args.found.now c.args.keys.now (option_list (known_row c.in-Ok-End.state.slots c.take.result.now)) c.requires.keys)

pub run_steps-run_each-requires : goal.run_steps-run_each-requires
run_steps-run_each-requires g t c κs within =
    let kept = c.in-Ok-Choice.ensures.looks.kept in (
      search rules,
      (
        search rules,
        (
          subst CanBeRun (sym kept) c.requires.run,
          (
            subst (λ u. Recalls u c.advance.new.memo) (sym kept) c.in-Ok-Choice.ensures.memo,
            (
              end_part c.args.plan.now.steps c.args.steps.now c.in-Ok-Choice.done c.requires.end,
              subst (λ u. HasSeen (sight_of u) c.args.plan.now c.args.found.now c.args.keys.now) (sym kept) c.requires.keys,
            ),
          ),
        ),
      ),
    )

pub run_steps-returns-in-Ok-run_each-clause-keys : goal.run_steps-returns-in-Ok-run_each-clause-keys
run_steps-returns-in-Ok-run_each-clause-keys g t c =
    subst (λ u. HasSeen (sight_of u) c.args.plan.now c.run_each.new.found c.run_each.new.keys) c.in-Ok-Choice.ensures.looks.kept c.in-Ok-run_each.ensures.keys
