use Rattle.std.proofs.Common.{◌∙◌, ◌∷◌, ℕ, ◌+◌, List, length, ap, sym, subst}
use Rattle.bdb_tables.specs.declared.tab.TabError.TheVariants.{Fault}
use Rattle.bdb_val.proofs.Calls.{HasGone, gone_then, gone_changing, changing_ok, changing_err}
use Rattle.bdb_worlds.specs.Bounds as states
use Rattle.bdb_worlds.specs.Holding.{HoldSome}
use Rattle.bdb_worlds.specs.Shrinking.{DropsStates}
use Rattle.bdb_update.specs.Parting.{ClearsWorlds, CountsWorlds}
use Rattle.bdb_update.proofs.ArriveLemmas.{worlds_then_rows}
use Rattle.bdb_update.proofs.CallLemmas.{gone_itself}
use Rattle.bdb_update.proofs.KeepLemmas.{names_go}
use Rattle.bdb_update.proofs.PartWorldLemmas.{count_worlds, lose_worlds, rows_then, parted_over, parted_held, parted_tuples}
use Rattle.bdb_update.proofs.SpendLemmas.{states_then_rows}
use Rattle.bdb_update.proofs.parting.drop_worlds.Goals as goal

pub drop_states-requires-clause-grammar : goal.drop_states-requires-clause-grammar
drop_states-requires-clause-grammar g c = parted_over (g.K.Keeper.seen c.args.keeper.now).kept c.args.stmt.now c.requires.base

pub drop_states-requires-clause-states : goal.drop_states-requires-clause-states
drop_states-requires-clause-states g c =
    let t = (g.K.Keeper.seen c.args.keeper.now).kept in
    subst (HoldSome t) (sym c.as_slice.ensures.users) (parted_held t c.args.stmt.now c.requires.base)

pub returns-in-Err-clause-changing : goal.returns-in-Err-clause-changing
returns-in-Err-clause-changing g c =
    let old = g.K.Keeper.seen c.args.keeper.now in
    changing_err old old (g.K.Keeper.seen c.drop_states.new.keeper) c.in-Err.error Fault (gone_itself old) (record { counts = c.in-Err.ensures.counts; steps = c.in-Err.ensures.steps })

pub clear_worlds-requires-clause-tuples : goal.clear_worlds-requires-clause-tuples
clear_worlds-requires-clause-tuples g c =
    parted_tuples (g.K.Keeper.seen c.args.keeper.now).kept (g.K.Keeper.seen c.drop_states.new.keeper).kept c.args.stmt.now c.in-Ok.ensures.others c.requires.base

pub returns-in-Ok-clear_worlds-clause-worlds : goal.returns-in-Ok-clear_worlds-clause-worlds
returns-in-Ok-clear_worlds-clause-worlds g c =
    let t = (g.K.Keeper.seen c.args.keeper.now).kept in
    let u = (g.K.Keeper.seen c.drop_states.new.keeper).kept in
    let v = (g.K.Keeper.seen c.clear_worlds.new.keeper).kept in
    let gone = c.in-Ok.gone.items in
    let drops = subst (λ (w : List ℕ). DropsStates t u w gone) c.as_slice.ensures.users c.in-Ok.ensures.dropped in
    let clears = subst (ClearsWorlds u v) c.deref.ensures.value c.in-Ok-clear_worlds.ensures.cleared in
    lose_worlds t u v c.args.stmt.now gone drops c.in-Ok.ensures.others clears (λ n k out. c.in-Ok-clear_worlds.ensures.others (n ∷ k) out)

pub returns-in-Ok-clear_worlds-clause-others : goal.returns-in-Ok-clear_worlds-clause-others
returns-in-Ok-clear_worlds-clause-others g c =
    worlds_then_rows (g.K.Keeper.seen c.args.keeper.now).kept (g.K.Keeper.seen c.drop_states.new.keeper).kept (g.K.Keeper.seen c.clear_worlds.new.keeper).kept
    c.in-Ok.ensures.others (λ n k out. c.in-Ok-clear_worlds.ensures.others (n ∷ k) out)

pub returns-in-Ok-clear_worlds-clause-changing : goal.returns-in-Ok-clear_worlds-clause-changing
returns-in-Ok-clear_worlds-clause-changing g c =
    let old = g.K.Keeper.seen c.args.keeper.now in
    let mid = g.K.Keeper.seen c.drop_states.new.keeper in
    let new = g.K.Keeper.seen c.clear_worlds.new.keeper in
    let first : HasGone old mid = record { goes = c.in-Ok.ensures.steps.ok; counts = c.in-Ok.ensures.counts } in
    changing_ok old new _ Fault (gone_then old mid new first (gone_changing mid new c.in-Ok-clear_worlds.rows Fault c.in-Ok-clear_worlds.ensures.changing))

pub returns-clause-changing : goal.returns-clause-changing
returns-clause-changing g c =
    let old = g.K.Keeper.seen c.args.keeper.now in
    let mid = g.K.Keeper.seen c.drop_states.new.keeper in
    let first : HasGone old mid = record { goes = c.in-Ok.ensures.steps.ok; counts = c.in-Ok.ensures.counts } in
    changing_err old mid (g.K.Keeper.seen c.clear_worlds.new.keeper) c.in-Err-clear_worlds.error Fault first c.in-Err-clear_worlds.ensures.changing

pub returns-in-Ok-clear_worlds-clause-counted : goal.returns-in-Ok-clear_worlds-clause-counted
returns-in-Ok-clear_worlds-clause-counted g c =
    let t = (g.K.Keeper.seen c.args.keeper.now).kept in
    let u = (g.K.Keeper.seen c.drop_states.new.keeper).kept in
    let gone = c.in-Ok.gone.items in
    let drops = subst (λ (w : List ℕ). DropsStates t u w gone) c.as_slice.ensures.users c.in-Ok.ensures.dropped in
    subst (CountsWorlds t c.args.stmt.now) (sym (c.count_of.ensures ∙ ap (λ (w : List ℕ). length w) c.deref-in-Ok-clear_worlds.ensures.value)) (count_worlds t u c.args.stmt.now gone drops)

pub returns-in-Ok-clear_worlds-clause-rows : goal.returns-in-Ok-clear_worlds-clause-rows
returns-in-Ok-clear_worlds-clause-rows g c =
    rows_then (g.K.Keeper.seen c.args.keeper.now).kept (g.K.Keeper.seen c.drop_states.new.keeper).kept (g.K.Keeper.seen c.clear_worlds.new.keeper).kept _
    c.in-Ok.ensures.others c.in-Ok-clear_worlds.ensures.rows

pub returns-in-Ok-clear_worlds-clause-names : goal.returns-in-Ok-clear_worlds-clause-names
returns-in-Ok-clear_worlds-clause-names g c =
    let t = (g.K.Keeper.seen c.args.keeper.now).kept in
    let u = (g.K.Keeper.seen c.drop_states.new.keeper).kept in
    let gone = c.in-Ok.gone.items in
    let drops = subst (λ (w : List ℕ). DropsStates t u w gone) c.as_slice.ensures.users c.in-Ok.ensures.dropped in
    names_go t u (g.K.Keeper.seen c.clear_worlds.new.keeper).kept c.args.stmt.now gone drops (λ n k out. c.in-Ok-clear_worlds.ensures.others (n ∷ k) out) c.requires.base

pub returns-in-Ok-clear_worlds-clause-writes : goal.returns-in-Ok-clear_worlds-clause-writes
returns-in-Ok-clear_worlds-clause-writes g c =
    let old = g.K.Keeper.seen c.args.keeper.now in
    let mid = g.K.Keeper.seen c.drop_states.new.keeper in
    states_then_rows (length c.args.stmt.now.path) c.in-Ok-clear_worlds.rows old mid (g.K.Keeper.seen c.clear_worlds.new.keeper)
    (subst (λ (w : List ℕ). states.WritesWithin (length w + 2) old mid) c.as_slice.ensures.users c.in-Ok.ensures.writes) c.in-Ok.ensures.others c.in-Ok-clear_worlds.ensures.others
    c.in-Ok-clear_worlds.ensures.writes c.in-Ok-clear_worlds.ensures.changing.counts.writes
