use Rattle.std.proofs.Common.{◌≡◌, ◌∙◌, ◌∷◌, ℕ, ◌+◌, List, length, refl, ap, sym, subst, arith}
use Rattle.bdb_tables.specs.declared.tab.TabError.TheVariants.{Fault}
use Rattle.bdb_val.proofs.Calls.{HasGone, gone_then, gone_changing, changing_ok, changing_err}
use Rattle.bdb_worlds.specs.Bounds as states
use Rattle.bdb_worlds.specs.Growth.{SomeMayGrow, AddsStates}
use Rattle.bdb_update.specs.Filling.{CountsCome, FillsWorlds, SomeHaveCome}
use Rattle.bdb_update.specs.Joining.{Arrive, IsWorldFound, last_or}
use Rattle.bdb_update.proofs.ArriveLemmas.{arrived_already, counts_arrive, in_worlds, no_world, rows_stay, some_may_grow, some_have_come, arrive, worlds_then_rows}
use Rattle.bdb_update.proofs.CallLemmas.{gone_itself}
use Rattle.bdb_update.proofs.GrammarLemmas.{stored_is_in_grammar}
use Rattle.bdb_update.proofs.KeepLemmas.{names_come}
use Rattle.bdb_update.proofs.SpendLemmas.{states_then_rows}
use Rattle.bdb_update.proofs.StageLemmas.{over_has_tuples, tuples_still}
use Rattle.bdb_update.proofs.StayLemmas.{names_least, no_names}
use Rattle.bdb_update.proofs.joining.add_worlds.Goals as goal

pub add_states-requires-clause-grammar : goal.add_states-requires-clause-grammar
add_states-requires-clause-grammar g c = stored_is_in_grammar (g.K.Keeper.seen c.args.keeper.now).kept c.requires.base.base c.requires.base.stored

pub add_states-requires-clause-room : goal.add_states-requires-clause-room
add_states-requires-clause-room g c =
    let t = (g.K.Keeper.seen c.args.keeper.now).kept in
    subst (λ (w : List ℕ). SomeMayGrow t w c.args.worlds) (sym c.as_slice.ensures.users) (some_may_grow t c.args.stmt.now c.args.worlds c.requires.base)

pub returns-in-Err-clause-changing : goal.returns-in-Err-clause-changing
returns-in-Err-clause-changing g c =
    let old = g.K.Keeper.seen c.args.keeper.now in
    changing_err old old (g.K.Keeper.seen c.add_states.new.keeper) c.in-Err.error Fault (gone_itself old) (record { counts = c.in-Err.ensures.counts; steps = c.in-Err.ensures.steps })

pub fill_worlds-requires-clause-tuples : goal.fill_worlds-requires-clause-tuples
fill_worlds-requires-clause-tuples g c =
    let t = (g.K.Keeper.seen c.args.keeper.now).kept in
    let b = c.requires.base.base in
    let s = c.requires.base.stored in
    tuples_still in_worlds t (g.K.Keeper.seen c.add_states.new.keeper).kept c.in-Ok.ensures.others refl refl (over_has_tuples b.stmts b.stmts s.names s.tuples t b s.stored)

pub fill_worlds-requires-clause-come : goal.fill_worlds-requires-clause-come
fill_worlds-requires-clause-come g c =
    let t = (g.K.Keeper.seen c.args.keeper.now).kept in
    let u = (g.K.Keeper.seen c.add_states.new.keeper).kept in
    let added = subst (λ (w : List ℕ). AddsStates t u w c.args.worlds c.in-Ok.new.items) c.as_slice.ensures.users c.in-Ok.ensures.added in
    subst (SomeHaveCome u) (sym c.deref.ensures.value) (some_have_come t u c.args.stmt.now c.args.worlds c.in-Ok.new.items added c.in-Ok.ensures.others c.requires.base)

pub returns-in-Ok-fill_worlds-clause-arrived : goal.returns-in-Ok-fill_worlds-clause-arrived
returns-in-Ok-fill_worlds-clause-arrived g c =
    let t = (g.K.Keeper.seen c.args.keeper.now).kept in
    let u = (g.K.Keeper.seen c.add_states.new.keeper).kept in
    let v = (g.K.Keeper.seen c.fill_worlds.new.keeper).kept in
    let new = c.in-Ok.new.items in
    let added = subst (λ (w : List ℕ). AddsStates t u w c.args.worlds new) c.as_slice.ensures.users c.in-Ok.ensures.added in
    let filled = subst (FillsWorlds u v) c.deref.ensures.value c.in-Ok-fill_worlds.ensures.filled in
    let last : c.last_or.result ≡ last_or 0 new = c.last_or.ensures ∙ ap (last_or 0) c.deref-in-Ok-fill_worlds.ensures.value in
    let none = no_world t c.args.stmt.now.path 0 (subst (IsWorldFound t c.args.stmt.now.path) c.in-None.is c.requires.world) in
    subst (Arrive t v c.args.stmt.now) (sym last)
    (arrive t u v c.args.stmt.now c.args.worlds 0 new added c.in-Ok.ensures.others none filled (λ n k out. c.in-Ok-fill_worlds.ensures.others (n ∷ k) out) c.requires.base)

pub returns-in-Ok-fill_worlds-clause-others : goal.returns-in-Ok-fill_worlds-clause-others
returns-in-Ok-fill_worlds-clause-others g c =
    worlds_then_rows (g.K.Keeper.seen c.args.keeper.now).kept (g.K.Keeper.seen c.add_states.new.keeper).kept (g.K.Keeper.seen c.fill_worlds.new.keeper).kept
    c.in-Ok.ensures.others (λ n k out. c.in-Ok-fill_worlds.ensures.others (n ∷ k) out)

pub returns-in-Ok-fill_worlds-clause-changing : goal.returns-in-Ok-fill_worlds-clause-changing
returns-in-Ok-fill_worlds-clause-changing g c =
    let old = g.K.Keeper.seen c.args.keeper.now in
    let mid = g.K.Keeper.seen c.add_states.new.keeper in
    let new = g.K.Keeper.seen c.fill_worlds.new.keeper in
    let first : HasGone old mid = record { goes = c.in-Ok.ensures.steps.ok; counts = c.in-Ok.ensures.counts } in
    changing_ok old new _ Fault (gone_then old mid new first (gone_changing mid new c.in-Ok-fill_worlds.rows Fault c.in-Ok-fill_worlds.ensures.changing))

pub returns-clause-changing : goal.returns-clause-changing
returns-clause-changing g c =
    let old = g.K.Keeper.seen c.args.keeper.now in
    let mid = g.K.Keeper.seen c.add_states.new.keeper in
    let first : HasGone old mid = record { goes = c.in-Ok.ensures.steps.ok; counts = c.in-Ok.ensures.counts } in
    changing_err old mid (g.K.Keeper.seen c.fill_worlds.new.keeper) c.in-Err-fill_worlds.error Fault first c.in-Err-fill_worlds.ensures.changing

pub returns-in-Ok-fill_worlds-clause-counted : goal.returns-in-Ok-fill_worlds-clause-counted
returns-in-Ok-fill_worlds-clause-counted g c =
    let t = (g.K.Keeper.seen c.args.keeper.now).kept in
    let u = (g.K.Keeper.seen c.add_states.new.keeper).kept in
    let v = (g.K.Keeper.seen c.fill_worlds.new.keeper).kept in
    let new = c.in-Ok.new.items in
    let added = subst (λ (w : List ℕ). AddsStates t u w c.args.worlds new) c.as_slice.ensures.users c.in-Ok.ensures.added in
    counts_arrive t u v c.args.stmt.now c.args.worlds c.in-Ok-fill_worlds.rows new added c.in-Ok.ensures.others
    (subst (λ (ws : List ℕ). CountsCome u v ws c.in-Ok-fill_worlds.rows) c.deref.ensures.value c.in-Ok-fill_worlds.ensures.counted) c.requires.base

pub returns-in-Ok-fill_worlds-clause-names : goal.returns-in-Ok-fill_worlds-clause-names
returns-in-Ok-fill_worlds-clause-names g c =
    let t = (g.K.Keeper.seen c.args.keeper.now).kept in
    let u = (g.K.Keeper.seen c.add_states.new.keeper).kept in
    let new = c.in-Ok.new.items in
    let added = subst (λ (w : List ℕ). AddsStates t u w c.args.worlds new) c.as_slice.ensures.users c.in-Ok.ensures.added in
    names_come t u (g.K.Keeper.seen c.fill_worlds.new.keeper).kept c.args.stmt.now c.args.worlds new added c.in-Ok.ensures.others (λ n k out. c.in-Ok-fill_worlds.ensures.others (n ∷ k) out)
    c.requires.base

pub returns-in-Ok-fill_worlds-clause-writes : goal.returns-in-Ok-fill_worlds-clause-writes
returns-in-Ok-fill_worlds-clause-writes g c =
    let old = g.K.Keeper.seen c.args.keeper.now in
    let mid = g.K.Keeper.seen c.add_states.new.keeper in
    states_then_rows (length c.args.stmt.now.path) c.in-Ok-fill_worlds.rows old mid (g.K.Keeper.seen c.fill_worlds.new.keeper)
    (subst (λ (w : List ℕ). states.WritesWithin (length w + 2) old mid) c.as_slice.ensures.users c.in-Ok.ensures.writes) c.in-Ok.ensures.others c.in-Ok-fill_worlds.ensures.others
    c.in-Ok-fill_worlds.ensures.writes c.in-Ok-fill_worlds.ensures.changing.counts.writes

pub returns-in-Some-clause-arrived : goal.returns-in-Some-clause-arrived
returns-in-Some-clause-arrived g c =
    let t = (g.K.Keeper.seen c.args.keeper.now).kept in
    arrived_already t c.args.stmt.now c.in-Some.wid (subst (IsWorldFound t c.args.stmt.now.path) c.in-Some.is c.requires.world)

pub returns-in-Some-clause-counted : goal.returns-in-Some-clause-counted
returns-in-Some-clause-counted g c = rows_stay (g.K.Keeper.seen c.args.keeper.now).kept c.args.stmt.now

pub returns-in-Some-clause-names : goal.returns-in-Some-clause-names
returns-in-Some-clause-names g c = λ n w x. x

pub returns-in-Some-clause-least : goal.returns-in-Some-clause-least
returns-in-Some-clause-least g c = no_names (g.K.Keeper.seen c.args.keeper.now).kept (g.K.Keeper.seen c.args.keeper.now).kept c.args.stmt.now.path refl

pub returns-in-Ok-fill_worlds-clause-least : goal.returns-in-Ok-fill_worlds-clause-least
returns-in-Ok-fill_worlds-clause-least g c =
    let t = (g.K.Keeper.seen c.args.keeper.now).kept in
    let u = (g.K.Keeper.seen c.add_states.new.keeper).kept in
    let new = c.in-Ok.new.items in
    let added = subst (λ (w : List ℕ). AddsStates t u w c.args.worlds new) c.as_slice.ensures.users c.in-Ok.ensures.added in
    names_least t u (g.K.Keeper.seen c.fill_worlds.new.keeper).kept c.args.stmt.now c.args.worlds new added c.in-Ok.ensures.others (λ n k out. c.in-Ok-fill_worlds.ensures.others (n ∷ k) out)
    c.requires.base

pub returns-in-Some-clause-writes : goal.returns-in-Some-clause-writes
returns-in-Some-clause-writes g c = λ ps are small. omega arith

pub returns-in-Some-clause-others : goal.returns-in-Some-clause-others
returns-in-Some-clause-others g c = λ n k out. refl

pub returns-in-Some-clause-changing : goal.returns-in-Some-clause-changing
returns-in-Some-clause-changing g c =
    let old = g.K.Keeper.seen c.args.keeper.now in
    changing_ok old old _ Fault (gone_itself old)
