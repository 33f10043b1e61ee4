-- What queries answer over tables that store a base.
use Rattle.std.proofs.Common.{◌≡◌, ◌∙◌, ℕ, ◌<◌, ◌≤◌, true, nat_lt, List, Result, Some, None, Ok, Err, length, refl, sym, ap, subst}
use Rattle.std.proofs.lemmas.Bool.{and_parts, cond-true, cond-false, lt-ltb, le-ltb}
use Rattle.bdb_base.specs.Bases.{Contents, IsCatalog}
use Rattle.bdb_base.specs.Limits.{most_lines}
use Rattle.bdb_base.specs.Queries.{answers_of}
use Rattle.bdb_base.specs.Safety.{query_fits, IsSafe}
use Rattle.bdb_base.specs.declared.kinds.Catalog.{Catalog}
use Rattle.bdb_base.specs.declared.kinds.Query.{Query}
use Rattle.bdb_base.specs.declared.kinds.Value.{Value}
use Rattle.bdb_bind.specs.Fits.{can_be_answered}
use Rattle.bdb_bind.specs.Safe.{is_safe}
use Rattle.bdb_bind.specs.declared.bound.Bound.TheVariants.{Select, Explain}
use Rattle.bdb_bind.proofs.SafetyLemmas.{test_tells_safe}
use Rattle.bdb_catalog.specs.Bases.{StoresValid}
use Rattle.bdb_exec.specs.Based.{HaveBase, ShowBase, world_number}
use Rattle.bdb_exec.specs.Looks.{StaysAll, IsExecuted}
use Rattle.bdb_exec.specs.Readable.{CanBeRun}
use Rattle.bdb_exec.specs.Seen.{sight_of}
use Rattle.bdb_exec.specs.declared.errors.ExecError.{ExecError}
use Rattle.bdb_exec.specs.declared.errors.ExecError.TheVariants as exec
use Rattle.bdb_exec.proofs.ShownLemmas.{tables_show_base}
use Rattle.bdb_keep.specs.Seen.{Seen}
use Rattle.bdb_keep.specs.Tables.{Tables}
use Rattle.bdb_plan.specs.Fitness.{PlanFields}
use Rattle.bdb_plan.specs.PlanOf.{plan_of}
use Rattle.bdb_plan.specs.Running.{meaning_of}
use Rattle.bdb_render.specs.Replies.{rows_reply}
use Rattle.bdb_render.specs.declared.refusal.Refusal.TheVariants as refusal
use Rattle.bdb_session.specs.Known.{Known, Agrees, AgreesOnSome}
use Rattle.bdb_session.specs.Laws.{StoredPlansMeanAnswers, StoredPlansMeanChoices}
use Rattle.bdb_session.specs.Machine.{bound_outcome, plan_reply, tells}
use Rattle.bdb_session.specs.Outcome.{State, Outcome, Refused, Done}
use Rattle.bdb_session.specs.Sizes.{too_many}
use Rattle.bdb_session.specs.Within.{IsSaid, TellsWithin}
use Rattle.bdb_session.specs.declared.reply.Reply.{Reply}
use Rattle.bdb_session.specs.declared.error.StopError.{StopError}
use Rattle.bdb_session.specs.declared.error.StopError.TheVariants.{Fault, Memory}
use Rattle.bdb_session.proofs.OutcomeLemmas.{unless_some, unless_none}
use Rattle.bdb_session.proofs.TellLemmas.{other_cause}
use Rattle.bdb_session.proofs.WithinLemmas.{read_tells, stop_tells}
use Rattle.bdb_tables.specs.Names.{Names}
use Rattle.bdb_tables.specs.Rows.{Tuples}
use Rattle.bdb_tables.specs.Stored.{StoredAs, slot_of}
use Rattle.bdb_trans.specs.Orders.{IsPlanInOrder, plan_in}
use Rattle.bdb_plan.proofs.RunLemmas.{meaning_are_choices}
use Rattle.bdb_trans.proofs.PlanLemmas.{orders_mean_answers, plans_fit_sights, plans_mean_answers}
use Rattle.bdb_update.proofs.CallLemmas.{gone_itself}
use Rattle.bdb_update.proofs.GrammarLemmas.{over_in_grammar}
use Rattle.bdb_val.proofs.Calls.{HasGone}

-- ---- what tables show

-- tables that store a base have it
pub stored_has_base : (ns : Names) (ts : Tuples) (t : Tables) (b : Contents) → StoredAs ns ts t b → HaveBase ns ts t b
stored_has_base ns ts t b h = record {
  grammar = over_in_grammar b.stmts b.stmts ns ts t b h;
  name = slot_of b.catalog.users;
  users = h.users;
  none = refl;
  names = λ n. refl;
  rels = h.rels;
  tuples = h.tuples;
  states = h.states;
  worlds = h.worlds;
  rows = h.rows;
}

-- tables that store a valid base show it
pub stored_shows : (t : Tables) (b : Contents) (h : StoresValid t b) → ShowBase h.stored.names t b
stored_shows t b h = tables_show_base h.stored.names h.stored.tuples t b h.valid (stored_has_base h.stored.names h.stored.tuples t b h.stored.stored)

pub plans_can_be_run : (t : Tables) (k : Known) → AgreesOnSome t k → CanBeRun t
plans_can_be_run t k h = (stored_shows t h.state.base h.agrees.base).run

-- the catalog that a session knows is a valid one
pub known_catalog : (t : Tables) (k : Known) → AgreesOnSome t k → IsCatalog k.catalog
known_catalog t k h = subst IsCatalog (sym h.agrees.catalog) h.agrees.base.valid.catalog

-- ---- answers

-- a query that can be answered is safe
pub query_is_safe : (c : Catalog) (q : Query) → can_be_answered c q ≡ true → IsSafe c.rels q
query_is_safe c q fits = (test_tells_safe c.rels q).0 (and_parts (query_fits c q) (is_safe c.rels q) fits).1

-- whichever tables store a base, the plan of a query means over them the answers over the base
pub stored_plans_mean_answers : StoredPlansMeanAnswers
stored_plans_mean_answers t b q h fits safe =
    plans_mean_answers b (sight_of t) (world_number h.stored.names) q h.valid (stored_shows t b h).shown fits safe

-- whichever tables store a base, the plan of a query means over them all choices with which its steps hold
pub stored_plans_mean_choices : StoredPlansMeanChoices
stored_plans_mean_choices t b q h fits safe =
    meaning_are_choices (sight_of t) (plan_of b.catalog.rels q)
    (plans_fit_sights b (sight_of t) (world_number h.stored.names) q h.valid (stored_shows t b h).shown fits safe)

-- in whichever order the items of a query are set, its plan means the answers over the base of each state
pub plan_answers : (t : Tables) (k : Known) (s : State) (q : Query) (plan : PlanFields) → Agrees t k s → can_be_answered k.catalog q ≡ true → IsPlanInOrder k.catalog.rels q plan
    → meaning_of (sight_of t) plan ≡ answers_of s.base q
plan_answers t k s q plan a fits p =
    let b = s.base in
    let c = b.catalog in
    let h = a.base in
    let here : can_be_answered c q ≡ true = ap (λ (x : Catalog). can_be_answered x q) (sym a.catalog) ∙ fits in
    let fine = (and_parts (query_fits c q) (is_safe c.rels q) here).0 in
    ap (meaning_of (sight_of t)) p.is
    ∙ ap (λ (x : Catalog). meaning_of (sight_of t) (plan_in x.rels q p.order)) a.catalog
    ∙ orders_mean_answers b (sight_of t) (world_number h.stored.names) q p.order h.valid (stored_shows t b h).shown fine (query_is_safe c q here) p.can

not_many : (n : ℕ) → n ≤ most_lines → too_many n ≡ None
not_many n h = cond-false (nat_lt most_lines n) (Some refusal.Many) None (le-ltb most_lines n h)

are_many : (n : ℕ) → most_lines < n → too_many n ≡ Some refusal.Many
are_many n h = cond-true (nat_lt most_lines n) (Some refusal.Many) None (lt-ltb most_lines n h)

-- few answers are told, and many refused
rows_outcome : (s : State) (q : Query) (rows : List (List Value)) → rows ≡ answers_of s.base q → length rows ≤ most_lines
    → bound_outcome s (Select q) ≡ Done (rows_reply rows) (length rows) s
rows_outcome s q rows e few =
    ap (λ (r : List (List Value)). tells s (length r) (rows_reply r) (length r)) (sym e)
    ∙ unless_none (too_many (length rows)) (Done (rows_reply rows) (length rows) s) (not_many (length rows) few)

many_outcome : (s : State) (q : Query) → most_lines < length (answers_of s.base q) → bound_outcome s (Select q) ≡ Refused refusal.Many
many_outcome s q many =
    let rows = answers_of s.base q in
    unless_some (too_many (length rows)) refusal.Many (Done (rows_reply rows) (length rows) s) (are_many (length rows) many)

-- ---- what is told of a query

-- a plan was run, or had too many rows
stays_gone : {T : Type 0} (old new : Seen) (result : Result T ExecError) → IsExecuted old new result → StaysAll old new → HasGone old new
stays_gone old new result run h = record { goes = record { faults = run.counts.faults; running = h.running; last = h.last; commits = h.commits }; counts = run.counts }

pub answers_tell : (k : Known) (q : Query) (plan : PlanFields) (rows : List (List Value)) (old mid new : Seen) (result : Result Reply StopError)
    → AgreesOnSome old.kept k → can_be_answered k.catalog q ≡ true → IsPlanInOrder k.catalog.rels q plan → rows ≡ meaning_of (sight_of old.kept) plan → length rows ≤ most_lines
    → IsExecuted old mid (Ok rows) → ((s : State) → IsSaid k.catalog (Done (rows_reply rows) (length rows) s) mid new result) → TellsWithin (λ s. bound_outcome s (Select q)) k k old new result
answers_tell k q plan rows old mid new result some fits of_query means few run said =
    read_tells (λ s. bound_outcome s (Select q)) (λ s. Done (rows_reply rows) (length rows) s) k old mid new result some (stays_gone old mid (Ok rows) run run.ok) run.ok.kept
    (λ s a. rows_outcome s q rows (means ∙ plan_answers old.kept k s q plan a fits of_query) few) (λ s. refl) said

pub many_tell : {T : Type 0} (k : Known) (q : Query) (plan : PlanFields) (old mid new : Seen) (result : Result Reply StopError)
    → AgreesOnSome old.kept k → can_be_answered k.catalog q ≡ true → IsPlanInOrder k.catalog.rels q plan → most_lines < length (meaning_of (sight_of old.kept) plan)
    → IsExecuted {T = T} old mid (Err exec.TooMany) → IsSaid k.catalog (Refused refusal.Many) mid new result → TellsWithin (λ s. bound_outcome s (Select q)) k k old new result
many_tell {T} k q plan old mid new result some fits of_query many run said =
    let stays = run.many refl in
    read_tells (λ s. bound_outcome s (Select q)) (λ s. Refused refusal.Many) k old mid new result some (stays_gone {T = T} old mid (Err exec.TooMany) run stays) stays.kept
    (λ s a. many_outcome s q (subst (λ (r : List (List Value)). most_lines < length r) (plan_answers old.kept k s q plan a fits of_query) many)) (λ s. refl) (λ s. said)

pub fault_tells : {T : Type 0} (outcome : State → Outcome) (k : Known) (old mid : Seen) → IsExecuted {T = T} old mid (Err exec.Fault) → TellsWithin outcome k k old mid (Err Fault)
fault_tells {T} outcome k old mid run =
    stop_tells outcome k k old mid Fault (record {
      counts = run.counts;
      steps = record { cause = other_cause {T = T} {S = Reply} old.faults mid.faults exec.Fault Fault exec.Fault Fault (λ e. refl) run.cause; ok = tt; err = run.fault refl };
    })

pub no_memory_tells : {T : Type 0} (outcome : State → Outcome) (k : Known) (old mid : Seen) → IsExecuted {T = T} old mid (Err exec.Memory) → TellsWithin outcome k k old mid (Err Memory)
no_memory_tells {T} outcome k old mid run =
    stop_tells outcome k k old mid Memory (record {
      counts = run.counts;
      steps = record { cause = other_cause {T = T} {S = Reply} old.faults mid.faults exec.Memory Memory exec.Fault Fault (λ e. absurd cc) run.cause; ok = tt; err = run.memory refl };
    })

-- ---- how a plan is told

pub plan_outcome : (t : Tables) (k : Known) (s : State) (q : Query) (text : List ℕ) → Agrees t k s → text ≡ plan_reply k.catalog q → bound_outcome s (Explain q) ≡ Done text 0 s
plan_outcome t k s q text a is =
    ap (λ (c : Catalog). Done (plan_reply c q) 0 s) (sym a.catalog) ∙ ap (λ (x : List ℕ). Done x 0 s) (sym is)

pub plan_tells : (k : Known) (q : Query) (old new : Seen) (result : Result Reply StopError) → AgreesOnSome old.kept k
    → ((s : State) → IsSaid k.catalog (Done (plan_reply k.catalog q) 0 s) old new result) → TellsWithin (λ s. bound_outcome s (Explain q)) k k old new result
plan_tells k q old new result some said =
    read_tells (λ s. bound_outcome s (Explain q)) (λ s. Done (plan_reply k.catalog q) 0 s) k old old new result some (gone_itself old) refl
    (λ s a. plan_outcome old.kept k s q (plan_reply k.catalog q) a refl) (λ s. refl) said
