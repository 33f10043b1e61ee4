-- The belief machine over one base: what comes of each event. Undo and redo are no commands of it; with them it is that of `Undoing`.
use Rattle.std.specs.Prelude.{ℕ, ◌+◌, Bool, List, ◌++◌, length, Option, None, Some, if◌then◌else◌}
use Rattle.std.specs.Option.{option_map, option_and_then}
use Rattle.bdb_base.specs.declared.kinds.Catalog.{Catalog}
use Rattle.bdb_base.specs.declared.kinds.Query.{Query}
use Rattle.bdb_base.specs.declared.kinds.Stmt.{Stmt}
use Rattle.bdb_base.specs.declared.kinds.World.{World}
use Rattle.bdb_base.specs.Bases.{Contents, key_lengths, with_statement, with_user, with_relation, stands}
use Rattle.bdb_base.specs.Queries.{answers_of}
use Rattle.bdb_base.specs.WorldRows.{world_of}
use Rattle.bdb_base.specs.Changes.{taken_by, without_taken, updated, first_clashing, statements_naming}
use Rattle.bdb_syntax.specs.declared.command.Command.{Command}
use Rattle.bdb_bind.specs.declared.bound.Bound.{Bound}
use Rattle.bdb_bind.specs.declared.bound.Bound.TheVariants.{CreateUser, CreateRelation, DropUser, Insert, Delete, Update, Select, Explain, ShowWorld, Why, ShowTables, Undo, Redo}
use Rattle.bdb_bind.specs.declared.bound.BindError.{BindError}
use Rattle.bdb_bind.specs.declared.bound.BindError.TheVariants as bind
use Rattle.bdb_bind.specs.Refusal.{refusal_of}
use Rattle.bdb_bind.specs.Binding.{bound_of}
use Rattle.bdb_canon.specs.Canonical.{canon_of, line_count}
use Rattle.bdb_plan.specs.PlanOf.{plan_of}
use Rattle.bdb_plan.specs.PlanText.{plan_text}
use Rattle.bdb_reasons.specs.WhyReplies.{why_reply}
use Rattle.bdb_render.specs.declared.refusal.Refusal.{Refusal}
use Rattle.bdb_render.specs.declared.refusal.Refusal.TheVariants as refusal
use Rattle.bdb_render.specs.Tables.{tables_reply}
use Rattle.bdb_render.specs.Replies.{ok_reply, count_reply, world_reply, rows_reply}
use Rattle.bdb_why.specs.Certificates.{why_of}
use Rattle.bdb_why.specs.declared.kinds.Why.{Why as Certificate}
use Rattle.bdb_update.specs.Calls.{clash_of, with_stmts}
use Rattle.bdb_leaving.specs.Leaving.{base_without_user}
use Rattle.bdb_session.specs.declared.reading.Reading.{Reading}
use Rattle.bdb_session.specs.declared.reading.Reading.TheVariants as reading
use Rattle.bdb_session.specs.declared.event.ScriptEvent.{ScriptEvent}
use Rattle.bdb_session.specs.declared.event.ScriptEvent.TheVariants as event
use Rattle.bdb_session.specs.Outcome.{State, Outcome, Blank, Refused, Done, unless, text_of, is_accepted, answer_count, state_after, commit_count}
use Rattle.bdb_session.specs.Reading.{reading_of}
use Rattle.bdb_session.specs.Sizes.{passed_limit, too_many}

-- a refusal to bind, as a refusal of the command; running out of memory is none
abbrev pub refusal_from : BindError → Option Refusal
refusal_from bind.Text = Some refusal.Text
refusal_from bind.Items = Some refusal.Items
refusal_from (bind.Relation name) = Some (refusal.Relation name)
refusal_from (bind.User name) = Some (refusal.User name)
refusal_from (bind.AliasTwice alias) = Some (refusal.AliasTwice alias)
refusal_from (bind.Alias alias) = Some (refusal.Alias alias)
refusal_from (bind.Column alias col) = Some (refusal.Column alias col)
refusal_from (bind.TakenUser name) = Some (refusal.TakenUser name)
refusal_from (bind.TakenName name) = Some (refusal.TakenName name)
refusal_from (bind.KeyLength length) = Some (refusal.KeyLength length)
refusal_from bind.Repeat = Some refusal.Repeat
refusal_from bind.Deep = Some refusal.Deep
refusal_from bind.Arity = Some refusal.Arity
refusal_from (bind.Kind alias col) = Some (refusal.Kind alias col)
refusal_from (bind.Unsafe alias col) = Some (refusal.Unsafe alias col)
refusal_from bind.Memory = None

-- ---- the words of the machine

-- the base with another catalog
abbrev pub with_catalog : Contents → Catalog → Contents
with_catalog b catalog = record b { catalog = catalog }

-- the clash with a statement, where there is one
abbrev pub clash_with : Stmt → Refusal
clash_with x = refusal.Clash x.sign x.tuple

abbrev pub clashes_with : Option Stmt → Option Refusal
clashes_with found = option_map clash_with found

-- the least statement of a path that clashes with another of it
abbrev pub clashing_within : Contents → List ℕ → Option Stmt
clashing_within b path = first_clashing (key_lengths b.catalog.rels) b.stmts path

-- the base becomes another, and this is told; but a base that passes a limit is refused
abbrev pub becomes : State → Contents → List ℕ → Outcome
becomes s b text = unless (option_map refusal.Full (passed_limit b)) (Done text 0 (record s { base = b }))

-- so many lines are told of the base, which stays; but too many are refused
abbrev pub tells : State → ℕ → List ℕ → ℕ → Outcome
tells s lines text answers = unless (too_many lines) (Done text answers s)

-- the world of a path
abbrev pub world_at : Contents → List ℕ → World
world_at b path = record { held = world_of (key_lengths b.catalog.rels) b.stmts path }

-- why the path of a signed tuple believes it, or doesn't
abbrev pub certificate : Contents → Stmt → Certificate
certificate b x = why_of (key_lengths b.catalog.rels) b.stmts x.path x.tuple x.sign

-- the text of a query's plan, and how many lines it has
abbrev pub plan_reply : Catalog → Query → List ℕ
plan_reply c q = plan_text c q (plan_of c.rels q) ++ count_reply (length (plan_of c.rels q).steps + 1)

-- ---- what comes of a command that is bound

abbrev pub bound_outcome : State → Bound → Outcome
bound_outcome s (CreateUser name) = becomes s (with_catalog s.base (with_user s.base.catalog name)) ok_reply
bound_outcome s (CreateRelation def) = becomes s (with_catalog s.base (with_relation s.base.catalog def)) ok_reply
bound_outcome s (DropUser uid) = becomes s (base_without_user s.base uid) (count_reply (length (statements_naming uid s.base.stmts)))
bound_outcome s (Insert x) =
    unless (clashes_with (clash_of s.base x))
    (becomes s (with_stmts s.base (with_statement s.base.stmts x)) (count_reply (if stands s.base.stmts x then 0 else 1)))
bound_outcome s (Delete path sign rel conds) =
    becomes s (with_stmts s.base (without_taken path sign rel conds s.base.stmts)) (count_reply (length (taken_by path sign rel conds s.base.stmts)))
bound_outcome s (Update path sign rel sets conds) =
    unless (clashes_with (clashing_within (with_stmts s.base (updated path sign rel conds sets s.base.stmts)) path))
    (becomes s (with_stmts s.base (updated path sign rel conds sets s.base.stmts)) (count_reply (length (taken_by path sign rel conds s.base.stmts))))
bound_outcome s (Select query) = tells s (length (answers_of s.base query)) (rows_reply (answers_of s.base query)) (length (answers_of s.base query))
bound_outcome s (Explain query) = Done (plan_reply s.base.catalog query) 0 s
bound_outcome s (ShowWorld path) = Done (world_reply s.base.catalog (world_at s.base path)) 0 s
bound_outcome s (Why x) = Done (why_reply s.base.catalog x.path x.tuple x.sign (certificate s.base x)) 0 s
bound_outcome s ShowTables = tells s (line_count s.base.catalog (canon_of s.base)) (tables_reply s.base.catalog (canon_of s.base)) 0
bound_outcome s Undo = Refused refusal.Syntax
bound_outcome s Redo = Refused refusal.Syntax

-- ---- what comes of a command as it is written, of what a piece says, and of an event

-- a command is refused where it names or joins what it can't; else this comes of what it is bound to
abbrev pub command_outcome : State → Command → Outcome
command_outcome s c = unless (option_and_then refusal_from (refusal_of s.base.catalog c)) (bound_outcome s (bound_of s.base.catalog c))

abbrev pub reading_outcome : State → Reading → Outcome
reading_outcome s reading.Nothing = Blank
reading_outcome s (reading.Says c) = command_outcome s c
reading_outcome s (reading.Refused r) = Refused r

abbrev pub outcome_of : State → ScriptEvent → Outcome
outcome_of s (event.Piece bytes) = reading_outcome s (reading_of bytes)
outcome_of s event.Long = Refused refusal.Long
outcome_of s event.Unfinished = Refused refusal.Unfinished

-- ---- the parts of what comes of an event

-- the reply: empty where nothing is said
abbrev pub reply_of : State → ScriptEvent → List ℕ
reply_of s e = text_of s.base.catalog (outcome_of s e)

-- the event is accepted
abbrev pub accepts : State → ScriptEvent → Bool
accepts s e = is_accepted (outcome_of s e)

-- how many answers it has
abbrev pub answers_to : State → ScriptEvent → ℕ
answers_to s e = answer_count (outcome_of s e)

-- the state after it
abbrev pub next_state : State → ScriptEvent → State
next_state s e = state_after s (outcome_of s e)

-- how often it counts: once where it says something and is accepted
abbrev pub counts : State → ScriptEvent → ℕ
counts s e = commit_count (outcome_of s e)
