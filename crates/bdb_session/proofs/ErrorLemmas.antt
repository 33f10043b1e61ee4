-- What is refused is told by an error, and nothing else is.
use Rattle.std.proofs.Common.{◌≡◌, ◌∙◌, ℕ, ◌+◌, Bool, true, not, ◌&&◌, List, [], ◌∷◌, ◌++◌, length, Option, Some, None, refl, ap, append_assoc}
use Rattle.std.specs.Prelude.{codes, if◌then◌else◌}
use Rattle.std.specs.Option.{option_and_then, option_map}
use Rattle.bdb_base.specs.Bases.{Contents, stands, with_relation, with_statement, with_user}
use Rattle.bdb_base.specs.Changes.{statements_naming, taken_by, updated, without_taken}
use Rattle.bdb_base.specs.Queries.{answers_of}
use Rattle.bdb_base.specs.declared.kinds.Catalog.{Catalog}
use Rattle.bdb_base.specs.Bases.{fits_relation, key_lengths}
use Rattle.bdb_base.specs.Limits.{deepest_query}
use Rattle.bdb_bind.specs.Binding.{bound_of}
use Rattle.bdb_bind.specs.Fits.{fits_catalog, fits_path}
use Rattle.bdb_bind.specs.Refusal.{refusal_of}
use Rattle.bdb_bind.specs.declared.bound.Bound.{Bound}
use Rattle.bdb_bind.specs.declared.bound.Bound.TheVariants as bound
use Rattle.bdb_canon.specs.Canonical.{canon_of, line_count}
use Rattle.bdb_plan.specs.PlanOf.{plan_of}
use Rattle.bdb_plan.specs.PlanText.{plan_text}
use Rattle.bdb_render.specs.Refusals.{cause_text, refusal_reply}
use Rattle.bdb_render.specs.Replies.{count_reply, ok_reply, rows_reply}
use Rattle.bdb_render.specs.Tables.{tables_reply}
use Rattle.bdb_render.specs.declared.refusal.Refusal.{Refusal}
use Rattle.bdb_render.specs.declared.refusal.Refusal.TheVariants as refusal
use Rattle.bdb_syntax.specs.declared.command.Command.{Command}
use Rattle.bdb_syntax.specs.declared.command.Command.TheVariants.{Explain}
use Rattle.bdb_syntax.specs.Printable.{IsPrintable}
use Rattle.std.proofs.lemmas.Bool.{and_parts}
use Rattle.bdb_session.proofs.ErrorAnswers.{answers_flat}
use Rattle.bdb_session.proofs.ErrorBases.{statements_flat, tuple_flat, tuples_flat, world_flat}
use Rattle.bdb_session.proofs.ErrorPlans.{plan_quiet}
use Rattle.bdb_session.proofs.ErrorReading.{IsFlatQuery, SaysPrintable, query_flat, reading_printable}
use Rattle.bdb_session.proofs.ErrorReasons.{reasons_quiet}
use Rattle.bdb_session.proofs.ErrorReplies.{count_quiet, ok_quiet, rows_quiet, tables_quiet, world_quiet}
use Rattle.bdb_session.proofs.ErrorTexts.{IsQuiet, begins_quiet, behind_quiet, error_tells, quiet_append, quiet_has_none}
use Rattle.bdb_session.proofs.ErrorValid.{bases_stay_valid, bound_fits}
use Rattle.bdb_session.specs.ErrorLaws.{HasValidBase, RefusalsAreErrors, RunsTellErrors, TellsRefusal}
use Rattle.bdb_session.specs.ErrorLines.{has_error_line}
use Rattle.bdb_session.specs.Machine.{becomes, bound_outcome, clashes_with, clashing_within, command_outcome, next_state, outcome_of, reading_outcome, refusal_from, tells, with_catalog, world_at}
use Rattle.bdb_leaving.specs.Leaving.{base_without_user}
use Rattle.bdb_update.specs.Calls.{clash_of, with_stmts}
use Rattle.bdb_session.specs.Outcome.{State, Outcome, Blank, Refused, Done, is_accepted, text_of, unless}
use Rattle.bdb_session.specs.Reading.{reading_of}
use Rattle.bdb_session.specs.Runs.{accepts_all, replies}
use Rattle.bdb_session.specs.Sizes.{passed_limit, too_many}
use Rattle.bdb_session.specs.declared.event.ScriptEvent.{ScriptEvent}
use Rattle.bdb_session.specs.declared.event.ScriptEvent.TheVariants as event
use Rattle.bdb_session.specs.declared.reading.Reading.{Reading}
use Rattle.bdb_session.specs.declared.reading.Reading.TheVariants as reading

-- ---- what is done is told in lines that tell no error

-- an outcome that isn't refused is told so
abbrev pub IsQuietOutcome : Outcome → Type 0
IsQuietOutcome Blank = Unit {0}
IsQuietOutcome (Refused r) = Unit {0}
IsQuietOutcome (Done text answers next) = IsQuiet text

unless_quiet : (o : Option Refusal) (x : Outcome) → (o ≡ None → IsQuietOutcome x) → IsQuietOutcome (unless o x)
unless_quiet None x h = h refl
unless_quiet (Some r) x h = tt

becomes_quiet : (s : State) (b : Contents) (text : List ℕ) → IsQuiet text → IsQuietOutcome (becomes s b text)
becomes_quiet s b text q = unless_quiet (option_map refusal.Full (passed_limit b)) (Done text 0 (record s { base = b })) (λ e. q)

tells_quiet : (s : State) (lines : ℕ) (text : List ℕ) (answers : ℕ) → IsQuiet text → IsQuietOutcome (tells s lines text answers)
tells_quiet s lines text answers q = unless_quiet (too_many lines) (Done text answers s) (λ e. q)

-- a query that is bound has aliases and literals without a line feed
abbrev HasFlatQuery : Bound → Type 0
HasFlatQuery (bound.Explain q) = IsFlatQuery q
HasFlatQuery _ = Unit {0}

bound_quiet : (s : State) (b : Bound) → HasValidBase s → fits_catalog s.base.catalog b ≡ true → HasFlatQuery b → IsQuietOutcome (bound_outcome s b)
bound_quiet s (bound.CreateUser name) v fits f = becomes_quiet s (with_catalog s.base (with_user s.base.catalog name)) ok_reply ok_quiet
bound_quiet s (bound.CreateRelation def) v fits f = becomes_quiet s (with_catalog s.base (with_relation s.base.catalog def)) ok_reply ok_quiet
bound_quiet s (bound.DropUser uid) v fits f =
    becomes_quiet s (base_without_user s.base uid) (count_reply (length (statements_naming uid s.base.stmts))) (count_quiet (length (statements_naming uid s.base.stmts)))
bound_quiet s (bound.Insert x) v fits f =
    let count = if stands s.base.stmts x then 0 else 1 in
    let next = with_stmts s.base (with_statement s.base.stmts x) in
    unless_quiet (clashes_with (clash_of s.base x)) (becomes s next (count_reply count)) (λ e. becomes_quiet s next (count_reply count) (count_quiet count))
bound_quiet s (bound.Delete path sign rel conds) v fits f =
    let count = length (taken_by path sign rel conds s.base.stmts) in
    becomes_quiet s (with_stmts s.base (without_taken path sign rel conds s.base.stmts)) (count_reply count) (count_quiet count)
bound_quiet s (bound.Update path sign rel sets conds) v fits f =
    let count = length (taken_by path sign rel conds s.base.stmts) in
    let next = with_stmts s.base (updated path sign rel conds sets s.base.stmts) in
    unless_quiet (clashes_with (clashing_within next path)) (becomes s next (count_reply count)) (λ e. becomes_quiet s next (count_reply count) (count_quiet count))
bound_quiet s (bound.Select q) v fits f =
    let rows = answers_of s.base q in
    tells_quiet s (length rows) (rows_reply rows) (length rows) (rows_quiet rows (answers_flat s.base v.catalog q))
bound_quiet s (bound.Explain q) v fits f =
    let plan = plan_of s.base.catalog.rels q in
    quiet_append (plan_text s.base.catalog q plan) (count_reply (length plan.steps + 1)) (plan_quiet s.base.catalog v.catalog q f.items f.conds) (count_quiet (length plan.steps + 1))
bound_quiet s (bound.ShowWorld path) v fits f =
    world_quiet s.base.catalog v.catalog (world_at s.base path)
    (world_flat (key_lengths s.base.catalog.rels) s.base.stmts path (statements_flat s.base.catalog s.base.stmts v.stmts.belong))
bound_quiet s (bound.Why x) v fits f =
    reasons_quiet s.base.catalog v.catalog x.path (key_lengths s.base.catalog.rels) s.base.stmts x.tuple x.sign
    (statements_flat s.base.catalog s.base.stmts v.stmts.belong)
    (tuple_flat s.base.catalog.rels x.tuple (and_parts (fits_path s.base.catalog.users deepest_query x.path) (fits_relation s.base.catalog.rels x.tuple) fits).1)
bound_quiet s bound.Undo v fits f = tt
bound_quiet s bound.Redo v fits f = tt
bound_quiet s bound.ShowTables v fits f =
    let k = canon_of s.base in
    tells_quiet s (line_count s.base.catalog k) (tables_reply s.base.catalog k) 0
    (tables_quiet s.base.catalog v.catalog k (tuples_flat s.base.stmts (statements_flat s.base.catalog s.base.stmts v.stmts.belong)))

bound_query_flat : (catalog : Catalog) (c : Command) → IsPrintable c → HasFlatQuery (bound_of catalog c)
bound_query_flat catalog (Explain q) p = query_flat catalog q p.parts
bound_query_flat catalog _ p = tt

command_quiet : (s : State) (c : Command) → HasValidBase s → IsPrintable c → IsQuietOutcome (command_outcome s c)
command_quiet s c v p =
    unless_quiet (option_and_then refusal_from (refusal_of s.base.catalog c)) (bound_outcome s (bound_of s.base.catalog c))
    (λ e. bound_quiet s (bound_of s.base.catalog c) v (bound_fits s c v p e) (bound_query_flat s.base.catalog c p))

reading_quiet : (s : State) (r : Reading) → HasValidBase s → SaysPrintable r → IsQuietOutcome (reading_outcome s r)
reading_quiet s reading.Nothing v p = tt
reading_quiet s (reading.Says c) v p = command_quiet s c v p
reading_quiet s (reading.Refused r) v p = tt

pub outcome_quiet : (s : State) (e : ScriptEvent) → HasValidBase s → IsQuietOutcome (outcome_of s e)
outcome_quiet s (event.Piece bytes) v = reading_quiet s (reading_of bytes) v (reading_printable bytes)
outcome_quiet s event.Long v = tt
outcome_quiet s event.Unfinished v = tt

-- ---- replies

pub refusal_tells : (c : Catalog) (r : Refusal) (rest : List ℕ) → has_error_line (refusal_reply c r ++ rest) ≡ true
refusal_tells c r rest =
    ap has_error_line (append_assoc (codes "error " ++ cause_text c r) (10 ∷ []) rest ∙ append_assoc (codes "error ") (cause_text c r) (10 ∷ rest))
    ∙ error_tells (cause_text c r ++ 10 ∷ rest)

refusal_has : (c : Catalog) (r : Refusal) → has_error_line (refusal_reply c r) ≡ true
refusal_has c r = ap has_error_line (append_assoc (codes "error ") (cause_text c r) (10 ∷ [])) ∙ error_tells (cause_text c r ++ 10 ∷ [])

pub told : (c : Catalog) (o : Outcome) → IsQuietOutcome o → TellsRefusal (is_accepted o) (text_of c o)
told c Blank q = record { begins = refl; lines = refl }
told c (Refused r) q = record { begins = refl; lines = refusal_has c r }
told c (Done text answers next) q = record { begins = begins_quiet text q; lines = quiet_has_none text q }

pub refusals_are_errors : RefusalsAreErrors
refusals_are_errors s e v = told s.base.catalog (outcome_of s e) (outcome_quiet s e v)

-- ---- runs

-- the reply to one event, and what is told behind it
pub first_told : (c : Catalog) (o : Outcome) (rest : List ℕ) (more : Bool) → IsQuietOutcome o → has_error_line rest ≡ not more
    → has_error_line (text_of c o ++ rest) ≡ not (is_accepted o && more)
first_told c Blank rest more q h = h
first_told c (Refused r) rest more q h = refusal_tells c r rest
first_told c (Done text answers next) rest more q h = behind_quiet text rest q ∙ h

pub runs_tell_errors : RunsTellErrors
runs_tell_errors s [] v = refl
runs_tell_errors s (e ∷ es) v =
    first_told s.base.catalog (outcome_of s e) (replies (next_state s e) es) (accepts_all (next_state s e) es) (outcome_quiet s e v)
    (runs_tell_errors (next_state s e) es (bases_stay_valid s e v))
