-- A valid base stays valid, whatever comes.
use Rattle.std.proofs.Common.{◌≡◌, ◌∙◌, ℕ, true, List, length, Option, Some, None, refl, sym}
use Rattle.std.specs.Option.{option_and_then, option_map}
use Rattle.std.specs.Prelude.{if◌then◌else◌}
use Rattle.bdb_base.specs.Bases.{Contents, IsValid, stands, with_relation, with_statement, with_user}
use Rattle.bdb_base.specs.Changes.{statements_naming, taken_by, updated, without_taken}
use Rattle.bdb_base.specs.Queries.{answers_of}
use Rattle.bdb_base.specs.declared.kinds.Cond.{Cond}
use Rattle.bdb_base.specs.declared.kinds.SetCol.{SetCol}
use Rattle.bdb_base.specs.declared.kinds.Sign.{Sign}
use Rattle.bdb_base.specs.declared.kinds.Stmt.{Stmt}
use Rattle.bdb_base.specs.declared.kinds.What.{What}
use Rattle.bdb_base.proofs.UpdateLemmas.{delete_is_valid, update_is_valid}
use Rattle.bdb_base.proofs.UserLemmas.{drop_user_is_valid}
use Rattle.bdb_base.proofs.OptionLemmas.{nothing_mapped}
use Rattle.bdb_bind.specs.Binding.{bound_of}
use Rattle.bdb_bind.specs.Fits.{fits_catalog}
use Rattle.bdb_bind.specs.Refusal.{refusal_of}
use Rattle.bdb_bind.specs.declared.bound.Bound.{Bound}
use Rattle.bdb_bind.specs.declared.bound.Bound.TheVariants.{CreateUser, CreateRelation, DropUser, Insert, Delete, Update, Select, ShowTables}
use Rattle.bdb_bind.proofs.Fitting.{what_is_bound_fits}
use Rattle.bdb_canon.specs.Canonical.{canon_of, line_count}
use Rattle.bdb_render.specs.Replies.{count_reply, ok_reply, rows_reply}
use Rattle.bdb_render.specs.Tables.{tables_reply}
use Rattle.bdb_render.specs.declared.refusal.Refusal.{Refusal}
use Rattle.bdb_render.specs.declared.refusal.Refusal.TheVariants as refusal
use Rattle.bdb_syntax.specs.declared.command.Command.{Command}
use Rattle.bdb_syntax.specs.Printable.{IsPrintable}
use Rattle.bdb_update.proofs.JoinLemmas.{may_join}
use Rattle.bdb_session.proofs.AllowedLemmas.{printable_is_allowed}
use Rattle.bdb_session.proofs.CatalogLemmas.{relation_is_valid, user_is_valid}
use Rattle.bdb_session.proofs.ChangeFacts.{size_limit}
use Rattle.bdb_session.proofs.ErrorReading.{SaysPrintable, not_refused_to_bind, reading_printable}
use Rattle.bdb_session.proofs.LimitLemmas.{within_limits}
use Rattle.bdb_session.proofs.UpdateLemmas.{sets_fit, update_fits}
use Rattle.bdb_session.specs.ErrorLaws.{BasesStayValid, HasValidBase}
use Rattle.bdb_session.specs.Machine.{becomes, bound_outcome, clash_with, clashes_with, clashing_within, command_outcome, reading_outcome, refusal_from, tells, with_catalog}
use Rattle.bdb_leaving.specs.Leaving.{base_without_user}
use Rattle.bdb_update.specs.Calls.{clash_of, with_stmts}
use Rattle.bdb_session.specs.Outcome.{State, Outcome, Done, state_after, unless}
use Rattle.bdb_session.specs.Reading.{reading_of}
use Rattle.bdb_session.specs.Sizes.{passed_limit, too_many}
use Rattle.bdb_session.specs.declared.event.ScriptEvent.TheVariants as event
use Rattle.bdb_session.specs.declared.reading.Reading.{Reading}
use Rattle.bdb_session.specs.declared.reading.Reading.TheVariants as reading

-- what comes of it leads to a valid base
abbrev LeadsOn : State → Outcome → Type 0
LeadsOn s o = HasValidBase (state_after s o)

unless_leads : (s : State) (o : Option Refusal) (x : Outcome) → HasValidBase s → (o ≡ None → LeadsOn s x) → LeadsOn s (unless o x)
unless_leads s None x v h = h refl
unless_leads s (Some r) x v h = v

becomes_by : (s : State) (b : Contents) (text : List ℕ) (o : Option What) → HasValidBase s → (o ≡ None → IsValid b.catalog b.stmts)
    → LeadsOn s (unless (option_map refusal.Full o) (Done text 0 (record s { base = b })))
becomes_by s b text None v h = h refl
becomes_by s b text (Some w) v h = v

becomes_leads : (s : State) (b : Contents) (text : List ℕ) → HasValidBase s → (passed_limit b ≡ None → IsValid b.catalog b.stmts) → LeadsOn s (becomes s b text)
becomes_leads s b text v h = becomes_by s b text (passed_limit b) v h

tells_leads : (s : State) (lines : ℕ) (text : List ℕ) (answers : ℕ) → HasValidBase s → LeadsOn s (tells s lines text answers)
tells_leads s lines text answers v = unless_leads s (too_many lines) (Done text answers s) v (λ e. v)

insert_valid : (s : State) (x : Stmt) → HasValidBase s → fits_catalog s.base.catalog (Insert x) ≡ true → clash_of s.base x ≡ None
    → passed_limit (with_stmts s.base (with_statement s.base.stmts x)) ≡ None → IsValid s.base.catalog (with_statement s.base.stmts x)
insert_valid s x v fits apart room =
    (may_join s.base x v fits apart (sym (size_limit s.base (with_statement s.base.stmts x) v) ∙ room)).next

update_valid : (s : State) (path : List ℕ) (sign : Sign) (rel : ℕ) (sets : List SetCol) (conds : List Cond) → HasValidBase s → fits_catalog s.base.catalog (Update path sign rel sets conds) ≡ true
    → clashing_within (with_stmts s.base (updated path sign rel conds sets s.base.stmts)) path ≡ None
    → passed_limit (with_stmts s.base (updated path sign rel conds sets s.base.stmts)) ≡ None → IsValid s.base.catalog (updated path sign rel conds sets s.base.stmts)
update_valid s path sign rel sets conds v fits apart room =
    let w = within_limits (with_stmts s.base (updated path sign rel conds sets s.base.stmts)) room in
    update_is_valid s.base.catalog s.base.stmts path sign rel conds sets v
    (sets_fit s.base.catalog.rels rel sets (update_fits s.base.catalog path sign rel sets conds fits).fit) apart w.tuples w.worlds w.stmts

bound_leads : (s : State) (b : Bound) → HasValidBase s → fits_catalog s.base.catalog b ≡ true → LeadsOn s (bound_outcome s b)
bound_leads s (CreateUser name) v fits = becomes_leads s (with_catalog s.base (with_user s.base.catalog name)) ok_reply v (λ e. user_is_valid s.base name v fits e)
bound_leads s (CreateRelation def) v fits = becomes_leads s (with_catalog s.base (with_relation s.base.catalog def)) ok_reply v (λ e. relation_is_valid s.base def v fits e)
bound_leads s (DropUser uid) v fits =
    becomes_leads s (base_without_user s.base uid) (count_reply (length (statements_naming uid s.base.stmts))) v (λ e. drop_user_is_valid s.base.catalog s.base.stmts uid v fits)
bound_leads s (Insert x) v fits =
    let next = with_stmts s.base (with_statement s.base.stmts x) in
    let text = count_reply (if stands s.base.stmts x then 0 else 1) in
    unless_leads s (clashes_with (clash_of s.base x)) (becomes s next text) v
    (λ apart. becomes_leads s next text v (λ room. insert_valid s x v fits (nothing_mapped clash_with (clash_of s.base x) apart) room))
bound_leads s (Delete path sign rel conds) v fits =
    becomes_leads s (with_stmts s.base (without_taken path sign rel conds s.base.stmts)) (count_reply (length (taken_by path sign rel conds s.base.stmts))) v
    (λ e. delete_is_valid s.base.catalog s.base.stmts path sign rel conds v)
bound_leads s (Update path sign rel sets conds) v fits =
    let next = with_stmts s.base (updated path sign rel conds sets s.base.stmts) in
    let text = count_reply (length (taken_by path sign rel conds s.base.stmts)) in
    unless_leads s (clashes_with (clashing_within next path)) (becomes s next text) v
    (λ apart. becomes_leads s next text v (λ room. update_valid s path sign rel sets conds v fits (nothing_mapped clash_with (clashing_within next path) apart) room))
bound_leads s (Select q) v fits = tells_leads s (length (answers_of s.base q)) (rows_reply (answers_of s.base q)) (length (answers_of s.base q)) v
bound_leads s ShowTables v fits = tells_leads s (line_count s.base.catalog (canon_of s.base)) (tables_reply s.base.catalog (canon_of s.base)) 0 v
bound_leads s _ v fits = v

-- a printable command that is not refused is bound to what fits
pub bound_fits : (s : State) (c : Command) → HasValidBase s → IsPrintable c → option_and_then refusal_from (refusal_of s.base.catalog c) ≡ None
    → fits_catalog s.base.catalog (bound_of s.base.catalog c) ≡ true
bound_fits s c v p e = what_is_bound_fits s.base.catalog c v.catalog (printable_is_allowed c p) (not_refused_to_bind s.base.catalog c e)

command_leads : (s : State) (c : Command) → HasValidBase s → IsPrintable c → LeadsOn s (command_outcome s c)
command_leads s c v p =
    unless_leads s (option_and_then refusal_from (refusal_of s.base.catalog c)) (bound_outcome s (bound_of s.base.catalog c)) v
    (λ e. bound_leads s (bound_of s.base.catalog c) v (bound_fits s c v p e))

reading_leads : (s : State) (r : Reading) → HasValidBase s → SaysPrintable r → LeadsOn s (reading_outcome s r)
reading_leads s reading.Nothing v p = v
reading_leads s (reading.Says c) v p = command_leads s c v p
reading_leads s (reading.Refused r) v p = v

pub bases_stay_valid : BasesStayValid
bases_stay_valid s (event.Piece bytes) v = reading_leads s (reading_of bytes) v (reading_printable bytes)
bases_stay_valid s event.Long v = v
bases_stay_valid s event.Unfinished v = v
