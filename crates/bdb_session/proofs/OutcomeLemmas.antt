-- What comes of a command that isn't refused, and of one that is.
use Rattle.std.proofs.Common.{◌≡◌, ◌≢◌, ◌∙◌, ℕ, true, List, length, Option, Some, None, refl, ap, sym}
use Rattle.std.proofs.lemmas.Bool.{false≢true}
use Rattle.std.specs.Option.{option_map, option_and_then}
use Rattle.std.specs.Prelude.{if◌then◌else◌}
use Rattle.bdb_base.specs.Bases.{Contents, IsValid, stands, with_relation, with_statement, with_user}
use Rattle.bdb_base.specs.Changes.{statements_naming, taken_by, updated, without_taken}
use Rattle.bdb_base.specs.Queries.{answers_of}
use Rattle.bdb_base.specs.declared.kinds.Cond.{Cond}
use Rattle.bdb_base.specs.declared.kinds.Query.{Query}
use Rattle.bdb_base.specs.declared.kinds.SetCol.{SetCol}
use Rattle.bdb_base.specs.declared.kinds.Sign.{Sign}
use Rattle.bdb_base.specs.declared.kinds.Stmt.{Stmt}
use Rattle.bdb_base.specs.declared.kinds.What.{What}
use Rattle.bdb_bind.specs.declared.bound.BindError.{BindError}
use Rattle.bdb_bind.specs.declared.bound.BindError.TheVariants.{Memory}
use Rattle.bdb_bind.specs.declared.bound.Bound.{Bound}
use Rattle.bdb_bind.specs.declared.bound.Bound.TheVariants.{CreateUser, CreateRelation, DropUser, Insert, Delete, Update, Select, Explain, ShowWorld, Why, ShowTables, Undo, Redo}
use Rattle.bdb_bind.specs.Binding.{bound_of}
use Rattle.bdb_bind.specs.Refusal.{refusal_of}
use Rattle.bdb_canon.specs.Canonical.{canon_of, line_count}
use Rattle.bdb_render.specs.Replies.{count_reply, ok_reply, rows_reply}
use Rattle.bdb_render.specs.Tables.{tables_reply}
use Rattle.bdb_render.specs.declared.refusal.Refusal.{Refusal}
use Rattle.bdb_render.specs.declared.refusal.Refusal.TheVariants as refusal
use Rattle.bdb_session.specs.Machine.{refusal_from, becomes, bound_outcome, clashes_with, clashing_within, command_outcome, tells, with_catalog}
use Rattle.bdb_leaving.specs.Leaving.{base_without_user}
use Rattle.bdb_update.specs.Calls.{clash_of, with_stmts}
use Rattle.bdb_session.specs.Outcome.{State, Outcome, Refused, Done, unless, is_accepted, commit_count, state_after}
use Rattle.bdb_session.specs.Sizes.{passed_limit, too_many}
use Rattle.bdb_syntax.specs.declared.command.Command.{Command}
use Rattle.bdb_session.proofs.LimitLemmas.{no_limit}

-- a refusal, and none
pub unless_some : (o : Option Refusal) (x : Refusal) (rest : Outcome) → o ≡ Some x → unless o rest ≡ Refused x
unless_some o x rest e = ap (λ (r : Option Refusal). unless r rest) e

pub unless_none : (o : Option Refusal) (rest : Outcome) → o ≡ None → unless o rest ≡ rest
unless_none o rest e = ap (λ (r : Option Refusal). unless r rest) e

-- a refusal to bind is one of the command
pub refused_to_bind : (o : Option BindError) (e : BindError) (x : Refusal) → Some x ≡ refusal_from e → (e ≢ Memory → o ≡ Some e) → option_and_then refusal_from o ≡ Some x
refused_to_bind o e x is h = ap (λ (r : Option BindError). option_and_then refusal_from r) (h other) ∙ sym is
  where
    other : e ≢ Memory
    other m = let none : Some x ≡ None = is ∙ ap refusal_from m in cc

-- a command that is bound
pub bound_command : (s : State) (c : Command) (b : Bound) → refusal_of s.base.catalog c ≡ None → b ≡ bound_of s.base.catalog c → command_outcome s c ≡ bound_outcome s b
bound_command s c b fine is =
    unless_none (option_and_then refusal_from (refusal_of s.base.catalog c)) (bound_outcome s (bound_of s.base.catalog c)) (ap (option_and_then refusal_from) fine)
    ∙ ap (bound_outcome s) (sym is)

-- a base that passes a limit, and one that doesn't
pub becomes_full : (s : State) (b : Contents) (text : List ℕ) (what : What) → passed_limit b ≡ Some what → becomes s b text ≡ Refused (refusal.Full what)
becomes_full s b text what e = ap (λ w. unless (option_map refusal.Full w) (Done text 0 (record s { base = b }))) e

pub becomes_done : (s : State) (b : Contents) (text : List ℕ) → passed_limit b ≡ None → becomes s b text ≡ Done text 0 (record s { base = b })
becomes_done s b text e = ap (λ w. unless (option_map refusal.Full w) (Done text 0 (record s { base = b }))) e

-- the state stays where the base becomes itself
pub becomes_itself : (s : State) (b : Contents) (text : List ℕ) → IsValid s.base.catalog s.base.stmts → b ≡ s.base → becomes s b text ≡ Done text 0 s
becomes_itself s b text valid e = ap (λ (x : Contents). becomes s x text) e ∙ becomes_done s s.base text (no_limit s.base valid)

-- ---- what is accepted of a command counts once

abbrev Counts : Outcome → Type 0
Counts o = is_accepted o ≡ true → commit_count o ≡ 1

unless_counts : (o : Option Refusal) (x : Outcome) → Counts x → Counts (unless o x)
unless_counts None x h e = h e
unless_counts (Some r) x h e = absurd (false≢true e)

becomes_counts : (s : State) (b : Contents) (text : List ℕ) → Counts (becomes s b text)
becomes_counts s b text = unless_counts (option_map refusal.Full (passed_limit b)) (Done text 0 (record s { base = b })) (λ e. refl)

tells_counts : (s : State) (lines : ℕ) (text : List ℕ) (answers : ℕ) → Counts (tells s lines text answers)
tells_counts s lines text answers = unless_counts (too_many lines) (Done text answers s) (λ e. refl)

abbrev inserted : State → Stmt → Contents
inserted s x = with_stmts s.base (with_statement s.base.stmts x)

abbrev changed : State → List ℕ → Sign → ℕ → List SetCol → List Cond → Contents
changed s path sign rel sets conds = with_stmts s.base (updated path sign rel conds sets s.base.stmts)

pub bound_counts : (b : Bound) (s : State) → is_accepted (bound_outcome s b) ≡ true → commit_count (bound_outcome s b) ≡ 1
bound_counts (CreateUser name) s = becomes_counts s (with_catalog s.base (with_user s.base.catalog name)) ok_reply
bound_counts (CreateRelation def) s = becomes_counts s (with_catalog s.base (with_relation s.base.catalog def)) ok_reply
bound_counts (DropUser uid) s = becomes_counts s (base_without_user s.base uid) (count_reply (length (statements_naming uid s.base.stmts)))
bound_counts (Insert x) s =
    unless_counts (clashes_with (clash_of s.base x)) (becomes s (inserted s x) (count_reply (if stands s.base.stmts x then 0 else 1)))
    (becomes_counts s (inserted s x) (count_reply (if stands s.base.stmts x then 0 else 1)))
bound_counts (Delete path sign rel conds) s =
    becomes_counts s (with_stmts s.base (without_taken path sign rel conds s.base.stmts)) (count_reply (length (taken_by path sign rel conds s.base.stmts)))
bound_counts (Update path sign rel sets conds) s =
    unless_counts (clashes_with (clashing_within (changed s path sign rel sets conds) path))
    (becomes s (changed s path sign rel sets conds) (count_reply (length (taken_by path sign rel conds s.base.stmts))))
    (becomes_counts s (changed s path sign rel sets conds) (count_reply (length (taken_by path sign rel conds s.base.stmts))))
bound_counts (Select q) s = tells_counts s (length (answers_of s.base q)) (rows_reply (answers_of s.base q)) (length (answers_of s.base q))
bound_counts (Explain q) s = λ e. refl
bound_counts (ShowWorld path) s = λ e. refl
bound_counts (Why x) s = λ e. refl
bound_counts ShowTables s = tells_counts s (line_count s.base.catalog (canon_of s.base)) (tables_reply s.base.catalog (canon_of s.base)) 0
bound_counts Undo s = λ e. absurd (false≢true e)
bound_counts Redo s = λ e. absurd (false≢true e)

-- ---- what is told leaves the base as it is

unless_stays : (s : State) (o : Option Refusal) (x : Outcome) → state_after s x ≡ s → state_after s (unless o x) ≡ s
unless_stays s None x e = e
unless_stays s (Some r) x e = refl

tells_stays : (s : State) (lines : ℕ) (text : List ℕ) (answers : ℕ) → state_after s (tells s lines text answers) ≡ s
tells_stays s lines text answers = unless_stays s (too_many lines) (Done text answers s) refl

pub select_stays : (q : Query) (s : State) → state_after s (bound_outcome s (Select q)) ≡ s
select_stays q s = tells_stays s (length (answers_of s.base q)) (rows_reply (answers_of s.base q)) (length (answers_of s.base q))

pub tables_stay : (s : State) → state_after s (bound_outcome s ShowTables) ≡ s
tables_stay s = tells_stays s (line_count s.base.catalog (canon_of s.base)) (tables_reply s.base.catalog (canon_of s.base)) 0
