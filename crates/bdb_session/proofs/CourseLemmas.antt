-- Commands that go along the bases.
use Rattle.std.proofs.Common.{◌≡◌, ◌∙◌, ap, refl, sym, subst, false, true}
use Rattle.std.specs.Prelude.{Result, is_none}
use Rattle.std.proofs.lemmas.Bool.{false≢true}
use Rattle.bdb_base.specs.declared.kinds.Catalog.{Catalog}
use Rattle.bdb_bind.specs.Lines.{text_line, items_line, relation_line, user_line, alias_twice_line, alias_line, column_line, taken_line, key_line, repeat_line, deep_line, arity_line, kind_line}
use Rattle.bdb_bind.specs.Refusal.{names_refused, refusal_of, unsafe_line}
use Rattle.bdb_keep.specs.Seen.{Seen}
use Rattle.bdb_syntax.specs.declared.command.Command.{Command}
use Rattle.bdb_syntax.specs.declared.command.Command.TheVariants.{CreateUser, CreateRelation, DropUser, Insert, Delete, Update, Select, Explain, ShowWorld, Why, ShowTables, Undo, Redo}
use Rattle.bdb_session.specs.Bounds.{CommandReads, CommandWrites, RefusedUnwritten}
use Rattle.bdb_session.specs.Known.{Known}
use Rattle.bdb_session.specs.Undoing.{course_of_command}
use Rattle.bdb_session.specs.declared.course.Course.TheVariants.{Back, Forth}
use Rattle.bdb_session.specs.declared.reply.Reply.{Reply}
use Rattle.bdb_session.specs.declared.error.StopError.{StopError}

is_undo : (c : Command) → course_of_command c ≡ Back → c ≡ Undo
is_undo (CreateUser name) e = absurd cc
is_undo (CreateRelation name cols key) e = absurd cc
is_undo (DropUser name) e = absurd cc
is_undo (Insert users sign rel vals) e = absurd cc
is_undo (Delete users sign rel conds) e = absurd cc
is_undo (Update users sign rel sets conds) e = absurd cc
is_undo (Select query) e = absurd cc
is_undo (Explain query) e = absurd cc
is_undo (ShowWorld users) e = absurd cc
is_undo (Why users sign rel vals) e = absurd cc
is_undo ShowTables e = absurd cc
is_undo Undo e = refl
is_undo Redo e = absurd cc

is_redo : (c : Command) → course_of_command c ≡ Forth → c ≡ Redo
is_redo (CreateUser name) e = absurd cc
is_redo (CreateRelation name cols key) e = absurd cc
is_redo (DropUser name) e = absurd cc
is_redo (Insert users sign rel vals) e = absurd cc
is_redo (Delete users sign rel conds) e = absurd cc
is_redo (Update users sign rel sets conds) e = absurd cc
is_redo (Select query) e = absurd cc
is_redo (Explain query) e = absurd cc
is_redo (ShowWorld users) e = absurd cc
is_redo (Why users sign rel vals) e = absurd cc
is_redo ShowTables e = absurd cc
is_redo Undo e = absurd cc
is_redo Redo e = refl

-- such a command is bound, and reads as no clause says
module _ (c : Command) (k : Known) (old new : Seen) (result : Result Reply StopError) where
  pub undo_reads : course_of_command c ≡ Back → CommandReads c k old new result
  undo_reads e = subst (λ (x : Command). CommandReads x k old new result) (sym (is_undo c e)) (λ fine. tt)

  pub redo_reads : course_of_command c ≡ Forth → CommandReads c k old new result
  redo_reads e = subst (λ (x : Command). CommandReads x k old new result) (sym (is_redo c e)) (λ fine. tt)

  pub undo_writes : course_of_command c ≡ Back → RefusedUnwritten old new result → CommandWrites c k old new result
  undo_writes e h = subst (λ (x : Command). CommandWrites x k old new result) (sym (is_undo c e)) (λ fine. h)

  pub redo_writes : course_of_command c ≡ Forth → RefusedUnwritten old new result → CommandWrites c k old new result
  redo_writes e h = subst (λ (x : Command). CommandWrites x k old new result) (sym (is_redo c e)) (λ fine. h)

no_undo_refusal : (catalog : Catalog) → is_none (refusal_of catalog Undo) ≡ true
unfolding refusal_of names_refused text_line items_line relation_line user_line alias_twice_line alias_line column_line taken_line key_line repeat_line deep_line arity_line kind_line unsafe_line
no_undo_refusal catalog = refl

no_redo_refusal : (catalog : Catalog) → is_none (refusal_of catalog Redo) ≡ true
unfolding refusal_of names_refused text_line items_line relation_line user_line alias_twice_line alias_line column_line taken_line key_line repeat_line deep_line arity_line kind_line unsafe_line
no_redo_refusal catalog = refl

pub undo_is_bound : (c : Command) (catalog : Catalog) → course_of_command c ≡ Back → is_none (refusal_of catalog c) ≡ false → ⊥
undo_is_bound c catalog e h = absurd (false≢true (sym h ∙ ap (λ (x : Command). is_none (refusal_of catalog x)) (is_undo c e) ∙ no_undo_refusal catalog))

pub redo_is_bound : (c : Command) (catalog : Catalog) → course_of_command c ≡ Forth → is_none (refusal_of catalog c) ≡ false → ⊥
redo_is_bound c catalog e h = absurd (false≢true (sym h ∙ ap (λ (x : Command). is_none (refusal_of catalog x)) (is_redo c e) ∙ no_redo_refusal catalog))
