-- What comes of a delete, by what was read and written.
use Rattle.std.proofs.Common.{◌≡◌, ◌∙◌, ℕ, true, ◌&&◌, nat_lt, List, [], Option, Result, Ok, ap, refl, sym, subst, length}
use Rattle.std.specs.List.{AllByRecursion, list_all}
use Rattle.std.proofs.lemmas.Bool.{and_parts}
use Rattle.bdb_base.specs.Bases.{stands}
use Rattle.bdb_base.specs.Changes.{is_taken, taken_by, without_taken, without_statements}
use Rattle.bdb_base.specs.Limits.{deepest_statement}
use Rattle.bdb_base.specs.declared.kinds.Catalog.{Catalog}
use Rattle.bdb_base.specs.declared.kinds.Cond.{Cond}
use Rattle.bdb_base.specs.declared.kinds.Sign.{Sign}
use Rattle.bdb_base.specs.declared.kinds.Stmt.{Stmt}
use Rattle.bdb_bind.specs.Fits.{fits_catalog, fits_path, cond_fits, columns_numbered}
use Rattle.bdb_bind.specs.declared.bound.Bound.TheVariants.{Delete}
use Rattle.bdb_canon.specs.declared.sizes.Counts.{Counts}
use Rattle.bdb_catalog.specs.Taking.{AreTaken}
use Rattle.bdb_keep.specs.Seen.{Seen}
use Rattle.bdb_keep.specs.Tables.{Tables}
use Rattle.bdb_render.specs.Replies.{count_reply}
use Rattle.bdb_tables.specs.Stored.{Stores}
use Rattle.bdb_undo.specs.declared.change.Change.{Change}
use Rattle.bdb_undo.specs.declared.change.Named.TheVariants.{Nothing}
use Rattle.bdb_undo.proofs.ChangeLemmas.{takes_lead}
use Rattle.bdb_update.specs.Calls.{StoresSized, none_comes_again, with_stmts}
use Rattle.bdb_update.specs.Replacing.{MayGo, SomeMayGo, Go}
use Rattle.bdb_update.proofs.TakenLemmas.{others_are_left, taken_apart, taken_stand}
use Rattle.bdb_val.specs.Steps.{IsChanging}
use Rattle.bdb_val.proofs.Calls.{HasGone, gone_changing, gone_then}
use Rattle.bdb_session.specs.declared.change.Selection.{Selection}
use Rattle.bdb_session.specs.declared.reply.Reply.{Reply}
use Rattle.bdb_session.specs.declared.error.StopError.{StopError}
use Rattle.bdb_session.specs.declared.error.StopError.TheVariants.{Fault}
use Rattle.bdb_session.specs.Known.{Known, Agrees, AgreesOnSome}
use Rattle.bdb_session.specs.Machine.{bound_outcome}
use Rattle.bdb_session.specs.Noting.{made_of}
use Rattle.bdb_session.specs.Outcome.{State, Outcome, Done}
use Rattle.bdb_session.specs.Within.{LeadsBy, TellsChange, TellsWithin, IsSaid, sized}
use Rattle.bdb_session.proofs.LimitLemmas.{no_limit}
use Rattle.bdb_session.proofs.NotingLemmas.{made_leads, told_changes}
use Rattle.bdb_session.proofs.OutcomeLemmas.{becomes_done}
use Rattle.bdb_session.proofs.TakenLemmas.{all_taken, taken_at}
use Rattle.bdb_session.proofs.TellLemmas.{agreed_users, fitting_users}
use Rattle.bdb_session.proofs.WithinLemmas.{said_tells}

-- the path of a delete fits
pub delete_path_fits : (c : Catalog) (w : List ℕ) (sign : Sign) (rel : ℕ) (conds : List Cond) → fits_catalog c (Delete w sign rel conds) ≡ true → fits_path c.users deepest_statement w ≡ true
delete_path_fits c w sign rel conds e =
    (and_parts (fits_path c.users deepest_statement w) (nat_lt rel (length c.rels) && list_all (cond_fits (columns_numbered c.rels rel)) conds) e).0

-- the change where statements go
abbrev pub gone_change : List Stmt → Change
gone_change xs = record { named = Nothing; gone = xs; come = [] }

-- ---- what is taken

-- The statements that a command is about have been read: its path fits the catalog that a session knows, the session agreed with the
-- tables as they were before, these are the statements, and nothing was written since.
pub record HasSelected (k : Known) (before : Counts) (x : Selection) (old now : Seen) (gone : List Stmt) : Type 0 where
  pub fits : fits_path k.catalog.users deepest_statement x.path ≡ true
  pub agrees : AgreesOnSome old.kept (sized k before)
  pub taken : AreTaken old.kept x.path x.sign x.rel x.conds gone
  pub kept : now.kept ≡ old.kept
  pub writes : now.writes ≡ old.writes
  pub went : HasGone old now

-- by what was read of the tables
pub has_selected : {k : Known} {before : Counts} {x : Selection} {old now : Seen} (gone stmts : List Stmt) → gone ≡ stmts → fits_path k.catalog.users deepest_statement x.path ≡ true
    → AgreesOnSome old.kept (sized k before) → AreTaken old.kept x.path x.sign x.rel x.conds stmts → now.kept ≡ old.kept → now.writes ≡ old.writes
    → IsChanging {T = List Stmt} {E = StopError} old now (Ok stmts) Fault → HasSelected k before x old now gone
has_selected {x} {old} {now} gone stmts is fits agrees taken kept writes changing = record {
  fits = fits;
  agrees = agrees;
  taken = subst (λ (l : List Stmt). AreTaken old.kept x.path x.sign x.rel x.conds l) (sym is) taken;
  kept = kept;
  writes = writes;
  went = gone_changing old now stmts Fault changing;
}

module _ {k : Known} {before : Counts} {x : Selection} {old now : Seen} {gone : List Stmt} (read : HasSelected k before x old now gone) where
  pub gone_is : (s : State) → Agrees old.kept (sized k before) s → gone ≡ taken_by x.path x.sign x.rel x.conds s.base.stmts
  gone_is s a = read.taken s.base (agreed_users old.kept x.path (sized k before) s a (fitting_users k.catalog.users deepest_statement x.path read.fits))

  pub stores_sized : (s : State) → Agrees old.kept (sized k before) s → StoresSized now.kept before s.base
  stores_sized s a = record { stored = subst (λ (t : Tables). Stores t s.base) (sym read.kept) a.base.stored; valid = a.base.valid; counted = a.counts }

  pub gone_stand : (s : State) → Agrees old.kept (sized k before) s → list_all (stands s.base.stmts) gone ≡ true
  gone_stand s a = ap (list_all (stands s.base.stmts)) (gone_is s a) ∙ taken_stand (is_taken x.path x.sign x.rel x.conds) s.base.stmts

  pub gone_apart : (s : State) → Agrees old.kept (sized k before) s → none_comes_again gone ≡ true
  gone_apart s a = ap none_comes_again (gone_is s a) ∙ taken_apart (is_taken x.path x.sign x.rel x.conds) s.base.stmts a.base.valid.stmts.sorted

  -- all of them are of its path
  pub gone_here : (s : State) → Agrees old.kept (sized k before) s → AllByRecursion (λ (y : Stmt). y.path ≡ x.path) gone
  gone_here s a =
      subst (AllByRecursion (λ (y : Stmt). y.path ≡ x.path)) (sym (gone_is s a))
      (all_taken (λ y. y.path ≡ x.path) (is_taken x.path x.sign x.rel x.conds) (taken_at x.path x.sign x.rel x.conds) s.base.stmts)

  pub left_is : (s : State) → Agrees old.kept (sized k before) s → without_statements s.base.stmts gone ≡ without_taken x.path x.sign x.rel x.conds s.base.stmts
  left_is s a = ap (without_statements s.base.stmts) (gone_is s a) ∙ others_are_left (is_taken x.path x.sign x.rel x.conds) s.base.stmts a.base.valid.stmts.sorted

  pub may_go : (s : State) → Agrees old.kept (sized k before) s → MayGo now.kept before gone s.base
  may_go s a = record { base = stores_sized s a; stand = gone_stand s a; apart = gone_apart s a }

  pub some_may_go : SomeMayGo now.kept before gone
  some_may_go = record { base = read.agrees.state.base; may = may_go read.agrees.state read.agrees.agrees }

  -- ---- what is told

  abbrev outcome : State → Outcome
  outcome s = bound_outcome s (Delete x.path x.sign x.rel x.conds)

  -- the base afterwards
  abbrev next : State → State
  next s = record s { base = with_stmts s.base (without_taken x.path x.sign x.rel x.conds s.base.stmts) }

  module _ (fin : Seen) (after : Counts) (go : Go now.kept fin.kept before after gone) where
    deleted : (s : State) → Agrees old.kept (sized k before) s → StoresSized fin.kept after (next s).base
    deleted s a = subst (λ xs. StoresSized fin.kept after (with_stmts s.base xs)) (left_is s a) (go s.base (may_go s a))

    delete_done : (n : ℕ) → n ≡ length gone → (s : State) → Agrees old.kept (sized k before) s → outcome s ≡ Done (count_reply n) 0 (next s)
    delete_done n many s a =
        becomes_done s (next s).base (count_reply (length (taken_by x.path x.sign x.rel x.conds s.base.stmts))) (no_limit (next s).base (deleted s a).valid)
        ∙ ap (λ m. Done (count_reply m) 0 (next s)) (sym (many ∙ ap length (gone_is s a)))

    pub delete_tells : (new : Seen) (n : ℕ) (result : Result Reply StopError) → HasGone now fin → n ≡ length gone
        → ((s : State) → IsSaid k.catalog (Done (count_reply n) 0 s) fin new result) → TellsWithin outcome (sized k before) (sized k after) old new result
    delete_tells new n result went many said =
        said_tells outcome (λ s. Done (count_reply n) 0 (next s)) (sized k before) (sized k after) old fin new result read.agrees
        (gone_then old now fin read.went went) (delete_done n many)
        (λ s a. let d = deleted s a in record { base = record { stored = d.stored; valid = d.valid }; catalog = a.catalog; counts = d.counted })
        (λ s. said (next s))

    -- ---- which change is told of it

    pub delete_changes : (result : Result Reply StopError) (c : Option Change) → c ≡ made_of (gone_change gone) → TellsChange outcome (sized k before) c old result
    delete_changes result c is =
        told_changes outcome (λ s. Done (count_reply (length gone)) 0 (next s)) (sized k before) c old result
        (delete_done (length gone) refl)
        (λ s a. subst (λ (o : Option Change). LeadsBy o s.base (next s).base) (sym (is ∙ ap (λ xs. made_of (gone_change xs)) (gone_is s a)))
        (made_leads (gone_change (taken_by x.path x.sign x.rel x.conds s.base.stmts)) s.base (next s).base
        (takes_lead s.base.catalog s.base.stmts (is_taken x.path x.sign x.rel x.conds) a.base.valid)))
