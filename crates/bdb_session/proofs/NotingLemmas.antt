-- The changes that commands make: they lead from the base before to the one after, where they are told.
use Rattle.std.proofs.Common.{◌≡◌, ◌∙◌, ℕ, ◌+◌, ◌<◌, Bool, true, false, not, List, [], ◌∷◌, ◌++◌, Option, Some, None, Result, Ok, Err, refl, ap, sym, subst, inl, inr, length, drop, take, get_or}
use Rattle.std.specs.Prelude.{if◌then◌else◌}
use Rattle.std.specs.List.{list_all}
use Rattle.std.proofs.lemmas.Bool.{cases_Bool, and_parts, false≢true}
use Rattle.std.proofs.lemmas.List.{append-nil, drop_more, take_more}
use Rattle.std.proofs.lemmas.List.Elements.{filter-append}
use Rattle.std.proofs.lemmas.List.Folds.{list_all_at}
use Rattle.bdb_base.specs.Bases.{Contents, belongs, stands}
use Rattle.bdb_base.specs.Order.{statement_cmp}
use Rattle.bdb_base.specs.OrderLemmas.{statement_exact}
use Rattle.bdb_base.specs.SortedSet.{put_all, put_in, sorted_set}
use Rattle.bdb_base.specs.declared.kinds.Stmt.{Stmt}
use Rattle.bdb_base.proofs.ListLemmas.{filter_dropped_one, filter_kept_one}
use Rattle.bdb_base.proofs.SetLemmas.{list_all-put_in}
use Rattle.bdb_bind.specs.declared.bound.Bound.{Bound}
use Rattle.bdb_canon.specs.declared.sizes.Counts.{Counts}
use Rattle.bdb_keep.specs.Seen.{Seen}
use Rattle.bdb_keep.specs.Tables.{Tables}
use Rattle.bdb_tables.specs.declared.tab.TabError.{TabError}
use Rattle.bdb_undo.specs.Changes.{Leads, alters, missing_from}
use Rattle.bdb_undo.specs.declared.change.Change.{Change}
use Rattle.bdb_undo.specs.declared.change.Named.TheVariants.{Nothing}
use Rattle.bdb_undo.proofs.ChangeLemmas.{nothing_is_altered}
use Rattle.bdb_update.specs.Calls.{MayMeet, SomeMayMeet, StoresSized}
use Rattle.bdb_update.specs.Examining.{StandsThere}
use Rattle.bdb_val.specs.Steps.{IsChanging}
use Rattle.bdb_val.proofs.Calls.{HasGone, gone_changing, gone_then}
use Rattle.bdb_session.specs.declared.news.News.{News}
use Rattle.bdb_session.specs.declared.reply.Reply.{Reply}
use Rattle.bdb_session.specs.declared.error.StopError.{StopError}
use Rattle.bdb_session.specs.Known.{Known, Agrees}
use Rattle.bdb_session.specs.Machine.{bound_outcome}
use Rattle.bdb_session.specs.Noting.{AreNew, MayMeetEach, PushesNew, Replaces, SomeMayMeetEach, made_of}
use Rattle.bdb_session.specs.Outcome.{State, Outcome, state_after}
use Rattle.bdb_session.specs.Within.{IsStopped, LeadsBy, TellsChange, nothing_new, sized}

-- ---- what is told

abbrev made_by : Change → Bool → Option Change
made_by c told = if told then Some c else None

-- a change that leads from one base to another is told where it alters something
pub made_leads : (c : Change) (a b : Contents) → Leads c a b → LeadsBy (made_of c) a b
made_leads c a b l = elim (cases_Bool (alters c)) [
  | inl e ↦ subst (λ (o : Option Change). LeadsBy o a b) (sym (ap (made_by c) e)) (l, e)
  | inr e ↦ subst (λ (o : Option Change). LeadsBy o a b) (sym (ap (made_by c) e)) (sym (nothing_is_altered c a b l e))
]

-- of a step that came to this in each state
pub told_changes : (outcome known : State → Outcome) (k : Known) (c : Option Change) (old : Seen) (result : Result Reply StopError)
    → ((s : State) → Agrees old.kept k s → outcome s ≡ known s) → ((s : State) → Agrees old.kept k s → LeadsBy c s.base (state_after s (known s)).base)
    → TellsChange outcome k c old result
told_changes outcome known k c old (Ok r) is leads = λ s a. subst (λ (o : Outcome). LeadsBy c s.base (state_after s o).base) (sym (is s a)) (leads s a)
told_changes outcome known k c old (Err stop) is leads = λ s a. tt

-- of one that leaves the base as it is
pub stays_unchanged : (outcome known : State → Outcome) (k : Known) (c : Option Change) (old : Seen) (result : Result Reply StopError) → c ≡ None
    → ((s : State) → Agrees old.kept k s → outcome s ≡ known s) → ((s : State) → state_after s (known s) ≡ s) → TellsChange outcome k c old result
stays_unchanged outcome known k c old result none is stays =
    subst (λ (o : Option Change). TellsChange outcome k o old result) (sym none)
    (told_changes outcome known k None old result is (λ s a. ap (λ (x : State). x.base) (stays s)))

-- of one that stopped
pub stopped_unchanged : (outcome : State → Outcome) (k : Known) (c : Option Change) (old mid new : Seen) (result : Result Reply StopError) (stop : StopError)
    → IsStopped stop mid new result → TellsChange outcome k c old result
stopped_unchanged outcome k c old mid new result stop said =
    subst (λ (r : Result Reply StopError). TellsChange outcome k c old r) (sym said.error) (λ s a. tt)

-- by what this comes of, where that is known, and by what is known before
pub changes_as : (outcome known : State → Outcome) (k from : Known) (c : Option Change) (old : Seen) (result : Result Reply StopError)
    → ((s : State) → outcome s ≡ known s) → k ≡ from → TellsChange known from c old result → TellsChange outcome k c old result
changes_as outcome known k from c old (Ok r) is e h = λ s a.
    subst (λ (o : Outcome). LeadsBy c s.base (state_after s o).base) (sym (is s)) (h s (subst (λ (x : Known). Agrees old.kept x s) e a))
changes_as outcome known k from c old (Err stop) is e h = λ s a. tt

-- of a command that is bound, and where nothing was learned before
pub changes_bound : (b known : Bound) (k : Known) (c : Option Change) (old : Seen) (result : Result Reply StopError) → b ≡ known → TellsChange (λ s. bound_outcome s known) k c old result
    → TellsChange (λ s. bound_outcome s b) k c old result
changes_bound b known k c old result is h = changes_as (λ s. bound_outcome s b) (λ s. bound_outcome s known) k k c old result (λ s. ap (bound_outcome s) is) refl h

pub changes_from : (b known : Bound) (k : Known) (news : News) (c : Option Change) (old : Seen) (result : Result Reply StopError) → news ≡ nothing_new k → b ≡ known
    → TellsChange (λ s. bound_outcome s known) (sized k news.counts) c old result → TellsChange (λ s. bound_outcome s b) k c old result
changes_from b known k news c old result nothing is h =
    changes_as (λ s. bound_outcome s b) (λ s. bound_outcome s known) k (sized k news.counts) c old result (λ s. ap (bound_outcome s) is)
    (sym (ap (λ (n : News). sized k n.counts) nothing)) h

-- ---- commands that leave the base as it is

abbrev pub Stays : Bound → Type 0
Stays b = (s : State) → state_after s (bound_outcome s b) ≡ s

module _ (b known : Bound) (k : Known) (news : News) (old : Seen) (result : Result Reply StopError) (is : b ≡ known) (nothing : news ≡ nothing_new k) where
  pub read_unchanged : Stays known → TellsChange (λ s. bound_outcome s b) k news.change old result
  read_unchanged stays =
      stays_unchanged (λ s. bound_outcome s b) (λ s. bound_outcome s known) k news.change old result (ap (λ (n : News). n.change) nothing) (λ s a. ap (bound_outcome s) is) stays

-- ---- statements that do not stand

passes_at : (p : Stmt → Bool) (xs : List Stmt) (i : ℕ) (x : Stmt) → i < length xs → list_all p xs ≡ true → p (get_or xs i x) ≡ true
passes_at p xs i x h all = elim (cases_Bool (p (get_or xs i x))) [
  | inl e ↦ e
  | inr e ↦ absurd (false≢true (sym (list_all_at p xs i x h e) ∙ all))
]

one_more : (others xs : List Stmt) (i : ℕ) (x : Stmt) → i < length xs → x ≡ get_or xs i x
    → missing_from others (take (i + 1) xs) ≡ missing_from others (take i xs) ++ missing_from others (x ∷ [])
one_more others xs i x h is =
    ap (missing_from others) (take_more xs i x h ∙ ap (λ y. take i xs ++ y ∷ []) (sym is))
    ∙ filter-append (λ y. not (stands others y)) (take i xs) (x ∷ [])

-- some of the statements were looked at, and these of them do not stand
pub record AreNewSoFar (old now : Seen) (counts : Counts) (xs seen new : List Stmt) : Type 0 where
  pub found : (b : Contents) → MayMeetEach old.kept counts xs b → new ≡ missing_from b.stmts seen
  pub kept : now.kept ≡ old.kept
  pub writes : now.writes ≡ old.writes
  pub gone : HasGone old now

module _ (old now : Seen) (counts : Counts) (xs : List Stmt) (i : ℕ) (x : Stmt) (here : i < length xs) (is : x ≡ get_or xs i x) (kept : now.kept ≡ old.kept) where
  may_meet : (b : Contents) → MayMeetEach old.kept counts xs b → MayMeet now.kept counts x b
  may_meet b m = record {
    base = subst (λ (t : Tables). StoresSized t counts b) (sym kept) m.base;
    belongs = ap (belongs b.catalog) is ∙ passes_at (belongs b.catalog) xs i x here m.belong;
  }

  pub some_may_meet : SomeMayMeetEach old.kept counts xs → SomeMayMeet now.kept counts x
  some_may_meet some = record { base = some.base; may = may_meet some.base some.may }

-- one that stands is not pushed, and one that does not is
pub pushed_none : (t : Tables) (counts : Counts) (x : Stmt) (list : List Stmt) → StandsThere t counts x true → PushesNew t counts x list list
pushed_none t counts x list there = λ b m.
    let no : not (stands b.stmts x) ≡ false = ap not (sym (there b m)) in
    sym (append-nil list) ∙ ap (λ l. list ++ l) (sym (filter_dropped_one (λ y. not (stands b.stmts y)) x [] no))

pub pushed_one : (t : Tables) (counts : Counts) (x : Stmt) (list more : List Stmt) → more ≡ list ++ x ∷ [] → StandsThere t counts x false → PushesNew t counts x list more
pushed_one t counts x list more e there = λ b m.
    let yes : not (stands b.stmts x) ≡ true = ap not (sym (there b m)) in
    e ∙ ap (λ l. list ++ l) (sym (filter_kept_one (λ y. not (stands b.stmts y)) x [] yes))

-- one more was looked at
pub one_looked_at : (old now next : Seen) (counts : Counts) (xs new more : List Stmt) (i : ℕ) (x : Stmt) (fault : TabError) → i < length xs → x ≡ get_or xs i x
    → AreNewSoFar old now counts xs (take i xs) new → PushesNew now.kept counts x new more → next.kept ≡ now.kept → next.writes ≡ now.writes
    → IsChanging {T = Unit {0}} {E = TabError} now next (Ok tt) fault → AreNewSoFar old next counts xs (take (i + 1) xs) more
one_looked_at old now next counts xs new more i x fault here is h pushed kept writes c = record {
  found = λ b m.
      pushed b (may_meet old now counts xs i x here is h.kept b m)
      ∙ ap (λ l. l ++ missing_from b.stmts (x ∷ [])) (h.found b m)
      ∙ sym (one_more b.stmts xs i x here is);
  kept = kept ∙ h.kept;
  writes = writes ∙ h.writes;
  gone = gone_then old now next h.gone (gone_changing now next tt fault c);
}

-- ---- sets of statements

-- what all statements of a list pass, all of its set pass
pub set_passes : (p : Stmt → Bool) (xs : List Stmt) → list_all p xs ≡ true → list_all p (sorted_set statement_cmp xs) ≡ true
set_passes p [] h = refl
set_passes p (x ∷ xs) h =
    let k = and_parts (p x) (list_all p xs) h in
    list_all-put_in statement_exact p (sorted_set statement_cmp xs) x (set_passes p xs k.1) k.0

pub set_may_meet : (t : Tables) (counts : Counts) (xs : List Stmt) (b : Contents) → MayMeetEach t counts xs b → MayMeetEach t counts (sorted_set statement_cmp xs) b
set_may_meet t counts xs b m = record { base = m.base; belong = set_passes (belongs b.catalog) xs m.belong }

pub some_set_may_meet : (t : Tables) (counts : Counts) (xs : List Stmt) → SomeMayMeetEach t counts xs → SomeMayMeetEach t counts (sorted_set statement_cmp xs)
some_set_may_meet t counts xs some = record { base = some.base; may = set_may_meet t counts xs some.base some.may }

-- a statement put in is the next of those that make the set
pub put_more : (xs : List Stmt) (i : ℕ) (x : Stmt) (set next : List Stmt) → i < length xs → x ≡ get_or xs i x → next ≡ put_in statement_cmp set x
    → put_all statement_cmp set (drop i xs) ≡ put_all statement_cmp next (drop (i + 1) xs)
put_more xs i x set next h is e =
    ap (put_all statement_cmp set) (drop_more xs i x h ∙ ap (λ y. y ∷ drop (i + 1) xs) (sym is))
    ∙ ap (λ l. put_all statement_cmp l (drop (i + 1) xs)) (sym e)

-- what goes and what comes, by the set of the statements that come
abbrev change_by : List Stmt → List Stmt → Change
change_by went fresh = record { named = Nothing; gone = went; come = fresh }

pub replaced_by : (t : Tables) (counts : Counts) (gone come made again went fresh : List Stmt) (o : Option Change) → made ≡ sorted_set statement_cmp come
    → again ≡ sorted_set statement_cmp come → AreNew t counts made fresh → went ≡ missing_from again gone → o ≡ made_of (record { named = Nothing; gone = went; come = fresh })
    → Replaces t counts gone come o
replaced_by t counts gone come made again went fresh o e f new w is = λ b m.
    let set = sorted_set statement_cmp come in
    let there = subst (λ (xs : List Stmt). MayMeetEach t counts xs b) (sym e) (set_may_meet t counts come b m) in
    is ∙ ap (λ xs. made_of (change_by xs fresh)) (w ∙ ap (λ xs. missing_from xs gone) f)
    ∙ ap (λ xs. made_of (change_by (missing_from set gone) xs)) (new b there ∙ ap (missing_from b.stmts) e)
