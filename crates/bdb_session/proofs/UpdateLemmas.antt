-- What comes of an update, by what was read and written.
use Rattle.std.proofs.Common.{◌≡◌, ◌∙◌, ℕ, ◌≤◌, suc, true, false, ◌&&◌, nat_eq, nat_le, nat_lt, List, [], ◌∷◌, Option, Some, None, Result, Ok, Err, refl, ap, sym, subst, arith, length, map}
use Prim.Native.Nat.{zero}
use Rattle.std.specs.Prelude.{slice_set}
use Rattle.std.specs.List.{AllByRecursion, list_all, slice_get}
use Rattle.std.proofs.lemmas.Bool.{and_parts, and_from, leb-true, eqb-true}
use Rattle.std.proofs.lemmas.Bool.Decides.{nat_tests}
use Rattle.std.proofs.lemmas.List.{length-map}
use Rattle.bdb_base.specs.Alternation.{alternates}
use Rattle.bdb_base.specs.Bases.{Contents, IsValid, belongs, is_user, fits_kind, fits_columns, fits_definition, fits_relation, tuple_count, world_count}
use Rattle.bdb_base.specs.Changes.{is_taken, taken_by, without_taken, with_statements, updated, changed_statement}
use Rattle.bdb_base.specs.Conditions.{meets, with_column, changed}
use Rattle.bdb_base.specs.Limits.{deepest_statement, most_worlds, most_tuples}
use Rattle.bdb_base.specs.Order.{statement_cmp}
use Rattle.bdb_base.specs.Same.{same_path, same_sign}
use Rattle.bdb_base.specs.SortedSet.{sorted_set}
use Rattle.bdb_base.specs.declared.kinds.Catalog.{Catalog}
use Rattle.bdb_base.specs.declared.kinds.ColDef.{ColDef}
use Rattle.bdb_base.specs.declared.kinds.Cond.{Cond}
use Rattle.bdb_base.specs.declared.kinds.RelDef.{RelDef}
use Rattle.bdb_base.specs.declared.kinds.SetCol.{SetCol}
use Rattle.bdb_base.specs.declared.kinds.Sign.{Sign}
use Rattle.bdb_base.specs.declared.kinds.Stmt.{Stmt}
use Rattle.bdb_base.specs.declared.kinds.Value.{Value}
use Rattle.bdb_base.specs.declared.kinds.What.{What}
use Rattle.bdb_base.specs.declared.kinds.What.TheVariants.{Tuples}
use Rattle.bdb_base.specs.declared.tuple.Tuple.{Tuple}
use Rattle.bdb_base.specs.Queries.{columns_of_definition}
use Rattle.bdb_base.proofs.ListLemmas.{list_all-filter}
use Rattle.bdb_bind.specs.Fits.{fits_catalog, fits_found, fits_path, set_fits, cond_fits, columns_numbered}
use Rattle.bdb_bind.specs.declared.bound.Bound.TheVariants.{Update}
use Rattle.bdb_canon.specs.Sizes.{counts_of}
use Rattle.bdb_canon.specs.declared.sizes.Counts.{Counts}
use Rattle.bdb_keep.specs.Seen.{Seen, GoesOn, NeverFall}
use Rattle.bdb_render.specs.Replies.{count_reply}
use Rattle.bdb_render.specs.declared.refusal.Refusal.{Refusal}
use Rattle.bdb_render.specs.declared.refusal.Refusal.TheVariants as refusal
use Rattle.bdb_undo.specs.Changes.{missing_from}
use Rattle.bdb_undo.specs.declared.change.Change.{Change}
use Rattle.bdb_undo.specs.declared.change.Named.TheVariants.{Nothing}
use Rattle.bdb_undo.proofs.ChangeLemmas.{update_leads}
use Rattle.bdb_update.specs.Calls.{MayChange, SomeMayChange, Changes, IsUnwritten, clash_within, with_stmts, size_passed, with_others}
use Rattle.bdb_update.specs.declared.answer.UpdateError.{UpdateError}
use Rattle.bdb_update.specs.declared.answer.UpdateError.TheVariants as change
use Rattle.bdb_update.proofs.NextLemmas.{MayReplace, next_is_valid, no_more_worlds}
use Rattle.bdb_update.proofs.WeighLemmas.{may_replace}
use Rattle.bdb_val.proofs.Calls.{HasGone, gone_then}
use Rattle.bdb_session.specs.declared.change.Selection.{Selection}
use Rattle.bdb_session.specs.declared.reply.Reply.{Reply}
use Rattle.bdb_session.specs.declared.error.StopError.{StopError}
use Rattle.bdb_session.specs.declared.error.StopError.TheVariants.{Fault, Memory}
use Rattle.bdb_session.specs.Known.{Known, Agrees}
use Rattle.bdb_session.specs.Machine.{bound_outcome, becomes, clash_with, clashes_with, clashing_within}
use Rattle.bdb_session.specs.Noting.{MayMeetEach, SomeMayMeetEach, Replaces, made_of}
use Rattle.bdb_session.specs.Outcome.{State, Outcome, Refused, Done, unless}
use Rattle.bdb_session.specs.Within.{LeadsBy, TellsChange, TellsWithin, IsSaid, Refuses, sized}
use Rattle.bdb_session.proofs.ChangeFacts.{size_limit, change_stopped, change_failed, untouched_agrees}
use Rattle.bdb_session.proofs.DeleteLemmas.{HasSelected, gone_here, gone_is, gone_stand, gone_apart, left_is, stores_sized}
use Rattle.bdb_session.proofs.LimitLemmas.{no_limit}
use Rattle.bdb_session.proofs.NotingLemmas.{made_leads, told_changes, stays_unchanged, stopped_unchanged}
use Rattle.bdb_session.proofs.OutcomeLemmas.{becomes_done, becomes_full, unless_none, unless_some}
use Rattle.bdb_session.proofs.TakenLemmas.{all_taken}
use Rattle.bdb_session.proofs.WithinLemmas.{said_tells}

-- ---- sets that fit

-- values fit their columns with one of them set to a value that fits its column
fits_set_value : (cols : List ColDef) (vals : List Value) (i : ℕ) (v : Value) → fits_columns cols vals ≡ true → fits_found (slice_get cols i) v ≡ true
    → fits_columns cols (slice_set vals i v) ≡ true
fits_set_value [] [] i v h k = h
fits_set_value [] (x ∷ xs) i v h k = cc
fits_set_value (c ∷ cs) [] i v h k = h
fits_set_value (c ∷ cs) (x ∷ xs) zero v h k =
    let parts = and_parts (fits_kind c.kind x) (fits_columns cs xs) h in
    and_from (fits_kind c.kind v) (fits_columns cs xs) k parts.1
fits_set_value (c ∷ cs) (x ∷ xs) (suc i) v h k =
    let parts = and_parts (fits_kind c.kind x) (fits_columns cs xs) h in
    and_from (fits_kind c.kind x) (fits_columns cs (slice_set xs i v)) parts.0 (fits_set_value cs xs i v parts.1 k)

fits_definition_set : (o : Option RelDef) (vals : List Value) (i : ℕ) (v : Value) → fits_definition o vals ≡ true → fits_found (slice_get (columns_of_definition o) i) v ≡ true
    → fits_definition o (slice_set vals i v) ≡ true
fits_definition_set None vals i v h k = h
fits_definition_set (Some def) vals i v h k = fits_set_value def.cols vals i v h k

-- a tuple of the relation fits it with the columns set
pub sets_fit : (rels : List RelDef) (rel : ℕ) (sets : List SetCol) → list_all (set_fits (columns_numbered rels rel)) sets ≡ true
    → (t : Tuple) → t.rel ≡ rel → fits_relation rels t ≡ true → fits_relation rels (changed sets t) ≡ true
sets_fit rels rel [] h t r f = f
sets_fit rels rel (s ∷ ss) h t r f =
    let parts = and_parts (set_fits (columns_numbered rels rel) s) (list_all (set_fits (columns_numbered rels rel)) ss) h in
    let here : fits_found (slice_get (columns_of_definition (slice_get rels t.rel)) s.col) s.to ≡ true = ap (λ n. fits_found (slice_get (columns_of_definition (slice_get rels n)) s.col) s.to) r ∙ parts.0 in
    sets_fit rels rel ss parts.1 (with_column t s) r (fits_definition_set (slice_get rels t.rel) t.vals s.col s.to f here)

-- ---- the statements that come

-- what an update that fits says
pub record UpdateFits (c : Catalog) (w : List ℕ) (rel : ℕ) (sets : List SetCol) : Type 0 where
  pub path : fits_path c.users deepest_statement w ≡ true
  pub fit : list_all (set_fits (columns_numbered c.rels rel)) sets ≡ true

pub update_fits : (c : Catalog) (w : List ℕ) (sign : Sign) (rel : ℕ) (sets : List SetCol) (conds : List Cond) → fits_catalog c (Update w sign rel sets conds) ≡ true → UpdateFits c w rel sets
update_fits c w sign rel sets conds e =
    let cols = columns_numbered c.rels rel in
    let path = and_parts (fits_path c.users deepest_statement w) (nat_lt rel (length c.rels) && (list_all (set_fits cols) sets && list_all (cond_fits cols) conds)) e in
    let there = and_parts (nat_lt rel (length c.rels)) (list_all (set_fits cols) sets && list_all (cond_fits cols) conds) path.1 in
    record { path = path.0; fit = (and_parts (list_all (set_fits cols) sets) (list_all (cond_fits cols) conds) there.1).0 }

pub update_path_fits : (c : Catalog) (w : List ℕ) (sign : Sign) (rel : ℕ) (sets : List SetCol) (conds : List Cond) → fits_catalog c (Update w sign rel sets conds) ≡ true
    → fits_path c.users deepest_statement w ≡ true
update_path_fits c w sign rel sets conds e = (update_fits c w sign rel sets conds e).path

module _ (x : Selection) (sets : List SetCol) where
  taken_of : (y : Stmt) → is_taken x.path x.sign x.rel x.conds y ≡ true → y.tuple.rel ≡ x.rel
  taken_of y e =
      let a = and_parts (same_path y.path x.path) (same_sign y.sign x.sign && (nat_eq y.tuple.rel x.rel && meets x.conds y.tuple)) e in
      let b = and_parts (same_sign y.sign x.sign) (nat_eq y.tuple.rel x.rel && meets x.conds y.tuple) a.1 in
      eqb-true y.tuple.rel x.rel (and_parts (nat_eq y.tuple.rel x.rel) (meets x.conds y.tuple) b.1).0

  changed_here : (ys : List Stmt) → AllByRecursion (λ (y : Stmt). y.path ≡ x.path) ys → AllByRecursion (λ (y : Stmt). y.path ≡ x.path) (map (changed_statement sets) ys)
  changed_here [] h = tt
  changed_here (y ∷ ys) h = (h.0, changed_here ys h.1)

  changed_belong : (c : Catalog) → list_all (set_fits (columns_numbered c.rels x.rel)) sets ≡ true → (ys : List Stmt) → list_all (belongs c) ys ≡ true
      → AllByRecursion (λ (y : Stmt). y.tuple.rel ≡ x.rel) ys → list_all (belongs c) (map (changed_statement sets) ys) ≡ true
  changed_belong c fit [] h r = refl
  changed_belong c fit (y ∷ ys) h r =
      let k = and_parts (belongs c y) (list_all (belongs c) ys) h in
      let path = alternates y.path && nat_le (length y.path) deepest_statement && list_all (is_user c.users) y.path in
      let m = and_parts path (fits_relation c.rels y.tuple) k.0 in
      and_from (belongs c (changed_statement sets y)) (list_all (belongs c) (map (changed_statement sets) ys))
      (and_from path (fits_relation c.rels (changed sets y.tuple)) m.0 (sets_fit c.rels x.rel sets fit y.tuple r.0 m.1)) (changed_belong c fit ys k.1 r.1)

-- ---- what is told

-- with so few worlds but too many tuples, these are too many
first_passed : (c : Counts) → c.worlds ≤ most_worlds → nat_lt most_tuples c.tuples ≡ true → size_passed c ≡ Some Tuples
first_passed c few many =
    let w = not_more c.worlds most_worlds few in
    rw (w, many) refl
  where
    not_more : (m n : ℕ) → m ≤ n → nat_lt n m ≡ false
    not_more m n le = grind (arith, nat_tests)

-- An update has read what it needs: what it asks for fits the catalog that a session knows, the statements that go have been read, and
-- those that come are these with columns of their tuples set.
pub record IsUpdate (k : Known) (before : Counts) (x : Selection) (sets : List SetCol) (old now : Seen) (gone come : List Stmt) : Type 0 where
  pub fits : fits_catalog k.catalog (Update x.path x.sign x.rel sets x.conds) ≡ true
  pub selected : HasSelected k before x old now gone
  pub changed : come ≡ map (changed_statement sets) gone

module _ {k : Known} {before : Counts} {x : Selection} {sets : List SetCol} {old now : Seen} {gone come : List Stmt} (update : IsUpdate k before x sets old now gone come) where
  -- and it has, where then more was read
  pub read_on : (fin : Seen) → fin.kept ≡ now.kept → fin.writes ≡ now.writes → HasGone now fin → IsUpdate k before x sets old fin gone come
  read_on fin kept writes went =
      let read = update.selected in
      record {
        fits = update.fits;
        selected = record {
          fits = read.fits;
          agrees = read.agrees;
          taken = read.taken;
          kept = kept ∙ read.kept;
          writes = writes ∙ read.writes;
          went = gone_then old now fin read.went went;
        };
        changed = update.changed;
      }

  pub may_change : (s : State) → Agrees old.kept (sized k before) s → MayChange now.kept before x.path gone come s.base
  may_change s a =
      let read = update.selected in
      let is = gone_is read s a in
      let q = is_taken x.path x.sign x.rel x.conds in
      let of_rel : AllByRecursion (λ (y : Stmt). y.tuple.rel ≡ x.rel) gone =
      subst (AllByRecursion (λ (y : Stmt). y.tuple.rel ≡ x.rel)) (sym is) (all_taken (λ y. y.tuple.rel ≡ x.rel) q (taken_of x sets) s.base.stmts) in
      let belong : list_all (belongs s.base.catalog) gone ≡ true =
      ap (list_all (belongs s.base.catalog)) is ∙ list_all-filter (belongs s.base.catalog) q s.base.stmts a.base.valid.stmts.belong in
      let fit : list_all (set_fits (columns_numbered s.base.catalog.rels x.rel)) sets ≡ true =
      ap (λ (c : Catalog). list_all (set_fits (columns_numbered c.rels x.rel)) sets) (sym a.catalog)
      ∙ (update_fits k.catalog x.path x.sign x.rel sets x.conds update.fits).fit in
      record {
        base = stores_sized read s a;
        gone_here = gone_here read s a;
        stand = gone_stand read s a;
        apart = gone_apart read s a;
        come_here = subst (AllByRecursion (λ (y : Stmt). y.path ≡ x.path)) (sym update.changed) (changed_here x sets gone (gone_here read s a));
        belong = ap (list_all (belongs s.base.catalog)) update.changed ∙ changed_belong x sets s.base.catalog fit gone belong of_rel;
        no_more = let e = ap length update.changed ∙ length-map gone (changed_statement sets) in omega arith;
      }

  pub some_may_change : SomeMayChange now.kept before x.path gone come
  some_may_change =
      let some = update.selected.agrees in
      record { base = some.state.base; may = may_change some.state some.agrees }

  -- those that come may be looked for
  may_meet_each : (s : State) → Agrees old.kept (sized k before) s → MayMeetEach now.kept before come s.base
  may_meet_each s a = let may = may_change s a in record { base = may.base; belong = may.belong }

  pub some_may_meet_each : SomeMayMeetEach now.kept before come
  some_may_meet_each =
      let some = update.selected.agrees in
      record { base = some.state.base; may = may_meet_each some.state some.agrees }

  -- the base afterwards
  others_are_updated : (s : State) → Agrees old.kept (sized k before) s → with_others s.base gone come ≡ with_stmts s.base (updated x.path x.sign x.rel x.conds sets s.base.stmts)
  others_are_updated s a =
      ap (λ ys. with_stmts s.base (with_statements ys come)) (left_is update.selected s a)
      ∙ ap (λ ys. with_stmts s.base (with_statements (without_taken x.path x.sign x.rel x.conds s.base.stmts) ys))
      (update.changed ∙ ap (map (changed_statement sets)) (gone_is update.selected s a))

  abbrev next : State → Contents
  next s = with_others s.base gone come

  abbrev outcome : State → Outcome
  outcome s = bound_outcome s (Update x.path x.sign x.rel sets x.conds)

  by_others : (n : ℕ) → n ≡ length gone → (s : State) → Agrees old.kept (sized k before) s
      → outcome s ≡ unless (clashes_with (clashing_within (next s) x.path)) (becomes s (next s) (count_reply n))
  by_others n many s a =
      ap (λ (b : Contents). unless (clashes_with (clashing_within b x.path)) (becomes s b (count_reply (length (taken_by x.path x.sign x.rel x.conds s.base.stmts)))))
      (sym (others_are_updated s a))
      ∙ ap (λ m. unless (clashes_with (clashing_within (next s) x.path)) (becomes s (next s) (count_reply m))) (sym (many ∙ ap length (gone_is update.selected s a)))

  replaces : (s : State) → Agrees old.kept (sized k before) s → MayReplace s.base.catalog s.base.stmts x.path gone come
  replaces s a = may_replace now.kept before x.path gone come s.base (may_change s a)

  next_valid : (s : State) → Agrees old.kept (sized k before) s → clash_within (next s) x.path ≡ None → tuple_count (next s).stmts ≤ most_tuples
      → IsValid s.base.catalog (next s).stmts
  next_valid s a apart room = next_is_valid s.base.catalog s.base.stmts x.path gone come (replaces s a) apart room

  update_done : (n : ℕ) → n ≡ length gone → (s : State) → Agrees old.kept (sized k before) s → clash_within (next s) x.path ≡ None
      → tuple_count (next s).stmts ≤ most_tuples → outcome s ≡ Done (count_reply n) 0 (record s { base = next s })
  update_done n many s a apart room =
      by_others n many s a
      ∙ unless_none (clashes_with (clashing_within (next s) x.path)) (becomes s (next s) (count_reply n)) (ap clashes_with apart)
      ∙ becomes_done s (next s) (count_reply n) (no_limit (next s) (next_valid s a apart room))

  -- the change that leads to it
  abbrev change_of : List Stmt → List Stmt → List Stmt → Change
  change_of stmts xs made = record { named = Nothing; gone = missing_from (sorted_set statement_cmp made) xs; come = missing_from stmts (sorted_set statement_cmp made) }

  update_leads_by : (c : Option Change) (s : State) → Agrees old.kept (sized k before) s → c ≡ made_of (change_of s.base.stmts gone come) → clash_within (next s) x.path ≡ None
      → tuple_count (next s).stmts ≤ most_tuples → LeadsBy c s.base (next s)
  update_leads_by c s a is apart room =
      let b = s.base in
      let stmts = b.stmts in
      let went = taken_by x.path x.sign x.rel x.conds stmts in
      let made = map (changed_statement sets) went in
      let taken_is = gone_is update.selected s a in
      let made_is : come ≡ made = update.changed ∙ ap (map (changed_statement sets)) taken_is in
      let after : Contents = with_stmts b (updated x.path x.sign x.rel x.conds sets stmts) in
      let there : next s ≡ after = others_are_updated s a in
      let valid = subst (λ (y : Contents). IsValid b.catalog y.stmts) there (next_valid s a apart room) in
      let leads = made_leads (change_of stmts went made) b after (update_leads b.catalog stmts made (is_taken x.path x.sign x.rel x.conds) a.base.valid valid) in
      subst (LeadsBy c b) (sym there)
      (subst (λ (o : Option Change). LeadsBy o b after)
      (sym (is ∙ ap (λ xs. made_of (change_of stmts xs come)) taken_is ∙ ap (λ xs. made_of (change_of stmts went xs)) made_is)) leads)

  update_clashes : (least : Stmt) (s : State) → Agrees old.kept (sized k before) s → clash_within (next s) x.path ≡ Some least → outcome s ≡ Refused (clash_with least)
  update_clashes least s a e =
      by_others (length gone) refl s a
      ∙ unless_some (clashes_with (clashing_within (next s) x.path)) (clash_with least) (becomes s (next s) (count_reply (length gone))) (ap clashes_with e)

  update_fills : (what : What) (s : State) → Agrees old.kept (sized k before) s → clash_within (next s) x.path ≡ None → what ≡ Tuples
      → nat_lt most_tuples (tuple_count (next s).stmts) ≡ true → outcome s ≡ Refused (refusal.Full what)
  update_fills what s a apart is many =
      let fewer = no_more_worlds s.base.catalog s.base.stmts x.path gone come (replaces s a) in
      let few = leb-true (world_count s.base.stmts) most_worlds a.base.valid.stmts.few_worlds in
      by_others (length gone) refl s a
      ∙ unless_none (clashes_with (clashing_within (next s) x.path)) (becomes s (next s) (count_reply (length gone))) (ap clashes_with apart)
      ∙ becomes_full s (next s) (count_reply (length gone)) what
      (size_limit s.base (next s).stmts a.base.valid ∙ first_passed (counts_of (next s)) (omega arith) many ∙ ap Some (sym is))

  module _ (fin new : Seen) (after : Counts) (result : Result Reply StopError) (fall : NeverFall now fin) where
    -- the session agrees with the tables as before, where nothing was written
    stays : (s : State) → Agrees old.kept (sized k before) s → IsUnwritten now fin before after → Agrees fin.kept (sized k after) s
    stays s a un =
        let b = (may_change s a).base in
        untouched_agrees k before after now fin s un (record { base = record { stored = b.stored; valid = b.valid }; catalog = a.catalog; counts = a.counts })

    -- it went on, where the transaction still runs
    went_on : GoesOn now fin → HasGone old fin
    went_on goes = gone_then old now fin update.selected.went (record { goes = goes; counts = fall })

    pub update_tells_done : (n : ℕ) → n ≡ length gone → Changes now fin before after x.path gone come (Ok tt) → ((s : State) → IsSaid k.catalog (Done (count_reply n) 0 s) fin new result)
        → TellsWithin outcome (sized k before) (sized k after) old new result
    update_tells_done n many h said =
        let some = update.selected.agrees in
        let at = λ (s : State) (a : Agrees old.kept (sized k before) s). h s.base (may_change s a) in
        said_tells outcome (λ s. Done (count_reply n) 0 (record s { base = next s })) (sized k before) (sized k after) old fin new result some
        (went_on (at some.state some.agrees).becomes.goes_on)
        (λ s a. let c = at s a in update_done n many s a c.apart c.room)
        (λ s a. let c = at s a in record { base = record { stored = c.becomes.stored; valid = next_valid s a c.apart c.room }; catalog = a.catalog; counts = c.becomes.counted })
        (λ s. said (record s { base = next s }))

    -- it is refused, and nothing was written
    refusal_tells : (r : Refusal) → ((s : State) → Agrees old.kept (sized k before) s → outcome s ≡ Refused r)
        → ((s : State) → Agrees old.kept (sized k before) s → IsUnwritten now fin before after) → IsSaid k.catalog (Refused r) fin new result
        → TellsWithin outcome (sized k before) (sized k after) old new result
    refusal_tells r is un said =
        let some = update.selected.agrees in
        said_tells outcome (λ s. Refused r) (sized k before) (sized k after) old fin new result some (went_on (un some.state some.agrees).goes_on) is
        (λ s a. stays s a (un s a)) (λ s. said)

    pub update_tells_err : (e : UpdateError) → Changes now fin before after x.path gone come (Err e) → Refuses k.catalog e fin new result
        → TellsWithin outcome (sized k before) (sized k after) old new result
    update_tells_err (change.Clash least) h said =
        refusal_tells (clash_with least) (λ s a. update_clashes least s a (h s.base (may_change s a)).clash) (λ s a. (h s.base (may_change s a)).untouched) said
    update_tells_err (change.Full what) h said =
        refusal_tells (refusal.Full what) (λ s a. let c = h s.base (may_change s a) in update_fills what s a c.apart c.tuples c.many)
        (λ s a. (h s.base (may_change s a)).untouched) said
    update_tells_err change.Fault h said =
        let some = update.selected.agrees in
        change_failed outcome (sized k before) (sized k after) before after old now fin new result update.selected.went fall (h some.state.base (may_change some.state some.agrees)) said
    update_tells_err change.Memory h said =
        let some = update.selected.agrees in
        change_stopped outcome (sized k before) (sized k after) before after old now fin new result update.selected.went fall (h some.state.base (may_change some.state some.agrees)) said

    -- ---- which change is told of it

    pub update_changes_done : (c : Option Change) → Replaces now.kept before gone come c → Changes now fin before after x.path gone come (Ok tt)
        → TellsChange outcome (sized k before) c old result
    update_changes_done c replaced h =
        told_changes outcome (λ s. Done (count_reply (length gone)) 0 (record s { base = next s })) (sized k before) c old result
        (λ s a. let d = h s.base (may_change s a) in update_done (length gone) refl s a d.apart d.room)
        (λ s a. let d = h s.base (may_change s a) in update_leads_by c s a (replaced s.base (may_meet_each s a)) d.apart d.room)

    pub update_changes_err : (c : Option Change) → c ≡ None → (e : UpdateError) → Changes now fin before after x.path gone come (Err e) → Refuses k.catalog e fin new result
        → TellsChange outcome (sized k before) c old result
    update_changes_err c none (change.Clash least) h said =
        stays_unchanged outcome (λ s. Refused (clash_with least)) (sized k before) c old result none (λ s a. update_clashes least s a (h s.base (may_change s a)).clash) (λ s. refl)
    update_changes_err c none (change.Full what) h said =
        stays_unchanged outcome (λ s. Refused (refusal.Full what)) (sized k before) c old result none
        (λ s a. let d = h s.base (may_change s a) in update_fills what s a d.apart d.tuples d.many) (λ s. refl)
    update_changes_err c none change.Fault h said = stopped_unchanged outcome (sized k before) c old fin new result Fault said
    update_changes_err c none change.Memory h said = stopped_unchanged outcome (sized k before) c old fin new result Memory said
