-- What comes of a new user and of a new relation, and what the session knows after it.
use Rattle.std.proofs.Common.{◌≡◌, ◌∙◌, ℕ, ◌+◌, ◌≤◌, true, List, [], length, Option, Some, None, Result, refl, sym, ap, subst, ltb}
use Rattle.std.specs.Prelude.{if◌then◌else◌}
use Rattle.std.proofs.lemmas.List.{length_push}
use Rattle.bdb_base.specs.Bases.{with_user, with_relation}
use Rattle.bdb_base.specs.Limits.{most_users, most_relations}
use Rattle.bdb_base.specs.declared.kinds.Catalog.{Catalog}
use Rattle.bdb_base.specs.declared.kinds.RelDef.{RelDef}
use Rattle.bdb_base.specs.declared.kinds.UserSlot.TheVariants.{Live}
use Rattle.bdb_base.specs.declared.kinds.What.{What}
use Rattle.bdb_base.specs.declared.kinds.What.TheVariants.{Users, Relations}
use Rattle.bdb_bind.specs.Fits.{fits_catalog}
use Rattle.bdb_bind.specs.declared.bound.Bound.{Bound}
use Rattle.bdb_bind.specs.declared.bound.Bound.TheVariants.{CreateUser, CreateRelation}
use Rattle.bdb_canon.specs.declared.sizes.Counts.{Counts}
use Rattle.bdb_catalog.specs.Creating.{MayAddUser, SomeMayAddUser, AddsUserNamed, MayAddRelation, SomeMayAddRelation, AddsRelation}
use Rattle.bdb_keep.specs.Seen.{Seen}
use Rattle.bdb_keep.specs.Tables.{Tables}
use Rattle.bdb_render.specs.Replies.{ok_reply}
use Rattle.bdb_render.specs.declared.refusal.Refusal.TheVariants.{Full}
use Rattle.bdb_undo.specs.declared.change.Change.{Change}
use Rattle.bdb_undo.specs.declared.change.Named.TheVariants.{UserAdded, RelationAdded}
use Rattle.bdb_undo.proofs.ChangeLemmas.{user_leads, relation_leads}
use Rattle.bdb_update.specs.Calls.{size_passed}
use Rattle.bdb_session.specs.Known.{Known, Agrees, AgreesOnSome}
use Rattle.bdb_session.specs.Machine.{bound_outcome, with_catalog}
use Rattle.bdb_session.specs.Outcome.{State, Refused, Done}
use Rattle.bdb_session.specs.Sizes.{limit_passed, passed_limit}
use Rattle.bdb_session.specs.declared.news.News.{News}
use Rattle.bdb_session.specs.declared.reply.Reply.{Reply}
use Rattle.bdb_session.specs.declared.error.StopError.{StopError}
use Rattle.bdb_session.specs.Within.{IsSaid, TellsChange, TellsWithin, learned, nothing_new}
use Rattle.bdb_session.proofs.CatalogLemmas.{user_is_valid, relation_is_valid}
use Rattle.bdb_session.proofs.LimitLemmas.{limit_is, at_most, by_sizes, past}
use Rattle.bdb_session.proofs.NotingLemmas.{told_changes, stays_unchanged}
use Rattle.bdb_session.proofs.OutcomeLemmas.{becomes_full, becomes_done}
use Rattle.bdb_session.proofs.WithinLemmas.{refused_tells, said_tells, tells_unlearned}
use Rattle.bdb_update.proofs.LengthLemmas.{counts_stay}
use Rattle.bdb_val.proofs.Calls.{HasGone}

-- ---- so few that a number is the next

pub few_users : (users rels : ℕ) (counts : Counts) → limit_passed users rels counts ≡ None → users ≤ most_users
few_users users rels counts e =
    at_most most_users users (past (ltb most_users users) Users (if ltb most_relations rels then Some Relations else size_passed counts) e).0

pub few_rels : (users rels : ℕ) (counts : Counts) → limit_passed users rels counts ≡ None → rels ≤ most_relations
few_rels users rels counts e =
    at_most most_relations rels (past (ltb most_relations rels) Relations (size_passed counts)
    (past (ltb most_users users) Users (if ltb most_relations rels then Some Relations else size_passed counts) e).1).0

-- ---- no room

-- what comes of the sizes that a session has in its lists comes of those that it knows
found_by_lists : {X : Type 0} (f : ℕ → ℕ → Counts → X) (now k : Known) (o : X) (users rels : ℕ) → now ≡ k → users ≡ length now.catalog.users
    → rels ≡ length now.catalog.rels → o ≡ f users rels now.counts → f (length k.catalog.users) (length k.catalog.rels) k.counts ≡ o
found_by_lists f now k o users rels same u r e =
    sym (e ∙ by_sizes f users rels (length k.catalog.users) (length k.catalog.rels) now.counts k.counts (u ∙ ap (λ (x : Known). length x.catalog.users) same)
    (r ∙ ap (λ (x : Known). length x.catalog.rels) same) (ap (λ (x : Known). x.counts) same))

-- what passes a limit is refused, and the session learns nothing
pub full_tells : (b : Bound) (k : Known) (news : News) (what : What) (old new : Seen) (result : Result Reply StopError) → news ≡ nothing_new k
    → ((t : Tables) (s : State) → Agrees t k s → bound_outcome s b ≡ Refused (Full what)) → AgreesOnSome old.kept k
    → IsSaid k.catalog (Refused (Full what)) old new result → TellsWithin (λ s. bound_outcome s b) k (learned k news) old new result
full_tells b k news what old new result nothing full some said =
    tells_unlearned b b k news old new result nothing refl (refused_tells (λ s. bound_outcome s b) (Full what) k old new result some (full old.kept) said)

pub full_unchanged : (b : Bound) (k : Known) (news : News) (what : What) (old : Seen) (result : Result Reply StopError) → news ≡ nothing_new k
    → ((t : Tables) (s : State) → Agrees t k s → bound_outcome s b ≡ Refused (Full what)) → TellsChange (λ s. bound_outcome s b) k news.change old result
full_unchanged b k news what old result nothing full =
    stays_unchanged (λ s. bound_outcome s b) (λ s. Refused (Full what)) k news.change old result (ap (λ (n : News). n.change) nothing) (full old.kept) (λ s. refl)

-- ---- a new user

-- what the base becomes, and the limit that it then passes; its sizes stay as they are
abbrev user_added : List ℕ → State → State
user_added name s = record s { base = with_catalog s.base (with_user s.base.catalog name) }

abbrev user_limit : Known → Option What
user_limit k = limit_passed (length k.catalog.users + 1) (length k.catalog.rels) k.counts

-- the limit that a further user passes, as the session finds it by its lists
pub user_limit_found : (now k : Known) (o : Option What) (users rels : ℕ) → now ≡ k → users ≡ length now.catalog.users → rels ≡ length now.catalog.rels
    → o ≡ limit_passed (users + 1) rels now.counts → user_limit k ≡ o
user_limit_found now k o users rels = found_by_lists (λ u r c. limit_passed (u + 1) r c) now k o users rels

user_passes : (t : Tables) (k : Known) (s : State) (name : List ℕ) → Agrees t k s → user_limit k ≡ passed_limit (user_added name s).base
user_passes t k s name a =
    let users = ap (λ (c : Catalog). length c.users + 1) a.catalog ∙ sym (length_push s.base.catalog.users (Live name)) in
    let rels = ap (λ (c : Catalog). length c.rels) a.catalog in
    limit_is (user_added name s).base (user_limit k) (length k.catalog.users + 1) (length k.catalog.rels) k.counts refl users rels a.counts

pub user_full : (k : Known) (name : List ℕ) (what : What) → user_limit k ≡ Some what → (t : Tables) (s : State) → Agrees t k s
    → bound_outcome s (CreateUser name) ≡ Refused (Full what)
user_full k name what e t s a = becomes_full s (user_added name s).base ok_reply what (sym (user_passes t k s name a) ∙ e)

user_done : (t : Tables) (k : Known) (s : State) (name : List ℕ) → user_limit k ≡ None → Agrees t k s
    → bound_outcome s (CreateUser name) ≡ Done ok_reply 0 (user_added name s)
user_done t k s name e a = becomes_done s (user_added name s).base ok_reply (sym (user_passes t k s name a) ∙ e)

may_add_user : (t : Tables) (k : Known) (s : State) (name : List ℕ) (uid : ℕ) → uid ≡ length k.catalog.users + 1 → fits_catalog k.catalog (CreateUser name) ≡ true
    → user_limit k ≡ None → Agrees t k s → MayAddUser t uid name s.base
may_add_user t k s name uid number fits room a = record {
  base = a.base;
  next = number ∙ ap (λ (c : Catalog). length c.users + 1) a.catalog;
  valid = user_is_valid s.base name a.base.valid (sym (ap (λ (c : Catalog). fits_catalog c (CreateUser name)) a.catalog) ∙ fits) (sym (user_passes t k s name a) ∙ room);
}

pub some_may_add_user : (t : Tables) (k : Known) (name : List ℕ) (uid : ℕ) → uid ≡ length k.catalog.users + 1 → fits_catalog k.catalog (CreateUser name) ≡ true
    → user_limit k ≡ None → AgreesOnSome t k → SomeMayAddUser t uid name
some_may_add_user t k name uid number fits room h = record { base = h.state.base; may = may_add_user t k h.state name uid number fits room h.agrees }

pub user_tells : (k now : Known) (name : List ℕ) (uid : ℕ) (old mid new : Seen) (result : Result Reply StopError)
    → uid ≡ length k.catalog.users + 1 → fits_catalog k.catalog (CreateUser name) ≡ true → user_limit k ≡ None → AgreesOnSome old.kept k → HasGone old mid
    → AddsUserNamed old.kept mid.kept uid name → now.catalog ≡ with_user k.catalog name → now.counts ≡ k.counts
    → ((s : State) → IsSaid k.catalog (Done ok_reply 0 s) mid new result) → TellsWithin (λ s. bound_outcome s (CreateUser name)) k now old new result
user_tells k now name uid old mid new result number fits room some gone adds catalog counts said =
    said_tells (λ s. bound_outcome s (CreateUser name)) (λ s. Done ok_reply 0 (user_added name s)) k now old mid new result some gone
    (λ s a. user_done old.kept k s name room a)
    (λ s a. record {
      base = adds s.base (may_add_user old.kept k s name uid number fits room a);
      catalog = catalog ∙ ap (λ (c : Catalog). with_user c name) a.catalog;
      counts = counts ∙ a.counts;
    })
    (λ s. said (user_added name s))

pub user_changes : (k : Known) (name : List ℕ) (uid : ℕ) (old : Seen) (result : Result Reply StopError) (c : Change)
    → uid ≡ length k.catalog.users + 1 → fits_catalog k.catalog (CreateUser name) ≡ true → user_limit k ≡ None → c ≡ record { named = UserAdded name; gone = []; come = [] }
    → TellsChange (λ s. bound_outcome s (CreateUser name)) k (Some c) old result
user_changes k name uid old result c number fits room is =
    subst (λ (d : Change). TellsChange (λ s. bound_outcome s (CreateUser name)) k (Some d) old result) (sym is)
    (told_changes (λ s. bound_outcome s (CreateUser name)) (λ s. Done ok_reply 0 (user_added name s)) k (Some (record { named = UserAdded name; gone = []; come = [] })) old result
    (λ s a. user_done old.kept k s name room a)
    (λ s a. (user_leads s.base.catalog s.base.stmts name a.base.valid (may_add_user old.kept k s name uid number fits room a).valid, refl)))

-- ---- a new relation

abbrev relation_added : RelDef → State → State
relation_added def s = record s { base = with_catalog s.base (with_relation s.base.catalog def) }

abbrev relation_limit : Known → Option What
relation_limit k = limit_passed (length k.catalog.users) (length k.catalog.rels + 1) k.counts

-- the limit that a further relation passes
pub relation_limit_found : (now k : Known) (o : Option What) (users rels : ℕ) → now ≡ k → users ≡ length now.catalog.users → rels ≡ length now.catalog.rels
    → o ≡ limit_passed users (rels + 1) now.counts → relation_limit k ≡ o
relation_limit_found now k o users rels = found_by_lists (λ u r c. limit_passed u (r + 1) c) now k o users rels

relation_passes : (t : Tables) (k : Known) (s : State) (def : RelDef) → Agrees t k s → relation_limit k ≡ passed_limit (relation_added def s).base
relation_passes t k s def a =
    let users = ap (λ (c : Catalog). length c.users) a.catalog in
    let rels = ap (λ (c : Catalog). length c.rels + 1) a.catalog ∙ sym (length_push s.base.catalog.rels def) in
    limit_is (relation_added def s).base (relation_limit k) (length k.catalog.users) (length k.catalog.rels + 1) k.counts refl users rels
    (a.counts ∙ counts_stay s.base def a.base.valid.stmts.belong)

pub relation_full : (k : Known) (def : RelDef) (what : What) → relation_limit k ≡ Some what → (t : Tables) (s : State) → Agrees t k s
    → bound_outcome s (CreateRelation def) ≡ Refused (Full what)
relation_full k def what e t s a = becomes_full s (relation_added def s).base ok_reply what (sym (relation_passes t k s def a) ∙ e)

relation_done : (t : Tables) (k : Known) (s : State) (def : RelDef) → relation_limit k ≡ None → Agrees t k s
    → bound_outcome s (CreateRelation def) ≡ Done ok_reply 0 (relation_added def s)
relation_done t k s def e a = becomes_done s (relation_added def s).base ok_reply (sym (relation_passes t k s def a) ∙ e)

may_add_relation : (t : Tables) (k : Known) (s : State) (def : RelDef) (rel : ℕ) → rel ≡ length k.catalog.rels → fits_catalog k.catalog (CreateRelation def) ≡ true
    → relation_limit k ≡ None → Agrees t k s → MayAddRelation t rel def s.base
may_add_relation t k s def rel number fits room a = record {
  base = a.base;
  next = number ∙ ap (λ (c : Catalog). length c.rels) a.catalog;
  valid = relation_is_valid s.base def a.base.valid (sym (ap (λ (c : Catalog). fits_catalog c (CreateRelation def)) a.catalog) ∙ fits) (sym (relation_passes t k s def a) ∙ room);
}

pub some_may_add_relation : (t : Tables) (k : Known) (def : RelDef) (rel : ℕ) → rel ≡ length k.catalog.rels → fits_catalog k.catalog (CreateRelation def) ≡ true
    → relation_limit k ≡ None → AgreesOnSome t k → SomeMayAddRelation t rel def
some_may_add_relation t k def rel number fits room h = record { base = h.state.base; may = may_add_relation t k h.state def rel number fits room h.agrees }

pub relation_tells : (k now : Known) (def : RelDef) (rel : ℕ) (old mid new : Seen) (result : Result Reply StopError)
    → rel ≡ length k.catalog.rels → fits_catalog k.catalog (CreateRelation def) ≡ true → relation_limit k ≡ None → AgreesOnSome old.kept k → HasGone old mid
    → AddsRelation old.kept mid.kept rel def → now.catalog ≡ with_relation k.catalog def → now.counts ≡ k.counts
    → ((s : State) → IsSaid k.catalog (Done ok_reply 0 s) mid new result) → TellsWithin (λ s. bound_outcome s (CreateRelation def)) k now old new result
relation_tells k now def rel old mid new result number fits room some gone adds catalog counts said =
    said_tells (λ s. bound_outcome s (CreateRelation def)) (λ s. Done ok_reply 0 (relation_added def s)) k now old mid new result some gone
    (λ s a. relation_done old.kept k s def room a)
    (λ s a. record {
      base = adds s.base (may_add_relation old.kept k s def rel number fits room a);
      catalog = catalog ∙ ap (λ (c : Catalog). with_relation c def) a.catalog;
      counts = counts ∙ a.counts ∙ counts_stay s.base def a.base.valid.stmts.belong;
    })
    (λ s. said (relation_added def s))

pub relation_changes : (k : Known) (def : RelDef) (rel : ℕ) (old : Seen) (result : Result Reply StopError) (c : Change)
    → rel ≡ length k.catalog.rels → fits_catalog k.catalog (CreateRelation def) ≡ true → relation_limit k ≡ None → c ≡ record { named = RelationAdded def; gone = []; come = [] }
    → TellsChange (λ s. bound_outcome s (CreateRelation def)) k (Some c) old result
relation_changes k def rel old result c number fits room is =
    subst (λ (d : Change). TellsChange (λ s. bound_outcome s (CreateRelation def)) k (Some d) old result) (sym is)
    (told_changes (λ s. bound_outcome s (CreateRelation def)) (λ s. Done ok_reply 0 (relation_added def s)) k (Some (record { named = RelationAdded def; gone = []; come = [] })) old result
    (λ s a. relation_done old.kept k s def room a)
    (λ s a. (relation_leads s.base.catalog s.base.stmts def a.base.valid (may_add_relation old.kept k s def rel number fits room a).valid, refl)))
