-- A change leads back to the base before it and forth to the one after it.
use Rattle.std.proofs.Common.{◌≡◌, ◌∙◌, ℕ, ◌-◌, true, false, not, ◌&&◌, ◌||◌, nat_eq, nat_lt, List, [], ◌∷◌, ◌++◌, Some, refl, ap, sym, subst, inl, inr, length, filter, arith}
use Rattle.std.specs.List.{list_all}
use Rattle.std.proofs.lemmas.Bool.{cases_Bool, and_parts, or_parts, or_from, eqb-true, false≢true, lt-ltb}
use Rattle.std.proofs.lemmas.List.{take_at, length_push, length-set, append_cancel_left}
use Rattle.std.proofs.lemmas.Option.{same_Some}
use Rattle.std.specs.Ordering.{is_eq}
use Rattle.bdb_base.specs.declared.kinds.Catalog.{Catalog}
use Rattle.bdb_base.specs.declared.kinds.Stmt.{Stmt}
use Rattle.bdb_base.specs.declared.kinds.UserSlot.{UserSlot}
use Rattle.bdb_base.specs.declared.kinds.UserSlot.TheVariants.{Live, Gone}
use Rattle.bdb_base.specs.Bases.{Contents, IsValid, belongs, is_gone, is_user, stands, with_relation, with_statement, with_user, without_user}
use Rattle.bdb_base.specs.Changes.{names_user, with_statements, without_statements_of, without_statements}
use Rattle.bdb_base.specs.Order.{statement_cmp}
use Rattle.bdb_base.specs.OrderLemmas.{statement_exact}
use Rattle.bdb_base.specs.Queries.{user_name}
use Rattle.bdb_base.specs.SortedSet.{ascending}
use Rattle.bdb_base.proofs.BaseLemmas.{belongs_parts}
use Rattle.bdb_base.proofs.ListLemmas.{filter_all, list_all_weaker}
use Rattle.bdb_base.proofs.SetLemmas.{put_adds_member, filter_keeps_order}
use Rattle.bdb_base.proofs.UserLemmas.{comes_back, drop_user_is_valid, name_found, others_are_users, who_is_gone_is_no_user, who_leaves_is_gone}
use Rattle.bdb_base.proofs.BoolLemmas.{or_true}
use Rattle.bdb_base.proofs.UpdateLemmas.{without_keeps_order}
use Rattle.bdb_undo.specs.declared.change.Change.{Change}
use Rattle.bdb_undo.specs.declared.change.Named.{Named}
use Rattle.bdb_undo.specs.declared.change.Named.TheVariants.{Nothing, UserAdded, RelationAdded, UserDropped}
use Rattle.bdb_undo.specs.Changes.{CanName, Leads, all_but_last, named_forth, named_back, missing_from, changed_forth, changed_back, names_something, alters}
use Rattle.bdb_undo.specs.ChangeLaws.{BackGivesTheBaseBefore, ForthGivesTheBaseAfter, ChangesAreOne, NothingIsAltered, SameBaseAltersNothing, FewerAreValid, StatementsLead, PutLeads, TakesLead, UpdateLeads, UserLeads, RelationLeads, LeavingLeads}
use Rattle.bdb_undo.proofs.StatementLemmas as statements

abbrev contents : Catalog → List Stmt → Contents
contents c stmts = record { catalog = c; stmts = stmts }

all_but_last_push : {X : Type 0} (xs : List X) (x : X) → all_but_last (xs ++ x ∷ []) ≡ xs
all_but_last_push xs x = let e = length_push xs x in take_at xs (x ∷ []) (length (xs ++ x ∷ []) - 1) (omega arith)

-- the catalog before what was named is that to which the name was added, or which the user left
name_left : (n : Named) (k : Catalog) → CanName n k → named_back n (named_forth n k) ≡ k
name_left Nothing k h = refl
name_left (UserAdded name) k h = ap (λ us. record k { users = us }) (all_but_last_push k.users (Live name))
name_left (RelationAdded def) k h = ap (λ rs. record k { rels = rs }) (all_but_last_push k.rels def)
name_left (UserDropped uid name) k h = comes_back k uid name h

catalog_before : (c : Change) (a b : Contents) → Leads c a b → named_back c.named b.catalog ≡ a.catalog
catalog_before c a b l = ap (named_back c.named) l.forth ∙ name_left c.named a.catalog l.can

-- statements that are exchanged, with what goes and comes by other names
exchanged_by : (stmts next gone come : List Stmt) → ascending statement_cmp stmts ≡ true → ascending statement_cmp next ≡ true
    → gone ≡ missing_from next stmts → come ≡ missing_from stmts next → with_statements (without_statements stmts gone) come ≡ next
exchanged_by stmts next gone come h g e f = ap (λ xs. with_statements (without_statements stmts xs) come) e
    ∙ ap (with_statements (without_statements stmts (missing_from next stmts))) f ∙ statements.exchanged stmts next h g

pub back_gives_the_base_before : BackGivesTheBaseBefore
back_gives_the_base_before c a b l =
    ap (λ k. contents k (with_statements (without_statements b.stmts c.come) c.gone)) (catalog_before c a b l)
    ∙ ap (contents a.catalog) (exchanged_by b.stmts a.stmts c.come c.gone l.after.stmts.sorted l.before.stmts.sorted l.come l.gone)

pub forth_gives_the_base_after : ForthGivesTheBaseAfter
forth_gives_the_base_after c a b l =
    ap (λ k. contents k (with_statements (without_statements a.stmts c.gone) c.come)) (sym l.forth)
    ∙ ap (contents b.catalog) (exchanged_by a.stmts b.stmts c.gone c.come l.before.stmts.sorted l.after.stmts.sorted l.gone l.come)

pub fewer_are_valid : FewerAreValid
fewer_are_valid = statements.fewer_are_valid

-- ---- from one base to another leads one change at most

longer : {X : Type 0} (xs : List X) (x : X) → xs ++ x ∷ [] ≡ xs → ⊥
longer xs x e = let h = ap length e in let g = length_push xs x in omega arith

first_is : {X : Type 0} (x y : X) → x ∷ [] ≡ y ∷ [] → x ≡ y
first_is x y e = cc

last_is : {X : Type 0} (xs : List X) (x y : X) → xs ++ x ∷ [] ≡ xs ++ y ∷ [] → x ≡ y
last_is xs x y e = first_is x y (append_cancel_left xs (x ∷ []) (y ∷ []) e)

users_of : (k l : Catalog) → k ≡ l → k.users ≡ l.users
users_of k l e = ap (λ (m : Catalog). m.users) e

rels_of : (k l : Catalog) → k ≡ l → k.rels ≡ l.rels
rels_of k l e = ap (λ (m : Catalog). m.rels) e

same_live : (a b : List ℕ) → Live a ≡ Live b → a ≡ b
same_live a b e = cc

-- who leaves is a user no more
leaves : (k : Catalog) (uid : ℕ) (name : List ℕ) (users : List UserSlot) → user_name k.users uid ≡ Some name → users ≡ (without_user k uid).users → is_user users uid ≡ false
leaves k uid name users h e = who_is_gone_is_no_user users uid
    (ap (λ us. is_gone us uid) e ∙ who_leaves_is_gone k uid (name_found k.users uid name h).0)

-- so he does not leave a catalog as it was, and no user is added
stays : (k : Catalog) (uid : ℕ) (name : List ℕ) → user_name k.users uid ≡ Some name → k.users ≡ (without_user k uid).users → ⊥
stays k uid name h e = false≢true (sym (leaves k uid name k.users h e) ∙ (name_found k.users uid name h).0)

grows : (k : Catalog) (uid : ℕ) (name : List ℕ) → (with_user k name).users ≡ (without_user k uid).users → ⊥
grows k uid name e =
    let h = ap length e in
    let g = length_push k.users (Live name) in
    let s = length-set k.users (uid - 1) Gone in
    omega arith

-- from a catalog no two users leave one
leavers_are_one : (k : Catalog) (u v : ℕ) (n m : List ℕ) → user_name k.users u ≡ Some n → user_name k.users v ≡ Some m → (without_user k u).users ≡ (without_user k v).users → u ≡ v
leavers_are_one k u v n m h g e =
    let user = (name_found k.users u n h).0 in
    let other : is_user (without_user k v).users u ≡ (not (nat_eq u v) && is_user k.users u) = others_are_users k v u (name_found k.users v m g).0 in
    let none : (not (nat_eq u v) && is_user k.users u) ≡ false = sym other ∙ leaves k u n (without_user k v).users h (sym e) in
    elim (cases_Bool (nat_eq u v)) [
      | inl s ↦ eqb-true u v s
      | inr d ↦ absurd (false≢true (sym none ∙ ap (λ b. not b && is_user k.users u) d ∙ user))
    ]

names_are_one : (m n : Named) (k : Catalog) → CanName m k → CanName n k → named_forth m k ≡ named_forth n k → m ≡ n
names_are_one Nothing Nothing k h g e = refl
names_are_one Nothing (UserAdded b) k h g e = absurd (longer k.users (Live b) (sym (users_of k (with_user k b) e)))
names_are_one Nothing (RelationAdded b) k h g e = absurd (longer k.rels b (sym (rels_of k (with_relation k b) e)))
names_are_one Nothing (UserDropped v b) k h g e = absurd (stays k v b g (users_of k (without_user k v) e))
names_are_one (UserAdded a) Nothing k h g e = absurd (longer k.users (Live a) (users_of (with_user k a) k e))
names_are_one (UserAdded a) (UserAdded b) k h g e = ap UserAdded (same_live a b (last_is k.users (Live a) (Live b) (users_of (with_user k a) (with_user k b) e)))
names_are_one (UserAdded a) (RelationAdded b) k h g e = absurd (longer k.users (Live a) (users_of (with_user k a) (with_relation k b) e))
names_are_one (UserAdded a) (UserDropped v b) k h g e = absurd (grows k v a (users_of (with_user k a) (without_user k v) e))
names_are_one (RelationAdded a) Nothing k h g e = absurd (longer k.rels a (rels_of (with_relation k a) k e))
names_are_one (RelationAdded a) (UserAdded b) k h g e = absurd (longer k.rels a (rels_of (with_relation k a) (with_user k b) e))
names_are_one (RelationAdded a) (RelationAdded b) k h g e = ap RelationAdded (last_is k.rels a b (rels_of (with_relation k a) (with_relation k b) e))
names_are_one (RelationAdded a) (UserDropped v b) k h g e = absurd (longer k.rels a (rels_of (with_relation k a) (without_user k v) e))
names_are_one (UserDropped u a) Nothing k h g e = absurd (stays k u a h (users_of k (without_user k u) (sym e)))
names_are_one (UserDropped u a) (UserAdded b) k h g e = absurd (grows k u b (users_of (with_user k b) (without_user k u) (sym e)))
names_are_one (UserDropped u a) (RelationAdded b) k h g e = absurd (longer k.rels b (rels_of (with_relation k b) (without_user k u) (sym e)))
names_are_one (UserDropped u a) (UserDropped v b) k h g e =
    let one = leavers_are_one k u v a b h g (users_of (without_user k u) (without_user k v) e) in
    ap (λ i. UserDropped i a) one ∙ ap (UserDropped v) (same_Some a b (sym h ∙ ap (user_name k.users) one ∙ g))

abbrev change : Named → List Stmt → List Stmt → Change
change named gone come = record { named = named; gone = gone; come = come }

pub changes_are_one : ChangesAreOne
changes_are_one c d a b l m =
    ap (λ n. change n c.gone c.come) (names_are_one c.named d.named a.catalog l.can m.can (sym l.forth ∙ m.forth))
    ∙ ap (λ g. change d.named g c.come) (l.gone ∙ sym m.gone)
    ∙ ap (change d.named d.gone) (l.come ∙ sym m.come)

-- ---- what was done to a base is a change

none_missing : (stmts : List Stmt) → missing_from stmts stmts ≡ []
none_missing stmts = statements.nothing_missing stmts stmts (λ z k. k)

pub statements_lead : StatementsLead
statements_lead c stmts next v w = record { before = v; after = w; can = tt; forth = refl; gone = refl; come = refl }

pub put_leads : PutLeads
put_leads c stmts s v w fresh = record {
  before = v;
  after = w;
  can = tt;
  forth = refl;
  gone = sym (statements.nothing_missing (with_statement stmts s) stmts
      (λ z k. put_adds_member statement_exact stmts s z ∙ ap (λ b. is_eq (statement_cmp s z) || b) k ∙ or_true (is_eq (statement_cmp s z))));
  come = sym (statements.put_is_missing stmts s v.stmts.sorted fresh);
}

pub takes_lead : TakesLead
takes_lead c stmts q v =
    let left = filter (λ x. not (q x)) stmts in
    let among = λ (z : Stmt) (k : stands left z ≡ true). (and_parts (not (q z)) (stands stmts z) (sym (statements.stands_filter (λ x. not (q x)) stmts z) ∙ k)).1 in
    record {
      before = v;
      after = fewer_are_valid c stmts left v (filter_keeps_order statement_exact (λ x. not (q x)) stmts v.stmts.sorted) among;
      can = tt;
      forth = refl;
      gone = sym (statements.taken_are_missing q stmts v.stmts.sorted);
      come = sym (statements.nothing_missing stmts left among);
    }

pub update_leads : UpdateLeads
update_leads c stmts made q v w = record {
  before = v;
  after = w;
  can = tt;
  forth = refl;
  gone = sym (statements.replaced_are_missing q stmts made v.stmts.sorted);
  come = sym (statements.made_are_missing q stmts made v.stmts.sorted);
}

pub user_leads : UserLeads
user_leads c stmts name v w = record {
  before = v;
  after = w;
  can = tt;
  forth = refl;
  gone = sym (none_missing stmts);
  come = sym (none_missing stmts);
}

pub relation_leads : RelationLeads
relation_leads c stmts def v w = record {
  before = v;
  after = w;
  can = tt;
  forth = refl;
  gone = sym (none_missing stmts);
  come = sym (none_missing stmts);
}

pub leaving_leads : LeavingLeads
leaving_leads c stmts uid name v h =
    let taken = takes_lead c stmts (λ x. names_user uid x.path) v in
    record {
      before = v;
      after = drop_user_is_valid c stmts uid v (name_found c.users uid name h).0;
      can = h;
      forth = refl;
      gone = taken.gone;
      come = taken.come;
    }

-- ---- a change that alters nothing

nothing_named : (n : Named) → names_something n ≡ false → n ≡ Nothing
nothing_named Nothing e = refl
nothing_named (UserAdded name) e = absurd (false≢true (sym e))
nothing_named (RelationAdded def) e = absurd (false≢true (sym e))
nothing_named (UserDropped uid name) e = absurd (false≢true (sym e))

no_items : (xs : List Stmt) → nat_lt 0 (length xs) ≡ false → xs ≡ []
no_items [] e = refl
no_items (x ∷ xs) e = absurd (false≢true (sym e ∙ lt-ltb 0 (length (x ∷ xs)) (omega arith)))

abbrev no_change : Change
no_change = change Nothing [] []

is_no_change : (c : Change) → alters c ≡ false → c ≡ no_change
is_no_change c e =
    let k = or_parts (names_something c.named) (nat_lt 0 (length c.gone) || nat_lt 0 (length c.come)) e in
    let l = or_parts (nat_lt 0 (length c.gone)) (nat_lt 0 (length c.come)) k.1 in
    ap (λ n. change n c.gone c.come) (nothing_named c.named k.0)
    ∙ ap (λ g. change Nothing g c.come) (no_items c.gone l.0)
    ∙ ap (change Nothing []) (no_items c.come l.1)

pub nothing_is_altered : NothingIsAltered
nothing_is_altered c a b l e = ap (λ d. changed_forth d a) (sym (is_no_change c e)) ∙ forth_gives_the_base_after c a b l

pub same_base_alters_nothing : SameBaseAltersNothing
same_base_alters_nothing c b l =
    let none = missing_from b.stmts b.stmts in
    ap alters (changes_are_one c (change Nothing none none) b b l (statements_lead b.catalog b.stmts b.stmts l.before l.before)
    ∙ ap (λ xs. change Nothing xs xs) (none_missing b.stmts))

-- ---- the bases between, back

-- the name is the last one of the base held
pub back_last : (c : Change) (a b mid : Contents) (stmts : List Stmt) → Leads c a b → mid ≡ contents b.catalog stmts
    → mid.catalog ≡ named_forth c.named (named_back c.named mid.catalog)
back_last c a b mid stmts l e =
    let held : mid.catalog ≡ b.catalog = ap (λ (m : Contents). m.catalog) e in
    held ∙ l.forth ∙ ap (named_forth c.named) (sym (catalog_before c a b l)) ∙ ap (λ k. named_forth c.named (named_back c.named k)) (sym held)

-- who left had his name before
pub back_can : (c : Change) (a b mid : Contents) (stmts : List Stmt) → Leads c a b → mid ≡ contents b.catalog stmts → CanName c.named (named_back c.named mid.catalog)
back_can c a b mid stmts l e =
    let held : mid.catalog ≡ b.catalog = ap (λ (m : Contents). m.catalog) e in
    subst (CanName c.named) (sym (ap (named_back c.named) held ∙ catalog_before c a b l)) l.can

-- once what came is taken away
pub back_taken : (c : Change) (a b mid : Contents) (come : List Stmt) → Leads c a b → come ≡ c.come → mid ≡ contents b.catalog (without_statements b.stmts come)
    → IsValid (named_back c.named mid.catalog) mid.stmts
back_taken c a b mid come l e f =
    let valid = statements.left_is_valid_after a.catalog b.stmts a.stmts l.after.stmts.sorted l.before in
    let same : mid ≡ contents b.catalog (without_statements b.stmts (missing_from a.stmts b.stmts))
    = f ∙ ap (λ xs. contents b.catalog (without_statements b.stmts xs)) (e ∙ l.come) in
    subst (λ (m : Contents). IsValid (named_back c.named m.catalog) m.stmts) (sym same)
    (subst (λ (k : Catalog). IsValid k (without_statements b.stmts (missing_from a.stmts b.stmts))) (sym (catalog_before c a b l)) valid)

-- once the name is taken away too
pub back_named : (c : Change) (b mid next : Contents) (come : List Stmt) → come ≡ c.come → mid ≡ contents b.catalog (without_statements b.stmts come)
    → next ≡ contents (named_back c.named mid.catalog) mid.stmts → next ≡ contents (named_back c.named b.catalog) (without_statements b.stmts c.come)
back_named c b mid next come e f g = g ∙ ap (λ (m : Contents). contents (named_back c.named m.catalog) m.stmts) f
    ∙ ap (λ xs. contents (named_back c.named b.catalog) (without_statements b.stmts xs)) e

pub back_sorted : (c : Change) (a b next : Contents) → Leads c a b → next ≡ contents (named_back c.named b.catalog) (without_statements b.stmts c.come)
    → ascending statement_cmp next.stmts ≡ true
back_sorted c a b next l e = ap (λ (m : Contents). ascending statement_cmp m.stmts) e ∙ without_keeps_order b.stmts c.come l.after.stmts.sorted

pub back_valid : (c : Change) (a b next : Contents) (gone : List Stmt) → Leads c a b → gone ≡ c.gone
    → next ≡ contents (named_back c.named b.catalog) (without_statements b.stmts c.come) → IsValid next.catalog (with_statements next.stmts gone)
back_valid c a b next gone l e f =
    subst (λ (m : Contents). IsValid m.catalog (with_statements m.stmts gone)) (sym f)
    (subst (λ (xs : List Stmt). IsValid (named_back c.named b.catalog) (with_statements (without_statements b.stmts c.come) xs)) (sym e)
    (subst (λ (m : Contents). IsValid m.catalog m.stmts) (sym (back_gives_the_base_before c a b l)) l.before))

pub back_is : (c : Change) (a b next : Contents) → Leads c a b → next ≡ changed_back c b → next ≡ a
back_is c a b next l e = e ∙ back_gives_the_base_before c a b l

-- ---- the bases between, forth

-- who leaves has his name
pub forth_can : (c : Change) (a b mid : Contents) (stmts : List Stmt) → Leads c a b → mid ≡ contents a.catalog stmts → CanName c.named mid.catalog
forth_can c a b mid stmts l e = subst (CanName c.named) (sym (ap (λ (m : Contents). m.catalog) e)) l.can

-- once what went is taken away
pub forth_taken : (c : Change) (a b mid : Contents) (gone : List Stmt) → Leads c a b → gone ≡ c.gone → mid ≡ contents a.catalog (without_statements a.stmts gone)
    → IsValid (named_forth c.named mid.catalog) mid.stmts
forth_taken c a b mid gone l e f =
    let valid = statements.left_is_valid_after b.catalog a.stmts b.stmts l.before.stmts.sorted l.after in
    let same : mid ≡ contents a.catalog (without_statements a.stmts (missing_from b.stmts a.stmts))
    = f ∙ ap (λ xs. contents a.catalog (without_statements a.stmts xs)) (e ∙ l.gone) in
    subst (λ (m : Contents). IsValid (named_forth c.named m.catalog) m.stmts) (sym same)
    (subst (λ (k : Catalog). IsValid k (without_statements a.stmts (missing_from b.stmts a.stmts))) l.forth valid)

-- once the name is added too
pub forth_named : (c : Change) (a mid next : Contents) (gone : List Stmt) → gone ≡ c.gone → mid ≡ contents a.catalog (without_statements a.stmts gone)
    → next ≡ contents (named_forth c.named mid.catalog) mid.stmts → next ≡ contents (named_forth c.named a.catalog) (without_statements a.stmts c.gone)
forth_named c a mid next gone e f g = g ∙ ap (λ (m : Contents). contents (named_forth c.named m.catalog) m.stmts) f
    ∙ ap (λ xs. contents (named_forth c.named a.catalog) (without_statements a.stmts xs)) e

pub forth_sorted : (c : Change) (a b next : Contents) → Leads c a b → next ≡ contents (named_forth c.named a.catalog) (without_statements a.stmts c.gone)
    → ascending statement_cmp next.stmts ≡ true
forth_sorted c a b next l e = ap (λ (m : Contents). ascending statement_cmp m.stmts) e ∙ without_keeps_order a.stmts c.gone l.before.stmts.sorted

pub forth_valid : (c : Change) (a b next : Contents) (come : List Stmt) → Leads c a b → come ≡ c.come
    → next ≡ contents (named_forth c.named a.catalog) (without_statements a.stmts c.gone) → IsValid next.catalog (with_statements next.stmts come)
forth_valid c a b next come l e f =
    subst (λ (m : Contents). IsValid m.catalog (with_statements m.stmts come)) (sym f)
    (subst (λ (xs : List Stmt). IsValid (named_forth c.named a.catalog) (with_statements (without_statements a.stmts c.gone) xs)) (sym e)
    (subst (λ (m : Contents). IsValid m.catalog m.stmts) (sym (forth_gives_the_base_after c a b l)) l.after))

pub forth_is : (c : Change) (a b next : Contents) → Leads c a b → next ≡ changed_forth c a → next ≡ b
forth_is c a b next l e = e ∙ forth_gives_the_base_after c a b l

-- ---- a user who leaves

-- a user is another than one who is none
other_than : (users : List UserSlot) (uid other : ℕ) → is_user users uid ≡ false → is_user users other ≡ true → nat_eq other uid ≡ false
other_than users uid other n h = elim (cases_Bool (nat_eq other uid)) [
  | inl s ↦ absurd (false≢true (sym n ∙ ap (is_user users) (sym (eqb-true other uid s)) ∙ h))
  | inr d ↦ d
]

pub unnamed : (users : List UserSlot) (uid : ℕ) (w : List ℕ) → is_user users uid ≡ false → list_all (is_user users) w ≡ true → names_user uid w ≡ false
unnamed users uid [] n h = refl
unnamed users uid (i ∷ w) n h =
    let k = and_parts (is_user users i) (list_all (is_user users) w) h in
    or_from (nat_eq i uid) (names_user uid w) (other_than users uid i n k.0) (unnamed users uid w n k.1)

-- the statements of a base that he can leave name him no more
none_name_him : (k : Catalog) (uid : ℕ) (name : List ℕ) (stmts : List Stmt) → user_name k.users uid ≡ Some name → IsValid (without_user k uid) stmts
    → without_statements_of uid stmts ≡ stmts
none_name_him k uid name stmts h v =
    let after = without_user k uid in
    let none = leaves k uid name after.users h refl in
    filter_all (λ x. not (names_user uid x.path)) stmts
    (list_all_weaker (belongs after) (λ x. not (names_user uid x.path))
    (λ x b. ap not (unnamed after.users uid x.path none (belongs_parts after x b).users)) stmts v.stmts.belong)

-- where his statements have gone before, his leaving is all that is left to do
pub he_leaves : (n : Named) (b next : Contents) (uid : ℕ) (name : List ℕ) → n ≡ UserDropped uid name → CanName n b.catalog → IsValid (named_forth n b.catalog) b.stmts
    → next ≡ contents (without_user b.catalog uid) (without_statements_of uid b.stmts) → next ≡ contents (named_forth n b.catalog) b.stmts
he_leaves n b next uid name e can valid left =
    let k = b.catalog in
    let h : user_name k.users uid ≡ Some name = subst (λ (m : Named). CanName m k) e can in
    let v : IsValid (without_user k uid) b.stmts = subst (λ (m : Named). IsValid (named_forth m k) b.stmts) e valid in
    left ∙ ap (contents (without_user k uid)) (none_name_him k uid name b.stmts h v) ∙ ap (λ (m : Named). contents (named_forth m k) b.stmts) (sym e)
