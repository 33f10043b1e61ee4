-- What holds of changes.
use Rattle.std.specs.Prelude.{◌≡◌, ℕ, Bool, true, false, not, List, [], ◌∷◌, filter, Some}
use Rattle.bdb_base.specs.declared.kinds.Catalog.{Catalog}
use Rattle.bdb_base.specs.declared.kinds.RelDef.{RelDef}
use Rattle.bdb_base.specs.declared.kinds.Stmt.{Stmt}
use Rattle.bdb_base.specs.Bases.{Contents, IsValid, stands, with_relation, with_statement, with_user, without_user}
use Rattle.bdb_base.specs.Changes.{statements_naming, with_statements, without_statements_of}
use Rattle.bdb_base.specs.Order.{statement_cmp}
use Rattle.bdb_base.specs.Queries.{user_name}
use Rattle.bdb_base.specs.SortedSet.{ascending, sorted_set}
use Rattle.bdb_undo.specs.declared.change.Change.{Change}
use Rattle.bdb_undo.specs.declared.change.Named.TheVariants.{Nothing, UserAdded, RelationAdded, UserDropped}
use Rattle.bdb_undo.specs.Changes.{Leads, missing_from, changed_forth, changed_back, alters}

-- taking a change back gives the base from which it led
abbrev pub BackGivesTheBaseBefore : Type 0
BackGivesTheBaseBefore = (c : Change) (a b : Contents) → Leads c a b → changed_back c b ≡ a

-- making a change again gives the base to which it led
abbrev pub ForthGivesTheBaseAfter : Type 0
ForthGivesTheBaseAfter = (c : Change) (a b : Contents) → Leads c a b → changed_forth c a ≡ b

-- from one base to another leads one change at most
abbrev pub ChangesAreOne : Type 0
ChangesAreOne = (c d : Change) (a b : Contents) → Leads c a b → Leads d a b → c ≡ d

-- a change that alters nothing leads from a base to itself
abbrev pub NothingIsAltered : Type 0
NothingIsAltered = (c : Change) (a b : Contents) → Leads c a b → alters c ≡ false → a ≡ b

-- a change that leads from a base to itself alters nothing
abbrev pub SameBaseAltersNothing : Type 0
SameBaseAltersNothing = (c : Change) (b : Contents) → Leads c b b → alters c ≡ false

-- statements in order that all stand in a valid base are those of a valid base
abbrev pub FewerAreValid : Type 0
FewerAreValid = (c : Catalog) (stmts fewer : List Stmt) → IsValid c stmts → ascending statement_cmp fewer ≡ true
    → ((x : Stmt) → stands fewer x ≡ true → stands stmts x ≡ true) → IsValid c fewer

-- what goes and what comes where one set of statements takes the place of another
abbrev pub StatementsLead : Type 0
StatementsLead = (c : Catalog) (stmts next : List Stmt) → IsValid c stmts → IsValid c next
    → Leads (record { named = Nothing; gone = missing_from next stmts; come = missing_from stmts next }) (record { catalog = c; stmts = stmts }) (record { catalog = c; stmts = next })

-- where a statement is put that did not stand, it comes
abbrev pub PutLeads : Type 0
PutLeads = (c : Catalog) (stmts : List Stmt) (s : Stmt) → IsValid c stmts → IsValid c (with_statement stmts s) → stands stmts s ≡ false
    → Leads (record { named = Nothing; gone = []; come = s ∷ [] }) (record { catalog = c; stmts = stmts }) (record { catalog = c; stmts = with_statement stmts s })

-- where the statements that pass a test are taken away, these go
abbrev pub TakesLead : Type 0
TakesLead = (c : Catalog) (stmts : List Stmt) (q : Stmt → Bool) → IsValid c stmts
    → Leads (record { named = Nothing; gone = filter q stmts; come = [] }) (record { catalog = c; stmts = stmts }) (record { catalog = c; stmts = filter (λ x. not (q x)) stmts })

-- where the statements that pass a test make room for others, those of them go that are not among the others, and those of
-- the others come that did not stand
abbrev pub UpdateLeads : Type 0
UpdateLeads = (c : Catalog) (stmts made : List Stmt) (q : Stmt → Bool) → IsValid c stmts → IsValid c (with_statements (filter (λ x. not (q x)) stmts) made)
    → Leads (record { named = Nothing; gone = missing_from (sorted_set statement_cmp made) (filter q stmts); come = missing_from stmts (sorted_set statement_cmp made) })
    (record { catalog = c; stmts = stmts }) (record { catalog = c; stmts = with_statements (filter (λ x. not (q x)) stmts) made })

-- where a user is added, nothing goes or comes but the name
abbrev pub UserLeads : Type 0
UserLeads = (c : Catalog) (stmts : List Stmt) (name : List ℕ) → IsValid c stmts → IsValid (with_user c name) stmts
    → Leads (record { named = UserAdded name; gone = []; come = [] }) (record { catalog = c; stmts = stmts }) (record { catalog = with_user c name; stmts = stmts })

-- where a relation is added, nothing goes or comes but its definition
abbrev pub RelationLeads : Type 0
RelationLeads = (c : Catalog) (stmts : List Stmt) (def : RelDef) → IsValid c stmts → IsValid (with_relation c def) stmts
    → Leads (record { named = RelationAdded def; gone = []; come = [] }) (record { catalog = c; stmts = stmts }) (record { catalog = with_relation c def; stmts = stmts })

-- where a user leaves, the statements go whose path names him, and nothing comes
abbrev pub LeavingLeads : Type 0
LeavingLeads = (c : Catalog) (stmts : List Stmt) (uid : ℕ) (name : List ℕ) → IsValid c stmts → user_name c.users uid ≡ Some name
    → Leads (record { named = UserDropped uid name; gone = statements_naming uid stmts; come = [] }) (record { catalog = c; stmts = stmts })
    (record { catalog = without_user c uid; stmts = without_statements_of uid stmts })
