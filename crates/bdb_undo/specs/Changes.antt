-- Changes of a base: what each does, and from which base to which one it leads.
use Rattle.std.specs.Prelude.{◌≡◌, ◌-◌, Bool, true, false, not, ◌||◌, nat_lt, List, length, take, filter, Some}
use Rattle.bdb_base.specs.declared.kinds.Catalog.{Catalog}
use Rattle.bdb_base.specs.declared.kinds.Stmt.{Stmt}
use Rattle.bdb_base.specs.Bases.{Contents, IsValid, stands, with_relation, with_user, with_user_back, without_user}
use Rattle.bdb_base.specs.Changes.{with_statements, without_statements}
use Rattle.bdb_base.specs.Queries.{user_name}
use Rattle.bdb_undo.specs.declared.change.Change.{Change}
use Rattle.bdb_undo.specs.declared.change.Named.{Named}
use Rattle.bdb_undo.specs.declared.change.Named.TheVariants.{Nothing, UserAdded, RelationAdded, UserDropped}

-- a list without its last item
abbrev pub all_but_last : {X : Type 0} → List X → List X
all_but_last xs = take (length xs - 1) xs

-- the catalog after what a change named
abbrev pub named_forth : Named → Catalog → Catalog
named_forth Nothing c = c
named_forth (UserAdded name) c = with_user c name
named_forth (RelationAdded def) c = with_relation c def
named_forth (UserDropped uid name) c = without_user c uid

-- the catalog before what a change named
abbrev pub named_back : Named → Catalog → Catalog
named_back Nothing c = c
named_back (UserAdded name) c = record c { users = all_but_last c.users }
named_back (RelationAdded def) c = record c { rels = all_but_last c.rels }
named_back (UserDropped uid name) c = with_user_back c uid name

-- what a change named can be done to a catalog: a user who leaves is a live one, of this name
abbrev pub CanName : Named → Catalog → Type 0
CanName (UserDropped uid name) c = user_name c.users uid ≡ Some name
CanName _ c = Unit {0}

-- the statements that do not stand among others
abbrev pub missing_from : List Stmt → List Stmt → List Stmt
missing_from others stmts = filter (λ x. not (stands others x)) stmts

-- the base after a change: what went is gone, and what came stands
abbrev pub changed_forth : Change → Contents → Contents
changed_forth c b = record { catalog = named_forth c.named b.catalog; stmts = with_statements (without_statements b.stmts c.gone) c.come }

-- the base before a change: what came is gone, and what went stands
abbrev pub changed_back : Change → Contents → Contents
changed_back c b = record { catalog = named_back c.named b.catalog; stmts = with_statements (without_statements b.stmts c.come) c.gone }

-- A change leads from a valid base to a valid one: it tells how their catalogs differ, which statements of the first are
-- not in the second, and which of the second are not in the first. Where a user leaves, he has the change's name before.
pub record Leads (c : Change) (a b : Contents) : Type 0 where
  pub before : IsValid a.catalog a.stmts
  pub after : IsValid b.catalog b.stmts
  pub can : CanName c.named a.catalog
  pub forth : b.catalog ≡ named_forth c.named a.catalog
  pub gone : c.gone ≡ missing_from b.stmts a.stmts
  pub come : c.come ≡ missing_from a.stmts b.stmts

-- there is a base from which a change leads to this one
abbrev pub CanLeadTo : Change → Contents → Type 0
CanLeadTo c b = (a : Contents) × Leads c a b

-- there is a base to which a change leads from this one
abbrev pub LeadsFrom : Change → Contents → Type 0
LeadsFrom c a = (b : Contents) × Leads c a b

-- a change named something
abbrev pub names_something : Named → Bool
names_something Nothing = false
names_something (UserAdded name) = true
names_something (RelationAdded def) = true
names_something (UserDropped uid name) = true

-- a change named something, or a statement went or came
abbrev pub alters : Change → Bool
alters c = names_something c.named || (nat_lt 0 (length c.gone) || nat_lt 0 (length c.come))
