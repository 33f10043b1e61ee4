-- Which queries fit a catalog, and which are safe.
use Rattle.std.specs.Prelude.{◌≡◌, ℕ, ◌^◌, Bool, true, false, not, ◌&&◌, ◌||◌, nat_eq, nat_lt, List, [], ◌∷◌, length, map, Option, None, Some, cond}
use Rattle.std.specs.Option.{option_and_then, is_some}
use Rattle.std.specs.List.{list_any, list_all, slice_get}
use Rattle.bdb_base.specs.declared.kinds.Catalog.{Catalog}
use Rattle.bdb_base.specs.declared.kinds.Cmp.{Cmp}
use Rattle.bdb_base.specs.declared.kinds.Cmp.TheVariants.{Eq}
use Rattle.bdb_base.specs.declared.kinds.Cond.{Cond}
use Rattle.bdb_base.specs.declared.kinds.Item.{Item}
use Rattle.bdb_base.specs.declared.kinds.Item.TheVariants.{Users, Rel}
use Rattle.bdb_base.specs.declared.kinds.Kind.{Kind}
use Rattle.bdb_base.specs.declared.kinds.Kind.TheVariants as kind
use Rattle.bdb_base.specs.declared.kinds.Operand.{Operand}
use Rattle.bdb_base.specs.declared.kinds.Operand.TheVariants.{Col, Lit}
use Rattle.bdb_base.specs.declared.kinds.Query.{Query}
use Rattle.bdb_base.specs.declared.kinds.Ref.{Ref}
use Rattle.bdb_base.specs.declared.kinds.RelDef.{RelDef}
use Rattle.bdb_base.specs.declared.kinds.Sign.TheVariants.{Plus, Minus}
use Rattle.bdb_base.specs.declared.kinds.UserSlot.{UserSlot}
use Rattle.bdb_base.specs.declared.kinds.Value.{Value}
use Rattle.bdb_base.specs.declared.kinds.Value.TheVariants as value
use Rattle.bdb_base.specs.declared.kinds.Who.{Who}
use Rattle.bdb_base.specs.declared.kinds.Who.TheVariants.{User, Of}
use Rattle.bdb_base.specs.Bases.{is_plain, is_user}
use Rattle.bdb_base.specs.Queries.{columns_at}
use Rattle.bdb_base.specs.Same.{same_kind}

-- ---- a query that fits a catalog

-- the kinds of an item's columns; a `Users` item has a number and a name
abbrev pub item_kinds : List RelDef → Item → List Kind
item_kinds rels (Users alias) = kind.Int ∷ kind.Text ∷ []
item_kinds rels (Rel alias rel sign path) = map (λ c. c.kind) (columns_at rels rel)

-- the kind of a column, if it is there
abbrev pub column_kind : List RelDef → List Item → Ref → Option Kind
column_kind rels items r = option_and_then (λ item. slice_get (item_kinds rels item) r.col) (slice_get items r.item)

-- the kind of a literal, if it is one that may stand in a base: a text has to be plain
abbrev pub literal_kind : Value → Option Kind
literal_kind (value.Int n) = Some kind.Int
literal_kind (value.Text t) = cond (is_plain t) (Some kind.Text) None

-- the kind of a comparison's right side
abbrev pub operand_kind : List RelDef → List Item → Operand → Option Kind
operand_kind rels items (Col r) = column_kind rels items r
operand_kind rels items (Lit v) = literal_kind v

-- both kinds are there, and are one
abbrev pub one_kind : Option Kind → Option Kind → Bool
one_kind (Some a) (Some b) = same_kind a b
one_kind _ _ = false

-- a comparison's sides are there, and are of one kind
abbrev pub joins_one_kind : List RelDef → List Item → Cond → Bool
joins_one_kind rels items c = one_kind (column_kind rels items c.left) (operand_kind rels items c.right)

abbrev pub is_users_item : Option Item → Bool
is_users_item (Some (Users alias)) = true
is_users_item _ = false

-- a user of a path is a live user of the catalog, or names a `Users` item
abbrev pub who_fits : List UserSlot → List Item → Who → Bool
who_fits users items (User uid) = is_user users uid
who_fits users items (Of item) = is_users_item (slice_get items item)

-- a path does not begin with this fixed user
abbrev pub begins_with_another : ℕ → List Who → Bool
begins_with_another i (User j ∷ whos) = not (nat_eq i j)
begins_with_another i _ = true

-- no two neighbouring fixed users of a path are equal
abbrev pub fixed_differ : List Who → Bool
fixed_differ [] = true
fixed_differ (User i ∷ whos) = begins_with_another i whos && fixed_differ whos
fixed_differ (Of item ∷ whos) = fixed_differ whos

-- an item's relation is there, and its path fits
abbrev pub item_fits : Catalog → List Item → Item → Bool
item_fits catalog items (Users alias) = true
item_fits catalog items (Rel alias rel sign path) = is_some (slice_get catalog.rels rel) && (list_all (who_fits catalog.users items) path && fixed_differ path)

-- A query fits a catalog: its items and each relation's columns can be numbered, all that it names is there, each
-- comparison joins one kind, its literals are plain, and no path has two neighbouring fixed users that are equal.
abbrev pub query_fits : Catalog → Query → Bool
query_fits catalog q = nat_lt (length q.items) (2 ^ 32) && (list_all (λ def. nat_lt (length def.cols) (2 ^ 32)) catalog.rels
    && (list_all (item_fits catalog q.items) q.items
    && (list_all (λ r. is_some (column_kind catalog.rels q.items r)) q.take && list_all (joins_one_kind catalog.rels q.items) q.conds)))

-- ---- a safe query

-- the column is of a `Users` item or of a plus item
abbrev pub is_given : Option Item → Bool
is_given (Some (Users alias)) = true
is_given (Some (Rel alias rel Plus path)) = true
is_given _ = false

abbrev pub is_minus : Option Item → Bool
is_minus (Some (Rel alias rel Minus path)) = true
is_minus _ = false

abbrev pub same_column : Ref → Ref → Bool
same_column r s = nat_eq r.item s.item && nat_eq r.col s.col

abbrev pub is_equality : Cmp → Bool
is_equality Eq = true
is_equality _ = false

-- a comparison's right side is this column
abbrev pub is_column : Ref → Operand → Bool
is_column r (Col s) = same_column r s
is_column r (Lit v) = false

abbrev pub is_literal : Operand → Bool
is_literal (Col r) = false
is_literal (Lit v) = true

-- a comparison says that a column equals a literal
abbrev pub pins : Ref → Cond → Bool
pins r c = is_equality c.cmp && (same_column r c.left && is_literal c.right)

-- a comparison says that one column equals another
abbrev pub links : Ref → Ref → Cond → Bool
links r s c = is_equality c.cmp && ((same_column r c.left && is_column s c.right) || (same_column s c.left && is_column r c.right))

-- A column is bound: it is of a `Users` item or a plus item, it equals a literal, or it equals a column that is bound.
pub data IsBound (q : Query) : Ref → Type 0 where
  given : {r : Ref} → is_given (slice_get q.items r.item) ≡ true → IsBound q r
  pinned : {r : Ref} → list_any (pins r) q.conds ≡ true → IsBound q r
  linked : {r s : Ref} → list_any (links r s) q.conds ≡ true → IsBound q s → IsBound q r

-- a column of a minus item of this query, one that the catalog gives the item's relation
pub record IsMinusColumn (rels : List RelDef) (q : Query) (r : Ref) : Type 0 where
  pub minus : is_minus (slice_get q.items r.item) ≡ true
  pub there : is_some (column_kind rels q.items r) ≡ true

-- a query is safe over a catalog: each column of its minus items is bound
abbrev pub IsSafe : List RelDef → Query → Type 0
IsSafe rels q = (r : Ref) → IsMinusColumn rels q r → IsBound q r

-- a column equals a source
abbrev pub equality : Ref → Operand → Cond
equality r o = record { left = r; cmp = Eq; right = o }

-- the column of a comparison's right side
abbrev pub operand_columns : Operand → List Ref
operand_columns (Col r) = r ∷ []
operand_columns (Lit v) = []

-- the first of two, if there is one
abbrev pub first_there : {X : Type 0} → Option X → Option X → Option X
first_there (Some x) more = Some x
first_there None more = more

-- an item's column
abbrev pub column : ℕ → ℕ → Ref
column item col = record { item = item; col = col }
