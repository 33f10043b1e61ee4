-- What is bound fits its catalog.
use Rattle.std.specs.Prelude.{◌≡◌, ℕ, Bool, true, false, not, ◌&&◌, nat_eq, nat_lt, nat_le, List, [], ◌∷◌, ◌++◌, length, map, Option, None, Some}
use Rattle.std.specs.Option.{option_map}
use Rattle.std.specs.List.{list_all, slice_get}
use Rattle.bdb_base.specs.Limits.{deepest_statement, deepest_query}
use Rattle.bdb_base.specs.declared.kinds.Catalog.{Catalog}
use Rattle.bdb_base.specs.declared.kinds.ColDef.{ColDef}
use Rattle.bdb_base.specs.declared.kinds.RelDef.{RelDef}
use Rattle.bdb_base.specs.declared.kinds.Cond.{Cond}
use Rattle.bdb_base.specs.declared.kinds.Operand.{Operand}
use Rattle.bdb_base.specs.declared.kinds.Operand.TheVariants as operand
use Rattle.bdb_base.specs.declared.kinds.Kind.{Kind}
use Rattle.bdb_base.specs.declared.kinds.Query.{Query}
use Rattle.bdb_base.specs.declared.kinds.SetCol.{SetCol}
use Rattle.bdb_base.specs.declared.kinds.UserSlot.{UserSlot}
use Rattle.bdb_base.specs.declared.kinds.Value.{Value}
use Rattle.bdb_base.specs.Alternation.{alternates}
use Rattle.bdb_base.specs.Bases.{IsCatalog, belongs, is_user, user_names, is_clean, is_plain, fits_kind, fits_relation, are_distinct, is_valid_relation}
use Rattle.bdb_base.specs.Safety.{one_kind, query_fits}
use Rattle.bdb_base.specs.Queries.{columns_of_definition}
use Rattle.bdb_syntax.specs.declared.command.Command.{Command}
use Rattle.bdb_syntax.specs.declared.command.Command.TheVariants.{CreateRelation}
use Rattle.bdb_bind.specs.declared.bound.Bound.{Bound}
use Rattle.bdb_bind.specs.declared.bound.Bound.TheVariants as bound
use Rattle.bdb_bind.specs.Parts.{some_text}
use Rattle.bdb_bind.specs.Refusal.{refusal_of}
use Rattle.bdb_bind.specs.Binding.{bound_of}
use Rattle.bdb_bind.specs.Safe.{is_safe}

-- a text holds a character below U+0020
abbrev pub is_unclean : List ℕ → Bool
is_unclean text = not (is_clean text)

-- a new relation has a column, and plain names
abbrev pub names_allowed : Command → Bool
names_allowed (CreateRelation name cols key) = nat_lt 0 (length cols) && (is_plain name && list_all (λ c. is_plain c.name) cols)
names_allowed _ = true

-- the texts of a command are clean, and the names that it makes are plain
abbrev pub is_allowed : Command → Bool
is_allowed c = not (some_text is_unclean c) && names_allowed c

-- a path names no user twice in a row, is not too long, and names live users of the catalog
abbrev pub fits_path : List UserSlot → ℕ → List ℕ → Bool
fits_path users limit path = alternates path && nat_le (length path) limit && list_all (is_user users) path

-- a value fits a column that may not be there: it is of its kind, and a text is a plain one
abbrev pub fits_found : Option ColDef → Value → Bool
fits_found None value = false
fits_found (Some c) value = fits_kind c.kind value

-- a set gives a column that is there a value of its kind
abbrev pub set_fits : List ColDef → SetCol → Bool
set_fits cols s = fits_found (slice_get cols s.col) s.to

-- the kind of a column, by its place
abbrev pub kind_of_place : List ColDef → ℕ → Option Kind
kind_of_place cols at = option_map (λ c. c.kind) (slice_get cols at)

-- a comparison's right side is of the kind of the column at a place; a column is there, and of item 0
abbrev pub side_fits : List ColDef → ℕ → Operand → Bool
side_fits cols at (operand.Col r) = nat_eq r.item 0 && one_kind (kind_of_place cols at) (kind_of_place cols r.col)
side_fits cols at (operand.Lit v) = fits_found (slice_get cols at) v

-- a comparison's sides are columns of item 0 that are there, or values, of one kind
abbrev pub cond_fits : List ColDef → Cond → Bool
cond_fits cols c = nat_eq c.left.item 0 && side_fits cols c.left.col c.right

-- the columns of a relation, by its number
abbrev pub columns_numbered : List RelDef → ℕ → List ColDef
columns_numbered rels number = columns_of_definition (slice_get rels number)

-- a query fits the catalog, and is safe
abbrev pub can_be_answered : Catalog → Query → Bool
can_be_answered catalog q = query_fits catalog q && is_safe catalog.rels q

-- What is bound fits a catalog. With it a base that is valid stays so, but for clashes and for what it may be full of; and
-- a query has answers.
abbrev pub fits_catalog : Catalog → Bound → Bool
fits_catalog catalog (bound.CreateUser name) = is_plain name && are_distinct (user_names catalog.users ++ name ∷ [])
fits_catalog catalog (bound.DropUser uid) = is_user catalog.users uid
fits_catalog catalog (bound.CreateRelation def) = is_valid_relation def && are_distinct (map (λ r. r.name) (catalog.rels ++ def ∷ []))
fits_catalog catalog (bound.Insert x) = belongs catalog x
fits_catalog catalog (bound.Delete path sign rel conds) = fits_path catalog.users deepest_statement path && (nat_lt rel (length catalog.rels)
    && list_all (cond_fits (columns_numbered catalog.rels rel)) conds)
fits_catalog catalog (bound.Update path sign rel sets conds) = fits_path catalog.users deepest_statement path && (nat_lt rel (length catalog.rels)
    && (list_all (set_fits (columns_numbered catalog.rels rel)) sets && list_all (cond_fits (columns_numbered catalog.rels rel)) conds))
fits_catalog catalog (bound.Select query) = can_be_answered catalog query
fits_catalog catalog (bound.Explain query) = can_be_answered catalog query
fits_catalog catalog (bound.ShowWorld path) = fits_path catalog.users deepest_query path
fits_catalog catalog (bound.Why x) = fits_path catalog.users deepest_query x.path && fits_relation catalog.rels x.tuple
fits_catalog catalog bound.ShowTables = true
fits_catalog catalog bound.Undo = true
fits_catalog catalog bound.Redo = true

-- what an allowed command that isn't refused is bound to fits the catalog
abbrev pub WhatIsBoundFits : Type 0
WhatIsBoundFits = (catalog : Catalog) (c : Command) → IsCatalog catalog → is_allowed c ≡ true → refusal_of catalog c ≡ None
    → fits_catalog catalog (bound_of catalog c) ≡ true
