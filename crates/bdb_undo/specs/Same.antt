-- Whether two bases are the same.
use Rattle.std.specs.Prelude.{◌≡◌, Bool, true, false, ◌&&◌, nat_eq}
use Rattle.std.specs.Cmp.Lexicographic.{pointwise}
use Rattle.bdb_base.specs.declared.kinds.Catalog.{Catalog}
use Rattle.bdb_base.specs.declared.kinds.ColDef.{ColDef}
use Rattle.bdb_base.specs.declared.kinds.RelDef.{RelDef}
use Rattle.bdb_base.specs.declared.kinds.UserSlot.{UserSlot}
use Rattle.bdb_base.specs.declared.kinds.UserSlot.TheVariants.{Live, Gone}
use Rattle.bdb_base.specs.Bases.{Contents}
use Rattle.bdb_base.specs.Same.{same_kind, same_statement, same_text}

-- two definitions of a column have one name and one kind
abbrev pub same_column_def : ColDef → ColDef → Bool
same_column_def a b = same_text a.name b.name && same_kind a.kind b.kind

-- two relations have one name, the same columns and keys of one length
abbrev pub same_relation : RelDef → RelDef → Bool
same_relation a b = same_text a.name b.name
    && (pointwise same_column_def a.cols b.cols && nat_eq a.key b.key)

-- two places have live users of one name, or users who are gone
abbrev pub same_place : UserSlot → UserSlot → Bool
same_place (Live a) (Live b) = same_text a b
same_place Gone Gone = true
same_place _ _ = false

-- the same relations and the same places of users, in order
abbrev pub same_catalog : Catalog → Catalog → Bool
same_catalog a b = pointwise same_relation a.rels b.rels && pointwise same_place a.users b.users

-- the same catalog and the same statements, in order
abbrev pub same_contents : Contents → Contents → Bool
same_contents a b = same_catalog a.catalog b.catalog && pointwise same_statement a.stmts b.stmts

-- bases that are the same are one
abbrev pub SameContentsAreOne : Type 0
SameContentsAreOne = (a b : Contents) → same_contents a b ≡ true → a ≡ b

-- each base is the same as itself
abbrev pub ContentsAreTheirOwn : Type 0
ContentsAreTheirOwn = (a : Contents) → same_contents a a ≡ true
