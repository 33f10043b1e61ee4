-- The test of bases decides equality.
use Rattle.std.proofs.Common.{◌≡◌, ◌∙◌, ℕ, ◌&&◌, nat_eq, List, refl, ap}
use Rattle.std.specs.Bool.{Decides}
use Rattle.std.specs.Cmp.Lexicographic.{pointwise, pointwise_decides}
use Rattle.std.proofs.lemmas.Bool.Decides.{Decides-eqb, Decides-and, Decides-like}
use Rattle.bdb_base.specs.declared.kinds.Catalog.{Catalog}
use Rattle.bdb_base.specs.declared.kinds.ColDef.{ColDef}
use Rattle.bdb_base.specs.declared.kinds.Kind.{Kind}
use Rattle.bdb_base.specs.declared.kinds.RelDef.{RelDef}
use Rattle.bdb_base.specs.declared.kinds.Stmt.{Stmt}
use Rattle.bdb_base.specs.declared.kinds.UserSlot.{UserSlot}
use Rattle.bdb_base.specs.declared.kinds.UserSlot.TheVariants.{Live, Gone}
use Rattle.bdb_base.specs.Bases.{Contents}
use Rattle.bdb_base.specs.Same.{same_kind, same_statement, same_text}
use Rattle.bdb_base.specs.SameLemmas.{same_kind-Decides, same_statement-Decides, same_text-Decides}
use Rattle.bdb_undo.specs.Same.{same_column_def, same_relation, same_place, same_catalog, same_contents, SameContentsAreOne, ContentsAreTheirOwn}

-- a column of a name and a kind
abbrev column_of : List ℕ → Kind → ColDef
column_of n k = record { name = n; kind = k }

same_column_def-Decides : (a b : ColDef) → Decides (same_column_def a b) (a ≡ b)
same_column_def-Decides a b = Decides-like (same_column_def a b)
    (λ e. ap (λ n. column_of n a.kind) e.0 ∙ ap (λ k. column_of b.name k) e.1)
    (λ e. (ap (λ c. c.name) e, ap (λ c. c.kind) e))
    (Decides-and (same_text a.name b.name) (same_kind a.kind b.kind) (same_text-Decides a.name b.name) (same_kind-Decides a.kind b.kind))

-- a relation of a name, columns and a key
abbrev relation_of : List ℕ → List ColDef → ℕ → RelDef
relation_of n cs k = record { name = n; cols = cs; key = k }

same_relation-Decides : (a b : RelDef) → Decides (same_relation a b) (a ≡ b)
same_relation-Decides a b = Decides-like (same_relation a b)
    (λ e. ap (λ n. relation_of n a.cols a.key) e.0 ∙ ap (λ cs. relation_of b.name cs a.key) e.1.0 ∙ ap (λ k. relation_of b.name b.cols k) e.1.1)
    (λ e. (ap (λ r. r.name) e, (ap (λ r. r.cols) e, ap (λ r. r.key) e)))
    (Decides-and (same_text a.name b.name) (pointwise same_column_def a.cols b.cols && nat_eq a.key b.key) (same_text-Decides a.name b.name)
    (Decides-and (pointwise same_column_def a.cols b.cols) (nat_eq a.key b.key) (pointwise_decides same_column_def-Decides a.cols b.cols) (Decides-eqb a.key b.key)))

same_place-Decides : (a b : UserSlot) → Decides (same_place a b) (a ≡ b)
same_place-Decides (Live a) (Live b) = Decides-like (same_text a b) (λ e. ap Live e) (λ e. cc) (same_text-Decides a b)
same_place-Decides (Live a) Gone = ((λ e. cc), (λ e. cc))
same_place-Decides Gone (Live b) = ((λ e. cc), (λ e. cc))
same_place-Decides Gone Gone = ((λ e. refl), (λ e. refl))

-- a catalog of relations and places of users
abbrev catalog_of : List RelDef → List UserSlot → Catalog
catalog_of rs us = record { rels = rs; users = us }

same_catalog-Decides : (a b : Catalog) → Decides (same_catalog a b) (a ≡ b)
same_catalog-Decides a b = Decides-like (same_catalog a b)
    (λ e. ap (λ rs. catalog_of rs a.users) e.0 ∙ ap (λ us. catalog_of b.rels us) e.1)
    (λ e. (ap (λ c. c.rels) e, ap (λ c. c.users) e))
    (Decides-and (pointwise same_relation a.rels b.rels) (pointwise same_place a.users b.users)
    (pointwise_decides same_relation-Decides a.rels b.rels) (pointwise_decides same_place-Decides a.users b.users))

-- a base of a catalog and statements
abbrev contents_of : Catalog → List Stmt → Contents
contents_of c xs = record { catalog = c; stmts = xs }

pub same_contents-Decides : (a b : Contents) → Decides (same_contents a b) (a ≡ b)
same_contents-Decides a b = Decides-like (same_contents a b)
    (λ e. ap (λ c. contents_of c a.stmts) e.0 ∙ ap (λ xs. contents_of b.catalog xs) e.1)
    (λ e. (ap (λ x. x.catalog) e, ap (λ x. x.stmts) e))
    (Decides-and (same_catalog a.catalog b.catalog) (pointwise same_statement a.stmts b.stmts)
    (same_catalog-Decides a.catalog b.catalog) (pointwise_decides same_statement-Decides a.stmts b.stmts))

pub same_contents_are_one : SameContentsAreOne
same_contents_are_one a b e = (same_contents-Decides a b).0 e

pub contents_are_their_own : ContentsAreTheirOwn
contents_are_their_own a = (same_contents-Decides a a).1 refl
