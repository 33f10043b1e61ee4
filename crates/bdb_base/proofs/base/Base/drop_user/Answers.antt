use Rattle.std.proofs.Common.{◌≡◌, ◌∙◌, ◌-◌, true, List, ap, sym, subst, arith, length, slice_set}
use Rattle.std.proofs.lemmas.Bool.{leb-true}
use Rattle.bdb_base.specs.declared.kinds.Stmt.{Stmt}
use Rattle.bdb_base.specs.declared.kinds.UserSlot.{UserSlot}
use Rattle.bdb_base.specs.declared.kinds.UserSlot.TheVariants.{Gone}
use Rattle.bdb_base.specs.Bases.{Contents, IsValid, is_user}
use Rattle.bdb_base.specs.Changes.{statements_naming}
use Rattle.bdb_base.proofs.UserLemmas.{drop_user_is_valid, statements_are_parted}
use Rattle.bdb_base.proofs.base.Base.drop_user.Goals as goal

pub overflow_cast-result : goal.overflow_cast-result
overflow_cast-result c =
    let stmts = c.self.inside.stmts in
    let few = leb-true (length stmts) 20000 c.self.invariant.stmts.few_stmts in
    let parted = statements_are_parted stmts c.args.uid in
    let count = c.count_naming-count.ensures ∙ ap (λ xs. length (statements_naming c.args.uid xs)) c.as_slice.ensures in
    omega arith

pub invariant_of-self : goal.invariant_of-self
invariant_of-self c =
    let catalog = c.self.inside.catalog in
    let stmts = c.self.inside.stmts in
    let P : List UserSlot → Type 0 = λ us. IsValid (record { rels = catalog.rels; users = us }) c.drop_naming.new.stmts in
    let Q : List Stmt → Type 0 = λ xs. IsValid (record { rels = catalog.rels; users = slice_set catalog.users (c.args.uid - 1) Gone }) xs in
    subst P (sym c.set_slot.ensures) (subst Q (sym c.drop_naming.ensures)
    (drop_user_is_valid catalog stmts c.args.uid c.self.invariant (subst (λ (b : Contents). is_user b.catalog.users c.args.uid ≡ true) (sym c.self.view_is) c.requires)))
