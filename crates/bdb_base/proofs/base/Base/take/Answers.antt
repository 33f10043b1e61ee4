use Rattle.std.proofs.Common.{List, sym, subst}
use Rattle.bdb_base.specs.declared.kinds.Stmt.{Stmt}
use Rattle.bdb_base.specs.Bases.{IsValid}
use Rattle.bdb_base.proofs.BaseLemmas.{take_is_valid}
use Rattle.bdb_base.proofs.base.Base.take.Goals as goal

pub invariant_of-self : goal.invariant_of-self
invariant_of-self c =
    let P : List Stmt → Type 0 = λ l. IsValid c.self.inside.catalog l in
    subst P (sym c.take.ensures.taken) (take_is_valid c.self.inside.catalog c.self.inside.stmts c.args.s.now c.self.invariant)
