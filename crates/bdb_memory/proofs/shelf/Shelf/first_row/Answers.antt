use Rattle.std.proofs.Common.{◌≡◌, [], get_or, true, ap, ◌∙◌, subst}
use Rattle.std.specs.Prelude.{is_some}
use Rattle.bdb_memory.specs.Entries.{NoneBelow}
use Rattle.bdb_memory.specs.Blocks.{joined, before, after, entry_at, IsThere}
use Rattle.bdb_memory.specs.Shelves.{IsFirstRow, NoRowFrom}
use Rattle.bdb_memory.proofs.ShelvesLemmas.{first-there}
use Rattle.bdb_memory.proofs.shelf.Shelf.first_row.Goals as goal

pub returns-in-Some-clause-found : goal.returns-in-Some-clause-found
returns-in-Some-clause-found c =
    let q = c.args.probe.now in
    let bs = c.self.inside.blocks.items in
    let i = c.in-Some.spot.0 in
    let j = c.in-Some.spot.1 in
    let there : IsThere bs i j = subst (λ xs. IsThere xs i j) c.deref.ensures.value c.in-Some.ensures.there in
    let entry : c.entry_of.result.now ≡ entry_at (get_or bs i []) j = c.entry_of.ensures ∙ ap (λ xs. entry_at (get_or xs i []) j) c.deref-in-Some.ensures.value in
    let some : is_some (entry_at (get_or bs i []) j).1 ≡ true = subst (λ xs. is_some (entry_at (get_or xs i []) j).1 ≡ true) c.deref.ensures.value c.in-Some.ensures.row in
    let passed : NoRowFrom q (before bs i j) = subst (λ xs. NoRowFrom q (before xs i j)) c.deref.ensures.value c.in-Some.ensures.passed in
    let reached : NoneBelow q (after bs i j) = subst (λ xs. NoneBelow q (after xs i j)) c.deref.ensures.value c.in-Some.ensures.reached in
    subst (λ es. IsFirstRow es q c.entry_of.result.now) c.self.view_is (first-there bs q i j c.entry_of.result.now there entry some passed reached)

pub returns-in-None-clause-none : goal.returns-in-None-clause-none
returns-in-None-clause-none c =
    let q = c.args.probe.now in
    subst (NoRowFrom q) (ap joined c.deref.ensures.value ∙ c.self.view_is) c.in-None.ensures.none
