use Rattle.std.proofs.Common.{◌∷◌, [], refl, subst}
use Rattle.std.specs.Prelude.{Ok}
use Rattle.bdb_memory.specs.Blocks.{joined}
use Rattle.bdb_memory.specs.Shelves.{IsFirstRow, NoRowFrom}
use Rattle.bdb_memory.proofs.FirstLemmas.{rest-given, rest-end}
use Rattle.bdb_memory.proofs.ShelvesLemmas.{rest-first, rest-none}
use Rattle.bdb_memory.proofs.shelves.read_first.Goals as goal

pub returns-in_ok-found-in-Some-clause-found : goal.returns-in_ok-found-in-Some-clause-found
returns-in_ok-found-in-Some-clause-found c =
    let es = joined c.args.shelves.now in
    let q = c.args.tab ∷ c.args.low.now in
    let entry = c.in-Some.entry.now in
    let first : IsFirstRow es q entry = subst (λ p. IsFirstRow es p entry) c.requires.place c.in-Some.ensures.found in
    rest-given {E = Unit {0}} es (entry ∷ first.back) first.back c.args.tab c.args.low.now _ _ entry (Ok c.in_ok-found-in-Some.found) (rest-first es q entry c.requires.sorted.ascends first) refl first.row
    c.in_ok-found-in-Some.ensures.place c.in_ok-found-in-Some.ensures.other

pub returns-in-None-clause-found : goal.returns-in-None-clause-found
returns-in-None-clause-found c =
    let es = joined c.args.shelves.now in
    let q = c.args.tab ∷ c.args.low.now in
    rest-end es [] c.args.tab c.args.low.now (rest-none es q c.requires.sorted.ascends (subst (λ p. NoRowFrom p es) c.requires.place c.in-None.ensures.none)) refl
