use Rattle.std.proofs.Common.{◌≤◌, subst, sym}
use Rattle.std.proofs.lemmas.List.Sorted.{length_permutation}
use Rattle.bdb_base.specs.Limits.{most_statements}
use Rattle.bdb_entries.proofs.ReadLemmas.{some_told}
use Rattle.bdb_decode.proofs.FewLemmas.{some_holds}
use Rattle.bdb_decode.proofs.rows.raw_statements.Goals as goal

pub returns-in-Ok-clause-statements : goal.returns-in-Ok-clause-statements
returns-in-Ok-clause-statements g c = record {
  made = c.in-Ok-Some.made.items;
  are = some_told _ _ c.in-Ok-Some.field-0 c.in-Ok-Some.made c.in-Ok-Some.field-0-is c.in-Ok-Some.ensures.statements;
  moved = c.in-Ok.ensures.moved;
  sorted = c.in-Ok.ensures.sorted;
}

pub returns-in-Ok-clause-few : goal.returns-in-Ok-clause-few
returns-in-Ok-clause-few g c =
    let made = c.in-Ok-Some.made in
    let few = some_holds _ c.in-Ok-Some.field-0 made c.in-Ok-Some.field-0-is c.in-Ok-Some.ensures.few in
    subst (λ n. n ≤ most_statements) (sym (length_permutation made.items _ c.in-Ok.ensures.moved)) few
