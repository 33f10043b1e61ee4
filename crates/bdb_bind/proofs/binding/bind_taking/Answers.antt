use Rattle.std.proofs.Common.{◌≡◌, ◌∙◌, None, rules}
use Rattle.std.proofs.lemmas.Result.{err_from_is_err_and}
use Rattle.bdb_bind.specs.Lines.{text_line}
use Rattle.bdb_bind.specs.Parts.{query_of}
use Rattle.bdb_bind.proofs.RefusalLemmas.{texts_first, change_refusal}
use Rattle.bdb_bind.proofs.binding.bind_taking.Goals as goal

pub returns-in_err-check_texts-clause-refused : goal.returns-in_err-check_texts-clause-refused
returns-in_err-check_texts-clause-refused c = texts_first c.args.catalog.now c.args.command.now c.from_residual.result (search rules)

pub returns-in_err-bound : goal.returns-in_err-bound
returns-in_err-bound c =
    let change : query_of c.args.command.now ≡ None = search rules in
    let short : text_line c.args.command.now ≡ None = search rules in
    let p = err_from_is_err_and c.from_residual-in_err-bound.result c.from_residual-in_err-bound.ensures.1 in
    rw (p.1, p.2) record {
      accepted = tt;
      bound = tt;
      refused = λ named. change_refusal c.args.catalog.now c.args.command.now change short ∙ c.in_err-bound.ensures.checks named;
    }
