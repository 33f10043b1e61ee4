use Rattle.bdb_lex.proofs.TokenLemmas.{bang_alone, bang_equals}
use Rattle.bdb_lex.proofs.symbol.after_bang.Goals as goal

pub returns-in-Some-clause-some : goal.returns-in-Some-clause-some
returns-in-Some-clause-some c = bang_equals c.args.bytes.now c.in-Some.rest.now c.in-Some.ensures.some

pub returns-in-None-clause-none : goal.returns-in-None-clause-none
returns-in-None-clause-none c = bang_alone c.args.bytes.now c.in-None.ensures.none
