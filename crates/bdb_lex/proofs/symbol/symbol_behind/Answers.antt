use Rattle.std.proofs.Common.{arith}
use Rattle.bdb_lex.proofs.TokenLemmas.{single_read, failed_read}
use Rattle.bdb_lex.proofs.symbol.symbol_behind.Goals as goal

pub returns-in-Some-clause-some : goal.returns-in-Some-clause-some
returns-in-Some-clause-some c = record {
  tokens = single_read c.args.first c.in-Some.token c.args.bytes.now c.in-Some.ensures.some.0 c.in-Some.ensures.some.1;
  shorter = omega arith;
}

pub returns-in-None-clause-none : goal.returns-in-None-clause-none
returns-in-None-clause-none c = failed_read c.args.first c.args.bytes.now c.in-None.ensures.none
