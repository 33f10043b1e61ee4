use Rattle.bdb_lex.proofs.TokenLemmas.{reads_behind, fails_behind}
use Rattle.std.proofs.lemmas.List.{take_rest}
use Rattle.bdb_lex.proofs.reader.token_at.Goals as goal

pub returns-in-Some-clause-ok : goal.returns-in-Some-clause-ok
returns-in-Some-clause-ok c =
    reads_behind c.args.first c.args.bytes.now _ c.in-Some.read.0 c.in-Some.read.1.now c.requires.first (take_rest c.args.bytes.now 1) c.in-Some.ensures.some

pub returns-in-None-clause-not_tokens : goal.returns-in-None-clause-not_tokens
returns-in-None-clause-not_tokens c _ =
    fails_behind c.args.first c.args.bytes.now _ c.requires.first (take_rest c.args.bytes.now 1) c.in-None.ensures.none
