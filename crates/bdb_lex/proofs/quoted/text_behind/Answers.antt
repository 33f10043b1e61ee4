use Rattle.std.proofs.Common.{[], refl, arith}
use Rattle.std.proofs.lemmas.Result.{err_from_is_err_and}
use Rattle.bdb_lex.proofs.TokenLemmas.{err_again, text_reads, text_fails, parted_shorter}
use Rattle.bdb_lex.proofs.quoted.text_behind.Goals as goal

pub returns-in_err-token-in-Some-clause-not_tokens : goal.returns-in_err-token-in-Some-clause-not_tokens
returns-in_err-token-in-Some-clause-not_tokens c =
    let p = err_from_is_err_and c.from_residual.result c.from_residual.ensures.1 in
    rw (p.1, p.2) (λ h. text_fails [] c.in-Some.content.now c.args.bytes.now c.in-Some.content.now c.in-Some.after.now refl
    c.in-Some.ensures.parted c.in-Some.ensures.ended (c.in_err-token-in-Some.ensures.not_tokens (err_again h)))

pub returns-in_ok-token-in-Some-clause-ok : goal.returns-in_ok-token-in-Some-clause-ok
returns-in_ok-token-in-Some-clause-ok c = record {
  tokens = text_reads [] c.in-Some.content.now c.args.bytes.now c.in-Some.content.now c.in-Some.after.now c.in_ok-token-in-Some.token refl
      c.in-Some.ensures.parted c.in-Some.ensures.ended c.in_ok-token-in-Some.ensures.allowed c.in_ok-token-in-Some.ensures.ok;
  shorter = omega (arith, parted_shorter c.args.bytes.now c.in-Some.content.now c.in-Some.after.now c.in-Some.ensures.parted);
}
