use Rattle.std.proofs.Common.{◌∙◌, ap, arith, length}
use Rattle.std.proofs.lemmas.Result.{err_from_is_err_and}
use Rattle.bdb_lex.proofs.TokenLemmas.{err_again, text_unclosed, text_reads, text_fails, text_goes_on, parted_shorter}
use Rattle.bdb_lex.proofs.quoted.doubled_text_behind.Goals as goal

pub returns-in_default-clause-not_tokens : goal.returns-in_default-clause-not_tokens
returns-in_default-clause-not_tokens c _ =
    c.loop-part.invariant.0 ∙ text_unclosed c.loop-part.content.items c.loop-part.rest.now c.in_default.ensures.none

pub returns-in_err-token-clause-not_tokens : goal.returns-in_err-token-clause-not_tokens
returns-in_err-token-clause-not_tokens c =
    let p = err_from_is_err_and c.from_residual-in_err-token.result c.from_residual-in_err-token.ensures.1 in
    rw (p.1, p.2) (λ h. c.loop-part.invariant.0 ∙ text_fails c.loop-part.content.items c.extend_from_slice.new.self.items c.loop-part.rest.now
    c.in-Some.part.now c.in-Some.after.now c.in_ok-extend_from_slice.ensures.items c.in-Some.ensures.some c.in_default-after_byte.ensures.none
    (c.in_err-token.ensures.not_tokens (err_again h)))

pub returns-in_default-after_byte-clause-ok : goal.returns-in_default-after_byte-clause-ok
returns-in_default-after_byte-clause-ok c = record {
  tokens = c.loop-part.invariant.0 ∙ text_reads c.loop-part.content.items c.extend_from_slice.new.self.items c.loop-part.rest.now
      c.in-Some.part.now c.in-Some.after.now c.in_ok-token.token c.in_ok-extend_from_slice.ensures.items c.in-Some.ensures.some
      c.in_default-after_byte.ensures.none c.in_ok-token.ensures.allowed
      c.in_ok-token.ensures.ok;
  shorter = omega (arith, parted_shorter c.loop-part.rest.now c.in-Some.part.now c.in-Some.after.now c.in-Some.ensures.some, c.loop-part.invariant.1);
}

pub loop-part-preserved : goal.loop-part-preserved
loop-part-preserved c = (
  c.loop-part.invariant.0 ∙ text_goes_on c.loop-part.content.items c.extend_from_slice.new.self.items c.extend_from_slice-in-loop-part.new.self.items
      c.loop-part.rest.now c.in-Some.part.now c.in-Some.after.now c.in-Some-after_byte.others.now c.in_ok-extend_from_slice.ensures.items
      c.in_ok-extend_from_slice-2.ensures.items c.in-Some.ensures.some c.in-Some-after_byte.ensures.some,
  omega (
    arith,
    parted_shorter c.loop-part.rest.now c.in-Some.part.now c.in-Some.after.now c.in-Some.ensures.some,
    c.loop-part.invariant.1,
    ap length c.in-Some-after_byte.ensures.some,
  ),
)
