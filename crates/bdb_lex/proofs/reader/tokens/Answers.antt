use Rattle.std.proofs.Common.{◌∙◌, Some, [], ◌∷◌, ap, sym}
use Rattle.bdb_lex.specs.Tokens.{tokens_of, joined}
use Rattle.bdb_lex.proofs.TokenLemmas.{joined_more}
use Rattle.bdb_lex.proofs.reader.tokens.Goals as goal

pub loop-rest-preserved : goal.loop-rest-preserved
loop-rest-preserved c =
    let after = tokens_of c.in_ok-token.after.now in (
      c.loop-rest.invariant.0
          ∙ (ap (joined (Some c.loop-rest.found)) c.in_ok-token.ensures.ok.tokens
          ∙ (joined_more c.loop-rest.found (c.in_ok-token.token ∷ []) after
          ∙ (ap (λ ts. joined (Some ts) after) (sym c.in_ok-push.ensures.ok)
          ∙ ap (joined (Some c.push.new.self)) (sym c.behind_gaps-rest-in-len1-up.ensures.same)))),
      c.behind_gaps-rest-in-len1-up.ensures.past,
    )
