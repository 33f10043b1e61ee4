use Rattle.bdb_lex.proofs.SpellingLemmas.{tokens_are_formed}
use Rattle.bdb_session.proofs.AllowedLemmas.{well_spelled}
use Rattle.bdb_session.proofs.reading.read_piece.Goals as goal

pub returns-in-Ok-clause-fit : goal.returns-in-Ok-clause-fit
returns-in-Ok-clause-fit c =
    let spelled = well_spelled c.in-Ok.tokens (tokens_are_formed c.args.piece.now c.in-Ok.tokens c.in-Ok.ensures.ok) in
    c.read_tokens.ensures.fit (rw c.as_slice.ensures spelled)
