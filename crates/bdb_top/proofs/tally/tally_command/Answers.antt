use Rattle.bdb_session.specs.declared.event.ScriptEvent.TheVariants as event
use Rattle.bdb_top.proofs.TallyLemmas.{tallied}
use Rattle.bdb_top.proofs.tally.tally_command.Goals as goal

pub returns-in-Ok-with_reply-clause-tally : goal.returns-in-Ok-with_reply-clause-tally
returns-in-Ok-with_reply-clause-tally g c = λ s a.
    let told = c.in-Ok.ensures in
    tallied c.args.tally c.in-Ok-with_reply.next s (event.Piece c.args.bytes.now) c.in-Ok.reply c.in-Ok-with_reply.ensures (told.text s a) (told.accepted s a) (told.answers s a)
