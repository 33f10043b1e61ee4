use Rattle.std.proofs.Common.{◌≤◌, ℕ, List, Result, Ok, Err, length, take, refl, subst, sym}
use Rattle.std.proofs.KnownBytes.{Appends-nil}
use Rattle.std.specs.Io.KnownBytes.{Appends}
use Rattle.bdb_session.specs.declared.reply.Reply.{Reply}
use Rattle.bdb_session.specs.declared.error.StopError.{StopError}
use Rattle.bdb_stream.specs.Told.{TellsReply}
use Rattle.bdb_stream.specs.declared.error.RunError.TheVariants.{Sink, Keeper, Memory}
use Rattle.bdb_stream.proofs.answers.tell.Goals as goal

pub returns-in-Ok-write_reply-clause-told : goal.returns-in-Ok-write_reply-clause-told
returns-in-Ok-write_reply-clause-told g c =
    let old = g.O.Sink.written c.args.out.now in
    let new = g.O.Sink.written c.write_reply.new.out in
    subst (λ (x : Result Reply StopError). TellsReply x old new (Ok c.in-Ok.reply.accepted)) (sym c.in-Ok.is)
    (refl, subst (λ (t : List ℕ). Appends old new t) c.as_slice.ensures c.in-Ok-write_reply.ensures.written)

pub returns-clause-told : goal.returns-clause-told
returns-clause-told g c =
    let old = g.O.Sink.written c.args.out.now in
    let new = g.O.Sink.written c.write_reply.new.out in
    subst (λ (x : Result Reply StopError). TellsReply x old new (Err Sink)) (sym c.in-Ok.is)
    (subst (λ (t : List ℕ). (k : ℕ) × (k ≤ length t) × Appends old new (take k t)) c.as_slice.ensures c.in-Err.ensures.written)

pub returns-in-Err-Fault-clause-told : goal.returns-in-Err-Fault-clause-told
returns-in-Err-Fault-clause-told g c =
    let old = g.O.Sink.written c.args.out.now in
    subst (λ (x : Result Reply StopError). TellsReply x old old (Err Keeper)) (sym c.in-Err-Fault.is) (Appends-nil old)

pub returns-in-Err-Memory-clause-told : goal.returns-in-Err-Memory-clause-told
returns-in-Err-Memory-clause-told g c =
    let old = g.O.Sink.written c.args.out.now in
    subst (λ (x : Result Reply StopError). TellsReply x old old (Err Memory)) (sym c.in-Err-Memory.is) (Appends-nil old)
