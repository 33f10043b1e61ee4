-- How what a session answers is written.
use Rattle.std.specs.Prelude.{◌≡◌, ◌≤◌, ℕ, Bool, List, [], length, take, Option, Result, Ok, Err}
use Rattle.std.specs.Io.KnownBytes.{Appends}
use Rattle.bdb_session.specs.declared.reply.Reply.{Reply}
use Rattle.bdb_session.specs.declared.error.StopError.{StopError}
use Rattle.bdb_stream.specs.declared.error.RunError.{RunError}
use Rattle.bdb_stream.specs.declared.error.RunError.TheVariants.{Sink}

-- the text of a reply was written, and whether it accepts is told; a part of the text where the sink failed; of an Err nothing
abbrev pub TellsReply : Result Reply StopError → Option (List ℕ) → Option (List ℕ) → Result Bool RunError → Type 0
TellsReply (Ok reply) old new (Ok fine) = (fine ≡ reply.accepted) × Appends old new reply.text
TellsReply (Ok reply) old new (Err Sink) = (k : ℕ) × (k ≤ length reply.text) × Appends old new (take k reply.text)
TellsReply (Ok reply) old new (Err _) = ⊥
TellsReply (Err stop) old new (Ok fine) = ⊥
TellsReply (Err stop) old new (Err Sink) = ⊥
TellsReply (Err stop) old new (Err _) = Appends old new []
