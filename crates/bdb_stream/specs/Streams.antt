-- How far a run comes in a script that a session carries out while it is read.
use Rattle.std.specs.Prelude.{ℕ, Bool, List, Option, Result}
use Rattle.bdb_keep.specs.Seen.{Seen}
use Rattle.bdb_session.specs.Known.{Known}
use Rattle.bdb_stream.specs.Carried.{by_session}
use Rattle.bdb_stream.specs.Reads as reads
use Rattle.bdb_stream.specs.declared.error.RunError.{RunError}
use Rattle.bdb_undo.specs.Timelines.{Timeline}

-- A run over what a source gives has come through the first of its events, with an Ok through all of them.
abbrev pub Streams : Timeline → Option (List ℕ) → Option (List ℕ) → Known → Seen → Seen → Option (List ℕ) → Option (List ℕ)
    → Result Bool RunError → Type 0
Streams s before left session first now old new result = reads.Streams by_session s before left session first now old new result
