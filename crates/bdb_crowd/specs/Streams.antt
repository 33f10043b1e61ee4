-- How far a run comes in a stream of sessions that is carried out while it is read.
use Rattle.std.specs.Prelude.{ℕ, Bool, List, Option, Result}
use Rattle.bdb_keep.specs.Seen.{Seen}
use Rattle.bdb_session.specs.Known.{Known}
use Rattle.bdb_stream.specs.Reads as reads
use Rattle.bdb_stream.specs.declared.error.RunError.{RunError}
use Rattle.bdb_crowd.specs.Asked.{Point}
use Rattle.bdb_crowd.specs.Carried.{by_crowd}

-- A run over what a source gives has come through the first of what it asks for, with an Ok through all of it.
abbrev pub Streams : Point → Option (List ℕ) → Option (List ℕ) → Known → Seen → Seen → Option (List ℕ) → Option (List ℕ)
    → Result Bool RunError → Type 0
Streams p before left session first now old new result = reads.Streams by_crowd p before left session first now old new result
