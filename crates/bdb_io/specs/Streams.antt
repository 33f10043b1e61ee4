-- What the sources and sinks in memory show, and their exact rules.
use Rattle.std.specs.Prelude.{ℕ, ◌+◌, ◌-◌, ◌^◌, min, Bool, ◌&&◌, not, nat_le, List, ◌++◌, length, take, drop}
use Rattle.bdb_base.specs.Causes.{number_of_next, is_listed}

-- bytes that are read from the front: those left, and how many were given
pub record Stream : Type 0 where
  pub left : List ℕ
  pub given : ℕ

-- a source that gives `step` bytes at most in a read, and fails the reads whose numbers are listed
pub record Feed : Type 0 where
  pub left : List ℕ
  pub given : ℕ
  pub step : ℕ
  pub fails : List ℕ
  pub calls : ℕ
  pub faults : ℕ

-- the source after a read into a buffer of this length that gave bytes
abbrev pub fed : Feed → ℕ → Feed
fed f room = let n : ℕ = min f.step (min room (length f.left)) in
    record f { left = drop n f.left; given = f.given + n; calls = number_of_next f.calls }

-- the source after a read that failed
abbrev pub unfed : Feed → Feed
unfed f = record f { calls = number_of_next f.calls; faults = min (f.faults + 1) (2 ^ 64 - 1) }

-- a sink with room for some bytes more, which fails the writes whose numbers are listed, and takes `part` bytes of such a piece
pub record Drain : Type 0 where
  pub written : List ℕ
  pub room : ℕ
  pub part : ℕ
  pub fails : List ℕ
  pub calls : ℕ
  pub faults : ℕ

-- whether the sink takes the whole piece
abbrev pub takes_all : Drain → List ℕ → Bool
takes_all d piece = not (is_listed (number_of_next d.calls) d.fails) && nat_le (length piece) d.room

-- the sink after it took n bytes of a piece's front
abbrev pub drained : Drain → ℕ → List ℕ → Drain
drained d n piece = record d { written = d.written ++ take n piece; room = d.room - n; calls = number_of_next d.calls }

-- the sink after a write that failed: it took the first `part` bytes, or as many as there are and find room
abbrev pub drained_in_part : Drain → List ℕ → Drain
drained_in_part d piece = record (drained d (min d.part (min (length piece) d.room)) piece) { faults = min (d.faults + 1) (2 ^ 64 - 1) }
