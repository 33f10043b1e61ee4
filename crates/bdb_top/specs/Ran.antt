-- How a run of the top call ends.
use Rattle.std.specs.Prelude.{◌≡◌, ◌≢◌, ℕ, ◌-◌, ◌^◌, ◌<◌, ◌≤◌, true, false, List, Option, Some}
use Rattle.std.specs.Io.KnownBytes.{Appends}
use Rattle.bdb_base.specs.Bases.{Contents}
use Rattle.bdb_catalog.specs.Bases.{StoresValid}
use Rattle.bdb_catalog.specs.Opening.{StandFor}
use Rattle.bdb_keep.specs.Tables.{Tables}
use Rattle.bdb_keep.specs.Seen.{Seen}
use Rattle.bdb_stream.specs.Carried.{by_session}
use Rattle.bdb_stream.specs.Handled.{WritesPart}
use Rattle.bdb_stream.specs.Handling.{Handling, IsFrontOf, asked_of}
use Rattle.bdb_stream.specs.Reads.{KeepsUp}
use Rattle.bdb_top.specs.ByCount.{commits_between}
use Rattle.bdb_undo.specs.Timelines.{Timeline}

-- for each base that these tables stand for; there is only one
abbrev pub EachBase : Tables → (Contents → Type 0) → Type 0
EachBase t P = (b : Contents) → StandFor t b → P b

-- these tables stand for no base
abbrev pub StandsForNone : Tables → Type 0
StandsForNone t = (b : Contents) → StandFor t b → ⊥

-- there were so many commits between two states of a keeper, but for that of opening, unless the count stands at the end of its type
abbrev pub CommitsFor : ℕ → Seen → Seen → Type 0
CommitsFor k first now = now.commits < 2 ^ 64 - 1 → k ≡ commits_between first now

-- A run over a text has ended with a status: it began at a point, and a handler carried out what the text asks for. The first of that
-- is done, with 0 and 1 all of it. The tables store the base after it, a valid one; only where the keeper was not opened,
-- with 5 or 6, they may still be as they were, with no row or of the format before this one. There was one commit for each time
-- that what is done commits, and the one of opening. The replies are written, but where the sink failed perhaps a part of the last
-- alone. What is done keeps up with the bytes that were taken of the text. 0 tells that all of it is fine, and 1 that some isn't;
-- `base_at` tells the base of a point.
pub record RanBy {H : Type 0} (m : Handling H) (base_at : m.Point → Contents) (p : m.Point) (text : List ℕ) (left : Option (List ℕ))
    (first now : Seen) (old new : Option (List ℕ)) (status : ℕ) : Type 0 where
  pub done : List m.Asked
  pub front : IsFrontOf done (asked_of m text)
  pub stands : StandFor now.last (base_at (m.after p done))
  pub stores : status ≢ 5 → status ≢ 6 → StoresValid now.last (base_at (m.after p done))
  pub committed : now.commits ≢ first.commits → StoresValid now.last (base_at (m.after p done))
  pub commits : CommitsFor (m.committed p done) first now
  pub written : status ≢ 4 → Appends old new (m.replies p done)
  pub part : status ≡ 4 → WritesPart m p done old new
  pub all : status ≤ 1 → done ≡ asked_of m text
  pub fine : status ≡ 0 → m.all_fine p (asked_of m text) ≡ true
  pub refused : status ≡ 1 → m.all_fine p (asked_of m text) ≡ false
  pub keeps_up : KeepsUp m p (Some text) left done old new status

-- A run over a script from a timeline has ended with a status: the belief machine goes from base to base by the events of the script,
-- 0 tells that it accepts them all, and 1 that it refuses some. There was one commit for each event that counts.
abbrev pub Ran : Timeline → List ℕ → Option (List ℕ) → Seen → Seen → Option (List ℕ) → Option (List ℕ) → ℕ → Type 0
Ran s text left first now old new status = RanBy by_session (λ t. t.now) s text left first now old new status
