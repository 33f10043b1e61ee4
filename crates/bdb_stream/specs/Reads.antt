-- How far a run comes in a stream that it carries out while it reads.
use Rattle.std.specs.Prelude.{◌≡◌, ℕ, ◌-◌, Bool, true, false, List, ◌++◌, length, take, Option, Result, Ok, Err, IfSome, IfOk, OnOk}
use Rattle.std.specs.Io.KnownBytes.{Appends, Consumes}
use Rattle.bdb_base.specs.Limits.{longest_command, longest_script}
use Rattle.bdb_keep.specs.Seen.{Seen}
use Rattle.bdb_session.specs.Known.{Known}
use Rattle.bdb_stream.specs.Handling.{Handling, IsFrontOf, asked_of, ended_in}
use Rattle.bdb_stream.specs.Handled.{Carried, Writes}
use Rattle.bdb_stream.specs.declared.error.RunError.{RunError}
use Rattle.bdb_stream.specs.declared.error.RunError.TheVariants.{Source, Sink, Keeper, Memory, Large}

-- the status of a run
abbrev pub status_of : Result Bool RunError → ℕ
status_of (Ok true) = 0
status_of (Ok false) = 1
status_of (Err Source) = 3
status_of (Err Sink) = 4
status_of (Err Keeper) = 5
status_of (Err Memory) = 6
status_of (Err Large) = 8

-- how many bytes are read at a time at most: as many as a command may have
abbrev pub longest_read : ℕ
longest_read = longest_command

-- the bytes but for the last 65,536
abbrev pub before_last_read : List ℕ → List ℕ
before_last_read bytes = take (length bytes - longest_read) bytes

-- these are the first of those done, and the replies to them were written whole
pub record AreAnswered {H : Type 0} (m : Handling H) (p : m.Point) (asked done : List m.Asked) (old new : Option (List ℕ)) : Type 0 where
  pub first : IsFrontOf asked done
  pub replied : (more : List ℕ) × Appends old new (m.replies p asked ++ more)

-- How far a run came in its stream, by its status and the bytes that it took. Each piece that ends more than 65,536 bytes
-- before their end was carried out, and its reply written whole. With 3 those done are the pieces that end in these
-- bytes, with 8 those that end in as many bytes as a script may have; no rest is among them.
pub record KeepsUp {H : Type 0} (m : Handling H) (p : m.Point) (before left : Option (List ℕ)) (done : List m.Asked)
    (old new : Option (List ℕ)) (status : ℕ) : Type 0 where
  pub taken : List ℕ
  pub consumed : Consumes before left taken
  pub caught : AreAnswered m p (ended_in m (before_last_read taken)) done old new
  pub source : status ≡ 3 → done ≡ ended_in m taken
  pub large : status ≡ 8 → IfSome before (λ text. done ≡ ended_in m (take longest_script text))

-- the replies were written, where the run was stopped by the sink perhaps a part of the last alone
abbrev pub WritesBy : {H : Type 0} (m : Handling H) → Result Bool RunError → m.Point → List m.Asked → Option (List ℕ) → Option (List ℕ) → Type 0
WritesBy m (Ok _) p done old new = Appends old new (m.replies p done)
WritesBy m (Err stop) p done old new = Writes m stop p done old new

-- A run over what a source gives has come through the first of what it asks for, with an Ok through all of it.
pub record Streams {H : Type 0} (m : Handling H) (p : m.Point) (before left : Option (List ℕ)) (session : Known) (first now : Seen)
    (old new : Option (List ℕ)) (result : Result Bool RunError) : Type 0 where
  pub done : List m.Asked
  pub front : IfSome before (λ text. IsFrontOf done (asked_of m text))
  pub all : OnOk result (IfSome before (λ text. done ≡ asked_of m text))
  pub fine : IfOk result (λ fine. fine ≡ m.all_fine p done)
  pub carried : Carried m p done session first now
  pub written : WritesBy m result p done old new
  pub keeps_up : KeepsUp m p before left done old new (status_of result)
