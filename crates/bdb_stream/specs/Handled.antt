-- How what a stream asks for is carried out one after the other, each reply written before the next.
use Rattle.std.specs.Prelude.{◌≡◌, ℕ, Bool, List, [], ◌∷◌, ◌++◌, take, Option, Result, Ok, Err, MatchResult}
use Rattle.std.specs.Io.KnownBytes.{Appends}
use Rattle.bdb_base.specs.Causes.{Rises}
use Rattle.bdb_keep.specs.Seen.{Seen}
use Rattle.bdb_session.specs.Known.{Known}
use Rattle.bdb_stream.specs.Handling.{Handling, IsFrontOf}
use Rattle.bdb_stream.specs.declared.error.RunError.{RunError}
use Rattle.bdb_stream.specs.declared.error.RunError.TheVariants.{Sink}

-- A session and a keeper have come from a point, and from what the keeper told first, by what was asked for: they agree on the point
-- after it, and there was one commit for each time that it commits.
pub record Carried {H : Type 0} (m : Handling H) (p : m.Point) (done : List m.Asked) (session : Known) (first now : Seen) : Type 0 where
  pub agrees : m.Agrees now.kept session (m.after p done)
  pub commits : Rises (m.committed p done) first.commits now.commits

-- the replies were written, but perhaps a part of the last
pub record WritesPart {H : Type 0} (m : Handling H) (p : m.Point) (done : List m.Asked) (old new : Option (List ℕ)) : Type 0 where
  pub front : List m.Asked
  pub last : m.Asked
  pub is : done ≡ front ++ last ∷ []
  pub part : ℕ
  pub written : Appends old new (m.replies p front ++ take part (m.reply_of (m.after p front) last))

-- One was carried out, and its reply is written.
pub record Answered {H : Type 0} (m : Handling H) (p : m.Point) (a : m.Asked) (hand : H) (first now : Seen) (old new : Option (List ℕ))
    (fine : Bool) : Type 0 where
  pub carried : Carried m p (a ∷ []) (m.session_of hand) first now
  pub stands : m.StandsFor hand (m.next_point p a)
  pub written : Appends old new (m.reply_of p a)
  pub told_fine : fine ≡ m.is_fine p a

-- How one was answered: with an Ok it was carried out and the reply is written; where the sink failed it was carried out and a part of
-- the reply is written; after another Err nothing was carried out or written.
abbrev pub TellsAnswer : {H : Type 0} (m : Handling H) → m.Point → m.Asked → H → Seen → Seen → Option (List ℕ) → Option (List ℕ)
    → Result Bool RunError → Type 0
TellsAnswer m p a hand first now old new (Ok fine) = Answered m p a hand first now old new fine
TellsAnswer m p a hand first now old new (Err Sink) = Carried m p (a ∷ []) (m.session_of hand) first now
    × ((part : ℕ) × Appends old new (take part (m.reply_of p a)))
TellsAnswer m p a hand first now old new (Err _) = Carried m p [] (m.session_of hand) first now × Appends old new []

-- The run has come through these, and all replies are written.
pub record Comes {H : Type 0} (m : Handling H) (p : m.Point) (done : List m.Asked) (hand : H) (first now : Seen) (old new : Option (List ℕ))
    (fine : Bool) : Type 0 where
  pub carried : Carried m p done (m.session_of hand) first now
  pub stands : m.StandsFor hand (m.after p done)
  pub written : Appends old new (m.replies p done)
  pub told_fine : fine ≡ m.all_fine p done

-- the replies were written, but where the sink failed perhaps a part of the last alone
abbrev pub Writes : {H : Type 0} (m : Handling H) → RunError → m.Point → List m.Asked → Option (List ℕ) → Option (List ℕ) → Type 0
Writes m Sink p done old new = WritesPart m p done old new
Writes m _ p done old new = Appends old new (m.replies p done)

-- The run has come through the first of these alone.
pub record EndsEarly {H : Type 0} (m : Handling H) (p : m.Point) (asked : List m.Asked) (session : Known) (first now : Seen)
    (old new : Option (List ℕ)) (stop : RunError) : Type 0 where
  pub done : List m.Asked
  pub front : IsFrontOf done asked
  pub carried : Carried m p done session first now
  pub written : Writes m stop p done old new

-- how a run over these ends
abbrev pub RunEnds : {H : Type 0} (m : Handling H) → m.Point → List m.Asked → H → Seen → Seen → Option (List ℕ) → Option (List ℕ)
    → Result Bool RunError → Type 0
RunEnds m p asked hand first now old new result =
    MatchResult result (Comes m p asked hand first now old new) (EndsEarly m p asked (m.session_of hand) first now old new)
