-- How what a stream of sessions asks for is carried out one after the other.
use Rattle.std.specs.Prelude.{ℕ, Bool, List, Option, Result, refl}
use Rattle.bdb_keep.specs.Seen.{Seen}
use Rattle.bdb_keep.specs.Tables.{Tables}
use Rattle.bdb_multi.specs.Sessions.{Commands}
use Rattle.bdb_multi.specs.Slots.{AreSlotsOf}
use Rattle.bdb_session.specs.Known.{Known, Agrees}
use Rattle.bdb_stream.specs.Handled as handled
use Rattle.bdb_stream.specs.Handling as handling
use Rattle.bdb_stream.specs.Handling.{Handling, IsInOrder}
use Rattle.bdb_stream.specs.declared.error.RunError.{RunError}
use Rattle.bdb_crowd.specs.Asked.{Asked, Point, after, all_fine, asked_by, commits_by, committed, is_fine, next_point, replies, reply_of, rest_asks}

-- what is at hand for a stream: what the session knows of the base, and for each number of a session the commands that wait
pub record AtHand : Type 0 where
  pub session : Known
  pub slots : List (Option Commands)

-- How a crowd handles a stream: it goes from point to point by what the stream asks for, and commits once for each batch that is run
-- whole. Its session agrees with the tables on the state where it is, and what waits is what the events leave open.
abbrev pub by_crowd : Handling AtHand
by_crowd = record {
  Point = Point;
  Asked = Asked;
  asked_by = asked_by;
  rest_asks = rest_asks;
  reply_of = reply_of;
  is_fine = is_fine;
  commits_by = commits_by;
  next_point = next_point;
  replies = replies;
  all_fine = all_fine;
  committed = committed;
  after = after;
  session_of = λ hand. hand.session;
  Agrees = λ t k p. Agrees t k p.state;
  StandsFor = λ hand p. AreSlotsOf hand.slots p.before;
}

-- it handles several things one after the other
abbrev pub crowd_in_order : IsInOrder by_crowd
crowd_in_order = record {
  no_reply = λ _. refl;
  replies = λ _ _ _. refl;
  none_fine = λ _. refl;
  fine = λ _ _ _. refl;
  no_commit = λ _. refl;
  commits = λ _ _ _. refl;
  stays = λ _. refl;
  leads = λ _ _ _. refl;
}

-- What is at hand, and tables, have come as far as this point: the session agrees with the tables on the state, and what waits is what the
-- events leave open.
abbrev pub IsAt : Tables → AtHand → Point → Type 0
IsAt t hand p = handling.IsAt by_crowd t hand p

-- there is such a point, and the changes that the session knows stand for some bases
abbrev pub IsAtSome : Tables → AtHand → Type 0
IsAtSome t hand = handling.IsAtSome by_crowd t hand

-- A session and a keeper have come from a point, and from what the keeper told first, by what was asked for: they agree on the
-- state after it, and there was one commit for each batch that was run whole.
abbrev pub Carried : Point → List Asked → Known → Seen → Seen → Type 0
Carried p done session first now = handled.Carried by_crowd p done session first now

-- How one was answered: with an Ok it was carried out and the reply is written; where the sink failed it was carried out and a part of
-- the reply is written; after another Err nothing was carried out or written.
abbrev pub TellsAnswer : Point → Asked → AtHand → Seen → Seen → Option (List ℕ) → Option (List ℕ) → Result Bool RunError → Type 0
TellsAnswer p a hand first now old new result = handled.TellsAnswer by_crowd p a hand first now old new result
