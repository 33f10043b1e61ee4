-- What the belief machine has come to, and what comes of an event.
use Rattle.std.specs.Prelude.{ℕ, Bool, true, false, List, [], Option, None, Some}
use Rattle.bdb_base.specs.declared.kinds.Catalog.{Catalog}
use Rattle.bdb_base.specs.Bases.{Contents}
use Rattle.bdb_render.specs.declared.refusal.Refusal.{Refusal}
use Rattle.bdb_render.specs.Refusals.{refusal_reply}

-- what a machine has come to: the base
pub record State : Type 0 where
  pub base : Contents

-- what a machine starts with, over a base
abbrev pub start_from : Contents → State
start_from b = record { base = b }

-- What comes of an event: nothing, where it says nothing; a refusal; or it is done, with the text of the reply, the number
-- of answers, and the state that it leads to.
pub data Outcome : Type 0 where
  Blank : Outcome
  Refused : Refusal → Outcome
  Done : List ℕ → ℕ → State → Outcome

-- this comes of an event, unless there is something that refuses it
abbrev pub unless : Option Refusal → Outcome → Outcome
unless None outcome = outcome
unless (Some r) outcome = Refused r

-- the text of the reply, where the catalog is this
abbrev pub text_of : Catalog → Outcome → List ℕ
text_of c Blank = []
text_of c (Refused r) = refusal_reply c r
text_of c (Done text answers next) = text

-- nothing is refused
abbrev pub is_accepted : Outcome → Bool
is_accepted (Refused r) = false
is_accepted _ = true

-- how many answers there are
abbrev pub answer_count : Outcome → ℕ
answer_count (Done text answers next) = answers
answer_count _ = 0

-- the state after: as it was, unless something was done
abbrev pub state_after : State → Outcome → State
state_after s (Done text answers next) = next
state_after s _ = s

-- how often it is committed: once where something was done
abbrev pub commit_count : Outcome → ℕ
commit_count (Done text answers next) = 1
commit_count _ = 0
