-- The slots of a desk, one event at a time.
use Rattle.std.proofs.Common.{◌≡◌, ◌∙◌, ℕ, suc, ◌<◌, nat_eq, Option, None, List, [], ◌∷◌, ◌++◌, length, set, get_or, refl, ap, sym, arith, inl, inr}
use Prim.Native.Nat.{zero}
use Rattle.std.proofs.lemmas.Bool.{cases_Bool, eqb-true, eqb-false}
use Rattle.std.proofs.lemmas.List.{get_or-set_same, get_or-set_other, get_or_default}
use Rattle.bdb_multi.specs.declared.kinds.Line.{Line}
use Rattle.bdb_multi.specs.declared.kinds.Event.{Event}
use Rattle.bdb_multi.specs.Sessions.{Commands, sessions, mine, open_batch, act_after, AreSessions}
use Rattle.bdb_multi.specs.Slots.{queue_of, slot, AreSlotsOf, slot_act, slot_after}
use Rattle.bdb_multi.specs.Batches.{open_by}
use Rattle.bdb_multi.proofs.SessionLemmas.{open_more, none_open, mine_more, mine_same, slot_acts, slot_goes_on}

-- nothing is kept in so many slots
abbrev pub nones : ℕ → List (Option Commands)
nones zero = []
nones (suc m) = None ∷ nones m

none_at : (m n : ℕ) → slot (nones m) n ≡ None
none_at zero n = refl
none_at (suc m) zero = refl
none_at (suc m) (suc n) = none_at m n

pub nothing_stands : AreSlotsOf (nones 16) []
nothing_stands n lt = none_at 16 n ∙ sym (ap queue_of none_open)

-- the act of an event
pub act_is : (slots : List (Option Commands)) (es : List Event) (e : Event) → e.session < sessions → AreSlotsOf slots es
    → slot_act (slot slots e.session) e.line ≡ act_after es e
act_is slots es e lt stands = ap (λ s. slot_act s e.line) (stands e.session lt) ∙ slot_acts (open_batch (mine e.session es)) e.line

-- the slots with an event more
pub stands_on : (slots : List (Option Commands)) (es : List Event) (e : Event) → e.session < sessions → length slots ≡ 16 → AreSlotsOf slots es
    → AreSlotsOf (set slots e.session (slot_after (slot slots e.session) e.line)) (es ++ e ∷ [])
stands_on slots es e lt len stands n below = elim (cases_Bool (nat_eq e.session n)) [
  | inl h ↦
      let same : e.session ≡ n = eqb-true e.session n h in
      let within : e.session < length slots = omega (arith, lt, len) in
      let after = slot_after (slot slots e.session) e.line in
      ap (λ m. slot (set slots e.session after) m) (sym same)
      ∙ (get_or-set_same slots e.session after None within
      ∙ (ap (λ s. slot_after s e.line) (stands e.session lt)
      ∙ (slot_goes_on (open_batch (mine e.session es)) e.line
      ∙ (ap (λ m. queue_of (open_by (open_batch (mine m es)) e.line)) same
      ∙ ap queue_of (sym (ap open_batch (mine_more n es e h) ∙ open_more (mine n es) e.line))))))
  | inr h ↦
      get_or-set_other slots e.session n (slot_after (slot slots e.session) e.line) None (λ k. eqb-false e.session n h (sym k))
      ∙ (stands n below ∙ ap (λ ls. queue_of (open_batch ls)) (sym (mine_same n es e h)))
]

-- what is read at a place of the slots
read_is : (slots : List (Option Commands)) (n : ℕ) (d : Option Commands) → n < sessions → length slots ≡ 16 → get_or slots n d ≡ slot slots n
read_is slots n d lt len = let within : n < length slots = omega (arith, lt, len) in get_or_default slots n d None within

-- the same of what a desk holds: the act
pub act_at : (slots now : List (Option Commands)) (es : List Event) (n : ℕ) (l : Line) (d : Option Commands) → n < sessions → length slots ≡ 16
    → slots ≡ now → AreSlotsOf now es → slot_act (get_or slots n d) l ≡ act_after es (record { session = n; line = l })
act_at slots now es n l d lt len is stands =
    ap (λ s. slot_act s l) (read_is slots n d lt len) ∙ (ap (λ s. slot_act (slot s n) l) is ∙ act_is now es (record { session = n; line = l }) lt stands)

-- and the slots
pub stands_at : (slots now : List (Option Commands)) (es : List Event) (n : ℕ) (l : Line) (d new : Option Commands) → n < sessions → length slots ≡ 16
    → slots ≡ now → AreSlotsOf now es → new ≡ slot_after (get_or slots n d) l → AreSlotsOf (set slots n new) (es ++ record { session = n; line = l } ∷ [])
stands_at slots now es n l d new lt len is stands after m below =
    ap (λ s. slot (set slots n s) m) (after ∙ ap (λ s. slot_after s l) (read_is slots n d lt len))
    ∙ (ap (λ x. slot (set x n (slot_after (slot x n) l)) m) is
    ∙ stands_on now es (record { session = n; line = l }) lt (ap length (sym is) ∙ len) stands m below)

-- a session more
pub sessions_more : (es : List Event) (e : Event) → AreSessions es → e.session < sessions → AreSessions (es ++ e ∷ [])
sessions_more [] e of_all lt = (lt, tt)
sessions_more (x ∷ es) e of_all lt = (of_all.0, sessions_more es e of_all.1 lt)
