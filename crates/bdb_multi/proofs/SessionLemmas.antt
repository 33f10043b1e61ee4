-- The open batch of a session, one line at a time.
use Rattle.std.proofs.Common.{◌≡◌, ◌∙◌, ℕ, ◌≤◌, true, false, ◌||◌, nat_eq, nat_lt, cond, Option, Some, None, List, [], ◌∷◌, ◌++◌, length, map, filter, take, refl, ap, sym, arith, inl, inr}
use Rattle.std.specs.List.{list_any}
use Rattle.std.specs.Option.{option_map}
use Rattle.std.proofs.lemmas.Bool.{cases_Bool, cases_lt, cond-true, cond-false, or_right, lt-ltb, le-ltb, eqb-true, false≢true}
use Rattle.std.proofs.lemmas.List.{map-append, take_all, take-append-le, length-take-le, length_push, append-nil}
use Rattle.std.proofs.lemmas.List.Elements.{filter-append}
use Rattle.bdb_multi.specs.declared.kinds.Line.{Line}
use Rattle.bdb_multi.specs.declared.kinds.Line.TheVariants.{Begin, Commit, Abort, Cmd}
use Rattle.bdb_multi.specs.declared.kinds.Event.{Event}
use Rattle.bdb_multi.specs.declared.kinds.Act.TheVariants.{Queued, ErrBatch}
use Rattle.bdb_multi.specs.Sessions.{Commands, most_queued, mine, closes, since_close, behind_begin, commands, open_batch, act_by, act_after, acts_from}
use Rattle.bdb_multi.specs.Slots.{queue_of, slot_act, slot_after, with_command}
use Rattle.bdb_multi.specs.Batches.{acts_alone_from, acts_of_session, open_by, OwnLinesDecide}

any_last : (ls : List Line) (l : Line) → closes l ≡ true → list_any closes (ls ++ l ∷ []) ≡ true
any_last [] Begin h = h
any_last [] Commit h = refl
any_last [] Abort h = refl
any_last [] (Cmd c) h = h
any_last (k ∷ ls) l h = or_right (closes k) (list_any closes (ls ++ l ∷ [])) (any_last ls l h)

any_before : (ls : List Line) (l : Line) → closes l ≡ false → list_any closes (ls ++ l ∷ []) ≡ list_any closes ls
any_before [] Begin h = refl
any_before [] Commit h = absurd (false≢true (sym h))
any_before [] Abort h = absurd (false≢true (sym h))
any_before [] (Cmd c) h = refl
any_before (k ∷ ls) l h = ap (λ b. closes k || b) (any_before ls l h)

-- behind a line that closes a batch there is nothing
close_ends : (ls : List Line) (l : Line) → closes l ≡ true → since_close (ls ++ l ∷ []) ≡ []
close_ends [] Begin h = absurd (false≢true h)
close_ends [] Commit h = refl
close_ends [] Abort h = refl
close_ends [] (Cmd c) h = absurd (false≢true h)
close_ends (k ∷ ls) l h =
    cond-true (list_any closes (k ∷ (ls ++ l ∷ []))) (since_close (ls ++ l ∷ [])) (k ∷ (ls ++ l ∷ [])) (any_last (k ∷ ls) l h)
    ∙ close_ends ls l h

-- any other line stands behind the same one
others_go_on : (ls : List Line) (l : Line) → closes l ≡ false → since_close (ls ++ l ∷ []) ≡ since_close ls ++ l ∷ []
others_go_on [] Begin h = refl
others_go_on [] Commit h = absurd (false≢true (sym h))
others_go_on [] Abort h = absurd (false≢true (sym h))
others_go_on [] (Cmd c) h = refl
others_go_on (k ∷ ls) l h =
    let same = any_before (k ∷ ls) l h in
    elim (cases_Bool (list_any closes (k ∷ ls))) [
      | inl e ↦ cond-true (list_any closes (k ∷ (ls ++ l ∷ []))) (since_close (ls ++ l ∷ [])) (k ∷ (ls ++ l ∷ [])) (same ∙ e)
          ∙ (others_go_on ls l h ∙ ap (λ ks. ks ++ l ∷ []) (sym (cond-true (list_any closes (k ∷ ls)) (since_close ls) (k ∷ ls) e)))
      | inr e ↦ cond-false (list_any closes (k ∷ (ls ++ l ∷ []))) (since_close (ls ++ l ∷ [])) (k ∷ (ls ++ l ∷ [])) (same ∙ e)
          ∙ ap (λ ks. ks ++ l ∷ []) (sym (cond-false (list_any closes (k ∷ ls)) (since_close ls) (k ∷ ls) e))
    ]

-- what is behind the first begin, with a line more
abbrev pub behind_more : Option (List Line) → Line → Option (List Line)
behind_more None Begin = Some []
behind_more None l = None
behind_more (Some ks) l = Some (ks ++ l ∷ [])

behind_last : (ls : List Line) (l : Line) → behind_begin (ls ++ l ∷ []) ≡ behind_more (behind_begin ls) l
behind_last [] Begin = refl
behind_last [] Commit = refl
behind_last [] Abort = refl
behind_last [] (Cmd c) = refl
behind_last (Begin ∷ ls) l = refl
behind_last (Commit ∷ ls) l = behind_last ls l
behind_last (Abort ∷ ls) l = behind_last ls l
behind_last (Cmd c ∷ ls) l = behind_last ls l

commands_more : (ls : List Line) (l : Line) → commands (ls ++ l ∷ []) ≡ commands ls ++ commands (l ∷ [])
commands_more [] l = refl
commands_more (Begin ∷ ls) l = commands_more ls l
commands_more (Commit ∷ ls) l = commands_more ls l
commands_more (Abort ∷ ls) l = commands_more ls l
commands_more (Cmd c ∷ ls) l = ap (λ cs. c ∷ cs) (commands_more ls l)

opens : (o : Option (List Line)) (l : Line) → closes l ≡ false → option_map commands (behind_more o l) ≡ open_by (option_map commands o) l
opens None Begin h = refl
opens None Commit h = refl
opens None Abort h = refl
opens None (Cmd c) h = refl
opens (Some ks) Begin h = ap Some (commands_more ks Begin ∙ append-nil (commands ks))
opens (Some ks) Commit h = absurd (false≢true (sym h))
opens (Some ks) Abort h = absurd (false≢true (sym h))
opens (Some ks) (Cmd c) h = ap Some (commands_more ks (Cmd c))

closed : (o : Option Commands) (l : Line) → closes l ≡ true → open_by o l ≡ None
closed None Begin h = absurd (false≢true h)
closed None Commit h = refl
closed None Abort h = refl
closed None (Cmd c) h = refl
closed (Some q) Begin h = absurd (false≢true h)
closed (Some q) Commit h = refl
closed (Some q) Abort h = refl
closed (Some q) (Cmd c) h = absurd (false≢true h)

-- the open batch behind a line more
pub open_more : (ls : List Line) (l : Line) → open_batch (ls ++ l ∷ []) ≡ open_by (open_batch ls) l
unfolding open_batch
open_more ls l = elim (cases_Bool (closes l)) [
  | inl e ↦ ap (λ ks. option_map commands (behind_begin ks)) (close_ends ls l e)
      ∙ sym (closed (option_map commands (behind_begin (since_close ls))) l e)
  | inr e ↦ ap (λ ks. option_map commands (behind_begin ks)) (others_go_on ls l e)
      ∙ (ap (option_map commands) (behind_last (since_close ls) l) ∙ opens (behind_begin (since_close ls)) l e)
]

pub none_open : open_batch [] ≡ None
unfolding open_batch
none_open = refl

-- the lines of a session with an event more
mine_parts : (n : ℕ) (es : List Event) (e : Event) → mine n (es ++ e ∷ []) ≡ mine n es ++ mine n (e ∷ [])
mine_parts n es e = ap (map (λ x. x.line)) (filter-append (λ x. nat_eq x.session n) es (e ∷ []))
    ∙ map-append (λ x. x.line) (filter (λ x. nat_eq x.session n) es) (filter (λ x. nat_eq x.session n) (e ∷ []))

pub mine_more : (n : ℕ) (es : List Event) (e : Event) → nat_eq e.session n ≡ true → mine n (es ++ e ∷ []) ≡ mine n es ++ e.line ∷ []
mine_more n es e h = mine_parts n es e ∙ ap (λ x. mine n es ++ map (λ x. x.line) x) (cond-true (nat_eq e.session n) (e ∷ []) [] h)

pub mine_same : (n : ℕ) (es : List Event) (e : Event) → nat_eq e.session n ≡ false → mine n (es ++ e ∷ []) ≡ mine n es
mine_same n es e h = mine_parts n es e ∙ (ap (λ x. mine n es ++ map (λ x. x.line) x) (cond-false (nat_eq e.session n) (e ∷ []) [] h)
    ∙ append-nil (mine n es))

-- of the first commands, with one more
kept : (q : Commands) (c : List ℕ) → with_command (take most_queued q) c ≡ take most_queued (q ++ c ∷ [])
kept q c = elim (cases_lt (length q) most_queued) [
  | inl lt ↦
      let all : take most_queued q ≡ q = take_all most_queued q (omega (arith, lt)) in
      let more : length (q ++ c ∷ []) ≤ most_queued = omega (arith, lt, length_push q c) in
      ap (λ x. with_command x c) all
      ∙ (cond-true (nat_lt (length q) most_queued) (q ++ c ∷ []) q (lt-ltb (length q) most_queued lt) ∙ sym (take_all most_queued (q ++ c ∷ []) more))
  | inr ge ↦
      let len : length (take most_queued q) ≡ most_queued = length-take-le most_queued q ge in
      cond-false (nat_lt (length (take most_queued q)) most_queued) (take most_queued q ++ c ∷ []) (take most_queued q)
      (le-ltb (length (take most_queued q)) most_queued (omega (arith, len)))
      ∙ sym (take-append-le most_queued q (c ∷ []) ge)
]

fits : (q : Commands) → nat_lt (length (take most_queued q)) most_queued ≡ nat_lt (length q) most_queued
fits q = elim (cases_lt (length q) most_queued) [
  | inl lt ↦ ap (λ x. nat_lt (length x) most_queued) (take_all most_queued q (omega (arith, lt)))
  | inr ge ↦
      let len : length (take most_queued q) ≡ most_queued = length-take-le most_queued q ge in
      le-ltb (length (take most_queued q)) most_queued (omega (arith, len)) ∙ sym (le-ltb (length q) most_queued ge)
]

-- what is kept decides as the open batch does
pub slot_acts : (o : Option Commands) (l : Line) → slot_act (queue_of o) l ≡ act_by o l
slot_acts None Begin = refl
slot_acts None Commit = refl
slot_acts None Abort = refl
slot_acts None (Cmd c) = refl
slot_acts (Some q) Begin = refl
slot_acts (Some q) Commit = refl
slot_acts (Some q) Abort = refl
slot_acts (Some q) (Cmd c) = ap (λ b. cond b Queued ErrBatch) (fits q)

pub slot_goes_on : (o : Option Commands) (l : Line) → slot_after (queue_of o) l ≡ queue_of (open_by o l)
slot_goes_on None Begin = refl
slot_goes_on None Commit = refl
slot_goes_on None Abort = refl
slot_goes_on None (Cmd c) = refl
slot_goes_on (Some q) Begin = refl
slot_goes_on (Some q) Commit = refl
slot_goes_on (Some q) Abort = refl
slot_goes_on (Some q) (Cmd c) = ap Some (kept q c)

-- its own lines decide
decided : (n : ℕ) (before es : List Event) → acts_of_session n es (acts_from before es) ≡ acts_alone_from (mine n before) (mine n es)
decided n before [] = refl
decided n before (e ∷ es) = elim (cases_Bool (nat_eq e.session n)) [
  | inl h ↦
      let own : mine n (e ∷ es) ≡ e.line ∷ mine n es =
      ap (map (λ x. x.line)) (cond-true (nat_eq e.session n) (e ∷ filter (λ x. nat_eq x.session n) es) (filter (λ x. nat_eq x.session n) es) h) in
      let rest = acts_of_session n es (acts_from (before ++ e ∷ []) es) in
      cond-true (nat_eq e.session n) (act_after before e ∷ rest) rest h
      ∙ (ap (λ a. a ∷ rest) (ap (λ m. act_by (open_batch (mine m before)) e.line) (eqb-true e.session n h))
      ∙ (ap (λ xs. act_by (open_batch (mine n before)) e.line ∷ xs)
      (decided n (before ++ e ∷ []) es ∙ ap (λ ls. acts_alone_from ls (mine n es)) (mine_more n before e h))
      ∙ ap (acts_alone_from (mine n before)) (sym own)))
  | inr h ↦
      let own : mine n (e ∷ es) ≡ mine n es =
      ap (map (λ x. x.line)) (cond-false (nat_eq e.session n) (e ∷ filter (λ x. nat_eq x.session n) es) (filter (λ x. nat_eq x.session n) es) h) in
      let rest = acts_of_session n es (acts_from (before ++ e ∷ []) es) in
      cond-false (nat_eq e.session n) (act_after before e ∷ rest) rest h
      ∙ (decided n (before ++ e ∷ []) es ∙ (ap (λ ls. acts_alone_from ls (mine n es)) (mine_same n before e h)
      ∙ ap (acts_alone_from (mine n before)) (sym own)))
]

pub own_lines_decide : OwnLinesDecide
own_lines_decide n events = decided n [] events
