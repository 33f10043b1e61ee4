-- Answering a block of a stream, piece by piece.
use Rattle.std.proofs.Common.{◌≡◌, ◌∙◌, ℕ, ◌≤◌, Bool, false, ◌&&◌, List, [], ◌∷◌, ◌++◌, map, Option, Ok, refl, ap, sym, subst, append_assoc, arith}
use Rattle.std.proofs.lemmas.List.{append-nil}
use Rattle.bdb_keep.specs.Seen.{Seen, IsStill, NeverFall}
use Rattle.bdb_lex.specs.Cut.{CutState, CutterState, EndsFirst, ready, start, pieces_from, state_after}
use Rattle.bdb_lex.specs.declared.token.Piece.{Piece}
use Rattle.bdb_stream.specs.Handled.{Comes}
use Rattle.bdb_stream.specs.Handling.{Handling, IsAt, IsAtSome, IsInOrder}
use Rattle.bdb_stream.proofs.HandledLemmas.{AnswersOf, comes_one, never_fall_on}

-- what the pieces ask for that end in these bytes
abbrev pub asked_in : {H : Type 0} (m : Handling H) → CutState → List ℕ → List m.Asked
asked_in m s bytes = map m.asked_by (pieces_from s bytes)

-- A handler has answered the first pieces of a block, and a cutter has the rest at hand: what was done is what those ask for, and the run has come
-- through it, from whichever point the handler was at.
pub record HasAnswered {H : Type 0} (m : Handling H) (from : CutState) (block : List ℕ) (before hand : H) (first now : Seen) (old new : Option (List ℕ)) (faults more : ℕ) (fine : Bool)
    (cutter : CutterState) (rest : List ℕ) : Type 0 where
  pub come : (done : List m.Asked) × (asked_in m from block ≡ done ++ asked_in m cutter.state rest)
      × ((p : m.Point) → IsAt m first.kept before p → Comes m p done hand first now old new fine)
  pub state : state_after from block ≡ state_after cutter.state rest
  pub ready : cutter.is_spent ≡ false
  pub still : IsStill now
  pub at : IsAtSome m now.kept hand
  pub keeper : NeverFall first now
  pub sink : faults ≤ more

state_done : (last s : CutState) (rest others : List ℕ) (piece : Piece) (cutter : CutterState) → last ≡ state_after s rest → EndsFirst s rest piece others
    → cutter ≡ ready start → last ≡ state_after cutter.state others
state_done last s rest others piece cutter h first is = h ∙ first.state ∙ ap (λ (c : CutterState). state_after c.state others) (sym is)

module _ {H : Type 0} (m : Handling H) (o : IsInOrder m) where
  -- of what a block asks for some is done, and those of the rest are left: the first piece of the rest is the next
  pub next_is : (all done : List m.Asked) (s : CutState) (rest others : List ℕ) (piece : Piece) → all ≡ done ++ asked_in m s rest → EndsFirst s rest piece others
      → all ≡ done ++ (m.asked_by piece ∷ asked_in m start others)
  next_is all done s rest others piece left first = left ∙ ap (λ (l : List Piece). done ++ map m.asked_by l) first.pieces

  -- and once it is done, those behind it are left
  pub next_done : (all done : List m.Asked) (s : CutState) (rest others : List ℕ) (piece : Piece) (cutter : CutterState) → all ≡ done ++ asked_in m s rest → EndsFirst s rest piece others
      → cutter ≡ ready start → all ≡ (done ++ (m.asked_by piece ∷ [])) ++ asked_in m cutter.state others
  next_done all done s rest others piece cutter left first is =
      next_is all done s rest others piece left first ∙ sym (append_assoc done (m.asked_by piece ∷ []) (asked_in m start others))
      ∙ ap (λ (c : CutterState). (done ++ (m.asked_by piece ∷ [])) ++ asked_in m c.state others) (sym is)

  -- the run has come through one piece more
  come_next : (all : List m.Asked) (before : H) (s : CutState) (rest others : List ℕ) (piece : Piece) (cutter : CutterState) (hand next : H) (first mid last : Seen) (old middle new : Option (List ℕ)) (fine more : Bool)
      → (done : List m.Asked) × (all ≡ done ++ asked_in m s rest) × ((x : m.Point) → IsAt m first.kept before x → Comes m x done hand first mid old middle fine)
      → EndsFirst s rest piece others → cutter ≡ ready start → AnswersOf m (m.asked_by piece) hand next mid last middle new (Ok more)
      → (done : List m.Asked) × (all ≡ done ++ asked_in m cutter.state others) × ((x : m.Point) → IsAt m first.kept before x → Comes m x done next first last old new (fine && more))
  come_next all before s rest others piece cutter hand next first mid last old middle new fine more h ends is answers =
      let done = h.0 ++ (m.asked_by piece ∷ []) in (
        done,
        next_done all h.0 s rest others piece cutter h.1 ends is,
        λ x a. (comes_one m o) x h.0 done (m.asked_by piece) hand next first mid last old middle new fine more refl (h.2 x a) answers,
      )

  -- one piece more is answered
  pub answers_one : {from : CutState} {block : List ℕ} {before hand next : H} {first mid last : Seen} {old middle new : Option (List ℕ)} {faults sofar later : ℕ} {fine : Bool}
      {at cutter : CutterState} {rest others : List ℕ} {piece : Piece} (more : Bool) → HasAnswered m from block before hand first mid old middle faults sofar fine at rest
      → EndsFirst at.state rest piece others → cutter ≡ ready start → AnswersOf m (m.asked_by piece) hand next mid last middle new (Ok more) → IsAtSome m last.kept next → IsStill last
      → NeverFall mid last → sofar ≤ later → HasAnswered m from block before next first last old new faults later (fine && more) cutter others
  answers_one {from} {block} {before} {hand} {next} {first} {mid} {last} {old} {middle} {new} {fine = fine} {at} {cutter} {rest} {others} {piece} more h ends is answers there still fall later =
      record {
        come = come_next (asked_in m from block) before at.state rest others piece cutter hand next first mid last old middle new fine more h.come ends is answers;
        state = state_done (state_after from block) at.state rest others piece cutter h.state ends is;
        ready = ap (λ (c : CutterState). c.is_spent) is;
        still = still;
        at = there;
        keeper = never_fall_on first mid last h.keeper fall;
        sink = omega (arith, h.sink, later);
      }

  -- where no piece of the rest is left, the run has come through all
  pub come_all : (all : List m.Asked) (before : H) (s : CutState) (rest : List ℕ) (hand : H) (first mid : Seen) (old middle : Option (List ℕ)) (fine : Bool)
      → (done : List m.Asked) × (all ≡ done ++ asked_in m s rest) × ((x : m.Point) → IsAt m first.kept before x → Comes m x done hand first mid old middle fine)
      → pieces_from s rest ≡ [] → (x : m.Point) → IsAt m first.kept before x → Comes m x all hand first mid old middle fine
  come_all all before s rest hand first mid old middle fine h none x a =
      subst (λ (asked : List m.Asked). Comes m x asked hand first mid old middle fine) (sym (h.1 ∙ ap (λ (l : List Piece). h.0 ++ map m.asked_by l) none ∙ append-nil h.0)) (h.2 x a)
