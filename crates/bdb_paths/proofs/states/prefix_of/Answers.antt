use Rattle.std.proofs.Common.{◌≡◌, ◌∙◌, ℕ, suc, true, List, [], ◌∷◌, take, refl, sym, ap, Err}
use Prim.Native.Nat.{zero}
use Rattle.std.proofs.lemmas.Bool.{false≢true, and_parts, and_from}
use Rattle.bdb_base.specs.Alternation.{alternates, begins_otherwise}
use Rattle.bdb_paths.proofs.states.prefix_of.Goals as goal

begins_so : (i n : ℕ) (w : List ℕ) → begins_otherwise i w ≡ true → begins_otherwise i (take n w) ≡ true
begins_so i zero w h = refl
begins_so i (suc n) [] h = refl
begins_so i (suc n) (j ∷ w) h = h

beginning_alternates : (n : ℕ) (w : List ℕ) → alternates w ≡ true → alternates (take n w) ≡ true
beginning_alternates zero w h = refl
beginning_alternates (suc n) [] h = refl
beginning_alternates (suc n) (i ∷ w) h =
    let k = and_parts (begins_otherwise i w) (alternates w) h in
    and_from (begins_otherwise i (take n w)) (alternates (take n w)) (begins_so i n w k.0) (beginning_alternates n w k.1)

pub unreachable-requires : goal.unreachable-requires
unreachable-requires c =
    false≢true (sym (c.in-Err-Repeat.ensures.repeat (ap Err c.in-Err-Repeat.field-0-is))
    ∙ ap (λ w. alternates (take c.args.len w)) c.as_slice.ensures.users ∙ beginning_alternates c.args.len c.args.path.now c.as_slice.ensures.alternates)
