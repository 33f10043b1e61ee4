-- One step of the search for what a new world takes over.
use Rattle.std.specs.Prelude.{ℕ, nat_eq, List, [], ◌∷◌, ◌++◌, Option, None, Some, cond}

-- the worlds whose edges move, once the edge of one more was read: it is one of them where its edge leads to `s`
abbrev pub sources_after : Option ℕ → ℕ → ℕ → List ℕ → List ℕ
sources_after None s child sources = sources
sources_after (Some x) s child sources = cond (nat_eq x s) (sources ++ child ∷ []) sources

-- the worlds whose suffix links move: the edge leads to one of them where it doesn't lead to `s`
abbrev pub met_after : Option ℕ → ℕ → List ℕ → List ℕ
met_after None s met = met
met_after (Some x) s met = cond (nat_eq x s) met (met ++ x ∷ [])
