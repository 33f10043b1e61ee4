-- The first reason of several.
use Rattle.std.specs.Prelude.{◌≡◌, ◌≢◌, Result, MatchResult, Bool, true, false, List, [], ◌∷◌, Option, None, Some}
use Rattle.bdb_bind.specs.declared.bound.BindError.{BindError}
use Rattle.bdb_bind.specs.declared.bound.BindError.TheVariants as error

-- a refusal that comes where a test holds
abbrev pub refused_if : Bool → BindError → Option BindError
refused_if true e = Some e
refused_if false e = None

-- the first of two refusals that applies
abbrev pub or_next : Option BindError → Option BindError → Option BindError
or_next None next = next
or_next (Some e) next = Some e

-- the first refusal that a rule gives over a list
abbrev pub first_in : {X : Type 0} → (X → Option BindError) → List X → Option BindError
first_in rule [] = None
first_in rule (x ∷ xs) = or_next (rule x) (first_in rule xs)

-- a check passes where its line does not apply, and else answers what the line says, unless there is no memory
abbrev pub Checks : {T : Type 0} → Result T BindError → Option BindError → Type 0
Checks result line = MatchResult result (λ _. line ≡ None) (λ e. e ≢ error.Memory → line ≡ Some e)
