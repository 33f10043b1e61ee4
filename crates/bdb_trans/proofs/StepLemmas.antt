-- Steps as tests.
use Rattle.std.proofs.Common.{◌≡◌, ◌∙◌, ℕ, Bool, true, false, ◌&&◌, List, [], ◌∷◌, ◌++◌, Option, None, Some, refl, ap, map}
use Rattle.std.specs.List.{list_all}
use Rattle.std.specs.Option.{option_and_then}
use Rattle.bdb_base.specs.declared.kinds.Cond.{Cond}
use Rattle.bdb_base.specs.declared.tuple.Tuple.{Tuple}
use Rattle.bdb_queries.specs.Slots.{must_hold}
use Rattle.bdb_plan.specs.declared.step.Step.{Step}
use Rattle.bdb_plan.specs.declared.step.Step.TheVariants as step
use Rattle.bdb_plan.specs.Holding.{world_if, world_after, world_at_end}
use Rattle.bdb_plan.specs.Sight.{Sight}

-- steps hold where a test does, and then come to a world
abbrev pub IsTest : Sight → List (Option Tuple) → ℕ → List Step → Bool → ℕ → Type 0
IsTest sight zs n xs test m = world_at_end sight zs n xs ≡ world_if test m

append_at : (sight : Sight) (zs : List (Option Tuple)) (xs ys : List Step) (o : Option ℕ)
    → ((m : ℕ) → world_at_end sight zs m (xs ++ ys) ≡ option_and_then (λ k. world_at_end sight zs k ys) (world_at_end sight zs m xs))
    → option_and_then (λ m. world_at_end sight zs m (xs ++ ys)) o ≡ option_and_then (λ k. world_at_end sight zs k ys) (option_and_then (λ m. world_at_end sight zs m xs) o)
append_at sight zs xs ys None h = refl
append_at sight zs xs ys (Some m) h = h m

pub end_append : (sight : Sight) (zs : List (Option Tuple)) (n : ℕ) (xs ys : List Step)
    → world_at_end sight zs n (xs ++ ys) ≡ option_and_then (λ k. world_at_end sight zs k ys) (world_at_end sight zs n xs)
end_append sight zs n [] ys = refl
end_append sight zs n (x ∷ xs) ys = append_at sight zs xs ys (world_after sight zs n x) (λ m. end_append sight zs m xs ys)

then_end : (sight : Sight) (zs : List (Option Tuple)) (m k : ℕ) (ys : List Step) (t u : Bool) → IsTest sight zs m ys u k
    → option_and_then (λ n. world_at_end sight zs n ys) (world_if t m) ≡ world_if (t && u) k
then_end sight zs m k ys true u h = h
then_end sight zs m k ys false u h = refl

-- one after the other
pub both_tests : (sight : Sight) (zs : List (Option Tuple)) (n m k : ℕ) (xs ys : List Step) (t u : Bool) → IsTest sight zs n xs t m → IsTest sight zs m ys u k
    → IsTest sight zs n (xs ++ ys) (t && u) k
both_tests sight zs n m k xs ys t u h g =
    end_append sight zs n xs ys ∙ ap (option_and_then (λ j. world_at_end sight zs j ys)) h ∙ then_end sight zs m k ys t u g

-- one step, and then others
pub first_test : (sight : Sight) (zs : List (Option Tuple)) (n m k : ℕ) (x : Step) (ys : List Step) (t u : Bool) → world_after sight zs n x ≡ world_if t m → IsTest sight zs m ys u k
    → IsTest sight zs n (x ∷ ys) (t && u) k
first_test sight zs n m k x ys t u h g = ap (option_and_then (λ j. world_at_end sight zs j ys)) h ∙ then_end sight zs m k ys t u g

stays : (t : Bool) (n : ℕ) → option_and_then (λ m. Some m) (world_if t n) ≡ world_if t n
stays true n = refl
stays false n = refl

-- one step
pub one_test : (sight : Sight) (zs : List (Option Tuple)) (n m : ℕ) (x : Step) (t : Bool) → world_after sight zs n x ≡ world_if t m → IsTest sight zs n (x ∷ []) t m
one_test sight zs n m x t h = ap (option_and_then (λ j. Some j)) h ∙ stays t m

pub tests_test : (sight : Sight) (zs : List (Option Tuple)) (n : ℕ) (cs : List Cond) → IsTest sight zs n (map step.Test cs) (list_all (must_hold zs) cs) n
tests_test sight zs n [] = refl
tests_test sight zs n (c ∷ cs) = first_test sight zs n n n (step.Test c) (map step.Test cs) (must_hold zs c) (list_all (must_hold zs) cs) refl (tests_test sight zs n cs)
