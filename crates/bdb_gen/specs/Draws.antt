-- Numbers drawn one after the other.
use Rattle.std.specs.Prelude.{ℕ, ◌+◌, ◌*◌, ◌/◌, ◌%◌, ◌^◌, zero, suc, List, [], ◌∷◌}

-- the state behind a state
unfoldable pub next_state : ℕ → ℕ
next_state x = (x * 6364136223846793005 + 1442695040888963407) % 2 ^ 64

-- the state that many draws behind a state
abbrev pub state_after : ℕ → ℕ → ℕ
state_after x zero = x
state_after x (suc n) = state_after (next_state x) n

-- the number below a limit that is drawn from a state: the next state has its upper bits
unfoldable pub drawn : ℕ → ℕ → ℕ
drawn x limit = (next_state x / 2 ^ 33) % limit

-- the numbers that are drawn from a state on, each below its limit
abbrev pub draws : ℕ → List ℕ → List ℕ
draws x [] = []
draws x (limit ∷ limits) = drawn x limit ∷ draws (next_state x) limits
