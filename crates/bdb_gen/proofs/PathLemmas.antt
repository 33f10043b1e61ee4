-- Paths and lines, one step at a time.
use Rattle.std.proofs.Common.{◌≡◌, ◌∙◌, ℕ, ◌+◌, ◌-◌, ◌<◌, zero, suc, List, [], ◌++◌, append_assoc, ap, arith}
use Rattle.std.specs.List.{flat_map}
use Rattle.bdb_gen.specs.Draws.{next_state, state_after, drawn, draws}
use Rattle.bdb_gen.specs.Scripts.{sevens, path_limits, next_user, followers, users_of, path, after_path, path_text, belief_text, line, after_line, lines}

-- what is appended in two steps
pub twice : (a b c t u : List ℕ) → b ≡ a ++ t → c ≡ b ++ u → c ≡ a ++ (t ++ u)
twice a b c t u first second = second ∙ ap (λ x. x ++ u) first ∙ append_assoc a t u

-- a path of no user
pub no_path_text : (x : ℕ) → drawn x 4 ≡ 0 → path_text x ≡ []
unfolding path_text path
no_path_text x none = ap (λ d. flat_map belief_text (users_of (draws (next_state x) (path_limits d)))) none

pub no_path_state : (x : ℕ) → drawn x 4 ≡ 0 → after_path x ≡ next_state x
unfolding after_path
no_path_state x none = ap (state_after (next_state x)) none

one_more : (d : ℕ) → 0 < d → d ≡ suc (d - 1)
one_more zero some = absurd (omega arith)
one_more (suc d) some = omega arith

-- a path of some: the first, and those behind it
pub path_text_of : (x : ℕ) → 0 < drawn x 4 → path_text x
    ≡ belief_text (drawn (next_state x) 8) ++ flat_map belief_text (followers (drawn (next_state x) 8) (draws (next_state (next_state x)) (sevens (drawn x 4 - 1))))
unfolding path_text path
path_text_of x some = ap (λ d. flat_map belief_text (users_of (draws (next_state x) (path_limits d)))) (one_more (drawn x 4) some)

pub path_state_of : (x : ℕ) → 0 < drawn x 4 → after_path x ≡ state_after (next_state (next_state x)) (drawn x 4 - 1)
unfolding after_path
path_state_of x some = ap (state_after (next_state x)) (one_more (drawn x 4) some)

-- users behind a user: the next, and those behind it
pub followers_more : (u x n m : ℕ) → m ≡ suc n → flat_map belief_text (followers u (draws x (sevens m)))
    ≡ belief_text (next_user u (drawn x 7)) ++ flat_map belief_text (followers (next_user u (drawn x 7)) (draws (next_state x) (sevens n)))
followers_more u x n m e = ap (λ k. flat_map belief_text (followers u (draws x (sevens k)))) e

pub state_more : (x n m : ℕ) → m ≡ suc n → state_after x m ≡ state_after (next_state x) n
state_more x n m e = ap (state_after x) e

-- lines: the first, and those behind it
pub lines_more : (x n m : ℕ) → m ≡ suc n → lines x m ≡ line x ++ lines (after_line x) n
lines_more x n m e = ap (lines x) e
