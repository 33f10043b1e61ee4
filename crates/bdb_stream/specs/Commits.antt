-- What a stream asks for before and up to one of the times that it commits.
use Rattle.std.specs.Prelude.{ℕ, ◌-◌, nat_eq, nat_lt, List, [], ◌∷◌, cond}
use Rattle.bdb_stream.specs.Handling.{Handling}

-- what is asked for up to and without what commits for the time that is number k + 1; all of it, where there is no such time
abbrev pub before_commit : {H : Type 0} (m : Handling H) → ℕ → m.Point → List m.Asked → List m.Asked
before_commit m k p [] = []
before_commit m k p (a ∷ asked) =
    cond (nat_lt k (m.commits_by p a)) [] (a ∷ before_commit m (k - m.commits_by p a) (m.next_point p a) asked)

-- what is asked for up to and with what commits for the time that is number k; nothing, where k is 0
abbrev pub up_to_commit : {H : Type 0} (m : Handling H) → ℕ → m.Point → List m.Asked → List m.Asked
up_to_commit m k p [] = []
up_to_commit m k p (a ∷ asked) = cond (nat_eq k 0) [] (a ∷ up_to_commit m (k - m.commits_by p a) (m.next_point p a) asked)
