-- The limit of a history.
use Rattle.std.specs.Prelude.{ℕ}

-- changes of a history
abbrev pub most_changes : ℕ
most_changes = 64
