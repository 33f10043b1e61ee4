-- Numbers that are not in use.
use Rattle.std.specs.Prelude.{◌≡◌, ℕ, ◌<◌, true, length, None, is_some}
use Rattle.bdb_keep.specs.Tables.{Tables}
use Rattle.bdb_key.specs.Grammar.{IsNum}
use Rattle.bdb_tables.specs.Names.{Names, path_of}
use Rattle.bdb_tables.specs.States.{HoldsStates}
use Rattle.bdb_worlds.specs.Holding.{Worlds}

-- a number stands for no path, and each smaller one stands for one
pub record IsLeastFree (ns : Names) (n : ℕ) : Type 0 where
  pub free : path_of ns n ≡ None
  pub least : (k : ℕ) → k < n → is_some (path_of ns k) ≡ true

-- whichever states the tables hold: where they are as many as `worlds`, and each number below `low` is in use, this is
-- the least number that is not
pub record FindsFree (t : Tables) (worlds low n : ℕ) : Type 0 where
  pub fits : IsNum n
  pub least : (s : Worlds) → HoldsStates s.users s.names t → length s.names.used ≡ worlds → ((k : ℕ) → k < low → is_some (path_of s.names k) ≡ true) → IsLeastFree s.names n
