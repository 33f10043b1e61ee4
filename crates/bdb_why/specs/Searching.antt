-- What a look at rivals finds.
use Rattle.std.specs.Prelude.{List, Option, None, Some, find}
use Rattle.bdb_why.specs.declared.among.Searched.{Searched}
use Rattle.bdb_why.specs.declared.among.Searched.TheVariants.{Held, Others}
use Rattle.bdb_why.specs.declared.kinds.Ruled.{Ruled}
use Rattle.bdb_why.specs.Certificates.{is_held}

-- a rival that the world has, or else all
abbrev pub held_or : Option Ruled → List Ruled → Searched
held_or (Some r) others = Held r
held_or None others = Others others

-- the first rival that the world has, or else all
abbrev pub searched_by : List Ruled → Searched
searched_by others = held_or (find is_held others) others
