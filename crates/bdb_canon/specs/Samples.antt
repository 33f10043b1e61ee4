-- The worked bases with which the tests try the structure. Alice is user 1, Bob is user 2, Carol is user 3.
use Rattle.std.specs.Prelude.{ℕ, List, [], ◌∷◌, codes}
use Rattle.bdb_base.specs.declared.kinds.Cmp.TheVariants.{Eq}
use Rattle.bdb_base.specs.declared.kinds.Cond.{Cond}
use Rattle.bdb_base.specs.declared.kinds.Item.TheVariants.{Users, Rel}
use Rattle.bdb_base.specs.declared.kinds.Operand.TheVariants.{Col}
use Rattle.bdb_base.specs.declared.kinds.Query.{Query}
use Rattle.bdb_base.specs.declared.kinds.Ref.{Ref}
use Rattle.bdb_base.specs.declared.kinds.Who.TheVariants.{Of}
use Rattle.bdb_base.specs.declared.kinds.Kind.TheVariants as kind
use Rattle.bdb_base.specs.declared.kinds.RelDef.{RelDef}
use Rattle.bdb_base.specs.declared.kinds.Sign.{Sign}
use Rattle.bdb_base.specs.declared.kinds.Sign.TheVariants.{Plus, Minus}
use Rattle.bdb_base.specs.declared.kinds.Stmt.{Stmt}
use Rattle.bdb_base.specs.declared.kinds.UserSlot.{UserSlot}
use Rattle.bdb_base.specs.declared.kinds.UserSlot.TheVariants.{Live}
use Rattle.bdb_base.specs.declared.kinds.Value.TheVariants.{Text}
use Rattle.bdb_base.specs.Bases.{Contents}
use Rattle.bdb_base.specs.Safety.{column}

-- S, with a key k and a value v
abbrev pub sightings : RelDef
sightings = record { name = codes "S"; cols = record { name = codes "k"; kind = kind.Text } ∷ record { name = codes "v"; kind = kind.Text } ∷ []; key = 1 }

-- a statement of a tuple of S
abbrev pub stated_at : List ℕ → Sign → List ℕ → List ℕ → Stmt
stated_at w s k v = record { path = w; sign = s; tuple = record { rel = 0; vals = Text k ∷ Text v ∷ [] } }

abbrev pub two_users : List UserSlot
two_users = Live (codes "Alice") ∷ Live (codes "Bob") ∷ []

abbrev pub three_users : List UserSlot
three_users = Live (codes "Alice") ∷ Live (codes "Bob") ∷ Live (codes "Carol") ∷ []

-- an eagle, which Bob denies
abbrev pub denied : Contents
denied = record {
  catalog = record { rels = sightings ∷ []; users = two_users };
  stmts = stated_at [] Plus (codes "s1") (codes "eagle") ∷ stated_at (2 ∷ []) Minus (codes "s1") (codes "eagle") ∷ [];
}

-- the same, where Alice sees a crow
abbrev pub disputed : Contents
disputed = record {
  catalog = record { rels = sightings ∷ []; users = two_users };
  stmts = stated_at [] Plus (codes "s1") (codes "eagle") ∷ stated_at (1 ∷ []) Plus (codes "s1") (codes "crow")
      ∷ stated_at (2 ∷ []) Minus (codes "s1") (codes "eagle") ∷ [];
}

-- what Alice sees, and what Carol believes that Alice sees
abbrev pub reported : Contents
reported = record {
  catalog = record { rels = sightings ∷ []; users = three_users };
  stmts = stated_at (1 ∷ []) Plus (codes "s2") (codes "crow") ∷ stated_at (3 ∷ 1 ∷ []) Plus (codes "s1") (codes "eagle") ∷ [];
}

-- two columns are equal
abbrev pub joined : Ref → Ref → Cond
joined r s = record { left = r; cmp = Eq; right = Col s }

-- the names of the users who don't believe what is seen: select U.name from Users U, S X, BELIEF U.uid not S Y where Y.k = X.k
-- and Y.v = X.v
abbrev pub deniers : Query
deniers = record {
  take = column 0 1 ∷ [];
  items = Users (codes "U") ∷ Rel (codes "X") 0 Plus [] ∷ Rel (codes "Y") 0 Minus (Of 0 ∷ []) ∷ [];
  conds = joined (column 2 0) (column 1 0) ∷ joined (column 2 1) (column 1 1) ∷ [];
}
