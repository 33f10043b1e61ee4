-- Two plans, line by line.
use Rattle.std.specs.Prelude.{◌≡◌, ℕ, codes, List, [], ◌∷◌}
use Rattle.bdb_base.specs.declared.kinds.Catalog.{Catalog}
use Rattle.bdb_base.specs.declared.kinds.Cmp.TheVariants.{Eq}
use Rattle.bdb_base.specs.declared.kinds.Item.TheVariants.{Users, Rel}
use Rattle.bdb_base.specs.declared.kinds.Kind.TheVariants as kinds
use Rattle.bdb_base.specs.declared.kinds.Operand.TheVariants.{Col, Lit}
use Rattle.bdb_base.specs.declared.kinds.Query.{Query}
use Rattle.bdb_base.specs.declared.kinds.Sign.TheVariants.{Plus, Minus}
use Rattle.bdb_base.specs.declared.kinds.Value.TheVariants.{Text}
use Rattle.bdb_base.specs.declared.kinds.Who.TheVariants.{Of}
use Rattle.bdb_base.specs.Safety.{column}
use Rattle.bdb_plan.specs.PlanOf.{plan_of}
use Rattle.bdb_plan.specs.PlanText.{plan_text}

-- one relation, `S(k text, v text)`
abbrev pub sightings : Catalog
sightings = record {
  rels = record { name = codes "S"; cols = record { name = codes "k"; kind = kinds.Text } ∷ record { name = codes "v"; kind = kinds.Text } ∷ []; key = 1 } ∷ [];
  users = [];
}

-- who denies what is plainly stated: `select U.name from Users U, BELIEF S X, BELIEF U.uid not S Y where Y.k = X.k and Y.v = X.v`
abbrev pub deniers : Query
deniers = record {
  take = column 0 1 ∷ [];
  items = Users (codes "U") ∷ Rel (codes "X") 0 Plus [] ∷ Rel (codes "Y") 0 Minus (Of 0 ∷ []) ∷ [];
  conds = record { left = column 2 0; cmp = Eq; right = Col (column 1 0) } ∷ record { left = column 2 1; cmp = Eq; right = Col (column 1 1) } ∷ [];
}

-- who believes what of whom: `select U.name, W.name from Users U, Users W, BELIEF U.uid BELIEF W.uid S X where X.k = 's1'`
abbrev pub believers : Query
believers = record {
  take = column 0 1 ∷ column 1 1 ∷ [];
  items = Users (codes "U") ∷ Users (codes "W") ∷ Rel (codes "X") 0 Plus (Of 0 ∷ Of 1 ∷ []) ∷ [];
  conds = record { left = column 2 0; cmp = Eq; right = Lit (Text (codes "s1")) } ∷ [];
}

abbrev pub deniers_listing : List ℕ
deniers_listing = codes "user U\nstart X\npos X\nbind Y.k X.k\nbind Y.v X.v\ncond Y.k = X.k\ncond Y.v = X.v\nstart Y\nedge Y U.uid\nneg Y\ntake U.name\n"

abbrev pub believers_listing : List ℕ
believers_listing = codes "user U\nuser W\nstart X\nedge X U.uid\ndiffer X U.uid W.uid\nedge X W.uid\npos X\ncond X.k = 's1'\ntake U.name, W.name\n"

-- the texts of these queries' plans
abbrev pub ListingsOfPlans : Type 0
ListingsOfPlans = (plan_text sightings deniers (plan_of sightings.rels deniers) ≡ deniers_listing) × (plan_text sightings believers (plan_of sightings.rels believers) ≡ believers_listing)
