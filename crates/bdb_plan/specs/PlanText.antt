-- The text of a plan.
use Rattle.std.specs.Prelude.{ℕ, ◌==◌, if◌then◌else◌, codes, List, [], ◌∷◌, ◌++◌, Option, Some, None, map}
use Rattle.std.specs.List.{flat_map, slice_get}
use Rattle.std.specs.Option.{option_map_or}
use Rattle.bdb_base.specs.declared.kinds.Catalog.{Catalog}
use Rattle.bdb_base.specs.declared.kinds.Item.{Item}
use Rattle.bdb_base.specs.declared.kinds.Item.TheVariants.{Users, Rel}
use Rattle.bdb_base.specs.declared.kinds.Operand.{Operand}
use Rattle.bdb_base.specs.declared.kinds.Operand.TheVariants.{Col, Lit}
use Rattle.bdb_base.specs.declared.kinds.Query.{Query}
use Rattle.bdb_base.specs.declared.kinds.Ref.{Ref}
use Rattle.bdb_base.specs.declared.kinds.Who.{Who}
use Rattle.bdb_base.specs.declared.kinds.Who.TheVariants.{User, Of}
use Rattle.bdb_base.specs.Queries.{columns_at}
use Rattle.bdb_base.specs.Texts.{cmp_text, dotted, joined, quoted, value_text, line, user_text}
use Rattle.bdb_plan.specs.declared.step.Step.{Step}
use Rattle.bdb_plan.specs.declared.step.Step.TheVariants as step
use Rattle.bdb_plan.specs.Fitness.{PlanFields}

-- the alias of an item; empty where there is none
abbrev pub alias_of : Option Item → List ℕ
alias_of None = []
alias_of (Some (Users alias)) = alias
alias_of (Some (Rel alias rel sign path)) = alias

abbrev pub alias_at : Query → ℕ → List ℕ
alias_at q at = alias_of (slice_get q.items at)

-- the name of a relation's column; empty where there is none
abbrev pub relation_column : Catalog → ℕ → ℕ → List ℕ
relation_column c rel col = option_map_or (λ def. def.name) (slice_get (columns_at c.rels rel) col) []

-- the name of an item's column: a `Users` item has uid and name; empty where there is none
abbrev pub column_of : Catalog → ℕ → Option Item → List ℕ
column_of c col None = []
column_of c col (Some (Users alias)) = if col == 0 then codes "uid" else codes "name"
column_of c col (Some (Rel alias rel sign path)) = relation_column c rel col

-- a column behind its item's alias
unfoldable pub ref_text : Catalog → Query → Ref → List ℕ
ref_text c q r = dotted (alias_at q r.item) (column_of c r.col (slice_get q.items r.item))

-- a user of a path: the name in quotes, or the uid of a `Users` item
unfoldable pub who_text : Catalog → Query → Who → List ℕ
who_text c q (User uid) = quoted (user_text c uid)
who_text c q (Of item) = dotted (alias_at q item) (codes "uid")

unfoldable pub operand_text : Catalog → Query → Operand → List ℕ
operand_text c q (Col r) = ref_text c q r
operand_text c q (Lit v) = value_text v

-- a step: its word, and what it is about
unfoldable pub step_text : Catalog → Query → Step → List ℕ
step_text c q (step.User item) = codes "user " ++ alias_at q item
step_text c q (step.Start item) = codes "start " ++ alias_at q item
step_text c q (step.Edge item who) = codes "edge " ++ alias_at q item ++ codes " " ++ who_text c q who
step_text c q (step.Differ item left right) = codes "differ " ++ alias_at q item ++ codes " " ++ who_text c q left ++ codes " " ++ who_text c q right
step_text c q (step.Pos item rel) = codes "pos " ++ alias_at q item
step_text c q (step.Bind item col right) = codes "bind " ++ ref_text c q (record { item = item; col = col }) ++ codes " " ++ operand_text c q right
step_text c q (step.Neg item rel) = codes "neg " ++ alias_at q item
step_text c q (step.Test cond) = codes "cond " ++ ref_text c q cond.left ++ codes " " ++ cmp_text cond.cmp ++ codes " " ++ operand_text c q cond.right

-- the columns taken
unfoldable pub take_text : Catalog → Query → List Ref → List ℕ
take_text c q take = codes "take " ++ joined (map (ref_text c q) take)

-- the lines of a plan: one for each step, and the columns taken
abbrev pub plan_lines : Catalog → Query → PlanFields → List (List ℕ)
plan_lines c q p = map (step_text c q) p.steps ++ take_text c q p.take ∷ []

-- the lines of a plan, each with a line feed
abbrev pub plan_text : Catalog → Query → PlanFields → List ℕ
plan_text c q p = flat_map line (plan_lines c q p)
