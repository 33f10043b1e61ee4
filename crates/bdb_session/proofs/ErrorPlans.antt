-- The lines of a plan tell no error.
use Rattle.std.proofs.Common.{◌≡◌, ◌∙◌, ℕ, ◌+◌, ◌==◌, Bool, true, not, ◌&&◌, cond, List, [], ◌∷◌, ◌++◌, map, Option, Some, None, refl}
use Rattle.std.specs.Prelude.{codes, find}
use Rattle.std.specs.List.{list_all, slice_get}
use Rattle.std.specs.Option.{option_map, option_map_or}
use Rattle.std.proofs.lemmas.Bool.{and_from, cond_both}
use Rattle.std.proofs.lemmas.List.Folds.{list_all-append, list_all-map}
use Rattle.bdb_base.specs.declared.kinds.Catalog.{Catalog}
use Rattle.bdb_base.specs.declared.kinds.Cmp.{Cmp}
use Rattle.bdb_base.specs.declared.kinds.Cmp.TheVariants as cmp
use Rattle.bdb_base.specs.declared.kinds.ColDef.{ColDef}
use Rattle.bdb_base.specs.declared.kinds.Cond.{Cond}
use Rattle.bdb_base.specs.declared.kinds.Item.{Item}
use Rattle.bdb_base.specs.declared.kinds.Item.TheVariants.{Users, Rel}
use Rattle.bdb_base.specs.declared.kinds.Operand.{Operand}
use Rattle.bdb_base.specs.declared.kinds.Operand.TheVariants.{Col, Lit}
use Rattle.bdb_base.specs.declared.kinds.Query.{Query}
use Rattle.bdb_base.specs.declared.kinds.Ref.{Ref}
use Rattle.bdb_base.specs.declared.kinds.RelDef.{RelDef}
use Rattle.bdb_base.specs.declared.kinds.Sign.TheVariants.{Plus, Minus}
use Rattle.bdb_base.specs.declared.kinds.Who.{Who}
use Rattle.bdb_base.specs.declared.kinds.Who.TheVariants.{User, Of}
use Rattle.bdb_base.specs.Bases.{IsCatalog, is_valid_relation}
use Rattle.bdb_base.specs.Queries.{columns_at, columns_of_definition}
use Rattle.bdb_base.specs.Texts.{cmp_text, dotted, joined, user_text}
use Rattle.bdb_base.specs.Safety.{first_there}
use Rattle.bdb_base.proofs.ListLemmas.{list_all-filter, list_all_weaker}
use Rattle.bdb_lex.specs.Spans.{lacks}
use Rattle.bdb_plan.specs.declared.step.Step.{Step}
use Rattle.bdb_plan.specs.declared.step.Step.TheVariants as step
use Rattle.bdb_plan.specs.PlanOf.{all_set, bind_of, binds_from, denying, differ_from, due, item_steps, order_of, plan_of, plan_steps, setting, steps_from, walk_from, walk_of}
use Rattle.bdb_plan.specs.PlanText.{alias_at, alias_of, column_of, operand_text, plan_text, ref_text, relation_column, step_text, take_text, who_text}
use Rattle.bdb_plan.specs.Sources.{given_columns, joined as joins, pins_chain, source_of}
use Rattle.bdb_session.proofs.ErrorBases.{found_passes, if_there, name_flat, names_flat, place_passes}
use Rattle.bdb_session.proofs.ErrorTexts.{IsFlat, IsQuiet, flat_append, is_flat_value, is_quiet, joined_flat, quiet_from, quiet_lines, quoted_flat, value_flat}

-- ---- the literals of a plan's steps

abbrev pub is_flat_operand : Operand → Bool
is_flat_operand (Col r) = true
is_flat_operand (Lit v) = is_flat_value v

abbrev pub is_flat_cond : Cond → Bool
is_flat_cond c = is_flat_operand c.right

abbrev is_flat_step : Step → Bool
is_flat_step (step.User item) = true
is_flat_step (step.Start item) = true
is_flat_step (step.Edge item who) = true
is_flat_step (step.Differ item left right) = true
is_flat_step (step.Pos item rel) = true
is_flat_step (step.Bind item col right) = is_flat_operand right
is_flat_step (step.Neg item rel) = true
is_flat_step (step.Test cond) = is_flat_operand cond.right

abbrev AreFlat : List Step → Type 0
AreFlat steps = list_all is_flat_step steps ≡ true

both_flat : (a b : List Step) → AreFlat a → AreFlat b → AreFlat (a ++ b)
both_flat a b f g = list_all-append is_flat_step a b ∙ and_from (list_all is_flat_step a) (list_all is_flat_step b) f g

differ_flat : (item : ℕ) (before : Option Who) (who : Who) → AreFlat (differ_from item before who)
differ_flat item None who = refl
differ_flat item (Some (User i)) (User j) = refl
differ_flat item (Some (User i)) (Of k) = refl
differ_flat item (Some (Of k)) who = refl

walk_flat : (item : ℕ) (before : Option Who) (path : List Who) → AreFlat (walk_from item before path)
walk_flat item before [] = refl
walk_flat item before (who ∷ whos) =
    both_flat (differ_from item before who) (step.Edge item who ∷ walk_from item (Some who) whos) (differ_flat item before who) (walk_flat item (Some who) whos)

module _ (rels : List RelDef) (q : Query) (conds : list_all is_flat_cond q.conds ≡ true) where
  found_flat : (r : Ref) (o : Option Cond) → if_there is_flat_cond o ≡ true → (more : Option Ref) → if_there is_flat_operand (first_there (option_map (λ c. c.right) o) (option_map Col more)) ≡ true
  found_flat r None h None = refl
  found_flat r None h (Some s) = refl
  found_flat r (Some c) h more = h

  source_flat : (r : Ref) → if_there is_flat_operand (source_of rels q r) ≡ true
  source_flat r = found_flat r (find (pins_chain q.conds r) q.conds) (found_passes (pins_chain q.conds r) is_flat_cond q.conds conds) (find (joins q.conds r) (given_columns rels 0 q.items))

  bind_flat : (r : Ref) (o : Option Operand) → if_there is_flat_operand o ≡ true → AreFlat (bind_of r o)
  bind_flat r None h = refl
  bind_flat r (Some o) h = and_from (is_flat_operand o) true h refl

  binds_flat : (item col : ℕ) (cols : List ColDef) → AreFlat (binds_from rels q item col cols)
  binds_flat item col [] = refl
  binds_flat item col (c ∷ cols) =
      let r : Ref = record { item = item; col = col } in
      both_flat (bind_of r (source_of rels q r)) (binds_from rels q item (col + 1) cols) (bind_flat r (source_of rels q r) (source_flat r)) (binds_flat item (col + 1) cols)

  setting_flat : (at : ℕ) (o : Option Item) → AreFlat (setting rels q at o)
  setting_flat at None = refl
  setting_flat at (Some (Users alias)) = refl
  setting_flat at (Some (Rel alias rel Plus path)) = both_flat (walk_of at path) (step.Pos at rel ∷ []) (walk_flat at None path) refl
  setting_flat at (Some (Rel alias rel Minus path)) = binds_flat at 0 (columns_at rels rel)

  denying_flat : (at : ℕ) (o : Option Item) → AreFlat (denying at o)
  denying_flat at None = refl
  denying_flat at (Some (Users alias)) = refl
  denying_flat at (Some (Rel alias rel Plus path)) = refl
  denying_flat at (Some (Rel alias rel Minus path)) = both_flat (walk_of at path) (step.Neg at rel ∷ []) (walk_flat at None path) refl

  tests_flat : (set : List ℕ) (at : ℕ) → AreFlat (map step.Test (due set at q.conds))
  tests_flat set at =
      list_all-map is_flat_step step.Test (due set at q.conds)
      ∙ list_all-filter is_flat_cond (λ c. all_set (at ∷ set) c && not (all_set set c)) q.conds conds

  item_steps_flat : (set : List ℕ) (at : ℕ) (o : Option Item) → AreFlat (item_steps rels q set at o)
  item_steps_flat set at o =
      both_flat (setting rels q at o) (map step.Test (due set at q.conds) ++ denying at o) (setting_flat at o)
      (both_flat (map step.Test (due set at q.conds)) (denying at o) (tests_flat set at) (denying_flat at o))

  from_flat : (set order : List ℕ) → AreFlat (steps_from rels q set order)
  from_flat set [] = refl
  from_flat set (at ∷ order) =
      both_flat (item_steps rels q set at (slice_get q.items at)) (steps_from rels q (at ∷ set) order) (item_steps_flat set at (slice_get q.items at)) (from_flat (at ∷ set) order)

  steps_flat : AreFlat (plan_steps rels q)
  unfolding plan_steps
  steps_flat = from_flat [] (order_of q.items)

-- ---- the text of a plan's steps

cmp_flat : (c : Cmp) → IsFlat (cmp_text c)
cmp_flat cmp.Eq = refl
cmp_flat cmp.Ne = refl
cmp_flat cmp.Lt = refl
cmp_flat cmp.Le = refl
cmp_flat cmp.Gt = refl
cmp_flat cmp.Ge = refl

-- the alias of an item has no line feed
abbrev pub has_flat_alias : Item → Bool
has_flat_alias item = lacks 10 (alias_of (Some item))

alias_flat : (o : Option Item) → if_there has_flat_alias o ≡ true → IsFlat (alias_of o)
alias_flat None h = refl
alias_flat (Some item) h = h

definition_names : (rels : List RelDef) (at : ℕ) → list_all is_valid_relation rels ≡ true → if_there is_valid_relation (slice_get rels at) ≡ true
definition_names rels at h = place_passes is_valid_relation rels at h

columns_flat : (o : Option RelDef) → if_there is_valid_relation o ≡ true → list_all (λ c. lacks 10 c.name) (columns_of_definition o) ≡ true
columns_flat None h = refl
columns_flat (Some def) h = (names_flat def h).cols

column_name_flat : (o : Option ColDef) → if_there (λ c. lacks 10 c.name) o ≡ true → IsFlat (option_map_or (λ c. c.name) o [])
column_name_flat None h = refl
column_name_flat (Some c) h = h

module _ (c : Catalog) (v : IsCatalog c) (q : Query) (items : list_all has_flat_alias q.items ≡ true) (conds : list_all is_flat_cond q.conds ≡ true) where
  alias_at_flat : (at : ℕ) → IsFlat (alias_at q at)
  alias_at_flat at = alias_flat (slice_get q.items at) (place_passes has_flat_alias q.items at items)

  relation_column_flat : (rel col : ℕ) → IsFlat (relation_column c rel col)
  relation_column_flat rel col =
      let cols = columns_at c.rels rel in
      column_name_flat (slice_get cols col)
      (place_passes (λ c. lacks 10 c.name) cols col (columns_flat (slice_get c.rels rel) (definition_names c.rels rel v.rels_valid)))

  column_flat : (col : ℕ) (o : Option Item) → IsFlat (column_of c col o)
  column_flat col None = refl
  column_flat col (Some (Users alias)) = cond_both (col == 0) (codes "uid") (codes "name") (λ t. IsFlat t) (λ e. refl) (λ e. refl)
  column_flat col (Some (Rel alias rel sign path)) = relation_column_flat rel col

  dotted_flat : (a b : List ℕ) → IsFlat a → IsFlat b → IsFlat (dotted a b)
  dotted_flat a b f g = flat_append (a ++ codes ".") b (flat_append a (codes ".") f refl) g

  ref_flat : (r : Ref) → IsFlat (ref_text c q r)
  unfolding ref_text
  ref_flat r = dotted_flat (alias_at q r.item) (column_of c r.col (slice_get q.items r.item)) (alias_at_flat r.item) (column_flat r.col (slice_get q.items r.item))

  who_flat : (who : Who) → IsFlat (who_text c q who)
  unfolding who_text
  who_flat (User uid) = quoted_flat (user_text c uid) (name_flat c v uid)
  who_flat (Of item) = dotted_flat (alias_at q item) (codes "uid") (alias_at_flat item) refl

  operand_flat : (o : Operand) → is_flat_operand o ≡ true → IsFlat (operand_text c q o)
  unfolding operand_text
  operand_flat (Col r) h = ref_flat r
  operand_flat (Lit value) h = value_flat value h

  -- a word, and two texts with a blank between them
  two_flat : (word a b : List ℕ) → IsFlat word → IsFlat a → IsFlat b → IsFlat (word ++ a ++ codes " " ++ b)
  two_flat word a b w f g = flat_append (word ++ a ++ codes " ") b (flat_append (word ++ a) (codes " ") (flat_append word a w f) refl) g

  step_quiet : (s : Step) → is_flat_step s ≡ true → is_quiet (step_text c q s) ≡ true
  unfolding step_text
  step_quiet (step.User item) h = quiet_from (codes "user " ++ alias_at q item) (flat_append (codes "user ") (alias_at q item) refl (alias_at_flat item)) refl
  step_quiet (step.Start item) h = quiet_from (codes "start " ++ alias_at q item) (flat_append (codes "start ") (alias_at q item) refl (alias_at_flat item)) refl
  step_quiet (step.Edge item who) h =
      quiet_from (codes "edge " ++ alias_at q item ++ codes " " ++ who_text c q who) (two_flat (codes "edge ") (alias_at q item) (who_text c q who) refl (alias_at_flat item) (who_flat who)) refl
  step_quiet (step.Differ item left right) h =
      let front = codes "differ " ++ alias_at q item ++ codes " " ++ who_text c q left in
      quiet_from (front ++ codes " " ++ who_text c q right)
      (flat_append (front ++ codes " ") (who_text c q right)
      (flat_append front (codes " ") (two_flat (codes "differ ") (alias_at q item) (who_text c q left) refl (alias_at_flat item) (who_flat left)) refl) (who_flat right)) refl
  step_quiet (step.Pos item rel) h = quiet_from (codes "pos " ++ alias_at q item) (flat_append (codes "pos ") (alias_at q item) refl (alias_at_flat item)) refl
  step_quiet (step.Bind item col right) h =
      let r : Ref = record { item = item; col = col } in
      quiet_from (codes "bind " ++ ref_text c q r ++ codes " " ++ operand_text c q right)
      (two_flat (codes "bind ") (ref_text c q r) (operand_text c q right) refl (ref_flat r) (operand_flat right h)) refl
  step_quiet (step.Neg item rel) h = quiet_from (codes "neg " ++ alias_at q item) (flat_append (codes "neg ") (alias_at q item) refl (alias_at_flat item)) refl
  step_quiet (step.Test cond) h =
      let front = codes "cond " ++ ref_text c q cond.left ++ codes " " ++ cmp_text cond.cmp in
      quiet_from (front ++ codes " " ++ operand_text c q cond.right)
      (flat_append (front ++ codes " ") (operand_text c q cond.right)
      (flat_append front (codes " ") (two_flat (codes "cond ") (ref_text c q cond.left) (cmp_text cond.cmp) refl (ref_flat cond.left) (cmp_flat cond.cmp)) refl) (operand_flat cond.right h)) refl

  refs_flat : (rs : List Ref) → list_all (lacks 10) (map (ref_text c q) rs) ≡ true
  refs_flat [] = refl
  refs_flat (r ∷ rs) = and_from (lacks 10 (ref_text c q r)) (list_all (lacks 10) (map (ref_text c q) rs)) (ref_flat r) (refs_flat rs)

  take_quiet : (rs : List Ref) → is_quiet (take_text c q rs) ≡ true
  unfolding take_text
  take_quiet rs = quiet_from (codes "take " ++ joined (map (ref_text c q) rs)) (flat_append (codes "take ") (joined (map (ref_text c q) rs)) refl (joined_flat (map (ref_text c q) rs) (refs_flat rs))) refl

  -- the lines of the plan of a query whose aliases and literals have no line feed
  pub plan_quiet : IsQuiet (plan_text c q (plan_of c.rels q))
  plan_quiet =
      let lines = map (step_text c q) (plan_steps c.rels q) in
      let last = take_text c q q.take ∷ [] in
      quiet_lines is_quiet (λ t. t) (λ t h. h) (lines ++ last)
      (list_all-append is_quiet lines last
      ∙ and_from (list_all is_quiet lines) (list_all is_quiet last)
      (list_all-map is_quiet (step_text c q) (plan_steps c.rels q)
      ∙ list_all_weaker is_flat_step (λ s. is_quiet (step_text c q s)) step_quiet (plan_steps c.rels q) (steps_flat c.rels q conds))
      (and_from (is_quiet (take_text c q q.take)) true (take_quiet q.take) refl))
