-- Slots that hold come by the three stages.
use Rattle.std.proofs.Common.{◌≡◌, ◌∙◌, ℕ, suc, ◌+◌, true, false, ◌&&◌, nat_lt, nat_le, List, [], ◌∷◌, Option, None, Some, refl, ap, sym, subst, length, arith}
use Prim.Native.Nat.{zero}
use Rattle.std.specs.List.{list_all, slice_get}
use Rattle.std.specs.Option.{option_map, option_and_then, is_some}
use Rattle.std.proofs.lemmas.Bool.{false≢true, cond-true, cond-false, and_parts, and_from, lt-ltb}
use Rattle.bdb_base.specs.declared.kinds.ColDef.{ColDef}
use Rattle.bdb_base.specs.declared.kinds.Cond.{Cond}
use Rattle.bdb_base.specs.declared.kinds.Item.{Item}
use Rattle.bdb_base.specs.declared.kinds.Item.TheVariants.{Users, Rel}
use Rattle.bdb_base.specs.declared.kinds.Operand.{Operand}
use Rattle.bdb_base.specs.declared.kinds.Operand.TheVariants.{Col, Lit}
use Rattle.bdb_base.specs.declared.kinds.Query.{Query}
use Rattle.bdb_base.specs.declared.kinds.Ref.{Ref}
use Rattle.bdb_base.specs.declared.kinds.RelDef.{RelDef}
use Rattle.bdb_base.specs.declared.kinds.Sign.TheVariants.{Plus, Minus}
use Rattle.bdb_base.specs.declared.kinds.UserSlot.{UserSlot}
use Rattle.bdb_base.specs.declared.kinds.Value.{Value}
use Rattle.bdb_base.specs.declared.kinds.Who.{Who}
use Rattle.bdb_base.specs.declared.kinds.Who.TheVariants.{User, Of}
use Rattle.bdb_base.specs.declared.tuple.Tuple.{Tuple}
use Rattle.bdb_base.specs.Bases.{Contents, is_valid_relation, fits_kind, fits_columns, fits_definition, fits_relation}
use Rattle.bdb_base.specs.Queries.{columns_at, path_believes}
use Rattle.bdb_base.specs.Safety.{is_given, is_minus, is_users_item, who_fits, fixed_differ, item_fits, item_kinds, column_kind, is_equality, IsSafe}
use Rattle.bdb_base.specs.Same.{tuple_of}
use Rattle.bdb_base.proofs.OptionLemmas.{some_of}
use Rattle.bdb_base.proofs.BaseLemmas.{fits_its_columns}
use Rattle.bdb_queries.proofs.FoundLemmas.{Found, found_first}
use Rattle.bdb_queries.proofs.RangeLemmas.{column_there}
use Rattle.bdb_model.specs.Answering.{open_slots}
use Rattle.bdb_model.specs.Pools.{world_at, sourced_value, sourced_values, denies, is_denied, denied_tuples}
use Rattle.bdb_queries.specs.Slots.{slot_at, known, known_operand, must_hold, must_all_hold, uid_of, path_of, user_tuple}
use Rattle.bdb_model.specs.Sources.{source_of, source_in, is_simple, is_source, AreSources}
use Rattle.bdb_model.proofs.ChainLemmas.{Comes}
use Rattle.bdb_queries.proofs.HoldingLemmas.{SlotsHold}
use Rattle.bdb_queries.proofs.UserLemmas.{found_user_tuple}
use Rattle.bdb_model.proofs.PoolLemmas.{keys_of, believed_is_plus, believed_at}
use Rattle.bdb_model.proofs.SlotLemmas.{Below}
use Rattle.bdb_model.proofs.SourceLemmas.{found_source, source_value}

-- ---- what is chosen at a stage

-- what is chosen for `Users` items alone
abbrev pub users_part : List Item → List (Option Tuple) → List (Option Tuple)
users_part (Users alias ∷ items) (x ∷ xs) = x ∷ users_part items xs
users_part (Rel alias rel sign path ∷ items) (x ∷ xs) = None ∷ users_part items xs
users_part _ _ = []

-- what is chosen for `Users` items and plus items alone
abbrev pub given_part : List Item → List (Option Tuple) → List (Option Tuple)
given_part (Users alias ∷ items) (x ∷ xs) = x ∷ given_part items xs
given_part (Rel alias rel Plus path ∷ items) (x ∷ xs) = x ∷ given_part items xs
given_part (Rel alias rel Minus path ∷ items) (x ∷ xs) = None ∷ given_part items xs
given_part _ _ = []

user_in_part : (items : List Item) (xs : List (Option Tuple)) (at : ℕ) → is_users_item (slice_get items at) ≡ true → slot_at (users_part items xs) at ≡ slot_at xs at
user_in_part [] xs at h = absurd (false≢true h)
user_in_part (Users alias ∷ items) [] at h = refl
user_in_part (Rel alias rel sign path ∷ items) [] at h = refl
user_in_part (Users alias ∷ items) (x ∷ xs) zero h = refl
user_in_part (Rel alias rel sign path ∷ items) (x ∷ xs) zero h = absurd (false≢true h)
user_in_part (Users alias ∷ items) (x ∷ xs) (suc at) h = user_in_part items xs at h
user_in_part (Rel alias rel sign path ∷ items) (x ∷ xs) (suc at) h = user_in_part items xs at h

given_in_part : (items : List Item) (xs : List (Option Tuple)) (at : ℕ) → is_given (slice_get items at) ≡ true → slot_at (given_part items xs) at ≡ slot_at xs at
given_in_part [] xs at h = absurd (false≢true h)
given_in_part (Users alias ∷ items) [] at h = refl
given_in_part (Rel alias rel Plus path ∷ items) [] at h = refl
given_in_part (Rel alias rel Minus path ∷ items) [] at h = refl
given_in_part (Users alias ∷ items) (x ∷ xs) zero h = refl
given_in_part (Rel alias rel Plus path ∷ items) (x ∷ xs) zero h = refl
given_in_part (Rel alias rel Minus path ∷ items) (x ∷ xs) zero h = absurd (false≢true h)
given_in_part (Users alias ∷ items) (x ∷ xs) (suc at) h = given_in_part items xs at h
given_in_part (Rel alias rel Plus path ∷ items) (x ∷ xs) (suc at) h = given_in_part items xs at h
given_in_part (Rel alias rel Minus path ∷ items) (x ∷ xs) (suc at) h = given_in_part items xs at h

-- a path needs the users alone
uid_of_part : (users : List UserSlot) (items : List Item) (xs : List (Option Tuple)) (who : Who) → who_fits users items who ≡ true → uid_of (users_part items xs) who ≡ uid_of xs who
uid_of_part users items xs (User i) f = refl
uid_of_part users items xs (Of item) f = ap (option_map (λ t. t.rel)) (user_in_part items xs item f)

path_of_part : (users : List UserSlot) (items : List Item) (xs : List (Option Tuple)) (path : List Who) → list_all (who_fits users items) path ≡ true → path_of (users_part items xs) path ≡ path_of xs path
path_of_part users items xs [] f = refl
path_of_part users items xs (who ∷ whos) f =
    let parts = and_parts (who_fits users items who) (list_all (who_fits users items) whos) f in
    ap (λ o. option_and_then (λ uid. option_map (λ w. uid ∷ w) o) (uid_of (users_part items xs) who)) (path_of_part users items xs whos parts.1)
    ∙ ap (option_and_then (λ uid. option_map (λ w. uid ∷ w) (path_of xs whos))) (uid_of_part users items xs who parts.0)

-- where an item fits, its path needs the users alone
item_path : (b : Contents) (all : List Item) (xs : List (Option Tuple)) (alias : List ℕ) (rel : ℕ) (path : List Who)
    → is_some (slice_get b.catalog.rels rel) && (list_all (who_fits b.catalog.users all) path && fixed_differ path) ≡ true → path_of (users_part all xs) path ≡ path_of xs path
item_path b all xs alias rel path f =
    let k = and_parts (is_some (slice_get b.catalog.rels rel)) (list_all (who_fits b.catalog.users all) path && fixed_differ path) f in
    path_of_part b.catalog.users all xs path (and_parts (list_all (who_fits b.catalog.users all) path) (fixed_differ path) k.1).0

-- ---- the values of minus items

-- a source has its value in what is given
simple_value : (items : List Item) (xs : List (Option Tuple)) (o : Operand) → is_simple items o ≡ true → known_operand (given_part items xs) o ≡ known_operand xs o
simple_value items xs (Col r) h = ap (option_and_then (λ t. slice_get t.vals r.col)) (given_in_part items xs r.item h)
simple_value items xs (Lit v) h = refl

not_given : (o : Option Item) → is_minus o ≡ true → is_given o ≡ false
not_given None h = refl
not_given (Some (Users alias)) h = absurd (false≢true h)
not_given (Some (Rel alias rel Plus path)) h = absurd (false≢true h)
not_given (Some (Rel alias rel Minus path)) h = refl

-- the value of a minus item's column is that of its source
pub minus_value : (rels : List RelDef) (q : Query) (sources : List Cond) (xs : List (Option Tuple)) → IsSafe rels q → AreSources q sources → must_all_hold xs q.conds ≡ true
    → (r : Ref) (v : Value) → is_minus (slice_get q.items r.item) ≡ true → is_some (column_kind rels q.items r) ≡ true → known xs r ≡ Some v
    → sourced_value sources (given_part q.items xs) r ≡ Some v
minus_value rels q sources xs safe are h r v m there e =
    let bound = are.whole r (safe r (record { minus = m; there = there })) in
    let own : source_in q.items sources r ≡ source_of sources r = cond-false (is_given (slice_get q.items r.item)) (Some (Col r)) (source_of sources r) (not_given (slice_get q.items r.item) m) in
    let src = some_of (source_of sources r) (ap is_some (sym own) ∙ bound) in
    let found = found_source r sources src.0 src.1 in
    let c = found.0 in
    let source : is_source q.items c ≡ true = found.3 (is_source q.items) are.simple in
    let both = source_value q.items xs c source (found.3 (must_hold xs) (are.follow xs h)) in
    let one : Some both.0 ≡ Some v = sym both.1 ∙ ap (known xs) found.1 ∙ e in
    ap (option_and_then (known_operand (given_part q.items xs))) src.1
    ∙ ap (known_operand (given_part q.items xs)) (sym found.2)
    ∙ simple_value q.items xs c.right (simple_right q.items c source)
    ∙ both.2 ∙ one
  where
    simple_right : (items : List Item) (c : Cond) → is_source items c ≡ true → is_simple items c.right ≡ true
    simple_right items c s = (and_parts (is_equality c.cmp) (is_simple items c.right) s).1

-- values that are each that of a column's source
values_from : (sources : List Cond) (slots : List (Option Tuple)) (at col : ℕ) (cols : List ColDef) (vals : List Value) → fits_columns cols vals ≡ true
    → ((k : ℕ) (v : Value) → slice_get vals k ≡ Some v → sourced_value sources slots (record { item = at; col = col + k }) ≡ Some v)
    → sourced_values sources slots at col cols ≡ Some vals
values_from sources slots at col [] [] f h = refl
values_from sources slots at col [] (v ∷ vs) f h = absurd (false≢true f)
values_from sources slots at col (c ∷ cs) [] f h = absurd (false≢true f)
values_from sources slots at col (c ∷ cs) (v ∷ vs) f h =
    let first : col + zero ≡ col = omega arith in
    let k = and_parts (fits_kind c.kind v) (fits_columns cs vs) f in
    let here : sourced_value sources slots (record { item = at; col = col }) ≡ Some v = subst (λ i. sourced_value sources slots (record { item = at; col = i }) ≡ Some v) first (h zero v refl) in
    let rest : sourced_values sources slots at (col + 1) cs ≡ Some vs =
    values_from sources slots at (col + 1) cs vs k.1 (λ n w e. subst (λ i. sourced_value sources slots (record { item = at; col = i }) ≡ Some w) (moved col n) (h (suc n) w e)) in
    ap (option_and_then (λ u. option_map (λ us. u ∷ us) (sourced_values sources slots at (col + 1) cs))) here ∙ ap (option_map (λ us. v ∷ us)) rest
  where
    moved : (col n : ℕ) → col + suc n ≡ (col + 1) + n
    moved col n = omega arith

-- a tuple that fits a relation of a catalog has a value
has_value : (rels : List RelDef) (rel : ℕ) (vals : List Value) → list_all is_valid_relation rels ≡ true → fits_definition (slice_get rels rel) vals ≡ true → nat_lt 0 (length vals) ≡ true
has_value [] rel vals v h = absurd (false≢true h)
has_value (def ∷ rels) zero vals v h = some_value def.cols vals (first_column def (and_parts (is_valid_relation def) (list_all is_valid_relation rels) v).0) h
  where
    first_column : (def : RelDef) → is_valid_relation def ≡ true → nat_lt 0 (length def.cols) ≡ true
    first_column def h =
        (and_parts (nat_lt 0 (length def.cols)) (nat_le (length def.cols) 16) (and_parts (nat_lt 0 (length def.cols) && nat_le (length def.cols) 16) _ h).0).0

    some_value : (cols : List ColDef) (vals : List Value) → nat_lt 0 (length cols) ≡ true → fits_columns cols vals ≡ true → nat_lt 0 (length vals) ≡ true
    some_value [] vals n h = absurd (false≢true n)
    some_value (c ∷ cs) [] n h = absurd (false≢true h)
    some_value (c ∷ cs) (w ∷ ws) n h = lt-ltb 0 (length (w ∷ ws)) (omega arith)
has_value (def ∷ rels) (suc rel) vals v h = has_value rels rel vals (and_parts (is_valid_relation def) (list_all is_valid_relation rels) v).1 h

-- ---- the three stages

-- the parts of slots that hold are below each other
pub record AreBelow (items : List Item) (xs : List (Option Tuple)) : Type 0 where
  pub opened : Below (open_slots items) (users_part items xs)
  pub users : Below (users_part items xs) (given_part items xs)
  pub given : Below (given_part items xs) xs

keep_below : (x : Option Tuple) (xs ys : List (Option Tuple)) → Below xs ys → Below (x ∷ xs) (x ∷ ys)
keep_below None xs ys h = h
keep_below (Some t) xs ys h = (refl, h)

pub parts_below : (b : Contents) (all : List (Option Tuple)) (items : List Item) (xs : List (Option Tuple)) → SlotsHold b all items xs → AreBelow items xs
parts_below b all [] [] h = record { opened = tt; users = tt; given = tt }
parts_below b all [] (x ∷ xs) h = absurd h
parts_below b all (item ∷ items) [] h = absurd h
parts_below b all (Users alias ∷ items) (x ∷ xs) h =
    let rest = parts_below b all items xs h.1 in
    record { opened = rest.opened; users = keep_below x (users_part items xs) (given_part items xs) rest.users; given = keep_below x (given_part items xs) xs rest.given }
parts_below b all (Rel alias rel Plus path ∷ items) (x ∷ xs) h =
    let rest = parts_below b all items xs h.1 in
    record { opened = rest.opened; users = rest.users; given = keep_below x (given_part items xs) xs rest.given }
parts_below b all (Rel alias rel Minus path ∷ items) (x ∷ xs) h =
    let rest = parts_below b all items xs h.1 in
    record { opened = rest.opened; users = rest.users; given = rest.given }

-- the facts on a base and a query that the stages need
pub record AreSearched (b : Contents) (q : Query) (sources : List Cond) (all : List (Option Tuple)) : Type 0 where
  pub relations : list_all is_valid_relation b.catalog.rels ≡ true
  pub safe : IsSafe b.catalog.rels q
  pub are : AreSources q sources
  pub conds : must_all_hold all q.conds ≡ true

-- a minus item's tuple is the one of its pool
minus_found : (b : Contents) (q : Query) (sources : List Cond) (all : List (Option Tuple)) → AreSearched b q sources all → (at : ℕ) (alias : List ℕ) (rel : ℕ) (path : List Who) (p : Option (List ℕ)) (t : Tuple)
    → slice_get q.items at ≡ Some (Rel alias rel Minus path) → slot_at all at ≡ Some t → t.rel ≡ rel → fits_relation b.catalog.rels t ≡ true → path_believes b t Minus p ≡ true
    → Found t (denied_tuples b.catalog.rels (world_at (keys_of b) b.stmts p) rel (sourced_values sources (given_part q.items all) at 0 (columns_at b.catalog.rels rel)))
minus_found b q sources all s at alias rel path p t item slot r fits e =
    let rels = b.catalog.rels in
    let cols = columns_at rels rel in
    let def : fits_definition (slice_get rels rel) t.vals ≡ true = ap (λ n. fits_definition (slice_get rels n) t.vals) (sym r) ∙ fits in
    let columns : fits_columns cols t.vals ≡ true = fits_its_columns (slice_get rels rel) t.vals def in
    let vals : sourced_values sources (given_part q.items all) at 0 cols ≡ Some t.vals = values_from sources (given_part q.items all) at 0 cols t.vals columns
    (λ k v g. value k v g columns) in
    let world = world_at (keys_of b) b.stmts p in
    let tuple : tuple_of rel t.vals ≡ t = ap (λ n. tuple_of n t.vals) (sym r) in
    let test : is_denied rels world rel t.vals ≡ true = and_from (nat_lt 0 (length t.vals)) (fits_definition (slice_get rels rel) t.vals && denies (keys_of b) world (tuple_of rel t.vals))
    (has_value rels rel t.vals s.relations def)
    (and_from (fits_definition (slice_get rels rel) t.vals) (denies (keys_of b) world (tuple_of rel t.vals)) def (ap (denies (keys_of b) world) tuple ∙ believed_at b p t e)) in
    let pool : denied_tuples rels world rel (sourced_values sources (given_part q.items all) at 0 cols) ≡ t ∷ [] =
    ap (denied_tuples rels world rel) vals ∙ cond-true (is_denied rels world rel t.vals) (tuple_of rel t.vals ∷ []) [] test ∙ ap (λ u. u ∷ []) tuple in
    subst (Found t) (sym pool) (found_first t [])
  where
    value : (k : ℕ) (v : Value) → slice_get t.vals k ≡ Some v → fits_columns (columns_at b.catalog.rels rel) t.vals ≡ true
        → sourced_value sources (given_part q.items all) (record { item = at; col = 0 + k }) ≡ Some v
    value k v g columns =
        let zero_first : k ≡ 0 + k = omega arith in
        let there : is_some (column_kind b.catalog.rels q.items (record { item = at; col = k })) ≡ true =
        ap (λ o. is_some (option_and_then (λ i. slice_get (item_kinds b.catalog.rels i) k) o)) item ∙ column_there (columns_at b.catalog.rels rel) t.vals k v columns g in
        subst (λ i. sourced_value sources (given_part q.items all) (record { item = at; col = i }) ≡ Some v) zero_first
        (minus_value b.catalog.rels q sources all s.safe s.are s.conds (record { item = at; col = k }) v (ap is_minus item) there
        (ap (option_and_then (λ u. slice_get u.vals k)) slot ∙ g))

moved_on : (at k : ℕ) → at + suc k ≡ (at + 1) + k
moved_on at k = omega arith

items_later : (item : Item) (items more : List Item) (at : ℕ) → ((k : ℕ) → slice_get (item ∷ items) k ≡ slice_get more (at + k)) → (k : ℕ) → slice_get items k ≡ slice_get more ((at + 1) + k)
items_later item items more at i k = i (suc k) ∙ ap (slice_get more) (moved_on at k)

slots_later : (x : Option Tuple) (xs more : List (Option Tuple)) (at : ℕ) → ((k : ℕ) → slot_at (x ∷ xs) k ≡ slot_at more (at + k)) → (k : ℕ) → slot_at xs k ≡ slot_at more ((at + 1) + k)
slots_later x xs more at j k = j (suc k) ∙ ap (slot_at more) (moved_on at k)

-- slots that hold come by the three stages
pub held_come : (b : Contents) (q : Query) (sources : List Cond) (all : List (Option Tuple)) → AreSearched b q sources all → (at : ℕ) (items : List Item) (xs : List (Option Tuple))
    → list_all (item_fits b.catalog q.items) items ≡ true → ((k : ℕ) → slice_get items k ≡ slice_get q.items (at + k)) → ((k : ℕ) → slot_at xs k ≡ slot_at all (at + k)) → SlotsHold b all items xs
    → Comes b sources (users_part q.items all) (given_part q.items all) at items (users_part items xs) (given_part items xs) xs
held_come b q sources all s at [] [] f i j h = record { by_users = refl; by_plus = refl; by_minus = refl }
held_come b q sources all s at [] (x ∷ xs) f i j h = absurd h
held_come b q sources all s at (item ∷ items) [] f i j h = absurd h
held_come b q sources all s at (Users alias ∷ items) (x ∷ xs) f i j h =
    let rest = held_come b q sources all s (at + 1) items xs f (items_later (Users alias) items q.items at i) (slots_later x xs all at j) h.1 in
    record {
      by_users = ((user_tuple h.0.0 h.0.1, h.0.4, found_user_tuple b.catalog.users h.0.0 h.0.1 h.0.2 h.0.3), rest.by_users);
      by_plus = (refl, rest.by_plus);
      by_minus = (refl, rest.by_minus);
    }
held_come b q sources all s at (Rel alias rel Plus path ∷ items) (x ∷ xs) f i j h =
    let g = and_parts (item_fits b.catalog q.items (Rel alias rel Plus path)) (list_all (item_fits b.catalog q.items) items) f in
    let rest = held_come b q sources all s (at + 1) items xs g.1 (items_later (Rel alias rel Plus path) items q.items at i) (slots_later x xs all at j) h.1 in
    let same = item_path b q.items all alias rel path g.0 in
    let t = h.0.0 in
    record {
      by_users = (refl, rest.by_users);
      by_plus = ((t, h.0.1, believed_is_plus b (path_of (users_part q.items all) path) rel t h.0.2 (ap (path_believes b t Plus) same ∙ h.0.4)), rest.by_plus);
      by_minus = (refl, rest.by_minus);
    }
held_come b q sources all s at (Rel alias rel Minus path ∷ items) (x ∷ xs) f i j h =
    let g = and_parts (item_fits b.catalog q.items (Rel alias rel Minus path)) (list_all (item_fits b.catalog q.items) items) f in
    let rest = held_come b q sources all s (at + 1) items xs g.1 (items_later (Rel alias rel Minus path) items q.items at i) (slots_later x xs all at j) h.1 in
    let same = item_path b q.items all alias rel path g.0 in
    let t = h.0.0 in
    let here : at + zero ≡ at = omega arith in
    let item : slice_get q.items at ≡ Some (Rel alias rel Minus path) = sym (i zero ∙ ap (slice_get q.items) here) in
    let slot : slot_at all at ≡ Some t = sym (j zero ∙ ap (slot_at all) here) ∙ h.0.1 in
    record {
      by_users = (refl, rest.by_users);
      by_plus = (refl, rest.by_plus);
      by_minus = ((t, h.0.1, minus_found b q sources all s at alias rel path (path_of (users_part q.items all) path) t item slot h.0.2 h.0.3 (ap (path_believes b t Minus) same ∙ h.0.4)), rest.by_minus);
    }
