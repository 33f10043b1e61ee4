-- The steps of each item hold exactly where the item does.
use Rattle.std.proofs.Common.{◌≡◌, ◌∙◌, ℕ, ◌+◌, Bool, true, false, ◌&&◌, nat_eq, List, [], ◌∷◌, ◌++◌, Option, None, Some, inl, inr, refl, ap, sym, length, map}
use Rattle.std.specs.List.{list_any, list_all, slice_get}
use Rattle.std.proofs.lemmas.Bool.{false≢true, and_parts, and_from, eqb-true, eq-eqb}
use Rattle.bdb_base.specs.declared.kinds.ColDef.{ColDef}
use Rattle.bdb_base.specs.declared.kinds.Cond.{Cond}
use Rattle.bdb_base.specs.declared.kinds.Item.{Item}
use Rattle.bdb_base.specs.declared.kinds.Item.TheVariants.{Users, Rel}
use Rattle.bdb_base.specs.declared.kinds.Operand.{Operand}
use Rattle.bdb_base.specs.declared.kinds.Query.{Query}
use Rattle.bdb_base.specs.declared.kinds.Ref.{Ref}
use Rattle.bdb_base.specs.declared.kinds.RelDef.{RelDef}
use Rattle.bdb_base.specs.declared.kinds.Sign.{Sign}
use Rattle.bdb_base.specs.declared.kinds.Sign.TheVariants.{Plus, Minus}
use Rattle.bdb_base.specs.declared.kinds.Who.{Who}
use Rattle.bdb_base.specs.declared.tuple.Tuple.{Tuple}
use Rattle.bdb_base.specs.Alternation.{alternates}
use Rattle.bdb_base.specs.Bases.{Contents, AreStatements, belongs, is_user, fits_relation, key_lengths}
use Rattle.bdb_base.specs.Clash.{clash}
use Rattle.bdb_base.specs.Queries.{columns_at, path_believes}
use Rattle.bdb_base.specs.Safety.{fixed_differ, equality}
use Rattle.bdb_base.specs.Same.{same_tuple, same_sign}
use Rattle.bdb_base.specs.SameLemmas.{same_tuple-Decides, same_sign-Decides}
use Rattle.bdb_base.specs.States.{is_state, deepest_suffix}
use Rattle.bdb_base.specs.Worlds.{stated, believes}
use Rattle.bdb_base.proofs.WorldLemmas.{stated_tuples_are_explicit, rival_from_clash, clash_from_rival, negations_are_believed}
use Rattle.bdb_paths.proofs.SuffixLemmas.{deepest_is_member, states_stand_for_paths}
use Rattle.bdb_queries.specs.Slots.{slot_at, must_hold, path_of, user_tuple}
use Rattle.bdb_queries.proofs.FoundLemmas.{found_with, found_both}
use Rattle.bdb_queries.proofs.UserLemmas.{user_of_test, found_user_tuple}
use Rattle.bdb_queries.proofs.HoldingLemmas.{SlotHolds}
use Rattle.bdb_plan.specs.declared.step.Step.{Step}
use Rattle.bdb_plan.specs.declared.step.Step.TheVariants as step
use Rattle.bdb_plan.specs.PlanOf.{walk_of, bind_of, binds_from, setting, denying, due, item_steps, steps_from}
use Rattle.bdb_plan.specs.Shown.{Shows}
use Rattle.bdb_plan.specs.Sight.{Sight, is_user_of, has_signed, is_plus_row, rows_deny, is_denied}
use Rattle.bdb_plan.specs.Sources.{source_of}
use Rattle.bdb_trans.proofs.StepLemmas.{IsTest, both_tests, one_test, tests_test}
use Rattle.bdb_trans.proofs.WalkLemmas.{walk_comes}

-- Steps hold, from a world, exactly where a fact does.
pub record Means (sight : Sight) (zs : List (Option Tuple)) (n : ℕ) (xs : List Step) (F : Type 0) : Type 0 where
  pub test : Bool
  pub end : ℕ
  pub is : IsTest sight zs n xs test end
  pub sound : test ≡ true → F
  pub whole : F → test ≡ true

abbrev pub both_mean : {F G : Type 0} (sight : Sight) (zs : List (Option Tuple)) (n : ℕ) (xs ys : List Step) → Means sight zs n xs F → ((m : ℕ) → Means sight zs m ys G) → Means sight zs n (xs ++ ys) (F × G)
both_mean sight zs n xs ys f g =
    let h = g f.end in
    record {
      test = f.test && h.test;
      end = h.end;
      is = both_tests sight zs n f.end h.end xs ys f.test h.test f.is h.is;
      sound = λ e. let k = and_parts f.test h.test e in (f.sound k.0, h.sound k.1);
      whole = λ (a, b). and_from f.test h.test (f.whole a) (h.whole b);
    }

abbrev pub nothing_means : (sight : Sight) (zs : List (Option Tuple)) (n : ℕ) → Means sight zs n [] (Unit {0})
nothing_means sight zs n = record { test = true; end = n; is = refl; sound = λ _. tt; whole = λ _. refl }

abbrev pub tests_mean : (sight : Sight) (zs : List (Option Tuple)) (n : ℕ) (cs : List Cond) → Means sight zs n (map step.Test cs) (list_all (must_hold zs) cs ≡ true)
tests_mean sight zs n cs = record { test = list_all (must_hold zs) cs; end = n; is = tests_test sight zs n cs; sound = λ e. e; whole = λ e. e }

-- ---- users

user_slot : (b : Contents) (sight : Sight) (number : List ℕ → ℕ) → Shows b sight number → (slots : List (Option Tuple)) (alias : List ℕ) (o : Option Tuple) → is_user_of sight o ≡ true
    → SlotHolds b slots (Users alias) o
user_slot b sight number s slots alias None h = absurd (false≢true h)
user_slot b sight number s slots alias (Some t) h =
    let user = user_of_test b.catalog.users t (ap (list_any (λ u. same_tuple u t)) (sym s.users) ∙ h) in
    (user.0, user.1, user.2, user.3, ap Some user.4)

slot_user : (b : Contents) (sight : Sight) (number : List ℕ → ℕ) → Shows b sight number → (slots : List (Option Tuple)) (alias : List ℕ) (o : Option Tuple) → SlotHolds b slots (Users alias) o
    → is_user_of sight o ≡ true
slot_user b sight number s slots alias o (uid, name, user, named, is) =
    let t = user_tuple uid name in
    ap (is_user_of sight) is ∙ ap (list_any (λ u. same_tuple u t)) s.users
    ∙ found_user_tuple b.catalog.users uid name user named (λ u. same_tuple u t) ((same_tuple-Decides t t).1 refl)

pub users_mean : (b : Contents) (sight : Sight) (number : List ℕ → ℕ) → Shows b sight number → (zs : List (Option Tuple)) (n at : ℕ) (alias : List ℕ)
    → Means sight zs n (step.User at ∷ []) (SlotHolds b zs (Users alias) (slot_at zs at))
users_mean b sight number s zs n at alias = record {
  test = is_user_of sight (slot_at zs at);
  end = n;
  is = one_test sight zs n n (step.User at) (is_user_of sight (slot_at zs at)) refl;
  sound = user_slot b sight number s zs alias (slot_at zs at);
  whole = slot_user b sight number s zs alias (slot_at zs at);
}

-- ---- rows of a path's world

-- a row of the state that stands for a path is one of the path's world
row_is_stated : (b : Contents) (sight : Sight) (number : List ℕ → ℕ) → Shows b sight number → (w : List ℕ) (rel : ℕ) (t : Tuple) (s : Sign)
    → has_signed (sight.rows (number (deepest_suffix (is_state b.stmts) w)) rel) t s ≡ (nat_eq t.rel rel && stated (key_lengths b.catalog.rels) b.stmts w t s)
row_is_stated b sight number shows w rel t s =
    shows.rows (deepest_suffix (is_state b.stmts) w) rel t s (deepest_is_member (is_state b.stmts) w refl)
    ∙ ap (λ x. nat_eq t.rel rel && x) (sym (states_stand_for_paths (key_lengths b.catalog.rels) b.stmts w t s))

stated_fits : (b : Contents) → AreStatements b.catalog b.stmts → (w : List ℕ) (t : Tuple) (s : Sign) → stated (key_lengths b.catalog.rels) b.stmts w t s ≡ true → fits_relation b.catalog.rels t ≡ true
stated_fits b h w t s e =
    let found = found_both (belongs b.catalog) (λ x. same_tuple x.tuple t) b.stmts h.belong (stated_tuples_are_explicit (key_lengths b.catalog.rels) b.stmts w t s e) in
    let same : found.0.tuple ≡ t = (same_tuple-Decides found.0.tuple t).0 found.2 in
    ap (fits_relation b.catalog.rels) (sym same) ∙ (and_parts _ (fits_relation b.catalog.rels found.0.tuple) found.1).1

-- ---- plus items

-- the path of an item is known, with users of the catalog
pub record PathIs (b : Contents) (zs : List (Option Tuple)) (path : List Who) : Type 0 where
  pub users : List ℕ
  pub is : path_of zs path ≡ Some users
  pub there : list_all (is_user b.catalog.users) users ≡ true
  pub apart : fixed_differ path ≡ true

plus_sound : (b : Contents) (sight : Sight) (number : List ℕ → ℕ) → Shows b sight number → AreStatements b.catalog b.stmts → (zs : List (Option Tuple)) (alias : List ℕ) (rel : ℕ) (path : List Who) (w : List ℕ)
    → path_of zs path ≡ Some w → (o : Option Tuple) → alternates w && is_plus_row (sight.rows (number (deepest_suffix (is_state b.stmts) w)) rel) o ≡ true → SlotHolds b zs (Rel alias rel Plus path) o
plus_sound b sight number s valid zs alias rel path w p None h = absurd (false≢true (and_parts (alternates w) false h).1)
plus_sound b sight number s valid zs alias rel path w p (Some t) h =
    let keys = key_lengths b.catalog.rels in
    let k = and_parts (alternates w) (has_signed (sight.rows (number (deepest_suffix (is_state b.stmts) w)) rel) t Plus) h in
    let m = and_parts (nat_eq t.rel rel) (stated keys b.stmts w t Plus) (sym (row_is_stated b sight number s w rel t Plus) ∙ k.1) in
    (t, refl, eqb-true t.rel rel m.0, stated_fits b valid w t Plus m.1, ap (path_believes b t Plus) p ∙ and_from (alternates w) (stated keys b.stmts w t Plus) k.0 m.1)

plus_whole : (b : Contents) (sight : Sight) (number : List ℕ → ℕ) → Shows b sight number → (zs : List (Option Tuple)) (alias : List ℕ) (rel : ℕ) (path : List Who) (w : List ℕ)
    → path_of zs path ≡ Some w → (o : Option Tuple) → SlotHolds b zs (Rel alias rel Plus path) o → alternates w && is_plus_row (sight.rows (number (deepest_suffix (is_state b.stmts) w)) rel) o ≡ true
plus_whole b sight number s zs alias rel path w p o (t, is, r, fits, believed) =
    let keys = key_lengths b.catalog.rels in
    let rows = sight.rows (number (deepest_suffix (is_state b.stmts) w)) rel in
    let k = and_parts (alternates w) (stated keys b.stmts w t Plus) (sym (ap (path_believes b t Plus) p) ∙ believed) in
    ap (λ x. alternates w && is_plus_row rows x) is
    ∙ and_from (alternates w) (has_signed rows t Plus) k.0 (row_is_stated b sight number s w rel t Plus ∙ and_from (nat_eq t.rel rel) (stated keys b.stmts w t Plus) (eq-eqb t.rel rel r) k.1)

pub plus_mean : (b : Contents) (sight : Sight) (number : List ℕ → ℕ) → Shows b sight number → AreStatements b.catalog b.stmts → (zs : List (Option Tuple)) (n at : ℕ) (alias : List ℕ) (rel : ℕ) (path : List Who)
    → PathIs b zs path → Means sight zs n (walk_of at path ++ (step.Pos at rel ∷ [])) (SlotHolds b zs (Rel alias rel Plus path) (slot_at zs at))
plus_mean b sight number s valid zs n at alias rel path p =
    let w = p.users in
    let end = number (deepest_suffix (is_state b.stmts) w) in
    let row = is_plus_row (sight.rows end rel) (slot_at zs at) in
    record {
      test = alternates w && row;
      end = end;
      is = both_tests sight zs n end end (walk_of at path) (step.Pos at rel ∷ []) (alternates w) row (walk_comes b sight number s zs at n path w p.is p.there p.apart) (one_test sight zs end end (step.Pos at rel) row refl);
      sound = plus_sound b sight number s valid zs alias rel path w p.is (slot_at zs at);
      whole = plus_whole b sight number s zs alias rel path w p.is (slot_at zs at);
    }

-- ---- minus items

-- what the steps behind a minus item's tests say: its tuple is one of the relation with a value for each column, and the
-- path believes its negation
abbrev pub IsDeniedSlot : Contents → List (Option Tuple) → ℕ → List Who → Option Tuple → Type 0
IsDeniedSlot b zs rel path o = (t : Tuple) × (o ≡ Some t) × (t.rel ≡ rel) × (length t.vals ≡ length (columns_at b.catalog.rels rel)) × (path_believes b t Minus (path_of zs path) ≡ true)

denied_sound : (b : Contents) (sight : Sight) (number : List ℕ → ℕ) → Shows b sight number → (w : List ℕ) (rel : ℕ) (t : Tuple)
    → rows_deny (key_lengths b.catalog.rels) (sight.rows (number (deepest_suffix (is_state b.stmts) w)) rel) t ≡ true → believes (key_lengths b.catalog.rels) b.stmts w t Minus ≡ true
denied_sound b sight number s w rel t h =
    let keys = key_lengths b.catalog.rels in
    let rows = sight.rows (number (deepest_suffix (is_state b.stmts) w)) rel in
    let found = found_with (λ x. clash keys t Plus x.0 x.1) rows h in
    let x = found.0 in
    let itself : same_tuple x.0 x.0 && same_sign x.1 x.1 ≡ true = and_from (same_tuple x.0 x.0) (same_sign x.1 x.1) ((same_tuple-Decides x.0 x.0).1 refl) ((same_sign-Decides x.1 x.1).1 refl) in
    let here : has_signed rows x.0 x.1 ≡ true = found.2 (λ y. same_tuple y.0 x.0 && same_sign y.1 x.1) itself in
    by x.0 x.1 found.1 (and_parts (nat_eq x.0.rel rel) (stated keys b.stmts w x.0 x.1) (sym (row_is_stated b sight number s w rel x.0 x.1) ∙ here)).1
  where
    by : (u : Tuple) (sign : Sign) → clash (key_lengths b.catalog.rels) t Plus u sign ≡ true → stated (key_lengths b.catalog.rels) b.stmts w u sign ≡ true → believes (key_lengths b.catalog.rels) b.stmts w t Minus ≡ true
    by u Plus c e = (negations_are_believed (key_lengths b.catalog.rels) b.stmts w t).1 (inr (rival_from_clash (key_lengths b.catalog.rels) b.stmts w t u c e))
    by u Minus c e =
        let same : t ≡ u = (same_tuple-Decides t u).0 c in
        (negations_are_believed (key_lengths b.catalog.rels) b.stmts w t).1 (inl (ap (λ v. stated (key_lengths b.catalog.rels) b.stmts w v Minus) same ∙ e))

deny_by : (b : Contents) (sight : Sight) (number : List ℕ → ℕ) → Shows b sight number → (w : List ℕ) (rel : ℕ) (t u : Tuple) (sign : Sign) → u.rel ≡ rel → stated (key_lengths b.catalog.rels) b.stmts w u sign ≡ true
    → clash (key_lengths b.catalog.rels) t Plus u sign ≡ true → rows_deny (key_lengths b.catalog.rels) (sight.rows (number (deepest_suffix (is_state b.stmts) w)) rel) t ≡ true
deny_by b sight number s w rel t u sign r e c =
    let keys = key_lengths b.catalog.rels in
    let rows = sight.rows (number (deepest_suffix (is_state b.stmts) w)) rel in
    let has : has_signed rows u sign ≡ true = row_is_stated b sight number s w rel u sign ∙ and_from (nat_eq u.rel rel) (stated keys b.stmts w u sign) (eq-eqb u.rel rel r) e in
    let found = found_with (λ x. same_tuple x.0 u && same_sign x.1 sign) rows has in
    let x = found.0 in
    let k = and_parts (same_tuple x.0 u) (same_sign x.1 sign) found.1 in
    found.2 (λ y. clash keys t Plus y.0 y.1)
    (ap (λ v. clash keys t Plus v x.1) ((same_tuple-Decides x.0 u).0 k.0) ∙ ap (clash keys t Plus u) ((same_sign-Decides x.1 sign).0 k.1) ∙ c)

denied_whole : (b : Contents) (sight : Sight) (number : List ℕ → ℕ) → Shows b sight number → (w : List ℕ) (rel : ℕ) (t : Tuple) → t.rel ≡ rel
    → believes (key_lengths b.catalog.rels) b.stmts w t Minus ≡ true → rows_deny (key_lengths b.catalog.rels) (sight.rows (number (deepest_suffix (is_state b.stmts) w)) rel) t ≡ true
denied_whole b sight number s w rel t r e = elim ((negations_are_believed (key_lengths b.catalog.rels) b.stmts w t).0 e) [
  | inl k ↦ deny_by b sight number s w rel t t Minus r k ((same_tuple-Decides t t).1 refl)
  | inr k ↦ deny_by b sight number s w rel t k.0 Plus (k.1 ∙ r) k.4 (clash_from_rival (key_lengths b.catalog.rels) t k.0 k.1 k.2 k.3)
]

minus_sound : (b : Contents) (sight : Sight) (number : List ℕ → ℕ) → Shows b sight number → (zs : List (Option Tuple)) (rel : ℕ) (path : List Who) (w : List ℕ) → path_of zs path ≡ Some w
    → (o : Option Tuple) → alternates w && is_denied sight (number (deepest_suffix (is_state b.stmts) w)) rel o ≡ true → IsDeniedSlot b zs rel path o
minus_sound b sight number s zs rel path w p None h = absurd (false≢true (and_parts (alternates w) false h).1)
minus_sound b sight number s zs rel path w p (Some t) h =
    let keys = key_lengths b.catalog.rels in
    let rows = sight.rows (number (deepest_suffix (is_state b.stmts) w)) rel in
    let k = and_parts (alternates w) (is_denied sight (number (deepest_suffix (is_state b.stmts) w)) rel (Some t)) h in
    let m = and_parts (nat_eq t.rel rel) (nat_eq (length t.vals) (sight.width rel) && rows_deny sight.keys rows t) k.1 in
    let l = and_parts (nat_eq (length t.vals) (sight.width rel)) (rows_deny sight.keys rows t) m.1 in
    let believed = denied_sound b sight number s w rel t (ap (λ f. rows_deny f rows t) (sym s.keys) ∙ l.1) in (
      t,
      refl,
      eqb-true t.rel rel m.0,
      eqb-true (length t.vals) (sight.width rel) l.0 ∙ s.width rel,
      ap (path_believes b t Minus) p ∙ and_from (alternates w) (believes keys b.stmts w t Minus) k.0 believed,
    )

minus_whole : (b : Contents) (sight : Sight) (number : List ℕ → ℕ) → Shows b sight number → (zs : List (Option Tuple)) (rel : ℕ) (path : List Who) (w : List ℕ) → path_of zs path ≡ Some w
    → (o : Option Tuple) → IsDeniedSlot b zs rel path o → alternates w && is_denied sight (number (deepest_suffix (is_state b.stmts) w)) rel o ≡ true
minus_whole b sight number s zs rel path w p o (t, is, r, long, believed) =
    let keys = key_lengths b.catalog.rels in
    let n = number (deepest_suffix (is_state b.stmts) w) in
    let rows = sight.rows n rel in
    let k = and_parts (alternates w) (believes keys b.stmts w t Minus) (sym (ap (path_believes b t Minus) p) ∙ believed) in
    ap (λ x. alternates w && is_denied sight n rel x) is
    ∙ and_from (alternates w) (is_denied sight n rel (Some t)) k.0
    (and_from (nat_eq t.rel rel) (nat_eq (length t.vals) (sight.width rel) && rows_deny sight.keys rows t) (eq-eqb t.rel rel r)
    (and_from (nat_eq (length t.vals) (sight.width rel)) (rows_deny sight.keys rows t) (eq-eqb (length t.vals) (sight.width rel) (long ∙ sym (s.width rel)))
    (ap (λ f. rows_deny f rows t) s.keys ∙ denied_whole b sight number s w rel t r k.1)))

pub minus_mean : (b : Contents) (sight : Sight) (number : List ℕ → ℕ) → Shows b sight number → (zs : List (Option Tuple)) (n at rel : ℕ) (path : List Who)
    → PathIs b zs path → Means sight zs n (walk_of at path ++ (step.Neg at rel ∷ [])) (IsDeniedSlot b zs rel path (slot_at zs at))
minus_mean b sight number s zs n at rel path p =
    let w = p.users in
    let end = number (deepest_suffix (is_state b.stmts) w) in
    let row = is_denied sight end rel (slot_at zs at) in
    record {
      test = alternates w && row;
      end = end;
      is = both_tests sight zs n end end (walk_of at path) (step.Neg at rel ∷ []) (alternates w) row (walk_comes b sight number s zs at n path w p.is p.there p.apart) (one_test sight zs end end (step.Neg at rel) row refl);
      sound = minus_sound b sight number s zs rel path w p.is (slot_at zs at);
      whole = minus_whole b sight number s zs rel path w p.is (slot_at zs at);
    }

-- ---- bound columns

-- the columns of an item equal their sources
abbrev pub EqualsSource : List (Option Tuple) → Ref → Option Operand → Type 0
EqualsSource zs r None = Unit {0}
EqualsSource zs r (Some o) = must_hold zs (equality r o) ≡ true

abbrev pub EqualSources : List RelDef → Query → List (Option Tuple) → ℕ → ℕ → List ColDef → Type 0
EqualSources rels q zs item col [] = Unit {0}
EqualSources rels q zs item col (c ∷ cs) = EqualsSource zs (record { item = item; col = col }) (source_of rels q (record { item = item; col = col })) × EqualSources rels q zs item (col + 1) cs

bind_means : (sight : Sight) (zs : List (Option Tuple)) (n : ℕ) (r : Ref) (o : Option Operand) → Means sight zs n (bind_of r o) (EqualsSource zs r o)
bind_means sight zs n r None = nothing_means sight zs n
bind_means sight zs n r (Some o) = record {
  test = must_hold zs (equality r o);
  end = n;
  is = one_test sight zs n n (step.Bind r.item r.col o) (must_hold zs (equality r o)) refl;
  sound = λ e. e;
  whole = λ e. e;
}

pub binds_mean : (rels : List RelDef) (q : Query) (sight : Sight) (zs : List (Option Tuple)) (n item col : ℕ) (cols : List ColDef) → Means sight zs n (binds_from rels q item col cols) (EqualSources rels q zs item col cols)
binds_mean rels q sight zs n item col [] = nothing_means sight zs n
binds_mean rels q sight zs n item col (c ∷ cs) =
    let r : Ref = record { item = item; col = col } in
    both_mean sight zs n (bind_of r (source_of rels q r)) (binds_from rels q item (col + 1) cs) (bind_means sight zs n r (source_of rels q r)) (λ m. binds_mean rels q sight zs m item (col + 1) cs)

-- ---- a whole item

-- what the steps that set an item say
abbrev pub SettingSays : Contents → Query → List (Option Tuple) → ℕ → Option Item → Type 0
SettingSays b q zs at None = Unit {0}
SettingSays b q zs at (Some (Users alias)) = SlotHolds b zs (Users alias) (slot_at zs at)
SettingSays b q zs at (Some (Rel alias rel Plus path)) = SlotHolds b zs (Rel alias rel Plus path) (slot_at zs at)
SettingSays b q zs at (Some (Rel alias rel Minus path)) = EqualSources b.catalog.rels q zs at 0 (columns_at b.catalog.rels rel)

-- what the steps behind an item's tests say
abbrev pub DenyingSays : Contents → List (Option Tuple) → ℕ → Option Item → Type 0
DenyingSays b zs at None = Unit {0}
DenyingSays b zs at (Some (Users alias)) = Unit {0}
DenyingSays b zs at (Some (Rel alias rel Plus path)) = Unit {0}
DenyingSays b zs at (Some (Rel alias rel Minus path)) = IsDeniedSlot b zs rel path (slot_at zs at)

-- an item's path is known, where it has one
abbrev pub KnownPath : Contents → List (Option Tuple) → Option Item → Type 0
KnownPath b zs None = Unit {0}
KnownPath b zs (Some (Users alias)) = Unit {0}
KnownPath b zs (Some (Rel alias rel sign path)) = PathIs b zs path

setting_means : (b : Contents) (sight : Sight) (number : List ℕ → ℕ) → Shows b sight number → AreStatements b.catalog b.stmts → (q : Query) (zs : List (Option Tuple)) (n at : ℕ) (item : Option Item) → KnownPath b zs item
    → Means sight zs n (setting b.catalog.rels q at item) (SettingSays b q zs at item)
setting_means b sight number s valid q zs n at None p = nothing_means sight zs n
setting_means b sight number s valid q zs n at (Some (Users alias)) p = users_mean b sight number s zs n at alias
setting_means b sight number s valid q zs n at (Some (Rel alias rel Plus path)) p = plus_mean b sight number s valid zs n at alias rel path p
setting_means b sight number s valid q zs n at (Some (Rel alias rel Minus path)) p = binds_mean b.catalog.rels q sight zs n at 0 (columns_at b.catalog.rels rel)

denying_means : (b : Contents) (sight : Sight) (number : List ℕ → ℕ) → Shows b sight number → (zs : List (Option Tuple)) (n at : ℕ) (item : Option Item) → KnownPath b zs item
    → Means sight zs n (denying at item) (DenyingSays b zs at item)
denying_means b sight number s zs n at None p = nothing_means sight zs n
denying_means b sight number s zs n at (Some (Users alias)) p = nothing_means sight zs n
denying_means b sight number s zs n at (Some (Rel alias rel Plus path)) p = nothing_means sight zs n
denying_means b sight number s zs n at (Some (Rel alias rel Minus path)) p = minus_mean b sight number s zs n at rel path p

-- what an item's steps say
abbrev pub ItemSays : Contents → Query → List (Option Tuple) → List ℕ → ℕ → Option Item → Type 0
ItemSays b q zs set at item = SettingSays b q zs at item × ((list_all (must_hold zs) (due set at q.conds) ≡ true) × DenyingSays b zs at item)

pub item_means : (b : Contents) (sight : Sight) (number : List ℕ → ℕ) → Shows b sight number → AreStatements b.catalog b.stmts → (q : Query) (zs : List (Option Tuple)) (n : ℕ) (set : List ℕ) (at : ℕ) (item : Option Item) → KnownPath b zs item
    → Means sight zs n (item_steps b.catalog.rels q set at item) (ItemSays b q zs set at item)
item_means b sight number s valid q zs n set at item p =
    both_mean sight zs n (setting b.catalog.rels q at item) (map step.Test (due set at q.conds) ++ denying at item) (setting_means b sight number s valid q zs n at item p)
    (λ m. both_mean sight zs m (map step.Test (due set at q.conds)) (denying at item) (tests_mean sight zs m (due set at q.conds)) (λ k. denying_means b sight number s zs k at item p))

-- ---- all items

-- a fact holds at each place
abbrev pub Each : (ℕ → Type 0) → List ℕ → Type 0
Each F [] = Unit {0}
Each F (at ∷ order) = F at × Each F order

-- what the steps of items say
abbrev pub OrderSays : Contents → Query → List (Option Tuple) → List ℕ → List ℕ → Type 0
OrderSays b q zs set [] = Unit {0}
OrderSays b q zs set (at ∷ order) = ItemSays b q zs set at (slice_get q.items at) × OrderSays b q zs (at ∷ set) order

pub order_means : (b : Contents) (sight : Sight) (number : List ℕ → ℕ) → Shows b sight number → AreStatements b.catalog b.stmts → (q : Query) (zs : List (Option Tuple)) (n : ℕ) (set order : List ℕ)
    → Each (λ at. KnownPath b zs (slice_get q.items at)) order → Means sight zs n (steps_from b.catalog.rels q set order) (OrderSays b q zs set order)
order_means b sight number s valid q zs n set [] p = nothing_means sight zs n
order_means b sight number s valid q zs n set (at ∷ order) p =
    both_mean sight zs n (item_steps b.catalog.rels q set at (slice_get q.items at)) (steps_from b.catalog.rels q (at ∷ set) order)
    (item_means b sight number s valid q zs n set at (slice_get q.items at) p.0) (λ m. order_means b sight number s valid q zs m (at ∷ set) order p.1)
