-- Rivals: what counts of them, that at most one is found, and that a certificate says what the path believes.
use Rattle.std.proofs.Common.{◌≡◌, ◌∙◌, ℕ, Bool, true, false, not, ◌&&◌, ◌||◌, nat_eq, List, [], ◌∷◌, refl, ap, sym, inl, inr, Some, None, Option, filter, find, map}
use Rattle.std.specs.List.{list_any, list_all}
use Rattle.std.specs.Option.{is_some}
use Rattle.std.proofs.lemmas.Bool.{cases_Bool, and_parts, and_from, or_left, or_right, false≢true, eqb-true, eq-eqb, cond-true, cond-false}
use Rattle.bdb_base.specs.declared.kinds.Sign.{Sign}
use Rattle.bdb_base.specs.declared.kinds.Sign.TheVariants.{Plus, Minus}
use Rattle.bdb_base.specs.declared.kinds.Stmt.{Stmt}
use Rattle.bdb_base.specs.declared.tuple.Tuple.{Tuple}
use Rattle.bdb_base.specs.Clash.{clash, same_key, key_of}
use Rattle.bdb_base.specs.Order.{tuple_cmp}
use Rattle.bdb_base.specs.OrderLemmas.{tuple_exact}
use Rattle.bdb_base.specs.Same.{same_path, same_tuple, same_sign, same_values}
use Rattle.bdb_base.specs.SameLemmas.{same_tuple-Decides, same_values-Decides}
use Rattle.bdb_base.specs.Segments.{is_suffix}
use Rattle.bdb_base.specs.SortedSet.{sorted_set}
use Rattle.bdb_base.specs.Worlds.{stated}
use Rattle.bdb_base.proofs.CountLemmas.{list_any-map}
use Rattle.bdb_base.proofs.ListLemmas.{or_false, list_any_same}
use Rattle.bdb_base.proofs.SetLemmas.{list_any-sorted_set, list_all-put_in}
use Rattle.bdb_base.proofs.WorldLemmas.{list_any_weaker, found_by, stated_cases, worlds_are_consistent}
use Rattle.bdb_base.proofs.BoolLemmas.{same_tests}
use Rattle.bdb_base.proofs.FindLemmas.{list_any-filter}
use Rattle.bdb_update.proofs.ClashingLemmas.{clash_is_of_key}
use Rattle.bdb_why.specs.declared.kinds.Ground.{Ground}
use Rattle.bdb_why.specs.declared.kinds.Ruled.{Ruled}
use Rattle.bdb_why.specs.declared.kinds.Why.TheVariants as why
use Rattle.bdb_why.specs.Certificates.{is_rival_near, rivals, ruled_of, considered, is_held, other_or, why_by, says}
use Rattle.bdb_why.specs.Grounds.{ground_of, is_found}
use Rattle.bdb_why.specs.WhyLaws.{SaysIsBelief, OneRivalIsFound}
use Rattle.bdb_why.proofs.GroundLemmas.{stated_is_found}
use Rattle.bdb_why.proofs.FindLemmas.{find_some, filter_passes, list_all-map}

-- a statement at an end of a path states this signed tuple
abbrev pub states_near : List ℕ → Tuple → Sign → Stmt → Bool
states_near w t s x = is_suffix x.path w && (same_tuple x.tuple t && same_sign x.sign s)

-- what a world has is stated at an end of the path
pub stated_near : (keys : ℕ → ℕ) (stmts : List Stmt) (w : List ℕ) (t : Tuple) (s : Sign) → stated keys stmts w t s ≡ true → list_any (states_near w t s) stmts ≡ true
stated_near keys stmts [] t s h = h
stated_near keys stmts (i ∷ w) t s h = elim (stated_cases keys stmts i w t s h) [
  | inl a ↦ list_any_weaker (λ x. same_path x.path (i ∷ w) && (same_tuple x.tuple t && same_sign x.sign s)) (states_near (i ∷ w) t s)
      (λ x e. let k = and_parts (same_path x.path (i ∷ w)) (same_tuple x.tuple t && same_sign x.sign s) e in
      and_from (is_suffix x.path (i ∷ w)) (same_tuple x.tuple t && same_sign x.sign s) (or_left (same_path x.path (i ∷ w)) (is_suffix x.path w) k.0) k.1) stmts a
  | inr b ↦ list_any_weaker (states_near w t s) (states_near (i ∷ w) t s)
      (λ x e. let k = and_parts (is_suffix x.path w) (same_tuple x.tuple t && same_sign x.sign s) e in
      and_from (is_suffix x.path (i ∷ w)) (same_tuple x.tuple t && same_sign x.sign s) (or_right (same_path x.path (i ∷ w)) (is_suffix x.path w) k.0) k.1)
      stmts (stated_near keys stmts w t s b.0)
]

-- ---- what a rival is

pub rival_clashes : (keys : ℕ → ℕ) (w : List ℕ) (t : Tuple) (x : Stmt) → is_rival_near keys w t x ≡ true → clash keys t Plus x.tuple Plus ≡ true
rival_clashes keys w t x e =
    let k = and_parts (is_suffix x.path w) (same_sign x.sign Plus && clash keys t Plus x.tuple Plus) e in
    (and_parts (same_sign x.sign Plus) (clash keys t Plus x.tuple Plus) k.1).1

-- a test that speaks of tuples finds the same in the rivals as in the statements that make them
pub any_rival : (keys : ℕ → ℕ) (stmts : List Stmt) (w : List ℕ) (t : Tuple) (p : Tuple → Bool)
    → list_any p (rivals keys stmts w t) ≡ list_any (λ x. is_rival_near keys w t x && p x.tuple) stmts
any_rival keys stmts w t p =
    list_any-sorted_set tuple_exact p (map (λ x. x.tuple) (filter (is_rival_near keys w t) stmts))
    ∙ list_any-map p (λ x. x.tuple) (filter (is_rival_near keys w t) stmts)
    ∙ list_any-filter (λ x. p x.tuple) (is_rival_near keys w t) stmts

-- what all that clashes with the tuple passes, all rivals pass
pub rivals_all : (keys : ℕ → ℕ) (stmts : List Stmt) (w : List ℕ) (t : Tuple) (p : Tuple → Bool) → ((u : Tuple) → clash keys t Plus u Plus ≡ true → p u ≡ true)
    → list_all p (rivals keys stmts w t) ≡ true
rivals_all keys stmts w t p h = in_set (map (λ x. x.tuple) (filter (is_rival_near keys w t) stmts))
    (list_all-map p (λ x. x.tuple) (filter (is_rival_near keys w t) stmts)
    ∙ filter_passes (λ x. p x.tuple) (is_rival_near keys w t) (λ x e. h x.tuple (rival_clashes keys w t x e)) stmts)
  where
    in_set : (us : List Tuple) → list_all p us ≡ true → list_all p (sorted_set tuple_cmp us) ≡ true
    in_set [] e = refl
    in_set (u ∷ us) e =
        let k = and_parts (p u) (list_all p us) e in
        list_all-put_in tuple_exact p (sorted_set tuple_cmp us) u (in_set us k.1) k.0

-- a rival of the world counts
pub stated_is_rival : (keys : ℕ → ℕ) (stmts : List Stmt) (w : List ℕ) (t u : Tuple) (p : Tuple → Bool) → clash keys t Plus u Plus ≡ true → stated keys stmts w u Plus ≡ true
    → p u ≡ true → list_any (λ x. is_rival_near keys w t x && p x.tuple) stmts ≡ true
stated_is_rival keys stmts w t u p c h e = list_any_weaker (states_near w u Plus) (λ x. is_rival_near keys w t x && p x.tuple)
    (λ x a.
    let k = and_parts (is_suffix x.path w) (same_tuple x.tuple u && same_sign x.sign Plus) a in
    let m = and_parts (same_tuple x.tuple u) (same_sign x.sign Plus) k.1 in
    let q : x.tuple ≡ u = (same_tuple-Decides x.tuple u).0 m.0 in
    and_from (is_rival_near keys w t x) (p x.tuple)
    (and_from (is_suffix x.path w) (same_sign x.sign Plus && clash keys t Plus x.tuple Plus) k.0
    (and_from (same_sign x.sign Plus) (clash keys t Plus x.tuple Plus) m.1 (ap (λ v. clash keys t Plus v Plus) q ∙ c)))
    (ap p q ∙ e))
    stmts (stated_near keys stmts w u Plus h)

-- the rivals that are found are those of the world
pub rivals_found : (keys : ℕ → ℕ) (stmts : List Stmt) (w : List ℕ) (t : Tuple) → list_any is_held (map (ruled_of keys stmts w) (rivals keys stmts w t))
    ≡ list_any (λ x. clash keys t Plus x.tuple Plus && stated keys stmts w x.tuple Plus) stmts
rivals_found keys stmts w t =
    let held : Tuple → Bool = λ u. stated keys stmts w u Plus in
    let first : list_any is_held (map (ruled_of keys stmts w) (rivals keys stmts w t)) ≡ list_any (λ x. is_rival_near keys w t x && held x.tuple) stmts =
    list_any-map is_held (ruled_of keys stmts w) (rivals keys stmts w t)
    ∙ list_any_same (λ u. is_found (ground_of keys stmts w u Plus)) held (λ u. stated_is_found keys stmts w u Plus) (rivals keys stmts w t)
    ∙ any_rival keys stmts w t held in
    first ∙ same_tests (list_any (λ x. is_rival_near keys w t x && held x.tuple) stmts) (list_any (λ x. clash keys t Plus x.tuple Plus && held x.tuple) stmts)
    (λ e. list_any_weaker (λ x. is_rival_near keys w t x && held x.tuple) (λ x. clash keys t Plus x.tuple Plus && held x.tuple)
    (λ x a. let k = and_parts (is_rival_near keys w t x) (held x.tuple) a in
    and_from (clash keys t Plus x.tuple Plus) (held x.tuple) (rival_clashes keys w t x k.0) k.1) stmts e)
    (λ e. let x = found_by (λ x. clash keys t Plus x.tuple Plus && held x.tuple) stmts e in
    let k = and_parts (clash keys t Plus x.0.tuple Plus) (held x.0.tuple) x.1 in
    stated_is_rival keys stmts w t x.0.tuple held k.0 k.1 k.1)

-- ---- a certificate says what is believed

says_other : (o : Option Ruled) (own : Ground) (others : List Ruled) → says (other_or o own others) ≡ is_some o
says_other (Some r) own others = refl
says_other None own others = refl

pub says_by : (own : Ground) (others : List Ruled) → says (why_by own others) ≡ (is_found own || list_any is_held others)
says_by own others = elim (cases_Bool (is_found own)) [
  | inl e ↦ ap says (cond-true (is_found own) (why.Stated own) (other_or (find is_held others) own others) e) ∙ sym (or_left (is_found own) (list_any is_held others) e)
  | inr e ↦ ap says (cond-false (is_found own) (why.Stated own) (other_or (find is_held others) own others) e)
      ∙ says_other (find is_held others) own others ∙ find_some is_held others ∙ ap (λ b. b || list_any is_held others) (sym e)
]

pub says_is_belief : SaysIsBelief
says_is_belief keys stmts w t Plus = says_by (ground_of keys stmts w t Plus) [] ∙ or_false (is_found (ground_of keys stmts w t Plus)) ∙ stated_is_found keys stmts w t Plus
says_is_belief keys stmts w t Minus =
    says_by (ground_of keys stmts w t Minus) (considered keys stmts w t Minus)
    ∙ ap (λ b. b || list_any is_held (considered keys stmts w t Minus)) (stated_is_found keys stmts w t Minus)
    ∙ ap (λ b. stated keys stmts w t Minus || b) (rivals_found keys stmts w t)

-- ---- one key

pub same_key_itself : (keys : ℕ → ℕ) (t : Tuple) → same_key keys t t ≡ true
same_key_itself keys t = and_from (nat_eq t.rel t.rel) (same_values (key_of keys t) (key_of keys t)) (eq-eqb t.rel t.rel refl)
    ((same_values-Decides (key_of keys t) (key_of keys t)).1 refl)

-- two tuples with a third one's key have one key
pub one_key : (keys : ℕ → ℕ) (t a b : Tuple) → same_key keys t a ≡ true → same_key keys t b ≡ true → same_key keys a b ≡ true
one_key keys t a b e g =
    let k = and_parts (nat_eq t.rel a.rel) (same_values (key_of keys t) (key_of keys a)) e in
    let m = and_parts (nat_eq t.rel b.rel) (same_values (key_of keys t) (key_of keys b)) g in
    and_from (nat_eq a.rel b.rel) (same_values (key_of keys a) (key_of keys b))
    (eq-eqb a.rel b.rel (sym (eqb-true t.rel a.rel k.0) ∙ eqb-true t.rel b.rel m.0))
    ((same_values-Decides (key_of keys a) (key_of keys b)).1
    (sym ((same_values-Decides (key_of keys t) (key_of keys a)).0 k.1) ∙ (same_values-Decides (key_of keys t) (key_of keys b)).0 m.1))

-- two tuples of one key that don't clash are one
pub same_from_apart : (keys : ℕ → ℕ) (a b : Tuple) → same_key keys a b ≡ true → clash keys a Plus b Plus ≡ false → a ≡ b
same_from_apart keys a b e h = elim (cases_Bool (same_tuple a b)) [
  | inl k ↦ (same_tuple-Decides a b).0 k
  | inr k ↦ absurd (false≢true (sym h ∙ and_from (same_key keys a b) (not (same_tuple a b)) e (ap not k)))
]

pub one_rival_is_found : OneRivalIsFound
one_rival_is_found keys stmts h w t a b c d e g = same_from_apart keys a b
    (one_key keys t a b (clash_is_of_key keys t a Plus Plus c) (clash_is_of_key keys t b Plus Plus d))
    (worlds_are_consistent keys stmts h w a b Plus Plus (sym (stated_is_found keys stmts w a Plus) ∙ e) (sym (stated_is_found keys stmts w b Plus) ∙ g))
