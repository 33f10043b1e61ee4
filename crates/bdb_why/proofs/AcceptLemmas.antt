-- A checker accepts exactly the certificate.
use Rattle.std.proofs.Common.{◌≡◌, ◌∙◌, ℕ, true, false, not, ◌&&◌, nat_eq, List, [], ◌∷◌, refl, ap, sym, inl, inr, Some, None, Option, filter, find, map, length, arith}
use Rattle.std.specs.Bool.{Decides}
use Rattle.std.specs.List.{list_any, list_all}
use Rattle.std.specs.Option.{is_some}
use Rattle.std.specs.Ordering.{is_eq, is_lt}
use Rattle.std.proofs.lemmas.Bool.{cases_Bool, and_parts, and_from, or_cases, or_left, or_right, false≢true, not-true, not_from_false, eqb-true, cond-true, cond-false}
use Rattle.std.proofs.lemmas.Bool.Decides.{Decides-eqb, Decides-and, Decides-like}
use Rattle.bdb_base.specs.declared.kinds.Sign.{Sign}
use Rattle.bdb_base.specs.declared.kinds.Sign.TheVariants.{Plus, Minus}
use Rattle.bdb_base.specs.declared.kinds.Stmt.{Stmt}
use Rattle.bdb_base.specs.declared.tuple.Tuple.{Tuple}
use Rattle.bdb_base.specs.Clash.{clash}
use Rattle.bdb_base.specs.Order.{tuple_cmp}
use Rattle.bdb_base.specs.OrderLemmas.{tuple_exact, is_eq_tuple_cmp}
use Rattle.bdb_base.specs.Same.{same_tuple, same_statement}
use Rattle.bdb_base.specs.SameLemmas.{same_tuple-Decides, same_statement-Decides}
use Rattle.bdb_base.specs.SortedSet.{ascending}
use Rattle.bdb_base.specs.Worlds.{stated, IsConsistent}
use Rattle.bdb_base.proofs.CountLemmas.{list_any-map}
use Rattle.bdb_base.proofs.FirstLemmas.{same_statement_itself}
use Rattle.bdb_base.proofs.LeastLemmas.{find_passes}
use Rattle.bdb_base.proofs.SetLemmas.{is_eq_itself, members_make_set, set_is_ascending}
use Rattle.bdb_base.proofs.WorldLemmas.{list_any_weaker}
use Rattle.bdb_base.proofs.BoolLemmas.{same_tests}
use Rattle.bdb_base.proofs.OptionLemmas.{some_of}
use Rattle.bdb_base.proofs.FindLemmas.{find_none, find_all}
use Rattle.bdb_base.proofs.BaseLemmas.{tied_tuple_is}
use Rattle.bdb_why.specs.declared.kinds.Ground.{Ground}
use Rattle.bdb_why.specs.declared.kinds.Ground.TheVariants.{Found, Blocked, Nowhere}
use Rattle.bdb_why.specs.declared.kinds.Ruled.{Ruled}
use Rattle.bdb_why.specs.declared.kinds.Why.{Why}
use Rattle.bdb_why.specs.declared.kinds.Why.TheVariants as why
use Rattle.bdb_why.specs.Accepting.{same_ground, is_ground, ruled_cmp, makes_rival, is_ruled, is_among, is_covered, are_considered, refutes, accepts}
use Rattle.bdb_why.specs.Certificates.{is_rival_near, rivals, ruled_of, considered, is_held, other_or, why_by, why_of, says}
use Rattle.bdb_why.specs.Grounds.{ground_of, is_found}
use Rattle.bdb_why.specs.WhyLaws.{CheckIsExact, AcceptedIsBelief, CertificateIsAccepted}
use Rattle.bdb_why.proofs.GroundLemmas.{stated_is_found}
use Rattle.bdb_why.proofs.RivalLemmas.{any_rival, one_rival_is_found, rivals_all, says_is_belief, stated_is_rival}
use Rattle.bdb_why.proofs.FindLemmas.{find_some, found_with, list_all-map, list_all_true, all_members}

-- ---- grounds

pub same_ground-Decides : (a b : Ground) → Decides (same_ground a b) (a ≡ b)
same_ground-Decides (Found m) (Found n) = Decides-like (nat_eq m n) (λ e. ap Found e) (λ e. cc) (Decides-eqb m n)
same_ground-Decides (Found m) (Blocked n y) = ((λ e. cc), (λ e. cc))
same_ground-Decides (Found m) Nowhere = ((λ e. cc), (λ e. cc))
same_ground-Decides (Blocked m x) (Found n) = ((λ e. cc), (λ e. cc))
same_ground-Decides (Blocked m x) (Blocked n y) = Decides-like (nat_eq m n && same_statement x y)
    (λ e. ap (λ k. Blocked k x) e.0 ∙ ap (λ z. Blocked n z) e.1) (λ e. (cc, cc))
    (Decides-and (nat_eq m n) (same_statement x y) (Decides-eqb m n) (same_statement-Decides x y))
same_ground-Decides (Blocked m x) Nowhere = ((λ e. cc), (λ e. cc))
same_ground-Decides Nowhere (Found n) = ((λ e. cc), (λ e. cc))
same_ground-Decides Nowhere (Blocked n y) = ((λ e. cc), (λ e. cc))
same_ground-Decides Nowhere Nowhere = ((λ e. refl), (λ e. refl))

same_ground_itself : (g : Ground) → same_ground g g ≡ true
same_ground_itself g = (same_ground-Decides g g).1 refl

-- a tuple with a ground
abbrev with_ground : Tuple → Ground → Ruled
with_ground t g = record { tuple = t; reason = g }

-- a tuple with its own ground
ruled_is : (keys : ℕ → ℕ) (stmts : List Stmt) (w : List ℕ) (r : Ruled) → is_ground keys stmts w r.tuple Plus r.reason ≡ true → r ≡ ruled_of keys stmts w r.tuple
ruled_is keys stmts w r e = ap (with_ground r.tuple) ((same_ground-Decides r.reason (ground_of keys stmts w r.tuple Plus)).0 e)

-- ---- certificates by cases

why_if_found : (own : Ground) (others : List Ruled) → is_found own ≡ true → why_by own others ≡ why.Stated own
why_if_found own others e = cond-true (is_found own) (why.Stated own) (other_or (find is_held others) own others) e

why_if_not : (own : Ground) (others : List Ruled) → is_found own ≡ false → why_by own others ≡ other_or (find is_held others) own others
why_if_not own others e = cond-false (is_found own) (why.Stated own) (other_or (find is_held others) own others) e

-- what is found of the rivals is one of them, with its ground
held_is_rival : (keys : ℕ → ℕ) (stmts : List Stmt) (w : List ℕ) (t : Tuple) (z : Ruled) → find is_held (considered keys stmts w t Minus) ≡ Some z
    → (clash keys t Plus z.tuple Plus ≡ true) × (is_held z ≡ true) × (is_ground keys stmts w z.tuple Plus z.reason ≡ true)
held_is_rival keys stmts w t z e = (
  find_all is_held (λ r. clash keys t Plus r.tuple Plus) (considered keys stmts w t Minus) z
      (list_all-map (λ r. clash keys t Plus r.tuple Plus) (ruled_of keys stmts w) (rivals keys stmts w t)
      ∙ rivals_all keys stmts w t (λ u. clash keys t Plus u Plus) (λ u c. c)) e,
  find_passes is_held (considered keys stmts w t Minus) z e,
  find_all is_held (λ r. is_ground keys stmts w r.tuple Plus r.reason) (considered keys stmts w t Minus) z
      (list_all-map (λ r. is_ground keys stmts w r.tuple Plus r.reason) (ruled_of keys stmts w) (rivals keys stmts w t)
      ∙ list_all_true (λ u. is_ground keys stmts w u Plus (ground_of keys stmts w u Plus)) (rivals keys stmts w t)
      (λ u. same_ground_itself (ground_of keys stmts w u Plus))) e,
)

-- ---- what is considered

ascending_tuples : (rs : List Ruled) → ascending ruled_cmp rs ≡ ascending tuple_cmp (map (λ r. r.tuple) rs)
ascending_tuples [] = refl
ascending_tuples (r ∷ rs) =
    ap (λ b. b && ascending ruled_cmp rs) (sym (list_all-map (λ u. is_lt (tuple_cmp r.tuple u)) (λ r. r.tuple) rs))
    ∙ ap (λ b. list_all (λ u. is_lt (tuple_cmp r.tuple u)) (map (λ r. r.tuple) rs) && b) (ascending_tuples rs)

-- rivals, each with its ground, are those of their tuples
ruled_again : (keys : ℕ → ℕ) (stmts : List Stmt) (w : List ℕ) (t : Tuple) (rs : List Ruled) → list_all (is_ruled keys stmts w t) rs ≡ true
    → rs ≡ map (ruled_of keys stmts w) (map (λ r. r.tuple) rs)
ruled_again keys stmts w t [] h = refl
ruled_again keys stmts w t (r ∷ rs) h =
    let k = and_parts (is_ruled keys stmts w t r) (list_all (is_ruled keys stmts w t) rs) h in
    let m = and_parts (list_any (makes_rival keys w t r.tuple) stmts) (is_ground keys stmts w r.tuple Plus r.reason) k.0 in
    ap (λ x. x ∷ rs) (ruled_is keys stmts w r m.1) ∙ ap (λ xs. ruled_of keys stmts w r.tuple ∷ xs) (ruled_again keys stmts w t rs k.1)

tuples_again : (keys : ℕ → ℕ) (stmts : List Stmt) (w : List ℕ) (us : List Tuple) → map (λ r. r.tuple) (map (ruled_of keys stmts w) us) ≡ us
tuples_again keys stmts w [] = refl
tuples_again keys stmts w (u ∷ us) = ap (λ vs. u ∷ vs) (tuples_again keys stmts w us)

module _ (keys : ℕ → ℕ) (stmts : List Stmt) (w : List ℕ) (t : Tuple) (rs : List Ruled) (ruled : list_all (is_ruled keys stmts w t) rs ≡ true)
    (covered : list_all (is_covered keys w t rs) stmts ≡ true) where
  given_is_rival : (z : Tuple) → list_any (λ r. is_eq (tuple_cmp r.tuple z)) rs ≡ true
      → list_any (λ x. is_rival_near keys w t x && is_eq (tuple_cmp x.tuple z)) stmts ≡ true
  given_is_rival z e =
      let r = found_with (λ r. is_eq (tuple_cmp r.tuple z)) (is_ruled keys stmts w t) rs ruled e in
      let q : r.0.tuple ≡ z = tied_tuple_is r.0.tuple z r.1 in
      list_any_weaker (makes_rival keys w t r.0.tuple) (λ x. is_rival_near keys w t x && is_eq (tuple_cmp x.tuple z))
      (λ x a. let k = and_parts (is_rival_near keys w t x) (same_tuple x.tuple r.0.tuple) a in
      and_from (is_rival_near keys w t x) (is_eq (tuple_cmp x.tuple z)) k.0 (is_eq_tuple_cmp x.tuple z ∙ ap (same_tuple x.tuple) (sym q) ∙ k.1))
      stmts (and_parts (list_any (makes_rival keys w t r.0.tuple) stmts) (is_ground keys stmts w r.0.tuple Plus r.0.reason) r.2).0

  rival_is_given : (z : Tuple) → list_any (λ x. is_rival_near keys w t x && is_eq (tuple_cmp x.tuple z)) stmts ≡ true
      → list_any (λ r. is_eq (tuple_cmp r.tuple z)) rs ≡ true
  rival_is_given z e =
      let x = found_with (λ x. is_rival_near keys w t x && is_eq (tuple_cmp x.tuple z)) (is_covered keys w t rs) stmts covered e in
      let k = and_parts (is_rival_near keys w t x.0) (is_eq (tuple_cmp x.0.tuple z)) x.1 in
      let q : x.0.tuple ≡ z = tied_tuple_is x.0.tuple z k.1 in
      elim (or_cases (not (is_rival_near keys w t x.0)) (is_among rs x.0.tuple) x.2) [
        | inl a ↦ absurd (false≢true (sym (not-true (is_rival_near keys w t x.0) a) ∙ k.0))
        | inr b ↦ list_any_weaker (λ r. same_tuple r.tuple x.0.tuple) (λ r. is_eq (tuple_cmp r.tuple z))
            (λ r a. is_eq_tuple_cmp r.tuple z ∙ ap (same_tuple r.tuple) (sym q) ∙ a) rs b
      ]

  pub given_are_rivals : ascending ruled_cmp rs ≡ true → map (λ r. r.tuple) rs ≡ rivals keys stmts w t
  given_are_rivals h = members_make_set tuple_exact (map (λ r. r.tuple) rs) (rivals keys stmts w t) (sym (ascending_tuples rs) ∙ h)
      (set_is_ascending tuple_exact (map (λ x. x.tuple) (filter (is_rival_near keys w t) stmts)))
      (λ z. list_any-map (λ u. is_eq (tuple_cmp u z)) (λ r. r.tuple) rs
      ∙ same_tests (list_any (λ r. is_eq (tuple_cmp r.tuple z)) rs) (list_any (λ x. is_rival_near keys w t x && is_eq (tuple_cmp x.tuple z)) stmts)
      (given_is_rival z) (rival_is_given z)
      ∙ sym (any_rival keys stmts w t (λ u. is_eq (tuple_cmp u z))))

none_of_length : (rs : List Ruled) → nat_eq (length rs) 0 ≡ true → rs ≡ []
none_of_length [] e = refl
none_of_length (r ∷ rs) e = let k = eqb-true (length (r ∷ rs)) 0 e in absurd (omega arith)

-- what is accepted as considered is what is considered
considered_is : (keys : ℕ → ℕ) (stmts : List Stmt) (w : List ℕ) (t : Tuple) (s : Sign) (rs : List Ruled) → are_considered keys stmts w t s rs ≡ true
    → rs ≡ considered keys stmts w t s
considered_is keys stmts w t Plus rs e = none_of_length rs e
considered_is keys stmts w t Minus rs e =
    let k = and_parts (ascending ruled_cmp rs) (list_all (is_ruled keys stmts w t) rs && list_all (is_covered keys w t rs) stmts) e in
    let m = and_parts (list_all (is_ruled keys stmts w t) rs) (list_all (is_covered keys w t rs) stmts) k.1 in
    ruled_again keys stmts w t rs m.0 ∙ ap (map (ruled_of keys stmts w)) (given_are_rivals keys stmts w t rs m.0 m.1 k.0)

-- ---- what is accepted is the certificate

other_is : (keys : ℕ → ℕ) (stmts : List Stmt) → IsConsistent keys stmts → (w : List ℕ) (t : Tuple) (s : Sign) (r : Ruled) → refutes keys stmts w t s r ≡ true
    → why.Other r ≡ why_of keys stmts w t s
other_is keys stmts h w t Plus r e = absurd (false≢true e)
other_is keys stmts h w t Minus r e =
    let a = and_parts (clash keys t Plus r.tuple Plus) (is_held r && (is_ground keys stmts w r.tuple Plus r.reason && not (stated keys stmts w t Minus))) e in
    let b = and_parts (is_held r) (is_ground keys stmts w r.tuple Plus r.reason && not (stated keys stmts w t Minus)) a.1 in
    let c = and_parts (is_ground keys stmts w r.tuple Plus r.reason) (not (stated keys stmts w t Minus)) b.1 in
    let own = ground_of keys stmts w t Minus in
    let others = considered keys stmts w t Minus in
    let missed : is_found own ≡ false = stated_is_found keys stmts w t Minus ∙ not-true (stated keys stmts w t Minus) c.1 in
    let mine : r ≡ ruled_of keys stmts w r.tuple = ruled_is keys stmts w r c.0 in
    let held : is_found (ground_of keys stmts w r.tuple Plus) ≡ true = ap is_held (sym mine) ∙ b.0 in
    let any : list_any is_held others ≡ true = list_any-map is_held (ruled_of keys stmts w) (rivals keys stmts w t)
    ∙ any_rival keys stmts w t (λ u. is_held (ruled_of keys stmts w u))
    ∙ stated_is_rival keys stmts w t r.tuple (λ u. is_held (ruled_of keys stmts w u)) a.0 (sym (stated_is_found keys stmts w r.tuple Plus) ∙ held) held in
    let z = some_of (find is_held others) (find_some is_held others ∙ any) in
    let found = held_is_rival keys stmts w t z.0 z.1 in
    let theirs : z.0 ≡ ruled_of keys stmts w z.0.tuple = ruled_is keys stmts w z.0 found.2 in
    let one : r.tuple ≡ z.0.tuple = one_rival_is_found keys stmts h w t r.tuple z.0.tuple a.0 found.0 held (ap is_held (sym theirs) ∙ found.1) in
    ap why.Other (mine ∙ ap (ruled_of keys stmts w) one ∙ sym theirs)
    ∙ ap (λ o. other_or o own others) (sym z.1) ∙ sym (why_if_not own others missed)

accepted_is : (keys : ℕ → ℕ) (stmts : List Stmt) → IsConsistent keys stmts → (w : List ℕ) (t : Tuple) (s : Sign) (y : Why) → accepts keys stmts w t s y ≡ true
    → y ≡ why_of keys stmts w t s
accepted_is keys stmts h w t s (why.Stated g) e =
    let k = and_parts (is_found g) (is_ground keys stmts w t s g) e in
    let q : g ≡ ground_of keys stmts w t s = (same_ground-Decides g (ground_of keys stmts w t s)).0 k.1 in
    ap why.Stated q ∙ sym (why_if_found (ground_of keys stmts w t s) (considered keys stmts w t s) (ap is_found (sym q) ∙ k.0))
accepted_is keys stmts h w t s (why.Other r) e = other_is keys stmts h w t s r e
accepted_is keys stmts h w t s (why.Absent own others) e =
    let a = and_parts (not (is_found own)) (is_ground keys stmts w t s own && (not (list_any is_held others) && are_considered keys stmts w t s others)) e in
    let b = and_parts (is_ground keys stmts w t s own) (not (list_any is_held others) && are_considered keys stmts w t s others) a.1 in
    let c = and_parts (not (list_any is_held others)) (are_considered keys stmts w t s others) b.1 in
    let mine = ground_of keys stmts w t s in
    let all = considered keys stmts w t s in
    let q : own ≡ mine = (same_ground-Decides own mine).0 b.0 in
    let r : others ≡ all = considered_is keys stmts w t s others c.1 in
    let none : find is_held all ≡ None = ap (find is_held) (sym r) ∙ find_none is_held others (not-true (list_any is_held others) c.0) in
    ap (λ g. why.Absent g others) q ∙ ap (λ xs. why.Absent mine xs) r
    ∙ ap (λ o. other_or o mine all) (sym none)
    ∙ sym (why_if_not mine all (ap is_found (sym q) ∙ not-true (is_found own) a.0))

-- ---- the certificate is accepted

all_ruled : (keys : ℕ → ℕ) (stmts : List Stmt) (w : List ℕ) (t : Tuple) → list_all (is_ruled keys stmts w t) (map (ruled_of keys stmts w) (rivals keys stmts w t)) ≡ true
all_ruled keys stmts w t = list_all-map (is_ruled keys stmts w t) (ruled_of keys stmts w) (rivals keys stmts w t)
    ∙ all_members (λ v u. is_eq (tuple_cmp v u)) (is_eq_itself tuple_exact) (λ u. is_ruled keys stmts w t (ruled_of keys stmts w u)) (rivals keys stmts w t)
    (λ u m. and_from (list_any (makes_rival keys w t u) stmts) (is_ground keys stmts w u Plus (ground_of keys stmts w u Plus))
    (list_any_weaker (λ x. is_rival_near keys w t x && is_eq (tuple_cmp x.tuple u)) (makes_rival keys w t u)
    (λ x a. let k = and_parts (is_rival_near keys w t x) (is_eq (tuple_cmp x.tuple u)) a in
    and_from (is_rival_near keys w t x) (same_tuple x.tuple u) k.0 (sym (is_eq_tuple_cmp x.tuple u) ∙ k.1))
    stmts (sym (any_rival keys stmts w t (λ v. is_eq (tuple_cmp v u))) ∙ m))
    (same_ground_itself (ground_of keys stmts w u Plus)))

all_covered : (keys : ℕ → ℕ) (stmts : List Stmt) (w : List ℕ) (t : Tuple) → list_all (is_covered keys w t (map (ruled_of keys stmts w) (rivals keys stmts w t))) stmts ≡ true
all_covered keys stmts w t =
    let given = map (ruled_of keys stmts w) (rivals keys stmts w t) in
    all_members same_statement same_statement_itself (is_covered keys w t given) stmts (λ x m. elim (cases_Bool (is_rival_near keys w t x)) [
      | inl e ↦ or_right (not (is_rival_near keys w t x)) (is_among given x.tuple)
          (list_any-map (λ r. same_tuple r.tuple x.tuple) (ruled_of keys stmts w) (rivals keys stmts w t) ∙ any_rival keys stmts w t (λ u. same_tuple u x.tuple)
          ∙ list_any_weaker (λ y. same_statement y x) (λ y. is_rival_near keys w t y && same_tuple y.tuple x.tuple)
          (λ y a. let q : y ≡ x = (same_statement-Decides y x).0 a in
          and_from (is_rival_near keys w t y) (same_tuple y.tuple x.tuple) (ap (is_rival_near keys w t) q ∙ e) ((same_tuple-Decides y.tuple x.tuple).1 (ap (λ z. z.tuple) q))) stmts m)
      | inr e ↦ or_left (not (is_rival_near keys w t x)) (is_among given x.tuple) (not_from_false (is_rival_near keys w t x) e)
    ])

considered_itself : (keys : ℕ → ℕ) (stmts : List Stmt) (w : List ℕ) (t : Tuple) (s : Sign) → are_considered keys stmts w t s (considered keys stmts w t s) ≡ true
considered_itself keys stmts w t Plus = refl
considered_itself keys stmts w t Minus =
    let given = map (ruled_of keys stmts w) (rivals keys stmts w t) in
    and_from (ascending ruled_cmp given) (list_all (is_ruled keys stmts w t) given && list_all (is_covered keys w t given) stmts)
    (ascending_tuples given ∙ ap (ascending tuple_cmp) (tuples_again keys stmts w (rivals keys stmts w t))
    ∙ set_is_ascending tuple_exact (map (λ x. x.tuple) (filter (is_rival_near keys w t) stmts)))
    (and_from (list_all (is_ruled keys stmts w t) given) (list_all (is_covered keys w t given) stmts) (all_ruled keys stmts w t) (all_covered keys stmts w t))

-- the certificate of a signed tuple that is not stated is accepted, whatever is found of its rivals
other_accepted : (keys : ℕ → ℕ) (stmts : List Stmt) (w : List ℕ) (t : Tuple) (s : Sign) (o : Option Ruled) → find is_held (considered keys stmts w t s) ≡ o
    → is_found (ground_of keys stmts w t s) ≡ false → accepts keys stmts w t s (other_or o (ground_of keys stmts w t s) (considered keys stmts w t s)) ≡ true
other_accepted keys stmts w t Plus (Some r) e n = cc
other_accepted keys stmts w t Minus (Some r) e n =
    let k = held_is_rival keys stmts w t r e in
    and_from (clash keys t Plus r.tuple Plus) (is_held r && (is_ground keys stmts w r.tuple Plus r.reason && not (stated keys stmts w t Minus))) k.0
    (and_from (is_held r) (is_ground keys stmts w r.tuple Plus r.reason && not (stated keys stmts w t Minus)) k.1
    (and_from (is_ground keys stmts w r.tuple Plus r.reason) (not (stated keys stmts w t Minus)) k.2
    (not_from_false (stated keys stmts w t Minus) (sym (stated_is_found keys stmts w t Minus) ∙ n))))
other_accepted keys stmts w t s None e n =
    let own = ground_of keys stmts w t s in
    let all = considered keys stmts w t s in
    and_from (not (is_found own)) (is_ground keys stmts w t s own && (not (list_any is_held all) && are_considered keys stmts w t s all)) (not_from_false (is_found own) n)
    (and_from (is_ground keys stmts w t s own) (not (list_any is_held all) && are_considered keys stmts w t s all) (same_ground_itself own)
    (and_from (not (list_any is_held all)) (are_considered keys stmts w t s all)
    (not_from_false (list_any is_held all) (sym (find_some is_held all) ∙ ap is_some e))
    (considered_itself keys stmts w t s)))

pub certificate_is_accepted : CertificateIsAccepted
certificate_is_accepted keys stmts w t s =
    let own = ground_of keys stmts w t s in
    let all = considered keys stmts w t s in
    elim (cases_Bool (is_found own)) [
      | inl e ↦ ap (accepts keys stmts w t s) (why_if_found own all e) ∙ and_from (is_found own) (same_ground own own) e (same_ground_itself own)
      | inr e ↦ ap (accepts keys stmts w t s) (why_if_not own all e) ∙ other_accepted keys stmts w t s (find is_held all) refl e
    ]

pub check_is_exact : CheckIsExact
check_is_exact keys stmts h w t s y = (accepted_is keys stmts h w t s y, (λ e. ap (accepts keys stmts w t s) e ∙ certificate_is_accepted keys stmts w t s))

pub accepted_is_belief : AcceptedIsBelief
accepted_is_belief keys stmts h w t s y e = ap says (accepted_is keys stmts h w t s y e) ∙ says_is_belief keys stmts w t s
