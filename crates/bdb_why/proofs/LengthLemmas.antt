-- Certificates of one tuple depend on the length of its relation's key alone.
use Rattle.std.proofs.Common.{◌≡◌, ◌∙◌, ℕ, ◌+◌, true, not, ◌&&◌, ◌||◌, nat_eq, List, [], ◌∷◌, map, inl, inr, refl, ap, sym}
use Rattle.std.specs.List.{list_any, list_all}
use Rattle.std.proofs.lemmas.Bool.{cases_Bool, and_parts, eqb-true}
use Rattle.bdb_base.specs.declared.kinds.Sign.{Sign}
use Rattle.bdb_base.specs.declared.kinds.Sign.TheVariants.{Plus, Minus}
use Rattle.bdb_base.specs.declared.kinds.Stmt.{Stmt}
use Rattle.bdb_base.specs.declared.tuple.Tuple.{Tuple}
use Rattle.bdb_base.specs.Clash.{clash, key_of, same_key}
use Rattle.bdb_base.specs.Order.{tuple_cmp}
use Rattle.bdb_base.specs.Same.{same_sign, same_tuple, same_values}
use Rattle.bdb_base.specs.SameLemmas.{same_tuple-Decides}
use Rattle.bdb_base.specs.Segments.{is_suffix}
use Rattle.bdb_base.specs.SortedSet.{ascending, sorted_set}
use Rattle.bdb_base.specs.Worlds.{explicit, least_clash, stated}
use Rattle.bdb_base.proofs.ClashLemmas.{clash_by_length}
use Rattle.bdb_base.proofs.WorldLemmas.{found_by}
use Rattle.bdb_base.proofs.ListLemmas.{list_all_same, list_any_same, filter_same}
use Rattle.bdb_model.proofs.LengthLemmas.{clash_is_within, least_clash_by_length, stated_by_length}
use Rattle.bdb_update.proofs.ClashingLemmas.{clash_is_of_key}
use Rattle.bdb_why.specs.declared.kinds.Ground.{Ground}
use Rattle.bdb_why.specs.declared.kinds.Ground.TheVariants.{Nowhere}
use Rattle.bdb_why.specs.declared.kinds.Ruled.{Ruled}
use Rattle.bdb_why.specs.declared.kinds.Why.{Why}
use Rattle.bdb_why.specs.declared.kinds.Why.TheVariants as why
use Rattle.bdb_why.specs.Accepting.{accepts, are_considered, is_among, is_covered, is_ground, is_ruled, makes_rival, refutes, ruled_cmp, same_ground}
use Rattle.bdb_why.specs.Certificates.{considered, is_held, is_rival_near, rivals, ruled_of, why_by, why_of}
use Rattle.bdb_why.specs.Grounds.{ground_by, ground_from, ground_of, is_found}
use Rattle.bdb_why.proofs.FindLemmas.{map_same_all}
use Rattle.bdb_why.proofs.RivalLemmas.{rivals_all}

ground_by_length : (keys : ℕ → ℕ) (stmts : List Stmt) (level : ℕ) (w : List ℕ) (t : Tuple) (s : Sign) → ground_from (λ _. keys t.rel) stmts level w t s ≡ ground_from keys stmts level w t s
ground_by_length keys stmts level [] t s = ap (λ x. ground_by (explicit stmts [] t s) x level Nowhere) (least_clash_by_length keys stmts [] t s)
ground_by_length keys stmts level (i ∷ w) t s =
    ap (λ x. ground_by (explicit stmts (i ∷ w) t s) x level (ground_from (λ _. keys t.rel) stmts (level + 1) w t s)) (least_clash_by_length keys stmts (i ∷ w) t s)
    ∙ ap (ground_by (explicit stmts (i ∷ w) t s) (least_clash keys stmts (i ∷ w) t s) level) (ground_by_length keys stmts (level + 1) w t s)

rival_by_length : (keys : ℕ → ℕ) (w : List ℕ) (t : Tuple) (x : Stmt) → is_rival_near (λ _. keys t.rel) w t x ≡ is_rival_near keys w t x
rival_by_length keys w t x = ap (λ b. is_suffix x.path w && (same_sign x.sign Plus && b)) (clash_by_length keys t Plus x.tuple Plus)

module _ (keys : ℕ → ℕ) (stmts : List Stmt) (w : List ℕ) (t : Tuple) where
  abbrev one : ℕ → ℕ
  one _ = keys t.rel

  -- a ground of another tuple of the relation
  ground_within : (u : Tuple) (s : Sign) (g : Ground) → t.rel ≡ u.rel → is_ground one stmts w u s g ≡ is_ground keys stmts w u s g
  ground_within u s g e = ap (λ r. is_ground (λ _. keys r) stmts w u s g) e ∙ ap (same_ground g) (ground_by_length keys stmts 0 w u s)

  refutes_by_length : (s : Sign) (r : Ruled) → refutes one stmts w t s r ≡ refutes keys stmts w t s r
  refutes_by_length Plus r = refl
  refutes_by_length Minus r =
      let here = is_held r && (is_ground one stmts w r.tuple Plus r.reason && not (stated one stmts w t Minus)) in
      let there = is_held r && (is_ground keys stmts w r.tuple Plus r.reason && not (stated keys stmts w t Minus)) in
      ap (λ b. b && here) (clash_by_length keys t Plus r.tuple Plus)
      ∙ elim (cases_Bool (clash keys t Plus r.tuple Plus)) [
        | inl e ↦
            ap (λ b. clash keys t Plus r.tuple Plus && (is_held r && (b && not (stated one stmts w t Minus)))) (ground_within r.tuple Plus r.reason (clash_is_within keys t r.tuple e))
            ∙ ap (λ b. clash keys t Plus r.tuple Plus && (is_held r && (is_ground keys stmts w r.tuple Plus r.reason && not b))) (stated_by_length keys stmts w t Minus)
        | inr e ↦ ap (λ b. b && here) e ∙ sym (ap (λ b. b && there) e)
      ]

  -- what some statement makes a rival is of the relation
  made_within : (u : Tuple) → list_any (makes_rival keys w t u) stmts ≡ true → t.rel ≡ u.rel
  made_within u e =
      let found = found_by (makes_rival keys w t u) stmts e in
      let x = found.0 in
      let parts = and_parts (is_rival_near keys w t x) (same_tuple x.tuple u) found.1 in
      let near = and_parts (is_suffix x.path w) (same_sign x.sign Plus && clash keys t Plus x.tuple Plus) parts.0 in
      let k = and_parts (same_sign x.sign Plus) (clash keys t Plus x.tuple Plus) near.1 in
      clash_is_within keys t x.tuple k.1 ∙ ap (λ v. v.rel) ((same_tuple-Decides x.tuple u).0 parts.1)

  ruled_by_length : (r : Ruled) → is_ruled one stmts w t r ≡ is_ruled keys stmts w t r
  ruled_by_length r =
      ap (λ b. b && is_ground one stmts w r.tuple Plus r.reason)
      (list_any_same (makes_rival one w t r.tuple) (makes_rival keys w t r.tuple) (λ x. ap (λ b. b && same_tuple x.tuple r.tuple) (rival_by_length keys w t x)) stmts)
      ∙ elim (cases_Bool (list_any (makes_rival keys w t r.tuple) stmts)) [
        | inl e ↦ ap (λ b. list_any (makes_rival keys w t r.tuple) stmts && b) (ground_within r.tuple Plus r.reason (made_within r.tuple e))
        | inr e ↦ ap (λ b. b && is_ground one stmts w r.tuple Plus r.reason) e ∙ sym (ap (λ b. b && is_ground keys stmts w r.tuple Plus r.reason) e)
      ]

  considered_by_length : (s : Sign) (others : List Ruled) → are_considered one stmts w t s others ≡ are_considered keys stmts w t s others
  considered_by_length Plus others = refl
  considered_by_length Minus others =
      ap (λ b. ascending ruled_cmp others && (b && list_all (is_covered one w t others) stmts)) (list_all_same (is_ruled one stmts w t) (is_ruled keys stmts w t) ruled_by_length others)
      ∙ ap (λ b. ascending ruled_cmp others && (list_all (is_ruled keys stmts w t) others && b))
      (list_all_same (is_covered one w t others) (is_covered keys w t others) (λ x. ap (λ b. not b || is_among others x.tuple) (rival_by_length keys w t x)) stmts)

  pub accepts_by_length : (s : Sign) (y : Why) → accepts one stmts w t s y ≡ accepts keys stmts w t s y
  accepts_by_length s (why.Stated g) = ap (λ b. is_found g && b) (ground_within t s g refl)
  accepts_by_length s (why.Other r) = refutes_by_length s r
  accepts_by_length s (why.Absent own others) =
      ap (λ b. not (is_found own) && (b && (not (list_any is_held others) && are_considered one stmts w t s others))) (ground_within t s own refl)
      ∙ ap (λ b. not (is_found own) && (is_ground keys stmts w t s own && (not (list_any is_held others) && b))) (considered_by_length s others)

  -- ---- the certificate itself

  rivals_by_length : rivals one stmts w t ≡ rivals keys stmts w t
  rivals_by_length = ap (λ xs. sorted_set tuple_cmp (map (λ x. x.tuple) xs)) (filter_same (is_rival_near one w t) (is_rival_near keys w t) (λ x. rival_by_length keys w t x) stmts)

  -- a tuple of the key has the same ground
  ground_of_key : (u : Tuple) → same_key keys t u ≡ true → ruled_of one stmts w u ≡ ruled_of keys stmts w u
  ground_of_key u k =
      let rel : t.rel ≡ u.rel = eqb-true t.rel u.rel (and_parts (nat_eq t.rel u.rel) (same_values (key_of keys t) (key_of keys u)) k).0 in
      ap (λ g. ruled u g) (ap (λ r. ground_from (λ _. keys r) stmts 0 w u Plus) rel ∙ ground_by_length keys stmts 0 w u Plus)
    where
      ruled : Tuple → Ground → Ruled
      ruled u g = record { tuple = u; reason = g }

  all_by_length : (s : Sign) → considered one stmts w t s ≡ considered keys stmts w t s
  all_by_length Plus = refl
  all_by_length Minus =
      ap (map (ruled_of one stmts w)) rivals_by_length
      ∙ map_same_all (ruled_of one stmts w) (ruled_of keys stmts w) (same_key keys t) ground_of_key (rivals keys stmts w t)
      (rivals_all keys stmts w t (same_key keys t) (λ u c. clash_is_of_key keys t u Plus Plus c))

  why_by_length : (s : Sign) → why_of one stmts w t s ≡ why_of keys stmts w t s
  why_by_length s =
      ap (λ g. why_by g (considered one stmts w t s)) (ground_by_length keys stmts 0 w t s) ∙ ap (why_by (ground_of keys stmts w t s)) (all_by_length s)

-- the same, from a length that is handed on
pub why_of_length : (keys : ℕ → ℕ) (n : ℕ) (stmts : List Stmt) (w : List ℕ) (t : Tuple) (s : Sign) → n ≡ keys t.rel → why_of (λ _. n) stmts w t s ≡ why_of keys stmts w t s
why_of_length keys n stmts w t s e = ap (λ k. why_of (λ _. k) stmts w t s) e ∙ why_by_length keys stmts w t s
