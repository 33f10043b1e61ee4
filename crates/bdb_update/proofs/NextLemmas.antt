-- A base with statements of one path in place of others: when it is valid, and how many tuples it has.
use Rattle.std.proofs.Common.{◌≡◌, ◌∙◌, ℕ, ◌+◌, ◌≤◌, Bool, true, false, not, ◌&&◌, ◌||◌, List, [], ◌∷◌, ◌++◌, None, refl, ap, sym, subst, inl, inr, arith, filter, length, map}
use Rattle.std.specs.Bool.{Decides}
use Rattle.std.specs.List.{list_any, list_all}
use Rattle.std.specs.Ordering.{is_eq}
use Rattle.std.proofs.lemmas.Bool.{cases_Bool, and_parts, and_from, and_left, or_cases, or_from, or_left, or_right, not-true, not_from_false, false≢true, false_from_ne_true, le-leb, leb-true}
use Rattle.std.proofs.lemmas.List.Folds.{list_any-append}
use Rattle.bdb_base.specs.declared.kinds.Catalog.{Catalog}
use Rattle.bdb_base.specs.declared.kinds.Stmt.{Stmt}
use Rattle.bdb_base.specs.declared.tuple.Tuple.{Tuple}
use Rattle.bdb_base.specs.Bases.{IsValid, belongs, distinct_count, has_tuple, key_lengths, stands, tuple_count, world_count, with_statement, without_statement}
use Rattle.bdb_base.specs.Changes.{with_statements, first_clashing, without_statements}
use Rattle.bdb_base.specs.Clash.{clash}
use Rattle.bdb_base.specs.Limits.{most_statements, most_tuples, most_worlds}
use Rattle.bdb_base.specs.Order.{statement_cmp}
use Rattle.bdb_base.specs.OrderLemmas.{statement_exact}
use Rattle.bdb_base.specs.Same.{same_path, same_tuple}
use Rattle.bdb_base.specs.SameLemmas.{same_path-Decides, same_tuple-Decides}
use Rattle.bdb_base.specs.Segments.{is_prefix}
use Rattle.bdb_base.specs.SortedSet.{ascending}
use Rattle.bdb_base.specs.States.{is_state, stated_prefixes}
use Rattle.bdb_base.specs.Worlds.{contradicted}
use Rattle.bdb_base.proofs.BaseLemmas.{filter_is_valid, take_is_valid}
use Rattle.bdb_base.proofs.ClashLemmas.{turned}
use Rattle.bdb_base.proofs.CountLemmas.{list_any-map, distinct_count-le, distinct_count-same, one_unless}
use Rattle.bdb_base.proofs.ListLemmas.{list_all_weaker, list_all_both, list_any_fails, filter_kept_one, filter_dropped_one, filter_same, or_false}
use Rattle.bdb_base.proofs.SetLemmas.{put_keeps_order, filter_keeps_order, members_make_set, is_eq-Equal}
use Rattle.bdb_base.proofs.UpdateLemmas.{list_any-with, list_all-with, with_keeps_order, none_passes, is_free, is_free_at, is_free_elsewhere, free_everywhere, without_keeps_order}
use Rattle.bdb_base.proofs.FindLemmas.{list_any-filter}
use Rattle.bdb_base.proofs.BoolLemmas.{and_false, or_true}
use Rattle.bdb_paths.proofs.StateLemmas.{state_is_listed}
use Rattle.bdb_update.specs.Calls.{none_comes_again}
use Rattle.bdb_update.specs.Reached.{told_elsewhere, lost_of, fresh_of}
use Rattle.bdb_update.proofs.ReachedLemmas.{any_left, length_left, length_with}

-- ---- a part of a valid base is valid

pub drops_are_valid : (c : Catalog) (stmts gone : List Stmt) → IsValid c stmts → IsValid c (without_statements stmts gone)
drops_are_valid c stmts [] v = v
drops_are_valid c stmts (x ∷ gone) v = drops_are_valid c (without_statement stmts x) gone (take_is_valid c stmts x v)

-- statements in order, all of which stand in a valid base, are those of one
part_is_valid : (c : Catalog) (xs ys : List Stmt) → ascending statement_cmp xs ≡ true → ((z : Stmt) → stands xs z ≡ true → stands ys z ≡ true) → IsValid c ys → IsValid c xs
part_is_valid c xs ys s sub v =
    let q : Stmt → Bool = stands xs in
    let o = filter_keeps_order statement_exact q ys v.stmts.sorted in
    let same : filter q ys ≡ xs = members_make_set statement_exact (filter q ys) xs o s (λ z. list_any-filter (λ y. is_eq (statement_cmp y z)) q ys ∙ both z) in
    subst (IsValid c) same (record { catalog = v.catalog; stmts = filter_is_valid c ys q v.stmts o })
  where
    there : (z : Stmt) (zs : List Stmt) → list_any (λ y. stands xs y && is_eq (statement_cmp y z)) zs ≡ true → stands xs z ≡ true
    there z [] e = absurd (false≢true e)
    there z (y ∷ zs) e = elim (or_cases (stands xs y && is_eq (statement_cmp y z)) (list_any (λ u. stands xs u && is_eq (statement_cmp u z)) zs) e) [
      | inl a ↦ let k = and_parts (stands xs y) (is_eq (statement_cmp y z)) a in ap (stands xs) (sym (statement_exact.exact y z (is_eq-Equal (statement_cmp y z) k.1))) ∙ k.0
      | inr a ↦ there z zs a
    ]

    here : (z : Stmt) (zs : List Stmt) → stands xs z ≡ true → stands zs z ≡ true → list_any (λ y. stands xs y && is_eq (statement_cmp y z)) zs ≡ true
    here z [] h e = absurd (false≢true e)
    here z (y ∷ zs) h e = elim (or_cases (is_eq (statement_cmp y z)) (stands zs z) e) [
      | inl a ↦ or_left (stands xs y && is_eq (statement_cmp y z)) (list_any (λ u. stands xs u && is_eq (statement_cmp u z)) zs)
          (and_from (stands xs y) (is_eq (statement_cmp y z)) (ap (stands xs) (statement_exact.exact y z (is_eq-Equal (statement_cmp y z) a)) ∙ h) a)
      | inr a ↦ or_right (stands xs y && is_eq (statement_cmp y z)) (list_any (λ u. stands xs u && is_eq (statement_cmp u z)) zs) (here z zs h a)
    ]

    both : (z : Stmt) → list_any (λ y. stands xs y && is_eq (statement_cmp y z)) ys ≡ stands xs z
    both z = elim (cases_Bool (stands xs z)) [
      | inl e ↦ here z ys e (sub z e) ∙ sym e
      | inr e ↦ false_from_ne_true (list_any (λ y. stands xs y && is_eq (statement_cmp y z)) ys) (λ h. false≢true (sym e ∙ there z ys h)) ∙ sym e
    ]

-- a base is valid with the first of statements with all of which it is
pub first_is_valid : (c : Catalog) (xs : List Stmt) (x : Stmt) (come : List Stmt) → ascending statement_cmp xs ≡ true → IsValid c (with_statements xs (x ∷ come)) → IsValid c (with_statement xs x)
first_is_valid c xs x come s v = part_is_valid c (with_statement xs x) (with_statements (with_statement xs x) come) (put_keeps_order statement_exact xs x s)
    (λ z e. list_any-with (λ y. is_eq (statement_cmp y z)) (with_statement xs x) come ∙ or_left (stands (with_statement xs x) z) (stands come z) e) v

-- ---- statements in place of others

-- a statement that is free stays so elsewhere than at w, where all that come are at w
stays_free : (keys : ℕ → ℕ) (left come : List Stmt) (w : List ℕ) → list_all (λ y. same_path y.path w) come ≡ true
    → (x : Stmt) → is_free keys left x ≡ true → is_free_elsewhere keys (with_statements left come) w x ≡ true
stays_free keys left come w here x h =
    let next = with_statements left come in
    let p : Stmt → Bool = λ y. same_path y.path x.path && clash keys x.tuple x.sign y.tuple y.sign in
    elim (cases_Bool (same_path x.path w)) [
      | inl a ↦ or_left (same_path x.path w) (is_free keys next x) a
      | inr b ↦
          let before : list_any p left ≡ false = not-true (contradicted keys left x.path x.tuple x.sign) h in
          let came : list_any p come ≡ false = list_any_fails (λ y. same_path y.path w) p
          (λ y k. and_left (same_path y.path x.path) (clash keys x.tuple x.sign y.tuple y.sign)
          (ap (λ u. same_path u x.path) ((same_path-Decides y.path w).0 k) ∙ turned same_path same_path-Decides w x.path ∙ b)) come here in
          or_right (same_path x.path w) (is_free keys next x) (not_from_false (contradicted keys next x.path x.tuple x.sign)
          (list_any-with p left come ∙ or_from (list_any p left) (list_any p come) before came))
    ]

-- statements of a path may come in place of others of it
pub record MayReplace (c : Catalog) (stmts : List Stmt) (w : List ℕ) (gone come : List Stmt) : Type 0 where
  pub valid : IsValid c stmts
  pub gone_here : list_all (λ x. same_path x.path w) gone ≡ true
  pub stand : list_all (stands stmts) gone ≡ true
  pub apart : none_comes_again gone ≡ true
  pub come_here : list_all (λ x. same_path x.path w) come ≡ true
  pub belong : list_all (belongs c) come ≡ true
  pub no_more : length come ≤ length gone

module _ (c : Catalog) (stmts : List Stmt) (w : List ℕ) (gone come : List Stmt) (may : MayReplace c stmts w gone come) where
  abbrev left : List Stmt
  left = without_statements stmts gone

  abbrev next : List Stmt
  next = with_statements left come

  left_valid : IsValid c left
  left_valid = drops_are_valid c stmts gone may.valid

  any_next : (p : Stmt → Bool) → list_any p next ≡ (list_any p left || list_any p come)
  any_next p = list_any-with p left come

  any_before : (p : Stmt → Bool) → list_any p stmts ≡ (list_any p left || list_any p gone)
  any_before p = any_left p stmts gone may.valid.stmts.sorted may.stand may.apart

  -- what is found among those that come, by path alone, is found among those that go
  came_gone : (p : Stmt → Bool) → ((x y : Stmt) → x.path ≡ y.path → p x ≡ true → p y ≡ true) → list_any p come ≡ true → list_any p gone ≡ true
  came_gone p f e = by come gone may.come_here may.gone_here may.no_more e
    where
      by : (come gone : List Stmt) → list_all (λ x. same_path x.path w) come ≡ true → list_all (λ x. same_path x.path w) gone ≡ true → length come ≤ length gone → list_any p come ≡ true → list_any p gone ≡ true
      by [] gone a b l e = absurd (false≢true e)
      by (x ∷ come) [] a b l e = absurd (omega arith)
      by (x ∷ come) (y ∷ gone) a b l e =
          let k = and_parts (same_path x.path w) (list_all (λ z. same_path z.path w) come) a in
          let m = and_parts (same_path y.path w) (list_all (λ z. same_path z.path w) gone) b in
          let g = (same_path-Decides y.path w).0 m.0 in
          or_left (p y) (list_any p gone) (first (x ∷ come) a e y g)
        where
          first : (xs : List Stmt) → list_all (λ z. same_path z.path w) xs ≡ true → list_any p xs ≡ true → (y : Stmt) → y.path ≡ w → p y ≡ true
          first [] a e y g = absurd (false≢true e)
          first (x ∷ xs) a e y g =
              let k = and_parts (same_path x.path w) (list_all (λ z. same_path z.path w) xs) a in
              elim (or_cases (p x) (list_any p xs) e) [
                | inl h ↦ f x y ((same_path-Decides x.path w).0 k.0 ∙ sym g) h
                | inr h ↦ first xs k.1 h y g
              ]

  no_new_state : (v : List ℕ) → is_state next v ≡ true → is_state stmts v ≡ true
  no_new_state [] e = refl
  no_new_state (i ∷ v) e =
      let p : Stmt → Bool = λ x. is_prefix (i ∷ v) x.path in
      elim (or_cases (list_any p left) (list_any p come) (sym (any_next p) ∙ e)) [
        | inl a ↦ any_before p ∙ or_left (list_any p left) (list_any p gone) a
        | inr a ↦ any_before p ∙ or_right (list_any p left) (list_any p gone) (came_gone p (λ x y s h. ap (is_prefix (i ∷ v)) (sym s) ∙ h) a)
      ]

  pub no_more_worlds : world_count next ≤ world_count stmts
  no_more_worlds = distinct_count-le same_path same_path-Decides (stated_prefixes next) (stated_prefixes stmts)
      (λ v e. state_is_listed stmts v ∙ no_new_state v (sym (state_is_listed next v) ∙ e))

  pub no_more_stmts : length next ≤ length stmts
  no_more_stmts =
      let a = length_left stmts gone may.valid.stmts.sorted may.stand may.apart in
      let b = length_with left come (without_keeps_order stmts gone may.valid.stmts.sorted) in
      let l = may.no_more in
      omega arith

  pub next_is_valid : first_clashing (key_lengths c.rels) next w ≡ None → tuple_count next ≤ most_tuples → IsValid c next
  next_is_valid none tuples =
      let keys = key_lengths c.rels in
      let l = left_valid.stmts in
      let a = no_more_worlds in
      let b = leb-true (world_count stmts) most_worlds may.valid.stmts.few_worlds in
      let d = no_more_stmts in
      let e = leb-true (length stmts) most_statements may.valid.stmts.few_stmts in
      record {
        catalog = may.valid.catalog;
        stmts = record {
          sorted = with_keeps_order left come l.sorted;
          belong = list_all-with (belongs c) left come l.belong may.belong;
          no_clash = list_all_both (is_free_at keys next w) (is_free_elsewhere keys next w) (is_free keys next) (free_everywhere keys next w) next
              (none_passes (λ x. same_path x.path w && contradicted keys next w x.tuple x.sign) next none)
              (list_all-with (is_free_elsewhere keys next w) left come
              (list_all_weaker (is_free keys left) (is_free_elsewhere keys next w) (stays_free keys left come w may.come_here) left l.no_clash)
              (list_all_weaker (λ y. same_path y.path w) (is_free_elsewhere keys next w) (λ y k. or_left (same_path y.path w) (is_free keys next y) k) come may.come_here));
          few_stmts = le-leb (length next) most_statements (omega arith);
          few_tuples = le-leb (tuple_count next) most_tuples tuples;
          few_worlds = le-leb (world_count next) most_worlds (omega arith);
        };
      }

-- ---- tuples

module _ {X : Type 0} (same : X → X → Bool) (decides : (a b : X) → Decides (same a b) (a ≡ b)) where
  -- an item is among those that pass a test where it passes and is among all
  any_kept : (q : X → Bool) (x : X) (xs : List X) → list_any (same x) (filter q xs) ≡ (q x && list_any (same x) xs)
  any_kept q x [] = sym (and_false (q x))
  any_kept q x (y ∷ ys) = elim (cases_Bool (q y)) [
    | inl e ↦ ap (list_any (same x)) (filter_kept_one q y ys e) ∙ ap (λ b. same x y || b) (any_kept q x ys) ∙ elim (cases_Bool (same x y)) [
      | inl s ↦ ap (λ b. b || (q x && list_any (same x) ys)) s ∙ sym (ap (λ b. b && (same x y || list_any (same x) ys)) (ap q ((decides x y).0 s) ∙ e) ∙ ap (λ b. b || list_any (same x) ys) s)
      | inr s ↦ ap (λ b. b || (q x && list_any (same x) ys)) s ∙ sym (ap (λ b. q x && (b || list_any (same x) ys)) s)
    ]
    | inr e ↦ ap (list_any (same x)) (filter_dropped_one q y ys e) ∙ any_kept q x ys ∙ elim (cases_Bool (same x y)) [
      | inl s ↦ let f : q x ≡ false = ap q ((decides x y).0 s) ∙ e in ap (λ b. b && list_any (same x) ys) f ∙ sym (ap (λ b. b && (same x y || list_any (same x) ys)) f)
      | inr s ↦ sym (ap (λ b. q x && (b || list_any (same x) ys)) s)
    ]
  ]

  abbrev not_in : List X → X → Bool
  not_in ys x = not (list_any (same x) ys)

  -- the count of both together, by those of one and the others of the other
  count_both : (xs ys : List X) → distinct_count same (xs ++ ys) ≡ distinct_count same (filter (not_in ys) xs) + distinct_count same ys
  count_both [] ys = omega arith
  count_both (x ∷ xs) ys =
      let ih = count_both xs ys in
      let a : one_unless (list_any (same x) (xs ++ ys)) ≡ one_unless (list_any (same x) xs || list_any (same x) ys) = ap one_unless (list_any-append (same x) xs ys) in
      elim (cases_Bool (list_any (same x) ys)) [
        | inl e ↦
            let b : one_unless (list_any (same x) xs || list_any (same x) ys) ≡ 0 = ap (λ z. one_unless (list_any (same x) xs || z)) e ∙ ap one_unless (or_true (list_any (same x) xs)) in
            let f : distinct_count same (filter (not_in ys) (x ∷ xs)) ≡ distinct_count same (filter (not_in ys) xs) = ap (distinct_count same) (filter_dropped_one (not_in ys) x xs (ap not e)) in
            omega arith
        | inr e ↦
            let b : one_unless (list_any (same x) xs || list_any (same x) ys) ≡ one_unless (list_any (same x) xs) = ap one_unless (ap (λ z. list_any (same x) xs || z) e ∙ or_false (list_any (same x) xs)) in
            let f : distinct_count same (filter (not_in ys) (x ∷ xs)) ≡ one_unless (list_any (same x) (filter (not_in ys) xs)) + distinct_count same (filter (not_in ys) xs) =
            ap (distinct_count same) (filter_kept_one (not_in ys) x xs (ap not e)) in
            let g : one_unless (list_any (same x) (filter (not_in ys) xs)) ≡ one_unless (list_any (same x) xs) =
            ap one_unless (any_kept (not_in ys) x xs ∙ ap (λ z. not z && list_any (same x) xs) e) in
            omega arith
      ]

  -- each of two counts, with the others of the other, is that of both
  count_swapped : (xs ys : List X) → distinct_count same (filter (not_in ys) xs) + distinct_count same ys ≡ distinct_count same (filter (not_in xs) ys) + distinct_count same xs
  count_swapped xs ys =
      sym (count_both xs ys)
      ∙ distinct_count-same same decides (xs ++ ys) (ys ++ xs) (λ z. list_any-append (same z) xs ys ∙ swapped (list_any (same z) xs) (list_any (same z) ys) ∙ sym (list_any-append (same z) ys xs))
      ∙ count_both ys xs
    where
      swapped : (a b : Bool) → (a || b) ≡ (b || a)
      swapped true true = refl
      swapped true false = refl
      swapped false true = refl
      swapped false false = refl

abbrev told : List Stmt → List Tuple
told stmts = map (λ x. x.tuple) stmts

has_told_tuple : (stmts : List Stmt) (u : Tuple) → list_any (same_tuple u) (told stmts) ≡ has_tuple stmts u
has_told_tuple stmts u = list_any-map (same_tuple u) (λ x. x.tuple) stmts

-- statements kept by their tuples have the tuples kept
told_kept : (q : Tuple → Bool) (xs : List Stmt) → told (filter (λ x. q x.tuple) xs) ≡ filter q (told xs)
told_kept q [] = refl
told_kept q (x ∷ xs) = elim (cases_Bool (q x.tuple)) [
  | inl e ↦ ap told (filter_kept_one (λ y. q y.tuple) x xs e) ∙ ap (λ ys. x.tuple ∷ ys) (told_kept q xs) ∙ sym (filter_kept_one q x.tuple (told xs) e)
  | inr e ↦ ap told (filter_dropped_one (λ y. q y.tuple) x xs e) ∙ told_kept q xs ∙ sym (filter_dropped_one q x.tuple (told xs) e)
]

-- of all tuples, those that are not in another list are as many as those of a part, where only the part's may be missing there
count_of_part : (q : Tuple → Bool) (all part : List Stmt) → ((u : Tuple) → (q u && has_tuple all u) ≡ (q u && has_tuple part u))
    → distinct_count same_tuple (filter q (told all)) ≡ tuple_count (filter (λ x. q x.tuple) part)
count_of_part q all part h =
    distinct_count-same same_tuple same_tuple-Decides (filter q (told all)) (filter q (told part))
    (λ u. any_kept same_tuple same_tuple-Decides q u (told all) ∙ ap (λ b. q u && b) (has_told_tuple all u) ∙ h u
    ∙ sym (any_kept same_tuple same_tuple-Decides q u (told part) ∙ ap (λ b. q u && b) (has_told_tuple part u)))
    ∙ ap (distinct_count same_tuple) (sym (told_kept q part))

module _ (c : Catalog) (stmts : List Stmt) (w : List ℕ) (gone come : List Stmt) (may : MayReplace c stmts w gone come) where
  abbrev after : List Stmt
  after = with_statements (without_statements stmts gone) come

  -- statements of another path stay
  elsewhere_stays : (p : Stmt → Bool) → list_any (λ x. not (same_path x.path w) && p x) after ≡ list_any (λ x. not (same_path x.path w) && p x) stmts
  elsewhere_stays p =
      let q : Stmt → Bool = λ x. not (same_path x.path w) && p x in
      let l = list_any q (without_statements stmts gone) in
      any_next c stmts w gone come may q
      ∙ ap (λ b. l || b) (none come may.come_here ∙ sym (none gone may.gone_here))
      ∙ sym (any_before c stmts w gone come may q)
    where
      none : (xs : List Stmt) → list_all (λ x. same_path x.path w) xs ≡ true → list_any (λ x. not (same_path x.path w) && p x) xs ≡ false
      none xs h = list_any_fails (λ x. same_path x.path w) (λ x. not (same_path x.path w) && p x) (λ x e. ap (λ b. not b && p x) e) xs h

  -- a tuple is told afterwards at the path or elsewhere
  pub told_after : (reached : List Stmt) → reached ≡ filter (λ x. same_path x.path w) after → (u : Tuple) → (has_tuple reached u || told_elsewhere stmts w u) ≡ has_tuple after u
  told_after reached is u =
      ap (λ xs. has_tuple xs u || told_elsewhere stmts w u) is
      ∙ ap (λ b. b || told_elsewhere stmts w u) (list_any-filter (λ x. same_tuple u x.tuple) (λ x. same_path x.path w) after)
      ∙ ap (λ b. list_any (λ x. same_path x.path w && same_tuple u x.tuple) after || b) (sym (elsewhere_stays (λ x. same_tuple u x.tuple)))
      ∙ split after
    where
      both : (a b : Bool) (c d : Bool) → ((a && b) || c) || ((not a && b) || d) ≡ b || (c || d)
      both true true c d = refl
      both true false c d = refl
      both false true true d = refl
      both false true false d = refl
      both false false c d = refl

      split : (xs : List Stmt) → (list_any (λ x. same_path x.path w && same_tuple u x.tuple) xs || list_any (λ x. not (same_path x.path w) && same_tuple u x.tuple) xs) ≡ has_tuple xs u
      split [] = refl
      split (x ∷ xs) =
          both (same_path x.path w) (same_tuple u x.tuple) (list_any (λ y. same_path y.path w && same_tuple u y.tuple) xs) (list_any (λ y. not (same_path y.path w) && same_tuple u y.tuple) xs)
          ∙ ap (λ b. same_tuple u x.tuple || b) (split xs)

  -- how many tuples there are afterwards: fewer by those lost, more by the fresh ones
  pub tuples_after : (reached : List Stmt) → reached ≡ filter (λ x. same_path x.path w) after
      → tuple_count after + tuple_count (lost_of stmts w reached gone) ≡ tuple_count stmts + tuple_count (fresh_of stmts come)
  tuples_after reached is =
      let lost : Tuple → Bool = λ u. not (has_tuple after u) in
      let fresh : Tuple → Bool = λ u. not (has_tuple stmts u) in
      let L = has_tuple (without_statements stmts gone) in
      let a : distinct_count same_tuple (filter lost (told stmts)) ≡ tuple_count (filter (λ x. lost x.tuple) gone) = count_of_part lost stmts gone (λ u.
      ap (λ b. not b && has_tuple stmts u) (any_next c stmts w gone come may (λ x. same_tuple u x.tuple))
      ∙ ap (λ b. not (L u || has_tuple come u) && b) (any_before c stmts w gone come may (λ x. same_tuple u x.tuple))
      ∙ parts (L u) (has_tuple come u) (has_tuple gone u)
      ∙ sym (ap (λ b. not b && has_tuple gone u) (any_next c stmts w gone come may (λ x. same_tuple u x.tuple)))) in
      let b : distinct_count same_tuple (filter fresh (told after)) ≡ tuple_count (filter (λ x. fresh x.tuple) come) = count_of_part fresh after come (λ u.
      ap (λ b. not b && has_tuple after u) (any_before c stmts w gone come may (λ x. same_tuple u x.tuple))
      ∙ ap (λ b. not (L u || has_tuple gone u) && b) (any_next c stmts w gone come may (λ x. same_tuple u x.tuple))
      ∙ parts (L u) (has_tuple gone u) (has_tuple come u)
      ∙ sym (ap (λ b. not b && has_tuple come u) (any_before c stmts w gone come may (λ x. same_tuple u x.tuple)))) in
      let d : distinct_count same_tuple (filter (λ u. not (list_any (same_tuple u) (told after))) (told stmts)) ≡ distinct_count same_tuple (filter lost (told stmts)) =
      ap (distinct_count same_tuple) (filter_same (λ u. not (list_any (same_tuple u) (told after))) lost (λ u. ap not (has_told_tuple after u)) (told stmts)) in
      let e : distinct_count same_tuple (filter (λ u. not (list_any (same_tuple u) (told stmts))) (told after)) ≡ distinct_count same_tuple (filter fresh (told after)) =
      ap (distinct_count same_tuple) (filter_same (λ u. not (list_any (same_tuple u) (told stmts))) fresh (λ u. ap not (has_told_tuple stmts u)) (told after)) in
      let f : tuple_count (lost_of stmts w reached gone) ≡ tuple_count (filter (λ x. lost x.tuple) gone) =
      ap tuple_count (filter_same (λ x. not (has_tuple reached x.tuple || told_elsewhere stmts w x.tuple)) (λ x. lost x.tuple) (λ x. ap not (told_after reached is x.tuple)) gone) in
      let s = count_swapped same_tuple same_tuple-Decides (told stmts) (told after) in
      omega arith
    where
      parts : (l c g : Bool) → (not (l || c) && (l || g)) ≡ (not (l || c) && g)
      parts true c g = refl
      parts false c g = refl
