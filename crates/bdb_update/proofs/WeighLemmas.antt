-- What is told of a change of statements of one path is right.
use Rattle.std.proofs.Common.{◌≡◌, ◌∙◌, ℕ, ◌+◌, ◌≤◌, ◌<◌, Bool, true, false, List, [], ◌∷◌, length, refl, ap, sym, subst, inl, inr, Some, None, filter, arith}
use Rattle.std.specs.List.{list_all, AllByRecursion}
use Rattle.std.proofs.lemmas.Bool.{and_parts, and_from, cases_Bool, cases_lt, false≢true, leb-true, le-leb, lt-ltb}
use Rattle.bdb_base.specs.Bases.{Contents, IsValid, belongs, stands, tuple_count, key_lengths}
use Rattle.bdb_base.specs.Changes.{with_statements, first_clashing, without_statements}
use Rattle.bdb_base.specs.Limits.{most_tuples}
use Rattle.bdb_base.specs.Order.{statement_cmp}
use Rattle.bdb_base.specs.OrderLemmas.{statement_exact}
use Rattle.bdb_base.specs.Same.{same_path}
use Rattle.bdb_base.specs.SameLemmas.{same_path-Decides}
use Rattle.bdb_base.specs.SortedSet.{ascending}
use Rattle.bdb_base.specs.Alternation.{alternates}
use Rattle.bdb_base.specs.Bases.{is_user}
use Rattle.bdb_base.specs.States.{is_state}
use Rattle.bdb_base.specs.Worlds.{explicit}
use Rattle.bdb_base.specs.declared.kinds.Catalog.{Catalog}
use Rattle.bdb_base.specs.declared.kinds.RelDef.{RelDef}
use Rattle.bdb_base.specs.declared.kinds.Stmt.{Stmt}
use Rattle.bdb_base.proofs.ListLemmas.{filter_kept_one, filter_dropped_one}
use Rattle.bdb_base.proofs.SetLemmas.{filter_keeps_order}
use Rattle.bdb_base.proofs.UpdateLemmas.{with_keeps_order, without_keeps_order}
use Rattle.bdb_base.proofs.WorldLemmas.{valid_is_consistent, stands_is_explicit}
use Rattle.bdb_canon.specs.declared.sizes.Counts.{Counts}
use Rattle.bdb_keep.specs.Tables.{Tables}
use Rattle.bdb_tables.proofs.Fitting.{belonging_may_be}
use Rattle.bdb_update.specs.Calls.{MayChange, clash_within, with_others}
use Rattle.bdb_update.specs.Elsewhere.{MayBeTuples, are_at}
use Rattle.bdb_update.specs.Holding.{AreOfOnePath}
use Rattle.bdb_tables.specs.Lengths.{HaveKeyLengths}
use Rattle.bdb_update.specs.Keys.{keys_of}
use Rattle.bdb_update.specs.Reached.{HasState, SomeHasState, StandAt, at_path, lost_of, fresh_of}
use Rattle.bdb_update.specs.Weighing.{MayWeigh, SomeMayWeigh, IsWeight, Weighs, TellsRoom, have_room}
use Rattle.bdb_update.specs.declared.weighing.Weight.TheVariants.{Clashes, Fills, Fits}
use Rattle.bdb_update.proofs.NextLemmas.{MayReplace, tuples_after}
use Rattle.bdb_update.proofs.OneStored.{explicit_state}
use Rattle.bdb_update.proofs.ReachedLemmas.{first_at_path, reached_at}
use Rattle.bdb_update.proofs.ReplaceLemmas.{stands_belongs}
use Rattle.bdb_update.proofs.StageLemmas.{belongs_parts}

all_here : (w : List ℕ) (xs : List Stmt) → AllByRecursion (λ x. x.path ≡ w) xs → list_all (λ x. same_path x.path w) xs ≡ true
all_here w [] h = refl
all_here w (x ∷ xs) h = and_from (same_path x.path w) (list_all (λ y. same_path y.path w) xs) ((same_path-Decides x.path w).1 h.0) (all_here w xs h.1)

all_belong : (c : Catalog) (stmts xs : List Stmt) → list_all (belongs c) stmts ≡ true → list_all (stands stmts) xs ≡ true → list_all (belongs c) xs ≡ true
all_belong c stmts [] h e = refl
all_belong c stmts (x ∷ xs) h e =
    let k = and_parts (stands stmts x) (list_all (stands stmts) xs) e in
    and_from (belongs c x) (list_all (belongs c) xs) (stands_belongs c stmts x h k.0) (all_belong c stmts xs h k.1)

have_tuples : (b : Contents) (xs : List Stmt) → IsValid b.catalog b.stmts → list_all (belongs b.catalog) xs ≡ true → MayBeTuples xs
have_tuples b [] v e = tt
have_tuples b (x ∷ xs) v e =
    let k = and_parts (belongs b.catalog x) (list_all (belongs b.catalog) xs) e in
    ((belonging_may_be b.catalog x v.catalog k.0).tuple, have_tuples b xs v k.1)

-- statements of a path that may be changed may be put in place of others
pub may_replace : (t : Tables) (c : Counts) (w : List ℕ) (gone come : List Stmt) (b : Contents) → MayChange t c w gone come b → MayReplace b.catalog b.stmts w gone come
may_replace t c w gone come b m = record {
  valid = m.base.valid;
  gone_here = all_here w gone m.gone_here;
  stand = m.stand;
  apart = m.apart;
  come_here = all_here w come m.come_here;
  belong = m.belong;
  no_more = m.no_more;
}

-- those that go are at the path
stand_there : (stmts : List Stmt) (w : List ℕ) (xs : List Stmt) → AllByRecursion (λ x. x.path ≡ w) xs → list_all (stands stmts) xs ≡ true → are_at stmts w xs ≡ true
stand_there stmts w [] h e = refl
stand_there stmts w (x ∷ xs) h e =
    let k = and_parts (stands stmts x) (list_all (stands stmts) xs) e in
    and_from (explicit stmts w x.tuple x.sign) (are_at stmts w xs) (ap (λ v. explicit stmts v x.tuple x.sign) (sym h.0) ∙ sym (stands_is_explicit stmts x) ∙ k.0) (stand_there stmts w xs h.1 k.1)

-- where some go, the path is a state
pub has_state : (t : Tables) (c : Counts) (w : List ℕ) (gone come : List Stmt) (b : Contents) → MayWeigh t c w gone come b → HasState t w b
has_state t c w gone come b m = by gone m.may.gone_here m.may.stand m.some
  where
    by : (xs : List Stmt) → AllByRecursion (λ x. x.path ≡ w) xs → list_all (stands b.stmts) xs ≡ true → 0 < length xs → HasState t w b
    by [] h e l = absurd (omega arith)
    by (x ∷ xs) h e l =
        let v = m.may.base.valid in
        let s = (and_parts (stands b.stmts x) (list_all (stands b.stmts) xs) e).0 in
        let p = belongs_parts b.catalog x (stands_belongs b.catalog b.stmts x v.stmts.belong s) in
        record {
          stored = m.may.base.stored;
          valid = v;
          apart = ap alternates (sym h.0) ∙ p.apart;
          users = ap (list_all (is_user b.catalog.users)) (sym h.0) ∙ p.users;
          state = ap (is_state b.stmts) (sym h.0) ∙ explicit_state b.stmts x.path x.tuple x.sign (sym (stands_is_explicit b.stmts x) ∙ s);
        }

pub some_state : (t : Tables) (c : Counts) (w : List ℕ) (gone come : List Stmt) → SomeMayWeigh t c w gone come → SomeHasState t w
some_state t c w gone come s = record { base = s.base; has = has_state t c w gone come s.base s.may }

pub gone_tuples : (t : Tables) (c : Counts) (w : List ℕ) (gone come : List Stmt) → SomeMayWeigh t c w gone come → MayBeTuples gone
gone_tuples t c w gone come s =
    let v = s.may.may.base.valid in have_tuples s.base gone v (all_belong s.base.catalog s.base.stmts gone v.stmts.belong s.may.may.stand)

pub come_tuples : (t : Tables) (c : Counts) (w : List ℕ) (gone come : List Stmt) → SomeMayWeigh t c w gone come → MayBeTuples come
come_tuples t c w gone come s = have_tuples s.base come s.may.may.base.valid s.may.may.belong

-- what stands at the path then is in order
pub reached_stand : (t : Tables) (c : Counts) (w : List ℕ) (gone come stmts reached : List Stmt) → SomeMayWeigh t c w gone come → StandAt t w stmts → reached ≡ with_statements (without_statements stmts gone) come → AreOfOnePath reached
reached_stand t c w gone come stmts reached s stand is =
    let b = s.base in
    let sorted = s.may.may.base.valid.stmts.sorted in
    let next = with_statements (without_statements b.stmts gone) come in
    let here : stmts ≡ at_path w b.stmts = stand b (has_state t c w gone come b s.may) in
    let same : reached ≡ at_path w next = is ∙ ap (λ xs. with_statements (without_statements xs gone) come) here ∙ sym (reached_at w b.stmts gone come sorted (all_here w come s.may.may.come_here)) in
    record {
      path = w;
      here = ap (list_all (λ x. same_path x.path w)) same ∙ filter_passes (λ x. same_path x.path w) next;
      sorted = ap (ascending statement_cmp) same
          ∙ filter_keeps_order statement_exact (λ x. same_path x.path w) next (with_keeps_order (without_statements b.stmts gone) come (without_keeps_order b.stmts gone sorted));
    }
  where
    filter_passes : (q : Stmt → Bool) (xs : List Stmt) → list_all q (filter q xs) ≡ true
    filter_passes q [] = refl
    filter_passes q (x ∷ xs) = elim (cases_Bool (q x)) [
      | inl e ↦ ap (list_all q) (filter_kept_one q x xs e) ∙ and_from (q x) (list_all q (filter q xs)) e (filter_passes q xs)
      | inr e ↦ ap (list_all q) (filter_dropped_one q x xs e) ∙ filter_passes q xs
    ]

-- ---- what was read

module _ (t : Tables) (c : Counts) (w : List ℕ) (gone come stmts reached : List Stmt) (rels : List RelDef) (lengths : HaveKeyLengths t rels) (stand : StandAt t w stmts) (is : reached ≡ with_statements (without_statements stmts gone) come)
    (b : Contents) (m : MayWeigh t c w gone come b) where
  abbrev next : List Stmt
  next = with_statements (without_statements b.stmts gone) come

  here : stmts ≡ at_path w b.stmts
  here = stand b (has_state t c w gone come b m)

  is_reached : reached ≡ at_path w next
  is_reached = is ∙ ap (λ xs. with_statements (without_statements xs gone) come) here ∙ sym (reached_at w b.stmts gone come m.may.base.valid.stmts.sorted (all_here w come m.may.come_here))

  same_first : first_clashing (key_lengths rels) reached w ≡ clash_within (with_others b gone come) w
  same_first =
      ap (λ (keys : ℕ → ℕ). first_clashing keys reached w) (lengths b.catalog.rels m.may.base.stored.stored.rels)
      ∙ ap (λ xs. first_clashing (keys_of b) xs w) is_reached ∙ first_at_path (keys_of b) w next

  room_is : (u : Tables) (room : Bool) → u ≡ t → TellsRoom u c.tuples reached gone come room → room ≡ have_room c.tuples (lost_of b.stmts w reached gone) (fresh_of b.stmts come)
  room_is u room kept tells =
      let h = has_state t c w gone come b m in
      subst (λ (v : Tables). TellsRoom v c.tuples reached gone come room) kept tells b h.stored w (valid_is_consistent b.catalog b.stmts h.valid) (stand_there b.stmts w gone m.may.gone_here m.may.stand)

  counted : tuple_count next + tuple_count (lost_of b.stmts w reached gone) ≡ c.tuples + tuple_count (fresh_of b.stmts come)
  counted = tuples_after b.catalog b.stmts w gone come (may_replace t c w gone come b m.may) reached is_reached
      ∙ ap (λ n. n + tuple_count (fresh_of b.stmts come)) (sym (ap (λ (k : Counts). k.tuples) m.may.base.counted))

  one_clashes : (least : Stmt) → Some least ≡ first_clashing (key_lengths rels) reached w → IsWeight w (with_others b gone come) (Clashes least)
  one_clashes least e = sym same_first ∙ sym e

  there_is_room : (u : Tables) → u ≡ t → None ≡ first_clashing (key_lengths rels) reached w → TellsRoom u c.tuples reached gone come true → IsWeight w (with_others b gone come) Fits
  there_is_room u kept e tells =
      let l = tuple_count (lost_of b.stmts w reached gone) in
      let f = tuple_count (fresh_of b.stmts come) in
      let le : c.tuples + f ≤ most_tuples + l = leb-true (c.tuples + f) (most_tuples + l) (sym (room_is u true kept tells)) in
      let k = counted in
      (sym same_first ∙ sym e, omega arith)

  there_is_none : (u : Tables) → u ≡ t → None ≡ first_clashing (key_lengths rels) reached w → TellsRoom u c.tuples reached gone come false → IsWeight w (with_others b gone come) Fills
  there_is_none u kept e tells =
      let l = tuple_count (lost_of b.stmts w reached gone) in
      let f = tuple_count (fresh_of b.stmts come) in
      let k = counted in (
        sym same_first ∙ sym e,
        elim (cases_lt most_tuples (tuple_count next)) [
          | inl lt ↦ lt-ltb most_tuples (tuple_count next) lt
          | inr ge ↦ absurd (false≢true (room_is u false kept tells ∙ le-leb (c.tuples + f) (most_tuples + l) (omega arith)))
        ],
      )

pub weighs_clash : (t : Tables) (c : Counts) (w : List ℕ) (gone come stmts reached : List Stmt) (rels : List RelDef) (least : Stmt) → HaveKeyLengths t rels → StandAt t w stmts → reached ≡ with_statements (without_statements stmts gone) come
    → Some least ≡ first_clashing (key_lengths rels) reached w → Weighs t c w gone come (Clashes least)
weighs_clash t c w gone come stmts reached rels least lengths stand is e b m = one_clashes t c w gone come stmts reached rels lengths stand is b m least e

pub weighs_room : (t u : Tables) (c : Counts) (w : List ℕ) (gone come stmts reached : List Stmt) (rels : List RelDef) → HaveKeyLengths t rels → StandAt t w stmts → reached ≡ with_statements (without_statements stmts gone) come
    → u ≡ t → None ≡ first_clashing (key_lengths rels) reached w → TellsRoom u c.tuples reached gone come true → Weighs t c w gone come Fits
weighs_room t u c w gone come stmts reached rels lengths stand is kept e tells b m = there_is_room t c w gone come stmts reached rels lengths stand is b m u kept e tells

pub weighs_none : (t u : Tables) (c : Counts) (w : List ℕ) (gone come stmts reached : List Stmt) (rels : List RelDef) → HaveKeyLengths t rels → StandAt t w stmts → reached ≡ with_statements (without_statements stmts gone) come
    → u ≡ t → None ≡ first_clashing (key_lengths rels) reached w → TellsRoom u c.tuples reached gone come false → Weighs t c w gone come Fills
weighs_none t u c w gone come stmts reached rels lengths stand is kept e tells b m = there_is_none t c w gone come stmts reached rels lengths stand is b m u kept e tells
