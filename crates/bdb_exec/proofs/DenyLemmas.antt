-- Rows of one key, and when the rows of a world deny a tuple.
use Rattle.std.proofs.Common.{◌≡◌, ◌∙◌, ℕ, ◌≤◌, ◌<◌, ◌^◌, Bool, true, false, not, ◌&&◌, ◌||◌, cond, nat_eq, nat_lt, List, [], ◌∷◌, ◌++◌, Option, Some, None, length, map, filter, take, drop, refl, ap, sym, subst, arith}
use Rattle.std.specs.List.{list_any, list_all, AllByRecursion}
use Rattle.std.proofs.lemmas.Bool.{and_parts, and_from, cond-true, cond-false, false≢true, false_from_ne_true, eqb-true, eq-eqb}
use Rattle.std.proofs.lemmas.Bool.Decides.{nat_tests}
use Rattle.std.proofs.lemmas.List.{append_assoc, take-take, take-append-drop, length-take-le}
use Rattle.bdb_base.specs.Clash.{clash, same_key, key_of}
use Rattle.bdb_base.specs.Same.{same_values, same_tuple}
use Rattle.bdb_base.specs.SameLemmas.{same_values-Decides, same_tuple-Decides}
use Rattle.bdb_base.specs.Segments.{is_prefix}
use Rattle.bdb_base.specs.declared.kinds.Sign.{Sign}
use Rattle.bdb_base.specs.declared.kinds.Sign.TheVariants.{Plus, Minus}
use Rattle.bdb_base.specs.declared.kinds.Value.{Value}
use Rattle.bdb_base.specs.declared.tuple.Tuple.{Tuple}
use Rattle.bdb_base.proofs.BoolLemmas.{same_tests}
use Rattle.bdb_base.proofs.ListLemmas.{take_short}
use Rattle.bdb_base.proofs.AllLemmas.{all_both, all_filter}
use Rattle.bdb_base.proofs.SegmentLemmas.{is_prefix_shorter}
use Rattle.bdb_keep.specs.Tables.{Tables}
use Rattle.bdb_key.specs.Bytes.{num_bytes, values_bytes, vals_bytes}
use Rattle.bdb_key.specs.Grammar.{IsNum, ArePlain, AreKeyVals}
use Rattle.bdb_key.proofs.Readings.{num_form}
use Rattle.bdb_key.proofs.Compared.{take_plain, values_append}
use Rattle.bdb_plan.specs.Running.{plus_tuples}
use Rattle.bdb_plan.specs.Sight.{rows_deny}
use Rattle.bdb_tables.specs.Codec.{HasRow}
use Rattle.bdb_tables.specs.GroupMarks.{group_bytes, numbered}
use Rattle.bdb_tables.specs.InUse.{ValKey, IsValKey, val_bytes, tuple_codec, val_codec}
use Rattle.bdb_tables.specs.InUseLaws.{vals_are_one, mark_rows_are_one}
use Rattle.bdb_tables.specs.Marks.{Mark}
use Rattle.bdb_tables.specs.Names.{leads_to}
use Rattle.bdb_tables.specs.Spans.{AreUnder, IsUnder}
use Rattle.bdb_tables.specs.Prefixes.{key_prefix}
use Rattle.bdb_base.specs.Bases.{is_written}
use Rattle.bdb_tables.proofs.PartLemmas.{vals_form}
use Rattle.bdb_tables.proofs.PrefixLemmas.{values_part, all_written}
use Rattle.bdb_tables.proofs.ListLemmas.{prefix_append, prefix_rest}
use Rattle.bdb_exec.specs.Keys.{begins_so, of_key, rows_of_key}
use Rattle.bdb_exec.specs.Readable.{CanBeRun}
use Rattle.bdb_exec.specs.Rows.{IsNumberOf, signed_of, mark_denies, row_denies, relation_prefix}
use Rattle.bdb_exec.specs.Seen.{rows_at, signed_in, signed_under, sight_of}
use Rattle.bdb_exec.proofs.LengthLemmas.{keys_sized, take_whole}
use Rattle.bdb_exec.proofs.TypedLemmas.{raw}
use Rattle.bdb_exec.proofs.WorldLemmas.{AreTyped, StandsForTuple, typed_under, typed_rows, shown, signed_is, has_row, tuple_named, all_told}

-- ---- tests and lists

abbrev pair : ValKey → Mark → ValKey × Mark
pair k m = (k, m)

first : List (List ℕ × List ℕ) → List ℕ × List ℕ
first [] = ([], [])
first (x ∷ xs) = x

pub filter_narrow : {X : Type 0} (p q : X → Bool) (xs : List X) → ((x : X) → p x ≡ true → q x ≡ true) → filter p xs ≡ filter p (filter q xs)
filter_narrow p q [] f = refl
filter_narrow p q (x ∷ xs) f = by (filter_narrow p q xs f) (q x) refl
  where
    none : p x ≡ false → filter p (x ∷ xs) ≡ filter p xs
    none e = cond-false (p x) (x ∷ filter p xs) (filter p xs) e

    by : filter p xs ≡ filter p (filter q xs) → (b : Bool) → q x ≡ b → filter p (x ∷ xs) ≡ filter p (cond b (x ∷ filter q xs) (filter q xs))
    by rest true e = ap (λ r. cond (p x) (x ∷ r) r) rest
    by rest false e = none (false_from_ne_true (p x) (λ k. false≢true (sym e ∙ f x k))) ∙ rest

filter_map : {X Y : Type 0} (f : X → Y) (p : Y → Bool) (xs : List X) → filter p (map f xs) ≡ map f (filter (λ x. p (f x)) xs)
filter_map f p [] = refl
filter_map f p (x ∷ xs) = by (filter_map f p xs) (p (f x))
  where
    by : filter p (map f xs) ≡ map f (filter (λ y. p (f y)) xs) → (b : Bool) → cond b (f x ∷ filter p (map f xs)) (filter p (map f xs)) ≡ map f (cond b (x ∷ filter (λ y. p (f y)) xs) (filter (λ y. p (f y)) xs))
    by rest true = ap (λ r. f x ∷ r) rest
    by rest false = rest

-- ---- beginnings

-- the world and the relation of a key
pub world_parts : (w rel : ℕ) → IsNum w → IsNum rel → (k : ValKey) → IsValKey k → is_prefix (relation_prefix w rel) (val_bytes k) ≡ true → (k.0 ≡ w) × (k.1 ≡ rel)
world_parts w rel nw nr k f e =
    let s = prefix_rest (relation_prefix w rel) (val_bytes k) e in
    let one = num_form k.0 w (num_bytes k.1 ++ vals_bytes k.2 ++ num_bytes k.3) (num_bytes rel ++ s.0) f.world nw s.1 in
    let two = num_form k.1 rel (vals_bytes k.2 ++ num_bytes k.3) s.0 f.rel nr one.1 in
    (one.0, two.0)

-- the values of a key whose bytes begin with those of how many values it has and of some of them
values_of : (n : ℕ) (vs xs : List Value) (tid : ℕ) (rest : List ℕ) → length vs ≤ n → IsNum n → ArePlain vs → AreKeyVals xs → vals_bytes xs ++ num_bytes tid ≡ num_bytes n ++ (values_bytes vs ++ rest)
    → take (length vs) xs ≡ vs
values_of n vs xs tid rest few nn nv k e =
    let one = num_form (length xs) n (values_bytes xs ++ num_bytes tid) (values_bytes vs ++ rest) k.short nn e in
    values_part vs xs (num_bytes tid) rest nv k.plain (subst (λ m. length vs ≤ m) (sym one.0) few) one.1

key_part : (w rel n : ℕ) (vs : List Value) → IsNum w → IsNum rel → length vs ≤ n → IsNum n → ArePlain vs → (k : ValKey) → IsValKey k → is_prefix (key_prefix n w rel vs) (val_bytes k) ≡ true → take (length vs) k.2 ≡ vs
key_part w rel n vs nw nr few nn nv k f e =
    let s = prefix_rest (key_prefix n w rel vs) (val_bytes k) e in
    let one = num_form k.0 w (num_bytes k.1 ++ vals_bytes k.2 ++ num_bytes k.3) (num_bytes rel ++ num_bytes n ++ (values_bytes vs ++ s.0)) f.world nw s.1 in
    let two = num_form k.1 rel (vals_bytes k.2 ++ num_bytes k.3) (num_bytes n ++ (values_bytes vs ++ s.0)) f.rel nr one.1 in
    values_of n vs k.2 k.3 s.0 few nn nv f.key two.1

begins_with : (w rel n : ℕ) (vs rest : List Value) (k : ValKey) → k.0 ≡ w → k.1 ≡ rel → k.2 ≡ vs ++ rest → length (vs ++ rest) ≡ n → is_prefix (key_prefix n w rel vs) (val_bytes k) ≡ true
begins_with w rel n vs rest k a b c many =
    let own = length (vs ++ rest) in
    ap (λ (i : ℕ). is_prefix (key_prefix n w rel vs) (val_bytes (i, k.1, k.2, k.3))) a
    ∙ ap (λ (i : ℕ). is_prefix (key_prefix n w rel vs) (val_bytes (w, i, k.2, k.3))) b
    ∙ ap (λ (xs : List Value). is_prefix (key_prefix n w rel vs) (val_bytes (w, rel, xs, k.3))) c
    ∙ ap (λ (i : ℕ). is_prefix (key_prefix i w rel vs) (val_bytes (w, rel, vs ++ rest, k.3))) (sym many)
    ∙ ap (λ (tail : List ℕ). is_prefix (key_prefix own w rel vs) (num_bytes w ++ num_bytes rel ++ num_bytes own ++ tail))
    (ap (λ (r : List ℕ). r ++ num_bytes k.3) (values_append vs rest) ∙ append_assoc (values_bytes vs) (values_bytes rest) (num_bytes k.3))
    ∙ prefix_append (key_prefix own w rel vs) (values_bytes rest ++ num_bytes k.3)

-- a key begins with a group's bytes exactly where it is the group's
group_part : (w rel : ℕ) (vs : List Value) → IsNum w → IsNum rel → AreKeyVals vs → (k : ValKey) → IsValKey k → is_prefix (group_bytes w rel vs) (val_bytes k) ≡ true → k.2 ≡ vs
group_part w rel vs nw nr nv k f e =
    let s = prefix_rest (group_bytes w rel vs) (val_bytes k) e in
    let one = num_form k.0 w (num_bytes k.1 ++ vals_bytes k.2 ++ num_bytes k.3) (num_bytes rel ++ vals_bytes vs ++ s.0) f.world nw s.1 in
    let two = num_form k.1 rel (vals_bytes k.2 ++ num_bytes k.3) (vals_bytes vs ++ s.0) f.rel nr one.1 in
    (vals_form k.2 vs (num_bytes k.3) s.0 f.key nv two.1).0

group_begins : (w rel : ℕ) (vs : List Value) (k : ValKey) → k.0 ≡ w → k.1 ≡ rel → k.2 ≡ vs → is_prefix (group_bytes w rel vs) (val_bytes k) ≡ true
group_begins w rel vs k a b c =
    ap (λ (i : ℕ). is_prefix (group_bytes w rel vs) (val_bytes (i, k.1, k.2, k.3))) a
    ∙ ap (λ (i : ℕ). is_prefix (group_bytes w rel vs) (val_bytes (w, i, k.2, k.3))) b
    ∙ ap (λ (xs : List Value). is_prefix (group_bytes w rel vs) (val_bytes (w, rel, xs, k.3))) c
    ∙ prefix_append (group_bytes w rel vs) (num_bytes k.3)

-- ---- the first values of a tuple

-- a tuple begins with values exactly where its first ones are these
has_begun : (vs : List Value) (u : Tuple) → take (length vs) u.vals ≡ vs → begins_so vs u ≡ true
has_begun vs u e = (same_values-Decides (take (length vs) u.vals) vs).1 e

begun : (vs : List Value) (u : Tuple) → begins_so vs u ≡ true → take (length vs) u.vals ≡ vs
begun vs u e = (same_values-Decides (take (length vs) u.vals) vs).0 e

-- ---- rows of one world and relation

module _ (t : Tables) (h : CanBeRun t) (w rel : ℕ) (nw : IsNum w) (nr : IsNum rel) where
  pub rows_of : (sight_of t).rows w rel ≡ signed_under t (relation_prefix w rel)
  unfolding sight_of
  rows_of = cond-true (nat_lt rel (2 ^ 32)) (signed_under t (relation_prefix w rel)) [] (below rel nr)
    where
      below : (n : ℕ) → n < 2 ^ 32 → nat_lt n (2 ^ 32) ≡ true
      below n lt = grind (arith, nat_tests)

  pub all : List (ValKey × Mark)
  all = (typed_rows t (relation_prefix w rel) h.rows.fits).0

  pub are_typed : AreTyped t (relation_prefix w rel) all
  unfolding all
  are_typed = (typed_rows t (relation_prefix w rel) h.rows.fits).1

  -- a row of the world and the relation, with its tuple
  pub record IsHere (e : ValKey × Mark) : Type 0 where
    pub u : Tuple
    pub key : IsValKey e.0
    pub row : HasRow tuple_codec t e.0.3 u
    pub named : h.tuples.tuple e.0.3 ≡ Some u
    pub at_world : e.0.0 ≡ w
    pub at_rel : e.0.1 ≡ rel
    pub of_rel : u.rel ≡ rel
    pub vals : key_of (sight_of t).keys u ≡ e.0.2

  here : (e : ValKey × Mark) → IsUnder val_codec (relation_prefix w rel) e → StandsForTuple t h e → IsHere e
  here e a k =
      let p = world_parts w rel nw nr e.0 a.key a.begins in
      let q = and_parts (nat_eq k.0.rel e.0.1) (same_values (key_of (sight_of t).keys k.0) e.0.2) k.2 in
      record {
        u = k.0;
        key = a.key;
        row = has_row t h e.0.3 k.0 k.1;
        named = k.1;
        at_world = p.0;
        at_rel = p.1;
        of_rel = eqb-true k.0.rel e.0.1 q.0 ∙ p.1;
        vals = (same_values-Decides (key_of (sight_of t).keys k.0) e.0.2).0 q.1;
      }

  pub all_here : AllByRecursion IsHere all
  all_here = all_both (IsUnder val_codec (relation_prefix w rel)) (StandsForTuple t h) IsHere all here are_typed.each (all_told t h (relation_prefix w rel) all are_typed)

  pub shown_all : (sight_of t).rows w rel ≡ map (signed_of t) all
  shown_all = rows_of ∙ shown t (relation_prefix w rel) all are_typed

  -- a row's key begins as its tuple does
  first_at : (e : ValKey × Mark) (k : IsHere e) (m : ℕ) → m ≤ (sight_of t).keys k.u.rel → take m e.0.2 ≡ take m k.u.vals
  first_at e k m le = ap (take m) (sym k.vals) ∙ take-take m ((sight_of t).keys k.u.rel) k.u.vals le

  -- it has as many values as the relation's keys
  many_at : (e : ValKey × Mark) (k : IsHere e) → length e.0.2 ≡ (sight_of t).keys rel
  many_at e k =
      ap length (sym k.vals) ∙ length-take-le ((sight_of t).keys k.u.rel) k.u.vals (h.whole e.0.3 k.u k.named) ∙ ap (λ (r : ℕ). (sight_of t).keys r) k.of_rel

  -- ---- rows whose keys go on with some bytes

  module _ (more : List ℕ) where
    abbrev goes_on : ValKey × Mark → Bool
    goes_on e = is_prefix (relation_prefix w rel ++ more) (val_bytes e.0)

    rows_narrow : rows_at t (val_codec.number ∷ (relation_prefix w rel ++ more)) ≡ map (raw val_codec) (filter goes_on all)
    rows_narrow =
        filter_narrow (λ e. is_prefix (val_codec.number ∷ (relation_prefix w rel ++ more)) e.0) (λ e. is_prefix (val_codec.number ∷ relation_prefix w rel) e.0) (Rattle.std.specs.FinMap.entries t)
        (λ e b. is_prefix_shorter (val_codec.number ∷ relation_prefix w rel) more e.0 b)
        ∙ ap (filter (λ e. is_prefix (val_codec.number ∷ (relation_prefix w rel ++ more)) e.0)) are_typed.rows
        ∙ filter_map (raw val_codec) (λ e. is_prefix (val_codec.number ∷ (relation_prefix w rel ++ more)) e.0) all

    narrow_shown : signed_under t (relation_prefix w rel ++ more) ≡ map (signed_of t) (filter goes_on all)
    narrow_shown = ap (map (signed_in t)) rows_narrow ∙ twice (filter goes_on all)
      where
        twice : (es : List (ValKey × Mark)) → map (signed_in t) (map (raw val_codec) es) ≡ map (signed_of t) es
        twice [] = refl
        twice (e ∷ es) = ap (λ (x : List (Tuple × Sign)). signed_of t e ∷ x) (twice es)

  -- ---- rows whose tuples begin with values, no more than a key has

  module _ (vs : List Value) (few : length vs ≤ (sight_of t).keys rel) where
    -- how the keys of such rows go on
    abbrev of_first : List ℕ
    of_first = num_bytes ((sight_of t).keys rel) ++ values_bytes vs

    -- a row is one of these
    abbrev of_value : ValKey × Mark → Bool
    of_value e = is_prefix (key_prefix ((sight_of t).keys rel) w rel vs) (val_bytes e.0)

    few_of : (e : ValKey × Mark) (k : IsHere e) → length vs ≤ (sight_of t).keys k.u.rel
    few_of e k = subst (λ r. length vs ≤ (sight_of t).keys r) (sym k.of_rel) few

    tested : ArePlain vs → (e : ValKey × Mark) (k : IsHere e) → of_value e ≡ begins_so vs k.u
    tested nv e k = same_tests (of_value e) (begins_so vs k.u)
        (λ b. has_begun vs k.u (sym (first_at e k (length vs) (few_of e k)) ∙ key_part w rel ((sight_of t).keys rel) vs nw nr few (keys_sized t h rel) nv e.0 k.key b))
        (λ b.
        let front : take (length vs) e.0.2 ≡ vs = first_at e k (length vs) (few_of e k) ∙ begun vs k.u b in
        let rest = drop (length vs) e.0.2 in
        let split : e.0.2 ≡ vs ++ rest = sym (take-append-drop (length vs) e.0.2) ∙ ap (λ (xs : List Value). xs ++ rest) front in
        begins_with w rel ((sight_of t).keys rel) vs rest e.0 k.at_world k.at_rel split (ap length (sym split) ∙ many_at e k))

    value_shown : signed_under t (key_prefix ((sight_of t).keys rel) w rel vs) ≡ map (signed_of t) (filter of_value all)
    value_shown = narrow_shown of_first

    map_cond : (b : Bool) (e : ValKey × Mark) (r : List (ValKey × Mark)) → map (signed_of t) (cond b (e ∷ r) r) ≡ cond b (signed_of t e ∷ map (signed_of t) r) (map (signed_of t) r)
    map_cond true e r = refl
    map_cond false e r = refl

    keyed_rows : ArePlain vs → (es : List (ValKey × Mark)) → AllByRecursion IsHere es → map (signed_of t) (filter of_value es) ≡ rows_of_key vs (map (signed_of t) es)
    keyed_rows nv [] a = refl
    keyed_rows nv (e ∷ es) a =
        let r = map (signed_of t) (filter of_value es) in
        map_cond (of_value e) e (filter of_value es)
        ∙ ap (λ b. cond b (signed_of t e ∷ r) r) (tested nv e a.0 ∙ ap (λ x. begins_so vs x.0) (sym (signed_is t e a.0.u a.0.row)))
        ∙ ap (λ x. cond (begins_so vs (signed_of t e).0) (signed_of t e ∷ x) x) (keyed_rows nv es a.1)

    -- the rows whose keys begin with values are those of the tuples that begin with them
    pub key_rows : ArePlain vs → signed_under t (key_prefix ((sight_of t).keys rel) w rel vs) ≡ rows_of_key vs ((sight_of t).rows w rel)
    key_rows nv = value_shown ∙ keyed_rows nv all all_here ∙ ap (rows_of_key vs) (sym shown_all)

    -- ---- tuples with plus

    pool_step : (b : Bool) (u : Tuple) (s : Sign) (xs ys : List (Tuple × Sign)) → begins_so vs u ≡ b → plus_tuples xs ≡ of_key vs (plus_tuples ys)
        → plus_tuples (cond b ((u, s) ∷ xs) xs) ≡ of_key vs (plus_tuples ((u, s) ∷ ys))
    pool_step true u Plus xs ys e rest = ap (λ (x : List Tuple). u ∷ x) rest ∙ sym (cond-true (begins_so vs u) (u ∷ of_key vs (plus_tuples ys)) (of_key vs (plus_tuples ys)) e)
    pool_step false u Plus xs ys e rest = rest ∙ sym (cond-false (begins_so vs u) (u ∷ of_key vs (plus_tuples ys)) (of_key vs (plus_tuples ys)) e)
    pool_step true u Minus xs ys e rest = rest
    pool_step false u Minus xs ys e rest = rest

    keyed_pool : ArePlain vs → (es : List (ValKey × Mark)) → AllByRecursion IsHere es → plus_tuples (map (signed_of t) (filter of_value es)) ≡ of_key vs (plus_tuples (map (signed_of t) es))
    keyed_pool nv [] a = refl
    keyed_pool nv (e ∷ es) a =
        let same = signed_is t e a.0.u a.0.row in
        let xs = map (signed_of t) (filter of_value es) in
        let ys = map (signed_of t) es in
        ap plus_tuples (map_cond (of_value e) e (filter of_value es))
        ∙ ap (λ x. plus_tuples (cond (of_value e) (x ∷ xs) xs)) same
        ∙ pool_step (of_value e) a.0.u e.1.0 xs ys (sym (tested nv e a.0)) (keyed_pool nv es a.1)
        ∙ ap (λ x. of_key vs (plus_tuples (x ∷ ys))) (sym same)

    pub key_tuples : ArePlain vs → plus_tuples (signed_under t (key_prefix ((sight_of t).keys rel) w rel vs)) ≡ of_key vs (plus_tuples ((sight_of t).rows w rel))
    key_tuples nv = ap plus_tuples value_shown ∙ keyed_pool nv all all_here ∙ ap (λ r. of_key vs (plus_tuples r)) (sym shown_all)

    -- values that no key may have
    not_of_key : list_all is_written vs ≡ false → (e : ValKey × Mark) (k : IsHere e) → begins_so vs k.u ≡ false
    not_of_key no_text e k = false_from_ne_true (begins_so vs k.u)
        (λ b. false≢true (sym no_text ∙ all_written vs (subst ArePlain (begun vs k.u b) (take_plain (length vs) k.u.vals k.row.in_grammar.plain))))

    none_of_key : list_all is_written vs ≡ false → (es : List (ValKey × Mark)) → AllByRecursion IsHere es → of_key vs (plus_tuples (map (signed_of t) es)) ≡ []
    none_of_key n [] a = refl
    none_of_key n (e ∷ es) a =
        ap (λ x. of_key vs (plus_tuples (x ∷ map (signed_of t) es))) (signed_is t e a.0.u a.0.row)
        ∙ sym (pool_step false a.0.u e.1.0 [] (map (signed_of t) es) (not_of_key n e a.0) (sym (none_of_key n es a.1)))

    pub unwritten : list_all is_written vs ≡ false → [] ≡ of_key vs (plus_tuples ((sight_of t).rows w rel))
    unwritten n = sym (ap (λ r. of_key vs (plus_tuples r)) shown_all ∙ none_of_key n all all_here)

-- ---- rows that deny a tuple

module _ (t : Tables) (h : CanBeRun t) where
  -- a tuple's number leads to a row's exactly where the row's tuple is the tuple
  own_number : (u0 u : Tuple) (number : Option ℕ) (tid : ℕ) → IsNumberOf t u0 number → IsNum tid → HasRow tuple_codec t tid u → leads_to number tid ≡ same_tuple u0 u
  own_number u0 u None tid none n r =
      sym (false_from_ne_true (same_tuple u0 u) (λ b. none tid n (subst (HasRow tuple_codec t tid) (sym ((same_tuple-Decides u0 u).0 b)) r)))
  own_number u0 u (Some m) tid some n r = same_tests (nat_eq m tid) (same_tuple u0 u)
      (λ b. (same_tuple-Decides u0 u).1 (one (h.tuples.tuple tid) u0 u (tuple_named t h tid u0 n (subst (λ k. HasRow tuple_codec t k u0) (eqb-true m tid b) some.1)) (tuple_named t h tid u n r)))
      (λ b. eq-eqb m tid (two (h.tuples.number u0) m tid (h.held.named m u0 (tuple_named t h m u0 some.0 some.1))
      (ap h.tuples.number ((same_tuple-Decides u0 u).0 b) ∙ h.held.named tid u (tuple_named t h tid u n r))))
    where
      one : (o : Option Tuple) (a b : Tuple) → o ≡ Some a → o ≡ Some b → a ≡ b
      one o a b e f = cc

      two : (o : Option ℕ) (a b : ℕ) → o ≡ Some a → o ≡ Some b → a ≡ b
      two o a b e f = cc

  -- keys and rows in the grammar are told by their places
  raw_one : (p q : List ℕ) (xs ys : List (ValKey × Mark)) → AllByRecursion (IsUnder val_codec p) xs → AllByRecursion (IsUnder val_codec q) ys → map (raw val_codec) xs ≡ map (raw val_codec) ys → xs ≡ ys
  unfolding first
  raw_one p q [] [] a b e = refl
  raw_one p q [] (y ∷ ys) a b e = absurd cc
  raw_one p q (x ∷ xs) [] a b e = absurd cc
  raw_one p q (x ∷ xs) (y ∷ ys) a b e =
      let heads = ap (λ l. first l) e in
      let k : x.0 ≡ y.0 = vals_are_one x.0 y.0 a.0.key b.0.key (ap (λ l. Rattle.std.specs.Prelude.drop 1 l.0) heads) in
      let m : x.1 ≡ y.1 = mark_rows_are_one x.1 y.1 tt tt (ap (λ l. l.1) heads) in
      ap (λ z. pair z x.1 ∷ xs) k ∙ ap (λ z. pair y.0 z ∷ xs) m ∙ ap (λ (r : List (ValKey × Mark)). y ∷ r) (raw_one p q xs ys a.1 b.1 (ap (λ l. Rattle.std.specs.Prelude.drop 1 l) e))

module _ (t : Tables) (h : CanBeRun t) (w rel : ℕ) (nw : IsNum w) (nr : IsNum rel) (u0 : Tuple) (of : u0.rel ≡ rel) where
  -- the key of the tuple
  abbrev own_key : List Value
  own_key = key_of (sight_of t).keys u0

  -- a row is of the tuple's key
  abbrev of_key_of : ValKey × Mark → Bool
  of_key_of e = is_prefix (group_bytes w rel own_key) (val_bytes e.0)

  -- two tuples of one relation have one key exactly where the row's key is the tuple's
  keys_are : AreKeyVals (key_of (sight_of t).keys u0) → (e : ValKey × Mark) (k : IsHere t h w rel nw nr e) → same_key (sight_of t).keys u0 k.u ≡ of_key_of e
  keys_are nv e k =
      same_tests (same_key (sight_of t).keys u0 k.u) (of_key_of e)
      (λ b.
      let p = and_parts (nat_eq u0.rel k.u.rel) (same_values own_key (key_of (sight_of t).keys k.u)) b in
      group_begins w rel own_key e.0 k.at_world k.at_rel (sym k.vals ∙ sym ((same_values-Decides own_key (key_of (sight_of t).keys k.u)).0 p.1)))
      (λ b.
      let x : e.0.2 ≡ own_key = group_part w rel own_key nw nr nv e.0 k.key b in
      and_from (nat_eq u0.rel k.u.rel) (same_values own_key (key_of (sight_of t).keys k.u)) (eq-eqb u0.rel k.u.rel (of ∙ sym k.of_rel))
      ((same_values-Decides own_key (key_of (sight_of t).keys k.u)).1 (sym (k.vals ∙ x))))

  same_has_key : (e : ValKey × Mark) (k : IsHere t h w rel nw nr e) → same_tuple u0 k.u ≡ true → of_key_of e ≡ true
  same_has_key e k b =
      group_begins w rel own_key e.0 k.at_world k.at_rel (sym k.vals ∙ ap (λ (x : Tuple). key_of (sight_of t).keys x) (sym ((same_tuple-Decides u0 k.u).0 b)))

  denied_by : AreKeyVals (key_of (sight_of t).keys u0) → (e : ValKey × Mark) (k : IsHere t h w rel nw nr e) (own : Bool) (s : Sign) → own ≡ same_tuple u0 k.u
      → clash (sight_of t).keys u0 Plus k.u s ≡ (of_key_of e && Rattle.bdb_exec.specs.Rows.denies_by s own)
  denied_by nv e k own Plus o = ap (λ b. b && not (same_tuple u0 k.u)) (keys_are nv e k) ∙ ap (λ b. of_key_of e && not b) (sym o)
  denied_by nv e k own Minus o = within (same_tuple u0 k.u) (of_key_of e) (same_has_key e k) ∙ ap (λ b. of_key_of e && b) (sym o)
    where
      within : (a b : Bool) → (a ≡ true → b ≡ true) → a ≡ (b && a)
      within true b f = sym (ap (λ x. x && true) (f refl))
      within false true f = refl
      within false false f = refl

  -- among all rows of the relation those of the key deny the tuple
  some_deny : (number : Option ℕ) → IsNumberOf t u0 number → AreKeyVals (key_of (sight_of t).keys u0) → (es : List (ValKey × Mark)) → AllByRecursion (IsHere t h w rel nw nr) es
      → list_any (row_denies number) (filter of_key_of es) ≡ rows_deny (sight_of t).keys (map (signed_of t) es) u0
  some_deny number is nv [] a = refl
  some_deny number is nv (e ∷ es) a =
      let k = a.0 in
      let same = signed_is t e k.u k.row in
      any_cond (of_key_of e) e (filter of_key_of es)
      ∙ ap (λ b. b || list_any (row_denies number) (filter of_key_of es)) (sym (denied_by nv e k (leads_to number e.0.3) e.1.0 (own_number t h u0 k.u number e.0.3 is k.key.tuple k.row)))
      ∙ ap (λ b. clash (sight_of t).keys u0 Plus k.u e.1.0 || b) (some_deny number is nv es a.1)
      ∙ ap (λ x. clash (sight_of t).keys u0 Plus x.0 x.1 || rows_deny (sight_of t).keys (map (signed_of t) es) u0) (sym same)
    where
      any_cond : (b : Bool) (x : ValKey × Mark) (r : List (ValKey × Mark)) → list_any (row_denies number) (cond b (x ∷ r) r) ≡ ((b && row_denies number x) || list_any (row_denies number) r)
      any_cond true x r = refl
      any_cond false x r = refl

  denied_here : rows_deny (sight_of t).keys (map (signed_of t) (all t h w rel nw nr)) u0 ≡ rows_deny (sight_of t).keys ((sight_of t).rows w rel) u0
  denied_here = ap (λ (r : List (Tuple × Sign)). rows_deny (sight_of t).keys r u0) (sym (shown_all t h w rel nw nr))

  -- the rows that are read are those of the key
  read_narrow : (es : List (ValKey × Mark)) → AreUnder val_codec t (group_bytes w rel own_key) es → es ≡ filter of_key_of (all t h w rel nw nr)
  read_narrow es under =
      let read = typed_under t (group_bytes w rel own_key) es under in
      let narrow = filter of_key_of (all t h w rel nw nr) in
      raw_one t h (group_bytes w rel own_key) (relation_prefix w rel) es narrow read.each
      (all_filter (IsUnder val_codec (relation_prefix w rel)) of_key_of (all t h w rel nw nr) (are_typed t h w rel nw nr).each)
      (sym read.rows ∙ rows_narrow t h w rel nw nr (vals_bytes own_key))

  pub denied_is : (number : Option ℕ) (es : List (ValKey × Mark)) → IsNumberOf t u0 number → AreKeyVals (key_of (sight_of t).keys u0) → AreUnder val_codec t (group_bytes w rel (key_of (sight_of t).keys u0)) es
      → list_any (row_denies number) es ≡ rows_deny (sight_of t).keys ((sight_of t).rows w rel) u0
  denied_is number es is nv under =
      ap (list_any (row_denies number)) (read_narrow es under) ∙ some_deny number is nv (all t h w rel nw nr) (all_here t h w rel nw nr) ∙ denied_here

  -- a key that no row may have
  key_apart : list_all is_written (key_of (sight_of t).keys u0) ≡ false → (e : ValKey × Mark) (k : IsHere t h w rel nw nr e) → own_key ≡ key_of (sight_of t).keys k.u → ⊥
  key_apart n e k same = false≢true (sym n ∙ ap (list_all is_written) (same ∙ k.vals) ∙ all_written e.0.2 k.key.key.plain)

  not_denied : list_all is_written (key_of (sight_of t).keys u0) ≡ false → (e : ValKey × Mark) (k : IsHere t h w rel nw nr e) (s : Sign) → clash (sight_of t).keys u0 Plus k.u s ≡ false
  not_denied n e k Plus =
      ap (λ b. b && not (same_tuple u0 k.u)) (false_from_ne_true (same_key (sight_of t).keys u0 k.u) (λ b.
      let p = and_parts (nat_eq u0.rel k.u.rel) (same_values own_key (key_of (sight_of t).keys k.u)) b in
      key_apart n e k ((same_values-Decides own_key (key_of (sight_of t).keys k.u)).0 p.1)))
  not_denied n e k Minus =
      false_from_ne_true (same_tuple u0 k.u) (λ b. key_apart n e k (ap (λ (x : Tuple). key_of (sight_of t).keys x) ((same_tuple-Decides u0 k.u).0 b)))

  none_deny : list_all is_written (key_of (sight_of t).keys u0) ≡ false → (es : List (ValKey × Mark)) → AllByRecursion (IsHere t h w rel nw nr) es → rows_deny (sight_of t).keys (map (signed_of t) es) u0 ≡ false
  none_deny n [] a = refl
  none_deny n (e ∷ es) a =
      let k = a.0 in
      ap (λ x. clash (sight_of t).keys u0 Plus x.0 x.1 || rows_deny (sight_of t).keys (map (signed_of t) es) u0) (signed_is t e k.u k.row)
      ∙ ap (λ b. b || rows_deny (sight_of t).keys (map (signed_of t) es) u0) (not_denied n e k e.1.0)
      ∙ none_deny n es a.1

  pub unwritten_denied : list_all is_written (key_of (sight_of t).keys u0) ≡ false → false ≡ rows_deny (sight_of t).keys ((sight_of t).rows w rel) u0
  unwritten_denied n = sym (none_deny n (all t h w rel nw nr) (all_here t h w rel nw nr)) ∙ denied_here

  -- ---- the rows of the key are those of the tuples that begin with it

  module _ (nv : AreKeyVals (key_of (sight_of t).keys u0)) where
    leads_too : (e : ValKey × Mark) (k : IsHere t h w rel nw nr e) → of_key_of e ≡ true → begins_so own_key (signed_of t e).0 ≡ true
    leads_too e k b =
        let x : e.0.2 ≡ own_key = group_part w rel own_key nw nr nv e.0 k.key b in
        let n = (sight_of t).keys k.u.rel in
        let short : length own_key ≤ n = subst (λ (vs : List Value). length vs ≤ n) (k.vals ∙ x) (take_short n k.u.vals) in
        ap (λ (y : Tuple × Sign). begins_so own_key y.0) (signed_is t e k.u k.row)
        ∙ has_begun own_key k.u (sym (first_at t h w rel nw nr e k (length own_key) short) ∙ ap (take (length own_key)) x ∙ take_whole own_key)

    fewer : (es : List (ValKey × Mark)) → AllByRecursion (IsHere t h w rel nw nr) es → length (filter of_key_of es) ≤ length (rows_of_key own_key (map (signed_of t) es))
    fewer [] a = omega arith
    fewer (e ∷ es) a = by (of_key_of e) refl (begins_so own_key (signed_of t e).0) refl (fewer es a.1)
      where
        by : (b : Bool) → of_key_of e ≡ b → (c : Bool) → begins_so own_key (signed_of t e).0 ≡ c → length (filter of_key_of es) ≤ length (rows_of_key own_key (map (signed_of t) es))
            → length (cond b (e ∷ filter of_key_of es) (filter of_key_of es)) ≤ length (cond c (signed_of t e ∷ rows_of_key own_key (map (signed_of t) es)) (rows_of_key own_key (map (signed_of t) es)))
        by true p true q le = omega (arith, le)
        by true p false q le = absurd (false≢true (sym q ∙ leads_too e a.0 p))
        by false p true q le = omega (arith, le)
        by false p false q le = le

  pub denied_reads : (es : List (ValKey × Mark)) → AreKeyVals (key_of (sight_of t).keys u0) → AreUnder val_codec t (group_bytes w rel (key_of (sight_of t).keys u0)) es
      → length es ≤ length (rows_of_key (key_of (sight_of t).keys u0) ((sight_of t).rows w rel))
  denied_reads es nv under =
      subst (λ (r : List (Tuple × Sign)). length es ≤ length (rows_of_key own_key r)) (sym (shown_all t h w rel nw nr))
      (subst (λ (xs : List (ValKey × Mark)). length xs ≤ length (rows_of_key own_key (map (signed_of t) (all t h w rel nw nr)))) (sym (read_narrow es under)) (fewer nv (all t h w rel nw nr) (all_here t h w rel nw nr)))

-- whether a row denies is told by the number of its tuple
pub denied_by_number : (number : Option ℕ) (es : List (ValKey × Mark)) → list_any (mark_denies number) (map numbered es) ≡ list_any (row_denies number) es
denied_by_number number [] = refl
denied_by_number number (e ∷ es) = ap (λ b. row_denies number e || b) (denied_by_number number es)
