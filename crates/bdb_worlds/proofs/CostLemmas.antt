-- At how many places tables of worlds differ, by the links and edges that differ.
use Rattle.std.proofs.Common.{◌≡◌, ◌≢◌, ◌∙◌, ℕ, ◌+◌, ◌≤◌, Bool, true, false, not, nat_eq, cond, List, [], ◌∷◌, ◌++◌, refl, ap, sym, suc, arith, length, map, get_or, append_assoc, Option, Some, None}
use Rattle.std.specs.Prelude.{MatchOption}
use Rattle.std.specs.List.{AllByRecursion, flat_map}
use Rattle.std.specs.Option.{option_map}
use Rattle.std.specs.FinMap as tables
use Rattle.std.proofs.lemmas.Bool.{and_from, false≢true, true≢false, false_from_ne_true, eq-eqb, ne_eqb, eqb-false}
use Rattle.std.proofs.lemmas.List.{append-nil}
use Rattle.bdb_base.specs.Bases.{are_distinct}
use Rattle.bdb_base.specs.Same.{same_text}
use Rattle.bdb_base.specs.SameLemmas.{same_text-Decides}
use Rattle.bdb_keep.specs.Tables.{Tables}
use Rattle.bdb_key.specs.Bytes.{num_bytes}
use Rattle.bdb_key.specs.Grammar.{IsNum}
use Rattle.bdb_key.proofs.Readings.{num_form}
use Rattle.bdb_tables.specs.Codec.{Codec, HasOneRow, place}
use Rattle.bdb_tables.specs.Differences.{AreDifferences}
use Rattle.bdb_tables.specs.InUse.{depth_codec, link_codec, linked_codec, edge_codec, led_codec}
use Rattle.bdb_tables.specs.InUseLaws.{number_rows_are_one, empty_rows_are_one}
use Rattle.bdb_tables.specs.Names.{leads_to}
use Rattle.bdb_tables.specs.States.{TablesAre, row_where}
use Rattle.bdb_tables.specs.Writes.{Gives}
use Rattle.bdb_tables.proofs.DifferenceLemmas.{is_among, no_more}

-- ---- places of the tables of worlds

-- the place of a row of one of the five tables
pub data Spot : Type 0 where
  at_depth : ℕ → Spot
  at_link : ℕ → Spot
  at_linked : ℕ → ℕ → Spot
  at_edge : ℕ → ℕ → Spot
  at_led : ℕ → ℕ → ℕ → Spot

abbrev pub place_of : Spot → List ℕ
place_of (at_depth n) = place depth_codec n
place_of (at_link k) = place link_codec k
place_of (at_linked a k) = place linked_codec (a, k)
place_of (at_edge x i) = place edge_codec (x, i)
place_of (at_led a x i) = place led_codec (a, x, i)

abbrev tab_of : Spot → ℕ
tab_of (at_depth n) = 6
tab_of (at_link k) = 7
tab_of (at_linked a k) = 8
tab_of (at_edge x i) = 9
tab_of (at_led a x i) = 10

abbrev pub numbers_of : Spot → List ℕ
numbers_of (at_depth n) = n ∷ []
numbers_of (at_link k) = k ∷ []
numbers_of (at_linked a k) = a ∷ k ∷ []
numbers_of (at_edge x i) = x ∷ i ∷ []
numbers_of (at_led a x i) = a ∷ x ∷ i ∷ []

-- a turned row belongs to what it turns round
abbrev owner : Spot → Spot
owner (at_depth n) = at_depth n
owner (at_link k) = at_link k
owner (at_linked a k) = at_link k
owner (at_edge x i) = at_edge x i
owner (at_led a x i) = at_edge x i

abbrev pub IsSized : Spot → Type 0
IsSized s = AllByRecursion IsNum (numbers_of s)

abbrev bytes_of : List ℕ → List ℕ
bytes_of ns = flat_map num_bytes ns

spelled : (s : Spot) → place_of s ≡ tab_of s ∷ bytes_of (numbers_of s)
spelled (at_depth n) = ap (λ (x : List ℕ). 6 ∷ x) (sym (append-nil (num_bytes n)))
spelled (at_link k) = ap (λ (x : List ℕ). 7 ∷ x) (sym (append-nil (num_bytes k)))
spelled (at_linked a k) = ap (λ (x : List ℕ). 8 ∷ num_bytes a ++ x) (sym (append-nil (num_bytes k)))
spelled (at_edge x i) = ap (λ (y : List ℕ). 9 ∷ num_bytes x ++ y) (sym (append-nil (num_bytes i)))
spelled (at_led a x i) =
    ap (λ (y : List ℕ). 10 ∷ y) (append_assoc (num_bytes a) (num_bytes x) (num_bytes i) ∙ ap (λ (y : List ℕ). num_bytes a ++ (num_bytes x ++ y)) (sym (append-nil (num_bytes i))))

number_then : (a : ℕ) (rest : List ℕ) → num_bytes a ++ rest ≡ [] → ⊥
number_then a rest e = absurd cc

one_list : (ms ns : List ℕ) → AllByRecursion IsNum ms → AllByRecursion IsNum ns → bytes_of ms ≡ bytes_of ns → ms ≡ ns
one_list [] [] f g e = refl
one_list [] (n ∷ ns) f g e = absurd (number_then n (bytes_of ns) (sym e))
one_list (m ∷ ms) [] f g e = absurd (number_then m (bytes_of ms) e)
one_list (m ∷ ms) (n ∷ ns) f g e =
    let k = num_form m n (bytes_of ms) (bytes_of ns) f.0 g.0 e in
    ap (λ x. x ∷ ms) k.0 ∙ ap (λ (x : List ℕ). n ∷ x) (one_list ms ns f.1 g.1 k.1)

abbrev spot_from : ℕ → List ℕ → Spot
spot_from tab ns = cond (nat_eq tab 6) (at_depth (get_or ns 0 0)) (cond (nat_eq tab 7) (at_link (get_or ns 0 0)) (cond (nat_eq tab 8) (at_linked (get_or ns 0 0) (get_or ns 1 0))
    (cond (nat_eq tab 9) (at_edge (get_or ns 0 0) (get_or ns 1 0)) (at_led (get_or ns 0 0) (get_or ns 1 0) (get_or ns 2 0)))))

spot_is : (s : Spot) → spot_from (tab_of s) (numbers_of s) ≡ s
spot_is (at_depth n) = refl
spot_is (at_link k) = refl
spot_is (at_linked a k) = refl
spot_is (at_edge x i) = refl
spot_is (at_led a x i) = refl

heads : (m n : ℕ) (j k : List ℕ) → m ∷ j ≡ n ∷ k → (m ≡ n) × (j ≡ k)
heads m n j k e = (cc, cc)

-- no two spots have one place
one_spot : (r s : Spot) → IsSized r → IsSized s → place_of r ≡ place_of s → r ≡ s
one_spot r s f g e =
    let k = heads (tab_of r) (tab_of s) (bytes_of (numbers_of r)) (bytes_of (numbers_of s)) (sym (spelled r) ∙ e ∙ spelled s) in
    let ns = one_list (numbers_of r) (numbers_of s) f g k.1 in
    sym (spot_is r) ∙ ap (λ t. spot_from t (numbers_of r)) k.0 ∙ ap (spot_from (tab_of s)) ns ∙ spot_is s

-- ---- different things

-- no two of these are one
abbrev pub Apart : List Spot → Type 0
Apart [] = Unit {0}
Apart (s ∷ ss) = AllByRecursion (λ r. s ≢ r) ss × Apart ss

pub all_append : (P : Spot → Type 0) (xs ys : List Spot) → AllByRecursion P xs → AllByRecursion P ys → AllByRecursion P (xs ++ ys)
all_append P [] ys f g = g
all_append P (x ∷ xs) ys f g = (f.0, all_append P xs ys f.1 g)

pub apart_append : (xs ys : List Spot) → Apart xs → Apart ys → AllByRecursion (λ x. AllByRecursion (λ y. x ≢ y) ys) xs → Apart (xs ++ ys)
apart_append [] ys f g h = g
apart_append (x ∷ xs) ys f g h = (all_append (λ y. x ≢ y) xs ys f.0 h.0, apart_append xs ys f.1 g h.1)

pub all_map : (P Q : Spot → Type 0) (xs : List Spot) → ((x : Spot) → P x → Q x) → AllByRecursion P xs → AllByRecursion Q xs
all_map P Q [] f h = tt
all_map P Q (x ∷ xs) f h = (f x h.0, all_map P Q xs f h.1)

-- ---- what differs

-- the worlds whose turned row differs where a link or edge led to one and leads to another
abbrev targets : Option ℕ → Option ℕ → List ℕ
targets None None = []
targets (Some a) None = a ∷ []
targets None (Some b) = b ∷ []
targets (Some a) (Some b) = cond (nat_eq a b) [] (a ∷ b ∷ [])

abbrev row_and : Spot → (ℕ → Spot) → List ℕ → List Spot
row_and s f [] = []
row_and s f (a ∷ tos) = s ∷ f a ∷ map f tos

abbrev row_alone : Spot → List ℕ → List Spot
row_alone s [] = []
row_alone s (a ∷ tos) = s ∷ []

self_leads : (a : ℕ) → leads_to (Some a) a ≡ true
self_leads a = eq-eqb a a refl

abbrev Turns : Option ℕ → Option ℕ → ℕ → Type 0
Turns x y a = leads_to x a ≢ leads_to y a

targets_turn : (x y : Option ℕ) → AllByRecursion (Turns x y) (targets x y)
targets_turn None None = tt
targets_turn (Some a) None = ((λ e. true≢false (sym (self_leads a) ∙ e)), tt)
targets_turn None (Some b) = ((λ e. false≢true (e ∙ self_leads b)), tt)
targets_turn (Some a) (Some b) = by (nat_eq a b) refl
  where
    by : (c : Bool) → nat_eq a b ≡ c → AllByRecursion (Turns (Some a) (Some b)) (cond c [] (a ∷ b ∷ []))
    by true e = tt
    by false e = (
      (λ f. true≢false (sym (self_leads a) ∙ f ∙ ne_eqb b a (λ s. eqb-false a b e (sym s)))),
      ((λ f. false≢true (sym e ∙ f ∙ self_leads b)), tt),
    )

targets_sized : (x y : Option ℕ) → MatchOption x (Unit {0}) IsNum → MatchOption y (Unit {0}) IsNum → AllByRecursion IsNum (targets x y)
targets_sized None None f g = tt
targets_sized (Some a) None f g = (f, tt)
targets_sized None (Some b) f g = (g, tt)
targets_sized (Some a) (Some b) f g = by (nat_eq a b)
  where
    by : (c : Bool) → AllByRecursion IsNum (cond c [] (a ∷ b ∷ []))
    by true = tt
    by false = (f, (g, tt))

-- of rows that are alike only in what they turn round, none is another
rows_apart : (s : Spot) (f : ℕ → Spot) → ((a : ℕ) → s ≢ f a) → ((a b : ℕ) → f a ≡ f b → a ≡ b) → (x y : Option ℕ) → Apart (row_and s f (targets x y))
rows_apart s f other one None None = tt
rows_apart s f other one (Some a) None = ((other a, tt), (tt, tt))
rows_apart s f other one None (Some b) = ((other b, tt), (tt, tt))
rows_apart s f other one (Some a) (Some b) = by (nat_eq a b) refl
  where
    by : (c : Bool) → nat_eq a b ≡ c → Apart (row_and s f (cond c [] (a ∷ b ∷ [])))
    by true e = tt
    by false e = ((other a, (other b, tt)), (((λ d. eqb-false a b e (one a b d)), tt), (tt, tt)))

-- a fact of a row, and of the turned ones, where there are some
rows_all : (P : Spot → Type 0) (s : Spot) (f : ℕ → Spot) (Q : ℕ → Type 0) → ((a : ℕ) → Q a → P s) → ((a : ℕ) → Q a → P (f a)) → (tos : List ℕ) → AllByRecursion Q tos → AllByRecursion P (row_and s f tos)
rows_all P s f Q first turned [] h = tt
rows_all P s f Q first turned (a ∷ tos) h = (first a h.0, (turned a h.0, more tos h.1))
  where
    more : (bs : List ℕ) → AllByRecursion Q bs → AllByRecursion P (map f bs)
    more [] g = tt
    more (b ∷ bs) g = (turned b g.0, more bs g.1)

both_all : (P Q : ℕ → Type 0) (xs : List ℕ) → AllByRecursion P xs → AllByRecursion Q xs → AllByRecursion (λ x. P x × Q x) xs
both_all P Q [] f g = tt
both_all P Q (x ∷ xs) f g = ((f.0, g.0), both_all P Q xs f.1 g.1)

one_row : {Key Row : Type 0} (c : Codec Key Row) → HasOneRow c → (x y : Option Row) → MatchOption x (Unit {0}) c.IsRow → MatchOption y (Unit {0}) c.IsRow → option_map c.row_bytes x ≡ option_map c.row_bytes y → x ≡ y
one_row c one None None fx fy e = refl
one_row c one None (Some y) fx fy e = absurd cc
one_row c one (Some x) None fx fy e = absurd cc
one_row c one (Some x) (Some y) fx fy e = let b : c.row_bytes x ≡ c.row_bytes y = cc in ap Some (one x y fx fy b)

-- rows that a function gives differ where the function does
rows_differ : {Key Row : Type 0} (c : Codec Key Row) → HasOneRow c → (t v : Tables) (f g : Key → Option Row) → Gives c t f → Gives c v g → (key : Key) → c.IsKey key → f key ≢ g key
    → tables.get t (place c key) ≢ tables.get v (place c key)
rows_differ c one t v f g h k key fits other e = other (one_row c one (f key) (g key) (h.written key fits) (k.written key fits) (sym (h.rows key fits) ∙ e ∙ k.rows key fits))

row_where_one : (a b : Bool) → row_where a ≡ row_where b → a ≡ b
row_where_one true true e = refl
row_where_one true false e = absurd cc
row_where_one false true e = absurd cc
row_where_one false false e = refl

module _ (t v : Tables) (d0 l0 : ℕ → Option ℕ) (e0 : ℕ × ℕ → Option ℕ) (d1 l1 : ℕ → Option ℕ) (e1 : ℕ × ℕ → Option ℕ) (h : TablesAre t d0 l0 e0) (k : TablesAre v d1 l1 e1) where
  -- where the rows of a depth, a link or an edge differ
  abbrev spots : Spot → List Spot
  spots (at_depth n) = row_alone (at_depth n) (targets (d0 n) (d1 n))
  spots (at_link x) = row_and (at_link x) (λ a. at_linked a x) (targets (l0 x) (l1 x))
  spots (at_linked a x) = []
  spots (at_edge x i) = row_and (at_edge x i) (λ a. at_led a x i) (targets (e0 (x, i)) (e1 (x, i)))
  spots (at_led a x i) = []

  -- at how many places these are
  abbrev pub cost : Spot → ℕ
  cost s = length (spots s)

  abbrev Differs : Spot → Type 0
  Differs s = IsSized s × (tables.get t (place_of s) ≢ tables.get v (place_of s))

  spots_owned : (s : Spot) → AllByRecursion (λ r. owner r ≡ s) (spots s)
  spots_owned (at_depth n) = by (targets (d0 n) (d1 n))
    where
      by : (tos : List ℕ) → AllByRecursion (λ r. owner r ≡ at_depth n) (row_alone (at_depth n) tos)
      by [] = tt
      by (a ∷ tos) = (refl, tt)
  spots_owned (at_link x) = rows_all (λ r. owner r ≡ at_link x) (at_link x) (λ a. at_linked a x) (Turns (l0 x) (l1 x)) (λ a _. refl) (λ a _. refl) (targets (l0 x) (l1 x)) (targets_turn (l0 x) (l1 x))
  spots_owned (at_linked a x) = tt
  spots_owned (at_edge x i) =
      rows_all (λ r. owner r ≡ at_edge x i) (at_edge x i) (λ a. at_led a x i) (Turns (e0 (x, i)) (e1 (x, i))) (λ a _. refl) (λ a _. refl) (targets (e0 (x, i)) (e1 (x, i))) (targets_turn (e0 (x, i)) (e1 (x, i)))
  spots_owned (at_led a x i) = tt

  spots_apart : (s : Spot) → Apart (spots s)
  spots_apart (at_depth n) = by (targets (d0 n) (d1 n))
    where
      by : (tos : List ℕ) → Apart (row_alone (at_depth n) tos)
      by [] = tt
      by (a ∷ tos) = (tt, tt)
  spots_apart (at_link x) = rows_apart (at_link x) (λ a. at_linked a x) (λ a e. absurd cc) (λ a b e. cc) (l0 x) (l1 x)
  spots_apart (at_linked a x) = tt
  spots_apart (at_edge x i) = rows_apart (at_edge x i) (λ a. at_led a x i) (λ a e. absurd cc) (λ a b e. cc) (e0 (x, i)) (e1 (x, i))
  spots_apart (at_led a x i) = tt

  spots_differ : (s : Spot) → IsSized s → AllByRecursion Differs (spots s)
  spots_differ (at_depth n) size = by (targets (d0 n) (d1 n)) (targets_turn (d0 n) (d1 n))
    where
      by : (tos : List ℕ) → AllByRecursion (Turns (d0 n) (d1 n)) tos → AllByRecursion Differs (row_alone (at_depth n) tos)
      by [] g = tt
      by (a ∷ tos) g = ((size, rows_differ depth_codec number_rows_are_one t v d0 d1 h.depth k.depth n size.0 (λ e. g.0 (ap (λ o. leads_to o a) e))), tt)
  spots_differ (at_link x) size =
      rows_all Differs (at_link x) (λ a. at_linked a x) (λ a. Turns (l0 x) (l1 x) a × IsNum a)
      (λ a g. (size, rows_differ link_codec number_rows_are_one t v l0 l1 h.link k.link x size.0 (λ e. g.0 (ap (λ o. leads_to o a) e))))
      (λ a g. ((g.1, size), rows_differ linked_codec empty_rows_are_one t v _ _ h.linked k.linked (a, x) (record { first = g.1; second = size.0 }) (λ e. g.0 (row_where_one _ _ e))))
      (targets (l0 x) (l1 x)) (both_all (Turns (l0 x) (l1 x)) IsNum (targets (l0 x) (l1 x)) (targets_turn (l0 x) (l1 x)) (targets_sized (l0 x) (l1 x) (h.link.written x size.0) (k.link.written x size.0)))
  spots_differ (at_linked a x) size = tt
  spots_differ (at_edge x i) size =
      let o = e0 (x, i) in
      let p = e1 (x, i) in
      rows_all Differs (at_edge x i) (λ a. at_led a x i) (λ a. Turns o p a × IsNum a)
      (λ a g. (size, rows_differ edge_codec number_rows_are_one t v e0 e1 h.edge k.edge (x, i) (record { first = size.0; second = size.1.0 }) (λ e. g.0 (ap (λ o. leads_to o a) e))))
      (λ a g. ((g.1, size), rows_differ led_codec empty_rows_are_one t v _ _ h.led k.led (a, x, i) (record { first = g.1; second = size.0; third = size.1.0 }) (λ e. g.0 (row_where_one _ _ e))))
      (targets o p) (both_all (Turns o p) IsNum (targets o p) (targets_turn o p)
      (targets_sized o p (h.edge.written (x, i) (record { first = size.0; second = size.1.0 })) (k.edge.written (x, i) (record { first = size.0; second = size.1.0 }))))
  spots_differ (at_led a x i) size = tt

  -- ---- those of several

  abbrev all_spots : List Spot → List Spot
  all_spots [] = []
  all_spots (s ∷ ss) = spots s ++ all_spots ss

  -- the spots of one thing are none of those of others
  others_apart : (s r : Spot) → owner r ≡ s → (ss : List Spot) → AllByRecursion (λ x. s ≢ x) ss → AllByRecursion (λ q. r ≢ q) (all_spots ss)
  others_apart s r own [] g = tt
  others_apart s r own (x ∷ ss) g =
      all_append (λ q. r ≢ q) (spots x) (all_spots ss) (all_map (λ q. owner q ≡ x) (λ q. r ≢ q) (spots x) (λ q e d. g.0 (sym own ∙ ap owner d ∙ e)) (spots_owned x)) (others_apart s r own ss g.1)

  all_apart : (ss : List Spot) → Apart ss → Apart (all_spots ss)
  all_apart [] g = tt
  all_apart (s ∷ ss) g =
      apart_append (spots s) (all_spots ss) (spots_apart s) (all_apart ss g.1)
      (all_map (λ r. owner r ≡ s) (λ r. AllByRecursion (λ q. r ≢ q) (all_spots ss)) (spots s) (λ r own. others_apart s r own ss g.0) (spots_owned s))

  all_differ : (ss : List Spot) → AllByRecursion IsSized ss → AllByRecursion Differs (all_spots ss)
  all_differ [] g = tt
  all_differ (s ∷ ss) g = all_append Differs (spots s) (all_spots ss) (spots_differ s g.0) (all_differ ss g.1)

  not_among : (s : Spot) (ss : List Spot) → IsSized s → AllByRecursion Differs ss → AllByRecursion (λ r. s ≢ r) ss → is_among (place_of s) (map place_of ss) ≡ false
  not_among s [] size g a = refl
  not_among s (r ∷ ss) size g a =
      ap (λ b. b_or b (is_among (place_of s) (map place_of ss)))
      (false_from_ne_true (same_text (place_of s) (place_of r)) (λ e. a.0 (one_spot s r size g.0.0 ((same_text-Decides (place_of s) (place_of r)).0 e)))) ∙ not_among s ss size g.1 a.1
    where
      b_or : Bool → Bool → Bool
      b_or true b = true
      b_or false b = b

  places_distinct : (ss : List Spot) → AllByRecursion Differs ss → Apart ss → are_distinct (map place_of ss) ≡ true
  places_distinct [] g a = refl
  places_distinct (s ∷ ss) g a =
      and_from (not (is_among (place_of s) (map place_of ss))) (are_distinct (map place_of ss)) (ap not (not_among s ss g.0.0 g.1 a.0)) (places_distinct ss g.1 a.1)

  length-places : (ss : List Spot) → length (map place_of ss) ≡ length ss
  length-places [] = refl
  length-places (s ∷ ss) = ap (λ n. suc n) (length-places ss)

  module _ (ps : List (List ℕ)) (d : AreDifferences (tables.get t) (tables.get v) ps) where
    among : (ss : List Spot) → AllByRecursion Differs ss → AllByRecursion (λ p. is_among p ps ≡ true) (map place_of ss)
    among [] g = tt
    among (s ∷ ss) g = (there (is_among (place_of s) ps) refl, among ss g.1)
      where
        there : (b : Bool) → is_among (place_of s) ps ≡ b → b ≡ true
        there true e = refl
        there false e = absurd (g.0.1 (d.only (place_of s) e))

    spots_within : (ss : List Spot) → AllByRecursion IsSized ss → Apart ss → length (all_spots ss) ≤ length ps
    spots_within ss size apart =
        let l = length-places (all_spots ss) in
        let m = no_more (map place_of (all_spots ss)) ps (places_distinct (all_spots ss) (all_differ ss size) (all_apart ss apart)) (among (all_spots ss) (all_differ ss size)) in
        omega (arith, l, m)

-- so many for each
abbrev pub sum_of : (Spot → ℕ) → List Spot → ℕ
sum_of f [] = 0
sum_of f (s ∷ ss) = f s + sum_of f ss

pub sum_append : (f : Spot → ℕ) (xs ys : List Spot) → sum_of f (xs ++ ys) ≡ sum_of f xs + sum_of f ys
sum_append f [] ys = omega arith
sum_append f (x ∷ xs) ys = let e = sum_append f xs ys in omega (arith, e)

pub length-both : (xs ys : List Spot) → length (xs ++ ys) ≡ length xs + length ys
length-both [] ys = omega arith
length-both (x ∷ xs) ys = let e = length-both xs ys in omega (arith, e)

-- there is one before or after, and none else
pub data OneSided (x y : Option ℕ) : Type 0 where
  goes : (a : ℕ) → x ≡ Some a → y ≡ None → OneSided x y
  comes : (b : ℕ) → x ≡ None → y ≡ Some b → OneSided x y

abbrev pub weight : Spot → ℕ
weight (at_depth n) = 1
weight (at_link x) = 2
weight (at_linked a x) = 0
weight (at_edge x i) = 2
weight (at_led a x i) = 0

module _ (t v : Tables) (d0 l0 : ℕ → Option ℕ) (e0 : ℕ × ℕ → Option ℕ) (d1 l1 : ℕ → Option ℕ) (e1 : ℕ × ℕ → Option ℕ) (h : TablesAre t d0 l0 e0) (k : TablesAre v d1 l1 e1) where
  -- what each of several things makes differ at least
  abbrev pub Costs : (Spot → ℕ) → Spot → Type 0
  Costs f s = IsSized s × (f s ≤ cost t v d0 l0 e0 d1 l1 e1 h k s)

  sum_within : (f : Spot → ℕ) (ss : List Spot) → AllByRecursion (Costs f) ss → sum_of f ss ≤ length (all_spots t v d0 l0 e0 d1 l1 e1 h k ss)
  sum_within f [] g = omega arith
  sum_within f (s ∷ ss) g =
      let a = g.0.1 in
      let b = sum_within f ss g.1 in
      let e = length-both (spots t v d0 l0 e0 d1 l1 e1 h k s) (all_spots t v d0 l0 e0 d1 l1 e1 h k ss) in
      omega (arith, a, b, e)

  pub costs_within : (f : Spot → ℕ) (ss : List Spot) → Apart ss → AllByRecursion (Costs f) ss → (ps : List (List ℕ)) → AreDifferences (tables.get t) (tables.get v) ps → sum_of f ss ≤ length ps
  costs_within f ss apart each ps d =
      let a = sum_within f ss each in
      let b = spots_within t v d0 l0 e0 d1 l1 e1 h k ps d ss (all_map (Costs f) IsSized ss (λ s g. g.0) each) apart in
      omega (arith, a, b)

  -- ---- what one thing makes differ

  moved_three : (s : Spot) (f : ℕ → Spot) (x y : Option ℕ) (a b : ℕ) → x ≡ Some a → y ≡ Some b → (a ≡ b → ⊥) → 3 ≤ length (row_and s f (targets x y))
  moved_three s f x y a b ex ey other =
      let e : length (row_and s f (targets x y)) ≡ length (row_and s f (cond (nat_eq a b) [] (a ∷ b ∷ []))) = ap (λ o. length (row_and s f (targets o y))) ex ∙ ap (λ o. length (row_and s f (targets (Some a) o))) ey in
      let g : length (row_and s f (cond (nat_eq a b) [] (a ∷ b ∷ []))) ≡ 3 = ap (λ c. length (row_and s f (cond c [] (a ∷ b ∷ [])))) (ne_eqb a b other) in
      omega (arith, e, g)

  pub link_moved : (x a b : ℕ) → IsNum x → l0 x ≡ Some a → l1 x ≡ Some b → (a ≡ b → ⊥) → Costs (λ _. 3) (at_link x)
  link_moved x a b size ex ey other = ((size, tt), moved_three (at_link x) (λ a. at_linked a x) (l0 x) (l1 x) a b ex ey other)

  pub edge_moved : (x i a b : ℕ) → IsNum x → IsNum i → e0 (x, i) ≡ Some a → e1 (x, i) ≡ Some b → (a ≡ b → ⊥) → Costs (λ _. 3) (at_edge x i)
  edge_moved x i a b size fits ex ey other = ((size, (fits, tt)), moved_three (at_edge x i) (λ a. at_led a x i) (e0 (x, i)) (e1 (x, i)) a b ex ey other)

  one_sided_two : (s : Spot) (f : ℕ → Spot) (x y : Option ℕ) → OneSided x y → 2 ≤ length (row_and s f (targets x y))
  one_sided_two s f x y (goes a ex ey) =
      let e : length (row_and s f (targets x y)) ≡ 2 = ap (λ o. length (row_and s f (targets o y))) ex ∙ ap (λ o. length (row_and s f (targets (Some a) o))) ey in omega (arith, e)
  one_sided_two s f x y (comes b ex ey) =
      let e : length (row_and s f (targets x y)) ≡ 2 = ap (λ o. length (row_and s f (targets o y))) ex ∙ ap (λ o. length (row_and s f (targets None o))) ey in omega (arith, e)

  one_sided_one : (s : Spot) (x y : Option ℕ) → OneSided x y → 1 ≤ length (row_alone s (targets x y))
  one_sided_one s x y (goes a ex ey) =
      let e : length (row_alone s (targets x y)) ≡ 1 = ap (λ o. length (row_alone s (targets o y))) ex ∙ ap (λ o. length (row_alone s (targets (Some a) o))) ey in omega (arith, e)
  one_sided_one s x y (comes b ex ey) =
      let e : length (row_alone s (targets x y)) ≡ 1 = ap (λ o. length (row_alone s (targets o y))) ex ∙ ap (λ o. length (row_alone s (targets None o))) ey in omega (arith, e)

  pub depth_weighs : (n : ℕ) → IsNum n → OneSided (d0 n) (d1 n) → Costs weight (at_depth n)
  depth_weighs n size o = ((size, tt), one_sided_one (at_depth n) (d0 n) (d1 n) o)

  pub link_weighs : (n : ℕ) → IsNum n → OneSided (l0 n) (l1 n) → Costs weight (at_link n)
  link_weighs n size o = ((size, tt), one_sided_two (at_link n) (λ a. at_linked a n) (l0 n) (l1 n) o)

  pub edge_weighs : (n j : ℕ) → IsNum n → IsNum j → OneSided (e0 (n, j)) (e1 (n, j)) → Costs weight (at_edge n j)
  edge_weighs n j size fits o = ((size, (fits, tt)), one_sided_two (at_edge n j) (λ a. at_led a n j) (e0 (n, j)) (e1 (n, j)) o)
