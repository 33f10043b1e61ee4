-- A walk down the tree of suffix links comes to no world twice, so its changes are at the places where the tables differ.
use Rattle.std.proofs.Common.{◌≡◌, ◌≢◌, ◌∙◌, ℕ, ◌+◌, ◌≤◌, Bool, true, false, not, ◌&&◌, ◌||◌, nat_eq, List, [], ◌∷◌, ◌++◌, ◌⊎◌, length, filter, Option, Some, None, MatchOption, inl, inr, is_some, map, refl, ap, sym, subst, arith}
use Rattle.std.specs.List.{list_any, list_all, AllByRecursion}
use Rattle.std.specs.Option.{option_map}
use Rattle.std.specs.Ordering.{is_lt}
use Rattle.std.specs.FinMap as tables
use Rattle.std.proofs.lemmas.Bool.{true≢false, false≢true, cases_Bool, and_parts, and_from, or_left, or_right, or_from, or_cases, not-true, not_from_false, false_from_ne_true, eqb-true, eq-eqb}
use Rattle.std.proofs.lemmas.List.{map-append, length-append}
use Rattle.std.proofs.lemmas.List.Elements.{filter-append}
use Rattle.std.proofs.lemmas.List.Folds.{list_any-append}
use Rattle.bdb_base.specs.declared.kinds.Stmt.{Stmt}
use Rattle.bdb_base.specs.declared.kinds.Value.{Value}
use Rattle.bdb_base.specs.declared.tuple.Tuple.{Tuple}
use Rattle.bdb_base.specs.Causes.{Rises, is_listed}
use Rattle.bdb_base.specs.Same.{same_text}
use Rattle.bdb_base.specs.SameLemmas.{same_text-Decides}
use Rattle.bdb_base.specs.SortedSet.{ascending}
use Rattle.bdb_base.proofs.OptionLemmas.{some_of}
use Rattle.bdb_base.proofs.ListLemmas.{length_map}
use Rattle.bdb_base.proofs.AllLemmas.{all_append}
use Rattle.bdb_keep.specs.Seen.{Seen}
use Rattle.bdb_keep.specs.Tables.{Tables}
use Rattle.bdb_key.specs.Bytes.{num_bytes}
use Rattle.bdb_key.specs.Grammar.{IsNum, AreKeyVals}
use Rattle.bdb_key.specs.Rows.{mark_bytes}
use Rattle.bdb_key.proofs.Forms.{tied}
use Rattle.bdb_tables.specs.Codec.{HasAt, place}
use Rattle.bdb_tables.specs.Differences.{AreDifferences}
use Rattle.bdb_tables.specs.InUse.{ValKey, IsValKey, pair_bytes, val_bytes, link_codec, linked_codec, val_codec}
use Rattle.bdb_tables.specs.InUseLaws.{vals_are_one}
use Rattle.bdb_tables.specs.Marks.{Mark}
use Rattle.bdb_tables.specs.Names.{Names, AreNames, path_of, link_of, are_once}
use Rattle.bdb_tables.specs.Spans.{IsUnder, entry_cmp}
use Rattle.bdb_tables.specs.GroupMarks.{group_bytes}
use Rattle.bdb_tables.proofs.DifferenceLemmas.{differences_add, differences_are_counted}
use Rattle.bdb_val.specs.Counts.{has_none, TellsDifferences}
use Rattle.bdb_val.specs.Groups.{HasLinks, IsUnsettled}
use Rattle.bdb_val.specs.Reads.{HasRows, is_of_group}
use Rattle.bdb_val.specs.Settling.{RowChange, mark_in, next_mark, settling, IsClosedGroup, row_key, keyed}
use Rattle.bdb_val.specs.Steps.{AreBeginnings, is_new, is_gone, counted}
use Rattle.bdb_val.specs.Walks.{AreLinkedTo, IsVisit, Walked, changes_of, put_by, taken_by}
use Rattle.bdb_val.specs.Walks.Walked.{first, next}
use Rattle.bdb_val.specs.declared.stored.Settled.{Settled}
use Rattle.bdb_val.proofs.PlaceLemmas.{filtered_are_counted, filter_mapped, filter_alike}
use Rattle.bdb_val.proofs.ReadLemmas.{key_fits, group_span}
use Rattle.bdb_val.proofs.RealLemmas.{settling_differs, tail_same}
use Rattle.bdb_val.proofs.SettlingLemmas.{settling_each, change_each, settling_is_real, all_of}
use Rattle.bdb_val.proofs.StepLemmas.{IsOf, made_of, own_mark, gives_after, rows_after, next_after}
use Rattle.bdb_val.proofs.VisitLemmas.{link_is_shorter, no_loop}
use Rattle.bdb_val.proofs.WalkLemmas.{walk_on_way, is_group, first_is, listed_is_linked}

-- ---- lists of worlds

listed_append : (m : ℕ) (xs ys : List ℕ) → is_listed m (xs ++ ys) ≡ (is_listed m xs || is_listed m ys)
listed_append m xs ys = list_any-append (nat_eq m) xs ys

-- no number stands twice in a list without its last item, nor is that in it
once_parts : (xs : List ℕ) (y : ℕ) → are_once (y ∷ xs) ≡ true → (are_once xs ≡ true) × (is_listed y xs ≡ false)
once_parts xs y e = let p = and_parts (not (is_listed y xs)) (are_once xs) e in (p.1, not-true (is_listed y xs) p.0)

once_append : (xs ys : List ℕ) → are_once xs ≡ true → are_once ys ≡ true → ((m : ℕ) → is_listed m xs ≡ true → is_listed m ys ≡ true → ⊥) → are_once (xs ++ ys) ≡ true
once_append [] ys a b h = b
once_append (x ∷ xs) ys a b h =
    let p = and_parts (not (is_listed x xs)) (are_once xs) a in
    let out : is_listed x (xs ++ ys) ≡ false = listed_append x xs ys ∙ or_from (is_listed x xs) (is_listed x ys) (not-true (is_listed x xs) p.0)
    (false_from_ne_true (is_listed x ys) (λ k. h x (or_left (nat_eq x x) (is_listed x xs) (eq-eqb x x refl)) k)) in
    and_from (not (is_listed x (xs ++ ys))) (are_once (xs ++ ys)) (not_from_false (is_listed x (xs ++ ys)) out)
    (once_append xs ys p.1 b (λ m k l. h m (or_right (nat_eq m x) (is_listed m xs) k) l))

-- ---- the worlds linked to a world

-- a world is listed once among those linked to a world
linked_once : (t : Tables) (wid : ℕ) (more : List ℕ) → IsNum wid → AreLinkedTo t wid more → are_once more ≡ true
linked_once t wid more n l = ap are_once l.listed ∙ go l.entries l.under.each l.under.sorted
  where
    none : (e : (ℕ × ℕ) × Unit {0}) → IsUnder linked_codec (num_bytes wid) e → (ds : List ((ℕ × ℕ) × Unit {0})) → AllByRecursion (IsUnder linked_codec (num_bytes wid)) ds
        → list_all (λ d. is_lt (entry_cmp linked_codec e d)) ds ≡ true → is_listed e.0.1 (map (λ d. d.0.1) ds) ≡ false
    none e u [] a s = refl
    none e u (d ∷ ds) a s =
        let p = and_parts (is_lt (entry_cmp linked_codec e d)) (list_all (λ z. is_lt (entry_cmp linked_codec e z)) ds) s in
        or_from (nat_eq e.0.1 d.0.1) (is_listed e.0.1 (map (λ z. z.0.1) ds))
        (false_from_ne_true (nat_eq e.0.1 d.0.1) (λ k.
        let one : e.0.0 ≡ d.0.0 = first_is wid n e.0 u.key u.begins ∙ sym (first_is wid n d.0 a.0.key a.0.begins) in
        let two : e.0.1 ≡ d.0.1 = eqb-true e.0.1 d.0.1 k in
        let same : pair_bytes e.0 ≡ pair_bytes d.0 = ap (λ z. num_bytes z ++ num_bytes e.0.1) one ∙ ap (λ z. num_bytes d.0.0 ++ num_bytes z) two in
        true≢false (sym p.0 ∙ ap is_lt (tied (pair_bytes e.0) (pair_bytes d.0) same))))
        (none e u ds a.1 p.1)

    go : (es : List ((ℕ × ℕ) × Unit {0})) → AllByRecursion (IsUnder linked_codec (num_bytes wid)) es → ascending (entry_cmp linked_codec) es ≡ true → are_once (map (λ e. e.0.1) es) ≡ true
    go [] a s = refl
    go (e ∷ es) a s =
        let p = and_parts (list_all (λ d. is_lt (entry_cmp linked_codec e d)) es) (ascending (entry_cmp linked_codec) es) s in
        and_from (not (is_listed e.0.1 (map (λ d. d.0.1) es))) (are_once (map (λ d. d.0.1) es))
        (not_from_false (is_listed e.0.1 (map (λ d. d.0.1) es)) (none e a.0 es a.1 p.0)) (go es a.1 p.1)

-- ---- places of changes

-- the place of a change
abbrev pub at_place : ValKey × Option Mark → List ℕ
at_place x = place val_codec x.0

-- a change's key is in the grammar, and of this world
abbrev pub IsIn : ℕ → ValKey × Option Mark → Type 0
IsIn wid x = IsValKey x.0 × (x.0.0 ≡ wid)

-- a place is not among those of changes of other worlds
place_elsewhere : (q : ValKey × Option Mark) → IsValKey q.0 → (xs : List (ValKey × Option Mark)) → AllByRecursion (λ x. IsValKey x.0 × (q.0.0 ≡ x.0.0 → ⊥)) xs → list_any (same_text (at_place q)) (map at_place xs) ≡ false
place_elsewhere q v [] a = refl
place_elsewhere q v (x ∷ xs) a = or_from (same_text (at_place q) (at_place x)) (list_any (same_text (at_place q)) (map at_place xs))
    (false_from_ne_true (same_text (at_place q) (at_place x)) (λ e.
    let same = tail_same 11 (val_bytes q.0) (val_bytes x.0) ((same_text-Decides (at_place q) (at_place x)).0 e) in
    a.0.1 (ap (λ (z : ValKey). z.0) (vals_are_one q.0 x.0 v a.0.0 same))))
    (place_elsewhere q v xs a.1)

all_places : (P : List ℕ → Type 0) (Q : ValKey × Option Mark → Type 0) → ((x : ValKey × Option Mark) → Q x → P (at_place x)) → (xs : List (ValKey × Option Mark)) → AllByRecursion Q xs → AllByRecursion P (map at_place xs)
all_places P Q h [] a = tt
all_places P Q h (x ∷ xs) a = (h x a.0, all_places P Q h xs a.1)

all_weaker : {X : Type 0} (P Q : X → Type 0) → ((x : X) → P x → Q x) → (xs : List X) → AllByRecursion P xs → AllByRecursion Q xs
all_weaker P Q h [] a = tt
all_weaker P Q h (x ∷ xs) a = (h x a.0, all_weaker P Q h xs a.1)

-- ---- one visit

module _ (keys : ℕ → ℕ) (tuple : ℕ → Option Tuple) (g : ValKey → Option Mark) (u : Tables) (h : HasRows keys tuple g u) (test : Tuple → Bool) (prefix : ℕ → List ℕ) (spans : AreBeginnings keys test prefix)
    (wid : ℕ) (w : IsNum wid) (v : Tables) (s : IsVisit keys prefix u v wid) where
  fits : MatchOption s.link (Unit {0}) IsNum
  fits = go s.link s.linked
    where
      go : (o : Option ℕ) → HasAt link_codec u wid o → MatchOption o (Unit {0}) IsNum
      go None a = tt
      go (Some m) a = a.in_grammar

  of : AllByRecursion (IsOf tuple test) (settling keys s.settling.own s.settling.own s.settling.from)
  of = made_of keys tuple g u h test prefix spans v wid s.link w fits s.settling

  -- the changes are of the visited world
  pub changes_in : AllByRecursion (IsIn wid) (changes_of s)
  changes_in = go (settling keys s.settling.own s.settling.own s.settling.from) of
    where
      go : (ds : List RowChange) → AllByRecursion (IsOf tuple test) ds → AllByRecursion (IsIn wid) (map (keyed keys wid) ds)
      go [] a = tt
      go (d ∷ ds) a = ((key_fits keys tuple g u h wid d.0 d.1 w a.0.0, refl), go ds a.1)

  pub visit_differs : AreDifferences (tables.get u) (tables.get v) (map at_place (changes_of s))
  visit_differs = settling_differs keys tuple g u h test prefix spans wid w v s.link fits s.settling

  some_mapped : (o : Option Mark) → is_some (option_map mark_bytes o) ≡ is_some o
  some_mapped None = refl
  some_mapped (Some m) = refl

  -- a change's row before, and the one afterwards
  had : (d : RowChange) → IsOf tuple test d → has_none u (place val_codec (row_key keys wid d.0 d.1)) ≡ not (is_some (mark_in s.settling.own d.0))
  had d a =
      ap (λ o. not (is_some o)) (h.rows.rows (row_key keys wid d.0 d.1) (key_fits keys tuple g u h wid d.0 d.1 w a.0))
      ∙ ap not (some_mapped (g (row_key keys wid d.0 d.1)))
      ∙ ap (λ o. not (is_some o)) (sym (own_mark keys tuple g u h test prefix spans v wid s.link w fits s.settling d.0 d.1 a.0 a.1))

  gets : (d : RowChange) → IsOf tuple test d → d.2 ≡ next_mark keys s.settling.own s.settling.from d.0 d.1 → has_none v (place val_codec (row_key keys wid d.0 d.1)) ≡ not (is_some d.2)
  gets d a e =
      ap (λ o. not (is_some o)) ((gives_after keys tuple g u h test prefix spans v wid s.link w fits s.settling).rows (row_key keys wid d.0 d.1) (key_fits keys tuple g u h wid d.0 d.1 w a.0))
      ∙ ap not (some_mapped (rows_after keys tuple g u h test prefix spans v wid s.link w fits s.settling (row_key keys wid d.0 d.1)))
      ∙ ap (λ o. not (is_some o)) (next_after keys tuple g u h test prefix spans v wid s.link w fits s.settling d.0 d.1 a.0 a.1 ∙ sym e)

  new_is : (m n : Option Mark) → (m ≢ n) → (not (is_some m) && is_some n) ≡ not (is_some m)
  new_is None None r = absurd (r refl)
  new_is None (Some n) r = refl
  new_is (Some m) n r = refl

  gone_is : (m n : Option Mark) → (m ≢ n) → (is_some m && not (is_some n)) ≡ not (is_some n)
  gone_is None None r = absurd (r refl)
  gone_is None (Some n) r = refl
  gone_is (Some m) n r = refl

  real : AllByRecursion (λ d. mark_in s.settling.own d.0 ≢ d.2) (settling keys s.settling.own s.settling.own s.settling.from)
  real = settling_is_real keys s.settling.own s.settling.own s.settling.from

  nexts : AllByRecursion (λ d. d.2 ≡ next_mark keys s.settling.own s.settling.from d.0 d.1) (settling keys s.settling.own s.settling.own s.settling.from)
  nexts = settling_each keys s.settling.own s.settling.own s.settling.from (λ _. Unit {0}) (λ d. d.2 ≡ next_mark keys s.settling.own s.settling.from d.0 d.1)
      (λ x _. change_each keys s.settling.own s.settling.own s.settling.from (λ d. d.2 ≡ next_mark keys s.settling.own s.settling.from d.0 d.1) x (λ _. refl))
      (all_of (λ _. Unit {0}) (λ _. tt) s.settling.own) (all_of (λ _. Unit {0}) (λ _. tt) s.settling.own) (all_of (λ _. Unit {0}) (λ _. tt) s.settling.from)

  -- so many of the places had no row before
  pub put_counts : put_by s ≡ length (filter (has_none u) (map at_place (changes_of s)))
  put_counts = filter_mapped (is_new (mark_in s.settling.own)) (has_none u) at_place (changes_of s) (go (settling keys s.settling.own s.settling.own s.settling.from) of real)
    where
      go : (ds : List RowChange) → AllByRecursion (IsOf tuple test) ds → AllByRecursion (λ d. mark_in s.settling.own d.0 ≢ d.2) ds
          → AllByRecursion (λ x. is_new (mark_in s.settling.own) x ≡ has_none u (at_place x)) (map (keyed keys wid) ds)
      go [] a b = tt
      go (d ∷ ds) a b = (new_is (mark_in s.settling.own d.0) d.2 b.0 ∙ sym (had d a.0), go ds a.1 b.1)

  -- so many have none afterwards
  pub taken_counts : taken_by s ≡ length (filter (has_none v) (map at_place (changes_of s)))
  taken_counts = filter_mapped (is_gone (mark_in s.settling.own)) (has_none v) at_place (changes_of s) (go (settling keys s.settling.own s.settling.own s.settling.from) of real nexts)
    where
      go : (ds : List RowChange) → AllByRecursion (IsOf tuple test) ds → AllByRecursion (λ d. mark_in s.settling.own d.0 ≢ d.2) ds
          → AllByRecursion (λ d. d.2 ≡ next_mark keys s.settling.own s.settling.from d.0 d.1) ds → AllByRecursion (λ x. is_gone (mark_in s.settling.own) x ≡ has_none v (at_place x)) (map (keyed keys wid) ds)
      go [] a b e = tt
      go (d ∷ ds) a b e = (gone_is (mark_in s.settling.own d.0) d.2 b.0 ∙ sym (gets d a.0 e.0), go ds a.1 b.1 e.1)

-- ---- the walk

module _ (keys : ℕ → ℕ) (stmts : List Stmt) (ns : Names) (tuple : ℕ → Option Tuple) (test : Tuple → Bool) (prefix : ℕ → List ℕ) (names : AreNames ns) (spans : AreBeginnings keys test prefix) (group : IsClosedGroup keys test)
    (f : ValKey → Option Mark) (t : Tables) (start : ℕ) (h : IsUnsettled keys stmts ns tuple f t start test) where
  -- the path of the world at which the walk begins
  pub root : (w : List ℕ) × (path_of ns start ≡ Some w)
  root = some_of (path_of ns start) h.named

  -- What holds in the middle of a walk: no world comes twice, each but the first is linked to one that was visited, none has
  -- a shorter name than the first, and the places of the changes are those where the tables differ.
  pub record HasWalked (u : Tables) (left : List ℕ) (made : List (ValKey × Option Mark)) (put taken : ℕ) : Type 0 where
    pub seen : ℕ → Bool
    pub in_seen : AllByRecursion (λ x. IsValKey x.0 × (seen x.0.0 ≡ true)) made
    pub unseen : (m : ℕ) → is_listed m left ≡ true → seen m ≡ false
    pub once : are_once left ≡ true
    pub linked : (m : ℕ) → (seen m || is_listed m left) ≡ true → nat_eq m start ≡ false → (k : ℕ) × (link_of ns m ≡ Some k) × (seen k ≡ true)
    pub deep : (m : ℕ) (w : List ℕ) → (seen m || is_listed m left) ≡ true → path_of ns m ≡ Some w → length root.0 ≤ length w
    pub differ : AreDifferences (tables.get t) (tables.get u) (map at_place made)
    pub puts : put ≡ length (filter (has_none t) (map at_place made))
    pub takes : taken ≡ length (filter (has_none u) (map at_place made))

  some_number : (a b : ℕ) → Some a ≡ Some b → a ≡ b
  some_number a b e = cc

  -- a world that is listed as linked to another is
  listed_links : (u : Tables) → HasLinks ns u → (wid : ℕ) (more : List ℕ) → IsNum wid → AreLinkedTo u wid more → (m : ℕ) → is_listed m more ≡ true → link_of ns m ≡ Some wid
  listed_links u links wid more n l m e = let k = listed_is_linked ns u links wid more l m e in k.1 ∙ ap Some (k.2 n)

  start_number : IsNum start
  start_number = h.explicit.sized start root.0 root.1

  walk_first : (u : Tables) (more : List ℕ) (s : IsVisit keys prefix t u start) → AreLinkedTo u start more → HasLinks ns u → HasWalked u more (changes_of s) (put_by s) (taken_by s)
  walk_first u more s l links =
      let children = listed_links u links start more start_number l in
      let deeper = λ (m : ℕ) (w : List ℕ) (k : is_listed m more ≡ true) (p : path_of ns m ≡ Some w). link_is_shorter ns names m start w root.0 p root.1 (children m k) in
      record {
        seen = λ m. nat_eq m start;
        in_seen = all_weaker (IsIn start) (λ x. IsValKey x.0 × (nat_eq x.0.0 start ≡ true)) (λ x a. (a.0, eq-eqb x.0.0 start a.1)) (changes_of s) (changes_in keys tuple f t h.explicit.rows test prefix spans start start_number u s);
        unseen = λ m k. false_from_ne_true (nat_eq m start) (λ e. no_loop ns names start root.0 root.1 (ap (link_of ns) (sym (eqb-true m start e)) ∙ children m k));
        once = linked_once u start more start_number l;
        linked = λ m k e. elim (or_cases (nat_eq m start) (is_listed m more) k) [
          | inl a ↦ absurd (true≢false (sym a ∙ e))
          | inr a ↦ (start, children m a, eq-eqb start start refl)
        ];
        deep = λ m w k p. elim (or_cases (nat_eq m start) (is_listed m more) k) [
          | inl a ↦
              let same : root.0 ≡ w = some_path root.0 w (sym root.1 ∙ ap (path_of ns) (sym (eqb-true m start a)) ∙ p) in
              let n : length root.0 ≡ length w = ap length same in
              omega arith
          | inr a ↦ let lt = deeper m w a p in omega (arith, lt)
        ];
        differ = visit_differs keys tuple f t h.explicit.rows test prefix spans start start_number u s;
        puts = put_counts keys tuple f t h.explicit.rows test prefix spans start start_number u s;
        takes = taken_counts keys tuple f t h.explicit.rows test prefix spans start start_number u s;
      }
    where
      some_path : (a b : List ℕ) → Some a ≡ Some b → a ≡ b
      some_path a b e = cc

  walk_next : (g : ValKey → Option Mark) (u v : Tables) (wid : ℕ) (left more : List ℕ) (made : List (ValKey × Option Mark)) (put taken : ℕ) → HasWalked u (wid ∷ left) made put taken → HasRows keys tuple g u
      → (w : List ℕ) → path_of ns wid ≡ Some w → IsNum wid → (s : IsVisit keys prefix u v wid) → are_once more ≡ true → ((m : ℕ) → is_listed m more ≡ true → link_of ns m ≡ Some wid)
      → HasWalked v (left ++ more) (made ++ changes_of s) (put + put_by s) (taken + taken_by s)
  walk_next g u v wid left more made put taken k rows w named n s once children =
      let cs = changes_of s in
      let before = map at_place made in
      let here = map at_place cs in
      record {
        seen = λ m. nat_eq m wid || k.seen m;
        in_seen = all_append (λ x. IsValKey x.0 × ((nat_eq x.0.0 wid || k.seen x.0.0) ≡ true)) made cs
            (all_weaker (λ x. IsValKey x.0 × (k.seen x.0.0 ≡ true)) (λ x. IsValKey x.0 × ((nat_eq x.0.0 wid || k.seen x.0.0) ≡ true)) (λ x a. (a.0, or_right (nat_eq x.0.0 wid) (k.seen x.0.0) a.1)) made k.in_seen)
            (all_weaker (IsIn wid) (λ x. IsValKey x.0 × ((nat_eq x.0.0 wid || k.seen x.0.0) ≡ true)) (λ x a. (a.0, or_left (nat_eq x.0.0 wid) (k.seen x.0.0) (eq-eqb x.0.0 wid a.1))) cs inside);
        unseen = λ m e. elim (or_cases (is_listed m left) (is_listed m more) (sym (listed_append m left more) ∙ e)) [
          | inl a ↦ or_from (nat_eq m wid) (k.seen m)
              (false_from_ne_true (nat_eq m wid) (λ q. false≢true (sym parts.1 ∙ ap (λ z. is_listed z left) (sym (eqb-true m wid q)) ∙ a)))
              (k.unseen m (before_listed m a))
          | inr a ↦ or_from (nat_eq m wid) (k.seen m)
              (false_from_ne_true (nat_eq m wid) (λ q. no_loop ns names wid w named (ap (link_of ns) (sym (eqb-true m wid q)) ∙ children m a)))
              (false_from_ne_true (k.seen m) (λ q. not_before m (or_left (k.seen m) (is_listed m (wid ∷ left)) q) (children m a)))
        ];
        once = once_append left more parts.0 once (λ m a b. not_before m (or_right (k.seen m) (is_listed m (wid ∷ left)) (before_listed m a)) (children m b));
        linked = λ m e q. elim (where_from m e) [
          | inl a ↦ let r = k.linked m a q in (r.0, r.1, or_right (nat_eq r.0 wid) (k.seen r.0) r.2)
          | inr a ↦ (wid, children m a, or_left (nat_eq wid wid) (k.seen wid) (eq-eqb wid wid refl))
        ];
        deep = λ m x e p. elim (where_from m e) [
          | inl a ↦ k.deep m x a p
          | inr a ↦
              let lt = link_is_shorter ns names m wid x w p named (children m a) in
              let le = k.deep wid w (or_right (k.seen wid) (is_listed wid (wid ∷ left)) listed_here) named in
              omega (arith, lt, le)
        ];
        differ = subst (AreDifferences (tables.get t) (tables.get v)) (sym (map-append at_place made cs)) (differences_add (tables.get t) (tables.get u) (tables.get v) before here k.differ differs apart);
        puts = ap (λ z. z + put_by s) k.puts ∙ ap (λ z. length (filter (has_none t) before) + z)
            (put_counts keys tuple g u rows test prefix spans wid n v s ∙ filter_alike (has_none u) (has_none t) here (all_weaker (λ p. list_any (same_text p) before ≡ false) (λ p. has_none u p ≡ has_none t p) (λ p out. ap (λ o. not (is_some o)) (sym (k.differ.only p out))) here turned))
            ∙ joined (has_none t);
        takes = ap (λ z. z + taken_by s) k.takes
            ∙ ap (λ z. z + taken_by s) (filter_alike (has_none u) (has_none v) before (all_weaker (λ p. list_any (same_text p) here ≡ false) (λ p. has_none u p ≡ has_none v p) (λ p out. ap (λ o. not (is_some o)) (differs.only p out)) before apart))
            ∙ ap (λ z. length (filter (has_none v) before) + z) (taken_counts keys tuple g u rows test prefix spans wid n v s)
            ∙ joined (has_none v);
      }
    where
      inside : AllByRecursion (IsIn wid) (changes_of s)
      inside = changes_in keys tuple g u rows test prefix spans wid n v s

      differs : AreDifferences (tables.get u) (tables.get v) (map at_place (changes_of s))
      differs = visit_differs keys tuple g u rows test prefix spans wid n v s

      parts : (are_once left ≡ true) × (is_listed wid left ≡ false)
      parts = once_parts left wid k.once

      listed_here : is_listed wid (wid ∷ left) ≡ true
      listed_here = or_left (nat_eq wid wid) (is_listed wid left) (eq-eqb wid wid refl)

      before_listed : (m : ℕ) → is_listed m left ≡ true → is_listed m (wid ∷ left) ≡ true
      before_listed m a = or_right (nat_eq m wid) (is_listed m left) a

      -- no world that came before is linked to the one that is visited now
      not_before : (m : ℕ) → (k.seen m || is_listed m (wid ∷ left)) ≡ true → link_of ns m ≡ Some wid → ⊥
      not_before m e l = elim (cases_Bool (nat_eq m start)) [
        | inr a ↦
            let r = k.linked m e a in
            let same : r.0 ≡ wid = some_number r.0 wid (sym r.1 ∙ l) in
            true≢false (sym r.2 ∙ ap k.seen same ∙ k.unseen wid listed_here)
        | inl a ↦
            let lt = link_is_shorter ns names m wid root.0 w (ap (path_of ns) (eqb-true m start a) ∙ root.1) named l in
            let le = k.deep wid w (or_right (k.seen wid) (is_listed wid (wid ∷ left)) listed_here) named in
            absurd (omega (arith, lt, le))
      ]

      where_from : (m : ℕ) → ((nat_eq m wid || k.seen m) || is_listed m (left ++ more)) ≡ true → ((k.seen m || is_listed m (wid ∷ left)) ≡ true) ⊎ (is_listed m more ≡ true)
      where_from m e = elim (or_cases (nat_eq m wid || k.seen m) (is_listed m (left ++ more)) e) [
        | inl a ↦ elim (or_cases (nat_eq m wid) (k.seen m) a) [
          | inl b ↦ inl (or_right (k.seen m) (is_listed m (wid ∷ left)) (ap (λ z. is_listed z (wid ∷ left)) (eqb-true m wid b) ∙ listed_here))
          | inr b ↦ inl (or_left (k.seen m) (is_listed m (wid ∷ left)) b)
        ]
        | inr a ↦ elim (or_cases (is_listed m left) (is_listed m more) (sym (listed_append m left more) ∙ a)) [
          | inl b ↦ inl (or_right (k.seen m) (is_listed m (wid ∷ left)) (before_listed m b))
          | inr b ↦ inr b
        ]
      ]

      wid_unseen : (m : ℕ) → k.seen m ≡ true → m ≡ wid → ⊥
      wid_unseen m a e = true≢false (sym a ∙ ap k.seen e ∙ k.unseen wid listed_here)

      apart : AllByRecursion (λ p. list_any (same_text p) (map at_place (changes_of s)) ≡ false) (map at_place made)
      apart = all_places (λ p. list_any (same_text p) (map at_place (changes_of s)) ≡ false) (λ x. IsValKey x.0 × (k.seen x.0.0 ≡ true))
          (λ x a. place_elsewhere x a.0 (changes_of s) (all_weaker (IsIn wid) (λ y. IsValKey y.0 × (x.0.0 ≡ y.0.0 → ⊥)) (λ y b. (b.0, λ e. wid_unseen x.0.0 a.1 (e ∙ b.1))) (changes_of s) inside)) made k.in_seen

      turned : AllByRecursion (λ p. list_any (same_text p) (map at_place made) ≡ false) (map at_place (changes_of s))
      turned = all_places (λ p. list_any (same_text p) (map at_place made) ≡ false) (IsIn wid)
          (λ x a. place_elsewhere x a.0 made (all_weaker (λ y. IsValKey y.0 × (k.seen y.0.0 ≡ true)) (λ y. IsValKey y.0 × (x.0.0 ≡ y.0.0 → ⊥)) (λ y b. (b.0, λ e. wid_unseen y.0.0 b.1 (sym e ∙ a.1))) made k.in_seen)) (changes_of s) inside

      joined : (p : List ℕ → Bool) → length (filter p (map at_place made)) + length (filter p (map at_place (changes_of s))) ≡ length (filter p (map at_place (made ++ changes_of s)))
      joined p = sym (length-append (filter p (map at_place made)) (filter p (map at_place (changes_of s))))
          ∙ ap length (sym (filter-append p (map at_place made) (map at_place (changes_of s)))) ∙ ap (λ z. length (filter p z)) (sym (map-append at_place made (changes_of s)))

  -- in the middle of a walk no world came twice
  pub walk_once : (u : Tables) (left : List ℕ) (made : List (ValKey × Option Mark)) (put taken : ℕ) → Walked keys prefix t start u left made put taken → HasWalked u left made put taken
  walk_once _ _ _ _ _ (first u more s l) = walk_first u more s l (walk_on_way keys stmts ns tuple test prefix names spans group f t start h u more (changes_of s) (put_by s) (taken_by s) (first u more s l)).links
  walk_once _ _ _ _ _ (next u v wid left more made put taken walked s l) =
      let way = walk_on_way keys stmts ns tuple test prefix names spans group f t start h u (wid ∷ left) made put taken walked in
      let after = walk_on_way keys stmts ns tuple test prefix names spans group f t start h v (left ++ more) (made ++ changes_of s) (put + put_by s) (taken + taken_by s) (next u v wid left more made put taken walked s l) in
      let named = some_of (path_of ns wid) (way.named wid (or_left (nat_eq wid wid) (is_listed wid left) (eq-eqb wid wid refl))) in
      let n = way.explicit.sized wid named.0 named.1 in
      let k = walk_once u (wid ∷ left) made put taken walked in
      elim l [
        | inl q ↦ walk_next _ u v wid left more made put taken k way.explicit.rows named.0 named.1 n s (ap are_once q.0) (λ m e. absurd (false≢true (ap (is_listed m) (sym q.0) ∙ e)))
        | inr d ↦ walk_next _ u v wid left more made put taken k way.explicit.rows named.0 named.1 n s (linked_once v wid more n d) (listed_links v after.links wid more n d)
      ]

-- ---- what a walk tells

-- what is told of the places where tables differ, by changes that are at those places
pub tells_from : (old new : Seen) (made : List (ValKey × Option Mark)) (put taken : ℕ) → AreDifferences (tables.get old.kept) (tables.get new.kept) (map at_place made) → Rises (length made) old.writes new.writes
    → put ≡ counted (length (filter (has_none old.kept) (map at_place made))) → taken ≡ counted (length (filter (has_none new.kept) (map at_place made))) → TellsDifferences old new put taken
tells_from old new made put taken k rises a b ps d = record {
  writes = subst (λ n. Rises n old.writes new.writes) (sym (differences_are_counted (tables.get old.kept) (tables.get new.kept) ps (map at_place made) d k ∙ length_map at_place made)) rises;
  came = a ∙ ap counted (filtered_are_counted (tables.get old.kept) (tables.get new.kept) (has_none old.kept) (map at_place made) ps k d);
  went = b ∙ ap counted (filtered_are_counted (tables.get old.kept) (tables.get new.kept) (has_none new.kept) (map at_place made) ps k d);
}

-- what a walk tells of a group
pub walk_tells : (keys : ℕ → ℕ) (old new : Seen) (wid rel : ℕ) (v : List Value) (left : List ℕ) (made : List (ValKey × Option Mark)) (put taken : ℕ) (s : Settled) → IsNum rel → AreKeyVals v
    → Walked keys (λ w. group_bytes w rel v) old.kept wid new.kept left made put taken → s.put ≡ counted put → s.taken ≡ counted taken → Rises (length made) old.writes new.writes
    → (stmts : List Stmt) (ns : Names) (tuple : ℕ → Option Tuple) (f : ValKey → Option Mark) → IsUnsettled keys stmts ns tuple f old.kept wid (is_of_group keys rel v) → TellsDifferences old new s.put s.taken
walk_tells keys old new wid rel v left made put taken s r p walked a b rises stmts ns tuple f h =
    let k = walk_once keys stmts ns tuple (is_of_group keys rel v) (λ w. group_bytes w rel v) h.names (λ w n. group_span keys h.explicit.rows.lengths w rel v n r p) (is_group keys rel v) f old.kept wid h new.kept left made put taken walked in
    tells_from old new made s.put s.taken k.differ rises (a ∙ ap counted k.puts) (b ∙ ap counted k.takes)
