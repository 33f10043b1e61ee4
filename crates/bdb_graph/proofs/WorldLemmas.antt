-- Worlds as names.
use Rattle.std.proofs.Common.{◌≡◌, ◌∙◌, ℕ, zero, suc, ◌≤◌, Bool, true, false, not, ◌&&◌, ◌||◌, ◌⊎◌, cond, nat_eq, nat_le, List, [], ◌∷◌, ◌++◌, length, map, append_assoc, Option, Some, None, is_some, refl, ap, sym, subst, inl, inr, arith}
use Rattle.std.specs.Prelude.{MatchOption}
use Rattle.std.specs.List.{AllByRecursion, list_all}
use Rattle.std.specs.Option.{option_map, option_and_then}
use Rattle.std.specs.Ordering.{is_lt, nat_cmp}
use Rattle.std.specs.FinMap as tables
use Rattle.std.proofs.lemmas.Bool.{and_parts, and_from, or_cases, or_parts, or_from, or_left, or_right, leb-true, le-leb, not-true, cond-true, cond-false, eqb-true, eq-eqb, cases_Bool, false≢true}
use Rattle.std.proofs.lemmas.Bool.Decides.{nat_tests}
use Rattle.std.proofs.lemmas.List.{append-nil}
use Rattle.bdb_base.specs.Alternation.{alternates}
use Rattle.bdb_base.specs.Same.{same_path}
use Rattle.bdb_base.specs.SameLemmas.{same_path-Decides}
use Rattle.bdb_base.specs.SortedSet.{ascending}
use Rattle.bdb_base.proofs.OptionLemmas.{same_some}
use Rattle.bdb_base.specs.Causes.{is_listed}
use Rattle.bdb_keep.specs.Tables.{Tables}
use Rattle.bdb_key.specs.Bytes.{num_bytes}
use Rattle.bdb_key.specs.Grammar.{IsNum}
use Rattle.bdb_key.proofs.Alone.{one_num}
use Rattle.bdb_tables.specs.Codec.{place}
use Rattle.bdb_tables.specs.InUse.{depth_codec, edge_codec}
use Rattle.bdb_tables.specs.InUseLaws.{numbers_in_order, number_rows_are_one}
use Rattle.bdb_tables.specs.States.{HoldsStates}
use Rattle.bdb_tables.specs.Names.{Names, AreNames, are_once, depth_of, most_numbered}
use Rattle.bdb_tables.specs.Spans.{AreUnder}
use Rattle.bdb_tables.specs.Writes.{Gives}
use Rattle.bdb_names.proofs.Ends.{length_more, one_more}
use Rattle.bdb_names.proofs.NamedLemmas.{cases_end}
use Rattle.bdb_entries.proofs.TupleLemmas.{given_is, item_in, items_give}
use Rattle.bdb_graph.specs.Leading.{AreLedUps, HasEdge, IsLedByEdge, has_root}
use Rattle.bdb_graph.specs.Naming.{AreNamedUps, AreWorlds, IsClimbed, climb, climbed_as, named_as, names_of, number_in, number_of_up, path_in, up_in}
use Rattle.bdb_graph.specs.Ups.{AreUps, HasDepth, HasStart, HoldNoStates, StartsAt, depth_row}
use Rattle.bdb_names.specs.declared.named.NamedWorld.{NamedWorld}
use Rattle.bdb_graph.specs.declared.ups.Up.{Up}
use Rattle.bdb_graph.proofs.LeadingLemmas.{all_are_led}
use Rattle.bdb_graph.proofs.NamingLemmas.{all_mapped, items_of_ups, names_known, no_names, numbers_kept, paths_of_ups, up_of_path, up_tells, ups_ascend}
use Rattle.bdb_graph.proofs.UpLemmas.{path_deep, rows_have_depths}

-- ---- the way from world 0, step by step

climb_back : (ups : List Up) (d n : ℕ) (back : List ℕ) → climb ups d n back ≡ option_map (λ (v : List ℕ). v ++ back) (climb ups d n [])
climb_back ups zero n back = by (nat_eq n 0)
  where
    by : (b : Bool) → cond b (Some back) None ≡ option_map (λ (v : List ℕ). v ++ back) (cond b (Some []) None)
    by true = refl
    by false = refl
climb_back ups (suc d) n back = by (up_in ups n) (λ x. climb_back ups d x.from (x.uid ∷ back)) (λ x. climb_back ups d x.from (x.uid ∷ []))
  where
    joined : (i : ℕ) (o : Option (List ℕ)) → option_map (λ (v : List ℕ). v ++ (i ∷ back)) o ≡ option_map (λ (v : List ℕ). v ++ back) (option_map (λ (v : List ℕ). v ++ i ∷ []) o)
    joined i None = refl
    joined i (Some v) = ap Some (sym (append_assoc v (i ∷ []) back))

    by : (o : Option Up) → ((x : Up) → climb ups d x.from (x.uid ∷ back) ≡ option_map (λ (v : List ℕ). v ++ (x.uid ∷ back)) (climb ups d x.from []))
        → ((x : Up) → climb ups d x.from (x.uid ∷ []) ≡ option_map (λ (v : List ℕ). v ++ x.uid ∷ []) (climb ups d x.from []))
        → option_and_then (λ (x : Up). climb ups d x.from (x.uid ∷ back)) o ≡ option_map (λ (v : List ℕ). v ++ back) (option_and_then (λ (x : Up). climb ups d x.from (x.uid ∷ [])) o)
    by None f g = refl
    by (Some x) f g = f x ∙ joined x.uid (climb ups d x.from []) ∙ ap (option_map (λ (v : List ℕ). v ++ back)) (sym (g x))

-- the last step of a way
pub record IsStepDown (ups : List Up) (d n : ℕ) (w : List ℕ) : Type 0 where
  pub up : Up
  pub found : up_in ups n ≡ Some up
  pub front : List ℕ
  pub climbed : climb ups d up.from [] ≡ Some front
  pub is : w ≡ front ++ up.uid ∷ []

step_down : (ups : List Up) (d n : ℕ) (w : List ℕ) → climb ups (suc d) n [] ≡ Some w → IsStepDown ups d n w
step_down ups d n w e = by (up_in ups n) refl e
  where
    last : (x : Up) → up_in ups n ≡ Some x → (o : Option (List ℕ)) → climb ups d x.from [] ≡ o → option_map (λ (v : List ℕ). v ++ x.uid ∷ []) o ≡ Some w → IsStepDown ups d n w
    last x u None f g = absurd cc
    last x u (Some v) f g = let s : v ++ x.uid ∷ [] ≡ w = cc in record { up = x; found = u; front = v; climbed = f; is = sym s }

    by : (o : Option Up) → up_in ups n ≡ o → option_and_then (λ (x : Up). climb ups d x.from (x.uid ∷ [])) o ≡ Some w → IsStepDown ups d n w
    by None u f = absurd cc
    by (Some x) u f = last x u (climb ups d x.from []) refl (sym (climb_back ups d x.from (x.uid ∷ [])) ∙ f)

at_zero : (n : ℕ) (w : List ℕ) → cond (nat_eq n 0) (Some []) None ≡ Some w → (n ≡ 0) × (w ≡ [])
at_zero n w e = by (nat_eq n 0) refl
  where
    by : (b : Bool) → nat_eq n 0 ≡ b → (n ≡ 0) × (w ≡ [])
    by true s = (eqb-true n 0 s, same_some w [] (sym e ∙ ap (λ b. cond b (Some []) None) s))
    by false s = let f : None ≡ Some w = sym (ap (λ b. cond b (Some []) None) s) ∙ e in absurd cc

long : (ups : List Up) (d n : ℕ) (w : List ℕ) → climb ups d n [] ≡ Some w → length w ≡ d
long ups zero n w e = ap length (at_zero n w e).1
long ups (suc d) n w e =
    let s = step_down ups d n w e in
    ap length s.is ∙ length_more s.front s.up.uid ∙ ap suc (long ups d s.up.from s.front s.climbed)

-- ---- lists of worlds

lt_differs : (m n : ℕ) → is_lt (nat_cmp m n) ≡ true → nat_eq m n ≡ false
lt_differs m n e = grind (arith, nat_tests)

none_listed : (k : ℕ) (ks : List ℕ) → list_all (λ y. is_lt (nat_cmp k y)) ks ≡ true → is_listed k ks ≡ false
none_listed k [] h = refl
none_listed k (y ∷ ks) h =
    let p = and_parts (is_lt (nat_cmp k y)) (list_all (λ z. is_lt (nat_cmp k z)) ks) h in
    or_from (nat_eq k y) (is_listed k ks) (lt_differs k y p.0) (none_listed k ks p.1)

pub once_of : (ks : List ℕ) → ascending nat_cmp ks ≡ true → are_once ks ≡ true
once_of [] h = refl
once_of (k ∷ ks) h =
    let p = and_parts (list_all (λ y. is_lt (nat_cmp k y)) ks) (ascending nat_cmp ks) h in
    and_from (not (is_listed k ks)) (are_once ks) (ap not (none_listed k ks p.0)) (once_of ks p.1)

abbrev wids : List NamedWorld → List ℕ
wids ws = map (λ (x : NamedWorld). x.wid) ws

counted : (n : ℕ) (ws : List NamedWorld) → is_listed n (wids ws) ≡ is_some (path_in ws n)
counted n [] = refl
counted n (x ∷ ws) = ap (λ b. nat_eq n x.wid || b) (counted n ws) ∙ by (nat_eq n x.wid) (path_in ws n)
  where
    by : (b : Bool) (o : Option (List ℕ)) → (b || is_some o) ≡ is_some (cond b (Some x.path) o)
    by true o = refl
    by false o = refl

all_wids : (p : ℕ → Bool) (ws : List NamedWorld) (n : ℕ) (w : List ℕ) → list_all p (wids ws) ≡ true → path_in ws n ≡ Some w → p n ≡ true
all_wids p [] n w h e = absurd cc
all_wids p (x ∷ ws) n w h e = by (nat_eq n x.wid) refl (and_parts (p x.wid) (list_all p (wids ws)) h) (λ q f. all_wids p ws n w q f)
  where
    by : (b : Bool) → nat_eq n x.wid ≡ b → (p x.wid ≡ true) × (list_all p (wids ws) ≡ true) → (list_all p (wids ws) ≡ true → path_in ws n ≡ Some w → p n ≡ true) → p n ≡ true
    by true s q later = ap p (eqb-true n x.wid s) ∙ q.0
    by false s q later = later q.1 (sym (cond-false (nat_eq n x.wid) (Some x.path) (path_in ws n) s) ∙ e)

all_paths : (p : List ℕ → Bool) (ws : List NamedWorld) (n : ℕ) (w : List ℕ) → list_all (λ (x : NamedWorld). p x.path) ws ≡ true → path_in ws n ≡ Some w → p w ≡ true
all_paths p [] n w h e = absurd cc
all_paths p (x ∷ ws) n w h e = by (nat_eq n x.wid) refl (and_parts (p x.path) (list_all (λ (y : NamedWorld). p y.path) ws) h) (λ q f. all_paths p ws n w q f)
  where
    by : (b : Bool) → nat_eq n x.wid ≡ b → (p x.path ≡ true) × (list_all (λ (y : NamedWorld). p y.path) ws ≡ true) → (list_all (λ (y : NamedWorld). p y.path) ws ≡ true → path_in ws n ≡ Some w → p w ≡ true) → p w ≡ true
    by true s q later = ap p (same_some w x.path (sym e ∙ cond-true (nat_eq n x.wid) (Some x.path) (path_in ws n) s)) ∙ q.0
    by false s q later = later q.1 (sym (cond-false (nat_eq n x.wid) (Some x.path) (path_in ws n) s) ∙ e)

path_of_number : (ws : List NamedWorld) → ascending nat_cmp (wids ws) ≡ true → (w : List ℕ) (n : ℕ) → number_in ws w ≡ Some n → path_in ws n ≡ Some w
path_of_number [] a w n e = absurd cc
path_of_number (x ∷ ws) a w n e = by (same_path w x.path) refl (and_parts (list_all (λ y. is_lt (nat_cmp x.wid y)) (wids ws)) (ascending nat_cmp (wids ws)) a) (λ q f. path_of_number ws q w n f)
  where
    turned : (m k : ℕ) → is_lt (nat_cmp m k) ≡ true → nat_eq k m ≡ false
    turned m k l = grind (arith, nat_tests)

    by : (b : Bool) → same_path w x.path ≡ b → (list_all (λ y. is_lt (nat_cmp x.wid y)) (wids ws) ≡ true) × (ascending nat_cmp (wids ws) ≡ true)
        → (ascending nat_cmp (wids ws) ≡ true → number_in ws w ≡ Some n → path_in ws n ≡ Some w) → path_in (x ∷ ws) n ≡ Some w
    by true s q later =
        let is : n ≡ x.wid = same_some n x.wid (sym e ∙ cond-true (same_path w x.path) (Some x.wid) (number_in ws w) s) in
        cond-true (nat_eq n x.wid) (Some x.path) (path_in ws n) (eq-eqb n x.wid is) ∙ ap Some (sym ((same_path-Decides w x.path).0 s))
    by false s q later =
        let path = later q.1 (sym (cond-false (same_path w x.path) (Some x.wid) (number_in ws w) s) ∙ e) in
        cond-false (nat_eq n x.wid) (Some x.path) (path_in ws n) (turned x.wid n (all_wids (λ y. is_lt (nat_cmp x.wid y)) ws n w q.0 path)) ∙ path

has_number : (ws : List NamedWorld) (n : ℕ) (w : List ℕ) → path_in ws n ≡ Some w → (m : ℕ) × (number_in ws w ≡ Some m)
has_number [] n w e = absurd cc
has_number (x ∷ ws) n w e = by (same_path w x.path) refl (λ f. has_number ws n w f)
  where
    rest : same_path w x.path ≡ false → path_in ws n ≡ Some w
    rest s = elim (cases_Bool (nat_eq n x.wid)) [
      | inl t ↦
          let is : w ≡ x.path = same_some w x.path (sym e ∙ cond-true (nat_eq n x.wid) (Some x.path) (path_in ws n) t) in
          absurd (false≢true (sym s ∙ (same_path-Decides w x.path).1 is))
      | inr f ↦ sym (cond-false (nat_eq n x.wid) (Some x.path) (path_in ws n) f) ∙ e
    ]

    by : (b : Bool) → same_path w x.path ≡ b → (path_in ws n ≡ Some w → (m : ℕ) × (number_in ws w ≡ Some m)) → (m : ℕ) × (number_in (x ∷ ws) w ≡ Some m)
    by true s later = (x.wid, cond-true (same_path w x.path) (Some x.wid) (number_in ws w) s)
    by false s later = let m = later (rest s) in (m.0, cond-false (same_path w x.path) (Some x.wid) (number_in ws w) s ∙ m.1)

-- ---- the worlds of some tables

own_depths : (t : Tables) (depths : List (ℕ × ℕ)) (ups : List Up) → AreUnder depth_codec t [] depths → AreUps t depths ups → AllByRecursion (λ (x : Up). HasDepth t x.wid x.depth) ups
own_depths t depths ups under are = all_mapped depth_row (λ (e : ℕ × ℕ). HasDepth t e.0 e.1) ups (subst (AllByRecursion (λ (e : ℕ × ℕ). HasDepth t e.0 e.1)) (sym are.rows) (rows_have_depths t depths under))

-- a world's row, and its way from world 0
pub record IsWay (ups : List Up) (n : ℕ) (w : List ℕ) : Type 0 where
  pub up : Up
  pub found : up_in ups n ≡ Some up
  pub climbed : climb ups up.depth n [] ≡ Some w

-- a world's row, and the world from which it comes
pub record HasParent (t : Tables) (ws : List NamedWorld) (n i : ℕ) (v : List ℕ) : Type 0 where
  pub from : ℕ
  pub path : path_in ws from ≡ Some v
  pub edge : tables.get t (place edge_codec (from, i)) ≡ Some (num_bytes n)

module _ (t : Tables) (depths : List (ℕ × ℕ)) (ups : List Up) (under : AreUnder depth_codec t [] depths) (are : AreUps t depths ups) (ws : List NamedWorld)
    (made : map named_as ws ≡ map (climbed_as ups) ups) (led : AllByRecursion (IsLedByEdge t) ups) where
  number_same : (n : ℕ) (x : Up) → up_in ups n ≡ Some x → x.wid ≡ n
  number_same n x e = (up_tells (HasStart t) ups n x are.starts e).0

  each_depth : AllByRecursion (λ (x : Up). HasDepth t x.wid x.depth) ups
  each_depth = own_depths t depths ups under are

  way : (n : ℕ) (w : List ℕ) → path_in ws n ≡ Some w → IsWay ups n w
  way n w e = by (up_in ups n) refl (sym (paths_of_ups ups ups ws made n) ∙ ap (option_map (λ (v : List ℕ). Some v)) e)
    where
      by : (o : Option Up) → up_in ups n ≡ o → option_map (λ (x : Up). climb ups x.depth x.wid []) (up_in ups n) ≡ Some (Some w) → IsWay ups n w
      by None u f = let g : option_map (λ (x : Up). climb ups x.depth x.wid []) None ≡ Some (Some w) = ap (option_map (λ (x : Up). climb ups x.depth x.wid [])) (sym u) ∙ f in absurd cc
      by (Some x) u f =
          let g : Some (climb ups x.depth x.wid []) ≡ Some (Some w) = ap (option_map (λ (y : Up). climb ups y.depth y.wid [])) (sym u) ∙ f in
          let c : climb ups x.depth x.wid [] ≡ Some w = cc in
          record { up = x; found = u; climbed = ap (λ k. climb ups x.depth k []) (sym (number_same n x u)) ∙ c }

  path_there : (n : ℕ) (x : Up) (w : List ℕ) → up_in ups n ≡ Some x → climb ups x.depth n [] ≡ Some w → path_in ws n ≡ Some w
  path_there n x w u c = some (path_in ws n) (paths_of_ups ups ups ws made n ∙ ap (option_map (λ (y : Up). climb ups y.depth y.wid [])) u ∙ ap Some (ap (λ k. climb ups x.depth k []) (number_same n x u) ∙ c))
    where
      some : (o : Option (List ℕ)) → option_map (λ (v : List ℕ). Some v) o ≡ Some (Some w) → o ≡ Some w
      some None f = absurd cc
      some (Some v) f = cc

  depth_given : (n : ℕ) → item_in depth_codec depths n ≡ option_map (λ (x : Up). x.depth) (up_in ups n)
  depth_given n = ap (λ es. item_in depth_codec es n) (sym are.rows) ∙ items_of_ups ups n

  up_at_depth : (n d : ℕ) → HasDepth t n d → (x : Up) × (up_in ups n ≡ Some x) × (x.depth ≡ d)
  up_at_depth n d has = by (up_in ups n) refl (sym (depth_given n) ∙ given_is depth_codec number_rows_are_one t (item_in depth_codec depths) (items_give depth_codec numbers_in_order t depths under) n has.number d has.size has.found)
    where
      by : (o : Option Up) → up_in ups n ≡ o → option_map (λ (x : Up). x.depth) (up_in ups n) ≡ Some d → (x : Up) × (up_in ups n ≡ Some x) × (x.depth ≡ d)
      by None u f = let g : option_map (λ (x : Up). x.depth) None ≡ Some d = ap (option_map (λ (x : Up). x.depth)) (sym u) ∙ f in absurd cc
      by (Some x) u f = let g : Some x.depth ≡ Some d = ap (option_map (λ (y : Up). y.depth)) (sym u) ∙ f in let s : x.depth ≡ d = cc in (x, u, s)

  own_depth : (n : ℕ) (w : List ℕ) → path_in ws n ≡ Some w → HasDepth t n (length w)
  own_depth n w e =
      let r = way n w e in
      let has = (up_tells (λ (x : Up). HasDepth t x.wid x.depth) ups n r.up each_depth r.found).1 in
      subst (HasDepth t n) (sym (long ups r.up.depth n w r.climbed)) (subst (λ k. HasDepth t k r.up.depth) (number_same n r.up r.found) has)

  parent_of : (n i : ℕ) (v : List ℕ) → path_in ws n ≡ Some (v ++ i ∷ []) → HasParent t ws n i v
  parent_of n i v e =
      let r = way n (v ++ i ∷ []) e in
      let deep : r.up.depth ≡ suc (length v) = sym (long ups r.up.depth n (v ++ i ∷ []) r.climbed) ∙ length_more v i in
      let s = step_down ups (length v) n (v ++ i ∷ []) (ap (λ d. climb ups d n []) (sym deep) ∙ r.climbed) in
      let same : s.up ≡ r.up = same_some s.up r.up (sym s.found ∙ r.found) in
      let parts = one_more v s.front i s.up.uid s.is in
      let own : s.up.depth ≡ suc (length v) = ap (λ (x : Up). x.depth) same ∙ deep in
      let start : StartsAt t s.up.from (suc (length v)) = subst (StartsAt t s.up.from) own (up_tells (HasStart t) ups n s.up are.starts s.found).1 in
      let y = up_at_depth s.up.from (length v) start in
      let edge : HasEdge t s.up.from s.up.uid s.up.wid (suc (length v)) = subst (HasEdge t s.up.from s.up.uid s.up.wid) own (up_tells (IsLedByEdge t) ups n s.up led s.found).1 in
      record {
        from = s.up.from;
        path = path_there s.up.from y.0 v y.1 (ap (λ d. climb ups d s.up.from []) y.2 ∙ s.climbed ∙ ap Some (sym parts.0));
        edge = ap (λ j. tables.get t (place edge_codec (s.up.from, j))) parts.1 ∙ edge ∙ ap (λ k. Some (num_bytes k)) (number_same n s.up s.found);
      }

  root_alone : (n : ℕ) → path_in ws n ≡ Some [] → n ≡ 0
  root_alone n e =
      let r = way n [] e in
      let none : r.up.depth ≡ 0 = sym (long ups r.up.depth n [] r.climbed) in
      (at_zero n [] (ap (λ d. climb ups d n []) (sym none) ∙ r.climbed)).0

  one_number : (fuel : ℕ) (w : List ℕ) (n m : ℕ) → length w ≤ fuel → path_in ws n ≡ Some w → path_in ws m ≡ Some w → n ≡ m
  one_number zero [] n m l e f = root_alone n e ∙ sym (root_alone m f)
  one_number zero (j ∷ w) n m l e f = absurd (omega arith)
  one_number (suc fuel) w n m l e f = elim (cases_end w) as (λ _. n ≡ m) [
    | inl none ↦ root_alone n (e ∙ ap Some none) ∙ sym (root_alone m (f ∙ ap Some none))
    | inr u ↦
        let a = parent_of n u.1 u.0 (e ∙ ap Some u.2) in
        let b = parent_of m u.1 u.0 (f ∙ ap Some u.2) in
        let k = ap length u.2 in
        let k2 = length_more u.0 u.1 in
        let from = one_number fuel u.0 a.from b.from (omega arith) a.path b.path in
        let both : num_bytes n ≡ num_bytes m = same_some (num_bytes n) (num_bytes m) (sym a.edge ∙ ap (λ x. tables.get t (place edge_codec (x, u.1))) from ∙ b.edge) in
        one_num n m (own_depth n w e).number (own_depth m w f).number both
  ]

  module _ (sorted : ascending nat_cmp (wids ws) ≡ true) (apart : list_all (λ (x : NamedWorld). alternates x.path) ws ≡ true) (first : Up) (there : up_in ups 0 ≡ Some first) (flat : first.depth ≡ 0) (few : length ups ≤ most_numbered) where
    named : (n : ℕ) (w : List ℕ) → path_in ws n ≡ Some w → number_in ws w ≡ Some n
    named n w e =
        let m = has_number ws n w e in
        m.1 ∙ ap Some (one_number (length w) w m.0 n (omega arith) (path_of_number ws sorted w m.0 m.1) e)

    number_is : (w : List ℕ) → is_some (number_in ws w) ≡ true → (n : ℕ) × (path_in ws n ≡ Some w)
    number_is w h = by (number_in ws w) refl h
      where
        by : (o : Option ℕ) → number_in ws w ≡ o → is_some o ≡ true → (n : ℕ) × (path_in ws n ≡ Some w)
        by None e f = absurd (false≢true f)
        by (Some n) e f = (n, path_of_number ws sorted w n e)

    prefixes : (fuel : ℕ) (p q : List ℕ) → length q ≤ fuel → is_some (number_in ws (p ++ q)) ≡ true → is_some (number_in ws p) ≡ true
    prefixes zero p [] l h = ap (λ w. is_some (number_in ws w)) (sym (append-nil p)) ∙ h
    prefixes zero p (j ∷ q) l h = absurd (omega arith)
    prefixes (suc fuel) p q l h = elim (cases_end q) as (λ _. is_some (number_in ws p) ≡ true) [
      | inl none ↦ ap (λ w. is_some (number_in ws w)) (sym (append-nil p) ∙ ap (λ w. p ++ w) (sym none)) ∙ h
      | inr u ↦
          let k = ap length u.2 in
          let k2 = length_more u.0 u.1 in
          let whole : p ++ q ≡ (p ++ u.0) ++ u.1 ∷ [] = ap (λ w. p ++ w) u.2 ∙ sym (append_assoc p u.0 (u.1 ∷ [])) in
          let n = number_is (p ++ q) h in
          let a = parent_of n.0 u.1 (p ++ u.0) (n.1 ∙ ap Some whole) in
          prefixes fuel p u.0 (omega arith) (ap is_some (named a.from (p ++ u.0) a.path))
    ]

    as_many : length (wids ws) ≡ length ups
    as_many = ap length (numbers_kept ups ups ws made) ∙ count ups
      where
        count : (xs : List Up) → length (map number_of_up xs) ≡ length xs
        count [] = refl
        count (x ∷ xs) = ap suc (count xs)

    pub are_names : AreNames (names_of ws)
    are_names = record {
      root = named 0 [] (path_there 0 first [] there (ap (λ d. climb ups d 0 []) flat));
      named = named;
      numbered = λ w n e. path_of_number ws sorted w n e;
      prefixes = λ p q h. prefixes (length q) p q (omega arith) h;
      apart = λ w h. let n = number_is w h in all_paths alternates ws n.0 w apart n.1;
      sized = λ w n e. (own_depth n w (path_of_number ws sorted w n e)).number;
      short = λ w h. let n = number_is w h in (own_depth n.0 w n.1).size;
      counted = λ n. counted n ws;
      once = once_of (wids ws) sorted;
      few = let same = as_many in subst (λ k. k ≤ most_numbered) (sym same) few;
    }

  pub depths_are : Gives depth_codec t (depth_of (names_of ws))
  depths_are =
      let h = items_give depth_codec numbers_in_order t depths under in
      record {
        fits = h.fits;
        rows = λ n fits. h.rows n fits ∙ ap (option_map num_bytes) (same n);
        written = λ n fits. subst (λ o. MatchOption o (Unit {0}) IsNum) (same n) (h.written n fits);
      }
    where
      by : (n : ℕ) (o : Option Up) → up_in ups n ≡ o → (p : Option (List ℕ)) → path_in ws n ≡ p → option_map (λ (x : Up). x.depth) (up_in ups n) ≡ option_map (λ (w : List ℕ). length w) p
      by n o u (Some w) e = let r = way n w e in ap (option_map (λ (x : Up). x.depth)) r.found ∙ ap Some (sym (long ups r.up.depth n w r.climbed))
      by n None u None e = ap (option_map (λ (x : Up). x.depth)) u
      by n (Some x) u None e =
          let f : option_map (λ (v : List ℕ). Some v) None ≡ Some (climb ups x.depth x.wid []) =
          ap (option_map (λ (v : List ℕ). Some v)) (sym e) ∙ paths_of_ups ups ups ws made n ∙ ap (option_map (λ (y : Up). climb ups y.depth y.wid [])) u in
          absurd cc

      same : (n : ℕ) → item_in depth_codec depths n ≡ depth_of (names_of ws) n
      same n = depth_given n ∙ by n (up_in ups n) refl (path_in ws n) refl

-- ---- world 0

pub root_there : (ups : List Up) → has_root ups ≡ true → (x : Up) × (up_in ups 0 ≡ Some x) × (x.depth ≡ 0)
root_there [] h = absurd (false≢true h)
root_there (x ∷ ups) h = by (nat_eq x.wid 0) refl (λ f. root_there ups f)
  where
    turned : nat_eq 0 x.wid ≡ nat_eq x.wid 0
    turned = grind (arith, nat_tests)

    by : (b : Bool) → nat_eq x.wid 0 ≡ b → (has_root ups ≡ true → (y : Up) × (up_in ups 0 ≡ Some y) × (y.depth ≡ 0)) → (y : Up) × (up_in (x ∷ ups) 0 ≡ Some y) × (y.depth ≡ 0)
    by true s later = (x, cond-true (nat_eq 0 x.wid) (Some x) (up_in ups 0) (turned ∙ s), eqb-true x.depth 0 (sym (cond-true (nat_eq x.wid 0) (nat_eq x.depth 0) (has_root ups) s) ∙ h))
    by false s later =
        let y = later (sym (cond-false (nat_eq x.wid 0) (nat_eq x.depth 0) (has_root ups) s) ∙ h) in
        (y.0, cond-false (nat_eq 0 x.wid) (Some x) (up_in ups 0) (turned ∙ s) ∙ y.1, y.2)

pub root_found : (ups : List Up) (x : Up) → up_in ups 0 ≡ Some x → x.depth ≡ 0 → has_root ups ≡ true
root_found [] x e d = absurd cc
root_found (y ∷ ups) x e d = by (nat_eq y.wid 0) refl (λ f. root_found ups x f d)
  where
    turned : nat_eq 0 y.wid ≡ nat_eq y.wid 0
    turned = grind (arith, nat_tests)

    by : (b : Bool) → nat_eq y.wid 0 ≡ b → (up_in ups 0 ≡ Some x → has_root ups ≡ true) → has_root (y ∷ ups) ≡ true
    by true s later =
        let same : y ≡ x = same_some y x (sym (cond-true (nat_eq 0 y.wid) (Some y) (up_in ups 0) (turned ∙ s)) ∙ e) in
        cond-true (nat_eq y.wid 0) (nat_eq y.depth 0) (has_root ups) s ∙ eq-eqb y.depth 0 (ap (λ (z : Up). z.depth) same ∙ d)
    by false s later =
        cond-false (nat_eq y.wid 0) (nat_eq y.depth 0) (has_root ups) s ∙ later (sym (cond-false (nat_eq 0 y.wid) (Some y) (up_in ups 0) (turned ∙ s)) ∙ e)

-- ---- no more numbers than those in use

-- numbers without one
abbrev without : ℕ → List ℕ → List ℕ
without x [] = []
without x (y ∷ ys) = cond (nat_eq x y) (without x ys) (y ∷ without x ys)

less_or_same : (x : ℕ) (ys : List ℕ) → length (without x ys) ≤ length ys
less_or_same x [] = omega arith
less_or_same x (y ∷ ys) = let r = less_or_same x ys in by (nat_eq x y) r
  where
    by : (b : Bool) → length (without x ys) ≤ length ys → length (cond b (without x ys) (y ∷ without x ys)) ≤ suc (length ys)
    by true r = omega arith
    by false r = omega arith

one_less : (x : ℕ) (ys : List ℕ) → is_listed x ys ≡ true → suc (length (without x ys)) ≤ length ys
one_less x [] h = absurd (false≢true h)
one_less x (y ∷ ys) h = by (nat_eq x y) refl (λ f. one_less x ys f)
  where
    by : (b : Bool) → nat_eq x y ≡ b → (is_listed x ys ≡ true → suc (length (without x ys)) ≤ length ys) → suc (length (without x (y ∷ ys))) ≤ suc (length ys)
    by true s later = let r = less_or_same x ys in let e = ap length (cond-true (nat_eq x y) (without x ys) (y ∷ without x ys) s) in omega arith
    by false s later =
        let r = later (sym (ap (λ b. b || is_listed x ys) s) ∙ h) in
        let e = ap length (cond-false (nat_eq x y) (without x ys) (y ∷ without x ys) s) in
        omega arith

kept_without : (x z : ℕ) (ys : List ℕ) → nat_eq x z ≡ false → is_listed z ys ≡ true → is_listed z (without x ys) ≡ true
kept_without x z [] d h = absurd (false≢true h)
kept_without x z (y ∷ ys) d h = by (nat_eq x y) refl (or_cases (nat_eq z y) (is_listed z ys) h) (λ f. kept_without x z ys d f)
  where
    by : (b : Bool) → nat_eq x y ≡ b → (nat_eq z y ≡ true) ⊎ (is_listed z ys ≡ true) → (is_listed z ys ≡ true → is_listed z (without x ys) ≡ true) → is_listed z (without x (y ∷ ys)) ≡ true
    by true s (inl e) later = let clash : nat_eq x z ≡ true = eq-eqb x z (eqb-true x y s ∙ sym (eqb-true z y e)) in absurd (false≢true (sym d ∙ clash))
    by true s (inr e) later = ap (is_listed z) (cond-true (nat_eq x y) (without x ys) (y ∷ without x ys) s) ∙ later e
    by false s (inl e) later = ap (is_listed z) (cond-false (nat_eq x y) (without x ys) (y ∷ without x ys) s) ∙ or_left (nat_eq z y) (is_listed z (without x ys)) e
    by false s (inr e) later = ap (is_listed z) (cond-false (nat_eq x y) (without x ys) (y ∷ without x ys) s) ∙ or_right (nat_eq z y) (is_listed z (without x ys)) (later e)

all_kept : (x : ℕ) (xs ys : List ℕ) → is_listed x xs ≡ false → list_all (λ z. is_listed z ys) xs ≡ true → list_all (λ z. is_listed z (without x ys)) xs ≡ true
all_kept x [] ys d h = refl
all_kept x (z ∷ xs) ys d h =
    let p = or_parts (nat_eq x z) (is_listed x xs) d in
    let q = and_parts (is_listed z ys) (list_all (λ k. is_listed k ys) xs) h in
    and_from (is_listed z (without x ys)) (list_all (λ k. is_listed k (without x ys)) xs) (kept_without x z ys p.0 q.0) (all_kept x xs ys p.1 q.1)

pub no_more : (xs ys : List ℕ) → are_once xs ≡ true → list_all (λ z. is_listed z ys) xs ≡ true → length xs ≤ length ys
no_more [] ys o h = omega arith
no_more (x ∷ xs) ys o h =
    let p = and_parts (not (is_listed x xs)) (are_once xs) o in
    let q = and_parts (is_listed x ys) (list_all (λ z. is_listed z ys) xs) h in
    let r = no_more xs (without x ys) p.1 (all_kept x xs ys (not-true (is_listed x xs) p.0) q.1) in
    let l = one_less x ys q.0 in
    omega arith

-- ---- what the states tell

module _ (t : Tables) (users : ℕ → Bool) (ns : Names) (h : HoldsStates users ns t) (depths : List (ℕ × ℕ)) (ups : List Up) (under : AreUnder depth_codec t [] depths) (are : AreUps t depths ups) where
  has_own_root : has_root ups ≡ true
  has_own_root = let u = up_of_path t users ns h depths ups under are 0 [] (h.names.numbered [] 0 h.names.root) in root_found ups u.0 u.1 u.2

  are_few : length ups ≤ most_numbered
  are_few =
      let less = no_more (map number_of_up ups) ns.used (once_of (map number_of_up ups) (ups_ascend t depths ups under are)) (all_used ups (own_depths t depths ups under are)) in
      let few = h.names.few in
      let same = count ups in
      omega arith
    where
      count : (xs : List Up) → length (map number_of_up xs) ≡ length xs
      count [] = refl
      count (x ∷ xs) = ap suc (count xs)

      all_used : (xs : List Up) → AllByRecursion (λ (x : Up). HasDepth t x.wid x.depth) xs → list_all (λ z. is_listed z ns.used) (map number_of_up xs) ≡ true
      all_used [] d = refl
      all_used (x ∷ xs) d =
          let deep = path_deep t users ns h x.wid x.depth d.0 in
          and_from (is_listed x.wid ns.used) (list_all (λ z. is_listed z ns.used) (map number_of_up xs)) (h.names.counted x.wid ∙ ap is_some deep.1) (all_used xs d.1)

  pub trees_pass : (nat_le (length ups) most_numbered && has_root ups) ≡ true
  trees_pass = and_from (nat_le (length ups) most_numbered) (has_root ups) (le-leb (length ups) most_numbered are_few) has_own_root

pub no_tree : (t : Tables) (depths : List (ℕ × ℕ)) (ups given : List Up) → AreUnder depth_codec t [] depths → AreUps t depths ups → given ≡ ups → (nat_le (length given) most_numbered && has_root given) ≡ false → HoldNoStates t
no_tree t depths ups given under are is bad users ns h =
    false≢true (sym bad ∙ ap (λ xs. nat_le (length xs) most_numbered && has_root xs) is ∙ trees_pass t users ns h depths ups under are)

pub no_led : (t u : Tables) (depths : List (ℕ × ℕ)) (ups given : List Up) → AreUps t depths ups → u ≡ t → given ≡ ups → (AllByRecursion (IsLedByEdge u) given → ⊥) → HoldNoStates t
no_led t u depths ups given are same is bad users ns h =
    bad (subst (λ v. AllByRecursion (IsLedByEdge v) given) (sym same) (subst (AllByRecursion (IsLedByEdge t)) (sym is) (all_are_led t users ns h ups are.tell)))

pub led_known : (t u : Tables) (depths : List (ℕ × ℕ)) (ups given too : List Up) → AreUnder depth_codec t [] depths → AreUps t depths ups → u ≡ t → given ≡ ups → too ≡ ups
    → (nat_le (length given) most_numbered && has_root given) ≡ true → AllByRecursion (IsLedByEdge u) too → AreLedUps t ups
led_known t u depths ups given too under are same is also good led =
    let p = and_parts (nat_le (length ups) most_numbered) (has_root ups) (ap (λ xs. nat_le (length xs) most_numbered && has_root xs) (sym is) ∙ good) in
    record {
      depths = depths;
      under = under;
      are = are;
      few = leb-true (length ups) most_numbered p.0;
      root = p.1;
      led = subst (λ v. AllByRecursion (IsLedByEdge v) ups) same (subst (AllByRecursion (IsLedByEdge u)) also led);
    }

pub worlds_known : (t : Tables) (ups given : List Up) → AreLedUps t ups → given ≡ ups → (ws : List NamedWorld) → AreNamedUps given given ws → AreWorlds t ws
worlds_known t ups given h is ws named =
    let told = names_known t h.depths ups given h.under h.are is ws named in
    let made : map named_as ws ≡ map (climbed_as ups) ups = subst (λ xs. map named_as ws ≡ map (climbed_as xs) xs) is named.same in
    let root = root_there ups h.root in
    record {
      told = told;
      names = are_names t h.depths ups h.under h.are ws made h.led told.sorted named.apart root.0 root.1 root.2 h.few;
      depths = depths_are t h.depths ups h.under h.are ws made h.led;
    }

pub led_ascend : (t : Tables) (ups given : List Up) → AreLedUps t ups → given ≡ ups → ascending nat_cmp (map number_of_up given) ≡ true
led_ascend t ups given h is = ap (λ xs. ascending nat_cmp (map number_of_up xs)) is ∙ ups_ascend t h.depths ups h.under h.are

pub led_no_names : (t : Tables) (ups given : List Up) → AreLedUps t ups → given ≡ ups → (AllByRecursion (IsClimbed given) given → ⊥) → HoldNoStates t
led_no_names t ups given h is bad = no_names t h.depths ups given h.under h.are is bad
