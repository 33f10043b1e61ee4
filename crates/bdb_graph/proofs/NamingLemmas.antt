-- The names of worlds, each from the world from which it comes.
use Rattle.std.proofs.Common.{◌≡◌, ◌∙◌, ℕ, zero, suc, ◌+◌, ◌-◌, ◌<◌, ◌^◌, Bool, true, false, cond, nat_eq, List, [], ◌∷◌, ◌++◌, length, map, take, get_or, ◌&&◌, slice_get, slice_index_or, append_assoc, Option, Some, None, refl, ap, sym, subst, arith}
use Rattle.std.specs.List.{AllByRecursion, list_all}
use Rattle.std.specs.Option.{option_map, option_and_then}
use Rattle.std.specs.Ordering.{is_eq, is_lt, nat_cmp}
use Rattle.std.proofs.lemmas.Bool.{and_parts, and_from, or_parts, cond-true, cond-false, eqb-true, eq-eqb}
use Rattle.std.proofs.lemmas.List.{map-append, take_more, append-nil}
use Rattle.std.proofs.lemmas.List.Folds.{list_all-append}
use Rattle.bdb_base.specs.Alternation.{alternates}
use Rattle.bdb_base.specs.SortedSet.{ascending, is_member}
use Rattle.bdb_base.specs.OrderLemmas.{is_eq_nat_cmp}
use Rattle.bdb_base.proofs.AllLemmas.{all_weaker}
use Rattle.bdb_base.proofs.Numbers.{eq_turned}
use Rattle.bdb_keep.specs.Tables.{Tables}
use Rattle.bdb_key.specs.Grammar.{IsNum}
use Rattle.bdb_tables.specs.InUse.{depth_codec}
use Rattle.bdb_tables.specs.InUseLaws.{numbers_in_order, number_rows_are_one}
use Rattle.bdb_tables.specs.Names.{Names, path_of, depth_of}
use Rattle.bdb_tables.specs.Spans.{AreUnder, IsUnder, entry_cmp}
use Rattle.bdb_tables.specs.States.{HoldsStates}
use Rattle.bdb_tables.proofs.WriteLemmas.{gives_one}
use Rattle.bdb_names.proofs.Ends.{length_more}
use Rattle.bdb_names.proofs.NameLemmas.{depth_at, path_is_named}
use Rattle.bdb_entries.proofs.TupleLemmas.{item_in, items_give}
use Rattle.bdb_graph.specs.Naming.{AreNamedUps, IsClimbed, IsNamedUp, TellNames, climb, climbed_as, named_as, number_of_up, path_in, up_in}
use Rattle.bdb_graph.specs.Ups.{AreUps, HasDepth, HasFront, HoldNoStates, TellsUp, depth_row}
use Rattle.bdb_names.specs.declared.named.NamedWorld.{NamedWorld}
use Rattle.bdb_graph.specs.declared.ups.Up.{Up}
use Rattle.bdb_graph.proofs.NumberLemmas.{all_at, lt_differs}
use Rattle.bdb_graph.proofs.UpLemmas.{path_deep, rows_have_depths}

-- ---- the world of a number

pub up_found : (ups : List Up) (at n : ℕ) (other : Up) → ascending nat_cmp (map number_of_up ups) ≡ true → slice_get (map number_of_up ups) at ≡ Some n → Some (slice_index_or ups at other) ≡ up_in ups n
up_found [] at n other a e = absurd cc
up_found (x ∷ ups) zero n other a e =
    let s : x.wid ≡ n = cc in
    sym (cond-true (nat_eq n x.wid) (Some x) (up_in ups n) (eq-eqb n x.wid (sym s)))
up_found (x ∷ ups) (suc at) n other a e =
    let k = and_parts (list_all (λ y. is_lt (nat_cmp x.wid y)) (map number_of_up ups)) (ascending nat_cmp (map number_of_up ups)) a in
    let less = all_at (λ y. is_lt (nat_cmp x.wid y)) (map number_of_up ups) at n k.0 e in
    up_found ups at n other k.1 e ∙ sym (cond-false (nat_eq n x.wid) (Some x) (up_in ups n) (lt_differs x.wid n less))

pub up_missing : (ups : List Up) (n : ℕ) → is_member nat_cmp (map number_of_up ups) n ≡ false → None ≡ up_in ups n
up_missing [] n e = refl
up_missing (x ∷ ups) n e =
    let k = or_parts (is_eq (nat_cmp x.wid n)) (is_member nat_cmp (map number_of_up ups) n) e in
    up_missing ups n k.1 ∙ sym (cond-false (nat_eq n x.wid) (Some x) (up_in ups n) (sym (eq_turned x.wid n) ∙ k.0))

-- ---- the way from world 0

pub climb_step : (ups : List Up) (d n : ℕ) (back : List ℕ) (x : Up) → up_in ups n ≡ Some x → climb ups (suc d) n back ≡ climb ups d x.from (x.uid ∷ back)
climb_step ups d n back x e = ap (option_and_then (λ (y : Up). climb ups d y.from (y.uid ∷ back))) e

pub climb_on : (ups : List Up) (left n : ℕ) (back next_back : List ℕ) (x : Up) (all : Option (List ℕ)) → 0 < left → Some x ≡ up_in ups n → next_back ≡ x.uid ∷ back → climb ups left n back ≡ all
    → climb ups (left - 1) x.from next_back ≡ all
climb_on ups left n back next_back x all some e is h =
    let more : suc (left - 1) ≡ left = omega arith in
    ap (climb ups (left - 1) x.from) is ∙ sym (climb_step ups (left - 1) n back x (sym e)) ∙ ap (λ k. climb ups k n back) more ∙ h

pub climb_off : (ups : List Up) (left n : ℕ) (back : List ℕ) (all : Option (List ℕ)) → 0 < left → None ≡ up_in ups n → climb ups left n back ≡ all → all ≡ None
climb_off ups left n back all some e h =
    let more : left ≡ suc (left - 1) = omega arith in
    sym h ∙ ap (λ k. climb ups k n back) more ∙ ap (option_and_then (λ (y : Up). climb ups (left - 1) y.from (y.uid ∷ back))) (sym e)

pub climb_ends : (ups : List Up) (left n : ℕ) (back : List ℕ) (all : Option (List ℕ)) (b : Bool) → left ≡ 0 → nat_eq n 0 ≡ b → climb ups left n back ≡ all → all ≡ cond b (Some back) None
climb_ends ups left n back all b none e h = sym h ∙ ap (λ k. climb ups k n back) none ∙ ap (λ t. cond t (Some back) None) e

-- ---- what the states tell

pub up_tells : (P : Up → Type 0) (xs : List Up) (n : ℕ) (x : Up) → AllByRecursion P xs → up_in xs n ≡ Some x → (x.wid ≡ n) × P x
up_tells P [] n x h e = absurd cc
up_tells P (y ∷ xs) n x h e = by (nat_eq n y.wid) refl (λ f. up_tells P xs n x h.1 f)
  where
    by : (b : Bool) → nat_eq n y.wid ≡ b → (up_in xs n ≡ Some x → (x.wid ≡ n) × P x) → (x.wid ≡ n) × P x
    by true s later =
        let f : Some y ≡ Some x = sym (cond-true (nat_eq n y.wid) (Some y) (up_in xs n) s) ∙ e in
        let is : y ≡ x = cc in
        (ap (λ (z : Up). z.wid) (sym is) ∙ sym (eqb-true n y.wid s), subst P is h.0)
    by false s later = later (sym (cond-false (nat_eq n y.wid) (Some y) (up_in xs n) s) ∙ e)

pub items_of_ups : (xs : List Up) (n : ℕ) → item_in depth_codec (map depth_row xs) n ≡ option_map (λ (x : Up). x.depth) (up_in xs n)
items_of_ups [] n = refl
items_of_ups (x ∷ xs) n =
    ap (λ b. cond b (Some x.depth) (item_in depth_codec (map depth_row xs) n)) (is_eq_nat_cmp n x.wid)
    ∙ ap (cond (nat_eq n x.wid) (Some x.depth)) (items_of_ups xs n)
    ∙ by (nat_eq n x.wid) (up_in xs n)
  where
    by : (b : Bool) (o : Option Up) → cond b (Some x.depth) (option_map (λ (y : Up). y.depth) o) ≡ option_map (λ (y : Up). y.depth) (cond b (Some x) o)
    by true o = refl
    by false o = refl

pub all_mapped : {X Y : Type 0} (f : X → Y) (P : Y → Type 0) (xs : List X) → AllByRecursion P (map f xs) → AllByRecursion (λ x. P (f x)) xs
all_mapped f P [] h = tt
all_mapped f P (x ∷ xs) h = (h.0, all_mapped f P xs h.1)

pub paths_of_ups : (ups xs : List Up) (ws : List NamedWorld) → map named_as ws ≡ map (climbed_as ups) xs → (n : ℕ) → option_map (λ (w : List ℕ). Some w) (path_in ws n) ≡ option_map (λ (x : Up). climb ups x.depth x.wid []) (up_in xs n)
paths_of_ups ups [] [] e n = refl
paths_of_ups ups [] (y ∷ ws) e n = absurd cc
paths_of_ups ups (x ∷ xs) [] e n = absurd cc
paths_of_ups ups (x ∷ xs) (y ∷ ws) e n =
    let number : y.wid ≡ x.wid = head_number (named_as y) (climbed_as ups x) (map named_as ws) (map (climbed_as ups) xs) e in
    let path : Some y.path ≡ climb ups x.depth x.wid [] = head_path (named_as y) (climbed_as ups x) (map named_as ws) (map (climbed_as ups) xs) e in
    let rest : map named_as ws ≡ map (climbed_as ups) xs = cc in
    ap (λ k. option_map (λ (w : List ℕ). Some w) (cond (nat_eq n k) (Some y.path) (path_in ws n))) number
    ∙ by (nat_eq n x.wid) path (paths_of_ups ups xs ws rest n)
  where
    head_number : (a b : ℕ × Option (List ℕ)) (cs ds : List (ℕ × Option (List ℕ))) → a ∷ cs ≡ b ∷ ds → a.0 ≡ b.0
    head_number a b cs ds f = let s : a ≡ b = cc in ap (λ (c : ℕ × Option (List ℕ)). c.0) s

    head_path : (a b : ℕ × Option (List ℕ)) (cs ds : List (ℕ × Option (List ℕ))) → a ∷ cs ≡ b ∷ ds → a.1 ≡ b.1
    head_path a b cs ds f = let s : a ≡ b = cc in ap (λ (c : ℕ × Option (List ℕ)). c.1) s

    by : (b : Bool) → Some y.path ≡ climb ups x.depth x.wid []
        → option_map (λ (w : List ℕ). Some w) (path_in ws n) ≡ option_map (λ (z : Up). climb ups z.depth z.wid []) (up_in xs n)
        → option_map (λ (w : List ℕ). Some w) (cond b (Some y.path) (path_in ws n)) ≡ option_map (λ (z : Up). climb ups z.depth z.wid []) (cond b (Some x) (up_in xs n))
    by true p r = ap Some p
    by false p r = r

module _ (t : Tables) (users : ℕ → Bool) (ns : Names) (h : HoldsStates users ns t) (depths : List (ℕ × ℕ)) (ups : List Up) (under : AreUnder depth_codec t [] depths) (are : AreUps t depths ups) where
  depth_given : (n : ℕ) → IsNum n → option_map (λ (x : Up). x.depth) (up_in ups n) ≡ depth_of ns n
  depth_given n fits =
      sym (items_of_ups ups n) ∙ ap (λ es. item_in depth_codec es n) are.rows
      ∙ gives_one depth_codec number_rows_are_one t (item_in depth_codec depths) (depth_of ns) (items_give depth_codec numbers_in_order t depths under) h.tables.depth n fits

  pub up_of_path : (n : ℕ) (w : List ℕ) → path_of ns n ≡ Some w → (x : Up) × (up_in ups n ≡ Some x) × (x.depth ≡ length w)
  up_of_path n w e = by (up_in ups n) refl (depth_given n (h.names.sized w n (h.names.named n w e)) ∙ depth_at ns n w e)
    where
      by : (o : Option Up) → up_in ups n ≡ o → option_map (λ (x : Up). x.depth) (up_in ups n) ≡ Some (length w) → (x : Up) × (up_in ups n ≡ Some x) × (x.depth ≡ length w)
      by None u d = let f : option_map (λ (x : Up). x.depth) None ≡ Some (length w) = ap (option_map (λ (x : Up). x.depth)) (sym u) ∙ d in absurd cc
      by (Some x) u d = let f : Some x.depth ≡ Some (length w) = ap (option_map (λ (y : Up). y.depth)) (sym u) ∙ d in let s : x.depth ≡ length w = cc in (x, u, s)

  climb_is : (d n : ℕ) (w back : List ℕ) → length w ≡ d → path_of ns n ≡ Some w → climb ups d n back ≡ Some (w ++ back)
  climb_is zero n [] back l e =
      let f : Some 0 ≡ Some n = sym h.names.root ∙ h.names.named n [] e in
      let s : 0 ≡ n = cc in
      ap (λ k. cond (nat_eq k 0) (Some back) None) (sym s)
  climb_is zero n (j ∷ w) back l e = absurd (omega arith)
  climb_is (suc d) n w back l e =
      let u = up_of_path n w e in
      let x = u.0 in
      let told = up_tells (TellsUp t) ups n x are.tell u.1 in
      let front : HasFront ns x.wid x.from x.uid (suc d) = subst (HasFront ns x.wid x.from x.uid) (u.2 ∙ l) (told.1 users ns h) in
      let v = front.0 in
      let both : Some w ≡ Some (v ++ x.uid ∷ []) = sym e ∙ ap (path_of ns) (sym told.0) ∙ front.2 in
      let is : w ≡ v ++ x.uid ∷ [] = cc in
      let m = length_more v x.uid in
      let k = ap length is in
      climb_step ups d n back x u.1 ∙ climb_is d x.from v (x.uid ∷ back) (omega arith) front.1 ∙ ap Some (sym (append_assoc v (x.uid ∷ []) back)) ∙ ap (λ (y : List ℕ). Some (y ++ back)) (sym is)

  whole_climb : (n : ℕ) (w : List ℕ) (d : ℕ) → length w ≡ d → path_of ns n ≡ Some w → climb ups d n [] ≡ Some w
  whole_climb n w d l e = climb_is d n w [] l e ∙ ap Some (append-nil w)

  pub all_climbed : AllByRecursion (IsClimbed ups) ups
  all_climbed =
      all_weaker (λ (x : Up). HasDepth t x.wid x.depth) (IsClimbed ups) ups
      (λ x has.
      let deep = path_deep t users ns h x.wid x.depth has in
      record { path = deep.0; climbed = whole_climb x.wid deep.0 x.depth deep.2 deep.1; apart = h.names.apart deep.0 (path_is_named ns h.names x.wid deep.0 deep.1) })
      (all_mapped depth_row (λ (e : ℕ × ℕ). HasDepth t e.0 e.1) ups (subst (AllByRecursion (λ (e : ℕ × ℕ). HasDepth t e.0 e.1)) (sym are.rows) (rows_have_depths t depths under)))

  pub names_told : (ws : List NamedWorld) → map named_as ws ≡ map (climbed_as ups) ups → (n : ℕ) → n < 2 ^ 32 → path_of ns n ≡ path_in ws n
  names_told ws e n fits = by (path_of ns n) refl
    where
      some : (o : Option (List ℕ)) (w : List ℕ) → option_map (λ (v : List ℕ). Some v) o ≡ Some (Some w) → o ≡ Some w
      some None w f = absurd cc
      some (Some v) w f = cc

      none : (o : Option (List ℕ)) → option_map (λ (v : List ℕ). Some v) o ≡ None → o ≡ None
      none None f = refl
      none (Some v) f = absurd cc

      no_up : (o : Option Up) → option_map (λ (x : Up). x.depth) o ≡ None → o ≡ None
      no_up None f = refl
      no_up (Some x) f = absurd cc

      by : (o : Option (List ℕ)) → path_of ns n ≡ o → path_of ns n ≡ path_in ws n
      by (Some w) p =
          let u = up_of_path n w p in
          let told = up_tells (TellsUp t) ups n u.0 are.tell u.1 in
          p ∙ sym (some (path_in ws n) w (paths_of_ups ups ups ws e n ∙ ap (option_map (λ (x : Up). climb ups x.depth x.wid [])) u.1
          ∙ ap Some (whole_climb u.0.wid w u.0.depth (sym u.2) (ap (path_of ns) told.0 ∙ p))))
      by None p =
          let missing = no_up (up_in ups n) (depth_given n fits ∙ ap (option_map (λ (w : List ℕ). length w)) p) in
          p ∙ sym (none (path_in ws n) (paths_of_ups ups ups ws e n ∙ ap (option_map (λ (x : Up). climb ups x.depth x.wid [])) missing))

-- ---- the numbers of worlds in order

numbers_ascend : (xs : List Up) → AllByRecursion (IsUnder depth_codec []) (map depth_row xs) → ascending (entry_cmp depth_codec) (map depth_row xs) ≡ true → ascending nat_cmp (map number_of_up xs) ≡ true
numbers_ascend [] u a = refl
numbers_ascend (x ∷ xs) u a =
    let k = and_parts (list_all (λ y. is_lt (entry_cmp depth_codec (depth_row x) y)) (map depth_row xs)) (ascending (entry_cmp depth_codec) (map depth_row xs)) a in
    and_from (list_all (λ y. is_lt (nat_cmp x.wid y)) (map number_of_up xs)) (ascending nat_cmp (map number_of_up xs)) (later xs u.1 k.0) (numbers_ascend xs u.1 k.1)
  where
    later : (ys : List Up) → AllByRecursion (IsUnder depth_codec []) (map depth_row ys) → list_all (λ y. is_lt (entry_cmp depth_codec (depth_row x) y)) (map depth_row ys) ≡ true
        → list_all (λ y. is_lt (nat_cmp x.wid y)) (map number_of_up ys) ≡ true
    later [] v l = refl
    later (y ∷ ys) v l =
        let p = and_parts (is_lt (entry_cmp depth_codec (depth_row x) (depth_row y))) (list_all (λ z. is_lt (entry_cmp depth_codec (depth_row x) z)) (map depth_row ys)) l in
        and_from (is_lt (nat_cmp x.wid y.wid)) (list_all (λ z. is_lt (nat_cmp x.wid z)) (map number_of_up ys))
        (ap is_lt (sym (numbers_in_order x.wid y.wid u.0.key v.0.key)) ∙ p.0) (later ys v.1 p.1)

pub ups_ascend : (t : Tables) (depths : List (ℕ × ℕ)) (ups : List Up) → AreUnder depth_codec t [] depths → AreUps t depths ups → ascending nat_cmp (map number_of_up ups) ≡ true
ups_ascend t depths ups under are =
    numbers_ascend ups (subst (AllByRecursion (IsUnder depth_codec [])) (sym are.rows) under.each) (ap (ascending (entry_cmp depth_codec)) are.rows ∙ under.sorted)

pub numbers_kept : (ups xs : List Up) (ws : List NamedWorld) → map named_as ws ≡ map (climbed_as ups) xs → map (λ (y : NamedWorld). y.wid) ws ≡ map number_of_up xs
numbers_kept ups [] [] e = refl
numbers_kept ups [] (y ∷ ws) e = absurd cc
numbers_kept ups (x ∷ xs) [] e = absurd cc
numbers_kept ups (x ∷ xs) (y ∷ ws) e =
    let both : named_as y ≡ climbed_as ups x = cc in
    let rest : map named_as ws ≡ map (climbed_as ups) xs = cc in
    let number : y.wid ≡ x.wid = ap (λ (c : ℕ × Option (List ℕ)). c.0) both in
    ap (λ k. k ∷ map (λ (z : NamedWorld). z.wid) ws) number ∙ ap (λ (ks : List ℕ). x.wid ∷ ks) (numbers_kept ups xs ws rest)

-- ---- what the function tells

pub ups_here : (t u : Tables) (depths rows : List (ℕ × ℕ)) (ups : List Up) → u ≡ t → rows ≡ depths → AreUps u rows ups → AreUps t depths ups
ups_here t u depths rows ups same is h = subst (λ v. AreUps v depths ups) same (subst (λ es. AreUps u es ups) is h)

pub no_names : (t : Tables) (depths : List (ℕ × ℕ)) (ups given : List Up) → AreUnder depth_codec t [] depths → AreUps t depths ups → given ≡ ups → (AllByRecursion (IsClimbed given) given → ⊥) → HoldNoStates t
no_names t depths ups given under are is h users ns holds = subst (λ xs. AllByRecursion (IsClimbed xs) xs → ⊥) is h (all_climbed t users ns holds depths ups under are)

pub names_known : (t : Tables) (depths : List (ℕ × ℕ)) (ups given : List Up) → AreUnder depth_codec t [] depths → AreUps t depths ups → given ≡ ups → (ws : List NamedWorld)
    → AreNamedUps given given ws → TellNames t ws
names_known t depths ups given under are is ws h =
    let made : map named_as ws ≡ map (climbed_as ups) ups = subst (λ xs. map named_as ws ≡ map (climbed_as xs) xs) is h.same in
    record {
      sorted = ap (ascending nat_cmp) (numbers_kept ups ups ws made) ∙ ups_ascend t depths ups under are;
      tell = λ users ns holds n fits. names_told t users ns holds depths ups under are ws made n fits;
    }

-- ---- one more

pub named_more : (ups xs : List Up) (k : ℕ) (other x : Up) (ws after : List NamedWorld) (w : NamedWorld) → k < length xs → x ≡ get_or xs k other → AreNamedUps ups (take k xs) ws → IsNamedUp ups x w
    → after ≡ ws ++ w ∷ [] → AreNamedUps ups (take (k + 1) xs) after
named_more ups xs k other x ws after w l there h one is = record {
  same = ap (map named_as) is ∙ map-append named_as ws (w ∷ []) ∙ ap (λ ps. ps ++ named_as w ∷ []) h.same ∙ ap (λ p. map (climbed_as ups) (take k xs) ++ p ∷ []) (one.same ∙ ap (climbed_as ups) there)
      ∙ sym (map-append (climbed_as ups) (take k xs) (get_or xs k other ∷ [])) ∙ ap (map (climbed_as ups)) (sym (take_more xs k other l));
  apart = ap (list_all (λ (y : NamedWorld). alternates y.path)) is ∙ list_all-append (λ (y : NamedWorld). alternates y.path) ws (w ∷ [])
      ∙ and_from (list_all (λ (y : NamedWorld). alternates y.path) ws) (alternates w.path && true) h.apart (and_from (alternates w.path) true one.apart refl);
}
