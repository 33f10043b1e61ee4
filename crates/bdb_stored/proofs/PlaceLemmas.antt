-- Places of worlds by their numbers, and worlds by their places.
use Rattle.std.proofs.Common.{◌≡◌, ◌∙◌, ℕ, suc, ◌+◌, ◌<◌, ◌≤◌, Bool, true, false, not, ◌&&◌, nat_eq, nat_lt, List, [], ◌∷◌, length, map, get_or, Option, Some, None, cond, refl, ap, sym, inl, inr, arith}
use Prim.Native.Nat.{zero}
use Rattle.std.specs.List.{list_all, position, position_or_len}
use Rattle.std.specs.Option.{unwrap_or}
use Rattle.std.specs.Ordering.{is_eq}
use Rattle.std.proofs.lemmas.Bool.{cases_lt, and_parts, false≢true, eqb-true, eq-eqb, lt-ltb}
use Rattle.std.proofs.lemmas.List.{length-map}
use Rattle.bdb_base.specs.Bases.{Contents}
use Rattle.bdb_base.specs.Order.{path_cmp}
use Rattle.bdb_base.specs.OrderLemmas.{path_exact}
use Rattle.bdb_base.specs.SortedSet.{is_member}
use Rattle.bdb_base.specs.States.{states_of, stated_prefixes}
use Rattle.bdb_base.proofs.SetLemmas.{is_eq-Equal, is_eq_itself, set_is_ascending}
use Rattle.bdb_base.proofs.BoolLemmas.{same_tests}
use Rattle.bdb_base.proofs.OptionLemmas.{same_some}
use Rattle.bdb_canon.proofs.RangeLemmas.{items_are_members}
use Rattle.bdb_keep.specs.Tables.{Tables}
use Rattle.bdb_names.proofs.NameLemmas.{number_is, same_number}
use Rattle.bdb_paths.specs.Places.{place_in}
use Rattle.bdb_paths.proofs.PlaceLemmas.{place_of_item}
use Rattle.bdb_paths.proofs.StateLemmas.{list_has_states}
use Rattle.bdb_tables.specs.Names.{Names, AreNames, path_of, number_of, is_named}
use Rattle.bdb_catalog.specs.Bases.{StoresSome, StoresValid}
use Rattle.bdb_stored.specs.Worlds.{AreStatesInOrder, IsState, TellsStates, named_world, place_of_number}
use Rattle.bdb_names.specs.declared.named.NamedWorld.{NamedWorld}

-- ---- what a search finds

module _ {X : Type 0} (p : X → Bool) where
  within : (xs : List X) → position_or_len p xs ≤ length xs
  within [] = omega arith
  within (x ∷ xs) = let k = within xs in by (p x) k
    where
      by : (c : Bool) → position_or_len p xs ≤ length xs → cond (not c) (1 + position_or_len p xs) 0 ≤ suc (length xs)
      by true k = omega arith
      by false k = omega arith

  pub found_at : (xs : List X) (at : ℕ) → Some at ≡ position p xs → at ≡ position_or_len p xs
  found_at xs at e = by (nat_lt (position_or_len p xs) (length xs)) e
    where
      by : (c : Bool) → Some at ≡ cond c (Some (position_or_len p xs)) None → at ≡ position_or_len p xs
      by true f = same_some at (position_or_len p xs) f
      by false f = absurd cc

  last : (m n : ℕ) → m ≤ n → nat_lt m n ≡ false → n ≡ m
  last m n l g = elim (cases_lt m n) [
    | inl less ↦ absurd (false≢true (sym g ∙ lt-ltb m n less))
    | inr ge ↦ omega arith
  ]

  pub not_found : (xs : List X) → None ≡ position p xs → length xs ≡ position_or_len p xs
  not_found xs e = by (nat_lt (position_or_len p xs) (length xs)) refl e
    where
      by : (c : Bool) → nat_lt (position_or_len p xs) (length xs) ≡ c → None ≡ cond c (Some (position_or_len p xs)) None → length xs ≡ position_or_len p xs
      by true g f = absurd cc
      by false g f = last (position_or_len p xs) (length xs) (within xs) g

  pub place_within : (xs : List X) (at : ℕ) → at ≡ position_or_len p xs → at ≤ length xs
  place_within xs at e = let k = within xs in omega arith

-- ---- the place of a number

module _ (ns : Names) (a : AreNames ns) where
  -- the number of a path's world is that of the path
  pub number_named : (w : List ℕ) (n : ℕ) → number_of ns w ≡ Some n → (named_world ns w).wid ≡ n
  number_named w n e = ap (λ (o : Option ℕ). unwrap_or o 0) e

  pub path_named : (w : List ℕ) → is_named ns w ≡ true → path_of ns (named_world ns w).wid ≡ Some w
  path_named w e = let n = number_is ns w e in ap (path_of ns) (number_named w n.0 n.1) ∙ a.numbered w n.0 n.1

  same_test : (v w : List ℕ) (m : ℕ) → is_named ns v ≡ true → number_of ns w ≡ Some m → nat_eq (named_world ns v).wid m ≡ is_eq (path_cmp v w)
  same_test v w m e f =
      let n = number_is ns v e in
      ap (λ k. nat_eq k m) (number_named v n.0 n.1)
      ∙ same_tests (nat_eq n.0 m) (is_eq (path_cmp v w))
      (λ t. let same : v ≡ w = same_number ns a v w m (n.1 ∙ ap Some (eqb-true n.0 m t)) f in ap (λ x. is_eq (path_cmp x w)) same ∙ is_eq_itself path_exact w)
      (λ t. eq-eqb n.0 m (same_some n.0 m (sym n.1 ∙ ap (number_of ns) (path_exact.exact v w (is_eq-Equal (path_cmp v w) t)) ∙ f)))

  -- the place of a path's number among worlds is that of the path
  pub place_of_path : (ws : List (List ℕ)) → list_all (is_named ns) ws ≡ true → (w : List ℕ) (m : ℕ) → number_of ns w ≡ Some m → place_of_number (map (named_world ns) ws) m ≡ place_in path_cmp ws w
  place_of_path [] e w m f = refl
  place_of_path (v ∷ ws) e w m f =
      let k = and_parts (is_named ns v) (list_all (is_named ns) ws) e in
      let rest = place_of_number (map (named_world ns) ws) m in
      ap (λ c. cond (not c) (1 + rest) 0) (same_test v w m k.0 f) ∙ by (is_eq (path_cmp v w)) rest (place_in path_cmp ws w) (place_of_path ws k.1 w m f)
    where
      by : (c : Bool) (i j : ℕ) → i ≡ j → cond (not c) (1 + i) 0 ≡ cond c 0 (suc j)
      by true i j s = refl
      by false i j s = omega arith

-- ---- lists by place

pub get_named : (ns : Names) (ws : List (List ℕ)) (i : ℕ) (d : NamedWorld) → i < length ws → get_or (map (named_world ns) ws) i d ≡ named_world ns (get_or ws i [])
get_named ns [] i d less = absurd (omega arith)
get_named ns (w ∷ ws) zero d less = refl
get_named ns (w ∷ ws) (suc i) d less = get_named ns ws i d (omega arith)

pub all_get : (p : List ℕ → Bool) (ws : List (List ℕ)) (i : ℕ) → i < length ws → list_all p ws ≡ true → p (get_or ws i []) ≡ true
all_get p [] i less a = absurd (omega arith)
all_get p (w ∷ ws) zero less a = (and_parts (p w) (list_all p ws) a).0
all_get p (w ∷ ws) (suc i) less a = all_get p ws i (omega arith) (and_parts (p w) (list_all p ws) a).1

-- ---- the states of a base

module _ (t : Tables) (b : Contents) (v : StoresValid t b) where
  abbrev ns : Names
  ns = v.stored.names

  abbrev names : AreNames ns
  names = v.stored.stored.states.names

  pub state_named : (w : List ℕ) → is_member path_cmp (states_of b.stmts) w ≡ is_named ns w
  state_named w = list_has_states b.stmts w ∙ sym (v.stored.stored.worlds w)

  all_weaker : (p q : List ℕ → Bool) → ((w : List ℕ) → p w ≡ q w) → (ws : List (List ℕ)) → list_all p ws ≡ list_all q ws
  all_weaker p q h [] = refl
  all_weaker p q h (w ∷ ws) = ap (λ c. c && list_all p ws) (h w) ∙ ap (λ c. q w && c) (all_weaker p q h ws)

  pub states_named : list_all (is_named ns) (states_of b.stmts) ≡ true
  states_named = sym (all_weaker (is_member path_cmp (states_of b.stmts)) (is_named ns) state_named (states_of b.stmts)) ∙ items_are_members path_exact (states_of b.stmts)

  -- the place of a path's number among the states is that of the path
  pub place_of_state : (worlds : List NamedWorld) → AreStatesInOrder t b v worlds → (w : List ℕ) (m : ℕ) → number_of ns w ≡ Some m → place_of_number worlds m ≡ place_in path_cmp (states_of b.stmts) w
  place_of_state worlds is w m e = ap (λ xs. place_of_number xs m) is ∙ place_of_path ns names (states_of b.stmts) states_named w m e

  -- a world at a place is the state at this place
  pub record IsAt (k : ℕ) (x : NamedWorld) : Type 0 where
    pub state : IsState t b v x
    pub within : k < length (states_of b.stmts)
    pub path : x.path ≡ get_or (states_of b.stmts) k []
    pub place : k ≡ place_in path_cmp (states_of b.stmts) x.path

  pub at_place : (worlds : List NamedWorld) → AreStatesInOrder t b v worlds → (k : ℕ) (x d : NamedWorld) → k < length worlds → x ≡ get_or worlds k d → IsAt k x
  at_place worlds is k x d l e =
      let n = ap length is ∙ length-map (states_of b.stmts) (named_world ns) in
      let less : k < length (states_of b.stmts) = omega arith in
      let s = get_or (states_of b.stmts) k [] in
      let same : x ≡ named_world ns s = e ∙ ap (λ xs. get_or xs k d) is ∙ get_named ns (states_of b.stmts) k d less in
      let path : x.path ≡ s = ap (λ (y : NamedWorld). y.path) same in
      record {
        state = ap (λ (y : NamedWorld). path_of ns y.wid) same ∙ path_named ns names s (all_get (is_named ns) (states_of b.stmts) k less states_named) ∙ ap Some (sym path);
        within = less;
        path = path;
        place = sym (ap (place_in path_cmp (states_of b.stmts)) path
            ∙ place_of_item path_exact (states_of b.stmts) k s (set_is_ascending path_exact (stated_prefixes b.stmts)) less (same_default (states_of b.stmts) k less));
      }
    where
      same_default : (ws : List (List ℕ)) (i : ℕ) → i < length ws → get_or ws i [] ≡ get_or ws i (get_or ws i [])
      same_default [] i less = absurd (omega arith)
      same_default (w ∷ ws) zero less = refl
      same_default (w ∷ ws) (suc i) less = defaults ws i (omega arith) (get_or ws i [])
        where
          defaults : (us : List (List ℕ)) (j : ℕ) → j < length us → (c : List ℕ) → get_or us j [] ≡ get_or us j c
          defaults [] j p c = absurd (omega arith)
          defaults (u ∷ us) zero p c = refl
          defaults (u ∷ us) (suc j) p c = defaults us j (omega arith) c

-- worlds are as many as the states
pub states_as_many : (t : Tables) (worlds : List NamedWorld) (s : StoresSome t) → TellsStates t worlds → length worlds ≡ length (states_of s.base.stmts)
states_as_many t worlds s are = ap (λ (xs : List NamedWorld). length xs) (are s.base s.stores) ∙ length-map (states_of s.base.stmts) (named_world s.stores.stored.names)
