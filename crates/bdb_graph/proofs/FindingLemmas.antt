-- Worlds, found by number and by path.
use Rattle.std.proofs.Common.{◌≡◌, ◌∙◌, ℕ, zero, suc, ◌+◌, ◌≤◌, ◌<◌, Bool, true, false, ◌||◌, cond, nat_eq, List, [], ◌∷◌, ◌++◌, length, map, take, get_or, slice_get, Option, Some, None, is_some, refl, ap, sym, subst, inl, inr, arith}
use Rattle.std.specs.List.{AllByRecursion, list_all}
use Rattle.std.specs.Ordering.{is_lt, nat_cmp}
use Rattle.std.proofs.lemmas.Bool.{and_parts, cases_Bool, cond-true, cond-false, eqb-true, eq-eqb, false≢true, false_from_ne_true}
use Rattle.std.proofs.lemmas.List.{take_all, take_more}
use Rattle.bdb_base.specs.Order.{path_cmp}
use Rattle.bdb_base.specs.OrderLemmas.{is_eq_path_cmp, path_exact}
use Rattle.bdb_base.specs.Same.{same_path}
use Rattle.bdb_base.specs.SameLemmas.{same_path-Decides}
use Rattle.bdb_base.specs.SortedSet.{ascending, is_member, put_in}
use Rattle.bdb_base.specs.States.{deepest_suffix}
use Rattle.bdb_base.proofs.SetLemmas.{put_adds_member, put_keeps_order}
use Rattle.bdb_base.proofs.OptionLemmas.{same_some}
use Rattle.bdb_base.proofs.Numbers.{eq_turned}
use Rattle.bdb_key.specs.Grammar.{IsNum}
use Rattle.bdb_paths.proofs.StateLemmas.{path_turned}
use Rattle.bdb_paths.proofs.SuffixLemmas.{deepest_same}
use Rattle.bdb_tables.specs.Names.{AreNames, is_named, leads_to}
use Rattle.bdb_names.proofs.NameLemmas.{deep_number}
use Rattle.bdb_graph.specs.Naming.{names_of, number_in, path_in}
use Rattle.bdb_graph.specs.States.{AreIndexed, ArePathsOf, IsAmongWorlds, is_world, number_of_world, target_of}
use Rattle.bdb_names.specs.declared.named.NamedWorld.{NamedWorld}
use Rattle.bdb_graph.proofs.NumberLemmas.{all_at, lt_differs}

-- ---- lists

-- what holds of each item by its place holds of all
pub all_by_place : {X : Type 0} (P : X → Type 0) (xs : List X) → ((k : ℕ) (x : X) → k < length xs → x ≡ get_or xs k x → P x) → AllByRecursion P xs
all_by_place P [] f = tt
all_by_place P (x ∷ xs) f = (f 0 x (omega arith) refl, all_by_place P xs (λ k y l is. f (suc k) y (omega arith) is))

-- the item at a place is the one that a look-up gives
pub got : {X : Type 0} (xs : List X) (k : ℕ) (x y : X) → slice_get xs k ≡ Some y → x ≡ get_or xs k x → x ≡ y
got [] k x y e is = absurd cc
got (z ∷ xs) zero x y e is = let s : z ≡ y = cc in is ∙ s
got (z ∷ xs) (suc k) x y e is = got xs k x y e is

-- ---- by number

number_at : (ws : List NamedWorld) (k : ℕ) (x : NamedWorld) → k < length ws → x ≡ get_or ws k x → slice_get (map number_of_world ws) k ≡ Some x.wid
number_at [] k x l is = absurd (omega arith)
number_at (y ∷ ws) zero x l is = ap (λ (z : NamedWorld). Some z.wid) (sym is)
number_at (y ∷ ws) (suc k) x l is = number_at ws k x (omega arith) is

pub path_found : (ws : List NamedWorld) (at n : ℕ) (x : NamedWorld) → ascending nat_cmp (map number_of_world ws) ≡ true → slice_get (map number_of_world ws) at ≡ Some n → x ≡ get_or ws at x → path_in ws n ≡ Some x.path
path_found [] at n x a e is = absurd cc
path_found (y ∷ ws) zero n x a e is =
    let s : y.wid ≡ n = cc in
    cond-true (nat_eq n y.wid) (Some y.path) (path_in ws n) (eq-eqb n y.wid (sym s)) ∙ ap (λ (z : NamedWorld). Some z.path) (sym is)
path_found (y ∷ ws) (suc at) n x a e is =
    let k = and_parts (list_all (λ z. is_lt (nat_cmp y.wid z)) (map number_of_world ws)) (ascending nat_cmp (map number_of_world ws)) a in
    let less = all_at (λ z. is_lt (nat_cmp y.wid z)) (map number_of_world ws) at n k.0 e in
    cond-false (nat_eq n y.wid) (Some y.path) (path_in ws n) (lt_differs y.wid n less) ∙ path_found ws at n x k.1 e is

-- the world at a place is one of the worlds
pub world_at : (ws : List NamedWorld) (k : ℕ) (x : NamedWorld) → ascending nat_cmp (map number_of_world ws) ≡ true → k < length ws → x ≡ get_or ws k x → IsAmongWorlds ws x
world_at ws k x a l is = path_found ws k x.wid x a (number_at ws k x l is) is

-- a number is that of a world where it has a path
pub member_is : (ws : List NamedWorld) (n : ℕ) → is_world ws n ≡ is_some (path_in ws n)
member_is [] n = refl
member_is (x ∷ ws) n =
    ap (λ b. b || is_member nat_cmp (map number_of_world ws) n) (eq_turned x.wid n) ∙ ap (λ b. nat_eq n x.wid || b) (member_is ws n) ∙ by (nat_eq n x.wid) (path_in ws n)
  where
    by : (b : Bool) (o : Option (List ℕ)) → (b || is_some o) ≡ is_some (cond b (Some x.path) o)
    by true o = refl
    by false o = refl

-- what holds of the number of each world holds of a number with a path
pub each_at : (P : ℕ → Type 0) (ws : List NamedWorld) → AllByRecursion (λ (x : NamedWorld). P x.wid) ws → (n : ℕ) (w : List ℕ) → path_in ws n ≡ Some w → P n
each_at P [] h n w e = absurd cc
each_at P (x ∷ ws) h n w e = by (nat_eq n x.wid) refl (λ f. each_at P ws h.1 n w f)
  where
    by : (b : Bool) → nat_eq n x.wid ≡ b → (path_in ws n ≡ Some w → P n) → P n
    by true s later = subst P (sym (eqb-true n x.wid s)) h.0
    by false s later = later (sym (cond-false (nat_eq n x.wid) (Some x.path) (path_in ws n) s) ∙ e)

-- what holds of each path holds of the path of a number
pub path_all : (p : List ℕ → Bool) (ws : List NamedWorld) → list_all (λ (x : NamedWorld). p x.path) ws ≡ true → (n : ℕ) (w : List ℕ) → path_in ws n ≡ Some w → p w ≡ true
path_all p [] h n w e = absurd cc
path_all p (x ∷ ws) h n w e = by (nat_eq n x.wid) refl (and_parts (p x.path) (list_all (λ (y : NamedWorld). p y.path) ws) h) (λ q f. path_all p ws q n w f)
  where
    by : (b : Bool) → nat_eq n x.wid ≡ b → (p x.path ≡ true) × (list_all (λ (y : NamedWorld). p y.path) ws ≡ true) → (list_all (λ (y : NamedWorld). p y.path) ws ≡ true → path_in ws n ≡ Some w → p w ≡ true) → p w ≡ true
    by true s q later = ap p (same_some w x.path (sym e ∙ cond-true (nat_eq n x.wid) (Some x.path) (path_in ws n) s)) ∙ q.0
    by false s q later = later q.1 (sym (cond-false (nat_eq n x.wid) (Some x.path) (path_in ws n) s) ∙ e)

pub world_fits : (ws : List NamedWorld) → AreNames (names_of ws) → (x : NamedWorld) → IsAmongWorlds ws x → IsNum x.wid
world_fits ws a x is = a.sized x.path x.wid (a.named x.wid x.path is)

-- ---- by path

named_more : (ws : List NamedWorld) (x : NamedWorld) (w : List ℕ) → is_some (number_in (ws ++ x ∷ []) w) ≡ (same_path w x.path || is_some (number_in ws w))
named_more [] x w = by (same_path w x.path)
  where
    by : (b : Bool) → is_some (cond b (Some x.wid) None) ≡ (b || false)
    by true = refl
    by false = refl
named_more (y ∷ ws) x w = by (same_path w y.path) (number_in (ws ++ x ∷ []) w) (number_in ws w) (same_path w x.path) (named_more ws x w)
  where
    by : (b : Bool) (o p : Option ℕ) (s : Bool) → is_some o ≡ (s || is_some p) → is_some (cond b (Some y.wid) o) ≡ (s || is_some (cond b (Some y.wid) p))
    by true o p true h = refl
    by true o p false h = refl
    by false o p s h = h

pub paths_more : (ws : List NamedWorld) (k : ℕ) (x : NamedWorld) (old new : List (List ℕ)) → k < length ws → x ≡ get_or ws k x → new ≡ put_in path_cmp old x.path → ArePathsOf (take k ws) old → ArePathsOf (take (k + 1) ws) new
paths_more ws k x old new l is put h = record {
  sorted = ap (ascending path_cmp) put ∙ put_keeps_order path_exact old x.path h.sorted;
  members = λ w.
      ap (λ ps. is_member path_cmp ps w) put ∙ put_adds_member path_exact old x.path w
      ∙ ap (λ b. b || is_member path_cmp old w) (is_eq_path_cmp x.path w ∙ path_turned x.path w)
      ∙ ap (λ b. same_path w x.path || b) (h.members w)
      ∙ sym (named_more (take k ws) x w)
      ∙ ap (λ us. is_some (number_in us w)) (sym (take_more ws k x l ∙ ap (λ y. take k ws ++ y ∷ []) (sym is)));
}

pub paths_all : (ws : List NamedWorld) (k : ℕ) (paths : List (List ℕ)) → length ws ≤ k → ArePathsOf (take k ws) paths → ArePathsOf ws paths
paths_all ws k paths l h = subst (λ us. ArePathsOf us paths) (take_all k ws l) h

pub root_is_member : (ws : List NamedWorld) (ps : List (List ℕ)) → AreIndexed ws ps → is_member path_cmp ps [] ≡ true
root_is_member ws ps h = h.listed.members [] ∙ ap is_some h.names.root

-- ---- where a path leads

module _ (ws : List NamedWorld) (ps : List (List ℕ)) (h : AreIndexed ws ps) (users : List ℕ) (n : ℕ) where
  abbrev deep : List ℕ
  deep = deepest_suffix (is_named (names_of ws)) users

  -- one number stands for the deepest suffix
  same : (path : List ℕ) → path_in ws n ≡ Some path → (m : ℕ) → number_in ws deep ≡ Some m → same_path path deep ≡ nat_eq m n
  same path is m e = elim (cases_Bool (same_path path deep)) [
    | inl s ↦
        let here : path_in ws n ≡ Some deep = is ∙ ap Some ((same_path-Decides path deep).0 s) in
        let one : m ≡ n = same_some m n (sym e ∙ h.names.named n deep here) in
        s ∙ sym (eq-eqb m n one)
    | inr f ↦
        f ∙ sym (false_from_ne_true (nat_eq m n) (λ t.
        let there : path_in ws n ≡ Some deep = ap (path_in ws) (sym (eqb-true m n t)) ∙ h.names.numbered deep m e in
        false≢true (sym f ∙ (same_path-Decides path deep).1 (same_some path deep (sym is ∙ there)))))
  ]

  pub leads_found : (at target : ℕ) (x : NamedWorld) (p : List ℕ) (b : Bool) → slice_get (map number_of_world ws) at ≡ Some n → x ≡ get_or ws at x → slice_get ps target ≡ Some (deepest_suffix (is_member path_cmp ps) users) → p ≡ get_or ps target p
      → b ≡ same_path x.path p → b ≡ leads_to (target_of (names_of ws) users) n
  leads_found at target x p b there is led member told =
      let path = path_found ws at n x h.sorted there is in
      let one : p ≡ deep = got ps target p (deepest_suffix (is_member path_cmp ps) users) led member ∙ deepest_same (is_member path_cmp ps) (is_named (names_of ws)) h.listed.members users in
      let m = deep_number (names_of ws) h.names users in
      told ∙ ap (same_path x.path) one ∙ same x.path path m.0 m.1 ∙ ap (λ o. leads_to o n) (sym m.1)

  pub leads_nowhere : is_world ws n ≡ false → false ≡ leads_to (target_of (names_of ws) users) n
  leads_nowhere none =
      let m = deep_number (names_of ws) h.names users in
      let missing : is_some (path_in ws n) ≡ false = sym (member_is ws n) ∙ none in
      sym (ap (λ o. leads_to o n) m.1 ∙ false_from_ne_true (nat_eq m.0 n) (λ t.
      false≢true (sym missing ∙ ap is_some (ap (path_in ws) (sym (eqb-true m.0 n t)) ∙ h.names.numbered deep m.0 m.1))))
