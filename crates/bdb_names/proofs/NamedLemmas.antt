-- The names of the worlds, told by the tables alone.
use Rattle.std.proofs.Common.{◌≡◌, ◌∙◌, ℕ, ◌+◌, ◌≤◌, Bool, true, false, List, [], ◌∷◌, ◌++◌, refl, ap, sym, subst, inl, inr, ◌⊎◌, suc, zero, arith, length, Option, Some, None}
use Rattle.std.specs.Prelude.{MatchOption}
use Rattle.std.specs.Option.{option_map}
use Rattle.std.specs.List.{list_all}
use Rattle.std.specs.FinMap as map
use Rattle.std.proofs.lemmas.Bool.{and_parts, false≢true, eq-eqb}
use Rattle.bdb_base.specs.States.{deepest_suffix}
use Rattle.bdb_base.proofs.OptionLemmas.{same_some}
use Rattle.bdb_paths.proofs.SuffixLemmas.{deepest_is_suffix, deepest_of_member}
use Rattle.bdb_keep.specs.Tables.{Tables}
use Rattle.bdb_key.specs.Bytes.{num_bytes}
use Rattle.bdb_key.specs.Grammar.{IsNum}
use Rattle.bdb_key.proofs.Alone.{one_num}
use Rattle.bdb_tables.specs.Codec.{place}
use Rattle.bdb_tables.specs.InUse.{depth_codec}
use Rattle.bdb_tables.specs.Names.{Names, path_of, number_of, is_named, leads_to, depth_of, edge_of}
use Rattle.bdb_tables.specs.States.{row_where, HoldsStates, IsNextWorld, IsNamed, root, next, TablesHaveNames, NamesAreOne}
use Rattle.bdb_tables.proofs.Held.{leads_is, row_is}
use Rattle.bdb_names.proofs.Ends.{whole_end, length_more, no_own_end}
use Rattle.bdb_names.proofs.NameLemmas.{number_is, path_is_named, depth_at, edge_at, edge_is, edge_found}

pub cases_end : (w : List ℕ) → (w ≡ []) ⊎ ((v : List ℕ) × (i : ℕ) × (w ≡ v ++ i ∷ []))
cases_end [] = inl refl
cases_end (j ∷ w) = elim (cases_end w) [
  | inl e ↦ inr ([], j, ap (λ (x : List ℕ). j ∷ x) e)
  | inr u ↦ inr (j ∷ u.0, u.1, ap (λ (x : List ℕ). j ∷ x) u.2)
]

pub user_of_end : (users : ℕ → Bool) (v : List ℕ) (i : ℕ) → list_all users (v ++ i ∷ []) ≡ true → users i ≡ true
user_of_end users [] i h = (and_parts (users i) true h).0
user_of_end users (j ∷ v) i h = user_of_end users v i (and_parts (users j) (list_all users (v ++ i ∷ [])) h).1

row_there : (b : Bool) (x : List ℕ) → b ≡ true → option_map (λ (u : Unit {0}). x) (row_where b) ≡ Some x
row_there true x e = refl
row_there false x e = absurd (false≢true e)

-- a number that is written so is the number
number_read : (o : Option ℕ) (d : ℕ) → MatchOption o (Unit {0}) IsNum → IsNum d → option_map num_bytes o ≡ Some (num_bytes d) → o ≡ Some d
number_read None d size fits e = absurd cc
number_read (Some x) d size fits e = ap Some (one_num x d size fits (same_some (num_bytes x) (num_bytes d) e))

module _ (users : ℕ → Bool) (ns : Names) (t : Tables) (h : HoldsStates users ns t) where
  depth_read : (n d : ℕ) → IsNum n → IsNum d → map.get t (place depth_codec n) ≡ Some (num_bytes d) → depth_of ns n ≡ Some d
  depth_read n d size fits e = number_read (depth_of ns n) d (h.tables.depth.written n size) fits (sym (h.tables.depth.rows n size) ∙ e)

  depth_is : (o : Option (List ℕ)) (d : ℕ) → option_map (λ w. length w) o ≡ Some d → (w : List ℕ) × (o ≡ Some w) × (length w ≡ d)
  depth_is None d e = absurd cc
  depth_is (Some w) d e = (w, refl, same_some (length w) d e)

  named_by_next : (n m i d : ℕ) (w : List ℕ) → path_of ns m ≡ Some w → IsNextWorld t n m i d → path_of ns n ≡ Some (w ++ i ∷ [])
  named_by_next n m i d w path x =
      let there = x.short in
      let deep = depth_is (path_of ns m) d (depth_read m d x.from (omega arith) x.depth) in
      let same = ap length (same_some deep.0 w (sym deep.1 ∙ path)) in
      let deeper = depth_is (path_of ns n) (d + 1) (depth_read n (d + 1) x.number x.short x.deeper) in
      let edge = leads_is (edge_of users ns (m, i)) n (row_is (leads_to (edge_of users ns (m, i)) n) []
      (sym (h.tables.led.rows (n, m, i) (record { first = x.number; second = x.from; third = x.user })) ∙ x.led)) in
      let found = edge_found users ns m i n edge in
      let front : found.front ≡ w = same_some found.front w (sym found.path ∙ path) in
      let target : number_of ns (deepest_suffix (is_named ns) (w ++ i ∷ [])) ≡ Some n = ap (λ v. number_of ns (deepest_suffix (is_named ns) (v ++ i ∷ []))) (sym front) ∙ found.target in
      let is : deeper.0 ≡ deepest_suffix (is_named ns) (w ++ i ∷ []) = same_some _ _ (sym deeper.1 ∙ h.names.numbered (deepest_suffix (is_named ns) (w ++ i ∷ [])) n target) in
      let a = length_more w i in
      let b = ap length is in
      let f1 = deep.2 in
      let f2 = deeper.2 in
      deeper.1 ∙ ap Some (is ∙ whole_end (deepest_suffix (is_named ns) (w ++ i ∷ [])) (w ++ i ∷ []) (deepest_is_suffix (is_named ns) (w ++ i ∷ [])) (omega arith))

  pub named_path : {n : ℕ} {w : List ℕ} → IsNamed t n w → path_of ns n ≡ Some w
  named_path root = h.names.numbered [] 0 h.names.root
  named_path (next n m i d w x step) = named_by_next n m i d w (named_path x) step

  -- the number of a path with one user more is the next of that of the path
  is_next : (n m i : ℕ) (v : List ℕ) → path_of ns n ≡ Some (v ++ i ∷ []) → path_of ns m ≡ Some v → IsNextWorld t n m i (length v)
  is_next n m i v path front =
      let named = path_is_named ns h.names n (v ++ i ∷ []) path in
      let number = h.names.named n (v ++ i ∷ []) path in
      let size = h.names.sized (v ++ i ∷ []) n number in
      let from = h.names.sized v m (h.names.named m v front) in
      let user = user_of_end users v i (h.own (v ++ i ∷ []) named) in
      let short = h.names.short (v ++ i ∷ []) named in
      let l = length_more v i in
      let long : length (v ++ i ∷ []) ≡ length v + 1 = omega arith in
      let edge : edge_of users ns (m, i) ≡ Some n =
      edge_at users ns m i v front ∙ edge_is users ns i v user (no_own_end v i (h.names.apart (v ++ i ∷ []) named))
      ∙ ap (number_of ns) (deepest_of_member (is_named ns) (v ++ i ∷ []) named) ∙ number in
      record {
        number = size;
        from = from;
        user = h.numbers i user;
        short = omega arith;
        led = h.tables.led.rows (n, m, i) (record { first = size; second = from; third = h.numbers i user })
            ∙ row_there (leads_to (edge_of users ns (m, i)) n) [] (ap (λ o. leads_to o n) edge ∙ eq-eqb n n refl);
        depth = h.tables.depth.rows m from ∙ ap (option_map num_bytes) (depth_at ns m v front);
        deeper = h.tables.depth.rows n size ∙ ap (option_map num_bytes) (depth_at ns n (v ++ i ∷ []) path) ∙ ap (λ k. Some (num_bytes k)) long;
      }

  path_named : (fuel : ℕ) (n : ℕ) (w : List ℕ) → length w ≤ fuel → path_of ns n ≡ Some w → IsNamed t n w
  path_named zero n [] l e = subst (λ k. IsNamed t k []) (same_some 0 n (sym h.names.root ∙ h.names.named n [] e)) root
  path_named zero n (j ∷ w) l e = absurd (omega arith)
  path_named (suc fuel) n w l e = elim (cases_end w) [
    | inl none ↦ subst (IsNamed t n) (sym none) (subst (λ k. IsNamed t k []) (same_some 0 n (sym h.names.root ∙ h.names.named n [] (e ∙ ap Some none))) root)
    | inr u ↦
        let path : path_of ns n ≡ Some (u.0 ++ u.1 ∷ []) = e ∙ ap Some u.2 in
        let named = path_is_named ns h.names n (u.0 ++ u.1 ∷ []) path in
        let m = number_is ns u.0 (h.names.prefixes u.0 (u.1 ∷ []) named) in
        let front = h.names.numbered u.0 m.0 m.1 in
        let k = ap length u.2 in
        let k2 = length_more u.0 u.1 in
        subst (IsNamed t n) (sym u.2) (next n m.0 u.1 (length u.0) u.0 (path_named fuel m.0 u.0 (omega arith) front) (is_next n m.0 u.1 u.0 path front))
  ]

  pub path_is_told : (n : ℕ) (w : List ℕ) → path_of ns n ≡ Some w → IsNamed t n w
  path_is_told n w e = path_named (length w) n w (omega arith) e

pub tables_have_names : TablesHaveNames
tables_have_names users ns t h n w = (λ x. named_path users ns t h x, path_is_told users ns t h n w)

pub names_are_one : NamesAreOne
names_are_one users others ns ms t h k n = by (path_of ns n) (path_of ms n) refl refl
  where
    by : (a b : Option (List ℕ)) → path_of ns n ≡ a → path_of ms n ≡ b → path_of ns n ≡ path_of ms n
    by None None ea eb = ea ∙ sym eb
    by None (Some w) ea eb = named_path users ns t h (path_is_told others ms t k n w eb) ∙ sym eb
    by (Some w) b ea eb = ea ∙ sym (named_path others ms t k (path_is_told users ns t h n w ea))
