-- Names among more names: what leads to one world under few names and under many does so under those between.
use Rattle.std.proofs.Common.{◌≡◌, ◌∙◌, ℕ, Bool, true, false, List, [], ◌∷◌, ◌++◌, ap, sym, arith, length, Some}
use Rattle.bdb_base.specs.Segments.{is_suffix}
use Rattle.bdb_base.specs.States.{deepest_suffix}
use Rattle.bdb_paths.proofs.SuffixLemmas.{deepest_is_suffix, none_is_longer}
use Rattle.bdb_tables.specs.Names.{Names, AreNames, path_of, number_of, is_named, link_of, edge_of}
use Rattle.bdb_names.proofs.Ends.{whole_end, shorter_end}
use Rattle.bdb_names.proofs.NameLemmas.{same_number, is_named_by, number_is, deep_number, deep_is_named, link_at, link_found, edge_at, edge_is, edge_found}

-- each path that has a number in the first has it in the second
abbrev pub IsPart : Names → Names → Type 0
IsPart ms ns = (w : List ℕ) (n : ℕ) → number_of ms w ≡ Some n → number_of ns w ≡ Some n

pub part_path : (ms ns : Names) → AreNames ms → AreNames ns → IsPart ms ns → (n : ℕ) (w : List ℕ) → path_of ms n ≡ Some w → path_of ns n ≡ Some w
part_path ms ns a b part n w e = b.numbered w n (part w n (a.named n w e))

part_named : (ms ns : Names) → IsPart ms ns → (w : List ℕ) → is_named ms w ≡ true → is_named ns w ≡ true
part_named ms ns part w e = let n = number_is ms w e in is_named_by ns w n.0 (part w n.0 n.1)

module _ (few mid many : Names) (a : AreNames few) (b : AreNames mid) (c : AreNames many) (low : IsPart few mid) (high : IsPart mid many) where
  deep_between : (w : List ℕ) (x : ℕ) → number_of few (deepest_suffix (is_named few) w) ≡ Some x → number_of many (deepest_suffix (is_named many) w) ≡ Some x
      → number_of mid (deepest_suffix (is_named mid) w) ≡ Some x
  deep_between w x e f =
      let u = deepest_suffix (is_named few) w in
      let v = deepest_suffix (is_named mid) w in
      let z = deepest_suffix (is_named many) w in
      let same : u ≡ z = same_number many c u z x (high u x (low u x e)) f in
      let l = none_is_longer (is_named mid) w u (part_named few mid low u (deep_is_named few a w)) (deepest_is_suffix (is_named few) w) in
      let m = none_is_longer (is_named many) w v (part_named mid many high v (deep_is_named mid b w)) (deepest_is_suffix (is_named mid) w) in
      let s = ap length same in
      let is : u ≡ v = whole_end u v (shorter_end u v w (deepest_is_suffix (is_named few) w) (deepest_is_suffix (is_named mid) w) l) (omega arith) in
      ap (number_of mid) (sym is) ∙ low u x e

  pub link_between : (k x : ℕ) → link_of few k ≡ Some x → link_of many k ≡ Some x → link_of mid k ≡ Some x
  link_between k x e f =
      let l = link_found few k x e in
      let path = part_path few mid a b low k (l.first ∷ l.back) l.path in
      let top = part_path mid many b c high k (l.first ∷ l.back) path in
      link_at mid k l.first l.back path ∙ deep_between l.back x l.target (sym (link_at many k l.first l.back top) ∙ f)

  pub edge_between : (users : ℕ → Bool) (k j x : ℕ) → edge_of users few (k, j) ≡ Some x → edge_of users many (k, j) ≡ Some x → edge_of users mid (k, j) ≡ Some x
  edge_between users k j x e f =
      let l = edge_found users few k j x e in
      let w = l.front in
      let path = part_path few mid a b low k w l.path in
      let top = part_path mid many b c high k w path in
      edge_at users mid k j w path ∙ edge_is users mid j w l.user l.apart
      ∙ deep_between (w ++ j ∷ []) x l.target (sym (edge_at users many k j w top ∙ edge_is users many j w l.user l.apart) ∙ f)

-- a world with an edge under some names has one under others that name it
pub edge_there : (users : ℕ → Bool) (ns : Names) → AreNames ns → (k j : ℕ) (w : List ℕ) → path_of ns k ≡ Some w → users j ≡ true → is_suffix (j ∷ []) w ≡ false → (x : ℕ) × (edge_of users ns (k, j) ≡ Some x)
edge_there users ns a k j w path user apart =
    let n = deep_number ns a (w ++ j ∷ []) in
    (n.0, edge_at users ns k j w path ∙ edge_is users ns j w user apart ∙ n.1)

pub link_there : (ns : Names) → AreNames ns → (k i : ℕ) (w : List ℕ) → path_of ns k ≡ Some (i ∷ w) → (x : ℕ) × (link_of ns k ≡ Some x)
link_there ns a k i w path = let n = deep_number ns a w in (n.0, link_at ns k i w path ∙ n.1)

-- where an edge or link leads has a path
pub edge_target_named : (users : ℕ → Bool) (ns : Names) → AreNames ns → (k j x : ℕ) → edge_of users ns (k, j) ≡ Some x → (w : List ℕ) × (path_of ns x ≡ Some w)
edge_target_named users ns a k j x e = let f = edge_found users ns k j x e in (deepest_suffix (is_named ns) (f.front ++ j ∷ []), a.numbered _ x f.target)

pub link_target_named : (ns : Names) → AreNames ns → (k x : ℕ) → link_of ns k ≡ Some x → (w : List ℕ) × (path_of ns x ≡ Some w)
link_target_named ns a k x e = let f = link_found ns k x e in (deepest_suffix (is_named ns) f.back, a.numbered _ x f.target)
