-- What a new world takes over, by numbers: its own suffix link and edges, the links and edges that move, and how they are
-- found along suffix links.
use Rattle.std.proofs.Common.{◌≡◌, ◌∙◌, ℕ, ◌<◌, Bool, true, false, not, ◌&&◌, nat_eq, cond, List, [], ◌∷◌, ◌++◌, refl, ap, sym, subst, inl, inr, arith, length, Option, Some, None}
use Rattle.std.proofs.lemmas.Bool.{and_parts, and_from, or_right, false≢true, not-true, ne_eqb, cases_lt, eqb-false}
use Rattle.bdb_base.specs.Same.{same_path}
use Rattle.bdb_base.specs.Segments.{is_suffix}
use Rattle.bdb_base.specs.States.{deepest_suffix}
use Rattle.bdb_base.proofs.OptionLemmas.{same_some}
use Rattle.bdb_base.proofs.SegmentLemmas.{suffix_itself, length-suffix}
use Rattle.bdb_paths.proofs.SuffixLemmas.{deepest_of_member, deepest_is_suffix}
use Rattle.bdb_tables.specs.Names.{Names, path_of, number_of, is_named, link_of, edge_of}
use Rattle.bdb_names.specs.Moves.{IsLeaf, gains, edge_gains, link_gains, at_path, edge_moves, link_moves}
use Rattle.bdb_names.proofs.Ends.{suffix_then, length_more, one_more, no_own_end, ends_otherwise}
use Rattle.bdb_names.proofs.Gains.{Gains, gains_parts, gains_from, gains_led, new_gains, front_ends, child_gains, child_met, gains_below, gains_met}
use Rattle.bdb_names.proofs.NameLemmas.{is_named_by, number_is, root_is_named, path_is_named, same_number, deep_number, link_at, link_found, IsLinked, edge_at, edge_is, edge_found}

cond_and : (b g : Bool) (x y : Option ℕ) → cond b (cond g x y) None ≡ cond (b && g) x (cond b y None)
cond_and true g x y = refl
cond_and false g x y = refl

module _ (users : ℕ → Bool) (ns : Names) (q : List ℕ) (i m s : ℕ) (leaf : IsLeaf users ns q i m s) where
  abbrev P : List ℕ → Bool
  P = is_named ns

  abbrev p : List ℕ
  p = q ++ i ∷ []

  front_named : P q ≡ true
  front_named = is_named_by ns q m leaf.start

  some_users : 0 < length p
  some_users = let e = length_more q i in omega arith

  own_apart : is_suffix (i ∷ []) q ≡ false
  own_apart = no_own_end q i leaf.apart

  -- ---- what moves, as paths

  pub record EdgeMoves (k : ℕ) : Type 0 where
    pub front : List ℕ
    pub path : path_of ns k ≡ Some front
    pub apart : is_suffix (i ∷ []) front ≡ false
    pub gain : Gains P p (front ++ i ∷ [])

  pub edge_moves_parts : (k : ℕ) → edge_moves users ns q i k ≡ true → EdgeMoves k
  edge_moves_parts k h = by (path_of ns k) refl
    where
      by : (o : Option (List ℕ)) → path_of ns k ≡ o → EdgeMoves k
      by None e = absurd (false≢true (sym (ap (at_path (edge_gains users P p i)) e) ∙ h))
      by (Some w) e =
          let g = and_parts (users i && not (is_suffix (i ∷ []) w)) (gains P p (w ++ i ∷ [])) (sym (ap (at_path (edge_gains users P p i)) e) ∙ h) in
          let a = and_parts (users i) (not (is_suffix (i ∷ []) w)) g.0 in
          record { front = w; path = e; apart = not-true (is_suffix (i ∷ []) w) a.1; gain = gains_parts P p (w ++ i ∷ []) g.1 }

  pub edge_moves_from : (k : ℕ) (w : List ℕ) → path_of ns k ≡ Some w → is_suffix (i ∷ []) w ≡ false → Gains P p (w ++ i ∷ []) → edge_moves users ns q i k ≡ true
  edge_moves_from k w e f g =
      ap (at_path (edge_gains users P p i)) e
      ∙ and_from (users i && not (is_suffix (i ∷ []) w)) (gains P p (w ++ i ∷ [])) (and_from (users i) (not (is_suffix (i ∷ []) w)) leaf.user (ap not f)) (gains_from P p (w ++ i ∷ []) g)

  pub record LinkMoves (k : ℕ) : Type 0 where
    pub first : ℕ
    pub back : List ℕ
    pub path : path_of ns k ≡ Some (first ∷ back)
    pub gain : Gains P p back

  pub link_moves_parts : (k : ℕ) → link_moves ns q i k ≡ true → LinkMoves k
  link_moves_parts k h = by (path_of ns k) refl
    where
      by : (o : Option (List ℕ)) → path_of ns k ≡ o → LinkMoves k
      by None e = absurd (false≢true (sym (ap (at_path (link_gains P p)) e) ∙ h))
      by (Some []) e = absurd (false≢true (sym (ap (at_path (link_gains P p)) e) ∙ h))
      by (Some (a ∷ x)) e = record { first = a; back = x; path = e; gain = gains_parts P p x (sym (ap (at_path (link_gains P p)) e) ∙ h) }

  pub link_moves_from : (k a : ℕ) (x : List ℕ) → path_of ns k ≡ Some (a ∷ x) → Gains P p x → link_moves ns q i k ≡ true
  link_moves_from k a x e g = ap (at_path (link_gains P p)) e ∙ gains_from P p x g

  -- the number of a path that gains is that of the new one's link
  gain_led : (w : List ℕ) → Gains P p w → number_of ns (deepest_suffix P w) ≡ Some s
  gain_led w g = ap (number_of ns) (gains_led P p w g) ∙ leaf.led

  -- each edge that moves led to `s`
  pub moved_edge_led : (k : ℕ) → edge_moves users ns q i k ≡ true → edge_of users ns (k, i) ≡ Some s
  moved_edge_led k h =
      let e = edge_moves_parts k h in
      edge_at users ns k i e.front e.path ∙ edge_is users ns i e.front leaf.user e.apart ∙ gain_led (e.front ++ i ∷ []) e.gain

  -- and so did each link that moves
  pub moved_link_led : (k : ℕ) → link_moves ns q i k ≡ true → link_of ns k ≡ Some s
  moved_link_led k h = let e = link_moves_parts k h in link_at ns k e.first e.back e.path ∙ gain_led e.back e.gain

  -- ---- the search

  pub start_moves : edge_moves users ns q i m ≡ true
  start_moves = edge_moves_from m q (leaf.names.numbered q m leaf.start) own_apart (new_gains P p leaf.new some_users)

  -- the path of a visited number and that of the target of a child's link are one
  visited_is : (v c : ℕ) (h : edge_moves users ns q i v ≡ true) (l : IsLinked ns c v) → Gains P p (deepest_suffix P l.back ++ i ∷ [])
  visited_is v c h l =
      let e = edge_moves_parts v h in
      let same : e.front ≡ deepest_suffix P l.back = same_some e.front (deepest_suffix P l.back) (sym e.path ∙ leaf.names.numbered (deepest_suffix P l.back) v l.target) in
      subst (λ w. Gains P p (w ++ i ∷ [])) same e.gain

  -- a linked number whose edge leads to a world no deeper
  pub child_edge_moves : (v c : ℕ) → edge_moves users ns q i v ≡ true → link_of ns c ≡ Some v → edge_of users ns (c, i) ≡ Some s → edge_moves users ns q i c ≡ true
  child_edge_moves v c h l e =
      let link = link_found ns c v l in
      let edge = edge_found users ns c i s e in
      let w = link.first ∷ link.back in
      let same : edge.front ≡ w = same_some edge.front w (sym edge.path ∙ link.path) in
      let target : number_of ns (deepest_suffix P (w ++ i ∷ [])) ≡ Some s = ap (λ x. number_of ns (deepest_suffix P (x ++ i ∷ []))) (sym same) ∙ edge.target in
      let deep = ap length (same_number ns leaf.names (deepest_suffix P (w ++ i ∷ [])) (deepest_suffix P p) s target leaf.led) in
      let short = (new_gains P p leaf.new some_users).shorter in
      edge_moves_from c w link.path (ap (is_suffix (i ∷ [])) (sym same) ∙ edge.apart)
      (child_gains P leaf.names.prefixes q i link.first link.back (visited_is v c h link) (omega arith))

  -- what the edge of a linked number is where it leads deeper
  record Meets (c x : ℕ) : Type 0 where
    first : ℕ
    back : List ℕ
    path : path_of ns c ≡ Some (first ∷ back)
    target : path_of ns x ≡ Some ((first ∷ back) ++ i ∷ [])
    gain : Gains P p (back ++ i ∷ [])

  child_meets : (v c x : ℕ) → edge_moves users ns q i v ≡ true → link_of ns c ≡ Some v → edge_of users ns (c, i) ≡ Some x → nat_eq x s ≡ false → Meets c x
  child_meets v c x h l e other =
      let link = link_found ns c v l in
      let edge = edge_found users ns c i x e in
      let w = link.first ∷ link.back in
      let same : edge.front ≡ w = same_some edge.front w (sym edge.path ∙ link.path) in
      let target : number_of ns (deepest_suffix P (w ++ i ∷ [])) ≡ Some x = ap (λ x. number_of ns (deepest_suffix P (x ++ i ∷ []))) (sym same) ∙ edge.target in
      let g = visited_is v c h link in
      elim (cases_lt (length (deepest_suffix P (w ++ i ∷ []))) (length p)) [
        | inl short ↦
            let moves = child_gains P leaf.names.prefixes q i link.first link.back g short in
            let led = gain_led (w ++ i ∷ []) moves in
            absurd (eqb-false x s other (same_some x s (sym target ∙ led)))
        | inr long ↦
            let met = child_met P leaf.names.prefixes q i link.first link.back leaf.new (root_is_named ns leaf.names) g long in
            record {
              first = link.first;
              back = link.back;
              path = link.path;
              target = leaf.names.numbered (w ++ i ∷ []) x (ap (number_of ns) (sym met.here) ∙ target);
              gain = met.tail_gains;
            }
      ]

  pub child_link_moves : (v c x : ℕ) → edge_moves users ns q i v ≡ true → link_of ns c ≡ Some v → edge_of users ns (c, i) ≡ Some x → nat_eq x s ≡ false → link_moves ns q i x ≡ true
  child_link_moves v c x h l e other = let t = child_meets v c x h l e other in link_moves_from x t.first (t.back ++ i ∷ []) t.target t.gain

  -- two linked numbers don't meet the same one
  pub met_by_one : (v c u d x : ℕ) → edge_moves users ns q i v ≡ true → link_of ns c ≡ Some v → edge_of users ns (c, i) ≡ Some x
      → edge_moves users ns q i u ≡ true → link_of ns d ≡ Some u → edge_of users ns (d, i) ≡ Some x → nat_eq x s ≡ false → c ≡ d
  met_by_one v c u d x hv lc ec hu ld ed other =
      let a = child_meets v c x hv lc ec other in
      let b = child_meets u d x hu ld ed other in
      let same = one_more (a.first ∷ a.back) (b.first ∷ b.back) i i (same_some ((a.first ∷ a.back) ++ i ∷ []) ((b.first ∷ b.back) ++ i ∷ []) (sym a.target ∙ b.target)) in
      same_some c d (sym (leaf.names.named c (a.first ∷ a.back) a.path) ∙ ap (number_of ns) same.0 ∙ leaf.names.named d (b.first ∷ b.back) b.path)

  -- the first number is linked to none whose edge moves
  pub start_no_child : (v : ℕ) → edge_moves users ns q i v ≡ true → link_of ns m ≡ Some v → ⊥
  start_no_child v h l =
      let link = link_found ns m v l in
      let g = visited_is v m h link in
      let same : first_path link ≡ q = same_some (first_path link) q (sym link.path ∙ leaf.names.numbered q m leaf.start) in
      let a = ap length same in
      let b = length-suffix q (deepest_suffix P link.back) (front_ends P leaf.names.prefixes q i (deepest_suffix P link.back) g) in
      let d = length-suffix (deepest_suffix P link.back) link.back (deepest_is_suffix P link.back) in
      absurd (omega arith)
    where
      first_path : {v : ℕ} → IsLinked ns m v → List ℕ
      first_path l = l.first ∷ l.back

  -- where the edge of a number other than the first moves, that of its link's target does
  pub record IsBehind (c : ℕ) (w : List ℕ) : Type 0 where
    pub target : ℕ
    pub moves : edge_moves users ns q i target ≡ true
    pub link : link_of ns c ≡ Some target
    pub edge : edge_of users ns (c, i) ≡ Some s
    pub back : List ℕ
    pub path : path_of ns target ≡ Some back
    pub shorter : length back < length w

  pub edge_is_found : (c : ℕ) (w : List ℕ) → path_of ns c ≡ Some w → edge_moves users ns q i c ≡ true → nat_eq c m ≡ false → IsBehind c w
  edge_is_found c w e h other =
      let g = edge_moves_parts c h in
      let same : g.front ≡ w = same_some g.front w (sym g.path ∙ e) in
      let differs : (w ≡ q → ⊥) = λ d. eqb-false c m other (same_some c m (sym (leaf.names.named c w e) ∙ ap (number_of ns) d ∙ leaf.start)) in
      let below = gains_below P leaf.names.prefixes q i w front_named differs (subst (λ x. Gains P p (x ++ i ∷ [])) same g.gain) in
      let v = deepest_suffix P below.back in
      let n = deep_number ns leaf.names below.back in
      let path = leaf.names.numbered v n.0 n.1 in
      let apart : is_suffix (i ∷ []) w ≡ false = ap (is_suffix (i ∷ [])) (sym same) ∙ g.apart in
      let back_apart : is_suffix (i ∷ []) v ≡ false = ends_otherwise i v below.back (deepest_is_suffix P below.back)
      (ends_otherwise i below.back w (ap (is_suffix below.back) below.is ∙ or_right (same_path below.back (below.first ∷ below.back)) (is_suffix below.back below.back) (suffix_itself below.back)) apart) in
      let l = length-suffix v below.back (deepest_is_suffix P below.back) in
      let k = ap length below.is in
      record {
        target = n.0;
        moves = edge_moves_from n.0 v path back_apart below.target_gains;
        link = link_at ns c below.first below.back (e ∙ ap Some below.is) ∙ n.1;
        edge = moved_edge_led c h;
        back = v;
        path = path;
        shorter = omega arith;
      }

  -- each link that moves is met at the edge of a linked number
  pub record IsMetFrom (x : ℕ) : Type 0 where
    pub child : ℕ
    pub target : ℕ
    pub moves : edge_moves users ns q i target ≡ true
    pub link : link_of ns child ≡ Some target
    pub edge : edge_of users ns (child, i) ≡ Some x
    pub other : nat_eq x s ≡ false

  pub link_is_found : (x : ℕ) → link_moves ns q i x ≡ true → IsMetFrom x
  link_is_found x h =
      let g = link_moves_parts x h in
      let met = gains_met P leaf.names.prefixes q i g.back front_named g.gain in
      let w = g.first ∷ met.front in
      let is : g.first ∷ g.back ≡ w ++ i ∷ [] = ap (λ (z : List ℕ). g.first ∷ z) met.is in
      let named : P (w ++ i ∷ []) ≡ true = ap P (sym is) ∙ path_is_named ns leaf.names x (g.first ∷ g.back) g.path in
      let number : number_of ns (w ++ i ∷ []) ≡ Some x = ap (number_of ns) (sym is) ∙ leaf.names.named x (g.first ∷ g.back) g.path in
      let c = number_is ns w (leaf.names.prefixes w (i ∷ []) named) in
      let path = leaf.names.numbered w c.0 c.1 in
      let v = deepest_suffix P met.front in
      let n = deep_number ns leaf.names met.front in
      let w_apart = no_own_end w i (leaf.names.apart (w ++ i ∷ []) named) in
      let v_apart : is_suffix (i ∷ []) v ≡ false = ends_otherwise i v w (suffix_then v met.front w (deepest_is_suffix P met.front)
      (or_right (same_path met.front w) (is_suffix met.front met.front) (suffix_itself met.front))) w_apart in
      let edge : edge_of users ns (c.0, i) ≡ Some x = edge_at users ns c.0 i w path ∙ edge_is users ns i w leaf.user w_apart ∙ ap (number_of ns) (deepest_of_member P (w ++ i ∷ []) named) ∙ number in
      let differs : (x ≡ s → ⊥) = λ d.
      let same = ap length (same_number ns leaf.names (w ++ i ∷ []) (deepest_suffix P p) s (number ∙ ap Some d) leaf.led) in
      let short = (new_gains P p leaf.new some_users).shorter in
      let long = length-suffix q met.front met.ends in
      let a = length_more w i in
      let b = length_more q i in
      absurd (omega arith) in
      record {
        child = c.0;
        target = n.0;
        moves = edge_moves_from n.0 v (leaf.names.numbered v n.0 n.1) v_apart met.target_gains;
        link = link_at ns c.0 g.first met.front path ∙ n.1;
        edge = edge;
        other = ne_eqb x s differs;
      }
