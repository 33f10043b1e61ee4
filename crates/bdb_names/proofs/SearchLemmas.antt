-- The search for what a new world takes over: down the tree of suffix links, past each world whose edge moves.
use Rattle.std.proofs.Common.{◌≡◌, ◌∙◌, ℕ, ◌≤◌, ◌<◌, Bool, true, false, nat_eq, cond, List, [], ◌∷◌, ◌++◌, refl, ap, sym, subst, inl, inr, ◌⊎◌, suc, zero, arith, length, take, slice_get, Option, Some, None}
use Rattle.std.proofs.lemmas.Bool.{cases_Bool, or_left, or_right, or_cases, false≢true, false_from_ne_true, cond-true, cond-false, eqb-true, eq-eqb, eqb-false, cases_lt}
use Rattle.bdb_base.proofs.BoolLemmas.{same_tests}
use Rattle.bdb_base.proofs.OptionLemmas.{same_some}
use Rattle.bdb_base.specs.Causes.{is_listed}
use Rattle.bdb_tables.specs.Names.{Names, path_of, are_once, link_of, edge_of}
use Rattle.bdb_names.specs.Moves.{IsLeaf, AreMovers, edge_moves, link_moves}
use Rattle.bdb_names.specs.Search.{sources_after, met_after}
use Rattle.bdb_names.proofs.ListedLemmas.{take_snoc, get_snoc, listed_get, listed_take, once_at, listed_snoc, once_snoc, take_whole}
use Rattle.bdb_names.proofs.MoveLemmas.{start_moves, child_edge_moves, child_link_moves, met_by_one, start_no_child, edge_moves_parts, edge_is_found, link_is_found}

module _ (users : ℕ → Bool) (ns : Names) (q : List ℕ) (i m s : ℕ) (leaf : IsLeaf users ns q i m s) where
  abbrev pub edge : ℕ → Option ℕ
  edge c = edge_of users ns (c, i)

  -- a child was seen: its parent came before the place, or stands there, and the child is below `low`
  abbrev pub IsSeen : List ℕ → ℕ → ℕ → ℕ → ℕ → Type 0
  IsSeen ss at low v c = (is_listed v (take at ss) ≡ true) ⊎ ((slice_get ss at ≡ Some v) × (c < low))

  -- what a child's edge shows is noted
  pub record IsNoted (ss ms : List ℕ) (c : ℕ) : Type 0 where
    pub source : edge c ≡ Some s → is_listed c ss ≡ true
    pub met : (x : ℕ) → edge c ≡ Some x → nat_eq x s ≡ false → is_listed x ms ≡ true

  -- a source is a child that was seen
  pub record IsChild (ss : List ℕ) (at low k : ℕ) : Type 0 where
    pub parent : ℕ
    pub link : link_of ns k ≡ Some parent
    pub seen : IsSeen ss at low parent k

  -- a world was met at the edge of a child that was seen
  pub record WasMet (ss : List ℕ) (at low x : ℕ) : Type 0 where
    pub child : ℕ
    pub parent : ℕ
    pub link : link_of ns child ≡ Some parent
    pub seen : IsSeen ss at low parent child
    pub leads : edge child ≡ Some x
    pub other : nat_eq x s ≡ false

  pub record IsSearch (ss ms : List ℕ) (at low : ℕ) : Type 0 where
    pub start : is_listed m ss ≡ true
    pub sources_move : (k : ℕ) → is_listed k ss ≡ true → edge_moves users ns q i k ≡ true
    pub met_move : (x : ℕ) → is_listed x ms ≡ true → link_moves ns q i x ≡ true
    pub noted : (v c : ℕ) → IsSeen ss at low v c → link_of ns c ≡ Some v → IsNoted ss ms c
    pub once : are_once ss ≡ true
    pub came : (k : ℕ) → is_listed k ss ≡ true → nat_eq k m ≡ false → IsChild ss at low k
    pub met_once : are_once ms ≡ true
    pub met_came : (x : ℕ) → is_listed x ms ≡ true → WasMet ss at low x

  only_first : (k : ℕ) → is_listed k (m ∷ []) ≡ true → k ≡ m
  only_first k h = elim (or_cases (nat_eq k m) false h) [ inl t ↦ eqb-true k m t | inr f ↦ absurd (false≢true f) ]

  pub search_begins : IsSearch (m ∷ []) [] 0 0
  search_begins = record {
    start = or_left (nat_eq m m) false (eq-eqb m m refl);
    sources_move = λ k h. ap (edge_moves users ns q i) (only_first k h) ∙ start_moves users ns q i m s leaf;
    met_move = λ x h. absurd (false≢true h);
    noted = λ v c seen l. elim seen [ inl h ↦ absurd (false≢true h) | inr h ↦ absurd (none_below c h.1) ];
    once = refl;
    came = λ k h f. absurd (eqb-false k m f (only_first k h));
    met_once = refl;
    met_came = λ x h. absurd (false≢true h);
  }
    where
      none_below : (c : ℕ) → c < 0 → ⊥
      none_below c h = absurd (omega arith)

  -- ---- what was seen, as sources come and the search goes on

  module _ (ss : List ℕ) (at low v : ℕ) (here : slice_get ss at ≡ Some v) where
    seen_in_more : (k u c : ℕ) → IsSeen ss at low u c → IsSeen (ss ++ k ∷ []) at low u c
    seen_in_more k u c (inl h) = inl (ap (is_listed u) (take_snoc ss k at v here) ∙ h)
    seen_in_more k u c (inr h) = inr (get_snoc ss k at u h.0, h.1)

    seen_before_more : (k u c : ℕ) → IsSeen (ss ++ k ∷ []) at low u c → IsSeen ss at low u c
    seen_before_more k u c (inl h) = inl (ap (is_listed u) (sym (take_snoc ss k at v here)) ∙ h)
    seen_before_more k u c (inr h) = inr (here ∙ ap Some (same_some v u (sym (get_snoc ss k at v here) ∙ h.0)), h.1)

    seen_higher : (high u c : ℕ) → low ≤ high → IsSeen ss at low u c → IsSeen ss at high u c
    seen_higher high u c l (inl h) = inl h
    seen_higher high u c l (inr h) = let k = h.1 in inr (h.0, omega arith)

    seen_next : (u c : ℕ) → IsSeen ss at low u c → IsSeen ss (suc at) 0 u c
    seen_next u c (inl h) = inl (listed_take ss at v u here ∙ or_left (is_listed u (take at ss)) (nat_eq u v) h)
    seen_next u c (inr h) = inl (listed_take ss at v u here ∙ or_right (is_listed u (take at ss)) (nat_eq u v) (eq-eqb u v (same_some u v (sym h.0 ∙ here))))

  noted_more : (ss ms ss' ms' : List ℕ) (c : ℕ) → ((k : ℕ) → is_listed k ss ≡ true → is_listed k ss' ≡ true) → ((x : ℕ) → is_listed x ms ≡ true → is_listed x ms' ≡ true) → IsNoted ss ms c → IsNoted ss' ms' c
  noted_more ss ms ss' ms' c f g h = record { source = λ e. f c (h.source e); met = λ x e o. g x (h.met x e o) }

  in_more : (ss : List ℕ) (c k : ℕ) → is_listed k ss ≡ true → is_listed k (ss ++ c ∷ []) ≡ true
  in_more ss c k h = listed_snoc ss k c ∙ or_left (is_listed k ss) (nat_eq k c) h

  last_more : (ss : List ℕ) (c : ℕ) → is_listed c (ss ++ c ∷ []) ≡ true
  last_more ss c = listed_snoc ss c c ∙ or_right (is_listed c ss) (nat_eq c c) (eq-eqb c c refl)

  -- ---- a child

  module _ (ss ms : List ℕ) (at low v c : ℕ) (search : IsSearch ss ms at low) (here : slice_get ss at ≡ Some v) (link : link_of ns c ≡ Some v) (bound : low ≤ c)
      (least : (d : ℕ) → low ≤ d → d < c → link_of ns d ≡ Some v → ⊥) where
    parent_moves : edge_moves users ns q i v ≡ true
    parent_moves = search.sources_move v (listed_get ss at v here)

    seen_up : (u d : ℕ) → IsSeen ss at low u d → IsSeen ss at (suc c) u d
    seen_up u d h = seen_higher ss at low v here (suc c) u d (omega arith) h

    -- what was seen now is this child, or was seen before
    seen_now : (u d : ℕ) → link_of ns d ≡ Some u → IsSeen ss at (suc c) u d → (d ≡ c) ⊎ IsSeen ss at low u d
    seen_now u d l (inl h) = inr (inl h)
    seen_now u d l (inr h) = elim (cases_lt d low) [
      | inl b ↦ inr (inr (h.0, b))
      | inr b ↦ elim (cases_lt d c) [
        | inl k ↦ absurd (least d b k (l ∙ ap Some (same_some u v (sym h.0 ∙ here))))
        | inr k ↦ let r = h.1 in inl (omega arith)
      ]
    ]

    -- the child was not seen before
    not_seen : IsSeen ss at low v c → ⊥
    not_seen (inl h) = false≢true (sym (once_at ss at v search.once here) ∙ h)
    not_seen (inr h) = let k = h.1 in absurd (omega arith)

    own_seen : IsSeen ss at (suc c) v c
    own_seen = inr (here, omega arith)

    child_up : (k : ℕ) → IsChild ss at low k → IsChild ss at (suc c) k
    child_up k h = record { parent = h.parent; link = h.link; seen = seen_up h.parent k h.seen }

    met_up : (x : ℕ) → WasMet ss at low x → WasMet ss at (suc c) x
    met_up x h = record { child = h.child; parent = h.parent; link = h.link; seen = seen_up h.parent h.child h.seen; leads = h.leads; other = h.other }

    -- no edge: the child ends in the user
    passed : edge c ≡ None → IsSearch ss ms at (suc c)
    passed e = record {
      start = search.start;
      sources_move = search.sources_move;
      met_move = search.met_move;
      once = search.once;
      met_once = search.met_once;
      noted = λ u d seen l. elim (seen_now u d l seen) [
        | inl is ↦ record { source = λ f. absurd (no_edge d is s f); met = λ x f o. absurd (no_edge d is x f) }
        | inr old ↦ search.noted u d old l
      ];
      came = λ k h f. child_up k (search.came k h f);
      met_came = λ x h. met_up x (search.met_came x h);
    }
      where
        no_edge : (d : ℕ) → d ≡ c → (x : ℕ) → edge d ≡ Some x → ⊥
        no_edge d is x f = let g : edge c ≡ Some x = ap edge (sym is) ∙ f in absurd cc

    -- the edge leads to `s`: the child's edge moves
    is_new_source : is_listed c ss ≡ false
    is_new_source = false_from_ne_true (is_listed c ss) (λ h. elim (cases_Bool (nat_eq c m)) [
      | inl t ↦ start_no_child users ns q i m s leaf v parent_moves (ap (link_of ns) (sym (eqb-true c m t)) ∙ link)
      | inr f ↦ let k = search.came c h f in not_seen (subst (λ u. IsSeen ss at low u c) (same_some k.parent v (sym k.link ∙ link)) k.seen)
    ])

    sourced : edge c ≡ Some s → IsSearch (ss ++ c ∷ []) ms at (suc c)
    sourced e = record {
      start = in_more ss c m search.start;
      sources_move = λ k h. elim (or_cases (is_listed k ss) (nat_eq k c) (sym (listed_snoc ss k c) ∙ h)) [
        | inl old ↦ search.sources_move k old
        | inr t ↦ ap (edge_moves users ns q i) (eqb-true k c t) ∙ child_edge_moves users ns q i m s leaf v c parent_moves link e
      ];
      met_move = search.met_move;
      noted = λ u d seen l. elim (seen_now u d l (seen_before_more ss at (suc c) v here c u d seen)) [
        | inl is ↦ record {
          source = λ f. ap (λ x. is_listed x (ss ++ c ∷ [])) is ∙ last_more ss c;
          met = λ x f o. absurd (eqb-false x s o (same_some x s (sym f ∙ ap edge is ∙ e)));
        }
        | inr old ↦ noted_more ss ms (ss ++ c ∷ []) ms d (in_more ss c) (λ x h. h) (search.noted u d old l)
      ];
      once = once_snoc ss c search.once is_new_source;
      came = λ k h f. elim (or_cases (is_listed k ss) (nat_eq k c) (sym (listed_snoc ss k c) ∙ h)) [
        | inl old ↦ let a = child_up k (search.came k old f) in record { parent = a.parent; link = a.link; seen = seen_in_more ss at (suc c) v here c a.parent k a.seen }
        | inr t ↦ let is = eqb-true k c t in record { parent = v; link = ap (link_of ns) is ∙ link; seen = subst (IsSeen (ss ++ c ∷ []) at (suc c) v) (sym is) (seen_in_more ss at (suc c) v here c v c own_seen) }
      ];
      met_once = search.met_once;
      met_came = λ x h. let a = met_up x (search.met_came x h) in record { child = a.child; parent = a.parent; link = a.link; seen = seen_in_more ss at (suc c) v here c a.parent a.child a.seen; leads = a.leads; other = a.other };
    }

    -- the edge leads elsewhere: the link of the world there moves
    is_new_meeting : (x : ℕ) → edge c ≡ Some x → nat_eq x s ≡ false → is_listed x ms ≡ false
    is_new_meeting x e other = false_from_ne_true (is_listed x ms) (λ h.
        let a = search.met_came x h in
        let moves = search.sources_move a.parent (seen_listed a.parent a.child a.seen) in
        let same = met_by_one users ns q i m s leaf v c a.parent a.child x parent_moves link e moves a.link a.leads other in
        let parents : a.parent ≡ v = same_some a.parent v (sym a.link ∙ ap (link_of ns) (sym same) ∙ link) in
        not_seen (subst (λ u. IsSeen ss at low u c) parents (subst (IsSeen ss at low a.parent) (sym same) a.seen)))
      where
        listed_front : (n : ℕ) (xs : List ℕ) (u : ℕ) → is_listed u (take n xs) ≡ true → is_listed u xs ≡ true
        listed_front zero xs u h = absurd (false≢true h)
        listed_front (suc n) [] u h = absurd (false≢true h)
        listed_front (suc n) (y ∷ xs) u h = elim (or_cases (nat_eq u y) (is_listed u (take n xs)) h) [
          | inl t ↦ or_left (nat_eq u y) (is_listed u xs) t
          | inr t ↦ or_right (nat_eq u y) (is_listed u xs) (listed_front n xs u t)
        ]

        seen_listed : (u d : ℕ) → IsSeen ss at low u d → is_listed u ss ≡ true
        seen_listed u d (inl h) = listed_front at ss u h
        seen_listed u d (inr h) = listed_get ss at u h.0

    met_one : (x : ℕ) → edge c ≡ Some x → nat_eq x s ≡ false → IsSearch ss (ms ++ x ∷ []) at (suc c)
    met_one x e other = record {
      start = search.start;
      sources_move = search.sources_move;
      once = search.once;
      met_move = λ y h. elim (or_cases (is_listed y ms) (nat_eq y x) (sym (listed_snoc ms y x) ∙ h)) [
        | inl old ↦ search.met_move y old
        | inr t ↦ ap (link_moves ns q i) (eqb-true y x t) ∙ child_link_moves users ns q i m s leaf v c x parent_moves link e other
      ];
      noted = λ u d seen l. elim (seen_now u d l seen) [
        | inl is ↦ record {
          source = λ f. absurd (eqb-false x s other (same_some x s (sym e ∙ ap edge (sym is) ∙ f)));
          met = λ y f o. ap (λ z. is_listed z (ms ++ x ∷ [])) (same_some y x (sym f ∙ ap edge is ∙ e)) ∙ last_more ms x;
        }
        | inr old ↦ noted_more ss ms ss (ms ++ x ∷ []) d (λ k h. h) (in_more ms x) (search.noted u d old l)
      ];
      came = λ k h f. child_up k (search.came k h f);
      met_once = once_snoc ms x search.met_once (is_new_meeting x e other);
      met_came = λ y h. elim (or_cases (is_listed y ms) (nat_eq y x) (sym (listed_snoc ms y x) ∙ h)) [
        | inl old ↦ met_up y (search.met_came y old)
        | inr t ↦ let is = eqb-true y x t in record { child = c; parent = v; link = link; seen = own_seen; leads = e ∙ ap Some (sym is); other = ap (λ z. nat_eq z s) is ∙ other }
      ];
    }

    pub search_child : (o : Option ℕ) → edge c ≡ o → IsSearch (sources_after o s c ss) (met_after o s ms) at (suc c)
    search_child None e = passed e
    search_child (Some x) e = elim (cases_Bool (nat_eq x s)) [
      | inl t ↦
          subst (λ a. IsSearch a (cond (nat_eq x s) ms (ms ++ x ∷ [])) at (suc c)) (sym (cond-true (nat_eq x s) (ss ++ c ∷ []) ss t))
          (subst (λ b. IsSearch (ss ++ c ∷ []) b at (suc c)) (sym (cond-true (nat_eq x s) ms (ms ++ x ∷ []) t)) (sourced (e ∙ ap Some (eqb-true x s t))))
      | inr f ↦
          subst (λ a. IsSearch a (cond (nat_eq x s) ms (ms ++ x ∷ [])) at (suc c)) (sym (cond-false (nat_eq x s) (ss ++ c ∷ []) ss f))
          (subst (λ b. IsSearch ss b at (suc c)) (sym (cond-false (nat_eq x s) ms (ms ++ x ∷ []) f)) (met_one x e f))
    ]

  -- ---- no further child

  pub search_next : (ss ms : List ℕ) (at low v : ℕ) → IsSearch ss ms at low → slice_get ss at ≡ Some v → ((d : ℕ) → low ≤ d → link_of ns d ≡ Some v → ⊥) → IsSearch ss ms (suc at) 0
  search_next ss ms at low v search here none = record {
    start = search.start;
    sources_move = search.sources_move;
    met_move = search.met_move;
    once = search.once;
    met_once = search.met_once;
    noted = λ u d seen l. before u d l seen;
    came = λ k h f. let a = search.came k h f in record { parent = a.parent; link = a.link; seen = seen_next ss at low v here a.parent k a.seen };
    met_came = λ x h. let a = search.met_came x h in record { child = a.child; parent = a.parent; link = a.link; seen = seen_next ss at low v here a.parent a.child a.seen; leads = a.leads; other = a.other };
  }
    where
      before : (u d : ℕ) → link_of ns d ≡ Some u → IsSeen ss (suc at) 0 u d → IsNoted ss ms d
      before u d l (inr h) = absurd (none_below d h.1)
        where
          none_below : (c : ℕ) → c < 0 → ⊥
          none_below c h = absurd (omega arith)
      before u d l (inl h) = elim (or_cases (is_listed u (take at ss)) (nat_eq u v) (sym (listed_take ss at v u here) ∙ h)) [
        | inl old ↦ search.noted u d (inl old) l
        | inr t ↦
            let is = eqb-true u v t in
            elim (cases_lt d low) [
              | inl b ↦ search.noted u d (inr (here ∙ ap Some (sym is), b)) l
              | inr b ↦ absurd (none d b (l ∙ ap Some is))
            ]
      ]

  -- ---- the end

  pub search_ends : (ss ms : List ℕ) (at low : ℕ) → IsSearch ss ms at low → length ss ≤ at → AreMovers users ns q i ss ms
  search_ends ss ms at low search all = record {
    edges = λ k. same_tests (is_listed k ss) (edge_moves users ns q i k) (search.sources_move k) (λ h. let e = edge_moves_parts users ns q i m s leaf k h in found (length e.front) k e.front (omega arith) e.path h);
    links = λ x. same_tests (is_listed x ms) (link_moves ns q i x) (search.met_move x) (λ h.
        let e = link_is_found users ns q i m s leaf x h in
        let g = edge_moves_parts users ns q i m s leaf e.target e.moves in
        (search.noted e.target e.child (inl (ap (is_listed e.target) (take_whole ss at all) ∙ found (length g.front) e.target g.front (omega arith) g.path e.moves)) e.link).met x e.edge e.other);
    once = search.once;
    met_once = search.met_once;
  }
    where
      step : (k : ℕ) (w : List ℕ) → path_of ns k ≡ Some w → edge_moves users ns q i k ≡ true
          → ((v : ℕ) (b : List ℕ) → length b < length w → path_of ns v ≡ Some b → edge_moves users ns q i v ≡ true → is_listed v ss ≡ true) → is_listed k ss ≡ true
      step k w e h before = elim (cases_Bool (nat_eq k m)) [
        | inl t ↦ ap (λ x. is_listed x ss) (eqb-true k m t) ∙ search.start
        | inr f ↦
            let b = edge_is_found users ns q i m s leaf k w e h f in
            (search.noted b.target k (inl (ap (is_listed b.target) (take_whole ss at all) ∙ before b.target b.back b.shorter b.path b.moves)) b.link).source b.edge
      ]

      found : (fuel k : ℕ) (w : List ℕ) → length w ≤ fuel → path_of ns k ≡ Some w → edge_moves users ns q i k ≡ true → is_listed k ss ≡ true
      found zero k w l e h = step k w e h (λ v b s _ _. absurd (omega arith))
      found (suc fuel) k w l e h = step k w e h (λ v b s p moves. found fuel v b (omega arith) p moves)
