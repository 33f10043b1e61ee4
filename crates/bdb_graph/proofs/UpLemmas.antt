-- From which world each world comes.
use Rattle.std.proofs.Common.{◌≡◌, ◌∙◌, ℕ, zero, suc, ◌+◌, ◌<◌, Bool, true, false, cond, nat_eq, List, [], ◌∷◌, ◌++◌, length, map, take, get_or, append_assoc, Option, Some, None, refl, ap, sym, subst, inl, inr, arith}
use Rattle.std.specs.Prelude.{MatchOption}
use Rattle.std.specs.Bool.{MatchBool}
use Rattle.std.specs.List.{AllByRecursion}
use Rattle.std.specs.Option.{option_map}
use Rattle.std.specs.Ordering.{eq_by_cmp}
use Rattle.std.specs.FinMap as tables
use Rattle.std.specs.FinMap.{find}
use Rattle.std.proofs.lemmas.Bool.{cases_Bool, eqb-true, eqb-false}
use Rattle.std.proofs.lemmas.List.{map-append, take_more}
use Rattle.bdb_base.specs.Segments.{is_prefix}
use Rattle.bdb_base.proofs.OptionLemmas.{none_is_some, same_some}
use Rattle.bdb_base.proofs.AllLemmas.{all_both}
use Rattle.bdb_keep.specs.Tables.{Tables, bytes_cmp}
use Rattle.bdb_keep.proofs.RowsLemmas.{same_place}
use Rattle.bdb_key.specs.Bytes.{num_bytes}
use Rattle.bdb_key.specs.Grammar.{IsNum}
use Rattle.bdb_key.proofs.Alone.{one_num, number_begins}
use Rattle.bdb_key.proofs.Readings.{all_push}
use Rattle.bdb_tables.specs.Codec.{Codec, HasRow, place}
use Rattle.bdb_tables.specs.InUse.{depth_codec, led_codec, triple_bytes}
use Rattle.bdb_tables.specs.InUseLaws.{number_rows_are_one, triples_are_one}
use Rattle.bdb_tables.specs.Names.{Names, path_of, depth_of}
use Rattle.bdb_tables.specs.Spans.{AreUnder, IsUnder, entry_bytes}
use Rattle.bdb_tables.specs.States.{HoldsStates, IsNamed, root, next}
use Rattle.bdb_tables.proofs.ListLemmas.{prefix_append}
use Rattle.bdb_names.proofs.NamedLemmas.{named_path, path_is_told}
use Rattle.bdb_entries.proofs.ListedLemmas.{all_found}
use Rattle.bdb_entries.proofs.ReadLemmas.{past}
use Rattle.bdb_entries.proofs.TupleLemmas.{given_is, holding}
use Rattle.bdb_graph.specs.Ups.{AreUps, HasDepth, HasFront, HasStart, HoldNoStates, IsParent, IsUp, Led, EdgeLeadsTo, NoParent, StartsAt, StartsElsewhere, TellsUp, depth_row, parent_in}
use Rattle.bdb_graph.specs.declared.ups.Up.{Up}

-- ---- any table

module _ {Key Row : Type 0} (c : Codec Key Row) (prefix : List ℕ) where
  -- what holds of each entry holds of one that is found
  found_tells : (Q : Key × Row → Type 0) (es : List (Key × Row)) → AllByRecursion (IsUnder c prefix) es → AllByRecursion Q es → (k r : List ℕ)
      → find bytes_cmp k (map (entry_bytes c) es) ≡ Some r → (e : Key × Row) × c.IsKey e.0 × (c.key_bytes e.0 ≡ k) × Q e
  found_tells Q [] h q k r found = absurd (none_is_some r found)
  found_tells Q (e ∷ es) h q k r found = elim (cases_Bool (eq_by_cmp bytes_cmp k (c.key_bytes e.0))) [
    | inl same ↦ (e, h.0.key, sym (same_place k (c.key_bytes e.0) same), q.0)
    | inr other ↦ found_tells Q es h.1 q.1 k r (sym (ap (λ b. cond b (Some (c.row_bytes e.1)) (find bytes_cmp k (map (entry_bytes c) es))) other) ∙ found)
  ]

  -- each row of a list is in the table
  pub under_found : (t : Tables) (es : List (Key × Row)) → AreUnder c t prefix es → AllByRecursion (λ e. tables.get t (place c e.0) ≡ Some (c.row_bytes e.1)) es
  under_found t es h = there es h.each (all_found c es h.sorted)
    where
      there : (ds : List (Key × Row)) → AllByRecursion (IsUnder c prefix) ds → AllByRecursion (λ e. find bytes_cmp (c.key_bytes e.0) (map (entry_bytes c) es) ≡ Some (c.row_bytes e.1)) ds
          → AllByRecursion (λ e. tables.get t (place c e.0) ≡ Some (c.row_bytes e.1)) ds
      there [] u f = tt
      there (d ∷ ds) u f = (h.found (c.key_bytes d.0) u.0.begins ∙ f.0, there ds u.1 f.1)

-- ---- depths

pub rows_have_depths : (t : Tables) (es : List (ℕ × ℕ)) → AreUnder depth_codec t [] es → AllByRecursion (λ e. HasDepth t e.0 e.1) es
rows_have_depths t es h =
    all_both (IsUnder depth_codec []) (λ e. tables.get t (place depth_codec e.0) ≡ Some (num_bytes e.1)) (λ e. HasDepth t e.0 e.1) es
    (λ e u f. record { number = u.key; size = u.row; found = f }) h.each (under_found depth_codec [] t es h)

-- a world has one depth
pub one_depth : (t : Tables) (n d e : ℕ) → HasDepth t n d → HasDepth t n e → d ≡ e
one_depth t n d e h k = one_num d e h.size k.size (same_some (num_bytes d) (num_bytes e) (sym h.found ∙ k.found))

pub depth_known : (t : Tables) (n d found : ℕ) → IsNum n → IsNum d → HasRow depth_codec t n found → (b : Bool) → b ≡ nat_eq found d → MatchBool b (HasDepth t n d) (HasDepth t n d → ⊥)
depth_known t n d found fn fd row b e = subst (λ v. MatchBool v (HasDepth t n d) (HasDepth t n d → ⊥)) (sym e) (by (nat_eq found d) refl)
  where
    has : HasDepth t n found
    has = record { number = fn; size = row.in_grammar; found = row.found }

    by : (v : Bool) → nat_eq found d ≡ v → MatchBool v (HasDepth t n d) (HasDepth t n d → ⊥)
    by true s = subst (HasDepth t n) (eqb-true found d s) has
    by false s = λ h. eqb-false found d s (one_depth t n found d has h)

pub depth_missing : (t : Tables) (n d : ℕ) → tables.get t (place depth_codec n) ≡ None → HasDepth t n d → ⊥
depth_missing t n d e h = none_is_some (num_bytes d) (sym e ∙ h.found)

-- ---- edges that lead to a world

pub rows_lead : (t : Tables) (n : ℕ) → IsNum n → (es : List Led) → AreUnder led_codec t (num_bytes n) es → AllByRecursion (EdgeLeadsTo t n) es
rows_lead t n fits es h =
    all_both (IsUnder led_codec (num_bytes n)) (λ e. tables.get t (place led_codec e.0) ≡ Some []) (EdgeLeadsTo t n) es
    (λ e u f. record {
      fits = u.key;
      found = f;
      to = number_begins n e.0.0 (num_bytes e.0.1 ++ num_bytes e.0.2) fits u.key.first (ap (is_prefix (num_bytes n)) (sym (append_assoc (num_bytes e.0.0) (num_bytes e.0.1) (num_bytes e.0.2))) ∙ u.begins);
    })
    h.each (under_found led_codec (num_bytes n) t es h)

pub leads_from : (t : Tables) (n d : ℕ) → IsNum n → (e : Led) → EdgeLeadsTo t n e → HasDepth t e.0.1 d → IsParent t n d (e.0.1, e.0.2)
leads_from t n d fits e h depth = record {
  number = fits;
  user = h.fits.third;
  led = ap (λ m. tables.get t (place led_codec (m, e.0.1, e.0.2))) (sym h.to) ∙ h.found;
  depth = depth;
}

pub no_parent : (t : Tables) (n d : ℕ) → IsNum n → (es : List Led) → AreUnder led_codec t (num_bytes n) es → AllByRecursion (StartsElsewhere t d) es → NoParent t n d
no_parent t n d fits es under none p q =
    let begins = ap (is_prefix (num_bytes n)) (append_assoc (num_bytes n) (num_bytes p.0) (num_bytes p.1)) ∙ prefix_append (num_bytes n) (num_bytes p.0 ++ num_bytes p.1) in
    let e = found_tells led_codec (num_bytes n) (StartsElsewhere t d) es under.each none (triple_bytes (n, p.0, p.1)) [] (sym (under.found (triple_bytes (n, p.0, p.1)) begins) ∙ q.led) in
    let same : e.0.0 ≡ (n, p.0, p.1) = triples_are_one e.0.0 (n, p.0, p.1) e.1 (record { first = fits; second = q.depth.number; third = q.user }) e.2 in
    e.3 (subst (λ (k : ℕ × ℕ × ℕ). HasDepth t k.1 d) (sym same) q.depth)

pub parent_known : (t u : Tables) (n d : ℕ) → IsNum n → (es rows : List Led) → u ≡ t → rows ≡ es → AreUnder led_codec t (num_bytes n) es → (found : Option (ℕ × ℕ))
    → MatchOption found (AllByRecursion (StartsElsewhere u d) rows) (IsParent u n d) → MatchOption found (NoParent t n d) (IsParent t n d)
parent_known t u n d fits es rows same is under None h = no_parent t n d fits es under (subst (λ v. AllByRecursion (StartsElsewhere v d) es) same (subst (AllByRecursion (StartsElsewhere u d)) is h))
parent_known t u n d fits es rows same is under (Some p) h = subst (λ v. IsParent v n d p) same h

-- ---- what the states tell

module _ (t : Tables) (users : ℕ → Bool) (ns : Names) (h : HoldsStates users ns t) where
  pub path_deep : (n d : ℕ) → HasDepth t n d → (w : List ℕ) × (path_of ns n ≡ Some w) × (length w ≡ d)
  path_deep n d has = by (path_of ns n) refl (given_is depth_codec number_rows_are_one t (depth_of ns) h.tables.depth n has.number d has.size has.found)
    where
      by : (o : Option (List ℕ)) → path_of ns n ≡ o → option_map (λ w. length w) (path_of ns n) ≡ Some d → (w : List ℕ) × (path_of ns n ≡ Some w) × (length w ≡ d)
      by None e f = let g : option_map (λ (w : List ℕ). length w) None ≡ Some d = ap (option_map (λ w. length w)) (sym e) ∙ f in absurd cc
      by (Some w) e f = let g : Some (length w) ≡ Some d = ap (option_map (λ w. length w)) (sym e) ∙ f in let s : length w ≡ d = cc in (w, e, s)

  front_is : (n d : ℕ) (p : ℕ × ℕ) → HasDepth t n (d + 1) → IsParent t n d p → (v : List ℕ) × (path_of ns p.0 ≡ Some v) × (path_of ns n ≡ Some (v ++ p.1 ∷ []))
  front_is n d p has parent =
      let deep = path_deep p.0 d parent.depth in (
        deep.0,
        deep.1,
        named_path users ns t h (next n p.0 p.1 d deep.0 (path_is_told users ns t h p.0 deep.0 deep.1) (record {
          number = parent.number;
          from = parent.depth.number;
          user = parent.user;
          short = has.size;
          led = parent.led;
          depth = parent.depth.found;
          deeper = has.found;
        })),
      )

  no_front : (n d : ℕ) → HasDepth t n (d + 1) → NoParent t n d → ⊥
  no_front n d has none = let deep = path_deep n (d + 1) has in by deep.0 deep.2 (path_is_told users ns t h n deep.0 deep.1) has none
    where
      by : {k : ℕ} (w : List ℕ) → length w ≡ d + 1 → IsNamed t k w → HasDepth t k (d + 1) → NoParent t k d → ⊥
      by w l root deep none = absurd (omega arith)
      by w l (next k m i e v x step) deep none =
          let same : e + 1 ≡ d + 1 = one_depth t k (e + 1) (d + 1) (record { number = step.number; size = step.short; found = step.deeper }) deep in
          let is : e ≡ d = omega arith in
          let short = step.short in
          none (m, i) (record { number = step.number; user = step.user; led = step.led; depth = record { number = step.from; size = omega arith; found = step.depth ∙ ap (λ x. Some (num_bytes x)) is } })

pub no_up : (t : Tables) (n d : ℕ) → HasDepth t n (d + 1) → NoParent t n d → HoldNoStates t
no_up t n d has none users ns h = no_front t users ns h n d has none

-- ---- a world with the one from which it comes

pub up_at_root : (t : Tables) (n d : ℕ) (x : Up) → d ≡ 0 → x ≡ record { wid = n; depth = 0; from = 0; uid = 0 } → IsUp t (n, d) x
up_at_root t n d x none is = record {
  same = ap depth_row is ∙ ap (λ (k : ℕ). (n, k)) (sym none);
  tells = λ users ns h. subst (λ (y : Up). HasFront ns y.wid y.from y.uid y.depth) (sym is) tt;
  start = subst (HasStart t) (sym is) tt;
}

pub up_from : (t : Tables) (n d e : ℕ) (p : ℕ × ℕ) (x : Up) → d ≡ e + 1 → x ≡ record { wid = n; depth = d; from = p.0; uid = p.1 } → HasDepth t n d → IsParent t n e p → IsUp t (n, d) x
up_from t n d e p x deep is has parent = record {
  same = ap depth_row is;
  tells = λ users ns h.
      let more : suc e ≡ d = omega arith in
      subst (λ (y : Up). HasFront ns y.wid y.from y.uid y.depth) (sym is) (subst (HasFront ns n p.0 p.1) more (front_is t users ns h n e p (subst (HasDepth t n) deep has) parent));
  start = let more : suc e ≡ d = omega arith in subst (HasStart t) (sym is) (subst (StartsAt t p.0) more parent.depth);
}

-- ---- one more

-- what holds of each item holds of the one at a place
pub all_get : {X : Type 0} (P : X → Type 0) (xs : List X) (k : ℕ) (other : X) → k < length xs → AllByRecursion P xs → P (get_or xs k other)
all_get P [] k other l h = absurd (omega arith)
all_get P (x ∷ xs) zero other l h = h.0
all_get P (x ∷ xs) (suc k) other l h = all_get P xs k other (omega arith) h.1

pub all_take_get : {X : Type 0} (P : X → Type 0) (xs : List X) (k : ℕ) (other : X) → k < length xs → AllByRecursion P (take k xs) → P (get_or xs k other) → AllByRecursion P (take (k + 1) xs)
all_take_get P xs k other l h p = subst (AllByRecursion P) (sym (take_more xs k other l)) (all_push P (take k xs) (get_or xs k other) h p)

pub starts_more : (t u : Tables) (d : ℕ) (rows : List Led) (k : ℕ) (other : Led) (start : ℕ × ℕ) (b : Bool) → k < length rows → u ≡ t → start ≡ parent_in (get_or rows k other) → b ≡ false
    → MatchBool b (HasDepth u start.0 d) (HasDepth u start.0 d → ⊥) → AllByRecursion (StartsElsewhere t d) (take k rows) → AllByRecursion (StartsElsewhere t d) (take (k + 1) rows)
starts_more t u d rows k other start b l same is bad told h =
    all_take_get (StartsElsewhere t d) rows k other l h
    (subst (λ (p : ℕ × ℕ). HasDepth t p.0 d → ⊥) is (subst (λ v. HasDepth v start.0 d → ⊥) same (past (HasDepth u start.0 d) (HasDepth u start.0 d → ⊥) b bad told)))

pub starts_here : (t u : Tables) (n d : ℕ) → IsNum n → (rows : List Led) (k : ℕ) (other : Led) (start : ℕ × ℕ) (b : Bool) → k < length rows → u ≡ t → start ≡ parent_in (get_or rows k other) → b ≡ true
    → MatchBool b (HasDepth u start.0 d) (HasDepth u start.0 d → ⊥) → AllByRecursion (EdgeLeadsTo t n) rows → IsParent t n d start
starts_here t u n d fits rows k other start b l same is good told h =
    let has = holding (HasDepth u start.0 d) (HasDepth u start.0 d → ⊥) b good told in
    let e = get_or rows k other in
    subst (IsParent t n d) (sym is) (leads_from t n d fits e (all_get (EdgeLeadsTo t n) rows k other l h) (subst (λ (p : ℕ × ℕ). HasDepth t p.0 d) is (subst (λ v. HasDepth v start.0 d) same has)))

pub ups_more : (t : Tables) (rows : List (ℕ × ℕ)) (k : ℕ) (other row : ℕ × ℕ) (ups after : List Up) (x : Up) → k < length rows → row ≡ get_or rows k other
    → AreUps t (take k rows) ups → IsUp t row x → after ≡ ups ++ x ∷ [] → AreUps t (take (k + 1) rows) after
ups_more t rows k other row ups after x l there h one is = record {
  rows = ap (map depth_row) is ∙ map-append depth_row ups (x ∷ []) ∙ ap (λ es. es ++ depth_row x ∷ []) h.rows ∙ ap (λ e. take k rows ++ e ∷ []) (one.same ∙ there) ∙ sym (take_more rows k other l);
  tell = subst (AllByRecursion (TellsUp t)) (sym is) (all_push (TellsUp t) ups x h.tell one.tells);
  starts = subst (AllByRecursion (HasStart t)) (sym is) (all_push (HasStart t) ups x h.starts one.start);
}
