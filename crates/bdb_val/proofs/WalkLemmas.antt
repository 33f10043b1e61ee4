-- After a walk all rows are settled.
use Rattle.std.proofs.Common.{◌≡◌, ◌∙◌, ℕ, Bool, true, false, not, ◌&&◌, ◌||◌, nat_eq, List, [], ◌∷◌, ◌++◌, ◌⊎◌, Option, Some, cond, inl, inr, is_some, map, refl, ap, sym, subst}
use Rattle.std.specs.List.{AllByRecursion}
use Rattle.std.specs.Option.{option_map}
use Rattle.std.specs.Ordering.{is_eq, eq_by_cmp}
use Rattle.std.specs.FinMap.{find}
use Rattle.std.proofs.lemmas.Bool.{true≢false, false≢true, cases_Bool, and_parts, and_from, and_left, and_right, or_left, or_right, or_from, or_cases, or_parts, false_from_ne_true, cond-true, cond-false, eqb-true, eq-eqb}
use Rattle.std.proofs.lemmas.List.Folds.{list_any-append}
use Rattle.bdb_base.specs.declared.kinds.Stmt.{Stmt}
use Rattle.bdb_base.specs.declared.kinds.Value.{Value}
use Rattle.bdb_base.specs.declared.tuple.Tuple.{Tuple}
use Rattle.bdb_base.specs.declared.kinds.Sign.TheVariants.{Plus, Minus}
use Rattle.bdb_base.specs.Clash.{same_key, key_of}
use Rattle.bdb_base.specs.Same.{same_values, same_tuple}
use Rattle.bdb_base.specs.SameLemmas.{same_tuple-Decides, same_values-Decides}
use Rattle.bdb_base.specs.Segments.{is_prefix}
use Rattle.bdb_base.proofs.OptionLemmas.{some_of}
use Rattle.bdb_base.specs.Causes.{is_listed}
use Rattle.bdb_keep.specs.Tables.{Tables, bytes_cmp}
use Rattle.bdb_keep.proofs.RowsLemmas.{same_place}
use Rattle.bdb_key.specs.Bytes.{num_bytes}
use Rattle.bdb_key.specs.Grammar.{IsNum, AreKeyVals}
use Rattle.bdb_key.proofs.Forms.{tied}
use Rattle.bdb_key.proofs.Readings.{num_form}
use Rattle.bdb_tables.specs.InUse.{ValKey, IsPair, pair_bytes, linked_codec, val_codec}
use Rattle.bdb_tables.specs.InUseLaws.{pairs_are_one}
use Rattle.bdb_tables.specs.Marks.{Mark}
use Rattle.bdb_tables.specs.Names.{Names, AreNames, path_of, link_of, leads_to}
use Rattle.bdb_tables.specs.Rows.{HoldsRows}
use Rattle.bdb_tables.specs.Spans.{IsUnder, entry_bytes}
use Rattle.bdb_tables.specs.States.{row_where}
use Rattle.bdb_tables.specs.Writes.{with_row_at, with_rows_at}
use Rattle.bdb_tables.specs.GroupMarks.{group_bytes}
use Rattle.bdb_tables.proofs.ListLemmas.{prefix_append, prefix_rest}
use Rattle.bdb_tables.proofs.Held.{leads_is, leads_self}
use Rattle.bdb_val.specs.Groups.{HasLinks, IsUnsettled}
use Rattle.bdb_val.specs.Middle.{worlds_of, HasExplicit, IsSettledAt, AreSettledBut}
use Rattle.bdb_val.specs.Reads.{is_of_group}
use Rattle.bdb_val.specs.Settling.{IsClosedGroup}
use Rattle.bdb_val.specs.Steps.{AreBeginnings}
use Rattle.bdb_val.specs.Walks.{AreLinkedTo, IsVisit, IsQuiet, Walked, changes_of}
use Rattle.bdb_val.specs.Walks.Walked.{first, next}
use Rattle.bdb_val.proofs.HeldLemmas.{settled_rows_are_held}
use Rattle.bdb_val.proofs.ReadLemmas.{group_span}
use Rattle.bdb_val.proofs.VisitLemmas.{linked_is_named, links_after, explicit_after, settled_here, settled_there, settled_other, quiet_signs}

-- ---- the worlds linked to a world

-- links as they are found by the bytes of their keys
abbrev pub links_at : List ((ℕ × ℕ) × Unit {0}) → List ℕ → Option (List ℕ)
links_at es q = find bytes_cmp q (map (entry_bytes linked_codec) es)

pub link_found : (es all : List ((ℕ × ℕ) × Unit {0})) → ((q : List ℕ) → is_some (links_at es q) ≡ true → is_some (links_at all q) ≡ true) → AllByRecursion (λ e. is_some (links_at all (pair_bytes e.0)) ≡ true) es
link_found [] all k = tt
link_found (e ∷ es) all k = (
  k (pair_bytes e.0) (ap is_some (cond-true (eq_by_cmp bytes_cmp (pair_bytes e.0) (pair_bytes e.0)) (Some []) (links_at es (pair_bytes e.0)) (ap is_eq (tied (pair_bytes e.0) (pair_bytes e.0) refl)))),
  link_found es all (λ q s. k q (later (eq_by_cmp bytes_cmp q (pair_bytes e.0)) (links_at es q) s)),
)
  where
    later : (b : Bool) (o : Option (List ℕ)) → is_some o ≡ true → is_some (cond b (Some []) o) ≡ true
    later true o s = refl
    later false o s = s

-- a world linked to a world is listed
linked_is_listed : (ns : Names) (t : Tables) → HasLinks ns t → (wid : ℕ) (more : List ℕ) → IsNum wid → AreLinkedTo t wid more → (m : ℕ) → IsNum m → link_of ns m ≡ Some wid → is_listed m more ≡ true
linked_is_listed ns t h wid more w l m n e =
    let pair : IsPair (wid, m) = record { first = w; second = n } in
    let row : row_where (leads_to (link_of ns m) wid) ≡ Some tt = ap row_where (leads_self (link_of ns m) wid e) in
    let there : is_some (links_at l.entries (pair_bytes (wid, m))) ≡ true =
    ap is_some (sym (l.under.found (pair_bytes (wid, m)) (prefix_append (num_bytes wid) (num_bytes m))) ∙ h.linked.rows (wid, m) pair ∙ ap (option_map (λ _. [])) row) in
    ap (is_listed m) l.listed ∙ go l.entries l.under.each there
  where
    go : (es : List ((ℕ × ℕ) × Unit {0})) → AllByRecursion (IsUnder linked_codec (num_bytes wid)) es → is_some (links_at es (pair_bytes (wid, m))) ≡ true → is_listed m (map (λ e. e.0.1) es) ≡ true
    go [] a s = absurd (false≢true s)
    go (d ∷ ds) a s = elim (cases_Bool (eq_by_cmp bytes_cmp (pair_bytes (wid, m)) (pair_bytes d.0))) [
      | inl c ↦
          let same = pairs_are_one (wid, m) d.0 (record { first = w; second = n }) a.0.key (same_place (pair_bytes (wid, m)) (pair_bytes d.0) c) in
          or_left (nat_eq m d.0.1) (is_listed m (map (λ e. e.0.1) ds)) (eq-eqb m d.0.1 (ap (λ (z : ℕ × ℕ). z.1) same))
      | inr c ↦ or_right (nat_eq m d.0.1) (is_listed m (map (λ e. e.0.1) ds))
          (go ds a.1 (ap is_some (sym (cond-false (eq_by_cmp bytes_cmp (pair_bytes (wid, m)) (pair_bytes d.0)) (Some []) (links_at ds (pair_bytes (wid, m))) c)) ∙ s))
    ]

-- a pair whose bytes begin with a number has it first
pub first_is : (wid : ℕ) → IsNum wid → (k : ℕ × ℕ) → IsPair k → is_prefix (num_bytes wid) (pair_bytes k) ≡ true → k.0 ≡ wid
first_is wid n k p e =
    let r = prefix_rest (num_bytes wid) (pair_bytes k) e in
    (num_form k.0 wid (num_bytes k.1) r.0 p.first n r.1).0

-- a listed world is linked to another, the one whose worlds are listed
pub listed_is_linked : (ns : Names) (t : Tables) → HasLinks ns t → (wid : ℕ) (more : List ℕ) → AreLinkedTo t wid more → (m : ℕ) → is_listed m more ≡ true → (k : ℕ) × (link_of ns m ≡ Some k) × (IsNum wid → k ≡ wid)
listed_is_linked ns t h wid more l m s = go l.entries l.under.each (link_found l.entries l.entries (λ q k. k)) (ap (is_listed m) (sym l.listed) ∙ s)
  where
    stands : (b : Bool) (o : Option (List ℕ)) → option_map (λ _. []) (row_where b) ≡ o → is_some o ≡ true → b ≡ true
    stands true o e k = refl
    stands false o e k = absurd (false≢true (ap is_some e ∙ k))

    go : (es : List ((ℕ × ℕ) × Unit {0})) → AllByRecursion (IsUnder linked_codec (num_bytes wid)) es → AllByRecursion (λ e. is_some (links_at l.entries (pair_bytes e.0)) ≡ true) es
        → is_listed m (map (λ e. e.0.1) es) ≡ true → (k : ℕ) × (link_of ns m ≡ Some k) × (IsNum wid → k ≡ wid)
    go [] a b e = absurd (false≢true e)
    go (d ∷ ds) a b e = elim (or_cases (nat_eq m d.0.1) (is_listed m (map (λ z. z.0.1) ds)) e) [
      | inl c ↦
          let i = eqb-true m d.0.1 c in
          let k = stands (leads_to (link_of ns d.0.1) d.0.0) (links_at l.entries (pair_bytes d.0)) (sym (h.linked.rows d.0 a.0.key) ∙ l.under.found (pair_bytes d.0) a.0.begins) b.0 in
          (d.0.0, ap (link_of ns) i ∙ leads_is (link_of ns d.0.1) d.0.0 k, λ n. first_is wid n d.0 a.0.key a.0.begins)
      | inr c ↦ go ds a.1 b.1 c
    ]

-- ---- the walk

rows_append : (f : ValKey → Option Mark) (xs ys : List (ValKey × Option Mark)) → with_rows_at val_codec f (xs ++ ys) ≡ with_rows_at val_codec (with_rows_at val_codec f xs) ys
rows_append f [] ys = refl
rows_append f (x ∷ xs) ys = rows_append (with_row_at val_codec f x) xs ys

module _ (keys : ℕ → ℕ) (stmts : List Stmt) (ns : Names) (tuple : ℕ → Option Tuple) (test : Tuple → Bool) (prefix : ℕ → List ℕ) (names : AreNames ns) (spans : AreBeginnings keys test prefix) (group : IsClosedGroup keys test) where
  -- what holds in the middle of a walk: each world that is not on the list is settled
  pub record IsOnWay (g : ValKey → Option Mark) (u : Tables) (left : List ℕ) : Type 0 where
    pub explicit : HasExplicit keys stmts (worlds_of ns) tuple g u
    pub links : HasLinks ns u
    pub named : (m : ℕ) → is_listed m left ≡ true → is_some (path_of ns m) ≡ true
    pub settled : AreSettledBut keys stmts (worlds_of ns) tuple g (λ m x. test x && is_listed m left)

  more_named : (t : Tables) → HasLinks ns t → (wid : ℕ) (more : List ℕ) → AreLinkedTo t wid more → (m : ℕ) → is_listed m more ≡ true → is_some (path_of ns m) ≡ true
  more_named t h wid more l m e = let k = listed_is_linked ns t h wid more l m e in linked_is_named ns m k.0 k.1

  not_linked : (h : Tables) (m wid : ℕ) → leads_to (link_of ns m) wid ≡ false → link_of ns m ≡ Some wid → ⊥
  not_linked h m wid e k = false≢true (sym e ∙ leads_self (link_of ns m) wid k)

  not_same : (m wid : ℕ) → nat_eq m wid ≡ false → m ≡ wid → ⊥
  not_same m wid e k = false≢true (sym e ∙ eq-eqb m wid k)

  first_visit : (f : ValKey → Option Mark) (t u : Tables) (wid : ℕ) (more : List ℕ) → IsUnsettled keys stmts ns tuple f t wid test → (s : IsVisit keys prefix t u wid) → AreLinkedTo u wid more
      → IsOnWay (with_rows_at val_codec f (changes_of s)) u more
  first_visit f t u wid more h s l =
      let w = some_of (path_of ns wid) h.named in
      let links = links_after keys stmts ns tuple test prefix names spans group f t u h.explicit h.links wid w.0 w.1 s in
      record {
        explicit = explicit_after keys stmts ns tuple test prefix names spans group f t u h.explicit h.links wid w.0 w.1 s;
        links = links;
        named = more_named u links wid more l;
        settled = λ m tid x p out. elim (cases_Bool (test x)) [
          | inr e ↦ settled_other keys stmts ns tuple test prefix names spans group f t u h.explicit h.links wid w.0 w.1 s m tid x p e (h.settled m tid x p (and_left (test x) (nat_eq m wid || leads_to (link_of ns m) wid) e))
          | inl e ↦ elim (cases_Bool (nat_eq m wid)) [
            | inl c ↦ subst (λ z. IsSettledAt keys stmts (worlds_of ns) (with_rows_at val_codec f (changes_of s)) z tid x) (sym (eqb-true m wid c))
                (settled_here keys stmts ns tuple test prefix names spans group f t u h.explicit h.links wid w.0 w.1 s tid x p e)
            | inr c ↦ elim (cases_Bool (leads_to (link_of ns m) wid)) [
              | inl d ↦ λ q a.
                  let here = linked_is_listed ns u links wid more (h.explicit.sized wid w.0 w.1) l m (h.explicit.sized m q a) (leads_is (link_of ns m) wid d) in
                  absurd (true≢false (sym (and_from (test x) (is_listed m more) e here) ∙ out))
              | inr d ↦ settled_there keys stmts ns tuple test prefix names spans group f t u h.explicit h.links wid w.0 w.1 s m tid x p (not_same m wid c)
                  (λ k. absurd (not_linked t m wid d k))
                  (h.settled m tid x p (and_right (test x) (nat_eq m wid || leads_to (link_of ns m) wid) (or_from (nat_eq m wid) (leads_to (link_of ns m) wid) c d)))
            ]
          ]
        ];
      }

  listed_append : (m : ℕ) (xs ys : List ℕ) → is_listed m (xs ++ ys) ≡ (is_listed m xs || is_listed m ys)
  listed_append m xs ys = list_any-append (nat_eq m) xs ys

  next_visit : (g : ValKey → Option Mark) (u v : Tables) (wid : ℕ) (left more : List ℕ) → IsOnWay g u (wid ∷ left) → (s : IsVisit keys prefix u v wid)
      → ((more ≡ []) × IsQuiet s) ⊎ AreLinkedTo v wid more → IsOnWay (with_rows_at val_codec g (changes_of s)) v (left ++ more)
  next_visit g u v wid left more h s l =
      let w = some_of (path_of ns wid) (h.named wid (or_left (nat_eq wid wid) (is_listed wid left) (eq-eqb wid wid refl))) in
      let links = links_after keys stmts ns tuple test prefix names spans group g u v h.explicit h.links wid w.0 w.1 s in
      record {
        explicit = explicit_after keys stmts ns tuple test prefix names spans group g u v h.explicit h.links wid w.0 w.1 s;
        links = links;
        named = λ m e. elim (or_cases (is_listed m left) (is_listed m more) (sym (listed_append m left more) ∙ e)) [
          | inl a ↦ h.named m (or_right (nat_eq m wid) (is_listed m left) a)
          | inr a ↦ elim l [
            | inl q ↦ absurd (false≢true (ap (is_listed m) (sym q.0) ∙ a))
            | inr d ↦ more_named v links wid more d m a
          ]
        ];
        settled = λ m tid x p out. elim (cases_Bool (test x)) [
          | inr e ↦ settled_other keys stmts ns tuple test prefix names spans group g u v h.explicit h.links wid w.0 w.1 s m tid x p e (h.settled m tid x p (and_left (test x) (is_listed m (wid ∷ left)) e))
          | inl e ↦
              let gone = or_parts (is_listed m left) (is_listed m more) (sym (listed_append m left more) ∙ false_from_ne_true (is_listed m (left ++ more)) (λ k.
              true≢false (sym (and_from (test x) (is_listed m (left ++ more)) e k) ∙ out))) in
              elim (cases_Bool (nat_eq m wid)) [
                | inl c ↦ subst (λ z. IsSettledAt keys stmts (worlds_of ns) (with_rows_at val_codec g (changes_of s)) z tid x) (sym (eqb-true m wid c))
                    (settled_here keys stmts ns tuple test prefix names spans group g u v h.explicit h.links wid w.0 w.1 s tid x p e)
                | inr c ↦
                    let before = h.settled m tid x p (and_right (test x) (is_listed m (wid ∷ left)) (or_from (nat_eq m wid) (is_listed m left) c gone.0)) in
                    elim l [
                      | inl q ↦ settled_there keys stmts ns tuple test prefix names spans group g u v h.explicit h.links wid w.0 w.1 s m tid x p (not_same m wid c)
                          (λ k. quiet_signs keys stmts ns tuple test prefix names spans group g u v h.explicit h.links wid w.0 w.1 s q.1 tid x p e) before
                      | inr d ↦ λ y a. settled_there keys stmts ns tuple test prefix names spans group g u v h.explicit h.links wid w.0 w.1 s m tid x p (not_same m wid c)
                          (λ k. absurd (false≢true (sym gone.1 ∙ linked_is_listed ns v links wid more (h.explicit.sized wid w.0 w.1) d m (h.explicit.sized m y a) k))) before y a
                    ]
              ]
        ];
      }

  -- in the middle of a walk each world that is not on the list is settled
  pub walk_on_way : (f : ValKey → Option Mark) (t : Tables) (start : ℕ) → IsUnsettled keys stmts ns tuple f t start test
      → (u : Tables) (left : List ℕ) (made : List (ValKey × Option Mark)) (put taken : ℕ) → Walked keys prefix t start u left made put taken → IsOnWay (with_rows_at val_codec f made) u left
  walk_on_way f t start h _ _ _ _ _ (first u more s l) = first_visit f t u start more h s l
  walk_on_way f t start h _ _ _ _ _ (next u v wid rest more before puts takes walked s l) =
      subst (λ g. IsOnWay g v (rest ++ more)) (sym (rows_append f before (changes_of s)))
      (next_visit (with_rows_at val_codec f before) u v wid rest more (walk_on_way f t start h u (wid ∷ rest) before puts takes walked) s l)

-- ---- groups

same_group : (keys : ℕ → ℕ) (rel : ℕ) (v : List Value) (a b : Tuple) → a.rel ≡ b.rel → key_of keys a ≡ key_of keys b → is_of_group keys rel v a ≡ true → is_of_group keys rel v b ≡ true
same_group keys rel v a b r k e =
    ap (λ (n : ℕ). nat_eq n rel && same_values (key_of keys b) v) (sym r) ∙ ap (λ (x : List Value). nat_eq a.rel rel && same_values x v) (sym k) ∙ e

of_same_tuple : (keys : ℕ → ℕ) (rel : ℕ) (v : List Value) (a b : Tuple) → same_tuple a b ≡ true → is_of_group keys rel v a ≡ true → is_of_group keys rel v b ≡ true
of_same_tuple keys rel v a b e g = ap (is_of_group keys rel v) (sym ((same_tuple-Decides a b).0 e)) ∙ g

-- a tuple that clashes with one of a group is in the group
pub is_group : (keys : ℕ → ℕ) (rel : ℕ) (v : List Value) → IsClosedGroup keys (is_of_group keys rel v)
is_group keys rel v a b Plus Plus e c =
    let k = (and_parts (same_key keys a b) (not (same_tuple a b)) c).0 in
    let p = and_parts (nat_eq a.rel b.rel) (same_values (key_of keys a) (key_of keys b)) k in
    same_group keys rel v a b (eqb-true a.rel b.rel p.0) ((same_values-Decides (key_of keys a) (key_of keys b)).0 p.1) e
is_group keys rel v a b Plus Minus e c = of_same_tuple keys rel v a b c e
is_group keys rel v a b Minus Plus e c = of_same_tuple keys rel v a b c e
is_group keys rel v a b Minus Minus e c = absurd (false≢true c)

-- a walk that is at its end settles the group
pub walk_settles : (keys : ℕ → ℕ) (t u : Tables) (wid rel : ℕ) (v : List Value) (made : List (ValKey × Option Mark)) (put taken : ℕ) → IsNum rel → AreKeyVals v
    → Walked keys (λ w. group_bytes w rel v) t wid u [] made put taken
    → (stmts : List Stmt) (ns : Names) (tuple : ℕ → Option Tuple) (f : ValKey → Option Mark) → IsUnsettled keys stmts ns tuple f t wid (is_of_group keys rel v) → HoldsRows keys stmts (path_of ns) tuple u
walk_settles keys t u wid rel v made put taken r p walked stmts ns tuple f h =
    let way = walk_on_way keys stmts ns tuple (is_of_group keys rel v) (λ w. group_bytes w rel v) h.names (λ w n. group_span keys h.explicit.rows.lengths w rel v n r p) (is_group keys rel v) f t wid h u [] made put taken walked in
    settled_rows_are_held keys stmts ns tuple (with_rows_at val_codec f made) u h.names h.states way.explicit
    (λ m tid x n _. way.settled m tid x n (and_right (is_of_group keys rel v x) (is_listed m []) refl))
