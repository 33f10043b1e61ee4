-- What is said of a statement by what was read is right.
use Rattle.std.proofs.Common.{◌≡◌, ◌∙◌, ℕ, ◌+◌, ◌-◌, ◌≤◌, ◌<◌, Bool, true, false, ◌&&◌, nat_eq, cond, List, [], ◌∷◌, ◌⊎◌, length, take, refl, ap, sym, subst, inl, inr, Option, Some, None, is_some, suc, arith}
use Rattle.std.specs.List.{list_any, AllByRecursion}
use Rattle.std.specs.Ordering.{is_eq, is_lt, ordering_then}
use Rattle.std.specs.declared.cmp.Ordering.{Ordering}
use Rattle.std.specs.declared.cmp.Ordering.TheVariants.{Less, Equal, Greater}
use Rattle.std.proofs.lemmas.Bool.{cases_Bool, and_parts, and_from, false≢true, false_from_ne_true, or_cases, or_left, or_right, eqb-true, eq-eqb, cases_lt}
use Rattle.std.proofs.lemmas.List.{take_all}
use Rattle.bdb_base.specs.Bases.{Contents, IsValid, belongs, is_user, has_tuple, key_lengths, stands, tuple_count, world_count, with_statement}
use Rattle.bdb_base.specs.Clash.{clash, key_of}
use Rattle.bdb_base.specs.Laws.{ClashesAt}
use Rattle.bdb_base.specs.Order.{path_cmp, sign_cmp, statement_cmp, tuple_cmp}
use Rattle.bdb_base.specs.OrderLemmas.{is_eq_path_cmp, is_eq_tuple_cmp}
use Rattle.bdb_base.specs.Same.{same_sign, same_statement, same_tuple, same_values}
use Rattle.bdb_base.specs.SameLemmas.{same_path-Decides, same_sign-Decides, same_tuple-Decides, same_values-Decides}
use Rattle.bdb_base.specs.States.{is_state, new_states}
use Rattle.bdb_base.specs.Worlds.{explicit, IsConsistent}
use Rattle.bdb_base.specs.declared.kinds.Sign.{Sign}
use Rattle.bdb_base.specs.declared.kinds.Sign.TheVariants.{Plus, Minus}
use Rattle.bdb_base.specs.declared.kinds.Stmt.{Stmt}
use Rattle.bdb_base.specs.declared.tuple.Tuple.{Tuple}
use Rattle.bdb_base.proofs.BaseLemmas.{put_counts_statement, put_counts_tuple}
use Rattle.bdb_base.proofs.ClashLemmas.{same_tuple_turned}
use Rattle.bdb_base.proofs.FirstLemmas.{explicit_statement, statement_explicit}
use Rattle.bdb_base.proofs.LeastLemmas.{least_clash_is_least, no_least_clash}
use Rattle.bdb_base.proofs.SetLemmas.{is_eq-Equal}
use Rattle.bdb_base.proofs.WorldLemmas.{nothing_stands, valid_is_consistent, stands_is_explicit}
use Rattle.bdb_base.proofs.OptionLemmas.{none_and_some}
use Rattle.bdb_base.proofs.ListLemmas.{list_any_same}
use Rattle.bdb_base.proofs.AllLemmas.{all_filter}
use Rattle.bdb_keep.specs.Tables.{Tables}
use Rattle.bdb_paths.proofs.StateLemmas.{put_counts_worlds, states_have_prefixes}
use Rattle.bdb_tables.specs.Names.{number_of}
use Rattle.bdb_val.specs.Reads.{is_of_group}
use Rattle.bdb_val.specs.declared.stored.StoredRow.{StoredRow}
use Rattle.bdb_val.proofs.WalkLemmas.{is_group}
use Rattle.bdb_worlds.proofs.GrowLemmas.{take_split}
use Rattle.bdb_worlds.specs.Holding.{Worlds}
use Rattle.bdb_worlds.specs.Reach.{Reaches}
use Rattle.bdb_update.proofs.KeyLemmas.{key_by_length}
use Rattle.bdb_update.specs.Calls.{clash_of}
use Rattle.bdb_update.specs.Groups.{AreExplicitUnder}
use Rattle.bdb_update.specs.Keys.{keys_of}
use Rattle.bdb_update.specs.Looking.{IsFinding, is_clashing, is_own, least_row, prefix_of}
use Rattle.bdb_tables.specs.Stored.{Stores}
use Rattle.bdb_tables.specs.GroupMarks.{group_bytes}
use Rattle.bdb_update.specs.declared.looking.Finding.{Finding}
use Rattle.bdb_update.proofs.ExplicitLemmas.{AmongAll, among_all, is_explicit_row, unfiltered}
use Rattle.bdb_update.proofs.GrammarLemmas.{stored_is_in_grammar}
use Rattle.bdb_update.proofs.LeastLemmas.{IsLeastRow, IsNotBelow, least_is, none_clash, least_alike}
use Rattle.bdb_update.proofs.MissingLemmas.{missing_behind}
use Rattle.bdb_update.proofs.OwnLemmas.{IsSaid, rows_said, said_rows}
use Rattle.bdb_update.proofs.StageLemmas.{belongs_parts, over_has_tuples}
use Rattle.bdb_update.proofs.TupleLemmas.{number_read}

-- ---- statements that stand

-- a statement as a row of its path says it
abbrev pub said_by : Stmt → StoredRow → Stmt
said_by x r = record { path = x.path; sign = r.mark.0; tuple = r.tuple }

-- at one path, one statement is below another of a tuple that isn't below its own only where the tuples are one and the signs in order
below_at : (z y : Stmt) → z.path ≡ y.path → is_lt (tuple_cmp z.tuple y.tuple) ≡ false → is_lt (statement_cmp z y) ≡ true → (z.tuple ≡ y.tuple) × (is_lt (sign_cmp z.sign y.sign) ≡ true)
below_at z y e n l =
    let p : path_cmp z.path y.path ≡ Equal = is_eq-Equal (path_cmp z.path y.path) (is_eq_path_cmp z.path y.path ∙ (same_path-Decides z.path y.path).1 e) in
    by (tuple_cmp z.tuple y.tuple) refl (sym (ap (λ o. is_lt (ordering_then o (ordering_then (tuple_cmp z.tuple y.tuple) (sign_cmp z.sign y.sign)))) p) ∙ l)
  where
    by : (o : Ordering) → tuple_cmp z.tuple y.tuple ≡ o → is_lt (ordering_then (tuple_cmp z.tuple y.tuple) (sign_cmp z.sign y.sign)) ≡ true → (z.tuple ≡ y.tuple) × (is_lt (sign_cmp z.sign y.sign) ≡ true)
    by Less c h = absurd (false≢true (sym n ∙ ap is_lt c))
    by Equal c h = (
      (same_tuple-Decides z.tuple y.tuple).0 (sym (is_eq_tuple_cmp z.tuple y.tuple) ∙ ap is_eq c),
      sym (ap (λ o. is_lt (ordering_then o (sign_cmp z.sign y.sign))) c) ∙ h,
    )
    by Greater c h = absurd (false≢true (sym (ap (λ o. is_lt (ordering_then o (sign_cmp z.sign y.sign))) c) ∙ h))

-- one tuple with signs in order clashes with itself
signs_clash : (keys : ℕ → ℕ) (u : Tuple) (r s : Sign) → is_lt (sign_cmp r s) ≡ true → clash keys u r u s ≡ true
signs_clash keys u Plus Plus e = absurd (false≢true e)
signs_clash keys u Plus Minus e = (same_tuple-Decides u u).1 refl
signs_clash keys u Minus Plus e = absurd (false≢true e)
signs_clash keys u Minus Minus e = absurd (false≢true e)

abbrev IsNoClash : (ℕ → ℕ) → Stmt → StoredRow → Type 0
IsNoClash keys x q = is_clashing keys x q ≡ false

module _ (t : Tables) (x : Stmt) (p : Finding) (place : IsFinding t x p) (b : Contents) (s : Stores t b) (valid : IsValid b.catalog b.stmts) (belong : belongs b.catalog x ≡ true) where
  abbrev ws : Worlds
  ws = record { users = is_user b.catalog.users; names = s.names }

  abbrev rows : List StoredRow
  rows = p.rows.items

  consistent : IsConsistent (keys_of b) b.stmts
  consistent = valid_is_consistent b.catalog b.stmts valid

  -- the length that was read is that of the key of the tuple's relation
  length_is : p.key_len ≡ keys_of b x.tuple.rel
  length_is = place.key_length b.catalog.rels s.stored.rels

  least_is_row : least_row (λ _. p.key_len) x rows ≡ least_row (keys_of b) x rows
  least_is_row = least_alike (keys_of b) p.key_len x rows length_is

  reached : Reaches ws x.path p.len p.wid
  reached = place.reaches ws s.stored.states (belongs_parts b.catalog x belong).users

  -- the path's first users are states, as far as it was gone
  state_front : (j : ℕ) → j ≤ p.len → is_state b.stmts (take j x.path) ≡ true
  state_front j l =
      let whole : is_state b.stmts (take p.len x.path) ≡ true = sym (s.stored.worlds (take p.len x.path)) ∙ ap is_some reached.number in
      let r = take_split x.path j p.len l in
      states_have_prefixes b.stmts (take j x.path) r.0 (ap (is_state b.stmts) (sym r.1) ∙ whole)

  -- and not beyond
  state_behind : (j : ℕ) → p.len < j → j ≤ length x.path → is_state b.stmts (take j x.path) ≡ false
  state_behind j l m = false_from_ne_true (is_state b.stmts (take j x.path)) (λ e.
      let r = take_split x.path (suc p.len) j (omega arith) in
      let next = states_have_prefixes b.stmts (take (suc p.len) x.path) r.0 (ap (is_state b.stmts) (sym r.1) ∙ e) in
      false≢true (sym (reached.longest (omega arith)) ∙ s.stored.worlds (take (suc p.len) x.path) ∙ next))

  -- ---- where the path is a state

  module _ (full : p.len ≡ length x.path) where
    number : number_of s.names x.path ≡ Some p.wid
    number = ap (number_of s.names) (sym (take_all p.len x.path (omega arith))) ∙ reached.number

    prefix_is : prefix_of (λ _. p.key_len) p.wid x ≡ prefix_of (keys_of b) p.wid x
    prefix_is = ap (group_bytes p.wid x.tuple.rel) (key_by_length (keys_of b) p.key_len x.tuple length_is)

    among : AmongAll t (prefix_of (keys_of b) p.wid x) rows
    among = among_all t (prefix_of (keys_of b) p.wid x) rows (stored_is_in_grammar t b s) (over_has_tuples b.stmts b.stmts s.names s.tuples t b s.stored)
        (subst (λ q. AreExplicitUnder t q rows) prefix_is (place.rows full))

    said : AllByRecursion (IsSaid b.stmts x.path) rows
    said = subst (AllByRecursion (IsSaid b.stmts x.path)) (sym among.are) (all_filter (IsSaid b.stmts x.path) is_explicit_row among.all
        (rows_said t b s.names s.tuples s.stored consistent x.path p.wid number x.tuple place.fits among.all among.read))

    found : (Q : StoredRow → Type 0) → AllByRecursion Q rows → (v : Tuple) (r : Sign) → explicit b.stmts x.path v r ≡ true → is_of_group (keys_of b) x.tuple.rel (key_of (keys_of b) x.tuple) v ≡ true
        → (q : StoredRow) × (q.tuple ≡ v) × (q.mark ≡ (r, true)) × Q q
    found Q all v r e like =
        let k = said_rows t b s.names s.tuples s.stored consistent x.path p.wid number x.tuple place.fits among.all among.read (λ q. is_explicit_row q ≡ true → Q q)
        (unfiltered Q is_explicit_row among.all (subst (AllByRecursion Q) among.are all)) v r e like in
        (k.0, k.1, k.2, k.3 (ap (λ (m : Sign × Bool). m.1) k.2))

    like_itself : is_of_group (keys_of b) x.tuple.rel (key_of (keys_of b) x.tuple) x.tuple ≡ true
    like_itself = and_from (nat_eq x.tuple.rel x.tuple.rel) (same_values (key_of (keys_of b) x.tuple) (key_of (keys_of b) x.tuple)) (eq-eqb x.tuple.rel x.tuple.rel refl)
        ((same_values-Decides (key_of (keys_of b) x.tuple) (key_of (keys_of b) x.tuple)).1 refl)

    -- each statement that clashes has a row that does
    clashing_row : (Q : StoredRow → Type 0) → AllByRecursion Q rows → (y : Stmt) → ClashesAt (keys_of b) b.stmts x.path x.tuple x.sign y → (q : StoredRow) × (q.tuple ≡ y.tuple) × (is_clashing (keys_of b) x q ≡ true) × Q q
    clashing_row Q all y c =
        let e = statement_explicit b.stmts x.path y c.0 c.1 in
        let like = is_group (keys_of b) x.tuple.rel (key_of (keys_of b) x.tuple) x.tuple y.tuple x.sign y.sign like_itself c.2 in
        let r = found Q all y.tuple y.sign e like in (
          r.0,
          r.1,
          and_from r.0.mark.1 (clash (keys_of b) x.tuple x.sign r.0.tuple r.0.mark.0) (ap (λ (m : Sign × Bool). m.1) r.2)
              (ap (λ v. clash (keys_of b) x.tuple x.sign v r.0.mark.0) r.1 ∙ ap (λ (m : Sign × Bool). clash (keys_of b) x.tuple x.sign y.tuple m.0) r.2 ∙ c.2),
          r.3,
        )

    none_here : least_row (keys_of b) x rows ≡ None → clash_of b x ≡ None
    none_here e = (no_least_clash (key_lengths b.catalog.rels) b.stmts x.path x.tuple x.sign).1 (λ y c.
        let r = clashing_row (IsNoClash (keys_of b) x) (none_clash (keys_of b) x rows e) y c in
        false≢true (sym r.3 ∙ r.2))

    least_here : (r : StoredRow) → least_row (keys_of b) x rows ≡ Some r → clash_of b x ≡ Some (said_by x r)
    least_here r e = by (clash_of b x) refl
      where
        least : IsLeastRow (keys_of b) x rows r
        least = least_is (keys_of b) x rows r e

        mark : (r.mark.1 ≡ true) × (clash (keys_of b) x.tuple x.sign r.tuple r.mark.0 ≡ true)
        mark = and_parts r.mark.1 (clash (keys_of b) x.tuple x.sign r.tuple r.mark.0) least.clashing

        explicit_r : explicit b.stmts x.path r.tuple r.mark.0 ≡ true
        explicit_r = least.one (IsSaid b.stmts x.path) said mark.0

        at : ClashesAt (keys_of b) b.stmts x.path x.tuple x.sign (said_by x r)
        at =
            let y = explicit_statement b.stmts x.path r.tuple r.mark.0 explicit_r in
            let same : y.0 ≡ said_by x r = same_stmt y.0 (said_by x r) y.2 y.3 y.4 in
            (subst (λ z. list_any (same_statement z) b.stmts ≡ true) same y.1, refl, mark.1)
          where
            made : List ℕ → Sign → Tuple → Stmt
            made w g u = record { path = w; sign = g; tuple = u }

            same_stmt : (y z : Stmt) → y.path ≡ z.path → y.tuple ≡ z.tuple → y.sign ≡ z.sign → y ≡ z
            same_stmt y z e f g = ap (λ w. made w y.sign y.tuple) e ∙ ap (λ k. made z.path k y.tuple) g ∙ ap (λ u. made z.path z.sign u) f

        by : (o : Option Stmt) → clash_of b x ≡ o → clash_of b x ≡ Some (said_by x r)
        by None f = absurd ((no_least_clash (key_lengths b.catalog.rels) b.stmts x.path x.tuple x.sign).0 f (said_by x r) at)
        by (Some z) f =
            let l = least_clash_is_least (key_lengths b.catalog.rels) b.stmts valid.stmts.sorted x.path x.tuple x.sign z f in
            let here : ClashesAt (keys_of b) b.stmts x.path x.tuple x.sign z = l.0 in
            let q = clashing_row (IsNotBelow (keys_of b) x r) least.least z here in
            let above : is_lt (tuple_cmp z.tuple r.tuple) ≡ false = ap (λ u. is_lt (tuple_cmp u r.tuple)) (sym q.1) ∙ q.3 q.2 in
            elim (l.1 (said_by x r) at) [
              | inl same ↦ f ∙ ap Some (sym same)
              | inr below ↦
                  let c = below_at z (said_by x r) here.1 above below in
                  let ez = statement_explicit b.stmts x.path z here.0 here.1 in
                  absurd (false≢true (sym (consistent x.path z.tuple r.tuple z.sign r.mark.0 ez explicit_r)
                  ∙ ap (λ u. clash (keys_of b) u z.sign r.tuple r.mark.0) c.0 ∙ signs_clash (keys_of b) r.tuple z.sign r.mark.0 c.1))
            ]

    own_here : list_any (is_own x) rows ≡ true → stands b.stmts x ≡ true
    own_here e = stands_is_explicit b.stmts x ∙ go rows said e
      where
        go : (rs : List StoredRow) → AllByRecursion (IsSaid b.stmts x.path) rs → list_any (is_own x) rs ≡ true → explicit b.stmts x.path x.tuple x.sign ≡ true
        go [] a f = absurd (false≢true f)
        go (r ∷ rs) a f = elim (or_cases (is_own x r) (list_any (is_own x) rs) f) [
          | inl o ↦
              let k = and_parts r.mark.1 (same_tuple r.tuple x.tuple && same_sign r.mark.0 x.sign) o in
              let l = and_parts (same_tuple r.tuple x.tuple) (same_sign r.mark.0 x.sign) k.1 in
              ap (λ u. explicit b.stmts x.path u x.sign) (sym ((same_tuple-Decides r.tuple x.tuple).0 l.0))
              ∙ ap (λ g. explicit b.stmts x.path r.tuple g) (sym ((same_sign-Decides r.mark.0 x.sign).0 l.1)) ∙ a.0 k.0
          | inr o ↦ go rs a.1 o
        ]

    none_own : list_any (is_own x) rows ≡ false → stands b.stmts x ≡ false
    none_own e = false_from_ne_true (stands b.stmts x) (λ f.
        let r = found (λ q. is_own x q ≡ false) (all_false rows e) x.tuple x.sign (sym (stands_is_explicit b.stmts x) ∙ f) like_itself in
        let own : is_own x r.0 ≡ true = and_from r.0.mark.1 (same_tuple r.0.tuple x.tuple && same_sign r.0.mark.0 x.sign) (ap (λ (m : Sign × Bool). m.1) r.2)
        (and_from (same_tuple r.0.tuple x.tuple) (same_sign r.0.mark.0 x.sign) ((same_tuple-Decides r.0.tuple x.tuple).1 r.1)
        ((same_sign-Decides r.0.mark.0 x.sign).1 (ap (λ (m : Sign × Bool). m.0) r.2))) in
        false≢true (sym r.3 ∙ own))
      where
        all_false : (rs : List StoredRow) → list_any (is_own x) rs ≡ false → AllByRecursion (λ q. is_own x q ≡ false) rs
        all_false [] k = tt
        all_false (r ∷ rs) k = (
          false_from_ne_true (is_own x r) (λ h. false≢true (sym k ∙ or_left (is_own x r) (list_any (is_own x) rs) h)),
          all_false rs (false_from_ne_true (list_any (is_own x) rs) (λ h. false≢true (sym k ∙ or_right (is_own x r) (list_any (is_own x) rs) h))),
        )

  -- ---- where it is none

  module _ (short : p.len ≡ length x.path → ⊥) where
    no_rows : rows ≡ []
    no_rows = place.none short

    none_explicit : (v : Tuple) (g : Sign) → explicit b.stmts x.path v g ≡ false
    none_explicit v g =
        let w = reached.within in
        let n = state_behind (length x.path) (below p.len (length x.path) w short) (omega arith) in
        by x.path (ap (is_state b.stmts) (sym (take_all (length x.path) x.path (omega arith))) ∙ n)
      where
        below : (m n : ℕ) → m ≤ n → (m ≡ n → ⊥) → m < n
        below m n l d = elim (cases_lt m n) [ inl a ↦ a | inr a ↦ absurd (d (omega arith)) ]

        by : (w : List ℕ) → is_state b.stmts w ≡ false → explicit b.stmts w v g ≡ false
        by [] e = absurd cc
        by (i ∷ w) e = nothing_stands b.stmts i w (λ z. same_tuple z.tuple v && same_sign z.sign g) e

    none_there : clash_of b x ≡ None
    none_there = (no_least_clash (key_lengths b.catalog.rels) b.stmts x.path x.tuple x.sign).1 (λ y c.
        false≢true (sym (none_explicit y.tuple y.sign) ∙ statement_explicit b.stmts x.path y c.0 c.1))

    none_stands : stands b.stmts x ≡ false
    none_stands = stands_is_explicit b.stmts x ∙ none_explicit x.tuple x.sign

  -- ---- in any case

  full_or_short : (p.len ≡ length x.path) ⊎ (p.len ≡ length x.path → ⊥)
  full_or_short = elim (cases_Bool (nat_eq p.len (length x.path))) [
    | inl e ↦ inl (eqb-true p.len (length x.path) e)
    | inr e ↦ inr (λ d. false≢true (sym e ∙ eq-eqb p.len (length x.path) d))
  ]

  pub clash_found : (r : StoredRow) → least_row (λ _. p.key_len) x rows ≡ Some r → clash_of b x ≡ Some (said_by x r)
  clash_found r e = elim full_or_short [
    | inl f ↦ least_here f r (sym least_is_row ∙ e)
    | inr n ↦ absurd (none_and_some r (least_row (λ _. p.key_len) x rows) (ap (least_row (λ _. p.key_len) x) (no_rows n)) e)
  ]

  pub no_clash_found : least_row (λ _. p.key_len) x rows ≡ None → clash_of b x ≡ None
  no_clash_found e = elim full_or_short [ inl f ↦ none_here f (sym least_is_row ∙ e) | inr n ↦ none_there n ]

  pub standing_found : list_any (is_own x) rows ≡ true → stands b.stmts x ≡ true
  standing_found e = elim full_or_short [ inl f ↦ own_here f e | inr n ↦ absurd (false≢true (sym (ap (list_any (is_own x)) (no_rows n)) ∙ e)) ]

  pub none_standing : list_any (is_own x) rows ≡ false → stands b.stmts x ≡ false
  none_standing e = elim full_or_short [ inl f ↦ none_own f e | inr n ↦ none_stands n ]

  -- ---- sizes

  pub worlds_with : world_count (with_statement b.stmts x) ≡ world_count b.stmts + (length x.path - p.len)
  worlds_with =
      let e = put_counts_worlds b.stmts x in
      let f : length (new_states b.stmts x.path) ≡ length x.path - p.len = missing_behind (is_state b.stmts) x.path p.len reached.within state_front state_behind in
      omega arith

  told_is : has_tuple b.stmts x.tuple ≡ is_some p.tid
  told_is =
      list_any_same (λ z. same_tuple x.tuple z.tuple) (λ z. same_tuple z.tuple x.tuple) (λ z. same_tuple_turned x.tuple z.tuple) b.stmts
      ∙ sym (s.stored.tuples.stated x.tuple) ∙ ap is_some (sym (number_read b.stmts s.tuples t x.tuple p.tid s.stored.tuples place.fits place.number))

  pub tuples_with : tuple_count (with_statement b.stmts x) ≡ tuple_count b.stmts + cond (is_some p.tid) 0 1
  tuples_with = turned (cond (has_tuple b.stmts x.tuple) 0 1) (tuple_count b.stmts) (put_counts_tuple b.stmts x) ∙ ap (λ c. tuple_count b.stmts + cond c 0 1) told_is
    where
      turned : (m n : ℕ) {k : ℕ} → k ≡ m + n → k ≡ n + m
      turned m n e = omega arith

  pub stmts_with : stands b.stmts x ≡ false → length (with_statement b.stmts x) ≡ length b.stmts + 1
  stmts_with e = let f : length (with_statement b.stmts x) ≡ 1 + length b.stmts = put_counts_statement b.catalog b.stmts x valid ∙ ap (λ c. cond c 0 1 + length b.stmts) e in omega arith
