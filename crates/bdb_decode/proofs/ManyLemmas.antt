-- A valid base has no more statements than it may have.
use Rattle.std.proofs.Common.{◌≡◌, ◌∙◌, ◌⊎◌, ℕ, ◌+◌, ◌<◌, ◌≤◌, Bool, true, false, cond, List, [], ◌∷◌, ◌++◌, length, map, Option, Some, None, refl, ap, sym, subst, inl, inr, arith}
use Rattle.std.specs.Bool.{Decides}
use Rattle.std.specs.List.{AllByRecursion, flat_map, list_all, list_any}
use Rattle.std.specs.declared.cmp.Ordering.TheVariants.{Less}
use Rattle.std.specs.Ordering.{is_le, is_lt, ordering_reverse}
use Rattle.std.specs.FinMap as tables
use Rattle.std.specs.FinMap.{find}
use Rattle.std.proofs.lemmas.Bool.{and_parts, false≢true, leb-true, or_cases, or_left}
use Rattle.std.proofs.lemmas.Cmp.{nat_list_cmp_total}
use Rattle.std.proofs.lemmas.List.Folds.{list_any-append}
use Rattle.bdb_base.specs.Bases.{Contents, IsValid, distinct_count, key_lengths}
use Rattle.bdb_base.specs.Limits.{most_statements}
use Rattle.bdb_base.specs.Same.{same_statement}
use Rattle.bdb_base.specs.SameLemmas.{same_statement-Decides}
use Rattle.bdb_base.specs.SortedSet.{ascending}
use Rattle.bdb_base.specs.declared.kinds.Stmt.{Stmt}
use Rattle.bdb_base.specs.declared.tuple.Tuple.{Tuple}
use Rattle.bdb_base.proofs.CountLemmas.{distinct_count-le, one_unless}
use Rattle.bdb_base.proofs.OptionLemmas.{one_there}
use Rattle.bdb_base.proofs.AllLemmas.{all_both}
use Rattle.bdb_keep.specs.Tables.{Tables, bytes_cmp}
use Rattle.bdb_key.specs.Rows.{mark_bytes}
use Rattle.bdb_tables.specs.Codec.{Codec, place}
use Rattle.bdb_tables.specs.InUse.{val_codec}
use Rattle.bdb_tables.specs.Names.{Names, number_of, path_of}
use Rattle.bdb_tables.specs.Rows.{HoldsRows, HoldsTuples, Tuples}
use Rattle.bdb_tables.specs.Spans.{HasNextUnder, IsUnder, entry_bytes, entry_cmp}
use Rattle.bdb_tables.specs.Stored.{StoredAs}
use Rattle.bdb_tables.proofs.SpanLemmas.{Covers}
use Rattle.bdb_tables.proofs.MarkLemmas.{mark_is}
use Rattle.bdb_val.specs.Settling.{row_key}
use Rattle.bdb_val.proofs.HeldLemmas.{held, right_row}
use Rattle.bdb_val.proofs.WorldLemmas.{mark_tells}
use Rattle.bdb_decode.specs.Explicit.{Paths, TupleRows, ValRow, is_placed, said, said_by}
use Rattle.bdb_decode.specs.ExplicitLaws.{AreNamedWorlds}
use Rattle.bdb_decode.specs.Items.{item_of}
use Rattle.bdb_decode.specs.Many.{HaveTooMany, IsRowThere}
use Rattle.bdb_entries.proofs.ListedLemmas.{all_found}
use Rattle.bdb_decode.proofs.OnceLemmas.{none_later}
use Rattle.bdb_decode.proofs.RowLemmas.{SaidBelow, said_more}
use Rattle.bdb_decode.proofs.SaidLemmas.{makes_tells, placed_tells}

-- ---- rows that are read one after the other

-- they are in the table
covers_found : {Key Row : Type 0} (c : Codec Key Row) (t : Tables) (low : List ℕ) (es : List (Key × Row)) → Covers c t [] low es
    → AllByRecursion (λ e. tables.get t (place c e.0) ≡ Some (c.row_bytes e.1)) es
covers_found {Key} {Row} c t low es h = there es h.below (all_found c es h.sorted)
  where
    under : (k : List ℕ) → bytes_cmp k low ≡ Less → is_le (bytes_cmp low k) ≡ false
    under k e = ap is_le (nat_list_cmp_total.antisymm low k ∙ ap ordering_reverse e)

    there : (ds : List (Key × Row)) → AllByRecursion (λ e. bytes_cmp (c.key_bytes e.0) low ≡ Less) ds
        → AllByRecursion (λ e. find bytes_cmp (c.key_bytes e.0) (map (entry_bytes c) es) ≡ Some (c.row_bytes e.1)) ds
        → AllByRecursion (λ e. tables.get t (place c e.0) ≡ Some (c.row_bytes e.1)) ds
    there [] b f = tt
    there (d ∷ ds) b f = (h.found (c.key_bytes d.0) refl (under (c.key_bytes d.0) b.0) ∙ f.0, there ds b.1 f.1)

-- one more makes them too many
pub said_many : (keys : ℕ → ℕ) (worlds : Paths) (tuples : TupleRows) (t u : Tables) (low behind : List ℕ) (found : Option ValRow) (e : ValRow) (stmts next : List Stmt) (ok : Bool) → u ≡ t → found ≡ Some e
    → ok ≡ true → ok ≡ is_placed keys worlds tuples e → (ok ≡ true → next ≡ stmts ++ said worlds tuples e)
    → SaidBelow keys worlds tuples t low stmts → HasNextUnder val_codec u [] low behind found → most_statements < length next → HaveTooMany keys t worlds tuples
said_many keys worlds tuples t u low behind found e stmts next ok same is own placed more h under many =
    let s = said_more keys worlds tuples t u low behind found e stmts next ok same is own placed more h under in
    record {
      rows = s.rows;
      there = all_both (IsUnder val_codec []) (λ (d : ValRow). tables.get t (place val_codec d.0) ≡ Some (mark_bytes d.1)) (IsRowThere t) s.rows
          (λ d v f. record { fits = v.key; found = f }) s.covers.each (covers_found val_codec t behind s.rows s.covers);
      sorted = s.covers.sorted;
      placed = s.placed;
      many = subst (λ (xs : List Stmt). most_statements < length xs) s.said many;
    }

-- ---- no two rows make the same statement

abbrev same_as : Stmt → Stmt → Bool
same_as a b = same_statement b a

same_as-Decides : (a b : Stmt) → Decides (same_as a b) (a ≡ b)
same_as-Decides a b = (λ e. sym ((same_statement-Decides b a).0 e), λ e. (same_statement-Decides b a).1 (sym e))

count_within : {X : Type 0} (same : X → X → Bool) (xs : List X) → distinct_count same xs ≤ length xs
count_within same [] = omega arith
count_within {X} same (x ∷ xs) = by (list_any (same x) xs) (count_within same xs)
  where
    by : (b : Bool) → distinct_count same xs ≤ length xs → one_unless b + distinct_count same xs ≤ length (x ∷ xs)
    by true le = omega arith
    by false le = omega arith

-- a row makes one statement at most
said_one : (p : Option (List ℕ)) (o : Option Tuple) (e : ValRow) → (said_by p o e ≡ []) ⊎ ((x : Stmt) × (said_by p o e ≡ x ∷ []))
said_one None o e = inl refl
said_one (Some w) None e = inl refl
said_one (Some w) (Some u) e = by e.1.1 (record { path = w; sign = e.1.0; tuple = u })
  where
    by : (b : Bool) (y : Stmt) → (cond b (y ∷ []) [] ≡ []) ⊎ ((x : Stmt) × (cond b (y ∷ []) [] ≡ x ∷ []))
    by false y = inl refl
    by true y = inr (y, refl)

module _ (keys : ℕ → ℕ) (worlds : Paths) (tuples : TupleRows) (one : (a b : ℕ) (w : List ℕ) → item_of worlds a ≡ Some w → item_of worlds b ≡ Some w → a ≡ b)
    (once : (a b : ℕ) (u : Tuple) → item_of tuples a ≡ Some u → item_of tuples b ≡ Some u → a ≡ b) where
  made_apart : (rows : List ValRow) → list_all (is_placed keys worlds tuples) rows ≡ true → ascending (entry_cmp val_codec) rows ≡ true
      → distinct_count same_as (flat_map (said worlds tuples) rows) ≡ length (flat_map (said worlds tuples) rows)
  made_apart [] q l = refl
  made_apart (e ∷ es) q l =
      let j = and_parts (is_placed keys worlds tuples e) (list_all (is_placed keys worlds tuples) es) q in
      let k = and_parts (list_all (λ y. is_lt (entry_cmp val_codec e y)) es) (ascending (entry_cmp val_codec) es) l in
      let rest = flat_map (said worlds tuples) es in
      let ih = made_apart es j.1 k.1 in
      elim (said_one (item_of worlds e.0.0) (item_of tuples e.0.3) e) [
        | inl n ↦ ap (λ (xs : List Stmt). distinct_count same_as (xs ++ rest)) n ∙ ih ∙ sym (ap (λ (xs : List Stmt). length (xs ++ rest)) n)
        | inr m ↦
            let x = m.0 in
            let makes : list_any (λ (h : Stmt). same_statement h x) (said worlds tuples e) ≡ true =
            ap (list_any (λ (h : Stmt). same_statement h x)) m.1 ∙ or_left (same_statement x x) false ((same_statement-Decides x x).1 refl) in
            let other : list_any (same_as x) rest ≡ false = none_later keys worlds tuples one once x e es j.0 makes j.1 k.0 in
            let here : one_unless (list_any (same_as x) rest) ≡ 1 = ap one_unless other in
            let first : distinct_count same_as (said worlds tuples e ++ rest) ≡ one_unless (list_any (same_as x) rest) + distinct_count same_as rest =
            ap (λ (xs : List Stmt). distinct_count same_as (xs ++ rest)) m.1 in
            let long : length (said worlds tuples e ++ rest) ≡ length (x ∷ rest) = ap (λ (xs : List Stmt). length (xs ++ rest)) m.1 in
            omega (arith, here, first, long, ih)
      ]

-- ---- they are statements of the base

module _ (keys : ℕ → ℕ) (stmts : List Stmt) (ns : Names) (ts : Tuples) (t : Tables) (worlds : Paths) (tuples : TupleRows)
    (paths : (n : ℕ) → path_of ns n ≡ item_of worlds n) (named : (n : ℕ) → ts.tuple n ≡ item_of tuples n) (h : HoldsTuples stmts ts t)
    (r : HoldsRows keys stmts (path_of ns) ts.tuple t) where
  row_is_stated : (x : Stmt) (e : ValRow) → IsRowThere t e → is_placed keys worlds tuples e ≡ true → list_any (same_as x) (said worlds tuples e) ≡ true → list_any (same_as x) stmts ≡ true
  row_is_stated x e there placed makes =
      let m = makes_tells worlds tuples x.path x.tuple x.sign e makes in
      let p = placed_tells keys worlds tuples e placed in
      let own : p.tuple ≡ x.tuple = one_there p.tuple x.tuple (item_of tuples e.0.3) p.tuple_is m.tuple in
      let key : row_key keys e.0.0 e.0.3 x.tuple ≡ e.0 = ap (λ (y : Tuple). row_key keys e.0.0 e.0.3 y) (sym own) ∙ p.key in
      let row = mark_is (held keys stmts stmts ns ts t h e.0) e.1 (sym (r.rows e.0 there.fits) ∙ there.found) in
      let mark = ap (held keys stmts stmts ns ts t h) key ∙ row ∙ ap Some m.mark in
      sym (mark_tells keys stmts x.path x.tuple (x.sign, true)
      (sym (right_row keys stmts stmts ns ts t h e.0.0 x.path e.0.3 x.tuple (paths e.0.0 ∙ m.path) (named e.0.3 ∙ m.tuple)) ∙ mark)).1

  rows_are_stated : (rows : List ValRow) → AllByRecursion (IsRowThere t) rows → list_all (is_placed keys worlds tuples) rows ≡ true
      → (x : Stmt) → list_any (same_as x) (flat_map (said worlds tuples) rows) ≡ true → list_any (same_as x) stmts ≡ true
  rows_are_stated [] there placed x e = absurd (false≢true e)
  rows_are_stated (d ∷ rows) there placed x e =
      let k = and_parts (is_placed keys worlds tuples d) (list_all (is_placed keys worlds tuples) rows) placed in
      elim (or_cases (list_any (same_as x) (said worlds tuples d)) (list_any (same_as x) (flat_map (said worlds tuples) rows))
      (sym (list_any-append (same_as x) (said worlds tuples d) (flat_map (said worlds tuples) rows)) ∙ e)) [
        | inl a ↦ row_is_stated x d there.0 k.0 a
        | inr a ↦ rows_are_stated rows there.1 k.1 x a
      ]

-- a valid base that tables store under these names has not too many statements
pub not_too_many : (b : Contents) (ns : Names) (ts : Tuples) (t : Tables) (worlds : Paths) (tuples : TupleRows) → StoredAs ns ts t b → IsValid b.catalog b.stmts → AreNamedWorlds worlds ns
    → ((n : ℕ) → ts.tuple n ≡ item_of tuples n) → HaveTooMany (key_lengths b.catalog.rels) t worlds tuples → ⊥
not_too_many b ns ts t worlds tuples s v paths named h =
    let xs = flat_map (said worlds tuples) h.rows in
    let apart = made_apart (key_lengths b.catalog.rels) worlds tuples
    (λ a b w x y. one_there a b (number_of ns w) (paths.names.named a w (paths.paths a ∙ x)) (paths.names.named b w (paths.paths b ∙ y)))
    (λ a b u x y. one_there a b (ts.number u) (s.tuples.named a u (named a ∙ x)) (s.tuples.named b u (named b ∙ y))) h.rows h.placed h.sorted in
    let less = distinct_count-le same_as same_as-Decides xs b.stmts (rows_are_stated (key_lengths b.catalog.rels) b.stmts ns ts t worlds tuples paths.paths named s.tuples s.rows h.rows h.there h.placed) in
    let within = count_within same_as b.stmts in
    let few = leb-true (length b.stmts) most_statements v.stmts.few_stmts in
    let many = h.many in
    omega (arith, apart, less, within, few, many)
