-- The worlds of a valid base are within its limits.
use Rattle.std.proofs.Common.{◌≡◌, ◌∙◌, ℕ, suc, ◌+◌, ◌<◌, ◌≤◌, true, false, nat_le, List, [], ◌∷◌, ◌++◌, length, map, Option, Some, None, is_some, refl, ap, sym, subst, inl, inr, arith}
use Rattle.std.specs.List.{list_all, list_any, AllByRecursion}
use Rattle.std.specs.Ordering.{is_lt, nat_cmp}
use Rattle.std.proofs.lemmas.Bool.{and_parts, and_from, or_cases, leb-true, le-leb, false≢true}
use Rattle.std.proofs.lemmas.List.{length-append}
use Rattle.std.proofs.lemmas.List.Folds.{list_all-append}
use Rattle.bdb_base.specs.Alternation.{alternates}
use Rattle.bdb_base.specs.Bases.{Contents, belongs, is_user, world_count}
use Rattle.bdb_base.specs.Limits.{deepest_statement, most_worlds}
use Rattle.bdb_base.specs.Segments.{is_prefix}
use Rattle.bdb_base.specs.SortedSet.{ascending}
use Rattle.bdb_base.specs.States.{is_state}
use Rattle.bdb_base.specs.declared.kinds.Catalog.{Catalog}
use Rattle.bdb_base.specs.declared.kinds.Stmt.{Stmt}
use Rattle.bdb_base.proofs.BaseLemmas.{belongs_parts}
use Rattle.bdb_base.proofs.SegmentLemmas.{length-prefix}
use Rattle.bdb_base.specs.Causes.{is_listed}
use Rattle.bdb_catalog.specs.Bases.{StoresValid}
use Rattle.bdb_keep.specs.Tables.{Tables}
use Rattle.bdb_key.proofs.Readings.{all_push}
use Rattle.bdb_names.proofs.NameLemmas.{path_is_named}
use Rattle.bdb_tables.specs.InUse.{depth_codec}
use Rattle.bdb_tables.specs.InUseLaws.{numbers_in_order}
use Rattle.bdb_tables.specs.Names.{Names}
use Rattle.bdb_tables.specs.Raw.{IsForeignFrom}
use Rattle.bdb_tables.specs.Spans.{HasNextUnder, IsNextUnder, IsUnder, entry_cmp}
use Rattle.bdb_tables.specs.States.{HoldsStates}
use Rattle.bdb_tables.proofs.SpanLemmas.{Covers, covers_none, rows_end, rows_more}
use Rattle.bdb_update.proofs.CountLemmas.{numbers_are_counted}
use Rattle.bdb_decode.specs.Limits.{AreWithinLimits, is_shallow}
use Rattle.bdb_decode.specs.Parts.{StoreNone}
use Rattle.bdb_graph.specs.Ups.{HasDepth}
use Rattle.bdb_entries.proofs.ReadLemmas.{foreign_misfits}
use Rattle.bdb_graph.proofs.UpLemmas.{path_deep}
use Rattle.bdb_graph.proofs.WorldLemmas.{no_more, once_of}

-- ---- what a valid base tells of its worlds

-- a front of a statement's path is no deeper than such a path may be
fronts_are_short : (c : Catalog) (xs : List Stmt) (w : List ℕ) → list_all (belongs c) xs ≡ true → list_any (λ (x : Stmt). is_prefix w x.path) xs ≡ true → length w ≤ deepest_statement
fronts_are_short c [] w h e = absurd (false≢true e)
fronts_are_short c (x ∷ xs) w h e =
    let k = and_parts (belongs c x) (list_all (belongs c) xs) h in
    elim (or_cases (is_prefix w x.path) (list_any (λ (y : Stmt). is_prefix w y.path) xs) e) [
      | inl p ↦
          let short = leb-true (length x.path) deepest_statement (and_parts (alternates x.path) (nat_le (length x.path) deepest_statement) (belongs_parts c x k.0).path).1 in
          let front = length-prefix w x.path p in
          omega (arith, short, front)
      | inr p ↦ fronts_are_short c xs w k.1 p
    ]

states_are_short : (c : Catalog) (xs : List Stmt) (w : List ℕ) → list_all (belongs c) xs ≡ true → is_state xs w ≡ true → length w ≤ deepest_statement
states_are_short c xs [] h e = omega arith
states_are_short c xs (i ∷ w) h e = fronts_are_short c xs (i ∷ w) h e

-- rows in order have different numbers
numbers_ascend : (es : List (ℕ × ℕ)) → AllByRecursion (IsUnder depth_codec []) es → ascending (entry_cmp depth_codec) es ≡ true → ascending nat_cmp (map (λ (e : ℕ × ℕ). e.0) es) ≡ true
numbers_ascend [] u a = refl
numbers_ascend (e ∷ es) u a =
    let k = and_parts (list_all (λ y. is_lt (entry_cmp depth_codec e y)) es) (ascending (entry_cmp depth_codec) es) a in
    and_from (list_all (λ n. is_lt (nat_cmp e.0 n)) (map (λ (d : ℕ × ℕ). d.0) es)) (ascending nat_cmp (map (λ (d : ℕ × ℕ). d.0) es)) (later es u.1 k.0) (numbers_ascend es u.1 k.1)
  where
    later : (ys : List (ℕ × ℕ)) → AllByRecursion (IsUnder depth_codec []) ys → list_all (λ y. is_lt (entry_cmp depth_codec e y)) ys ≡ true
        → list_all (λ n. is_lt (nat_cmp e.0 n)) (map (λ (d : ℕ × ℕ). d.0) ys) ≡ true
    later [] v l = refl
    later (y ∷ ys) v l =
        let p = and_parts (is_lt (entry_cmp depth_codec e y)) (list_all (λ z. is_lt (entry_cmp depth_codec e z)) ys) l in
        and_from (is_lt (nat_cmp e.0 y.0)) (list_all (λ n. is_lt (nat_cmp e.0 n)) (map (λ (d : ℕ × ℕ). d.0) ys)) (ap is_lt (sym (numbers_in_order e.0 y.0 u.0.key v.0.key)) ∙ p.0) (later ys v.1 p.1)

many_numbers : (es : List (ℕ × ℕ)) → length (map (λ (e : ℕ × ℕ). e.0) es) ≡ length es
many_numbers [] = refl
many_numbers (e ∷ es) = ap suc (many_numbers es)

module _ (t : Tables) (b : Contents) (s : StoresValid t b) where
  abbrev ns : Names
  ns = s.stored.names

  states : HoldsStates (is_user b.catalog.users) s.stored.names t
  states = s.stored.stored.states

  -- each world is shallow
  worlds_are_shallow : (n d : ℕ) → HasDepth t n d → d ≤ deepest_statement
  worlds_are_shallow n d has =
      let deep = path_deep t (is_user b.catalog.users) ns states n d has in
      let state : is_state b.stmts deep.0 ≡ true = sym (s.stored.stored.worlds deep.0) ∙ path_is_named ns states.names n deep.0 deep.1 in
      let short = states_are_short b.catalog b.stmts deep.0 s.valid.stmts.belong state in
      let long = deep.2 in
      omega (arith, short, long)

  all_used : (es : List (ℕ × ℕ)) → AllByRecursion (λ (e : ℕ × ℕ). HasDepth t e.0 e.1) es → list_all (λ n. is_listed n s.stored.names.used) (map (λ (e : ℕ × ℕ). e.0) es) ≡ true
  all_used [] d = refl
  all_used (e ∷ es) d =
      let deep = path_deep t (is_user b.catalog.users) ns states e.0 e.1 d.0 in
      and_from (is_listed e.0 s.stored.names.used) (list_all (λ n. is_listed n s.stored.names.used) (map (λ (x : ℕ × ℕ). x.0) es)) (states.names.counted e.0 ∙ ap is_some deep.1) (all_used es d.1)

  -- different worlds are few
  worlds_are_few : (es : List (ℕ × ℕ)) → AllByRecursion (IsUnder depth_codec []) es → ascending (entry_cmp depth_codec) es ≡ true → AllByRecursion (λ (e : ℕ × ℕ). HasDepth t e.0 e.1) es
      → length es ≤ most_worlds
  worlds_are_few es each sorted deep =
      let less = no_more (map (λ (e : ℕ × ℕ). e.0) es) ns.used (once_of (map (λ (e : ℕ × ℕ). e.0) es) (numbers_ascend es each sorted)) (all_used es deep) in
      let same = many_numbers es in
      let used = numbers_are_counted ns states.names b.stmts s.stored.stored.worlds in
      let few = leb-true (world_count b.stmts) most_worlds s.valid.stmts.few_worlds in
      omega (arith, less, same, used, few)

-- ---- rows that are read one after the other

-- so many rows lie below some bytes, and their worlds are shallow
pub record AreShallowBelow (t : Tables) (low : List ℕ) (many : ℕ) : Type 0 where
  pub rows : List (ℕ × ℕ)
  pub covers : Covers depth_codec t [] low rows
  pub deep : AllByRecursion (λ (e : ℕ × ℕ). HasDepth t e.0 e.1) rows
  pub counted : length rows ≡ many
  pub shallow : list_all is_shallow rows ≡ true

pub shallow_none : (t : Tables) (low : List ℕ) (many : ℕ) → low ≡ [] → many ≡ 0 → AreShallowBelow t low many
shallow_none t low many e n =
    subst (λ l. AreShallowBelow t l many) (sym e) (record { rows = []; covers = covers_none depth_codec t [] [] refl; deep = tt; counted = sym n; shallow = refl })

-- a row that is read is one of the table
next_row : (t u : Tables) (low behind : List ℕ) (found : Option (ℕ × ℕ)) (e : ℕ × ℕ) → u ≡ t → found ≡ Some e → HasNextUnder depth_codec u [] low behind found → HasDepth t e.0 e.1
next_row t u low behind found e same is next =
    let n : IsNextUnder depth_codec t [] low behind e = subst (λ v. IsNextUnder depth_codec v [] low behind e) same (subst (HasNextUnder depth_codec u [] low behind) is next) in
    record { number = n.under.key; size = n.under.row; found = n.least.found }

pub shallow_more : (t u : Tables) (low behind : List ℕ) (many : ℕ) (found : Option (ℕ × ℕ)) (e : ℕ × ℕ) → u ≡ t → found ≡ Some e → is_shallow e ≡ true
    → AreShallowBelow t low many → HasNextUnder depth_codec u [] low behind found → AreShallowBelow t behind (many + 1)
shallow_more t u low behind many found e same is shallow h next = record {
  rows = h.rows ++ e ∷ [];
  covers = rows_more depth_codec t u [] low behind h.rows found e same is h.covers next;
  deep = all_push (λ (x : ℕ × ℕ). HasDepth t x.0 x.1) h.rows e h.deep (next_row t u low behind found e same is next);
  counted = length-append h.rows (e ∷ []) ∙ ap (λ n. n + 1) h.counted;
  shallow = list_all-append is_shallow h.rows (e ∷ []) ∙ and_from (list_all is_shallow h.rows) (list_all is_shallow (e ∷ [])) h.shallow (and_from (is_shallow e) true shallow refl);
}

-- all rows are read
pub within_limits : (t u : Tables) (low behind : List ℕ) (many : ℕ) (found : Option (ℕ × ℕ)) → u ≡ t → found ≡ None → many ≤ most_worlds
    → AreShallowBelow t low many → HasNextUnder depth_codec u [] low behind found → AreWithinLimits t
within_limits t u low behind many found same is few h next = record {
  depths = h.rows;
  under = rows_end depth_codec t u [] low behind h.rows found same is h.covers next;
  few = let counted = h.counted in omega (arith, few, counted);
  shallow = h.shallow;
}

-- ---- tables that store no valid base

pub too_deep : (t u : Tables) (low behind : List ℕ) (found : Option (ℕ × ℕ)) (e : ℕ × ℕ) → u ≡ t → found ≡ Some e → is_shallow e ≡ false → HasNextUnder depth_codec u [] low behind found → StoreNone t
too_deep t u low behind found e same is deep next =
    λ b s. false≢true (sym deep ∙ le-leb e.1 deepest_statement (worlds_are_shallow t b s e.0 e.1 (next_row t u low behind found e same is next)))

pub too_many : (t : Tables) (low : List ℕ) (many : ℕ) → most_worlds < many → AreShallowBelow t low many → StoreNone t
too_many t low many more h = λ b s.
    let few = worlds_are_few t b s h.rows h.covers.each h.covers.sorted h.deep in
    let counted = h.counted in
    absurd (omega (arith, more, few, counted))

pub foreign_stores_none : (t u : Tables) (low : List ℕ) → u ≡ t → IsForeignFrom depth_codec u low → StoreNone t
foreign_stores_none t u low same f = λ b s. foreign_misfits depth_codec t low (subst (λ v. IsForeignFrom depth_codec v low) same f) s.stored.stored.states.tables.depth.fits
