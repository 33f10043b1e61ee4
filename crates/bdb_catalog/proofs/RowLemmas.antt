-- The rows that are read of a world under a beginning of their keys, and the tuples of those that are explicit with a sign.
use Rattle.std.proofs.Common.{◌≡◌, ◌∙◌, ◌⊎◌, ℕ, suc, ◌+◌, ◌≤◌, Bool, true, false, ◌&&◌, cond, List, [], ◌∷◌, ◌++◌, ◌<◌, length, map, filter, take, get_or, Option, Some, is_some, inl, inr, refl, ap, sym, subst, arith}
use Rattle.std.specs.List.{list_any, list_all, AllByRecursion}
use Rattle.std.specs.Option.{option_map}
use Rattle.std.specs.Ordering.{is_eq, is_lt, eq_by_cmp}
use Rattle.std.specs.FinMap as tables
use Rattle.std.proofs.lemmas.Bool.{and_parts, and_from, or_cases, or_left, or_right, or_from, cond-true, cond-false, false≢true, false_from_ne_true}
use Rattle.std.proofs.lemmas.List.{take_more}
use Rattle.bdb_base.specs.Bases.{distinct_count}
use Rattle.bdb_base.specs.Same.{same_tuple, same_sign}
use Rattle.bdb_base.specs.SameLemmas.{same_tuple-Decides, same_sign-Decides}
use Rattle.bdb_base.specs.Segments.{is_prefix}
use Rattle.bdb_base.specs.SortedSet.{ascending}
use Rattle.bdb_base.specs.WorldRows.{world_of, has_row, same_row}
use Rattle.bdb_base.specs.Worlds.{explicit, IsConsistent}
use Rattle.bdb_base.specs.declared.kinds.Held.{Held}
use Rattle.bdb_base.specs.declared.kinds.Sign.{Sign}
use Rattle.bdb_base.specs.declared.kinds.Stmt.{Stmt}
use Rattle.bdb_base.specs.declared.tuple.Tuple.{Tuple}
use Rattle.bdb_base.proofs.CountLemmas.{one_unless, distinct_count-le, count_within}
use Rattle.bdb_base.proofs.ListLemmas.{list_all-filter, filter_push, length_map}
use Rattle.bdb_base.proofs.WorldLemmas.{explicit_tuple, explicit_is_stated}
use Rattle.bdb_base.proofs.WorldRowsLemmas.{rows_are_the_world, same_row_tells}
use Rattle.bdb_base.proofs.OptionLemmas.{some_of, none_is_some, one_there}
use Rattle.bdb_base.proofs.AllLemmas.{all_filter}
use Rattle.bdb_keep.specs.Tables.{Tables, bytes_cmp}
use Rattle.bdb_keep.proofs.RowsLemmas.{same_place}
use Rattle.bdb_key.specs.Grammar.{IsNum}
use Rattle.bdb_key.specs.Rows.{mark_bytes, tuple_bytes}
use Rattle.bdb_key.proofs.Forms.{tied}
use Rattle.bdb_tables.specs.Codec.{HasRow, place}
use Rattle.bdb_tables.specs.InUse.{ValKey, IsValKey, val_bytes, tuple_codec, val_codec}
use Rattle.bdb_tables.specs.InUseLaws.{vals_are_one}
use Rattle.bdb_tables.specs.Marks.{Mark, mark_of}
use Rattle.bdb_tables.specs.Names.{Names, path_of}
use Rattle.bdb_tables.specs.Rows.{Tuples, HoldsTuples, HoldsRows, row_for, AreKeyLengths}
use Rattle.bdb_tables.specs.Spans.{AreUnder, IsUnder, entry_cmp}
use Rattle.bdb_tables.proofs.ListLemmas.{all_pass}
use Rattle.bdb_tables.proofs.MarkLemmas.{mark_is}
use Rattle.bdb_val.specs.Reads.{HasRows, IsSpan}
use Rattle.bdb_val.specs.Settling.{row_key}
use Rattle.bdb_val.proofs.HeldLemmas.{held_names, right_row}
use Rattle.bdb_val.proofs.ReadLemmas.{rows_at, one_number, tuple_named, tuple_row, key_fits}
use Rattle.bdb_val.proofs.WorldLemmas.{mark_tells, mark_has}
use Rattle.bdb_val.proofs.CopyLemmas.{not_below_itself}
use Rattle.bdb_catalog.specs.Taking.{is_said, AreTuplesOf}

abbrev pub Entry : Type 0
Entry = ValKey × Mark

-- ---- lists

abbrev above : Entry → List Entry → Bool
above e es = list_all (λ y. is_lt (entry_cmp val_codec e y)) es

up_filter : (p : Entry → Bool) (es : List Entry) → ascending (entry_cmp val_codec) es ≡ true → ascending (entry_cmp val_codec) (filter p es) ≡ true
up_filter p [] up = refl
up_filter p (e ∷ es) up =
    let k = and_parts (above e es) (ascending (entry_cmp val_codec) es) up in
    by (list_all-filter (λ y. is_lt (entry_cmp val_codec e y)) p es k.0) (up_filter p es k.1) (p e)
  where
    by : above e (filter p es) ≡ true → ascending (entry_cmp val_codec) (filter p es) ≡ true → (b : Bool) → ascending (entry_cmp val_codec) (cond b (e ∷ filter p es) (filter p es)) ≡ true
    by a rest true = and_from (above e (filter p es)) (ascending (entry_cmp val_codec) (filter p es)) a rest
    by a rest false = rest

-- ---- each row is found where it stands

abbrev IsFoundIn : List Entry → Entry → Type 0
IsFoundIn es e = rows_at es (val_bytes e.0) ≡ Some (mark_bytes e.1)

found_later : (e : Entry) (all ds : List Entry) → above e ds ≡ true → AllByRecursion (IsFoundIn all) ds → AllByRecursion (IsFoundIn (e ∷ all)) ds
found_later e all [] up h = tt
found_later e all (d ∷ ds) up h =
    let k = and_parts (is_lt (entry_cmp val_codec e d)) (above e ds) up in (
      cond-false (eq_by_cmp bytes_cmp (val_bytes d.0) (val_bytes e.0)) (Some (mark_bytes e.1)) (rows_at all (val_bytes d.0))
          (false_from_ne_true (eq_by_cmp bytes_cmp (val_bytes d.0) (val_bytes e.0)) (λ c.
          not_below_itself (val_bytes e.0) (ap (λ q. is_lt (bytes_cmp (val_bytes e.0) q)) (sym (same_place (val_bytes d.0) (val_bytes e.0) c)) ∙ k.0)))
          ∙ h.0,
      found_later e all ds k.1 h.1,
    )

found_each : (es : List Entry) → ascending (entry_cmp val_codec) es ≡ true → AllByRecursion (IsFoundIn es) es
found_each [] up = tt
found_each (e ∷ es) up =
    let k = and_parts (above e es) (ascending (entry_cmp val_codec) es) up in (
      cond-true (eq_by_cmp bytes_cmp (val_bytes e.0) (val_bytes e.0)) (Some (mark_bytes e.1)) (rows_at es (val_bytes e.0)) (ap is_eq (tied (val_bytes e.0) (val_bytes e.0) refl)),
      found_later e es es k.0 (found_each es k.1),
    )

-- a row's key is in the grammar, and the table has the row
abbrev pub IsThere : Tables → Entry → Type 0
IsThere t e = IsValKey e.0 × (tables.get t (place val_codec e.0) ≡ Some (mark_bytes e.1))

pub rows_are_there : (t : Tables) (prefix : List ℕ) (es : List Entry) → AreUnder val_codec t prefix es → AllByRecursion (IsThere t) es
rows_are_there t prefix es a = go es a.each (found_each es a.sorted)
  where
    go : (ds : List Entry) → AllByRecursion (IsUnder val_codec prefix) ds → AllByRecursion (IsFoundIn es) ds → AllByRecursion (IsThere t) ds
    go [] b c = tt
    go (d ∷ ds) b c = ((b.0.key, a.found (val_bytes d.0) b.0.begins ∙ c.0), go ds b.1 c.1)

-- ---- rows of a world

abbrev pub held_of : Tuple → Mark → Held
held_of u m = record { tuple = u; sign = m.0; explicit = m.1 }

abbrev held_tuple : Held → Tuple
held_tuple g = g.tuple

row_is : (g h : Held) → same_row g h ≡ true → g ≡ h
row_is g h e =
    let k = same_row_tells g h e in
    ap (λ (t : Tuple). held_of t (g.sign, g.explicit)) k.0 ∙ ap (λ (s : Sign). held_of h.tuple (s, g.explicit)) k.1 ∙ ap (λ (c : Bool). held_of h.tuple (h.sign, c)) k.2

-- a row that passes a test has its tuple among those of the rows that do
passed : (q : Held → Bool) (rows : List Held) (g : Held) → has_row rows g ≡ true → q g ≡ true → list_any (same_tuple g.tuple) (map held_tuple (filter q rows)) ≡ true
passed q [] g e p = absurd (false≢true e)
passed q (h ∷ rows) g e p = by (q h) refl (or_cases (same_row g h) (has_row rows g) e) (λ k. passed q rows g k p)
  where
    by : (b : Bool) → q h ≡ b → (same_row g h ≡ true) ⊎ (has_row rows g ≡ true) → (has_row rows g ≡ true → list_any (same_tuple g.tuple) (map held_tuple (filter q rows)) ≡ true)
        → list_any (same_tuple g.tuple) (map held_tuple (cond b (h ∷ filter q rows) (filter q rows))) ≡ true
    by true c (inl k) rest = or_left (same_tuple g.tuple h.tuple) (list_any (same_tuple g.tuple) (map held_tuple (filter q rows))) ((same_tuple-Decides g.tuple h.tuple).1 (ap held_tuple (row_is g h k)))
    by true c (inr k) rest = or_right (same_tuple g.tuple h.tuple) (list_any (same_tuple g.tuple) (map held_tuple (filter q rows))) (rest k)
    by false c (inl k) rest = absurd (false≢true (sym c ∙ ap q (sym (row_is g h k)) ∙ p))
    by false c (inr k) rest = rest k

among_all : (vs us : List Tuple) → AllByRecursion (λ u. list_any (same_tuple u) vs ≡ true) us → (y : Tuple) → list_any (same_tuple y) us ≡ true → list_any (same_tuple y) vs ≡ true
among_all vs [] h y e = absurd (false≢true e)
among_all vs (u ∷ us) h y e = elim (or_cases (same_tuple y u) (list_any (same_tuple y) us) e) [
  | inl k ↦ ap (λ x. list_any (same_tuple x) vs) ((same_tuple-Decides y u).0 k) ∙ h.0
  | inr k ↦ among_all vs us h.1 y k
]

module _ (keys : ℕ → ℕ) (stmts : List Stmt) (ns : Names) (ts : Tuples) (t : Tables) (lengths : AreKeyLengths keys) (consistent : IsConsistent keys stmts) (h : HoldsTuples stmts ts t) (r : HoldsRows keys stmts (path_of ns) ts.tuple t)
    (wid : ℕ) (n : IsNum wid) (w : List ℕ) (path : path_of ns wid ≡ Some w) (s : Sign) (test : Tuple → Bool) (prefix : List ℕ) (span : IsSpan keys wid test prefix) where
  abbrev f : ValKey → Option Mark
  f = row_for keys stmts (path_of ns) ts.tuple

  rows : HasRows keys ts.tuple f t
  rows = record { lengths = lengths; tuples = h.tuples; rows = r; sized = h.sized; keyed = λ k v i. (held_names keys stmts stmts ns ts t h k i).1 }

  -- a row is that of a named tuple that passes the test, with the mark that the world gives it
  record IsOf (e : Entry) : Type 0 where
    u : Tuple
    named : ts.tuple e.0.3 ≡ Some u
    key : row_key keys wid e.0.3 u ≡ e.0
    mark : mark_of keys stmts w u ≡ Some e.1
    passes : test u ≡ true

  one_is : (e : Entry) → IsUnder val_codec prefix e → tables.get t (place val_codec e.0) ≡ Some (mark_bytes e.1) → IsOf e
  one_is e a found =
      let g : f e.0 ≡ Some e.1 = mark_is (f e.0) e.1 (sym (r.rows e.0 a.key) ∙ found) in
      let k = rows.keyed e.0 a.key (ap is_some g) in
      let key : row_key keys wid e.0.3 k.0 ≡ e.0 = ap (λ x. row_key keys x e.0.3 k.0) (sym (span.world e.0 a.key a.begins)) ∙ k.2 in
      record {
        u = k.0;
        named = k.1;
        key = key;
        mark = sym (right_row keys stmts stmts ns ts t h wid w e.0.3 k.0 path k.1) ∙ ap f key ∙ g;
        passes = span.inside e.0.3 k.0 (tuple_row keys ts.tuple f t rows e.0.3 k.0 k.1) (ap (λ (z : ValKey). is_prefix prefix (val_bytes z)) key ∙ a.begins);
      }

  all_are : (es : List Entry) → AreUnder val_codec t prefix es → AllByRecursion IsOf es
  all_are es a = go es a.each (rows_are_there t prefix es a)
    where
      go : (ds : List Entry) → AllByRecursion (IsUnder val_codec prefix) ds → AllByRecursion (IsThere t) ds → AllByRecursion IsOf ds
      go [] b c = tt
      go (d ∷ ds) b c = (one_is d b.0 c.0.1, go ds b.1 c.1)

  -- the tuple that was read of a row
  told_named : (e : Entry) (k : IsOf e) (z : Tuple) → HasRow tuple_codec t e.0.3 z → ts.tuple e.0.3 ≡ Some z
  told_named e k z row = tuple_named keys ts.tuple f t rows e.0.3 z (h.sized e.0.3 k.u k.named) row

  told_is : (e : Entry) (k : IsOf e) (z : Tuple) → HasRow tuple_codec t e.0.3 z → z ≡ k.u
  told_is e k z row = one_number ts.tuple e.0.3 e.0.3 z k.u (told_named e k z row) k.named refl

  -- ---- tuples of rows that are explicit with the sign are stated

  abbrev IsStated : Tuple → Type 0
  IsStated u = (explicit stmts w u s ≡ true) × (test u ≡ true)

  each_stated : (es : List Entry) (us : List Tuple) → AllByRecursion IsOf es → AllByRecursion (λ e. is_said s e ≡ true) es → AreTuplesOf t es us → AllByRecursion IsStated us
  each_stated [] [] a b c = tt
  each_stated [] (z ∷ us) a b c = absurd c
  each_stated (e ∷ es) [] a b c = absurd c
  each_stated (e ∷ es) (z ∷ us) a b c =
      let k = a.0 in
      let m = mark_tells keys stmts w k.u e.1 k.mark in
      let p = and_parts e.1.1 (same_sign e.1.0 s) b.0 in
      let same = told_is e k z c.0 in (
        (
          ap (λ x. explicit stmts w x s) same ∙ ap (λ x. explicit stmts w k.u x) (sym ((same_sign-Decides e.1.0 s).0 p.1)) ∙ sym m.1 ∙ p.0,
          ap test same ∙ k.passes,
        ),
        each_stated es us a.1 b.1 c.1,
      )

  pub tuples_are_stated : (es : List Entry) (us : List Tuple) → AreUnder val_codec t prefix es → AreTuplesOf t (filter (is_said s) es) us → AllByRecursion IsStated us
  tuples_are_stated es us a c = each_stated (filter (is_said s) es) us (all_filter IsOf (is_said s) es (all_are es a)) (all_pass (is_said s) es) c

  -- ---- and all that are stated are among them

  module _ (u : Tuple) (tid : ℕ) (named : ts.tuple tid ≡ Some u) (fits : IsValKey (row_key keys wid tid u)) where
    abbrev key_bytes : List ℕ
    key_bytes = val_bytes (row_key keys wid tid u)

    is_read : (es : List Entry) (us : List Tuple) → AllByRecursion (IsUnder val_codec prefix) es → AllByRecursion IsOf es → AreTuplesOf t (filter (is_said s) es) us
        → rows_at es key_bytes ≡ Some (mark_bytes (s, true)) → list_any (same_tuple u) us ≡ true
    is_read [] us a k c found = absurd (none_is_some (mark_bytes (s, true)) found)
    is_read (e ∷ es) us a k c found =
        by (eq_by_cmp bytes_cmp key_bytes (val_bytes e.0)) refl (is_said s e) refl us c (λ vs d x. is_read es vs a.1 k.1 d x)
      where
        mark_same : (o : Option Mark) → o ≡ Some e.1 → option_map mark_bytes o ≡ Some (mark_bytes (s, true)) → e.1 ≡ (s, true)
        mark_same o x y = let l : Some e.1 ≡ Some (s, true) = sym x ∙ mark_is o (s, true) y in cc

        said : e.1 ≡ (s, true) → is_said s e ≡ true
        said x = ap (λ (m : Mark). m.1 && same_sign m.0 s) x ∙ (same_sign-Decides s s).1 refl

        here : eq_by_cmp bytes_cmp key_bytes (val_bytes e.0) ≡ true → (row_key keys wid tid u ≡ e.0) × (e.1 ≡ (s, true))
        here x = (
          vals_are_one (row_key keys wid tid u) e.0 fits a.0.key (same_place key_bytes (val_bytes e.0) x),
          mark_same (Some e.1) refl (sym (cond-true (eq_by_cmp bytes_cmp key_bytes (val_bytes e.0)) (Some (mark_bytes e.1)) (rows_at es key_bytes) x) ∙ found),
        )

        by : (b : Bool) → eq_by_cmp bytes_cmp key_bytes (val_bytes e.0) ≡ b → (c : Bool) → is_said s e ≡ c → (us : List Tuple) → AreTuplesOf t (cond c (e ∷ filter (is_said s) es) (filter (is_said s) es)) us
            → ((vs : List Tuple) → AreTuplesOf t (filter (is_said s) es) vs → rows_at es key_bytes ≡ Some (mark_bytes (s, true)) → list_any (same_tuple u) vs ≡ true) → list_any (same_tuple u) us ≡ true
        by b x true y [] d rest = absurd d
        by true x true y (z ∷ us) d rest =
            let same : u ≡ z = one_number ts.tuple tid e.0.3 u z named (told_named e k.0 z d.0) (ap (λ (q : ValKey). q.3) (here x).0) in
            or_left (same_tuple u z) (list_any (same_tuple u) us) ((same_tuple-Decides u z).1 same)
        by true x false y us d rest = absurd (false≢true (sym y ∙ said (here x).1))
        by false x true y (z ∷ us) d rest =
            or_right (same_tuple u z) (list_any (same_tuple u) us) (rest us d.1 (sym (cond-false (eq_by_cmp bytes_cmp key_bytes (val_bytes e.0)) (Some (mark_bytes e.1)) (rows_at es key_bytes) x) ∙ found))
        by false x false y us d rest = rest us d (sym (cond-false (eq_by_cmp bytes_cmp key_bytes (val_bytes e.0)) (Some (mark_bytes e.1)) (rows_at es key_bytes) x) ∙ found)

  pub stated_are_read : (es : List Entry) (us : List Tuple) → AreUnder val_codec t prefix es → AreTuplesOf t (filter (is_said s) es) us
      → (u : Tuple) → explicit stmts w u s ≡ true → test u ≡ true → list_any (same_tuple u) us ≡ true
  stated_are_read es us a c u e p =
      let number = some_of (ts.number u) (h.stated u ∙ explicit_tuple stmts w u s e) in
      let tid = number.0 in
      let named = h.numbered u tid number.1 in
      let fits = key_fits keys ts.tuple f t rows wid tid u n named in
      let mark : f (row_key keys wid tid u) ≡ Some (s, true) =
      right_row keys stmts stmts ns ts t h wid w tid u path named ∙ mark_has keys stmts w u s consistent (explicit_is_stated keys stmts w u s e) ∙ ap (λ (b : Bool). Some (s, b)) e in
      is_read u tid named fits es us a.each (all_are es a) c
      (sym (a.found (val_bytes (row_key keys wid tid u)) (span.begins tid u p)) ∙ r.rows (row_key keys wid tid u) fits ∙ ap (option_map mark_bytes) mark)

  -- ---- no more rows are read than the world has

  abbrev world : List Held
  world = world_of keys stmts w

  none_again : (d : Entry) (k : IsOf d) (x : Tuple) → ts.tuple d.0.3 ≡ Some x → (es : List Entry) (us : List Tuple) → AllByRecursion IsOf es → above d es ≡ true → AreTuplesOf t es us
      → list_any (same_tuple x) us ≡ false
  none_again d k x named [] [] a up c = refl
  none_again d k x named [] (z ∷ us) a up c = absurd c
  none_again d k x named (e ∷ es) [] a up c = absurd c
  none_again d k x named (e ∷ es) (z ∷ us) a up c =
      let p = and_parts (is_lt (entry_cmp val_codec d e)) (above d es) up in
      or_from (same_tuple x z) (list_any (same_tuple x) us)
      (false_from_ne_true (same_tuple x z) (λ i.
      let same : x ≡ z = (same_tuple-Decides x z).0 i in
      let number : d.0.3 ≡ e.0.3 = one_there d.0.3 e.0.3 (ts.number z) (ap ts.number (sym same) ∙ h.named d.0.3 x named) (h.named e.0.3 z (told_named e a.0 z c.0)) in
      let tuple : k.u ≡ a.0.u = one_number ts.tuple d.0.3 e.0.3 k.u a.0.u k.named a.0.named number in
      let key : d.0 ≡ e.0 = sym k.key ∙ ap (λ i. row_key keys wid i k.u) number ∙ ap (λ v. row_key keys wid e.0.3 v) tuple ∙ a.0.key in
      not_below_itself (val_bytes d.0) (ap (λ (q : ValKey). is_lt (bytes_cmp (val_bytes d.0) (val_bytes q))) key ∙ p.0)))
      (none_again d k x named es us a.1 p.1 c.1)

  tuples_differ : (es : List Entry) (us : List Tuple) → AllByRecursion IsOf es → ascending (entry_cmp val_codec) es ≡ true → AreTuplesOf t es us → distinct_count same_tuple us ≡ length es
  tuples_differ [] [] a up c = refl
  tuples_differ [] (z ∷ us) a up c = absurd c
  tuples_differ (e ∷ es) [] a up c = absurd c
  tuples_differ (e ∷ es) (z ∷ us) a up c =
      let p = and_parts (above e es) (ascending (entry_cmp val_codec) es) up in
      let one : one_unless (list_any (same_tuple z) us) ≡ 1 = ap one_unless (none_again e a.0 z (told_named e a.0 z c.0) es us a.1 p.0 c.1) in
      let rest = tuples_differ es us a.1 p.1 c.1 in
      omega (arith, one, rest)

  in_world : (q : Held → Bool) (es : List Entry) (us : List Tuple) → AllByRecursion IsOf es → AllByRecursion (λ e. (x : Tuple) → test x ≡ true → q (held_of x e.1) ≡ true) es → AreTuplesOf t es us
      → AllByRecursion (λ x. list_any (same_tuple x) (map held_tuple (filter q world)) ≡ true) us
  in_world q [] [] a b c = tt
  in_world q [] (z ∷ us) a b c = absurd c
  in_world q (e ∷ es) [] a b c = absurd c
  in_world q (e ∷ es) (z ∷ us) a b c =
      let k = a.0 in
      let g = held_of k.u e.1 in (
        ap (λ x. list_any (same_tuple x) (map held_tuple (filter q world))) (told_is e k z c.0)
            ∙ passed q world g ((rows_are_the_world keys stmts w g).1 (mark_tells keys stmts w k.u e.1 k.mark)) (b.0 k.u k.passes),
        in_world q es us a.1 b.1 c.1,
      )

  few : (q : Held → Bool) (es : List Entry) (us : List Tuple) → AllByRecursion IsOf es → ascending (entry_cmp val_codec) es ≡ true → AreTuplesOf t es us
      → AllByRecursion (λ e. (x : Tuple) → test x ≡ true → q (held_of x e.1) ≡ true) es → length es ≤ length (filter q world)
  few q es us a up c b =
      let vs = map held_tuple (filter q world) in
      let differ = tuples_differ es us a up c in
      let le = distinct_count-le same_tuple same_tuple-Decides us vs (among_all vs us (in_world q es us a b c)) in
      let within = count_within vs in
      let many : length vs ≡ length (filter q world) = length_map held_tuple (filter q world) in
      omega (arith, differ, le, within, many)

  all_tuples : (es : List Entry) → AllByRecursion IsOf es → (us : List Tuple) × AreTuplesOf t es us
  all_tuples [] a = ([], tt)
  all_tuples (e ∷ es) a =
      let k = a.0 in
      let rest = all_tuples es a.1 in (
        k.u ∷ rest.0,
        (
          record {
            in_grammar = tuple_row keys ts.tuple f t rows e.0.3 k.u k.named;
            found = h.tuples.rows e.0.3 (h.sized e.0.3 k.u k.named) ∙ ap (option_map tuple_bytes) k.named;
          },
          rest.1,
        ),
      )

  every : (es : List Entry) → AllByRecursion (λ e. (x : Tuple) → test x ≡ true → test (held_of x e.1).tuple ≡ true) es
  every [] = tt
  every (e ∷ es) = ((λ x p. p), every es)

  pub rows_within : (es : List Entry) → AreUnder val_codec t prefix es → length es ≤ length (filter (λ g. test g.tuple) world)
  rows_within es a =
      let all = all_are es a in
      let us = all_tuples es all in
      few (λ g. test g.tuple) es us.0 all a.sorted us.1 (every es)

  every_said : (es : List Entry) → AllByRecursion (λ e. is_said s e ≡ true) es → AllByRecursion (λ e. (x : Tuple) → test x ≡ true → (test x && is_said s e) ≡ true) es
  every_said [] b = tt
  every_said (e ∷ es) b = ((λ x p. and_from (test x) (is_said s e) p b.0), every_said es b.1)

  pub tuples_within : (es : List Entry) (us : List Tuple) → AreUnder val_codec t prefix es → AreTuplesOf t (filter (is_said s) es) us
      → length (filter (is_said s) es) ≤ length (filter (λ g. test g.tuple && (g.explicit && same_sign g.sign s)) world)
  tuples_within es us a c =
      few (λ g. test g.tuple && (g.explicit && same_sign g.sign s)) (filter (is_said s) es) us (all_filter IsOf (is_said s) es (all_are es a)) (up_filter (is_said s) es a.sorted) c
      (every_said (filter (is_said s) es) (all_pass (is_said s) es))

-- as many tuples as rows
pub as_many : (t : Tables) (es : List Entry) (us : List Tuple) → AreTuplesOf t es us → length us ≡ length es
as_many t [] [] c = refl
as_many t [] (u ∷ us) c = absurd c
as_many t (e ∷ es) [] c = absurd c
as_many t (e ∷ es) (u ∷ us) c = ap suc (as_many t es us c.1)

-- ---- the loop that reads

tuples_push : (t : Tables) (es : List Entry) (e : Entry) (us : List Tuple) (u : Tuple) → AreTuplesOf t es us → HasRow tuple_codec t e.0.3 u → AreTuplesOf t (es ++ e ∷ []) (us ++ u ∷ [])
tuples_push t [] e [] u c row = (row, tt)
tuples_push t [] e (v ∷ us) u c row = absurd c
tuples_push t (d ∷ es) e [] u c row = absurd c
tuples_push t (d ∷ es) e (v ∷ us) u c row = (c.0, tuples_push t es e us u c.1 row)

append_nil : (xs : List Entry) → xs ++ [] ≡ xs
append_nil [] = refl
append_nil (x ∷ xs) = ap (λ ys. x ∷ ys) (append_nil xs)

module _ (t : Tables) (s : Sign) (es : List Entry) (i : ℕ) (e : Entry) (us : List Tuple) (lt : i < length es) (is : e ≡ get_or es i e) (told : AreTuplesOf t (filter (is_said s) (take i es)) us) where
  more : filter (is_said s) (take (i + 1) es) ≡ filter (is_said s) (take i es) ++ cond (is_said s e) (e ∷ []) []
  more = ap (filter (is_said s)) (take_more es i e lt ∙ ap (λ y. take i es ++ y ∷ []) (sym is)) ∙ filter_push (is_said s) (take i es) e

  -- a row more that is explicit with the sign, and one that isn't
  pub told_more : (u : Tuple) → is_said s e ≡ true → HasRow tuple_codec t e.0.3 u → AreTuplesOf t (filter (is_said s) (take (i + 1) es)) (us ++ u ∷ [])
  told_more u said row =
      subst (λ ds. AreTuplesOf t ds (us ++ u ∷ [])) (sym (more ∙ ap (λ b. filter (is_said s) (take i es) ++ cond b (e ∷ []) []) said))
      (tuples_push t (filter (is_said s) (take i es)) e us u told row)

  pub told_still : is_said s e ≡ false → AreTuplesOf t (filter (is_said s) (take (i + 1) es)) us
  told_still said =
      subst (λ ds. AreTuplesOf t ds us)
      (sym (more ∙ ap (λ b. filter (is_said s) (take i es) ++ cond b (e ∷ []) []) said ∙ append_nil (filter (is_said s) (take i es)))) told
