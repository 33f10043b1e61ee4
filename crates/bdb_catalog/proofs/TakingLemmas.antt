-- The statements of the tuples that are read of a path's world are those that are taken.
use Rattle.std.proofs.Common.{◌≡◌, ◌∙◌, ◌⊎◌, ℕ, ◌+◌, ◌-◌, ◌^◌, ◌<◌, ◌≤◌, Bool, true, false, ◌&&◌, ◌||◌, nat_eq, cond, List, [], ◌∷◌, ◌++◌, length, map, filter, Option, Some, None, MatchOption, refl, ap, sym, subst, arith, inl, inr}
use Rattle.std.specs.List.{list_all, list_any, slice_get, AllByRecursion}
use Rattle.std.specs.Ordering.{is_eq}
use Rattle.std.proofs.lemmas.Bool.{cases_Bool, and_parts, and_from, or_cases, or_left, or_right, false≢true}
use Rattle.bdb_base.specs.Bases.{Contents, IsValid, fits_definition, fits_relation, is_user, is_valid_relation, key_at, key_lengths, stands, is_written}
use Rattle.bdb_base.specs.Causes.{RoseBy}
use Rattle.bdb_base.specs.Changes.{is_taken, taken_by}
use Rattle.bdb_base.specs.Conditions.{meets}
use Rattle.bdb_base.specs.Order.{statement_cmp}
use Rattle.bdb_base.specs.OrderLemmas.{statement_exact}
use Rattle.bdb_base.specs.Same.{same_path, same_sign, same_tuple}
use Rattle.bdb_base.specs.SameLemmas.{same_path-Decides, same_sign-Decides, same_tuple-Decides, statement_of}
use Rattle.bdb_base.specs.SortedSet.{ascending, put_in, put_all}
use Rattle.bdb_base.specs.States.{is_state}
use Rattle.bdb_base.specs.WorldRows.{world_of}
use Rattle.bdb_base.specs.Worlds.{explicit}
use Rattle.bdb_base.specs.declared.kinds.Cond.{Cond}
use Rattle.bdb_base.specs.declared.kinds.RelDef.{RelDef}
use Rattle.bdb_base.specs.declared.kinds.Sign.{Sign}
use Rattle.bdb_base.specs.declared.kinds.Stmt.{Stmt}
use Rattle.bdb_base.specs.declared.kinds.Value.{Value}
use Rattle.bdb_base.specs.declared.tuple.Tuple.{Tuple}
use Rattle.bdb_base.proofs.ListLemmas.{filter_kept_one, filter_dropped_one, list_all_get}
use Rattle.bdb_base.proofs.SetLemmas.{is_eq-Equal, is_eq_itself, filter_keeps_order, members_make_set, put_all_is_ascending, list_any-put_all}
use Rattle.bdb_base.proofs.WorldLemmas.{explicit_tuple, stands_is_explicit}
use Rattle.bdb_base.proofs.BoolLemmas.{same_tests}
use Rattle.bdb_base.proofs.OptionLemmas.{some_of}
use Rattle.bdb_base.proofs.BaseLemmas.{as_many_values, stated_fits}
use Rattle.bdb_keep.specs.Seen.{Seen}
use Rattle.bdb_keep.specs.Tables.{Tables}
use Rattle.bdb_key.specs.Grammar.{IsNum, ArePlain}
use Rattle.bdb_key.specs.Rows.{IsTupleRow}
use Rattle.bdb_paths.proofs.SuffixLemmas.{deepest_of_member}
use Rattle.bdb_tables.specs.InUse.{val_codec}
use Rattle.bdb_tables.specs.Lengths.{IsKeyLength}
use Rattle.bdb_tables.specs.Names.{Names, path_of, number_of, is_named}
use Rattle.bdb_tables.specs.Rows.{Tuples, AreKeyLengths}
use Rattle.bdb_tables.specs.Spans.{AreUnder}
use Rattle.bdb_tables.specs.Stored.{StoredAs}
use Rattle.bdb_tables.specs.Prefixes.{key_prefix}
use Rattle.bdb_tables.proofs.Fitting.{relation_row}
use Rattle.bdb_update.proofs.KeyLemmas.{lengths_fit}
use Rattle.bdb_update.proofs.OneStored.{consistent}
use Rattle.bdb_update.specs.Keys.{keys_of}
use Rattle.bdb_val.specs.Reads.{IsSpan}
use Rattle.bdb_worlds.specs.Bounds.{EndsWithin}
use Rattle.bdb_catalog.specs.Bases.{HasUsers}
use Rattle.bdb_catalog.specs.Showing.{FindsState, IsStateOf}
use Rattle.bdb_catalog.specs.Taking.{AreTuplesRead, AreTuplesOf, is_asked, is_said, rows_asked, rows_said, statements_of, values_asked}
use Rattle.bdb_catalog.proofs.AskingLemmas.{meets_asked, asked_rel, asked_span, few_asked, none_meets}
use Rattle.bdb_catalog.proofs.RowLemmas.{tuples_are_stated, stated_are_read, rows_within, tuples_within, as_many}
use Rattle.bdb_catalog.proofs.ShowingLemmas.{nothing_explicit}

spread : (a b c : Bool) → ((a && c) || (b && c)) ≡ ((a || b) && c)
spread true b true = refl
spread true true false = refl
spread true false false = refl
spread false b c = refl

-- ---- what stands among those that pass a test

passes_here : (q : Stmt → Bool) (y x : Stmt) → cond (q y) (is_eq (statement_cmp y x)) false ≡ (is_eq (statement_cmp y x) && q x)
passes_here q y x = elim (cases_Bool (is_eq (statement_cmp y x))) [
  | inl e ↦
      let same : y ≡ x = statement_exact.exact y x (is_eq-Equal (statement_cmp y x) e) in
      ap (λ b. cond (q y) b false) e ∙ either (q y) ∙ ap q same ∙ sym (ap (λ b. b && q x) e)
  | inr e ↦ ap (λ b. cond (q y) b false) e ∙ neither (q y) ∙ sym (ap (λ b. b && q x) e)
]
  where
    either : (b : Bool) → cond b true false ≡ b
    either true = refl
    either false = refl

    neither : (b : Bool) → cond b false false ≡ false
    neither true = refl
    neither false = refl

filtered_stands : (q : Stmt → Bool) (xs : List Stmt) (x : Stmt) → stands (filter q xs) x ≡ (stands xs x && q x)
filtered_stands q [] x = refl
filtered_stands q (y ∷ ys) x =
    let here = is_eq (statement_cmp y x) in
    let rest = filtered_stands q ys x in
    step (q y) refl ∙ ap (λ b. b || stands (filter q ys) x) (passes_here q y x) ∙ ap (λ b. (here && q x) || b) rest ∙ spread here (stands ys x) (q x)
  where
    step : (b : Bool) → q y ≡ b → stands (filter q (y ∷ ys)) x ≡ (cond (q y) (is_eq (statement_cmp y x)) false || stands (filter q ys) x)
    step true e = ap (λ zs. stands zs x) (filter_kept_one q y ys e) ∙ sym (ap (λ c. cond c (is_eq (statement_cmp y x)) false || stands (filter q ys) x) e)
    step false e = ap (λ zs. stands zs x) (filter_dropped_one q y ys e) ∙ sym (ap (λ c. cond c (is_eq (statement_cmp y x)) false || stands (filter q ys) x) e)

-- ---- statements of tuples

stmt_of : List ℕ → Sign → Tuple → Stmt
stmt_of p s t = record { path = p; sign = s; tuple = t }

put_all_more : (xs ys : List Stmt) (y : Stmt) → put_all statement_cmp xs (ys ++ y ∷ []) ≡ put_in statement_cmp (put_all statement_cmp xs ys) y
put_all_more xs [] y = refl
put_all_more xs (z ∷ ys) y = put_all_more (put_in statement_cmp xs z) ys y

module _ (w : List ℕ) (s : Sign) (conds : List Cond) where
  abbrev made : Tuple → Stmt
  made u = statement_of w s u

  made_more : (us : List Tuple) (u : Tuple) → map made (filter (meets conds) (us ++ u ∷ [])) ≡ map made (filter (meets conds) us) ++ map made (cond (meets conds u) (u ∷ []) [])
  made_more [] u = refl
  made_more (v ∷ us) u = by (meets conds v) (made_more us u)
    where
      by : (b : Bool) → map made (filter (meets conds) (us ++ u ∷ [])) ≡ map made (filter (meets conds) us) ++ map made (cond (meets conds u) (u ∷ []) [])
          → map made (cond b (v ∷ filter (meets conds) (us ++ u ∷ [])) (filter (meets conds) (us ++ u ∷ [])))
          ≡ map made (cond b (v ∷ filter (meets conds) us) (filter (meets conds) us)) ++ map made (cond (meets conds u) (u ∷ []) [])
      by true e = ap (λ xs. made v ∷ xs) e
      by false e = e

  append_nil : (xs : List Stmt) → xs ++ [] ≡ xs
  append_nil [] = refl
  append_nil (x ∷ xs) = ap (λ ys. x ∷ ys) (append_nil xs)

  -- a tuple more that meets all tests, and one that doesn't
  pub statements_more : (us : List Tuple) (u : Tuple) → meets conds u ≡ true → statements_of w s conds (us ++ u ∷ []) ≡ put_in statement_cmp (statements_of w s conds us) (made u)
  statements_more us u m =
      ap (put_all statement_cmp []) (made_more us u ∙ ap (λ b. map made (filter (meets conds) us) ++ map made (cond b (u ∷ []) [])) m)
      ∙ put_all_more [] (map made (filter (meets conds) us)) (made u)

  pub statements_still : (us : List Tuple) (u : Tuple) → meets conds u ≡ false → statements_of w s conds (us ++ u ∷ []) ≡ statements_of w s conds us
  statements_still us u m =
      ap (put_all statement_cmp [])
      (made_more us u ∙ ap (λ b. map made (filter (meets conds) us) ++ map made (cond b (u ∷ []) [])) m ∙ append_nil (map made (filter (meets conds) us)))

  pub statements_ascend : (us : List Tuple) → ascending statement_cmp (statements_of w s conds us) ≡ true
  statements_ascend us = put_all_is_ascending statement_exact [] (map made (filter (meets conds) us)) refl

-- ---- they are those that are taken

module _ (stmts : List Stmt) (w : List ℕ) (s : Sign) (rel : ℕ) (conds : List Cond) (us : List Tuple)
    (each : AllByRecursion (λ u. (explicit stmts w u s ≡ true) × (nat_eq u.rel rel ≡ true)) us)
    (all : (u : Tuple) → explicit stmts w u s ≡ true → nat_eq u.rel rel ≡ true → meets conds u ≡ true → list_any (same_tuple u) us ≡ true) where
  abbrev of_path : Tuple → Stmt
  of_path u = statement_of w s u

  abbrev IsSaid : Tuple → Type 0
  IsSaid u = (explicit stmts w u s ≡ true) × (nat_eq u.rel rel ≡ true)

  abbrev among : Stmt → List Stmt → Bool
  among y xs = list_any (λ z. is_eq (statement_cmp z y)) xs

  abbrev stands_taken : Stmt → Bool
  stands_taken y = stands stmts y && is_taken w s rel conds y

  taken_here : (u : Tuple) → nat_eq u.rel rel ≡ true → meets conds u ≡ true → is_taken w s rel conds (of_path u) ≡ true
  taken_here u r m = and_from (same_path w w) (same_sign s s && (nat_eq u.rel rel && meets conds u)) ((same_path-Decides w w).1 refl)
      (and_from (same_sign s s) (nat_eq u.rel rel && meets conds u) ((same_sign-Decides s s).1 refl) (and_from (nat_eq u.rel rel) (meets conds u) r m))

  made_taken : (vs : List Tuple) → AllByRecursion IsSaid vs → (y : Stmt) → among y (map of_path (filter (meets conds) vs)) ≡ true → stands_taken y ≡ true
  made_taken [] a y e = absurd (false≢true e)
  made_taken (u ∷ vs) a y e = by (meets conds u) refl e (λ k. made_taken vs a.1 y k)
    where
      by : (b : Bool) → meets conds u ≡ b → among y (map of_path (cond b (u ∷ filter (meets conds) vs) (filter (meets conds) vs))) ≡ true
          → (among y (map of_path (filter (meets conds) vs)) ≡ true → stands_taken y ≡ true) → stands_taken y ≡ true
      by true m e rest = elim (or_cases (is_eq (statement_cmp (of_path u) y)) (among y (map of_path (filter (meets conds) vs))) e) [
        | inl k ↦
            let same : of_path u ≡ y = statement_exact.exact (of_path u) y (is_eq-Equal (statement_cmp (of_path u) y) k) in
            subst (λ (z : Stmt). stands_taken z ≡ true) same
            (and_from (stands stmts (of_path u)) (is_taken w s rel conds (of_path u)) (stands_is_explicit stmts (of_path u) ∙ a.0.0) (taken_here u a.0.1 m))
        | inr k ↦ rest k
      ]
      by false m e rest = rest e

  in_made : (vs : List Tuple) (u : Tuple) → meets conds u ≡ true → list_any (same_tuple u) vs ≡ true → among (of_path u) (map of_path (filter (meets conds) vs)) ≡ true
  in_made [] u m e = absurd (false≢true e)
  in_made (v ∷ vs) u m e = by (meets conds v) refl (or_cases (same_tuple u v) (list_any (same_tuple u) vs) e) (λ k. in_made vs u m k)
    where
      by : (b : Bool) → meets conds v ≡ b → (same_tuple u v ≡ true) ⊎ (list_any (same_tuple u) vs ≡ true) → (list_any (same_tuple u) vs ≡ true → among (of_path u) (map of_path (filter (meets conds) vs)) ≡ true)
          → among (of_path u) (map of_path (cond b (v ∷ filter (meets conds) vs) (filter (meets conds) vs))) ≡ true
      by true c (inl k) rest =
          let same : v ≡ u = sym ((same_tuple-Decides u v).0 k) in
          or_left (is_eq (statement_cmp (of_path v) (of_path u))) (among (of_path u) (map of_path (filter (meets conds) vs)))
          (ap (λ x. is_eq (statement_cmp (of_path x) (of_path u))) same ∙ is_eq_itself statement_exact (of_path u))
      by true c (inr k) rest = or_right (is_eq (statement_cmp (of_path v) (of_path u))) (among (of_path u) (map of_path (filter (meets conds) vs))) (rest k)
      by false c (inl k) rest = absurd (false≢true (sym c ∙ ap (meets conds) (sym ((same_tuple-Decides u v).0 k)) ∙ m))
      by false c (inr k) rest = rest k

  taken_made : (y : Stmt) → stands_taken y ≡ true → among y (map of_path (filter (meets conds) us)) ≡ true
  unfolding stmt_of
  taken_made y e =
      let p = and_parts (stands stmts y) (is_taken w s rel conds y) e in
      let q = and_parts (same_path y.path w) (same_sign y.sign s && (nat_eq y.tuple.rel rel && meets conds y.tuple)) p.1 in
      let r = and_parts (same_sign y.sign s) (nat_eq y.tuple.rel rel && meets conds y.tuple) q.1 in
      let m = and_parts (nat_eq y.tuple.rel rel) (meets conds y.tuple) r.1 in
      let path : w ≡ y.path = sym ((same_path-Decides y.path w).0 q.0) in
      let sign : s ≡ y.sign = sym ((same_sign-Decides y.sign s).0 r.0) in
      let said : explicit stmts w y.tuple s ≡ true =
      ap (λ v. explicit stmts v y.tuple s) path ∙ ap (λ g. explicit stmts y.path y.tuple g) sign ∙ sym (stands_is_explicit stmts y) ∙ p.0 in
      let is : of_path y.tuple ≡ y = ap (λ v. stmt_of v s y.tuple) path ∙ ap (λ g. stmt_of y.path g y.tuple) sign in
      subst (λ (z : Stmt). among z (map of_path (filter (meets conds) us)) ≡ true) is (in_made us y.tuple m.1 (all y.tuple said m.0 m.1))

  pub statements_are_taken : ascending statement_cmp stmts ≡ true → statements_of w s conds us ≡ taken_by w s rel conds stmts
  statements_are_taken up =
      members_make_set statement_exact (statements_of w s conds us) (taken_by w s rel conds stmts)
      (put_all_is_ascending statement_exact [] (map of_path (filter (meets conds) us)) refl)
      (filter_keeps_order statement_exact (is_taken w s rel conds) stmts up)
      (λ y. list_any-put_all statement_exact (λ z. is_eq (statement_cmp z y)) [] (map of_path (filter (meets conds) us))
      ∙ same_tests (among y (map of_path (filter (meets conds) us))) (stands_taken y) (made_taken us each y) (taken_made y)
      ∙ sym (filtered_stands (is_taken w s rel conds) stmts y))

-- ---- keys

-- and a tuple that fits its relation has all of its key
whole_key : (b : Contents) → IsValid b.catalog b.stmts → (u : Tuple) → fits_relation b.catalog.rels u ≡ true → keys_of b u.rel ≤ length u.vals
whole_key b valid u fits = by (slice_get b.catalog.rels u.rel) refl fits
  where
    enough : (n m k : ℕ) → n ≤ m → k ≡ m → n ≤ k
    enough n m k l e = omega (arith, l, e)

    by : (o : Option RelDef) → slice_get b.catalog.rels u.rel ≡ o → fits_definition o u.vals ≡ true → key_at o ≤ length u.vals
    by None e h = absurd (false≢true h)
    by (Some def) e h =
        let row = relation_row def (list_all_get is_valid_relation b.catalog.rels u.rel def valid.catalog.rels_valid e) in
        enough def.key (length def.cols) (length u.vals) row.key.1 (as_many_values def.cols u.vals h)

-- ---- what is read

pub one_read_more : (d a b c : ℕ) → EndsWithin (d + 1) a b → RoseBy 1 b c → EndsWithin (d + 2) a c
one_read_more d a b c within one below = let low : b < 2 ^ 64 - 1 = omega arith in let e = within low in omega arith

reads_all : (d r u n m a b c : ℕ) → b ≤ c → EndsWithin (d + 2) a b → c ≤ b + (n + m + 1) → n ≤ r → m ≤ u → EndsWithin (d + r + u + 3) a c
reads_all d r u n m a b c le first more few fewer below = let e = first (omega arith) in omega arith

module _ (t : Tables) (w : List ℕ) (wid : ℕ) (own : Bool) (state : FindsState t w (wid, own)) (s : Sign) (rel : ℕ) (conds : List Cond) (b : Contents) (has : HasUsers t w b) where
  abbrev ns : Names
  ns = has.base.stored.names

  abbrev ts : Tuples
  ts = has.base.stored.tuples

  stored : StoredAs ns ts t b
  stored = has.base.stored.stored

  is : IsStateOf (record { users = is_user b.catalog.users; names = ns }) w (wid, own)
  is = state (record { users = is_user b.catalog.users; names = ns }) stored.states has.own

  -- a path that is no state has no statements
  pub none_at_paths : own ≡ false → [] ≡ taken_by w s rel conds b.stmts
  none_at_paths other =
      let out : is_state b.stmts w ≡ false = sym (stored.worlds w) ∙ sym is.own ∙ other in
      statements_are_taken b.stmts w s rel conds [] tt (λ u x r m. absurd (false≢true (sym (nothing_explicit b.stmts w u s out) ∙ x))) has.base.valid.stmts.sorted

  -- the tuple of a statement may be written
  stated_row : (u : Tuple) → explicit b.stmts w u s ≡ true → IsTupleRow u
  stated_row u x =
      let number = some_of (ts.number u) (stored.tuples.stated u ∙ explicit_tuple b.stmts w u s x) in
      let named = stored.tuples.numbered u number.0 number.1 in
      subst (λ o. MatchOption o (Unit {0}) IsTupleRow) named (stored.tuples.tuples.written number.0 (stored.tuples.sized number.0 u named))

  -- nor has any with a value that no tuple has
  pub none_with_values : (n : ℕ) → list_all is_written (values_asked conds n) ≡ false → [] ≡ taken_by w s rel conds b.stmts
  none_with_values n out = statements_are_taken b.stmts w s rel conds [] tt none has.base.valid.stmts.sorted
    where
      none : (u : Tuple) → explicit b.stmts w u s ≡ true → nat_eq u.rel rel ≡ true → meets conds u ≡ true → list_any (same_tuple u) [] ≡ true
      none u x r m = absurd (none_meets conds n u (stated_row u x) out m)

  module _ (yes : own ≡ true) (nr : IsNum rel) (n : ℕ) (long : IsKeyLength t rel n) (old new : Seen) (same : old.kept ≡ t) (us : List Tuple)
      (plain : ArePlain (values_asked conds n)) (read : AreTuplesRead old new (key_prefix n wid rel (values_asked conds n)) s us) where
    lengths : AreKeyLengths (keys_of b)
    lengths = lengths_fit t b.catalog.rels stored.rels

    abbrev vs : List Value
    vs = values_asked conds (keys_of b rel)

    are_plain : ArePlain vs
    are_plain = subst (λ k. ArePlain (values_asked conds k)) (long b.catalog.rels stored.rels) plain

    was_read : AreTuplesRead old new (key_prefix (keys_of b rel) wid rel vs) s us
    was_read = subst (λ k. AreTuplesRead old new (key_prefix k wid rel (values_asked conds k)) s us) (long b.catalog.rels stored.rels) read

    number : number_of ns w ≡ Some wid
    number = ap (number_of ns) (sym (deepest_of_member (is_named ns) w (sym is.own ∙ yes))) ∙ is.number

    path : path_of ns wid ≡ Some w
    path = stored.states.names.numbered w wid number

    small : IsNum wid
    small = stored.states.names.sized w wid number

    span : IsSpan (keys_of b) wid (is_asked (keys_of b) rel vs) (key_prefix (keys_of b rel) wid rel vs)
    span = asked_span (keys_of b) lengths wid rel vs small nr (few_asked conds (keys_of b rel)) are_plain

    under : AreUnder val_codec t (key_prefix (keys_of b rel) wid rel vs) was_read.rows
    under = subst (λ u. AreUnder val_codec u (key_prefix (keys_of b rel) wid rel vs) was_read.rows) same was_read.under

    told : AreTuplesOf t (filter (is_said s) was_read.rows) us
    told = subst (λ u. AreTuplesOf u (filter (is_said s) was_read.rows) us) same was_read.told

    of_rel : (xs : List Tuple) → AllByRecursion (λ u. (explicit b.stmts w u s ≡ true) × (is_asked (keys_of b) rel vs u ≡ true)) xs
        → AllByRecursion (λ u. (explicit b.stmts w u s ≡ true) × (nat_eq u.rel rel ≡ true)) xs
    of_rel [] a = tt
    of_rel (u ∷ xs) a = ((a.0.0, asked_rel (keys_of b) rel vs u a.0.1), of_rel xs a.1)

    pub read_are_taken : statements_of w s conds us ≡ taken_by w s rel conds b.stmts
    read_are_taken =
        statements_are_taken b.stmts w s rel conds us
        (of_rel us (tuples_are_stated (keys_of b) b.stmts ns ts t lengths (consistent b has.base.valid) stored.tuples stored.rows wid small w path s (is_asked (keys_of b) rel vs)
        (key_prefix (keys_of b rel) wid rel vs) span was_read.rows us under told))
        (λ u x r m. stated_are_read (keys_of b) b.stmts ns ts t lengths (consistent b has.base.valid) stored.tuples stored.rows wid small w path s (is_asked (keys_of b) rel vs)
        (key_prefix (keys_of b rel) wid rel vs) span was_read.rows us under told u x (meets_asked (keys_of b) conds rel u (whole_key b has.base.valid u (stated_fits b.catalog b.stmts u has.base.valid.stmts.belong (explicit_tuple b.stmts w u s x))) r m))
        has.base.valid.stmts.sorted

    few_rows : length was_read.rows ≤ length (rows_asked (key_lengths b.catalog.rels) rel conds (world_of (key_lengths b.catalog.rels) b.stmts w))
    few_rows = rows_within (keys_of b) b.stmts ns ts t lengths (consistent b has.base.valid) stored.tuples stored.rows wid small w path s (is_asked (keys_of b) rel vs)
        (key_prefix (keys_of b rel) wid rel vs) span was_read.rows under

    few_tuples : length us ≤ length (rows_said (key_lengths b.catalog.rels) s rel conds (world_of (key_lengths b.catalog.rels) b.stmts w))
    few_tuples =
        let within = tuples_within (keys_of b) b.stmts ns ts t lengths (consistent b has.base.valid) stored.tuples stored.rows wid small w path s (is_asked (keys_of b) rel vs)
        (key_prefix (keys_of b rel) wid rel vs) span was_read.rows us under told in
        subst (λ n. n ≤ length (rows_said (key_lengths b.catalog.rels) s rel conds (world_of (key_lengths b.catalog.rels) b.stmts w))) (sym (as_many t (filter (is_said s) was_read.rows) us told)) within

    pub reads_are_few : (a : ℕ) → old.reads ≤ new.reads → EndsWithin (length w + 2) a old.reads
        → EndsWithin (length w + length (rows_asked (key_lengths b.catalog.rels) rel conds (world_of (key_lengths b.catalog.rels) b.stmts w))
        + length (rows_said (key_lengths b.catalog.rels) s rel conds (world_of (key_lengths b.catalog.rels) b.stmts w)) + 3) a new.reads
    reads_are_few a le first =
        reads_all (length w) (length (rows_asked (key_lengths b.catalog.rels) rel conds (world_of (key_lengths b.catalog.rels) b.stmts w)))
        (length (rows_said (key_lengths b.catalog.rels) s rel conds (world_of (key_lengths b.catalog.rels) b.stmts w))) (length was_read.rows) (length us) a old.reads new.reads le first was_read.reads few_rows few_tuples
