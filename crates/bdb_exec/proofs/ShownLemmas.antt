-- Tables that have a base show it.
use Rattle.std.proofs.Common.{◌≡◌, ◌∙◌, ℕ, zero, suc, ◌+◌, ◌≤◌, ◌<◌, ◌^◌, lit<, Bool, true, false, not, ◌&&◌, cond, nat_eq, nat_lt, nat_le, List, [], ◌∷◌, ◌++◌, Option, Some, None, MatchOption, is_some, length, map, filter_map, refl, ap, sym, subst, inl, inr, arith}
use Rattle.std.specs.List.{list_any, list_all, AllByRecursion, slice_get}
use Rattle.std.specs.Option.{option_map, unwrap_or, option_and_then}
use Rattle.std.specs.Ordering.{is_lt, is_eq, eq_by_cmp, nat_cmp}
use Rattle.std.specs.FinMap as tables
use Rattle.std.specs.FinMap.{find}
use Rattle.std.proofs.lemmas.Bool.{and_parts, and_from, or_right, or_cases, cond-true, cond-false, false≢true, false_from_ne_true, eqb-true, eq-eqb, or_left}
use Rattle.std.proofs.lemmas.Bool.Decides.{nat_tests}
use Rattle.std.proofs.Math.Path.{fun_ext}
use Rattle.bdb_base.specs.Bases.{Contents, IsValid, fits_definition, is_plain, is_user, key_at, key_lengths, user_names}
use Rattle.bdb_base.specs.Clash.{key_of}
use Rattle.bdb_base.specs.Limits.{most_users}
use Rattle.bdb_base.specs.Queries.{columns_at}
use Rattle.bdb_base.specs.Same.{same_tuple, same_sign, same_values}
use Rattle.bdb_base.specs.SameLemmas.{same_tuple-Decides, same_sign-Decides, same_values-Decides}
use Rattle.bdb_base.specs.Segments.{is_prefix, is_suffix}
use Rattle.bdb_base.specs.SortedSet.{ascending}
use Rattle.bdb_base.specs.States.{is_state, edge_target}
use Rattle.bdb_base.specs.Worlds.{stated, explicit}
use Rattle.bdb_base.specs.declared.kinds.RelDef.{RelDef}
use Rattle.bdb_base.specs.declared.kinds.Sign.{Sign}
use Rattle.bdb_base.specs.declared.kinds.Sign.TheVariants.{Plus, Minus}
use Rattle.bdb_base.specs.declared.kinds.UserSlot.{UserSlot}
use Rattle.bdb_base.specs.declared.kinds.UserSlot.TheVariants.{Live, Gone}
use Rattle.bdb_base.specs.declared.kinds.Value.{Value}
use Rattle.bdb_base.specs.declared.tuple.Tuple.{Tuple}
use Rattle.bdb_base.proofs.WorldLemmas.{worlds_are_consistent, valid_is_consistent, stated_tuples_are_explicit}
use Rattle.bdb_base.proofs.BoolLemmas.{same_tests}
use Rattle.bdb_base.proofs.OptionLemmas.{none_is_some, same_some}
use Rattle.bdb_base.proofs.BaseLemmas.{as_many_values, stated_fits}
use Rattle.bdb_paths.proofs.SuffixLemmas.{deepest_same, deepest_is_member}
use Rattle.bdb_keep.specs.Tables.{Tables, bytes_cmp}
use Rattle.bdb_key.specs.Bytes.{num_bytes, vals_bytes}
use Rattle.bdb_key.specs.Grammar.{IsNum}
use Rattle.bdb_key.specs.Rows.{IsRelRow, IsTupleRow, IsUserRow, mark_bytes, rel_bytes, slot_bytes}
use Rattle.bdb_queries.specs.Slots.{user_tuple, user_tuples}
use Rattle.bdb_keep.proofs.RowsLemmas.{same_place}
use Rattle.bdb_plan.specs.Sight.{has_signed}
use Rattle.bdb_tables.specs.Codec.{place}
use Rattle.bdb_tables.specs.InUse.{ValKey, IsValKey, user_codec, rel_codec, edge_codec, val_codec}
use Rattle.bdb_tables.specs.InUseLaws.{numbers_in_order, numbers_are_one, vals_are_one, mark_rows_are_one}
use Rattle.bdb_tables.specs.Marks.{Mark, mark_of, sign_in, sign_by, marked}
use Rattle.bdb_tables.specs.Names.{Names, path_of, number_of, is_named, edge_from, edge_of}
use Rattle.bdb_tables.specs.Rows.{Tuples, HoldsRows, has_key, row_named, row_for}
use Rattle.bdb_tables.specs.Spans.{AreUnder, IsUnder, entry_bytes, entry_cmp}
use Rattle.bdb_tables.proofs.ListLemmas.{prefix_append}
use Rattle.bdb_tables.proofs.SignLemmas.{sign_holds}
use Rattle.bdb_exec.specs.Based.{HaveBase, ShowBase, TablesShowBase, world_number}
use Rattle.bdb_exec.specs.Readable.{CanBeRun}
use Rattle.bdb_exec.specs.Rows.{signed_of, tuple_of_slot, relation_prefix}
use Rattle.bdb_exec.specs.Seen.{length_in, rows_at, signed_under, sight_of, width_in}
use Rattle.bdb_exec.specs.Spelled.{number_in}
use Rattle.bdb_exec.proofs.LengthLemmas.{key_vals, keys_sized}
use Rattle.bdb_exec.proofs.RelLemmas.{length_of, width_of}
use Rattle.bdb_exec.proofs.SpelledLemmas.{number_back}
use Rattle.bdb_exec.proofs.TypedLemmas.{raw, at_find}
use Rattle.bdb_exec.proofs.WorldLemmas.{IsThere, signed_is, has_row}
use Rattle.bdb_exec.proofs.DenyLemmas.{all, are_typed, IsHere, all_here, shown_all}
use Rattle.bdb_exec.proofs.LookingLemmas.{places_many, users_are}

-- ---- users

-- places of users with their numbers
numbered : ℕ → List UserSlot → List (ℕ × UserSlot)
numbered uid [] = []
numbered uid (slot ∷ slots) = (uid, slot) ∷ numbered (suc uid) slots

-- the place of a number among these
among : ℕ → List UserSlot → ℕ → Option UserSlot
among uid [] n = None
among uid (slot ∷ slots) n = cond (nat_eq n uid) (Some slot) (among (suc uid) slots n)

users_listed : (uid : ℕ) (slots : List UserSlot) → filter_map tuple_of_slot (numbered uid slots) ≡ user_tuples uid slots
unfolding numbered
users_listed uid [] = refl
users_listed uid (Live name ∷ slots) = ap (λ (x : List Tuple). user_tuple uid name ∷ x) (users_listed (suc uid) slots)
users_listed uid (Gone ∷ slots) = users_listed (suc uid) slots

numbered_many : (uid : ℕ) (slots : List UserSlot) → length (numbered uid slots) ≡ length slots
unfolding numbered
numbered_many uid [] = refl
numbered_many uid (slot ∷ slots) = ap suc (numbered_many (suc uid) slots)

later : (uid n : ℕ) → n < uid → nat_eq n uid ≡ false
later uid n lt = grind (arith, nat_tests)

among_below : (uid : ℕ) (slots : List UserSlot) (n : ℕ) → n < uid → among uid slots n ≡ None
unfolding among
among_below uid [] n lt = refl
among_below uid (slot ∷ slots) n lt = cond-false (nat_eq n uid) (Some slot) (among (suc uid) slots n) (later uid n lt) ∙ among_below (suc uid) slots n (omega arith)

among_at : (uid : ℕ) (slots : List UserSlot) (i n : ℕ) → n ≡ uid + i → among uid slots n ≡ slice_get slots i
unfolding among
among_at uid [] i n e = refl
among_at uid (slot ∷ slots) zero n e = cond-true (nat_eq n uid) (Some slot) (among (suc uid) slots n) (eq-eqb n uid (omega arith))
among_at uid (slot ∷ slots) (suc i) n e = cond-false (nat_eq n uid) (Some slot) (among (suc uid) slots n) (apart n uid i e) ∙ among_at (suc uid) slots i n (omega arith)
  where
    apart : (n uid i : ℕ) → n ≡ uid + suc i → nat_eq n uid ≡ false
    apart n uid i e = grind (arith, nat_tests)

number_same : (m n : ℕ) → IsNum m → IsNum n → eq_by_cmp bytes_cmp (num_bytes m) (num_bytes n) ≡ nat_eq m n
number_same m n hm hn = same_tests (eq_by_cmp bytes_cmp (num_bytes m) (num_bytes n)) (nat_eq m n)
    (λ e. eq-eqb m n (numbers_are_one m n hm hn (same_place (num_bytes m) (num_bytes n) e)))
    (λ e. ap is_eq (numbers_in_order m n hm hn) ∙ ap (λ k. is_eq (nat_cmp m k)) (sym (eqb-true m n e)) ∙ same_number m)
  where
    same_number : (k : ℕ) → is_eq (nat_cmp k k) ≡ true
    same_number k = ap is_eq (Rattle.bdb_base.proofs.Numbers.equal k)

number_found : (uid : ℕ) (slots : List UserSlot) (n : ℕ) → IsNum n → uid + length slots ≤ 2 ^ 32 → find bytes_cmp (num_bytes n) (map (entry_bytes user_codec) (numbered uid slots)) ≡ option_map slot_bytes (among uid slots n)
unfolding numbered among
number_found uid [] n h few = refl
number_found uid (slot ∷ slots) n h few =
    ap (λ b. cond b (Some (slot_bytes slot)) (find bytes_cmp (num_bytes n) (map (entry_bytes user_codec) (numbered (suc uid) slots)))) (number_same n uid h (omega arith))
    ∙ ap (λ o. cond (nat_eq n uid) (Some (slot_bytes slot)) o) (number_found (suc uid) slots n h (omega arith))
    ∙ chosen (nat_eq n uid) slot (among (suc uid) slots n)
  where
    chosen : (b : Bool) (x : UserSlot) (o : Option UserSlot) → cond b (Some (slot_bytes x)) (option_map slot_bytes o) ≡ option_map slot_bytes (cond b (Some x) o)
    chosen true x o = refl
    chosen false x o = refl

-- what is found is found by a number
found_number : (uid : ℕ) (slots : List UserSlot) (q r : List ℕ) → uid + length slots ≤ 2 ^ 32 → find bytes_cmp q (map (entry_bytes user_codec) (numbered uid slots)) ≡ Some r → (n : ℕ) × (q ≡ num_bytes n) × IsNum n
unfolding numbered
found_number uid [] q r few e = absurd (none_is_some r e)
found_number uid (slot ∷ slots) q r few e = by (λ f. found_number (suc uid) slots q r (omega arith) f) (eq_by_cmp bytes_cmp q (num_bytes uid)) refl e
  where
    small : IsNum uid
    small = omega arith

    by : (find bytes_cmp q (map (entry_bytes user_codec) (numbered (suc uid) slots)) ≡ Some r → (n : ℕ) × (q ≡ num_bytes n) × IsNum n) → (b : Bool) → eq_by_cmp bytes_cmp q (num_bytes uid) ≡ b
        → cond b (Some (slot_bytes slot)) (find bytes_cmp q (map (entry_bytes user_codec) (numbered (suc uid) slots))) ≡ Some r → (n : ℕ) × (q ≡ num_bytes n) × IsNum n
    by rest true b f = (uid, same_place q (num_bytes uid) b, small)
    by rest false b f = rest f

numbers_rise : (uid m : ℕ) (slots : List UserSlot) (slot : UserSlot) → uid < m → m + length slots ≤ 2 ^ 32 → list_all (λ y. is_lt (entry_cmp user_codec (uid, slot) y)) (numbered m slots) ≡ true
unfolding numbered
numbers_rise uid m [] slot lt few = refl
numbers_rise uid m (x ∷ slots) slot lt few =
    and_from (is_lt (bytes_cmp (num_bytes uid) (num_bytes m))) (list_all (λ y. is_lt (entry_cmp user_codec (uid, slot) y)) (numbered (suc m) slots))
    (ap is_lt (numbers_in_order uid m (omega arith) (omega arith) ∙ Rattle.bdb_base.proofs.Numbers.less uid m lt)) (numbers_rise uid (suc m) slots slot (omega arith) (omega arith))

numbered_sorted : (uid : ℕ) (slots : List UserSlot) → uid + length slots ≤ 2 ^ 32 → ascending (entry_cmp user_codec) (numbered uid slots) ≡ true
unfolding numbered
numbered_sorted uid [] few = refl
numbered_sorted uid (slot ∷ slots) few =
    and_from (list_all (λ y. is_lt (entry_cmp user_codec (uid, slot) y)) (numbered (suc uid) slots)) (ascending (entry_cmp user_codec) (numbered (suc uid) slots))
    (numbers_rise uid (suc uid) slots slot (omega arith) (omega arith)) (numbered_sorted (suc uid) slots (omega arith))

numbered_each : (uid : ℕ) (slots : List UserSlot) → uid + length slots ≤ 2 ^ 32 → AllByRecursion IsUserRow slots → AllByRecursion (IsUnder user_codec []) (numbered uid slots)
unfolding numbered
numbered_each uid [] few a = tt
numbered_each uid (slot ∷ slots) few a = (record { key = omega arith; row = a.0; begins = refl }, numbered_each (suc uid) slots (omega arith) a.1)

slots_fit : (slots : List UserSlot) → list_all is_plain (user_names slots) ≡ true → AllByRecursion IsUserRow slots
slots_fit [] e = tt
slots_fit (Live name ∷ slots) e = let p = and_parts (is_plain name) (list_all is_plain (user_names slots)) e in (p.0, slots_fit slots p.1)
slots_fit (Gone ∷ slots) e = (tt, slots_fit slots e)

few_users : (n : ℕ) → nat_le n most_users ≡ true → 1 + n ≤ 2 ^ 32
few_users n h = grind (arith, nat_tests)

-- ---- statements

-- values that fit a relation are no fewer than its key has
key_within : (o : Option RelDef) (vals : List Value) → MatchOption o (Unit {0}) IsRelRow → fits_definition o vals ≡ true → key_at o ≤ length vals
key_within None vals row e = absurd (false≢true e)
key_within (Some def) vals row e = let many = as_many_values def.cols vals e in omega (arith, many, row.key.1)

abbrev nothing : Mark
nothing = (Plus, true)

abbrev sign_of_mark : Mark → Sign
sign_of_mark m = m.0

module _ (ns : Names) (ts : Tuples) (t : Tables) (b : Contents) (valid : IsValid b.catalog b.stmts) (h : HaveBase ns ts t b) where
  -- ---- relations

  small : (rel : ℕ) → nat_lt rel (2 ^ 32) ≡ true → IsNum rel
  small rel e = grind (arith, nat_tests)

  none_beyond : (rel : ℕ) → nat_lt rel (2 ^ 32) ≡ false → slice_get b.catalog.rels rel ≡ None
  none_beyond rel e = beyond b.catalog.rels rel (large (length b.catalog.rels) e valid.catalog.few_rels)
    where
      large : (n : ℕ) → nat_lt rel (2 ^ 32) ≡ false → nat_le n 64 ≡ true → n ≤ rel
      large n e few = grind (arith, nat_tests)

      beyond : (xs : List RelDef) (at : ℕ) → length xs ≤ at → slice_get xs at ≡ None
      beyond [] at le = refl
      beyond (x ∷ xs) zero le = absurd (omega arith)
      beyond (x ∷ xs) (suc at) le = beyond xs at (omega arith)

  keys_shown : (sight_of t).keys ≡ key_lengths b.catalog.rels
  unfolding sight_of
  keys_shown = fun_ext (λ rel. by rel (nat_lt rel (2 ^ 32)) refl)
    where
      inside : (o : Option RelDef) → MatchOption o (Unit {0}) IsRelRow → length_in (option_map rel_bytes o) ≡ key_at o
      inside None k = refl
      inside (Some def) k = length_of def k

      by : (rel : ℕ) (c : Bool) → nat_lt rel (2 ^ 32) ≡ c → cond c (length_in (tables.get t (place rel_codec rel))) 1 ≡ key_lengths b.catalog.rels rel
      by rel true e = ap length_in (h.rels.rows rel (small rel e)) ∙ inside (slice_get b.catalog.rels rel) (h.rels.written rel (small rel e))
      by rel false e = sym (ap key_at (none_beyond rel e))

  -- each tuple has a value for each column of its relation's key
  whole : (tid : ℕ) (u : Tuple) → ts.tuple tid ≡ Some u → (sight_of t).keys u.rel ≤ length u.vals
  whole tid u e =
      let told : list_any (λ x. same_tuple x.tuple u) b.stmts ≡ true = sym (h.tuples.stated u) ∙ ap is_some (h.tuples.named tid u e) in
      let row : IsTupleRow u = subst (λ o. MatchOption o (Unit {0}) IsTupleRow) e (h.tuples.tuples.written tid (h.tuples.sized tid u e)) in
      subst (λ (f : ℕ → ℕ). f u.rel ≤ length u.vals) (sym keys_shown)
      (key_within (slice_get b.catalog.rels u.rel) u.vals (h.rels.written u.rel row.rel) (stated_fits b.catalog b.stmts u valid.stmts.belong told))

  abbrev run : CanBeRun t
  run = record {
    grammar = h.grammar;
    told = b.stmts;
    tuples = ts;
    held = h.tuples;
    whole = whole;
    stmts = b.stmts;
    path = path_of ns;
    rows = subst (λ (f : ℕ → ℕ). HoldsRows f b.stmts (path_of ns) ts.tuple t) (sym keys_shown) h.rows;
  }

  -- ---- users

  few : 1 + length b.catalog.users ≤ 2 ^ 32
  few = few_users (length b.catalog.users) valid.catalog.few_users

  named : (n : ℕ) → among 1 b.catalog.users n ≡ h.name n
  named zero = among_below 1 b.catalog.users 0 (lit< tt) ∙ sym h.none
  named (suc n) = among_at 1 b.catalog.users n (suc n) (omega arith) ∙ sym (h.names n)

  users_under : AreUnder user_codec t [] (numbered 1 b.catalog.users)
  users_under = record {
    each = numbered_each 1 b.catalog.users few (slots_fit b.catalog.users valid.catalog.users_plain);
    sorted = numbered_sorted 1 b.catalog.users few;
    found = λ q _. by q (tables.get t (user_codec.number ∷ q)) refl;
  }
    where
      at_number : (n : ℕ) → IsNum n → tables.get t (user_codec.number ∷ num_bytes n) ≡ find bytes_cmp (num_bytes n) (map (entry_bytes user_codec) (numbered 1 b.catalog.users))
      at_number n k = h.users.rows n k ∙ ap (option_map slot_bytes) (sym (named n)) ∙ sym (number_found 1 b.catalog.users n k few)

      by : (q : List ℕ) (o : Option (List ℕ)) → tables.get t (user_codec.number ∷ q) ≡ o → tables.get t (user_codec.number ∷ q) ≡ find bytes_cmp q (map (entry_bytes user_codec) (numbered 1 b.catalog.users))
      by q (Some r) e =
          let k = h.users.fits q r e in
          ap (λ x. tables.get t (user_codec.number ∷ x)) (sym k.key_reads.spelled) ∙ at_number k.key k.key_reads.fits
          ∙ ap (λ x. find bytes_cmp x (map (entry_bytes user_codec) (numbered 1 b.catalog.users))) k.key_reads.spelled
      by q None e = e ∙ sym (none (find bytes_cmp q (map (entry_bytes user_codec) (numbered 1 b.catalog.users))) refl)
        where
          none : (o : Option (List ℕ)) → find bytes_cmp q (map (entry_bytes user_codec) (numbered 1 b.catalog.users)) ≡ o → o ≡ None
          none None f = refl
          none (Some r) f =
              let k = found_number 1 b.catalog.users q r few f in
              absurd (none_is_some r (sym e ∙ ap (λ x. tables.get t (user_codec.number ∷ x)) k.1 ∙ at_number k.0 k.2 ∙ ap (λ x. find bytes_cmp x (map (entry_bytes user_codec) (numbered 1 b.catalog.users))) (sym k.1) ∙ f))

  places_shown : (sight_of t).places ≡ length b.catalog.users
  places_shown = sym (places_many t (numbered 1 b.catalog.users) users_under) ∙ numbered_many 1 b.catalog.users

  users_shown : (sight_of t).users ≡ user_tuples 1 b.catalog.users
  users_shown = sym (users_are t (numbered 1 b.catalog.users) users_under) ∙ users_listed 1 b.catalog.users

  -- ---- numbers of worlds

  number_named : (w : List ℕ) → is_state b.stmts w ≡ true → number_of ns w ≡ Some (world_number ns w)
  number_named w e = by (number_of ns w) (h.worlds w ∙ e)
    where
      by : (o : Option ℕ) → is_some o ≡ true → o ≡ Some (unwrap_or o 0)
      by None k = absurd (false≢true k)
      by (Some n) k = refl

  path_numbered : (w : List ℕ) → is_state b.stmts w ≡ true → path_of ns (world_number ns w) ≡ Some w
  path_numbered w e = h.states.names.numbered w (world_number ns w) (number_named w e)

  number_sized : (w : List ℕ) → is_state b.stmts w ≡ true → IsNum (world_number ns w)
  number_sized w e = h.states.names.sized w (world_number ns w) (number_named w e)

  -- ---- edges

  edges_shown : (w : List ℕ) (i : ℕ) → is_state b.stmts w ≡ true → is_user b.catalog.users i ≡ true → is_suffix (i ∷ []) w ≡ false
      → (sight_of t).edge (world_number ns w) i ≡ Some (world_number ns (edge_target (is_state b.stmts) w i))
  unfolding sight_of
  edges_shown w i state user apart =
      let users = is_user b.catalog.users in
      let n = world_number ns w in
      let v = edge_target (is_state b.stmts) w i in
      let target : is_state b.stmts v ≡ true = deepest_is_member (is_state b.stmts) (w ++ i ∷ []) refl in
      let same : edge_target (is_named ns) w i ≡ v = deepest_same (is_named ns) (is_state b.stmts) h.worlds (w ++ i ∷ []) in
      let edge : edge_of users ns (n, i) ≡ Some (world_number ns v) =
      ap (option_and_then (edge_from users ns i)) (path_numbered w state)
      ∙ cond-true (users i && not (is_suffix (i ∷ []) w)) (number_of ns (edge_target (is_named ns) w i)) None (and_from (users i) (not (is_suffix (i ∷ []) w)) user (ap not apart))
      ∙ ap (number_of ns) same ∙ number_named v target in
      let row : tables.get t (place edge_codec (n, i)) ≡ Some (num_bytes (world_number ns v)) =
      h.states.tables.edge.rows (n, i) (record { first = number_sized w state; second = h.states.numbers i user }) ∙ ap (option_map num_bytes) edge in
      ap (option_map number_in) row ∙ ap Some (number_back (world_number ns v) (number_sized v target))

  -- ---- widths

  width_shown : (rel : ℕ) → (sight_of t).width rel ≡ length (columns_at b.catalog.rels rel)
  unfolding sight_of
  width_shown rel = by (nat_lt rel (2 ^ 32)) refl
    where
      inside : (o : Option RelDef) → MatchOption o (Unit {0}) IsRelRow → width_in (option_map rel_bytes o) ≡ length (Rattle.bdb_base.specs.Queries.columns_of_definition o)
      inside None k = refl
      inside (Some def) k = width_of def k

      by : (c : Bool) → nat_lt rel (2 ^ 32) ≡ c → cond c (width_in (tables.get t (place rel_codec rel))) 0 ≡ length (columns_at b.catalog.rels rel)
      by true e = ap width_in (h.rels.rows rel (small rel e)) ∙ inside (slice_get b.catalog.rels rel) (h.rels.written rel (small rel e))
      by false e = sym (ap (λ o. length (Rattle.bdb_base.specs.Queries.columns_of_definition o)) (none_beyond rel e))

  -- ---- rows

  keys : ℕ → ℕ
  keys = key_lengths b.catalog.rels

  -- what a state's row of a tuple is
  sign_of_row : (w : List ℕ) (u : Tuple) (s : Sign) → stated keys b.stmts w u s ≡ true → sign_in keys b.stmts w u ≡ Some s
  unfolding keys
  sign_of_row w u s e = by s (stated keys b.stmts w u Plus) refl (stated keys b.stmts w u Minus) refl e
    where
      clean : stated keys b.stmts w u Plus ≡ true → stated keys b.stmts w u Minus ≡ true → ⊥
      clean p m = false≢true (sym (worlds_are_consistent keys b.stmts (valid_is_consistent b.catalog b.stmts valid) w u u Plus Minus p m) ∙ (same_tuple-Decides u u).1 refl)

      by : (s : Sign) (p : Bool) → stated keys b.stmts w u Plus ≡ p → (m : Bool) → stated keys b.stmts w u Minus ≡ m → stated keys b.stmts w u s ≡ true → sign_by p m ≡ Some s
      by Plus true a m c e = refl
      by Plus false a m c e = absurd (false≢true (sym a ∙ e))
      by Minus true a m c e = absurd (clean a e)
      by Minus false a true c e = refl
      by Minus false a false c e = absurd (false≢true (sym c ∙ e))

  -- the number of a tuple that a state has
  number_told : (w : List ℕ) (u : Tuple) (s : Sign) → stated keys b.stmts w u s ≡ true → (tid : ℕ) × (ts.number u ≡ Some tid)
  number_told w u s e = by (ts.number u) refl (h.tuples.stated u ∙ stated_tuples_are_explicit keys b.stmts w u s e)
    where
      by : (o : Option ℕ) → ts.number u ≡ o → is_some o ≡ true → (tid : ℕ) × (ts.number u ≡ Some tid)
      by None f i = absurd (false≢true i)
      by (Some tid) f i = (tid, f)

  module _ (w : List ℕ) (rel : ℕ) (u : Tuple) (s : Sign) (state : is_state b.stmts w ≡ true) (nr : IsNum rel) where
    n : ℕ
    n = world_number ns w

    es : List (ValKey × Mark)
    es = all t run (world_number ns w) rel (number_sized w state) nr

    abbrev Here : ValKey × Mark → Type 0
    Here e = IsHere t run (world_number ns w) rel (number_sized w state) nr e

    here : AllByRecursion Here es
    unfolding es
    here = all_here t run (world_number ns w) rel (number_sized w state) nr

    there : AllByRecursion (IsThere t) es
    unfolding es
    there = (are_typed t run (world_number ns w) rel (number_sized w state) nr).there

    shows : Tuple × Sign → Bool
    shows x = same_tuple x.0 u && same_sign x.1 s

    mark_there : (e : ValKey × Mark) (k : Here e) → IsThere t e → sign_in keys b.stmts w k.u ≡ Some e.1.0
    unfolding keys
    mark_there e k i = signed_by (sign_in keys b.stmts w k.u) (keyed (has_key keys e.0 k.u) refl (sym named_row ∙ mapped (row_for keys b.stmts (path_of ns) ts.tuple e.0) (sym (h.rows.rows e.0 k.key) ∙ i)))
      where
        mapped : (o : Option Mark) → option_map mark_bytes o ≡ Some (mark_bytes e.1) → o ≡ Some e.1
        mapped None f = absurd (none_is_some (mark_bytes e.1) f)
        mapped (Some m) f = ap Some (mark_rows_are_one m e.1 tt tt (same_some (mark_bytes m) (mark_bytes e.1) f))

        named_row : row_for keys b.stmts (path_of ns) ts.tuple e.0 ≡ cond (has_key keys e.0 k.u) (mark_of keys b.stmts w k.u) None
        named_row =
            ap (λ x. row_named keys b.stmts e.0 x (ts.tuple e.0.3)) (ap (path_of ns) k.at_world ∙ path_numbered w state)
            ∙ ap (row_named keys b.stmts e.0 (Some w)) k.named

        keyed : (c : Bool) → has_key keys e.0 k.u ≡ c → cond (has_key keys e.0 k.u) (mark_of keys b.stmts w k.u) None ≡ Some e.1 → mark_of keys b.stmts w k.u ≡ Some e.1
        keyed true a f = sym (cond-true (has_key keys e.0 k.u) (mark_of keys b.stmts w k.u) None a) ∙ f
        keyed false a f = absurd (no_mark (sym (cond-false (has_key keys e.0 k.u) (mark_of keys b.stmts w k.u) None a) ∙ f))
          where
            no_mark : {m : Mark} → None ≡ Some m → ⊥
            no_mark f = cc

        signed_by : (o : Option Sign) → marked (explicit b.stmts w k.u) o ≡ Some e.1 → o ≡ Some e.1.0
        signed_by None f = absurd cc
        signed_by (Some x) f = ap (λ (m : Option Mark). Some (sign_of_mark (unwrap_or m nothing))) f

    one_stated : (e : ValKey × Mark) → Here e → IsThere t e → shows (signed_of t e) ≡ true → (nat_eq u.rel rel && stated keys b.stmts w u s) ≡ true
    unfolding shows
    one_stated e k i f =
        let p = and_parts (same_tuple k.u u) (same_sign e.1.0 s) (sym (ap (λ x. same_tuple x.0 u && same_sign x.1 s) (signed_is t e k.u k.row)) ∙ f) in
        let same : k.u ≡ u = (same_tuple-Decides k.u u).0 p.0 in
        let sign : e.1.0 ≡ s = (same_sign-Decides e.1.0 s).0 p.1 in
        let holds = sign_holds (stated keys b.stmts w k.u Plus) (stated keys b.stmts w k.u Minus) e.1.0 (mark_there e k i) in
        and_from (nat_eq u.rel rel) (stated keys b.stmts w u s) (eq-eqb u.rel rel (ap (λ x. x.rel) (sym same) ∙ k.of_rel))
        (ap (λ x. stated keys b.stmts w x s) (sym same) ∙ ap (stated keys b.stmts w k.u) (sym sign) ∙ by e.1.0 refl holds)
      where
        by : (x : Sign) → e.1.0 ≡ x → (e.1.0 ≡ Plus → stated keys b.stmts w k.u Plus ≡ true) × (e.1.0 ≡ Minus → stated keys b.stmts w k.u Minus ≡ true) → stated keys b.stmts w k.u e.1.0 ≡ true
        by Plus a g = ap (stated keys b.stmts w k.u) a ∙ g.0 a
        by Minus a g = ap (stated keys b.stmts w k.u) a ∙ g.1 a

    some_stated : (xs : List (ValKey × Mark)) → AllByRecursion Here xs → AllByRecursion (IsThere t) xs → list_any shows (map (signed_of t) xs) ≡ true → (nat_eq u.rel rel && stated keys b.stmts w u s) ≡ true
    some_stated [] a i f = absurd (false≢true f)
    some_stated (e ∷ xs) a i f = elim (or_cases (shows (signed_of t e)) (list_any shows (map (signed_of t) xs)) f) [
      | inl g ↦ one_stated e a.0 i.0 g
      | inr g ↦ some_stated xs a.1 i.1 g
    ]

    found_one : (k : ValKey) (m : Mark) → IsValKey k → ts.tuple k.3 ≡ Some u → m.0 ≡ s → (xs : List (ValKey × Mark)) → AllByRecursion Here xs → find bytes_cmp (place val_codec k) (map (raw val_codec) xs) ≡ Some (mark_bytes m)
        → list_any shows (map (signed_of t) xs) ≡ true
    unfolding shows
    found_one k m vk tuple sign [] a f = absurd (none_is_some (mark_bytes m) f)
    found_one k m vk tuple sign (e ∷ xs) a f = by (λ g. found_one k m vk tuple sign xs a.1 g) (eq_by_cmp bytes_cmp (place val_codec k) (place val_codec e.0)) refl f
      where
        one : (o : Option Tuple) (x y : Tuple) → o ≡ Some x → o ≡ Some y → x ≡ y
        one o x y p q = cc

        by : (find bytes_cmp (place val_codec k) (map (raw val_codec) xs) ≡ Some (mark_bytes m) → list_any (λ x. same_tuple x.0 u && same_sign x.1 s) (map (signed_of t) xs) ≡ true) → (c : Bool) → eq_by_cmp bytes_cmp (place val_codec k) (place val_codec e.0) ≡ c
            → cond c (Some (mark_bytes e.1)) (find bytes_cmp (place val_codec k) (map (raw val_codec) xs)) ≡ Some (mark_bytes m) → list_any (λ x. same_tuple x.0 u && same_sign x.1 s) (map (signed_of t) (e ∷ xs)) ≡ true
        by rest true c g =
            let key : k ≡ e.0 = vals_are_one k e.0 vk a.0.key (ap (λ x. Rattle.std.specs.Prelude.drop 1 x) (same_place (place val_codec k) (place val_codec e.0) c)) in
            let mark : e.1 ≡ m = mark_rows_are_one e.1 m tt tt (same_some (mark_bytes e.1) (mark_bytes m) g) in
            let same : a.0.u ≡ u = one (ts.tuple e.0.3) a.0.u u a.0.named (ap (λ (x : ValKey). ts.tuple x.3) (sym key) ∙ tuple) in
            or_left (same_tuple (signed_of t e).0 u && same_sign (signed_of t e).1 s) (list_any (λ x. same_tuple x.0 u && same_sign x.1 s) (map (signed_of t) xs))
            (ap (λ x. same_tuple x.0 u && same_sign x.1 s) (signed_is t e a.0.u a.0.row)
            ∙ and_from (same_tuple a.0.u u) (same_sign e.1.0 s) ((same_tuple-Decides a.0.u u).1 same) ((same_sign-Decides e.1.0 s).1 (ap (λ (x : Mark). x.0) mark ∙ sign)))
        by rest false c g = or_right (same_tuple (signed_of t e).0 u && same_sign (signed_of t e).1 s) (list_any (λ x. same_tuple x.0 u && same_sign x.1 s) (map (signed_of t) xs)) (rest g)

    stated_there : (nat_eq u.rel rel && stated keys b.stmts w u s) ≡ true → list_any shows (map (signed_of t) es) ≡ true
    unfolding es keys
    stated_there f =
        let p = and_parts (nat_eq u.rel rel) (stated keys b.stmts w u s) f in
        let of : u.rel ≡ rel = eqb-true u.rel rel p.0 in
        let id = number_told w u s p.1 in
        let tuple : ts.tuple id.0 ≡ Some u = h.tuples.numbered u id.0 id.1 in
        let row = has_row t run id.0 u tuple in
        let k : ValKey = (world_number ns w, rel, key_of keys u, id.0) in
        let m : Mark = (s, explicit b.stmts w u s) in
        let vk : IsValKey k = record {
          world = number_sized w state;
          rel = nr;
          key = key_vals (keys u.rel) u.vals (subst (λ (f : ℕ → ℕ). IsNum (f u.rel)) keys_shown (keys_sized t run u.rel)) row.in_grammar.plain;
          tuple = h.tuples.sized id.0 u tuple;
        } in
        let has : has_key keys k u ≡ true =
        and_from (nat_eq u.rel rel) (same_values (key_of keys u) (key_of keys u)) (eq-eqb u.rel rel of) ((same_values-Decides (key_of keys u) (key_of keys u)).1 refl) in
        let is : row_for keys b.stmts (path_of ns) ts.tuple k ≡ Some m =
        ap (λ x. row_named keys b.stmts k x (ts.tuple id.0)) (path_numbered w state)
        ∙ ap (row_named keys b.stmts k (Some w)) tuple
        ∙ cond-true (has_key keys k u) (mark_of keys b.stmts w u) None has
        ∙ ap (marked (explicit b.stmts w u)) (sign_of_row w u s p.1) in
        let begins : is_prefix (val_codec.number ∷ relation_prefix (world_number ns w) rel) (place val_codec k) ≡ true = prefix_append (relation_prefix (world_number ns w) rel) (vals_bytes (key_of keys u) ++ num_bytes id.0) in
        let found : find bytes_cmp (place val_codec k) (rows_at t (val_codec.number ∷ relation_prefix (world_number ns w) rel)) ≡ Some (mark_bytes m) =
        at_find val_codec t (val_codec.number ∷ relation_prefix (world_number ns w) rel) (place val_codec k)
        ∙ cond-true (is_prefix (val_codec.number ∷ relation_prefix (world_number ns w) rel) (place val_codec k)) (tables.get t (place val_codec k)) None begins
        ∙ h.rows.rows k vk ∙ ap (option_map mark_bytes) is in
        found_one k m vk tuple refl es here (ap (find bytes_cmp (place val_codec k)) (sym (are_typed t run (world_number ns w) rel (number_sized w state) nr).rows) ∙ found)

    rows_inside : has_signed ((sight_of t).rows (world_number ns w) rel) u s ≡ (nat_eq u.rel rel && stated keys b.stmts w u s)
    unfolding es shows
    rows_inside =
        ap (list_any shows) (shown_all t run (world_number ns w) rel (number_sized w state) nr)
        ∙ same_tests (list_any shows (map (signed_of t) es)) (nat_eq u.rel rel && stated keys b.stmts w u s) (some_stated es here there) stated_there

  no_rows : (w : List ℕ) (rel : ℕ) → nat_lt rel (2 ^ 32) ≡ false → (sight_of t).rows (world_number ns w) rel ≡ []
  unfolding sight_of
  no_rows w rel e = cond-false (nat_lt rel (2 ^ 32)) (signed_under t (num_bytes (world_number ns w) ++ num_bytes rel)) [] e

  rows_shown : (w : List ℕ) (rel : ℕ) (u : Tuple) (s : Sign) → is_state b.stmts w ≡ true
      → has_signed ((sight_of t).rows (world_number ns w) rel) u s ≡ (nat_eq u.rel rel && stated (key_lengths b.catalog.rels) b.stmts w u s)
  unfolding keys
  rows_shown w rel u s state = by (nat_lt rel (2 ^ 32)) refl
    where
      large : (n : ℕ) → n < 2 ^ 32 → n ≡ rel → nat_lt rel (2 ^ 32) ≡ true
      large n lt e = grind (arith, nat_tests)

      by : (c : Bool) → nat_lt rel (2 ^ 32) ≡ c → has_signed ((sight_of t).rows (world_number ns w) rel) u s ≡ (nat_eq u.rel rel && stated (key_lengths b.catalog.rels) b.stmts w u s)
      by true e = rows_inside w rel u s state (small rel e)
      by false e = ap (λ r. has_signed r u s) (no_rows w rel e) ∙ sym (false_from_ne_true (nat_eq u.rel rel && stated (key_lengths b.catalog.rels) b.stmts w u s) (λ f.
          let p = and_parts (nat_eq u.rel rel) (stated (key_lengths b.catalog.rels) b.stmts w u s) f in
          let id = number_told w u s p.1 in
          let row = has_row t run id.0 u (h.tuples.numbered u id.0 id.1) in
          false≢true (sym e ∙ large u.rel row.in_grammar.rel (eqb-true u.rel rel p.0))))

  base_shown : ShowBase ns t b
  base_shown = record {
    run = run;
    shown = record {
      places = places_shown;
      users = users_shown;
      root = ap (λ o. unwrap_or o 0) h.states.names.root;
      edges = edges_shown;
      rows = rows_shown;
      width = width_shown;
      keys = keys_shown;
    };
  }

pub tables_show_base : TablesShowBase
tables_show_base = base_shown
