-- Which worlds go where a statement leaves: those of its path's prefixes that are no states without it.
use Rattle.std.proofs.Common.{◌≡◌, ◌≢◌, ◌∙◌, ℕ, ◌+◌, ◌-◌, ◌≤◌, ◌<◌, Bool, true, false, not, ◌&&◌, nat_eq, nat_lt, cond, List, [], ◌∷◌, ◌++◌, ◌⊎◌, refl, ap, sym, inl, inr, suc, zero, arith, length, take, Option, Some, None, is_some}
use Rattle.std.specs.List.{list_any}
use Rattle.std.specs.Option.{option_map}
use Rattle.std.proofs.lemmas.Bool.{cases_Bool, and_parts, and_from, or_cases, or_left, or_right, cond-true, cond-false, false≢true, false_from_ne_true, eqb-true, eq-eqb, lt-ltb, le-ltb, cases_lt}
use Rattle.bdb_base.specs.Alternation.{alternates}
use Rattle.bdb_base.specs.Bases.{Contents, is_user, without_statement, world_count}
use Rattle.bdb_base.specs.Same.{same_path, same_sign, same_tuple}
use Rattle.bdb_base.specs.SameLemmas.{same_path-Decides, same_sign-Decides, same_tuple-Decides}
use Rattle.bdb_base.specs.Segments.{is_prefix}
use Rattle.bdb_base.specs.States.{is_state}
use Rattle.bdb_base.specs.Worlds.{explicit, IsConsistent}
use Rattle.bdb_base.specs.declared.kinds.Sign.{Sign}
use Rattle.bdb_base.specs.declared.kinds.Stmt.{Stmt}
use Rattle.bdb_base.specs.declared.tuple.Tuple.{Tuple}
use Rattle.bdb_base.proofs.WorldLemmas.{explicit_tuple, is_prefix_itself, valid_is_consistent, stands_is_explicit}
use Rattle.bdb_base.proofs.OptionLemmas.{some_of}
use Rattle.bdb_base.proofs.SegmentLemmas.{take_is_prefix, prefix_is_take, length-prefix}
use Rattle.bdb_base.proofs.BoolLemmas.{and_false, and_true}
use Rattle.bdb_keep.specs.Tables.{Tables}
use Rattle.bdb_key.specs.Grammar.{IsNum}
use Rattle.bdb_paths.proofs.StateLemmas.{states_have_prefixes}
use Rattle.bdb_tables.specs.Grammar.{InGrammar}
use Rattle.bdb_tables.specs.Explicit.{HasExplicitRow}
use Rattle.bdb_tables.specs.InUse.{ValKey, IsValKey, val_codec}
use Rattle.bdb_tables.specs.InUseLaws.{mark_rows_are_one}
use Rattle.bdb_tables.specs.Marks.{Mark, explicit_of, explicit_sign, mark_of}
use Rattle.bdb_tables.specs.Names.{Names, AreNames, path_of, number_of, is_named, without_name}
use Rattle.bdb_tables.specs.Rows.{row_for}
use Rattle.bdb_tables.proofs.WriteLemmas.{gives_same}
use Rattle.bdb_val.specs.Reads.{HasRows, HaveTuples}
use Rattle.bdb_val.specs.Settling.{row_key}
use Rattle.bdb_val.specs.WorldCopies.{rows_cleared}
use Rattle.bdb_val.proofs.HeldLemmas.{explicit_mark, held, held_names, right_row}
use Rattle.bdb_val.proofs.ReadLemmas.{key_fits}
use Rattle.bdb_worlds.specs.Growth.{SameOutside}
use Rattle.bdb_worlds.specs.Holding.{Worlds, HoldSome}
use Rattle.bdb_worlds.specs.Shrinking.{without_prefixes, IsDead, AreDead, StaysState, as_root, as_needed, HasShrunk, DropsStates}
use Rattle.bdb_worlds.specs.Staying.{IsNeeded, by_row, by_longer}
use Rattle.bdb_worlds.proofs.GrowLemmas.{take_split, length-take-is}
use Rattle.bdb_worlds.proofs.ReadLemmas.{found_is}
use Rattle.bdb_update.proofs.KeyLemmas.{lengths_fit}
use Rattle.bdb_update.specs.Calls.{without_one}
use Rattle.bdb_update.specs.Differing.{has_told}
use Rattle.bdb_update.specs.Keys.{keys_of}
use Rattle.bdb_update.specs.Parting.{MayPart, HasParted, SomeHasParted, HasFewerWorlds, CountsWorlds, LosesRows, LosesWorlds, ClearsWorlds, all_cleared}
use Rattle.bdb_tables.specs.Stored.{SameBut}
use Rattle.bdb_update.proofs.ArriveLemmas.{in_worlds, worlds_then_rows}
use Rattle.bdb_update.proofs.ComeLemmas.{rows_same}
use Rattle.bdb_update.proofs.GrammarLemmas.{over_in_grammar}
use Rattle.bdb_update.proofs.OneStored.{explicit_state}
use Rattle.bdb_tables.proofs.SignLemmas.{one_sign, sign_is_explicit}
use Rattle.bdb_update.proofs.PartCountLemmas.{worlds_less}
use Rattle.bdb_update.proofs.ReachLemmas.{other_worlds_store, world_goes_with_rows}
use Rattle.bdb_tables.proofs.SameLemmas.{gives_still, states_still}
use Rattle.bdb_update.proofs.StageLemmas.{belongs_parts, over_has_tuples, tuples_still}
use Rattle.bdb_update.proofs.WithinLemmas.{drop_is_within, drop_leaves_states}
use Rattle.bdb_tables.proofs.SignLemmas.{found_before}
use Rattle.bdb_names.proofs.Ends.{length_more}
use Rattle.bdb_update.proofs.MarkLemmas.{explicit_is}

-- ---- paths

-- a prefix of a path is all of it, or one of its prefixes is a user longer
front_cases : (w p : List ℕ) → is_prefix w p ≡ true → (p ≡ w) ⊎ ((i : ℕ) × (is_prefix (w ++ i ∷ []) p ≡ true))
front_cases [] [] h = inl refl
front_cases [] (j ∷ p) h = inr (j, and_from (nat_eq j j) true (eq-eqb j j refl) refl)
front_cases (i ∷ w) [] h = absurd (false≢true h)
front_cases (i ∷ w) (j ∷ p) h =
    let k = and_parts (nat_eq i j) (is_prefix w p) h in
    elim (front_cases w p k.1) [
      | inl e ↦ inl (ap (λ (z : List ℕ). j ∷ z) e ∙ ap (λ n. n ∷ w) (sym (eqb-true i j k.0)))
      | inr f ↦ inr (f.0, and_from (nat_eq i j) (is_prefix (w ++ f.0 ∷ []) p) k.0 f.1)
    ]

-- ---- why a path is a state

-- a statement is explicit at a path
pub record SomeExplicit (stmts : List Stmt) (w : List ℕ) : Type 0 where
  pub tuple : Tuple
  pub sign : Sign
  pub there : explicit stmts w tuple sign ≡ true

-- a statement's path begins with a path
abbrev is_begun : List Stmt → List ℕ → Bool
is_begun stmts w = list_any (λ x. is_prefix w x.path) stmts

-- it is its own path, or a longer one is begun too
begun_cases : (stmts : List Stmt) (w : List ℕ) → is_begun stmts w ≡ true → SomeExplicit stmts w ⊎ ((i : ℕ) × (is_begun stmts (w ++ i ∷ []) ≡ true))
begun_cases [] w h = absurd (false≢true h)
begun_cases (z ∷ zs) w h = elim (or_cases (is_prefix w z.path) (is_begun zs w) h) [
  | inl e ↦ elim (front_cases w z.path e) [
    | inl s ↦ inl (record {
      tuple = z.tuple;
      sign = z.sign;
      there = or_left (same_path z.path w && (same_tuple z.tuple z.tuple && same_sign z.sign z.sign)) (explicit zs w z.tuple z.sign)
          (and_from (same_path z.path w) (same_tuple z.tuple z.tuple && same_sign z.sign z.sign) ((same_path-Decides z.path w).1 s)
          (and_from (same_tuple z.tuple z.tuple) (same_sign z.sign z.sign) ((same_tuple-Decides z.tuple z.tuple).1 refl) ((same_sign-Decides z.sign z.sign).1 refl)));
    })
    | inr f ↦ inr (f.0, or_left (is_prefix (w ++ f.0 ∷ []) z.path) (is_begun zs (w ++ f.0 ∷ [])) f.1)
  ]
  | inr e ↦ elim (begun_cases zs w e) [
    | inl s ↦ inl (record {
      tuple = s.tuple;
      sign = s.sign;
      there = or_right (same_path z.path w && (same_tuple z.tuple s.tuple && same_sign z.sign s.sign)) (explicit zs w s.tuple s.sign) s.there;
    })
    | inr f ↦ inr (f.0, or_right (is_prefix (w ++ f.0 ∷ []) z.path) (is_begun zs (w ++ f.0 ∷ [])) f.1)
  ]
]

state_cases : (stmts : List Stmt) (w : List ℕ) → w ≢ [] → is_state stmts w ≡ true → SomeExplicit stmts w ⊎ ((i : ℕ) × (is_state stmts (w ++ i ∷ []) ≡ true))
state_cases stmts [] some h = absurd (some refl)
state_cases stmts (j ∷ w) some h = begun_cases stmts (j ∷ w) h

-- a prefix of a state is one
state_front : (stmts : List Stmt) (w p : List ℕ) → is_prefix w p ≡ true → is_state stmts p ≡ true → is_state stmts w ≡ true
state_front stmts w p h e =
    let r = take_split p (length w) (length p) (length-prefix w p h) in
    states_have_prefixes stmts w r.0 (ap (is_state stmts) (ap (λ v. v ++ r.0) (prefix_is_take w p h) ∙ sym r.1 ∙ whole p) ∙ e)
  where
    whole : (p : List ℕ) → take (length p) p ≡ p
    whole [] = refl
    whole (i ∷ p) = ap (λ (z : List ℕ). i ∷ z) (whole p)

-- ---- names without prefixes

number_less : (ns : Names) (n m : ℕ) (p w : List ℕ) → number_of (without_name ns n p) w ≡ Some m → number_of ns w ≡ Some m
number_less ns n m p w e = elim (cases_Bool (same_path w p)) [
  | inl c ↦ let f : None ≡ Some m = sym (cond-true (same_path w p) None (ns.number w) c) ∙ e in absurd cc
  | inr c ↦ sym (cond-false (same_path w p) None (ns.number w) c) ∙ e
]

number_before : (ns : Names) (path : List ℕ) (len : ℕ) (gone : List ℕ) (w : List ℕ) (m : ℕ) → number_of (without_prefixes ns path len gone) w ≡ Some m → number_of ns w ≡ Some m
number_before ns path len [] w m e = e
number_before ns path len (n ∷ gone) w m e = number_less ns n m (take len path) w (number_before (without_name ns n (take len path)) path (len - 1) gone w m e)

-- ---- rows of worlds that go

cleared_alike : (f g : ValKey → Option Mark) (ns : List ℕ) → ((k : ValKey) → f k ≡ g k) → (k : ValKey) → all_cleared f ns k ≡ all_cleared g ns k
cleared_alike f g [] h k = h k
cleared_alike f g (n ∷ ns) h k = cleared_alike (rows_cleared f n) (rows_cleared g n) ns (λ q. ap (λ o. cond (nat_eq q.0 n) None o) (h q)) k

gone_rows : (keys : ℕ → ℕ) (stmts : List Stmt) (tuple : ℕ → Option Tuple) (ns : Names) (path : List ℕ) (len : ℕ) (gone : List ℕ) (k : ValKey)
    → all_cleared (row_for keys stmts (path_of ns) tuple) gone k ≡ row_for keys stmts (path_of (without_prefixes ns path len gone)) tuple k
gone_rows keys stmts tuple ns path len [] k = refl
gone_rows keys stmts tuple ns path len (n ∷ gone) k =
    let p = take len path in
    cleared_alike (rows_cleared (row_for keys stmts (path_of ns) tuple) n) (row_for keys stmts (path_of (without_name ns n p)) tuple) gone
    (λ q. sym (world_goes_with_rows keys stmts ns tuple n p q)) k
    ∙ gone_rows keys stmts tuple (without_name ns n p) path (len - 1) gone k

-- ---- marks

one_path : (v w : List ℕ) (o : Option (List ℕ)) → o ≡ Some v → o ≡ Some w → v ≡ w
one_path v w o e f = cc

-- statements that are among others don't clash where those don't
pub consistent_before : (keys : ℕ → ℕ) (stmts : List Stmt) (x : Stmt) → IsConsistent keys stmts → IsConsistent keys (without_statement stmts x)
consistent_before keys stmts x c w u v r s e f = c w u v r s (before u r e) (before v s f)
  where
    before : (u : Tuple) (s : Sign) → explicit (without_statement stmts x) w u s ≡ true → explicit stmts w u s ≡ true
    before u s e = found_before (λ z. same_path z.path w && (same_tuple z.tuple u && same_sign z.sign s)) _ stmts e

-- ---- a statement has left, and its worlds are still there

module _ (t : Tables) (b : Contents) (x : Stmt) (h : HasParted t b x) (may : MayPart b x) where
  abbrev pub less : List Stmt
  less = without_statement b.stmts x

  abbrev pub ns : Names
  ns = h.names

  abbrev pub ws : Worlds
  ws = record { users = is_user b.catalog.users; names = h.names }

  names : AreNames ns
  names = h.stored.states.names

  less_consistent : IsConsistent (keys_of b) less
  less_consistent = consistent_before (keys_of b) b.stmts x (valid_is_consistent b.catalog b.stmts may.valid)

  rows_had : HasRows (keys_of b) h.tuples.tuple (held (keys_of b) less b.stmts ns h.tuples t h.stored.tuples) t
  rows_had = record {
    lengths = lengths_fit t b.catalog.rels h.stored.rels;
    tuples = h.stored.tuples.tuples;
    rows = h.stored.rows;
    sized = h.stored.tuples.sized;
    keyed = λ k v s. (held_names (keys_of b) less b.stmts ns h.tuples t h.stored.tuples k s).1;
  }

  row_is : (n tid : ℕ) (w : List ℕ) (u : Tuple) → path_of ns n ≡ Some w → h.tuples.tuple tid ≡ Some u → held (keys_of b) less b.stmts ns h.tuples t h.stored.tuples (row_key (keys_of b) n tid u) ≡ mark_of (keys_of b) less w u
  row_is n tid w u p e = right_row (keys_of b) less b.stmts ns h.tuples t h.stored.tuples n w tid u p e

  -- the path of a world with an explicit row is a state
  row_makes_state : (n : ℕ) (w : List ℕ) → path_of ns n ≡ Some w → HasExplicitRow t n → is_state less w ≡ true
  row_makes_state n w p r =
      let found : Some (r.sign, true) ≡ held (keys_of b) less b.stmts ns h.tuples t h.stored.tuples r.key = found_is val_codec mark_rows_are_one t _ h.stored.rows r.key r.fits (Some (r.sign, true)) r.row in
      let k = (held_names (keys_of b) less b.stmts ns h.tuples t h.stored.tuples r.key (sym (ap is_some found))).1 in
      let here : path_of ns r.key.0 ≡ Some w = ap (path_of ns) r.world ∙ p in
      let mark : mark_of (keys_of b) less w k.0 ≡ Some (r.sign, true) =
      sym (row_is r.key.0 r.key.3 w k.0 here k.1) ∙ ap (held (keys_of b) less b.stmts ns h.tuples t h.stored.tuples) k.2 ∙ sym found in
      let sign : explicit_sign less w k.0 ≡ Some r.sign = sym (explicit_mark (keys_of b) less w k.0 less_consistent) ∙ ap explicit_of mark in
      explicit_state less w k.0 r.sign (sign_is_explicit less w k.0 r.sign sign)

  -- a statement at the path of a world has an explicit row
  statement_has_row : (n : ℕ) (w : List ℕ) → path_of ns n ≡ Some w → SomeExplicit less w → HasExplicitRow t n
  statement_has_row n w p s =
      let told : has_told b.stmts s.tuple ≡ true = (drop_is_within b.stmts x).tuples s.tuple (explicit_tuple less w s.tuple s.sign s.there) in
      let i = some_of (h.tuples.number s.tuple) (h.stored.tuples.stated s.tuple ∙ told) in
      let named = h.stored.tuples.numbered s.tuple i.0 i.1 in
      let size : IsNum n = names.sized w n (names.named n w p) in
      let fits : IsValKey (row_key (keys_of b) n i.0 s.tuple) = key_fits (keys_of b) h.tuples.tuple _ t rows_had n i.0 s.tuple size named in
      let mark : mark_of (keys_of b) less w s.tuple ≡ Some (s.sign, true) =
      explicit_is (mark_of (keys_of b) less w s.tuple) s.sign (explicit_mark (keys_of b) less w s.tuple less_consistent ∙ one_sign (keys_of b) less w s.tuple s.sign less_consistent s.there) in
      record {
        key = row_key (keys_of b) n i.0 s.tuple;
        sign = s.sign;
        fits = fits;
        world = refl;
        row = record {
          in_grammar = tt;
          found = h.stored.rows.rows (row_key (keys_of b) n i.0 s.tuple) fits ∙ ap (option_map val_codec.row_bytes) (row_is n i.0 w s.tuple p named ∙ mark);
        };
      }

  -- the path of the statement is a state with it, and so are its prefixes
  was_state : (w : List ℕ) → is_prefix w x.path ≡ true → is_state b.stmts w ≡ true
  was_state w e = state_front b.stmts w x.path e (explicit_state b.stmts x.path x.tuple x.sign (sym (stands_is_explicit b.stmts x) ∙ may.there))

  -- what is a state without the statement has a number
  state_named : (w : List ℕ) → is_state less w ≡ true → is_named ns w ≡ true
  state_named w e = h.stored.worlds w ∙ (drop_is_within b.stmts x).states w e

  -- ---- prefixes that went are no states

  dead_is_gone : (ms : Names) (len n : ℕ) → IsDead t ms (take len x.path) n → len ≤ length x.path
      → ((w : List ℕ) (m : ℕ) → number_of ms w ≡ Some m → number_of ns w ≡ Some m)
      → ((w : List ℕ) → (is_prefix w x.path ≡ true → length w ≤ len) → is_named ns w ≡ true → is_named ms w ≡ true)
      → ((w : List ℕ) → is_prefix w x.path ≡ true → len < length w → is_state less w ≡ false) → is_state less (take len x.path) ≡ false
  dead_is_gone ms len n dead l numbers still done = false_from_ne_true (is_state less (take len x.path)) (λ e. elim (state_cases less (take len x.path) dead.some e) [
    | inl s ↦ dead.needless (by_row (statement_has_row n (take len x.path) (names.numbered (take len x.path) n (numbers (take len x.path) n dead.number)) s))
    | inr f ↦ longer f.0 f.1
  ])
    where
      longer : (i : ℕ) → is_state less (take len x.path ++ i ∷ []) ≡ true → ⊥
      longer i e =
          let long = length_more (take len x.path) i in
          let size = length-take-is x.path len l in
          elim (cases_Bool (is_prefix (take len x.path ++ i ∷ []) x.path)) [
            | inl c ↦ false≢true (sym (done (take len x.path ++ i ∷ []) c (omega arith)) ∙ e)
            | inr c ↦ dead.needless (by_longer (record { user = i; named = still (take len x.path ++ i ∷ []) (λ d. absurd (false≢true (sym c ∙ d))) (state_named (take len x.path ++ i ∷ []) e) }))
          ]

  all_gone : (ms : Names) (len : ℕ) (gone : List ℕ) → AreDead t ms x.path len gone → length gone ≤ len → len ≤ length x.path
      → ((w : List ℕ) (m : ℕ) → number_of ms w ≡ Some m → number_of ns w ≡ Some m)
      → ((w : List ℕ) → (is_prefix w x.path ≡ true → length w ≤ len) → is_named ns w ≡ true → is_named ms w ≡ true)
      → ((w : List ℕ) → is_prefix w x.path ≡ true → len < length w → is_state less w ≡ false)
      → (left : ℕ) → left + length gone ≡ len → (w : List ℕ) → is_prefix w x.path ≡ true → left < length w → is_state less w ≡ false
  all_gone ms len [] dead few l numbers still done left whole w e m = done w e (omega arith)
  all_gone ms len (n ∷ gone) dead few l numbers still done left whole w e m =
      all_gone (without_name ms n (take len x.path)) (len - 1) gone dead.1 (omega arith) (omega arith)
      (λ v k f. numbers v k (number_less ms n k (take len x.path) v f)) still_less done_less left (omega arith) w e m
    where
      still_less : (w : List ℕ) → (is_prefix w x.path ≡ true → length w ≤ len - 1) → is_named ns w ≡ true → is_named (without_name ms n (take len x.path)) w ≡ true
      still_less w short e = ap is_some (cond-false (same_path w (take len x.path)) None (ms.number w) (false_from_ne_true (same_path w (take len x.path)) (λ c.
          let same : w ≡ take len x.path = (same_path-Decides w (take len x.path)).0 c in
          let d = short (ap (λ v. is_prefix v x.path) same ∙ take_is_prefix x.path len) in
          let long : length w ≡ len = ap length same ∙ length-take-is x.path len l in
          omega arith)))
          ∙ still w (λ d. let s = short d in omega arith) e

      done_less : (w : List ℕ) → is_prefix w x.path ≡ true → len - 1 < length w → is_state less w ≡ false
      done_less w e m = elim (cases_lt len (length w)) [
        | inl a ↦ done w e a
        | inr a ↦
            let long : length w ≡ len = omega arith in
            ap (is_state less) (prefix_is_take w x.path e ∙ ap (λ k. take k x.path) long) ∙ dead_is_gone ms len n dead.0 l numbers still done
      ]

  -- ---- the names that are left are those of the states

  module _ (u : Tables) (gone : List ℕ) (s : HasShrunk ws t u x.path gone) where
    abbrev pub ms : Names
    ms = without_prefixes h.names x.path (length x.path) gone

    gone_is_none : (w : List ℕ) → is_prefix w x.path ≡ true → s.left < length w → is_state less w ≡ false
    gone_is_none =
        let whole = s.whole in
        all_gone ns (length x.path) gone s.dead (omega arith) (omega arith) (λ w m e. e) (λ w short e. e)
        (λ w e m. let l = length-prefix w x.path e in absurd (omega arith)) s.left whole

    -- the longest prefix that stays is a state
    last_stays : is_state less (take s.left x.path) ≡ true
    last_stays = by s.stays
      where
        longer : (i : ℕ) → is_named ms (take s.left x.path ++ i ∷ []) ≡ true → is_state less (take s.left x.path) ≡ true
        longer i e =
            let q = take s.left x.path ++ i ∷ [] in
            let k = and_parts (is_named ns q) (not (is_prefix q x.path && nat_lt s.left (length q))) (sym (s.paths q) ∙ e) in
            let long = length_more (take s.left x.path) i in
            let whole = s.whole in
            let size = length-take-is x.path s.left (omega arith) in
            let apart : is_prefix q x.path ≡ false = false_from_ne_true (is_prefix q x.path) (λ c.
            false≢true (sym (ap not (and_from (is_prefix q x.path) (nat_lt s.left (length q)) c (lt-ltb s.left (length q) (omega arith)))) ∙ k.1)) in
            states_have_prefixes less (take s.left x.path) (i ∷ []) (drop_leaves_states b.stmts x q apart ∙ sym (h.stored.worlds q) ∙ k.0)

        needed : (n : ℕ) → number_of ms (take s.left x.path) ≡ Some n → IsNeeded t ms (take s.left x.path) n → is_state less (take s.left x.path) ≡ true
        needed n e (by_row r) = row_makes_state n (take s.left x.path) (names.numbered (take s.left x.path) n (number_before ns x.path (length x.path) gone (take s.left x.path) n e)) r
        needed n e (by_longer l) = longer l.user l.named

        by : StaysState t ms (take s.left x.path) → is_state less (take s.left x.path) ≡ true
        by (as_root e) = ap (is_state less) e
        by (as_needed n e r) = needed n e r

    pub worlds_left : (w : List ℕ) → is_named ms w ≡ is_state less w
    worlds_left w = s.paths w ∙ elim (cases_Bool (is_prefix w x.path)) [
      | inr c ↦
          ap (λ o. is_named ns w && not (o && nat_lt s.left (length w))) c ∙ and_true (is_named ns w) ∙ h.stored.worlds w ∙ sym (drop_leaves_states b.stmts x w c)
      | inl c ↦ elim (cases_lt s.left (length w)) [
        | inl l ↦
            ap (λ o. is_named ns w && not (o && nat_lt s.left (length w))) c
            ∙ ap (λ o. is_named ns w && not o) (lt-ltb s.left (length w) l) ∙ and_false (is_named ns w) ∙ sym (gone_is_none w c l)
        | inr l ↦
            ap (λ o. is_named ns w && not (o && nat_lt s.left (length w))) c
            ∙ ap (λ o. is_named ns w && not o) (le-ltb s.left (length w) l) ∙ and_true (is_named ns w) ∙ h.stored.worlds w ∙ was_state w c
            ∙ sym (state_front less w (take s.left x.path) (shorter w c l) last_stays)
      ]
    ]
      where
        front_of_front : (k : ℕ) (w p : List ℕ) → is_prefix w p ≡ true → length w ≤ k → is_prefix w (take k p) ≡ true
        front_of_front k [] p e l = refl
        front_of_front k (i ∷ w) [] e l = absurd (false≢true e)
        front_of_front zero (i ∷ w) (j ∷ p) e l = absurd (omega arith)
        front_of_front (suc k) (i ∷ w) (j ∷ p) e l =
            let a = and_parts (nat_eq i j) (is_prefix w p) e in
            and_from (nat_eq i j) (is_prefix w (take k p)) a.0 (front_of_front k w p a.1 (omega arith))

        shorter : (w : List ℕ) → is_prefix w x.path ≡ true → length w ≤ s.left → is_prefix w (take s.left x.path) ≡ true
        shorter w c l = front_of_front s.left w x.path c l

    -- ---- and the rows are theirs

    pub fewer_worlds : (v : Tables) → SameOutside 6 10 t u → ClearsWorlds u v gone → SameBut (λ n. nat_eq n 11) u v → HasFewerWorlds v b x
    fewer_worlds v outside clears same = record {
      names = ms;
      tuples = h.tuples;
      stored = other_worlds_store b.stmts less b.stmts ns ms h.tuples t v (without_one b x) h.stored
          (states_still (λ n. nat_eq n 11) u v same _ ms refl refl refl refl refl s.states) worlds_left
          (gives_same val_codec v (all_cleared (row_for (keys_of b) less (path_of ns) h.tuples.tuple) gone) (row_for (keys_of b) less (path_of ms) h.tuples.tuple)
          (λ k f. gone_rows (keys_of b) less h.tuples.tuple ns x.path (length x.path) gone k)
          (clears (row_for (keys_of b) less (path_of ns) h.tuples.tuple) (gives_still in_worlds t u outside val_codec _ refl h.stored.rows)))
          (worlds_then_rows t u v outside same);
    }

pub count_worlds : (t u : Tables) (x : Stmt) (gone : List ℕ) → DropsStates t u x.path gone → CountsWorlds t x (length gone)
count_worlds t u x gone drops b h may =
    let s = drops (ws t b x h may) h.stored.states (belongs_parts b.catalog x may.belongs).users (h.stored.worlds x.path ∙ was_state t b x h may x.path (is_prefix_itself x.path)) in
    let less = without_statement b.stmts x in
    let whole = s.whole in
    let many : length x.path - s.left ≡ length gone = omega arith in
    let last = last_stays t b x h may u gone s in
    worlds_less b.stmts x may.valid.stmts.sorted may.there s.left (omega arith)
    (λ j l. state_front less (take j x.path) (take s.left x.path) (take_of_take j s.left x.path l) last)
    (λ j l m. gone_is_none t b x h may u gone s (take j x.path) (take_is_prefix x.path j) (let z = length-take-is x.path j m in omega arith))
    ∙ ap (λ n. world_count less + n) many
  where
    take_of_take : (j k : ℕ) (w : List ℕ) → j ≤ k → is_prefix (take j w) (take k w) ≡ true
    take_of_take zero k w l = refl
    take_of_take (suc j) zero w l = absurd (omega arith)
    take_of_take (suc j) (suc k) [] l = refl
    take_of_take (suc j) (suc k) (i ∷ w) l = and_from (nat_eq i i) (is_prefix (take j w) (take k w)) (eq-eqb i i refl) (take_of_take j k w (omega arith))

pub lose_worlds : (t u v : Tables) (x : Stmt) (gone : List ℕ) → DropsStates t u x.path gone → SameOutside 6 10 t u → ClearsWorlds u v gone → SameBut (λ n. nat_eq n 11) u v → LosesWorlds t v x
lose_worlds t u v x gone drops outside clears same b h may =
    fewer_worlds t b x h may u gone (drops (ws t b x h may) h.stored.states (belongs_parts b.catalog x may.belongs).users (h.stored.worlds x.path ∙ was_state t b x h may x.path (is_prefix_itself x.path)))
    v outside clears same

-- rows are counted as before where the tables of worlds have changed
pub rows_then : (t u v : Tables) (gone : ℕ) → SameOutside 6 10 t u → LosesRows u v gone → LosesRows t v gone
rows_then t u v gone outside loses f g n c l = loses f (gives_still in_worlds t u outside val_codec f refl g) n (rows_same t u n (λ k. outside 11 k refl) c) l

-- ---- what there is before worlds go

pub parted_over : (t : Tables) (x : Stmt) → SomeHasParted t x → InGrammar t
parted_over t x s = over_in_grammar s.base.stmts s.base.stmts s.parted.names s.parted.tuples t (without_one s.base x) s.parted.stored

pub parted_held : (t : Tables) (x : Stmt) → SomeHasParted t x → HoldSome t x.path
parted_held t x s = record { worlds = ws t s.base x s.parted s.may; states = s.parted.stored.states; own = (belongs_parts s.base.catalog x s.may.belongs).users }

pub parted_tuples : (t u : Tables) (x : Stmt) → SameOutside 6 10 t u → SomeHasParted t x → HaveTuples u
parted_tuples t u x outside s =
    tuples_still in_worlds t u outside refl refl (over_has_tuples s.base.stmts s.base.stmts s.parted.names s.parted.tuples t (without_one s.base x) s.parted.stored)

pub parted_apart : (t : Tables) (x : Stmt) → SomeHasParted t x → alternates x.path ≡ true
parted_apart t x s = (belongs_parts s.base.catalog x s.may.belongs).apart
