-- A row of a world that comes with it, and goes again where a statement of its path contradicts it. There is one at most.
use Rattle.std.proofs.Common.{◌≡◌, ◌≢◌, ◌∙◌, ℕ, ◌<◌, Bool, true, false, not, ◌&&◌, ◌||◌, nat_eq, List, [], ◌∷◌, ◌⊎◌, length, Option, Some, None, is_some, refl, sym, ap, subst, arith, inl, inr}
use Rattle.std.specs.List.{list_any}
use Rattle.std.specs.Option.{option_map}
use Rattle.std.specs.FinMap as tables
use Rattle.std.proofs.lemmas.Bool.{cases_Bool, and_parts, and_from, false≢true, false_from_ne_true, or_left, or_cases, cond-true, cond-false, eqb-true, eq-eqb, or_parts}
use Rattle.bdb_base.specs.Bases.{with_statement}
use Rattle.bdb_base.specs.Clash.{clash, key_of, same_key}
use Rattle.bdb_base.specs.OrderLemmas.{statement_exact}
use Rattle.bdb_base.specs.Same.{same_path, same_sign, same_tuple, same_values}
use Rattle.bdb_base.specs.SameLemmas.{same_path-Decides, same_sign-Decides, same_tuple-Decides, same_values-Decides}
use Rattle.bdb_base.specs.Segments.{is_prefix}
use Rattle.bdb_base.specs.States.{is_state}
use Rattle.bdb_base.specs.Worlds.{explicit, contradicted, stated, IsConsistent}
use Rattle.bdb_base.specs.declared.kinds.Sign.{Sign}
use Rattle.bdb_base.specs.declared.kinds.Sign.TheVariants.{Plus, Minus}
use Rattle.bdb_base.specs.declared.kinds.Stmt.{Stmt}
use Rattle.bdb_base.specs.declared.tuple.Tuple.{Tuple}
use Rattle.bdb_base.proofs.ClashLemmas.{same_tuple_turned}
use Rattle.bdb_base.proofs.SegmentLemmas.{differs_by_length}
use Rattle.bdb_base.proofs.SetLemmas.{list_any-put_in}
use Rattle.bdb_base.proofs.WorldLemmas.{nothing_stands, plain_inheritance, worlds_are_consistent}
use Rattle.bdb_base.proofs.OptionLemmas.{some_of, one_there}
use Rattle.bdb_keep.specs.Tables.{Tables}
use Rattle.bdb_paths.proofs.StateLemmas.{put_makes_states}
use Rattle.bdb_tables.specs.Codec.{place}
use Rattle.bdb_tables.specs.InUse.{ValKey, val_codec}
use Rattle.bdb_tables.specs.Marks.{mark_of}
use Rattle.bdb_tables.specs.Names.{Names, AreNames, path_of, number_of, is_named}
use Rattle.bdb_tables.specs.Rows.{Tuples, HoldsTuples, HoldsRows, row_for}
use Rattle.bdb_tables.proofs.SignLemmas.{put_unfelt}
use Rattle.bdb_val.specs.Settling.{row_key}
use Rattle.bdb_val.proofs.HeldLemmas.{held_names, right_row}
use Rattle.bdb_update.specs.Tallies.{vals_at}
use Rattle.bdb_update.proofs.BetweenLemmas.{IsLost}
use Rattle.bdb_update.proofs.RowLemmas.{marked_stated, stated_marked}

-- a beginning of a path is shorter, or the path itself
prefix_cases : (w p : List ℕ) → is_prefix w p ≡ true → (length w < length p) ⊎ (w ≡ p)
prefix_cases [] [] e = inr refl
prefix_cases [] (j ∷ p) e = inl (omega arith)
prefix_cases (i ∷ w) [] e = absurd (false≢true e)
prefix_cases (i ∷ w) (j ∷ p) e =
    let k = and_parts (nat_eq i j) (is_prefix w p) e in
    elim (prefix_cases w p k.1) [
      | inl l ↦ inl (omega arith)
      | inr s ↦ inr (ap (λ n. n ∷ w) (eqb-true i j k.0) ∙ ap (λ (v : List ℕ). j ∷ v) s)
    ]

module _ (keys : ℕ → ℕ) where
  -- ---- what one statement more takes away

  module _ (stmts : List Stmt) (x : Stmt) where
    abbrev next : List Stmt
    next = with_statement stmts x

    -- at a shorter path nothing is another
    says_none : (w : List ℕ) (p : Stmt → Bool) → length w < length x.path → list_any (λ z. same_path z.path w && p z) next ≡ list_any (λ z. same_path z.path w && p z) stmts
    says_none w p l = put_unfelt (λ z. same_path z.path w && p z) stmts x (ap (λ b. b && p x) (differs_by_length x.path w (λ e. omega arith)))

    -- nor in its world
    shorter : (w : List ℕ) → length w < length x.path → (y : Tuple) (s : Sign) → stated keys next w y s ≡ stated keys stmts w y s
    shorter [] l y s = says_none [] (λ z. same_tuple z.tuple y && same_sign z.sign s) l
    shorter (i ∷ w) l y s =
        ap (λ b. b || (stated keys next w y s && not (contradicted keys next (i ∷ w) y s))) (says_none (i ∷ w) (λ z. same_tuple z.tuple y && same_sign z.sign s) l)
        ∙ ap (λ b. explicit stmts (i ∷ w) y s || (b && not (contradicted keys next (i ∷ w) y s))) (shorter w (omega arith) y s)
        ∙ ap (λ b. explicit stmts (i ∷ w) y s || (stated keys stmts w y s && not b)) (says_none (i ∷ w) (λ z. clash keys y s z.tuple z.sign) l)

    -- another tuple of the statement's relation and key, which is plus
    pub record IsRival (y : Tuple) (s : Sign) : Type 0 where
      pub plus : s ≡ Plus
      pub like : same_key keys y x.tuple ≡ true

    kinds : (y : Tuple) (s r : Sign) → clash keys y s x.tuple r ≡ true → same_tuple y x.tuple ≡ false → IsRival y s
    kinds y Plus Plus c d = record { plus = refl; like = (and_parts (same_key keys y x.tuple) (not (same_tuple y x.tuple)) c).0 }
    kinds y Plus Minus c d = absurd (false≢true (sym d ∙ c))
    kinds y Minus Plus c d = absurd (false≢true (sym d ∙ c))
    kinds y Minus Minus c d = absurd (false≢true c)

    barred_by : (e d c : Bool) → (e || (d && not c)) ≡ false → d ≡ true → c ≡ true
    barred_by true d c h k = absurd (false≢true (sym h))
    barred_by false true true h k = refl
    barred_by false true false h k = absurd (false≢true (sym h))
    barred_by false false c h k = absurd (false≢true k)

    -- what the world of its path loses, where the path was no state
    lost_is_rival : (w : List ℕ) → x.path ≡ w → is_state stmts w ≡ false → (y : Tuple) (s : Sign) → stated keys stmts w y s ≡ true → ((r : Sign) → stated keys next w y r ≡ false) → IsRival y s
    lost_is_rival [] p n y s a b = absurd (false≢true (sym n))
    lost_is_rival (i ∷ w) p n y s a b =
        let under : stated keys stmts w y s ≡ true = sym (plain_inheritance keys stmts (i ∷ w) n y s) ∙ a in
        let long : length x.path ≡ length (i ∷ w) = ap (λ (v : List ℕ). length v) p in
        let still : stated keys next w y s ≡ true = shorter w (omega arith) y s ∙ under in
        let barred : contradicted keys next (i ∷ w) y s ≡ true = barred_by (explicit next (i ∷ w) y s) (stated keys next w y s) (contradicted keys next (i ∷ w) y s) (b s) still in
        let none : contradicted keys stmts (i ∷ w) y s ≡ false = nothing_stands stmts i w (λ z. clash keys y s z.tuple z.sign) n in
        let whole = sym (list_any-put_in statement_exact (λ z. same_path z.path (i ∷ w) && clash keys y s z.tuple z.sign) stmts x) ∙ barred in
        let clashes : clash keys y s x.tuple x.sign ≡ true =
        elim (or_cases (same_path x.path (i ∷ w) && clash keys y s x.tuple x.sign) (contradicted keys stmts (i ∷ w) y s) whole) [
          | inl c ↦ (and_parts (same_path x.path (i ∷ w)) (clash keys y s x.tuple x.sign) c).1
          | inr c ↦ absurd (false≢true (sym none ∙ c))
        ] in
        kinds y s x.sign clashes (same_tuple_turned y x.tuple ∙ apart)
      where
        apart : same_tuple x.tuple y ≡ false
        apart = false_from_ne_true (same_tuple x.tuple y) (λ e.
            let here : explicit next (i ∷ w) y x.sign ≡ true =
            list_any-put_in statement_exact (λ z. same_path z.path (i ∷ w) && (same_tuple z.tuple y && same_sign z.sign x.sign)) stmts x
            ∙ or_left (same_path x.path (i ∷ w) && (same_tuple x.tuple y && same_sign x.sign x.sign)) (explicit stmts (i ∷ w) y x.sign)
            (and_from (same_path x.path (i ∷ w)) (same_tuple x.tuple y && same_sign x.sign x.sign) ((same_path-Decides x.path (i ∷ w)).1 p)
            (and_from (same_tuple x.tuple y) (same_sign x.sign x.sign) e ((same_sign-Decides x.sign x.sign).1 refl))) in
            false≢true (sym (or_parts (explicit next (i ∷ w) y x.sign) (stated keys next w y x.sign && not (contradicted keys next (i ∷ w) y x.sign)) (b x.sign)).0 ∙ here))

    -- two tuples of one relation and key that a world has with plus are one
    rivals_are_one : IsConsistent keys stmts → (y z : Tuple) → stated keys stmts x.path y Plus ≡ true → stated keys stmts x.path z Plus ≡ true
        → same_key keys y x.tuple ≡ true → same_key keys z x.tuple ≡ true → y ≡ z
    rivals_are_one c y z a b k l =
        let m = and_parts (nat_eq y.rel x.tuple.rel) (same_values (key_of keys y) (key_of keys x.tuple)) k in
        let n = and_parts (nat_eq z.rel x.tuple.rel) (same_values (key_of keys z) (key_of keys x.tuple)) l in
        let rels = eqb-true y.rel x.tuple.rel m.0 ∙ sym (eqb-true z.rel x.tuple.rel n.0) in
        let one_key = (same_values-Decides (key_of keys y) (key_of keys x.tuple)).0 m.1 ∙ sym ((same_values-Decides (key_of keys z) (key_of keys x.tuple)).0 n.1) in
        let same : same_key keys y z ≡ true =
        and_from (nat_eq y.rel z.rel) (same_values (key_of keys y) (key_of keys z)) (eq-eqb y.rel z.rel rels) ((same_values-Decides (key_of keys y) (key_of keys z)).1 one_key) in
        let apart : (same_key keys y z && not (same_tuple y z)) ≡ false = worlds_are_consistent keys stmts c x.path y z Plus Plus a b in
        elim (cases_Bool (same_tuple y z)) [
          | inl e ↦ (same_tuple-Decides y z).0 e
          | inr e ↦ absurd (false≢true (sym apart ∙ and_from (same_key keys y z) (not (same_tuple y z)) same (ap not e)))
        ]

  -- ---- tables before worlds come, with them, and with the statement

  some_none : {X : Type 0} (v : X) → Some v ≡ None → ⊥
  some_none v e = cc

  none_is : {X : Type 0} (bytes : X → List ℕ) (o : Option X) → option_map bytes o ≡ None → o ≡ None
  none_is bytes None e = refl
  none_is bytes (Some v) e = absurd (some_none (bytes v) e)

  some_row : {X : Type 0} (bytes : X → List ℕ) (o : Option X) (r : List ℕ) → option_map bytes o ≡ Some r → is_some o ≡ true
  some_row bytes None r e = absurd (some_none r (sym e))
  some_row bytes (Some v) r e = refl

  -- Names of worlds and numbers of tuples that stay, and the rows of statements in them: before other worlds come, with these, and
  -- with a statement more, which brings them about.
  pub record AreStages (stmts : List Stmt) (x : Stmt) (t u v : Tables) : Type 0 where
    pub few : Names
    pub all : Names
    pub last : Names
    pub first_tuples : Tuples
    pub tuples : Tuples
    pub last_tuples : Tuples
    pub told : List Stmt
    pub told_first : List Stmt
    pub told_last : List Stmt
    pub consistent : IsConsistent keys stmts
    pub few_names : AreNames few
    pub all_names : AreNames all
    pub few_are : (w : List ℕ) → is_named few w ≡ is_state stmts w
    pub all_are : (w : List ℕ) → is_named all w ≡ is_state (with_statement stmts x) w
    pub first_held : HoldsTuples told_first first_tuples t
    pub held : HoldsTuples told tuples u
    pub last_held : HoldsTuples told_last last_tuples v
    pub first_rows : HoldsRows keys stmts (path_of few) first_tuples.tuple t
    pub rows : HoldsRows keys stmts (path_of all) tuples.tuple u
    pub last_rows : HoldsRows keys (with_statement stmts x) (path_of last) last_tuples.tuple v
    pub names_stay : (n : ℕ) (w : List ℕ) → path_of few n ≡ Some w → path_of all n ≡ Some w
    pub names_last : (n : ℕ) (w : List ℕ) → path_of all n ≡ Some w → path_of last n ≡ Some w
    pub tuples_stay : (n : ℕ) (y : Tuple) → first_tuples.tuple n ≡ Some y → tuples.tuple n ≡ Some y
    pub tuples_stood : (n : ℕ) (y : Tuple) → tuples.tuple n ≡ Some y → first_tuples.tuple n ≡ Some y
    pub tuples_last : (n : ℕ) (y : Tuple) → tuples.tuple n ≡ Some y → last_tuples.tuple n ≡ Some y

  module _ (stmts : List Stmt) (x : Stmt) (t u v : Tables) (s : AreStages stmts x t u v) where
    abbrev row_t : ValKey → Option (Sign × Bool)
    row_t = row_for keys stmts (path_of s.few) s.first_tuples.tuple

    abbrev row_u : ValKey → Option (Sign × Bool)
    row_u = row_for keys stmts (path_of s.all) s.tuples.tuple

    abbrev row_v : ValKey → Option (Sign × Bool)
    row_v = row_for keys (with_statement stmts x) (path_of s.last) s.last_tuples.tuple

    -- the row of a tuple in a named world, at each stage
    at_first : (k : ValKey) (w : List ℕ) (y : Tuple) → row_key keys k.0 k.3 y ≡ k → path_of s.few k.0 ≡ Some w → s.first_tuples.tuple k.3 ≡ Some y → row_t k ≡ mark_of keys stmts w y
    at_first k w y e p q = ap row_t (sym e) ∙ right_row keys stmts s.told_first s.few s.first_tuples t s.first_held k.0 w k.3 y p q

    at_all : (k : ValKey) (w : List ℕ) (y : Tuple) → row_key keys k.0 k.3 y ≡ k → path_of s.all k.0 ≡ Some w → s.tuples.tuple k.3 ≡ Some y → row_u k ≡ mark_of keys stmts w y
    at_all k w y e p q = ap row_u (sym e) ∙ right_row keys stmts s.told s.all s.tuples u s.held k.0 w k.3 y p q

    -- a row of the world of the statement's path, which the statement contradicts
    pub record IsRivalRow (p : List ℕ) : Type 0 where
      pub key : ValKey
      pub tuple : Tuple
      pub spelled : place val_codec key ≡ p
      pub keyed : row_key keys key.0 key.3 tuple ≡ key
      pub world : path_of s.all key.0 ≡ Some x.path
      pub named : s.tuples.tuple key.3 ≡ Some tuple
      pub plus : stated keys stmts x.path tuple Plus ≡ true
      pub like : same_key keys tuple x.tuple ≡ true

    pub rival_rows_are_one : (p q : List ℕ) → IsRivalRow p → IsRivalRow q → p ≡ q
    rival_rows_are_one p q a b =
        let worlds : a.key.0 ≡ b.key.0 = one_there a.key.0 b.key.0 (number_of s.all x.path) (s.all_names.named a.key.0 x.path a.world) (s.all_names.named b.key.0 x.path b.world) in
        let one : a.tuple ≡ b.tuple = rivals_are_one stmts x s.consistent a.tuple b.tuple a.plus b.plus a.like b.like in
        let numbers : a.key.3 ≡ b.key.3 = one_there a.key.3 b.key.3 (s.tuples.number a.tuple) (s.held.named a.key.3 a.tuple a.named)
        (ap s.tuples.number one ∙ s.held.named b.key.3 b.tuple b.named) in
        let same_key_made : a.key ≡ b.key = sym a.keyed ∙ ap (λ n. row_key keys n a.key.3 a.tuple) worlds ∙ ap (λ n. row_key keys b.key.0 n a.tuple) numbers ∙ ap (row_key keys b.key.0 b.key.3) one ∙ b.keyed in
        sym a.spelled ∙ ap (place val_codec) same_key_made ∙ b.spelled

    -- ---- a row that came and went

    module _ (k : ValKey) (w : List ℕ) (y : Tuple) (e : row_key keys k.0 k.3 y ≡ k) (p : path_of s.all k.0 ≡ Some w) (q : s.tuples.tuple k.3 ≡ Some y)
        (none : row_t k ≡ None) (here : is_some (row_u k) ≡ true) (gone : row_v k ≡ None) where
      -- its world is a new one
      not_before : (z : List ℕ) → path_of s.few k.0 ≡ Some z → ⊥
      not_before z a =
          let same : w ≡ z = one_there w z (path_of s.all k.0) p (s.names_stay k.0 z a) in
          let b = at_first k z y e a (s.tuples_stood k.3 y q) in
          let c = at_all k z y e (p ∙ ap Some same) q in
          false≢true (ap is_some (sym none ∙ b ∙ sym c) ∙ here)

      no_state : is_state stmts w ≡ false
      no_state = false_from_ne_true (is_state stmts w) (λ a.
          let n = some_of (number_of s.few w) (s.few_are w ∙ a) in
          let b = s.few_names.numbered w n.0 n.1 in
          let one : n.0 ≡ k.0 = one_there n.0 k.0 (number_of s.all w) (s.all_names.named n.0 w (s.names_stay n.0 w b)) (s.all_names.named k.0 w p) in
          not_before w (ap (path_of s.few) (sym one) ∙ b))

      on_the_way : is_prefix w x.path ≡ true
      on_the_way =
          let a : is_state (with_statement stmts x) w ≡ true = sym (s.all_are w) ∙ ap is_some (s.all_names.named k.0 w p) in
          elim (or_cases (is_prefix w x.path) (is_state stmts w) (sym (put_makes_states stmts x w) ∙ a)) [
            | inl b ↦ b
            | inr b ↦ absurd (false≢true (sym no_state ∙ b))
          ]

      sign : (r : Sign) × (stated keys stmts w y r ≡ true)
      sign = marked_stated keys stmts w y (ap is_some (sym (at_all k w y e p q)) ∙ here)

      lost : (r : Sign) → stated keys (with_statement stmts x) w y r ≡ false
      lost r = false_from_ne_true (stated keys (with_statement stmts x) w y r) (λ a.
          let b : row_v k ≡ mark_of keys (with_statement stmts x) w y =
          ap row_v (sym e) ∙ right_row keys (with_statement stmts x) s.told_last s.last s.last_tuples v s.last_held k.0 w k.3 y (s.names_last k.0 w p) (s.tuples_last k.3 y q) in
          false≢true (ap is_some (sym gone ∙ b) ∙ stated_marked keys (with_statement stmts x) w y r a))

      whole : x.path ≡ w
      whole = elim (prefix_cases w x.path on_the_way) [
        | inl l ↦ absurd (false≢true (sym (lost sign.0) ∙ shorter stmts x w l y sign.0 ∙ sign.1))
        | inr a ↦ sym a
      ]

      rival : IsRival stmts x y sign.0
      rival = lost_is_rival stmts x w whole no_state y sign.0 sign.1 lost

      pub rival_row : (j : List ℕ) → place val_codec k ≡ j → IsRivalRow j
      rival_row j spelled = record {
        key = k;
        tuple = y;
        spelled = spelled;
        keyed = e;
        world = p ∙ ap Some (sym whole);
        named = q;
        plus = ap (λ (z : List ℕ). stated keys stmts z y Plus) whole ∙ ap (stated keys stmts w y) (sym rival.plus) ∙ sign.1;
        like = rival.like;
      }

    -- ---- each place that is in the end as it was

    module _ (j : List ℕ) (same : tables.get t (11 ∷ j) ≡ tables.get v (11 ∷ j)) (other : tables.get t (11 ∷ j) ≢ tables.get u (11 ∷ j)) where
      -- a row of a world that there was stays as it is
      stayed : (r : List ℕ) → tables.get t (11 ∷ j) ≡ Some r → IsRivalRow (11 ∷ j)
      stayed r a =
          let entry = s.first_rows.fits j r a in
          let k = entry.key in
          let fits = entry.key_reads.fits in
          let at : place val_codec k ≡ 11 ∷ j = ap (λ (z : List ℕ). 11 ∷ z) entry.key_reads.spelled in
          let there = some_row val_codec.row_bytes (row_t k) r (sym (s.first_rows.rows k fits) ∙ ap (tables.get t) at ∙ a) in
          let named = held_names keys stmts s.told_first s.few s.first_tuples t s.first_held k there in
          let w = some_of (path_of s.few k.0) named.0 in
          let rows_are : row_u k ≡ row_t k =
          at_all k w.0 named.1.0 named.1.2 (s.names_stay k.0 w.0 w.1) (s.tuples_stay k.3 named.1.0 named.1.1) ∙ sym (at_first k w.0 named.1.0 named.1.2 w.1 named.1.1) in
          absurd (other (ap (tables.get t) (sym at) ∙ s.first_rows.rows k fits ∙ ap (option_map val_codec.row_bytes) (sym rows_are) ∙ sym (s.rows.rows k fits) ∙ ap (tables.get u) at))

      came : (r : List ℕ) → tables.get t (11 ∷ j) ≡ None → tables.get u (11 ∷ j) ≡ Some r → IsRivalRow (11 ∷ j)
      came r a b =
          let entry = s.rows.fits j r b in
          let k = entry.key in
          let fits = entry.key_reads.fits in
          let at : place val_codec k ≡ 11 ∷ j = ap (λ (z : List ℕ). 11 ∷ z) entry.key_reads.spelled in
          let here = some_row val_codec.row_bytes (row_u k) r (sym (s.rows.rows k fits) ∙ ap (tables.get u) at ∙ b) in
          let named = held_names keys stmts s.told s.all s.tuples u s.held k here in
          let w = some_of (path_of s.all k.0) named.0 in
          let none = none_is val_codec.row_bytes (row_t k) (sym (s.first_rows.rows k fits) ∙ ap (tables.get t) at ∙ a) in
          let gone = none_is val_codec.row_bytes (row_v k) (sym (s.last_rows.rows k fits) ∙ ap (tables.get v) at ∙ sym same ∙ a) in
          rival_row k w.0 named.1.0 named.1.2 w.1 named.1.1 none here gone (11 ∷ j) at

      row_of_rival : IsRivalRow (11 ∷ j)
      row_of_rival = by (tables.get t (11 ∷ j)) (tables.get u (11 ∷ j)) refl refl
        where
          by : (m n : Option (List ℕ)) → tables.get t (11 ∷ j) ≡ m → tables.get u (11 ∷ j) ≡ n → IsRivalRow (11 ∷ j)
          by (Some r) n a b = stayed r a
          by None None a b = absurd (other (a ∙ sym b))
          by None (Some r) a b = came r a b

    lost_row : (p : List ℕ) → vals_at t p ≡ vals_at v p → vals_at t p ≢ vals_at u p → IsRivalRow p
    lost_row [] a n = absurd (n refl)
    lost_row (m ∷ j) a n = elim (cases_Bool (nat_eq m 11)) [
      | inr e ↦ absurd (n (cond-false (nat_eq m 11) (tables.get t (m ∷ j)) None e ∙ sym (cond-false (nat_eq m 11) (tables.get u (m ∷ j)) None e)))
      | inl e ↦
          subst (λ i. IsRivalRow (i ∷ j)) (sym (eqb-true m 11 e)) (row_of_rival j (at t e ∙ a ∙ sym (at v e)) (λ f. n (sym (at t e) ∙ f ∙ at u e)))
    ]
      where
        at : (z : Tables) → nat_eq m 11 ≡ true → tables.get z (11 ∷ j) ≡ vals_at z (m ∷ j)
        at z e = ap (λ i. tables.get z (i ∷ j)) (sym (eqb-true m 11 e)) ∙ sym (cond-true (nat_eq m 11) (tables.get z (m ∷ j)) None e)

    pub one_lost : (p q : List ℕ) → IsLost (vals_at t) (vals_at u) (vals_at v) p → IsLost (vals_at t) (vals_at u) (vals_at v) q → p ≡ q
    one_lost p q a b = rival_rows_are_one p q (lost_row p a.same a.other) (lost_row q b.same b.other)

    -- and the other way round
    pub one_found : (p q : List ℕ) → IsLost (vals_at v) (vals_at u) (vals_at t) p → IsLost (vals_at v) (vals_at u) (vals_at t) q → p ≡ q
    one_found p q a b = rival_rows_are_one p q (lost_row p (sym a.same) (λ e. a.other (a.same ∙ e))) (lost_row q (sym b.same) (λ e. b.other (b.same ∙ e)))
