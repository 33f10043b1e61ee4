-- Rows that begin with a number, as what a table has.
use Rattle.std.proofs.Common.{◌≡◌, ◌∙◌, ℕ, Bool, true, false, not, ◌&&◌, ◌||◌, nat_eq, cond, List, [], ◌∷◌, ◌++◌, refl, ap, sym, subst, inl, inr, map, append_assoc, Option, Some, None, is_some}
use Rattle.std.specs.Prelude.{MatchOption}
use Rattle.std.specs.Option.{option_map}
use Rattle.std.specs.List.{AllByRecursion, list_any, list_all}
use Rattle.std.specs.Ordering.{is_eq, is_lt, eq_by_cmp}
use Rattle.std.specs.declared.cmp.Ordering.{Ordering}
use Rattle.std.specs.declared.cmp.Ordering.TheVariants.{Less, Equal, Greater}
use Rattle.std.specs.FinMap.{find}
use Rattle.std.proofs.lemmas.Bool.{and_parts, and_from, or_from, or_cases, false≢true, eqb-true, eq-eqb}
use Rattle.bdb_base.specs.Segments.{is_prefix}
use Rattle.bdb_base.specs.SortedSet.{ascending}
use Rattle.bdb_base.specs.Causes.{is_listed}
use Rattle.bdb_keep.specs.Tables.{Tables, bytes_cmp}
use Rattle.bdb_key.specs.Bytes.{num_bytes}
use Rattle.bdb_key.specs.Grammar.{IsNum}
use Rattle.bdb_key.proofs.Alone.{number_begins}
use Rattle.bdb_tables.specs.Codec.{Codec, KeepsOrder, HasOneRow}
use Rattle.bdb_tables.specs.InUse.{IsPair, pair_bytes, triple_bytes, linked_codec, edge_codec, led_codec}
use Rattle.bdb_tables.specs.InUseLaws.{pairs_in_order, triples_in_order, number_rows_are_one, empty_rows_are_one}
use Rattle.bdb_tables.specs.Names.{are_once, leads_to}
use Rattle.bdb_tables.specs.Spans.{AreUnder, IsUnder, entry_bytes, entry_cmp}
use Rattle.bdb_tables.specs.States.{row_where}
use Rattle.bdb_tables.specs.Writes.{Gives}
use Rattle.bdb_tables.proofs.ListLemmas.{prefix_append}
use Rattle.bdb_names.specs.Turned.{look, same_edge}
use Rattle.bdb_names.proofs.TurnedLemmas.{pair_eq, triple_eq}
use Rattle.bdb_worlds.specs.Dropping.{pairs_of, kids_of, edges_in_rows}

-- ---- any table

module _ {Key Row : Type 0} (c : Codec Key Row) (order : KeepsOrder c) where
  -- the row of a key among entries
  abbrev pub row_in : List (Key × Row) → Key → Option Row
  row_in [] key = None
  row_in (e ∷ es) key = cond (is_eq (c.key_cmp key e.0)) (Some e.1) (row_in es key)

  found_in : (prefix : List ℕ) (es : List (Key × Row)) (key : Key) → c.IsKey key → AllByRecursion (IsUnder c prefix) es
      → find bytes_cmp (c.key_bytes key) (map (entry_bytes c) es) ≡ option_map c.row_bytes (row_in es key)
  found_in prefix [] key fits each = refl
  found_in prefix (e ∷ es) key fits each =
      ap (λ o. cond (is_eq o) (Some (c.row_bytes e.1)) (find bytes_cmp (c.key_bytes key) (map (entry_bytes c) es))) (order key e.0 fits each.0.key)
      ∙ ap (λ o. cond (is_eq (c.key_cmp key e.0)) (Some (c.row_bytes e.1)) o) (found_in prefix es key fits each.1)
      ∙ picked (is_eq (c.key_cmp key e.0)) (Some e.1) (row_in es key)
    where
      picked : (b : Bool) (x y : Option Row) → cond b (option_map c.row_bytes x) (option_map c.row_bytes y) ≡ option_map c.row_bytes (cond b x y)
      picked true x y = refl
      picked false x y = refl

  in_fits : (prefix : List ℕ) (es : List (Key × Row)) (key : Key) → AllByRecursion (IsUnder c prefix) es → MatchOption (row_in es key) (Unit {0}) c.IsRow
  in_fits prefix [] key each = tt
  in_fits prefix (e ∷ es) key each = by (is_eq (c.key_cmp key e.0)) (in_fits prefix es key each.1)
    where
      by : (b : Bool) → MatchOption (row_in es key) (Unit {0}) c.IsRow → MatchOption (cond b (Some e.1) (row_in es key)) (Unit {0}) c.IsRow
      by true h = each.0.row
      by false h = h

  same_row : HasOneRow c → (x y : Option Row) → MatchOption x (Unit {0}) c.IsRow → MatchOption y (Unit {0}) c.IsRow → option_map c.row_bytes x ≡ option_map c.row_bytes y → x ≡ y
  same_row one None None fx fy e = refl
  same_row one None (Some y) fx fy e = absurd cc
  same_row one (Some x) None fx fy e = absurd cc
  same_row one (Some x) (Some y) fx fy e = let b : c.row_bytes x ≡ c.row_bytes y = cc in ap Some (one x y fx fy b)

  -- what a table has at a key that begins so is what its rows have there
  pub under_is : HasOneRow c → (t : Tables) (f : Key → Option Row) → Gives c t f → (prefix : List ℕ) (es : List (Key × Row)) → AreUnder c t prefix es
      → (key : Key) → c.IsKey key → is_prefix prefix (c.key_bytes key) ≡ true → row_in es key ≡ f key
  under_is one t f h prefix es under key fits begins =
      same_row one (row_in es key) (f key) (in_fits prefix es key under.each) (h.written key fits)
      (sym (found_in prefix es key fits under.each) ∙ sym (under.found (c.key_bytes key) begins) ∙ h.rows key fits)

-- ---- keys that begin with a number

-- an earlier key is another
earlier_differs : (a b : List ℕ) → is_lt (bytes_cmp a b) ≡ true → eq_by_cmp bytes_cmp a b ≡ false
earlier_differs a b e = by (bytes_cmp a b) e
  where
    by : (o : Ordering) → is_lt o ≡ true → is_eq o ≡ false
    by Less h = refl
    by Equal h = absurd (false≢true h)
    by Greater h = refl

-- a world and a user are among these
abbrev pub is_pair : ℕ × ℕ → List (ℕ × ℕ) → Bool
is_pair k ks = list_any (same_edge k) ks

-- no world and user come twice
abbrev pub are_pairs_once : List (ℕ × ℕ) → Bool
are_pairs_once [] = true
are_pairs_once (k ∷ ks) = not (is_pair k ks) && are_pairs_once ks

module _ (t : Tables) (n : ℕ) (fits : IsNum n) where
  -- ---- links that lead to the number

  kid_first : (e : (ℕ × ℕ) × Unit {0}) → IsUnder linked_codec (num_bytes n) e → e.0.0 ≡ n
  kid_first e u = number_begins n e.0.0 (num_bytes e.0.1) fits u.key.first u.begins

  kids_listed : (es : List ((ℕ × ℕ) × Unit {0})) (k : ℕ) → AllByRecursion (IsUnder linked_codec (num_bytes n)) es → is_listed k (kids_of es) ≡ is_some (row_in linked_codec pairs_in_order es (n, k))
  kids_listed [] k each = refl
  kids_listed (e ∷ es) k each =
      let first : nat_eq n e.0.0 ≡ true = eq-eqb n e.0.0 (sym (kid_first e each.0)) in
      let test : is_eq (linked_codec.key_cmp (n, k) e.0) ≡ nat_eq k e.0.1 = pair_eq (n, k) e.0 ∙ ap (λ b. b && nat_eq k e.0.1) first in
      ap (λ b. nat_eq k e.0.1 || b) (kids_listed es k each.1) ∙ by (nat_eq k e.0.1) e.1 (row_in linked_codec pairs_in_order es (n, k))
      ∙ ap (λ b. is_some (cond b (Some e.1) (row_in linked_codec pairs_in_order es (n, k)))) (sym test)
    where
      by : (b : Bool) (x : Unit {0}) (o : Option (Unit {0})) → (b || is_some o) ≡ is_some (cond b (Some x) o)
      by true x o = refl
      by false x o = refl

  there_is : (b : Bool) → is_some (row_where b) ≡ b
  there_is true = refl
  there_is false = refl

  pub kids_are : (l : ℕ → Option ℕ) → Gives linked_codec t (λ q. row_where (leads_to (l q.1) q.0)) → (es : List ((ℕ × ℕ) × Unit {0})) → AreUnder linked_codec t (num_bytes n) es
      → (k : ℕ) → IsNum k → is_listed k (kids_of es) ≡ leads_to (l k) n
  kids_are l h es under k fk =
      kids_listed es k under.each
      ∙ ap is_some (under_is linked_codec pairs_in_order empty_rows_are_one t _ h (num_bytes n) es under (n, k) (record { first = fits; second = fk }) (prefix_append (num_bytes n) (num_bytes k)))
      ∙ there_is (leads_to (l k) n)

  pub kids_sized : (es : List ((ℕ × ℕ) × Unit {0})) → AllByRecursion (IsUnder linked_codec (num_bytes n)) es → (k : ℕ) → is_listed k (kids_of es) ≡ true → IsNum k
  kids_sized [] each k h = absurd (false≢true h)
  kids_sized (e ∷ es) each k h = elim (or_cases (nat_eq k e.0.1) (is_listed k (kids_of es)) h) [
    | inl s ↦ subst IsNum (sym (eqb-true k e.0.1 s)) each.0.key.second
    | inr s ↦ kids_sized es each.1 k s
  ]

  pub kids_once : (es : List ((ℕ × ℕ) × Unit {0})) → AllByRecursion (IsUnder linked_codec (num_bytes n)) es → ascending (entry_cmp linked_codec) es ≡ true → are_once (kids_of es) ≡ true
  kids_once [] each sorted = refl
  kids_once (e ∷ es) each sorted =
      let s = and_parts (list_all (λ d. is_lt (entry_cmp linked_codec e d)) es) (ascending (entry_cmp linked_codec) es) sorted in
      and_from (not (is_listed e.0.1 (kids_of es))) (are_once (kids_of es)) (ap not (none es each.1 s.0)) (kids_once es each.1 s.1)
    where
      none : (ds : List ((ℕ × ℕ) × Unit {0})) → AllByRecursion (IsUnder linked_codec (num_bytes n)) ds → list_all (λ d. is_lt (entry_cmp linked_codec e d)) ds ≡ true → is_listed e.0.1 (kids_of ds) ≡ false
      none [] f l = refl
      none (d ∷ ds) f l =
          let p = and_parts (is_lt (entry_cmp linked_codec e d)) (list_all (λ x. is_lt (entry_cmp linked_codec e x)) ds) l in
          let first : nat_eq e.0.0 d.0.0 ≡ true = eq-eqb e.0.0 d.0.0 (kid_first e each.0 ∙ sym (kid_first d f.0)) in
          let other : nat_eq e.0.1 d.0.1 ≡ false =
          ap (λ b. b && nat_eq e.0.1 d.0.1) (sym first) ∙ sym (pair_eq e.0 d.0) ∙ sym (ap is_eq (pairs_in_order e.0 d.0 each.0.key f.0.key)) ∙ earlier_differs (pair_bytes e.0) (pair_bytes d.0) p.0 in
          or_from (nat_eq e.0.1 d.0.1) (is_listed e.0.1 (kids_of ds)) other (none ds f.1 p.1)

  -- ---- edges that lead to the number

  led_first : (e : (ℕ × ℕ × ℕ) × Unit {0}) → IsUnder led_codec (num_bytes n) e → e.0.0 ≡ n
  led_first e u = number_begins n e.0.0 (num_bytes e.0.1 ++ num_bytes e.0.2) fits u.key.first (begins_as u.begins)
    where
      begins_as : is_prefix (num_bytes n) (triple_bytes e.0) ≡ true → is_prefix (num_bytes n) (num_bytes e.0.0 ++ (num_bytes e.0.1 ++ num_bytes e.0.2)) ≡ true
      begins_as h = ap (is_prefix (num_bytes n)) (sym (append_assoc (num_bytes e.0.0) (num_bytes e.0.1) (num_bytes e.0.2))) ∙ h

  pairs_listed : (es : List ((ℕ × ℕ × ℕ) × Unit {0})) (k : ℕ × ℕ) → AllByRecursion (IsUnder led_codec (num_bytes n)) es → is_pair k (pairs_of es) ≡ is_some (row_in led_codec triples_in_order es (n, k.0, k.1))
  pairs_listed [] k each = refl
  pairs_listed (e ∷ es) k each =
      let first : nat_eq n e.0.0 ≡ true = eq-eqb n e.0.0 (sym (led_first e each.0)) in
      let own = same_edge k (e.0.1, e.0.2) in
      let test : is_eq (led_codec.key_cmp (n, k.0, k.1) e.0) ≡ own = triple_eq (n, k.0, k.1) e.0 ∙ ap (λ b. b && own) first in
      ap (λ b. own || b) (pairs_listed es k each.1) ∙ by own e.1 (row_in led_codec triples_in_order es (n, k.0, k.1))
      ∙ ap (λ b. is_some (cond b (Some e.1) (row_in led_codec triples_in_order es (n, k.0, k.1)))) (sym test)
    where
      by : (b : Bool) (x : Unit {0}) (o : Option (Unit {0})) → (b || is_some o) ≡ is_some (cond b (Some x) o)
      by true x o = refl
      by false x o = refl

  pub pairs_are : (f : ℕ × ℕ → Option ℕ) → Gives led_codec t (λ q. row_where (leads_to (f (q.1, q.2)) q.0)) → (es : List ((ℕ × ℕ × ℕ) × Unit {0})) → AreUnder led_codec t (num_bytes n) es
      → (k : ℕ × ℕ) → IsPair k → is_pair k (pairs_of es) ≡ leads_to (f k) n
  pairs_are f h es under k fk =
      pairs_listed es k under.each
      ∙ ap is_some (under_is led_codec triples_in_order empty_rows_are_one t _ h (num_bytes n) es under (n, k.0, k.1) (record { first = fits; second = fk.first; third = fk.second })
      (ap (is_prefix (num_bytes n)) (append_assoc (num_bytes n) (num_bytes k.0) (num_bytes k.1)) ∙ prefix_append (num_bytes n) (num_bytes k.0 ++ num_bytes k.1)))
      ∙ there_is (leads_to (f k) n)

  pub pairs_sized : (es : List ((ℕ × ℕ × ℕ) × Unit {0})) → AllByRecursion (IsUnder led_codec (num_bytes n)) es → AllByRecursion IsPair (pairs_of es)
  pairs_sized [] each = tt
  pairs_sized (e ∷ es) each = (record { first = each.0.key.second; second = each.0.key.third }, pairs_sized es each.1)

  pub pairs_once : (es : List ((ℕ × ℕ × ℕ) × Unit {0})) → AllByRecursion (IsUnder led_codec (num_bytes n)) es → ascending (entry_cmp led_codec) es ≡ true → are_pairs_once (pairs_of es) ≡ true
  pairs_once [] each sorted = refl
  pairs_once (e ∷ es) each sorted =
      let s = and_parts (list_all (λ d. is_lt (entry_cmp led_codec e d)) es) (ascending (entry_cmp led_codec) es) sorted in
      and_from (not (is_pair (e.0.1, e.0.2) (pairs_of es))) (are_pairs_once (pairs_of es)) (ap not (none es each.1 s.0)) (pairs_once es each.1 s.1)
    where
      none : (ds : List ((ℕ × ℕ × ℕ) × Unit {0})) → AllByRecursion (IsUnder led_codec (num_bytes n)) ds → list_all (λ d. is_lt (entry_cmp led_codec e d)) ds ≡ true → is_pair (e.0.1, e.0.2) (pairs_of ds) ≡ false
      none [] f l = refl
      none (d ∷ ds) f l =
          let p = and_parts (is_lt (entry_cmp led_codec e d)) (list_all (λ x. is_lt (entry_cmp led_codec e x)) ds) l in
          let own = same_edge (e.0.1, e.0.2) (d.0.1, d.0.2) in
          let first : nat_eq e.0.0 d.0.0 ≡ true = eq-eqb e.0.0 d.0.0 (led_first e each.0 ∙ sym (led_first d f.0)) in
          let other : own ≡ false =
          ap (λ b. b && own) (sym first) ∙ sym (triple_eq e.0 d.0) ∙ sym (ap is_eq (triples_in_order e.0 d.0 each.0.key f.0.key)) ∙ earlier_differs (triple_bytes e.0) (triple_bytes d.0) p.0 in
          or_from own (is_pair (e.0.1, e.0.2) (pairs_of ds)) other (none ds f.1 p.1)

  -- ---- edges of the number

  own_first : (e : (ℕ × ℕ) × ℕ) → IsUnder edge_codec (num_bytes n) e → e.0.0 ≡ n
  own_first e u = number_begins n e.0.0 (num_bytes e.0.1) fits u.key.first u.begins

  edges_looked : (es : List ((ℕ × ℕ) × ℕ)) (j : ℕ) → AllByRecursion (IsUnder edge_codec (num_bytes n)) es → look (edges_in_rows es) j ≡ row_in edge_codec pairs_in_order es (n, j)
  edges_looked [] j each = refl
  edges_looked (e ∷ es) j each =
      let first : nat_eq n e.0.0 ≡ true = eq-eqb n e.0.0 (sym (own_first e each.0)) in
      let test : is_eq (edge_codec.key_cmp (n, j) e.0) ≡ nat_eq j e.0.1 = pair_eq (n, j) e.0 ∙ ap (λ b. b && nat_eq j e.0.1) first in
      ap (λ o. cond (nat_eq j e.0.1) (Some e.1) o) (edges_looked es j each.1) ∙ ap (λ b. cond b (Some e.1) (row_in edge_codec pairs_in_order es (n, j))) (sym test)

  pub edges_are : (f : ℕ × ℕ → Option ℕ) → Gives edge_codec t f → (es : List ((ℕ × ℕ) × ℕ)) → AreUnder edge_codec t (num_bytes n) es → (j : ℕ) → IsNum j → look (edges_in_rows es) j ≡ f (n, j)
  edges_are f h es under j fj =
      edges_looked es j under.each
      ∙ under_is edge_codec pairs_in_order number_rows_are_one t f h (num_bytes n) es under (n, j) (record { first = fits; second = fj }) (prefix_append (num_bytes n) (num_bytes j))

  pub edges_sized : (es : List ((ℕ × ℕ) × ℕ)) → AllByRecursion (IsUnder edge_codec (num_bytes n)) es → AllByRecursion (λ x. IsNum x.0 × IsNum x.1) (edges_in_rows es)
  edges_sized [] each = tt
  edges_sized (e ∷ es) each = ((each.0.key.second, each.0.row), edges_sized es each.1)

  pub edges_once : (es : List ((ℕ × ℕ) × ℕ)) → AllByRecursion (IsUnder edge_codec (num_bytes n)) es → ascending (entry_cmp edge_codec) es ≡ true → are_once (map (λ x. x.0) (edges_in_rows es)) ≡ true
  edges_once [] each sorted = refl
  edges_once (e ∷ es) each sorted =
      let s = and_parts (list_all (λ d. is_lt (entry_cmp edge_codec e d)) es) (ascending (entry_cmp edge_codec) es) sorted in
      and_from (not (is_listed e.0.1 (map (λ x. x.0) (edges_in_rows es)))) (are_once (map (λ x. x.0) (edges_in_rows es))) (ap not (none es each.1 s.0)) (edges_once es each.1 s.1)
    where
      none : (ds : List ((ℕ × ℕ) × ℕ)) → AllByRecursion (IsUnder edge_codec (num_bytes n)) ds → list_all (λ d. is_lt (entry_cmp edge_codec e d)) ds ≡ true → is_listed e.0.1 (map (λ x. x.0) (edges_in_rows ds)) ≡ false
      none [] f l = refl
      none (d ∷ ds) f l =
          let p = and_parts (is_lt (entry_cmp edge_codec e d)) (list_all (λ x. is_lt (entry_cmp edge_codec e x)) ds) l in
          let first : nat_eq e.0.0 d.0.0 ≡ true = eq-eqb e.0.0 d.0.0 (own_first e each.0 ∙ sym (own_first d f.0)) in
          let other : nat_eq e.0.1 d.0.1 ≡ false =
          ap (λ b. b && nat_eq e.0.1 d.0.1) (sym first) ∙ sym (pair_eq e.0 d.0) ∙ sym (ap is_eq (pairs_in_order e.0 d.0 each.0.key f.0.key)) ∙ earlier_differs (pair_bytes e.0) (pair_bytes d.0) p.0 in
          or_from (nat_eq e.0.1 d.0.1) (is_listed e.0.1 (map (λ x. x.0) (edges_in_rows ds))) other (none ds f.1 p.1)
