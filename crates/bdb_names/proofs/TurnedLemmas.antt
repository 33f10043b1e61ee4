-- What tables have after links and edges have changed.
use Rattle.std.proofs.Common.{◌≡◌, ◌∙◌, ℕ, Bool, true, false, ◌&&◌, nat_eq, cond, refl, ap, sym, subst, inl, inr, Option, Some, None}
use Rattle.std.specs.Prelude.{MatchOption}
use Rattle.std.specs.Ordering.{is_eq, nat_cmp, ordering_then}
use Rattle.std.proofs.lemmas.Bool.{cases_Bool, and_parts, and_right, eqb-true, eq-eqb, ne_eqb, eqb-false}
use Rattle.bdb_base.specs.OrderLemmas.{is_eq_nat_cmp, is_eq-then}
use Rattle.bdb_keep.specs.Tables.{Tables}
use Rattle.bdb_key.specs.Grammar.{IsNum}
use Rattle.bdb_tables.specs.Codec.{Codec}
use Rattle.bdb_tables.specs.InUse.{IsPair, depth_codec, link_codec, linked_codec, edge_codec, led_codec}
use Rattle.bdb_tables.specs.InUseLaws.{numbers_in_order, pairs_in_order, triples_in_order}
use Rattle.bdb_tables.specs.Names.{leads_to}
use Rattle.bdb_tables.specs.States.{TablesAre, row_where}
use Rattle.bdb_tables.specs.Writes.{Gives, with_change, with_row_at}
use Rattle.bdb_tables.proofs.WriteLemmas.{change_gives, change_elsewhere, gives_same}
use Rattle.bdb_names.specs.Turned.{unlinked, linked, link_set, with_link, unled, led, edge_set, same_edge, with_edge}

-- ---- equal keys

pub pair_eq : (a b : ℕ × ℕ) → is_eq (ordering_then (nat_cmp a.0 b.0) (nat_cmp a.1 b.1)) ≡ (nat_eq a.0 b.0 && nat_eq a.1 b.1)
pair_eq a b = is_eq-then (nat_cmp a.0 b.0) (nat_cmp a.1 b.1) ∙ ap (λ x. x && is_eq (nat_cmp a.1 b.1)) (is_eq_nat_cmp a.0 b.0) ∙ ap (λ x. nat_eq a.0 b.0 && x) (is_eq_nat_cmp a.1 b.1)

pub triple_eq : (a b : ℕ × ℕ × ℕ) → is_eq (ordering_then (nat_cmp a.0 b.0) (ordering_then (nat_cmp a.1 b.1) (nat_cmp a.2 b.2))) ≡ (nat_eq a.0 b.0 && (nat_eq a.1 b.1 && nat_eq a.2 b.2))
triple_eq a b =
    is_eq-then (nat_cmp a.0 b.0) (ordering_then (nat_cmp a.1 b.1) (nat_cmp a.2 b.2)) ∙ ap (λ x. x && is_eq (ordering_then (nat_cmp a.1 b.1) (nat_cmp a.2 b.2))) (is_eq_nat_cmp a.0 b.0)
    ∙ ap (λ x. nat_eq a.0 b.0 && x) (pair_eq (a.1, a.2) (b.1, b.2))

-- ---- a turned row that goes, and one that comes

-- what stands turned at a target, where the thing at one key led to `old` and leads to `new`; `here` is whether this is the key
abbrev turned : Option ℕ → Option ℕ → ℕ → Bool → Option (Unit {0}) → Option (Unit {0})
turned old new a here row = cond (leads_to new a && here) (Some tt) (cond (leads_to old a && here) None row)

nat_eq_turned : (a b : ℕ) → nat_eq a b ≡ nat_eq b a
nat_eq_turned a b = elim (cases_Bool (nat_eq b a)) [
  | inl t ↦ eq-eqb a b (sym (eqb-true b a t)) ∙ sym t
  | inr f ↦ ne_eqb a b (λ e. eqb-false b a f (sym e)) ∙ sym f
]

turned_there : (old new : Option ℕ) (a : ℕ) (row : Option (Unit {0})) → turned old new a false row ≡ row
turned_there old new a row =
    ap (λ b. cond b (Some tt) (cond (leads_to old a && false) None row)) (and_right (leads_to new a) false refl)
    ∙ ap (λ b. cond b None row) (and_right (leads_to old a) false refl)

abbrev nothing : Option (Unit {0})
nothing = None

turned_here : (old new : Option ℕ) (a : ℕ) → turned old new a true (row_where (leads_to old a)) ≡ row_where (leads_to new a)
turned_here old new a = by (leads_to old a) (leads_to new a)
  where
    by : (b c : Bool) → cond (c && true) (Some tt) (cond (b && true) None (row_where b)) ≡ row_where c
    by b true = refl
    by true false = refl
    by false false = refl

-- the turned rows follow
turned_is : (old new was : Option ℕ) (a : ℕ) (here : Bool) → (here ≡ true → was ≡ old) → turned old new a here (row_where (leads_to was a)) ≡ row_where (leads_to (cond here new was) a)
turned_is old new was a true h = ap (λ o. turned old new a true (row_where (leads_to o a))) (h refl) ∙ turned_here old new a
turned_is old new was a false h = turned_there old new a (row_where (leads_to was a))

-- the one fact on sizes that each change wants
abbrev pub IsTarget : Option ℕ → Type 0
IsTarget o = MatchOption o (Unit {0}) IsNum

abbrev empty_row : Option (Unit {0}) → Type 0
empty_row o = MatchOption o (Unit {0}) (λ _. Unit {0})

-- ---- links

module _ (k : ℕ) (fits : IsNum k) where
  unlinked_gives : (t : Tables) (f : ℕ × ℕ → Option (Unit {0})) (old : Option ℕ) → IsTarget old → Gives linked_codec t f
      → Gives linked_codec (unlinked t old k) (λ q. cond (leads_to old q.0 && nat_eq q.1 k) None (f q))
  unlinked_gives t f None size h = h
  unlinked_gives t f (Some s) size h =
      gives_same linked_codec _ (with_row_at linked_codec f ((s, k), None)) (λ q. cond (nat_eq s q.0 && nat_eq q.1 k) None (f q))
      (λ q _. ap (λ b. cond b None (f q)) (pair_eq q (s, k) ∙ ap (λ b. b && nat_eq q.1 k) (nat_eq_turned q.0 s)))
      (change_gives linked_codec pairs_in_order t f ((s, k), None) (record { key = record { first = size; second = fits }; row = tt }) h)

  linked_gives : (t : Tables) (f : ℕ × ℕ → Option (Unit {0})) (new : Option ℕ) → IsTarget new → Gives linked_codec t f
      → Gives linked_codec (linked t new k) (λ q. cond (leads_to new q.0 && nat_eq q.1 k) (Some tt) (f q))
  linked_gives t f None size h = h
  linked_gives t f (Some n) size h =
      gives_same linked_codec _ (with_row_at linked_codec f ((n, k), Some tt)) (λ q. cond (nat_eq n q.0 && nat_eq q.1 k) (Some tt) (f q))
      (λ q _. ap (λ b. cond b (Some tt) (f q)) (pair_eq q (n, k) ∙ ap (λ b. b && nat_eq q.1 k) (nat_eq_turned q.0 n)))
      (change_gives linked_codec pairs_in_order t f ((n, k), Some tt) (record { key = record { first = size; second = fits }; row = tt }) h)

-- a change of links leaves what another table has
linked_elsewhere : {Key Row : Type 0} (c : Codec Key Row) → (c.number ≡ 8 → ⊥) → (t : Tables) (f : Key → Option Row) (old new : Option ℕ) (k : ℕ) → Gives c t f → Gives c (linked (unlinked t old k) new k) f
linked_elsewhere c other t f None None k h = h
linked_elsewhere c other t f None (Some n) k h = change_elsewhere c linked_codec other t f ((n, k), Some tt) h
linked_elsewhere c other t f (Some s) None k h = change_elsewhere c linked_codec other t f ((s, k), None) h
linked_elsewhere c other t f (Some s) (Some n) k h =
    change_elsewhere c linked_codec other _ f ((n, k), Some tt) (change_elsewhere c linked_codec other t f ((s, k), None) h)

pub link_elsewhere : {Key Row : Type 0} (c : Codec Key Row) → (c.number ≡ 7 → ⊥) → (c.number ≡ 8 → ⊥) → (t : Tables) (f : Key → Option Row) (old new : Option ℕ) (k : ℕ) → Gives c t f
    → Gives c (link_set t old new k) f
link_elsewhere c one two t f old new k h = linked_elsewhere c two _ f old new k (change_elsewhere c link_codec one t f (k, new) h)

pub link_set_is : (t : Tables) (d l : ℕ → Option ℕ) (e : ℕ × ℕ → Option ℕ) (old new : Option ℕ) (k : ℕ) → IsNum k → IsTarget new → l k ≡ old → TablesAre t d l e
    → TablesAre (link_set t old new k) d (with_link l k new) e
link_set_is t d l e old new k fits size was h = record {
  depth = link_elsewhere depth_codec (λ x. cc) (λ x. cc) t d old new k h.depth;
  link = linked_elsewhere link_codec (λ x. cc) _ (with_link l k new) old new k
      (gives_same link_codec _ (with_row_at link_codec l (k, new)) (with_link l k new) (λ q _. ap (λ b. cond b new (l q)) (is_eq_nat_cmp q k))
      (change_gives link_codec numbers_in_order t l (k, new) (record { key = fits; row = size }) h.link));
  linked =
      let f : ℕ × ℕ → Option (Unit {0}) = λ q. row_where (leads_to (l q.1) q.0) in
      let t1 = with_change link_codec t (k, new) in
      let t2 = unlinked t1 old k in
      gives_same linked_codec _ (λ q. turned old new q.0 (nat_eq q.1 k) (f q)) (λ q. row_where (leads_to (with_link l k new q.1) q.0))
      (λ q _. turned_is old new (l q.1) q.0 (nat_eq q.1 k) (λ x. ap l (eqb-true q.1 k x) ∙ was))
      (linked_gives k fits t2 _ new size (unlinked_gives k fits t1 f old (subst IsTarget was (h.link.written k fits)) (change_elsewhere linked_codec link_codec (λ x. cc) t f (k, new) h.linked)));
  edge = link_elsewhere edge_codec (λ x. cc) (λ x. cc) t e old new k h.edge;
  led = link_elsewhere led_codec (λ x. cc) (λ x. cc) t _ old new k h.led;
}

-- ---- edges

module _ (k : ℕ × ℕ) (fits : IsPair k) where
  unled_gives : (t : Tables) (f : ℕ × ℕ × ℕ → Option (Unit {0})) (old : Option ℕ) → IsTarget old → Gives led_codec t f
      → Gives led_codec (unled t old k) (λ q. cond (leads_to old q.0 && same_edge (q.1, q.2) k) None (f q))
  unled_gives t f None size h = h
  unled_gives t f (Some s) size h =
      gives_same led_codec _ (with_row_at led_codec f ((s, k.0, k.1), None)) (λ q. cond (nat_eq s q.0 && same_edge (q.1, q.2) k) None (f q))
      (λ q _. ap (λ b. cond b None (f q)) (triple_eq q (s, k.0, k.1) ∙ ap (λ b. b && same_edge (q.1, q.2) k) (nat_eq_turned q.0 s)))
      (change_gives led_codec triples_in_order t f ((s, k.0, k.1), None) (record { key = record { first = size; second = fits.first; third = fits.second }; row = tt }) h)

  led_gives : (t : Tables) (f : ℕ × ℕ × ℕ → Option (Unit {0})) (new : Option ℕ) → IsTarget new → Gives led_codec t f
      → Gives led_codec (led t new k) (λ q. cond (leads_to new q.0 && same_edge (q.1, q.2) k) (Some tt) (f q))
  led_gives t f None size h = h
  led_gives t f (Some n) size h =
      gives_same led_codec _ (with_row_at led_codec f ((n, k.0, k.1), Some tt)) (λ q. cond (nat_eq n q.0 && same_edge (q.1, q.2) k) (Some tt) (f q))
      (λ q _. ap (λ b. cond b (Some tt) (f q)) (triple_eq q (n, k.0, k.1) ∙ ap (λ b. b && same_edge (q.1, q.2) k) (nat_eq_turned q.0 n)))
      (change_gives led_codec triples_in_order t f ((n, k.0, k.1), Some tt) (record { key = record { first = size; second = fits.first; third = fits.second }; row = tt }) h)

led_elsewhere : {Key Row : Type 0} (c : Codec Key Row) → (c.number ≡ 10 → ⊥) → (t : Tables) (f : Key → Option Row) (old new : Option ℕ) (k : ℕ × ℕ) → Gives c t f → Gives c (led (unled t old k) new k) f
led_elsewhere c other t f None None k h = h
led_elsewhere c other t f None (Some n) k h = change_elsewhere c led_codec other t f ((n, k.0, k.1), Some tt) h
led_elsewhere c other t f (Some s) None k h = change_elsewhere c led_codec other t f ((s, k.0, k.1), None) h
led_elsewhere c other t f (Some s) (Some n) k h =
    change_elsewhere c led_codec other _ f ((n, k.0, k.1), Some tt) (change_elsewhere c led_codec other t f ((s, k.0, k.1), None) h)

pub edge_elsewhere : {Key Row : Type 0} (c : Codec Key Row) → (c.number ≡ 9 → ⊥) → (c.number ≡ 10 → ⊥) → (t : Tables) (f : Key → Option Row) (old new : Option ℕ) (k : ℕ × ℕ) → Gives c t f
    → Gives c (edge_set t old new k) f
edge_elsewhere c one two t f old new k h = led_elsewhere c two _ f old new k (change_elsewhere c edge_codec one t f (k, new) h)

pub same_edge_is : (a b : ℕ × ℕ) → same_edge a b ≡ true → a ≡ b
same_edge_is a b h =
    let p = and_parts (nat_eq a.0 b.0) (nat_eq a.1 b.1) h in
    let pair : ℕ → ℕ → ℕ × ℕ = λ m n. (m, n) in
    ap (λ m. pair m a.1) (eqb-true a.0 b.0 p.0) ∙ ap (λ n. pair b.0 n) (eqb-true a.1 b.1 p.1)

pub edge_set_is : (t : Tables) (d l : ℕ → Option ℕ) (e : ℕ × ℕ → Option ℕ) (old new : Option ℕ) (k : ℕ × ℕ) → IsPair k → IsTarget new → e k ≡ old → TablesAre t d l e
    → TablesAre (edge_set t old new k) d l (with_edge e k new)
edge_set_is t d l e old new k fits size was h = record {
  depth = edge_elsewhere depth_codec (λ x. cc) (λ x. cc) t d old new k h.depth;
  link = edge_elsewhere link_codec (λ x. cc) (λ x. cc) t l old new k h.link;
  linked = edge_elsewhere linked_codec (λ x. cc) (λ x. cc) t _ old new k h.linked;
  edge = led_elsewhere edge_codec (λ x. cc) _ (with_edge e k new) old new k
      (gives_same edge_codec _ (with_row_at edge_codec e (k, new)) (with_edge e k new) (λ q _. ap (λ b. cond b new (e q)) (pair_eq q k))
      (change_gives edge_codec pairs_in_order t e (k, new) (record { key = fits; row = size }) h.edge));
  led =
      let f : ℕ × ℕ × ℕ → Option (Unit {0}) = λ q. row_where (leads_to (e (q.1, q.2)) q.0) in
      let t1 = with_change edge_codec t (k, new) in
      let t2 = unled t1 old k in
      gives_same led_codec _ (λ q. turned old new q.0 (same_edge (q.1, q.2) k) (f q)) (λ q. row_where (leads_to (with_edge e k new (q.1, q.2)) q.0))
      (λ q _. turned_is old new (e (q.1, q.2)) q.0 (same_edge (q.1, q.2) k) (λ x. ap e (same_edge_is (q.1, q.2) k x) ∙ was))
      (led_gives k fits t2 _ new size (unled_gives k fits t1 f old (subst IsTarget was (h.edge.written k fits)) (change_elsewhere led_codec edge_codec (λ x. cc) t f (k, new) h.led)));
}

-- ---- the same functions at each key

pub tables_same : (t : Tables) (d l : ℕ → Option ℕ) (e : ℕ × ℕ → Option ℕ) (d' l' : ℕ → Option ℕ) (e' : ℕ × ℕ → Option ℕ)
    → ((k : ℕ) → d k ≡ d' k) → ((k : ℕ) → l k ≡ l' k) → ((k : ℕ × ℕ) → e k ≡ e' k) → TablesAre t d l e → TablesAre t d' l' e'
tables_same t d l e d' l' e' sd sl se h = record {
  depth = gives_same depth_codec t d d' (λ k _. sd k) h.depth;
  link = gives_same link_codec t l l' (λ k _. sl k) h.link;
  linked = gives_same linked_codec t _ _ (λ k _. ap (λ o. row_where (leads_to o k.0)) (sl k.1)) h.linked;
  edge = gives_same edge_codec t e e' (λ k _. se k) h.edge;
  led = gives_same led_codec t _ _ (λ k _. ap (λ o. row_where (leads_to o k.0)) (se (k.1, k.2))) h.led;
}
