-- Changes of worlds leave all other tables as they were.
use Rattle.std.proofs.Common.{◌≡◌, ◌∙◌, ℕ, true, false, ◌&&◌, nat_le, cond, List, [], ◌∷◌, refl, ap, sym, subst, arith, Option, Some, None}
use Rattle.std.specs.Option.{option_map}
use Rattle.std.specs.Ordering.{eq_by_cmp}
use Rattle.std.specs.FinMap as map
use Rattle.std.proofs.lemmas.Bool.{false≢true, false_from_ne_true}
use Rattle.std.proofs.lemmas.Bool.Decides.{nat_tests}
use Rattle.bdb_keep.specs.Tables.{Tables, bytes_cmp}
use Rattle.bdb_keep.proofs.RowsLemmas.{same_place}
use Rattle.bdb_tables.specs.Codec.{Codec, place}
use Rattle.bdb_tables.specs.InUse.{depth_codec, link_codec, linked_codec, edge_codec, led_codec}
use Rattle.bdb_tables.specs.Writes.{with_change}
use Rattle.bdb_tables.proofs.Held.{head_same}
use Rattle.bdb_tables.proofs.WriteLemmas.{get_after_change}
use Rattle.bdb_names.specs.Turned.{unlinked, linked, link_set, links_led, unled, led, edge_set, edges_led, edges_made, state_made}
use Rattle.bdb_worlds.specs.Growth.{SameOutside, IsAdded}

abbrev pub SameElsewhere : Tables → Tables → Type 0
SameElsewhere t u = SameOutside 6 10 t u

pub same_itself : (t : Tables) → SameElsewhere t t
same_itself t n k o = refl

pub outside_then : (t u v : Tables) → SameElsewhere t u → SameElsewhere u v → SameElsewhere t v
outside_then t u v h g n k o = g n k o ∙ h n k o

change_in : (low high : ℕ) {Key Row : Type 0} (c : Codec Key Row) → (nat_le low c.number && nat_le c.number high) ≡ true → (t : Tables) (x : Key × Option Row) → SameOutside low high t (with_change c t x)
change_in low high c inside t x n k o =
    let other : eq_by_cmp bytes_cmp (n ∷ k) (place c x.0) ≡ false = false_from_ne_true (eq_by_cmp bytes_cmp (n ∷ k) (place c x.0)) (λ e.
    let same : n ≡ c.number = head_same _ _ _ _ (same_place (n ∷ k) (place c x.0) e) in
    false≢true (sym o ∙ ap (λ m. nat_le low m && nat_le m high) same ∙ inside)) in
    get_after_change c t x (n ∷ k) ∙ ap (λ b. cond b (option_map c.row_bytes x.1) (map.get t (n ∷ k))) other

pub change_outside : {Key Row : Type 0} (c : Codec Key Row) → (nat_le 6 c.number && nat_le c.number 10) ≡ true → (t : Tables) (x : Key × Option Row) → SameElsewhere t (with_change c t x)
change_outside c inside t x = change_in 6 10 c inside t x

unlinked_outside : (t : Tables) (o : Option ℕ) (k : ℕ) → SameElsewhere t (unlinked t o k)
unlinked_outside t None k = same_itself t
unlinked_outside t (Some s) k = change_outside linked_codec refl t ((s, k), None)

linked_outside : (t : Tables) (o : Option ℕ) (k : ℕ) → SameElsewhere t (linked t o k)
linked_outside t None k = same_itself t
linked_outside t (Some n) k = change_outside linked_codec refl t ((n, k), Some tt)

pub link_set_outside : (t : Tables) (old new : Option ℕ) (k : ℕ) → SameElsewhere t (link_set t old new k)
link_set_outside t old new k =
    let t1 = with_change link_codec t (k, new) in
    let t2 = unlinked t1 old k in
    outside_then t t1 (link_set t old new k) (change_outside link_codec refl t (k, new)) (outside_then t1 t2 (link_set t old new k) (unlinked_outside t1 old k) (linked_outside t2 new k))

-- an edge is in two of these tables
abbrev pub SameButEdges : Tables → Tables → Type 0
SameButEdges t u = SameOutside 9 10 t u

pub edges_itself : (t : Tables) → SameButEdges t t
edges_itself t n k o = refl

pub edges_then : (t u v : Tables) → SameButEdges t u → SameButEdges u v → SameButEdges t v
edges_then t u v h g n k o = g n k o ∙ h n k o

unled_alone : (t : Tables) (o : Option ℕ) (k : ℕ × ℕ) → SameButEdges t (unled t o k)
unled_alone t None k = edges_itself t
unled_alone t (Some s) k = change_in 9 10 led_codec refl t ((s, k.0, k.1), None)

led_alone : (t : Tables) (o : Option ℕ) (k : ℕ × ℕ) → SameButEdges t (led t o k)
led_alone t None k = edges_itself t
led_alone t (Some n) k = change_in 9 10 led_codec refl t ((n, k.0, k.1), Some tt)

pub edge_alone : (t : Tables) (old new : Option ℕ) (k : ℕ × ℕ) → SameButEdges t (edge_set t old new k)
edge_alone t old new k =
    let t1 = with_change edge_codec t (k, new) in
    let t2 = unled t1 old k in
    edges_then t t1 (edge_set t old new k) (change_in 9 10 edge_codec refl t (k, new)) (edges_then t1 t2 (edge_set t old new k) (unled_alone t1 old k) (led_alone t2 new k))

no_edges : (n : ℕ) → (nat_le 6 n && nat_le n 10) ≡ false → (nat_le 9 n && nat_le n 10) ≡ false
no_edges n e = grind (arith, nat_tests)

pub edge_set_outside : (t : Tables) (old new : Option ℕ) (k : ℕ × ℕ) → SameElsewhere t (edge_set t old new k)
edge_set_outside t old new k n key o = edge_alone t old new k n key (no_edges n o)

pub links_led_outside : (t : Tables) (s n : ℕ) (ks : List ℕ) → SameElsewhere t (links_led t s n ks)
links_led_outside t s n [] = same_itself t
links_led_outside t s n (k ∷ ks) =
    let t1 = link_set t (Some s) (Some n) k in
    outside_then t t1 (links_led t1 s n ks) (link_set_outside t (Some s) (Some n) k) (links_led_outside t1 s n ks)

pub edges_led_outside : (t : Tables) (i s n : ℕ) (ws : List ℕ) → SameElsewhere t (edges_led t i s n ws)
edges_led_outside t i s n [] = same_itself t
edges_led_outside t i s n (w ∷ ws) =
    let t1 = edge_set t (Some s) (Some n) (w, i) in
    outside_then t t1 (edges_led t1 i s n ws) (edge_set_outside t (Some s) (Some n) (w, i)) (edges_led_outside t1 i s n ws)

pub edges_made_outside : (t : Tables) (n : ℕ) (xs : List (ℕ × ℕ)) → SameElsewhere t (edges_made t n xs)
edges_made_outside t n [] = same_itself t
edges_made_outside t n (x ∷ xs) =
    let t1 = edge_set t None (Some x.1) (n, x.0) in
    outside_then t t1 (edges_made t1 n xs) (edge_set_outside t None (Some x.1) (n, x.0)) (edges_made_outside t1 n xs)

pub state_made_outside : (t : Tables) (n depth s : ℕ) → SameElsewhere t (state_made t n depth s)
state_made_outside t n depth s =
    let t1 = with_change depth_codec t (n, Some depth) in
    outside_then t t1 (state_made t n depth s) (change_outside depth_codec refl t (n, Some depth)) (link_set_outside t1 None (Some s) n)

pub added_outside : (t u : Tables) (start uid depth number before now : ℕ) → IsAdded t u start uid depth number before now → SameElsewhere t u
added_outside t u start uid depth number before now a =
    let t1 = edges_led t uid a.from number a.sources in
    let t2 = links_led t1 a.from number a.met in
    let t3 = edges_made t2 number a.own in
    subst (SameElsewhere t) (sym a.made)
    (outside_then t t1 (state_made t3 number depth a.from) (edges_led_outside t uid a.from number a.sources)
    (outside_then t1 t2 (state_made t3 number depth a.from) (links_led_outside t1 a.from number a.met)
    (outside_then t2 t3 (state_made t3 number depth a.from) (edges_made_outside t2 number a.own) (state_made_outside t3 number depth a.from))))
