-- A state that was taken away, once its rows were read.
use Rattle.std.proofs.Common.{◌≡◌, ◌∙◌, ℕ, List, [], ◌∷◌, refl, ap, sym, subst, Some, None}
use Rattle.bdb_base.specs.Causes.{Rises}
use Rattle.bdb_keep.specs.Tables.{Tables}
use Rattle.bdb_tables.specs.InUse.{depth_codec}
use Rattle.bdb_names.specs.Turned.{link_set, links_led, edge_set}
use Rattle.bdb_worlds.specs.Dropping.{pairs_led, edges_dropped, state_dropped, pairs_of, kids_of, edges_in_rows, AreWorldRows, without_state, dropped_writes, IsDroppedWithin}
use Rattle.bdb_worlds.proofs.OutsideLemmas.{SameElsewhere, same_itself, outside_then, change_outside, link_set_outside, edge_set_outside, links_led_outside}

pub dropped_is : (t u v : Tables) (n before mid now link : ℕ) (led : List ((ℕ × ℕ × ℕ) × Unit {0})) (linked : List ((ℕ × ℕ) × Unit {0})) (own : List ((ℕ × ℕ) × ℕ))
    → u ≡ t → mid ≡ before → AreWorldRows t n link led linked own → v ≡ without_state u n link (pairs_of led) (kids_of linked) (edges_in_rows own) → Rises (dropped_writes led linked own) mid now
    → IsDroppedWithin t v n before now
dropped_is t u v n before mid now link led linked own same writes rows made count = record {
  state = record {
    link = link;
    led_rows = led;
    linked_rows = linked;
    edge_rows = own;
    rows = rows;
    made = made ∙ ap (λ x. without_state x n link (pairs_of led) (kids_of linked) (edges_in_rows own)) same;
  };
  count = subst (λ b. Rises (dropped_writes led linked own) b now) writes count;
}

-- ---- other tables

pairs_led_outside : (t : Tables) (s n : ℕ) (ks : List (ℕ × ℕ)) → SameElsewhere t (pairs_led t s n ks)
pairs_led_outside t s n [] = same_itself t
pairs_led_outside t s n (k ∷ ks) =
    let t1 = edge_set t (Some s) (Some n) k in
    outside_then t t1 (pairs_led t1 s n ks) (edge_set_outside t (Some s) (Some n) k) (pairs_led_outside t1 s n ks)

edges_dropped_outside : (t : Tables) (n : ℕ) (xs : List (ℕ × ℕ)) → SameElsewhere t (edges_dropped t n xs)
edges_dropped_outside t n [] = same_itself t
edges_dropped_outside t n (x ∷ xs) =
    let t1 = edge_set t (Some x.1) None (n, x.0) in
    outside_then t t1 (edges_dropped t1 n xs) (edge_set_outside t (Some x.1) None (n, x.0)) (edges_dropped_outside t1 n xs)

state_dropped_outside : (t : Tables) (n s : ℕ) → SameElsewhere t (state_dropped t n s)
state_dropped_outside t n s =
    let t1 = link_set t (Some s) None n in
    outside_then t t1 (state_dropped t n s) (link_set_outside t (Some s) None n) (change_outside depth_codec refl t1 (n, None))

pub dropped_outside : (t u : Tables) (n before now : ℕ) → IsDroppedWithin t u n before now → SameElsewhere t u
dropped_outside t u n before now d =
    let x = d.state in
    let t1 = pairs_led t n x.link (pairs_of x.led_rows) in
    let t2 = links_led t1 n x.link (kids_of x.linked_rows) in
    let t3 = edges_dropped t2 n (edges_in_rows x.edge_rows) in
    subst (SameElsewhere t) (sym x.made)
    (outside_then t t1 (state_dropped t3 n x.link) (pairs_led_outside t n x.link (pairs_of x.led_rows))
    (outside_then t1 t2 (state_dropped t3 n x.link) (links_led_outside t1 n x.link (kids_of x.linked_rows))
    (outside_then t2 t3 (state_dropped t3 n x.link) (edges_dropped_outside t2 n (edges_in_rows x.edge_rows)) (state_dropped_outside t3 n x.link))))
