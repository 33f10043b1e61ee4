-- Changes of links and edges, each with its turned rows.
use Rattle.std.specs.Prelude.{ℕ, Bool, ◌&&◌, nat_eq, List, [], ◌∷◌, Option, None, Some, cond}
use Rattle.bdb_base.specs.Causes.{is_listed}
use Rattle.bdb_keep.specs.Tables.{Tables}
use Rattle.bdb_tables.specs.InUse.{depth_codec, link_codec, linked_codec, edge_codec, led_codec}
use Rattle.bdb_tables.specs.Writes.{with_change}

-- ---- links

-- the turned row of a link that goes
abbrev pub unlinked : Tables → Option ℕ → ℕ → Tables
unlinked t None k = t
unlinked t (Some s) k = with_change linked_codec t ((s, k), None)

-- the turned row of a link that comes
abbrev pub linked : Tables → Option ℕ → ℕ → Tables
linked t None k = t
linked t (Some n) k = with_change linked_codec t ((n, k), Some tt)

-- the link of a world, in place of the one that it had
abbrev pub link_set : Tables → Option ℕ → Option ℕ → ℕ → Tables
link_set t old new k = linked (unlinked (with_change link_codec t (k, new)) old k) new k

-- links with another one at a world
abbrev pub with_link : (ℕ → Option ℕ) → ℕ → Option ℕ → ℕ → Option ℕ
with_link links k new q = cond (nat_eq q k) new (links q)

-- each of these worlds' links leads to `n` in place of `s`
abbrev pub links_led : Tables → ℕ → ℕ → List ℕ → Tables
links_led t s n [] = t
links_led t s n (k ∷ ks) = links_led (link_set t (Some s) (Some n) k) s n ks

-- links where those of these worlds lead to `n`
abbrev pub with_links : (ℕ → Option ℕ) → ℕ → List ℕ → ℕ → Option ℕ
with_links links n ks q = cond (is_listed q ks) (Some n) (links q)

-- ---- edges

-- the turned row of an edge that goes
abbrev pub unled : Tables → Option ℕ → ℕ × ℕ → Tables
unled t None k = t
unled t (Some s) k = with_change led_codec t ((s, k.0, k.1), None)

-- the turned row of an edge that comes
abbrev pub led : Tables → Option ℕ → ℕ × ℕ → Tables
led t None k = t
led t (Some n) k = with_change led_codec t ((n, k.0, k.1), Some tt)

-- the edge of a world for a user, in place of the one that it had
abbrev pub edge_set : Tables → Option ℕ → Option ℕ → ℕ × ℕ → Tables
edge_set t old new k = led (unled (with_change edge_codec t (k, new)) old k) new k

-- two keys of edges are one
abbrev pub same_edge : ℕ × ℕ → ℕ × ℕ → Bool
same_edge a b = nat_eq a.0 b.0 && nat_eq a.1 b.1

-- edges with another one at a world and a user
abbrev pub with_edge : (ℕ × ℕ → Option ℕ) → ℕ × ℕ → Option ℕ → ℕ × ℕ → Option ℕ
with_edge edges k new q = cond (same_edge q k) new (edges q)

-- the edge of each of these worlds for a user leads to `n` in place of `s`
abbrev pub edges_led : Tables → ℕ → ℕ → ℕ → List ℕ → Tables
edges_led t i s n [] = t
edges_led t i s n (w ∷ ws) = edges_led (edge_set t (Some s) (Some n) (w, i)) i s n ws

-- edges where those of these worlds for a user lead to `n`
abbrev pub with_edges : (ℕ × ℕ → Option ℕ) → ℕ → ℕ → List ℕ → ℕ × ℕ → Option ℕ
with_edges edges i n ws q = cond (nat_eq q.1 i && is_listed q.0 ws) (Some n) (edges q)

-- ---- a new state

-- edges of a world, each with its user and the world to which it leads
abbrev pub edges_made : Tables → ℕ → List (ℕ × ℕ) → Tables
edges_made t n [] = t
edges_made t n (x ∷ xs) = edges_made (edge_set t None (Some x.1) (n, x.0)) n xs

-- where the edge for a user leads, among edges by user
abbrev pub look : List (ℕ × ℕ) → ℕ → Option ℕ
look [] j = None
look (x ∷ xs) j = cond (nat_eq j x.0) (Some x.1) (look xs j)

-- the depth and the link of a world
abbrev pub state_made : Tables → ℕ → ℕ → ℕ → Tables
state_made t n depth s = link_set (with_change depth_codec t (n, Some depth)) None (Some s) n
