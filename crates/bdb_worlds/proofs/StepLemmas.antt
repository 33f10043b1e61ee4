-- Steps of the search for what a new world takes over, whichever states the tables hold.
use Rattle.std.proofs.Common.{◌≡◌, ℕ, ◌+◌, ◌≤◌, ◌<◌, Bool, List, [], ◌∷◌, refl, sym, subst, suc, zero, arith, length, slice_get, get_or, Option, Some, None}
use Rattle.bdb_keep.specs.Tables.{Tables}
use Rattle.bdb_key.specs.Grammar.{IsNum}
use Rattle.bdb_tables.specs.Names.{Names, path_of, link_of, edge_of}
use Rattle.bdb_tables.specs.States.{HoldsStates}
use Rattle.bdb_names.specs.Moves.{IsLeaf}
use Rattle.bdb_names.specs.Search.{sources_after}
use Rattle.bdb_names.proofs.ListedLemmas.{listed_get}
use Rattle.bdb_names.proofs.MoveLemmas.{edge_moves_parts}
use Rattle.bdb_names.proofs.NameLemmas.{link_found}
use Rattle.bdb_names.proofs.SearchLemmas.{IsSearch, search_begins, search_child, search_next, search_ends}
use Rattle.bdb_worlds.specs.Finds.{HasNextChild, IsNextChild, IsChildRead, FindsMovers}
use Rattle.bdb_worlds.specs.Holding.{Worlds}
use Rattle.bdb_worlds.proofs.ReadLemmas.{edge_read, linked_is, not_linked}

-- whichever states the tables hold, the search stands here
abbrev pub Searching : Tables → ℕ → ℕ → ℕ → List ℕ → List ℕ → ℕ → ℕ → Type 0
Searching t start uid from ss ms at low = (s : Worlds) (q : List ℕ) → HoldsStates s.users s.names t → (leaf : IsLeaf s.users s.names q uid start from)
    → IsSearch s.users s.names q uid start from leaf ss ms at low

pub get_at : (xs : List ℕ) (at d : ℕ) → at < length xs → slice_get xs at ≡ Some (get_or xs at d)
get_at [] at d l = absurd (omega arith)
get_at (x ∷ xs) zero d l = refl
get_at (x ∷ xs) (suc at) d l = get_at xs at d (omega arith)

path_size : (users : ℕ → Bool) (ns : Names) (t : Tables) → HoldsStates users ns t → (k : ℕ) (w : List ℕ) → path_of ns k ≡ Some w → IsNum k
path_size users ns t h k w e = h.names.sized w k (h.names.named k w e)

link_size : (users : ℕ → Bool) (ns : Names) (t : Tables) → HoldsStates users ns t → (k v : ℕ) → link_of ns k ≡ Some v → IsNum k
link_size users ns t h k v e = let l = link_found ns k v e in path_size users ns t h k (l.first ∷ l.back) l.path

pub child_at : (t u : Tables) (v low : ℕ) (o p : Option ℕ) → u ≡ t → o ≡ p → HasNextChild u v low o → HasNextChild t v low p
child_at t u v low o p e f h = subst (HasNextChild t v low) f (subst (λ x. HasNextChild x v low o) e h)

pub visit_at : (t u : Tables) (c uid from : ℕ) (ss ms ss' ms' : List ℕ) → u ≡ t → IsChildRead u c uid from ss ms ss' ms' → IsChildRead t c uid from ss ms ss' ms'
visit_at t u c uid from ss ms ss' ms' e h = subst (λ x. IsChildRead x c uid from ss ms ss' ms') e h

module _ (t : Tables) (start uid from : ℕ) where
  pub searching_from : (ss ms : List ℕ) → ss ≡ start ∷ [] → ms ≡ [] → Searching t start uid from ss ms 0 0
  searching_from ss ms e f = subst (λ x. Searching t start uid from x ms 0 0) (sym e) (subst (λ x. Searching t start uid from (start ∷ []) x 0 0) (sym f) begins)
    where
      begins : Searching t start uid from (start ∷ []) [] 0 0
      begins s q h leaf = search_begins s.users s.names q uid start from leaf

  module _ (ss ms : List ℕ) (at low v : ℕ) (here : slice_get ss at ≡ Some v) (search : Searching t start uid from ss ms at low) where
    source_size : (s : Worlds) (q : List ℕ) → HoldsStates s.users s.names t → IsLeaf s.users s.names q uid start from → IsNum v
    source_size s q h leaf =
        let moves = (search s q h leaf).sources_move v (listed_get ss at v here) in
        let e = edge_moves_parts s.users s.names q uid start from leaf v moves in
        path_size s.users s.names t h v e.front e.path

    child_is : (c : ℕ) (ss' ms' : List ℕ) → IsNextChild t v low c → IsChildRead t c uid from ss ms ss' ms'
        → (s : Worlds) (q : List ℕ) → HoldsStates s.users s.names t → (leaf : IsLeaf s.users s.names q uid start from) → IsSearch s.users s.names q uid start from leaf ss' ms' at (suc c)
    child_is c ss' ms' child visit s q h leaf =
        let size = source_size s q h leaf in
        let small = child.fits in
        let link = linked_is t _ _ _ h.tables v c size child.fits child.linked in
        let least : (d : ℕ) → low ≤ d → d < c → link_of s.names d ≡ Some v → ⊥ = λ d l b e. not_linked t _ _ _ h.tables v d size (omega arith) (child.least d l b) e in
        let edge : edge_of s.users s.names (c, uid) ≡ visit.edge =
        sym (edge_read t _ _ _ h.tables (c, uid) (record { first = child.fits; second = h.numbers uid leaf.user }) visit.edge visit.found) in
        let next = search_child s.users s.names q uid start from leaf ss ms at low v c (search s q h leaf) here link child.from least visit.edge edge in
        subst (λ a. IsSearch s.users s.names q uid start from leaf a ms' at (suc c)) (sym visit.noted)
        (subst (λ b. IsSearch s.users s.names q uid start from leaf (sources_after visit.edge from c ss) b at (suc c)) (sym visit.moved) next)

    pub searching_child : (c high : ℕ) (ss' ms' : List ℕ) → high ≡ c + 1 → HasNextChild t v low (Some c) → IsChildRead t c uid from ss ms ss' ms' → Searching t start uid from ss' ms' at high
    searching_child c high ss' ms' e child visit s q h leaf =
        let n : suc c ≡ high = omega arith in
        subst (λ k. IsSearch s.users s.names q uid start from leaf ss' ms' at k) n (child_is c ss' ms' child visit s q h leaf)

    pub searching_next : (past : ℕ) → past ≡ at + 1 → HasNextChild t v low None → Searching t start uid from ss ms past 0
    searching_next past e none s q h leaf =
        let n : suc at ≡ past = omega arith in
        subst (λ k. IsSearch s.users s.names q uid start from leaf ss ms k 0) n
        (search_next s.users s.names q uid start from leaf ss ms at low v (search s q h leaf) here
        (λ d l link. not_linked t _ _ _ h.tables v d (source_size s q h leaf) (link_size s.users s.names t h d v link) (none d l (link_size s.users s.names t h d v link)) link))

  pub searching_ends : (ss ms : List ℕ) (at low : ℕ) → length ss ≤ at → Searching t start uid from ss ms at low → FindsMovers t start uid from ss ms
  searching_ends ss ms at low all search s q h leaf = search_ends s.users s.names q uid start from leaf ss ms at low (search s q h leaf) all
