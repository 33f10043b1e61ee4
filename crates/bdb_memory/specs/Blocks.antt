-- Entries in blocks.
use Rattle.std.specs.Prelude.{◌≡◌, ℕ, ◌<◌, ◌≤◌, Bool, true, false, IsTrue, is_some, filter, List, [], ◌∷◌, ◌++◌, Option, None, length, take, drop, slice_index_or, slice_set}
use Rattle.std.specs.Ordering.{is_le}
use Prim.Native.Nat.{zero, suc}
use Rattle.bdb_keep.specs.Tables.{bytes_cmp}
use Rattle.bdb_memory.specs.declared.head.Head.{Head}
use Rattle.bdb_memory.specs.Heads.{IsHeadOfPlace}
use Rattle.bdb_memory.specs.Entries.{Entries, row_of, place_at, AreBelow, AreAbove, NoneBelow, IsAscending}

-- the entries of all blocks
abbrev pub joined : List Entries → Entries
joined [] = []
joined (b ∷ bs) = b ++ joined bs

-- the entries before the place `j` of the block `i`
abbrev pub before : List Entries → ℕ → ℕ → Entries
before [] i j = []
before (b ∷ bs) zero j = take j b
before (b ∷ bs) (suc i) j = b ++ before bs i j

-- the entries from the place `j` of the block `i` on
abbrev pub after : List Entries → ℕ → ℕ → Entries
after [] i j = []
after (b ∷ bs) zero j = drop j b ++ joined bs
after (b ∷ bs) (suc i) j = after bs i j

-- a block has an entry
abbrev pub HasEntry : Entries → Type 0
HasEntry [] = ⊥
HasEntry (e ∷ es) = Unit {0}

abbrev pub HaveEntries : List Entries → Type 0
HaveEntries [] = Unit {0}
HaveEntries (b ∷ bs) = HasEntry b × HaveEntries bs

-- each place is below all later ones, and no block is empty
pub record AreSorted (bs : List Entries) : Type 0 where
  pub ascends : IsAscending (joined bs)
  pub full : HaveEntries bs

-- the places before this one are below `q`, and the others aren't
pub record IsBoundary (bs : List Entries) (q : List ℕ) (i j : ℕ) : Type 0 where
  pub below : AreBelow q (before bs i j)
  pub above : NoneBelow q (after bs i j)
  pub block : 0 < length bs → i < length bs
  pub index : j ≤ length (slice_index_or bs i [])

-- a head is that of the first place, if there is one
abbrev pub HasFirst : Head → Entries → Type 0
HasFirst h [] = Unit {0}
HasFirst h (e ∷ es) = IsHeadOfPlace h e.0

-- whether the first place of a block isn't above a place
abbrev pub starts_within : List ℕ → Entries → Bool
starts_within q [] = true
starts_within q (e ∷ es) = is_le (bytes_cmp e.0 q)

-- a place belongs in this block: it starts within the place, or is the first one, and the next one starts above
pub record IsBlockFor (bs : List Entries) (q : List ℕ) (i : ℕ) : Type 0 where
  pub block : i < length bs
  pub starts : 0 < i → starts_within q (slice_index_or bs i []) ≡ true
  pub ends : suc i < length bs → starts_within q (slice_index_or bs (suc i) []) ≡ false

-- an entry stands here
pub record IsThere (bs : List Entries) (i j : ℕ) : Type 0 where
  pub block : i < length bs
  pub index : j < length (slice_index_or bs i [])

-- the entry at a place of a block, which has one there
abbrev pub entry_at : Entries → ℕ → List ℕ × Option (List ℕ)
entry_at b j = slice_index_or b j ([], None)

-- a place stands here
pub record StandsAt (bs : List Entries) (q : List ℕ) (i j : ℕ) : Type 0 where
  pub there : IsThere bs i j
  pub below : AreBelow q (before bs i j)
  pub here : (entry_at (slice_index_or bs i []) j).0 ≡ q

-- a place stands nowhere, and belongs here
pub record BelongsHere (bs : List Entries) (q : List ℕ) (i j : ℕ) : Type 0 where
  pub below : AreBelow q (before bs i j)
  pub above : AreAbove q (after bs i j)
  pub block : 0 < length bs → i < length bs
  pub index : j ≤ length (slice_index_or bs i [])

-- some entries have the same rows as the others from a place on, in order, and no place below it
pub record IsRest (es rest : Entries) (p : List ℕ) : Type 0 where
  pub same : (q : List ℕ) → IsTrue (is_le (bytes_cmp p q)) → row_of (place_at rest q) ≡ row_of (place_at es q)
  pub above : NoneBelow p rest
  pub sorted : IsAscending rest

-- a block without its empty places
abbrev pub without_empty : Entries → Entries
without_empty es = filter (λ e. is_some e.1) es

-- whether a block has an entry
abbrev pub has_any : Entries → Bool
has_any [] = false
has_any (e ∷ es) = true

-- the blocks where the block `i` was cut at `h`
abbrev pub cut : List Entries → ℕ → ℕ → List Entries
cut bs i h = take (suc i) (slice_set bs i (take h (slice_index_or bs i []))) ++ drop h (slice_index_or bs i []) ∷ drop (suc i) (slice_set bs i (take h (slice_index_or bs i [])))
