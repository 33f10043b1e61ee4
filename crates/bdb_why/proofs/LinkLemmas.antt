-- The way down a path over tables: depths of states, and where suffix links lead.
use Rattle.std.proofs.Common.{◌≡◌, ◌∙◌, ℕ, ◌<◌, ◌^◌, List, ◌∷◌, sym, length, Option, Some, None}
use Rattle.bdb_base.specs.States.{deepest_suffix}
use Rattle.bdb_base.proofs.OptionLemmas.{none_is_some, same_some}
use Rattle.bdb_keep.specs.Tables.{Tables}
use Rattle.bdb_tables.specs.Codec.{HasAt}
use Rattle.bdb_tables.specs.InUse.{depth_codec, link_codec}
use Rattle.bdb_tables.specs.Names.{Names, AreNames, path_of, number_of, is_named}
use Rattle.bdb_tables.specs.States.{HoldsStates}
use Rattle.bdb_names.proofs.NameLemmas.{deep_number, depth_at, link_at}
use Rattle.bdb_worlds.specs.Holding.{Worlds}
use Rattle.bdb_worlds.proofs.ReadLemmas.{depth_read, link_read}
use Rattle.bdb_why.specs.Reading.{LinksTo, SomeHaveLink, SomeHaveState, StandsForDepth}

-- a number that stands for a path is one of four bytes
number_small : (ns : Names) → AreNames ns → (n : ℕ) (w : List ℕ) → path_of ns n ≡ Some w → n < 2 ^ 32
number_small ns a n w e = a.sized w n (a.named n w e)

depth_is : (t : Tables) (s : Worlds) → HoldsStates s.users s.names t → (n : ℕ) (w : List ℕ) → path_of s.names n ≡ Some w
    → (found : Option ℕ) → HasAt depth_codec t n found → found ≡ Some (length w)
depth_is t s h n w e found has = depth_read t _ _ _ h.tables n (number_small s.names h.names n w e) found has ∙ depth_at s.names n w e

link_is : (t : Tables) (s : Worlds) → HoldsStates s.users s.names t → (n i : ℕ) (w : List ℕ) → path_of s.names n ≡ Some (i ∷ w)
    → (found : Option ℕ) → HasAt link_codec t n found → found ≡ number_of s.names (deepest_suffix (is_named s.names) w)
link_is t s h n i w e found has = link_read t _ _ _ h.tables n (number_small s.names h.names n (i ∷ w) e) found has ∙ link_at s.names n i w e

-- ---- depths

pub depth_is_there : (t : Tables) (n : ℕ) → SomeHaveState t n → HasAt depth_codec t n None → ⊥
depth_is_there t n some has = none_is_some (length some.path) (depth_is t some.worlds some.states n some.path some.named None has)

pub depth_found : (t : Tables) (n d : ℕ) → HasAt depth_codec t n (Some d) → StandsForDepth t n d
depth_found t n d has s h w e = same_some d (length w) (depth_is t s h n w e (Some d) has)

-- ---- links

pub link_is_there : (t : Tables) (n : ℕ) → SomeHaveLink t n → HasAt link_codec t n None → ⊥
link_is_there t n some has =
    let m = deep_number some.worlds.names some.states.names some.rest in
    none_is_some m.0 (link_is t some.worlds some.states n some.user some.rest some.named None has ∙ m.1)

pub link_has_state : (t : Tables) (n m : ℕ) → SomeHaveLink t n → HasAt link_codec t n (Some m) → SomeHaveState t m
link_has_state t n m some has =
    let s = some.worlds in
    let v = deepest_suffix (is_named s.names) some.rest in
    record {
      worlds = s;
      states = some.states;
      path = v;
      named = some.states.names.numbered v m (sym (link_is t s some.states n some.user some.rest some.named (Some m) has));
    }

pub link_leads : (t : Tables) (n m d : ℕ) → HasAt link_codec t n (Some m) → StandsForDepth t m d → LinksTo t n (m, d)
link_leads t n m d has deep s h i w e =
    let v = deepest_suffix (is_named s.names) w in
    let number : number_of s.names v ≡ Some m = sym (link_is t s h n i w e (Some m) has) in
    record { number = number; depth = deep s h v (h.names.numbered v m number) }
