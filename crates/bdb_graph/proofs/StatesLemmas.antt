-- Whether tables hold the states of worlds.
use Rattle.std.proofs.Common.{◌≡◌, ◌∙◌, ℕ, ◌≤◌, ◌<◌, ◌^◌, Bool, true, false, List, [], ◌∷◌, length, refl, sym, subst, arith}
use Rattle.std.specs.Bool.{MatchBool}
use Rattle.std.specs.List.{AllByRecursion, list_all}
use Rattle.std.proofs.lemmas.Bool.{and_from, false≢true}
use Rattle.bdb_base.specs.Bases.{is_user}
use Rattle.bdb_base.specs.Limits.{most_users}
use Rattle.bdb_base.specs.declared.kinds.UserSlot.{UserSlot}
use Rattle.bdb_base.proofs.UserLemmas.{user_within}
use Rattle.bdb_keep.specs.Tables.{Tables}
use Rattle.bdb_tables.specs.InUse.{edge_codec, link_codec}
use Rattle.bdb_tables.specs.Names.{edge_of, is_named, link_of}
use Rattle.bdb_tables.specs.States.{HoldsStates}
use Rattle.bdb_tables.specs.Writes.{Gives}
use Rattle.bdb_names.proofs.NameLemmas.{number_is, path_is_named}
use Rattle.bdb_entries.proofs.ReadLemmas.{past}
use Rattle.bdb_entries.proofs.TupleLemmas.{holding}
use Rattle.bdb_graph.specs.Naming.{AreWorlds, names_of}
use Rattle.bdb_graph.specs.States.{AreIndexed, ArePathsOf, have_own_paths}
use Rattle.bdb_graph.specs.Turning.{TurnRound}
use Rattle.bdb_graph.specs.Ups.{HoldNoStates}
use Rattle.bdb_names.specs.declared.named.NamedWorld.{NamedWorld}
use Rattle.bdb_graph.proofs.FindingLemmas.{all_by_place, path_all, world_at}

-- the worlds of tables are found by their numbers and their paths
pub indexed : (t : Tables) (ws : List NamedWorld) → AreWorlds t ws → (paths shown : List (List ℕ)) → ArePathsOf ws paths → shown ≡ paths → AreIndexed ws shown
indexed t ws h paths shown own same = record {
  names = h.names;
  sorted = h.told.sorted;
  listed = subst (ArePathsOf ws) (sym same) own;
}

all_tested : (p : NamedWorld → Bool) (ws : List NamedWorld) → AllByRecursion (λ (x : NamedWorld). p x ≡ true) ws → list_all p ws ≡ true
all_tested p [] h = refl
all_tested p (x ∷ ws) h = and_from (p x) (list_all p ws) h.0 (all_tested p ws h.1)

module _ (t : Tables) (users : List UserSlot) (ws : List NamedWorld) (h : AreWorlds t ws) where
  -- a path that isn't one of users is in no states
  pub not_own : (b : Bool) → b ≡ have_own_paths (is_user users) ws → b ≡ false → HoldsStates (is_user users) (names_of ws) t → ⊥
  not_own b is bad holds =
      false≢true (sym (sym is ∙ bad) ∙ all_tested (λ (x : NamedWorld). list_all (is_user users) x.path) ws
      (all_by_place (λ (x : NamedWorld). list_all (is_user users) x.path ≡ true) ws
      (λ k x l here. holds.own x.path (path_is_named (names_of ws) h.names x.wid x.path (world_at ws k x h.told.sorted l here)))))

  four_bytes : length users ≤ most_users → (i : ℕ) → is_user users i ≡ true → i < 2 ^ 32
  four_bytes few i user = let most = user_within users i user in omega arith

  own_paths : have_own_paths (is_user users) ws ≡ true → (w : List ℕ) → is_named (names_of ws) w ≡ true → list_all (is_user users) w ≡ true
  own_paths own w named =
      let n = number_is (names_of ws) w named in
      path_all (list_all (is_user users)) ws own n.0 w (h.names.numbered w n.0 n.1)

  are_held : length users ≤ most_users → have_own_paths (is_user users) ws ≡ true → TurnRound t → Gives link_codec t (link_of (names_of ws)) → Gives edge_codec t (edge_of (is_user users) (names_of ws))
      → HoldsStates (is_user users) (names_of ws) t
  are_held few own turn links edges = record {
    names = h.names;
    numbers = four_bytes few;
    own = own_paths own;
    tables = record {
      depth = h.depths;
      link = links;
      linked = turn.links (link_of (names_of ws)) links;
      edge = edges;
      led = turn.edges (edge_of (is_user users) (names_of ws)) edges;
    };
  }

  pub held_known : (u v : Tables) (own turn link b : Bool) → length users ≤ most_users → u ≡ t → v ≡ t → own ≡ have_own_paths (is_user users) ws → own ≡ true → turn ≡ true → link ≡ true
      → MatchBool turn (TurnRound t) (HoldNoStates t)
      → MatchBool link (Gives link_codec u (link_of (names_of ws))) (Gives link_codec u (link_of (names_of ws)) → ⊥)
      → MatchBool b (Gives edge_codec v (edge_of (is_user users) (names_of ws))) (Gives edge_codec v (edge_of (is_user users) (names_of ws)) → ⊥)
      → MatchBool b (HoldsStates (is_user users) (names_of ws) t) (HoldsStates (is_user users) (names_of ws) t → ⊥)
  held_known u v own turn link true few first second is eo et el round links edges =
      are_held few (sym is ∙ eo) (holding (TurnRound t) (HoldNoStates t) turn et round)
      (subst (λ w. Gives link_codec w (link_of (names_of ws))) first (holding (Gives link_codec u (link_of (names_of ws))) (Gives link_codec u (link_of (names_of ws)) → ⊥) link el links))
      (subst (λ w. Gives edge_codec w (edge_of (is_user users) (names_of ws))) second edges)
  held_known u v own turn link false few first second is eo et el round links edges =
      λ holds. edges (subst (λ w. Gives edge_codec w (edge_of (is_user users) (names_of ws))) (sym second) holds.tables.edge)

  pub not_turned : (turn : Bool) → turn ≡ false → MatchBool turn (TurnRound t) (HoldNoStates t) → HoldsStates (is_user users) (names_of ws) t → ⊥
  not_turned turn e round holds = past (TurnRound t) (HoldNoStates t) turn e round (is_user users) (names_of ws) holds

  pub no_such_links : (u : Tables) (link : Bool) → u ≡ t → link ≡ false → MatchBool link (Gives link_codec u (link_of (names_of ws))) (Gives link_codec u (link_of (names_of ws)) → ⊥)
      → HoldsStates (is_user users) (names_of ws) t → ⊥
  no_such_links u link same e links holds =
      past (Gives link_codec u (link_of (names_of ws))) (Gives link_codec u (link_of (names_of ws)) → ⊥) link e links (subst (λ w. Gives link_codec w (link_of (names_of ws))) (sym same) holds.tables.link)
