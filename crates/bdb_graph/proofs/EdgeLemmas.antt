-- Edges of worlds in tables.
use Rattle.std.proofs.Common.{◌≡◌, ◌∙◌, ℕ, ◌+◌, ◌≤◌, ◌<◌, ◌^◌, Bool, true, false, not, ◌&&◌, cond, nat_le, List, [], ◌∷◌, ◌++◌, length, take, get_or, Option, Some, None, is_some, refl, ap, sym, subst, inl, inr, arith}
use Rattle.std.specs.Prelude.{MatchOption}
use Rattle.std.specs.Bool.{MatchBool}
use Rattle.std.specs.List.{AllByRecursion}
use Rattle.std.specs.Option.{option_map}
use Rattle.std.specs.FinMap as tables
use Rattle.std.proofs.lemmas.Bool.{and_from, cases_Bool, cond-false, false≢true, leb-true}
use Rattle.std.proofs.lemmas.Bool.Decides.{nat_tests}
use Rattle.bdb_base.specs.Bases.{is_user}
use Rattle.bdb_base.specs.Segments.{is_suffix}
use Rattle.bdb_base.specs.States.{edge_target}
use Rattle.bdb_base.specs.declared.kinds.UserSlot.{UserSlot}
use Rattle.bdb_base.proofs.UserLemmas.{user_within}
use Rattle.bdb_keep.specs.Tables.{Tables}
use Rattle.bdb_key.specs.Bytes.{num_bytes}
use Rattle.bdb_key.specs.Grammar.{IsNum}
use Rattle.bdb_tables.specs.Codec.{HasAt, TableFits, place}
use Rattle.bdb_tables.specs.InUse.{IsPair, edge_codec}
use Rattle.bdb_tables.specs.InUseLaws.{number_rows_are_one}
use Rattle.bdb_tables.specs.Names.{Names, AreNames, edge_from, edge_of, is_named, leads_to, number_of, path_of}
use Rattle.bdb_tables.specs.Writes.{Gives}
use Rattle.bdb_tables.proofs.Loops.{all_at_index, all_take_more}
use Rattle.bdb_names.proofs.NameLemmas.{deep_number, edge_at, edge_at_none, edge_found, edge_is}
use Rattle.bdb_entries.proofs.ReadLemmas.{past}
use Rattle.bdb_entries.proofs.TupleLemmas.{holding}
use Rattle.bdb_graph.specs.Naming.{names_of, path_in}
use Rattle.bdb_graph.specs.States.{AllKeysPass, AreIndexed, HasEdgeFor, HasEdges, IsAmongWorlds, is_edge_key, is_right, is_world, target_of}
use Rattle.bdb_names.specs.declared.named.NamedWorld.{NamedWorld}
use Rattle.bdb_graph.proofs.FindingLemmas.{all_by_place, each_at, member_is, world_at, world_fits}
use Rattle.bdb_graph.proofs.LinkLemmas.{number_fits}
use Rattle.bdb_graph.proofs.PassLemmas.{no_row, row_told}

-- ---- numbers are of four bytes

edge_from_fits : (users : ℕ → Bool) (ns : Names) → AreNames ns → (i : ℕ) (w : List ℕ) → MatchOption (edge_from users ns i w) (Unit {0}) IsNum
edge_from_fits users ns a i w = by (users i && not (is_suffix (i ∷ []) w))
  where
    by : (b : Bool) → MatchOption (cond b (number_of ns (edge_target (is_named ns) w i)) None) (Unit {0}) IsNum
    by true = number_fits ns a (edge_target (is_named ns) w i)
    by false = tt

edge_fits : (users : ℕ → Bool) (ns : Names) → AreNames ns → (k : ℕ × ℕ) → MatchOption (edge_of users ns k) (Unit {0}) IsNum
edge_fits users ns a k = by (path_of ns k.0) refl
  where
    by : (o : Option (List ℕ)) → path_of ns k.0 ≡ o → MatchOption (edge_of users ns k) (Unit {0}) IsNum
    by None e = subst (λ o. MatchOption o (Unit {0}) IsNum) (sym (edge_at_none users ns k.0 k.1 e)) tt
    by (Some w) e = subst (λ o. MatchOption o (Unit {0}) IsNum) (sym (edge_at users ns k.0 k.1 w e)) (edge_from_fits users ns a k.1 w)

-- ---- one edge

no_edge : (users : ℕ → Bool) (ns : Names) (i : ℕ) (w : List ℕ) → (users i && not (is_suffix (i ∷ []) w)) ≡ false → edge_from users ns i w ≡ None
no_edge users ns i w e = cond-false (users i && not (is_suffix (i ∷ []) w)) (number_of ns (edge_target (is_named ns) w i)) None e

-- a path has no edge for its last user
pub no_own_edge : (users : ℕ → Bool) (ns : Names) (i : ℕ) (w : List ℕ) (found : Option ℕ) (b : Bool) → users i ≡ true → is_suffix (i ∷ []) w ≡ true → b ≡ not (is_some found) → b ≡ is_right found (edge_from users ns i w)
no_own_edge users ns i w found b user own is = is ∙ by found ∙ ap (is_right found) (sym (no_edge users ns i w (ap (λ v. v && not (is_suffix (i ∷ []) w)) user ∙ ap not own)))
  where
    by : (o : Option ℕ) → not (is_some o) ≡ is_right o None
    by None = refl
    by (Some x) = refl

-- any other edge leads somewhere
pub edge_missing : (users : ℕ → Bool) (ns : Names) → AreNames ns → (i : ℕ) (w : List ℕ) (found : Option ℕ) → users i ≡ true → is_suffix (i ∷ []) w ≡ false → found ≡ None → false ≡ is_right found (edge_from users ns i w)
edge_missing users ns a i w found user apart none =
    let m = deep_number ns a (w ++ i ∷ []) in
    sym (ap (λ o. is_right o (edge_from users ns i w)) none ∙ ap (is_right None) (edge_is users ns i w user apart ∙ m.1))

pub edge_leads : (users : ℕ → Bool) (ns : Names) (i : ℕ) (w longer : List ℕ) (found : Option ℕ) (n : ℕ) (b : Bool) → users i ≡ true → is_suffix (i ∷ []) w ≡ false → found ≡ Some n → longer ≡ w ++ i ∷ []
    → b ≡ leads_to (target_of ns longer) n → b ≡ is_right found (edge_from users ns i w)
edge_leads users ns i w longer found n b user apart is more told =
    told ∙ ap (λ v. leads_to (target_of ns v) n) more ∙ ap (λ o. leads_to o n) (sym (edge_is users ns i w user apart)) ∙ ap (λ o. is_right o (edge_from users ns i w)) (sym is)

pub edge_told : (t : Tables) (users : ℕ → Bool) (ws : List NamedWorld) → AreNames (names_of ws) → (x : NamedWorld) (i : ℕ) → IsAmongWorlds ws x → (found : Option ℕ) (b : Bool) → HasAt edge_codec t (x.wid, i) found
    → b ≡ is_right found (edge_from users (names_of ws) i x.path) → MatchBool b (HasEdgeFor t users ws x i) (HasEdgeFor t users ws x i → ⊥)
edge_told t users ws a x i is found b h told =
    row_told edge_codec number_rows_are_one t (x.wid, i) (edge_of users (names_of ws)) found (edge_from users (names_of ws) i x.path) b h (edge_at users (names_of ws) x.wid i x.path is)
    (edge_from_fits users (names_of ws) a i x.path) told

-- ---- the users of one world

-- the edges for users up to a number are right
abbrev pub HasEdgesTo : Tables → (ℕ → Bool) → List NamedWorld → NamedWorld → ℕ → Type 0
HasEdgesTo t users ws x k = (i : ℕ) → users i ≡ true → i ≤ k → HasEdgeFor t users ws x i

last : (i k : ℕ) → i ≤ k + 1 → nat_le i k ≡ false → k + 1 ≡ i
last i k l above = grind (arith, nat_tests)

-- the number of one who is gone has no edge
pub edges_over : (t : Tables) (users : ℕ → Bool) (ws : List NamedWorld) (x : NamedWorld) (k : ℕ) → users (k + 1) ≡ false → HasEdgesTo t users ws x k → HasEdgesTo t users ws x (k + 1)
edges_over t users ws x k none h i user l = elim (cases_Bool (nat_le i k)) [
  | inl below ↦ h i user (leb-true i k below)
  | inr above ↦ absurd (false≢true (sym none ∙ ap users (last i k l above) ∙ user))
]

pub edges_more : (t u : Tables) (users : ℕ → Bool) (ws : List NamedWorld) (x : NamedWorld) (k : ℕ) (b : Bool) → u ≡ t → b ≡ true → MatchBool b (HasEdgeFor u users ws x (k + 1)) (HasEdgeFor u users ws x (k + 1) → ⊥)
    → HasEdgesTo t users ws x k → HasEdgesTo t users ws x (k + 1)
edges_more t u users ws x k b same good told h i user l = elim (cases_Bool (nat_le i k)) [
  | inl below ↦ h i user (leb-true i k below)
  | inr above ↦
      let here = subst (λ v. HasEdgeFor v users ws x (k + 1)) same (holding (HasEdgeFor u users ws x (k + 1)) (HasEdgeFor u users ws x (k + 1) → ⊥) b good told) in
      let is : k + 1 ≡ i = last i k l above in
      subst (HasEdgeFor t users ws x) is here
]

pub edges_all : (t : Tables) (users : List UserSlot) (ws : List NamedWorld) (x : NamedWorld) (k : ℕ) → length users ≤ k → HasEdgesTo t (is_user users) ws x k → HasEdges t (is_user users) ws x
edges_all t users ws x k l h i user = let most = user_within users i user in h i user (omega arith)

pub not_edge : (t u : Tables) (users : ℕ → Bool) (ws : List NamedWorld) (x : NamedWorld) (i : ℕ) (b : Bool) → u ≡ t → users i ≡ true → b ≡ false → MatchBool b (HasEdgeFor u users ws x i) (HasEdgeFor u users ws x i → ⊥)
    → HasEdges t users ws x → ⊥
not_edge t u users ws x i b same user bad told h = past (HasEdgeFor u users ws x i) (HasEdgeFor u users ws x i → ⊥) b bad told (subst (λ v. HasEdgeFor v users ws x i) (sym same) (h i user))

-- ---- all worlds

module _ (t u : Tables) (users : ℕ → Bool) (ws : List NamedWorld) (k : ℕ) (x : NamedWorld) (b : Bool) where
  pub edged_more : k < length ws → x ≡ get_or ws k x → u ≡ t → b ≡ true → MatchBool b (HasEdges u users ws x) (HasEdges u users ws x → ⊥)
      → AllByRecursion (HasEdges t users ws) (take k ws) → AllByRecursion (HasEdges t users ws) (take (k + 1) ws)
  edged_more l is same good told h =
      all_take_more (HasEdges t users ws) ws k x l is h (subst (λ v. HasEdges v users ws x) same (holding (HasEdges u users ws x) (HasEdges u users ws x → ⊥) b good told))

  pub not_edged : k < length ws → x ≡ get_or ws k x → u ≡ t → b ≡ false → MatchBool b (HasEdges u users ws x) (HasEdges u users ws x → ⊥) → AllByRecursion (HasEdges t users ws) ws → ⊥
  not_edged l is same bad told h =
      past (HasEdges u users ws x) (HasEdges u users ws x → ⊥) b bad told (subst (λ v. HasEdges v users ws x) (sym same) (all_at_index (HasEdges t users ws) ws k x l is h))

-- ---- the table

module _ (t : Tables) (users : List UserSlot) (ws : List NamedWorld) (ps : List (List ℕ)) (h : AreIndexed ws ps) where
  abbrev edges : ℕ × ℕ → Option ℕ
  edges k = edge_of (is_user users) (names_of ws) k

  number_known : (n : ℕ) (o : Option (List ℕ)) → path_in ws n ≡ o → is_world ws n ≡ is_some o
  number_known n o e = member_is ws n ∙ ap is_some e

  edges_give : TableFits edge_codec t → AllByRecursion (HasEdges t (is_user users) ws) ws → AllKeysPass edge_codec t (is_edge_key users ws) → Gives edge_codec t edges
  edges_give fits each only = record {
    fits = fits;
    rows = λ k f. by k f (path_in ws k.0) refl;
    written = λ k f. edge_fits (is_user users) (names_of ws) h.names k;
  }
    where
      nothing : (k : ℕ × ℕ) → IsPair k → is_edge_key users ws k ≡ false → edges k ≡ None → tables.get t (place edge_codec k) ≡ option_map num_bytes (edges k)
      nothing k f bad none = no_row edge_codec (is_edge_key users ws) t k f only bad ∙ ap (option_map num_bytes) (sym none)

      by : (k : ℕ × ℕ) → IsPair k → (o : Option (List ℕ)) → path_in ws k.0 ≡ o → tables.get t (place edge_codec k) ≡ option_map num_bytes (edges k)
      by k f None e = nothing k f (ap (λ b. b && is_user users k.1) (number_known k.0 None e)) (edge_at_none (is_user users) (names_of ws) k.0 k.1 e)
      by k f (Some w) e = elim (cases_Bool (is_user users k.1)) [
        | inl user ↦ each_at (λ n. (i : ℕ) → is_user users i ≡ true → tables.get t (place edge_codec (n, i)) ≡ option_map num_bytes (edges (n, i))) ws each k.0 w e k.1 user
        | inr other ↦
            nothing k f (ap (λ b. b && is_user users k.1) (number_known k.0 (Some w) e) ∙ other)
            (edge_at (is_user users) (names_of ws) k.0 k.1 w e ∙ no_edge (is_user users) (names_of ws) k.1 w (ap (λ b. b && not (is_suffix (k.1 ∷ []) w)) other))
      ]

  all_edged : length users < 2 ^ 32 → Gives edge_codec t edges → AllByRecursion (HasEdges t (is_user users) ws) ws
  all_edged few gives =
      all_by_place (HasEdges t (is_user users) ws) ws
      (λ k x l is i user.
      let most = user_within users i user in
      gives.rows (x.wid, i) (record { first = world_fits ws h.names x (world_at ws k x h.sorted l is); second = omega arith }))

  only_edged : Gives edge_codec t edges → AllKeysPass edge_codec t (is_edge_key users ws)
  only_edged gives k f s = by (edges k) refl
    where
      by : (o : Option ℕ) → edges k ≡ o → is_edge_key users ws k ≡ true
      by None e = absurd (false≢true (sym (ap is_some (gives.rows k f ∙ ap (option_map num_bytes) e)) ∙ s))
      by (Some x) e =
          let r = edge_found (is_user users) (names_of ws) k.0 k.1 x e in
          and_from (is_world ws k.0) (is_user users k.1) (number_known k.0 (Some r.front) r.path) r.user

  pub edges_known : (u : Tables) (a b : Bool) → u ≡ t → TableFits edge_codec t → a ≡ true → MatchBool a (AllByRecursion (HasEdges t (is_user users) ws) ws) (AllByRecursion (HasEdges t (is_user users) ws) ws → ⊥)
      → MatchBool b (AllKeysPass edge_codec u (is_edge_key users ws)) (AllKeysPass edge_codec u (is_edge_key users ws) → ⊥)
      → MatchBool b (Gives edge_codec t (edge_of (is_user users) (names_of ws))) (Gives edge_codec t (edge_of (is_user users) (names_of ws)) → ⊥)
  edges_known u a true same fits e each only =
      edges_give fits (holding (AllByRecursion (HasEdges t (is_user users) ws) ws) (AllByRecursion (HasEdges t (is_user users) ws) ws → ⊥) a e each) (subst (λ v. AllKeysPass edge_codec v (is_edge_key users ws)) same only)
  edges_known u a false same fits e each only = λ gives. only (subst (λ v. AllKeysPass edge_codec v (is_edge_key users ws)) (sym same) (only_edged gives))

  pub no_edges : (a : Bool) → length users < 2 ^ 32 → a ≡ false → MatchBool a (AllByRecursion (HasEdges t (is_user users) ws) ws) (AllByRecursion (HasEdges t (is_user users) ws) ws → ⊥)
      → Gives edge_codec t (edge_of (is_user users) (names_of ws)) → ⊥
  no_edges a few e each gives = past (AllByRecursion (HasEdges t (is_user users) ws) ws) (AllByRecursion (HasEdges t (is_user users) ws) ws → ⊥) a e each (all_edged few gives)
