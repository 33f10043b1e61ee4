-- Edges that lead to the worlds that come from others.
use Rattle.std.proofs.Common.{◌≡◌, ◌∙◌, ℕ, zero, suc, ◌+◌, ◌<◌, Bool, true, false, nat_eq, List, [], ◌∷◌, ◌++◌, length, take, get_or, Some, None, refl, ap, sym, subst, arith}
use Rattle.std.specs.Bool.{MatchBool}
use Rattle.std.specs.List.{AllByRecursion}
use Rattle.std.specs.Option.{option_map}
use Rattle.std.specs.FinMap as tables
use Rattle.std.proofs.lemmas.Bool.{eqb-true, eqb-false}
use Rattle.bdb_base.proofs.OptionLemmas.{none_is_some, same_some}
use Rattle.bdb_base.proofs.AllLemmas.{all_weaker}
use Rattle.bdb_keep.specs.Tables.{Tables}
use Rattle.bdb_key.specs.Bytes.{num_bytes}
use Rattle.bdb_key.specs.Grammar.{IsNum}
use Rattle.bdb_key.proofs.Alone.{one_num}
use Rattle.bdb_tables.specs.Codec.{HasRow, place}
use Rattle.bdb_tables.specs.InUse.{edge_codec}
use Rattle.bdb_tables.specs.Names.{Names, number_of, is_named, edge_of}
use Rattle.bdb_tables.specs.States.{HoldsStates}
use Rattle.bdb_paths.proofs.SuffixLemmas.{deepest_of_member}
use Rattle.bdb_names.proofs.Ends.{no_own_end}
use Rattle.bdb_names.proofs.NameLemmas.{path_is_named, edge_at, edge_is}
use Rattle.bdb_names.proofs.NamedLemmas.{user_of_end}
use Rattle.bdb_entries.proofs.ReadLemmas.{past}
use Rattle.bdb_entries.proofs.TupleLemmas.{holding}
use Rattle.bdb_graph.specs.Leading.{HasEdge, IsLedByEdge}
use Rattle.bdb_graph.specs.Ups.{HasFront, TellsUp}
use Rattle.bdb_graph.specs.declared.ups.Up.{Up}
use Rattle.bdb_graph.proofs.UpLemmas.{all_get, all_take_get}

pub edge_known : (t : Tables) (m i n d found : ℕ) → IsNum n → (d ≡ 0 → ⊥) → HasRow edge_codec t (m, i) found → (b : Bool) → b ≡ nat_eq found n → MatchBool b (HasEdge t m i n d) (HasEdge t m i n d → ⊥)
edge_known t m i n zero found fits deep row b e = absurd (deep refl)
edge_known t m i n (suc d) found fits deep row b e = subst (λ v. MatchBool v (HasEdge t m i n (suc d)) (HasEdge t m i n (suc d) → ⊥)) (sym e) (by (nat_eq found n) refl)
  where
    by : (v : Bool) → nat_eq found n ≡ v → MatchBool v (HasEdge t m i n (suc d)) (HasEdge t m i n (suc d) → ⊥)
    by true s = row.found ∙ ap (λ k. Some (num_bytes k)) (eqb-true found n s)
    by false s = λ h. eqb-false found n s (one_num found n row.in_grammar fits (same_some (num_bytes found) (num_bytes n) (sym row.found ∙ h)))

pub edge_missing : (t : Tables) (m i n d : ℕ) → (d ≡ 0 → ⊥) → tables.get t (place edge_codec (m, i)) ≡ None → HasEdge t m i n d → ⊥
edge_missing t m i n zero deep e h = deep refl
edge_missing t m i n (suc d) deep e h = none_is_some (num_bytes n) (sym e ∙ h)

pub no_edge_needed : (t : Tables) (m i n d : ℕ) → d ≡ 0 → HasEdge t m i n d
no_edge_needed t m i n zero e = tt
no_edge_needed t m i n (suc d) e = absurd (omega arith)

-- one more
pub led_more : (t u : Tables) (ups : List Up) (k : ℕ) (other x : Up) (b : Bool) → k < length ups → u ≡ t → x ≡ get_or ups k other → b ≡ true
    → MatchBool b (IsLedByEdge u x) (IsLedByEdge u x → ⊥) → AllByRecursion (IsLedByEdge t) (take k ups) → AllByRecursion (IsLedByEdge t) (take (k + 1) ups)
led_more t u ups k other x b l same is good told h =
    all_take_get (IsLedByEdge t) ups k other l h (subst (IsLedByEdge t) is (subst (λ v. IsLedByEdge v x) same (holding (IsLedByEdge u x) (IsLedByEdge u x → ⊥) b good told)))

pub not_led : (t u : Tables) (ups : List Up) (k : ℕ) (other x : Up) (b : Bool) → k < length ups → u ≡ t → x ≡ get_or ups k other → b ≡ false
    → MatchBool b (IsLedByEdge u x) (IsLedByEdge u x → ⊥) → AllByRecursion (IsLedByEdge t) ups → ⊥
not_led t u ups k other x b l same is bad told h =
    past (IsLedByEdge u x) (IsLedByEdge u x → ⊥) b bad told (subst (λ v. IsLedByEdge v x) (sym same) (subst (IsLedByEdge t) (sym is) (all_get (IsLedByEdge t) ups k other l h)))

-- where tables hold states, edges lead so
module _ (t : Tables) (users : ℕ → Bool) (ns : Names) (h : HoldsStates users ns t) where
  front_leads : (n m i d : ℕ) → HasFront ns n m i d → HasEdge t m i n d
  front_leads n m i zero front = tt
  front_leads n m i (suc d) front =
      let v = front.0 in
      let path = front.2 in
      let named = path_is_named ns h.names n (v ++ i ∷ []) path in
      let number = h.names.named n (v ++ i ∷ []) path in
      let user = user_of_end users v i (h.own (v ++ i ∷ []) named) in
      let edge : edge_of users ns (m, i) ≡ Some n =
      edge_at users ns m i v front.1 ∙ edge_is users ns i v user (no_own_end v i (h.names.apart (v ++ i ∷ []) named))
      ∙ ap (number_of ns) (deepest_of_member (is_named ns) (v ++ i ∷ []) named) ∙ number in
      h.tables.edge.rows (m, i) (record { first = h.names.sized v m (h.names.named m v front.1); second = h.numbers i user }) ∙ ap (option_map num_bytes) edge

  pub all_are_led : (ups : List Up) → AllByRecursion (TellsUp t) ups → AllByRecursion (IsLedByEdge t) ups
  all_are_led ups tell = all_weaker (TellsUp t) (IsLedByEdge t) ups (λ x told. front_leads x.wid x.from x.uid x.depth (told users ns h)) tell
