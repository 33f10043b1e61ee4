-- Whichever states tables hold, they hold those of their worlds.
use Rattle.std.proofs.Common.{◌≡◌, ◌∙◌, ℕ, ◌<◌, ◌^◌, Bool, not, ◌&&◌, cond, List, [], ◌∷◌, ◌++◌, Option, Some, None, is_some, length, refl, ap, sym, subst}
use Rattle.std.specs.Prelude.{MatchOption}
use Rattle.std.specs.Option.{option_map, option_and_then}
use Rattle.bdb_base.specs.Segments.{is_suffix}
use Rattle.bdb_base.specs.States.{deepest_suffix, suffix_link}
use Rattle.bdb_keep.specs.Tables.{Tables}
use Rattle.bdb_paths.proofs.SuffixLemmas.{deepest_same}
use Rattle.bdb_tables.specs.Codec.{Codec}
use Rattle.bdb_tables.specs.Names.{Names, AreNames, path_of, number_of, is_named, leads_to, link_of, edge_from, edge_of}
use Rattle.bdb_tables.specs.States.{HoldsStates, row_where}
use Rattle.bdb_tables.specs.Writes.{Gives}
use Rattle.bdb_graph.specs.Laws.{WorldsAreHeld}
use Rattle.bdb_graph.specs.Naming.{names_of}

gives_same : {Key Row : Type 0} (c : Codec Key Row) (t : Tables) (f g : Key → Option Row) → ((k : Key) → c.IsKey k → f k ≡ g k) → Gives c t f → Gives c t g
gives_same c t f g same h = record {
  fits = h.fits;
  rows = λ k fits. h.rows k fits ∙ ap (option_map c.row_bytes) (same k fits);
  written = λ k fits. subst (λ o. MatchOption o (Unit {0}) c.IsRow) (same k fits) (h.written k fits);
}

module _ (t : Tables) (users : ℕ → Bool) (ns ms : Names) (h : HoldsStates users ns t) (a : AreNames ms) (same : (n : ℕ) → n < 2 ^ 32 → path_of ns n ≡ path_of ms n) where
  numbers_same : (w : List ℕ) → number_of ns w ≡ number_of ms w
  numbers_same w = by (number_of ns w) refl (number_of ms w) refl
    where
      by : (o : Option ℕ) → number_of ns w ≡ o → (p : Option ℕ) → number_of ms w ≡ p → number_of ns w ≡ number_of ms w
      by (Some n) e p f = e ∙ sym (a.named n w (sym (same n (h.names.sized w n e)) ∙ h.names.numbered w n e))
      by None e None f = e ∙ sym f
      by None e (Some m) f = h.names.named m w (same m (a.sized w m f) ∙ a.numbered w m f) ∙ sym f

  pub named_same : (w : List ℕ) → is_named ns w ≡ is_named ms w
  named_same w = ap is_some (numbers_same w)

  target_same : (w : List ℕ) → number_of ns (deepest_suffix (is_named ns) w) ≡ number_of ms (deepest_suffix (is_named ms) w)
  target_same w = ap (number_of ns) (deepest_same (is_named ns) (is_named ms) named_same w) ∙ numbers_same (deepest_suffix (is_named ms) w)

  link_same : (n : ℕ) → n < 2 ^ 32 → link_of ns n ≡ link_of ms n
  link_same n fits = ap (λ o. option_and_then (number_of ns) (option_and_then (suffix_link (is_named ns)) o)) (same n fits) ∙ by (path_of ms n)
    where
      by : (o : Option (List ℕ)) → option_and_then (number_of ns) (option_and_then (suffix_link (is_named ns)) o) ≡ option_and_then (number_of ms) (option_and_then (suffix_link (is_named ms)) o)
      by None = refl
      by (Some []) = refl
      by (Some (i ∷ w)) = target_same w

  edge_same : (k : ℕ × ℕ) → k.0 < 2 ^ 32 → edge_of users ns k ≡ edge_of users ms k
  edge_same k fits = ap (option_and_then (edge_from users ns k.1)) (same k.0 fits) ∙ by (path_of ms k.0)
    where
      by : (o : Option (List ℕ)) → option_and_then (edge_from users ns k.1) o ≡ option_and_then (edge_from users ms k.1) o
      by None = refl
      by (Some w) = ap (λ x. cond (users k.1 && not (is_suffix (k.1 ∷ []) w)) x None) (target_same (w ++ k.1 ∷ []))

  pub held_so : HoldsStates users ms t
  held_so = record {
    names = a;
    numbers = h.numbers;
    own = λ w e. h.own w (named_same w ∙ e);
    tables = record {
      depth = gives_same _ t _ _ (λ n fits. ap (option_map (λ w. length w)) (same n fits)) h.tables.depth;
      link = gives_same _ t _ _ link_same h.tables.link;
      linked = gives_same _ t _ _ (λ k fits. ap (λ o. row_where (leads_to o k.0)) (link_same k.1 fits.second)) h.tables.linked;
      edge = gives_same _ t _ _ (λ k fits. edge_same k fits.first) h.tables.edge;
      led = gives_same _ t _ _ (λ k fits. ap (λ o. row_where (leads_to o k.0)) (edge_same (k.1, k.2) fits.second)) h.tables.led;
    };
  }

pub worlds_are_held : WorldsAreHeld
worlds_are_held t users ns ws a h = held_so t users ns (names_of ws) h a.names (a.told.tell users ns h)
