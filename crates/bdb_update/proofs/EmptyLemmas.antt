-- The two rows that store the empty base.
use Rattle.std.proofs.Common.{◌≡◌, ◌∙◌, ℕ, true, false, not, ◌&&◌, nat_eq, nat_le, cond, List, [], ◌∷◌, Option, Some, None, refl, ap, sym, arith, lit<}
use Rattle.std.specs.FinMap as tables
use Rattle.std.specs.List.{list_all, slice_get}
use Rattle.std.specs.Option.{option_and_then}
use Rattle.std.proofs.lemmas.Bool.{false≢true}
use Rattle.std.proofs.lemmas.Bool.Decides.{nat_tests}
use Rattle.bdb_base.specs.Bases.{empty_contents, is_user, key_lengths}
use Rattle.bdb_base.specs.Segments.{is_suffix}
use Rattle.bdb_base.specs.States.{edge_target, is_state}
use Rattle.bdb_base.specs.declared.kinds.RelDef.{RelDef}
use Rattle.bdb_keep.specs.Tables.{Tables}
use Rattle.bdb_tables.specs.Codec.{Codec}
use Rattle.bdb_tables.specs.InUse.{ValKey, meta_codec, user_codec, rel_codec, tuple_codec, tuple_ix_codec, depth_codec, edge_codec, led_codec, val_codec, plain_codec}
use Rattle.bdb_tables.specs.Names.{number_of, is_named, path_of, leads_to, edge_from, edge_of}
use Rattle.bdb_tables.specs.Rows.{Tuples, row_for, row_named}
use Rattle.bdb_tables.specs.States.{HoldsStates, row_where}
use Rattle.bdb_tables.specs.Stored.{slot_of, Stores}
use Rattle.bdb_tables.specs.Writes.{Gives, with_change, with_row_at}
use Rattle.bdb_tables.proofs.CatalogLemmas.{no_rows, no_slots}
use Rattle.bdb_tables.proofs.SameLemmas.{outside_one, change_same}
use Rattle.bdb_tables.proofs.WriteLemmas.{change_gives, change_elsewhere, gives_same}
use Rattle.bdb_worlds.specs.Root.{root_names}
use Rattle.bdb_worlds.proofs.RootLemmas.{root_is_world}
use Rattle.bdb_update.specs.StoredLaws.{HaveNoRows}

-- tables without any row have none in any table
pub empty_has_none : HaveNoRows tables.empty
empty_has_none n k = no_rows (n ∷ k)

none_gives : {Key Row : Type 0} (c : Codec Key Row) (t : Tables) → HaveNoRows t → Gives c t (λ _. None)
none_gives c t none = record {
  fits = λ k r found. let e : None ≡ Some r = sym (none c.number k) ∙ found in absurd cc;
  rows = λ key fits. none c.number (c.key_bytes key);
  written = λ key fits. tt;
}

abbrev no_tuples : Tuples
no_tuples = record { tuple = λ _. None; number = λ _. None }

abbrev no_rel : List RelDef
no_rel = []

no_user : (i : ℕ) → is_user [] i ≡ false
no_user i = grind (arith, nat_tests)

abbrev format_put : Tables → Tables
format_put t = with_change meta_codec t (tt, Some 3)

abbrev two_rows : Tables → Tables
two_rows t = with_change depth_codec (format_put t) (0, Some 0)

module _ (t : Tables) (none : HaveNoRows t) where
  nothing_else : {Key Row : Type 0} (c : Codec Key Row) → (c.number ≡ 1 → ⊥) → (c.number ≡ 6 → ⊥) → Gives c (two_rows t) (λ _. None)
  nothing_else c a b = change_elsewhere c depth_codec b (format_put t) (λ _. None) (0, Some 0) (change_elsewhere c meta_codec a t (λ _. None) (tt, Some 3) (none_gives c t none))

  no_worlds : (n : ℕ) (k : List ℕ) → (nat_le 6 n && nat_le n 10) ≡ true → tables.get (format_put t) (n ∷ k) ≡ None
  no_worlds n k e = change_same meta_codec (λ m. nat_eq m 1) t (tt, Some 3) refl n k (not_one n e) ∙ none n k
    where
      not_one : (m : ℕ) → (nat_le 6 m && nat_le m 10) ≡ true → nat_eq m 1 ≡ false
      not_one m f = grind (arith, nat_tests)

  root_states : HoldsStates (λ _. false) root_names (two_rows t)
  root_states = root_is_world (format_put t) no_worlds

  same_edges : (k : ℕ × ℕ) → edge_of (λ _. false) root_names k ≡ edge_of (is_user []) root_names k
  same_edges k = by (path_of root_names k.0)
    where
      by : (o : Option (List ℕ)) → option_and_then (edge_from (λ _. false) root_names k.1) o ≡ option_and_then (edge_from (is_user []) root_names k.1) o
      by None = refl
      by (Some w) = ap (λ b. cond (b && not (is_suffix (k.1 ∷ []) w)) (number_of root_names (edge_target (is_named root_names) w k.1)) None) (sym (no_user k.1))

  root_users : HoldsStates (is_user []) root_names (two_rows t)
  root_users = record {
    names = root_states.names;
    numbers = λ i e. absurd (false≢true (sym (no_user i) ∙ e));
    own = λ w e. by w (root_states.own w e);
    tables = record {
      depth = root_states.tables.depth;
      link = root_states.tables.link;
      linked = root_states.tables.linked;
      edge = gives_same edge_codec (two_rows t) (edge_of (λ _. false) root_names) (edge_of (is_user []) root_names) (λ k f. same_edges k) root_states.tables.edge;
      led = gives_same led_codec (two_rows t) _ _ (λ k f. ap (λ o. row_where (leads_to o k.0)) (same_edges (k.1, k.2))) root_states.tables.led;
    };
  }
    where
      by : (w : List ℕ) → list_all (λ (i : ℕ). false) w ≡ true → list_all (is_user []) w ≡ true
      by [] e = refl
      by (i ∷ w) e = absurd (false≢true e)

  no_held : (keys : ℕ → ℕ) (k : ValKey) → None ≡ row_for keys [] (path_of root_names) (λ _. None) k
  no_held keys k = by (path_of root_names k.0)
    where
      by : (o : Option (List ℕ)) → None ≡ row_named keys [] k o None
      by None = refl
      by (Some w) = refl

  is_root : (w : List ℕ) → is_named root_names w ≡ is_state [] w
  is_root [] = refl
  is_root (i ∷ w) = refl

  pub two_rows_store_empty : Stores (two_rows t) empty_contents
  two_rows_store_empty = record {
    names = root_names;
    tuples = no_tuples;
    stored = record {
      format = change_elsewhere meta_codec depth_codec (λ e. cc) (format_put t) (λ _. Some 3) (0, Some 0)
          (gives_same meta_codec (format_put t) (with_row_at meta_codec (λ _. None) (tt, Some 3)) (λ _. Some 3) (λ k f. refl)
          (change_gives meta_codec (λ a b fa fb. refl) t (λ _. None) (tt, Some 3) (record { key = tt; row = lit< tt }) (none_gives meta_codec t none)));
      users = gives_same user_codec (two_rows t) (λ _. None) (slot_of []) (λ k f. no_slots k) (nothing_else user_codec (λ e. cc) (λ e. cc));
      rels = gives_same rel_codec (two_rows t) (λ _. None) (slice_get no_rel) (λ k f. refl) (nothing_else rel_codec (λ e. cc) (λ e. cc));
      tuples = record {
        tuples = nothing_else tuple_codec (λ e. cc) (λ e. cc);
        numbers = nothing_else tuple_ix_codec (λ e. cc) (λ e. cc);
        named = λ tid u e. absurd cc;
        numbered = λ u tid e. absurd cc;
        sized = λ tid u e. absurd cc;
        stated = λ u. refl;
      };
      states = root_users;
      worlds = is_root;
      rows = gives_same val_codec (two_rows t) (λ _. None) _ (λ k f. no_held (key_lengths no_rel) k) (nothing_else val_codec (λ e. cc) (λ e. cc));
      plain = nothing_else plain_codec (λ e. cc) (λ e. cc);
      outside = λ n k out.
          change_same depth_codec (λ m. nat_eq m 6) (format_put t) (0, Some 0) refl n k (outside_one 6 refl n out)
          ∙ change_same meta_codec (λ m. nat_eq m 1) t (tt, Some 3) refl n k (outside_one 1 refl n out) ∙ none n k;
    };
  }
