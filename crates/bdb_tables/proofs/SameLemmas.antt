-- What tables have, where some of their tables are as before.
use Rattle.std.proofs.Common.{◌≡◌, ℕ, Bool, true, false, cond, nat_eq, List, [], ◌∷◌, Option, ap, sym, ◌∙◌}
use Rattle.std.specs.Ordering.{eq_by_cmp}
use Rattle.std.specs.Option.{option_map}
use Rattle.std.specs.FinMap as tables
use Rattle.std.proofs.lemmas.Bool.{false≢true, false_from_ne_true, eqb-true}
use Rattle.bdb_base.specs.declared.kinds.Stmt.{Stmt}
use Rattle.bdb_keep.specs.Tables.{Tables, bytes_cmp}
use Rattle.bdb_keep.proofs.RowsLemmas.{same_place}
use Rattle.bdb_tables.specs.Codec.{Codec, place}
use Rattle.bdb_tables.specs.InUse.{tuple_codec, tuple_ix_codec, depth_codec, link_codec, linked_codec, edge_codec, led_codec}
use Rattle.bdb_tables.specs.Names.{Names}
use Rattle.bdb_tables.specs.Rows.{Tuples, HoldsTuples}
use Rattle.bdb_tables.specs.States.{HoldsStates}
use Rattle.bdb_tables.specs.Stored.{is_table, SameBut}
use Rattle.bdb_tables.specs.Writes.{Gives, with_change}
use Rattle.bdb_tables.proofs.WriteLemmas.{get_after_change}

-- what is none of some tables is not one of them
pub outside_of : (test : ℕ → Bool) (one : ℕ) → test one ≡ true → (n : ℕ) → test n ≡ false → nat_eq n one ≡ false
outside_of test one t n h = false_from_ne_true (nat_eq n one) (λ e. false≢true (sym h ∙ ap test (eqb-true n one e) ∙ t))

pub outside_one : (one : ℕ) → is_table one ≡ true → (n : ℕ) → is_table n ≡ false → nat_eq n one ≡ false
outside_one one t n h = outside_of is_table one t n h

-- the number of a place's table passes a test
is_in : (ℕ → Bool) → List ℕ → Bool
is_in test [] = false
is_in test (n ∷ k) = test n

-- a change is in its table alone
pub change_same : {Key Row : Type 0} (d : Codec Key Row) (test : ℕ → Bool) (t : Tables) (x : Key × Option Row) → test d.number ≡ true → SameBut test t (with_change d t x)
unfolding is_in
change_same d test t x here n k out =
    get_after_change d t x (n ∷ k)
    ∙ ap (λ b. cond b (option_map d.row_bytes x.1) (tables.get t (n ∷ k)))
    (false_from_ne_true (eq_by_cmp bytes_cmp (n ∷ k) (place d x.0)) (λ e. false≢true (sym out ∙ ap (is_in test) (same_place (n ∷ k) (place d x.0) e) ∙ here)))

pub same_then : (test : ℕ → Bool) (t u v : Tables) → SameBut test t u → SameBut test u v → SameBut test t v
same_then test t u v a b n k out = b n k out ∙ a n k out

module _ (test : ℕ → Bool) (t u : Tables) (same : SameBut test t u) where
  pub gives_still : {Key Row : Type 0} (c : Codec Key Row) (f : Key → Option Row) → test c.number ≡ false → Gives c t f → Gives c u f
  gives_still c f out h = record {
    fits = λ k r found. h.fits k r (sym (same c.number k out) ∙ found);
    rows = λ key fits. same c.number (c.key_bytes key) out ∙ h.rows key fits;
    written = h.written;
  }

  pub tuples_still : (told : List Stmt) (ts : Tuples) → test 4 ≡ false → test 5 ≡ false → HoldsTuples told ts t → HoldsTuples told ts u
  tuples_still told ts a b h = record {
    tuples = gives_still tuple_codec ts.tuple a h.tuples;
    numbers = gives_still tuple_ix_codec ts.number b h.numbers;
    named = h.named;
    numbered = h.numbered;
    sized = h.sized;
    stated = h.stated;
  }

  pub states_still : (users : ℕ → Bool) (ns : Names) → test 6 ≡ false → test 7 ≡ false → test 8 ≡ false → test 9 ≡ false → test 10 ≡ false → HoldsStates users ns t → HoldsStates users ns u
  states_still users ns a b c d e h = record {
    names = h.names;
    numbers = h.numbers;
    own = h.own;
    tables = record {
      depth = gives_still depth_codec _ a h.tables.depth;
      link = gives_still link_codec _ b h.tables.link;
      linked = gives_still linked_codec _ c h.tables.linked;
      edge = gives_still edge_codec _ d h.tables.edge;
      led = gives_still led_codec _ e h.tables.led;
    };
  }
