-- Tables that store a base are in the grammar.
use Rattle.std.proofs.Common.{◌≡◌, ℕ, Bool, true, false, nat_eq, List, refl, sym, ◌∙◌, arith}
use Rattle.std.specs.Bool.{MatchBool}
use Rattle.std.proofs.lemmas.Bool.{eqb-true}
use Rattle.std.proofs.lemmas.Bool.Decides.{nat_tests}
use Rattle.bdb_base.specs.Bases.{Contents}
use Rattle.bdb_keep.specs.Tables.{Tables}
use Rattle.bdb_tables.specs.Grammar.{InGrammar}
use Rattle.bdb_tables.specs.InUse.{meta_codec, user_codec, rel_codec, tuple_codec, tuple_ix_codec, depth_codec, link_codec, linked_codec, edge_codec, led_codec, val_codec, plain_codec}
use Rattle.bdb_tables.specs.Names.{Names}
use Rattle.bdb_tables.specs.Rows.{Tuples}
use Rattle.bdb_tables.specs.Stored.{is_table, StoredOver}
use Rattle.bdb_base.specs.declared.kinds.Stmt.{Stmt}
use Rattle.bdb_base.proofs.OptionLemmas.{none_is_some}
use Rattle.bdb_tables.proofs.Held.{held}
use Rattle.bdb_update.specs.StoredLaws.{StoredIsInGrammar}

-- what holds whichever way a test answers
pub by_test : (b : Bool) (P Q : Type 0) → (b ≡ true → P) → (b ≡ false → Q) → MatchBool b P Q
by_test true P Q p q = p refl
by_test false P Q p q = q refl

-- the numbers of tables are told by twelve tests
pub no_table : (n : ℕ) → nat_eq n 1 ≡ false → nat_eq n 2 ≡ false → nat_eq n 3 ≡ false → nat_eq n 4 ≡ false → nat_eq n 5 ≡ false → nat_eq n 6 ≡ false
    → nat_eq n 7 ≡ false → nat_eq n 8 ≡ false → nat_eq n 9 ≡ false → nat_eq n 10 ≡ false → nat_eq n 11 ≡ false → nat_eq n 12 ≡ false → is_table n ≡ false
no_table n a b c d e f g h i j k l = grind (arith, nat_tests)

module _ (reached told : List Stmt) (ns : Names) (ts : Tuples) (t : Tables) (b : Contents) (h : StoredOver reached told ns ts t b) where
  pub over_in_grammar : InGrammar t
  over_in_grammar n k r found =
      by_test (nat_eq n 1) _ _ (λ e. held meta_codec t h.format.fits n k r (eqb-true n 1 e) found) (λ n1.
      by_test (nat_eq n 2) _ _ (λ e. held user_codec t h.users.fits n k r (eqb-true n 2 e) found) (λ n2.
      by_test (nat_eq n 3) _ _ (λ e. held rel_codec t h.rels.fits n k r (eqb-true n 3 e) found) (λ n3.
      by_test (nat_eq n 4) _ _ (λ e. held tuple_codec t h.tuples.tuples.fits n k r (eqb-true n 4 e) found) (λ n4.
      by_test (nat_eq n 5) _ _ (λ e. held tuple_ix_codec t h.tuples.numbers.fits n k r (eqb-true n 5 e) found) (λ n5.
      by_test (nat_eq n 6) _ _ (λ e. held depth_codec t h.states.tables.depth.fits n k r (eqb-true n 6 e) found) (λ n6.
      by_test (nat_eq n 7) _ _ (λ e. held link_codec t h.states.tables.link.fits n k r (eqb-true n 7 e) found) (λ n7.
      by_test (nat_eq n 8) _ _ (λ e. held linked_codec t h.states.tables.linked.fits n k r (eqb-true n 8 e) found) (λ n8.
      by_test (nat_eq n 9) _ _ (λ e. held edge_codec t h.states.tables.edge.fits n k r (eqb-true n 9 e) found) (λ n9.
      by_test (nat_eq n 10) _ _ (λ e. held led_codec t h.states.tables.led.fits n k r (eqb-true n 10 e) found) (λ n10.
      by_test (nat_eq n 11) _ _ (λ e. held val_codec t h.rows.fits n k r (eqb-true n 11 e) found) (λ n11.
      by_test (nat_eq n 12) _ _ (λ e. held plain_codec t h.plain.fits n k r (eqb-true n 12 e) found)
      (λ n12. none_is_some r (sym (h.outside n k (no_table n n1 n2 n3 n4 n5 n6 n7 n8 n9 n10 n11 n12)) ∙ found)))))))))))))

pub stored_is_in_grammar : StoredIsInGrammar
stored_is_in_grammar t b s = over_in_grammar b.stmts b.stmts s.names s.tuples t b s.stored
