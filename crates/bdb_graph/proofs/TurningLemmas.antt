-- Suffix links and edges, turned round.
use Rattle.std.proofs.Common.{◌≡◌, ◌∙◌, ℕ, Bool, true, false, cond, nat_eq, List, [], ◌∷◌, ◌++◌, take, drop, append_assoc, Option, Some, None, refl, ap, sym, subst, inl, inr}
use Rattle.std.specs.Prelude.{MatchOption}
use Rattle.std.specs.Bool.{MatchBool}
use Rattle.std.specs.Option.{option_map}
use Rattle.std.specs.Ordering.{eq_by_cmp, is_le}
use Rattle.std.specs.FinMap as tables
use Rattle.std.proofs.lemmas.Bool.{cases_Bool, false≢true, eqb-true, eqb-false, eq-eqb}
use Rattle.bdb_base.proofs.OptionLemmas.{none_is_some, same_some}
use Rattle.bdb_keep.specs.Tables.{Tables, IsLeastFrom, NoneFrom, bytes_cmp}
use Rattle.bdb_keep.proofs.Scans.{between_keys}
use Rattle.bdb_keep.proofs.RowsLemmas.{same_place}
use Rattle.bdb_key.specs.Bytes.{num_bytes}
use Rattle.bdb_key.specs.Grammar.{IsNum}
use Rattle.bdb_key.proofs.Alone.{one_num}
use Rattle.bdb_tables.specs.Codec.{place}
use Rattle.bdb_tables.specs.Grammar.{InGrammar}
use Rattle.bdb_tables.specs.InUse.{link_codec, linked_codec, edge_codec, led_codec, IsPair, pair_bytes, triple_bytes}
use Rattle.bdb_tables.specs.InUseLaws.{number_rows_are_one}
use Rattle.bdb_tables.specs.Names.{Names, leads_to}
use Rattle.bdb_tables.specs.States.{HoldsStates, row_where}
use Rattle.bdb_tables.specs.Writes.{Gives}
use Rattle.bdb_tables.proofs.Held.{leads_is}
use Rattle.bdb_entries.proofs.ReadLemmas.{past}
use Rattle.bdb_entries.proofs.TupleLemmas.{given_is, holding}
use Rattle.bdb_graph.specs.Turning.{AreTurned, BothTurned, HasTurned, IsNextRow, TurnRound}
use Rattle.bdb_graph.specs.Ups.{HoldNoStates}
use Rattle.bdb_graph.specs.declared.turning.Way.{Way}
use Rattle.bdb_graph.specs.declared.turning.Way.TheVariants.{Round, Back}

-- ---- going over a table

-- each row whose key lies below some bytes is in another table, turned round
abbrev pub TurnedBelow : Tables → ℕ → Way → ℕ → List ℕ → Type 0
TurnedBelow t tab way other low = (k r : List ℕ) → tables.get t (tab ∷ k) ≡ Some r → is_le (bytes_cmp low k) ≡ false → HasTurned t way other k r

pub below_none : (t : Tables) (tab : ℕ) (way : Way) (other : ℕ) (low : List ℕ) → low ≡ [] → TurnedBelow t tab way other low
below_none t tab way other low e [] r found under = absurd (false≢true (sym under ∙ ap (λ x. is_le (bytes_cmp x [])) e))
below_none t tab way other low e (b ∷ k) r found under = absurd (false≢true (sym under ∙ ap (λ x. is_le (bytes_cmp x (b ∷ k))) e))

pub below_more : (t u : Tables) (tab : ℕ) (way : Way) (other : ℕ) (low behind key row : List ℕ) → u ≡ t → IsNextRow u tab low behind key row → HasTurned t way other key row
    → TurnedBelow t tab way other low → TurnedBelow t tab way other behind
below_more t u tab way other low behind key row same step here h k r found under = elim (cases_Bool (is_le (bytes_cmp low k))) [
  | inl from ↦ by (eq_by_cmp bytes_cmp k key) refl
      (sym (between_keys t tab low key row k (subst (λ v. IsLeastFrom v tab low key row) same step.least) from (ap (λ x. is_le (bytes_cmp x k)) (sym step.moved) ∙ under)) ∙ found)
  | inr less ↦ h k r found less
]
  where
    by : (b : Bool) → eq_by_cmp bytes_cmp k key ≡ b → cond (eq_by_cmp bytes_cmp k key) (Some row) None ≡ Some r → HasTurned t way other k r
    by true e f =
        let is : row ≡ r = same_some row r (sym (ap (λ b. cond b (Some row) None) e) ∙ f) in
        subst (HasTurned t way other k) is (subst (λ x. HasTurned t way other x row) (sym (same_place k key e)) here)
    by false e f = absurd (none_is_some r (sym (ap (λ b. cond b (Some row) None) e) ∙ f))

pub below_all : (t u : Tables) (tab : ℕ) (way : Way) (other : ℕ) (low : List ℕ) → u ≡ t → NoneFrom u tab low → TurnedBelow t tab way other low → AreTurned t tab way other
below_all t u tab way other low same none h k r found = elim (cases_Bool (is_le (bytes_cmp low k))) [
  | inl from ↦ absurd (none_is_some r (sym (subst (λ v. NoneFrom v tab low) same none k from) ∙ found))
  | inr less ↦ h k r found less
]

pub not_all : (t u v : Tables) (tab : ℕ) (way : Way) (other : ℕ) (low behind key row k r : List ℕ) → u ≡ t → v ≡ t → k ≡ key → r ≡ row → IsNextRow u tab low behind key row
    → (HasTurned v way other k r → ⊥) → AreTurned t tab way other → ⊥
not_all t u v tab way other low behind key row k r same too ke re step bad all =
    bad (subst (λ w. HasTurned w way other k r) (sym too) (subst (λ x. HasTurned t way other x r) (sym ke) (subst (HasTurned t way other key) (sym re)
    (all key row (subst (λ w. tables.get w (tab ∷ key) ≡ Some row) same step.least.found)))))

pub turned_here : (t u : Tables) (way : Way) (other : ℕ) (key row k r : List ℕ) → u ≡ t → k ≡ key → r ≡ row → HasTurned u way other k r → HasTurned t way other key row
turned_here t u way other key row k r same ke re h = subst (HasTurned t way other key) re (subst (λ x. HasTurned t way other x r) ke (subst (λ v. HasTurned v way other k r) same h))

-- ---- both ways

pub both_known : (t u v : Tables) (tab other : ℕ) (a b : Bool) → u ≡ t → a ≡ true → MatchBool a (AreTurned t tab Round other) (AreTurned t tab Round other → ⊥)
    → MatchBool b (AreTurned u other Back tab) (AreTurned u other Back tab → ⊥) → MatchBool b (BothTurned t tab other) (BothTurned t tab other → ⊥)
both_known t u v tab other a true same e h k = record { round = holding (AreTurned t tab Round other) (AreTurned t tab Round other → ⊥) a e h; back = subst (λ w. AreTurned w other Back tab) same k }
both_known t u v tab other a false same e h k = λ both. k (subst (λ w. AreTurned w other Back tab) (sym same) both.back)

pub not_round : (t : Tables) (tab other : ℕ) (a : Bool) → a ≡ false → MatchBool a (AreTurned t tab Round other) (AreTurned t tab Round other → ⊥) → BothTurned t tab other → ⊥
not_round t tab other a e h both = past (AreTurned t tab Round other) (AreTurned t tab Round other → ⊥) a e h both.round

-- ---- numbers that lead to others

-- a row without content
abbrev blank : Unit {0} → List ℕ
blank u = []

row_is : (b : Bool) (r : List ℕ) → option_map blank (row_where b) ≡ Some r → (b ≡ true) × (r ≡ [])
row_is true r e = (refl, sym (same_some [] r e))
row_is false r e = absurd (none_is_some r e)

row_fits : (b : Bool) → MatchOption (row_where b) (Unit {0}) (λ u. Unit {0})
row_fits true = tt
row_fits false = tt

-- what the other table has is nothing, or a row without content, as the link or edge tells
row_turned : (there : Option (List ℕ)) (from : Option (List ℕ)) (o : Option ℕ) (x : ℕ) → IsNum x → MatchOption o (Unit {0}) IsNum → from ≡ option_map num_bytes o
    → (from ≡ Some (num_bytes x) → there ≡ Some []) → ((r : List ℕ) → there ≡ Some r → from ≡ Some (num_bytes x)) → there ≡ option_map blank (row_where (leads_to o x))
row_turned None from None x fx fo e to back = refl
row_turned (Some r) from None x fx fo e to back = absurd (none_is_some (num_bytes x) (sym e ∙ back r refl))
row_turned there from (Some y) x fx fo e to back = elim (cases_Bool (nat_eq y x)) [
  | inl s ↦ to (e ∙ ap (λ n. Some (num_bytes n)) (eqb-true y x s)) ∙ sym (ap (λ b. option_map blank (row_where b)) s)
  | inr s ↦ none there refl (λ r f. eqb-false y x s (one_num y x fo fx (same_some (num_bytes y) (num_bytes x) (sym e ∙ back r f)))) ∙ sym (ap (λ b. option_map blank (row_where b)) s)
]
  where
    none : (p : Option (List ℕ)) → there ≡ p → ((r : List ℕ) → there ≡ Some r → ⊥) → there ≡ None
    none None f never = f
    none (Some r) f never = absurd (never r f)

module _ (t : Tables) (g : InGrammar t) where
  links_turn : BothTurned t 7 8 → (f : ℕ → Option ℕ) → Gives link_codec t f → Gives linked_codec t (λ k. row_where (leads_to (f k.1) k.0))
  links_turn h f gives = record {
    fits = λ k r e. g 8 k r e;
    rows = λ k fits. row_turned (tables.get t (place linked_codec k)) (tables.get t (place link_codec k.1)) (f k.1) k.0 fits.first (gives.written k.1 fits.second) (gives.rows k.1 fits.second)
        (λ e. h.round (num_bytes k.1) (num_bytes k.0) e) (λ r e. h.back (pair_bytes k) r e);
    written = λ k fits. row_fits (leads_to (f k.1) k.0);
  }

  edges_turn : BothTurned t 9 10 → (f : ℕ × ℕ → Option ℕ) → Gives edge_codec t f → Gives led_codec t (λ k. row_where (leads_to (f (k.1, k.2)) k.0))
  edges_turn h f gives = record {
    fits = λ k r e. g 10 k r e;
    rows = λ k fits.
        let own : IsPair (k.1, k.2) = record { first = fits.second; second = fits.third } in
        row_turned (tables.get t (place led_codec k)) (tables.get t (place edge_codec (k.1, k.2))) (f (k.1, k.2)) k.0 fits.first (gives.written (k.1, k.2) own) (gives.rows (k.1, k.2) own)
        (λ e. ap (λ p. tables.get t (10 ∷ p)) (append_assoc (num_bytes k.0) (num_bytes k.1) (num_bytes k.2)) ∙ h.round (pair_bytes (k.1, k.2)) (num_bytes k.0) e)
        (λ r e. h.back (triple_bytes k) r e);
    written = λ k fits. row_fits (leads_to (f (k.1, k.2)) k.0);
  }

  pub turn_round : BothTurned t 7 8 → BothTurned t 9 10 → TurnRound t
  turn_round h k = record { links = links_turn h; edges = edges_turn k }

-- ---- what the states tell

there_is : (o : Option ℕ) (n : ℕ) → o ≡ Some n → option_map blank (row_where (leads_to o n)) ≡ Some []
there_is o n e = ap (λ p. option_map blank (row_where (leads_to p n))) e ∙ ap (λ b. option_map blank (row_where b)) (eq-eqb n n refl)

module _ (t : Tables) (users : ℕ → Bool) (ns : Names) (h : HoldsStates users ns t) where
  pub links_turned : BothTurned t 7 8
  links_turned = record {
    round = λ k r e.
        let entry = h.tables.link.fits k r e in
        let n = entry.key in
        let s = entry.row in
        let fn = entry.key_reads.fits in
        let fs = entry.row_reads.fits in
        let found = ap (λ x. tables.get t (7 ∷ x)) entry.key_reads.spelled ∙ e ∙ ap Some (sym entry.row_reads.spelled) in
        let link = given_is link_codec number_rows_are_one t _ h.tables.link n fn s fs found in
        let there = h.tables.linked.rows (s, n) (record { first = fs; second = fn }) ∙ there_is _ s link in
        ap (λ x. tables.get t (8 ∷ (x ++ k))) (sym entry.row_reads.spelled) ∙ ap (λ x. tables.get t (8 ∷ (num_bytes s ++ x))) (sym entry.key_reads.spelled) ∙ there;
    back = λ k r e.
        let entry = h.tables.linked.fits k r e in
        let p = entry.key in
        let fits = entry.key_reads.fits in
        let led = row_is _ r (sym (h.tables.linked.rows p fits) ∙ ap (λ x. tables.get t (8 ∷ x)) entry.key_reads.spelled ∙ e) in
        subst (λ x. tables.get t (7 ∷ drop 4 x) ≡ Some (take 4 x)) entry.key_reads.spelled (h.tables.link.rows p.1 fits.second ∙ ap (option_map num_bytes) (leads_is _ p.0 led.0));
  }

  pub edges_turned : BothTurned t 9 10
  edges_turned = record {
    round = λ k r e.
        let entry = h.tables.edge.fits k r e in
        let p = entry.key in
        let s = entry.row in
        let fp = entry.key_reads.fits in
        let fs = entry.row_reads.fits in
        let found = ap (λ x. tables.get t (9 ∷ x)) entry.key_reads.spelled ∙ e ∙ ap Some (sym entry.row_reads.spelled) in
        let edge = given_is edge_codec number_rows_are_one t _ h.tables.edge p fp s fs found in
        let there = h.tables.led.rows (s, p.0, p.1) (record { first = fs; second = fp.first; third = fp.second }) ∙ there_is _ s edge in
        ap (λ x. tables.get t (10 ∷ (x ++ k))) (sym entry.row_reads.spelled) ∙ ap (λ x. tables.get t (10 ∷ (num_bytes s ++ x))) (sym entry.key_reads.spelled)
        ∙ ap (λ x. tables.get t (10 ∷ x)) (sym (append_assoc (num_bytes s) (num_bytes p.0) (num_bytes p.1))) ∙ there;
    back = λ k r e.
        let entry = h.tables.led.fits k r e in
        let p = entry.key in
        let fits = entry.key_reads.fits in
        let led = row_is _ r (sym (h.tables.led.rows p fits) ∙ ap (λ x. tables.get t (10 ∷ x)) entry.key_reads.spelled ∙ e) in
        subst (λ x. tables.get t (9 ∷ drop 4 x) ≡ Some (take 4 x)) entry.key_reads.spelled
        (h.tables.edge.rows (p.1, p.2) (record { first = fits.second; second = fits.third }) ∙ ap (option_map num_bytes) (leads_is _ p.0 led.0));
  }

pub round_known : (t u : Tables) → InGrammar t → (a b : Bool) → u ≡ t → a ≡ true → MatchBool a (BothTurned t 7 8) (BothTurned t 7 8 → ⊥) → MatchBool b (BothTurned u 9 10) (BothTurned u 9 10 → ⊥)
    → MatchBool b (TurnRound t) (HoldNoStates t)
round_known t u g a true same e h k = turn_round t g (holding (BothTurned t 7 8) (BothTurned t 7 8 → ⊥) a e h) (subst (λ w. BothTurned w 9 10) same k)
round_known t u g a false same e h k = λ users ns holds. k (subst (λ w. BothTurned w 9 10) (sym same) (edges_turned t users ns holds))

pub links_not_turned : (t : Tables) (a : Bool) → a ≡ false → MatchBool a (BothTurned t 7 8) (BothTurned t 7 8 → ⊥) → HoldNoStates t
links_not_turned t a e h users ns holds = past (BothTurned t 7 8) (BothTurned t 7 8 → ⊥) a e h (links_turned t users ns holds)
