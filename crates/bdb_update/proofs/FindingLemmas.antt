-- What was read of a statement, put together.
use Rattle.std.proofs.Common.{◌≡◌, ◌∙◌, ℕ, ◌≤◌, Bool, true, false, nat_eq, List, [], length, ap, sym, subst}
use Rattle.std.proofs.lemmas.Bool.{eq-eqb, eqb-true, false_from_ne_true}
use Rattle.bdb_base.specs.Clash.{key_of}
use Rattle.bdb_base.specs.declared.kinds.Stmt.{Stmt}
use Rattle.bdb_base.specs.declared.tuple.Tuple.{Tuple}
use Rattle.bdb_keep.specs.Tables.{Tables}
use Rattle.bdb_key.specs.Rows.{IsTupleRow}
use Rattle.bdb_tables.specs.Codec.{HasAt}
use Rattle.bdb_tables.specs.InUse.{tuple_ix_codec}
use Rattle.bdb_val.specs.declared.stored.StoredRow.{StoredRow}
use Rattle.bdb_worlds.specs.Reach.{ReachesState}
use Rattle.bdb_update.specs.Groups.{AreExplicitUnder}
use Rattle.bdb_tables.specs.Lengths.{IsKeyLength}
use Rattle.bdb_tables.specs.GroupMarks.{group_bytes}
use Rattle.bdb_update.specs.Looking.{AreRowsIf, IsFinding, prefix_of}
use Rattle.bdb_update.specs.declared.looking.Finding.{Finding}

rows_asked : (keys : ℕ → ℕ) (t : Tables) (wid : ℕ) (u : Tuple) (asked : Bool) (rows : List StoredRow) → AreRowsIf keys t wid u asked rows → asked ≡ true → AreExplicitUnder t (group_bytes wid u.rel (key_of keys u)) rows
rows_asked keys t wid u true rows h e = h
rows_asked keys t wid u false rows h e = absurd cc

rows_not_asked : (keys : ℕ → ℕ) (t : Tables) (wid : ℕ) (u : Tuple) (asked : Bool) (rows : List StoredRow) → AreRowsIf keys t wid u asked rows → asked ≡ false → rows ≡ []
rows_not_asked keys t wid u true rows h e = absurd cc
rows_not_asked keys t wid u false rows h e = h

pub finding_is : (t u v : Tables) (x : Stmt) (p : Finding) (w : List ℕ) → w ≡ x.path → u ≡ t → v ≡ t → ReachesState t w p.len p.wid → p.len ≤ length w
    → IsKeyLength t x.tuple.rel p.key_len → AreRowsIf (λ _. p.key_len) u p.wid x.tuple (nat_eq p.len (length w)) p.rows.items → HasAt tuple_ix_codec v x.tuple p.tid → IsTupleRow x.tuple → IsFinding t x p
finding_is t u v x p w e f g reaches within long rows number fits =
    let l : length w ≡ length x.path = ap length e in
    record {
      reaches = subst (λ z. ReachesState t z p.len p.wid) e reaches;
      within = subst (λ n. p.len ≤ n) l within;
      key_length = long;
      rows = λ d. subst (λ (z : Tables). AreExplicitUnder z (prefix_of (λ _. p.key_len) p.wid x) p.rows.items) f
          (rows_asked (λ _. p.key_len) u p.wid x.tuple (nat_eq p.len (length w)) p.rows.items rows (eq-eqb p.len (length w) (d ∙ sym l)));
      none = λ d. rows_not_asked (λ _. p.key_len) u p.wid x.tuple (nat_eq p.len (length w)) p.rows.items rows
          (false_from_ne_true (nat_eq p.len (length w)) (λ k. d (eqb-true p.len (length w) k ∙ l)));
      number = subst (λ (z : Tables). HasAt tuple_ix_codec z x.tuple p.tid) g number;
      fits = fits;
    }
