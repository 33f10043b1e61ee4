-- The explicit rows that were read of a path's world, and the statements of this path.
use Rattle.std.proofs.Common.{◌≡◌, ◌∙◌, ℕ, Bool, true, List, [], ◌∷◌, ap, sym, Option, Some, None}
use Rattle.std.specs.List.{AllByRecursion}
use Rattle.std.proofs.lemmas.Bool.{cond-true}
use Rattle.bdb_base.specs.Bases.{Contents}
use Rattle.bdb_base.specs.Clash.{key_of}
use Rattle.bdb_base.specs.Worlds.{explicit, IsConsistent}
use Rattle.bdb_base.specs.declared.kinds.Sign.{Sign}
use Rattle.bdb_base.specs.declared.kinds.Stmt.{Stmt}
use Rattle.bdb_base.specs.declared.tuple.Tuple.{Tuple}
use Rattle.bdb_base.proofs.WorldLemmas.{explicit_tuple}
use Rattle.bdb_base.proofs.OptionLemmas.{some_of}
use Rattle.bdb_keep.specs.Tables.{Tables}
use Rattle.bdb_key.specs.Grammar.{IsNum}
use Rattle.bdb_key.specs.Rows.{IsTupleRow}
use Rattle.bdb_tables.specs.InUse.{ValKey}
use Rattle.bdb_tables.specs.Marks.{Mark, explicit_of, explicit_sign}
use Rattle.bdb_tables.specs.Names.{Names, path_of, number_of}
use Rattle.bdb_tables.specs.Rows.{Tuples, row_for, AreKeyLengths}
use Rattle.bdb_val.specs.Middle.{worlds_of, HasExplicit}
use Rattle.bdb_val.specs.Reads.{AreReadUnder, IsSpan, is_of_group}
use Rattle.bdb_val.specs.Settling.{mark_in, AreNamed}
use Rattle.bdb_val.specs.declared.stored.StoredRow.{StoredRow}
use Rattle.bdb_val.proofs.HeldLemmas.{held_rows_are_explicit}
use Rattle.bdb_val.proofs.ReadLemmas.{read_named, read_mark, read_apart, told_tested, group_span, key_of_fits}
use Rattle.bdb_tables.specs.Stored.{StoredAs}
use Rattle.bdb_tables.specs.GroupMarks.{group_bytes}
use Rattle.bdb_tables.proofs.SignLemmas.{sign_is_explicit, one_sign}
use Rattle.bdb_val.proofs.StepLemmas.{mark_of_each}
use Rattle.bdb_update.proofs.KeyLemmas.{lengths_fit}
use Rattle.bdb_update.proofs.MarkLemmas.{explicit_is, row_found, both}
use Rattle.bdb_update.specs.Keys.{keys_of}

-- a row, if it is explicit, is a statement at a path
abbrev pub IsSaid : List Stmt → List ℕ → StoredRow → Type 0
IsSaid stmts w r = r.mark.1 ≡ true → explicit stmts w r.tuple r.mark.0 ≡ true

module _ (t : Tables) (b : Contents) (ns : Names) (ts : Tuples) (stored : StoredAs ns ts t b) (consistent : IsConsistent (keys_of b) b.stmts) (w : List ℕ) (wid : ℕ) (number : number_of ns w ≡ Some wid)
    (u : Tuple) (fits : IsTupleRow u) (rows : List StoredRow) (read : AreReadUnder t (group_bytes wid u.rel (key_of (keys_of b) u)) rows) where
  abbrev held : ValKey → Option Mark
  held = row_for (keys_of b) b.stmts (path_of ns) ts.tuple

  -- whether a tuple has the relation and key of this one
  abbrev pub test : Tuple → Bool
  test = is_of_group (keys_of b) u.rel (key_of (keys_of b) u)

  named : path_of ns wid ≡ Some w
  named = stored.states.names.numbered w wid number

  wid_fits : IsNum wid
  wid_fits = stored.states.names.sized w wid number

  lengths : AreKeyLengths (keys_of b)
  lengths = lengths_fit t b.catalog.rels stored.rels

  has : HasExplicit (keys_of b) b.stmts (worlds_of ns) ts.tuple held t
  has = held_rows_are_explicit (keys_of b) b.stmts ns ts t lengths stored.states.names (λ v e. stored.worlds v ∙ e) consistent stored.tuples stored.rows

  span : IsSpan (keys_of b) wid test (group_bytes wid u.rel (key_of (keys_of b) u))
  span = group_span (keys_of b) lengths wid u.rel (key_of (keys_of b) u) wid_fits fits.rel (key_of_fits (keys_of b) lengths u fits)

  tuples : AreNamed ts.tuple rows
  tuples = read_named (keys_of b) ts.tuple held t has.rows (group_bytes wid u.rel (key_of (keys_of b) u)) rows read

  tested : AllByRecursion (λ r. test r.tuple ≡ true) rows
  tested = told_tested (keys_of b) ts.tuple held t has.rows wid test (group_bytes wid u.rel (key_of (keys_of b) u)) rows span read

  marks : AllByRecursion (λ r. mark_in rows r.tid ≡ Some r.mark) rows
  marks = mark_of_each rows rows (λ _ _ k. k) (read_apart (keys_of b) ts.tuple held t has.rows wid test (group_bytes wid u.rel (key_of (keys_of b) u)) rows span read)

  mark : (tid : ℕ) (v : Tuple) → ts.tuple tid ≡ Some v → test v ≡ true → explicit_of (mark_in rows tid) ≡ explicit_sign b.stmts w v
  mark tid v n e =
      ap explicit_of (read_mark (keys_of b) ts.tuple held t has.rows wid test (group_bytes wid u.rel (key_of (keys_of b) u)) rows wid_fits span read tid v n e)
      ∙ has.explicit wid w tid v named n

  -- each explicit row is a statement
  pub rows_said : AllByRecursion (IsSaid b.stmts w) rows
  rows_said = go rows tuples tested marks
    where
      go : (rs : List StoredRow) → AreNamed ts.tuple rs → AllByRecursion (λ r. test r.tuple ≡ true) rs → AllByRecursion (λ r. mark_in rows r.tid ≡ Some r.mark) rs → AllByRecursion (IsSaid b.stmts w) rs
      go [] a c m = tt
      go (r ∷ rs) a c m = (
        (λ e. sign_is_explicit b.stmts w r.tuple r.mark.0
            (sym (mark r.tid r.tuple a.0 c.0) ∙ ap explicit_of m.0 ∙ cond-true r.mark.1 (Some r.mark.0) None e)),
        go rs a.1 c.1 m.1,
      )

  -- each statement of the relation and key has an explicit row, of which holds what holds of all
  pub said_rows : (Q : StoredRow → Type 0) → AllByRecursion Q rows → (v : Tuple) (s : Sign) → explicit b.stmts w v s ≡ true → test v ≡ true → (r : StoredRow) × (r.tuple ≡ v) × (r.mark ≡ (s, true)) × Q r
  said_rows Q all v s e g =
      let n = some_of (ts.number v) (stored.tuples.stated v ∙ explicit_tuple b.stmts w v s e) in
      let k = stored.tuples.numbered v n.0 n.1 in
      let m = explicit_is (mark_in rows n.0) s (mark n.0 v k g ∙ one_sign (keys_of b) b.stmts w v s consistent e) in
      let r = row_found (λ q. (ts.tuple q.tid ≡ Some q.tuple) × Q q) rows n.0 (s, true) (both (λ q. ts.tuple q.tid ≡ Some q.tuple) Q rows tuples all) m in
      (r.0, same (ts.tuple n.0) (ap ts.tuple (sym r.1) ∙ r.3.0) k, r.2, r.3.1)
    where
      same : {x y : Tuple} (o : Option Tuple) → o ≡ Some x → o ≡ Some y → x ≡ y
      same o p q = cc
