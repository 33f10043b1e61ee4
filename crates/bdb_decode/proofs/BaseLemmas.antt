-- The base that parts of tables and statements make.
use Rattle.std.proofs.Common.{◌≡◌, ◌∙◌, ℕ, Bool, true, false, List, ap, sym, subst}
use Rattle.bdb_base.specs.Bases.{Contents, IsValid, key_lengths}
use Rattle.bdb_base.specs.SortedSet.{ascending}
use Rattle.bdb_base.specs.declared.kinds.Catalog.{Catalog}
use Rattle.bdb_base.specs.declared.kinds.Stmt.{Stmt}
use Rattle.bdb_catalog.specs.Bases.{StoresValid}
use Rattle.bdb_keep.specs.Tables.{Tables}
use Rattle.bdb_decode.specs.Explicit.{Paths, TupleRows}
use Rattle.bdb_decode.specs.Items.{number_cmp}
use Rattle.bdb_decode.specs.Parts.{AreFormed, AreParts, StoreNone, TellsRowsOf}
use Rattle.bdb_decode.specs.SettledRows.{AreKeyed}
use Rattle.bdb_decode.specs.Whole.{AreBaseStatements, HaveNoBaseStatements}
use Rattle.bdb_decode.proofs.KeyedLemmas.{placed_rows_are_keyed}
use Rattle.bdb_decode.proofs.PartLemmas.{in_order, no_rows, not_stated, stores, tuples_named}
use Rattle.bdb_decode.proofs.WholeLemmas.{lengths_of}

-- a catalog and statements
abbrev base_with : Catalog → List Stmt → Contents
base_with c stmts = record { catalog = c; stmts = stmts }

module _ (t : Tables) (c : Catalog) (worlds : Paths) (tuples : TupleRows) (p : AreParts t c worlds tuples) (named : Paths) (numbered : TupleRows) (same : named ≡ worlds) (also : numbered ≡ tuples) where
  abbrev keys : ℕ → ℕ
  keys = key_lengths c.rels

  pub worlds_up : ascending number_cmp named ≡ true
  worlds_up = ap (ascending number_cmp) same ∙ p.states.sorted

  pub tuples_up : ascending number_cmp numbered ≡ true
  tuples_up = ap (ascending number_cmp) also ∙ in_order t c worlds tuples p

  pub none_stated : HaveNoBaseStatements t c named numbered → StoreNone t
  none_stated h = not_stated t c worlds tuples p (subst (λ ws. HaveNoBaseStatements t c ws tuples) same (subst (HaveNoBaseStatements t c named) also h))

  module _ (stmts : List Stmt) (a : AreBaseStatements t c named numbered stmts) where
    whole : AreBaseStatements t c worlds tuples stmts
    whole = subst (λ ws. AreBaseStatements t c ws tuples stmts) same (subst (λ us. AreBaseStatements t c named us stmts) also a)

    pub made_valid : (made : List Stmt) → made ≡ stmts → IsValid c made
    made_valid made is = subst (IsValid c) (sym is) (record { catalog = p.catalog.valid; stmts = whole.whole.valid })

    pub rows_keyed : (u : Tables) → u ≡ t → AreKeyed keys u
    rows_keyed u kept = subst (AreKeyed keys) (sym kept) (placed_rows_are_keyed keys t worlds tuples whole.stated.are.rows p.states.names p.numbered.tuples
        (lengths_of c p.catalog.valid) p.states.paths p.states.states.tables.depth p.numbered.has (tuples_named t tuples p.numbered) whole.stated.are.are)

    module _ (u : Tables) (later : Paths) (b : Bool) (kept : u ≡ t) (still : later ≡ worlds) (h : TellsRowsOf keys u later b) where
      told : TellsRowsOf keys t worlds b
      told = subst (λ v. TellsRowsOf keys v worlds b) kept (subst (λ ws. TellsRowsOf keys u ws b) still h)

      pub base_stored : AreFormed t → b ≡ true → (made : List Stmt) → made ≡ stmts → (base : Contents) → base ≡ record { catalog = c; stmts = made } → StoresValid t base
      base_stored formed good made is base e =
          subst (StoresValid t) (sym (e ∙ ap (base_with c) is)) (stores t c worlds tuples p stmts whole formed (subst (TellsRowsOf keys t worlds) good told))

      pub none_held : b ≡ false → StoreNone t
      none_held bad = no_rows t c worlds tuples p stmts whole (subst (TellsRowsOf keys t worlds) bad told)
