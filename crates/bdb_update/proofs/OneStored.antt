-- Tables store one base.
use Rattle.std.proofs.Common.{◌≡◌, ℕ, true, ◌&&◌, List, [], ◌∷◌, Some, refl, ap, sym, subst, ◌∙◌, inl, inr}
use Rattle.std.proofs.lemmas.Bool.{cases_Bool, false≢true}
use Rattle.bdb_base.specs.Bases.{Contents, IsValid, key_lengths}
use Rattle.bdb_base.specs.OrderLemmas.{statement_exact}
use Rattle.bdb_base.specs.Same.{same_tuple, same_sign}
use Rattle.bdb_base.specs.States.{is_state}
use Rattle.bdb_base.specs.Worlds.{explicit, IsConsistent}
use Rattle.bdb_base.specs.declared.kinds.RelDef.{RelDef}
use Rattle.bdb_base.specs.declared.kinds.Sign.{Sign}
use Rattle.bdb_base.specs.declared.kinds.Stmt.{Stmt}
use Rattle.bdb_base.specs.declared.tuple.Tuple.{Tuple}
use Rattle.bdb_base.proofs.SetLemmas.{members_make_set}
use Rattle.bdb_base.proofs.WorldLemmas.{valid_is_consistent, nothing_stands, explicit_tuple, stands_is_explicit}
use Rattle.bdb_base.proofs.BoolLemmas.{same_tests}
use Rattle.bdb_base.proofs.OptionLemmas.{some_of}
use Rattle.bdb_names.proofs.NamedLemmas.{names_are_one}
use Rattle.bdb_keep.specs.Tables.{Tables}
use Rattle.bdb_tables.specs.InUse.{tuple_codec, val_codec}
use Rattle.bdb_tables.specs.InUseLaws.{tuple_rows_are_one, mark_rows_are_one}
use Rattle.bdb_tables.specs.Marks.{explicit_of}
use Rattle.bdb_tables.specs.Names.{Names, path_of}
use Rattle.bdb_tables.specs.Rows.{Tuples, row_for, HoldsRows}
use Rattle.bdb_tables.specs.Stored.{StoredAs}
use Rattle.bdb_tables.proofs.CatalogLemmas.{one_users, one_relations, one_contents}
use Rattle.bdb_tables.proofs.SignLemmas.{one_sign, sign_is_explicit}
use Rattle.bdb_tables.proofs.WriteLemmas.{gives_one}
use Rattle.bdb_val.specs.Middle.{worlds_of, HasExplicit}
use Rattle.bdb_val.specs.Settling.{row_key}
use Rattle.bdb_val.proofs.HeldLemmas.{held_rows_are_explicit}
use Rattle.bdb_val.proofs.ReadLemmas.{key_fits}
use Rattle.bdb_update.proofs.KeyLemmas.{lengths_fit}
use Rattle.bdb_update.specs.Keys.{keys_of}
use Rattle.bdb_update.specs.StoredLaws.{StoredBaseIsOne}

-- the path of a statement is a state
pub explicit_state : (stmts : List Stmt) (w : List ℕ) (u : Tuple) (s : Sign) → explicit stmts w u s ≡ true → is_state stmts w ≡ true
explicit_state stmts [] u s e = refl
explicit_state stmts (i ∷ w) u s e = elim (cases_Bool (is_state stmts (i ∷ w))) [
  | inl t ↦ t
  | inr f ↦ absurd (false≢true (sym (nothing_stands stmts i w (λ x. same_tuple x.tuple u && same_sign x.sign s) f) ∙ e))
]

-- ---- one stored base

pub consistent : (b : Contents) → IsValid b.catalog b.stmts → IsConsistent (keys_of b) b.stmts
consistent b v = valid_is_consistent b.catalog b.stmts v

-- the rows that tables give, as those of `StoredAs`
pub explicit_rows : (ns : Names) (ts : Tuples) (t : Tables) (b : Contents) → StoredAs ns ts t b → IsValid b.catalog b.stmts
    → HasExplicit (keys_of b) b.stmts (worlds_of ns) ts.tuple (row_for (keys_of b) b.stmts (path_of ns) ts.tuple) t
explicit_rows ns ts t b h v = held_rows_are_explicit (keys_of b) b.stmts ns ts t (lengths_fit t b.catalog.rels h.rels) h.states.names (λ w e. h.worlds w ∙ e) (consistent b v) h.tuples h.rows

module _ (ns ms : Names) (ts us : Tuples) (t : Tables) (a b : Contents) (h : StoredAs ns ts t a) (k : StoredAs ms us t b) (v : IsValid a.catalog a.stmts) (z : IsValid b.catalog b.stmts)
    (rels : a.catalog.rels ≡ b.catalog.rels) where
  -- the rows of the second base's worlds, with the lengths of the first one's keys
  held_rows : HoldsRows (keys_of a) b.stmts (path_of ms) us.tuple t
  held_rows = subst (λ (r : List RelDef). HoldsRows (key_lengths r) b.stmts (path_of ms) us.tuple t) (sym rels) k.rows

  held_explicit : HasExplicit (keys_of a) b.stmts (worlds_of ms) us.tuple (row_for (keys_of a) b.stmts (path_of ms) us.tuple) t
  held_explicit =
      subst (λ (r : List RelDef). HasExplicit (key_lengths r) b.stmts (worlds_of ms) us.tuple (row_for (key_lengths r) b.stmts (path_of ms) us.tuple) t) (sym rels) (explicit_rows ms us t b k z)

  explicit_too : (w : List ℕ) (u : Tuple) (s : Sign) → explicit a.stmts w u s ≡ true → explicit b.stmts w u s ≡ true
  explicit_too w u s e =
      let wid = some_of (ns.number w) (h.worlds w ∙ explicit_state a.stmts w u s e) in
      let path : path_of ns wid.0 ≡ Some w = h.states.names.numbered w wid.0 wid.1 in
      let path2 : path_of ms wid.0 ≡ Some w = sym (names_are_one _ _ ns ms t h.states k.states wid.0) ∙ path in
      let tid = some_of (ts.number u) (h.tuples.stated u ∙ explicit_tuple a.stmts w u s e) in
      let name : ts.tuple tid.0 ≡ Some u = h.tuples.numbered u tid.0 tid.1 in
      let name2 : us.tuple tid.0 ≡ Some u = sym (gives_one tuple_codec tuple_rows_are_one t ts.tuple us.tuple h.tuples.tuples k.tuples.tuples tid.0 (h.tuples.sized tid.0 u name)) ∙ name in
      let p = explicit_rows ns ts t a h v in
      let q = held_explicit in
      let fits = key_fits (keys_of a) ts.tuple (row_for (keys_of a) a.stmts (path_of ns) ts.tuple) t p.rows wid.0 tid.0 u (h.states.names.sized w wid.0 wid.1) name in
      let one = gives_one val_codec mark_rows_are_one t _ _ h.rows held_rows (row_key (keys_of a) wid.0 tid.0 u) fits in
      sign_is_explicit b.stmts w u s
      (sym (q.explicit wid.0 w tid.0 u path2 name2) ∙ ap explicit_of (sym one) ∙ p.explicit wid.0 w tid.0 u path name ∙ one_sign (keys_of a) a.stmts w u s (consistent a v) e)

pub stored_base_is_one : StoredBaseIsOne
stored_base_is_one t a b p q v z =
    let h = p.stored in
    let k = q.stored in
    let n = p.names in
    let m = q.names in
    let rels : a.catalog.rels ≡ b.catalog.rels = one_relations t a.catalog.rels b.catalog.rels h.rels k.rels v.catalog.few_rels z.catalog.few_rels in
    let stmts : a.stmts ≡ b.stmts = members_make_set statement_exact a.stmts b.stmts v.stmts.sorted z.stmts.sorted
    (λ x. stands_is_explicit a.stmts x
    ∙ same_tests (explicit a.stmts x.path x.tuple x.sign) (explicit b.stmts x.path x.tuple x.sign)
    (explicit_too n m p.tuples q.tuples t a b h k v z rels x.path x.tuple x.sign)
    (explicit_too m n q.tuples p.tuples t b a k h z v (sym rels) x.path x.tuple x.sign)
    ∙ sym (stands_is_explicit b.stmts x)) in
    one_contents a b
    (one_users t a.catalog.users b.catalog.users h.users k.users v.catalog.few_users z.catalog.few_users) rels stmts
