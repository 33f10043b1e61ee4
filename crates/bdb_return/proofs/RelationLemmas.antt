-- The last relation goes, of which there is no statement.
use Rattle.std.proofs.Common.{◌≡◌, ◌∙◌, ℕ, ◌+◌, ◌-◌, ◌≤◌, Bool, true, nat_eq, cond, List, [], ◌∷◌, ◌++◌, length, refl, sym, ap, subst, inl, inr, arith, Option, None}
use Rattle.std.specs.List.{list_all, slice_get}
use Rattle.std.specs.Ordering.{is_eq, nat_cmp}
use Rattle.std.specs.FinMap as tables
use Rattle.std.proofs.lemmas.Bool.{cases_Bool, cond-false, cond-true, eq-eqb, eqb-true, false≢true}
use Rattle.std.proofs.lemmas.Option.{slice_get_past}
use Rattle.std.proofs.lemmas.List.{length_push}
use Rattle.bdb_base.specs.Bases.{belongs, key_lengths}
use Rattle.bdb_base.specs.declared.kinds.Catalog.{Catalog}
use Rattle.bdb_base.specs.declared.kinds.RelDef.{RelDef}
use Rattle.bdb_base.specs.declared.kinds.Stmt.{Stmt}
use Rattle.bdb_base.specs.OrderLemmas.{is_eq_nat_cmp}
use Rattle.bdb_keep.specs.Tables.{Tables}
use Rattle.bdb_key.specs.Grammar.{IsNum}
use Rattle.bdb_tables.specs.Codec.{place}
use Rattle.bdb_tables.specs.InUse.{meta_codec, user_codec, rel_codec, val_codec, plain_codec}
use Rattle.bdb_tables.specs.InUseLaws.{numbers_in_order}
use Rattle.bdb_tables.specs.Names.{path_of}
use Rattle.bdb_tables.specs.Rows.{HoldsRows, HoldsTuples, Tuples, row_for}
use Rattle.bdb_tables.specs.Stored.{SameBut, Stores}
use Rattle.bdb_tables.specs.Writes.{Gives, with_change, with_row_at}
use Rattle.bdb_tables.proofs.SameLemmas.{change_same, gives_still, outside_one, states_still, tuples_still}
use Rattle.bdb_tables.proofs.WriteLemmas.{change_gives, gives_same}
use Rattle.bdb_undo.specs.declared.change.Named.TheVariants.{RelationAdded}
use Rattle.bdb_update.proofs.LengthLemmas.{row_stays}
use Rattle.bdb_return.specs.Naming.{LosesLastRelation, MayLoseName, SomeRelationIsLast, base_named}
use Rattle.bdb_return.specs.Numbers.{IsNextRelation}
use Rattle.bdb_return.specs.Places.{LosesRelation}
use Rattle.bdb_return.proofs.PlaceLemmas.{not_end}

-- ---- the rows of a base

-- the rows are those by the keys without the last relation
rows_left : (c : Catalog) (def : RelDef) (stmts : List Stmt) (path : ℕ → Option (List ℕ)) (ts : Tuples) (t : Tables) → list_all (belongs c) stmts ≡ true → HoldsTuples stmts ts t
    → HoldsRows (key_lengths (c.rels ++ def ∷ [])) stmts path ts.tuple t → HoldsRows (key_lengths c.rels) stmts path ts.tuple t
rows_left c def stmts path ts t all h rows =
    let keys = key_lengths c.rels in
    let more = key_lengths (c.rels ++ def ∷ []) in
    gives_same val_codec t (row_for more stmts path ts.tuple) (row_for keys stmts path ts.tuple)
    (λ k f. sym (row_stays c def stmts path ts t all h k)) rows

-- ---- the row of a relation goes

rels_without_last : (rels : List RelDef) (def : RelDef) (rel k : ℕ) → rel ≡ length rels → cond (is_eq (nat_cmp k rel)) None (slice_get (rels ++ def ∷ []) k) ≡ slice_get rels k
rels_without_last rels def rel k s = elim (cases_Bool (nat_eq k rel)) [
  | inl e ↦ cond-true (is_eq (nat_cmp k rel)) None (slice_get (rels ++ def ∷ []) k) (is_eq_nat_cmp k rel ∙ e)
      ∙ sym (ap (slice_get rels) (eqb-true k rel e ∙ s) ∙ slice_get_past rels (length rels) (omega arith))
  | inr e ↦ cond-false (is_eq (nat_cmp k rel)) None (slice_get (rels ++ def ∷ []) k) (is_eq_nat_cmp k rel ∙ e) ∙ not_end rels def k (λ z. false≢true (sym e ∙ eq-eqb k rel (z ∙ sym s)))
]

relation_less : (t : Tables) (rels : List RelDef) (rel : ℕ) (def : RelDef) → rel ≡ length rels → IsNum rel → Gives rel_codec t (slice_get (rels ++ def ∷ []))
    → Gives rel_codec (with_change rel_codec t (rel, None)) (slice_get rels)
relation_less t rels rel def e num h =
    gives_same rel_codec (with_change rel_codec t (rel, None)) (with_row_at rel_codec (slice_get (rels ++ def ∷ [])) (rel, None)) (slice_get rels)
    (λ k f. rels_without_last rels def rel k e)
    (change_gives rel_codec numbers_in_order t (slice_get (rels ++ def ∷ [])) (rel, None) (record { key = num; row = tt }) h)

relation_lost : (t u : Tables) (rel : ℕ) → IsNum rel → u ≡ tables.remove t (place rel_codec rel) → LosesRelation t u rel
relation_lost t u rel num put def a last g =
    let s = g.stored in
    let h = s.stored in
    let x : ℕ × Option RelDef = (rel, None) in
    let v = with_change rel_codec t x in
    let three : ℕ → Bool = λ n. nat_eq n 3 in
    let same : SameBut three t v = change_same rel_codec three t x refl in
    subst (λ z. Stores z a) (sym put) (record {
      names = s.names;
      tuples = s.tuples;
      stored = record {
        format = gives_still three t v same meta_codec _ refl h.format;
        users = gives_still three t v same user_codec _ refl h.users;
        rels = relation_less t a.catalog.rels rel def last num h.rels;
        tuples = tuples_still three t v same a.stmts s.tuples refl refl h.tuples;
        states = states_still three t v same _ s.names refl refl refl refl refl h.states;
        worlds = h.worlds;
        rows = gives_still three t v same val_codec _ refl (rows_left a.catalog def a.stmts (path_of s.names) s.tuples t g.between.before.stmts.belong h.tuples h.rows);
        plain = gives_still three t v same plain_codec _ refl h.plain;
        outside = λ n k out. same n k (outside_one 3 refl n out) ∙ h.outside n k out;
      };
    })

-- the next number is above that of the last relation
pub some_next : (t : Tables) (next : ℕ) → IsNextRelation t next → SomeRelationIsLast t → 1 ≤ next
some_next t next is s =
    let e = is (base_named (RelationAdded s.def) s.some.base) s.some.may.stored in
    let l = length_push s.some.base.catalog.rels s.def in
    omega (arith, e, l)

pub last_relation_lost : (t m u : Tables) (next : ℕ) → m ≡ t → IsNextRelation t next → IsNum (next - 1) → u ≡ tables.remove m (place rel_codec (next - 1)) → LosesLastRelation t u
last_relation_lost t m u next same is num put def a h =
    let e = is (base_named (RelationAdded def) a) h.stored in
    let l = length_push a.catalog.rels def in
    relation_lost m u (next - 1) num put def a (omega (arith, e, l)) (subst (λ (z : Tables). MayLoseName z (RelationAdded def) a) (sym same) h)
