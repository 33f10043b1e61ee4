-- When the explicit rows of tables make the statements of a valid base.
use Rattle.std.proofs.Common.{◌≡◌, ◌∙◌, ℕ, Bool, true, false, ◌&&◌, ◌||◌, List, [], ◌∷◌, Option, Some, None, is_some, refl, ap, sym, subst, inl, inr, lit<}
use Rattle.std.specs.Bool.{MatchBool}
use Rattle.std.specs.List.{list_all, list_any, slice_get, AllByRecursion}
use Rattle.std.specs.Ordering.{nat_cmp, is_eq, is_lt, eq_by_cmp, ordering_reverse}
use Rattle.std.proofs.lemmas.Bool.{and_parts, and_from, cond-true, cond-false, false≢true}
use Rattle.std.proofs.lemmas.Cmp.{nat_cmp_total, tied_itself}
use Rattle.bdb_base.specs.Bases.{AreStatements, Contents, IsCatalog, IsValid, has_tuple, is_valid_relation, key_at, key_lengths}
use Rattle.bdb_base.specs.Same.{same_tuple}
use Rattle.bdb_base.specs.SortedSet.{ascending}
use Rattle.bdb_base.specs.States.{is_state}
use Rattle.bdb_base.specs.Worlds.{IsConsistent}
use Rattle.bdb_base.specs.declared.kinds.Catalog.{Catalog}
use Rattle.bdb_base.specs.declared.kinds.RelDef.{RelDef}
use Rattle.bdb_base.specs.declared.kinds.Stmt.{Stmt}
use Rattle.bdb_base.specs.declared.tuple.Tuple.{Tuple}
use Rattle.bdb_base.proofs.ClashLemmas.{same_tuple_turned}
use Rattle.bdb_base.proofs.ListLemmas.{list_all_get}
use Rattle.bdb_base.proofs.SetLemmas.{is_lt-Less}
use Rattle.bdb_base.proofs.WorldLemmas.{valid_is_consistent}
use Rattle.bdb_key.specs.Grammar.{IsNum}
use Rattle.bdb_tables.specs.Rows.{AreKeyLengths}
use Rattle.bdb_tables.proofs.Fitting.{relation_row}
use Rattle.bdb_decode.specs.Explicit.{Paths, TupleRows}
use Rattle.bdb_decode.specs.Items.{item_of, number_cmp}
use Rattle.bdb_decode.specs.Stated.{all_stated, all_states}
use Rattle.bdb_decode.specs.Whole.{AreWhole, HeldBasesAreStated, HeldBasesAreWhole}
use Rattle.bdb_decode.proofs.HeldRowLemmas.{held_rows_have_places, held_rows_make_statements}
use Rattle.bdb_decode.proofs.ManyLemmas.{not_too_many}

pub tells_whole : (c : Catalog) (worlds : Paths) (tuples : TupleRows) (stmts : List Stmt) (b : Bool) → AreStatements c stmts → b ≡ (all_stated stmts tuples && all_states stmts worlds)
    → MatchBool b (AreWhole c worlds tuples stmts) (AreWhole c worlds tuples stmts → ⊥)
tells_whole c worlds tuples stmts true v e =
    let k = and_parts (all_stated stmts tuples) (all_states stmts worlds) (sym e) in
    record { valid = v; tuples = k.0; worlds = k.1 }
tells_whole c worlds tuples stmts false v e = λ w. false≢true (e ∙ and_from (all_stated stmts tuples) (all_states stmts worlds) w.tuples w.worlds)

module _ {X : Type 0} where
  -- each item of a list in order is found by its number
  later_items : (x : ℕ × X) (all es : List (ℕ × X)) → list_all (λ y. is_lt (nat_cmp x.0 y.0)) es ≡ true
      → AllByRecursion (λ e. item_of all e.0 ≡ Some e.1) es → AllByRecursion (λ e. item_of (x ∷ all) e.0 ≡ Some e.1) es
  later_items x all [] b h = tt
  later_items x all (e ∷ es) b h =
      let p = and_parts (is_lt (nat_cmp x.0 e.0)) (list_all (λ y. is_lt (nat_cmp x.0 y.0)) es) b in (
        cond-false (eq_by_cmp nat_cmp e.0 x.0) (Some x.1) (item_of all e.0) (ap is_eq (nat_cmp_total.antisymm e.0 x.0 ∙ ap ordering_reverse (is_lt-Less (nat_cmp x.0 e.0) p.0))) ∙ h.0,
        later_items x all es p.1 h.1,
      )

  items_found : (es : List (ℕ × X)) → ascending number_cmp es ≡ true → AllByRecursion (λ e. item_of es e.0 ≡ Some e.1) es
  items_found [] s = tt
  items_found (x ∷ es) s =
      let p = and_parts (list_all (λ y. is_lt (nat_cmp x.0 y.0)) es) (ascending number_cmp es) s in (
        cond-true (eq_by_cmp nat_cmp x.0 x.0) (Some x.1) (item_of es x.0) (ap is_eq (tied_itself nat_cmp_total x.0)),
        later_items x es es p.0 (items_found es p.1),
      )

  all_of_found : (p : X → Bool) (all es : List (ℕ × X)) → ((n : ℕ) (x : X) → item_of all n ≡ Some x → p x ≡ true) → AllByRecursion (λ e. item_of all e.0 ≡ Some e.1) es
      → list_all (λ e. p e.1) es ≡ true
  all_of_found p all [] w h = refl
  all_of_found p all (e ∷ es) w h = and_from (p e.1) (list_all (λ d. p d.1) es) (w e.0 e.1 h.0) (all_of_found p all es w h.1)

pub any_turned : (stmts : List Stmt) (u : Tuple) → list_any (λ x. same_tuple x.tuple u) stmts ≡ has_tuple stmts u
any_turned [] u = refl
any_turned (x ∷ stmts) u =
    ap (λ b. b || list_any (λ y. same_tuple y.tuple u) stmts) (same_tuple_turned x.tuple u) ∙ ap (λ b. same_tuple u x.tuple || b) (any_turned stmts u)

-- the keys of a catalog's relations have lengths of four bytes
pub lengths_of : (c : Catalog) → IsCatalog c → AreKeyLengths (key_lengths c.rels)
lengths_of c h rel num = by (slice_get c.rels rel) refl
  where
    by : (def : Option RelDef) → slice_get c.rels rel ≡ def → IsNum (key_at def)
    by None e = lit< tt
    by (Some def) e = (relation_row def (list_all_get is_valid_relation c.rels rel def h.rels_valid e)).short

consistent : (b : Contents) → IsValid b.catalog b.stmts → IsConsistent (key_lengths b.catalog.rels) b.stmts
consistent b v = valid_is_consistent b.catalog b.stmts v

pub held_bases_are_stated : HeldBasesAreStated
held_bases_are_stated b ns ts t worlds tuples stmts s v paths named a =
    held_rows_make_statements (key_lengths b.catalog.rels) b.stmts stmts ns ts t worlds tuples (lengths_of b.catalog v.catalog) paths named (λ w e. s.worlds w ∙ e) (consistent b v) v.stmts.sorted s.tuples s.rows a

pub held_bases_are_whole : HeldBasesAreWhole
held_bases_are_whole b ns ts t worlds tuples s v paths named up asc (inl (inl m)) = held_rows_have_places (key_lengths b.catalog.rels) b.stmts ns ts t worlds tuples paths named s.tuples s.rows m
held_bases_are_whole b ns ts t worlds tuples s v paths named up asc (inl (inr m)) = not_too_many b ns ts t worlds tuples s v paths named m
held_bases_are_whole b ns ts t worlds tuples s v paths named up asc (inr n) =
    let same : n.stmts ≡ b.stmts = held_bases_are_stated b ns ts t worlds tuples n.stmts s v paths named n.stated in
    n.other (subst (AreWhole b.catalog worlds tuples) (sym same) (record { valid = v.stmts; tuples = stated; worlds = states }))
  where
    stated : all_stated b.stmts tuples ≡ true
    stated = all_of_found (has_tuple b.stmts) tuples tuples
        (λ k u e. sym (any_turned b.stmts u) ∙ sym (s.tuples.stated u) ∙ ap is_some (s.tuples.named k u (named k ∙ e))) (items_found tuples asc)

    states : all_states b.stmts worlds ≡ true
    states = all_of_found (is_state b.stmts) worlds worlds
        (λ k w e. sym (s.worlds w) ∙ ap is_some (paths.names.named k w (paths.paths k ∙ e))) (items_found worlds up)
