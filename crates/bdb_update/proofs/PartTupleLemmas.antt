-- A statement has left: its tuple keeps its number where another statement has it, and loses it where none has.
use Rattle.std.proofs.Common.{◌≡◌, ◌∙◌, ℕ, Bool, true, false, not, List, refl, ap, sym, subst, inl, inr, Some}
use Rattle.std.proofs.lemmas.Bool.{cases_Bool}
use Rattle.bdb_base.specs.Bases.{Contents, without_statement}
use Rattle.bdb_base.specs.Same.{same_tuple}
use Rattle.bdb_base.specs.SameLemmas.{same_tuple-Decides}
use Rattle.bdb_base.specs.declared.kinds.Stmt.{Stmt}
use Rattle.bdb_base.specs.declared.tuple.Tuple.{Tuple}
use Rattle.bdb_base.proofs.WorldLemmas.{valid_is_consistent}
use Rattle.bdb_keep.specs.Tables.{Tables}
use Rattle.bdb_key.specs.Rows.{IsTupleRow}
use Rattle.bdb_tables.specs.Codec.{HasAt}
use Rattle.bdb_tables.specs.InUse.{tuple_ix_codec}
use Rattle.bdb_update.specs.Calls.{without_one}
use Rattle.bdb_update.specs.Differing.{has_told}
use Rattle.bdb_update.specs.Keys.{keys_of}
use Rattle.bdb_update.specs.Numbering.{number_taken, without_number}
use Rattle.bdb_update.specs.Parting.{MayPart, HasFewerWorlds, LosesNumber, TellsNumber}
use Rattle.bdb_update.specs.Reads.{TellsTold}
use Rattle.bdb_tables.specs.Stored.{StoredOver}
use Rattle.bdb_tables.proofs.SignLemmas.{drop_unfelt}
use Rattle.bdb_update.proofs.NumberLemmas.{drop_leaves_tuples, number_taken_stores}
use Rattle.bdb_update.proofs.PartWorldLemmas.{consistent_before}
use Rattle.bdb_update.proofs.TupleLemmas.{number_read}
use Rattle.bdb_update.proofs.WithinLemmas.{drop_is_within, same_reach_stores}

-- where another statement has the tuple, no tuple is told less
told_stays : (stmts : List Stmt) (x : Stmt) → has_told (without_statement stmts x) x.tuple ≡ true → (v : Tuple) → has_told (without_statement stmts x) v ≡ has_told stmts v
told_stays stmts x told v = elim (cases_Bool (same_tuple x.tuple v)) [
  | inl e ↦
      let less : has_told (without_statement stmts x) v ≡ true = ap (has_told (without_statement stmts x)) (sym ((same_tuple-Decides x.tuple v).0 e)) ∙ told in
      less ∙ sym ((drop_is_within stmts x).tuples v less)
  | inr e ↦ drop_unfelt (λ z. same_tuple z.tuple v) stmts x e
]

module _ (t : Tables) (x : Stmt) (tid : ℕ) (fits : IsTupleRow x.tuple) (has : HasAt tuple_ix_codec t x.tuple (Some tid)) where
  module _ (b : Contents) (h : HasFewerWorlds t b x) (may : MayPart b x) where
    tuple_is : h.tuples.tuple tid ≡ Some x.tuple
    tuple_is = h.stored.tuples.numbered x.tuple tid (sym (number_read b.stmts h.tuples t x.tuple (Some tid) h.stored.tuples fits has))

    pub told_is : (is : Bool) → TellsTold t tid is → is ≡ has_told (without_statement b.stmts x) x.tuple
    told_is is tells =
        let less = without_statement b.stmts x in
        tells less b.stmts h.names h.tuples (without_one b x) h.stored (record { states = λ w e. e; tuples = λ u e. (drop_is_within b.stmts x).tuples u e })
        (consistent_before (keys_of b) b.stmts x (valid_is_consistent b.catalog b.stmts may.valid)) x.tuple tuple_is

  pub number_kept : TellsTold t tid true → LosesNumber t t x
  number_kept tells b h may =
      let less = without_statement b.stmts x in
      record {
        names = h.names;
        tuples = h.tuples;
        stored = same_reach_stores less less b.stmts less h.names h.tuples t (without_one b x) h.stored (λ w. refl) (told_stays b.stmts x (sym (told_is b h may true tells)));
      }

  pub number_lost : (u : Tables) → TellsTold t tid false → u ≡ number_taken t tid x.tuple → LosesNumber t u x
  number_lost u tells taken b h may =
      let less = without_statement b.stmts x in
      let none : has_told less x.tuple ≡ false = sym (told_is b h may false tells) in
      let stored = number_taken_stores less b.stmts less h.names h.tuples t (without_one b x) x.tuple tid h.stored (tuple_is b h may) none (drop_leaves_tuples b.stmts x none) in
      record {
        names = h.names;
        tuples = without_number h.tuples tid x.tuple;
        stored = subst (λ (v : Tables). StoredOver less less h.names (without_number h.tuples tid x.tuple) v (without_one b x)) (sym taken) stored;
      }

  pub number_told : (went is : Bool) → went ≡ not is → TellsTold t tid is → TellsNumber t x went
  number_told went is e tells b h may = e ∙ ap not (told_is b h may is tells)
