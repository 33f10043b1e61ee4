-- A statement's tuple gets a number, or has one.
use Rattle.std.proofs.Common.{◌≡◌, ◌∙◌, ℕ, true, false, ◌||◌, List, refl, ap, sym, subst, inl, inr, Option, Some, None, is_some}
use Rattle.std.specs.FinMap as tables
use Rattle.std.specs.Ordering.{is_eq, eq_by_cmp}
use Rattle.std.proofs.lemmas.Bool.{cases_Bool, cond-true}
use Rattle.bdb_base.specs.Bases.{with_statement}
use Rattle.bdb_base.specs.OrderLemmas.{statement_exact}
use Rattle.bdb_base.specs.Same.{same_tuple}
use Rattle.bdb_base.specs.SameLemmas.{same_tuple-Decides}
use Rattle.bdb_base.specs.declared.kinds.Stmt.{Stmt}
use Rattle.bdb_base.specs.declared.tuple.Tuple.{Tuple}
use Rattle.bdb_base.proofs.SetLemmas.{list_any-put_in}
use Rattle.bdb_base.proofs.OptionLemmas.{nothing_mapped}
use Rattle.bdb_keep.specs.Tables.{Tables, bytes_cmp}
use Rattle.bdb_key.specs.Grammar.{IsNum}
use Rattle.bdb_key.specs.Bytes.{num_bytes}
use Rattle.bdb_key.specs.Rows.{IsTupleRow}
use Rattle.bdb_key.proofs.Forms.{tied}
use Rattle.bdb_tables.specs.Codec.{HasAt, place}
use Rattle.bdb_tables.specs.InUse.{tuple_codec, tuple_ix_codec}
use Rattle.bdb_tables.specs.InUseLaws.{number_rows_are_one}
use Rattle.bdb_tables.specs.Rows.{Tuples, HoldsTuples}
use Rattle.bdb_tables.specs.Writes.{with_change}
use Rattle.bdb_tables.proofs.WriteLemmas.{get_after_change}
use Rattle.bdb_worlds.proofs.ReadLemmas.{found_is}
use Rattle.bdb_update.specs.Differing.{has_told}
use Rattle.bdb_update.specs.Joining.{Numbers}
use Rattle.bdb_update.specs.Numbering.{number_put, with_number}
use Rattle.bdb_tables.specs.Stored.{StoredOver}
use Rattle.bdb_update.proofs.NumberLemmas.{number_put_stores}
use Rattle.bdb_update.proofs.WithinLemmas.{put_is_within, same_reach_stores}

-- ---- what tables have at a tuple is its number

pub number_read : (told : List Stmt) (ts : Tuples) (t : Tables) (u : Tuple) (found : Option ℕ) → HoldsTuples told ts t → IsTupleRow u → HasAt tuple_ix_codec t u found → found ≡ ts.number u
number_read told ts t u found h fits has = found_is tuple_ix_codec number_rows_are_one t ts.number h.numbers u fits found has

-- a number without a row stands for no tuple
pub number_free : (told : List Stmt) (ts : Tuples) (t : Tables) (tid : ℕ) → HoldsTuples told ts t → IsNum tid → tables.get t (place tuple_codec tid) ≡ None → ts.tuple tid ≡ None
number_free told ts t tid h num none = nothing_mapped tuple_codec.row_bytes (ts.tuple tid) (sym (h.tuples.rows tid num) ∙ none)

-- ---- a tuple that is told already

told_still : (stmts : List Stmt) (x : Stmt) → has_told stmts x.tuple ≡ true → (u : Tuple) → has_told (with_statement stmts x) u ≡ has_told stmts u
told_still stmts x told u = list_any-put_in statement_exact (λ z. same_tuple z.tuple u) stmts x ∙ elim (cases_Bool (same_tuple x.tuple u)) [
  | inl e ↦
      let here : has_told stmts u ≡ true = ap (has_told stmts) (sym ((same_tuple-Decides x.tuple u).0 e)) ∙ told in
      ap (λ c. c || has_told stmts u) e ∙ sym here
  | inr e ↦ ap (λ c. c || has_told stmts u) e
]

pub numbered_already : (t : Tables) (x : Stmt) (tid : ℕ) → IsTupleRow x.tuple → HasAt tuple_ix_codec t x.tuple (Some tid) → Numbers t t x
numbered_already t x tid fits has b h may =
    let read = number_read b.stmts h.tuples t x.tuple (Some tid) h.stored.tuples fits has in
    let told : has_told b.stmts x.tuple ≡ true = sym (h.stored.tuples.stated x.tuple) ∙ ap is_some (sym read) in
    record {
      names = h.names;
      tuples = h.tuples;
      stored = same_reach_stores (with_statement b.stmts x) (with_statement b.stmts x) b.stmts (with_statement b.stmts x) h.names h.tuples t b h.stored (λ w. refl) (told_still b.stmts x told);
    }

-- ---- a tuple that is not told yet

pub numbered_now : (t u : Tables) (x : Stmt) (tid : ℕ) → IsTupleRow x.tuple → IsNum tid → HasAt tuple_ix_codec t x.tuple None → tables.get t (place tuple_codec tid) ≡ None
    → u ≡ number_put t tid x.tuple → Numbers t u x
numbered_now t u x tid fits num none free put b h may =
    let read = number_read b.stmts h.tuples t x.tuple None h.stored.tuples fits none in
    let untold : has_told b.stmts x.tuple ≡ false = sym (h.stored.tuples.stated x.tuple) ∙ ap is_some (sym read) in
    let within = put_is_within b.stmts x in
    let stored = number_put_stores (with_statement b.stmts x) b.stmts h.names h.tuples t b x tid h.stored (record { states = within.states; tuples = λ v e. e }) num fits
    (number_free b.stmts h.tuples t tid h.stored.tuples num free) untold in
    record {
      names = h.names;
      tuples = with_number h.tuples tid x.tuple;
      stored = subst (λ (v : Tables). StoredOver (with_statement b.stmts x) (with_statement b.stmts x) h.names (with_number h.tuples tid x.tuple) v b) (sym put) stored;
    }

-- the number that was put is found
pub number_there : (t u : Tables) (tuple : Tuple) (tid : ℕ) → IsNum tid → u ≡ number_put t tid tuple → HasAt tuple_ix_codec u tuple (Some tid)
number_there t u tuple tid num put =
    let p = place tuple_ix_codec tuple in
    let m = with_change tuple_codec t (tid, Some tuple) in
    record {
      in_grammar = num;
      found = ap (λ (v : Tables). tables.get v p) put ∙ get_after_change tuple_ix_codec m (tuple, Some tid) p
          ∙ cond-true (eq_by_cmp bytes_cmp p p) (Some (num_bytes tid)) (tables.get m p) (ap is_eq (tied p p refl));
    }
