-- The worked bases are valid.
use Rattle.std.proofs.Common.{◌≡◌, ℕ, suc, List, [], ◌∷◌, true, refl}
use Prim.Native.Nat.{zero}
use Rattle.std.specs.Str.{is_utf8, chars}
use Rattle.std.proofs.lemmas.Bool.{false≢true}
use lib.Utf8.{encode}
use Rattle.bdb_base.specs.declared.kinds.Catalog.{Catalog}
use Rattle.bdb_base.specs.declared.kinds.Stmt.{Stmt}
use Rattle.bdb_base.specs.declared.kinds.Query.{Query}
use Rattle.bdb_base.specs.Bases.{IsValid}
use Rattle.bdb_base.specs.Safety.{IsSafe, IsBound, IsMinusColumn, given, linked, column}
use Rattle.bdb_canon.specs.Samples.{sightings, denied, disputed, reported, deniers}

pub denied_is_valid : (c : Catalog) (xs : List Stmt) → c ≡ denied.catalog → xs ≡ denied.stmts → IsValid c xs
unfolding is_utf8 chars encode
denied_is_valid c xs e f = rw (e, f) (record {
  catalog = record { users_differ = refl; users_plain = refl; few_users = refl; rels_differ = refl; rels_valid = refl; few_rels = refl };
  stmts = record { sorted = refl; belong = refl; no_clash = refl; few_stmts = refl; few_tuples = refl; few_worlds = refl };
})

pub disputed_is_valid : (c : Catalog) (xs : List Stmt) → c ≡ disputed.catalog → xs ≡ disputed.stmts → IsValid c xs
unfolding is_utf8 chars encode
disputed_is_valid c xs e f = rw (e, f) (record {
  catalog = record { users_differ = refl; users_plain = refl; few_users = refl; rels_differ = refl; rels_valid = refl; few_rels = refl };
  stmts = record { sorted = refl; belong = refl; no_clash = refl; few_stmts = refl; few_tuples = refl; few_worlds = refl };
})

pub reported_is_valid : (c : Catalog) (xs : List Stmt) → c ≡ reported.catalog → xs ≡ reported.stmts → IsValid c xs
unfolding is_utf8 chars encode
reported_is_valid c xs e f = rw (e, f) (record {
  catalog = record { users_differ = refl; users_plain = refl; few_users = refl; rels_differ = refl; rels_valid = refl; few_rels = refl };
  stmts = record { sorted = refl; belong = refl; no_clash = refl; few_stmts = refl; few_tuples = refl; few_worlds = refl };
})

minus_is_bound : (i k : ℕ) → IsMinusColumn (sightings ∷ []) deniers (column i k) → IsBound deniers (column i k)
minus_is_bound zero k h = absurd (false≢true h.minus)
minus_is_bound (suc zero) k h = absurd (false≢true h.minus)
minus_is_bound (suc (suc zero)) zero h = linked {s = column 1 0} refl (given refl)
minus_is_bound (suc (suc zero)) (suc zero) h = linked {s = column 1 1} refl (given refl)
minus_is_bound (suc (suc zero)) (suc (suc k)) h = absurd (false≢true h.there)
minus_is_bound (suc (suc (suc i))) k h = absurd (false≢true h.minus)

pub deniers_are_safe : (c : Catalog) (q : Query) → c ≡ disputed.catalog → q ≡ deniers → IsSafe c.rels q
deniers_are_safe c q e f = rw (e, f) (λ r h. minus_is_bound r.item r.col h)

pub reports_are_safe : (c : Catalog) (q : Query) → c ≡ reported.catalog → q ≡ deniers → IsSafe c.rels q
reports_are_safe c q e f = rw (e, f) (λ r h. minus_is_bound r.item r.col h)
