-- What is said of a statement tells whether it stands.
use Rattle.std.proofs.Common.{◌≡◌, ◌∙◌, true, Err, ap, sym, subst, inl, inr}
use Rattle.std.proofs.lemmas.Bool.{cases_Bool}
use Rattle.bdb_base.specs.Bases.{Contents, IsValid, stands, with_statement}
use Rattle.bdb_base.specs.declared.kinds.Stmt.{Stmt}
use Rattle.bdb_base.proofs.UpdateLemmas.{put_stands}
use Rattle.bdb_canon.specs.Sizes.{counts_of}
use Rattle.bdb_canon.specs.declared.sizes.Counts.{Counts}
use Rattle.bdb_keep.specs.Calls.{IsRead}
use Rattle.bdb_keep.specs.Seen.{Seen}
use Rattle.bdb_keep.specs.Tables.{Tables}
use Rattle.bdb_tables.proofs.Loops.{err_steps}
use Rattle.bdb_update.specs.Calls.{with_stmts, size_passed}
use Rattle.bdb_update.specs.Examining.{Examines, IsProspect, StandsThere, says_stands}
use Rattle.bdb_update.specs.declared.looking.Prospect.{Prospect}
use Rattle.bdb_update.specs.declared.looking.Prospect.TheVariants.{Clashes, Stands, Fills, Fits}
use Rattle.bdb_update.proofs.ReplaceLemmas.{no_clash, no_limit}

-- the base with a statement that stands is the base
with_standing : (b : Contents) (x : Stmt) → IsValid b.catalog b.stmts → stands b.stmts x ≡ true → with_statement b.stmts x ≡ b.stmts
with_standing b x v e = put_stands b.stmts x v.stmts.sorted e

still_valid : (b : Contents) (x : Stmt) → IsValid b.catalog b.stmts → stands b.stmts x ≡ true → IsValid b.catalog (with_statement b.stmts x)
still_valid b x v e = subst (IsValid b.catalog) (sym (with_standing b x v e)) v

by_prospect : (t : Tables) (b : Contents) (x : Stmt) (verdict : Prospect) → IsValid b.catalog b.stmts → IsProspect t b x verdict → says_stands verdict ≡ stands b.stmts x
by_prospect t b x (Clashes least) v h = elim (cases_Bool (stands b.stmts x)) [
  | inl a ↦ absurd (no_clash b x least v (still_valid b x v a) h)
  | inr a ↦ sym a
]
by_prospect t b x Stands v h = sym h
by_prospect t b x (Fills what) v h = elim (cases_Bool (stands b.stmts x)) [
  | inl a ↦ absurd (no_limit b what v (ap (λ stmts. size_passed (counts_of (with_stmts b stmts))) (sym (with_standing b x v a)) ∙ h.1))
  | inr a ↦ sym a
]
by_prospect t b x (Fits r) v h = sym h.fresh

pub prospect_tells : (t : Tables) (counts : Counts) (x : Stmt) (verdict : Prospect) → Examines t counts x verdict → StandsThere t counts x (says_stands verdict)
prospect_tells t counts x verdict h b m = by_prospect t b x verdict m.base.valid (h b m)

pub read_refused : {T U E : Type 0} (old new : Seen) (e fault : E) → IsRead {T = T} {E = E} old new (Err e) fault → IsRead {T = U} {E = E} old new (Err e) fault
read_refused {T} {U} old new e fault r = record { rest = r.rest; kept = tt; writes = r.writes; counts = r.counts; steps = err_steps {T = T} {U = U} old new e fault r.steps }
