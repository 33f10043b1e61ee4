-- The steps of loops that put statements in and take them out.
use Rattle.std.proofs.Common.{◌≡◌, ◌∙◌, ℕ, ◌+◌, ◌<◌, List, ◌∷◌, length, drop, get_or, ap, sym, subst}
use Rattle.std.proofs.lemmas.List.{drop_more}
use Rattle.bdb_base.specs.Bases.{with_statement, without_statement}
use Rattle.bdb_base.specs.Changes.{with_statements, without_statements}
use Rattle.bdb_base.specs.declared.kinds.Stmt.{Stmt}

-- from a place of a list on stand the statement there and those behind it
pub from_place : (xs : List Stmt) (i : ℕ) (x : Stmt) → i < length xs → x ≡ get_or xs i x → drop i xs ≡ x ∷ drop (i + 1) xs
from_place xs i x lt is = drop_more xs i x lt ∙ ap (λ y. y ∷ drop (i + 1) xs) (sym is)

-- what holds of them
pub at_place : (P : List Stmt → Type 0) (xs : List Stmt) (i : ℕ) (x : Stmt) → i < length xs → x ≡ get_or xs i x → P (drop i xs)
    → P (x ∷ drop (i + 1) xs)
at_place P xs i x lt is h = subst P (from_place xs i x lt is) h

pub with_step : (come : List Stmt) (i : ℕ) (x : Stmt) (now next end : List Stmt) → i < length come → x ≡ get_or come i x → next ≡ with_statement now x
    → with_statements now (drop i come) ≡ end → with_statements next (drop (i + 1) come) ≡ end
with_step come i x now next end lt e put rest =
    ap (λ l. with_statements l (drop (i + 1) come)) put
    ∙ sym (ap (with_statements now) (from_place come i x lt e)) ∙ rest

pub without_step : (gone : List Stmt) (i : ℕ) (x : Stmt) (now next end : List Stmt) → i < length gone → x ≡ get_or gone i x → next ≡ without_statement now x
    → without_statements now (drop i gone) ≡ end → without_statements next (drop (i + 1) gone) ≡ end
without_step gone i x now next end lt e put rest =
    ap (λ l. without_statements l (drop (i + 1) gone)) put
    ∙ sym (ap (without_statements now) (from_place gone i x lt e)) ∙ rest
