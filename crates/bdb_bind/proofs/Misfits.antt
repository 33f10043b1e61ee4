-- The first column whose value is of another kind.
use Rattle.std.proofs.Common.{◌≡◌, ◌⊎◌, inl, inr, List, [], ◌∷◌, None, ap, refl, ◌∙◌}
use Rattle.bdb_base.specs.declared.kinds.ColDef.{ColDef}
use Rattle.bdb_base.specs.declared.kinds.Value.{Value}
use Rattle.bdb_bind.specs.Lines.{misfit}

no_values : (cs : List ColDef) → misfit cs [] ≡ None
no_values [] = refl
no_values (c ∷ cs) = refl

-- there is none once the columns or the values have come to their end
pub misfit_at_end : (cs : List ColDef) (vs : List Value) → (cs ≡ []) ⊎ (vs ≡ []) → misfit cs vs ≡ None
misfit_at_end cs vs ends = elim ends [ inl e ↦ ap (λ x. misfit x vs) e | inr e ↦ ap (misfit cs) e ∙ no_values cs ]
