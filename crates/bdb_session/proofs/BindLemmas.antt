-- What comes of a command that is bound, or refused as it is bound, by the catalog that a session holds.
use Rattle.std.proofs.Common.{◌≡◌, ◌≢◌, ◌∙◌, true, Some, None, ap, sym, subst}
use Rattle.std.specs.Option.{option_and_then}
use Rattle.bdb_base.specs.Bases.{IsCatalog}
use Rattle.bdb_base.specs.declared.kinds.Catalog.{Catalog}
use Rattle.bdb_bind.specs.Binding.{bound_of}
use Rattle.bdb_bind.specs.Fits.{fits_catalog, is_allowed}
use Rattle.bdb_bind.specs.Refusal.{refusal_of}
use Rattle.bdb_bind.specs.declared.bound.BindError.{BindError}
use Rattle.bdb_bind.specs.declared.bound.BindError.TheVariants.{Memory}
use Rattle.bdb_bind.specs.declared.bound.Bound.{Bound}
use Rattle.bdb_bind.proofs.Fitting.{what_is_bound_fits}
use Rattle.bdb_keep.specs.Tables.{Tables}
use Rattle.bdb_render.specs.declared.refusal.Refusal.{Refusal}
use Rattle.bdb_session.specs.Known.{Known, Agrees, AgreesOnSome}
use Rattle.bdb_session.specs.Machine.{refusal_from, bound_outcome, command_outcome}
use Rattle.bdb_session.specs.Outcome.{State, Refused}
use Rattle.bdb_session.proofs.OutcomeLemmas.{bound_command, unless_some, refused_to_bind}
use Rattle.bdb_syntax.specs.declared.command.Command.{Command}

-- a session holds the catalog that it knows
module _ (k : Known) (own : Catalog) (here : own ≡ k.catalog) (command : Command) where
  -- what is not refused, and what is bound, by the catalog held is so by the one known
  pub accepts_so : refusal_of own command ≡ None → refusal_of k.catalog command ≡ None
  accepts_so accepted = ap (λ (c : Catalog). refusal_of c command) (sym here) ∙ accepted

  pub binds_so : (b : Bound) → b ≡ bound_of own command → b ≡ bound_of k.catalog command
  binds_so b bound = bound ∙ ap (λ (c : Catalog). bound_of c command) here

  -- it fits that catalog, where the session agrees with some tables
  pub binds_fitting : (t : Tables) (b : Bound) → AgreesOnSome t k → is_allowed command ≡ true → refusal_of own command ≡ None → b ≡ bound_of own command
      → fits_catalog k.catalog b ≡ true
  binds_fitting t b some allowed accepted bound =
      let valid = subst IsCatalog (sym some.agrees.catalog) some.agrees.base.valid.catalog in
      ap (fits_catalog k.catalog) (binds_so b bound) ∙ what_is_bound_fits k.catalog command valid allowed (accepts_so accepted)

  -- and what comes of it is what comes of the command
  pub binds_outcome : (t : Tables) (b : Bound) → refusal_of own command ≡ None → b ≡ bound_of own command → (s : State) → Agrees t k s
      → command_outcome s command ≡ bound_outcome s b
  binds_outcome t b accepted bound s a =
      bound_command s command b (ap (λ (c : Catalog). refusal_of c command) (sym a.catalog) ∙ accepts_so accepted)
      (binds_so b bound ∙ ap (λ (c : Catalog). bound_of c command) a.catalog)

  -- what is refused as it is bound is refused as a command
  pub refuses_outcome : (t : Tables) (e : BindError) (x : Refusal) → Some x ≡ refusal_from e → (e ≢ Memory → refusal_of own command ≡ Some e) → (s : State) → Agrees t k s
      → command_outcome s command ≡ Refused x
  refuses_outcome t e x is refused s a =
      unless_some (option_and_then refusal_from (refusal_of s.base.catalog command)) x (bound_outcome s (bound_of s.base.catalog command))
      (refused_to_bind (refusal_of s.base.catalog command) e x is (λ other. ap (λ (c : Catalog). refusal_of c command) (sym (here ∙ a.catalog)) ∙ refused other))
