use Rattle.std.proofs.Common.{MatchOption, sym, subst, ◌∙◌}
use Rattle.bdb_catalog.specs.Bases.{StoresValid}
use Rattle.bdb_tables.specs.Grammar.{InGrammar}
use Rattle.bdb_entries.proofs.ReadLemmas.{none_told, past, some_told}
use Rattle.bdb_entries.proofs.TupleLemmas.{holding}
use Rattle.bdb_decode.specs.Parts.{AreFormed, AreParts, StoreNone}
use Rattle.bdb_decode.proofs.judging.raw_base.Goals as goal

pub raw_parts-requires : goal.raw_parts-requires
raw_parts-requires g c =
    let w = c.in-Ok-true in record { grammar = subst InGrammar (sym w.ensures.reading.kept) (holding _ _ w.field-0 w.field-0-test w.ensures.formed).grammar }

pub base_of-requires-clause-formed : goal.base_of-requires-clause-formed
base_of-requires-clause-formed g c =
    let w = c.in-Ok-true in subst AreFormed (sym (c.in-Ok-Some.ensures.reading.kept ∙ w.ensures.reading.kept)) (holding _ _ w.field-0 w.field-0-test w.ensures.formed)

pub base_of-requires-clause-parts : goal.base_of-requires-clause-parts
base_of-requires-clause-parts g c =
    let w = c.in-Ok-true in
    let r = c.in-Ok-Some in
    subst (λ u. AreParts u r.parts.catalog r.parts.paths.items r.parts.tuples.items) (sym (r.ensures.reading.kept ∙ w.ensures.reading.kept))
    (subst (λ u. AreParts u r.parts.catalog r.parts.paths.items r.parts.tuples.items) w.ensures.reading.kept (some_told _ _ r.field-0 r.parts r.field-0-is r.ensures.parts))

pub returns-in-Ok-false-clause-base : goal.returns-in-Ok-false-clause-base
returns-in-Ok-false-clause-base g c = past _ _ c.in-Ok-false.field-0 c.in-Ok-false.field-0-test c.in-Ok-false.ensures.formed

pub returns-in-Ok-None-clause-base : goal.returns-in-Ok-None-clause-base
returns-in-Ok-None-clause-base g c =
    let r = c.in-Ok-None in subst StoreNone c.in-Ok-true.ensures.reading.kept (none_told _ _ r.field-0 r.field-0-is r.ensures.parts)

pub returns-in-Ok-clause-base : goal.returns-in-Ok-clause-base
returns-in-Ok-clause-base g c =
    let kept = c.in-Ok-Some.ensures.reading.kept ∙ c.in-Ok-true.ensures.reading.kept in
    subst (λ u. MatchOption c.in-Ok.base (StoreNone u) (StoresValid u)) kept c.in-Ok.ensures.base
