use Rattle.std.proofs.Common.{◌∷◌, ◌∙◌, Some, ap, sym}
use Rattle.std.specs.FinMap as map
use Rattle.bdb_tables.specs.InUse.{rel_codec}
use Rattle.bdb_tables.proofs.Held.{rel_fits, row_of_entry}
use Rattle.bdb_tables.proofs.LengthLemmas.{found_none, found_row, key_of_no_row, key_of_row, length_of_key_at}
use Rattle.bdb_tables.proofs.lengths.stored_key_length.Goals as goal

pub length_in-requires : goal.length_in-requires
length_in-requires g c =
    let t = (g.K.Keeper.seen c.args.keeper.now).kept in
    let found = found_row t c.deref.result.now c.get.new.row.items c.in-Ok-true.field-0 c.in-Ok-true.ensures.found c.in-Ok-true.field-0-test in
    rw c.deref-in-Ok-true.ensures.value (row_of_entry rel_codec c.deref.result.now c.get.new.row.items (rel_fits t c.requires.grammar c.deref.result.now c.get.new.row.items found))

pub returns-in-Ok-true-clause-row : goal.returns-in-Ok-true-clause-row
returns-in-Ok-true-clause-row g c =
    let t = (g.K.Keeper.seen c.args.keeper.now).kept in
    let key = c.deref.ensures.value ∙ c.in-Ok.ensures.ok in
    let found = found_row t c.deref.result.now c.get.new.row.items c.in-Ok-true.field-0 c.in-Ok-true.ensures.found c.in-Ok-true.field-0-test in
    key_of_row t c.args.rel c.length_in.result c.deref-in-Ok-true.result.now
    (sym (ap (λ k. map.get t (3 ∷ k)) key) ∙ found ∙ ap Some (sym c.deref-in-Ok-true.ensures.value))
    (rw c.deref-in-Ok-true.ensures.value (row_of_entry rel_codec c.deref.result.now c.get.new.row.items (rel_fits t c.requires.grammar c.deref.result.now c.get.new.row.items found)))
    c.length_in.ensures

pub returns-in-Ok-true-clause-length : goal.returns-in-Ok-true-clause-length
returns-in-Ok-true-clause-length g c =
    length_of_key_at (g.K.Keeper.seen c.args.keeper.now).kept c.args.rel c.length_in.result c.ranges.rel.fits (returns-in-Ok-true-clause-row g c)

pub returns-in-Ok-false-clause-row : goal.returns-in-Ok-false-clause-row
returns-in-Ok-false-clause-row g c =
    let t = (g.K.Keeper.seen c.args.keeper.now).kept in
    let key = c.deref.ensures.value ∙ c.in-Ok.ensures.ok in
    key_of_no_row t c.args.rel
    (sym (ap (λ k. map.get t (3 ∷ k)) key) ∙ found_none t c.deref.result.now c.get.new.row.items c.in-Ok-false.field-0 c.in-Ok-false.ensures.found c.in-Ok-false.field-0-test)

pub returns-in-Ok-false-clause-length : goal.returns-in-Ok-false-clause-length
returns-in-Ok-false-clause-length g c =
    length_of_key_at (g.K.Keeper.seen c.args.keeper.now).kept c.args.rel 1 c.ranges.rel.fits (returns-in-Ok-false-clause-row g c)
