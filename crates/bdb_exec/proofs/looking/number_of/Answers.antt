use Rattle.std.proofs.Common.{◌≡◌, ◌∙◌, ◌<◌, length, true, ap, sym, rules}
use Rattle.std.specs.List.{list_all}
use Rattle.bdb_base.specs.Bases.{is_written}
use Rattle.bdb_exec.proofs.LookingLemmas.{written_texts, no_number, number_is}
use Rattle.bdb_exec.proofs.looking.number_of.Goals as goal

pub returns-then-not-are_written-clause-number : goal.returns-then-not-are_written-clause-number
returns-then-not-are_written-clause-number g c =
    let vals : c.as_slice.result.now ≡ c.args.tuple.now.vals = search rules in
    no_number (g.K.Keeper.seen c.args.keeper.now).kept c.args.tuple.now (ap (list_all is_written) (sym vals) ∙ sym c.are_written.ensures ∙ c.if-not-are_written.true)

pub get-requires-clause-key : goal.get-requires-clause-key
get-requires-clause-key g c =
    let vals : c.as_slice.result.now ≡ c.args.tuple.now.vals = search rules in
    let written : list_all is_written c.args.tuple.now.vals ≡ true = ap (list_all is_written) (sym vals) ∙ sym c.are_written.ensures ∙ c.if-not-are_written.false in
    let some : 0 < length c.args.tuple.now.vals = search rules in
    record { some = some; texts = written_texts c.args.tuple.now.vals written }

pub returns-in-Ok-clause-number : goal.returns-in-Ok-clause-number
returns-in-Ok-clause-number g c =
    number_is (g.K.Keeper.seen c.args.keeper.now).kept c.requires.run c.args.tuple.now c.in-Ok.number c.in-Ok.ensures.key_fits c.in-Ok.ensures.found
