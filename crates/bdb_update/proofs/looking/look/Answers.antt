use Rattle.std.proofs.Common.{◌∙◌, sym, subst}
use Rattle.bdb_keep.specs.Tables.{Tables}
use Rattle.bdb_tables.specs.Grammar.{InGrammar}
use Rattle.bdb_tables.specs.Lengths.{IsKeyLength}
use Rattle.bdb_tables.specs.declared.tab.TabError.TheVariants.{Fault}
use Rattle.bdb_val.specs.Reads.{HaveTuples}
use Rattle.bdb_update.proofs.CallLemmas.{IsQuiet, quiet_read, quiet_then, read_ok, read_err}
use Rattle.bdb_update.proofs.FindingLemmas.{finding_is}
use Rattle.bdb_update.proofs.looking.look.Goals as goal

pub read_rows-requires-clause-grammar : goal.read_rows-requires-clause-grammar
read_rows-requires-clause-grammar g c = subst InGrammar (sym (c.in-Ok-read_key_length.ensures.read.kept ∙ c.in-Ok.ensures.kept)) c.requires.grammar

pub read_rows-requires-clause-tuples : goal.read_rows-requires-clause-tuples
read_rows-requires-clause-tuples g c = subst HaveTuples (sym (c.in-Ok-read_key_length.ensures.read.kept ∙ c.in-Ok.ensures.kept)) c.requires.tuples

pub number_of-requires-clause-grammar : goal.number_of-requires-clause-grammar
number_of-requires-clause-grammar g c =
    subst InGrammar (sym (c.in-Ok-read_rows.ensures.read.kept ∙ c.in-Ok-read_key_length.ensures.read.kept ∙ c.in-Ok.ensures.kept)) c.requires.grammar

pub returns-in-Ok-number_of-clause-finding : goal.returns-in-Ok-number_of-clause-finding
returns-in-Ok-number_of-clause-finding g c =
    let mid = c.in-Ok-read_key_length.ensures.read.kept ∙ c.in-Ok.ensures.kept in
    finding_is (g.K.Keeper.seen c.args.keeper.now).kept (g.K.Keeper.seen c.read_key_length.new.keeper).kept (g.K.Keeper.seen c.read_rows.new.keeper).kept c.args.stmt.now _ c.as_slice-path.result.now
    c.as_slice-path.ensures.users mid (c.in-Ok-read_rows.ensures.read.kept ∙ mid) c.in-Ok.ensures.found c.in-Ok.ensures.within
    (subst (λ (t : Tables). IsKeyLength t c.args.stmt.now.tuple.rel c.in-Ok-read_key_length.n) c.in-Ok.ensures.kept c.in-Ok-read_key_length.ensures.length)
    c.in-Ok-read_rows.ensures.rows c.in-Ok-number_of.ensures.found c.in-Ok-number_of.ensures.fits

pub returns-in-Err-read_key_length-clause-read : goal.returns-in-Err-read_key_length-clause-read
returns-in-Err-read_key_length-clause-read g c =
    let old = g.K.Keeper.seen c.args.keeper.now in
    let a = g.K.Keeper.seen c.longest_state.new.keeper in
    let first : IsQuiet old a = record { goes = c.in-Ok.ensures.steps.ok; kept = c.in-Ok.ensures.kept; writes = c.in-Ok.ensures.writes; counts = c.in-Ok.ensures.counts } in
    read_err old a (g.K.Keeper.seen c.read_key_length.new.keeper) c.in-Err-read_key_length.error Fault c.requires.running first c.in-Err-read_key_length.ensures.read

pub returns-in-Err-read_rows-clause-read : goal.returns-in-Err-read_rows-clause-read
returns-in-Err-read_rows-clause-read g c =
    let old = g.K.Keeper.seen c.args.keeper.now in
    let a = g.K.Keeper.seen c.longest_state.new.keeper in
    let l = g.K.Keeper.seen c.read_key_length.new.keeper in
    let first : IsQuiet old a = record { goes = c.in-Ok.ensures.steps.ok; kept = c.in-Ok.ensures.kept; writes = c.in-Ok.ensures.writes; counts = c.in-Ok.ensures.counts } in
    read_err old l (g.K.Keeper.seen c.read_rows.new.keeper) c.in-Err-read_rows.error Fault c.requires.running
    (quiet_then old a l first (quiet_read a l c.in-Ok-read_key_length.n Fault c.in-Ok-read_key_length.ensures.read)) c.in-Err-read_rows.ensures.read

pub returns-in-Ok-number_of-clause-read : goal.returns-in-Ok-number_of-clause-read
returns-in-Ok-number_of-clause-read g c =
    let old = g.K.Keeper.seen c.args.keeper.now in
    let a = g.K.Keeper.seen c.longest_state.new.keeper in
    let l = g.K.Keeper.seen c.read_key_length.new.keeper in
    let b = g.K.Keeper.seen c.read_rows.new.keeper in
    let new = g.K.Keeper.seen c.number_of.new.keeper in
    let first : IsQuiet old a = record { goes = c.in-Ok.ensures.steps.ok; kept = c.in-Ok.ensures.kept; writes = c.in-Ok.ensures.writes; counts = c.in-Ok.ensures.counts } in
    let second = quiet_then old a l first (quiet_read a l c.in-Ok-read_key_length.n Fault c.in-Ok-read_key_length.ensures.read) in
    read_ok old new _ Fault c.requires.running
    (quiet_then old b new (quiet_then old l b second (quiet_read l b c.in-Ok-read_rows.rows Fault c.in-Ok-read_rows.ensures.read)) (quiet_read b new c.in-Ok-number_of.tid Fault c.in-Ok-number_of.ensures.read))

pub returns-in-Err-number_of-clause-read : goal.returns-in-Err-number_of-clause-read
returns-in-Err-number_of-clause-read g c =
    let old = g.K.Keeper.seen c.args.keeper.now in
    let a = g.K.Keeper.seen c.longest_state.new.keeper in
    let l = g.K.Keeper.seen c.read_key_length.new.keeper in
    let b = g.K.Keeper.seen c.read_rows.new.keeper in
    let first : IsQuiet old a = record { goes = c.in-Ok.ensures.steps.ok; kept = c.in-Ok.ensures.kept; writes = c.in-Ok.ensures.writes; counts = c.in-Ok.ensures.counts } in
    let second = quiet_then old a l first (quiet_read a l c.in-Ok-read_key_length.n Fault c.in-Ok-read_key_length.ensures.read) in
    read_err old b (g.K.Keeper.seen c.number_of.new.keeper) c.in-Err-number_of.error Fault c.requires.running
    (quiet_then old l b second (quiet_read l b c.in-Ok-read_rows.rows Fault c.in-Ok-read_rows.ensures.read)) c.in-Err-number_of.ensures.read
