use Rattle.std.proofs.Common.{◌∙◌, refl, sym}
use Rattle.bdb_canon.specs.declared.structure.Canon.{Canon}
use Rattle.bdb_session.proofs.TablesLemmas.{many_lines_tell, some_is_stored, tables_tell}
use Rattle.bdb_session.proofs.TellLemmas.{said_nothing}
use Rattle.bdb_session.proofs.WithinLemmas.{table_stops}
use Rattle.bdb_session.proofs.session.Session.show_tables.Goals as goal

pub returns-then-has_many_lines-clause-told : goal.returns-then-has_many_lines-clause-told
returns-then-has_many_lines-clause-told g c =
    many_lines_tell c.args.self.now (g.K.Keeper.seen c.args.keeper.now) (g.K.Keeper.seen c.refuse_within.new.keeper) c.refuse_within.result c.requires.agrees
    (sym c.has_many_lines.ensures ∙ c.if-has_many_lines.true) c.refuse_within.ensures

pub returns-then-has_many_lines-clause-writes : goal.returns-then-has_many_lines-clause-writes
returns-then-has_many_lines-clause-writes g c =
    said_nothing c.args.self.now.catalog _ (g.K.Keeper.seen c.args.keeper.now) (g.K.Keeper.seen c.args.keeper.now) (g.K.Keeper.seen c.refuse_within.new.keeper) c.refuse_within.result refl refl
    c.refuse_within.ensures

pub canon_of-requires : goal.canon_of-requires
canon_of-requires g c = record { base = some_is_stored (g.K.Keeper.seen c.args.keeper.now).kept c.args.self.now c.requires.agrees }

pub returns-in-Ok-clause-told : goal.returns-in-Ok-clause-told
returns-in-Ok-clause-told g c =
    let read = c.in-Ok.ensures.read in
    tables_tell c.args.self.now c.in-Ok.canon (g.K.Keeper.seen c.args.keeper.now) (g.K.Keeper.seen c.canon_of.new.keeper) (g.K.Keeper.seen c.tell_tables.new.keeper) c.tell_tables.result
    c.requires.agrees (sym c.has_many_lines.ensures ∙ c.if-has_many_lines.false) c.in-Ok.ensures.canon read.counts read.kept read.steps.ok c.tell_tables.ensures

pub returns-in-Ok-clause-writes : goal.returns-in-Ok-clause-writes
returns-in-Ok-clause-writes g c =
    said_nothing c.args.self.now.catalog _ (g.K.Keeper.seen c.args.keeper.now) (g.K.Keeper.seen c.canon_of.new.keeper) (g.K.Keeper.seen c.tell_tables.new.keeper) c.tell_tables.result
    c.in-Ok.ensures.read.kept c.in-Ok.ensures.read.writes (c.tell_tables.ensures c.requires.agrees.state)

pub returns-in-Err-clause-told : goal.returns-in-Err-clause-told
returns-in-Err-clause-told g c =
    table_stops {T = Canon} _ c.args.self.now c.args.self.now (g.K.Keeper.seen c.args.keeper.now) (g.K.Keeper.seen c.canon_of.new.keeper) c.in-Err.error c.stop_from.result c.stop_from.ensures
    (record { counts = c.in-Err.ensures.read.counts; steps = c.in-Err.ensures.read.steps })
