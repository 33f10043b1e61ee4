use Rattle.std.proofs.Common.{subst, sym}
use Rattle.bdb_catalog.specs.Bases.{StoresSome}
use Rattle.bdb_session_tests.proofs.tests.stored.written.Goals as goal

pub canon_of-requires : goal.canon_of-requires
canon_of-requires g c = record { base = record { base = c.args.base.now; stores = c.in_ok-write_all_tables.ensures.stored } }

pub counts_of-requires : goal.counts_of-requires
counts_of-requires g c = record { base = subst StoresSome (sym c.in_ok-k.ensures.read.kept) (record { base = c.args.base.now; stores = c.in_ok-write_all_tables.ensures.stored }) }
