use Rattle.std.proofs.Common.{rules}
use Rattle.bdb_keep.proofs.TableLemmas.{put_lies}
use Rattle.bdb_memory.proofs.LedgerLemmas.{sound_by}
use Rattle.bdb_memory.proofs.ledger.Ledger.put.Goals as goal

pub invariant_of-self : goal.invariant_of-self
invariant_of-self c = sound_by _ _ _ c.in-Ok.ensures.kept c.put.ensures.last (put_lies _ c.args.tab c.args.key.now c.args.row.now c.requires.table c.self.invariant.kept) c.self.invariant.last (search rules)
