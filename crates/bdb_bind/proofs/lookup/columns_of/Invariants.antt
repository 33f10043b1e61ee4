use Rattle.std.proofs.Common.{◌≡◌, drop}
use Rattle.bdb_bind.specs.Lookup.{columns_of}
use Rattle.bdb_bind.proofs.lookup.columns_of.Given as goal

abbrev pub invariant-loop-rel : goal.invariant-loop-rel
invariant-loop-rel l = columns_of l.rels l.name ≡ columns_of (drop l.rel-index l.rels) l.name
