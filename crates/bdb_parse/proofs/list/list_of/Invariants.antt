use Rattle.std.proofs.Common.{◌≡◌}
use Rattle.std.specs.Option.{option_copied}
use Rattle.bdb_parse.specs.Stops.{parts}
use Rattle.bdb_parse.specs.Reading.{all_of}
use Rattle.bdb_parse.proofs.CutLemmas.{parts_after, left}
use Rattle.bdb_parse.proofs.ListLemmas.{with_front}
use Rattle.bdb_parse.proofs.list.list_of.Given as goal

abbrev pub invariant-loop-rest : goal.invariant-loop-rest
invariant-loop-rest g l =
    all_of (g.R.ItemReader.item l.reader) (parts l.stop l.tokens) ≡ with_front l.items (all_of (g.R.ItemReader.item l.reader) (parts_after l.stop (option_copied l.rest)))

abbrev pub decreases-loop-rest : goal.decreases-loop-rest
decreases-loop-rest g l = left (option_copied l.rest)
