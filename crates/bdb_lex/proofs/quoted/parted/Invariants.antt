use Rattle.std.proofs.Common.{◌≡◌, true, take}
use Rattle.std.specs.List.{list_all}
use Rattle.bdb_lex.specs.Reading.{is_no_quote}
use Rattle.bdb_lex.proofs.quoted.parted.Given as goal

abbrev pub invariant-loop-at : goal.invariant-loop-at
invariant-loop-at l = list_all is_no_quote (take l.at l.bytes) ≡ true
