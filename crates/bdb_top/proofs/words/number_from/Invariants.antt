use Rattle.std.proofs.Common.{◌≡◌, drop}
use Rattle.bdb_top.specs.Words.{number_behind}
use Rattle.bdb_top.proofs.words.number_from.Given as goal

abbrev pub invariant-loop-digit : goal.invariant-loop-digit
invariant-loop-digit l = number_behind 0 l.digits ≡ number_behind l.number (drop l.digit-index l.digits)
