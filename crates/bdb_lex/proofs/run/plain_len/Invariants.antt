use Rattle.std.proofs.Common.{◌≡◌, true, take}
use Rattle.std.specs.List.{list_all}
use Rattle.bdb_lex.specs.Runs.{is_quiet}
use Rattle.bdb_lex.specs.declared.mode.Mode.TheVariants.{Plain}
use Rattle.bdb_lex.proofs.run.plain_len.Given as goal

abbrev pub invariant-loop-len : goal.invariant-loop-len
invariant-loop-len l = list_all (is_quiet Plain) (take l.len l.bytes) ≡ true
