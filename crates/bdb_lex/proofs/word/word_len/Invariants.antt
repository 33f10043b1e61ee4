use Rattle.std.proofs.Common.{◌≡◌, true, take}
use Rattle.std.specs.List.{list_all}
use Rattle.bdb_base.specs.Letters.{is_word_byte}
use Rattle.bdb_lex.proofs.word.word_len.Given as goal

abbrev pub invariant-loop-len : goal.invariant-loop-len
invariant-loop-len l = list_all is_word_byte (take l.len l.bytes) ≡ true
