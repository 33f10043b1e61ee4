use Rattle.std.proofs.Common.{◌∙◌, ap, arith}
use Rattle.std.specs.Str.{is_utf8}
use Rattle.bdb_base.specs.Letters.{is_word_byte}
use Rattle.bdb_lex.proofs.TokenLemmas.{word_fails, word_reads, utf8_from, word_byte_low}
use Rattle.bdb_lex.proofs.word.word_at.Goals as goal

pub returns-then-len-gt-LONGEST_WORD-clause-not_tokens :
    goal.returns-then-len-gt-LONGEST_WORD-clause-not_tokens
returns-then-len-gt-LONGEST_WORD-clause-not_tokens c _ =
    word_fails c.word_len-len.result c.args.bytes.now c.word_len-len.ensures.bound c.requires c.word_len-len.ensures.all c.word_len-len.ensures.end (omega arith)

pub utf8_text-requires : goal.utf8_text-requires
utf8_text-requires c = ap is_utf8 c.split_at.ensures.front ∙ utf8_from is_word_byte word_byte_low _ c.word_len-len.ensures.all

pub returns-clause-ok : goal.returns-clause-ok
returns-clause-ok c =
    word_reads c.word_len-len.result c.args.bytes.now c.utf8_text.result _ _ c.word_len-len.ensures.bound c.requires c.word_len-len.ensures.all
    c.word_len-len.ensures.end (omega arith) c.utf8_text.ensures c.split_at.ensures.front c.split_at.ensures.back
