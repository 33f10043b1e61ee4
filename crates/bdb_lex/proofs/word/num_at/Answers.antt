use Rattle.std.proofs.Common.{◌∙◌, ap, arith}
use Rattle.std.specs.Str.{is_utf8}
use Rattle.bdb_lex.proofs.TokenLemmas.{no_num, num_reads, num_utf8}
use Rattle.bdb_lex.proofs.word.num_at.Goals as goal

pub returns-then-len-eq0-clause-not_tokens : goal.returns-then-len-eq0-clause-not_tokens
returns-then-len-eq0-clause-not_tokens c _ =
    no_num c.args.bytes.now c.requires.start c.requires.no_gap (c.num_len-len.ensures.none c.if-len-eq0.true)

pub utf8_text-requires : goal.utf8_text-requires
utf8_text-requires c = ap is_utf8 c.split_at.ensures.front ∙ num_utf8 _ (c.num_len-len.ensures.num (omega arith))

pub returns-clause-ok : goal.returns-clause-ok
returns-clause-ok c =
    num_reads c.num_len-len.result c.args.bytes.now c.utf8_text.result _ _ c.num_len-len.ensures.bound c.if-len-eq0.false c.num_len-len.ensures.num
    c.num_len-len.ensures.end c.utf8_text.ensures c.split_at.ensures.front c.split_at.ensures.back
