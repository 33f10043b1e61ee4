-- The printed form of a command reads back as the command.
use Rattle.bdb_parse.specs.RoundTrip.{PrintedReadsBack}
use Rattle.bdb_parse.proofs.PrintedTokens.{printed_tokens}
use Rattle.bdb_parse.proofs.PrintedLexing.{printed_lexes}
use Rattle.bdb_parse.proofs.ParsedCommands.{tokens_parse}

pub printed_reads_back : PrintedReadsBack
printed_reads_back c p f = record { tokens = printed_tokens c; lexed = printed_lexes c p f; parsed = tokens_parse c p f }
