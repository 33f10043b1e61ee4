use Rattle.std.proofs.Common.{◌≡◌, ◌≤◌, [], length}
use Rattle.bdb_lex.specs.Tokens.{tokens_from}
use Rattle.bdb_lex.specs.Tokens.Reading.{in_text}
use Rattle.bdb_lex.proofs.quoted.doubled_text_behind.Given as goal

abbrev pub invariant-loop-part : goal.invariant-loop-part
invariant-loop-part l = (tokens_from (in_text []) l.fn.bytes ≡ tokens_from (in_text l.content.items) l.rest) × (length l.rest ≤ length l.fn.bytes)

abbrev pub decreases-loop-part : goal.decreases-loop-part
decreases-loop-part l = length l.rest
