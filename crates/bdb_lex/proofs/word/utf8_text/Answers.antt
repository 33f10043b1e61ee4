use Rattle.std.proofs.lemmas.Str.{IsUtf8-from_is_utf8}
use Rattle.bdb_lex.proofs.word.utf8_text.Goals as goal

pub from_utf8_unchecked-text-requires : goal.from_utf8_unchecked-text-requires
from_utf8_unchecked-text-requires c = IsUtf8-from_is_utf8 _ c.requires
