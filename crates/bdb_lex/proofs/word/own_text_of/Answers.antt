use Rattle.std.proofs.Common.{◌∙◌, ap, sym}
use Rattle.std.specs.Str.{is_utf8}
use Rattle.std.proofs.lemmas.Bool.{false_from_ne_true, false≢true}
use Rattle.std.proofs.lemmas.Str.{IsUtf8-string_bytes, is_utf8-from_IsUtf8, IsUtf8-from_is_utf8}
use Rattle.bdb_lex.proofs.word.own_text_of.Goals as goal

pub returns-in-Ok-clause-utf8 : goal.returns-in-Ok-clause-utf8
returns-in-Ok-clause-utf8 c =
    ap (λ v. is_utf8 v.items) (sym c.in-Ok.ensures.ok) ∙ is_utf8-from_IsUtf8 _ (IsUtf8-string_bytes c.in-Ok.text)

pub returns-clause-not_tokens : goal.returns-clause-not_tokens
returns-clause-not_tokens c _ =
    false_from_ne_true _ (λ e. absurd (false≢true (c.in-Err.ensures.succeeds (IsUtf8-from_is_utf8 _ e))))
