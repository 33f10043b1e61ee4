use Rattle.std.proofs.Common.{◌≡◌, ◌∙◌, ◌≤◌, ◌&&◌, nat_le, ap, sym, length, List, ℕ, Bool, arith}
use Rattle.std.specs.List.{list_all}
use Rattle.std.specs.Str.{is_utf8, IsUtf8}
use Rattle.std.proofs.lemmas.Bool.{le-leb}
use Rattle.std.proofs.lemmas.Str.{is_utf8-from_IsUtf8}
use Rattle.bdb_base.specs.Bases.{is_plain}
use Rattle.bdb_base.proofs.fitting.is_plain.Goals as goal

plain_by : (text bytes : List ℕ) (b : Bool) → bytes ≡ text → length text ≤ 255 → IsUtf8 bytes → b ≡ list_all (λ c. nat_le 32 c) bytes → b ≡ is_plain text
plain_by text bytes b same short utf8 e =
    e ∙ ap (list_all (λ c. nat_le 32 c)) same
    ∙ sym (ap (λ u. u && list_all (λ c. nat_le 32 c) text) (ap is_utf8 (sym same) ∙ is_utf8-from_IsUtf8 bytes utf8))
    ∙ sym (ap (λ u. u && (is_utf8 text && list_all (λ c. nat_le 32 c) text)) (le-leb (length text) 255 short))

pub returns-then-len-le-LONGEST_TEXT : goal.returns-then-len-le-LONGEST_TEXT
returns-then-len-le-LONGEST_TEXT c =
    plain_by c.args.text.now c.as_bytes.result.now c.are_printable.result (c.as_bytes.ensures.value ∙ c.as_str.ensures) (omega arith) c.as_bytes.ensures.utf8 c.are_printable.ensures
