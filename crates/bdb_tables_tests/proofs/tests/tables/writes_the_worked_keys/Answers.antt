use Rattle.std.proofs.Common.{◌≡◌, ℕ, List, [], ◌∷◌, lit<, refl, rules}
use Rattle.std.specs.Str.{is_utf8, chars}
use lib.Utf8.{encode}
use Rattle.bdb_base.specs.declared.kinds.Value.{Value}
use Rattle.bdb_base.specs.declared.kinds.Value.TheVariants.{Text}
use Rattle.bdb_tables.specs.InUse.{HaveKeyTexts}
use Rattle.bdb_tables_tests.proofs.tests.tables.writes_the_worked_keys.Goals as goal

worked_key : (text : List ℕ) (key : List Value) → text ≡ 115 ∷ 49 ∷ [] → key ≡ Text text ∷ [] → HaveKeyTexts key
unfolding is_utf8 chars encode
worked_key text key s k = rw k (rw s (record { short = lit< tt; texts = (refl, tt) }))

pub key_bytes-requires : goal.key_bytes-requires
key_bytes-requires g c = worked_key c.in_ok-text.text c.push.new.self (search rules) (search rules)
