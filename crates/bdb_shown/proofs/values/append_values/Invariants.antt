use Rattle.std.proofs.Common.{◌++◌, ◌∷◌, List, length}
use Rattle.bdb_base.specs.declared.kinds.Value.{Value}
use Rattle.bdb_key.specs.Bytes.{values_bytes}
use Rattle.bdb_key.specs.Grammar.{ArePlain}
use Rattle.bdb_key.specs.Reading.{Reads}
use Rattle.bdb_render.specs.Replies.{row_text}
use Rattle.bdb_shown.proofs.ValueLemmas.{AreLeft}
use Rattle.bdb_shown.proofs.values.append_values.Given as goal

abbrev pub invariant-loop-rest : goal.invariant-loop-rest
invariant-loop-rest l = (v : Value) (vals : List Value) → Reads ArePlain values_bytes l.bytes (v ∷ vals) → AreLeft l.rest l.out.items (l.fn.out.items ++ row_text (v ∷ vals))

abbrev pub decreases-loop-rest : goal.decreases-loop-rest
decreases-loop-rest l = length l.rest
