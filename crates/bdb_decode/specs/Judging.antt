-- What judging tables of any bytes tells.
use Rattle.std.specs.Prelude.{◌≡◌}
use Rattle.std.specs.FinMap as tables
use Rattle.bdb_catalog.specs.Bases.{StoresValid}
use Rattle.bdb_catalog.specs.Opening.{StoredFormerly}
use Rattle.bdb_keep.specs.Tables.{Tables}
use Rattle.bdb_decode.specs.Opening.{AreDamaged, HaveOtherFormat}
use Rattle.bdb_decode.specs.declared.judging.Judgement.{Judgement}
use Rattle.bdb_decode.specs.declared.judging.Judgement.TheVariants.{Empty, Held, Former, Damaged, Format}

-- what holds of tables that are judged so
abbrev pub TellsJudgement : Tables → Judgement → Type 0
TellsJudgement t Empty = t ≡ tables.empty
TellsJudgement t (Held b) = StoresValid t b
TellsJudgement t (Former b) = StoredFormerly t b
TellsJudgement t Damaged = AreDamaged t
TellsJudgement t (Format n) = HaveOtherFormat t n
