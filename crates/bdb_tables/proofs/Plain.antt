-- Keys of the table of statements.
use Rattle.std.proofs.Common.{ℕ, List, ◌∙◌}
use Rattle.bdb_key.specs.Bytes.{path_bytes}
use Rattle.bdb_key.specs.Grammar.{IsKeyPath}
use Rattle.bdb_key.specs.Reading.{Leads, NoneReads}
use Rattle.bdb_key.specs.Rows.{IsTupleRow, tuple_bytes}
use Rattle.bdb_key.proofs.Readings.{path_form}
use Rattle.bdb_tables.specs.InUse.{plain_codec}

-- a path with no tuple behind it is no key
pub plain_none : (bytes rest path : List ℕ) → Leads IsKeyPath path_bytes bytes path rest → NoneReads IsTupleRow tuple_bytes rest
    → NoneReads plain_codec.IsKey plain_codec.key_bytes bytes
plain_none bytes rest path p none key h =
    let form = path_form key.0 path (tuple_bytes key.1) rest h.fits.0 p.fits (h.spelled ∙ p.split) in
    none key.1 (record { fits = h.fits.1; spelled = form.1 })
