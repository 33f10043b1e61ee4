-- The one failure of sources and sinks.
use Rattle.bdb_io.specs.declared.failed.Failed.{Failed}

-- the failure of a read or of a write
abbrev pub failed : Failed
failed = record {}
