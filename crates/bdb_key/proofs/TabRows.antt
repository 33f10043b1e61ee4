-- What is no row of its kind is no row of its table.
use Rattle.std.proofs.Common.{ℕ, ◌<◌, List, length, ap, arith}
use Rattle.std.proofs.lemmas.Bool.{false≢true}
use Rattle.bdb_base.specs.declared.kinds.UserSlot.TheVariants.{Live, Gone}
use Rattle.bdb_key.specs.declared.row.TabRow.TheVariants as rows
use Rattle.bdb_key.specs.Bytes.{num_bytes, text_bytes}
use Rattle.bdb_key.specs.Grammar.{IsNum, IsPlain}
use Rattle.bdb_key.specs.Reading.{NoneReads}
use Rattle.bdb_key.specs.Rows.{IsRow, IsRelRow, IsTupleRow, IsUserRow, IsAnySign, IsAnyMark, row_bytes, rel_bytes, tuple_bytes, slot_bytes, sign_bytes, mark_bytes}

pub none_1 : (bytes : List ℕ) → NoneReads IsNum num_bytes bytes → NoneReads (IsRow 1) row_bytes bytes
none_1 bytes none (rows.Meta n) h = none n (record { fits = h.fits.fits; spelled = h.spelled })
none_1 bytes none row h = false≢true h.fits.of

-- bytes that are there and are no plain text are no place of the list of users
pub none_slot : (bytes : List ℕ) → 0 < length bytes → NoneReads IsPlain text_bytes bytes → NoneReads IsUserRow slot_bytes bytes
none_slot bytes some none (Live name) h = none name (record { fits = h.fits; spelled = h.spelled })
none_slot bytes some none Gone h = let e = ap length h.spelled in omega arith

pub none_2 : (bytes : List ℕ) → NoneReads IsUserRow slot_bytes bytes → NoneReads (IsRow 2) row_bytes bytes
none_2 bytes none (rows.User slot) h = none slot (record { fits = h.fits.fits; spelled = h.spelled })
none_2 bytes none row h = false≢true h.fits.of

pub none_3 : (bytes : List ℕ) → NoneReads IsRelRow rel_bytes bytes → NoneReads (IsRow 3) row_bytes bytes
none_3 bytes none (rows.Rel def) h = none def (record { fits = h.fits.fits; spelled = h.spelled })
none_3 bytes none row h = false≢true h.fits.of

pub none_4 : (bytes : List ℕ) → NoneReads IsTupleRow tuple_bytes bytes → NoneReads (IsRow 4) row_bytes bytes
none_4 bytes none (rows.Tuple t) h = none t (record { fits = h.fits.fits; spelled = h.spelled })
none_4 bytes none row h = false≢true h.fits.of

pub none_5 : (bytes : List ℕ) → NoneReads IsNum num_bytes bytes → NoneReads (IsRow 5) row_bytes bytes
none_5 bytes none (rows.Tid n) h = none n (record { fits = h.fits.fits; spelled = h.spelled })
none_5 bytes none row h = false≢true h.fits.of

pub none_6 : (bytes : List ℕ) → NoneReads IsNum num_bytes bytes → NoneReads (IsRow 6) row_bytes bytes
none_6 bytes none (rows.Depth n) h = none n (record { fits = h.fits.fits; spelled = h.spelled })
none_6 bytes none row h = false≢true h.fits.of

pub none_7 : (bytes : List ℕ) → NoneReads IsNum num_bytes bytes → NoneReads (IsRow 7) row_bytes bytes
none_7 bytes none (rows.Link n) h = none n (record { fits = h.fits.fits; spelled = h.spelled })
none_7 bytes none row h = false≢true h.fits.of

pub none_9 : (bytes : List ℕ) → NoneReads IsNum num_bytes bytes → NoneReads (IsRow 9) row_bytes bytes
none_9 bytes none (rows.Link n) h = none n (record { fits = h.fits.fits; spelled = h.spelled })
none_9 bytes none row h = false≢true h.fits.of

pub none_8 : (bytes : List ℕ) → 0 < length bytes → NoneReads (IsRow 8) row_bytes bytes
none_8 bytes some rows.Empty h = let e = ap length h.spelled in omega arith
none_8 bytes some row h = false≢true h.fits.of

pub none_10 : (bytes : List ℕ) → 0 < length bytes → NoneReads (IsRow 10) row_bytes bytes
none_10 bytes some rows.Empty h = let e = ap length h.spelled in omega arith
none_10 bytes some row h = false≢true h.fits.of

pub none_11 : (bytes : List ℕ) → NoneReads IsAnyMark mark_bytes bytes → NoneReads (IsRow 11) row_bytes bytes
none_11 bytes none (rows.Val s m) h = none (s, m) (record { fits = tt; spelled = h.spelled })
none_11 bytes none row h = false≢true h.fits.of

pub none_12 : (bytes : List ℕ) → NoneReads IsAnySign sign_bytes bytes → NoneReads (IsRow 12) row_bytes bytes
none_12 bytes none (rows.Plain s) h = none s (record { fits = h.fits.fits; spelled = h.spelled })
none_12 bytes none row h = false≢true h.fits.of
