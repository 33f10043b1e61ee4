-- Which bytes are a sign and a mark.
use Rattle.std.proofs.Common.{ℕ, ◌<◌, List, true, false, lit<, sym, ◌∙◌, arith}
use Rattle.bdb_base.specs.declared.kinds.Sign.TheVariants as signs
use Rattle.bdb_key.specs.Bytes.{num_bytes}
use Rattle.bdb_key.specs.Grammar.{IsNum}
use Rattle.bdb_key.specs.Reading.{Reads, NoneReads}
use Rattle.bdb_key.specs.Rows.{IsAnyMark, mark_bytes}
use Rattle.bdb_key.proofs.Alone.{one_num}

-- what is no number is none
pub mark_none : (bytes : List ℕ) → NoneReads IsNum num_bytes bytes → NoneReads IsAnyMark mark_bytes bytes
mark_none bytes none (signs.Plus, false) h = none 0 (record { fits = lit< tt; spelled = h.spelled })
mark_none bytes none (signs.Plus, true) h = none 1 (record { fits = lit< tt; spelled = h.spelled })
mark_none bytes none (signs.Minus, false) h = none 2 (record { fits = lit< tt; spelled = h.spelled })
mark_none bytes none (signs.Minus, true) h = none 3 (record { fits = lit< tt; spelled = h.spelled })

-- a number above 3 is none
pub mark_above : (bytes : List ℕ) (n : ℕ) → Reads IsNum num_bytes bytes n → 3 < n → NoneReads IsAnyMark mark_bytes bytes
mark_above bytes n r lt (signs.Plus, false) h = let e = one_num 0 n (lit< tt) r.fits (h.spelled ∙ sym r.spelled) in omega arith
mark_above bytes n r lt (signs.Plus, true) h = let e = one_num 1 n (lit< tt) r.fits (h.spelled ∙ sym r.spelled) in omega arith
mark_above bytes n r lt (signs.Minus, false) h = let e = one_num 2 n (lit< tt) r.fits (h.spelled ∙ sym r.spelled) in omega arith
mark_above bytes n r lt (signs.Minus, true) h = let e = one_num 3 n (lit< tt) r.fits (h.spelled ∙ sym r.spelled) in omega arith
