-- What a keeper over a file tells of itself, and the words for how its calls end.
use Rattle.std.specs.Prelude.{◌≡◌, ◌≤◌, Bool, false, Option, Some, is_none, unwrap_or, IfSome, IsSome, Result, IsErrOf, OnOk, OnErr, refl}
use Rattle.std.specs.Coded.{Coded, code_by, coded×, coded_option}
use Rattle.std.specs.FinMap as map
use Rattle.sqlite.specs.Held.{Held, held_code}
use Rattle.bdb_keep.specs.contracts.keeper.KeepError as keep_error
use Rattle.bdb_keep.specs.declared.keeper.KeepError.{KeepError}
use Rattle.bdb_keep.specs.declared.keeper.KeepError.TheVariants.{Fault}
use Rattle.bdb_keep.specs.Seen.{Seen, IsStill, coded_seen}
use Rattle.bdb_keep.specs.Tables.{LieInTables}

-- what every keeper tells, what each call is refused with where the keeper doesn't work, and the connection to the file if there is one
pub record Filed (S : Type 0) : Type 0 where
  pub seen : Seen
  pub refusal : Option KeepError
  pub conn : Option (Held S)

-- what such a keeper tells as plain data
abbrev pub coded_filed : {S : Type 0} → Coded S → Coded (Filed S)
coded_filed {S} store =
    code_by (Seen × (Option KeepError × Option (Held S))) (coded× coded_seen (coded× (coded_option keep_error.the_row.coded) (coded_option (held_code store))))
    (λ k. (k.seen, (k.refusal, k.conn))) (λ p. record { seen = p.0; refusal = p.1.0; conn = p.1.1 }) (λ _. refl)

-- whether a keeper works
abbrev pub works : {S : Type 0} → Filed S → Bool
works k = is_none k.refusal

-- How a call ends that leaves the file alone. Where the keeper doesn't work it is refused, always in the same way.
-- Where the keeper works it is no fault.
pub record Answers {S T : Type 0} (old new : Filed S) (result : Result T KeepError) : Type 0 where
  pub refused : IfSome old.refusal (IsErrOf result)
  pub steady : IsErrOf result Fault → works old ≡ false
  pub refusal : new.refusal ≡ old.refusal
  pub conn : new.conn ≡ old.conn

-- How a commit ends. Where the keeper doesn't work it is refused, always in the same way. After any refusal the keeper
-- doesn't work, and each call from then on is refused with what it was refused with before, else with a fault. None is
-- accepted without a connection.
pub record Commits {S T : Type 0} (old new : Filed S) (result : Result T KeepError) : Type 0 where
  pub refused : IfSome old.refusal (IsErrOf result)
  pub ok : OnOk result (new.refusal ≡ old.refusal)
  pub file : OnOk result (IsSome old.conn × IsSome new.conn)
  pub err : OnErr result (new.refusal ≡ Some (unwrap_or old.refusal Fault))

-- How a keeper begins: nothing runs, nothing was counted but a fault of loading, and each row is in tables 1 to 15.
-- Where the keeper doesn't work it has no rows.
pub record Begins {S : Type 0} (k : Filed S) : Type 0 where
  pub still : IsStill k.seen
  pub fits : LieInTables k.seen.kept
  pub empty : IsSome k.refusal → k.seen.kept ≡ map.empty
  pub fault : k.refusal ≡ Some Fault → 1 ≤ k.seen.faults
  pub reads : k.seen.reads ≡ 0
  pub writes : k.seen.writes ≡ 0
  pub commits : k.seen.commits ≡ 0
