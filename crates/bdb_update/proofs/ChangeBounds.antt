-- All steps of a change make no more writes than its bound says.
use Rattle.std.proofs.Common.{◌≡◌, ℕ, ◌+◌, ◌≤◌, Bool, true, ◌∷◌, length, arith}
use Rattle.bdb_base.specs.Bases.{with_statement, without_statement}
use Rattle.bdb_base.specs.declared.kinds.Stmt.{Stmt}
use Rattle.bdb_base.specs.declared.tuple.Tuple.{Tuple}
use Rattle.bdb_base.proofs.BaseLemmas.{take_is_valid}
use Rattle.bdb_keep.specs.Seen.{Seen}
use Rattle.bdb_keep.specs.Tables.{Tables}
use Rattle.bdb_tables.specs.Names.{path_of}
use Rattle.bdb_tables.specs.Rows.{row_for}
use Rattle.bdb_tables.specs.Stored.{SameBut}
use Rattle.bdb_val.specs.Others.{SamePlacesBut}
use Rattle.bdb_worlds.specs.Bounds.{EndsWithin}
use Rattle.bdb_update.specs.Bounds.{RowWrites, StateWrites, WritesWithinMore}
use Rattle.bdb_update.specs.Keeping.{KeepsNames, KeepsTuples}
use Rattle.bdb_update.specs.Calls.{with_one, without_one}
use Rattle.bdb_update.specs.ChangeLaws.{is_of_worlds}
use Rattle.bdb_update.specs.Differing.{has_told}
use Rattle.bdb_update.specs.Joining.{Arrive, CountsArrived, Numbers, Settles, SomeMayJoin, is_of_tuples}
use Rattle.bdb_update.specs.Keys.{keys_of}
use Rattle.bdb_update.specs.Parting.{LosesRows, LosesWorlds, Parts, SomeMayPart}
use Rattle.bdb_update.proofs.BoundLemmas.{adds_within, drops_within}
use Rattle.bdb_update.proofs.KeepLemmas.{stages_joined, stages_left}
use Rattle.bdb_update.proofs.LostLemmas.{one_found, one_lost}
use Rattle.bdb_update.proofs.StoredCounts.{over_count, over_few, stored_count}
use Rattle.bdb_update.proofs.TallyLemmas.{rows_alone}
use Rattle.bdb_update.proofs.WithinLemmas.{drop_is_within}

pub as_tables : (test : ℕ → Bool) (t u : Tables) → SamePlacesBut test t u → SameBut test t u
as_tables test t u same n k out = same (n ∷ k) out

-- ---- a statement joins a base

module _ (old a b new : Seen) (x : Stmt) (worlds wid rows : ℕ) (some : SomeMayJoin old.kept x worlds)
    (arrive : Arrive old.kept a.kept x wid) (came : CountsArrived old.kept a.kept x rows) (names : KeepsNames old.kept a.kept) (of_worlds : SameBut is_of_worlds old.kept a.kept)
    (first : StateWrites (length x.path + 2) rows old a)
    (numbers : Numbers a.kept b.kept x) (keeps : KeepsTuples a.kept b.kept) (second : EndsWithin 2 a.writes b.writes) (tuples : SamePlacesBut is_of_tuples a.kept b.kept)
    (settles : Settles b.kept new.kept x) (third : RowWrites 2 b new) (alone : SamePlacesBut rows_alone b.kept new.kept) (later : a.writes ≤ b.writes) (last : b.writes ≤ new.writes) where
  pub join_within : WritesWithinMore (length x.path + 2) 8 old new
  join_within =
      let c = some.base in
      let s = some.stored in
      let may = some.may in
      let arrived = (arrive c s may).worlds in
      let q = settles c (numbers c arrived may) may in
      let before = stored_count old.kept c s may.valid in
      let middle = over_count (with_statement c.stmts x) c.stmts arrived.names arrived.tuples a.kept c arrived.stored may.valid (λ y e. e) in
      let after = stored_count new.kept (with_one c x) q may.next in
      let stages = stages_joined old.kept a.kept b.kept new.kept x wid arrive numbers settles names keeps of_worlds (as_tables is_of_tuples a.kept b.kept tuples)
      (as_tables rows_alone b.kept new.kept alone) c s may in
      adds_within (length x.path) rows old a b new first second third tuples alone later last _ _ _ before middle after (came c s may _ _ before middle)
      (one_lost (keys_of c) c.stmts x old.kept a.kept new.kept stages)

-- ---- a statement leaves a base

module _ (old a b new : Seen) (x : Stmt) (rows : ℕ) (some : SomeMayPart old.kept x)
    (parts : Parts old.kept a.kept x) (first : RowWrites 2 old a) (alone : SamePlacesBut rows_alone old.kept a.kept)
    (loses : LosesWorlds a.kept b.kept x) (went : LosesRows a.kept b.kept rows) (names : KeepsNames b.kept a.kept) (of_worlds : SameBut is_of_worlds a.kept b.kept)
    (second : StateWrites (length x.path + 2) rows a b)
    (third : EndsWithin 2 b.writes new.writes) (tuples : SamePlacesBut is_of_tuples b.kept new.kept) (later : a.writes ≤ b.writes) (last : b.writes ≤ new.writes) where
  pub leave_within : WritesWithinMore (length x.path + 2) 8 old new
  leave_within =
      let c = some.base in
      let s = some.stored in
      let may = some.may in
      let p = parts c s may in
      let less = without_statement c.stmts x in
      let valid = take_is_valid c.catalog c.stmts x may.valid in
      let within : (y : Tuple) → has_told less y ≡ true → has_told c.stmts y ≡ true = λ y e. (drop_is_within c.stmts x).tuples y e in
      let before = stored_count old.kept c s may.valid in
      let middle = over_count c.stmts c.stmts p.names p.tuples a.kept (without_one c x) p.stored valid within in
      let few = over_few c.stmts c.stmts p.names p.tuples a.kept (without_one c x) p.stored valid within _ middle in
      let l = went (row_for (keys_of c) less (path_of p.names) p.tuples.tuple) p.stored.rows _ middle (omega arith) in
      let stages = stages_left old.kept a.kept b.kept x parts loses names (as_tables rows_alone old.kept a.kept alone) of_worlds c s may in
      drops_within (length x.path) rows old a b new first second third alone tuples later last _ _ l.left before middle l.rows l.balance
      (one_found (keys_of c) less x b.kept a.kept old.kept stages)
