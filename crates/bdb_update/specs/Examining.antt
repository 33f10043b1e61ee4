-- What is said of a statement before anything is written is right, whichever base the tables store.
use Rattle.std.specs.Prelude.{◌≡◌, Bool, true, false, Some, None}
use Rattle.bdb_base.specs.Bases.{Contents, stands}
use Rattle.bdb_base.specs.declared.kinds.Stmt.{Stmt}
use Rattle.bdb_canon.specs.Sizes.{counts_of}
use Rattle.bdb_canon.specs.declared.sizes.Counts.{Counts}
use Rattle.bdb_keep.specs.Tables.{Tables}
use Rattle.bdb_key.specs.Rows.{IsTupleRow}
use Rattle.bdb_tables.specs.Codec.{HasAt}
use Rattle.bdb_tables.specs.InUse.{tuple_ix_codec}
use Rattle.bdb_update.specs.Calls.{MayMeet, clash_of, size_passed, with_one}
use Rattle.bdb_update.specs.Joining.{IsWorldFound}
use Rattle.bdb_tables.specs.Lengths.{IsKeyLength}
use Rattle.bdb_update.specs.declared.looking.Ready.{Ready}
use Rattle.bdb_update.specs.declared.looking.Prospect.{Prospect}
use Rattle.bdb_update.specs.declared.looking.Prospect.TheVariants.{Clashes, Stands, Fills, Fits}

-- sizes are one but for the rows
pub record AreSizes (a b : Counts) : Type 0 where
  pub worlds : a.worlds ≡ b.worlds
  pub tuples : a.tuples ≡ b.tuples
  pub stmts : a.stmts ≡ b.stmts

-- A statement may join a base: it neither stands nor clashes, and no limit is passed. These are the sizes with it, the number of
-- its path, if that is a state, the number of its tuple, if it has one, and the length of the key of its tuple's relation.
pub record IsReady (t : Tables) (b : Contents) (x : Stmt) (r : Ready) : Type 0 where
  pub fresh : stands b.stmts x ≡ false
  pub apart : clash_of b x ≡ None
  pub room : size_passed (counts_of (with_one b x)) ≡ None
  pub sizes : AreSizes r.next (counts_of (with_one b x))
  pub world : IsWorldFound t x.path r.wid
  pub number : HasAt tuple_ix_codec t x.tuple r.tid
  pub key_length : IsKeyLength t x.tuple.rel r.key_len
  pub fits : IsTupleRow x.tuple

-- what is said of a statement and a base
abbrev pub IsProspect : Tables → Contents → Stmt → Prospect → Type 0
IsProspect t b x (Clashes least) = clash_of b x ≡ Some least
IsProspect t b x Stands = stands b.stmts x ≡ true
IsProspect t b x (Fills what) = (clash_of b x ≡ None) × (size_passed (counts_of (with_one b x)) ≡ Some what)
IsProspect t b x (Fits r) = IsReady t b x r

abbrev pub Examines : Tables → Counts → Stmt → Prospect → Type 0
Examines t counts x verdict = (b : Contents) → MayMeet t counts x b → IsProspect t b x verdict

-- a statement is said to stand
abbrev pub says_stands : Prospect → Bool
says_stands (Clashes least) = false
says_stands Stands = true
says_stands (Fills what) = false
says_stands (Fits r) = false

-- whichever base the tables store, this tells whether a statement stands
abbrev pub StandsThere : Tables → Counts → Stmt → Bool → Type 0
StandsThere t counts x answer = (b : Contents) → MayMeet t counts x b → answer ≡ stands b.stmts x
