-- What a change named goes, or comes: by its kind.
use Rattle.std.proofs.Common.{◌≡◌, ℕ, List, sym, subst, ◌+◌, ◌*◌, arith, None}
use Rattle.std.specs.FinMap as tables
use Rattle.bdb_base.specs.Bases.{Contents, world_count}
use Rattle.bdb_base.specs.Causes.{Rises, RoseBy}
use Rattle.bdb_base.specs.declared.kinds.RelDef.{RelDef}
use Rattle.bdb_base.proofs.CauseLemmas.{rises_once}
use Rattle.bdb_keep.specs.Seen.{Seen}
use Rattle.bdb_keep.specs.Tables.{Tables}
use Rattle.bdb_tables.specs.Codec.{place}
use Rattle.bdb_tables.specs.InUse.{rel_codec}
use Rattle.bdb_tables.specs.Stored.{Stores}
use Rattle.bdb_undo.specs.declared.change.Named.{Named}
use Rattle.bdb_undo.specs.declared.change.Named.TheVariants.{Nothing, UserAdded, RelationAdded, UserDropped}
use Rattle.bdb_update.specs.Keeping.{SameNumbers}
use Rattle.bdb_update.proofs.StayLemmas.{same_by_relation}
use Rattle.bdb_catalog.specs.Creating.{AddsRelation, AddsUserNamed, MayAddRelation, MayAddUser, SomeMayAddRelation, SomeMayAddUser, WritesUser}
use Rattle.bdb_return.specs.Naming.{GetsName, Leaves, LosesLastRelation, LosesLastUser, LosesName, MayGetName, SomeMayGetName, SomeMayLeave, SomeMayLoseName, SomeRelationIsLast, SomeUserIsLast, WritesGain, WritesLastRelation, WritesLastUser, WritesLeave, WritesLoss}
use Rattle.bdb_return.specs.Numbers.{IsNextRelation, IsNextUser}

module _ (t u : Tables) (n : Named) where
  -- nothing was named
  pub nothing_lost : u ≡ t → n ≡ Nothing → LosesName t u n
  nothing_lost same e = subst (LosesName t u) (sym e) (λ a h. subst (λ (z : Tables). Stores z a) (sym same) h.stored)

  pub nothing_got : u ≡ t → n ≡ Nothing → GetsName t u n
  nothing_got same e = subst (GetsName t u) (sym e) (λ a h. subst (λ (z : Tables). Stores z a) (sym same) h.stored)

  -- a user was added
  pub some_user_last : (name : List ℕ) → n ≡ UserAdded name → SomeMayLoseName t n → SomeUserIsLast t
  some_user_last name e s = record { name = name; some = subst (SomeMayLoseName t) e s }

  pub user_lost : (name : List ℕ) → n ≡ UserAdded name → LosesLastUser t u → LosesName t u n
  user_lost name e loses = subst (LosesName t u) (sym e) (loses name)

  -- a relation was added
  pub some_relation_last : (def : RelDef) → n ≡ RelationAdded def → SomeMayLoseName t n → SomeRelationIsLast t
  some_relation_last def e s = record { def = def; some = subst (SomeMayLoseName t) e s }

  pub relation_lost : (def : RelDef) → n ≡ RelationAdded def → LosesLastRelation t u → LosesName t u n
  relation_lost def e loses = subst (LosesName t u) (sym e) (loses def)

  -- a user left
  pub some_leaves : (uid : ℕ) (name : List ℕ) → n ≡ UserDropped uid name → SomeMayGetName t n → SomeMayLeave t uid
  some_leaves uid name e s = record { name = name; some = subst (SomeMayGetName t) e s }

  pub user_left : (uid : ℕ) (name : List ℕ) → n ≡ UserDropped uid name → Leaves t u uid → GetsName t u n
  user_left uid name e left = subst (GetsName t u) (sym e) (left name)

-- ---- what is added has the next number

module _ (t m : Tables) (same : m ≡ t) (uid : ℕ) (name : List ℕ) (next : IsNextUser t uid) where
  may_add_user : (a : Contents) → MayGetName t (UserAdded name) a → MayAddUser m uid name a
  may_add_user a h = record {
    base = record { stored = subst (λ (z : Tables). Stores z a) (sym same) h.stored; valid = h.between.before };
    next = next a h.stored;
    valid = h.between.after;
  }

  pub some_add_user : SomeMayGetName t (UserAdded name) → SomeMayAddUser m uid name
  some_add_user s = record { base = s.base; may = may_add_user s.base s.may }

  pub user_got : (u : Tables) → AddsUserNamed m u uid name → GetsName t u (UserAdded name)
  user_got u adds a h = (adds a (may_add_user a h)).stored

module _ (t m : Tables) (same : m ≡ t) (rel : ℕ) (def : RelDef) (next : IsNextRelation t rel) where
  may_add_relation : (a : Contents) → MayGetName t (RelationAdded def) a → MayAddRelation m rel def a
  may_add_relation a h = record {
    base = record { stored = subst (λ (z : Tables). Stores z a) (sym same) h.stored; valid = h.between.before };
    next = next a h.stored;
    valid = h.between.after;
  }

  pub some_add_relation : SomeMayGetName t (RelationAdded def) → SomeMayAddRelation m rel def
  some_add_relation s = record { base = s.base; may = may_add_relation s.base s.may }

  pub relation_got : (u : Tables) → AddsRelation m u rel def → GetsName t u (RelationAdded def)
  relation_got u adds a h = (adds a (may_add_relation a h)).stored

-- ---- worlds and tuples keep their numbers

pub last_relation_keeps : (t m u : Tables) (rel : ℕ) → m ≡ t → u ≡ tables.remove m (place rel_codec rel) → SameNumbers t u
last_relation_keeps t m u rel same put = subst (λ (z : Tables). SameNumbers z u) same (subst (SameNumbers m) (sym put) (same_by_relation m rel None))

-- ---- how often is written

module _ (old new : Seen) (n : Named) where
  pub nothing_lost_written : new.writes ≡ old.writes → n ≡ Nothing → WritesLoss old new n
  nothing_lost_written still e = subst (WritesLoss old new) (sym e) (λ a h below. omega (arith, still))

  pub nothing_got_written : new.writes ≡ old.writes → n ≡ Nothing → WritesGain old new n
  nothing_got_written still e = subst (WritesGain old new) (sym e) (λ a h below. omega (arith, still))

  pub user_lost_written : (name : List ℕ) → n ≡ UserAdded name → WritesLastUser old new → WritesLoss old new n
  user_lost_written name e writes = subst (WritesLoss old new) (sym e) (writes name)

  pub relation_lost_written : (def : RelDef) → n ≡ RelationAdded def → WritesLastRelation old new → WritesLoss old new n
  relation_lost_written def e writes = subst (WritesLoss old new) (sym e) (writes def)

  pub user_left_written : (uid : ℕ) (name : List ℕ) → n ≡ UserDropped uid name → WritesLeave old new uid → WritesGain old new n
  user_left_written uid name e writes = subst (WritesGain old new) (sym e) (writes name)

pub last_relation_written : (old mid new : Seen) → mid.writes ≡ old.writes → RoseBy 1 mid.writes new.writes → WritesLastRelation old new
last_relation_written old mid new still one def a h = rises_once old.writes mid.writes new.writes still one

pub relation_got_written : (old mid new : Seen) (def : RelDef) → mid.writes ≡ old.writes → RoseBy 1 mid.writes new.writes → WritesGain old new (RelationAdded def)
relation_got_written old mid new def still one a h = rises_once old.writes mid.writes new.writes still one

pub user_got_written : (old mid new : Seen) (uid : ℕ) (name : List ℕ) → mid.kept ≡ old.kept → mid.writes ≡ old.writes → IsNextUser old.kept uid → WritesUser mid new uid name
    → WritesGain old new (UserAdded name)
user_got_written old mid new uid name same still next writes a h =
    subst (λ (n : ℕ). Rises (2 * world_count a.stmts + 1) n new.writes) still (writes a (may_add_user old.kept mid.kept same uid name next a h))
