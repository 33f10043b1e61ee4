-- What visits of a walk read, write and list.
use Rattle.std.specs.Prelude.{◌≡◌, ℕ, ◌⊎◌, Bool, true, nat_eq, List, [], ◌++◌, length, map}
use Rattle.bdb_base.specs.Causes.{Rises}
use Rattle.bdb_keep.specs.Seen.{Seen}
use Rattle.bdb_keep.specs.Spans.{Listed}
use Rattle.bdb_keep.specs.Tables.{Tables}
use Rattle.bdb_key.specs.Bytes.{num_bytes}
use Rattle.bdb_tables.specs.InUse.{linked_codec}
use Rattle.bdb_tables.specs.Spans.{AreUnder, Spell}
use Rattle.bdb_val.specs.Walks.{IsVisit, IsQuiet, changes_of, put_by, taken_by}
use Rattle.bdb_val.specs.declared.stored.SettledWorld.{SettledWorld}

-- a link as it is walked: the world that has it, and the one to which it leads
abbrev pub turned_round : (ℕ × ℕ) × Unit {0} → ℕ × ℕ
turned_round e = (e.0.1, e.0.0)

-- the suffix links that lead to a world, as they are read
pub record AreLinksTo (t : Tables) (wid : ℕ) (more : List (ℕ × ℕ)) : Type 0 where
  pub entries : List ((ℕ × ℕ) × Unit {0})
  pub under : AreUnder linked_codec t (num_bytes wid) entries
  pub listed : more ≡ map turned_round entries

-- the links of bytes that were read come at the end of a list
pub record PushesRead (bytes : Listed) (before after : List (ℕ × ℕ)) : Type 0 where
  pub entries : List ((ℕ × ℕ) × Unit {0})
  pub spelled : Spell linked_codec bytes entries
  pub list : after ≡ before ++ map turned_round entries

-- the world to which a link leads
abbrev pub led_to : (ℕ × ℕ) × Unit {0} → ℕ
led_to e = e.0.0

-- a link leads to a world
abbrev pub leads_to : ℕ → (ℕ × ℕ) × Unit {0} → Bool
leads_to wid e = nat_eq (led_to e) wid

-- where links were read, they are all that the tables have
abbrev pub AreAllLinks : Tables → Bool → List ((ℕ × ℕ) × Unit {0}) → Type 0
AreAllLinks t are_all links = are_all ≡ true → AreUnder linked_codec t [] links

-- the links that lead to a world come at the end of a list
pub record ArePushed (t : Tables) (wid : ℕ) (before after : List (ℕ × ℕ)) : Type 0 where
  pub more : List (ℕ × ℕ)
  pub linked : AreLinksTo t wid more
  pub list : after ≡ before ++ more

-- what is told of a visit, and one write for each of its changes
pub record TellsVisit (keys : ℕ → ℕ) (old new : Seen) (prefix : ℕ → List ℕ) (wid : ℕ) (s : SettledWorld) (visit : IsVisit keys prefix old.kept new.kept wid) : Type 0 where
  pub put : s.put ≡ put_by visit
  pub taken : s.taken ≡ taken_by visit
  pub writes : Rises (length (changes_of visit)) old.writes new.writes

-- a visit that puts the links that lead to the visited world at the end of a list
pub record IsFirstVisit (keys : ℕ → ℕ) (old new : Seen) (prefix : ℕ → List ℕ) (wid : ℕ) (before after : List (ℕ × ℕ)) (s : SettledWorld) : Type 0 where
  pub visit : IsVisit keys prefix old.kept new.kept wid
  pub told : TellsVisit keys old new prefix wid s visit
  pub pushed : ArePushed new.kept wid before after

-- a visit that does so unless no sign is another
pub record IsNextVisit (keys : ℕ → ℕ) (old new : Seen) (prefix : ℕ → List ℕ) (wid : ℕ) (before after : List (ℕ × ℕ)) (s : SettledWorld) : Type 0 where
  pub visit : IsVisit keys prefix old.kept new.kept wid
  pub told : TellsVisit keys old new prefix wid s visit
  pub pushed : ((after ≡ before) × IsQuiet visit) ⊎ ArePushed new.kept wid before after
