-- What holds of tables of any bytes. Each law is the contract of a function of `laws`.
use Rattle.std.specs.Prelude.{◌≡◌, ℕ, true, nat_eq}
use Rattle.std.specs.List.{list_all}
use Rattle.std.specs.Option.{is_some}
use Rattle.bdb_base.specs.Bases.{Contents, live_name}
use Rattle.bdb_keep.specs.Tables.{Tables}
use Rattle.bdb_catalog.specs.Opening.{StandFor, StoredFormerly}
use Rattle.bdb_entries.specs.Format.{HasFormat}

-- tables stand for one base at most
abbrev pub OneBaseAtMost : Type 0
OneBaseAtMost = (t : Tables) (a b : Contents) → StandFor t a → StandFor t b → a ≡ b

-- tables of another format than this one and the one before it stand for no base
abbrev pub OthersStandForNone : Type 0
OthersStandForNone = (t : Tables) (n : ℕ) (b : Contents) → HasFormat t n → (n ≡ 3 → ⊥) → (n ≡ 2 → ⊥) → StandFor t b → ⊥

-- a base that tables store in the format before this one has keys of one column
abbrev pub FormerKeysHaveOneColumn : Type 0
FormerKeysHaveOneColumn = (t : Tables) (b : Contents) → StoredFormerly t b → list_all (λ r. nat_eq r.key 1) b.catalog.rels ≡ true

-- a base that tables store in the format before this one has no user who is gone
abbrev pub FormerUsersAreLive : Type 0
FormerUsersAreLive = (t : Tables) (b : Contents) → StoredFormerly t b → list_all (λ u. is_some (live_name u)) b.catalog.users ≡ true
