-- What becomes of a base where a user leaves.
use Rattle.std.specs.Prelude.{◌≡◌, ℕ, ◌+◌, ◌<◌, true, false, not, ◌&&◌, nat_eq, List, length, Some}
use Rattle.std.specs.List.{list_any}
use Rattle.bdb_base.specs.declared.kinds.Catalog.{Catalog}
use Rattle.bdb_base.specs.declared.kinds.Stmt.{Stmt}
use Rattle.bdb_base.specs.declared.kinds.UserSlot.{UserSlot}
use Rattle.bdb_base.specs.Bases.{IsValid, is_gone, is_user, stands, user_names, with_user, with_user_back, without_user}
use Rattle.bdb_base.specs.Changes.{names_user, statements_naming, without_statements_of}
use Rattle.bdb_base.specs.Limits.{most_users}
use Rattle.bdb_base.specs.Queries.{live_numbers, user_name, user_numbers}
use Rattle.bdb_base.specs.Same.{same_text}
use Rattle.bdb_base.specs.States.{is_state}

-- a valid base stays valid where a user leaves, and with him each statement whose path names him
abbrev pub DropUserIsValid : Type 0
DropUserIsValid = (c : Catalog) (stmts : List Stmt) (uid : ℕ) → IsValid c stmts → is_user c.users uid ≡ true
    → IsValid (without_user c uid) (without_statements_of uid stmts)

-- who leaves is gone
abbrev pub WhoLeavesIsGone : Type 0
WhoLeavesIsGone = (c : Catalog) (uid : ℕ) → is_user c.users uid ≡ true → is_gone (without_user c uid).users uid ≡ true

-- the number of one who is gone is no user's
abbrev pub WhoIsGoneIsNoUser : Type 0
WhoIsGoneIsNoUser = (users : List UserSlot) (uid : ℕ) → is_gone users uid ≡ true → is_user users uid ≡ false

-- who is gone stays so where a user is added
abbrev pub GoneAfterUsersCome : Type 0
GoneAfterUsersCome = (c : Catalog) (name : List ℕ) (uid : ℕ) → is_gone c.users uid ≡ true → is_gone (with_user c name).users uid ≡ true

-- who is gone stays so where another one leaves
abbrev pub GoneAfterUsersLeave : Type 0
GoneAfterUsersLeave = (c : Catalog) (other uid : ℕ) → is_gone c.users uid ≡ true → is_gone (without_user c other).users uid ≡ true

-- a number is a user's afterwards exactly where it was one's and is not his
abbrev pub OthersAreUsers : Type 0
OthersAreUsers = (c : Catalog) (uid other : ℕ) → is_user c.users uid ≡ true
    → is_user (without_user c uid).users other ≡ (not (nat_eq other uid) && is_user c.users other)

-- all other users keep their names
abbrev pub OthersKeepNames : Type 0
OthersKeepNames = (c : Catalog) (uid other : ℕ) → is_user c.users uid ≡ true → nat_eq other uid ≡ false
    → user_name (without_user c uid).users other ≡ user_name c.users other

-- a statement stands afterwards exactly where it stood and its path does not name him
abbrev pub StandsWithoutUser : Type 0
StandsWithoutUser = (stmts : List Stmt) (uid : ℕ) (x : Stmt) → stands (without_statements_of uid stmts) x ≡ (stands stmts x && not (names_user uid x.path))

-- no state names him afterwards
abbrev pub StatesNameOthers : Type 0
StatesNameOthers = (stmts : List Stmt) (uid : ℕ) (w : List ℕ) → is_state (without_statements_of uid stmts) w ≡ true → names_user uid w ≡ false

-- the statements that go and those that stay are as many as stood
abbrev pub StatementsAreParted : Type 0
StatementsAreParted = (stmts : List Stmt) (uid : ℕ) → length (statements_naming uid stmts) + length (without_statements_of uid stmts) ≡ length stmts

-- no live user has his name afterwards
abbrev pub NameIsFree : Type 0
NameIsFree = (c : Catalog) (stmts : List Stmt) (uid : ℕ) (name : List ℕ) → IsValid c stmts → user_name c.users uid ≡ Some name
    → list_any (same_text name) (user_names (without_user c uid).users) ≡ false

-- his name may be given again, where there is room for one more place
abbrev pub NameIsGivenAgain : Type 0
NameIsGivenAgain = (c : Catalog) (stmts : List Stmt) (uid : ℕ) (name : List ℕ) → IsValid c stmts → user_name c.users uid ≡ Some name → length c.users < most_users
    → IsValid (with_user (without_user c uid) name) (without_statements_of uid stmts)

-- the users' numbers, found by a test of each place or told place by place, are one list
abbrev pub NumbersAreLive : Type 0
NumbersAreLive = (users : List UserSlot) → user_numbers users ≡ live_numbers 1 users

-- there are as many numbers of users as names
abbrev pub NumbersAreCounted : Type 0
NumbersAreCounted = (users : List UserSlot) → length (user_numbers users) ≡ length (user_names users)

-- where he comes back under his name, the catalog is the one that it was
abbrev pub ComesBack : Type 0
ComesBack = (c : Catalog) (uid : ℕ) (name : List ℕ) → user_name c.users uid ≡ Some name → with_user_back (without_user c uid) uid name ≡ c
