-- The definitions, computed on small bases: what each command of a short session shows.
use Rattle.std.proofs.Common.{◌≡◌, ℕ, Bool, true, false, List, [], ◌∷◌, refl, Some, None}
use Rattle.std.specs.Prelude.{codes}
use Rattle.bdb_base.specs.declared.kinds.Cmp.TheVariants.{Eq, Ne}
use Rattle.bdb_base.specs.declared.kinds.Cond.{Cond}
use Rattle.bdb_base.specs.declared.kinds.Held.{Held}
use Rattle.bdb_base.specs.declared.kinds.Operand.TheVariants.{Col, Lit}
use Rattle.bdb_base.specs.declared.kinds.Sign.{Sign}
use Rattle.bdb_base.specs.declared.kinds.Sign.TheVariants.{Plus, Minus}
use Rattle.bdb_base.specs.declared.kinds.Stmt.{Stmt}
use Rattle.bdb_base.specs.declared.kinds.Value.TheVariants.{Text}
use Rattle.bdb_base.specs.declared.tuple.Tuple.{Tuple}
use Rattle.bdb_base.specs.Bases.{with_statement, stands}
use Rattle.bdb_base.specs.Changes.{taken_by, without_taken, updated, first_clashing, with_statements}
use Rattle.bdb_base.specs.WorldRows.{world_of}
use Rattle.bdb_base.specs.Worlds.{stated, believes, least_clash}

-- a key of one column
abbrev pub one : ℕ → ℕ
one _ = 1

-- a tuple of the relation with the columns k and v
abbrev pub pair : List ℕ → List ℕ → Tuple
pair k v = record { rel = 0; vals = Text k ∷ Text v ∷ [] }

abbrev pub state : List ℕ → Sign → List ℕ → List ℕ → Stmt
state w s k v = record { path = w; sign = s; tuple = pair k v }

abbrev pub row : Sign → List ℕ → List ℕ → Bool → Held
row s k v e = record { tuple = pair k v; sign = s; explicit = e }

-- a test of the column v against a text
abbrev pub v_is : List ℕ → Cond
v_is b = record { left = record { item = 0; col = 1 }; cmp = Eq; right = Lit (Text b) }

abbrev pub v_is_not : List ℕ → Cond
v_is_not b = record { left = record { item = 0; col = 1 }; cmp = Ne; right = Lit (Text b) }

-- the users: Alice is 1, Bob is 2
abbrev pub alice : List ℕ
alice = 1 ∷ []

abbrev pub bob : List ℕ
bob = 2 ∷ []

-- an eagle is stated, and Bob denies it
abbrev pub first : List Stmt
first = with_statements [] (state [] Plus (codes "s1") (codes "eagle") ∷ state bob Minus (codes "s1") (codes "eagle") ∷ [])

-- Bob's denial clashes with nothing of his, since what he would inherit is no statement of his
bob_may_deny : least_clash one (with_statement [] (state [] Plus (codes "s1") (codes "eagle"))) bob (pair (codes "s1") (codes "eagle")) Minus ≡ None
bob_may_deny = refl

bob_denies : world_of one first bob ≡ row Minus (codes "s1") (codes "eagle") true ∷ []
bob_denies = refl

-- Alice believes that Bob denies it, and Bob believes that Alice does not
alice_of_bob : world_of one first (1 ∷ 2 ∷ []) ≡ row Minus (codes "s1") (codes "eagle") false ∷ []
alice_of_bob = refl

bob_of_alice : world_of one first (2 ∷ 1 ∷ []) ≡ row Plus (codes "s1") (codes "eagle") false ∷ []
bob_of_alice = refl

-- Alice states a crow, and so denies the eagle without a statement
abbrev pub second : List Stmt
second = with_statement first (state alice Plus (codes "s1") (codes "crow"))

alice_denies_unstated : believes one second alice (pair (codes "s1") (codes "eagle")) Minus ≡ true
alice_denies_unstated = refl

alice_does_not_state_it : stated one second alice (pair (codes "s1") (codes "eagle")) Minus ≡ false
alice_does_not_state_it = refl

bob_denies_stated : believes one second bob (pair (codes "s1") (codes "eagle")) Minus ≡ true
bob_denies_stated = refl

-- a raven of Alice's clashes with her crow, and her denial of a raven with nothing
raven_clashes : least_clash one second alice (pair (codes "s1") (codes "raven")) Plus ≡ Some (state alice Plus (codes "s1") (codes "crow"))
raven_clashes = refl

no_raven_is_free : least_clash one second alice (pair (codes "s1") (codes "raven")) Minus ≡ None
no_raven_is_free = refl

-- a denial of the raven is added; the crow stands already
abbrev pub third : List Stmt
third = with_statement second (state alice Minus (codes "s1") (codes "raven"))

crow_stands : stands third (state alice Plus (codes "s1") (codes "crow")) ≡ true
crow_stands = refl

crow_again : with_statement third (state alice Plus (codes "s1") (codes "crow")) ≡ third
crow_again = refl

-- a delete takes the crow away, and the eagle is inherited again
crow_is_taken : taken_by alice Plus 0 (v_is (codes "crow") ∷ []) third ≡ state alice Plus (codes "s1") (codes "crow") ∷ []
crow_is_taken = refl

eagle_is_back : world_of one (without_taken alice Plus 0 (v_is (codes "crow") ∷ []) third) alice
    ≡ row Plus (codes "s1") (codes "eagle") false ∷ row Minus (codes "s1") (codes "raven") true ∷ []
eagle_is_back = refl

-- an update that gives two tuples one key is refused by the lesser of the two
abbrev pub two : List Stmt
two = with_statements [] (state bob Plus (codes "a") (codes "x") ∷ state bob Plus (codes "b") (codes "y") ∷ [])

one_key_clashes : first_clashing one (updated bob Plus 0 (v_is_not (codes "z") ∷ []) (record { col = 0; to = Text (codes "c") } ∷ []) two) bob
    ≡ Some (state bob Plus (codes "c") (codes "x"))
one_key_clashes = refl

two_rows_stay : world_of one two bob ≡ row Plus (codes "a") (codes "x") true ∷ row Plus (codes "b") (codes "y") true ∷ []
two_rows_stay = refl

-- an update may meet a denial of the same tuple; a later set of the same column wins
abbrev pub denied : List Stmt
denied = with_statements [] (state bob Plus (codes "a") (codes "x") ∷ state bob Minus (codes "a") (codes "y") ∷ [])

update_meets_denial : first_clashing one (updated bob Plus 0 [] (record { col = 1; to = Text (codes "y") } ∷ []) denied) bob
    ≡ Some (state bob Plus (codes "a") (codes "y"))
update_meets_denial = refl

later_set_wins : world_of one (updated bob Plus 0 (record { left = record { item = 0; col = 0 }; cmp = Ne; right = Col (record { item = 0; col = 1 }) } ∷ [])
    (record { col = 1; to = Text (codes "y") } ∷ record { col = 1; to = Text (codes "z") } ∷ []) denied) bob
    ≡ row Minus (codes "a") (codes "y") true ∷ row Plus (codes "a") (codes "z") true ∷ []
later_set_wins = refl

-- two changed statements may become one
two_become_one : updated [] Minus 0 [] (record { col = 0; to = Text (codes "c") } ∷ [])
    (with_statements [] (state [] Minus (codes "a") (codes "x") ∷ state [] Minus (codes "b") (codes "x") ∷ []))
    ≡ state [] Minus (codes "c") (codes "x") ∷ []
two_become_one = refl
