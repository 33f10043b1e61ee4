-- The bases and the changes with which the tests try a change. Alice is user 1, and Bob is user 2; or Carol, where Bob was
-- taken back.
use Rattle.std.specs.Prelude.{[], ◌∷◌, codes}
use Rattle.bdb_base.specs.declared.kinds.Sign.TheVariants.{Plus}
use Rattle.bdb_base.specs.declared.kinds.Stmt.{Stmt}
use Rattle.bdb_base.specs.declared.kinds.UserSlot.TheVariants.{Live}
use Rattle.bdb_base.specs.Bases.{Contents, with_relation, with_user, without_user}
use Rattle.bdb_base.specs.Changes.{without_statements_of}
use Rattle.bdb_canon.specs.Samples.{sightings, stated_at}
use Rattle.bdb_undo.specs.declared.change.Change.{Change}
use Rattle.bdb_undo.specs.declared.change.Named.TheVariants.{Nothing, UserAdded, RelationAdded, UserDropped}

-- Bob states S('a', 'x')
abbrev pub bobs_word : Stmt
bobs_word = stated_at (2 ∷ []) Plus (codes "a") (codes "x")

-- Bob states S('a', 'y')
abbrev pub bobs_next_word : Stmt
bobs_next_word = stated_at (2 ∷ []) Plus (codes "a") (codes "y")

-- Alice alone
abbrev pub alone : Contents
alone = record { catalog = record { rels = []; users = Live (codes "Alice") ∷ [] }; stmts = [] }

-- .. with the relation
abbrev pub related : Contents
related = record alone { catalog = with_relation alone.catalog sightings }

-- .. and Bob
abbrev pub joined : Contents
joined = record related { catalog = with_user related.catalog (codes "Bob") }

-- .. and Carol in Bob's place
abbrev pub joined_by_carol : Contents
joined_by_carol = record related { catalog = with_user related.catalog (codes "Carol") }

-- Alice, Bob and Bob's statement
abbrev pub told : Contents
told = record joined { stmts = bobs_word ∷ [] }

-- Alice, Bob and his next statement in place of the first
abbrev pub told_anew : Contents
told_anew = record joined { stmts = bobs_next_word ∷ [] }

-- Alice, after Bob left with his statement
abbrev pub left_by_bob : Contents
left_by_bob = record { catalog = without_user told.catalog 2; stmts = without_statements_of 2 told.stmts }

-- the relation is added
abbrev pub of_relation : Change
of_relation = record { named = RelationAdded sightings; gone = []; come = [] }

-- Bob is added
abbrev pub of_bob : Change
of_bob = record { named = UserAdded (codes "Bob"); gone = []; come = [] }

-- Carol is added
abbrev pub of_carol : Change
of_carol = record { named = UserAdded (codes "Carol"); gone = []; come = [] }

-- Bob's statement comes
abbrev pub of_word : Change
of_word = record { named = Nothing; gone = []; come = bobs_word ∷ [] }

-- Bob's statement goes, and his next one comes
abbrev pub of_next_word : Change
of_next_word = record { named = Nothing; gone = bobs_word ∷ []; come = bobs_next_word ∷ [] }

-- Bob's next statement goes
abbrev pub word_gone : Change
word_gone = record { named = Nothing; gone = bobs_next_word ∷ []; come = [] }

-- Bob leaves, and his statement goes
abbrev pub of_leaving : Change
of_leaving = record { named = UserDropped 2 (codes "Bob"); gone = bobs_word ∷ []; come = [] }
