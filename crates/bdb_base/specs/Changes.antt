-- What a delete, an update and the leaving of a user do to the standing statements.
use Rattle.std.specs.Prelude.{ℕ, Bool, not, ◌&&◌, nat_eq, List, [], ◌∷◌, filter, map, Option, find}
use Rattle.std.specs.List.{list_any}
use Rattle.bdb_base.specs.declared.kinds.Cond.{Cond}
use Rattle.bdb_base.specs.declared.kinds.SetCol.{SetCol}
use Rattle.bdb_base.specs.declared.kinds.Sign.{Sign}
use Rattle.bdb_base.specs.declared.kinds.Stmt.{Stmt}
use Rattle.bdb_base.specs.Bases.{with_statement, without_statement}
use Rattle.bdb_base.specs.Conditions.{meets, changed}
use Rattle.bdb_base.specs.Same.{same_path, same_sign}
use Rattle.bdb_base.specs.Worlds.{contradicted}

-- a statement is at this very path, with this sign and relation, and its tuple meets all tests
abbrev pub is_taken : List ℕ → Sign → ℕ → List Cond → Stmt → Bool
is_taken w s rel conds x = same_path x.path w && (same_sign x.sign s && (nat_eq x.tuple.rel rel && meets conds x.tuple))

-- the statements that a delete or an update takes away
abbrev pub taken_by : List ℕ → Sign → ℕ → List Cond → List Stmt → List Stmt
taken_by w s rel conds stmts = filter (is_taken w s rel conds) stmts

-- the statements that a delete or an update leaves
abbrev pub without_taken : List ℕ → Sign → ℕ → List Cond → List Stmt → List Stmt
without_taken w s rel conds stmts = filter (λ x. not (is_taken w s rel conds x)) stmts

-- a statement with columns of its tuple set
abbrev pub changed_statement : List SetCol → Stmt → Stmt
changed_statement sets x = record x { tuple = changed sets x.tuple }

-- the statements with more of them
abbrev pub with_statements : List Stmt → List Stmt → List Stmt
with_statements stmts [] = stmts
with_statements stmts (x ∷ xs) = with_statements (with_statement stmts x) xs

-- the statements after an update: those left, and each taken one changed
abbrev pub updated : List ℕ → Sign → ℕ → List Cond → List SetCol → List Stmt → List Stmt
updated w s rel conds sets stmts = with_statements (without_taken w s rel conds stmts) (map (changed_statement sets) (taken_by w s rel conds stmts))

-- the least statement of this very path that clashes with another of it
abbrev pub first_clashing : (ℕ → ℕ) → List Stmt → List ℕ → Option Stmt
first_clashing keys stmts w = find (λ x. same_path x.path w && contradicted keys stmts w x.tuple x.sign) stmts

-- a path names a user
abbrev pub names_user : ℕ → List ℕ → Bool
names_user uid w = list_any (λ i. nat_eq i uid) w

-- the statements whose path names a user
abbrev pub statements_naming : ℕ → List Stmt → List Stmt
statements_naming uid stmts = filter (λ x. names_user uid x.path) stmts

-- the statements whose path does not name a user
abbrev pub without_statements_of : ℕ → List Stmt → List Stmt
without_statements_of uid stmts = filter (λ x. not (names_user uid x.path)) stmts

-- the statements without those of a list
abbrev pub without_statements : List Stmt → List Stmt → List Stmt
without_statements stmts [] = stmts
without_statements stmts (x ∷ xs) = without_statements (without_statement stmts x) xs
