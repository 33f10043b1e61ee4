-- The relation and the statement with which the tests try a base, and the bases that they make.
use Rattle.std.specs.Prelude.{[], ◌∷◌, codes, pos}
use Rattle.bdb_base.specs.declared.kinds.Kind.TheVariants as kind
use Rattle.bdb_base.specs.declared.kinds.RelDef.{RelDef}
use Rattle.bdb_base.specs.declared.kinds.Sign.TheVariants.{Plus}
use Rattle.bdb_base.specs.declared.kinds.Stmt.{Stmt}
use Rattle.bdb_base.specs.declared.kinds.Value.TheVariants.{Int}
use Rattle.bdb_base.specs.Bases.{Contents, empty_contents, with_user, without_user, with_relation, with_statement}
use Rattle.bdb_base.specs.Changes.{without_statements_of}

-- R, with one column of integers, which is its key
abbrev pub sample_relation : RelDef
sample_relation = record { name = codes "R"; cols = record { name = codes "n"; kind = kind.Int } ∷ []; key = 1 }

-- the first user states that 7 is in R
abbrev pub sample_statement : Stmt
sample_statement = record { path = 1 ∷ []; sign = Plus; tuple = record { rel = 0; vals = Int (pos 7) ∷ [] } }

-- a base with the user Ann
abbrev pub first : Contents
first = record empty_contents { catalog = with_user empty_contents.catalog (codes "Ann") }

-- .. with R
abbrev pub second : Contents
second = record first { catalog = with_relation first.catalog sample_relation }

-- .. and with the statement
abbrev pub third : Contents
third = record second { stmts = with_statement second.stmts sample_statement }

-- the third base, after its user left
abbrev pub fourth : Contents
fourth = record { catalog = without_user third.catalog 1; stmts = without_statements_of 1 third.stmts }
