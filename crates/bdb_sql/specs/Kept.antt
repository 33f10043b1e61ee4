-- The one table of a file, and what the keeper takes of a file's schema.
use Rattle.std.specs.Prelude.{◌≡◌, ◌⊎◌, ℕ, List, [], ◌∷◌, None, true, false, codes}
use Rattle.sqlite_value.specs.declared.value.Value.TheVariants.{Null}
use Rattle.sqlite_value.specs.declared.keys.Collation.TheVariants.{Binary}
use Rattle.sqlite_value.specs.Keys.{plain}
use Rattle.sqlite_schema.specs.declared.schema.Kind.{Kind}
use Rattle.sqlite_schema.specs.declared.schema.Kind.TheVariants.{Integer, Blob}
use Rattle.sqlite_schema.specs.declared.schema.Column.{Column}
use Rattle.sqlite_schema.specs.declared.schema.Table.{Table}
use Rattle.sqlite_schema.specs.declared.schema.Index.{Index}
use Rattle.sqlite_schema.specs.declared.schema.Schema.{Schema}
use Rattle.sqlite.specs.State.{State}

-- a column that takes values of its kind alone, and no null
abbrev pub kept_column : List ℕ → Kind → Column
kept_column name kind = record { name = name; kind = kind; is_strict = true; not_null = true; default = Null; collation = Binary }

-- the table: a number, a key and a content in each row, and no two rows of one number and key
abbrev pub kept_table : Table
kept_table = record {
  name = codes "kept";
  tree = 0;
  columns = kept_column (codes "tab") Integer ∷ kept_column (codes "k") Blob ∷ kept_column (codes "v") Blob ∷ [];
  key = None;
  primary = 1 ∷ 2 ∷ [];
  uniques = (1 ∷ 2 ∷ []) ∷ [];
  orders = plain ∷ [];
  checks = [];
  references = [];
  computed = [];
  stamps = record { places = []; terms = []; formats = [] };
  is_counted = false;
}

-- the index of its key
abbrev pub kept_index : Index
kept_index = record { name = codes "sqlite_autoindex_kept_1"; tree = 1; table = 0; columns = 1 ∷ 2 ∷ []; order = plain; is_unique = true }

-- the table alone
abbrev pub kept_schema : Schema
kept_schema = record { tables = kept_table ∷ []; indexes = kept_index ∷ []; views = [] }

-- nothing at all
abbrev pub no_schema : Schema
no_schema = record { tables = []; indexes = []; views = [] }

-- the file has nothing, or the table alone: no further table, column, index, view or trigger
abbrev pub IsBareOrKept : State → Type 0
IsBareOrKept s = (s.now.schema ≡ no_schema) ⊎ (s.now.schema ≡ kept_schema)
