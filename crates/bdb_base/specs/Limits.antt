-- The limits of the language.
use Rattle.std.specs.Prelude.{ℕ}

-- places of users of a base: those of live users, and of those who are gone
abbrev pub most_users : ℕ
most_users = 1024

-- relations of a base
abbrev pub most_relations : ℕ
most_relations = 64

-- columns of a relation
abbrev pub most_columns : ℕ
most_columns = 16

-- bytes of a name or a text
abbrev pub longest_text : ℕ
longest_text = 255

-- bytes of a word of the language
abbrev pub longest_word : ℕ
longest_word = 255

-- users of a statement's path
abbrev pub deepest_statement : ℕ
deepest_statement = 64

-- users of a path in a query, and of one whose world is shown
abbrev pub deepest_query : ℕ
deepest_query = 1024

-- items of a query
abbrev pub most_items : ℕ
most_items = 8

-- columns that a query selects
abbrev pub most_select_columns : ℕ
most_select_columns = 32

-- worlds of a base
abbrev pub most_worlds : ℕ
most_worlds = 4000

-- different tuples of a base's statements
abbrev pub most_tuples : ℕ
most_tuples = 4000

-- statements of a base
abbrev pub most_statements : ℕ
most_statements = 20000

-- bytes of a command
abbrev pub longest_command : ℕ
longest_command = 65536

-- bytes of a script: 2 to the 26th
abbrev pub longest_script : ℕ
longest_script = 67108864

-- rows of an answer, and lines of the tables that are shown
abbrev pub most_lines : ℕ
most_lines = 100000

-- commands that are generated at once
abbrev pub most_generated : ℕ
most_generated = 10000
