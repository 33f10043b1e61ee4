-- The reply to `show tables`.
use Rattle.std.specs.Prelude.{ℕ, ◌==◌, codes, List, [], ◌++◌, length, map, Option, None, Some, if◌then◌else◌}
use Rattle.std.specs.Fmt.{decimal}
use Rattle.std.specs.List.{flat_map, slice_get}
use Rattle.std.specs.Option.{option_map_or}
use Rattle.bdb_base.specs.declared.kinds.Catalog.{Catalog}
use Rattle.bdb_base.specs.declared.kinds.RelDef.{RelDef}
use Rattle.bdb_base.specs.declared.kinds.Sign.{Sign}
use Rattle.bdb_base.specs.declared.tuple.Tuple.{Tuple}
use Rattle.bdb_base.specs.Queries.{user_numbers}
use Rattle.bdb_base.specs.Texts.{column_text, joined, quoted, line, user_text}
use Rattle.bdb_canon.specs.declared.structure.Canon.{Canon}
use Rattle.bdb_canon.specs.declared.structure.CanonEdge.{CanonEdge}
use Rattle.bdb_canon.specs.declared.structure.CanonRow.{CanonRow}
use Rattle.bdb_canon.specs.declared.structure.CanonWorld.{CanonWorld}
use Rattle.bdb_canon.specs.Canonical.{line_count}
use Rattle.bdb_render.specs.Replies.{count_reply, mark_text, path_text, signed_text, tuple_text}

-- the path of the state at a place; empty where there is none
abbrev pub world_path : Canon → ℕ → List ℕ
world_path k at = option_map_or (λ w. w.path) (slice_get k.worlds at) []

-- a sign and the tuple at a place; nothing where there is none
abbrev pub signed_at : Catalog → Canon → Sign → ℕ → List ℕ
signed_at catalog k sign at = option_map_or (signed_text catalog sign) (slice_get k.tuples at) []

-- the number and the name of a live user
abbrev pub user_line : Catalog → ℕ → List ℕ
user_line catalog uid = line (codes "user " ++ decimal uid ++ codes " " ++ quoted (user_text catalog uid))

-- the name of a relation, and its columns in parentheses
abbrev pub columns_text : RelDef → List ℕ
columns_text def = codes "relation " ++ def.name ++ codes "(" ++ joined (map column_text def.cols) ++ codes ")"

-- how many columns a key has; nothing where it has one
abbrev pub key_text : ℕ → List ℕ
key_text key = if key == 1 then [] else codes " key " ++ decimal key

-- the name of a relation, its columns, and how many of them its key has
abbrev pub relation_line : RelDef → List ℕ
relation_line def = line (columns_text def ++ key_text def.key)

abbrev pub tuple_line : Catalog → Tuple → List ℕ
tuple_line catalog t = line (codes "tuple " ++ tuple_text catalog t)

-- where the suffix link of a state leads; nothing where it has none
abbrev pub suffix_text : Catalog → Canon → Option ℕ → List ℕ
suffix_text catalog k None = []
suffix_text catalog k (Some at) = codes " suffix " ++ path_text catalog (world_path k at)

-- a state, its length, and its suffix link
abbrev pub world_line : Catalog → Canon → CanonWorld → List ℕ
world_line catalog k w = line (codes "world " ++ path_text catalog w.path ++ codes " depth " ++ decimal (length w.path) ++ suffix_text catalog k w.suffix)

-- a state, a user, and the state to which the edge leads
abbrev pub edge_line : Catalog → Canon → CanonEdge → List ℕ
edge_line catalog k e = line (codes "edge " ++ path_text catalog (world_path k e.from) ++ codes " " ++ quoted (user_text catalog e.uid) ++ codes " " ++ path_text catalog (world_path k e.to))

-- a state, a signed tuple of its world, and whether it is stated there
abbrev pub row_line : Catalog → Canon → CanonRow → List ℕ
row_line catalog k r = line (codes "row " ++ path_text catalog (world_path k r.world) ++ codes " " ++ signed_at catalog k r.sign r.tuple ++ codes " " ++ mark_text r.explicit)

-- the live users by number, and the relations in order of creation
abbrev pub catalog_lines : Catalog → List ℕ
catalog_lines catalog = flat_map (user_line catalog) (user_numbers catalog.users) ++ flat_map relation_line catalog.rels

-- the tuples, worlds, edges and rows of the structure
abbrev pub structure_lines : Catalog → Canon → List ℕ
structure_lines catalog k = flat_map (tuple_line catalog) k.tuples ++ flat_map (world_line catalog k) k.worlds ++ flat_map (edge_line catalog k) k.edges ++ flat_map (row_line catalog k) k.rows

-- the reply to `show tables`: the lines, then their number
abbrev pub tables_reply : Catalog → Canon → List ℕ
tables_reply catalog k = catalog_lines catalog ++ structure_lines catalog k ++ count_reply (line_count catalog k)
