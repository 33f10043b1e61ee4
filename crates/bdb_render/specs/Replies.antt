-- The texts of replies.
use Rattle.std.specs.Prelude.{ℕ, Bool, true, false, codes, List, [], ◌∷◌, ◌++◌, length, map}
use Rattle.std.specs.List.{flat_map, slice_get}
use Rattle.std.specs.Option.{option_map_or}
use Rattle.std.specs.Fmt.{decimal}
use Rattle.bdb_base.specs.declared.kinds.Catalog.{Catalog}
use Rattle.bdb_base.specs.declared.kinds.Held.{Held}
use Rattle.bdb_base.specs.declared.kinds.Sign.{Sign}
use Rattle.bdb_base.specs.declared.kinds.Sign.TheVariants.{Plus, Minus}
use Rattle.bdb_base.specs.declared.kinds.Value.{Value}
use Rattle.bdb_base.specs.declared.kinds.World.{World}
use Rattle.bdb_base.specs.declared.tuple.Tuple.{Tuple}
use Rattle.bdb_base.specs.Texts.{joined, quoted, value_text, line, user_text}

-- the name of a relation, by its number; empty where there is none
abbrev pub relation_name : Catalog → ℕ → List ℕ
relation_name catalog rel = option_map_or (λ def. def.name) (slice_get catalog.rels rel) []

-- values with a comma and a space between each two
abbrev pub row_text : List Value → List ℕ
row_text vals = joined (map value_text vals)

-- a tuple: the relation's name, and the values in parentheses
abbrev pub tuple_text : Catalog → Tuple → List ℕ
tuple_text catalog t = relation_name catalog t.rel ++ codes "(" ++ row_text t.vals ++ codes ")"

-- a user of a path: a slash, and the name in quotes
abbrev pub step_text : Catalog → ℕ → List ℕ
step_text catalog uid = codes "/" ++ quoted (user_text catalog uid)

-- a path: its users one after the other; a slash where there is none
abbrev pub path_text : Catalog → List ℕ → List ℕ
path_text catalog [] = codes "/"
path_text catalog (uid ∷ rest) = flat_map (step_text catalog) (uid ∷ rest)

abbrev pub sign_text : Sign → List ℕ
sign_text Plus = codes "+"
sign_text Minus = codes "-"

-- a signed tuple: the sign, a space, and the tuple
abbrev pub signed_text : Catalog → Sign → Tuple → List ℕ
signed_text catalog sign t = sign_text sign ++ codes " " ++ tuple_text catalog t

-- whether a row of a world is stated at that very path
abbrev pub mark_text : Bool → List ℕ
mark_text true = codes "explicit"
mark_text false = codes "inherited"

-- the line of a row of a world
abbrev pub held_line : Catalog → Held → List ℕ
held_line catalog held = line (signed_text catalog held.sign held.tuple ++ codes " " ++ mark_text held.explicit)

-- the line of an answer
abbrev pub answer_line : List Value → List ℕ
answer_line vals = line (row_text vals)

-- the reply to a command that adds to the catalog
abbrev pub ok_reply : List ℕ
ok_reply = line (codes "ok")

-- the reply to a command that counts; the last line of a reply of several lines, with their number
abbrev pub count_reply : ℕ → List ℕ
count_reply n = line (codes "ok " ++ decimal n)

-- the reply to `show world`
abbrev pub world_reply : Catalog → World → List ℕ
world_reply catalog world = flat_map (held_line catalog) world.held ++ count_reply (length world.held)

-- the reply to `select`
abbrev pub rows_reply : List (List Value) → List ℕ
rows_reply rows = flat_map answer_line rows ++ count_reply (length rows)
