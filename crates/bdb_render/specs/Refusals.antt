-- The replies to refused commands.
use Rattle.std.specs.Prelude.{ℕ, codes, List, ◌++◌}
use Rattle.bdb_base.specs.declared.kinds.Catalog.{Catalog}
use Rattle.bdb_base.specs.declared.kinds.What.{What}
use Rattle.bdb_base.specs.declared.kinds.What.TheVariants as what
use Rattle.bdb_base.specs.Texts.{dotted, int_text, quoted, line, named_column}
use Rattle.bdb_render.specs.declared.refusal.Refusal.{Refusal}
use Rattle.bdb_render.specs.declared.refusal.Refusal.TheVariants as refusal
use Rattle.bdb_render.specs.Replies.{signed_text}

-- what a base can be full of
abbrev pub what_text : What → List ℕ
what_text what.Users = codes "users"
what_text what.Relations = codes "relations"
what_text what.Worlds = codes "worlds"
what_text what.Tuples = codes "tuples"
what_text what.Statements = codes "statements"

-- the cause of a refusal; users' names stand in quotes, other names as written
abbrev pub cause_text : Catalog → Refusal → List ℕ
cause_text catalog refusal.Long = codes "long"
cause_text catalog refusal.Syntax = codes "syntax"
cause_text catalog refusal.Number = codes "number"
cause_text catalog refusal.Text = codes "text"
cause_text catalog refusal.Items = codes "items"
cause_text catalog (refusal.Relation name) = codes "relation " ++ name
cause_text catalog (refusal.User name) = codes "user " ++ quoted name
cause_text catalog (refusal.AliasTwice alias) = codes "alias twice " ++ alias
cause_text catalog (refusal.Alias alias) = codes "alias " ++ alias
cause_text catalog (refusal.Column alias col) = codes "column " ++ named_column alias col
cause_text catalog (refusal.TakenUser name) = codes "taken " ++ quoted name
cause_text catalog (refusal.TakenName name) = codes "taken " ++ name
cause_text catalog (refusal.KeyLength length) = codes "key " ++ int_text length
cause_text catalog refusal.Repeat = codes "repeat"
cause_text catalog refusal.Deep = codes "deep"
cause_text catalog refusal.Arity = codes "arity"
cause_text catalog (refusal.Kind alias col) = codes "kind " ++ named_column alias col
cause_text catalog (refusal.Unsafe alias col) = codes "unsafe " ++ dotted alias col
cause_text catalog (refusal.Clash sign t) = codes "clash " ++ signed_text catalog sign t
cause_text catalog (refusal.Full what) = codes "full " ++ what_text what
cause_text catalog refusal.Many = codes "many"
cause_text catalog refusal.NoUndo = codes "no undo"
cause_text catalog refusal.NoRedo = codes "no redo"
cause_text catalog refusal.Unfinished = codes "unfinished"

-- the reply to a refused command
abbrev pub refusal_reply : Catalog → Refusal → List ℕ
refusal_reply catalog r = line (codes "error " ++ cause_text catalog r)
