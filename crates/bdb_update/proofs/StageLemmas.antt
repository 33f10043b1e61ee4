-- What tables have that store a base in the middle of a change.
use Rattle.std.proofs.Common.{◌≡◌, ◌∙◌, ℕ, ◌≤◌, Bool, true, false, ◌&&◌, nat_le, List, ap, sym, length, is_some}
use Rattle.std.specs.List.{list_all}
use Rattle.std.proofs.lemmas.Bool.{and_parts, leb-true}
use Rattle.bdb_base.specs.Alternation.{alternates}
use Rattle.bdb_base.specs.Bases.{Contents, belongs, is_user, fits_relation}
use Rattle.bdb_base.specs.Limits.{deepest_statement}
use Rattle.bdb_base.specs.declared.kinds.Catalog.{Catalog}
use Rattle.bdb_base.specs.declared.kinds.Stmt.{Stmt}
use Rattle.bdb_base.proofs.OptionLemmas.{some_mapped}
use Rattle.bdb_keep.specs.Tables.{Tables}
use Rattle.bdb_tables.specs.InUse.{val_codec, tuple_codec}
use Rattle.bdb_tables.specs.Names.{Names, path_of}
use Rattle.bdb_tables.specs.Rows.{Tuples, row_for}
use Rattle.bdb_val.specs.Reads.{HaveTuples}
use Rattle.bdb_val.proofs.HeldLemmas.{held_names}
use Rattle.bdb_tables.specs.Stored.{SameBut, StoredOver}
use Rattle.bdb_update.specs.Keys.{keys_of}

-- each row of a world has its tuple
pub over_has_tuples : (reached told : List Stmt) (ns : Names) (ts : Tuples) (t : Tables) (b : Contents) → StoredOver reached told ns ts t b → HaveTuples t
over_has_tuples reached told ns ts t b h k v s =
    let f = row_for (keys_of b) b.stmts (path_of ns) ts.tuple in
    let there : is_some (f k) ≡ true = sym (ap is_some (h.rows.rows k v) ∙ some_mapped val_codec.row_bytes (f k)) ∙ s in
    let named = (held_names (keys_of b) b.stmts told ns ts t h.tuples k there).1 in
    ap is_some (h.tuples.tuples.rows k.3 v.tuple) ∙ some_mapped tuple_codec.row_bytes (ts.tuple k.3) ∙ ap is_some named.1

-- and still has where neither table has changed
pub tuples_still : (test : ℕ → Bool) (t u : Tables) → SameBut test t u → test 4 ≡ false → test 11 ≡ false → HaveTuples t → HaveTuples u
tuples_still test t u same a b h k v s = ap is_some (same 4 (tuple_codec.key_bytes k.3) a) ∙ h k v (ap is_some (sym (same 11 (val_codec.key_bytes k) b)) ∙ s)

-- ---- what belongs to a catalog

pub record Belongs (c : Catalog) (x : Stmt) : Type 0 where
  pub apart : alternates x.path ≡ true
  pub short : length x.path ≤ deepest_statement
  pub users : list_all (is_user c.users) x.path ≡ true
  pub tuple : fits_relation c.rels x.tuple ≡ true

pub belongs_parts : (c : Catalog) (x : Stmt) → belongs c x ≡ true → Belongs c x
belongs_parts c x h =
    let k = and_parts (alternates x.path && nat_le (length x.path) deepest_statement && list_all (is_user c.users) x.path) (fits_relation c.rels x.tuple) h in
    let l = and_parts (alternates x.path && nat_le (length x.path) deepest_statement) (list_all (is_user c.users) x.path) k.0 in
    let m = and_parts (alternates x.path) (nat_le (length x.path) deepest_statement) l.0 in
    record { apart = m.0; short = leb-true (length x.path) deepest_statement m.1; users = l.1; tuple = k.1 }
