-- What tables have that store a base.
use Rattle.std.proofs.Common.{◌≡◌, ◌∙◌, ℕ, true, List, sym, ap, is_some}
use Rattle.bdb_base.specs.Bases.{Contents, is_user}
use Rattle.bdb_base.proofs.OptionLemmas.{some_mapped}
use Rattle.bdb_keep.specs.Tables.{Tables}
use Rattle.bdb_tables.specs.Grammar.{InGrammar}
use Rattle.bdb_tables.specs.InUse.{tuple_codec, val_codec}
use Rattle.bdb_tables.specs.Names.{Names, path_of}
use Rattle.bdb_tables.specs.Rows.{Tuples, row_for}
use Rattle.bdb_tables.specs.Stored.{StoredAs}
use Rattle.bdb_update.proofs.GrammarLemmas.{stored_is_in_grammar}
use Rattle.bdb_update.specs.Keys.{keys_of}
use Rattle.bdb_val.specs.Reads.{HaveTuples}
use Rattle.bdb_val.proofs.HeldLemmas.{held_names}
use Rattle.bdb_worlds.specs.Holding.{HoldSome}
use Rattle.bdb_catalog.specs.Bases.{SomeHasUsers}

-- each row of a world has its tuple
pub stored_has_tuples : (ns : Names) (ts : Tuples) (t : Tables) (b : Contents) → StoredAs ns ts t b → HaveTuples t
stored_has_tuples ns ts t b h k v s =
    let f = row_for (keys_of b) b.stmts (path_of ns) ts.tuple in
    let there : is_some (f k) ≡ true = sym (ap is_some (h.rows.rows k v) ∙ some_mapped val_codec.row_bytes (f k)) ∙ s in
    let named = (held_names (keys_of b) b.stmts b.stmts ns ts t h.tuples k there).1 in
    ap is_some (h.tuples.tuples.rows k.3 v.tuple) ∙ some_mapped tuple_codec.row_bytes (ts.tuple k.3) ∙ ap is_some named.1

-- ---- where some base has the users of a path

pub path_grammar : (t : Tables) (path : List ℕ) → SomeHasUsers t path → InGrammar t
path_grammar t path h = stored_is_in_grammar t h.base h.has.base.stored

pub path_tuples : (t : Tables) (path : List ℕ) → SomeHasUsers t path → HaveTuples t
path_tuples t path h = stored_has_tuples h.has.base.stored.names h.has.base.stored.tuples t h.base h.has.base.stored.stored

pub path_states : (t : Tables) (path : List ℕ) → SomeHasUsers t path → HoldSome t path
path_states t path h = record {
  worlds = record { users = is_user h.base.catalog.users; names = h.has.base.stored.names };
  states = h.has.base.stored.stored.states;
  own = h.has.own;
}
