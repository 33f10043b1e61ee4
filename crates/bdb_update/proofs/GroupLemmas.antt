-- A group that is settled after a change of one explicit row, and the base that the tables then store.
use Rattle.std.proofs.Common.{◌≡◌, ℕ, nat_eq, List, Some, refl, ◌∙◌}
use Rattle.bdb_base.proofs.WorldLemmas.{explicit_tuple}
use Rattle.bdb_tables.specs.InUse.{meta_codec, user_codec, rel_codec, plain_codec}
use Rattle.bdb_base.specs.Bases.{Contents}
use Rattle.bdb_base.specs.Clash.{key_of}
use Rattle.bdb_base.specs.Worlds.{IsConsistent}
use Rattle.bdb_base.specs.declared.kinds.Stmt.{Stmt}
use Rattle.bdb_base.specs.declared.tuple.Tuple.{Tuple}
use Rattle.bdb_base.proofs.OptionLemmas.{some_of}
use Rattle.bdb_keep.specs.Tables.{Tables}
use Rattle.bdb_tables.specs.InUse.{val_codec}
use Rattle.bdb_tables.specs.Names.{Names, path_of}
use Rattle.bdb_tables.specs.Rows.{Tuples, row_for}
use Rattle.bdb_tables.specs.Writes.{with_change, with_row_at}
use Rattle.bdb_val.specs.Groups.{IsUnsettled}
use Rattle.bdb_val.specs.Reads.{is_of_group}
use Rattle.bdb_val.specs.Settling.{HaveTupleNumbers}
use Rattle.bdb_update.proofs.KeyLemmas.{lengths_fit}
use Rattle.bdb_update.specs.Differing.{AreWithin, DifferAt, row_said_at}
use Rattle.bdb_tables.specs.Stored.{StoredOver}
use Rattle.bdb_update.specs.ChangeLaws.{SettledGroupStores}
use Rattle.bdb_update.proofs.ChangeLemmas.{changed_row_unsettles}
use Rattle.bdb_update.specs.Keys.{keys_of}
use Rattle.bdb_tables.proofs.SameLemmas.{outside_one, gives_still, tuples_still, states_still}

-- after the change of one row, only rows of its group are not settled
pub group_unsettled : (reached told next : List Stmt) (ns : Names) (ts : Tuples) (t : Tables) (b : Contents) (w : List ℕ) (u : Tuple) (wid tid : ℕ)
    → StoredOver reached told ns ts t b → AreWithin b.stmts reached told → AreWithin next reached told → IsConsistent (keys_of b) b.stmts → IsConsistent (keys_of b) next
    → DifferAt (keys_of b) b.stmts next w u → path_of ns wid ≡ Some w → ts.tuple tid ≡ Some u
    → IsUnsettled (keys_of b) next ns ts.tuple (with_row_at val_codec (row_for (keys_of b) b.stmts (path_of ns) ts.tuple) (row_said_at (keys_of b) next w wid tid u)) (with_change val_codec t (row_said_at (keys_of b) next w wid tid u)) wid
    (is_of_group (keys_of b) u.rel (key_of (keys_of b) u))
group_unsettled reached told next ns ts t b w u wid tid h old new c d differ path name =
    let numbered : HaveTupleNumbers ts.tuple next = λ p x s e. (
    let n = some_of (ts.number x) (h.tuples.stated x ∙ new.tuples x (explicit_tuple next p x s e)) in
    (n.0, h.tuples.numbered x n.0 n.1)) in
    changed_row_unsettles (keys_of b) b.stmts next told _ ns ts t w u wid tid (lengths_fit t b.catalog.rels h.rels) h.states h.tuples h.rows
    (λ p e. h.worlds p ∙ old.states p e) (λ p e. h.worlds p ∙ new.states p e) numbered c d differ path name

pub settled_group_stores : SettledGroupStores
settled_group_stores reached told next ns ts t v b w u wid tid h old new c d differ path name settles same =
    let unsettled = group_unsettled reached told next ns ts t b w u wid tid h old new c d differ path name in
    record {
      format = gives_still (λ n. nat_eq n 11) t v same meta_codec _ refl h.format;
      users = gives_still (λ n. nat_eq n 11) t v same user_codec _ refl h.users;
      rels = gives_still (λ n. nat_eq n 11) t v same rel_codec _ refl h.rels;
      tuples = tuples_still (λ n. nat_eq n 11) t v same told ts refl refl h.tuples;
      states = states_still (λ n. nat_eq n 11) t v same _ ns refl refl refl refl refl h.states;
      worlds = h.worlds;
      rows = settles (keys_of b) next ns ts.tuple _ unsettled;
      plain = gives_still (λ n. nat_eq n 11) t v same plain_codec _ refl h.plain;
      outside = λ n k out. same n k (outside_one 11 refl n out) ∙ h.outside n k out;
    }
