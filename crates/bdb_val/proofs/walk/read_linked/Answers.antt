use Rattle.std.proofs.Common.{◌≡◌, ◌∙◌, refl}
use Rattle.bdb_key.specs.Bytes.{num_bytes}
use Rattle.bdb_tables.specs.InUse.{linked_codec}
use Rattle.bdb_tables.proofs.RangeLemmas.{read_fits}
use Rattle.bdb_val.proofs.LinkLemmas.{pushed_read}
use Rattle.bdb_val.proofs.walk.read_linked.Goals as goal

pub push_read-requires : goal.push_read-requires
push_read-requires g c =
    read_fits linked_codec (g.K.Keeper.seen c.args.keeper.now).kept 8 c.deref.result.now c.under.new.span refl (λ k r found. c.requires.grammar 8 k r found) c.in-Ok-under.ensures.rows

pub returns-in-Ok-push_read-clause-pushed : goal.returns-in-Ok-push_read-clause-pushed
returns-in-Ok-push_read-clause-pushed g c =
    let begins : c.deref.result.now ≡ num_bytes c.args.wid = c.deref.ensures.value ∙ c.in-Ok.ensures in
    pushed_read (g.K.Keeper.seen c.args.keeper.now).kept c.args.wid c.deref.result.now c.under.new.span c.args.list.now.items c.push_read.new.list.items begins c.in-Ok-under.ensures.rows c.in-Ok-push_read.ensures
