use Rattle.std.proofs.Common.{◌+◌, length, sym, subst, rules}
use Rattle.bdb_catalog.specs.Showing.{FindsState}
use Rattle.bdb_catalog.proofs.StoredFacts.{path_grammar, path_states, path_tuples}
use Rattle.bdb_key.specs.Grammar.{IsNum}
use Rattle.bdb_shown.specs.Rows.{AreRawRows}
use Rattle.bdb_shown.proofs.WorldLemmas.{reads_world, shows_world}
use Rattle.bdb_val.specs.Reads.{HaveTuples, world_prefix}
use Rattle.bdb_worlds.specs.Bounds.{EndsWithin}
use Rattle.bdb_worlds.specs.Holding.{HoldSome}
use Rattle.bdb_shown.proofs.showing.shown_world.Goals as goal

pub state_of-requires-clause-states : goal.state_of-requires-clause-states
state_of-requires-clause-states g c =
    let kept = (g.K.Keeper.seen c.args.keeper.now).kept in
    subst (HoldSome kept) (sym c.as_slice.ensures.users) (path_states kept c.args.path.now c.requires.base)

pub read_rows-requires-clause-tuples : goal.read_rows-requires-clause-tuples
read_rows-requires-clause-tuples g c =
    subst HaveTuples (sym c.in-Ok.ensures.kept) (path_tuples (g.K.Keeper.seen c.args.keeper.now).kept c.args.path.now c.requires.base)

pub returns-in-Ok-ordered_reply-clause-text : goal.returns-in-Ok-ordered_reply-clause-text
returns-in-Ok-ordered_reply-clause-text g c =
    let kept = (g.K.Keeper.seen c.args.keeper.now).kept in
    let path = c.args.path.now in
    let found : FindsState kept path c.in-Ok.found = subst (λ p. FindsState kept p c.in-Ok.found) c.as_slice.ensures.users c.in-Ok.ensures.found in
    let raw : AreRawRows kept (world_prefix c.in-Ok.found.0) c.read_rows.new.rows = subst (λ t. AreRawRows t (world_prefix c.in-Ok.found.0) c.read_rows.new.rows) c.in-Ok.ensures.kept c.in-Ok-read_rows.ensures.rows in
    let sized : IsNum c.in-Ok.found.0 = search rules in
    shows_world kept path c.in-Ok.found.0 c.in-Ok.found.1 c.args.catalog.now c.read_rows.new.rows c.in-Ok-ordered_reply.text (path_grammar kept path c.requires.base) sized found raw c.in-Ok-ordered_reply.ensures

pub returns-in-Ok-ordered_reply-clause-reads : goal.returns-in-Ok-ordered_reply-clause-reads
returns-in-Ok-ordered_reply-clause-reads g c =
    let old = g.K.Keeper.seen c.args.keeper.now in
    let mid = g.K.Keeper.seen c.state_of.new.keeper in
    let new = g.K.Keeper.seen c.read_rows.new.keeper in
    let path = c.args.path.now in
    let found : FindsState old.kept path c.in-Ok.found = subst (λ p. FindsState old.kept p c.in-Ok.found) c.as_slice.ensures.users c.in-Ok.ensures.found in
    let raw : AreRawRows old.kept (world_prefix c.in-Ok.found.0) c.read_rows.new.rows = subst (λ t. AreRawRows t (world_prefix c.in-Ok.found.0) c.read_rows.new.rows) c.in-Ok.ensures.kept c.in-Ok-read_rows.ensures.rows in
    let sized : IsNum c.in-Ok.found.0 = search rules in
    let state : EndsWithin (length path + 1) old.reads mid.reads = subst (λ p. EndsWithin (length p + 1) old.reads mid.reads) c.as_slice.ensures.users c.in-Ok.ensures.reads in
    reads_world old.kept path c.in-Ok.found.0 c.in-Ok.found.1 c.args.catalog.now c.read_rows.new.rows c.in-Ok-ordered_reply.text (path_grammar old.kept path c.requires.base) sized found raw c.in-Ok-ordered_reply.ensures
    old.reads mid.reads new.reads c.in-Ok-read_rows.ensures.read.counts.reads state c.in-Ok-read_rows.ensures.reads
