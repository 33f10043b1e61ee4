use Rattle.std.proofs.Common.{◌≡◌, ◌∙◌, ◌-◌, ap, filter, sym, subst}
use Rattle.bdb_base.specs.declared.tuple.Tuple.{Tuple}
use Rattle.bdb_keep.specs.Tables.{Tables}
use Rattle.bdb_tables.specs.Lengths.{IsKeyLength}
use Rattle.bdb_tables.specs.declared.tab.TabError.TheVariants.{Fault, Memory}
use Rattle.bdb_tables.proofs.Loops.{counts_then, goes_then, steps_err, steps_ok, err_steps}
use Rattle.bdb_update.specs.Keys.{keys_of}
use Rattle.bdb_worlds.proofs.StepsLemmas.{steps_undone}
use Rattle.bdb_why.specs.Certificates.{why_of}
use Rattle.bdb_why.specs.Ends.{is_at_an_end}
use Rattle.bdb_why.specs.Stored.{MayAsk, SomeMayAsk}
use Rattle.bdb_why.proofs.CallLemmas.{rose_one}
use Rattle.bdb_why.proofs.LengthLemmas.{why_of_length}
use Rattle.bdb_why.proofs.NearLemmas.{why_depends_on_near}
use Rattle.bdb_why.proofs.NearbyLemmas.{ask_grammar}
use Rattle.bdb_why.proofs.asking.why.Goals as goal

pub stored_key_length-requires : goal.stored_key_length-requires
stored_key_length-requires g c = record { grammar = ask_grammar (g.K.Keeper.seen c.args.keeper.now).kept c.args.path.now c.args.t.now c.requires.base }

pub returns-in-Err-clause-steps : goal.returns-in-Err-clause-steps
returns-in-Err-clause-steps g c = err_steps _ _ _ _ c.in-Err.ensures.read.steps

pub near_statements-requires-clause-base : goal.near_statements-requires-clause-base
near_statements-requires-clause-base g c =
    subst (λ (t : Tables). SomeMayAsk t c.args.path.now c.args.t.now) (sym c.in-Ok.ensures.read.kept) c.requires.base

pub near_statements-requires-clause-length : goal.near_statements-requires-clause-length
near_statements-requires-clause-length g c =
    let kept = (g.K.Keeper.seen c.args.keeper.now).kept in
    let n = c.in-Ok.n in
    let u = c.args.t.now in
    let long : IsKeyLength kept u.rel n = subst (λ r. IsKeyLength kept r n) (ap (λ (x : Tuple). x.rel) c.t.view_is) c.in-Ok.ensures.length in
    subst (λ (t : Tables). IsKeyLength t u.rel n) (sym c.in-Ok.ensures.read.kept) long

pub returns-in-Err-near_statements-clause-writes : goal.returns-in-Err-near_statements-clause-writes
returns-in-Err-near_statements-clause-writes g c = c.near_statements.ensures.writes ∙ c.stored_key_length.ensures.read.writes

pub returns-in-Err-near_statements-clause-counts : goal.returns-in-Err-near_statements-clause-counts
returns-in-Err-near_statements-clause-counts g c = counts_then _ _ _ c.stored_key_length.ensures.read.counts c.near_statements.ensures.counts

pub returns-in-Err-near_statements-clause-steps : goal.returns-in-Err-near_statements-clause-steps
returns-in-Err-near_statements-clause-steps g c = steps_err _ _ _ _ _ c.in-Ok.ensures.read.steps.ok c.in-Err-near_statements.ensures.steps

pub returns-in-Ok-why_among-clause-why : goal.returns-in-Ok-why_among-clause-why
returns-in-Ok-why_among-clause-why g c =
    let kept = (g.K.Keeper.seen c.args.keeper.now).kept in
    let mid = (g.K.Keeper.seen c.stored_key_length.new.keeper).kept in
    let path = c.args.path.now in
    let u = c.args.t.now in
    let s = c.args.s in
    let n = c.in-Ok.n in
    let same : mid ≡ kept = c.in-Ok.ensures.read.kept in
    let long : IsKeyLength kept u.rel n = subst (λ r. IsKeyLength kept r n) (ap (λ (x : Tuple). x.rel) c.t.view_is) c.in-Ok.ensures.length in
    λ b m. c.in-Ok-why_among.ensures
    ∙ ap (λ xs. why_of (λ _. n) xs path u s) (c.as_slice.ensures ∙ c.in-Ok-near_statements.ensures.near b (subst (λ (t : Tables). MayAsk t path u b) (sym same) m))
    ∙ why_of_length (keys_of b) n (filter (is_at_an_end (keys_of b) path u) b.stmts) path u s (long b.catalog.rels m.has.base.stored.stored.rels)
    ∙ why_depends_on_near (keys_of b) b.stmts path u s

pub returns-in-Ok-why_among-clause-reads : goal.returns-in-Ok-why_among-clause-reads
returns-in-Ok-why_among-clause-reads g c =
    let old = g.K.Keeper.seen c.args.keeper.now in
    let mid = g.K.Keeper.seen c.stored_key_length.new.keeper in
    let path = c.args.path.now in
    let u = c.args.t.now in
    let same : mid.kept ≡ old.kept = c.in-Ok.ensures.read.kept in
    λ b m. c.in-Ok-near_statements.ensures.reads b (subst (λ (t : Tables). MayAsk t path u b) (sym same) m) old.reads (rose_one old.reads mid.reads c.in-Ok.ensures.reads)

pub returns-in-Ok-why_among-clause-kept : goal.returns-in-Ok-why_among-clause-kept
returns-in-Ok-why_among-clause-kept g c = c.in-Ok-near_statements.ensures.kept ∙ c.in-Ok.ensures.read.kept

pub returns-in-Ok-why_among-clause-writes : goal.returns-in-Ok-why_among-clause-writes
returns-in-Ok-why_among-clause-writes g c = c.near_statements.ensures.writes ∙ c.stored_key_length.ensures.read.writes

pub returns-in-Ok-why_among-clause-counts : goal.returns-in-Ok-why_among-clause-counts
returns-in-Ok-why_among-clause-counts g c = counts_then _ _ _ c.stored_key_length.ensures.read.counts c.near_statements.ensures.counts

pub returns-in-Ok-why_among-clause-steps : goal.returns-in-Ok-why_among-clause-steps
returns-in-Ok-why_among-clause-steps g c = steps_ok _ _ _ _ (goes_then _ _ _ c.in-Ok.ensures.read.steps.ok c.in-Ok-near_statements.ensures.steps.ok)

pub returns-clause-writes : goal.returns-clause-writes
returns-clause-writes g c = c.undo.ensures.undone.writes ∙ c.near_statements.ensures.writes ∙ c.stored_key_length.ensures.read.writes

pub returns-clause-counts : goal.returns-clause-counts
returns-clause-counts g c =
    counts_then _ _ _ (counts_then _ _ _ c.stored_key_length.ensures.read.counts c.near_statements.ensures.counts) c.undo.ensures.undone.counts

pub returns-clause-steps : goal.returns-clause-steps
returns-clause-steps g c =
    steps_undone (g.K.Keeper.seen c.args.keeper.now) (g.K.Keeper.seen c.near_statements.new.keeper) (g.K.Keeper.seen c.undo.new.self) Memory Fault (λ e. cc)
    (goes_then _ _ _ c.in-Ok.ensures.read.steps.ok c.in-Ok-near_statements.ensures.steps.ok) c.undo.ensures.undone
