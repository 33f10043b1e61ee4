use Rattle.std.proofs.Common.{◌∙◌, sym, subst}
use Rattle.bdb_catalog.specs.Bases.{StoresSome}
use Rattle.bdb_catalog.specs.Opening.{IsPartOf}
use Rattle.bdb_keep.specs.Tables.{Tables}
use Rattle.bdb_stored.specs.Counting.{TellsCounts}
use Rattle.bdb_tables.specs.declared.tab.TabError.TheVariants.{Fault, Memory}
use Rattle.bdb_tables.proofs.Loops.{counts_then, goes_then, steps_err, steps_ok, err_steps}
use Rattle.bdb_worlds.proofs.StepsLemmas.{steps_undone}
use Rattle.bdb_session.specs.Known.{Known}
use Rattle.bdb_session.specs.Opening.{KnowsStored}
use Rattle.bdb_session.proofs.OpenLemmas.{knows_parts}
use Rattle.bdb_session.proofs.open.session_of.Goals as goal

pub read_relations-requires : goal.read_relations-requires
read_relations-requires g c = record { base = subst StoresSome (sym c.in-Ok.ensures.kept) c.requires.base }

pub counts_of-requires : goal.counts_of-requires
counts_of-requires g c =
    record { base = subst StoresSome (sym (c.in-Ok-read_relations.ensures.kept ∙ c.in-Ok.ensures.kept)) c.requires.base }

pub returns-in-Ok-session_over-clause-knows : goal.returns-in-Ok-session_over-clause-knows
returns-in-Ok-session_over-clause-knows g c =
    let t = (g.K.Keeper.seen c.args.keeper.now).kept in
    let rels = subst (λ (u : Tables). IsPartOf (λ b. b.catalog.rels) u c.in-Ok-read_relations.rels) c.in-Ok.ensures.kept c.in-Ok-read_relations.ensures.relations in
    let counts = subst (λ (u : Tables). TellsCounts u c.in-Ok-counts_of.counts) (c.in-Ok-read_relations.ensures.kept ∙ c.in-Ok.ensures.kept) c.in-Ok-counts_of.ensures.counts in
    subst (λ (k : Known). KnowsStored t k) (sym c.in-Ok-session_over.ensures)
    (knows_parts t c.in-Ok.users c.in-Ok-read_relations.rels c.in-Ok-counts_of.counts c.in-Ok.ensures.users rels counts)

pub returns-in-Err-clause-steps : goal.returns-in-Err-clause-steps
returns-in-Err-clause-steps g c = err_steps _ _ _ _ c.in-Err.ensures.steps

pub returns-in-Err-read_relations-clause-writes : goal.returns-in-Err-read_relations-clause-writes
returns-in-Err-read_relations-clause-writes g c = c.in-Err-read_relations.ensures.writes ∙ c.in-Ok.ensures.writes

pub returns-in-Err-read_relations-clause-counts : goal.returns-in-Err-read_relations-clause-counts
returns-in-Err-read_relations-clause-counts g c = counts_then _ _ _ c.in-Ok.ensures.counts c.in-Err-read_relations.ensures.counts

pub returns-in-Err-read_relations-clause-steps : goal.returns-in-Err-read_relations-clause-steps
returns-in-Err-read_relations-clause-steps g c = steps_err _ _ _ _ _ c.in-Ok.ensures.steps.ok c.in-Err-read_relations.ensures.steps

pub returns-in-Err-counts_of-clause-writes : goal.returns-in-Err-counts_of-clause-writes
returns-in-Err-counts_of-clause-writes g c = c.in-Err-counts_of.ensures.read.writes ∙ c.in-Ok-read_relations.ensures.writes ∙ c.in-Ok.ensures.writes

pub returns-in-Err-counts_of-clause-counts : goal.returns-in-Err-counts_of-clause-counts
returns-in-Err-counts_of-clause-counts g c =
    counts_then _ _ _ (counts_then _ _ _ c.in-Ok.ensures.counts c.in-Ok-read_relations.ensures.counts) c.in-Err-counts_of.ensures.read.counts

pub returns-in-Err-counts_of-clause-steps : goal.returns-in-Err-counts_of-clause-steps
returns-in-Err-counts_of-clause-steps g c =
    steps_err _ _ _ _ _ (goes_then _ _ _ c.in-Ok.ensures.steps.ok c.in-Ok-read_relations.ensures.steps.ok) c.in-Err-counts_of.ensures.read.steps

pub returns-in-Ok-session_over-clause-kept : goal.returns-in-Ok-session_over-clause-kept
returns-in-Ok-session_over-clause-kept g c = c.in-Ok-counts_of.ensures.read.kept ∙ c.in-Ok-read_relations.ensures.kept ∙ c.in-Ok.ensures.kept

pub returns-in-Ok-session_over-clause-writes : goal.returns-in-Ok-session_over-clause-writes
returns-in-Ok-session_over-clause-writes g c = c.in-Ok-counts_of.ensures.read.writes ∙ c.in-Ok-read_relations.ensures.writes ∙ c.in-Ok.ensures.writes

pub returns-in-Ok-session_over-clause-counts : goal.returns-in-Ok-session_over-clause-counts
returns-in-Ok-session_over-clause-counts g c =
    counts_then _ _ _ (counts_then _ _ _ c.in-Ok.ensures.counts c.in-Ok-read_relations.ensures.counts) c.in-Ok-counts_of.ensures.read.counts

pub returns-in-Ok-session_over-clause-steps : goal.returns-in-Ok-session_over-clause-steps
returns-in-Ok-session_over-clause-steps g c =
    steps_ok _ _ _ _ (goes_then _ _ _ (goes_then _ _ _ c.in-Ok.ensures.steps.ok c.in-Ok-read_relations.ensures.steps.ok) c.in-Ok-counts_of.ensures.read.steps.ok)

pub returns-in-Err-session_over-clause-writes : goal.returns-in-Err-session_over-clause-writes
returns-in-Err-session_over-clause-writes g c =
    c.undo.ensures.undone.writes ∙ c.in-Ok-counts_of.ensures.read.writes ∙ c.in-Ok-read_relations.ensures.writes ∙ c.in-Ok.ensures.writes

pub returns-in-Err-session_over-clause-counts : goal.returns-in-Err-session_over-clause-counts
returns-in-Err-session_over-clause-counts g c =
    counts_then _ _ _ (counts_then _ _ _ (counts_then _ _ _ c.in-Ok.ensures.counts c.in-Ok-read_relations.ensures.counts) c.in-Ok-counts_of.ensures.read.counts)
    c.undo.ensures.undone.counts

pub returns-in-Err-session_over-clause-steps : goal.returns-in-Err-session_over-clause-steps
returns-in-Err-session_over-clause-steps g c =
    steps_undone (g.K.Keeper.seen c.args.keeper.now) (g.K.Keeper.seen c.counts_of.new.keeper) (g.K.Keeper.seen c.undo.new.self) Memory Fault (λ e. cc)
    (goes_then _ _ _ (goes_then _ _ _ c.in-Ok.ensures.steps.ok c.in-Ok-read_relations.ensures.steps.ok) c.in-Ok-counts_of.ensures.read.steps.ok)
    c.undo.ensures.undone
