use Rattle.std.proofs.Common.{◌∙◌, ◌<◌, ◌^◌, List, length, ap, subst, sym, ◌≡◌, ◌≤◌, ℕ}
use Rattle.bdb_base.specs.Order.{tuple_cmp}
use Rattle.bdb_base.specs.SortedSet.{ascending}
use Rattle.bdb_base.specs.WorldRows.{tuples_of}
use Rattle.bdb_base.specs.declared.tuple.Tuple.{Tuple}
use Rattle.bdb_tables.specs.Grammar.{InGrammar}
use Rattle.bdb_val.specs.Reads.{HaveTuples}
use Rattle.bdb_stored.specs.Structure.{worlds_with_links}
use Rattle.bdb_catalog.specs.Opening.{IsPartOf}
use Rattle.bdb_catalog.proofs.OpeningLemmas.{some_grammar}
use Rattle.bdb_stored.specs.Worlds.{TellsStates}
use Rattle.bdb_names.specs.declared.named.NamedWorld.{NamedWorld}
use Rattle.bdb_stored.proofs.CountingLemmas.{valid_has_tuples}
use Rattle.bdb_stored.proofs.StructureLemmas.{linked_as_many, read_in_all, states_few, tuples_in_set, users_at_most}
use Rattle.bdb_stored.proofs.structure.canon_of.Goals as goal

pub worlds_with_links-requires-clause-worlds : goal.worlds_with_links-requires-clause-worlds
worlds_with_links-requires-clause-worlds g c =
    let back = c.in-Ok-tuples_in_order.ensures.read.kept ∙ c.in-Ok-worlds_in_order.ensures.read.kept in
    subst (TellsStates (g.K.Keeper.seen c.tuples_in_order.new.keeper).kept) (sym c.deref-2.ensures.value) (subst (λ t. TellsStates t c.in-Ok-worlds_in_order.worlds.items) (sym back) c.in-Ok-worlds_in_order.ensures.worlds)

pub worlds_with_links-requires-clause-few : goal.worlds_with_links-requires-clause-few
worlds_with_links-requires-clause-few g c =
    subst (λ (xs : List NamedWorld). length xs < 2 ^ 32) (sym c.deref-2.ensures.value)
    (states_few (g.K.Keeper.seen c.args.keeper.now).kept c.in-Ok-worlds_in_order.worlds.items c.requires.base (subst (λ t. TellsStates t c.in-Ok-worlds_in_order.worlds.items) c.in-Ok.ensures.read.kept c.in-Ok-worlds_in_order.ensures.worlds))

pub edges_of-requires-clause-worlds : goal.edges_of-requires-clause-worlds
edges_of-requires-clause-worlds g c =
    let back = c.in-Ok-worlds_with_links.ensures.reading.kept ∙ c.in-Ok-tuples_in_order.ensures.read.kept ∙ c.in-Ok-worlds_in_order.ensures.read.kept in
    subst (TellsStates (g.K.Keeper.seen c.worlds_with_links.new.keeper).kept) (sym c.deref-3.ensures.value) (subst (λ t. TellsStates t c.in-Ok-worlds_in_order.worlds.items) (sym back) c.in-Ok-worlds_in_order.ensures.worlds)

pub edges_of-requires-clause-few : goal.edges_of-requires-clause-few
edges_of-requires-clause-few g c =
    subst (λ (xs : List NamedWorld). length xs < 2 ^ 32) (sym c.deref-3.ensures.value)
    (states_few (g.K.Keeper.seen c.args.keeper.now).kept c.in-Ok-worlds_in_order.worlds.items c.requires.base (subst (λ t. TellsStates t c.in-Ok-worlds_in_order.worlds.items) c.in-Ok.ensures.read.kept c.in-Ok-worlds_in_order.ensures.worlds))

pub rows_of-requires-clause-grammar : goal.rows_of-requires-clause-grammar
rows_of-requires-clause-grammar g c =
    let back = c.in-Ok-edges_of.ensures.reading.kept ∙ c.in-Ok-worlds_with_links.ensures.reading.kept ∙ c.in-Ok-tuples_in_order.ensures.read.kept ∙ c.in-Ok-worlds_in_order.ensures.read.kept ∙ c.in-Ok.ensures.read.kept in
    subst InGrammar (sym back) (some_grammar (g.K.Keeper.seen c.args.keeper.now).kept c.requires.base)

pub rows_of-requires-clause-stored : goal.rows_of-requires-clause-stored
rows_of-requires-clause-stored g c =
    let back = c.in-Ok-edges_of.ensures.reading.kept ∙ c.in-Ok-worlds_with_links.ensures.reading.kept ∙ c.in-Ok-tuples_in_order.ensures.read.kept ∙ c.in-Ok-worlds_in_order.ensures.read.kept ∙ c.in-Ok.ensures.read.kept in
    subst HaveTuples (sym back) (valid_has_tuples (g.K.Keeper.seen c.args.keeper.now).kept c.requires.base)

pub rows_of-requires-clause-worlds : goal.rows_of-requires-clause-worlds
rows_of-requires-clause-worlds g c =
    let back = c.in-Ok-edges_of.ensures.reading.kept ∙ c.in-Ok-worlds_with_links.ensures.reading.kept ∙ c.in-Ok-tuples_in_order.ensures.read.kept ∙ c.in-Ok-worlds_in_order.ensures.read.kept in
    subst (TellsStates (g.K.Keeper.seen c.edges_of.new.keeper).kept) (sym c.deref-5.ensures.value) (subst (λ t. TellsStates t c.in-Ok-worlds_in_order.worlds.items) (sym back) c.in-Ok-worlds_in_order.ensures.worlds)

pub rows_of-requires-clause-sorted : goal.rows_of-requires-clause-sorted
rows_of-requires-clause-sorted g c =
    let back = c.in-Ok-worlds_in_order.ensures.read.kept ∙ c.in-Ok.ensures.read.kept in
    ap (ascending tuple_cmp) c.as_slice.ensures
    ∙ (tuples_in_set (g.K.Keeper.seen c.args.keeper.now).kept c.in-Ok-tuples_in_order.tuples c.requires.base
    (subst (λ t. IsPartOf (λ b. tuples_of b.stmts) t c.in-Ok-tuples_in_order.tuples) back c.in-Ok-tuples_in_order.ensures.tuples)).sorted

pub rows_of-requires-clause-few_worlds : goal.rows_of-requires-clause-few_worlds
rows_of-requires-clause-few_worlds g c =
    subst (λ (xs : List NamedWorld). length xs < 2 ^ 32) (sym c.deref-5.ensures.value)
    (states_few (g.K.Keeper.seen c.args.keeper.now).kept c.in-Ok-worlds_in_order.worlds.items c.requires.base (subst (λ t. TellsStates t c.in-Ok-worlds_in_order.worlds.items) c.in-Ok.ensures.read.kept c.in-Ok-worlds_in_order.ensures.worlds))

pub rows_of-requires-clause-few_tuples : goal.rows_of-requires-clause-few_tuples
rows_of-requires-clause-few_tuples g c =
    let back = c.in-Ok-worlds_in_order.ensures.read.kept ∙ c.in-Ok.ensures.read.kept in
    subst (λ (xs : List Tuple). length xs < 2 ^ 32) (sym c.as_slice.ensures)
    (tuples_in_set (g.K.Keeper.seen c.args.keeper.now).kept c.in-Ok-tuples_in_order.tuples c.requires.base
    (subst (λ t. IsPartOf (λ b. tuples_of b.stmts) t c.in-Ok-tuples_in_order.tuples) back c.in-Ok-tuples_in_order.ensures.tuples)).few

pub returns-in-Ok-rows_of-clause-reads : goal.returns-in-Ok-rows_of-clause-reads
returns-in-Ok-rows_of-clause-reads g c b v =
    let t = (g.K.Keeper.seen c.args.keeper.now).kept in
    let u = c.in-Ok.users.items in
    let w = c.in-Ok-worlds_in_order.worlds.items in
    let k = c.in-Ok-worlds_with_links.linked in
    let users : length u ≤ length b.catalog.users = users_at_most t u b v c.in-Ok.ensures.numbers in
    let back = c.in-Ok-tuples_in_order.ensures.read.kept ∙ c.in-Ok-worlds_in_order.ensures.read.kept ∙ c.in-Ok.ensures.read.kept in
    let many : length k ≡ length w =
    linked_as_many t w k b v (subst (λ x. TellsStates x w) c.in-Ok.ensures.read.kept c.in-Ok-worlds_in_order.ensures.worlds) (subst (λ x. IsPartOf worlds_with_links x k) back c.in-Ok-worlds_with_links.ensures.linked) in
    let d : length c.deref.result.now ≡ length u = ap (λ (xs : List ℕ). length xs) c.deref.ensures.value in
    let d2 : length c.deref-2.result.now ≡ length w = ap (λ (xs : List NamedWorld). length xs) c.deref-2.ensures.value in
    let d3 : length c.deref-3.result.now ≡ length w = ap (λ (xs : List NamedWorld). length xs) c.deref-3.ensures.value in
    let d4 : length c.deref-4.result.now ≡ length u = ap (λ (xs : List ℕ). length xs) c.deref-4.ensures.value in
    let d5 : length c.deref-5.result.now ≡ length w = ap (λ (xs : List NamedWorld). length xs) c.deref-5.ensures.value in
    read_in_all _ _ _ _ _ _ _ (length b.catalog.users) (length k) (length c.in-Ok-tuples_in_order.tuples) (length c.in-Ok-rows_of.rows)
    (length u) (length c.deref.result.now) (length w) (length c.deref-2.result.now) (length c.deref-3.result.now) (length c.deref-4.result.now) (length c.deref-5.result.now)
    users many d d2 d3 d4 d5 (c.in-Ok.ensures.reads b v) c.in-Ok-worlds_in_order.ensures.reads c.in-Ok-tuples_in_order.ensures.reads
    c.in-Ok-worlds_with_links.ensures.reads c.in-Ok-edges_of.ensures.reads c.in-Ok-rows_of.ensures.reads
