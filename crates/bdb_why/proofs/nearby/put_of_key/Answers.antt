use Rattle.std.proofs.Common.{◌≡◌, ◌∙◌, ap, sym, subst, rules}
use Rattle.std.specs.List.{AllByRecursion}
use Rattle.bdb_base.specs.Clash.{key_of}
use Rattle.bdb_base.specs.Order.{statement_cmp}
use Rattle.bdb_base.specs.SortedSet.{ascending}
use Rattle.bdb_base.specs.declared.kinds.Sign.TheVariants.{Plus, Minus}
use Rattle.bdb_key.specs.Grammar.{HasEightBytes}
use Rattle.bdb_tables.specs.GroupMarks.{group_bytes}
use Rattle.bdb_update.proofs.KeyLemmas.{key_short}
use Rattle.bdb_catalog.specs.Taking.{AreTuplesRead}
use Rattle.bdb_why.proofs.HereLemmas.{both_ascend, puts_near, reads_here}
use Rattle.bdb_why.proofs.nearby.put_of_key.Given.{Over}
use Rattle.bdb_why.proofs.nearby.put_of_key.Goals as goal
use Rattle.bdb_why.proofs.nearby.put_of_key.Goals.{After-drop-prefix-in-Ok-put_both}

pub put_group-requires : goal.put_group-requires
put_group-requires g c =
    key_short c.args.n c.args.t.now c.key_of-key.result.now c.ranges.n.fits c.key_of-key.ensures

-- where the rows of the tuple's key begin
begin : (g : Over) (c : After-drop-prefix-in-Ok-put_both g)
    → c.as_slice-prefix.result.now ≡ group_bytes c.args.wid c.args.t.now.rel (key_of (λ _. c.args.n) c.args.t.now)
begin g c =
    let u = c.args.t.now in
    let put : c.as_slice-prefix.result.now ≡ group_bytes c.args.wid c.args.rel c.key_of-key.result.now = search rules in
    put ∙ ap (λ r. group_bytes c.args.wid r c.key_of-key.result.now) (sym c.requires.relation)
    ∙ ap (group_bytes c.args.wid u.rel) c.key_of-key.ensures

-- the tuples that were read with plus, those that were read with minus, and that the key is written
read : (g : Over) (c : After-drop-prefix-in-Ok-put_both g)
    → AreTuplesRead (g.K.Keeper.seen c.args.keeper.now) (g.K.Keeper.seen c.tuples_under.new.keeper)
    (group_bytes c.args.wid c.args.t.now.rel (key_of (λ _. c.args.n) c.args.t.now)) Plus c.in-Ok.said.items
    × AreTuplesRead (g.K.Keeper.seen c.tuples_under.new.keeper) (g.K.Keeper.seen c.tuples_under-2.new.keeper)
    (group_bytes c.args.wid c.args.t.now.rel (key_of (λ _. c.args.n) c.args.t.now)) Minus c.in-Ok-tuples_under.denied.items
    × AllByRecursion HasEightBytes (key_of (λ _. c.args.n) c.args.t.now)
read g c =
    let old = g.K.Keeper.seen c.args.keeper.now in
    let mid = g.K.Keeper.seen c.tuples_under.new.keeper in
    let new = g.K.Keeper.seen c.tuples_under-2.new.keeper in
    let written : AllByRecursion HasEightBytes c.key_of-key.result.now = search rules in (
      subst (λ p. AreTuplesRead old mid p Plus c.in-Ok.said.items) (begin g c) c.in-Ok.ensures.tuples,
      subst (λ p. AreTuplesRead mid new p Minus c.in-Ok-tuples_under.denied.items) (begin g c) c.in-Ok-tuples_under.ensures.tuples,
      subst (AllByRecursion HasEightBytes) c.key_of-key.ensures written,
    )

pub returns-in-Ok-put_both-clause-put : goal.returns-in-Ok-put_both-clause-put
returns-in-Ok-put_both-clause-put g c =
    let r = read g c in
    puts_near (g.K.Keeper.seen c.args.keeper.now) (g.K.Keeper.seen c.tuples_under.new.keeper) (g.K.Keeper.seen c.tuples_under-2.new.keeper)
    c.in-Ok.ensures.read.kept c.args.wid c.args.path.now c.args.t.now c.args.n c.requires.length r.2 c.in-Ok.said.items
    c.in-Ok-tuples_under.denied.items r.0 r.1 c.args.stmts.now c.put_both.new.stmts c.requires.sorted c.in-Ok-put_both.ensures

pub returns-in-Ok-put_both-clause-sorted : goal.returns-in-Ok-put_both-clause-sorted
returns-in-Ok-put_both-clause-sorted g c = ap (ascending statement_cmp) c.in-Ok-put_both.ensures
    ∙ both_ascend c.args.path.now c.args.stmts.now c.in-Ok.said.items c.in-Ok-tuples_under.denied.items c.requires.sorted

pub returns-in-Ok-put_both-clause-reads : goal.returns-in-Ok-put_both-clause-reads
returns-in-Ok-put_both-clause-reads g c =
    let r = read g c in
    reads_here (g.K.Keeper.seen c.args.keeper.now) (g.K.Keeper.seen c.tuples_under.new.keeper) (g.K.Keeper.seen c.tuples_under-2.new.keeper)
    c.in-Ok.ensures.read.kept c.args.wid c.args.path.now c.args.t.now c.args.n c.requires.length r.2 c.in-Ok.said.items
    c.in-Ok-tuples_under.denied.items r.0 r.1
