use Rattle.std.proofs.Common.{◌≡◌, ◌∙◌, ◌+◌, ◌*◌, ◌≤◌, ◌++◌, ℕ, true, false, List, ap, subst, length}
use Rattle.std.specs.List.{list_all}
use Rattle.bdb_base.specs.declared.kinds.Value.{Value}
use Rattle.bdb_keep.specs.Tables.{Tables}
use Rattle.bdb_key.specs.Bytes.{num_bytes, values_bytes}
use Rattle.bdb_key.specs.Grammar.{ArePlain}
use Rattle.bdb_plan.specs.Running.{plus_tuples}
use Rattle.bdb_exec.specs.Keys.{values_behind}
use Rattle.bdb_exec.specs.Rows.{relation_prefix}
use Rattle.bdb_base.specs.Bases.{is_written}
use Rattle.bdb_tables.specs.Prefixes.{HasPutValues, key_prefix}
use Rattle.bdb_exec.specs.Seen.{sight_of, signed_under}
use Rattle.bdb_exec.proofs.DenyLemmas.{key_tuples, key_rows, unwritten}
use Rattle.bdb_exec.proofs.PrefixLemmas.{few_asked}
use Rattle.bdb_exec.proofs.looking.plus_tuples_asked.Given.{Over}
use Rattle.bdb_exec.proofs.looking.plus_tuples_asked.Goals as goal
use Rattle.bdb_exec.proofs.looking.plus_tuples_asked.Goals.{In-Ok}

pub returns-in-Ok-false-clause-tuples : goal.returns-in-Ok-false-clause-tuples
returns-in-Ok-false-clause-tuples g c =
    let t = (g.K.Keeper.seen c.args.keeper.now).kept in
    let w = c.args.world in
    let rel = c.args.rel in
    let vs = values_behind c.args.slots.now c.args.item c.args.behind.now c.args.n 0 in
    let few : length vs ≤ (sight_of t).keys rel = subst (λ k. length vs ≤ k) c.requires.length (few_asked c.args.slots.now c.args.item c.args.behind.now c.args.n 0) in
    let none : list_all is_written vs ≡ false =
    subst (λ b. HasPutValues b (c.new-prefix.result.items ++ (relation_prefix w rel ++ num_bytes c.args.n)) c.put_key_prefix.new.prefix.items vs) c.in-Ok-false.field-0-test c.in-Ok-false.ensures in
    c.new.ensures ∙ unwritten t c.requires.run w rel c.ranges.world.fits c.ranges.rel.fits vs few none

-- bytes begin the keys that have these values, no more than a key has
record AreAsked (t : Tables) (w rel : ℕ) (vs : List Value) (prefix : List ℕ) : Type 0 where
  begins : prefix ≡ key_prefix ((sight_of t).keys rel) w rel vs
  few : length vs ≤ (sight_of t).keys rel
  plain : ArePlain vs

-- the bytes that were put are of the values that are asked for
asked : (g : Over) (c : In-Ok g)
    → AreAsked (g.K.Keeper.seen c.args.keeper.now).kept c.args.world c.args.rel
    (values_behind c.args.slots.now c.args.item c.args.behind.now c.args.n 0) c.put_key_prefix.new.prefix.items
asked g c =
    let w = c.args.world in
    let rel = c.args.rel in
    let vs = values_behind c.args.slots.now c.args.item c.args.behind.now c.args.n 0 in
    let put : HasPutValues true (c.new-prefix.result.items ++ (relation_prefix w rel ++ num_bytes c.args.n)) c.put_key_prefix.new.prefix.items vs =
    subst (λ b. HasPutValues b (c.new-prefix.result.items ++ (relation_prefix w rel ++ num_bytes c.args.n)) c.put_key_prefix.new.prefix.items vs)
    c.in-Ok-true.field-0-test c.in-Ok-true.ensures in
    record {
      begins = put.0 ∙ ap (λ (x : List ℕ). (x ++ (relation_prefix w rel ++ num_bytes c.args.n)) ++ values_bytes vs) c.new-prefix.ensures.items
          ∙ ap (λ (k : ℕ). key_prefix k w rel vs) c.requires.length;
      few = subst (λ k. length vs ≤ k) c.requires.length (few_asked c.args.slots.now c.args.item c.args.behind.now c.args.n 0);
      plain = put.1;
    }

pub returns-in-Ok-clause-tuples : goal.returns-in-Ok-clause-tuples
returns-in-Ok-clause-tuples g c =
    let t = (g.K.Keeper.seen c.args.keeper.now).kept in
    let vs = values_behind c.args.slots.now c.args.item c.args.behind.now c.args.n 0 in
    let a = asked g c in
    c.in-Ok.ensures.tuples ∙ ap (λ p. plus_tuples (signed_under t p)) a.begins
    ∙ key_tuples t c.requires.run c.args.world c.args.rel c.ranges.world.fits c.ranges.rel.fits vs a.few a.plain

pub returns-in-Ok-clause-reads : goal.returns-in-Ok-clause-reads
returns-in-Ok-clause-reads g c =
    let t = (g.K.Keeper.seen c.args.keeper.now).kept in
    let new = (g.K.Keeper.seen c.pool_under.new.keeper).reads in
    let old = (g.K.Keeper.seen c.args.keeper.now).reads in
    let vs = values_behind c.args.slots.now c.args.item c.args.behind.now c.args.n 0 in
    let a = asked g c in
    subst (λ r. new ≤ old + (2 * length r + 1))
    (ap (signed_under t) a.begins ∙ key_rows t c.requires.run c.args.world c.args.rel c.ranges.world.fits c.ranges.rel.fits vs a.few a.plain)
    c.in-Ok.ensures.reads
