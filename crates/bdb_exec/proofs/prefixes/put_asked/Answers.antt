use Rattle.std.proofs.Common.{◌∙◌, ◌+◌, ◌-◌, true, false, List, None, ap, sym, subst}
use Rattle.std.specs.Option.{option_copied}
use Rattle.bdb_base.specs.declared.kinds.Value.{Value}
use Rattle.bdb_exec.specs.Keys.{values_behind}
use Rattle.bdb_tables.specs.Prefixes.{HasPutValues}
use Rattle.bdb_tables.proofs.PrefixLemmas.{put_more, put_none, put_unwritten}
use Rattle.bdb_exec.proofs.PrefixLemmas.{all_columns, none_left, from_column, put_from}
use Rattle.bdb_exec.proofs.prefixes.put_asked.Goals as goal

pub loop-col-init : goal.loop-col-init
loop-col-init c = λ all new h. subst (λ (vs : List Value). HasPutValues all c.args.prefix.now.items new vs) (all_columns c.args.slots.now c.args.item c.args.behind.now c.args.n) h

pub returns-in-None : goal.returns-in-None
returns-in-None c =
    let now = c.loop-col.prefix.items in
    c.loop-col.invariant true now
    (put_none now _
    (from_column c.args.slots.now c.args.item c.args.behind.now c.args.n c.loop-col.col None c.loop-col-test.true (sym (ap option_copied c.in-None.is) ∙ c.value_behind.ensures)))

pub returns-then-not-is_written : goal.returns-then-not-is_written
returns-then-not-is_written c =
    let now = c.loop-col.prefix.items in
    let v = c.in-Some.value.now in
    let col = c.loop-col.col in
    c.loop-col.invariant false now
    (put_from c.args.slots.now c.args.item c.args.behind.now false now now c.args.n col v c.loop-col-test.true
    (sym (ap option_copied c.in-Some.is) ∙ c.value_behind.ensures)
    (put_unwritten now now v (values_behind c.args.slots.now c.args.item c.args.behind.now (c.args.n - (col + 1)) (col + 1))
    (sym c.is_written.ensures ∙ c.if-not-is_written.true)))

pub loop-col-preserved : goal.loop-col-preserved
loop-col-preserved c = λ all new h.
    let now = c.loop-col.prefix.items in
    let v = c.in-Some.value.now in
    let col = c.loop-col.col in
    c.loop-col.invariant all new
    (put_from c.args.slots.now c.args.item c.args.behind.now all now new c.args.n col v c.loop-col-test.true
    (sym (ap option_copied c.in-Some.is) ∙ c.value_behind.ensures)
    (put_more all now c.put_value.new.out.items new v (values_behind c.args.slots.now c.args.item c.args.behind.now (c.args.n - (col + 1)) (col + 1))
    (sym c.is_written.ensures ∙ c.if-not-is_written.false) c.in_ok-put_value.ensures.whole c.in_ok-put_value.ensures.ok h))

pub returns : goal.returns
returns c =
    let now = c.loop-col.prefix.items in
    c.loop-col.invariant true now (put_none now _ (none_left c.args.slots.now c.args.item c.args.behind.now c.args.n c.loop-col.col c.loop-col-test.false))
