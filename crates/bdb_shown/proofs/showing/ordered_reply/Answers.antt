use Rattle.std.proofs.Common.{List, map, sym, subst}
use Rattle.bdb_shown.specs.Rows.{Spell, raw}
use Rattle.bdb_shown.specs.declared.row.WorldRow.{WorldRow}
use Rattle.bdb_shown.proofs.OrderLemmas.{shown_in_order}
use Rattle.bdb_shown.proofs.showing.ordered_reply.Goals as goal

pub returns : goal.returns
returns c held spelled =
    let o = shown_in_order c.args.span.now c.in_ok-rows.rows.items held spelled c.in_ok-rows.ensures in
    record {
      ordered = o.ordered;
      moved = o.moved;
      sorted = o.sorted;
      shows = c.in_ok-text.ensures o.ordered (subst (λ (rs : List WorldRow). Spell (map raw rs) o.ordered) (sym c.deref.ensures.value) o.spelled);
    }
