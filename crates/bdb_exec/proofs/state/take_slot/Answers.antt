use Rattle.std.proofs.Common.{◌≤◌, length, rules}
use Rattle.bdb_exec.proofs.SlotLemmas.{set_again, none_beyond}
use Rattle.bdb_exec.proofs.state.take_slot.Goals as goal

pub returns-then-at-len-clause-again : goal.returns-then-at-len-clause-again
returns-then-at-len-clause-again c = λ x. set_again c.args.slots.now.items c.args.at c.replace.new.dest x

pub returns-clause-found : goal.returns-clause-found
returns-clause-found c =
    let past : length c.args.slots.now.items ≤ c.args.at = search rules in
    none_beyond c.args.slots.now.items c.args.at past
