use Rattle.std.proofs.Common.{◌≡◌, ◌∙◌, ◌++◌, codes, rules}
use Rattle.bdb_shown.proofs.LineLemmas.{no_tuple, tuple_written}
use Rattle.bdb_shown.proofs.lines.append_tuple.Goals as goal

pub returns-in_ok-push-in-Some : goal.returns-in_ok-push-in-Some
returns-in_ok-push-in-Some c t h =
    let closed : c.push.new.self.items ≡ c.append_values.new.out.items ++ codes ")" = search rules in
    closed ∙ tuple_written c.args.catalog.now c.args.bytes.now c.in-Some.values.now c.args.out.now.items c.append_name.new.out.items c.append_values.new.out.items c.in-Some.rel c.in-Some.ensures
    c.in_ok-append_name-in-Some.ensures c.in_ok-append_values-in-Some.ensures t h

pub returns-in-None : goal.returns-in-None
returns-in-None c t h = absurd (no_tuple c.args.bytes.now c.in-None.ensures t h)
