use Rattle.std.proofs.Common.{◌∙◌, Some, ap, sym, rules, arith, drop, length}
use Rattle.std.specs.Option.{option_map}
use Rattle.std.proofs.lemmas.List.{take_rest}
use Rattle.bdb_parse.specs.Reading.{whos_at}
use Rattle.bdb_parse.proofs.WhoLemmas.{whos_kept, whos_shorter, whos_done}
use Rattle.bdb_parse.proofs.item.whos.Goals as goal

pub loop-path-smaller : goal.loop-path-smaller
loop-path-smaller c =
    let ts = c.loop-path.rest.now in
    let shorter = whos_shorter ts _ c.in-Some.who (drop c.in-Some.count ts) c.in_ok-who.ensures.who (ap (option_map (λ x. (x.0, drop x.1 ts))) c.in-Some.is) in
    omega (arith, shorter, ap length (take_rest ts c.in-Some.count))

pub loop-path-preserved : goal.loop-path-preserved
loop-path-preserved c =
    let ts = c.loop-path.rest.now in
    whos_kept (whos_at c.args.tokens.now) c.loop-path.path c.push.new.self ts _ c.in-Some.who _ c.loop-path.invariant c.in_ok-who.ensures.who
    (ap (option_map (λ x. (x.0, drop x.1 ts))) c.in-Some.is ∙ ap (λ rest. Some (c.in-Some.who, rest)) (sym (take_rest ts c.in-Some.count)))
    c.in_ok-push.ensures.ok

pub returns : goal.returns
returns c =
    ap Some (whos_done (whos_at c.args.tokens.now) c.loop-path.path c.loop-path.rest.now _ c.loop-path.invariant c.in_ok-who.ensures.who (search rules))
