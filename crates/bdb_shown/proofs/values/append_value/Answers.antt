use Rattle.std.proofs.Common.{◌≡◌, ◌∙◌, ◌++◌, ap, rules}
use Rattle.bdb_base.specs.Texts.{int_text, value_text}
use Rattle.bdb_shown.proofs.ValueLemmas.{int_leads, int_shorter, text_leads}
use Rattle.bdb_shown.proofs.values.append_value.Goals as goal

pub returns-in_ok-append_int-in-Some-clause-written : goal.returns-in_ok-append_int-in-Some-clause-written
returns-in_ok-append_int-in-Some-clause-written c v more l =
    let written : c.append_int.new.out.items ≡ c.args.out.now.items ++ int_text c.in-Some.n = search rules in
    written ∙ ap (λ x. c.args.out.now.items ++ value_text x) (int_leads c.in-Some.n c.args.bytes.now c.in-Some.rest.now c.in-Some.ensures v more l).0

pub returns-in_ok-append_int-in-Some-clause-behind : goal.returns-in_ok-append_int-in-Some-clause-behind
returns-in_ok-append_int-in-Some-clause-behind c v more l = (int_leads c.in-Some.n c.args.bytes.now c.in-Some.rest.now c.in-Some.ensures v more l).1

pub returns-in_ok-append_int-in-Some-clause-shorter : goal.returns-in_ok-append_int-in-Some-clause-shorter
returns-in_ok-append_int-in-Some-clause-shorter c = int_shorter c.in-Some.n c.args.bytes.now c.in-Some.rest.now c.in-Some.ensures

pub returns-in_ok-rest-in-None-clause-written : goal.returns-in_ok-rest-in-None-clause-written
returns-in_ok-rest-in-None-clause-written c v more l =
    let e = text_leads c.args.bytes.now c.behind_mark.result.now c.in-None.ensures c.behind_mark.ensures v more l in
    c.in_ok-rest-in-None.ensures.written e.0 more e.2 ∙ ap (λ x. c.args.out.now.items ++ x) e.1

pub returns-in_ok-rest-in-None-clause-behind : goal.returns-in_ok-rest-in-None-clause-behind
returns-in_ok-rest-in-None-clause-behind c v more l =
    let e = text_leads c.args.bytes.now c.behind_mark.result.now c.in-None.ensures c.behind_mark.ensures v more l in
    c.in_ok-rest-in-None.ensures.behind e.0 more e.2
