use Rattle.std.proofs.Common.{◌∙◌, ◌-◌, ap, sym, length, take, drop}
use Rattle.std.proofs.lemmas.List.{take_rest}
use Rattle.bdb_why.specs.declared.kinds.Ground.TheVariants.{Blocked}
use Rattle.bdb_why.proofs.DescentLemmas.{ground_at_end, ground_further, ground_if_explicit, ground_if_clash}
use Rattle.bdb_why.proofs.grounds.+ground_from.Goals as goal

pub returns-then-explicit_at : goal.returns-then-explicit_at
returns-then-explicit_at t c = sym (ground_if_explicit (λ _. c.args.n) c.args.stmts.now c.args.level c.args.path.now c.args.t.now c.args.s (sym c.explicit_at.ensures ∙ c.if-explicit_at.true))

pub returns-in_ok-by-in-Some : goal.returns-in_ok-by-in-Some
returns-in_ok-by-in-Some t c = ap (Blocked c.args.level) c.in_ok-by-in-Some.ensures
    ∙ sym (ground_if_clash (λ _. c.args.n) c.args.stmts.now c.args.level c.args.path.now c.args.t.now c.args.s c.in-Some.x.now
    (sym c.explicit_at.ensures ∙ c.if-explicit_at.false) (sym c.in-Some.ensures))

pub returns-in-empty : goal.returns-in-empty
returns-in-empty t c = sym (ground_at_end (λ _. c.args.n) c.args.stmts.now c.args.level c.args.path.now c.args.t.now c.args.s c.in-empty.len_below
    (sym c.explicit_at.ensures ∙ c.if-explicit_at.false) (sym c.in-None.ensures))

pub returns-in_ok-reason-in-len1-up : goal.returns-in_ok-reason-in-len1-up
returns-in_ok-reason-in-len1-up t c =
    let w = c.args.path.now in
    c.in_ok-reason-in-len1-up.ensures
    ∙ sym (ground_further (λ _. c.args.n) c.args.stmts.now c.args.level w (take (length w - 1) (drop 1 w)) c.args.t.now c.args.s c.in-len1-up.len_at_least (take_rest w 1)
    (sym c.explicit_at.ensures ∙ c.if-explicit_at.false) (sym c.in-None.ensures))
