use Rattle.std.proofs.Common.{◌∙◌, ◌-◌, ap, sym, length, take, drop}
use Rattle.std.proofs.lemmas.List.{take_rest}
use Rattle.bdb_why.specs.Accepting.{same_ground}
use Rattle.bdb_why.proofs.DescentLemmas.{ground_at_end, ground_further, ground_if_explicit, ground_if_clash}
use Rattle.bdb_why.proofs.checking.+is_ground_from.Goals as goal

pub returns-then-explicit_at : goal.returns-then-explicit_at
returns-then-explicit_at t c = c.is_found_at.ensures
    ∙ ap (same_ground c.args.reason.now) (sym (ground_if_explicit (λ _. c.args.n) c.args.stmts.now c.args.level c.args.path.now c.args.t.now c.args.s (sym c.explicit_at.ensures ∙ c.if-explicit_at.true)))

pub returns-in-Some : goal.returns-in-Some
returns-in-Some t c = c.is_blocked_at.ensures
    ∙ ap (same_ground c.args.reason.now) (sym (ground_if_clash (λ _. c.args.n) c.args.stmts.now c.args.level c.args.path.now c.args.t.now c.args.s c.in-Some.x.now
    (sym c.explicit_at.ensures ∙ c.if-explicit_at.false) (sym c.in-Some.ensures)))

pub returns-in-empty : goal.returns-in-empty
returns-in-empty t c = c.is_nowhere.ensures
    ∙ ap (same_ground c.args.reason.now) (sym (ground_at_end (λ _. c.args.n) c.args.stmts.now c.args.level c.args.path.now c.args.t.now c.args.s c.in-empty.len_below
    (sym c.explicit_at.ensures ∙ c.if-explicit_at.false) (sym c.in-None.ensures)))

pub returns-in-len1-up : goal.returns-in-len1-up
returns-in-len1-up t c =
    let w = c.args.path.now in
    c.is_ground_from.ensures
    ∙ ap (same_ground c.args.reason.now) (sym (ground_further (λ _. c.args.n) c.args.stmts.now c.args.level w (take (length w - 1) (drop 1 w)) c.args.t.now c.args.s c.in-len1-up.len_at_least (take_rest w 1)
    (sym c.explicit_at.ensures ∙ c.if-explicit_at.false) (sym c.in-None.ensures)))
