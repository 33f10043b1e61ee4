use Rattle.std.proofs.Common.{◌∙◌, ◌<◌, ◌≤◌, ◌++◌, length, ap, sym, arith}
use Rattle.std.specs.List.{flat_map}
use Rattle.bdb_canon.proofs.UserLemmas.{all_numbers}
use Rattle.bdb_render.specs.Tables.{user_line}
use Rattle.bdb_render.proofs.UserLemmas.{next_line, no_line}
use Rattle.bdb_render.proofs.tables.append_users.Goals as goal

pub loop-at-preserved-then-not-is_user_at : goal.loop-at-preserved-then-not-is_user_at
loop-at-preserved-then-not-is_user_at c =
    let same = ap length c.as_slice-users.ensures in
    let within : c.loop-at.at < length c.args.catalog.now.users = omega arith in
    no_line (user_line c.args.catalog.now) c.args.catalog.now.users c.loop-at.at c.args.out.now.items c.loop-at.out.items within
    (sym c.is_user_at.ensures ∙ c.if-not-is_user_at.true) c.loop-at.invariant

pub loop-at-preserved : goal.loop-at-preserved
loop-at-preserved c =
    let same = ap length c.as_slice-users.ensures in
    let within : c.loop-at.at < length c.args.catalog.now.users = omega arith in
    next_line (user_line c.args.catalog.now) c.args.catalog.now.users c.loop-at.at c.args.out.now.items c.loop-at.out.items c.append_user.new.out.items within
    (sym c.is_user_at.ensures ∙ c.if-not-is_user_at.false) c.loop-at.invariant c.in_ok-append_user.ensures

pub returns : goal.returns
returns c =
    let same = ap length c.as_slice-users.ensures in
    let past : length c.args.catalog.now.users ≤ c.loop-at.at = omega arith in
    c.loop-at.invariant ∙ ap (λ ns. c.args.out.now.items ++ flat_map (user_line c.args.catalog.now) ns) (all_numbers c.args.catalog.now.users c.loop-at.at past)
