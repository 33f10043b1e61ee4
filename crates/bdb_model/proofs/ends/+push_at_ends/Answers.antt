use Rattle.std.proofs.Common.{◌-◌, length, take, drop}
use Rattle.std.proofs.lemmas.List.{take_rest}
use Rattle.bdb_model.proofs.EndLemmas.{ends_so_far}
use Rattle.bdb_model.proofs.ends.+push_at_ends.Goals as goal

pub returns-in_ok-push_copies-in-len1-up : goal.returns-in_ok-push_copies-in-len1-up
returns-in_ok-push_copies-in-len1-up t c =
    ends_so_far c.args.path.now (take (length c.args.path.now - 1) (drop 1 c.args.path.now)) c.args.stmts.now c.args.near.now c.push_at_ends.new.near c.at_path-in-len1-up.result.now
    c.push_copies-in-len1-up.new.near c.in-len1-up.len_at_least (take_rest c.args.path.now 1) c.requires c.in_ok-push_at_ends-in-len1-up.ensures c.at_path-in-len1-up.ensures
    c.in_ok-push_copies-in-len1-up.ensures
