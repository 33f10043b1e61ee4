use Rattle.std.proofs.Common.{◌≡◌, not, find, take, drop}
use Rattle.bdb_bind.specs.Lookup.{is_user_name, path_of}
use Rattle.bdb_bind.proofs.found.find_users.Given as goal

abbrev pub invariant-loop-name : goal.invariant-loop-name
invariant-loop-name l = record {
  known : find (λ name. not (is_user_name l.users name)) l.names ≡ find (λ name. not (is_user_name l.users name)) (drop l.name-index l.names);
  so_far : l.ids ≡ path_of l.users (take l.name-index l.names);
}
