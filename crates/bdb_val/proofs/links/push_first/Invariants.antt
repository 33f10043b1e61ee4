use Rattle.std.proofs.Common.{◌≡◌, drop}
use Rattle.bdb_val.proofs.FoundLinks.{comes_to}
use Rattle.bdb_val.proofs.links.push_first.Given as goal

-- what is on the list, and what the links to come make, are what all make
abbrev pub invariant-loop-link : goal.invariant-loop-link
invariant-loop-link l = comes_to l.wid l.initial.list.items l.links ≡ comes_to l.wid l.list.items (drop l.link-index l.links)
