use Rattle.std.proofs.Common.{◌≡◌, ◌++◌, map, drop, find}
use Rattle.bdb_why.specs.Certificates.{is_held, ruled_of}
use Rattle.bdb_why.proofs.among.look_among.Given as goal

-- the rivals to come, after those looked at, are all; and what is found among them is what is found among all
abbrev pub invariant-loop-tuple : goal.invariant-loop-tuple
invariant-loop-tuple l = record {
  all : l.others ++ map (ruled_of (λ _. l.fn.n) l.stmts l.path) (drop l.tuple-index l.tuples) ≡ map (ruled_of (λ _. l.fn.n) l.stmts l.path) l.tuples;
  first : find is_held (map (ruled_of (λ _. l.fn.n) l.stmts l.path) (drop l.tuple-index l.tuples)) ≡ find is_held (map (ruled_of (λ _. l.fn.n) l.stmts l.path) l.tuples);
}
