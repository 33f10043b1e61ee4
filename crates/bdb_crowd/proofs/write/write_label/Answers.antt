use Rattle.std.proofs.Common.{List, ℕ, ◌++◌, codes, ap, arith, subst, sym}
use Rattle.bdb_io.specs.Pieces.{WritesPiece}
use Rattle.std.proofs.lemmas.Fmt.{decimal_digit}
use Rattle.bdb_crowd.proofs.WriteLemmas.{two_digits}
use Rattle.bdb_crowd.proofs.write.write_label.Goals as goal

pub returns-then-session-lt10-clause-written : goal.returns-then-session-lt10-clause-written
returns-then-session-lt10-clause-written g c =
    subst (λ (t : List ℕ). WritesPiece (g.O.Sink.written c.args.out.now) (g.O.Sink.written c.write_all.new.self) c.write_all.result t)
    (sym (ap (λ d. d ++ codes ": ") (decimal_digit c.args.session (omega (arith, c.if-session-lt10.true))))) c.write_all.ensures.bytes

pub returns-clause-written : goal.returns-clause-written
returns-clause-written g c =
    subst (λ (t : List ℕ). WritesPiece (g.O.Sink.written c.args.out.now) (g.O.Sink.written c.write_all-2.new.self) c.write_all-2.result t)
    (sym (ap (λ d. d ++ codes ": ") (two_digits c.args.session (omega (arith, c.if-session-lt10.false)) (omega (arith, c.requires))))) c.write_all-2.ensures.bytes
