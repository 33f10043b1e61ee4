use Rattle.std.proofs.lemmas.Result.{err_from_is_err_and}
use Rattle.bdb_parse.specs.declared.wide.Wide.TheVariants.{Refused}
use Rattle.bdb_parse.specs.Gives.{number_in}
use Rattle.bdb_parse.specs.Fits.{fits}
use Rattle.bdb_parse.proofs.Agree.{strict_reads, strict_passes, wide_reads, refused_twice, refused_once, never_number, nothing_else, err_is}
use Rattle.bdb_parse.proofs.AgreeLemmas.{command_agrees}
use Rattle.bdb_parse.proofs.FilledLemmas.{command_filled_of}
use Rattle.bdb_parse.proofs.PrintableFacts.{printable_from_read}
use Rattle.bdb_parse.proofs.reading.parse.Goals as goal

pub returns-in-Ok-clause-read : goal.returns-in-Ok-clause-read
returns-in-Ok-clause-read c =
    strict_reads fits _ _ _ c.in-Ok.command (command_agrees c.args.tokens.now) c.in-Ok.ensures

pub returns-in-Ok-clause-fits : goal.returns-in-Ok-clause-fits
returns-in-Ok-clause-fits c =
    strict_passes fits _ _ _ c.in-Ok.command (command_agrees c.args.tokens.now) c.in-Ok.ensures

pub returns-in-Ok-clause-filled : goal.returns-in-Ok-clause-filled
returns-in-Ok-clause-filled c =
    command_filled_of (number_in Refused) c.args.tokens.now c.in-Ok.command c.in-Ok.ensures

pub returns-in-Ok-clause-printable : goal.returns-in-Ok-clause-printable
returns-in-Ok-clause-printable c =
    λ w. printable_from_read c.args.tokens.now c.in-Ok.command w (command_agrees c.args.tokens.now) c.in-Ok.ensures

pub returns-in_err-command-in-Err-Syntax : goal.returns-in_err-command-in-Err-Syntax
returns-in_err-command-in-Err-Syntax c =
    let p = err_from_is_err_and c.from_residual.result c.from_residual.ensures.1 in
    let e = c.in_err-command-in-Err-Syntax.field-0.0 in
    let i = c.in_err-command-in-Err-Syntax.ensures in
    rw (p.1, p.2) record {
      read = tt;
      fits = tt;
      syntax = λ q. refused_twice fits _ _ _ e (command_agrees c.args.tokens.now) i (err_is _ _ q);
      number = λ q. never_number _ e _ i (err_is _ _ q);
      filled = tt;
      printable = λ _. tt;
    }

pub returns-in_ok-command-in-Err-Syntax : goal.returns-in_ok-command-in-Err-Syntax
returns-in_ok-command-in-Err-Syntax c =
    record {
      read = tt;
      fits = tt;
      syntax = λ q. nothing_else _ (err_is _ _ q);
      number = λ q. wide_reads fits _ _ _ c.in_ok-command-in-Err-Syntax.field-0 (command_agrees c.args.tokens.now) (refused_once _ c.in-Err-Syntax.field-0 c.in-Err-Syntax.ensures c.in-Err-Syntax.field-0-is) c.in_ok-command-in-Err-Syntax.ensures;
      filled = tt;
      printable = λ _. tt;
    }
