-- A command that the first reading gives of well spelled tokens is printable.
use Rattle.std.proofs.Common.{◌≡◌, List, Some}
use Rattle.bdb_lex.specs.declared.token.Token.{Token}
use Rattle.bdb_syntax.specs.declared.command.Command.{Command}
use Rattle.bdb_syntax.specs.Printable.{IsPrintable}
use Rattle.bdb_parse.specs.declared.wide.Wide.TheVariants.{Refused, Zero}
use Rattle.bdb_parse.specs.Fits.{fits}
use Rattle.bdb_parse.specs.Gives.{number_in}
use Rattle.bdb_parse.specs.Reading.{command_by, command_of}
use Rattle.bdb_parse.specs.Spelled.{AreWellSpelled}
use Rattle.bdb_parse.proofs.Agree.{Agrees, strict_reads}
use Rattle.bdb_parse.proofs.FilledLemmas.{command_filled_of}
use Rattle.bdb_parse.proofs.PrintableLemmas.{parts_ok}
use Rattle.bdb_parse.proofs.SoundCommands.{command_sound}

pub printable_from_read : (ts : List Token) (c : Command) → AreWellSpelled ts → Agrees fits (command_by (number_in Refused) ts) (command_by (number_in Zero) ts) (command_of ts) → command_by (number_in Refused) ts ≡ Some c → IsPrintable c
printable_from_read ts c w h e =
    let read = strict_reads fits (command_by (number_in Refused) ts) (command_by (number_in Zero) ts) (command_of ts) c h e in
    record {
      parts = parts_ok c ts (command_sound ts c read) w;
      filled = command_filled_of (number_in Refused) ts c e;
    }
