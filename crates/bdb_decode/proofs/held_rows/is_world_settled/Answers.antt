use Rattle.std.proofs.Common.{sym, subst}
use Rattle.bdb_base.specs.Bases.{key_lengths}
use Rattle.bdb_tables.specs.Grammar.{InGrammar}
use Rattle.bdb_decode.specs.SettledRows.{AreKeyed, AreLinkedRows}
use Rattle.bdb_decode.proofs.held_rows.is_world_settled.Goals as goal

pub follow-requires-clause-grammar : goal.follow-requires-clause-grammar
follow-requires-clause-grammar g c = subst InGrammar (sym c.in-Ok.ensures.read.kept) c.requires.grammar

pub follow-requires-clause-keyed : goal.follow-requires-clause-keyed
follow-requires-clause-keyed g c = subst (AreKeyed (key_lengths c.args.catalog.now.rels)) (sym c.in-Ok.ensures.read.kept) c.requires.keyed

pub follow-requires-clause-linked : goal.follow-requires-clause-linked
follow-requires-clause-linked g c = subst (λ v. AreLinkedRows v c.args.linked.now.link c.args.linked.now.rows.items) (sym c.in-Ok.ensures.read.kept) c.requires.linked
