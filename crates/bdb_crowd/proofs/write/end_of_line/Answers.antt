use Rattle.std.proofs.Common.{◌∙◌, sym}
use Rattle.bdb_crowd.proofs.WriteLemmas.{cut_at_end, cut_at_feed, feed_within}
use Rattle.bdb_crowd.proofs.write.end_of_line.Goals as goal

pub returns-in-Some-clause-line : goal.returns-in-Some-clause-line
returns-in-Some-clause-line c = cut_at_feed c.args.text.now c.in-Some.at c.requires (sym c.line_feed.ensures ∙ c.in-Some.is)

pub returns-in-None-clause-line : goal.returns-in-None-clause-line
returns-in-None-clause-line c = cut_at_end c.args.text.now c.requires (sym c.line_feed.ensures ∙ c.in-None.is)

pub returns-in-Some-clause-within : goal.returns-in-Some-clause-within
returns-in-Some-clause-within c = feed_within c.args.text.now c.in-Some.at (sym c.line_feed.ensures ∙ c.in-Some.is)
