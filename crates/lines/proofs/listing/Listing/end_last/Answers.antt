use Rattle.std.proofs.Common.{sym, ◌∙◌}
use Rattle.capture.specs.Held.{held}
use Rattle.capture.proofs.Cutting.{line-alone}
use Rattle.capture.proofs.Reading.{held-fits}
use Rattle.lines.proofs.listing.Listing.end_last.Goals as goal

pub returns-clause-counts : goal.returns-clause-counts
returns-clause-counts g c = let line = c.args.self.now.line in rw (line-alone (held line) c.args.self.now.unended (held-fits line) (sym c.is_empty.ensures ∙ c.if-is_empty.false)) c.end_line.ensures.counts

pub returns-clause-says : goal.returns-clause-says
returns-clause-says g c = let line = c.args.self.now.line in rw (line-alone (held line) c.args.self.now.unended (held-fits line) (sym c.is_empty.ensures ∙ c.if-is_empty.false)) c.end_line.ensures.says
