use Rattle.std.proofs.Common.{[], ◌++◌, subst}
use Rattle.std.proofs.lemmas.Result.{on_ok_weaker}
use Rattle.std.specs.Io.BufRead.{FillKeeps}
use Rattle.std.proofs.KnownBytes.{Consumes-trans}
use Rattle.capture.specs.Held.{held}
use Rattle.capture.proofs.Reading.{used-whole}
use Rattle.lines.specs.Counted.{none_counted}
use Rattle.lines.proofs.Piecing.{listed-both, all-listed, all-even}
use Rattle.lines.proofs.running.run.Goals as goal

pub returns-then-count-eq0-clause-says : goal.returns-then-count-eq0-clause-says
returns-then-count-eq0-clause-says g c =
    let inv = c.loop.invariant.0 in
    on_ok_weaker c.finish.result
    (all-listed (g.R.Read.remaining c.args.input.now) (g.R.Read.remaining c.loop.input) inv.0 c.in_ok-piece.piece.now inv.1 c.in_ok-piece.ensures.end c.if-count-eq0.true
    (held c.loop.listing.line) c.loop.listing.totals c.finish.new.self.totals (g.W.Write.contents c.args.output.now) (g.W.Write.contents c.loop.output) inv.2 c.finish.ensures.counts
    (g.W.Write.contents c.finish.new.output)) c.finish.ensures.says

pub returns-then-count-eq0-clause-even : goal.returns-then-count-eq0-clause-even
returns-then-count-eq0-clause-even g c =
    let inv = c.loop.invariant.0 in
    on_ok_weaker c.finish.result (λ ends.
    all-even (g.R.Read.remaining c.args.input.now) (g.R.Read.remaining c.loop.input) inv.0 c.in_ok-piece.piece.now inv.1 c.in_ok-piece.ensures.end c.if-count-eq0.true
    (held c.loop.listing.line) c.loop.listing.totals c.finish.new.self.totals (g.W.Write.contents c.args.output.now) (g.W.Write.contents c.loop.output) inv.2 c.finish.ensures.counts
    (c.finish.ensures.even c.loop.invariant.1)) c.finish.ensures.says

pub loop-preserved : goal.loop-preserved
loop-preserved g c =
    let before = g.R.Read.remaining c.args.input.now in
    let here = g.R.Read.remaining c.loop.input in
    let coming = g.R.Read.remaining c.consume.new.self in
    let piece = c.in_ok-piece.piece.now in
    let rested = c.fill.follows.lender-at-none in
    let filled = subst (FillKeeps here (g.R.Read.remaining rested) (g.R.BufRead.consumable_len rested)) c.in_ok-piece.was c.fill.follows.holds-at-none in
    let used = used-whole here _ coming _ piece c.in_ok-piece.ensures.front filled.0 filled.1 c.consume.ensures.bytes in
    let inv = c.loop.invariant.0 in (
      (
        inv.0 ++ piece,
        Consumes-trans before here coming inv.0 piece inv.1 used,
        listed-both [] inv.0 (held c.loop.listing.line) piece (held c.take.new.self.line) none_counted c.loop.listing.totals c.take.new.self.totals
            (g.W.Write.contents c.args.output.now) (g.W.Write.contents c.loop.output) (g.W.Write.contents c.take.new.output) (g.W.Write.contents c.flush.new.self)
            inv.2 c.in_ok-take.ensures.says c.flush.ensures.bytes,
      ),
      c.take.ensures.even c.loop.invariant.1,
    )
