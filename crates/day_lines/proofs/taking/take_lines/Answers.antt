use Rattle.std.proofs.Common.{length, subst, le_refl, IfSome}
use Rattle.std.specs.Io.BufRead.{FillKeeps}
use Rattle.capture.specs.Held.{held}
use Rattle.capture.specs.Lines.{lines_of}
use Rattle.capture.proofs.Reading.{known-weaker, known-at, used-at}
use Rattle.day_rules.specs.Lines.{answers_to}
use Rattle.day_lines.specs.Seen.{none_seen}
use Rattle.day_lines.specs.Takings.{Taken}
use Rattle.day_lines.proofs.Putting.{putting_starts, putting_on, putting_ends, begun_held, all_told}
use Rattle.day_lines.proofs.taking.take_lines.Given
use Rattle.day_lines.proofs.taking.take_lines.Goals as goal
use Rattle.day_lines.proofs.taking.take_lines.Goals.{In_ok-take_last}

pub loop-init : goal.loop-init
loop-init g c =
    putting_starts c.args.shown (g.R.Read.remaining c.args.input.now) (g.W.Write.contents c.args.output.now) (held c.new-begun.result) c.new-seen.result c.args.ledger.now c.new-seen.ensures c.new-begun.ensures

pub loop-preserved : goal.loop-preserved
loop-preserved g c =
    let here = g.R.Read.remaining c.loop.input in
    let piece = c.in_ok-piece.piece.now in
    let rested = c.fill.follows.lender-at-none in
    let filled = subst (FillKeeps here (g.R.Read.remaining rested) (g.R.BufRead.consumable_len rested)) c.in_ok-piece.was c.fill.follows.holds-at-none in
    known-weaker (g.R.Read.remaining c.args.input.now) _ _ (λ bytes p.
    putting_on c.args.shown here (g.W.Write.contents c.args.output.now) (g.W.Write.contents c.loop.output) bytes (held c.loop.begun) c.loop.seen c.args.ledger.now c.loop.ledger p
    (g.R.Read.remaining c.consume.new.self) (g.W.Write.contents c.take_piece.new.output) piece (held c.take_piece.new.begun) c.take_piece.new.seen c.take_piece.new.ledger
    (known-at here p.rest _ p.left c.in_ok-piece.ensures.front)
    (used-at here _ _ _ p.rest (length piece) (length piece) p.left filled.0 filled.1 (le_refl (length piece)) c.consume.ensures.bytes)
    c.in_ok-take_piece.ensures)
    c.loop.invariant

all-taken : (g : Given.Over) (c : In_ok-take_last g)
    → IfSome (g.R.Read.remaining c.args.input.now) (λ bytes. Taken c.args.shown (lines_of bytes) (g.W.Write.contents c.args.output.now) (g.W.Write.contents c.take_last.new.output) none_seen c.take_last.new.seen c.args.ledger.now c.take_last.new.ledger)
all-taken g c =
    let here = g.R.Read.remaining c.loop.input in
    known-weaker (g.R.Read.remaining c.args.input.now) _ _ (λ bytes p.
    putting_ends c.args.shown here (g.W.Write.contents c.args.output.now) (g.W.Write.contents c.loop.output) bytes (held c.loop.begun) c.loop.seen c.args.ledger.now c.loop.ledger p
    (g.W.Write.contents c.take_last.new.output) c.take_last.new.seen c.take_last.new.ledger
    (known-at here p.rest _ p.left c.in_ok-piece.ensures.end c.if-count-eq0.true) (begun_held c.loop.begun p.unended) c.in_ok-take_last.ensures)
    c.loop.invariant

pub returns-then-count-eq0-clause-says : goal.returns-then-count-eq0-clause-says
returns-then-count-eq0-clause-says g c = known-weaker (g.R.Read.remaining c.args.input.now) _ _ (λ bytes taken. taken.printed) (all-taken g c)

pub returns-then-count-eq0-clause-leaves : goal.returns-then-count-eq0-clause-leaves
returns-then-count-eq0-clause-leaves g c = known-weaker (g.R.Read.remaining c.args.input.now) _ _ (λ bytes taken. taken.day) (all-taken g c)

pub returns-then-count-eq0-clause-seen : goal.returns-then-count-eq0-clause-seen
returns-then-count-eq0-clause-seen g c =
    known-weaker (g.R.Read.remaining c.args.input.now) _ _ (λ bytes taken. all_told (answers_to (lines_of bytes) c.args.ledger.now) c.take_last.new.seen taken.seen) (all-taken g c)
