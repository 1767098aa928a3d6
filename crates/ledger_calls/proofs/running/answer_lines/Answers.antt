use Rattle.std.proofs.Common.{◌≡◌, [], ◌∷◌, true, IfSome, MatchBool, sym, subst, rules}
use Rattle.std.specs.Io.BufRead.{drop_through}
use Rattle.std.specs.Io.KnownBytes.{Appends}
use Rattle.capture.specs.Counts.{more}
use Rattle.capture.specs.Held.{held}
use Rattle.capture.specs.Lines.{lines_of}
use Rattle.capture.proofs.Reading.{known-weaker, known-at}
use Rattle.ledger_calls.specs.Replies.{said_to}
use Rattle.day_forms.specs.Texts.{numbered_line}
use Rattle.ledger_calls.specs.Texts.{said_text}
use Rattle.ledger_calls.proofs.Saying.{Saying, saying_starts, saying_on}
use Rattle.ledger_calls.proofs.running.answer_lines.Goals as goal

pub loop-init : goal.loop-init
loop-init g c = saying_starts (g.R.Read.remaining c.args.input.now) (g.W.Write.contents c.args.output.now) c.args.count.lines c.args.ledger.now

pub loop-preserved : goal.loop-preserved
loop-preserved g c =
    let here = g.R.Read.remaining c.loop.input in
    let line = held c.next_line.new.line in
    let on : c.in_ok-next_line.field-0 ≡ true = search rules in
    let lines = subst (λ there. IfSome here (λ xs. MatchBool there (lines_of xs ≡ line ∷ lines_of (drop_through 10 xs)) (lines_of xs ≡ []))) on c.in_ok-next_line.ensures.lines in
    let was = g.W.Write.contents c.args.output.now in
    let later = g.R.Read.remaining c.next_line.new.input in
    let is = g.W.Write.contents c.answer_line.new.output in
    let n = c.loop.count.lines in
    let first = c.args.count.lines in
    let printed = subst (λ k. Appends (g.W.Write.contents c.loop.output) is (numbered_line k (said_text (said_to line c.loop.ledger)))) c.next.ensures.says c.in_ok-answer_line.ensures.says in
    known-weaker (g.R.Read.remaining c.args.input.now) _ _ (λ bytes p.
    let on = saying_on here was (g.W.Write.contents c.loop.output) bytes first n c.args.ledger.now c.loop.ledger p later is line
    (known-at here p.rest _ p.left lines) (known-at here p.rest _ p.left c.in_ok-next_line.ensures.rest) printed in
    subst (λ k. Saying later was is bytes first k.lines c.args.ledger.now c.answer_line.new.ledger) (sym c.next.ensures.counts)
    (subst (λ d. Saying later was is bytes first (more n) c.args.ledger.now d) (sym c.answer_line.ensures.leaves) on))
    c.loop.invariant
