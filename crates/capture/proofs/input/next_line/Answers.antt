use Rattle.std.proofs.Common.{◌≡◌, [], Some, true, not, sym, ap, subst, ◌∙◌, rules}
use Rattle.std.specs.Io.BufRead.{drop_through, FillKeeps}
use Rattle.capture.specs.Held.{held, if_there}
use Rattle.capture.proofs.Reading.{ahead, begun-first, begun-on, begun-kept, begun-known, ends-there, ended, known-weaker, known-at, kept-at, used-at, used-whole, lines-first}
use Rattle.capture.proofs.input.next_line.Goals as goal

pub loop-init : goal.loop-init
loop-init g c = begun-first (g.R.Read.remaining c.args.input.now) (held c.clear.new.self) c.clear.ensures

pub returns-then-count-eq0-clause-line : goal.returns-then-count-eq0-clause-line
returns-then-count-eq0-clause-line g c =
    let here = g.R.Read.remaining c.loop.input in
    known-weaker (g.R.Read.remaining c.args.input.now) _ _ (λ xs inv.
    let none : inv.0 ≡ [] = known-at here inv.0 _ inv.1 c.in_ok-bytes.ensures.end c.if-count-eq0.true in
    ap (λ t. if_there (not t) c.loop.line) c.is_empty.ensures ∙ ended c.loop.line ∙ ap (ahead (held c.loop.line)) (sym none) ∙ inv.2)
    (begun-known (g.R.Read.remaining c.args.input.now) here (held c.loop.line) c.loop.invariant)

pub returns-then-count-eq0-clause-lines : goal.returns-then-count-eq0-clause-lines
returns-then-count-eq0-clause-lines g c = known-weaker (g.R.Read.remaining c.args.input.now) _ _ (λ xs. lines-first xs (not c.is_empty.result) c.loop.line) (returns-then-count-eq0-clause-line g c)

pub returns-then-count-eq0-clause-rest : goal.returns-then-count-eq0-clause-rest
returns-then-count-eq0-clause-rest g c =
    let here = g.R.Read.remaining c.loop.input in
    known-weaker (g.R.Read.remaining c.args.input.now) _ _ (λ xs inv.
    let none : inv.0 ≡ [] = known-at here inv.0 _ inv.1 c.in_ok-bytes.ensures.end c.if-count-eq0.true in
    kept-at here _ inv.0 inv.1 c.fill.follows.holds-at-none.0 ∙ ap Some (none ∙ ap (drop_through 10) (sym none) ∙ inv.3))
    (begun-known (g.R.Read.remaining c.args.input.now) here (held c.loop.line) c.loop.invariant)

pub returns-in-Some-clause-line : goal.returns-in-Some-clause-line
returns-in-Some-clause-line g c =
    let here = g.R.Read.remaining c.loop.input in
    known-weaker (g.R.Read.remaining c.args.input.now) _ _ (λ xs inv.
    let shown = known-at here inv.0 _ inv.1 c.in_ok-bytes.ensures.front in
    let there = ends-there (held c.loop.line) inv.0 c.in_ok-bytes.bytes.now (held c.gather.new.line) c.in-Some.used shown (sym c.in-Some.is ∙ c.gather.ensures.end) c.gather.ensures.line in
    there.0 ∙ inv.2)
    (begun-known (g.R.Read.remaining c.args.input.now) here (held c.loop.line) c.loop.invariant)

pub returns-in-Some-clause-lines : goal.returns-in-Some-clause-lines
returns-in-Some-clause-lines g c = known-weaker (g.R.Read.remaining c.args.input.now) _ _ (λ xs. lines-first xs true c.gather.new.line) (returns-in-Some-clause-line g c)

pub returns-in-Some-clause-rest : goal.returns-in-Some-clause-rest
returns-in-Some-clause-rest g c =
    let here = g.R.Read.remaining c.loop.input in
    let rested = c.fill.follows.lender-at-none in
    let filled = subst (FillKeeps here (g.R.Read.remaining rested) (g.R.BufRead.consumable_len rested)) c.in_ok-bytes.was c.fill.follows.holds-at-none in
    known-weaker (g.R.Read.remaining c.args.input.now) _ _ (λ xs inv.
    let shown = known-at here inv.0 _ inv.1 c.in_ok-bytes.ensures.front in
    let there = ends-there (held c.loop.line) inv.0 c.in_ok-bytes.bytes.now (held c.gather.new.line) c.in-Some.used shown (sym c.in-Some.is ∙ c.gather.ensures.end) c.gather.ensures.line in
    used-at here _ _ _ inv.0 _ c.in-Some.used inv.1 filled.0 filled.1 there.2 c.consume.ensures.bytes ∙ ap Some (there.1 ∙ inv.3))
    (begun-known (g.R.Read.remaining c.args.input.now) here (held c.loop.line) c.loop.invariant)

pub loop-preserved : goal.loop-preserved
loop-preserved g c =
    let here = g.R.Read.remaining c.loop.input in
    let piece = c.in_ok-bytes.bytes.now in
    let rested = c.fill.follows.lender-at-none in
    let filled = subst (FillKeeps here (g.R.Read.remaining rested) (g.R.BufRead.consumable_len rested)) c.in_ok-bytes.was c.fill.follows.holds-at-none in
    let used = used-whole here _ _ _ piece c.in_ok-bytes.ensures.front filled.0 filled.1 c.consume-in-loop.ensures.bytes in
    begun-on (g.R.Read.remaining c.args.input.now) here _ (held c.loop.line) piece (held c.gather.new.line) c.loop.invariant used (search rules) c.gather.ensures.line

pub returns-in_err-bytes-clause-begun : goal.returns-in_err-bytes-clause-begun
returns-in_err-bytes-clause-begun g c =
    let left = begun-kept (g.R.Read.remaining c.args.input.now) (g.R.Read.remaining c.loop.input) _ (held c.loop.line) c.loop.invariant c.fill.follows.holds-at-none.0 in
    search rules

pub returns-clause-begun : goal.returns-clause-begun
returns-clause-begun g c = c.loop.invariant
