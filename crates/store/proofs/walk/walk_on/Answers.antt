use Rattle.std.proofs.Common.{arith}
use Rattle.store.proofs.Walking.{seen, walk-starts, walk-on, walk_ends, walk-done, walk-last}
use Rattle.store.proofs.walk.walk_on.Goals as goal

pub loop-turn-init : goal.loop-turn-init
loop-turn-init g c rows ready covers counted =
    let law = g.met.M.Out.Tally in
    rw c.empty-met.ensures
    (walk-starts (g.M.Measure.given c.args.measure.now) g.M.Out.Tally.none g.M.Out.Tally.joining law.associative law.commutative law.neutral rows _ _ covers (omega arith))

pub loop-turn-preserved : goal.loop-turn-preserved
loop-turn-preserved g c rows ready covers counted =
    let law = g.met.M.Out.Tally in
    rw (c.join-met.ensures, c.of.ensures)
    (walk-on (g.M.Measure.given c.args.measure.now) g.M.Out.Tally.none g.M.Out.Tally.joining law.associative law.commutative law.neutral rows _ _ _ _ _ _
    (seen _ _ c.in-Some.visit _ (c.in-Some.ensures ready) c.in-Some-next.is) (omega arith) (c.loop-turn.invariant rows ready covers counted))

pub returns-in_default : goal.returns-in_default
returns-in_default g c rows ready covers counted =
    let law = g.met.M.Out.Tally in
    walk_ends (g.M.Measure.given c.args.measure.now) g.M.Out.Tally.none g.M.Out.Tally.joining law.associative law.commutative law.neutral rows _ _ _
    (c.in_default.ensures ready) (c.loop-turn.invariant rows ready covers counted)

pub returns-in_default-next : goal.returns-in_default-next
returns-in_default-next g c rows ready covers counted =
    let law = g.met.M.Out.Tally in
    rw (c.join-met.ensures, c.of.ensures)
    (walk-last (g.M.Measure.given c.args.measure.now) g.M.Out.Tally.none g.M.Out.Tally.joining law.associative law.commutative law.neutral rows _ _ _ _
    (seen _ _ c.in-Some.visit _ (c.in-Some.ensures ready) c.in_default-next.is) (c.loop-turn.invariant rows ready covers counted))

pub returns : goal.returns
returns g c rows ready covers counted =
    let law = g.met.M.Out.Tally in
    walk-done (g.M.Measure.given c.args.measure.now) g.M.Out.Tally.none g.M.Out.Tally.joining law.associative law.commutative law.neutral rows _ _ _
    (omega arith) (c.loop-turn.invariant rows ready covers counted)
