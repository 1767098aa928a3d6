use Rattle.std.proofs.Common.{◌≡◌, false, length, ◌∙◌, arith, rules}
use Rattle.std.proofs.lemmas.Result.{on_ok_weaker}
use Rattle.churn.specs.Counts.{come_to}
use Rattle.churn.specs.Runs.{counts_line, load_filled}
use Rattle.churn.specs.Times.{is_timed}
use Rattle.churn.proofs.Churning.{churn_goes_on, filled_from, load_counted, load_limit, said_after}
use Rattle.churn.proofs.run.Bench.run_load.Given
use Rattle.churn.proofs.run.Bench.run_load.Goals as goal

pub loop-left-preserved : goal.loop-left-preserved
loop-left-preserved g c =
    let was = c.loop-left.invariant in record {
      ready = c.churn.ensures.still was.ready;
      timed = c.lap-in-loop-left.ensures.still ∙ was.timed;
      silent = λ off. c.lap-in-loop-left.ensures.silent (was.timed ∙ off) ∙ was.silent off;
      inside = omega arith;
      done =
          churn_goes_on _ c.loop-left.left c.min-part.result _
          (come_to c.loop-left.counts c.loop-left.feed c.loop-left.live
          (g.S.Store.model c.loop-left.store))
          _ was.inside (omega arith) was.done (c.churn.ensures.leaves was.ready);
    }

filled_so : (g : Given.Over) (c : goal.After-show g)
    → come_to c.fill.new.self c.fill.new.feed c.fill.new.live (g.S.Store.model c.fill.new.store)
    ≡ load_filled c.args.load (g.S.Store.model c.args.store.now).limit (length c.args.live.now)
filled_so g c =
    filled_from c.args.load _ (length c.args.live.now) c.default-counts.result c.new-feed.result _ _
    (search rules) c.new-feed.ensures c.empty.ensures.leaves
    (c.fill.ensures.leaves c.empty.ensures.still)

pub returns-clause-says : goal.returns-clause-says
returns-clause-says g c = λ untimed.
    let was = c.loop-left.invariant in
    let timed = c.in_ok-watch.ensures.says in
    let off : is_timed c.lap.new.self ≡ false = c.lap.ensures.still ∙ timed ∙ untimed in
    let silent = c.walk_and_sweep.ensures.silent (was.timed ∙ off) ∙ was.silent off in
    on_ok_weaker c.show.result
    (said_after g.W.Write.contents c.args.output.now c.walk_and_sweep.new.output
    c.show.new.output (counts_line c.args.load)
    (silent ∙ c.lap.ensures.silent (timed ∙ untimed))
    (c.in_ok-walk_and_sweep.ensures.counts was.ready
    ∙ load_counted _ _ _ _ c.loop-left.left _
    (come_to c.loop-left.counts c.loop-left.feed c.loop-left.live
    (g.S.Store.model c.loop-left.store))
    (filled_so g c) was.done (omega arith)))
    c.show.ensures

pub returns-clause-limit : goal.returns-clause-limit
returns-clause-limit g c =
    on_ok_weaker c.show.result
    (λ _. c.in_ok-walk_and_sweep.ensures.limit c.loop-left.invariant.ready
    ∙ load_limit c.args.load _ (length c.args.live.now) c.args.self.now.asked.now.sizes.pairs
    c.loop-left.left _
    (come_to c.loop-left.counts c.loop-left.feed c.loop-left.live
    (g.S.Store.model c.loop-left.store))
    (filled_so g c) c.loop-left.invariant.done (omega arith))
    c.show.ensures
