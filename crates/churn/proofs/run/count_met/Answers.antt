use Rattle.std.proofs.Common.{ap, ◌∙◌}
use Rattle.churn.proofs.Walking.{walk-counted}
use Rattle.churn.proofs.run.count_met.Goals as goal

pub returns : goal.returns
returns g c = λ ready.
    ap (λ total. total.number)
    (c.walk.ensures.says ready ∙ walk-counted (g.S.Store.model c.args.store.now).rows)
