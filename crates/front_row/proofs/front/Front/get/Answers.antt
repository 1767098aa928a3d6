use Rattle.std.proofs.Common.{◌≡◌, rules}
use Rattle.front_row.specs.Fronts.{standing}
use Rattle.front_row.proofs.Agreement.{backed-standing}
use Rattle.front_row.proofs.front.Front.get.Goals as goal

pub returns : goal.returns
returns c =
    let says : c.filter.result ≡ standing c.args.self.now.places c.args.key = search rules in
    record { says = says; backed = λ rows. backed-standing c.args.self.now.places rows c.args.key c.filter.result says }
