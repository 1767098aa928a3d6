use Rattle.std.proofs.Common.{◌≡◌, codes, false, rules}
use Rattle.std.specs.Str.{bytes_eq}
use Rattle.calls.proofs.parse.opening.Goals as goal

pub returns-in_default : goal.returns-in_default
returns-in_default c =
    let other : bytes_eq c.cut.result.0.now (codes "front") ≡ false = search rules in
    rw (c.in_ok-line.ensures, c.cut.ensures, other) (rw c.cut.ensures at c.shaped-in_default.ensures)
