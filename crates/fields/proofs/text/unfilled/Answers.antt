use Rattle.std.proofs.Common.{pow-suc, add-one}
use native.Mathlib.Nat.{div-div-eq-div-mul}
use Rattle.fields.proofs.text.unfilled.Goals as goal

pub loop-preserved : goal.loop-preserved
loop-preserved c = rw (c.loop.invariant, div-div-eq-div-mul, add-one, pow-suc)
