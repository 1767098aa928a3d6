use Rattle.std.proofs.Common.{sym, ◌∙◌}
use Rattle.words.proofs.Decimals.{reads-not}
use Rattle.words.proofs.number.digits.Goals as goal

pub returns-in_err-value : goal.returns-in_err-value
returns-in_err-value c =
    c.from_residual.ensures
    ∙ sym (c.loop-byte.invariant.0
    ∙ reads-not c.loop-byte.value c.loop-byte.byte-index c.args.bytes.now c.loop-byte-test.true (sym c.pushed.ensures ∙ c.in_err-value.was))
