use Rattle.std.proofs.Common.{◌++◌, arith, get_or, rules}
use Rattle.std.proofs.Output.{has_written_append, has_written_of_eq}
use Rattle.words.specs.Quotes.{byte_text}
use Rattle.words.proofs.Quoting.{one-more, no-more}
use Rattle.words.proofs.quoted.BytesFormDisplay.fmt.Goals as goal

pub loop-byte-preserved : goal.loop-byte-preserved
loop-byte-preserved g c = λ plain.
    let so_far = c.loop-byte.invariant plain in
    let bytes = c.args.self.now.0.now in
    (so_far.0 ++ byte_text (get_or bytes c.loop-byte.byte-index 0), has_written_append _ _ _ _ _ _ so_far.1 (search rules), one-more so_far.0 bytes c.loop-byte.byte-index so_far.2 (omega arith))

pub returns-clause-writes : goal.returns-clause-writes
returns-clause-writes g c = λ plain _.
    let so_far = c.loop-byte.invariant plain in
    has_written_of_eq _ _ _ _ _ (no-more so_far.0 c.args.self.now.0.now c.loop-byte.byte-index so_far.2 (omega arith)) so_far.1
