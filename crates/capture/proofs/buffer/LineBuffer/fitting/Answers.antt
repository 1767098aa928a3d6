use Rattle.std.proofs.Common.{◌-◌, arith}
use Rattle.std.proofs.lemmas.List.{length-take, take_min}
use Rattle.capture.proofs.Gathering.{filled}
use Rattle.capture.proofs.buffer.LineBuffer.fitting.Goals as goal

pub returns : goal.returns
returns c =
    let n = c.args.self.now.len in
    let part = c.args.part.now in
    let size = length-take (255 - n) part in
    record {
      value = rw (c.min.ensures, take_min) (filled n (255 - n) c.args.self.now.bytes part (omega arith) (omega arith) (omega arith));
      bound = rw (c.min.ensures, take_min) (omega (arith, size));
    }
