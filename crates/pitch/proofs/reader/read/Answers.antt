use Rattle.std.proofs.Common.{sym}
use Rattle.messages.proofs.Back.{message-read}
use Rattle.messages.proofs.Laws.{reading}
use Rattle.messages.proofs.Symbols.{symbols-agree}
use Rattle.pitch.proofs.reader.read.Goals as goal

pub returns : goal.returns
returns c = record {
  value = c.read_line.ensures;
  message = sym (message-read c.args.line.now c.read_line.result c.read_line.ensures);
  promise = reading c.args.line.now c.read_line.result c.read_line.ensures;
  symbols = symbols-agree;
}
