use Rattle.messages.proofs.Laws.{writing}
use Rattle.pitch.proofs.writer.write.Goals as goal

pub returns : goal.returns
returns c =
    let done = c.write_line.ensures in
    record { says = done.says; leaves = done.leaves; promise = writing c.args.message.now c.args.place c.args.buf.now _ _ done.says done.leaves }
