use Rattle.messages.specs.Lines.{read_row}
use Rattle.pitch.proofs.reader.read_record.Goals as goal

pub returns : goal.returns
unfolding read_row
returns g c =
    let kind = g.met.K.Kind in
    rw (kind.lettered, kind.laid) at c.read.ensures
