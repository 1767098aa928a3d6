use Rattle.messages.proofs.Laws.{put-told}
use Rattle.pitch.proofs.writer.put_from.Goals as goal

pub returns : goal.returns
returns g c m told =
    let law = g.met.K.Kind in
    put-told m _ _ told _ law.laid _ law.sized c.args.place c.args.buf.now c.put.new.room c.requires c.put.ensures
