use Rattle.std.proofs.Common.{sym, ◌∙◌, add-one, arith}
use Rattle.std.proofs.lemmas.List.{set_split}
use Rattle.layout.proofs.Writing.{over-within, over-past}
use Rattle.fields.proofs.put.put_byte.Goals as goal

pub returns-then-at-room : goal.returns-then-at-room
returns-then-at-room c = set_split c.args.room.now c.args.offset c.args.byte c.if-at-room.true ∙ sym (over-within _ _ _ (omega arith) ∙ rw add-one)

pub returns-else-at-room : goal.returns-else-at-room
returns-else-at-room c = sym (over-past _ _ _ (omega arith))
