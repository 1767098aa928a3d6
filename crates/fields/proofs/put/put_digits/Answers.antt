use Rattle.std.proofs.Common.{◌≡◌, ◌+◌, ◌-◌, length, take, drop, sym, ◌∙◌, arith}
use Rattle.std.proofs.lemmas.List.{drop-drop, length-drop, length-take-le}
use Rattle.layout.proofs.Writing.{length-digit_bytes, over-within, over-past}
use Rattle.fields.proofs.put.put_digits.Goals as goal

pub returns-then-end-room : goal.returns-then-end-room
returns-then-end-room c =
    let size = length-digit_bytes c.args.base c.args.count c.args.value in
    let count : c.args.offset + c.args.count - c.args.offset ≡ c.args.count = omega arith in
    let part : length (take (c.args.offset + c.args.count - c.args.offset) (drop c.args.offset c.args.room.now)) ≡ c.args.count =
    rw count (length-take-le c.args.count _ (simp length-drop (omega arith))) in
    rw (c.fill.ensures, part, count, drop-drop) (sym (over-within _ _ _ (omega arith) ∙ rw size))

pub returns-else-end-room : goal.returns-else-end-room
returns-else-end-room c =
    let size = length-digit_bytes c.args.base c.args.count c.args.value in
    sym (over-past _ _ _ (omega arith))
