use Rattle.std.proofs.Common.{arith}
use Rattle.layout.proofs.Reading.{scan-empty, scan-letter}
use Rattle.fields.proofs.letter.LetterField.scan.Goals as goal

pub returns-in-Ok : goal.returns-in-Ok
returns-in-Ok g c =
    let held = c.in-Some.ensures.item.3 in
    rw c.in-Ok.is at (scan-letter g.L.Lettered.letters c.args.line.now _ g.L.Lettered.written g.L.Lettered.member c.in-Some.byte.now held.0 (held.1 0) c.try_from.result (g.met.L.Lettered.reads _ _ c.try_from.ensures))

pub returns-in-Err : goal.returns-in-Err
returns-in-Err g c =
    let held = c.in-Some.ensures.item.3 in
    rw c.in-Err.is at (scan-letter g.L.Lettered.letters c.args.line.now _ g.L.Lettered.written g.L.Lettered.member c.in-Some.byte.now held.0 (held.1 0) c.try_from.result (g.met.L.Lettered.reads _ _ c.try_from.ensures))

pub returns-in_default : goal.returns-in_default
returns-in_default g c = scan-empty g.L.Lettered.letters c.args.line.now (omega (arith, c.in_default.ensures.item.3))
