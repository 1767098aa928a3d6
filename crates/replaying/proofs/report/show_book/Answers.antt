use Rattle.std.proofs.Common.{OnOk, subst, sym}
use Rattle.std.specs.Io.KnownBytes.{Appends}
use Rattle.messages.specs.declared.code.Side.TheVariants.{Buy, Sell}
use Rattle.replaying.specs.Texts.{book_lines, side_line}
use Rattle.replaying.proofs.Reporting.{both}
use Rattle.replaying.proofs.report.show_book.Goals as goal

pub returns : goal.returns
returns g c =
    let was = g.W.Write.contents c.args.output.now in
    let is = g.W.Write.contents c.show_side-2.new.output in
    let symbol = c.in-Some.symbol in
    let ledger = c.args.ledger.now in
    subst (λ o. OnOk c.show_side-2.result (Appends was is (book_lines o ledger))) (sym c.in-Some.is)
    (both c.show_side-2.result was (g.W.Write.contents c.show_side.new.output) is (side_line symbol Buy ledger) (side_line symbol Sell ledger) c.in_ok-show_side.ensures c.show_side-2.ensures)
