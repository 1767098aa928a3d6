use Rattle.std.proofs.Common.{◌++◌, OnOk, length, true, subst}
use Rattle.std.specs.Io.KnownBytes.{Appends}
use Rattle.day_rules.specs.Questions.{rows_in, market_in}
use Rattle.day_lines.specs.Texts.{in_line, rows_text}
use Rattle.reports.specs.Texts.{lines_report}
use Rattle.replaying.specs.Texts.{market_line, book_lines, counts_text}
use Rattle.replaying.proofs.Reporting.{both}
use Rattle.replaying.proofs.report.close.Goals as goal

pub returns : goal.returns
returns g c =
    let day = c.args.ledger.now in
    let seen = c.args.seen.now in
    let was = g.W.Write.contents c.args.output.now in
    let rowed = g.W.Write.contents c.show_rows.new.output in
    let marketed = g.W.Write.contents c.show_market.new.output in
    let booked = g.W.Write.contents c.show_book.new.output in
    let is = g.W.Write.contents c.show_totals.new.output in
    let rows = rows_text true (rows_in (length c.args.places.now) day) in
    let market = market_line (market_in day) in
    let book = book_lines c.args.book day in
    let totals = in_line (lines_report seen.lines.lines day.accepted) ++ counts_text 0 seen.refusals.counts in
    let market_shown : Appends rowed marketed market = subst (λ m. Appends rowed marketed (market_line m)) c.market.ensures.says c.in_ok-show_market.ensures in
    let totals_shown : OnOk c.show_totals.result (Appends booked is totals) =
    subst (λ n. OnOk c.show_totals.result (Appends booked is (in_line (lines_report seen.lines.lines n) ++ counts_text 0 seen.refusals.counts))) c.accepted.ensures.says c.show_totals.ensures in
    both c.show_totals.result was rowed is rows (market ++ (book ++ totals)) c.in_ok-show_rows.ensures
    (both c.show_totals.result rowed marketed is market (book ++ totals) market_shown
    (both c.show_totals.result marketed booked is book totals c.in_ok-show_book.ensures totals_shown))
