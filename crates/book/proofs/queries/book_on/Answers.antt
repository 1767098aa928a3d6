use Rattle.std.proofs.Common.{◌∙◌, ap}
use Rattle.book.proofs.Prices.{best-told}
use Rattle.book.proofs.Sums.{book-joined}
use Rattle.book.proofs.queries.book_on.Goals as goal

pub returns-clause-says : goal.returns-clause-says
returns-clause-says g c ready =
    let e = rw c.side.ensures at (c.walk-seen.ensures.says ready) ∙ book-joined _ _ _ in
    λ i. record { depth = (e i).first; best = (e i).second.price }

pub returns-clause-best : goal.returns-clause-best
returns-clause-best g c ready =
    let e = rw c.side.ensures at (c.walk-seen.ensures.says ready) ∙ book-joined _ _ _ in
    best-told _ _ _ (ap (λ b. b.second.price) e)
