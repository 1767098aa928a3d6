use Rattle.ledger.proofs.Adding.{listed_rows}
use Rattle.ledger.proofs.ledger.Ledger.rows_by.Goals as goal

pub returns : goal.returns
returns g c fits = listed_rows c.args.self.now c.args.places.now c.rows-count.new.places c.of.result c.rows-count.result c.rows-count.ensures.says c.of.ensures fits
