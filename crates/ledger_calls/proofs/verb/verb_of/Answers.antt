use Rattle.std.proofs.Common.{codes, refl, rules, arith}
use Rattle.std.proofs.lemmas.Slice.Eq.{text_from_reads}
use Rattle.ledger_calls.proofs.verb.verb_of.Goals as goal

pub returns-in-order : goal.returns-in-order
returns-in-order c = rw (text_from_reads c.args.word.now (codes "order") (omega arith) (search rules)) refl

pub returns-in-execution : goal.returns-in-execution
returns-in-execution c = rw (text_from_reads c.args.word.now (codes "execution") (omega arith) (search rules)) refl

pub returns-in-row : goal.returns-in-row
returns-in-row c = rw (text_from_reads c.args.word.now (codes "row") (omega arith) (search rules)) refl

pub returns-in-from : goal.returns-in-from
returns-in-from c = rw (text_from_reads c.args.word.now (codes "from") (omega arith) (search rules)) refl

pub returns-in-rows : goal.returns-in-rows
returns-in-rows c = rw (text_from_reads c.args.word.now (codes "rows") (omega arith) (search rules)) refl

pub returns-in-book : goal.returns-in-book
returns-in-book c = rw (text_from_reads c.args.word.now (codes "book") (omega arith) (search rules)) refl

pub returns-in-market : goal.returns-in-market
returns-in-market c = rw (text_from_reads c.args.word.now (codes "market") (omega arith) (search rules)) refl

pub returns-in-accepted : goal.returns-in-accepted
returns-in-accepted c = rw (text_from_reads c.args.word.now (codes "accepted") (omega arith) (search rules)) refl
