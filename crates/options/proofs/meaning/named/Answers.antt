use Rattle.std.proofs.Common.{codes, refl, rules, arith}
use Rattle.std.proofs.lemmas.Slice.Eq.{text_from_reads}
use Rattle.options.proofs.meaning.named.Goals as goal

pub returns-in-front : goal.returns-in-front
returns-in-front c = rw (text_from_reads c.args.name.now (codes "front") (omega arith) (search rules)) refl

pub returns-in-answers : goal.returns-in-answers
returns-in-answers c = rw (text_from_reads c.args.name.now (codes "answers") (omega arith) (search rules)) refl

pub returns-in-quiet : goal.returns-in-quiet
returns-in-quiet c = rw (text_from_reads c.args.name.now (codes "quiet") (omega arith) (search rules)) refl

pub returns-in-help : goal.returns-in-help
returns-in-help c = rw (text_from_reads c.args.name.now (codes "help") (omega arith) (search rules)) refl

pub returns-in-store : goal.returns-in-store
returns-in-store c = rw (text_from_reads c.args.name.now (codes "store") (omega arith) (search rules)) refl

pub returns-in-orders : goal.returns-in-orders
returns-in-orders c = rw (text_from_reads c.args.name.now (codes "orders") (omega arith) (search rules)) refl

pub returns-in-executions : goal.returns-in-executions
returns-in-executions c = rw (text_from_reads c.args.name.now (codes "executions") (omega arith) (search rules)) refl

pub returns-in-symbols : goal.returns-in-symbols
returns-in-symbols c = rw (text_from_reads c.args.name.now (codes "symbols") (omega arith) (search rules)) refl

pub returns-in-100 : goal.returns-in-100
returns-in-100 c = rw (text_from_reads c.args.name.now (codes "day-limit") (omega arith) (search rules)) refl

pub returns-in-book : goal.returns-in-book
returns-in-book c = rw (text_from_reads c.args.name.now (codes "book") (omega arith) (search rules)) refl
