use Rattle.std.proofs.Common.{codes, refl, rules, arith}
use Rattle.std.proofs.lemmas.Slice.Eq.{text_from_reads}
use Rattle.calls.proofs.verb.verb_of.Goals as goal

pub returns-in-store : goal.returns-in-store
returns-in-store c = rw (text_from_reads c.args.word.now (codes "store") (omega arith) (search rules)) refl

pub returns-in-insert : goal.returns-in-insert
returns-in-insert c = rw (text_from_reads c.args.word.now (codes "insert") (omega arith) (search rules)) refl

pub returns-in-find : goal.returns-in-find
returns-in-find c = rw (text_from_reads c.args.word.now (codes "find") (omega arith) (search rules)) refl

pub returns-in-from : goal.returns-in-from
returns-in-from c = rw (text_from_reads c.args.word.now (codes "from") (omega arith) (search rules)) refl

pub returns-in-replace : goal.returns-in-replace
returns-in-replace c = rw (text_from_reads c.args.word.now (codes "replace") (omega arith) (search rules)) refl

pub returns-in-remove : goal.returns-in-remove
returns-in-remove c = rw (text_from_reads c.args.word.now (codes "remove") (omega arith) (search rules)) refl

pub returns-in-stands : goal.returns-in-stands
returns-in-stands c = rw (text_from_reads c.args.word.now (codes "stands") (omega arith) (search rules)) refl

pub returns-in-count : goal.returns-in-count
returns-in-count c = rw (text_from_reads c.args.word.now (codes "count") (omega arith) (search rules)) refl

pub returns-in-limit : goal.returns-in-limit
returns-in-limit c = rw (text_from_reads c.args.word.now (codes "limit") (omega arith) (search rules)) refl

pub returns-in-empty : goal.returns-in-empty
returns-in-empty c = rw (text_from_reads c.args.word.now (codes "empty") (omega arith) (search rules)) refl
