use Rattle.std.proofs.Common.{codes, refl, rules, arith}
use Rattle.std.proofs.lemmas.Slice.Eq.{text_from_reads}
use Rattle.words.proofs.kind.kind_of.Goals as goal

pub returns-in-row : goal.returns-in-row
returns-in-row c = rw (text_from_reads c.args.word.now (codes "row") (omega arith) (search rules)) refl

pub returns-in-hashed : goal.returns-in-hashed
returns-in-hashed c = rw (text_from_reads c.args.word.now (codes "hashed") (omega arith) (search rules)) refl

pub returns-in-spread : goal.returns-in-spread
returns-in-spread c = rw (text_from_reads c.args.word.now (codes "spread") (omega arith) (search rules)) refl
