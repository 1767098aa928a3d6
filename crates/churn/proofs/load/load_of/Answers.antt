use Rattle.std.proofs.Common.{codes, refl, rules, arith}
use Rattle.std.proofs.lemmas.Slice.Eq.{text_from_reads}
use Rattle.churn.proofs.load.load_of.Goals as goal

pub returns-in-queue : goal.returns-in-queue
returns-in-queue c =
    rw (text_from_reads c.args.word.now (codes "queue") (omega arith) (search rules)) refl

pub returns-in-rising : goal.returns-in-rising
returns-in-rising c =
    rw (text_from_reads c.args.word.now (codes "rising") (omega arith) (search rules)) refl

pub returns-in-scattered : goal.returns-in-scattered
returns-in-scattered c =
    rw (text_from_reads c.args.word.now (codes "scattered") (omega arith) (search rules)) refl
