use Rattle.keys.proofs.Words.{id-spells}
use Rattle.keys.proofs.key.id.Goals as goal

pub returns : goal.returns
returns c = record {
  value = c.id_in.ensures;
  spelled = λ v. rw c.id_in.ensures (id-spells c.args.word.now v);
}
