use Rattle.keys.proofs.Words.{symbol-spells}
use Rattle.keys.proofs.key.symbol.Goals as goal

pub returns : goal.returns
returns c = record {
  value = c.symbol_in.ensures;
  spelled = λ v. rw c.symbol_in.ensures (symbol-spells c.args.word.now v);
}
