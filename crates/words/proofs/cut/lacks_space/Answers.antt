use Rattle.words.specs.Words.{words_after}
use Rattle.words.proofs.Cutting.{ends-is}
use Rattle.words.proofs.cut.lacks_space.Goals as goal

pub returns : goal.returns
returns c = ends-is (λ x. x.now) (words_after c.args.rest.now) c.after_space.result c.is_none.result c.is_none.ensures c.after_space.ensures
