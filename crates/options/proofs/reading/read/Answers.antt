use Rattle.std.proofs.Common.{map}
use Rattle.options.proofs.First.{is_first}
use Rattle.options.proofs.Last.{has_last}
use Rattle.options.proofs.reading.read.Goals as goal

pub returns : goal.returns
returns c =
    let words = map (λ word. word.now) c.args.words.now in record {
      value = c.read_words.ensures;
      last = has_last words c.read_words.result c.read_words.ensures;
      first = is_first words c.read_words.result c.read_words.ensures;
    }
