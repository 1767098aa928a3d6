use Rattle.std.proofs.Common.{◌≡◌, ◌++◌, map, length}
use Rattle.words.specs.Words.{words}
use Rattle.words.proofs.cut.list_words.Given as goal

-- what is listed so far, and then the words to come, are the words of the line
abbrev pub invariant-loop-more : goal.invariant-loop-more
invariant-loop-more l = map (λ slice. slice.now) l.slices.items ++ words l.rest ≡ words l.line

abbrev pub decreases-loop-more : goal.decreases-loop-more
decreases-loop-more l = length l.rest
