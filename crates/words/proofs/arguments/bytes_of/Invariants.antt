use Rattle.std.proofs.Common.{◌≡◌, map, take}
use Rattle.words.proofs.arguments.bytes_of.Given as goal

-- what is listed are the words so far
abbrev pub invariant-loop-word : goal.invariant-loop-word
invariant-loop-word l = map (λ slice. slice.now) l.slices.items ≡ map (λ word. word.items) (take l.word-index l.words)
