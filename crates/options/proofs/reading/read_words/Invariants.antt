-- What is read so far, and then the words to come, is what is read of all.
use Rattle.std.proofs.Common.{◌≡◌, map, drop}
use Rattle.options.specs.Requests.{words_read, request_of}
use Rattle.options.proofs.reading.read_words.Given as goal

abbrev pub invariant-loop-place : goal.invariant-loop-place
invariant-loop-place l = words_read l.place (drop l.place (map (λ word. word.now) l.words)) l.reading ≡ request_of (map (λ word. word.now) l.words)
