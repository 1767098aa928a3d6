use Rattle.std.proofs.Common.{◌≡◌, ℕ, List, ◌++◌, drop}
use Rattle.std.specs.Fmt.{HasWritten, IsPlainFormatter}
use Rattle.words.specs.Quotes.{bytes_text}
use Rattle.words.proofs.quoted.BytesFormDisplay.fmt.Given as goal

-- what is written so far, and then the bytes to come, is what is written of all
abbrev pub invariant-loop-byte : goal.invariant-loop-byte
invariant-loop-byte g l =
    IsPlainFormatter l.initial.f → (done : List ℕ) × HasWritten g.W.Write.write_str_gives l.initial.f done l.f × (done ++ bytes_text (drop l.byte-index l.self.0.now) ≡ bytes_text l.self.0.now)
