-- The checksum of a buffer: each line that ends in 0x0A, read, and every number of what it says mixed in.
use Rattle.std.specs.Prelude.{ℕ, ◌+◌, ◌*◌, ◌%◌, ◌^◌, cond, List, [], ◌∷◌, ◌++◌, Ok, Err, Result, ◌==◌}
use Rattle.messages.specs.declared.fault.MessageFault.{MessageFault}
use Rattle.messages.specs.Types.{MessageType}
use Rattle.messages.specs.Faults.{number_of, carried_of}
use Rattle.messages.specs.Lines.{line_read}

-- one number more, in 64 bits
unfoldable pub mixed : ℕ → ℕ → ℕ
mixed sum v = (sum * 31 % 2 ^ 64 + v) % 2 ^ 64

abbrev pub mixed_all : ℕ → List ℕ → ℕ
mixed_all sum [] = sum
mixed_all sum (v ∷ vs) = mixed_all (mixed sum v) vs

-- what a line said: the values of its fields, or the refusal's number and what it carries
abbrev pub after_line : ℕ → Result (MessageType × List ℕ) MessageFault → ℕ
after_line sum (Ok p) = mixed_all sum p.1
after_line sum (Err e) = mixed_all sum (number_of e ∷ carried_of e)

-- the line's bytes so far, and the bytes that follow; what no 0x0A ends is left out
unfoldable pub after_bytes : ℕ → List ℕ → List ℕ → ℕ
after_bytes sum line [] = sum
after_bytes sum line (x ∷ xs) = cond (x == 10) (after_bytes (after_line sum (line_read line)) [] xs) (after_bytes sum (line ++ (x ∷ [])) xs)

abbrev pub checksum : List ℕ → ℕ
checksum xs = after_bytes 0 [] xs
