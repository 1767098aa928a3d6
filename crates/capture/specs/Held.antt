-- What a line's buffer holds.
use Rattle.std.specs.Prelude.{ℕ, Bool, cond, List, take, Some, None, Option}
use Rattle.capture.specs.declared.buffer.LineBuffer.{LineBuffer}

-- the bytes that have come; those behind them say nothing
abbrev pub held : LineBuffer → List ℕ
held b = take b.len b.bytes

-- the line that it holds, if there is one
abbrev pub if_there : Bool → LineBuffer → Option (List ℕ)
if_there there b = cond there (Some (held b)) None
