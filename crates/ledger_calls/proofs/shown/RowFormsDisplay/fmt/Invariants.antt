use Rattle.std.proofs.Common.{◌≡◌, ℕ, List, ◌++◌, drop}
use Rattle.std.specs.Fmt.{HasWritten, IsPlainFormatter}
use Rattle.ledger_calls.specs.Texts.{rows_text}
use Rattle.ledger_calls.proofs.shown.RowFormsDisplay.fmt.Given as goal

-- what is written so far, and then the rows to come, is what is written of all
abbrev pub invariant-loop-row : goal.invariant-loop-row
invariant-loop-row g l =
    IsPlainFormatter l.initial.f → (done : List ℕ) × HasWritten g.W.Write.write_str_gives l.initial.f done l.f × (done ++ rows_text (drop l.row-index l.self.0.now) ≡ rows_text l.self.0.now)
