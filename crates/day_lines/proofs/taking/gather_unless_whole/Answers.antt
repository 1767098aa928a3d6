use Rattle.std.proofs.Common.{◌≡◌, ℕ, ◌≤◌, List, [], ◌∷◌, ◌++◌, length, take, sym, arith, take_all}
use Rattle.std.proofs.lemmas.Bool.{eqb-true}
use Rattle.capture.specs.Held.{held}
use Rattle.day_lines.proofs.taking.gather_unless_whole.Goals as goal

-- a line that lies whole in the piece
whole_line : (begun end : List ℕ) → length begun ≡ 0 → length end ≤ 255 → take 255 (begun ++ end) ≡ end
whole_line [] end none fits = take_all 255 end fits
whole_line (x ∷ xs) end none fits = absurd (omega arith)

pub returns-then-end-le255 : goal.returns-then-end-le255
returns-then-end-le255 c = sym (whole_line (held c.args.begun.now) c.args.end.now (eqb-true _ 0 (sym c.if-is_empty.ensures)) c.if-end-le255.true)
