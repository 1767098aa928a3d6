-- How much of an input has passed, how fast, and how that is shown.
use Rattle.std.specs.Prelude.{◌≡◌, ◌⊎◌, ◌≤◌, ℕ, ◌+◌, ◌-◌, ◌*◌, ◌/◌, ◌%◌, ◌^◌, Bool, cond, List, [], ◌∷◌, ◌++◌, length, min, codes, decimal, Option, None, Some, ◌==◌, nat_le}
use Rattle.std.specs.List.{filter}
use Rattle.progress.specs.declared.pace.Passed.{Passed}

abbrev pub at_most : ℕ → ℕ
at_most n = min n (2 ^ 64 - 1)

abbrev pub passed_with : (bytes lines : ℕ) → Passed → Passed
passed_with bytes lines p = record { lines = at_most (p.lines + lines); bytes = at_most (p.bytes + bytes) }

abbrev pub per_second : (count nanos : ℕ) → ℕ
per_second count nanos = cond (nanos == 0) 0 (count * 1000000000 / nanos)

-- the line ends among bytes
abbrev pub ends_among : List ℕ → ℕ
ends_among bytes = length (filter (λ b. b == 10) bytes)

abbrev pub progress_text : (lines bytes nanos : ℕ) → List ℕ
progress_text lines bytes nanos =
    decimal lines
    ++ (codes " lines, "
    ++ (decimal (bytes / 1000000)
    ++ (codes "." ++ (decimal (bytes / 100000 % 10) ++ (codes " MB, " ++ (decimal (per_second lines nanos) ++ codes " lines a second"))))))

-- what has passed with some bytes more: nothing is counted before a start
abbrev pub passed_since : {T : Type 0} → Option T → (bytes : List ℕ) → Passed → Passed
passed_since None bytes p = p
passed_since (Some start) bytes p = passed_with (length bytes) (ends_among bytes) p

-- a line is due a second after the last
abbrev pub is_due : (last nanos : ℕ) → Bool
is_due last nanos = nat_le 1000000000 (nanos - last)

-- when the last line was told, once one is told where it is due
abbrev pub last_told : (last nanos : ℕ) → ℕ
last_told last nanos = cond (is_due last nanos) nanos last

-- the line that is told, where one is due
abbrev pub told_line : (last nanos : ℕ) → Passed → List ℕ
told_line last nanos p = cond (is_due last nanos) (progress_text p.lines p.bytes nanos ++ 10 ∷ []) []

-- by the clock a second at least has passed since something was told last, or nothing is told
abbrev pub Paused : {E : Type 0} → (was is : E) (last now : ℕ) → Type 0
Paused was is last now = ((is ≡ was) × (now ≡ last)) ⊎ (last + 1000000000 ≤ now)
