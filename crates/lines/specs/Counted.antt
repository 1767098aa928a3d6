-- What is counted of lines.
use Rattle.std.specs.Prelude.{◌≡◌, ℕ, Bool, cond, List, [], ◌∷◌, ◌++◌}
use Rattle.capture.specs.Counts.{more}
use Rattle.lines.specs.declared.totals.Totals.{Totals}
use Rattle.lines.specs.Listings.{is_read, is_refused, is_rewritten, totals_text}

-- one more if it is so
abbrev pub more_if : Bool → ℕ → ℕ
more_if so n = cond so (more n) n

-- the totals with a line more
abbrev pub counted : (line : List ℕ) → Totals → Totals
counted line t = record {
  lines = more t.lines;
  read = more_if (is_read line) t.read;
  refused = more_if (is_refused line) t.refused;
  rewritten = more_if (is_rewritten line) t.rewritten;
}

abbrev pub none_counted : Totals
none_counted = record { lines = 0; read = 0; refused = 0; rewritten = 0 }

-- the totals after lines
abbrev pub after : List (List ℕ) → Totals → Totals
after [] t = t
after (line ∷ lines) t = after lines (counted line t)

-- as many are rewritten as are read
abbrev pub IsEven : Totals → Type 0
IsEven t = t.rewritten ≡ t.read

-- what is printed of the totals
abbrev pub totals_told : Totals → List ℕ
totals_told t = totals_text t.lines t.read t.refused t.rewritten ++ (10 ∷ [])
