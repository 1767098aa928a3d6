-- How the time of a part is told, where times are asked for.
use Rattle.std.specs.Prelude.{ℕ, Bool, List, [], ◌∷◌, ◌++◌, None, codes, decimal, is_some}
use Rattle.churn.specs.declared.watch.Watch.{Watch}

-- a watch that tells no times
abbrev pub stopped : Watch
stopped = record { start = None }

-- times are told
abbrev pub is_timed : Watch → Bool
is_timed watch = is_some watch.start

abbrev pub took_text : (part : List ℕ) → (calls nanos : ℕ) → List ℕ
took_text part calls nanos =
    codes "(took "
    ++ (part
    ++ (codes " (calls " ++ (decimal calls ++ (codes ") (ns " ++ (decimal nanos ++ codes "))")))))

-- the same in a line
abbrev pub took_line : (part : List ℕ) → (calls nanos : ℕ) → List ℕ
took_line part calls nanos = took_text part calls nanos ++ (10 ∷ [])
