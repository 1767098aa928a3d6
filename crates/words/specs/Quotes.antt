-- Bytes between quotation marks, as a complaint shows them: printable ASCII on one line, whatever they are.
use Rattle.std.specs.Prelude.{ℕ, ◌/◌, ◌%◌, ◌||◌, false, cond, List, [], ◌∷◌, ◌++◌, codes, ◌==◌}
use Rattle.std.specs.Fmt.{digits}
use Rattle.layout.specs.Bytes.{is_printable}

-- a quotation mark and a backslash stand behind a backslash, and what is not printable is told by two hexadecimal digits
abbrev pub byte_text : ℕ → List ℕ
byte_text b =
    cond (b == 34 || b == 92) (92 ∷ b ∷ [])
    (cond (is_printable b) (b ∷ []) (codes "\\x" ++ (digits 16 false (b / 16) ++ digits 16 false (b % 16))))

-- each byte in turn
unfoldable pub bytes_text : List ℕ → List ℕ
bytes_text [] = []
bytes_text (b ∷ bs) = byte_text b ++ bytes_text bs

abbrev pub quoted_text : List ℕ → List ℕ
quoted_text bytes = codes "\"" ++ (bytes_text bytes ++ codes "\"")
