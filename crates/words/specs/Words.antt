-- The words of a line: what stands between its spaces.
use Rattle.std.specs.Prelude.{ℕ, Bool, true, false, cond, List, [], ◌∷◌, Some, None, Option, ◌==◌}

-- a byte before the first word
abbrev pub onto : ℕ → List (List ℕ) → List (List ℕ)
onto x [] = (x ∷ []) ∷ []
onto x (w ∷ ws) = (x ∷ w) ∷ ws

-- the words of a line: one more than there are spaces, and any of them may be empty
unfoldable pub words : List ℕ → List (List ℕ)
words [] = [] ∷ []
words (x ∷ xs) = cond (x == 32) ([] ∷ words xs) (onto x (words xs))

-- the words after a space, of which there are none without one
abbrev pub words_after : List ℕ → List (List ℕ)
words_after [] = []
words_after (x ∷ xs) = cond (x == 32) (words xs) []

-- there is no word
abbrev pub no_more : List (List ℕ) → Bool
no_more [] = true
no_more (w ∷ ws) = false

-- x, if there is no word
abbrev pub bare : {X : Type 0} → X → List (List ℕ) → Option X
bare x ws = cond (no_more ws) (Some x) None

-- the word that stands alone
abbrev pub lone : List (List ℕ) → Option (List ℕ)
lone [] = None
lone (w ∷ ws) = cond (no_more ws) (Some w) None
