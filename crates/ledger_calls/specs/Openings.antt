-- The line that opens a ledger: the word ledger, then the limits of its three stores and its day limit.
use Rattle.std.specs.Prelude.{ℕ, ◌&&◌, cond, List, [], ◌∷◌, Some, None, codes, Option, nat_le}
use Rattle.std.specs.Str.{bytes_eq}
use Rattle.words.specs.Numbers.{one_of, first_of}
use Rattle.words.specs.Words.{words}
use Rattle.ledger_calls.specs.declared.opening.Opening.{Opening}

-- what is made of the first word as a number and of the words after it
abbrev pub with_first : Option (ℕ × List (List ℕ)) → (ℕ → List (List ℕ) → Option Opening) → Option Opening
with_first None then = None
with_first (Some p) then = then p.0 p.1

-- the greatest limit of a store
abbrev pub most : ℕ
most = 64

abbrev pub sized : (orders executions symbols : ℕ) → Option ℕ → Option Opening
sized o e s None = None
sized o e s (Some limit) =
    cond (nat_le o most && (nat_le e most && nat_le s most)) (Some (record { orders = o; executions = e; symbols = s; day_limit = limit })) None

abbrev pub sizes_of : List (List ℕ) → Option Opening
sizes_of ws = with_first (first_of ws) (λ o ws. with_first (first_of ws) (λ e ws. with_first (first_of ws) (λ s ws. sized o e s (one_of ws))))

abbrev pub words_open : List (List ℕ) → Option Opening
words_open [] = None
words_open (w ∷ ws) = cond (bytes_eq w (codes "ledger")) (sizes_of ws) None

abbrev pub opening_of : List ℕ → Option Opening
opening_of line = words_open (words line)
