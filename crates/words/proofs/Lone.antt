-- Lines of one word.
use Rattle.std.proofs.Common.{◌≡◌, ℕ, Bool, true, false, cond, ◌&&◌, eqb, List, [], ◌∷◌, None, sym, refl, ap, subst, ⊎_elim}
use Rattle.std.proofs.lemmas.Bool.{cases_Bool, eqb-true}
use Rattle.layout.specs.Bytes.{is_digit}
use Rattle.words.specs.Numbers.{are_digits, spelt, narrow, number_of, one_of}
use Rattle.words.specs.Words.{onto, words}

-- where there is one word it is the line, and where there are more the line is not all digits
abbrev Lone : List ℕ → List (List ℕ) → Type 0
Lone xs [] = ⊥
Lone xs (w ∷ []) = w ≡ xs
Lone xs (w ∷ (v ∷ ws)) = are_digits xs ≡ false

and-false : (t u : Bool) → u ≡ false → (t && u) ≡ false
and-false true u e = e
and-false false u e = refl

onto-lone : (x : ℕ) (xs : List ℕ) (ws : List (List ℕ)) → Lone xs ws → Lone (x ∷ xs) (onto x ws)
onto-lone x xs [] h = absurd h
onto-lone x xs (w ∷ []) h = ap (λ ys. x ∷ ys) h
onto-lone x xs (w ∷ (v ∷ ws)) h = and-false (is_digit x) (are_digits xs) h

-- a space is no digit, and there is a word after it
space-lone : (x : ℕ) (xs : List ℕ) (ws : List (List ℕ)) → x ≡ 32 → Lone xs ws → Lone (x ∷ xs) ([] ∷ ws)
space-lone x xs [] e h = absurd h
space-lone x xs (w ∷ ws) e h =
    let P : ℕ → Type 0 = λ y. (is_digit y && are_digits xs) ≡ false in subst P (sym e) refl

lone : (xs : List ℕ) → Lone xs (words xs)
unfolding words
lone [] = refl
lone (x ∷ xs) =
    ⊎_elim
    (λ e. let is = eqb-true x 32 e in rw e (space-lone x xs (words xs) is (lone xs)))
    (λ e. rw e (onto-lone x xs (words xs) (lone xs)))
    (cases_Bool (eqb x 32))

not-digits : (xs : List ℕ) → are_digits xs ≡ false → number_of xs ≡ None
not-digits [] e = refl
not-digits (x ∷ xs) e = ap (λ t. cond t (narrow (spelt 0 (x ∷ xs))) None) e

lone-number : (xs : List ℕ) (ws : List (List ℕ)) → Lone xs ws → number_of xs ≡ one_of ws
lone-number xs [] h = absurd h
lone-number xs (w ∷ []) h = ap number_of (sym h)
lone-number xs (w ∷ (v ∷ ws)) h = not-digits xs h

pub number-alone : (xs : List ℕ) → number_of xs ≡ one_of (words xs)
number-alone xs = lone-number xs (words xs) (lone xs)
