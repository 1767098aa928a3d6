-- What is printed one after the other.
use Rattle.std.proofs.Common.{◌≡◌, ℕ, ◌+◌, ◌<◌, ◌≤◌, List, [], ◌∷◌, ◌++◌, length, get_or, drop, Option, sym, refl, ap, subst, ◌∙◌, append_assoc, append-nil}
use Rattle.std.specs.Io.KnownBytes.{Appends}
use Rattle.std.proofs.KnownBytes.{Appends-nil, Appends-trans}
use Rattle.std.proofs.lemmas.List.{drop_all}
use Rattle.std.proofs.Math.Seq.{drop-cons}
use native.Mathlib.Numerals.{unary_clauses}

-- what stands before the place n is printed; `text` is what is printed of those from a place on
pub record Showing {X : Type 0} (text : ℕ → List X → List ℕ) (was is : Option (List ℕ)) (xs : List X) (n : ℕ) : Type 0 where
  pub printed : List ℕ
  pub appends : Appends was is printed
  pub whole : printed ++ text n (drop n xs) ≡ text 0 xs

pub showing_starts : {X : Type 0} (text : ℕ → List X → List ℕ) (was : Option (List ℕ)) (xs : List X) → Showing text was was xs 0
showing_starts text was xs = record { printed = []; appends = Appends-nil was; whole = refl }

module _ {X : Type 0} (text : ℕ → List X → List ℕ) (was is : Option (List ℕ)) (xs : List X) (n : ℕ) (s : Showing text was is xs n) where
  pub showing_on : (item : ℕ → X → List ℕ) → ((x : X) (rest : List X) → text n (x ∷ rest) ≡ item n x ++ text (n + 1) rest)
      → (is' : Option (List ℕ)) (default : X) → n < length xs → Appends is is' (item n (get_or xs n default)) → Showing text was is' xs (n + 1)
  showing_on item next is' default more shown =
      let x = get_or xs n default in
      let first : drop n xs ≡ x ∷ drop (n + 1) xs = simp unary_clauses (drop-cons xs n default more) in record {
        printed = s.printed ++ item n x;
        appends = Appends-trans was is is' s.printed (item n x) s.appends shown;
        whole =
            append_assoc s.printed (item n x) (text (n + 1) (drop (n + 1) xs))
            ∙ ap (λ t. s.printed ++ t) (sym (next x (drop (n + 1) xs)) ∙ ap (text n) (sym first)) ∙ s.whole;
      }

  pub showing_ends : text n [] ≡ [] → length xs ≤ n → Appends was is (text 0 xs)
  showing_ends none over =
      subst (Appends was is) (sym (append-nil s.printed) ∙ ap (λ t. s.printed ++ t) (sym none ∙ ap (text n) (sym (drop_all n xs over))) ∙ s.whole) s.appends
