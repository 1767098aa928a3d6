-- Command lines that are shown one after the other.
use Rattle.std.proofs.Common.{◌≡◌, ℕ, ◌+◌, ◌<◌, ◌≤◌, List, [], ◌∷◌, ◌++◌, length, map, get_or, drop, Option, sym, ap, subst, ◌∙◌, append_assoc, append-nil, arith}
use Rattle.std.specs.Io.KnownBytes.{Appends}
use Rattle.std.proofs.KnownBytes.{Appends-nil, Appends-trans}
use Rattle.std.proofs.lemmas.List.{drop-map, drop_all, length-map}
use Rattle.std.proofs.Math.Seq.{drop-cons}
use native.Mathlib.Numerals.{unary_clauses}
use Rattle.replay_cases.specs.Texts.{case_text, cases_text, command_text}

-- what stands before the place n is shown
pub record Showing {X : Type 0} (text : X → List ℕ) (usage day : List ℕ) (was is : Option (List ℕ)) (last : List ℕ) (xs : List X) (n : ℕ) : Type 0 where
  pub printed : List ℕ
  pub appends : Appends was is printed
  pub whole : printed ++ cases_text usage last day (drop n (map text xs)) ≡ cases_text usage [] day (map text xs)

pub showing_starts : {X : Type 0} (text : X → List ℕ) (usage day : List ℕ) (was : Option (List ℕ)) (last : List ℕ) (xs : List X) → last ≡ [] → Showing text usage day was was last xs 0
showing_starts text usage day was last xs none = record { printed = []; appends = Appends-nil was; whole = ap (λ l. cases_text usage l day (map text xs)) none }

module _ {X : Type 0} (text : X → List ℕ) (usage day : List ℕ) (was is : Option (List ℕ)) (last : List ℕ) (xs : List X) (n : ℕ) (s : Showing text usage day was is last xs n) where
  pub showing_on : (is' : Option (List ℕ)) (default : X) (shown : List ℕ) → n < length xs → shown ≡ command_text usage day (text (get_or xs n default))
      → Appends is is' (case_text usage last day (text (get_or xs n default))) → Showing text usage day was is' shown xs (n + 1)
  showing_on is' default shown more found says =
      let x = text (get_or xs n default) in
      let first : drop n xs ≡ get_or xs n default ∷ drop (n + 1) xs = simp unary_clauses (drop-cons xs n default more) in
      let split : drop n (map text xs) ≡ x ∷ drop (n + 1) (map text xs) =
      drop-map text n xs ∙ ap (map text) first ∙ ap (λ ws. x ∷ ws) (sym (drop-map text (n + 1) xs)) in record {
        printed = s.printed ++ case_text usage last day x;
        appends = Appends-trans was is is' s.printed (case_text usage last day x) s.appends says;
        whole =
            append_assoc s.printed (case_text usage last day x) (cases_text usage shown day (drop (n + 1) (map text xs)))
            ∙ ap (λ l. s.printed ++ (case_text usage last day x ++ cases_text usage l day (drop (n + 1) (map text xs)))) found
            ∙ ap (λ ws. s.printed ++ cases_text usage last day ws) (sym split) ∙ s.whole;
      }

  pub showing_ends : length xs ≤ n → Appends was is (cases_text usage [] day (map text xs))
  showing_ends over =
      let none : drop n (map text xs) ≡ [] = drop_all n (map text xs) (let l = length-map xs text in omega arith) in
      subst (Appends was is) (sym (append-nil s.printed) ∙ ap (λ ws. s.printed ++ cases_text usage last day ws) (sym none) ∙ s.whole) s.appends
