-- Which fields' texts are text: those of IDs, and of symbols that some line gives.
use Rattle.std.proofs.Common.{◌≡◌, ℕ, zero, suc, ◌+◌, ◌<◌, eqb, List, [], ◌∷◌, ◌++◌, map, length, replicate, sym, ap, ◌∙◌, subst, refl, true, ⊎_elim, append-nil, arith, lit<, lit≤}
use Rattle.std.specs.List.{AllByRecursion as All}
use Rattle.std.specs.Str.{IsUtf8, IsAscii}
use Rattle.std.proofs.ByRecursion.{All-append, All-weaker}
use Rattle.std.proofs.lemmas.Bool.{cases_Bool}
use Rattle.std.proofs.lemmas.Bool.Decides.{nat_tests}
use Rattle.std.proofs.lemmas.List.{drop_all, length-replicate}
use Rattle.std.proofs.lemmas.Str.{IsUtf8-from_ascii}
use Rattle.layout.specs.declared.class.Class.TheVariants.{Graphic}
use Rattle.layout.specs.Bytes.{byte_within, is_of}
use Rattle.layout.specs.Digits.{digits, digit_bytes}
use Rattle.layout.specs.Slots.{Spells, spell, over}
use Rattle.layout.proofs.Digits.{under-digits}
use Rattle.layout.proofs.Padding.{class-bound}
use Rattle.layout.proofs.Spelling.{lawful}
use Rattle.layout.proofs.Writing.{over-within, length-digit_bytes}
use Rattle.messages.specs.Layouts.{identifier, long_symbol}
use Rattle.forms.specs.Texts.{before_text, without_spaces, id_text, symbol_text}

abbrev Plain : List ℕ → Type 0
Plain xs = All (λ x. x < 128) xs

plain-ascii : (xs : List ℕ) → Plain xs → IsAscii xs
plain-ascii [] h i = lit< tt
plain-ascii (x ∷ xs) h zero = h.0
plain-ascii (x ∷ xs) h (suc i) = plain-ascii xs h.1 i

plain-before : (x : ℕ) (ys : List ℕ) → x < 128 → Plain ys → Plain (before_text x ys)
plain-before x [] lt h = ⊎_elim (λ e. rw e tt) (λ e. rw e (lt, tt)) (cases_Bool (eqb x 32))
plain-before x (y ∷ ys) lt h = (lt, h)

plain-without : (xs : List ℕ) → Plain xs → Plain (without_spaces xs)
unfolding without_spaces
plain-without [] h = tt
plain-without (x ∷ xs) h = plain-before x (without_spaces xs) h.0 (plain-without xs h.1)

-- written over as many bytes
over-whole : (p xs : List ℕ) → length p ≡ length xs → over 0 p xs ≡ p
over-whole p xs e =
    over-within 0 p xs (omega arith) ∙ ap (λ ys. p ++ ys) (drop_all (0 + length p) xs (omega arith)) ∙ append-nil p

plain-legible : (p : List ℕ) (n : ℕ) → length p ≡ n → Plain p → IsUtf8 (without_spaces (over 0 p (replicate n 32)))
plain-legible p n size h =
    let same : over 0 p (replicate n 32) ≡ p = over-whole p (replicate n 32) (size ∙ sym (length-replicate n 32)) in
    IsUtf8-from_ascii _ (plain-ascii _ (plain-without _ (subst Plain (sym same) h)))

digit-plain : (d : ℕ) → d < 36 → byte_within 36 d < 128
unfolding byte_within
digit-plain d lt = grind (arith, nat_tests)

digits-plain : (ds : List ℕ) → All (λ d. d < 36) ds → Plain (map (byte_within 36) ds)
digits-plain [] h = tt
digits-plain (d ∷ ds) h = (digit-plain d h.0, digits-plain ds h.1)

pub id_legible : (n : ℕ) → IsUtf8 (id_text n)
unfolding digit_bytes
id_legible n = plain-legible (spell identifier n) 12 (length-digit_bytes 36 12 n) (digits-plain (digits 36 12 n) (under-digits 36 12 n (lit≤ tt)))

spaces-plain : (n : ℕ) → Plain (replicate n 32)
spaces-plain zero = tt
spaces-plain (suc n) = (lit< tt, spaces-plain n)

pub symbol_legible : (n : ℕ) (p : List ℕ) → Spells long_symbol p n → IsUtf8 (symbol_text n)
symbol_legible n p h =
    let laws = lawful long_symbol refl in
    let plain : Plain p = subst Plain (sym h.split) (All-append (λ x. x < 128) h.name (replicate h.spaces 32) (All-weaker (λ x. is_of Graphic x ≡ true) (λ x. x < 128) (λ x e. let b = (class-bound Graphic x e).1 in omega arith) h.name h.inside) (spaces-plain h.spaces)) in
    plain-legible (spell long_symbol n) 8 (laws.long n) (subst Plain (sym (laws.again p n h)) plain)
