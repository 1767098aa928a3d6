-- The lines of an input of which some bytes have come.
use Rattle.std.proofs.Common.{◌≡◌, ℕ, zero, suc, ◌<◌, ◌≤◌, ◌==◌, false, List, [], ◌∷◌, ◌++◌, length, map, take, Some, None, sym, refl, ap, ◌∙◌, ⊎_elim, arith, append-nil, append_assoc, length-append, eq-eqb, ne_eqb, take_all}
use Rattle.std.proofs.lemmas.Bool.{cases_eq}
use Rattle.std.specs.Io.BufRead.{drop_through}
use Rattle.capture.specs.Begun.{IsCut, IsUnended}
use Rattle.capture.specs.Lines.{passed_on, lines_of}
use Rattle.capture.specs.Splits.{before_end, after_end}
use Rattle.capture.proofs.Reading.{take-front, before-whole, through-whole, before-cut, shorter, whole-first, unended-both}

-- No line ends before the first line end, nor in a front of what has none.

unended-before : (xs : List ℕ) → IsUnended (before_end xs)
unended-before [] = refl
unended-before (x ∷ xs) =
    ⊎_elim
    (λ e. let off = eq-eqb x 10 e in rw off refl)
    (λ e. let off = ne_eqb x 10 e in rw (off, off) (unended-before xs))
    (cases_eq x 10)

pub unended-front : (n : ℕ) (xs : List ℕ) → IsUnended xs → IsUnended (take n xs)
unended-front zero xs none = refl
unended-front (suc n) [] none = refl
unended-front (suc n) (x ∷ xs) none =
    ⊎_elim
    (λ (e : x ≡ 10). let off = eq-eqb x 10 e in absurd (let f : Some xs ≡ None = rw off at none in cc))
    (λ e. let off = ne_eqb x 10 e in rw off (unended-front n xs (rw off at none)))
    (cases_eq x 10)

-- so the line goes on where none ends
pub unended-on : (begun piece : List ℕ) → IsUnended begun → IsUnended (take 255 (begun ++ before_end piece))
unended-on begun piece none =
    unended-front 255 (begun ++ before_end piece) (unended-both begun (before_end piece) none (unended-before piece))

-- what stands behind the first line end
through-next : (piece rest r : List ℕ) → after_end piece ≡ Some r → drop_through 10 (piece ++ rest) ≡ r ++ rest
through-next [] rest r some = cc
through-next (x ∷ xs) rest r some =
    ⊎_elim
    (λ (e : x ≡ 10). let off = eq-eqb x 10 e in let same : xs ≡ r = (let f : Some xs ≡ Some r = rw off at some in cc) in rw off (ap (λ t. t ++ rest) same))
    (λ e. let off = ne_eqb x 10 e in rw off (through-next xs rest r (rw off at some)))
    (cases_eq x 10)

-- the line that was begun, and the others
line-first : (begun rest : List ℕ) → IsUnended begun → 0 < length (begun ++ rest) → lines_of (begun ++ rest) ≡ take 255 (begun ++ before_end rest) ∷ lines_of (drop_through 10 rest)
line-first [] [] none some = absurd (omega arith)
line-first [] (y ∷ ys) none some = ap (map passed_on) (whole-first y ys)
line-first (x ∷ xs) rest none some =
    ap (map passed_on) (whole-first x (xs ++ rest))
    ∙ (λ i. take 255 (before-whole (x ∷ xs) rest none i) ∷ lines_of (through-whole (x ∷ xs) rest none i))

-- it ends in the piece
pub line-cut : (begun piece rest r : List ℕ) → IsUnended begun → after_end piece ≡ Some r → lines_of (begun ++ (piece ++ rest)) ≡ take 255 (begun ++ before_end piece) ∷ lines_of (r ++ rest)
line-cut begun piece rest r none some =
    let size = shorter piece r some in
    line-first begun (piece ++ rest) none (let a = length-append begun (piece ++ rest) in let b = length-append piece rest in omega arith)
    ∙ (λ i. take 255 (begun ++ before-cut piece rest r some i) ∷ lines_of (through-next piece rest r some i))

-- what is kept of it is as good as all of it
pub front-kept : (begun rest : List ℕ) → IsUnended begun → lines_of (take 255 begun ++ rest) ≡ lines_of (begun ++ rest)
front-kept [] rest none = refl
front-kept (x ∷ xs) rest none =
    line-first (take 255 (x ∷ xs)) rest (unended-front 255 (x ∷ xs) none) (omega arith)
    ∙ ap (λ line. line ∷ lines_of (drop_through 10 rest)) (take-front 255 (x ∷ xs) (before_end rest))
    ∙ sym (line-first (x ∷ xs) rest none (omega arith))

-- it goes on
pub cut-none : (begun piece : List ℕ) → IsUnended begun → IsUnended piece → IsCut begun piece [] (take 255 (begun ++ before_end piece))
cut-none begun piece none also rest =
    let all : before_end piece ≡ piece = ap before_end (sym (append-nil piece)) ∙ before-whole piece [] also ∙ append-nil piece in
    ap lines_of (sym (append_assoc begun piece rest))
    ∙ sym (front-kept (begun ++ piece) rest (unended-both begun piece none also))
    ∙ ap (λ p. lines_of (take 255 (begun ++ p) ++ rest)) (sym all)

-- nothing more comes
pub line-alone : (begun : List ℕ) → IsUnended begun → length begun ≤ 255 → (length begun == 0) ≡ false → lines_of begun ≡ begun ∷ []
line-alone [] none fits some = cc
line-alone (x ∷ xs) none fits some =
    ap lines_of (sym (append-nil (x ∷ xs))) ∙ line-first (x ∷ xs) [] none (omega arith)
    ∙ ap (λ line. line ∷ []) (ap (take 255) (append-nil (x ∷ xs)) ∙ take_all 255 (x ∷ xs) fits)

-- it ends, and then those that end behind it
pub cut-first : (begun piece next left line : List ℕ) (lines : List (List ℕ)) → IsUnended begun → after_end piece ≡ Some next → line ≡ take 255 (begun ++ before_end piece)
    → IsCut [] next lines left → IsCut begun piece (line ∷ lines) left
cut-first begun piece next left line lines none ends is others rest = line-cut begun piece rest next none ends ∙ (λ i. sym is i ∷ others rest i)

-- a piece and then another
pub cut-both : (begun piece between next left : List ℕ) (xs ys : List (List ℕ)) → IsCut begun piece xs between → IsCut between next ys left → IsCut begun (piece ++ next) (xs ++ ys) left
cut-both begun piece between next left xs ys first second rest =
    ap (λ bytes. lines_of (begun ++ bytes)) (append_assoc piece next rest) ∙ first (next ++ rest)
    ∙ ap (λ lines. xs ++ lines) (second rest) ∙ sym (append_assoc xs ys (lines_of (left ++ rest)))
