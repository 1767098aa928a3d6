-- Digits in any base: a number's digits give it back, and digits are those of their number.
use Rattle.std.proofs.Common.{◌≡◌, ℕ, zero, suc, ◌+◌, ◌*◌, ◌/◌, ◌%◌, ◌^◌, ◌<◌, ◌≤◌, List, [], ◌∷◌, length, sym, refl, ap, ◌∙◌, subst, add-zero, add_assoc, mod-lt, mod-eq_of_lt, mul_assoc, mul_comm, add-mul, pow-suc, zero-add, zero-mul, mul-one, add-one, arith}
use native.Mathlib.Nat.{pow-zero, mod-one, one-le-pow}
use lib.Arith.{digits_lt, digits_div, digits_mod, mod-mul}
use Rattle.std.specs.Int.Digits.{number_from_digits, number_from_digits_after, AllBelowBase}
use Rattle.std.proofs.lemmas.Int.Digits.{number_lt}
use Rattle.layout.specs.Digits.{digits}

-- one digit more stays below the next power
pub push-lt : (b i v d : ℕ) → v < b ^ i → d < b → v * b + d < b ^ (i + 1)
push-lt b i v d h k = rw (add-one, pow-suc) (digits_lt h k)

pow-least : (b n : ℕ) → 2 ≤ b → 0 < b ^ n
pow-least b n h = one-le-pow n b (omega arith)

-- a number after others: they are shifted up
pub number_after-is : (b a : ℕ) (ds : List ℕ) → number_from_digits_after b a ds ≡ a * b ^ length ds + number_from_digits b ds
number_after-is b a [] = rw (pow-zero, mul-one, add-zero)
number_after-is b a (d ∷ ds) =
    number_after-is b (a * b + d) ds ∙ rw (number_after-is b (0 * b + d) ds, pow-suc, zero-mul, zero-add, add-mul, mul_comm (b ^ length ds) b, mul_assoc, add_assoc)

pub length_digits : (b n v : ℕ) → length (digits b n v) ≡ n
unfolding digits
length_digits b zero v = refl
length_digits b (suc n) v = ap suc (length_digits b n v)

pub under-digits : (b n v : ℕ) → 2 ≤ b → AllBelowBase b (digits b n v)
unfolding digits
under-digits b zero v h = tt
under-digits b (suc n) v h = (mod-lt (v / b ^ n) (omega arith), under-digits b n v h)

pub number_digits : (b n v : ℕ) → 2 ≤ b → number_from_digits b (digits b n v) ≡ v % b ^ n
unfolding digits
number_digits b zero v h = rw (pow-zero, mod-one)
number_digits b (suc n) v h =
    number_after-is b (0 * b + v / b ^ n % b) (digits b n v) ∙ rw (length_digits b n v, number_digits b n v h, zero-mul, zero-add, pow-suc, mul_comm (b ^ n) b)
    (sym (mod-mul v (omega arith) (pow-least b n h)))

-- digits of one length with one number are the same
pub same_digits : (b : ℕ) (xs ys : List ℕ) → 2 ≤ b → AllBelowBase b xs → AllBelowBase b ys → length xs ≡ length ys → number_from_digits b xs ≡ number_from_digits b ys → xs ≡ ys
same_digits b [] [] h u w l e = refl
same_digits b [] (y ∷ ys) h u w l e = absurd (omega arith)
same_digits b (x ∷ xs) [] h u w l e = absurd (omega arith)
same_digits b (x ∷ xs) (y ∷ ys) h u w l e =
    let long : length ys ≡ length xs = omega arith in
    let small = subst (λ (k : ℕ). number_from_digits b ys < b ^ k) long (number_lt b ys w.1) in
    let left : number_from_digits b (x ∷ xs) ≡ x * b ^ length xs + number_from_digits b xs = number_after-is b (0 * b + x) xs ∙ rw (zero-mul, zero-add) in
    let right : number_from_digits b (y ∷ ys) ≡ y * b ^ length xs + number_from_digits b ys = number_after-is b (0 * b + y) ys ∙ rw (long, zero-mul, zero-add) in
    let both = sym left ∙ e ∙ right in
    let heads : x ≡ y = sym (digits_div x (number_lt b xs u.1)) ∙ ap (λ n. n / b ^ length xs) both ∙ digits_div y small in
    let rests : number_from_digits b xs ≡ number_from_digits b ys = sym (digits_mod x (number_lt b xs u.1)) ∙ ap (λ n. n % b ^ length xs) both ∙ digits_mod y small in
    let tails = same_digits b xs ys h u.1 w.1 (sym long) rests in
    cc

pub digits_number : (b n : ℕ) (ds : List ℕ) → 2 ≤ b → AllBelowBase b ds → length ds ≡ n → digits b n (number_from_digits b ds) ≡ ds
digits_number b n ds h u l =
    let small : number_from_digits b ds < b ^ n = subst (λ (k : ℕ). number_from_digits b ds < b ^ k) l (number_lt b ds u) in
    same_digits b (digits b n (number_from_digits b ds)) ds h (under-digits b n (number_from_digits b ds) h) u (length_digits b n (number_from_digits b ds) ∙ sym l)
    (number_digits b n (number_from_digits b ds) h ∙ mod-eq_of_lt small)
