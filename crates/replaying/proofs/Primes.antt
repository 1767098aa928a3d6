-- Primes: by divisors up to the root, and one number after another.
use Rattle.std.proofs.Common.{◌≡◌, ℕ, zero, suc, ◌+◌, ◌-◌, ◌*◌, ◌/◌, ◌%◌, ◌<◌, ◌≤◌, Bool, true, false, Some, None, sym, refl, ap, ◌∙◌, arith, add-zero}
use Rattle.std.proofs.lemmas.Bool.Decides.{nat_tests}
use Rattle.std.proofs.Math.Nat.{div-add-mod, mul-mod_left, div-lt_iff_lt-mul, mul-le-mul_left}
use Rattle.replaying.specs.Slots.{undivided, is_prime, prime_among}

-- neither 0 nor 1 counts
pub undivided-two : (n : ℕ) → undivided n 2 ≡ true
unfolding undivided
undivided-two n = refl

-- one more number does not divide n
pub undivided-more : (n m : ℕ) → undivided n m ≡ true → (n % m ≡ 0 → ⊥) → undivided n (m + 1) ≡ true
unfolding undivided
undivided-more n m e ne = let one : m + 1 ≡ suc m = omega arith in rw one (grind (arith, nat_tests))

-- no number from 2 on that is below the bound divides n
undivided-at : (n m q : ℕ) → undivided n m ≡ true → 2 ≤ q → q < m → n % q ≡ 0 → ⊥
unfolding undivided
undivided-at n zero q e two less z = omega arith
undivided-at n (suc m) q e two less z = grind (arith, nat_tests, undivided-at n m q)

decided : (b : Bool) → (b ≡ true → ⊥) → b ≡ false
decided true none = absurd (none refl)
decided false none = refl

-- where one does, it is no prime
pub undivided-not : (n m q : ℕ) → 2 ≤ q → q < m → n % q ≡ 0 → undivided n m ≡ false
undivided-not n m q two less z = decided (undivided n m) (λ e. undivided-at n m q e two less z)

-- a divisor m beyond the root has a lesser one beside it
beyond : (n d m : ℕ) → undivided n d ≡ true → n / d < d → d ≤ m → m < n → n % m ≡ 0 → ⊥
beyond n d m e root far less z =
    let q : ℕ = n / m in
    let whole : m * q + n % m ≡ n = div-add-mod n m in
    let product : m * q ≡ n = omega (arith, whole, z) in
    let some : 0 < d = omega arith in
    let square : n < d * d = (div-lt_iff_lt-mul some).0 root in
    let longer : d * d ≤ d * m = mul-le-mul_left d far in
    let more : 0 < m = omega arith in
    let below : q < d = (div-lt_iff_lt-mul more).1 (omega (arith, square, longer)) in
    let two : 2 ≤ q = grind arith in
    undivided-at n d q e two below (ap (λ (x : ℕ). x % q) (sym product) ∙ mul-mod_left m q)

beyond-all : (n d k : ℕ) → undivided n d ≡ true → n / d < d → d + k ≤ n → undivided n (d + k) ≡ true
beyond-all n d zero e root far = rw (add-zero d) e
beyond-all n d (suc k) e root far =
    let one : d + suc k ≡ d + k + 1 = omega arith in
    rw one
    (undivided-more n (d + k) (beyond-all n d k e root (omega arith)) (beyond n d (d + k) e root (omega arith) (omega arith)))

-- divisors up to the root are all
pub undivided-all : (n d : ℕ) → undivided n d ≡ true → n / d < d → d ≤ n → undivided n n ≡ true
undivided-all n d e root far =
    let all = beyond-all n d (n - d) e root (omega arith) in
    let whole : d + (n - d) ≡ n = omega arith in
    rw whole at all

-- the first number is prime
pub prime_among-first : (count n : ℕ) → 0 < count → is_prime n ≡ true → prime_among count n ≡ Some n
unfolding prime_among
prime_among-first zero n some prime = absurd (omega arith)
prime_among-first (suc count) n some prime = rw prime refl

-- or it is not
pub prime_among-later : (count n : ℕ) → 0 < count → is_prime n ≡ false
    → prime_among (count - 1) (n + 1) ≡ prime_among count n
unfolding prime_among
prime_among-later zero n some prime = absurd (omega arith)
prime_among-later (suc count) n some prime =
    let less : suc count - 1 ≡ count = omega arith in ap (λ (k : ℕ). prime_among k (n + 1)) less ∙ rw prime refl

-- or there is none left
pub prime_among-none : (count n : ℕ) → count ≡ 0 → prime_among count n ≡ None
unfolding prime_among
prime_among-none count n none = rw none refl
