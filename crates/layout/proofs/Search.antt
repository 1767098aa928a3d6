-- The first place at which a test fails: what it says of the places, and when it is which.
use Rattle.std.proofs.Common.{◌≡◌, ℕ, zero, suc, ◌<◌, Bool, true, Some, None, Option, refl, ap, ◌∙◌, ⊎_elim, arith}
use Rattle.std.proofs.lemmas.Bool.{cases_eq, cases_order, cases_Bool, both_ways}
use Rattle.layout.specs.Slots.{or_else, first_failing, Passes, Stops}

abbrev pub Outcome : (ℕ → Bool) → ℕ → Option ℕ → Type 0
Outcome ok n None = Passes ok n
Outcome ok n (Some i) = Stops ok n i

pub passes-more : (ok : ℕ → Bool) (n : ℕ) → Passes ok n → ok n ≡ true → Passes ok (suc n)
passes-more ok n h e j lt = ⊎_elim (λ same. ap ok same ∙ e) (λ other. h j (omega arith)) (cases_eq j n)

next : (ok : ℕ → Bool) (n : ℕ) (o : Option ℕ) → Outcome ok n o → Outcome ok (suc n) (or_else o n (ok n))
next ok n (Some i) h = (omega arith, h.1, h.2)
next ok n None h =
    ⊎_elim (λ e. rw e (passes-more ok n h e)) (λ e. rw e (omega arith, h, e)) (cases_Bool (ok n))

pub outcome : (ok : ℕ → Bool) (n : ℕ) → Outcome ok n (first_failing ok n)
unfolding first_failing
outcome ok zero = λ j lt. absurd (omega arith)
outcome ok (suc n) = next ok n (first_failing ok n) (outcome ok n)

one-outcome : (ok : ℕ → Bool) (n : ℕ) (o p : Option ℕ) → Outcome ok n o → Outcome ok n p → o ≡ p
one-outcome ok n None None g h = refl
one-outcome ok n None (Some i) g h = absurd (both_ways (ok i) h.2 (g i h.0))
one-outcome ok n (Some i) None g h = absurd (both_ways (ok i) g.2 (h i g.0))
one-outcome ok n (Some i) (Some k) g h =
    ap Some
    (⊎_elim
    (λ e. e)
    (⊎_elim (λ lt. absurd (both_ways (ok i) g.2 (h.1 i lt))) (λ gt. absurd (both_ways (ok k) h.2 (g.1 k gt))))
    (cases_order i k))

pub is_none : (ok : ℕ → Bool) (n : ℕ) → Passes ok n → first_failing ok n ≡ None
is_none ok n h = one-outcome ok n (first_failing ok n) None (outcome ok n) h

pub is_some : (ok : ℕ → Bool) (n i : ℕ) → Stops ok n i → first_failing ok n ≡ Some i
is_some ok n i h = one-outcome ok n (first_failing ok n) (Some i) (outcome ok n) h

pub same-failing : (f g : ℕ → Bool) (n : ℕ) → ((j : ℕ) → j < n → f j ≡ g j) → first_failing f n ≡ first_failing g n
unfolding first_failing
same-failing f g zero h = refl
same-failing f g (suc n) h =
    let before = same-failing f g n (λ j lt. h j (omega arith)) in
    let here = h n (omega arith) in
    λ i. or_else (before i) n (here i)
