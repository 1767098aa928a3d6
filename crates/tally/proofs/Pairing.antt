-- What two tallies of the same records come to is what each comes to.
use Rattle.std.proofs.Common.{◌≡◌, List, [], ◌∷◌, map, refl}
use Rattle.tally.specs.declared.both.Both.{Both}
use Rattle.tally.specs.Joining.{joined_all}
use Rattle.tally.specs.Pairs.{pairwise}

pub both-joined : {X A B : Type 0} (a : A) (f : A → A → A) (g : X → A) (b : B) (h : B → B → B) (k : X → B) (xs : List X)
    → joined_all (let z : Both A B = record { first = a; second = b } in z) (pairwise f h) (map (λ x. record { first = g x; second = k x }) xs)
    ≡ record { first = joined_all a f (map g xs); second = joined_all b h (map k xs) }
both-joined a f g b h k [] = refl
both-joined a f g b h k (x ∷ xs) = let e = both-joined a f g b h k xs in rw e refl
