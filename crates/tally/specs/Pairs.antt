-- Two tallies side by side.
use Rattle.tally.specs.declared.both.Both.{Both}

-- each joined with its like
abbrev pub pairwise : {A B : Type 0} → (A → A → A) → (B → B → B) → Both A B → Both A B → Both A B
pairwise f g x y = record { first = f x.first y.first; second = g x.second y.second }
