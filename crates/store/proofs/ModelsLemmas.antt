-- When two stores mean the same.
use Rattle.std.proofs.Common.{◌≡◌}
use Rattle.store.specs.Models.{Model}

pub same-model : {X : Type 0} (m n : Model X) → m.rows ≡ n.rows → m.limit ≡ n.limit → m ≡ n
same-model m n e f = λ i. record { rows = e i; limit = f i }
