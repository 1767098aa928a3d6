use Rattle.std.proofs.Common.{rules}
use Rattle.std.proofs.lemmas.List.Sorted.{IsNonDecreasingBy-from_sort_by_key}
use Rattle.store.proofs.Reorderings.{sorted_in_place}
use Rattle.store.proofs.clients.sort.Goals as goal

pub returns : goal.returns
returns g c rows reordered rising =
    sorted_in_place g.R.Record.key c.args.row.now c.sort_unstable_by_key.new.self rows reordered rising c.sort_unstable_by_key.ensures.permutation
    (IsNonDecreasingBy-from_sort_by_key g.R.Record.key _ c.sort_unstable_by_key.ensures.sorted (λ a r q k. search rules))
