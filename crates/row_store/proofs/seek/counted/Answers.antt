use mathlib.Core.List.Permᴰ
use Rattle.row_store.proofs.seek.counted.Goals as goal

pub returns-clause-covers : goal.returns-clause-covers
returns-clause-covers g c = Permᴰ.refl c.args.rows.now
