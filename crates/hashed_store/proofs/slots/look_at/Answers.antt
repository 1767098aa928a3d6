use Rattle.std.proofs.Common.{sym, ◌∙◌}
use Rattle.std.proofs.lemmas.Bool.{eq-eqb, ne_eqb}
use Rattle.hashed_store.proofs.Lent.{used_slot, empty_slot, tagged_other}
use Rattle.hashed_store.proofs.slots.look_at.Goals as goal

pub returns-then-held-eq0 : goal.returns-then-held-eq0
returns-then-held-eq0 g c = sym (empty_slot _ _ _ c.requires.0 (eq-eqb _ _ c.if-held-eq0.true))

pub returns-then-held-tag : goal.returns-then-held-tag
returns-then-held-tag g c =
    tagged_other g.R.Record.key _ _ _ _ c.requires.0 c.requires.2 (ne_eqb _ _ c.if-held-eq0.false) (λ e. c.if-held-tag.true (e ∙ sym c.requires.1))

pub returns-then-key : goal.returns-then-key
returns-then-key g c =
    let here = used_slot c.args.tags.now c.args.rows.now c.args.place c.index-rows-place.result c.requires.0 (ne_eqb _ _ c.if-held-eq0.false) in
    rw (← here, ← c.index-rows-place.is) (sym c.key.ensures ∙ c.if-key.true)

pub returns-else-key : goal.returns-else-key
returns-else-key g c =
    let here = used_slot c.args.tags.now c.args.rows.now c.args.place c.index-rows-place.result c.requires.0 (ne_eqb _ _ c.if-held-eq0.false) in
    rw (← here, ← c.index-rows-place.is) (λ e. c.if-key.false (c.key.ensures ∙ e))
