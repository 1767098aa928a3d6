use Rattle.std.proofs.Common.{Some, None, ◌∙◌, sym, ap}
use Rattle.std.specs.List.{slice_get}
use Rattle.std.specs.Option.{option_and_then}
use Rattle.row_store.proofs.Places.{looked-up, read-at}
use Rattle.row_store.proofs.seek.find_row.Goals as goal

pub returns-in_err-place : goal.returns-in_err-place
returns-in_err-place g c h =
    let xs = c.args.rows.now in
    c.from_residual.ensures ∙ ap (option_and_then (slice_get xs)) {x = None} c.in_err-place.ensures.value ∙ sym (looked-up g.R.Record.key c.args.key xs c.seek.result c.seek.ensures h)

pub returns : goal.returns
returns g c h =
    let xs = c.args.rows.now in
    c.copied.ensures ∙ read-at xs _ _ c.get.ensures.lookup ∙ ap (option_and_then (slice_get xs)) {x = Some c.in_ok-place.place} c.in_ok-place.ensures.value
    ∙ sym (looked-up g.R.Record.key c.args.key xs c.seek.result c.seek.ensures h)
