use Rattle.std.proofs.Common.{◌≡◌, ℕ, eqb, Ok, Err, Result, ap, ◌∙◌, arith, MatchResult}
use Rattle.std.specs.Result.{result_eq}
use Rattle.layout.specs.Slots.{scan_slot, spell, is_read_again}
use Rattle.layout.proofs.Writing.{length-digit_bytes, scan-over}
use Rattle.fields.specs.Slots.{text_slot}
use Rattle.fields.proofs.text.TextField.gives.Goals as goal

-- what the walk answered is compared with the number
compared : (v : ℕ) (r walk : Result ℕ ℕ) → MatchResult r (λ w. walk ≡ Ok w) (λ i. walk ≡ Err i) → result_eq eqb eqb r (Ok v) ≡ is_read_again v walk
compared v (Ok w) walk h = rw h
compared v (Err i) walk h = rw h

-- and over the written bytes it is what it is over the number's own
pub returns : goal.returns
returns c =
    let f = c.args.self in
    let within = f.inside in
    let fits = f.fits in
    let walk = scan-over (text_slot f) (spell (text_slot f) c.args.value.now) _ (length-digit_bytes 256 f.width _) (omega arith) in
    c.eq.ensures ∙ compared c.args.value.now c.scan.result _ c.scan.ensures ∙ ap (is_read_again c.args.value.now) (ap (scan_slot (text_slot f)) c.put.ensures ∙ walk)
