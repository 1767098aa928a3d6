use Rattle.std.proofs.Common.{◌≡◌, ℕ, ◌+◌, ◌-◌, arith, lit<, lit≤}
use mir.Facts.{Fits-bits}
use Rattle.std.proofs.lemmas.Int.Digits.{number_after_append}
use Rattle.std.proofs.lemmas.List.{replicate_more}
use Rattle.layout.proofs.Digits.{push-lt}
use Rattle.layout.proofs.Scanning.{push-fits}
use Rattle.fields.proofs.text.filled.Goals as goal

pub overflow_mul-full : goal.overflow_mul-full
overflow_mul-full c =
    let below = push-fits 256 _ 8 _ 32 c.loop.invariant.1 (lit< tt) (omega arith) (lit≤ tt) in
    Fits-bits 64 tt (omega arith)

pub overflow_add-full : goal.overflow_add-full
overflow_add-full c = Fits-bits 64 tt (push-fits 256 _ 8 _ 32 c.loop.invariant.1 (lit< tt) (omega arith) (lit≤ tt))

pub loop-preserved : goal.loop-preserved
loop-preserved c =
    let more : 8 - (c.args.count - c.loop.counter) + 1 ≡ 8 - (c.args.count - (c.loop.counter + 1)) = omega arith in (
      rw (c.loop.invariant.0, ← replicate_more {X = ℕ} c.loop.counter 32, number_after_append),
      rw (← more) (push-lt 256 _ _ 32 c.loop.invariant.1 (lit< tt)),
    )
