-- The opening of a store, and what is printed after it.
use Rattle.std.proofs.Common.{◌≡◌, ℕ, List, Option, Some, Result, Ok, Err, IfOk, None, refl}
use Rattle.std.specs.Io.KnownBytes.{Appends}
use Rattle.capture.specs.Counts.{more}
use Rattle.capture.specs.Sessions.{Says}
use Rattle.capture.proofs.Saying.{says_both}
use Rattle.calls.specs.declared.reply.Reply.TheVariants.{Opened}
use Rattle.calls.specs.Replies.{Stored}
use Rattle.store_calls.specs.Runs.{reply_line, said_on, begun_text}

-- the opening of a store, and then a part that may fail
pub says_opened : {X E : Type 0} (answer : Result X E) (before coming was then is : Option (List ℕ)) (n count limit : ℕ) (s : Stored) (stored : Option Stored) (last : X → List (List ℕ) → List ℕ)
    → count ≡ more n → limit ≡ s.model.limit → stored ≡ Some s → Appends was then (reply_line (more n) (Opened limit))
    → IfOk answer (λ next. Says before coming then is (said_on count stored) (last next)) → IfOk answer (λ next. Says before coming was is (begun_text n s) (last next))
says_opened (Err e) before coming was then is n count limit s stored last counts same is_open appends part = tt
says_opened (Ok next) before coming was then is n count limit s stored last counts same is_open appends part =
    says_both before before coming was then is (begun_text n s) (said_on count stored) (last next) (first before) part
  where
    first : (before : Option (List ℕ)) → Says before before was then (begun_text n s) (said_on count stored)
    first None = tt
    first (Some bytes) = record { rest = bytes; left = refl; printed = reply_line (more n) (Opened limit); appends = appends; whole = rw (counts, same, is_open) refl }
