-- A message is known by its kind and its values.
use Rattle.std.proofs.Common.{◌≡◌, ℕ, List, Ok, Err, Result, sym, refl, ap, ◌∙◌, MatchResult}
use Rattle.messages.specs.declared.code.Side.{Side}
use Rattle.messages.specs.declared.code.Side.TheVariants.{Buy, Sell}
use Rattle.messages.specs.declared.code.TradeSide.{TradeSide}
use Rattle.messages.specs.declared.code.TradeSide.TheVariants as trade
use Rattle.messages.specs.declared.code.Display.{Display}
use Rattle.messages.specs.declared.code.Display.TheVariants.{Quoted, Unquoted}
use Rattle.messages.specs.declared.code.Customer.{Customer}
use Rattle.messages.specs.declared.code.Customer.TheVariants.{Retail, Blank}
use Rattle.messages.specs.declared.fault.MessageFault.{MessageFault}
use Rattle.messages.specs.declared.message.Message.{Message}
use Rattle.messages.specs.declared.message.Message.TheVariants as message
use Rattle.messages.specs.Codes.{side_letter, display_letter, customer_letter}
use Rattle.messages.specs.Lines.{told, line_read}
use Rattle.messages.specs.Telling.{side_of, display_of, customer_of, message_of, as_message, line_message}

side-back : (x : Side) → side_of (side_letter x) ≡ x
side-back Buy = refl
side-back Sell = refl

trade-side-back : (x : TradeSide) → trade.Buy ≡ x
trade-side-back trade.Buy = refl

display-back : (x : Display) → display_of (display_letter x) ≡ x
display-back Quoted = refl
display-back Unquoted = refl

customer-back : (x : Customer) → customer_of (customer_letter x) ≡ x
customer-back Retail = refl
customer-back Blank = refl

pub back-told : (m : Message) → message_of (told m) ≡ m
back-told (message.SymbolClear r) = refl
back-told (message.AddShort r) = rw (side-back r.terms.side, display-back r.display)
back-told (message.AddLong r) = rw (side-back r.add.terms.side, display-back r.add.display, customer-back r.customer)
back-told (message.OrderExecuted r) = refl
back-told (message.OrderCancel r) = refl
back-told (message.TradeShort r) = rw (trade-side-back r.terms.side)
back-told (message.TradeLong r) = rw (trade-side-back r.terms.side)
back-told (message.TradeBreak r) = refl

pub told-apart : (m n : Message) → told m ≡ told n → m ≡ n
told-apart m n e = sym (back-told m) ∙ ap message_of e ∙ back-told n

-- what reading answers, in both ways of saying it
pub message-read : (xs : List ℕ) (r : Result Message MessageFault) → MatchResult r (λ m. line_read xs ≡ Ok (told m)) (λ e. line_read xs ≡ Err e) → line_message xs ≡ r
unfolding line_message
message-read xs (Ok m) h = ap as_message h ∙ ap Ok (back-told m)
message-read xs (Err e) h = ap as_message h
