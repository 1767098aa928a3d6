-- Each value's letter is one of its type's letters.
use Rattle.std.specs.Prelude.{◌≡◌, true, refl}
use Rattle.layout.specs.Slots.{is_one_of}
use Rattle.messages.specs.declared.code.Side.{Side}
use Rattle.messages.specs.declared.code.Side.TheVariants.{Buy, Sell}
use Rattle.messages.specs.declared.code.TradeSide.{TradeSide}
use Rattle.messages.specs.declared.code.TradeSide.TheVariants as trade
use Rattle.messages.specs.declared.code.Display.{Display}
use Rattle.messages.specs.declared.code.Display.TheVariants.{Quoted, Unquoted}
use Rattle.messages.specs.declared.code.Customer.{Customer}
use Rattle.messages.specs.declared.code.Customer.TheVariants.{Retail, Blank}
use Rattle.messages.specs.Codes.{side_letter, trade_side_letter, display_letter, customer_letter, side_letters, trade_side_letters, display_letters, customer_letters}

pub side_member : (x : Side) → is_one_of side_letters (side_letter x) ≡ true
side_member Buy = refl
side_member Sell = refl

pub trade_side_member : (x : TradeSide) → is_one_of trade_side_letters (trade_side_letter x) ≡ true
trade_side_member trade.Buy = refl

pub display_member : (x : Display) → is_one_of display_letters (display_letter x) ≡ true
display_member Quoted = refl
display_member Unquoted = refl

pub customer_member : (x : Customer) → is_one_of customer_letters (customer_letter x) ≡ true
customer_member Retail = refl
customer_member Blank = refl
