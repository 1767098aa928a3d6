-- How a message is shown: its letter, and then its fields in the order of the line.
use Rattle.std.specs.Prelude.{ℕ, cond, List, [], ◌∷◌, ◌++◌, length, replicate, codes, decimal, encode_utf8, ◌==◌}
use Rattle.layout.specs.Slots.{spell, over}
use Rattle.messages.specs.Types as kind
use Rattle.messages.specs.Layouts.{letter_of, participant}
use Rattle.messages.specs.Codes.{side_letter, trade_side_letter, display_letter, customer_letter}
use Rattle.messages.specs.declared.message.Message.{Message}
use Rattle.messages.specs.declared.message.Message.TheVariants.{SymbolClear, AddShort, AddLong, OrderExecuted, OrderCancel, TradeShort, TradeLong, TradeBreak}
use Rattle.messages.specs.declared.record.ClearSymbol.{ClearSymbol}
use Rattle.messages.specs.declared.record.AddOrder.{AddOrder}
use Rattle.messages.specs.declared.record.LongAdd.{LongAdd}
use Rattle.messages.specs.declared.record.OrderExecution.{OrderExecution}
use Rattle.messages.specs.declared.record.Cancel.{Cancel}
use Rattle.messages.specs.declared.record.Terms.{Terms}
use Rattle.messages.specs.declared.record.Trade.{Trade}
use Rattle.messages.specs.declared.record.Break.{Break}
use Rattle.forms.specs.Texts.{without_spaces, id_text, symbol_text}

-- a word and what it says, the word alone where that is blank
unfoldable pub said : (word text : List ℕ) → List ℕ
said word text = cond (length text == 0) (codes " (" ++ (word ++ codes ")")) (codes " (" ++ (word ++ (codes " " ++ (text ++ codes ")"))))

abbrev pub number_said : (word : List ℕ) → ℕ → List ℕ
number_said word n = codes " (" ++ (word ++ (codes " " ++ (decimal n ++ codes ")")))

abbrev pub id_said : (word : List ℕ) → ℕ → List ℕ
id_said word n = said word (id_text n)

abbrev pub symbol_said : ℕ → List ℕ
symbol_said n = said (codes "symbol") (symbol_text n)

abbrev pub participant_said : ℕ → List ℕ
participant_said n = said (codes "participant") (without_spaces (over 0 (spell participant n) (replicate 4 32)))

abbrev pub letter_said : (word : List ℕ) → ℕ → List ℕ
letter_said word byte = said word (without_spaces (byte ∷ []))

-- a bracket, the letter of the kind, and the time
abbrev pub head_said : (letter : ℕ) → ℕ → List ℕ
head_said letter time = codes "(" ++ (encode_utf8 letter ++ number_said (codes "time") time)

abbrev pub clear_said : ClearSymbol → List ℕ
clear_said c = head_said (letter_of kind.SymbolClear) c.time ++ symbol_said c.symbol

-- the head, and the terms of the order
unfoldable pub terms_said : {S : Type 0} → (S → ℕ) → (letter : ℕ) → Terms S → List ℕ
terms_said side letter t =
    head_said letter t.time
    ++ (id_said (codes "order") t.order
    ++ (letter_said (codes "side") (side t.side)
    ++ (number_said (codes "shares") t.shares ++ (symbol_said t.symbol ++ number_said (codes "price") t.price))))

abbrev pub add_said : (letter : ℕ) → AddOrder → List ℕ
add_said letter a = terms_said side_letter letter a.terms ++ letter_said (codes "display") (display_letter a.display)

abbrev pub long_add_said : LongAdd → List ℕ
long_add_said a =
    add_said (letter_of kind.AddLong) a.add
    ++ (participant_said a.participant
    ++ letter_said (codes "customer") (customer_letter a.customer))

abbrev pub execution_said : OrderExecution → List ℕ
execution_said e =
    head_said (letter_of kind.OrderExecuted) e.time
    ++ (id_said (codes "order") e.order ++ (number_said (codes "shares") e.shares ++ id_said (codes "execution") e.execution))

abbrev pub cancel_said : Cancel → List ℕ
cancel_said c =
    head_said (letter_of kind.OrderCancel) c.time
    ++ (id_said (codes "order") c.order ++ number_said (codes "shares") c.shares)

-- of the short and of the long form
abbrev pub trade_said : (letter : ℕ) → Trade → List ℕ
trade_said letter t = terms_said trade_side_letter letter t.terms ++ id_said (codes "execution") t.execution

abbrev pub break_said : Break → List ℕ
break_said b =
    head_said (letter_of kind.TradeBreak) b.time ++ id_said (codes "execution") b.execution

-- all but the last bracket
abbrev pub opened_text : Message → List ℕ
opened_text (SymbolClear c) = clear_said c
opened_text (AddShort a) = add_said (letter_of kind.AddShort) a
opened_text (AddLong a) = long_add_said a
opened_text (OrderExecuted e) = execution_said e
opened_text (OrderCancel c) = cancel_said c
opened_text (TradeShort t) = trade_said (letter_of kind.TradeShort) t
opened_text (TradeLong t) = trade_said (letter_of kind.TradeLong) t
opened_text (TradeBreak b) = break_said b

abbrev pub message_text : Message → List ℕ
message_text m = opened_text m ++ codes ")"
