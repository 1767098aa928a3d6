-- How a report is shown.
use Rattle.std.specs.Prelude.{ℕ, ◌/◌, ◌%◌, List, [], ◌++◌, Some, None, Option, codes, decimal, encode_utf8}
use Rattle.messages.specs.declared.code.Side.{Side}
use Rattle.messages.specs.Codes.{side_letter}
use Rattle.forms.specs.Texts.{symbol_text}
use Rattle.records.specs.declared.symbol_row.SymbolRow.{SymbolRow}
use Rattle.records.specs.declared.value.Value.{Value}
use Rattle.records.specs.Keys.{row_worth}
use Rattle.records.specs.Values.{worth, valued}
use Rattle.book.specs.declared.book.Book.{Book}
use Rattle.book.specs.declared.turnover.Turnover.{Turnover}
use Rattle.day_forms.specs.Texts.{field, value_field, resting_text}
use Rattle.reports.specs.Averages.{average_of}

-- ten-thousandths of a dollar, as dollars with four decimals
abbrev pub dollars_text : ℕ → List ℕ
dollars_text n =
    decimal (n / 10000)
    ++ (codes "." ++ (decimal (n / 1000 % 10) ++ (decimal (n / 100 % 10) ++ (decimal (n / 10 % 10) ++ decimal (n % 10)))))

-- a word where nothing has traded
abbrev pub average_text : Option ℕ → List ℕ
average_text None = codes "none"
average_text (Some n) = dollars_text n

-- volume, value and average price
abbrev pub traded_text : (volume : ℕ) → Value → List ℕ
traded_text volume value =
    field (codes "volume") (decimal volume) (value_field value.high value.low (field (codes "average") (average_text (average_of (worth value) volume)) []))

-- what has traded of a symbol; the value of a row is at most the greatest
abbrev pub row_report : SymbolRow → List ℕ
row_report r = codes "(symbol " ++ (symbol_text r.symbol ++ (traded_text r.volume (valued (row_worth r)) ++ codes ")"))

-- what has traded of all symbols
abbrev pub market_report : Turnover → List ℕ
market_report t = codes "(market" ++ (traded_text t.volume.number t.value ++ codes ")")

-- what rests of a symbol on a side
abbrev pub side_report : (symbol : ℕ) → Side → Book → List ℕ
side_report symbol side b =
    codes "(book " ++ (symbol_text symbol ++ (codes " " ++ (encode_utf8 (side_letter side) ++ (resting_text b ++ codes ")"))))

-- how many lines were read, and how many of them were accepted messages
abbrev pub lines_report : (lines accepted : ℕ) → List ℕ
lines_report lines accepted = codes "(lines " ++ (decimal lines ++ field (codes "accepted") (decimal accepted) (codes ")"))

-- how often a refusal came
abbrev pub refused_report : (number times : ℕ) → List ℕ
refused_report number times = codes "(refused " ++ (decimal number ++ field (codes "times") (decimal times) (codes ")"))
