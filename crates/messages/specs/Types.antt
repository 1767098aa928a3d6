-- The kinds of messages; each has a letter, byte 8 of its lines.
pub data MessageType : Type 0 where
  SymbolClear : MessageType
  AddShort : MessageType
  AddLong : MessageType
  OrderExecuted : MessageType
  OrderCancel : MessageType
  TradeShort : MessageType
  TradeLong : MessageType
  TradeBreak : MessageType
