-- How an answer is shown.
use Rattle.std.specs.Prelude.{ℕ, List, ◌++◌, codes, decimal}
use Rattle.calls.specs.declared.reply.Reply.{Reply}
use Rattle.calls.specs.declared.reply.Reply.TheVariants.{Opened, Done, Taken, Full, Missing, Found, Nothing, Counted, Limited, Standing, Absent, NoFront, NoneOpen, Unknown}

abbrev pub reply_text : Reply → List ℕ
reply_text (Opened n) = codes "(opened " ++ decimal n ++ codes ")"
reply_text Done = codes "(done)"
reply_text Taken = codes "(taken)"
reply_text Full = codes "(full)"
reply_text Missing = codes "(missing)"
reply_text (Found k n) = codes "(record " ++ (decimal k ++ (codes " " ++ (decimal n ++ codes ")")))
reply_text Nothing = codes "(none)"
reply_text (Counted n) = codes "(count " ++ decimal n ++ codes ")"
reply_text (Limited n) = codes "(limit " ++ decimal n ++ codes ")"
reply_text Standing = codes "(stands)"
reply_text Absent = codes "(absent)"
reply_text NoFront = codes "(no front)"
reply_text NoneOpen = codes "(none open)"
reply_text Unknown = codes "(unknown)"

abbrev pub numbered_text : ℕ → Reply → List ℕ
numbered_text n reply = codes "(call " ++ (decimal n ++ (codes " " ++ (reply_text reply ++ codes ")")))
