use Rattle.std.proofs.Common.{Option, List, ℕ, subst, ap, ◌∙◌, IfSome}
use Rattle.std.proofs.lemmas.Result.{on_ok_weaker}
use Rattle.std.specs.Io.KnownBytes.{Appends}
use Rattle.replaying.specs.Texts.{replay_text}
use Rattle.replay.proofs.running.replay_input.Goals as goal

pub returns : goal.returns
returns g c =
    let Says : Option (List ℕ) → Type 0 = λ known. IfSome known (λ bytes.
    Appends (g.W.Write.contents c.args.output.now) (g.W.Write.contents c.replay_waited.new.output) (replay_text c.args.options.now bytes)) in
    on_ok_weaker c.replay_waited.result (λ said. subst Says (c.in_ok-input.ensures ∙ ap g.R.Read.remaining c.new-metered.ensures.inner) said) c.replay_waited.ensures
