use Rattle.std.proofs.Common.{◌++◌, ◌∷◌, [], codes, ap, subst, ◌∙◌, append_assoc}
use Rattle.std.specs.Io.KnownBytes.{Appends}
use Rattle.std.proofs.KnownBytes.{Appends-trans}
use Rattle.options.specs.declared.usage.TheConstants.{USAGE}
use Rattle.replay_cases.specs.Texts.{command_text, shown_text}
use Rattle.replay_cases.proofs.running.show_case.Goals as goal

pub returns-clause-says : goal.returns-clause-says
returns-clause-says g c =
    let was = g.W.Write.contents c.args.output.now in
    let between = g.W.Write.contents c.writeln.new.self in
    let is = g.W.Write.contents c.show.new.output in
    let command = c.args.command.now in
    let found = c.as_slice.ensures.value ∙ c.in_ok-shown.ensures ∙ ap (λ bytes. command_text USAGE.now c.args.day.now bytes) c.as_bytes.ensures.value in
    let shown = shown_text c.args.last.now (command_text USAGE.now c.args.day.now command) in
    let second = subst (λ text. Appends between is (shown_text c.args.last.now text)) found c.in_ok-show.ensures in
    subst (Appends was is) (ap (λ text. codes "replay " ++ text) (append_assoc command (10 ∷ []) shown))
    (Appends-trans was between is (codes "replay " ++ (command ++ (10 ∷ []))) shown c.in_ok-writeln.ensures.bytes second)
