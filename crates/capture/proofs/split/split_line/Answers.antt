use Rattle.std.proofs.Common.{◌+◌, length, drop, Some, sym, ap, ◌∙◌, add-one, arith, length-drop}
use Rattle.std.proofs.lemmas.List.{take_rest}
use Rattle.capture.proofs.Splitting.{split-found, split-none}
use Rattle.capture.proofs.split.split_line.Goals as goal

pub returns-in-Some : goal.returns-in-Some
returns-in-Some c =
    let xs = c.args.bytes.now in
    let n = c.in-Some.end in
    let found = split-found xs n c.in-Some.ensures in
    let rest = take_rest xs (n + 1) in
    let rest-length = ap length rest in
    let size = length-drop (n + 1) xs in
    record {
      first = sym found.1;
      second = (found.2 ∙ ap Some (ap (λ m. drop m xs) (sym (add-one n)) ∙ sym rest), omega (arith, found.0));
    }

pub returns-in-None : goal.returns-in-None
returns-in-None c =
    let none = split-none c.args.bytes.now c.in-None.ensures in
    record { first = sym none.0; second = none.1 }
