use Rattle.std.proofs.Common.{refl}
use Rattle.std.specs.Fmt.{digits}
use Rattle.layout.specs.Bytes.{worth_of}
use Rattle.layout.specs.Slots.{first_failing, value_of, scan_slot}
use Rattle.messages.specs.Lines.{read_row}
use Rattle.messages.specs.Telling.{line_message}
use Rattle.day_rules.specs.Rules.{answer, next}
use Rattle.cases.proofs.examples.hold.Goals as goal

-- each example computes
pub returns : goal.returns
unfolding worth_of first_failing value_of scan_slot read_row line_message answer next digits
returns c = (
  (refl, refl),
  (
    (refl, refl),
    (
      (refl, refl),
      (
        (refl, refl),
        (
          refl,
          (
            (refl, refl),
            (
              refl,
              (
                refl,
                (
                  (refl, refl),
                  (
                    (refl, refl),
                    (
                      refl,
                      (
                        refl,
                        (
                          (refl, refl),
                          (
                            (refl, refl),
                            (
                              refl,
                              (refl, (refl, (refl, (refl, (refl, ((refl, refl), ((refl, refl), (refl, (refl, tt))))))))),
                            ),
                          ),
                        ),
                      ),
                    ),
                  ),
                ),
              ),
            ),
          ),
        ),
      ),
    ),
  ),
)
