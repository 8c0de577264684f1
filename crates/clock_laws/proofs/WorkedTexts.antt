-- Small programs on the machine on the text, by computation.
use Rattle.std.proofs.Common.{refl}
use Rattle.clock_laws.specs.calls.WorkedTexts.{ComeToEnds, ComeToFaults, faulty_texts, worked_texts}

pub texts_worked : ComeToEnds worked_texts
texts_worked = (
  ((refl, refl), ((refl, refl), tt)),
  (
    ((refl, refl), ((refl, refl), tt)),
    (
      ((refl, refl), ((refl, refl), tt)),
      (
        ((refl, refl), ((refl, refl), tt)),
        (
          ((refl, refl), ((refl, refl), ((refl, refl), ((refl, refl), ((refl, refl), tt))))),
          (
            ((refl, refl), ((refl, refl), ((refl, refl), tt))),
            (((refl, refl), ((refl, refl), tt)), (((refl, refl), ((refl, refl), tt)), (((refl, refl), tt), tt))),
          ),
        ),
      ),
    ),
  ),
)

pub texts_at_fault : ComeToFaults faulty_texts
texts_at_fault = (refl, (refl, (refl, (refl, (refl, (refl, (refl, tt)))))))
