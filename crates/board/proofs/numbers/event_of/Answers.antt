use Rattle.std.proofs.Common.{◌≡◌, ◌-◌, ◌/◌, ◌%◌, ap, ◌∙◌, arith}
use Rattle.board.proofs.Reading.{phase_in, phaser_in}
use Rattle.board.proofs.numbers.event_of.Goals as goal

pub returns : goal.returns
returns c = λ e p n is.
    let phaser : c.args.number / 4294967296 - 1 ≡ e.p.0 = ap (λ m. m / 4294967296 - 1) is ∙ ap (λ m. m - 1) (phaser_in e n) ∙ omega arith in
    let phase : c.args.number % 4294967296 ≡ e.n = ap (λ m. m % 4294967296) is ∙ phase_in e n in
    λ i. record { p = record { 0 = phaser i }; n = phase i }
