use Rattle.std.proofs.Common.{◌≡◌, ◌∙◌, ℕ, None, Option, Some, refl, sym}
use Rattle.armus_base.specs.States.{next_phase}
use Rattle.pl_core.proofs.Tables.{has_cell}
use Rattle.pl_core.proofs.effect.move_phases.Goals as goal

-- what has a next phase has a phase
some_before : (o : Option ℕ) (n : ℕ) → next_phase o ≡ Some n → (m : ℕ) × (o ≡ Some m)
some_before None n e = absurd (cc)
some_before (Some m) n e = (m, refl)

pub set-requires-in-Adv-clause-cell : goal.set-requires-in-Adv-clause-cell
set-requires-in-Adv-clause-cell c n e =
    let before = some_before c.get-phase-in-Adv.result n (sym c.raised.ensures ∙ e) in
    has_cell c.args.phases.now c.args.t c.in-Adv.p.0 before.0 (sym c.get-phase-in-Adv.ensures.phase ∙ before.1)
