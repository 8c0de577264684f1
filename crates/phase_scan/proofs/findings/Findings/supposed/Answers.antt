use Rattle.std.proofs.Common.{◌≡◌, ◌∙◌, ap, subst, IfOk, true, ℕ}
use Rattle.armus_base.specs.calls.StatusLists.{is_marked, statuses_among}
use Rattle.board.specs.calls.Steps.{own_phase}
use Rattle.phase_scan.specs.calls.Tables.{state_of_findings, state_supposed}
use Rattle.phase_scan.specs.inside.Phases.{phase_in}
use Rattle.phase_scan.proofs.Supposed.{supposed_same}
use Rattle.phase_scan.proofs.findings.Findings.supposed.Goals as goal

pub returns-clause-statuses : goal.returns-clause-statuses
returns-clause-statuses c =
    let self = c.args.self.now in
    let t = c.args.t.0 in
    let marks = c.in_ok-marks.marks.items in
    let own = c.in_ok-own.own.items in
    let view = c.args.seat.now.view in
    let given : (p : ℕ) → is_marked marks p ≡ true → phase_in own p ≡ own_phase view p =
    λ p is. c.in_ok-own.ensures.phases p (ap (λ xs. is_marked xs p) c.deref.ensures.value ∙ is) in
    subst (λ xs. IfOk c.list_statuses.result (λ list. list ≡ xs))
    (ap (λ xs. statuses_among self.tasks self.phasers (state_supposed (state_of_findings self) t c.args.event (phase_in xs) (phase_in c.args.column.now))
    (is_marked c.deref-2.result.now)) c.as_slice.ensures.value
    ∙ ap (λ ms. statuses_among self.tasks self.phasers (state_supposed (state_of_findings self) t c.args.event (phase_in own) (phase_in c.args.column.now))
    (is_marked ms)) c.deref-2.ensures.value
    ∙ supposed_same self.tasks self.phasers (state_of_findings self) t c.args.event (phase_in own) (own_phase view) (phase_in c.args.column.now) (is_marked marks) given
    ∙ ap (statuses_among self.tasks self.phasers (state_supposed (state_of_findings self) t c.args.event (own_phase view) (phase_in c.args.column.now)))
    c.in_ok-marks.ensures.marks)
    c.list_statuses.ensures
