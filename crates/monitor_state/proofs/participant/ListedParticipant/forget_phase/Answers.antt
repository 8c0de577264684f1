use Rattle.std.proofs.Common.{◌≡◌, Some, None, not, ◌&&◌, refl, sym, ◌∙◌, ap}
use Rattle.std.specs.Prelude.{◌==◌, bytes_eq}
use Rattle.std.specs.Map.{lookup}
use Rattle.monitor_laws.specs.Lines.{Leaves}
use Rattle.monitor_laws.specs.States.{Participant, announced_by}
use Rattle.monitor_laws.specs.Faults.{phase_on}
use Rattle.monitor_members.specs.Noted.{is_noted}
use Rattle.monitor_state.specs.Indexes.{is_phase}
use Rattle.monitor_state.proofs.Moved.{left_is, left_same}
use Rattle.monitor_state.proofs.Noting.{anew_as_it_is, here_turned, less_noted}
use Rattle.monitor_state.proofs.participant.ListedParticipant.forget_phase.Goals as goal

pub returns-in-Some : goal.returns-in-Some
returns-in-Some c =
    let u = c.args.self.now in
    let p = c.args.p.now in
    let m = c.in-Some.m in
    let number : c.self.inside.number ≡ u.number = ap (λ (x : Participant). x.number) c.self.view_is in
    let some : lookup (bytes_eq p) u.phases ≡ Some m = sym c.phase_on.ensures ∙ c.in-Some.is in
    less_noted u.number c.args.resting.now c.remove.new.self (λ q n. is_phase (phase_on u q) n) (λ q n. bytes_eq p q && m == n) (λ q n. is_phase (phase_on (announced_by (Leaves p) u) q) n) c.requires
    (λ q n j.
    c.remove.ensures q n j
    ∙ ap (λ b. is_noted c.args.resting.now q n j && not b) (here_turned p m c.self.inside.number q n j ∙ ap (λ k. k == j && (bytes_eq p q && m == n)) number))
    (λ q n. left_is u.phases p m q n some)

pub returns-in-None : goal.returns-in-None
returns-in-None c =
    let u = c.args.self.now in
    let p = c.args.p.now in
    let none : lookup (bytes_eq p) u.phases ≡ None = sym c.phase_on.ensures ∙ c.in-None.is in
    anew_as_it_is u.number c.args.resting.now c.args.resting.now (λ q n. is_phase (phase_on u q) n) (λ q n. is_phase (phase_on (announced_by (Leaves p) u) q) n) c.requires
    (λ q n j. refl) (λ q n. left_same u.phases p q n none)
