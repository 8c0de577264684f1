use Rattle.std.proofs.Common.{◌≡◌, ◌+◌, Some, None, not, ◌&&◌, ◌||◌, refl, sym, ◌∙◌, ap}
use Rattle.std.specs.Prelude.{◌==◌, bytes_eq}
use Rattle.std.specs.Map.{lookup}
use Rattle.monitor_laws.specs.Lines.{Arrives}
use Rattle.monitor_laws.specs.States.{Participant, announced_by}
use Rattle.monitor_laws.specs.Faults.{phase_on}
use Rattle.monitor_members.specs.Noted.{is_noted}
use Rattle.monitor_state.specs.Indexes.{is_phase}
use Rattle.monitor_state.specs.inside.Reindexing.{IsNotedAnew}
use Rattle.monitor_state.proofs.Moved.{risen_is, risen_same}
use Rattle.monitor_state.proofs.Noting.{anew_as_it_is, anew_twice, here_turned, less_noted, more_noted, noted_where}
use Rattle.monitor_state.proofs.participant.ListedParticipant.note_rise.Goals as goal

pub returns-in-None-clause-noted : goal.returns-in-None-clause-noted
returns-in-None-clause-noted c =
    let u = c.args.self.now in
    let p = c.args.p.now in
    let none : lookup (bytes_eq p) u.phases ≡ None = sym c.phase_on.ensures ∙ c.in-None.is in
    anew_as_it_is u.number c.args.resting.now c.args.resting.now (λ q n. is_phase (phase_on u q) n) (λ q n. is_phase (phase_on (announced_by (Arrives p) u) q) n) c.requires.noted
    (λ q n j. refl) (λ q n. risen_same u.phases p q n none)

pub returns-in_ok-insert-in-Some-clause-noted : goal.returns-in_ok-insert-in-Some-clause-noted
returns-in_ok-insert-in-Some-clause-noted c =
    let u = c.args.self.now in
    let p = c.args.p.now in
    let m = c.in-Some.m in
    let old = c.args.resting.now in
    let mid = c.insert.new.self in
    let number : c.self.inside.number ≡ u.number = ap (λ (x : Participant). x.number) c.self.view_is in
    let some : lookup (bytes_eq p) u.phases ≡ Some m = sym c.phase_on.ensures ∙ c.in-Some.is in
    let first : IsNotedAnew old mid u.number (λ q n. is_phase (phase_on u q) n || (bytes_eq p q && m + 1 == n)) =
    more_noted u.number old mid (λ q n. is_phase (phase_on u q) n) (λ q n. bytes_eq p q && m + 1 == n) (λ q n. is_phase (phase_on u q) n || (bytes_eq p q && m + 1 == n)) c.requires.noted
    (λ q n j. c.in_ok-insert-in-Some.ensures.noted q n j ∙ ap (λ b. is_noted old q n j || b) (here_turned p (m + 1) c.self.inside.number q n j ∙ ap (λ k. k == j && (bytes_eq p q && m + 1 == n)) number))
    (λ q n. refl) in
    anew_twice u.number old mid c.remove.new.self (λ q n. is_phase (phase_on u q) n || (bytes_eq p q && m + 1 == n)) (λ q n. is_phase (phase_on (announced_by (Arrives p) u) q) n) first
    (less_noted u.number mid c.remove.new.self (λ q n. is_phase (phase_on u q) n || (bytes_eq p q && m + 1 == n)) (λ q n. bytes_eq p q && m == n) (λ q n. is_phase (phase_on (announced_by (Arrives p) u) q) n)
    (noted_where u.number old mid (λ q n. is_phase (phase_on u q) n || (bytes_eq p q && m + 1 == n)) first)
    (λ q n j. c.remove.ensures q n j ∙ ap (λ b. is_noted mid q n j && not b) (here_turned p m c.self.inside.number q n j ∙ ap (λ k. k == j && (bytes_eq p q && m == n)) number))
    (λ q n. risen_is u.phases p m q n some))
