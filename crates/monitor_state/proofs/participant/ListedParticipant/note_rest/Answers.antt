use Rattle.std.proofs.Common.{◌≡◌, false, not, ◌&&◌, sym, ◌∙◌, ap, subst}
use Rattle.monitor_laws.specs.States.{Participant, Running as Runs}
use Rattle.monitor_laws.specs.Faults.{phase_on}
use Rattle.monitor_members.specs.Noted.{is_noted}
use Rattle.monitor_state.specs.Indexes.{is_phase, is_running}
use Rattle.monitor_state.specs.Values.{condition_value}
use Rattle.monitor_state.proofs.participant.ListedParticipant.note_rest.Goals as goal

pub note_all-requires : goal.note_all-requires
note_all-requires c =
    let u = c.args.self.now in
    let number : u.number ≡ c.self.inside.number = ap (λ (x : Participant). x.number) (sym c.self.view_is) in
    let running : u.condition ≡ Runs = ap (λ (x : Participant). x.condition) (sym c.self.view_is) ∙ ap condition_value (ap (λ x. x.condition) (sym c.deref.ensures) ∙ c.in-Running.is) in
    λ q n.
    subst (λ k. is_noted c.args.index.now.resting q n k ≡ false) number
    (c.requires.resting q n ∙ ap (λ b. not b && is_phase (phase_on u q) n) (ap is_running running))
