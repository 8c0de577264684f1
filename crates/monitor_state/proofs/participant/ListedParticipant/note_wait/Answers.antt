use Rattle.std.proofs.Common.{◌≡◌, false, not, ◌&&◌, sym, ◌∙◌, ap, subst}
use Rattle.monitor_laws.specs.States.{Participant}
use Rattle.monitor_laws.specs.Faults.{phase_on}
use Rattle.monitor_members.specs.Noted.{is_noted}
use Rattle.monitor_state.specs.Indexes.{is_phase, is_running}
use Rattle.monitor_state.proofs.Noting.{anew_twice, same_again}
use Rattle.monitor_state.specs.inside.Reindexing.{IsNotedWhere}
use Rattle.monitor_state.proofs.participant.ListedParticipant.note_wait.Goals as goal

pub note_all-requires : goal.note_all-requires
note_all-requires c =
    let u = c.args.self.now in
    let number : u.number ≡ c.self.inside.number = ap (λ (x : Participant). x.number) (sym c.self.view_is) in
    λ q n.
    subst (λ k. is_noted c.args.index.now.resting q n k ≡ false) number
    (c.requires.indexed.resting q n ∙ ap (λ b. not b && is_phase (phase_on u q) n) (ap is_running c.requires.runs))

pub returns-in-Err-clause-same : goal.returns-in-Err-clause-same
returns-in-Err-clause-same c =
    let u = c.args.self.now in
    let k = c.self.inside.number in
    let number : u.number ≡ k = ap (λ (x : Participant). x.number) (sym c.self.view_is) in
    let none : IsNotedWhere c.args.index.now.resting k (λ q n. false) =
    λ q n.
    subst (λ k. is_noted c.args.index.now.resting q n k ≡ false) number
    (c.requires.indexed.resting q n ∙ ap (λ b. not b && is_phase (phase_on u q) n) (ap is_running c.requires.runs)) in
    record {
      resting = same_again k c.args.index.now.resting c.forget_all.new.index (λ q n. false) none
          (anew_twice k c.args.index.now.resting c.note_all.new.index c.forget_all.new.index _ (λ q n. false) c.in_ok-note_all.ensures.noted c.forget_all.ensures);
      waiting = c.in-Err.ensures.kept;
    }
