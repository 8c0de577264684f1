use Rattle.std.proofs.Common.{◌≡◌, ℕ, List, true, not, sym, ◌∙◌, ap, subst}
use Rattle.std.specs.Prelude.{bytes_eq}
use Rattle.std.specs.Map.{lookup}
use Rattle.std.proofs.lemmas.Bool.{and_parts}
use Rattle.monitor_laws.specs.States.{Participant}
use Rattle.monitor_laws.specs.Faults.{phase_on}
use Rattle.monitor_members.specs.Noted.{is_noted}
use Rattle.monitor_state.specs.Indexes.{is_phase, is_running}
use Rattle.monitor_state.proofs.participant.ListedParticipant.forget.Goals as goal

pub forget_all-requires : goal.forget_all-requires
forget_all-requires c =
    let u = c.args.self.now in
    let number : c.self.inside.number ≡ u.number = ap (λ (x : Participant). x.number) c.self.view_is in
    let phases : u.phases ≡ c.deref.result.now.memberships = ap (λ (x : Participant). x.phases) (sym c.self.view_is) ∙ ap (λ x. x.memberships) (sym c.deref.ensures) in
    λ q n noted.
    subst (λ (l : List (List ℕ × ℕ)). is_phase (lookup (bytes_eq q) l) n ≡ true) phases
    (and_parts (not (is_running u.condition)) (is_phase (phase_on u q) n) (sym (c.requires.resting q n) ∙ subst (λ k. is_noted c.args.index.now.resting q n k ≡ true) number noted)).1
