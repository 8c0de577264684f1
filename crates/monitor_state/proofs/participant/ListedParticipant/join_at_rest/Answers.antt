use Rattle.std.proofs.Common.{◌≡◌, ℕ, List, OnErr, OnOk, not, ◌&&◌, ◌||◌, refl, sym, ◌∙◌, ap, subst}
use Rattle.std.specs.Prelude.{◌==◌, bytes_eq}
use Rattle.monitor_laws.specs.Lines.{Joins}
use Rattle.monitor_laws.specs.States.{Participant, announced_by}
use Rattle.monitor_laws.specs.Faults.{phase_on}
use Rattle.monitor_members.specs.Noted.{is_noted}
use Rattle.monitor_state.specs.Indexes.{is_phase, rests_at}
use Rattle.monitor_state.specs.inside.Reindexing.{IsNotedAnew, IsNotedWhere, IsReindexed, IsSameIndex}
use Rattle.monitor_state.proofs.Moved.{joined_back, joined_phase}
use Rattle.monitor_state.proofs.Noting.{anew_as_it_is, anew_twice, here_turned, less_noted, more_noted, noted_where, on_err_too, on_ok_too, same_again}
use Rattle.monitor_state.proofs.participant.ListedParticipant.join_at_rest.Goals as goal
use Rattle.monitor_state.proofs.participant.ListedParticipant.join_at_rest.Goals.{in-Ok, in-Err}

pub returns-clause-indexed : goal.returns-clause-indexed
returns-clause-indexed c =
    let u = c.args.self.now in
    let p = c.args.p.now in
    let n = c.args.n in
    let old = c.args.index.now.resting in
    let number : c.self.inside.number ≡ u.number = ap (λ (x : Participant). x.number) c.self.view_is in
    let before : IsNotedWhere old u.number (λ q x. is_phase (phase_on u q) x) = λ q x. c.requires.indexed.resting q x ∙ ap (λ b. not b && is_phase (phase_on u q) x) c.requires.rests in
    let step : (q : List ℕ) (x j : ℕ) → is_noted c.insert.new.self q x j ≡ (is_noted old q x j || (u.number == j && (bytes_eq p q && n == x))) =
    λ q x j. c.in_ok-insert.ensures.noted q x j ∙ ap (λ b. is_noted old q x j || b) (here_turned p n c.self.inside.number q x j ∙ ap (λ k. k == j && (bytes_eq p q && n == x)) number) in
    let v = announced_by (Joins p n) u in
    let is : (q : List ℕ) (x : ℕ) → (is_phase (phase_on u q) x || (bytes_eq p q && n == x)) ≡ rests_at q x v =
    λ q x. joined_phase u.phases p n q x c.requires.new ∙ ap (λ b. not b && is_phase (phase_on v q) x) (sym c.requires.rests) in
    elim c.match-join.branch [
      | in-Ok w ↦ subst (λ i. OnOk c.match-join.result (IsReindexed c.args.index.now i v)) (sym w.index-is)
          (on_ok_too c.match-join.result _ (record {
            resting = more_noted u.number old c.insert.new.self (λ q x. is_phase (phase_on u q) x) (λ q x. bytes_eq p q && n == x) (λ q x. rests_at q x v) before step is;
            waiting = anew_as_it_is u.number c.args.index.now.waiting c.args.index.now.waiting _ _ c.requires.indexed.waiting (λ q x j. refl) (λ q x. refl);
          }))
      | in-Err w ↦ subst (λ r. OnOk r (IsReindexed c.args.index.now c.match-join.index v)) (sym w.result-is) tt
    ]

pub returns-clause-same : goal.returns-clause-same
returns-clause-same c =
    let u = c.args.self.now in
    let p = c.args.p.now in
    let n = c.args.n in
    let old = c.args.index.now.resting in
    let number : c.self.inside.number ≡ u.number = ap (λ (x : Participant). x.number) c.self.view_is in
    let before : IsNotedWhere old u.number (λ q x. is_phase (phase_on u q) x) = λ q x. c.requires.indexed.resting q x ∙ ap (λ b. not b && is_phase (phase_on u q) x) c.requires.rests in
    let step : (q : List ℕ) (x j : ℕ) → is_noted c.insert.new.self q x j ≡ (is_noted old q x j || (u.number == j && (bytes_eq p q && n == x))) =
    λ q x j. c.in_ok-insert.ensures.noted q x j ∙ ap (λ b. is_noted old q x j || b) (here_turned p n c.self.inside.number q x j ∙ ap (λ k. k == j && (bytes_eq p q && n == x)) number) in
    let more : IsNotedAnew old c.insert.new.self u.number (λ q x. is_phase (phase_on u q) x || (bytes_eq p q && n == x)) =
    more_noted u.number old c.insert.new.self (λ q x. is_phase (phase_on u q) x) (λ q x. bytes_eq p q && n == x) (λ q x. is_phase (phase_on u q) x || (bytes_eq p q && n == x)) before step (λ q x. refl) in
    elim c.match-join.branch [
      | in-Ok w ↦ subst (λ r. OnErr r (IsSameIndex c.args.index.now c.match-join.index)) (sym w.result-is) tt
      | in-Err w ↦ subst (λ i. OnErr c.match-join.result (IsSameIndex c.args.index.now i)) (sym w.index-is)
          (on_err_too c.match-join.result _ (record {
            resting = same_again u.number old w.remove.new.self (λ q x. is_phase (phase_on u q) x) before
                (anew_twice u.number old c.insert.new.self w.remove.new.self (λ q x. is_phase (phase_on u q) x || (bytes_eq p q && n == x)) (λ q x. is_phase (phase_on u q) x) more
                (less_noted u.number c.insert.new.self w.remove.new.self (λ q x. is_phase (phase_on u q) x || (bytes_eq p q && n == x)) (λ q x. bytes_eq p q && n == x) (λ q x. is_phase (phase_on u q) x)
                (noted_where u.number old c.insert.new.self (λ q x. is_phase (phase_on u q) x || (bytes_eq p q && n == x)) more)
                (λ q x j. w.remove.ensures q x j ∙ ap (λ b. is_noted c.insert.new.self q x j && not b) (here_turned p n c.self.inside.number q x j ∙ ap (λ k. k == j && (bytes_eq p q && n == x)) number))
                (λ q x. joined_back u.phases p n q x c.requires.new)));
            waiting = λ q x j. refl;
          }))
    ]
