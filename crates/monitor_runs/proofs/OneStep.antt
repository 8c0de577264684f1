-- One more step of a run.
use Rattle.std.proofs.Common.{◌≡◌, ◌≢◌, ℕ, ◌<◌, Bool, true, false, ◌&&◌, not, Option, Some, None, List, ◌∷◌, ◌++◌, refl, sym, ◌∙◌, ap, subst, inl, inr, arith}
use Rattle.std.specs.Prelude.{bytes_eq, is_some, nat_le, unwrap_or}
use Rattle.std.specs.Option.{option_map}
use Rattle.std.specs.Map.{lookup}
use Rattle.std.proofs.lemmas.Bool.{cases_Bool, cases_eq, lt-leb}
use Rattle.armus_base.specs.declared.event.Event.{Event}
use Rattle.armus_base.specs.Plans.{Plan, Action, Aim, Makes, Registers, Forks, Advances, Drops, Blocks, Passes, Refuses}
use Rattle.armus_base.specs.Offsets.{target}
use Rattle.armus_base.specs.States.{IsLegal, IsReached, State, after, awaited, event_at, event_on, next_phase, updated, with_phase}
use Rattle.armus_base.proofs.Steps.{updated_other, updated_same, with_phase_other, with_phase_same}
use Rattle.monitor_laws.specs.Lines.{Announcement, Joins, Arrives, Leaves, Waits, Goes, Stands, TraceLine, Announces}
use Rattle.monitor_laws.specs.States.{Running, Waiting, Participant, after_lines, announced_by}
use Rattle.monitor_laws.specs.Faults.{fault_where, IsAtLastPhase, IsMemberAlready, IsNoMember, DoesNotWait, is_go, last_phase, participant_in, phase_on, waits_now}
use Rattle.monitor_laws.specs.Stuck.{has_phase_below}
use Rattle.monitor_laws.specs.Traces.{IsOfPhaser, NobodyIsBelow}
use Rattle.monitor_laws.proofs.Lawful.{lawful_lines}
use Rattle.monitor_laws.proofs.Phases.{below_is}
use Rattle.monitor_laws.proofs.WereTold.{name_of}
use Rattle.monitor_runs.specs.RunTraces.{Naming, TellsNumber, condition_by, join_with, lines_of_step, wait_on}
use Rattle.monitor_runs.proofs.OwnPhases.{arrived_other, arrived_same, joined_other, joined_same, left_other, left_same}
use Rattle.monitor_runs.proofs.Faultless.{HasRoom, no_fault, none_where}
use Rattle.monitor_runs.proofs.OneLine.{IsOwnChange, IsWritten, names_apart, one_line}
use Rattle.monitor_runs.proofs.StuckAreDead.{its_phases, its_wait, member_listed}

module _ (plan : Plan) (task phaser : Naming) (tells : TellsNumber task) (tells_phaser : TellsNumber phaser) (g : List TraceLine) (s : State) (all : IsWritten task phaser g s) (room : HasRoom (after_lines g)) where
  abbrev own : ℕ → Participant
  own t = participant_in (after_lines g) (task t)

  -- whoever is published on nothing runs
  runs : (t : ℕ) → s.published t ≡ None → (own t).condition ≡ Running
  runs t none = all.same.waits t ∙ ap (condition_by phaser) none

  no_wait : (t : ℕ) (what : Announcement) → s.published t ≡ None → (waits_now (own t).condition && not (is_go what)) ≡ false
  no_wait t what none = ap (λ c. waits_now c && not (is_go what)) (runs t none)

  -- a phaser of which somebody is a member is made, so another than one that is not
  other_phaser : (t p n : ℕ) → s.phases t p ≡ Some n → (q : ℕ) → s.made q ≡ false → q ≢ p
  other_phaser t p n at q none same = let e : s.phases t p ≡ None = ap (s.phases t) (sym same) ∙ all.unmade q none t in cc

  names_phaser : (p q : ℕ) → phaser p ≡ phaser q → q ≡ p
  names_phaser p q same = sym (tells_phaser.1 q) ∙ ap tells_phaser.0 (sym same) ∙ tells_phaser.1 p

  some_is : (o : Option ℕ) (n : ℕ) → o ≡ Some n → is_some o ≡ true
  some_is o n e = ap is_some e

  -- what a line that changes one phase makes of its task
  phase_change :
      (t p : ℕ) (what : Announcement) (v : Option ℕ) (made : ℕ → Bool) → ((announced_by what (own t)).condition ≡ (own t).condition) → (phase_on (announced_by what (own t)) (phaser p) ≡ v) →
      ((q : ℕ) → q ≢ p → phase_on (announced_by what (own t)) (phaser q) ≡ phase_on (own t) (phaser q)) →
      IsOwnChange task phaser (after_lines g) s (record s { made = made; phases = with_phase s.phases t p v }) t what
  phase_change t p what v made condition there elsewhere = record {
    phases = λ q. elim (cases_eq q p) [
      | inl here ↦ ap (λ x. phase_on (announced_by what (own t)) (phaser x)) here ∙ there ∙ sym (with_phase_same s.phases t p v) ∙ ap (with_phase s.phases t p v t) (sym here)
      | inr other ↦ elsewhere q other ∙ all.same.phases t q ∙ sym (with_phase_other s.phases t p v t q (λ e. other))
    ];
    waits = condition ∙ all.same.waits t;
    other_phases = λ u q other. with_phase_other s.phases t p v u q (λ e. absurd (other e));
    other_waits = λ u other. refl;
  }

  -- what a line that changes the wait makes of its task
  wait_change :
      (t : ℕ) (what : Announcement) (w : Option Event) → ((announced_by what (own t)).phases ≡ (own t).phases) → ((announced_by what (own t)).condition ≡ condition_by phaser w) →
      IsOwnChange task phaser (after_lines g) s (record s { published = updated s.published t w }) t what
  wait_change t what w phases condition = record {
    phases = λ q. ap (lookup (bytes_eq (phaser q))) phases ∙ all.same.phases t q;
    waits = condition ∙ ap (condition_by phaser) (sym (updated_same s.published t t w refl));
    other_phases = λ u q other. refl;
    other_waits = λ u other. updated_other s.published t u w other;
  }

  makes : (t p : ℕ) → IsLegal plan s t (Makes p) → IsWritten task phaser (lines_of_step task phaser s t (Makes p) ++ g) (after s t (Makes p))
  makes t p (active, maker, unmade) =
      let none : phase_on (own t) (phaser p) ≡ None = all.same.phases t p ∙ all.unmade p unmade t in
      one_line task phaser tells g s (after s t (Makes p)) all t (Joins (phaser p) 0) tt
      (phase_change t p (Joins (phaser p) 0) (Some 0) (updated s.made p true) refl (joined_same (phaser p) 0 (own t).phases none)
      (λ q other. joined_other (phaser q) (phaser p) 0 (own t).phases (names_apart phaser tells_phaser q p other)))
      (no_fault (after_lines g) all.live room (task t) (Joins (phaser p) 0) (no_wait t (Joins (phaser p) 0) active.unpublished)
      (none_where (is_some (phase_on (own t) (phaser p))) (IsMemberAlready (task t) (phaser p)) (ap is_some none)))
      (λ q n ends. absurd (let e = ends.2 in cc))
      (λ q n joins. inl (λ d within of. all.unsaid p unmade d within (let e = joins.2 in let same : phaser p ≡ q = cc in subst (λ x. IsOfPhaser x d) (sym same) of)))
      (λ c none. (none, refl))
      (λ q still.
      let other : q ≢ p = (λ same. let e = updated_same s.made p q true same in cc) in
      (sym (updated_other s.made p q true other) ∙ still, λ u. with_phase_other s.phases t p (Some 0) u q (λ e. other), λ of. other (names_phaser p q of)))

  registers : (t c p : ℕ) → IsLegal plan s t (Registers c p) → IsWritten task phaser (lines_of_step task phaser s t (Registers c p) ++ g) (after s t (Registers c p))
  registers t c p (active, parent, unforked, (n, member), fresh) =
      let none : phase_on (own c) (phaser p) ≡ None = all.same.phases c p ∙ fresh in
      subst (λ o. IsWritten task phaser (Announces (task c) (join_with (phaser p) o) None ∷ g) (record s { phases = with_phase s.phases c p o })) (sym member)
      (one_line task phaser tells g s (record s { phases = with_phase s.phases c p (Some n) }) all c (Joins (phaser p) n) tt
      (phase_change c p (Joins (phaser p) n) (Some n) s.made refl (joined_same (phaser p) n (own c).phases none)
      (λ q other. joined_other (phaser q) (phaser p) n (own c).phases (names_apart phaser tells_phaser q p other)))
      (no_fault (after_lines g) all.live room (task c) (Joins (phaser p) n) (no_wait c (Joins (phaser p) n) (all.unforked c unforked))
      (none_where (is_some (phase_on (own c) (phaser p))) (IsMemberAlready (task c) (phaser p)) (ap is_some none)))
      (λ q k ends. absurd (let e = ends.2 in cc))
      (λ q k joins.
      let e = joins.2 in
      let same : phaser p ≡ q = cc in
      let low : n ≡ k = cc in
      let there = member_listed task phaser tells tells_phaser (after_lines g) s (lawful_lines g) all.live all.same t p n member in
      inr (own t, n, there.0, ap (phase_on (own t)) (sym same) ∙ all.same.phases t p ∙ member, omega arith))
      (λ u none. (none, refl))
      (λ q still.
      let other = other_phaser t p n member q still in
      (still, λ u. with_phase_other s.phases c p (Some n) u q (λ e. other), λ of. other (names_phaser p q of))))

  advances : (t p : ℕ) → ((n : ℕ) → s.phases t p ≡ Some n → n < last_phase) → IsLegal plan s t (Advances p) → IsWritten task phaser (lines_of_step task phaser s t (Advances p) ++ g) (after s t (Advances p))
  advances t p low (active, (n, member)) =
      let at : phase_on (own t) (phaser p) ≡ Some n = all.same.phases t p ∙ member in
      one_line task phaser tells g s (after s t (Advances p)) all t (Arrives (phaser p)) tt
      (phase_change t p (Arrives (phaser p)) (next_phase (s.phases t p)) s.made refl (arrived_same (phaser p) (own t).phases ∙ ap next_phase (all.same.phases t p))
      (λ q other. arrived_other (phaser q) (phaser p) (own t).phases (names_apart phaser tells_phaser q p other)))
      (no_fault (after_lines g) all.live room (task t) (Arrives (phaser p)) (no_wait t (Arrives (phaser p)) active.unpublished)
      (ap (λ x. x ++ fault_where (nat_le last_phase (unwrap_or (phase_on (own t) (phaser p)) 0)) (IsAtLastPhase (task t) (phaser p)))
      (none_where (not (is_some (phase_on (own t) (phaser p)))) (IsNoMember (task t) (phaser p)) (ap (λ o. not (is_some o)) at))
      ∙ none_where (nat_le last_phase (unwrap_or (phase_on (own t) (phaser p)) 0)) (IsAtLastPhase (task t) (phaser p)) (ap (λ o. nat_le last_phase (unwrap_or o 0)) at ∙ lt-leb last_phase n (low n member))))
      (λ q k ends. absurd (let e = ends.2 in cc))
      (λ q k joins. absurd (let e = joins.2 in cc))
      (λ u none. (none, refl))
      (λ q still.
      let other = other_phaser t p n member q still in
      (still, λ u. with_phase_other s.phases t p (next_phase (s.phases t p)) u q (λ e. other), λ of. other (names_phaser p q of)))

  drops : (t p : ℕ) → IsLegal plan s t (Drops p) → IsWritten task phaser (lines_of_step task phaser s t (Drops p) ++ g) (after s t (Drops p))
  drops t p (forked, unpublished, (n, member), lower) =
      let at : phase_on (own t) (phaser p) ≡ Some n = all.same.phases t p ∙ member in
      one_line task phaser tells g s (after s t (Drops p)) all t (Leaves (phaser p)) tt
      (phase_change t p (Leaves (phaser p)) None s.made refl (left_same (phaser p) (own t).phases)
      (λ q other. left_other (phaser q) (phaser p) (own t).phases (names_apart phaser tells_phaser q p other)))
      (no_fault (after_lines g) all.live room (task t) (Leaves (phaser p)) (no_wait t (Leaves (phaser p)) unpublished)
      (none_where (not (is_some (phase_on (own t) (phaser p)))) (IsNoMember (task t) (phaser p)) (ap (λ o. not (is_some o)) at)))
      (λ q k ends. absurd (let e = ends.2 in cc))
      (λ q k joins. absurd (let e = joins.2 in cc))
      (λ u none. (none, refl))
      (λ q still.
      let other = other_phaser t p n member q still in
      (still, λ u. with_phase_other s.phases t p None u q (λ e. other), λ of. other (names_phaser p q of)))

  blocks : (t : ℕ) (a : Aim) → IsLegal plan s t (Blocks a) → IsWritten task phaser (lines_of_step task phaser s t (Blocks a) ++ g) (after s t (Blocks a))
  blocks t a (active, (n, member)) =
      let waits : awaited (Some (Blocks a)) (s.phases t) ≡ Some (event_at a.phaser (target a.off n)) = ap (λ o. event_on a.phaser (option_map (target a.off) o)) member in
      let e : Event = event_at a.phaser (target a.off n) in
      subst (λ o. IsWritten task phaser (Announces (task t) (wait_on phaser o) None ∷ g) (record s { published = updated s.published t o })) (sym waits)
      (one_line task phaser tells g s (record s { published = updated s.published t (Some e) }) all t (Waits (phaser a.phaser) (target a.off n)) tt
      (wait_change t (Waits (phaser a.phaser) (target a.off n)) (Some e) refl refl)
      (no_fault (after_lines g) all.live room (task t) (Waits (phaser a.phaser) (target a.off n)) (no_wait t (Waits (phaser a.phaser) (target a.off n)) active.unpublished) refl)
      (λ q k ends. absurd (let x = ends.2 in cc))
      (λ q k joins. absurd (let x = joins.2 in cc))
      (λ u none. (none, updated_other s.published t u (Some e) (λ same. let f : s.forked u ≡ true = ap s.forked same ∙ active.forked in cc)))
      (λ q still. (still, λ u. refl, λ of. other_phaser t a.phaser n member q still (names_phaser a.phaser q of))))

  -- whose event is reached, nobody keeps waiting
  reached_is : (e : Event) → IsReached s e → NobodyIsBelow (after_lines g) (phaser e.p.0) e.n
  reached_is e reached v within = elim (cases_Bool (has_phase_below v (phaser e.p.0) e.n)) [
    | inr off ↦ off
    | inl below ↦ absurd (
        let x = all.same.tasks v within in
        let b = below_is (phase_on v (phaser e.p.0)) e.n below in
        let high = reached x.0 b.0 (sym (its_phases task phaser tells tells_phaser (after_lines g) s (lawful_lines g) all.live all.same v within x.0 e.p.0 x.1) ∙ b.1) in
        let low = b.2 in omega arith)
  ]

  passes : (t p : ℕ) → IsLegal plan s t (Passes p) → IsWritten task phaser (lines_of_step task phaser s t (Passes p) ++ g) (after s t (Passes p))
  passes t p (forked, n, published, reached, unrefused) =
      let waits : (own t).condition ≡ Waiting (phaser p) n = all.same.waits t ∙ ap (condition_by phaser) published in
      one_line task phaser tells g s (after s t (Passes p)) all t Goes tt
      (wait_change t Goes None refl refl)
      (no_fault (after_lines g) all.live room (task t) Goes (ap (λ c. waits_now c && false) waits)
      (none_where (not (waits_now (own t).condition)) (DoesNotWait (task t)) (ap (λ c. not (waits_now c)) waits)))
      (λ q k ends.
      let is : ends.0.name ≡ task t = sym (ap name_of ends.2) in
      let same = its_wait task phaser tells tells_phaser (after_lines g) s (lawful_lines g) all.live all.same ends.0 ends.3 t is ∙ ap (condition_by phaser) published in
      let wait = ends.4 in
      let to_p : phaser p ≡ q = cc in
      let to_n : n ≡ k = cc in
      subst (λ x. NobodyIsBelow (after_lines g) x k) to_p (subst (NobodyIsBelow (after_lines g) (phaser p)) to_n (reached_is (event_at p n) reached)))
      (λ q k joins. absurd (let x = joins.2 in cc))
      (λ u none. (none, updated_other s.published t u None (λ same. let f : s.forked u ≡ true = ap s.forked same ∙ forked in cc)))
      (λ q still. (still, λ u. refl, λ of. of))

  refuses : (t : ℕ) (a : Aim) → IsLegal plan s t (Refuses a) → IsWritten task phaser (lines_of_step task phaser s t (Refuses a) ++ g) (after s t (Refuses a))
  refuses t a (active, member) =
      one_line task phaser tells g s (after s t (Refuses a)) all t Stands tt
      (record { phases = λ q. all.same.phases t q; waits = all.same.waits t; other_phases = λ u q other. refl; other_waits = λ u other. refl })
      (no_fault (after_lines g) all.live room (task t) Stands (no_wait t Stands active.unpublished) refl)
      (λ q k ends. absurd (let x = ends.2 in cc))
      (λ q k joins. absurd (let x = joins.2 in cc))
      (λ u none. (none, refl))
      (λ q still. (still, λ u. refl, λ of. of))

  forks : (t c : ℕ) → IsLegal plan s t (Forks c) → IsWritten task phaser g (after s t (Forks c))
  forks t c (active, parent, unforked) = record {
    legal = all.legal;
    true_goes = all.true_goes;
    ordered = all.ordered;
    live = all.live;
    same = record { tasks = all.same.tasks; phases = all.same.phases; waits = all.same.waits };
    unforked = λ u none. elim (cases_eq u c) [
      | inl here ↦ absurd (let e = updated_same s.forked c u true here in cc)
      | inr other ↦ all.unforked u (sym (updated_other s.forked c u true other) ∙ none)
    ];
    unmade = all.unmade;
    unsaid = all.unsaid;
  }

  pub one_step : (t : ℕ) (x : Action) → ((p n : ℕ) → x ≡ Advances p → s.phases t p ≡ Some n → n < last_phase) → IsLegal plan s t x → IsWritten task phaser (lines_of_step task phaser s t x ++ g) (after s t x)
  one_step t (Makes p) low legal = makes t p legal
  one_step t (Registers c p) low legal = registers t c p legal
  one_step t (Forks c) low legal = forks t c legal
  one_step t (Advances p) low legal = advances t p (λ n at. low p n refl at) legal
  one_step t (Drops p) low legal = drops t p legal
  one_step t (Blocks a) low legal = blocks t a legal
  one_step t (Passes p) low legal = passes t p legal
  one_step t (Refuses a) low legal = refuses t a legal
