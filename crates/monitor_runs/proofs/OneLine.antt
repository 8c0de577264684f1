-- One more line of a task, in a trace that a run has written so far.
use Rattle.std.proofs.Common.{◌≡◌, ◌≢◌, ℕ, ◌≤◌, false, Some, None, List, [], ◌∷◌, sym, ◌∙◌, ap, subst, ◌⊎◌, inl, inr}
use Rattle.std.specs.Prelude.{Contains, bytes_eq}
use Rattle.std.proofs.lemmas.Bool.{cases_Bool, cases_eq}
use Rattle.std.proofs.lemmas.Slice.Eq.{bytes_eq-Decides}
use Rattle.armus_base.specs.States.{State}
use Rattle.armus_base.proofs.Elements.{Contains-cons_cases}
use Rattle.monitor_laws.specs.Lines.{Announcement, TraceLine, Announces}
use Rattle.monitor_laws.specs.States.{Participant, TraceState, after_lines, announced_by, is_there_as, with_named}
use Rattle.monitor_laws.specs.Faults.{faults_of, participant_in, phase_on}
use Rattle.monitor_laws.specs.Laws.{unnumbered}
use Rattle.monitor_laws.specs.Traces.{EndsWait, HasOrderedJoins, HasTrueGoes, IsLegalTrace, IsOfPhaser, JoinsAt, NobodyIsBelow}
use Rattle.monitor_laws.proofs.Changes.{changed_there, from_change, from_named, other_is, there_is}
use Rattle.monitor_laws.proofs.Lawful.{announced_name, lawful_lines}
use Rattle.monitor_runs.specs.RunTraces.{IsSameState, Naming, TellsNumber, condition_by}
use Rattle.monitor_runs.proofs.Named.{AllLive, IsNoEnd, all_live, other_same, own_is}

-- different numbers have different names
pub names_apart : (name : Naming) → TellsNumber name → (a b : ℕ) → a ≢ b → bytes_eq (name a) (name b) ≡ false
names_apart name tells a b apart = elim (cases_Bool (bytes_eq (name a) (name b))) [
  | inl same ↦ absurd (apart (sym (tells.1 a) ∙ ap tells.0 ((bytes_eq-Decides (name a) (name b)).0 same) ∙ tells.1 b))
  | inr off ↦ off
]

-- what holds of a trace and the state of the run that has written it
pub record IsWritten (task phaser : Naming) (g : List TraceLine) (s : State) : Type 0 where
  pub legal : IsLegalTrace g
  pub true_goes : HasTrueGoes g
  pub ordered : HasOrderedJoins g
  pub live : AllLive (after_lines g)
  pub same : IsSameState task phaser (after_lines g) s
  pub unforked : (c : ℕ) → s.forked c ≡ false → s.published c ≡ None
  pub unmade : (p : ℕ) → s.made p ≡ false → (t : ℕ) → s.phases t p ≡ None
  pub unsaid : (p : ℕ) → s.made p ≡ false → (d : TraceLine) → Contains g d → IsOfPhaser (phaser p) d → ⊥

-- what the line makes of the task's own phases and wait, and that the others keep theirs
pub record IsOwnChange (task phaser : Naming) (g : TraceState) (s next : State) (t : ℕ) (what : Announcement) : Type 0 where
  pub phases : (q : ℕ) → phase_on (announced_by what (participant_in g (task t))) (phaser q) ≡ next.phases t q
  pub waits : (announced_by what (participant_in g (task t))).condition ≡ condition_by phaser (next.published t)
  pub other_phases : (u q : ℕ) → u ≢ t → next.phases u q ≡ s.phases u q
  pub other_waits : (u : ℕ) → u ≢ t → next.published u ≡ s.published u

module _ (task phaser : Naming) (tells : TellsNumber task) (g : List TraceLine) (s next : State) (all : IsWritten task phaser g s) (t : ℕ) (what : Announcement) (no_end : IsNoEnd what) (change : IsOwnChange task phaser (after_lines g) s next t what) where
  abbrev line : TraceLine
  line = Announces (task t) what None

  names_after : (v : Participant) → Contains (after_lines (line ∷ g)).list v → (x : ℕ) × (v.name ≡ task x)
  names_after v within =
      let m = from_change (changed_there (task t) (announced_by what)) (with_named (after_lines g) (task t)) v within in
      let kept : v.name ≡ m.0.name = ap (λ (y : Participant). y.name) (sym m.2) ∙ (elim (cases_Bool (is_there_as (task t) m.0)) [
        | inl there ↦ ap (λ (y : Participant). y.name) (there_is (task t) (announced_by what) m.0 there) ∙ announced_name what m.0
        | inr other ↦ ap (λ (y : Participant). y.name) (other_is (task t) (announced_by what) m.0 other)
      ]) in
      elim (from_named (after_lines g) (task t) m.0 m.1) [
        | inl old ↦ (let x = all.same.tasks m.0 old in (x.0, kept ∙ x.1))
        | inr new ↦ (t, kept ∙ ap (λ (y : Participant). y.name) new.1)
      ]

  apart : (u : ℕ) → u ≢ t → unnumbered (participant_in (after_lines (line ∷ g)) (task u)) ≡ unnumbered (participant_in (after_lines g) (task u))
  apart u other = other_same (after_lines g) (lawful_lines g) all.live (task t) what no_end (task u) (names_apart task tells u t other)

  own : participant_in (after_lines (line ∷ g)) (task t) ≡ announced_by what (participant_in (after_lines g) (task t))
  own = own_is (after_lines g) (lawful_lines g) all.live (task t) what no_end

  same_after : IsSameState task phaser (after_lines (line ∷ g)) next
  same_after = record {
    tasks = names_after;
    phases = λ u p. elim (cases_eq u t) [
      | inl here ↦ ap (λ x. phase_on (participant_in (after_lines (line ∷ g)) (task x)) (phaser p)) here ∙ ap (λ (x : Participant). phase_on x (phaser p)) own ∙ change.phases p ∙ ap (λ x. next.phases x p) (sym here)
      | inr other ↦ ap (λ (x : Participant). phase_on x (phaser p)) (apart u other) ∙ all.same.phases u p ∙ sym (change.other_phases u p other)
    ];
    waits = λ u. elim (cases_eq u t) [
      | inl here ↦ ap (λ x. (participant_in (after_lines (line ∷ g)) (task x)).condition) here ∙ ap (λ (x : Participant). x.condition) own ∙ change.waits ∙ ap (λ x. condition_by phaser (next.published x)) (sym here)
      | inr other ↦ ap (λ (x : Participant). x.condition) (apart u other) ∙ all.same.waits u ∙ ap (condition_by phaser) (sym (change.other_waits u other))
    ];
  }

  pub one_line :
      faults_of (after_lines g) line ≡ [] →
      ((p : List ℕ) (n : ℕ) → EndsWait (after_lines g) line p n → NobodyIsBelow (after_lines g) p n) →
      ((p : List ℕ) (n : ℕ) → JoinsAt line p n →
      ((d : TraceLine) → Contains g d → IsOfPhaser p d → ⊥) ⊎ ((u : Participant) × (m : ℕ) × Contains (after_lines g).list u × (phase_on u p ≡ Some m) × (m ≤ n))) →
      ((c : ℕ) → next.forked c ≡ false → (s.forked c ≡ false) × (next.published c ≡ s.published c)) →
      ((p : ℕ) → next.made p ≡ false → (s.made p ≡ false) × ((u : ℕ) → next.phases u p ≡ s.phases u p) × (IsOfPhaser (phaser p) line → ⊥)) →
      IsWritten task phaser (line ∷ g) next
  one_line legal goes joins unforked unmade = record {
    legal = (all.legal, legal);
    true_goes = (all.true_goes, goes);
    ordered = (all.ordered, joins);
    live = all_live (after_lines g) (lawful_lines g) all.live (task t) what no_end;
    same = same_after;
    unforked = λ c none. let u = unforked c none in u.1 ∙ all.unforked c u.0;
    unmade = λ p none x. let u = unmade p none in u.1 x ∙ all.unmade p u.0 x;
    unsaid = λ p none d within of.
        let u = unmade p none in
        elim (Contains-cons_cases line g d within) [
          | inl here ↦ u.2 (subst (IsOfPhaser (phaser p)) (sym here) of)
          | inr there ↦ all.unsaid p u.0 d there of
        ];
  }
