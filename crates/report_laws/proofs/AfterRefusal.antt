-- What comes behind a refusal in an avoided run that has ended.
use Rattle.std.proofs.Common.{◌≡◌, ◌≢◌, ◌∙◌, ◌++◌, ◌≤◌, ℕ, true, false, Option, Some, None, List, [], ◌∷◌, ap, arith, inl, inr, refl, subst, sym}
use Rattle.std.specs.Prelude.{◌↔◌, ◌⊎◌, ◌==◌, Contains, IsSome}
use Rattle.std.proofs.lemmas.Bool.{cases_Bool, cases_eq, eqb-true, false≢true, or_cases}
use Rattle.armus_base.specs.declared.ending.TaskEnd.TheVariants as ends
use Rattle.armus_base.specs.declared.event.Event.{Event}
use Rattle.armus_base.specs.declared.ids.TaskId.{TaskId}
use Rattle.armus_base.specs.AgreementLaws.{has_task}
use Rattle.armus_base.specs.Avoidance.{IsAvoidedFinal, IsAvoidedRun}
use Rattle.armus_base.specs.CheckedPlans.{IsCheckedPlan}
use Rattle.armus_base.specs.Deadlocks.{IsAtPhase, IsDeadlockedSet, IsPublishedOn, NobodyDead}
use Rattle.armus_base.specs.calls.FinalLaws.{Tells as EndTells}
use Rattle.armus_base.specs.Finals.{end_by, end_of}
use Rattle.armus_base.specs.Plans.{Action, Advances, Aim, Blocks, Drops, Forks, Makes, Passes, Plan, Refuses, Registers}
use Rattle.armus_base.specs.Runs.{IsLegalRun, IsMaximal, state_after}
use Rattle.armus_base.specs.States.{IsActive, IsLegal, IsReached, Phases, State, Step, after, awaited, if_published, next_phase, with_phase}
use Rattle.armus_base.proofs.Elements.{Contains-cons_cases, Contains-head, Contains-tail, nothing_in_nil}
use Rattle.armus_base.proofs.EndsTell.{ends_tell}
use Rattle.armus_base.proofs.Members.{member_made, only_passes, published_member}
use Rattle.armus_base.proofs.NobodyIsDead.{avoided_legal, nobody_is_dead}
use Rattle.armus_base.proofs.RefusedEnds.{refused_ends}
use Rattle.armus_base.proofs.Steps.{next_phase_is, updated_other, updated_same, with_phase_is, with_phase_other, with_phase_same}
use Rattle.explain_avoid.specs.Released.{when_left}

-- ---- one step

-- a refused task is not active
not_active : (s : State) (t : ℕ) → IsSome (s.refused t) → IsActive s t → ⊥
not_active s t refused active = false≢true (subst IsSome active.unrefused refused)

-- who is active is not the refused task
others : (s : State) (t u : ℕ) → IsSome (s.refused t) → IsActive s u → t ≢ u
others s t u refused active same = not_active s t refused (subst (IsActive s) (sym same) active)

-- behind a step of some run the task is refused still, and forked; the step has left its phases, or was its own drop
record IsStillRefused (s : State) (t u : ℕ) (x : Action) : Type 0 where
  refused : IsSome ((after s u x).refused t)
  forked : (after s u x).forked t ≡ true
  phases : ((q : ℕ) → (after s u x).phases t q ≡ s.phases t q) ⊎ ((p : ℕ) × (t ≡ u) × (x ≡ Drops p))

module _ (plan : Plan) (s : State) (t : ℕ) (refused : IsSome (s.refused t)) (forked : s.forked t ≡ true) where
  elsewhere : (u p : ℕ) (v : Option ℕ) → t ≢ u → (q : ℕ) → with_phase s.phases u p v t q ≡ s.phases t q
  elsewhere u p v other q = with_phase_other s.phases u p v t q (λ same. absurd (other same))

  stays_refused : (u : ℕ) (x : Action) → IsLegal plan s u x → IsStillRefused s t u x
  stays_refused u (Makes p) legal =
      record { refused = refused; forked = forked; phases = inl (elsewhere u p (Some 0) (others s t u refused legal.0)) }
  stays_refused u (Registers c p) legal =
      record {
        refused = refused;
        forked = forked;
        phases = inl (elsewhere c p (s.phases u p) (λ same. absurd (let not : s.forked c ≡ false = legal.2 in let is : s.forked c ≡ true = subst (λ v. s.forked v ≡ true) same forked in cc)));
      }
  stays_refused u (Forks c) legal =
      record {
        refused = refused;
        forked = elim (cases_eq t c) [ inl same ↦ updated_same s.forked c t true same | inr other ↦ updated_other s.forked c t true other ∙ forked ];
        phases = inl (λ q. refl);
      }
  stays_refused u (Advances p) legal =
      record { refused = refused; forked = forked; phases = inl (elsewhere u p (next_phase (s.phases u p)) (others s t u refused legal.0)) }
  stays_refused u (Drops p) legal = record {
    refused = refused;
    forked = forked;
    phases = elim (cases_eq t u) [ inl same ↦ inr (p, same, refl) | inr other ↦ inl (elsewhere u p None other) ];
  }
  stays_refused u (Blocks a) legal = record { refused = refused; forked = forked; phases = inl (λ q. refl) }
  stays_refused u (Passes p) legal = record { refused = refused; forked = forked; phases = inl (λ q. refl) }
  stays_refused u (Refuses a) legal =
      record {
        refused = subst IsSome (sym (updated_other s.refused u t (awaited (Some (Blocks a)) (s.phases u)) (others s t u refused legal.0))) refused;
        forked = forked;
        phases = inl (λ q. refl);
      }

  -- the others have the phase n on p, at least
  abbrev pub HaveCome : State → ℕ → ℕ → Type 0
  HaveCome r p n = (u m : ℕ) → u ≢ t → r.phases u p ≡ Some m → n ≤ m

  have_come_stays : (v : ℕ) (x : Action) (p n : ℕ) → IsLegal plan s v x → s.made p ≡ true → HaveCome s p n → HaveCome (after s v x) p n
  have_come_stays v (Makes q) p n l m r u k other e =
      elim (with_phase_is s.phases v q (Some 0) u p (Some k) e) [
        | inl w ↦ absurd (let f : s.made p ≡ false = subst (λ x. s.made x ≡ false) (sym w.1) l.2 in cc)
        | inr w ↦ r u k other w.1
      ]
  have_come_stays v (Registers c q) p n l m r u k other e =
      elim (with_phase_is s.phases c q (s.phases v q) u p (Some k) e) [
        | inl w ↦ r v k (λ same. others s t v refused l.0 (sym same)) (subst (λ x. s.phases v x ≡ Some k) (sym w.1) w.2)
        | inr w ↦ r u k other w.1
      ]
  have_come_stays v (Forks c) p n l m r u k other e = r u k other e
  have_come_stays v (Advances q) p n l m r u k other e =
      elim (with_phase_is s.phases v q (next_phase (s.phases v q)) u p (Some k) e) [
        | inl w ↦
            let j = next_phase_is (s.phases v q) k w.2 in
            let below : n ≤ j.0 = r v j.0 (λ same. others s t v refused l.0 (sym same)) (subst (λ x. s.phases v x ≡ Some j.0) (sym w.1) j.1) in
            omega arith
        | inr w ↦ r u k other w.1
      ]
  have_come_stays v (Drops q) p n l m r u k other e =
      elim (with_phase_is s.phases v q None u p (Some k) e) [ inl w ↦ absurd (cc) | inr w ↦ r u k other w.1 ]
  have_come_stays v (Blocks q) p n l m r u k other e = r u k other e
  have_come_stays v (Passes q) p n l m r u k other e = r u k other e
  have_come_stays v (Refuses q) p n l m r u k other e = r u k other e

-- what is made stays so
made_stays : (s : State) (u : ℕ) (x : Action) (p : ℕ) → s.made p ≡ true → (after s u x).made p ≡ true
made_stays s u (Makes q) p made = elim (cases_eq p q) [ inl same ↦ updated_same s.made q p true same | inr other ↦ updated_other s.made q p true other ∙ made ]
made_stays s u (Registers c q) p made = made
made_stays s u (Forks c) p made = made
made_stays s u (Advances q) p made = made
made_stays s u (Drops q) p made = made
made_stays s u (Blocks q) p made = made
made_stays s u (Passes q) p made = made
made_stays s u (Refuses q) p made = made

-- who waits waits still behind the step of another one
waits_still : (s : State) (u v : ℕ) (x : Action) → u ≢ v → (after s v x).published u ≡ s.published u
waits_still s u v (Makes q) other = refl
waits_still s u v (Registers c q) other = refl
waits_still s u v (Forks c) other = refl
waits_still s u v (Advances q) other = refl
waits_still s u v (Drops q) other = refl
waits_still s u v (Blocks a) other = updated_other s.published v u (awaited (Some (Blocks a)) (s.phases v)) other
waits_still s u v (Passes q) other = updated_other s.published v u None other
waits_still s u v (Refuses a) other = refl

-- ---- all later steps

abbrev step_of : ℕ → Action → Step
step_of t x = record { task = t; action = x }

step_is : (e : Step) (t : ℕ) (x : Action) → t ≡ e.task → e.action ≡ x → e ≡ step_of t x
step_is e t x same is = λ i. record { task = sym same i; action = is i }

module _ (plan : Plan) (h : List Step) (t : ℕ) where
  -- what is so of the refused task behind these steps: where it was a member, it is one or has left since; and it has left nothing else
  record HasLeft (later : List Step) : Type 0 where
    refused : IsSome ((state_after (later ++ h)).refused t)
    forked : (state_after (later ++ h)).forked t ≡ true
    was : (q : ℕ) → IsSome ((state_after (later ++ h)).phases t q) → IsSome ((state_after h).phases t q)
    left : (q : ℕ) → IsSome ((state_after h).phases t q) → IsSome ((state_after (later ++ h)).phases t q) ⊎ Contains later (step_of t (Drops q))
    only : (q : ℕ) → Contains later (step_of t (Drops q)) → IsSome ((state_after h).phases t q)

  module _ (e : Step) (later : List Step) (legal : IsLegal plan (state_after (later ++ h)) e.task e.action) (before : HasLeft later) where
    abbrev s : State
    s = state_after (later ++ h)

    still : IsStillRefused s t e.task e.action
    still = stays_refused plan s t before.refused before.forked e.task e.action legal

    -- who drops is a member
    dropper : (q : ℕ) → e ≡ step_of t (Drops q) → IsSome (s.phases t q)
    dropper q is =
        let own : IsLegal plan s t (Drops q) = subst (λ (d : Step). IsLegal plan s d.task d.action) is legal in
        subst IsSome (sym own.2.1) refl

    was_member : (q : ℕ) → Contains (e ∷ later) (step_of t (Drops q)) → IsSome ((state_after h).phases t q)
    was_member q m = elim (Contains-cons_cases e later (step_of t (Drops q)) m) [
      | inl here ↦ before.was q (dropper q here)
      | inr more ↦ before.only q more
    ]

    member_before : (p q : ℕ) → IsSome (with_phase s.phases t p None t q) → IsSome (s.phases t q)
    member_before p q is = elim (cases_eq q p) [
      | inl same ↦ absurd (false≢true (subst IsSome (ap (with_phase s.phases t p None t) same ∙ with_phase_same s.phases t p None) is))
      | inr other ↦ subst IsSome (with_phase_other s.phases t p None t q (λ z. other)) is
    ]

    left_by_step : ((q : ℕ) → (after s e.task e.action).phases t q ≡ s.phases t q) ⊎ ((p : ℕ) × (t ≡ e.task) × (e.action ≡ Drops p)) → HasLeft (e ∷ later)
    left_by_step (inl same) = record {
      refused = still.refused;
      forked = still.forked;
      was = λ q is. before.was q (subst IsSome (same q) is);
      left = λ q is. elim (before.left q is) [
        | inl there ↦ inl (subst IsSome (sym (same q)) there)
        | inr more ↦ inr (Contains-tail e later (step_of t (Drops q)) more)
      ];
      only = was_member;
    }
    left_by_step (inr (p, own, drops)) =
        let is : e ≡ step_of t (Drops p) = step_is e t (Drops p) own drops in
        let now : after s e.task e.action ≡ after s t (Drops p) = ap (λ (d : Step). after s d.task d.action) is in
        record {
          refused = still.refused;
          forked = still.forked;
          was = λ q there. before.was q (member_before p q (subst (λ (r : State). IsSome (r.phases t q)) now there));
          left = λ q there. elim (cases_eq q p) [
            | inl same ↦ inr (subst (λ k. Contains (e ∷ later) (step_of t (Drops k))) (sym same) (subst (Contains (e ∷ later)) is (Contains-head e later)))
            | inr other ↦ elim (before.left q there) [
              | inl here ↦
                  inl (subst (λ (r : State). IsSome (r.phases t q)) (sym now)
                  (subst IsSome (sym (with_phase_other s.phases t p None t q (λ z. other))) here))
              | inr more ↦ inr (Contains-tail e later (step_of t (Drops q)) more)
            ]
          ];
          only = was_member;
        }

    one_more : HasLeft (e ∷ later)
    one_more = left_by_step still.phases

  module _ (gone : IsSome ((state_after h).refused t)) (begun : (state_after h).forked t ≡ true) where
    has_left : (later : List Step) → IsLegalRun plan (later ++ h) → HasLeft later
    has_left [] run = record { refused = gone; forked = begun; was = λ q is. is; left = λ q is. inl is; only = λ q m. absurd (nothing_in_nil (step_of t (Drops q)) m) }
    has_left (e ∷ later) run = one_more e later run.1.legal (has_left later run.0)

    module _ (u : ℕ) (e : Event) where
      -- behind these steps the others have come as far as the event, and the task waits or has passed
      record GoesOn (later : List Step) : Type 0 where
        made : (state_after (later ++ h)).made e.p.0 ≡ true
        come : (v m : ℕ) → v ≢ t → (state_after (later ++ h)).phases v e.p.0 ≡ Some m → e.n ≤ m
        goes : ((state_after (later ++ h)).published u ≡ Some e) ⊎ Contains later (step_of u (Passes e.p.0))

      goes_more : (d : Step) (later : List Step) → IsLegalRun plan (later ++ h) → IsLegal plan (state_after (later ++ h)) d.task d.action → GoesOn later
          → GoesOn (d ∷ later)
      goes_more d later run legal before =
          let s = state_after (later ++ h) in
          let left = has_left later run in
          record {
            made = made_stays s d.task d.action e.p.0 before.made;
            come = have_come_stays plan s t left.refused left.forked d.task d.action e.p.0 e.n legal before.made before.come;
            goes = elim before.goes [
              | inl there ↦ elim (cases_eq u d.task) [
                | inl same ↦
                    let own : IsLegal plan s u d.action = subst (λ v. IsLegal plan s v d.action) (sym same) legal in
                    let passes = (only_passes plan s u d.action e own there).0 in
                    inr (subst (Contains (d ∷ later)) (step_is d u (Passes e.p.0) same passes) (Contains-head d later))
                | inr differs ↦ inl (waits_still s u d.task d.action differs ∙ there)
              ]
              | inr more ↦ inr (Contains-tail d later (step_of u (Passes e.p.0)) more)
            ];
          }

      module _ (waits : (state_after h).published u ≡ Some e) (is_made : (state_after h).made e.p.0 ≡ true)
          (are_there : (v m : ℕ) → v ≢ t → (state_after h).phases v e.p.0 ≡ Some m → e.n ≤ m) where
        goes_on : (later : List Step) → IsLegalRun plan (later ++ h) → GoesOn later
        goes_on [] run = record { made = is_made; come = are_there; goes = inl waits }
        goes_on (d ∷ later) run = goes_more d later run.0 run.1.legal (goes_on later run.0)

-- the end of an avoided run is behind each of its first steps
pub first_avoided : (plan : Plan) (later h : List Step) → IsAvoidedRun plan (later ++ h) → IsAvoidedRun plan h
first_avoided plan [] h run = run
first_avoided plan (e ∷ later) h run = first_avoided plan later h run.0

-- ---- the deadlock

number_is : (cycle : List TaskId) (t : ℕ) → has_task cycle t ≡ true → Contains cycle (record { 0 = t })
number_is [] t on = absurd (false≢true on)
number_is (c ∷ cs) t on = elim (or_cases (c.0 == t) (has_task cs t) on) [
  | inl here ↦ subst (Contains (c ∷ cs)) (task_is c t (eqb-true c.0 t here)) (Contains-head c cs)
  | inr later ↦ Contains-tail c cs (record { 0 = t }) (number_is cs t later)
]
  where
    task_is : (c : TaskId) (t : ℕ) → c.0 ≡ t → c ≡ record { 0 = t }
    task_is c t e = λ i. record { 0 = e i }

module _ (plan : Plan) (h : List Step) (t : ℕ) (aim : Aim) (later : List Step) (checked : IsCheckedPlan plan)
    (run : IsAvoidedRun plan (later ++ step_of t (Refuses aim) ∷ h)) (maximal : IsMaximal plan (later ++ step_of t (Refuses aim) ∷ h)) where
  abbrev all : List Step
  all = later ++ step_of t (Refuses aim) ∷ h

  abbrev decided : State
  decided = state_after h

  first : IsAvoidedRun plan (step_of t (Refuses aim) ∷ h)
  first = first_avoided plan later (step_of t (Refuses aim) ∷ h) run

  legal : IsLegalRun plan all
  legal = avoided_legal plan all run

  active : IsActive decided t
  active = first.1.legal.0

  is_refused : IsSome ((state_after (step_of t (Refuses aim) ∷ h)).refused t)
  is_refused =
      subst IsSome (sym (updated_same decided.refused t t (awaited (Some (Blocks aim)) (decided.phases t)) refl ∙ first.2.1)) refl

  has_gone : HasLeft plan (step_of t (Refuses aim) ∷ h) t later
  has_gone = has_left plan (step_of t (Refuses aim) ∷ h) t is_refused active.forked later legal

  -- at the end it is a member of nothing
  nothing_left : (q : ℕ) → (state_after all).phases t q ≡ None
  nothing_left q =
      let final : IsAvoidedFinal plan (state_after all) = record { steps = all; run = run; maximal = maximal; there = refl } in
      let end = (refused_ends plan (state_after all) t checked final).0 has_gone.refused in
      let tells : EndTells plan all t (ends.Refused end.1.0) = subst (EndTells plan all t) end.1.1 (ends_tell plan all t checked legal maximal) in
      tells.1 q

  pub leaves : (q : ℕ) → IsSome (decided.phases t q) ↔ Contains later (step_of t (Drops q))
  leaves q = (
    λ some. elim (has_gone.left q some) [
      | inl there ↦ absurd (false≢true (subst IsSome (nothing_left q) there))
      | inr drops ↦ drops
    ],
    has_gone.only q,
  )

  pub goes : (u : ℕ) (e : Event) → decided.published u ≡ Some e → IsReached (when_left decided t) e → Contains later (step_of u (Passes e.p.0))
  goes u e waits reached =
      let other : u ≢ t = λ same. absurd (let none : decided.published u ≡ None = ap decided.published same ∙ active.unpublished in cc) in
      let member = published_member plan h (avoided_legal plan h first.0) u e waits in
      let made = member_made plan h (avoided_legal plan h first.0) u e.p.0 member.0 member.1 in
      let come : (v m : ℕ) → v ≢ t → decided.phases v e.p.0 ≡ Some m → e.n ≤ m =
      λ v m differs is. reached v m (ap (λ (f : Phases). f e.p.0) (updated_other decided.phases t v (λ q. None) differs) ∙ is) in
      let end = goes_on plan (step_of t (Refuses aim) ∷ h) t is_refused active.forked u e waits made come later legal in
      elim end.goes [
        | inl there ↦
            let is : end_of (state_after all) u ≡ ends.Blocked e = ap (λ o. end_by ((state_after all).forked u) o ((state_after all).refused u)) there in
            let tells : EndTells plan all u (ends.Blocked e) = subst (EndTells plan all u) is (ends_tell plan all u checked legal maximal) in
            absurd (tells.1 (λ v m at. elim (cases_eq v t) [
              | inl same ↦ absurd (let none = ap (λ k. (state_after all).phases k e.p.0) same ∙ nothing_left e.p.0 in cc)
              | inr differs ↦ end.come v m differs at
            ]))
        | inr passes ↦ passes
      ]

  pub own_inside : (e : Event) (cycle : List TaskId) → IsDeadlockedSet (IsPublishedOn (if_published decided t e)) (IsAtPhase (if_published decided t e)) (has_task cycle)
      → Contains cycle (record { 0 = t })
  own_inside e cycle deadlocked = elim (cases_Bool (has_task cycle t)) [
    | inl on ↦ number_is cycle t on
    | inr off ↦
        let nobody : NobodyDead decided = nobody_is_dead plan h checked first.0 in
        let differs : (u : ℕ) → has_task cycle u ≡ true → u ≢ t = λ u in' same. absurd (let on : has_task cycle t ≡ true = subst (λ k. has_task cycle k ≡ true) same in' in cc) in
        let before : IsDeadlockedSet (IsPublishedOn decided) (IsAtPhase decided) (has_task cycle) =
        record {
          some = deadlocked.some;
          each = λ u in'.
              let held = deadlocked.each u in' in
              record {
                event = held.event;
                waits = sym (updated_other decided.published t u (Some e) (differs u in')) ∙ held.waits;
                by = held.by;
                inside = held.inside;
                phase = held.phase;
                impedes = held.impedes;
                below = held.below;
              };
        } in
        absurd (nobody deadlocked.some.0 (record { tasks = has_task cycle; inside = deadlocked.some.1; deadlocked = before }))
  ]
