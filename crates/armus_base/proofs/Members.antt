-- Who is a member, who is published, and how a step moves a place.
use Rattle.std.proofs.Common.{◌≡◌, ◌≢◌, ℕ, suc, true, Option, Some, None, List, [], ◌∷◌, sym, ◌∙◌, ap, subst, refl, inl, inr}
use Rattle.std.proofs.lemmas.Bool.{cases_eq}
use Rattle.armus_base.specs.declared.event.Event.{Event}
use Rattle.armus_base.specs.Plans.{Action, Advances, Blocks, Drops, Forks, Makes, Passes, Plan, Refuses, Registers, action_at, in_code, Aim}
use Rattle.armus_base.specs.States.{IsLegal, IsMember, IsReached, State, Step, after, awaited, event_at, next_phase, with_phase}
use Rattle.armus_base.specs.Runs.{IsByCode, IsLegalRun, IsPlainRun, next_place, places, state_after}
use Rattle.armus_base.proofs.Codes.{awaited_is, event_on_is}
use Rattle.armus_base.proofs.Steps.{updated_is, updated_same, updated_other, with_phase_is, with_phase_other}

-- whoever is a member of a phaser, it is made
pub member_made :
    (plan : Plan) (h : List Step) → IsLegalRun plan h → (t p n : ℕ) → (state_after h).phases t p ≡ Some n → (state_after h).made p ≡ true
member_made plan [] run t p n e = absurd (cc)
member_made plan (e ∷ h) run t p n m = made_after plan (state_after h) e.task e.action run.1.legal (member_made plan h run.0) t p n m
  where
    made_after :
        (plan : Plan) (s : State) (u : ℕ) (x : Action) → IsLegal plan s u x →
        ((t p n : ℕ) → s.phases t p ≡ Some n → s.made p ≡ true) →
        (t p n : ℕ) → (after s u x).phases t p ≡ Some n → (after s u x).made p ≡ true
    made_after plan s u (Makes q) legal before t p n m =
        elim (with_phase_is s.phases u q (Some 0) t p (Some n) m) [
          | inl w ↦ updated_same s.made q p true w.1
          | inr w ↦ elim (cases_eq p q) [
            | inl e ↦ updated_same s.made q p true e
            | inr ne ↦ updated_other s.made q p true ne ∙ before t p n w.1
          ]
        ]
    made_after plan s u (Registers c q) legal before t p n m =
        elim (with_phase_is s.phases c q (s.phases u q) t p (Some n) m) [
          | inl w ↦ before u p n (subst (λ x. s.phases u x ≡ Some n) (sym w.1) w.2)
          | inr w ↦ before t p n w.1
        ]
    made_after plan s u (Forks c) legal before t p n m = before t p n m
    made_after plan s u (Advances q) legal before t p n m =
        elim (with_phase_is s.phases u q (next_phase (s.phases u q)) t p (Some n) m) [
          | inl w ↦ before u p legal.1.0 (subst (λ x. s.phases u x ≡ Some legal.1.0) (sym w.1) legal.1.1)
          | inr w ↦ before t p n w.1
        ]
    made_after plan s u (Drops q) legal before t p n m =
        elim (with_phase_is s.phases u q None t p (Some n) m) [ inl w ↦ absurd (cc) | inr w ↦ before t p n w.1 ]
    made_after plan s u (Blocks q) legal before t p n m = before t p n m
    made_after plan s u (Passes q) legal before t p n m = before t p n m
    made_after plan s u (Refuses q) legal before t p n m = before t p n m

-- nobody is refused in a plain run
pub plain_undropped : (plan : Plan) (h : List Step) → IsPlainRun plan h → (t : ℕ) → (places h t).dropped ≡ None
plain_undropped plan [] run t = refl
plain_undropped plan (e ∷ h) run t =
    let before = plain_undropped plan h (run.0.0, run.1.0) in
    elim (cases_eq t e.task) [
      | inl same ↦
          ap (λ v. v.dropped) (updated_same (places h) e.task t (next_place (places h e.task).done (places h e.task).dropped e.action) same)
          ∙ ap (λ o. (next_place (places h e.task).done o e.action).dropped) (before e.task)
          ∙ stays (places h e.task).done e.action run.1.1
      | inr other ↦
          ap (λ v. v.dropped) (updated_other (places h) e.task t (next_place (places h e.task).done (places h e.task).dropped e.action) other) ∙ before t
    ]
  where
    stays : (k : ℕ) (x : Action) → ((aim : Aim) → x ≢ Refuses aim) → (next_place k None x).dropped ≡ None
    stays k (Refuses p) n = absurd (n p refl)
    stays k x n = refl

-- a published task is a member of its event's phaser
abbrev pub PublishedAreMembers : State → Type 0
PublishedAreMembers s = (t : ℕ) (e : Event) → s.published t ≡ Some e → IsMember s t e.p.0

-- a change of the phases of another task, or of one that is not published
pub keeps_members :
    (s : State) (u q : ℕ) (v : Option ℕ) → s.published u ≡ None → PublishedAreMembers s → (t : ℕ) (e : Event) → s.published t ≡ Some e →
    (n : ℕ) × (with_phase s.phases u q v t e.p.0 ≡ Some n)
keeps_members s u q v idle before t e p =
    let was = before t e p in
    (was.0, with_phase_other s.phases u q v t e.p.0 (λ same. absurd (let r : s.published t ≡ None = ap s.published same ∙ idle in cc)) ∙ was.1)

pub members_after :
    (plan : Plan) (s : State) (u : ℕ) (x : Action) → IsLegal plan s u x → PublishedAreMembers s → PublishedAreMembers (after s u x)
members_after plan s u (Makes q) legal before t e p = keeps_members s u q (Some 0) legal.0.unpublished before t e p
members_after plan s u (Registers c q) legal before t e p =
    let was = before t e p in
    let none : t ≡ c → e.p.0 ≢ q =
    λ same here. absurd (let r : s.phases t e.p.0 ≡ None = subst (λ w. s.phases w e.p.0 ≡ None) (sym same) (subst (λ w. s.phases c w ≡ None) (sym here) legal.4) in let phase = was.1 in cc) in
    (was.0, with_phase_other s.phases c q (s.phases u q) t e.p.0 none ∙ was.1)
members_after plan s u (Forks c) legal before t e p = before t e p
members_after plan s u (Advances q) legal before t e p = keeps_members s u q (next_phase (s.phases u q)) legal.0.unpublished before t e p
members_after plan s u (Drops q) legal before t e p = keeps_members s u q None legal.1 before t e p
members_after plan s u (Blocks q) legal before t e p =
    elim (updated_is s.published u t (awaited (Some (Blocks q)) (s.phases u)) (Some e) p) [
      | inl w ↦
          let is = awaited_is q (s.phases u) e w.1 in
          (is.1.0, ap (λ v. s.phases v e.p.0) w.0 ∙ ap (s.phases u) is.0 ∙ is.1.1)
      | inr w ↦ before t e w.1
    ]
members_after plan s u (Passes q) legal before t e p =
    elim (updated_is s.published u t None (Some e) p) [ inl w ↦ absurd (cc) | inr w ↦ before t e w.1 ]
members_after plan s u (Refuses q) legal before t e p = before t e p

pub published_member :
    (plan : Plan) (h : List Step) → IsLegalRun plan h → (t : ℕ) (e : Event) → (state_after h).published t ≡ Some e →
    IsMember (state_after h) t e.p.0
published_member plan [] run t e p = absurd (cc)
published_member plan (d ∷ h) run t e p =
    members_after plan (state_after h) d.task d.action run.1.legal (published_member plan h run.0) t e p

-- a published task may only pass
pub only_passes :
    (plan : Plan) (s : State) (t : ℕ) (x : Action) (e : Event) → IsLegal plan s t x → s.published t ≡ Some e →
    x ≡ Passes e.p.0 × IsReached s e
only_passes plan s t (Makes q) e legal p = absurd (let n = legal.0.unpublished in cc)
only_passes plan s t (Registers c q) e legal p = absurd (let n = legal.0.unpublished in cc)
only_passes plan s t (Forks c) e legal p = absurd (let n = legal.0.unpublished in cc)
only_passes plan s t (Advances q) e legal p = absurd (let n = legal.0.unpublished in cc)
only_passes plan s t (Drops q) e legal p = absurd (let n = legal.1 in cc)
only_passes plan s t (Blocks q) e legal p = absurd (let n = legal.0.unpublished in cc)
only_passes plan s t (Passes q) e legal p =
    let same : Some e ≡ Some (event_at q legal.1) = sym p ∙ legal.2 in
    let is = event_on_is q (Some legal.1) e (sym same) in
    let phase : legal.1 ≡ e.n = (cc) in
    (ap Passes (sym is.0), subst (λ v. IsReached s (event_at v e.n)) (sym is.0) (subst (λ v. IsReached s (event_at q v)) phase legal.3))
only_passes plan s t (Refuses q) e legal p = absurd (let n = legal.0.unpublished in cc)

-- one step of a plain run lengthens its task's place by one action
pub plain_step :
    (plan : Plan) (e : Step) (h : List Step) → IsPlainRun plan (e ∷ h) → places (e ∷ h) e.task ≡ record { done = suc (places h e.task).done; dropped = None }
plain_step plan e h run =
    updated_same (places h) e.task e.task (next_place (places h e.task).done (places h e.task).dropped e.action) refl
    ∙ ap (λ o. next_place (places h e.task).done o e.action) (plain_undropped plan h (run.0.0, run.1.0) e.task)
    ∙ regular (places h e.task).done e.action run.1.1
  where
    regular : (k : ℕ) (x : Action) → ((aim : Aim) → x ≢ Refuses aim) → next_place k None x ≡ record { done = suc k; dropped = None }
    regular k (Refuses p) n = absurd (n p refl)
    regular k x n = refl

pub other_step : (e : Step) (h : List Step) (t : ℕ) → t ≢ e.task → places (e ∷ h) t ≡ places h t
other_step e h t n = updated_other (places h) e.task t (next_place (places h e.task).done (places h e.task).dropped e.action) n

pub by_code_next : (plan : Plan) (t k : ℕ) (o : Option ℕ) (x : Action) → o ≡ None → IsByCode plan t k o x → action_at plan t k ≡ Some (in_code x)
by_code_next plan t k None x e code = code
by_code_next plan t k (Some q) x e code = absurd (cc)
