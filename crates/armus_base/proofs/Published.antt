-- Places at which a task is published or refused.
use Rattle.std.proofs.Common.{◌≡◌, ℕ, zero, suc, ◌≤◌, Option, Some, None, List, ◌∷◌, arith, sym, ◌∙◌, ap, subst, refl, inl, inr}
use Rattle.std.proofs.lemmas.Bool.{cases_lt}
use Rattle.armus_base.specs.declared.event.Event.{Event}
use Rattle.armus_base.specs.Plans.{Action, Aim, Blocks, Drops, Passes, Plan, Refuses, action_at}
use Rattle.armus_base.specs.States.{Phases, Step, awaited}
use Rattle.armus_base.specs.calls.Runs.{ArePrefixes, IsPrefix, Precedes}
use Rattle.armus_base.specs.Runs.{Place, next_place, places}
use Rattle.armus_base.specs.calls.Places.{IsConsistent}
use Rattle.armus_base.specs.Places.{done_by, kept, members_below, phases_after, published_after}
use Rattle.armus_base.proofs.Steps.{updated_same}
use Rattle.armus_base.proofs.Fixed.{kept_below, kept_above}
use Rattle.armus_base.proofs.Codes.{passes_next, awaited_is}

-- an event that stands published after k actions was published by the last of them
pub published_after_is :
    (plan : Plan) (t k : ℕ) (e : Event) → published_after plan t k ≡ Some e →
    (j : ℕ) × k ≡ suc j × (aim : Aim) × (e.p.0 ≡ aim.phaser) × action_at plan t j ≡ Some (Blocks aim)
published_after_is plan t zero e h = absurd (cc)
published_after_is plan t (suc j) e h = (let by = go (action_at plan t j) refl h in (j, refl, by.0, by.1, by.2))
  where
    go :
        (o : Option Action) → action_at plan t j ≡ o → awaited (action_at plan t j) (phases_after plan t j) ≡ Some e →
        (aim : Aim) × (e.p.0 ≡ aim.phaser) × action_at plan t j ≡ Some (Blocks aim)
    go (Some (Blocks aim)) is h =
        let by : awaited (Some (Blocks aim)) (phases_after plan t j) ≡ Some e = ap (λ o. awaited o (phases_after plan t j)) (sym is) ∙ h in
        (aim, (awaited_is aim (phases_after plan t j) e by).0, is)
    go o is h = absurd (let by : awaited o (phases_after plan t j) ≡ Some e = ap (λ o. awaited o (phases_after plan t j)) (sym is) ∙ h in cc)

-- and the code goes on with the pass
pub published_passes : (plan : Plan) (t k : ℕ) (e : Event) → published_after plan t k ≡ Some e → action_at plan t k ≡ Some (Passes e.p.0)
published_passes plan t k e h =
    let is = published_after_is plan t k e h in
    ap (action_at plan t) is.1 ∙ passes_next plan t is.0 is.2 is.4 ∙ ap (λ p. Some (Passes p)) (sym is.3)

-- a task at a place at which it is published is not refused
pub published_undropped :
    (plan : Plan) (a : ℕ → Place) → IsConsistent plan a → (t : ℕ) (e : Event) → published_after plan t (a t).done ≡ Some e → (a t).dropped ≡ None
published_undropped plan a consistent t e h = go (a t).dropped refl
  where
    go : (o : Option ℕ) → (a t).dropped ≡ o → o ≡ None
    go None dropped = refl
    go (Some q) dropped =
        let stands = consistent.refused t q dropped in
        let passes = published_passes plan t (a t).done e h in
        absurd (let blocks = stands.1.1 in cc)

-- a refused task does no more of its code
pub refused_stays : (b a : ℕ → Place) → ArePrefixes a b → (t q : ℕ) → (a t).dropped ≡ Some q → done_by a t ≡ done_by b t
refused_stays b a later t q dropped = go (b t).dropped (subst (λ o. Precedes (a t).done o (b t).done (b t).dropped) dropped (later t))
  where
    go : (r : Option ℕ) → Precedes (a t).done (Some q) (b t).done r → done_by a t ≡ done_by b t
    go None x = absurd x
    go (Some r) x = x.0

-- a step is at most one action of the code
pub next_at_most : (k : ℕ) (o : Option ℕ) (x : Action) → (next_place k o x).done ≤ suc k
next_at_most k None (Refuses p) = omega arith
next_at_most k None x = omega arith
next_at_most k (Some q) (Drops p) = omega arith
next_at_most k (Some q) x = omega arith

pub step_at_most : (e : Step) (h : List Step) → done_by (places (e ∷ h)) e.task ≤ suc (done_by (places h) e.task)
step_at_most e h =
    let next = next_place (places h e.task).done (places h e.task).dropped e.action in
    subst (λ v. v.done ≤ suc (done_by (places h) e.task)) (sym (updated_same (places h) e.task e.task next refl))
    (next_at_most (places h e.task).done (places h e.task).dropped e.action)

-- two places with the same count, of which neither is refused
pub same_place : (a b : Place) → a.done ≡ b.done → a.dropped ≡ None → b.dropped ≡ None → a ≡ b
same_place a b e x y =
    ap (λ o. make a.done o) x ∙ ap (λ k. make k None) e ∙ ap (λ o. make b.done o) (sym y)
  where
    make : ℕ → Option ℕ → Place
    make k o = record { done = k; dropped = o }

-- what is before a place that is not refused is not refused
pub undropped_before : (a b : Place) → IsPrefix a b → b.dropped ≡ None → a.dropped ≡ None
undropped_before a b l x = go a.dropped (subst (λ o. Precedes a.done a.dropped b.done o) x l)
  where
    go : (o : Option ℕ) → Precedes a.done o b.done None → o ≡ None
    go None h = refl
    go (Some q) h = absurd h

pub kept_is : (o : Option ℕ) (m : Phases) (p n : ℕ) → kept o m p ≡ Some n → m p ≡ Some n
kept_is None m p n e = e
kept_is (Some q) m p n e =
    elim (cases_lt (members_below m p) q) [
      | inl l ↦ absurd (let f = kept_below q p m l in cc)
      | inr l ↦ sym (kept_above q p m l) ∙ e
    ]
