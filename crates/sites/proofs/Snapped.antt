-- What the two halves of a snap say together.
use Rattle.std.proofs.Common.{◌≡◌, ℕ, zero, suc, ◌<◌, Bool, true, false, List, All, Option, None, length, get_or, sym, refl, ap, ◌∙◌, subst, arith, inl, inr, ◌⊎◌}
use Rattle.std.specs.Prelude.{Contains}
use Rattle.std.proofs.lemmas.Bool.{cases_Bool, cases_eq}
use Rattle.std.proofs.lemmas.List.Elements.{Contains-get_or}
use Rattle.armus_base.specs.declared.event.Event.{Event}
use Rattle.armus_base.specs.declared.status.Status.{Status}
use Rattle.armus_base.specs.CheckedPlans.{IsCheckedPlan}
use Rattle.armus_base.specs.calls.FinalLaws.{AreStatuses}
use Rattle.armus_base.specs.Finals.{status_of}
use Rattle.armus_base.specs.Plans.{Plan}
use Rattle.armus_base.specs.Runs.{Place, first_place}
use Rattle.armus_base.proofs.Below.{given_few}
use Rattle.armus_base.proofs.StatusesAre.{statuses_are}
use Rattle.board.specs.calls.Seats.{Frame, IsOf, Known}
use Rattle.board.specs.calls.Views.{seen}
use Rattle.sites.specs.calls.Rows.{AreOfSite, HasNumbers, is_of_site}
use Rattle.phase_scan.specs.calls.Collects.{LoadsChosen}
use Rattle.phase_scan.proofs.ChosenLoads.{chosen_same, chosen_seat}
use Rattle.sites.specs.calls.Snaps.{IsBacked, IsSnap, TellsSite}
use Rattle.sites.specs.inside.Snapping.{FindsRows}
use Rattle.phase_scan.proofs.Farther.{IsPossible}
use Rattle.sites.proofs.TellingSites.{snap_tells, some_possible}

-- the loads of the await words, and the rows
pub snap_made :
    (plan : Plan) (sites site : ℕ) (events : ℕ → Option Event) (list : List Status) (before between now : Known) →
    LoadsChosen (is_of_site sites site) events (length plan.parents) before between → ((t : ℕ) → is_of_site sites site t ≡ false → events t ≡ None) →
    FindsRows plan events (length plan.parents) list between now → IsSnap plan sites site list before now
snap_made plan sites site events list before between now awaits others rows =
    record {
      found = rows.found;
      between = between;
      awaits = chosen_same (is_of_site sites site) events rows.found.published (length plan.parents) before between (λ t l. ap (λ h. h t) (sym rows.published)) awaits;
      others = λ t off. ap (λ h. h t) rows.published ∙ others t off;
      rows = rows.loads;
      statuses = rows.listed;
    }

-- each status is one of a task of the site that was found waiting
pub snap_own : (plan : Plan) (sites site : ℕ) (list : List Status) (before now : Known) → IsCheckedPlan plan → IsSnap plan sites site list before now → (s : Status) →
    Contains list s → s.t.0 < length plan.parents × is_of_site sites site s.t.0 ≡ true
snap_own plan sites site list before now checked c s inside =
    let are : AreStatuses plan c.found (λ p. true) list = subst (AreStatuses plan c.found (λ p. true)) (sym c.statuses) (statuses_are plan c.found (λ p. true) checked) in
    let has = (are.events s.t.0 s.event).0 (s, inside, refl, refl) in
    elim (cases_Bool (is_of_site sites site s.t.0)) [
      | inl is ↦ (has.0, is)
      | inr off ↦ absurd (let none = c.others s.t.0 off in let on = has.1 in cc)
    ]

-- a site may store what it has found
pub snap_stored : (plan : Plan) (sites site : ℕ) (list : List Status) (before now : Known) → IsCheckedPlan plan → IsSnap plan sites site list before now →
    All HasNumbers list → AreOfSite sites site list
snap_stored plan sites site list before now checked c numbers =
    let are : AreStatuses plan c.found (λ p. true) list = subst (AreStatuses plan c.found (λ p. true)) (sym c.statuses) (statuses_are plan c.found (λ p. true) checked) in
    record {
      in_order = are.in_order;
      few =
          (let count = ap length c.statuses in let few = given_few (status_of plan c.found (λ p. true)) (length plan.parents) in
          let limit = checked.limits.few_tasks in omega arith);
      own = λ k d l. (snap_own plan sites site list before now checked c (get_or list k d) (Contains-get_or list k d l)).1;
      numbers = numbers;
    }

-- some task of the first ones is one of the site, or none is
own_or_none : (own : ℕ → Bool) (n : ℕ) → ((t : ℕ) × t < n × own t ≡ true) ⊎ ((t : ℕ) → t < n → own t ≡ false)
own_or_none own zero = inr (λ t l. absurd (omega arith))
own_or_none own (suc n) =
    elim (cases_Bool (own n)) [
      | inl is ↦ inl (n, omega arith, is)
      | inr off ↦ elim (own_or_none own n) [
        | inl one ↦ (let l = one.1 in inl (one.0, omega arith, one.2))
        | inr none ↦ inr (λ t l. elim (cases_eq t n) [ inl e ↦ ap own e ∙ off | inr ne ↦ none t (omega arith) ])
      ]
    ]

-- nothing is backed by anything
pub nothing_backed : (plan : Plan) (list : List Status) (places : ℕ → Place) → ((s : Status) → Contains list s → ⊥) → IsBacked plan list places
nothing_backed plan list places none =
    record {
      at = λ t. first_place;
      found = λ t p. first_place;
      there = record {
        waiting = λ u e one is. absurd (none is.0 is.1);
        before = λ u e one is. absurd (none is.0 is.1);
        phases = λ u p n one is. absurd (none is.0 is.1);
        phases_before = λ u p n one is. absurd (none is.0 is.1);
      };
    }

-- a site without tasks finds nothing
tells_nothing :
    (plan : Plan) (sites site : ℕ) (list : List Status) (before now : Known) → IsCheckedPlan plan → IsSnap plan sites site list before now →
    ((t : ℕ) → t < length plan.parents → is_of_site sites site t ≡ false) → TellsSite plan sites site list before now
tells_nothing plan sites site list before now checked c none =
    record {
      backed = nothing_backed plan list (seen now.view).places nobody;
      idle = λ t l is. absurd (off t l is);
      waiting = λ t place e l is. absurd (off t l is);
      dead = λ t l is. absurd (off t l is);
    }
  where
    off : (t : ℕ) → t < length plan.parents → is_of_site sites site t ≡ true → ⊥
    off t l is = (let not = none t l in cc)

    nobody : (s : Status) → Contains list s → ⊥
    nobody s inside = (let (l, is) = snap_own plan sites site list before now checked c s inside in off s.t.0 l is)

-- what it tells, by a viewer of the board
pub snap_told :
    (f : Frame) (sites site : ℕ) (list : List Status) (before now : Known) → IsOf before f → IsCheckedPlan f.plan → IsSnap f.plan sites site list before now →
    TellsSite f.plan sites site list before now
snap_told f sites site list before now of checked c =
    elim (own_or_none (is_of_site sites site) (length f.plan.parents)) [
      | inl (t, l, is) ↦
          let own_plan = sym of.plan in
          let here : IsSnap before.view.plan sites site list before now = subst (λ (q : Plan). IsSnap q sites site list before now) own_plan c in
          let small : t < length before.view.plan.parents = subst (λ (q : Plan). t < length q.parents) own_plan l in
          let seat = chosen_seat before.view.plan (is_of_site sites site) here.found.published (length before.view.plan.parents) before here.between refl (omega arith)
          here.awaits t small is in
          subst (λ (q : Plan). TellsSite q sites site list before now) of.plan
          (snap_tells before now sites site list (subst IsCheckedPlan own_plan checked) seat here)
      | inr none ↦ tells_nothing f.plan sites site list before now checked c none
    ]

-- a snap of a site with a task shows a lawful state that was possible before it
pub snap_possible :
    (f : Frame) (sites site : ℕ) (list : List Status) (before now : Known) → IsOf before f → IsCheckedPlan f.plan → IsSnap f.plan sites site list before now → (t : ℕ) →
    t < length f.plan.parents → is_of_site sites site t ≡ true → IsPossible before (λ s. Unit {0})
snap_possible f sites site list before now of checked c t l is =
    let own_plan = sym of.plan in
    let here : IsSnap before.view.plan sites site list before now = subst (λ (q : Plan). IsSnap q sites site list before now) own_plan c in
    let small : t < length before.view.plan.parents = subst (λ (q : Plan). t < length q.parents) own_plan l in
    let seat = chosen_seat before.view.plan (is_of_site sites site) here.found.published (length before.view.plan.parents) before here.between refl (omega arith)
    here.awaits t small is in
    some_possible before now sites site list (subst IsCheckedPlan own_plan checked) seat here t (small, is)
