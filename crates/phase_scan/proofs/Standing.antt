-- A task that is published where it is seen: what a load found is what its word means there, and where it is dead it stands in all lawful states.
use Rattle.std.proofs.Common.{◌≡◌, ◌≢◌, ℕ, suc, ◌<◌, ◌≤◌, Bool, true, false, Option, Some, None, sym, refl, ap, ◌∙◌, subst, arith, inl, inr, ◌⊎◌}
use Rattle.std.proofs.lemmas.Bool.{cases_eq}
use Rattle.armus_base.specs.declared.event.Event.{Event}
use Rattle.armus_base.specs.Plans.{Passes, Plan, action_at}
use Rattle.armus_base.specs.calls.Runs.{ArePrefixes, IsPrefix, Precedes}
use Rattle.armus_base.specs.Runs.{Place, places}
use Rattle.armus_base.specs.Places.{done_by, kept, published_after, state_at}
use Rattle.armus_base.specs.calls.Places.{phases_at_place}
use Rattle.armus_base.specs.CheckedPlans.{IsCheckedPlan}
use Rattle.armus_base.specs.calls.Boards.{IsLawful, steps_of}
use Rattle.armus_base.specs.Deadlocks.{IsDeadIn}
use Rattle.armus_base.specs.calls.Seats.{Found, FoundRefused, IsLongestPrefix, IsPlaceOf, found_by}
use Rattle.armus_base.proofs.Fixed.{action_within, phases_forked}
use Rattle.armus_base.proofs.Published.{published_after_is, published_passes}
use Rattle.armus_base.proofs.Members.{plain_undropped}
use Rattle.armus_base.proofs.MaximalExists.{maximal_exists}
use Rattle.armus_base.proofs.OneEnd.{below_maximal}
use Rattle.armus_base.proofs.BoardRuns.{lawful_is_reachable, nobody_dead_at, plain_is_lawful}
use Rattle.armus_base.proofs.Reachable.{dead_stays_at_reachable, reachable_is_fixed}
use Rattle.phase_scan.specs.calls.Collects.{waiting_on}

-- an await word that means waiting
pub word_published : (o r : Option Event) (e : Event) → waiting_on (found_by o r) ≡ Some e → o ≡ Some e
word_published None None e is = absurd (cc)
word_published None (Some f) e is = absurd (cc)
word_published (Some f) r e is = is

pub word_waits : (o r : Option Event) (e : Event) → o ≡ Some e → waiting_on (found_by o r) ≡ Some e
word_waits None r e is = absurd (cc)
word_waits (Some f) r e is = is

-- an answer by which the task waits is no refusal
pub waits_unrefused : (answer : Found) (e : Event) → waiting_on answer ≡ Some e → (f : Event) → answer ≢ FoundRefused f
waits_unrefused answer e is f same = (let none : waiting_on answer ≡ None = ap waiting_on same in absurd (cc))

module _ (plan : Plan) (checked : IsCheckedPlan plan) where
  -- after the event on which a task is published its code goes on with the pass
  passes_after : (t k : ℕ) (e : Event) → published_after plan t k ≡ Some e → action_at plan t k ≡ Some (Passes e.p.0)
  passes_after = published_passes plan

  pub published_begun : (t k : ℕ) (e : Event) → published_after plan t k ≡ Some e → 0 < k
  published_begun t k e published = (let is = published_after_is plan t k e published in let one = is.1 in omega arith)

  -- The longest place that all places with a meaning have in common, where the task is published there: that place has the meaning. All other such
  -- places are past the pass.
  module _ (b : Bool) (t : ℕ) (Means : Place → Type 0) (before now : Place) (e : Event) (longest : IsLongestPrefix b plan t Means before now)
      (published : published_after plan t now.done ≡ Some e) where
    passes : action_at plan t now.done ≡ Some (Passes e.p.0)
    passes = passes_after t now.done e published

    undropped : (c : Place) → IsPlaceOf b plan t c → c.done ≡ now.done → c.dropped ≡ None
    undropped c place same = by_dropped c.dropped refl
      where
        by_dropped : (o : Option ℕ) → c.dropped ≡ o → o ≡ None
        by_dropped None is = refl
        by_dropped (Some d) is =
            let blocks = place.before_await d is in
            let here = ap (action_at plan t) same ∙ passes in
            let stands = blocks.1 in
            absurd (cc)

    after_pass : Place
    after_pass = record { done = suc now.done; dropped = None }

    after_pass_place : IsPlaceOf b plan t after_pass
    unfolding after_pass
    after_pass_place =
        record {
          within = (let l = action_within plan checked t now.done (Passes e.p.0) passes in omega arith);
          unrefused = λ detects. refl;
          before_await = λ d is. absurd (cc);
          no_more = λ d is. absurd (cc);
        }

    past : (Means now → ⊥) → (c : Place) → IsPlaceOf b plan t c → IsPrefix now c → Means c → IsPrefix after_pass c
    unfolding after_pass
    past none c place later means =
        let here = undropped now longest.place refl in
        let done : now.done ≤ c.done = subst (λ o. Precedes now.done o c.done c.dropped) here later in
        elim (cases_eq c.done now.done) [
          | inl same ↦
              let there = undropped c place same in
              absurd (none (subst Means (λ i. record { done = same i; dropped = (there ∙ sym here) i }) means))
          | inr other ↦ omega arith
        ]

    pub means_there : (Means now → ⊥) → ⊥
    unfolding after_pass
    means_there none =
        let short = longest.longest after_pass after_pass_place (λ c place later means. past none c place (longest.below c place later means) means) in
        let here = undropped now longest.place refl in
        let l : suc now.done ≤ now.done = short in
        omega arith

  -- the phases of a task that has begun are those at its place
  pub phases_begun_at :
      (b : Bool) (a : ℕ → Place) (lock : Option ℕ) → IsLawful b plan a lock → (t : ℕ) → 0 < (a t).done →
      (state_at plan a).phases t ≡ phases_at_place plan t (a t)
  phases_begun_at b a lock lawful t begun =
      ap (kept (a t).dropped)
      (phases_forked plan checked (done_by a) t ((reachable_is_fixed plan a checked (lawful_is_reachable b plan a lock lawful)).1.begun t begun))

  -- where it stands at the same place in two lawful states it has the same phases
  pub same_phases :
      (b : Bool) (a c : ℕ → Place) (lock lock' : Option ℕ) → IsLawful b plan a lock → IsLawful b plan c lock' → (t p : ℕ) (o : Option ℕ) → 0 < (a t).done →
      a t ≡ c t → (state_at plan c).phases t p ≡ o → (state_at plan a).phases t p ≡ o
  same_phases b a c lock lock' at_a at_c t p o begun same is =
      let there : 0 < (c t).done = subst (λ (v : Place). 0 < v.done) same begun in
      let here = ap (λ m. m p) (phases_begun_at b a lock at_a t begun) in
      let then = ap (λ m. m p) (phases_begun_at b c lock' at_c t there) in
      here ∙ ap (λ v. phases_at_place plan t v p) same ∙ sym then ∙ is

  -- a dead task stands where it stands after each maximal run
  ends_at :
      (t : ℕ) (a : ℕ → Place) (lock : Option ℕ) → IsLawful false plan a lock → IsDeadIn (state_at plan a) t →
      places (maximal_exists plan checked).0 t ≡ a t
  ends_at t a lock lawful dead =
      let end = maximal_exists plan checked in
      let h = steps_of lawful.entries in
      let later : ArePrefixes a (places end.0) =
      λ u. subst (λ v. IsPrefix v (places end.0 u)) (lawful.there u)
      (subst (λ o. Precedes (places h u).done o (places end.0 u).done (places end.0 u).dropped) (sym (plain_undropped plan h lawful.run.0 u))
      (below_maximal plan checked end.0 end.1 end.2 h lawful.run.0 u)) in
      (dead_stays_at_reachable plan a (places end.0) t checked (lawful_is_reachable false plan a lock lawful)
      (lawful_is_reachable false plan (places end.0) None (plain_is_lawful plan end.0 end.1)) later dead).1

  -- so it stands at one place in all lawful states
  pub dead_place :
      (b : Bool) (t : ℕ) (a c : ℕ → Place) (lock lock' : Option ℕ) → IsLawful b plan a lock → IsLawful b plan c lock' →
      IsDeadIn (state_at plan a) t → IsDeadIn (state_at plan c) t → a t ≡ c t
  dead_place true t a c lock lock' at_a at_c dead_a dead_c = absurd (nobody_dead_at plan a lock checked at_a t dead_a)
  dead_place false t a c lock lock' at_a at_c dead_a dead_c = sym (ends_at t a lock at_a dead_a) ∙ ends_at t c lock' at_c dead_c

-- two phases are the same or not
pub same_or_not : (o r : Option ℕ) → (o ≡ r) ⊎ (o ≢ r)
same_or_not None None = inl refl
same_or_not None (Some n) = inr (λ e. absurd (cc))
same_or_not (Some m) None = inr (λ e. absurd (cc))
same_or_not (Some m) (Some n) = elim (cases_eq m n) [ inl e ↦ inl (ap Some e) | inr ne ↦ inr (λ e. ne (some_same m n e)) ]
  where
    some_same : (u w : ℕ) → Some u ≡ Some w → u ≡ w
    some_same u w e = cc
