-- Who waits for whom in a world, by the places of awaited events.
use Rattle.std.proofs.Common.{◌≡◌, ℕ, ◌+◌, ◌-◌, ◌<◌, ◌≤◌, true, Option, None, Some, List, [], ◌∷◌, ◌++◌, length, refl, sym, ap, ◌∙◌, subst, ◌⊎◌, inl, inr, arith, get_or}
use Rattle.std.specs.Prelude.{Contains, ◌↔◌, All, slice_index}
use Rattle.std.proofs.lemmas.Bool.{cases_eq, cases_lt, false≢true}
use Rattle.std.proofs.lemmas.List.{get_or_append_left, get_or_default, get_or_push, length_push}
use Rattle.std.proofs.lemmas.List.Elements.{All-contains, Contains-get_or}
use Rattle.armus_base.proofs.Elements.{nothing_in_nil}
use Rattle.armus_base.specs.CheckedPlans.{IsCheckedPlan}
use Rattle.armus_base.specs.Finals.{is_awaited}
use Rattle.armus_base.specs.calls.FinalLaws.{AreStatuses, IsOfPlan}
use Rattle.armus_base.specs.Graphs.{WaitsFor}
use Rattle.armus_base.specs.calls.Places.{IsConsistent}
use Rattle.armus_base.specs.Places.{refused_at}
use Rattle.armus_base.specs.Plans.{Plan}
use Rattle.armus_base.specs.Runs.{IsReachable}
use Rattle.armus_base.specs.States.{State}
use Rattle.armus_base.specs.declared.event.Event.{Event}
use Rattle.armus_base.specs.declared.ids.TaskId.{TaskId}
use Rattle.armus_base.proofs.Published.{published_after_is, published_undropped}
use Rattle.armus_base.proofs.Reachable.{reachable_is_fixed}
use Rattle.armus_base.proofs.StatusesAre.{statuses_are}
use Rattle.dep_state.proofs.DeadSets.{same_task}
use Rattle.order_graph.specs.calls.Waits.{AreWaitsAmong, Awaits}
use Rattle.order_graph.specs.declared.waits.Waits.{Waits}
use Rattle.pl_core.specs.calls.Awaiting.{awaited_statuses}
use Rattle.pl_core.specs.calls.HighestPhases.{IsPublishedImpeder}
use Rattle.pl_core.specs.calls.Stands.{StandsSo}
use Rattle.pl_core.specs.calls.Worlds.{WorldValue, places_of, state_of}
use Rattle.pl_core.specs.declared.stand.Stand.{Stand}
use Rattle.pl_core.specs.declared.stand.Stand.TheVariants.{Unforked, Done, Refused, Ready, Await, Waits as Waiting}
use Rattle.pl_core.proofs.GoingOn.{passes_when_waiting}
use Rattle.avoider.specs.inside.Waiting.{AreImpederSets, AreImpeders, HavePlaces, IsPlaceOfEvent}
use Rattle.avoider.proofs.SamePairs.{IsPair, awaited_by, pair_from, pair_is}

-- who does not wait is not published
module _ (w : WorldValue) (checked : IsCheckedPlan w.plan) (reach : IsReachable w.plan (places_of w)) (t : ℕ) where
  consistent_there : IsConsistent w.plan (places_of w)
  consistent_there = (reachable_is_fixed w.plan (places_of w) checked reach).1

  forked_when_waiting : (e : Event) → (state_of w).published t ≡ Some e → (state_of w).forked t ≡ true
  unfolding state_of
  forked_when_waiting e p = consistent_there.begun t (let s = (published_after_is w.plan t (places_of w t).done e p).1 in omega arith)

  unrefused_when_waiting : (e : Event) → (state_of w).published t ≡ Some e → (state_of w).refused t ≡ None
  unfolding state_of
  unrefused_when_waiting e p = ap (refused_at w.plan t (places_of w t).done) (published_undropped w.plan (places_of w) consistent_there t e p)

  not_so : (stand : Stand) → StandsSo w t stand → ((e : Event) → stand ≡ Waiting e → ⊥) → (e : Event) → (state_of w).published t ≡ Some e → ⊥
  not_so Unforked so other e p = false≢true (sym so ∙ forked_when_waiting e p)
  not_so Done so other e p = let n = so.1 in let s = passes_when_waiting w checked reach t e p in absurd cc
  not_so (Refused f) so other e p = let n = unrefused_when_waiting e p in let s = so in absurd cc
  not_so Ready so other e p = let n = so.0.unpublished in absurd cc
  not_so (Await f) so other e p = let n = so.0.unpublished in absurd cc
  not_so (Waiting f) so other e p = other f refl

  pub not_published : (stand : Stand) → StandsSo w t stand → ((e : Event) → stand ≡ Waiting e → ⊥) → (state_of w).published t ≡ None
  not_published stand so other = go ((state_of w).published t) refl
    where
      go : (o : Option Event) → (state_of w).published t ≡ o → (state_of w).published t ≡ None
      go None h = h
      go (Some e) h = absurd (not_so stand so other e h)

-- one task more
pub places_more :
    (s : State) (u place : ℕ) (before events : List Event) (own : List ℕ) → HavePlaces s u before own → ((o : Option Event) (n : ℕ) → IsPlaceOfEvent before o n → IsPlaceOfEvent events o n) →
    IsPlaceOfEvent events (s.published u) place → HavePlaces s (u + 1) events (own ++ place ∷ [])
places_more s u place before events own have grows is =
    record {
      sized = length_push own place ∙ ap (λ n. n + 1) have.sized;
      each = λ v lt. elim (cases_eq v u) [
        | inl e ↦
            let at : slice_index (own ++ place ∷ []) v ≡ place = get_or_push own place 0 v (have.sized ∙ sym e) in
            subst (λ x. IsPlaceOfEvent events (s.published x) (slice_index (own ++ place ∷ []) v)) (sym e) (rw at is)
        | inr ne ↦
            let at : slice_index (own ++ place ∷ []) v ≡ slice_index own v = get_or_append_left own (place ∷ []) 0 v (omega (arith, have.sized)) in
            rw at (grows (s.published v) (slice_index own v) (have.each v (omega arith)))
      ];
    }

pub phasers_more :
    (n : ℕ) (before events : List Event) (o : Option Event) → All (λ e. e.p.0 < n) before → ((e : Event) → Contains events e → Contains before e ⊎ (o ≡ Some e)) →
    ((e : Event) → o ≡ Some e → e.p.0 < n) → All (λ e. e.p.0 < n) events
phasers_more n before events o all within own k d lt =
    elim (within (get_or events k d) (Contains-get_or events k d lt)) [
      | inl m ↦ All-contains (λ (e : Event). e.p.0 < n) before (get_or events k d) all m
      | inr e ↦ own (get_or events k d) e
    ]

-- the impeders below a further number, where nobody between the two impedes
pub impeders_on :
    (s : State) (low high : ℕ) (e : Event) (row : List TaskId) → AreImpeders s low e row → low ≤ high → ((u : ℕ) → low ≤ u → u < high → IsPublishedImpeder s e u → ⊥) →
    AreImpeders s high e row
impeders_on s low high e row are le none x = (
  λ m. let (lt, impedes) = (are x).0 m in (omega arith, impedes),
  λ (lt, impedes). (are x).1 (elim (cases_lt x.0 low) [ inl l ↦ l | inr on ↦ absurd (none x.0 on lt impedes) ], impedes),
)

-- the impeders below one number more
module _ (s : State) (u : TaskId) (event : Event) (row : List TaskId) (are : AreImpeders s u.0 event row) where
  pub impeders_more :
      (new : List TaskId) → IsPublishedImpeder s event u.0 → ((x : TaskId) → Contains new x ↔ (Contains row x ⊎ (x ≡ u))) → AreImpeders s (u.0 + 1) event new
  impeders_more new is members x = (
    λ m. elim ((members x).0 m) [
      | inl l ↦ let (lt, imp) = (are x).0 l in (omega arith, imp)
      | inr e ↦ (omega (arith, ap (λ (y : TaskId). y.0) e), subst (λ (y : TaskId). IsPublishedImpeder s event y.0) (sym e) is)
    ],
    λ (lt, imp). (members x).1 (elim (cases_eq x.0 u.0) [
      | inl e ↦ inr (same_task x u e)
      | inr ne ↦ inl ((are x).1 (omega arith, imp))
    ]),
  )

-- the set of one event more
pub sets_more :
    (s : State) (tasks : ℕ) (events : List Event) (k : ℕ) (sets : List (List TaskId)) (set' : List TaskId) → k < length events → length sets ≡ k + 1 →
    ((j : ℕ) (e : Event) → j < k → AreImpeders s tasks (get_or events j e) (get_or sets (j + 1) [])) →
    ((e : Event) → AreImpeders s tasks (get_or events k e) set') → (j : ℕ) (e : Event) → j < k + 1 → AreImpeders s tasks (get_or events j e) (get_or (sets ++ set' ∷ []) (j + 1) [])
sets_more s tasks events k sets set' lt sized each is j e jk =
    elim (cases_eq j k) [
      | inl f ↦ rw (get_or_push sets set' [] (j + 1) (sized ∙ ap (λ n. n + 1) (sym f)), f) (is e)
      | inr ne ↦ rw (get_or_append_left sets (set' ∷ []) [] (j + 1) (omega arith)) (each j e (omega arith))
    ]

module _ (plan : Plan) (s : State) (checked : IsCheckedPlan plan) (of' : IsOfPlan plan s) (w : Waits) (events : List Event)
    (have : HavePlaces s (length plan.parents) events w.own.items) (sets : AreImpederSets s (length plan.parents) events w.sets.items) where
  few : AreStatuses plan s (is_awaited plan s) (awaited_statuses plan s)
  few = statuses_are plan s (is_awaited plan s) checked

  -- the own set of a task that awaits an event has those that impede it
  own_impeders : (a : TaskId) (e : Event) → a.0 < length plan.parents → s.published a.0 ≡ Some e → AreImpeders s (length plan.parents) e (get_or w.sets.items (slice_index w.own.items a.0) [])
  own_impeders a e lt p =
      let n : ℕ = slice_index w.own.items a.0 in
      let place : IsPlaceOfEvent events (Some e) n = subst (λ o. IsPlaceOfEvent events o n) p (have.each a.0 lt) in
      let (some, le, at) = place in
      let back : n - 1 + 1 ≡ n = omega arith in
      subst (λ j. AreImpeders s (length plan.parents) e (get_or w.sets.items j [])) back
      (subst (λ f. AreImpeders s (length plan.parents) f (get_or w.sets.items (n - 1 + 1) [])) (at e) (sets.each (n - 1) e (omega arith)))

  -- and that of one that awaits none is empty
  own_empty : (a b : TaskId) → a.0 < length plan.parents → s.published a.0 ≡ None → Contains (get_or w.sets.items (slice_index w.own.items a.0) []) b → ⊥
  own_empty a b lt p m =
      let none : slice_index w.own.items a.0 ≡ 0 = subst (λ o. IsPlaceOfEvent events o (slice_index w.own.items a.0)) p (have.each a.0 lt) in
      nothing_in_nil b (subst (λ r. Contains {X = TaskId} r b) (ap (λ j. get_or w.sets.items j []) none ∙ sets.first) m)

  pair_of : (a b : TaskId) (e : Event) → a.0 < length plan.parents → s.published a.0 ≡ Some e → b.0 < length plan.parents → IsPublishedImpeder s e b.0 → IsPair (awaited_statuses plan s) a.0 b.0
  pair_of a b e lt p lt' (f, q, m, at, below) =
      record {
        event = e;
        waits = (few.events a.0 e).1 (lt, p);
        phase = m;
        behind = (few.phases b.0 e.p.0 m).1
            (record { task = lt'; event = f; published = q; phaser = of'.phaser b.0 e.p.0 m at; asked_for = awaited_by plan s a.0 e lt p; phase = at });
        below = below;
      }

  to_pair : (a b : TaskId) → a.0 < length plan.parents → Contains (get_or w.sets.items (slice_index w.own.items a.0) []) b → (o : Option Event) → s.published a.0 ≡ o → IsPair (awaited_statuses plan s) a.0 b.0
  to_pair a b lt m None p = absurd (own_empty a b lt p m)
  to_pair a b lt m (Some e) p = let (lt', imp) = (own_impeders a e lt p b).0 m in pair_of a b e lt p lt' imp

  pub waits_are : (a b : TaskId) → Awaits w a b ↔ WaitsFor (awaited_statuses plan s) a b
  waits_are a b = (
    λ (lt, m). pair_from (awaited_statuses plan s) a b (to_pair a b (omega (arith, have.sized)) m (s.published a.0) refl),
    λ h.
        let pair = pair_is (awaited_statuses plan s) a b h in
        let (lt, p) = (few.events a.0 pair.event).0 pair.waits in
        let at = (few.phases b.0 pair.event.p.0 pair.phase).0 pair.behind in (
          omega (arith, have.sized),
          (own_impeders a pair.event lt p b).1 (at.task, (at.event, at.published, pair.phase, at.phase, pair.below)),
        ),
  )

  -- each own set is one of the sets, and in the sets are tasks
  pub waits_among : AreWaitsAmong (length plan.parents) w
  waits_among =
      record {
        sized = have.sized;
        own_inside = λ k z lt.
            let place = have.each k (omega (arith, have.sized)) in
            subst (λ i. i < length w.sets.items) (get_or_default w.own.items k 0 z lt) (place_inside (s.published k) (slice_index w.own.items k) place);
        tasks_inside = λ i z lt k y l.
            let u = get_or (get_or w.sets.items i z) k y in
            set_tasks i u lt (subst (λ r. Contains {X = TaskId} r u) (get_or_default w.sets.items i z [] lt) (Contains-get_or (get_or w.sets.items i z) k y l));
      }
    where
      place_inside : (o : Option Event) (n : ℕ) → IsPlaceOfEvent events o n → n < length w.sets.items
      place_inside None n is = omega (arith, is, sets.sized)
      place_inside (Some e) n is = omega (arith, is.1, sets.sized)

      set_tasks : (i : ℕ) (u : TaskId) → i < length w.sets.items → Contains (get_or w.sets.items i []) u → u.0 < length plan.parents
      set_tasks i u lt m =
          elim (cases_eq i 0) [
            | inl e ↦ absurd (nothing_in_nil u (subst (λ r. Contains {X = TaskId} r u) (ap (λ j. get_or w.sets.items j []) e ∙ sets.first) m))
            | inr ne ↦
                let none : Event = record { p = record { 0 = 0 }; n = 0 } in
                let back : i - 1 + 1 ≡ i = omega arith in
                ((sets.each (i - 1) none (omega (arith, sets.sized)) u).0 (subst (λ j. Contains {X = TaskId} (get_or w.sets.items j []) u) (sym back) m)).0
          ]
