-- Whom a refusal releases: those whose events the refused task alone impeded.
use mathlib.Core.Path.{fun_ext}
use Rattle.std.proofs.Common.{◌≡◌, ◌≢◌, ◌∙◌, ℕ, ◌<◌, ◌≤◌, List, Option, Some, None, ap, arith, inl, inr, length, refl, subst, sym}
use Rattle.std.specs.Prelude.{◌⊎◌, slice_get}
use Rattle.std.proofs.lemmas.Bool.{cases_eq, cases_lt}
use Rattle.std.proofs.lemmas.Option.{slice_get_within}
use Rattle.armus_base.specs.declared.event.Event.{Event}
use Rattle.armus_base.specs.declared.ids.TaskId.{TaskId}
use Rattle.armus_base.specs.calls.FinalLaws.{IsOfPlan}
use Rattle.armus_base.specs.Finals.{list_below}
use Rattle.armus_base.specs.Places.{done_by, kept, phases_at, published_after}
use Rattle.armus_base.specs.Plans.{Plan}
use Rattle.armus_base.specs.Runs.{Place}
use Rattle.armus_base.specs.States.{IsReached, Phases, State}
use Rattle.armus_base.proofs.Below.{length-list_below, list_below-at}
use Rattle.armus_base.proofs.Steps.{updated_other, updated_same}
use Rattle.armus_base.proofs.Tasks.{all_or_one}
use Rattle.pl_core.specs.calls.Moves.{MakesRefusal}
use Rattle.pl_core.specs.calls.Worlds.{WorldValue, places_of, state_of}
use Rattle.explain_avoid.specs.Released.{AreReleased, IsReleased, when_left}
use Rattle.explain_avoid.specs.inside.Freed.{AreThoseBelow, IsFreed}
use Rattle.explain_avoid.proofs.OpsKept.{same_done, same_place}
use Rattle.explain_avoid.proofs.Those.{those_exist}

-- ---- the state once a task has left

module _ (s : State) (t : ℕ) where
  -- another task keeps its phases
  other_phases : (u : ℕ) → u ≢ t → (when_left s t).phases u ≡ s.phases u
  other_phases u other = updated_other s.phases t u (λ q. None) other

  -- who is a member still was one before
  pub left_member : (u p m : ℕ) → (when_left s t).phases u p ≡ Some m → s.phases u p ≡ Some m
  left_member u p m is =
      elim (cases_eq u t) [
        | inl same ↦ absurd (let none = ap (λ (ph : Phases). ph p) (updated_same s.phases t u (λ q. None) same) in cc)
        | inr other ↦ ap (λ (ph : Phases). ph p) (sym (other_phases u other)) ∙ is
      ]

  module _ (e : Event) (later : IsReached (when_left s t) e) where
    -- no other task impedes an event that is reached then
    others_reach : (u m : ℕ) → u ≢ t → s.phases u e.p.0 ≡ Some m → e.n ≤ m
    others_reach u m other is = later u m (ap (λ (ph : Phases). ph e.p.0) (other_phases u other) ∙ is)

    -- so it is reached before where the task itself does not
    reached_before : ((m : ℕ) → s.phases t e.p.0 ≡ Some m → e.n ≤ m) → IsReached s e
    reached_before own u m is =
        elim (cases_eq u t) [
          | inl same ↦ own m (subst (λ v. s.phases v e.p.0 ≡ Some m) same is)
          | inr other ↦ others_reach u m other is
        ]

    -- and else the task impeded it
    pub impeded_by_it : (IsReached s e → ⊥) → (m : ℕ) × (s.phases t e.p.0 ≡ Some m) × (m < e.n)
    impeded_by_it unreached = by_phase (s.phases t e.p.0) refl
      where
        by_phase : (o : Option ℕ) → s.phases t e.p.0 ≡ o → (m : ℕ) × (s.phases t e.p.0 ≡ Some m) × (m < e.n)
        by_phase None is = absurd (unreached (reached_before (λ m at. absurd (cc))))
        by_phase (Some k) is =
            elim (cases_lt k e.n) [
              | inl less ↦ (k, is, less)
              | inr more ↦ absurd (unreached (reached_before (λ m at. (let same : k ≡ m = (let both : Some k ≡ Some m = sym is ∙ at in cc) in omega arith))))
            ]

-- ---- there is one list of those who are released

-- whether an event is reached, where there are so many tasks
reached_or_not : (s : State) (k : ℕ) → ((u p m : ℕ) → s.phases u p ≡ Some m → u < k) → (e : Event) → IsReached s e ⊎ (IsReached s e → ⊥)
reached_or_not s k within e =
    elim (all_or_one
    (λ u. (m : ℕ) → s.phases u e.p.0 ≡ Some m → e.n ≤ m)
    (λ u. (m : ℕ) × (s.phases u e.p.0 ≡ Some m) × (m < e.n))
    (λ u. test u (s.phases u e.p.0) refl)
    k) [
      | inl all ↦ inl (λ u m is. all u (within u e.p.0 m is) m is)
      | inr one ↦ inr (λ reached. let behind = one.2 in let ahead = reached one.0 behind.0 behind.1 in omega arith)
    ]
  where
    test :
        (u : ℕ) (o : Option ℕ) → s.phases u e.p.0 ≡ o →
        ((m : ℕ) → s.phases u e.p.0 ≡ Some m → e.n ≤ m) ⊎ ((m : ℕ) × (s.phases u e.p.0 ≡ Some m) × (m < e.n))
    test u None is = inl (λ m at. absurd (cc))
    test u (Some k) is =
        elim (cases_lt k e.n) [
          | inl less ↦ inr (k, is, less)
          | inr more ↦ inl (λ m at. let same : k ≡ m = (let both : Some k ≡ Some m = sym is ∙ at in cc) in omega arith)
        ]

module _ (plan : Plan) (s : State) (t : ℕ) (of_plan : IsOfPlan plan s) where
  -- whether a task is released
  released_or_not : (u : ℕ) → IsReleased s (when_left s t) u ⊎ (IsReleased s (when_left s t) u → ⊥)
  released_or_not u = by_event (s.published u) refl
    where
      by_event : (o : Option Event) → s.published u ≡ o → IsReleased s (when_left s t) u ⊎ (IsReleased s (when_left s t) u → ⊥)
      by_event None is = inr (λ r. absurd (let waits = r.waits in cc))
      by_event (Some e) is =
          let same : (d : Event) → s.published u ≡ Some d → d ≡ e = λ d at. (let both : Some d ≡ Some e = sym at ∙ is in cc) in
          elim (reached_or_not s (length plan.parents) of_plan.member e) [
            | inl now ↦ inr (λ r. r.unreached (subst (λ (d : Event). IsReached s d) (sym (same r.event r.waits)) now))
            | inr not_yet ↦ elim (reached_or_not (when_left s t) (length plan.parents) (λ v p m at. of_plan.member v p m (left_member s t v p m at)) e) [
              | inl later ↦ inl (record { event = e; waits = is; unreached = not_yet; reached = later })
              | inr never ↦ inr (λ r. never (subst (λ (d : Event). IsReached (when_left s t) d) (same r.event r.waits) r.reached))
            ]
          ]

  pub released_exist : (tasks : List TaskId) × AreReleased s (when_left s t) tasks
  released_exist =
      let those = those_exist (λ u. IsReleased s (when_left s t) u) released_or_not (length plan.parents) in (
        those.0,
        record {
          ascends = those.1.ascends;
          exact = λ u. (
            λ m. ((those.1.exact u).0 m).1,
            λ r. (those.1.exact u).1 (of_plan.published u.0 r.event r.waits, r),
          );
        },
      )

-- ---- in a world

module _ (old new : WorldValue) (t : ℕ) (r : MakesRefusal old new t) where
  -- after a refusal each task waits as before
  same_published : (u : ℕ) → (state_of new).published u ≡ (state_of old).published u
  unfolding state_of
  same_published u = ap (λ (q : Plan). published_after q u (places_of new u).done) r.plan ∙ ap (published_after old.plan u) (same_done old new t r u)

  -- and the task is a member of nothing
  left_phases : (u : ℕ) → (state_of new).phases u ≡ (when_left (state_of old) t).phases u
  unfolding state_of
  left_phases u =
      elim (cases_eq u t) [
        | inl same ↦
            subst (λ v. (state_of new).phases v ≡ λ q. None) (sym same) (fun_ext r.left)
            ∙ sym (updated_same (state_of old).phases t u (λ q. None) same)
        | inr other ↦ kept_phases other ∙ sym (updated_other (state_of old).phases t u (λ q. None) other)
      ]
    where
      kept_phases : u ≢ t → (state_of new).phases u ≡ (state_of old).phases u
      kept_phases other =
          ap (λ (q : Plan). kept (places_of new u).dropped (phases_at q (done_by (places_of new)) u)) r.plan
          ∙ ap (λ (d : ℕ → ℕ). kept (places_of new u).dropped (phases_at old.plan d u)) (fun_ext (same_done old new t r))
          ∙ ap (λ (a : Place). kept a.dropped (phases_at old.plan (done_by (places_of old)) u)) (same_place old new t r u other)

  reached_then : (e : Event) → IsReached (state_of new) e → IsReached (when_left (state_of old) t) e
  reached_then e reached u m is = reached u m (ap (λ (ph : Phases). ph e.p.0) (left_phases u) ∙ is)

  reached_here : (e : Event) → IsReached (when_left (state_of old) t) e → IsReached (state_of new) e
  reached_here e reached u m is = reached u m (ap (λ (ph : Phases). ph e.p.0) (sym (left_phases u)) ∙ is)

  module _ (of_plan : IsOfPlan old.plan (state_of old)) (phases : List (Option ℕ))
      (are : phases ≡ list_below ((state_of old).phases t) (length old.plan.makers)) where
    -- the phase of the task on a phaser of the plan
    phase_is : (p : ℕ) → p < length old.plan.makers → slice_get phases p ≡ Some ((state_of old).phases t p)
    phase_is p within = ap (λ xs. slice_get xs p) are ∙ list_below-at ((state_of old).phases t) (length old.plan.makers) p within

    freed_from : (u : ℕ) → IsReleased (state_of old) (when_left (state_of old) t) u → IsFreed new phases u
    freed_from u released =
        let e = released.event in
        let own = impeded_by_it (state_of old) t e released.reached released.unreached in
        record {
          event = e;
          waits = same_published u ∙ released.waits;
          stood = (own.0, phase_is e.p.0 (of_plan.phaser t e.p.0 own.0 own.1) ∙ ap Some own.1, own.2);
          reached = reached_here e released.reached;
        }

    released_from : (u : ℕ) → IsFreed new phases u → IsReleased (state_of old) (when_left (state_of old) t) u
    released_from u freed =
        let e = freed.event in
        let stood = freed.stood in
        let within : e.p.0 < length old.plan.makers =
        (let l = slice_get_within phases e.p.0 (Some stood.0) stood.1 in
        let n = ap (λ (xs : List (Option ℕ)). length xs) are ∙ length-list_below ((state_of old).phases t) (length old.plan.makers) in omega arith) in
        let own : (state_of old).phases t e.p.0 ≡ Some stood.0 =
        (let both : Some ((state_of old).phases t e.p.0) ≡ Some (Some stood.0) = sym (phase_is e.p.0 within) ∙ stood.1 in cc) in
        record {
          event = e;
          waits = sym (same_published u) ∙ freed.waits;
          unreached = λ reached. (let above = reached t stood.0 own in let below = stood.2 in omega arith);
          reached = reached_then e freed.reached;
        }

    -- so the tasks that are freed there are those that are released
    pub released_are :
        (tasks : List TaskId) → AreThoseBelow (IsFreed new phases) (length new.plan.parents) tasks → AreReleased (state_of old) (when_left (state_of old) t) tasks
    released_are tasks those = record {
      ascends = those.ascends;
      exact = λ u. (
        λ m. released_from u.0 ((those.exact u).0 m).1,
        λ released. (those.exact u).1 (
          subst (λ (q : Plan). u.0 < length q.parents) (sym r.plan) (of_plan.published u.0 released.event released.waits),
          freed_from u.0 released,
        ),
      );
    }
