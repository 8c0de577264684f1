-- Tests that tell of a schedule whether its steps are a plain run without a pass, and whether that run has ended.
use Rattle.std.proofs.Common.{◌≡◌, ℕ, zero, suc, ◌<◌, Bool, true, false, Option, Some, None, List, [], ◌∷◌, ◌++◌, length, arith, sym, ◌∙◌, ap, subst, refl, inl, inr}
use Rattle.std.specs.Prelude.{◌==◌, ◌&&◌, ◌||◌, is_none, is_some, nat_lt, slice_get}
use Rattle.std.proofs.lemmas.Bool.{cases_eq, eqb-true, false≢true, ltb-true, and_parts, or_cases}
use Rattle.armus_base.specs.declared.event.Event.{Event}
use Rattle.armus_base.specs.declared.ids.TaskId.{TaskId}
use Rattle.armus_base.specs.Places.{some_before}
use Rattle.armus_base.specs.Plans.{Action, Advances, Blocks, Drops, Forks, Makes, Passes, Plan, Refuses, Registers, action_at, in_code, Aim}
use Rattle.armus_base.specs.Runs.{HasEnded, IsByCode, IsMaximal, IsPlainRun, Place, is_done, is_waiting, places, state_after}
use Rattle.armus_base.specs.calls.Serial.{next_step, scheduled}
use Rattle.armus_base.specs.States.{IsActive, IsLegal, State, Step}
use Rattle.armus_base.proofs.Fixed.{some_before_is}
use Rattle.armus_base.proofs.ForkedTasks.{forked_within}
use Rattle.armus_base.proofs.Members.{plain_undropped}

none_is : {A : Type 0} (o : Option A) → is_none o ≡ true → o ≡ None
none_is None e = refl
none_is (Some x) e = absurd (false≢true e)

pub some_is : {A : Type 0} (o : Option A) → is_some o ≡ true → (x : A) × (o ≡ Some x)
some_is None e = absurd (false≢true e)
some_is (Some x) e = (x, refl)

abbrev pub is_not : Bool → Bool
is_not true = false
is_not false = true

pub not_is : (b : Bool) → is_not b ≡ true → b ≡ false
not_is true e = absurd (false≢true e)
not_is false e = refl

-- the task of this number draws, or makes
abbrev is_drawn_by : ℕ → Option (Option TaskId) → Bool
is_drawn_by t (Some (Some u)) = u.0 == t
is_drawn_by t o = false

abbrev is_made_by : ℕ → Option TaskId → Bool
is_made_by t (Some u) = u.0 == t
is_made_by t None = false

drawn_is : (t : ℕ) (o : Option (Option TaskId)) → is_drawn_by t o ≡ true → (u : TaskId) × o ≡ Some (Some u) × u.0 ≡ t
drawn_is t None e = absurd (false≢true e)
drawn_is t (Some None) e = absurd (false≢true e)
drawn_is t (Some (Some u)) e = (u, refl, eqb-true u.0 t e)

made_is : (t : ℕ) (o : Option TaskId) → is_made_by t o ≡ true → (u : TaskId) × o ≡ Some u × u.0 ≡ t
made_is t None e = absurd (false≢true e)
made_is t (Some u) e = (u, refl, eqb-true u.0 t e)

abbrev active : State → ℕ → Bool
active s t = s.forked t && (is_none (s.published t) && is_none (s.refused t))

active_is : (s : State) (t : ℕ) → active s t ≡ true → IsActive s t
active_is s t e =
    let a = and_parts (s.forked t) (is_none (s.published t) && is_none (s.refused t)) e in
    let b = and_parts (is_none (s.published t)) (is_none (s.refused t)) a.1 in
    record { forked = a.0; unpublished = none_is (s.published t) b.0; unrefused = none_is (s.refused t) b.1 }

-- the step is legal, and no pass and no refusal
abbrev may : Plan → State → ℕ → Action → Bool
may plan s t (Makes p) = active s t && (is_made_by t (slice_get plan.makers p) && is_not (s.made p))
may plan s t (Registers c p) =
    active s t && (is_drawn_by t (slice_get plan.parents c) && (is_not (s.forked c) && (is_some (s.phases t p) && is_none (s.phases c p))))
may plan s t (Forks c) = active s t && (is_drawn_by t (slice_get plan.parents c) && is_not (s.forked c))
may plan s t (Advances p) = active s t && is_some (s.phases t p)
may plan s t (Drops p) = active s t && is_some (s.phases t p)
may plan s t (Blocks aim) = active s t && is_some (s.phases t aim.phaser)
may plan s t (Passes p) = false
may plan s t (Refuses p) = false

may_is : (plan : Plan) (s : State) (t : ℕ) (x : Action) → may plan s t x ≡ true → IsLegal plan s t x
may_is plan s t (Makes p) e =
    let a = and_parts (active s t) (is_made_by t (slice_get plan.makers p) && is_not (s.made p)) e in
    let b = and_parts (is_made_by t (slice_get plan.makers p)) (is_not (s.made p)) a.1 in
    (active_is s t a.0, made_is t (slice_get plan.makers p) b.0, not_is (s.made p) b.1)
may_is plan s t (Registers c p) e =
    let a = and_parts (active s t) (is_drawn_by t (slice_get plan.parents c) && (is_not (s.forked c) && (is_some (s.phases t p) && is_none (s.phases c p)))) e
    in
    let b = and_parts (is_drawn_by t (slice_get plan.parents c)) (is_not (s.forked c) && (is_some (s.phases t p) && is_none (s.phases c p))) a.1 in
    let d = and_parts (is_not (s.forked c)) (is_some (s.phases t p) && is_none (s.phases c p)) b.1 in
    let f = and_parts (is_some (s.phases t p)) (is_none (s.phases c p)) d.1 in
    (active_is s t a.0, drawn_is t (slice_get plan.parents c) b.0, not_is (s.forked c) d.0, some_is (s.phases t p) f.0, none_is (s.phases c p) f.1)
may_is plan s t (Forks c) e =
    let a = and_parts (active s t) (is_drawn_by t (slice_get plan.parents c) && is_not (s.forked c)) e in
    let b = and_parts (is_drawn_by t (slice_get plan.parents c)) (is_not (s.forked c)) a.1 in
    (active_is s t a.0, drawn_is t (slice_get plan.parents c) b.0, not_is (s.forked c) b.1)
may_is plan s t (Advances p) e =
    let a = and_parts (active s t) (is_some (s.phases t p)) e in (active_is s t a.0, some_is (s.phases t p) a.1)
may_is plan s t (Drops p) e =
    let a = and_parts (active s t) (is_some (s.phases t p)) e in
    let is = active_is s t a.0 in
    (is.forked, is.unpublished, some_is (s.phases t p) a.1, λ some. absurd (false≢true (subst (λ o. is_some o ≡ true) is.unrefused some)))
may_is plan s t (Blocks aim) e =
    let a = and_parts (active s t) (is_some (s.phases t aim.phaser)) e in (active_is s t a.0, some_is (s.phases t aim.phaser) a.1)
may_is plan s t (Passes p) e = absurd (false≢true e)
may_is plan s t (Refuses p) e = absurd (false≢true e)

may_in_code : (plan : Plan) (s : State) (t : ℕ) (x : Action) → may plan s t x ≡ true → in_code x ≡ x
may_in_code plan s t (Refuses p) e = absurd (false≢true e)
may_in_code plan s t x e = refl

may_plain : (plan : Plan) (s : State) (t : ℕ) (x : Action) → may plan s t x ≡ true → (aim : Aim) → x ≡ Refuses aim → ⊥
may_plain plan s t (Refuses q) e p r = false≢true e
may_plain plan s t x e p r = absurd (cc)

abbrev pub step_test : Plan → List Step → ℕ → Option Action → Bool
step_test plan h t None = true
step_test plan h t (Some x) = may plan (state_after h) t x

-- each step of the schedule may be made
abbrev pub run_test : Plan → List ℕ → Bool
run_test plan [] = true
run_test plan (t ∷ ts) = run_test plan ts && step_test plan (scheduled plan ts) t (action_at plan t (places (scheduled plan ts) t).done)

one_more :
    (plan : Plan) (h : List Step) → IsPlainRun plan h → (t : ℕ) (o : Option Action) → action_at plan t (places h t).done ≡ o → step_test plan h t o ≡ true →
    IsPlainRun plan (next_step t o ++ h)
one_more plan h run t None next test = run
one_more plan h run t (Some x) next test = (
  (
    run.0,
    record {
      legal = may_is plan (state_after h) t x test;
      by_code = subst (λ o. IsByCode plan t (places h t).done o x) (sym (plain_undropped plan h run t))
          (next ∙ ap Some (sym (may_in_code plan (state_after h) t x test)));
    },
  ),
  (run.1, may_plain plan (state_after h) t x test),
)

-- a schedule that passes the test is a plain run
pub run_if : (plan : Plan) (ts : List ℕ) → run_test plan ts ≡ true → IsPlainRun plan (scheduled plan ts)
run_if plan [] e = (tt, tt)
run_if plan (t ∷ ts) e =
    let a = and_parts (run_test plan ts) (step_test plan (scheduled plan ts) t (action_at plan t (places (scheduled plan ts) t).done)) e in
    one_more plan (scheduled plan ts) (run_if plan ts a.0) t (action_at plan t (places (scheduled plan ts) t).done) refl a.1

abbrev pub is_below : ℕ → Option ℕ → Bool
is_below n None = false
is_below n (Some m) = nat_lt m n

pub below_is : (n : ℕ) (o : Option ℕ) → is_below n o ≡ true → (m : ℕ) × (o ≡ Some m) × (m < n)
below_is n None e = absurd (false≢true e)
below_is n (Some m) e = (m, refl, ltb-true m n e)

-- the event is not reached: one of the first k tasks is a member below it
abbrev is_held : State → ℕ → Option Event → Bool
is_held s k None = false
is_held s k (Some e) = some_before (λ u. is_below e.n (s.phases u e.p.0)) k

-- the task has come to an end
abbrev end_test : Plan → State → Place → ℕ → Bool
end_test plan s place t = is_none (action_at plan t place.done) || is_held s (length plan.parents) (s.published t)

held_is :
    (plan : Plan) (s : State) (place : Place) (t : ℕ) (o : Option Event) → s.published t ≡ o → is_held s (length plan.parents) o ≡ true →
    HasEnded plan s place t
held_is plan s place t None is test = absurd (false≢true test)
held_is plan s place t (Some e) is test =
    let at = some_before_is (λ u. is_below e.n (s.phases u e.p.0)) (length plan.parents) test in
    let below = below_is e.n (s.phases at.0 e.p.0) at.2 in
    is_waiting e is (λ reached. let ahead = reached at.0 below.0 below.1 in let behind = below.2 in omega arith)

end_is : (plan : Plan) (s : State) (place : Place) (t : ℕ) → end_test plan s place t ≡ true → HasEnded plan s place t
end_is plan s place t test =
    elim (or_cases (is_none (action_at plan t place.done)) (is_held s (length plan.parents) (s.published t)) test) [
      | inl done ↦ is_done (none_is (action_at plan t place.done) done)
      | inr held ↦ held_is plan s place t (s.published t) refl held
    ]

abbrev pub all_before : (ℕ → Bool) → ℕ → Bool
all_before test zero = true
all_before test (suc k) = test k && all_before test k

pub all_is : (test : ℕ → Bool) (k : ℕ) → all_before test k ≡ true → (j : ℕ) → j < k → test j ≡ true
all_is test zero e j l = absurd (omega arith)
all_is test (suc k) e j l =
    let a = and_parts (test k) (all_before test k) e in
    elim (cases_eq j k) [ inl same ↦ ap test same ∙ a.0 | inr other ↦ all_is test k a.1 j (omega arith) ]

-- each forked task has come to an end
abbrev pub maximal_test : Plan → List Step → Bool
maximal_test plan h =
    all_before (λ t. is_not ((state_after h).forked t) || end_test plan (state_after h) (places h t) t) (length plan.parents)

pub maximal_if :
    (plan : Plan) → 0 < length plan.parents → (h : List Step) → IsPlainRun plan h → maximal_test plan h ≡ true → IsMaximal plan h
maximal_if plan some h run test t forked =
    let one = all_is
    (λ u. is_not ((state_after h).forked u) || end_test plan (state_after h) (places h u) u)
    (length plan.parents)
    test
    t
    (forked_within plan some h run.0 t forked) in
    elim (or_cases (is_not ((state_after h).forked t)) (end_test plan (state_after h) (places h t) t) one) [
      | inl not ↦ absurd (let none = not_is ((state_after h).forked t) not in cc)
      | inr end ↦ end_is plan (state_after h) (places h t) t end
    ]
