-- For whom a task waits: tasks of the plan, in order of number, its next among them.
use Rattle.std.proofs.Common.{◌≡◌, ℕ, ◌<◌, Bool, true, false, Option, Some, None, List, [], ◌∷◌, arith, get_or, length, sym, ◌∙◌, ap, subst, refl}
use Rattle.std.specs.Prelude.{AllPairs, Contains, map, option_map, option_to_list}
use Rattle.std.specs.List.{find}
use Rattle.std.proofs.lemmas.List.{get_or-map, length-map}
use Rattle.std.proofs.lemmas.List.Kept.{AllPairs-filter}
use Rattle.armus_base.specs.declared.ids.TaskId.{TaskId}
use Rattle.armus_base.specs.Plans.{Plan}
use Rattle.armus_base.specs.States.{Phases}
use Rattle.armus_base.proofs.Elements.{Contains-head, from_map, in_map, nothing_in_nil}
use Rattle.explain_facts.specs.declared.account.Waiting.{Waiting}
use Rattle.explain_tasks.specs.declared.impeders.Impeder.{Impeder}
use Rattle.explain_tasks.specs.declared.situation.Situation.{Situation}
use Rattle.explain_tasks.specs.declared.situation.Situation.TheVariants.{Deadlocked, Held, HasEnded, NotForkedYet, NeverForked}
use Rattle.explain_tasks.specs.Facts.{FactsValue, forking_of, is_deadlocked, situation_of, wait_of}
use Rattle.explain_tasks.specs.Impeders.{impeders_by, impeders_by_facts}
use Rattle.explain_tasks.specs.Nexts.{IsNext, next_by, next_of}
use Rattle.explain_tasks.specs.calls.Fitting.{FactsFitPlan}
use Rattle.explain_tasks.proofs.Filters.{passed_from, passed_is}
use Rattle.explain_deadlock.specs.Verdicts.{HasFollower, deadlocked_in, followers_by, followers_of}
use Rattle.explain_deadlock.proofs.ImpedersAre.{found_passes, impeders_ascend}
use Rattle.explain_deadlock.proofs.NextInside.{find_contains, impeder_below, next_inside}

abbrev Ascends : List TaskId → Type 0
Ascends xs = AllPairs (λ (u v : TaskId). u.0 < v.0) xs

abbrev tasks : List Impeder → List TaskId
tasks impeders = map (λ (i : Impeder). i.t) impeders

tasks_ascend : (impeders : List Impeder) → AllPairs (λ (i j : Impeder). i.t.0 < j.t.0) impeders → Ascends (tasks impeders)
tasks_ascend impeders ascend i j d less lt =
    let n = length-map impeders (λ (i : Impeder). i.t) in
    let x = λ (k : ℕ). get_or impeders k (record { t = d; p = record { 0 = 0 }; phase = 0 }) in
    let one : get_or (tasks impeders) i d ≡ (x i).t = get_or-map (λ (i : Impeder). i.t) impeders i (record { t = d; p = record { 0 = 0 }; phase = 0 }) d (omega arith) in
    let other : get_or (tasks impeders) j d ≡ (x j).t = get_or-map (λ (i : Impeder). i.t) impeders j (record { t = d; p = record { 0 = 0 }; phase = 0 }) d (omega arith) in
    subst (λ (u : TaskId). u.0 < (get_or (tasks impeders) j d).0) (sym one)
    (subst (λ (u : TaskId). (x i).t.0 < u.0) (sym other) (ascend i j (record { t = d; p = record { 0 = 0 }; phase = 0 }) less (omega arith)))

module _ (f : FactsValue) (phases : ℕ → Phases) where
  by_wait : (o : Option Waiting) → Ascends (tasks (impeders_by (length f.standings) phases o))
  by_wait None = λ i j d less lt. absurd (omega arith)
  by_wait (Some w) = tasks_ascend (impeders_by (length f.standings) phases (Some w)) (impeders_ascend (length f.standings) phases w.event)

  one_ascends : (o : Option TaskId) → Ascends (option_to_list o)
  one_ascends None i j d less lt = absurd (omega arith)
  one_ascends (Some u) i j d less lt = absurd (omega arith)

  pub followers_ascend : (t : ℕ) → Ascends (followers_of f phases t)
  followers_ascend t = by (is_deadlocked (situation_of f t))
    where
      by : (b : Bool) → Ascends (followers_by f (impeders_by_facts f phases t) (next_of f phases t) b)
      by true = AllPairs-filter (λ (u v : TaskId). u.0 < v.0) (λ (u : TaskId). is_deadlocked (situation_of f u.0)) (tasks (impeders_by_facts f phases t)) (by_wait (wait_of f t))
      by false = one_ascends (next_of f phases t)

  -- a follower of a deadlocked task is a deadlocked impeder
  pub dead_follower : (t : ℕ) (u : TaskId) → is_deadlocked (situation_of f t) ≡ true → Contains (followers_of f phases t) u →
      (i : Impeder) × Contains (impeders_by_facts f phases t) i × (i.t ≡ u) × (is_deadlocked (situation_of f u.0) ≡ true)
  dead_follower t u dead there =
      let here : Contains (deadlocked_in f (impeders_by_facts f phases t)) u =
      subst (λ (b : Bool). Contains (followers_by f (impeders_by_facts f phases t) (next_of f phases t) b) u) dead there in
      let (in', passes) = passed_is (λ (v : TaskId). is_deadlocked (situation_of f v.0)) (tasks (impeders_by_facts f phases t)) u here in
      let (i, is, same) = from_map (λ (i : Impeder). i.t) (impeders_by_facts f phases t) u in' in
      (i, is, same, passes)

  -- and such a one is a follower
  pub dead_impeder : (t : ℕ) (i : Impeder) → is_deadlocked (situation_of f t) ≡ true → Contains (impeders_by_facts f phases t) i → is_deadlocked (situation_of f i.t.0) ≡ true →
      Contains (followers_of f phases t) i.t
  dead_impeder t i dead there passes =
      subst (λ (b : Bool). Contains (followers_by f (impeders_by_facts f phases t) (next_of f phases t) b) i.t) (sym dead)
      (passed_from (λ (v : TaskId). is_deadlocked (situation_of f v.0)) (tasks (impeders_by_facts f phases t)) i.t (in_map (λ (i : Impeder). i.t) (impeders_by_facts f phases t) i there) passes)

  dead_is_so : (s : Situation) → is_deadlocked s ≡ true → s ≡ Deadlocked
  dead_is_so Deadlocked is = refl
  dead_is_so Held is = absurd (cc)
  dead_is_so HasEnded is = absurd (cc)
  dead_is_so NotForkedYet is = absurd (cc)
  dead_is_so NeverForked is = absurd (cc)

  taken : (o : Option Impeder) (u : TaskId) → option_map (λ (i : Impeder). i.t) o ≡ Some u → (i : Impeder) × (o ≡ Some i) × (i.t ≡ u)
  taken None u is = absurd (cc)
  taken (Some i) u is = (i, refl, let same : i.t ≡ u = cc in same)

  -- the next of a task is one for whom it waits
  pub next_follows : (t u : TaskId) → IsNext f phases t u → HasFollower f phases t u
  next_follows t u step = by (is_deadlocked (situation_of f t.0)) refl
    where
      imps : List Impeder
      imps = impeders_by_facts f phases t.0

      by : (b : Bool) → is_deadlocked (situation_of f t.0) ≡ b → Contains (followers_of f phases t.0) u
      by true dead =
          let stands = dead_is_so (situation_of f t.0) dead in
          let least = subst (λ (x : Situation). next_by f (impeders_by_facts f phases t.0) (forking_of f t.0) x ≡ Some u) stands step in
          let (i, found, same) = taken (find (λ (k : Impeder). is_deadlocked (situation_of f k.t.0)) (impeders_by_facts f phases t.0)) u least in
          let there = find_contains (λ (k : Impeder). is_deadlocked (situation_of f k.t.0)) (impeders_by_facts f phases t.0) i found in
          let passes = found_passes (λ (k : Impeder). is_deadlocked (situation_of f k.t.0)) (impeders_by_facts f phases t.0) i found in
          subst (λ v. Contains (followers_of f phases t.0) v) same (dead_impeder t.0 i dead there passes)
      by false alive =
          subst (λ (b : Bool). Contains (followers_by f (impeders_by_facts f phases t.0) (next_of f phases t.0) b) u) (sym alive)
          (subst (λ (o : Option TaskId). Contains (option_to_list o) u) (sym step) (Contains-head u []))

  module _ (plan : Plan) (fits : FactsFitPlan f plan) where
    one_inside : (o : Option TaskId) → ((u : TaskId) → o ≡ Some u → u.0 < length plan.parents) → (u : TaskId) → Contains (option_to_list o) u → u.0 < length plan.parents
    one_inside None all u there = absurd (nothing_in_nil u there)
    one_inside (Some v) all u (k, lt, is) = (let zero_is : k ≡ 0 = omega arith in subst (λ (x : TaskId). x.0 < length plan.parents) (ap (λ m. get_or (v ∷ []) m u) (sym zero_is) ∙ is) (all v refl))

    pub followers_inside : (t : ℕ) (u : TaskId) → Contains (followers_of f phases t) u → u.0 < length plan.parents
    followers_inside t u there = by (is_deadlocked (situation_of f t)) refl
      where
        by : (b : Bool) → is_deadlocked (situation_of f t) ≡ b → u.0 < length plan.parents
        by true dead =
            let (i, is, same, passes) = dead_follower t u dead there in
            let lt = impeder_below (length f.standings) phases (wait_of f t) i is in
            let n = fits.sized in
            subst (λ (v : TaskId). v.0 < length plan.parents) same (omega arith)
        by false alive =
            one_inside (next_of f phases t) (λ v is. next_inside f phases plan fits t v is) u
            (subst (λ (b : Bool). Contains (followers_by f (impeders_by_facts f phases t) (next_of f phases t) b) u) alive there)
