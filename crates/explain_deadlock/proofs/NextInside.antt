-- The next of a task is a task of the plan.
use Rattle.std.proofs.Common.{◌≡◌, ℕ, ◌<◌, Bool, true, false, Option, Some, None, List, [], ◌∷◌, length, arith, sym, ap, subst, refl, cond}
use Rattle.std.specs.Prelude.{Contains, option_map, slice_get, nat_lt, if◌then◌else◌}
use Rattle.std.specs.List.{find}
use Rattle.armus_base.specs.declared.event.Event.{Event}
use Rattle.armus_base.specs.declared.ids.TaskId.{TaskId}
use Rattle.armus_base.specs.Plans.{Plan}
use Rattle.armus_base.specs.States.{Phases}
use Rattle.armus_base.proofs.Below.{given_is}
use Rattle.armus_base.proofs.Elements.{Contains-head, Contains-tail}
use Rattle.explain_facts.specs.declared.account.Forked.{Forked}
use Rattle.explain_facts.specs.declared.account.Waiting.{Waiting}
use Rattle.explain_tasks.specs.declared.impeders.Impeder.{Impeder}
use Rattle.explain_tasks.specs.declared.situation.Situation.{Situation}
use Rattle.explain_tasks.specs.declared.situation.Situation.TheVariants.{Deadlocked, Held, HasEnded, NotForkedYet, NeverForked}
use Rattle.explain_tasks.specs.Facts.{FactsValue, forking_of, is_deadlocked, stands_held, situation_of, wait_of}
use Rattle.explain_tasks.specs.Impeders.{impeder_by, impeders_by, impeders_by_facts}
use Rattle.explain_tasks.specs.Nexts.{first_or, least_that, next_by, next_of}
use Rattle.explain_tasks.specs.calls.Fitting.{FactsFitPlan}

-- what is found in a list is an element
pub find_contains : {A : Type 0} (p : A → Bool) (xs : List A) (x : A) → find p xs ≡ Some x → Contains xs x
find_contains p [] x is = absurd (cc)
find_contains {A} p (y ∷ ys) x is = step (p y) (find_contains p ys x) is
  where
    step : (b : Bool) → (find p ys ≡ Some x → Contains ys x) → cond b (Some y) (find p ys) ≡ Some x → Contains (y ∷ ys) x
    step true rest e = let same : y ≡ x = cc in subst (λ z. Contains (y ∷ ys) z) same (Contains-head y ys)
    step false rest e = Contains-tail y ys x (rest e)

-- so is the first one
pub first_contains : {A : Type 0} (xs : List A) (x : A) → slice_get xs 0 ≡ Some x → Contains xs x
first_contains [] x is = absurd (cc)
first_contains (y ∷ ys) x is = let same : y ≡ x = cc in subst (λ z. Contains (y ∷ ys) z) same (Contains-head y ys)

-- an impeder that a number gives has this number
by_number : (e : Event) (u : ℕ) (o : Option ℕ) (i : Impeder) → impeder_by e u o ≡ Some i → i.t.0 ≡ u
by_number e u None i is = absurd (cc)
by_number e u (Some n) i is = step (nat_lt n e.n) is
  where
    step : (b : Bool) → (if b then Some (record { t = record { 0 = u }; p = e.p; phase = n }) else None) ≡ Some i → i.t.0 ≡ u
    step true s = let same : record { t = record { 0 = u }; p = e.p; phase = n } ≡ i = cc in ap (λ (j : Impeder). j.t.0) (sym same)
    step false s = absurd (cc)

-- an impeder is a task below the bound
pub impeder_below : (n : ℕ) (phases : ℕ → Phases) (wait : Option Waiting) (i : Impeder) → Contains (impeders_by n phases wait) i → i.t.0 < n
impeder_below n phases None i in' = absurd (nothing i in')
  where
    nothing : (i : Impeder) → Contains [] i → ⊥
    nothing i (k, l, s) = omega arith
impeder_below n phases (Some w) i in' =
    let at = given_is (λ u. impeder_by w.event u (phases u w.event.p.0)) n i in' in
    let own = by_number w.event at.0 (phases at.0 w.event.p.0) i at.2 in
    let l = at.1 in
    omega arith

module _ (f : FactsValue) (phases : ℕ → Phases) (plan : Plan) (fits : FactsFitPlan f plan) where
  -- a task that is taken of an impeder
  taken : (impeders : List Impeder) (m : ℕ) → ((i : Impeder) → Contains impeders i → i.t.0 < m) → (o : Option Impeder)
      → ((i : Impeder) → o ≡ Some i → Contains impeders i) → (u : TaskId) → option_map (λ (i : Impeder). i.t) o ≡ Some u → u.0 < m
  taken impeders m all None inside u is = absurd (cc)
  taken impeders m all (Some i) inside u is =
      let same : i.t ≡ u = cc in
      subst (λ (t : TaskId). t.0 < m) same (all i (inside i refl))

  either : (a b : Option TaskId) (m : ℕ) → ((u : TaskId) → a ≡ Some u → u.0 < m) → ((u : TaskId) → b ≡ Some u → u.0 < m) → (u : TaskId) → first_or a b ≡ Some u → u.0 < m
  either None b m one other u is = other u is
  either (Some t) b m one other u is = one u is

  forker : (o : Option Forked) (m : ℕ) → ((x : Forked) → o ≡ Some x → x.by.0 < m) → (u : TaskId) → option_map (λ (x : Forked). x.by) o ≡ Some u → u.0 < m
  forker None m all u is = absurd (cc)
  forker (Some x) m all u is = let same : x.by ≡ u = cc in subst (λ (t : TaskId). t.0 < m) same (all x refl)

  by_situation : (impeders : List Impeder) → ((i : Impeder) → Contains impeders i → i.t.0 < length plan.parents) → (t : ℕ) (s : Situation) (u : TaskId)
      → next_by f impeders (forking_of f t) s ≡ Some u → u.0 < length plan.parents
  by_situation impeders all t Deadlocked u is =
      taken impeders _ all (find (λ (i : Impeder). is_deadlocked (situation_of f i.t.0)) impeders) (λ i. find_contains _ impeders i) u is
  by_situation impeders all t Held u is =
      either (least_that stands_held f impeders) (option_map (λ (i : Impeder). i.t) (slice_get impeders 0)) _
      (λ v. taken impeders _ all (find (λ (i : Impeder). stands_held (situation_of f i.t.0)) impeders) (λ i. find_contains _ impeders i) v)
      (λ v. taken impeders _ all (slice_get impeders 0) (λ i. first_contains impeders i) v) u is
  by_situation impeders all t HasEnded u is = absurd (cc)
  by_situation impeders all t NotForkedYet u is = forker (forking_of f t) _ (fits.forkers t) u is
  by_situation impeders all t NeverForked u is = absurd (cc)

  -- the next of a task is a task of the plan
  pub next_inside : (t : ℕ) (u : TaskId) → next_of f phases t ≡ Some u → u.0 < length plan.parents
  next_inside t u is =
      by_situation (impeders_by_facts f phases t) (λ i in'. let l = impeder_below (length f.standings) phases (wait_of f t) i in' in let s = fits.sized in omega arith) t
      (situation_of f t) u is
