-- The impeders of an event are those that impede it, and their list ascends.
use Rattle.std.proofs.Common.{◌≡◌, ℕ, suc, ◌<◌, ◌≤◌, Bool, true, false, Option, Some, None, List, [], ◌∷◌, arith, sym, ◌∙◌, ap, subst, refl, inl, inr, ◌⊎◌, cond}
use Rattle.std.specs.Prelude.{AllPairs, Contains, nat_lt, if◌then◌else◌}
use Rattle.std.specs.List.{find}
use Rattle.std.proofs.lemmas.Bool.{cases_Bool}
use Rattle.std.proofs.lemmas.Bool.Decides.{nat_tests}
use Rattle.armus_base.specs.declared.event.Event.{Event}
use Rattle.armus_base.specs.States.{Phases}
use Rattle.armus_base.proofs.Below.{given_ascends, given_from, given_is}
use Rattle.armus_base.proofs.Elements.{Contains-cons_cases, nothing_in_nil}
use Rattle.explain_tasks.specs.declared.impeders.Impeder.{Impeder}
use Rattle.explain_tasks.specs.Impeders.{impeder_by, impeders_in}

-- task u with this phase on the event's phaser
abbrev pub impeder : Event → ℕ → ℕ → Impeder
impeder e u m = record { t = record { 0 = u }; p = e.p; phase = m }

-- who has a phase below the event's is an impeder
behind_is : (e : Event) (u m : ℕ) (o : Option ℕ) → o ≡ Some m → m < e.n → impeder_by e u o ≡ Some (impeder e u m)
behind_is e u m None is lt = absurd (cc)
behind_is e u m (Some n) is lt =
    let same : n ≡ m = cc in
    let below : nat_lt n e.n ≡ true = grind (arith, nat_tests) in
    ap (λ b. if b then Some (record { t = record { 0 = u }; p = e.p; phase = n }) else None) below ∙ ap (λ k. Some (record { t = record { 0 = u }; p = e.p; phase = k })) same

-- and an impeder has one
is_behind : (e : Event) (u : ℕ) (o : Option ℕ) (i : Impeder) → impeder_by e u o ≡ Some i → (i.t.0 ≡ u) × (o ≡ Some i.phase) × (i.phase < e.n)
is_behind e u None i is = absurd (cc)
is_behind e u (Some n) i is = step (nat_lt n e.n) refl is
  where
    step : (b : Bool) → nat_lt n e.n ≡ b → (if b then Some (record { t = record { 0 = u }; p = e.p; phase = n }) else None) ≡ Some i → (i.t.0 ≡ u) × (Some n ≡ Some i.phase) × (i.phase < e.n)
    step true below s =
        let same : record { t = record { 0 = u }; p = e.p; phase = n } ≡ i = cc in
        let phase : n ≡ i.phase = ap (λ (j : Impeder). j.phase) same in
        let lt : n < e.n = grind (arith, nat_tests) in
        (ap (λ (j : Impeder). j.t.0) (sym same), ap Some phase, subst (λ k. k < e.n) phase lt)
    step false below s = absurd (cc)

module _ (n : ℕ) (phases : ℕ → Phases) (e : Event) where
  pub impeder_there : (u m : ℕ) → u < n → phases u e.p.0 ≡ Some m → m < e.n → Contains (impeders_in n phases e) (impeder e u m)
  impeder_there u m lt is below = given_from (λ v. impeder_by e v (phases v e.p.0)) n u (impeder e u m) lt (behind_is e u m (phases u e.p.0) is below)

  pub impeder_is : (i : Impeder) → Contains (impeders_in n phases e) i → (i.t.0 < n) × (phases i.t.0 e.p.0 ≡ Some i.phase) × (i.phase < e.n)
  impeder_is i there =
      let (u, lt, is) = given_is (λ v. impeder_by e v (phases v e.p.0)) n i there in
      let (same, phase, below) = is_behind e u (phases u e.p.0) i is in
      (subst (λ v. v < n) (sym same) lt, subst (λ v. phases v e.p.0 ≡ Some i.phase) (sym same) phase, below)

  -- they stand in order of number
  pub impeders_ascend : AllPairs (λ (i j : Impeder). i.t.0 < j.t.0) (impeders_in n phases e)
  impeders_ascend =
      given_ascends (λ (i : Impeder). i.t.0) (λ v. impeder_by e v (phases v e.p.0)) (λ k i is. (is_behind e k (phases k e.p.0) i is).0) n

-- ---- what is found

-- a list with an element that passes has a first one
pub some_found : {A : Type 0} (p : A → Bool) (xs : List A) (x : A) → Contains xs x → p x ≡ true → (y : A) × (find p xs ≡ Some y)
some_found p [] x there passes = absurd (nothing_in_nil x there)
some_found {A} p (y ∷ ys) x there passes = step (cases_Bool (p y)) (some_found p ys x)
  where
    step : ((p y ≡ true) ⊎ (p y ≡ false)) → (Contains ys x → p x ≡ true → (z : A) × (find p ys ≡ Some z)) → (z : A) × (cond (p y) (Some y) (find p ys) ≡ Some z)
    step (inl on) rest = (y, ap (λ b. cond b (Some y) (find p ys)) on)
    step (inr off) rest =
        elim (Contains-cons_cases y ys x there) [
          | inl e ↦ absurd (let on = ap p e in cc)
          | inr n ↦ let found = rest n passes in (found.0, ap (λ b. cond b (Some y) (find p ys)) off ∙ found.1)
        ]

-- and what is found passes
pub found_passes : {A : Type 0} (p : A → Bool) (xs : List A) (x : A) → find p xs ≡ Some x → p x ≡ true
found_passes p [] x is = absurd (cc)
found_passes {A} p (y ∷ ys) x is = step (p y) refl (found_passes p ys x) is
  where
    step : (b : Bool) → p y ≡ b → (find p ys ≡ Some x → p x ≡ true) → cond b (Some y) (find p ys) ≡ Some x → p x ≡ true
    step true on rest e = let same : y ≡ x = cc in ap p (sym same) ∙ on
    step false off rest e = rest e

-- what is found in a list in order of number has the least number of those that pass
pub least_found :
    (p : Impeder → Bool) (xs : List Impeder) (x : Impeder) → AllPairs (λ (i j : Impeder). i.t.0 < j.t.0) xs → find p xs ≡ Some x →
    (y : Impeder) → Contains xs y → p y ≡ true → x.t.0 ≤ y.t.0
least_found p [] x ascend is y there passes = absurd (cc)
least_found p (z ∷ zs) x ascend is y there passes =
    step (p z) refl (λ e more. least_found p zs x (λ i j d l m. ascend (suc i) (suc j) d (omega arith) (omega arith)) e y more passes) is
  where
    later : Contains zs y → z.t.0 < y.t.0
    later (j, lt, e) = subst (λ (i : Impeder). z.t.0 < i.t.0) e (ascend 0 (suc j) y (omega arith) (omega arith))

    step : (b : Bool) → p z ≡ b → (find p zs ≡ Some x → Contains zs y → x.t.0 ≤ y.t.0) → cond b (Some z) (find p zs) ≡ Some x → x.t.0 ≤ y.t.0
    step true on rest e =
        let same : z ≡ x = cc in
        let number : z.t.0 ≡ x.t.0 = ap (λ (i : Impeder). i.t.0) same in
        elim (Contains-cons_cases z zs y there) [
          | inl first ↦ let other : z.t.0 ≡ y.t.0 = ap (λ (i : Impeder). i.t.0) first in omega arith
          | inr more ↦ let lt = later more in omega arith
        ]
    step false off rest e =
        elim (Contains-cons_cases z zs y there) [
          | inl first ↦ absurd (let on = ap p first in cc)
          | inr more ↦ rest e more
        ]
