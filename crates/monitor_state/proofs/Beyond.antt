-- Whether somebody of the list stands beyond a phase, by what is noted.
use Rattle.std.proofs.Common.{◌≡◌, ℕ, ◌<◌, Bool, true, false, not, ◌&&◌, Option, Some, None, List, refl, sym, ◌∙◌, ap, inl, inr, arith}
use Rattle.std.specs.Prelude.{◌==◌, bytes_eq, nat_lt}
use Rattle.std.specs.List.{list_any}
use Rattle.std.proofs.lemmas.Bool.{and_parts, cases_Bool, ltb-true}
use Rattle.std.proofs.lemmas.Bool.Decides.{nat_tests}
use Rattle.std.proofs.lemmas.List.Folds.{Any-from_list_any, list_any_at}
use Rattle.monitor_laws.specs.States.{Condition, Running, Waiting, Ended, AnyTask, OneOf, Participant}
use Rattle.monitor_laws.specs.Faults.{phase_on}
use Rattle.monitor_laws.specs.Stuck.{has_phase_below, is_phase_below}
use Rattle.monitor_state.specs.Indexes.{is_phase, is_running, is_wait_above, is_wait_for, rests_at, waits_above, awaits_phase}

self_number : (k : ℕ) → (k == k) ≡ true
self_number k = grind (arith, nat_tests)

same_phase : (m n : ℕ) → (m == n) ≡ true → m ≡ n
same_phase m n same = grind (arith, nat_tests)

pub less_tested : (m n : ℕ) → m < n → nat_lt m n ≡ true
less_tested m n less = grind (arith, nat_tests)

module _ (us : List Participant) (noted : ℕ → ℕ → Bool) (at : ℕ → Participant → Bool) (of : (m k : ℕ) → noted m k ≡ list_any (λ u. u.number == k && at m u) us)
    (Within : ℕ → Type 0) (beyond : Participant → Bool) (to : (u : Participant) (m : ℕ) → at m u ≡ true → Within m → beyond u ≡ true)
    (from : (u : Participant) → beyond u ≡ true → (m : ℕ) × Within m × (at m u ≡ true)) where
  pub told_beyond : (b : Bool) → (b ≡ true → (m : ℕ) × (k : ℕ) × Within m × (noted m k ≡ true)) → (b ≡ false → (m k : ℕ) → Within m → noted m k ≡ false) → b ≡ list_any beyond us
  told_beyond true some none =
      let it = some refl in
      let any = Any-from_list_any (λ u. u.number == it.1 && at it.0 u) us (sym (of it.0 it.1) ∙ it.3) in
      sym (list_any_at beyond us any.0 any.1 any.2 (ap beyond any.3 ∙ to _ it.0 (and_parts _ _ any.4).1 it.2))
  told_beyond false some none = elim (cases_Bool (list_any beyond us)) [
    | inr off ↦ sym off
    | inl on ↦ absurd (
        let any = Any-from_list_any beyond us on in
        let u = any.1 in
        let it = from u any.4 in
        let here : (u.number == u.number && at it.0 u) ≡ true = ap (λ b. b && at it.0 u) (self_number u.number) ∙ it.2 in
        let some_noted : noted it.0 u.number ≡ true = of it.0 u.number ∙ list_any_at (λ v. v.number == u.number && at it.0 v) us any.0 u any.2 (ap (λ v. v.number == u.number && at it.0 v) any.3 ∙ here) in
        let e : true ≡ false = sym some_noted ∙ none refl it.0 u.number it.1 in
        cc)
  ]

phase_below : (o : Option ℕ) (m n : ℕ) → is_phase o m ≡ true → m < n → is_phase_below o n ≡ true
phase_below None m n is less = absurd (let e : false ≡ true = is in cc)
phase_below (Some k) m n is less = ap (λ x. nat_lt x n) (same_phase k m is) ∙ less_tested m n less

below_phase : (o : Option ℕ) (n : ℕ) → is_phase_below o n ≡ true → (m : ℕ) × (m < n) × (is_phase o m ≡ true)
below_phase None n below = absurd (let e : false ≡ true = below in cc)
below_phase (Some k) n below = (k, ltb-true k n below, self_number k)

both : (a b : Bool) → a ≡ true → b ≡ true → (a && b) ≡ true
both true b on too = too
both false b on too = on

-- does not run, and is a member of p with a phase below n
abbrev pub rests_below : List ℕ → ℕ → Participant → Bool
rests_below p n u = not (is_running u.condition) && has_phase_below u p n

pub rests_to : (p : List ℕ) (n : ℕ) (u : Participant) (m : ℕ) → rests_at p m u ≡ true → m < n → rests_below p n u ≡ true
rests_to p n u m rests less =
    let parts = and_parts (not (is_running u.condition)) (is_phase (phase_on u p) m) rests in
    both (not (is_running u.condition)) (has_phase_below u p n) parts.0 (phase_below (phase_on u p) m n parts.1 less)

pub rests_from : (p : List ℕ) (n : ℕ) (u : Participant) → rests_below p n u ≡ true → (m : ℕ) × (m < n) × (rests_at p m u ≡ true)
rests_from p n u rests =
    let parts = and_parts (not (is_running u.condition)) (has_phase_below u p n) rests in
    let it = below_phase (phase_on u p) n parts.1 in
    (it.0, it.1, both (not (is_running u.condition)) (is_phase (phase_on u p) it.0) parts.0 it.2)

wait_to : (p : List ℕ) (n : ℕ) (c : Condition) (m : ℕ) → is_wait_for p m c ≡ true → n < m → is_wait_above p n c ≡ true
wait_to p n Running m is more = is
wait_to p n (Waiting q k) m is more =
    let parts = and_parts (bytes_eq q p) (k == m) is in
    both (bytes_eq q p) (nat_lt n k) parts.0 (ap (nat_lt n) (same_phase k m parts.1) ∙ less_tested n m more)
wait_to p n Ended m is more = is
wait_to p n AnyTask m is more = is
wait_to p n (OneOf names tasks) m is more = is

wait_from : (p : List ℕ) (n : ℕ) (c : Condition) → is_wait_above p n c ≡ true → (m : ℕ) × (n < m) × (is_wait_for p m c ≡ true)
wait_from p n Running is = absurd (let e : false ≡ true = is in cc)
wait_from p n (Waiting q k) is =
    let parts = and_parts (bytes_eq q p) (nat_lt n k) is in
    (k, ltb-true n k parts.1, both (bytes_eq q p) (k == k) parts.0 (self_number k))
wait_from p n Ended is = absurd (let e : false ≡ true = is in cc)
wait_from p n AnyTask is = absurd (let e : false ≡ true = is in cc)
wait_from p n (OneOf names tasks) is = absurd (let e : false ≡ true = is in cc)

pub waits_to : (p : List ℕ) (n : ℕ) (u : Participant) (m : ℕ) → awaits_phase p m u ≡ true → n < m → waits_above p n u ≡ true
waits_to p n u m waits more = wait_to p n u.condition m waits more

pub waits_from : (p : List ℕ) (n : ℕ) (u : Participant) → waits_above p n u ≡ true → (m : ℕ) × (n < m) × (awaits_phase p m u ≡ true)
waits_from p n u waits = wait_from p n u.condition waits
