-- What the test of later events says.
use Rattle.std.proofs.Common.{◌≡◌, ◌<◌, ◌≤◌, true, arith, inl, inr}
use Rattle.std.proofs.lemmas.Bool.{cases_eq, cases_lt}
use Rattle.std.proofs.lemmas.Bool.Decides.{nat_tests}
use Rattle.armus_base.specs.declared.event.Event.{Event}
use Rattle.armus_base.specs.declared.status.Member.{Member}
use Rattle.adaptive.specs.inside.Waits.{is_later}

pub says_later : (m : Member) (e : Event) → m.p.0 ≡ e.p.0 → m.n < e.n → is_later m e ≡ true
says_later m e s l = grind (arith, nat_tests)

other_phaser : (m : Member) (e : Event) → (m.p.0 ≡ e.p.0 → ⊥) → is_later m e ≡ true → ⊥
other_phaser m e n t = grind (arith, nat_tests)

no_later : (m : Member) (e : Event) → e.n ≤ m.n → is_later m e ≡ true → ⊥
no_later m e l t = grind (arith, nat_tests)

pub later_says : (m : Member) (e : Event) → is_later m e ≡ true → (m.p.0 ≡ e.p.0) × (m.n < e.n)
later_says m e t =
    elim (cases_eq m.p.0 e.p.0) [
      | inl same ↦ elim (cases_lt m.n e.n) [
        | inl less ↦ (same, less)
        | inr more ↦ absurd (no_later m e more t)
      ]
      | inr other ↦ absurd (other_phaser m e other t)
    ]
