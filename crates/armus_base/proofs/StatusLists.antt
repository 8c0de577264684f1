-- Lists of statuses, one number more, and up to the next marked phaser.
use Rattle.std.proofs.Common.{◌≡◌, ℕ, zero, suc, ◌<◌, ◌≤◌, ◌+◌, ◌-◌, Bool, true, false, List, [], ◌∷◌, ◌++◌, Some, None, arith, sym, ◌∙◌, ap, refl}
use Rattle.std.specs.Prelude.{if◌then◌else◌, option_map}
use Rattle.armus_base.specs.declared.event.Event.{Event}
use Rattle.armus_base.specs.declared.status.Member.{Member}
use Rattle.armus_base.specs.declared.status.Status.{Status}
use Rattle.armus_base.specs.Finals.{given_below, listed_phase}
use Rattle.armus_base.specs.States.{Phases, State}
use Rattle.armus_base.proofs.Below.{given_below_more, given_below_none, given_below_same}
use Rattle.armus_base.specs.calls.StatusLists.{IsNextMarked, status_among, statuses_among}

-- up to the next marked number nothing is listed
listed_up_to : (marked : ℕ → Bool) (m : Phases) (d p : ℕ) → ((q : ℕ) → p ≤ q → q < p + d → marked q ≡ false) →
    given_below (listed_phase marked m) p ≡ given_below (listed_phase marked m) (p + d)
listed_up_to marked m zero p none = (let same : p ≡ p + 0 = omega arith in ap (given_below (listed_phase marked m)) same)
listed_up_to marked m (suc d) p none =
    given_below_none (listed_phase marked m) p (given_below (listed_phase marked m) p) refl
    (ap (λ b. if b then option_map (λ n. record { p = record { 0 = p }; n = n }) (m p) else None) (none p (omega arith) (omega arith)))
    ∙ listed_up_to marked m d (p + 1) (λ q a b. none q (omega arith) (omega arith))
    ∙ (let same : p + 1 + d ≡ p + suc d = omega arith in ap (given_below (listed_phase marked m)) same)

pub listed_to_next : (marked : ℕ → Bool) (m : Phases) (n p f : ℕ) (xs : List Member) → xs ≡ given_below (listed_phase marked m) p → IsNextMarked marked n p f →
    xs ≡ given_below (listed_phase marked m) f
listed_to_next marked m n p f xs is next =
    let from = next.from in
    let same : p + (f - p) ≡ f = omega arith in
    is ∙ listed_up_to marked m (f - p) p (λ q a b. next.none q a (omega arith)) ∙ ap (given_below (listed_phase marked m)) same

-- a marked phaser more: the task is a member, or is none
module _ (marked : ℕ → Bool) (m : Phases) (p : ℕ) (is : marked p ≡ true) where
  listed_is : listed_phase marked m p ≡ option_map (λ n. record { p = record { 0 = p }; n = n }) (m p)
  listed_is = ap (λ b. if b then option_map (λ n. record { p = record { 0 = p }; n = n }) (m p) else None) is

  pub member_more : (n : ℕ) (xs : List Member) → m p ≡ Some n → xs ≡ given_below (listed_phase marked m) p →
      xs ++ record { p = record { 0 = p }; n = n } ∷ [] ≡ given_below (listed_phase marked m) (p + 1)
  member_more n xs on before =
      given_below_more (listed_phase marked m) p (record { p = record { 0 = p }; n = n }) xs before
      (listed_is ∙ ap (option_map (λ k. record { p = record { 0 = p }; n = k })) on)

  pub no_member_more : (xs : List Member) → m p ≡ None → xs ≡ given_below (listed_phase marked m) p → xs ≡ given_below (listed_phase marked m) (p + 1)
  no_member_more xs off before =
      given_below_none (listed_phase marked m) p xs before (listed_is ∙ ap (option_map (λ k. record { p = record { 0 = p }; n = k })) off)

-- a task more: it is published, or is not
module _ (phasers : ℕ) (s : State) (marked : ℕ → Bool) (t : ℕ) where
  pub status_some : (e : Event) (phases : List Member) → s.published t ≡ Some e → phases ≡ given_below (listed_phase marked (s.phases t)) phasers →
      status_among phasers s marked t ≡ Some (record { t = record { 0 = t }; event = e; phases = phases })
  status_some e phases on same =
      ap (option_map (λ f. record { t = record { 0 = t }; event = f; phases = given_below (listed_phase marked (s.phases t)) phasers })) on
      ∙ ap (λ ms. Some (record { t = record { 0 = t }; event = e; phases = ms })) (sym same)

  pub status_none : s.published t ≡ None → status_among phasers s marked t ≡ None
  status_none off = ap (option_map (λ f. record { t = record { 0 = t }; event = f; phases = given_below (listed_phase marked (s.phases t)) phasers })) off

  pub status_more : (e : Event) (phases : List Member) (before : List Status) → s.published t ≡ Some e →
      phases ≡ given_below (listed_phase marked (s.phases t)) phasers → before ≡ statuses_among t phasers s marked →
      before ++ record { t = record { 0 = t }; event = e; phases = phases } ∷ [] ≡ statuses_among (t + 1) phasers s marked
  status_more e phases before on same is =
      given_below_more (status_among phasers s marked) t (record { t = record { 0 = t }; event = e; phases = phases }) before is (status_some e phases on same)

  pub no_status_more : (before : List Status) → s.published t ≡ None → before ≡ statuses_among t phasers s marked →
      before ≡ statuses_among (t + 1) phasers s marked
  no_status_more before off is = given_below_none (status_among phasers s marked) t before is (status_none off)

-- two states with the same published events, and with the same phases on what is marked, have the same statuses
pub statuses_same :
    (tasks phasers : ℕ) (r s : State) (marked other : ℕ → Bool) → ((t : ℕ) → t < tasks → r.published t ≡ s.published t) →
    ((t p : ℕ) → t < tasks → p < phasers → listed_phase marked (r.phases t) p ≡ listed_phase other (s.phases t) p) →
    statuses_among tasks phasers r marked ≡ statuses_among tasks phasers s other
statuses_same tasks phasers r s marked other published phases =
    given_below_same (status_among phasers r marked) (status_among phasers s other) tasks
    (λ t l. ap (option_map (λ e. record { t = record { 0 = t }; event = e; phases = given_below (listed_phase marked (r.phases t)) phasers })) (published t l)
    ∙ ap (λ ms. option_map (λ e. record { t = record { 0 = t }; event = e; phases = ms }) (s.published t))
    (given_below_same (listed_phase marked (r.phases t)) (listed_phase other (s.phases t)) phasers (λ p k. phases t p l k)))
