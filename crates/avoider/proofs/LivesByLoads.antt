-- Why a task would live, by the loads of a decision.
use Rattle.std.proofs.Common.{◌≡◌, ℕ, true, List, Option, Some, arith, ap, sym, ◌∙◌, subst}
use Rattle.std.specs.Prelude.{unwrap_or}
use Rattle.armus_base.specs.declared.event.Event.{Event}
use Rattle.armus_base.specs.declared.status.Status.{Status}
use Rattle.armus_base.specs.calls.Boards.{IsLawful}
use Rattle.armus_base.specs.Deadlocks.{IsDeadBy, WouldBeDead}
use Rattle.armus_base.specs.calls.Decisions.{Decides}
use Rattle.armus_base.specs.Places.{state_at}
use Rattle.armus_base.specs.Plans.{Aim, Blocks, Plan}
use Rattle.armus_base.specs.Runs.{Place}
use Rattle.armus_base.specs.calls.Seats.{HasLockWith, InEachWithLock, IsAsFarOn}
use Rattle.armus_base.specs.States.{State}
use Rattle.armus_base.proofs.BoardRuns.{nobody_dead_at}
use Rattle.board.specs.calls.Views.{avoids, next_action, seen, task_of}
use Rattle.board.specs.calls.Seats.{IsSeat, Known}
use Rattle.phase_scan.specs.calls.Looks.{LoadsAlone}
use Rattle.phase_scan.specs.calls.OffCycle.{ImpedesSome, IsImpeded}
use Rattle.avoider.specs.calls.OnBoard.{InEachByLock, Judges}
use Rattle.avoider.proofs.InHand.{decides, own_only, would_impede_nobody}
use Rattle.avoider.proofs.OnNoCycle.{lives_impeding_nobody}

module _ (list : List Status) (aim : Aim) (before now : Known) (t : ℕ) (seat : IsSeat before) (own : before.view.own ≡ Some t) (avoiding : avoids before.view.mode ≡ true)
    (holds : before.view.holds ≡ true) (next : next_action before.view ≡ Some (Blocks aim)) (goes : LoadsAlone before now) (event : Event) (supposed : List Status)
    (judges : Judges list aim event supposed before now) where
  abbrev plan : Plan
  plan = before.view.plan

  is_t : task_of before.view ≡ t
  is_t = ap (λ o. unwrap_or o 0) own

  task : task_of now.view ≡ t
  task = ap (λ o. unwrap_or o 0) goes.same.own ∙ is_t

  -- in each state that it may be in
  module _ (a : ℕ → Place) (lock : Option ℕ) (lawful : IsLawful true plan a lock) (has : HasLockWith plan t a lock (seen now.view))
      (far : IsAsFarOn plan (Some t) a (seen now.view)) where
    told : Decides (state_at plan a) t event supposed
    told = decides list supposed aim event before judges.between now t seat own next judges.own judges.collected.goes_on judges.collected.tells
        (judges.collected.finds holds) judges.adds a lock avoiding lawful has far

    harmless : (ImpedesSome supposed t → ⊥) → WouldBeDead (state_at plan a) t event → ⊥
    harmless none =
        lives_impeding_nobody (state_at plan a) t event (nobody_dead_at plan a lock seat.checked lawful)
        (would_impede_nobody list supposed aim event before judges.between now t seat own next judges.own judges.collected.goes_on judges.collected.tells
        (judges.collected.finds holds) judges.adds a lock avoiding
        lawful has far none)

  pub each : (Holds : State → Type 0) → InEachWithLock plan t (seen now.view) Holds → InEachByLock now Holds
  each Holds all = subst (λ (q : Plan). InEachWithLock q (task_of now.view) (seen now.view) Holds) (sym goes.same.plan)
      (subst (λ u. InEachWithLock plan u (seen now.view) Holds) (sym task) all)

  -- who is not dead by the statuses, or impedes nobody by them, would not be dead
  pub lives_by_statuses : (IsDeadBy supposed t → ⊥) → InEachByLock now (λ s. WouldBeDead s (task_of now.view) event → ⊥)
  lives_by_statuses none =
      each (λ s. WouldBeDead s (task_of now.view) event → ⊥)
      (subst (λ u. InEachWithLock plan t (seen now.view) (λ s. WouldBeDead s u event → ⊥)) (sym task)
      (λ a lock lawful has far would. none ((told a lock lawful has far).misses_none would)))

  pub lives_harmless : (ImpedesSome supposed t → ⊥) → InEachByLock now (λ s. WouldBeDead s (task_of now.view) event → ⊥)
  lives_harmless none =
      each (λ s. WouldBeDead s (task_of now.view) event → ⊥)
      (subst (λ u. InEachWithLock plan t (seen now.view) (λ s. WouldBeDead s u event → ⊥)) (sym task)
      (λ a lock lawful has far would. harmless a lock lawful has far none would))

  -- whose event nobody impedes is not dead by the statuses
  pub lives_unimpeded : (IsImpeded supposed event → ⊥) → IsDeadBy supposed t → ⊥
  lives_unimpeded none dead =
      let link = dead.deadlocked.each t dead.inside in
      let same : link.event ≡ event =
      own_only list supposed aim event before judges.between now t seat own next judges.own judges.collected.goes_on judges.collected.tells (judges.collected.finds holds)
      judges.adds link.event link.waits in
      let (s, (k, few, here), task_is, (i, within, member)) = link.impedes in
      none (
        k,
        s,
        few,
        here,
        (
          i,
          record { p = record { 0 = link.event.p.0 }; n = link.phase },
          within,
          member,
          (
            ap (λ (x : Event). x.p) same,
            (let below = link.below in
                let n = ap (λ (x : Event). x.n) same in omega arith),
          ),
        ),
      )
