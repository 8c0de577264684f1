-- What a holder of the lock has found after a collect.
use Rattle.std.proofs.Common.{◌≡◌, ℕ, zero, suc, ◌<◌, Bool, true, false, List, Option, Some, length, sym, ap, ◌∙◌, subst, arith, inl, inr, eq-eqb, ne_eqb}
use Rattle.std.specs.Prelude.{is_some, if◌then◌else◌, ◌&&◌, ◌==◌}
use Rattle.std.proofs.lemmas.Bool.{cases_eq}
use Rattle.armus_base.specs.declared.event.Event.{Event}
use Rattle.armus_base.specs.declared.status.Status.{Status}
use Rattle.armus_base.specs.Plans.{Plan}
use Rattle.armus_base.specs.States.{Phases, State}
use Rattle.armus_base.specs.CheckedPlans.{IsCheckedPlan}
use Rattle.armus_base.specs.calls.Seats.{Found, FoundIdle, FoundRefused, FoundWaiting}
use Rattle.board.specs.calls.Views.{seen}
use Rattle.board.specs.calls.Seats.{AnswersPhase, Known}
use Rattle.phase_scan.specs.calls.Collects.{IfAsked, IsCollect, LoadsAwaits, LoadsRow, LoadsRows, waiting_on}
use Rattle.phase_scan.specs.calls.Collected.{HasFinds}
use Rattle.phase_scan.proofs.Telling.{are, collect_goes}

-- a holder of the lock that has found the first tasks
record HasFirst (events : ℕ → Option Event) (n : ℕ) (m : Known) : Type 0 where
  holds : m.view.holds ≡ true
  found : (u : ℕ) → u < n → (f : Found) × (seen m.view).found u ≡ Some f × events u ≡ waiting_on f

awaits_find : (events : ℕ → Option Event) (n : ℕ) (k m : Known) → LoadsAwaits events n k m → k.view.holds ≡ true → HasFirst events n m
awaits_find events zero k m same holds = record { holds = ap (λ (j : Known). j.view.holds) same ∙ holds; found = λ u l. absurd (omega arith) }
awaits_find events (suc t) k m (between, before, finds) holds =
    let old = awaits_find events t k between before holds in
    let load = finds.load.load in
    record {
      holds = load.same.holds ∙ old.holds;
      found = λ u l.
          let now : (seen m.view).found u ≡ (if u == t then Some finds.answer else (seen between.view).found u) =
          load.seen_now.found u ∙ ap (λ b. if b && (u == t) then Some finds.answer else (seen between.view).found u) old.holds in
          elim (cases_eq u t) [
            | inl e ↦ (
              finds.answer,
              now ∙ ap (λ b. if b then Some finds.answer else (seen between.view).found u) (eq-eqb u t e),
              ap events e ∙ finds.waits,
            )
            | inr n ↦
                let o = old.found u (omega arith) in (
                  o.0,
                  now ∙ ap (λ b. if b then Some finds.answer else (seen between.view).found u) (ne_eqb u t n) ∙ o.1,
                  o.2,
                )
          ];
    }

-- loads of phase words leave the finds
KeepsFinds : Known → Known → Type 0
KeepsFinds k m = (u : ℕ) → (seen m.view).found u ≡ (seen k.view).found u

same_finds : (k m : Known) → m ≡ k → KeepsFinds k m
unfolding KeepsFinds
same_finds k m same u = ap (λ (j : Known). (seen j.view).found u) same

row_keeps : (asked : ℕ → Bool) (t : ℕ) (phases : Phases) (q : ℕ) (k m : Known) → LoadsRow asked t phases q k m → KeepsFinds k m
unfolding KeepsFinds
row_keeps asked t phases zero k m same u = same_finds k m same u
row_keeps asked t phases (suc p) k m (between, before, made) u = by_test (asked p) made ∙ row_keeps asked t phases p k between before u
  where
    by_test : (b : Bool) → IfAsked b (AnswersPhase t p (phases p)) between m → (seen m.view).found u ≡ (seen between.view).found u
    by_test true load = load.load.seen_now.found u
    by_test false same = ap (λ (j : Known). (seen j.view).found u) same

rows_keep : (phasers : ℕ) (asked : ℕ → Bool) (found : State) (n : ℕ) (k m : Known) → LoadsRows phasers asked found n k m → KeepsFinds k m
unfolding KeepsFinds
rows_keep phasers asked found zero k m same u = same_finds k m same u
rows_keep phasers asked found (suc t) k m (between, before, made) u = by_test (is_some (found.published t)) made ∙ rows_keep phasers asked found t k between before u
  where
    by_test : (b : Bool) → IfAsked b (LoadsRow asked t (found.phases t) phasers) between m → (seen m.view).found u ≡ (seen between.view).found u
    by_test true row = row_keeps asked t (found.phases t) phasers between m row u
    by_test false same = ap (λ (j : Known). (seen j.view).found u) same

-- an answer is that its task waits on the event, or it is not
waits_is : (f : Found) (e : Event) → waiting_on f ≡ Some e → f ≡ FoundWaiting e
waits_is FoundIdle e is = absurd (cc)
waits_is (FoundWaiting g) e is = ap FoundWaiting (same g e is)
  where
    same : (g e : Event) → Some g ≡ Some e → g ≡ e
    same g e h = cc
waits_is (FoundRefused g) e is = absurd (cc)

module _ (before now : Known) (list : List Status) (checked : IsCheckedPlan before.view.plan) (some : 0 < length before.view.plan.parents)
    (c : IsCollect before.view.plan list before now) where
  pub collect_finds : before.view.holds ≡ true → HasFinds list now
  unfolding KeepsFinds
  collect_finds holds u l =
      let small : u < length before.view.plan.parents = subst (λ (q : Plan). u < length q.parents) (collect_goes before now list checked some c).same.plan l in
      let a = are before now list checked some c in
      let first = awaits_find c.found.published (length before.view.plan.parents) before c.between c.awaits holds in
      let o = first.found u small in (
        o.0,
        rows_keep (length before.view.plan.makers) _ c.found (length before.view.plan.parents) c.between now c.rows u ∙ o.1,
        λ e. (
          λ is. (a.events u e).1 (small, o.2 ∙ ap waiting_on is),
          λ listed. waits_is o.0 e (sym o.2 ∙ ((a.events u e).0 listed).1),
        ),
      )
