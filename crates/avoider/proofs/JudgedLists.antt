-- What the loads of a decision tell.
use Rattle.std.proofs.Common.{◌≡◌, ℕ, ◌<◌, true, List, Option, None, Some, length, refl, sym, ap, ◌∙◌, subst}
use Rattle.std.specs.Prelude.{unwrap_or, Contains, MatchOption}
use Rattle.armus_base.specs.declared.event.Event.{Event}
use Rattle.armus_base.specs.declared.status.Status.{Status}
use Rattle.armus_base.specs.Plans.{Aim, Blocks, Plan}
use Rattle.armus_base.specs.CheckedPlans.{IsCheckedPlan}
use Rattle.armus_base.specs.Deadlocks.{WouldBeDead}
use Rattle.armus_base.specs.Finals.{is_awaited}
use Rattle.armus_base.specs.States.{awaited, updated}
use Rattle.armus_base.specs.calls.Statuses.{IsInOrder}
use Rattle.armus_base.proofs.StatusesAre.{statuses_are}
use Rattle.board.specs.calls.Views.{task_of}
use Rattle.board.specs.calls.Steps.{own_phase}
use Rattle.board.specs.calls.Seats.{Frame, IsOf, Known}
use Rattle.phase_scan.specs.calls.Collecting.{HasCollected}
use Rattle.phase_scan.specs.calls.Looks.{LoadsAlone}
use Rattle.phase_scan.specs.calls.Supposed.{IsSupposed, phase_used}
use Rattle.phase_scan.specs.calls.OffCycle.{IsOffCycle, SupposesOrExcludes}
use Rattle.phase_scan.specs.calls.Tables.{state_supposed}
use Rattle.phase_scan.proofs.Loads.{goes_both}
use Rattle.verdict.specs.declared.found.Cycle.{Cycle}
use Rattle.avoider.specs.calls.Decisions.{ExplainsDeath}
use Rattle.avoider.specs.calls.OnBoard.{InEachByLock, Judges}
use Rattle.avoider.specs.inside.Judged.{IsJudged}

supposed_ordered : (plan : Plan) (list : List Status) (event : Event) (supposed : List Status) (before now : Known) → IsCheckedPlan plan →
    IsSupposed plan list event supposed before now → IsInOrder supposed
supposed_ordered plan list event supposed before now checked sup =
    subst IsInOrder (sym sup.supposed_are)
    (statuses_are plan (state_supposed sup.found (task_of before.view) event (own_phase before.view) (phase_used (is_awaited plan sup.found event.p.0) sup.found event.p.0 sup.column)) (updated (is_awaited plan sup.found) event.p.0 true)
    checked).in_order

-- the loads of a decision
pub judges_so :
    (f : Frame) (list supposed : List Status) (aim : Aim) (event : Event) (before first between now : Known) → IsOf before f →
    first ≡ before → HasCollected f.plan list first between → IsSupposed f.plan list event supposed between now →
    awaited (Some (Blocks aim)) (own_phase before.view) ≡ Some event → Judges list aim event supposed before now
judges_so f list supposed aim event before first between now of same collected adds event_is =
    record {
      between = between;
      collected = subst (λ (q : Plan). HasCollected q list before between) (sym of.plan) (subst (λ k. HasCollected f.plan list k between) same collected);
      adds = subst (λ (q : Plan). IsSupposed q list event supposed between now) (sym of.plan) adds;
      own = event_is;
    }

-- all of them are loads alone, and the own task stays the seat's
pub all_loads : (before first between now : Known) → first ≡ before → LoadsAlone first between → LoadsAlone between now → LoadsAlone before now
all_loads before first between now same goes more = goes_both before between now (subst (λ k. LoadsAlone k between) same goes) more

off_before :
    (list : List Status) (event : Event) (before first between : Known) (t : ℕ) → before.view.own ≡ Some t → first ≡ before → LoadsAlone first between →
    IsOffCycle list (task_of between.view) event → IsOffCycle list t event
off_before list event before first between t own same goes =
    subst (λ u. IsOffCycle list u event) (ap (λ o. unwrap_or o 0) (goes.same.own ∙ ap (λ (k : Known). k.view.own) same ∙ own))

-- the loads of a decision tell by these statuses; where none are given, by such as exclude a cycle of task t
abbrev pub JudgesOrExcludes : List Status → Aim → Event → Known → Known → ℕ → Option (List Status) → Type 0
JudgesOrExcludes list aim event before now t (Some supposed) = Judges list aim event supposed before now
JudgesOrExcludes list aim event before now t None = (supposed : List Status) × Judges list aim event supposed before now × IsOffCycle supposed t event

module _ (f : Frame) (list cells : List Status) (aim : Aim) (event : Event) (before first between now : Known) (of : IsOf before f) (same : first ≡ before)
    (collected : HasCollected f.plan list first between) (event_is : awaited (Some (Blocks aim)) (own_phase before.view) ≡ Some event) (kept : cells ≡ list) (t : ℕ)
    (own : before.view.own ≡ Some t) where
  judges_by : (supposed : List Status) → IsSupposed f.plan list event supposed between now → Judges cells aim event supposed before now
  judges_by supposed sup =
      subst (λ ss. Judges ss aim event supposed before now) (sym kept) (judges_so f list supposed aim event before first between now of same collected sup event_is)

  pub judges_told : (found : Option (List Status)) → SupposesOrExcludes f.plan list event found between now → JudgesOrExcludes cells aim event before now t found
  judges_told (Some supposed) sup = judges_by supposed sup
  judges_told None (supposed, sup, off) = (supposed, judges_by supposed sup, off_before supposed event before first between t own same collected.goes_on off)

pub judged_in_order : (list supposed : List Status) (aim : Aim) (event : Event) (before now : Known) → IsCheckedPlan before.view.plan → Judges list aim event supposed before now →
    IsInOrder supposed
judged_in_order list supposed aim event before now checked j = supposed_ordered before.view.plan list event supposed j.between now checked j.adds

-- their statuses are of tasks of the plan
pub judged_tasks :
    (list supposed : List Status) (aim : Aim) (event : Event) (before now : Known) → IsCheckedPlan before.view.plan → Judges list aim event supposed before now →
    (s : Status) → Contains supposed s → s.t.0 < length before.view.plan.parents
judged_tasks list supposed aim event before now checked j s m =
    let plan = before.view.plan in
    let are = statuses_are plan (state_supposed j.adds.found (task_of j.between.view) event (own_phase j.between.view)
    (phase_used (is_awaited plan j.adds.found event.p.0) j.adds.found event.p.0 j.adds.column))
    (updated (is_awaited plan j.adds.found) event.p.0 true) checked in
    ((are.events s.t.0 s.event).0 (s, subst (λ ss. Contains ss s) j.adds.supposed_are m, refl, refl)).0

-- and what they tell
unfoldable pub judged :
    (list supposed : List Status) (aim : Aim) (event : Event) (before now : Known) (t : ℕ) (found : Option Cycle) → before.view.own ≡ Some t →
    Judges list aim event supposed before now →
    MatchOption found (InEachByLock now (λ s. WouldBeDead s (task_of now.view) event → ⊥)) (ExplainsDeath supposed t) → IsJudged list aim before now found
judged list supposed aim event before now t found own judges told =
    record {
      event = event;
      supposed = supposed;
      judges = judges;
      told = subst (λ u. MatchOption found (InEachByLock now (λ s. WouldBeDead s (task_of now.view) event → ⊥)) (ExplainsDeath supposed u)) (sym (ap (λ o. unwrap_or o 0) own))
          told;
    }
