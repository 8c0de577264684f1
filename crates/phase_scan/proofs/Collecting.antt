-- The loads of a collect that its tables keep.
use Rattle.std.proofs.Common.{◌≡◌, ℕ, ◌<◌, Bool, Option, None, List, length, sym, ap, ◌∙◌, subst}
use Rattle.std.proofs.lemmas.Option.{slice_get_within}
use mathlib.Core.Path.{fun_ext}
use Rattle.armus_base.specs.declared.event.Event.{Event}
use Rattle.armus_base.specs.declared.status.Status.{Status}
use Rattle.armus_base.specs.Plans.{Plan}
use Rattle.armus_base.specs.Places.{some_before}
use Rattle.armus_base.specs.CheckedPlans.{IsCheckedPlan}
use Rattle.armus_base.specs.Deadlocks.{IsListedOn}
use Rattle.armus_base.specs.Finals.{given_below, is_awaited, is_event_of, statuses_on}
use Rattle.armus_base.specs.calls.Statuses.{IsInOrder}
use Rattle.armus_base.proofs.StatusesAre.{statuses_are}
use Rattle.armus_base.specs.calls.StatusLists.{is_marked, status_among}
use Rattle.board.specs.calls.Seats.{Frame, IsOf, Known}
use Rattle.phase_scan.specs.calls.Collects.{CountsLoads, IsCollect, LoadsAwaits, LoadsRows}
use Rattle.phase_scan.specs.calls.Collecting.{HasCollected}
use Rattle.phase_scan.specs.declared.findings.Findings.{Findings}
use Rattle.phase_scan.specs.calls.Tables.{awaited_in_findings, event_for, state_of_findings, statuses_of_findings}
use Rattle.phase_scan.proofs.Counting.{counts_loads}
use Rattle.phase_scan.proofs.Farther.{IsPossible}
use Rattle.phase_scan.proofs.Finds.{collect_finds}
use Rattle.phase_scan.proofs.Settling.{tells_state}
use Rattle.phase_scan.proofs.Telling.{are, collect_goes, collected, some_possible}

-- a checked plan has a task
some_task : (plan : Plan) → IsCheckedPlan plan → 0 < length plan.parents
some_task plan checked = slice_get_within plan.parents 0 None checked.tables.root

-- The tables before all loads, after those of await words, and after all: they keep a collect.
pub tables_collect :
    (f : Frame) (before between now : Known) (a b c : Findings) → a.tasks ≡ length f.plan.parents → a.phasers ≡ length f.plan.makers →
    b.tasks ≡ a.tasks → b.phasers ≡ a.phasers → c.tasks ≡ b.tasks → c.phasers ≡ b.phasers →
    c.events.items ≡ b.events.items → c.awaited.items ≡ b.awaited.items →
    LoadsAwaits (event_for b.events.items) a.tasks before between → LoadsRows b.phasers (awaited_in_findings b) (state_of_findings c) b.tasks between now →
    ((p : ℕ) → awaited_in_findings b p ≡ some_before (λ t. is_event_of p (event_for b.events.items t)) a.tasks) → IsCollect f.plan (statuses_of_findings c) before now
tables_collect f before between now a b c tasks_a phasers_a tasks_b phasers_b tasks_c phasers_c events marks awaits rows awaited =
    let plan = f.plan in
    let s = state_of_findings c in
    let tasks_now : b.tasks ≡ length plan.parents = tasks_b ∙ tasks_a in
    let phasers_now : b.phasers ≡ length plan.makers = phasers_b ∙ phasers_a in
    let asked : awaited_in_findings b ≡ is_awaited plan s =
    fun_ext (λ p. awaited p ∙ ap (some_before (λ t. is_event_of p (event_for b.events.items t))) tasks_a
    ∙ ap (λ (xs : List (Option Event)). some_before (λ t. is_event_of p (event_for xs t)) (length plan.parents)) (sym events)) in
    record {
      found = s;
      between = between;
      awaits =
          subst (λ n. LoadsAwaits s.published n before between) tasks_a
          (subst (λ (xs : List (Option Event)). LoadsAwaits (event_for xs) a.tasks before between) (sym events) awaits);
      rows =
          subst (λ n. LoadsRows n (is_awaited plan s) s (length plan.parents) between now) phasers_now
          (subst (λ n. LoadsRows b.phasers (is_awaited plan s) s n between now) tasks_now
          (subst (λ r. LoadsRows b.phasers r s b.tasks between now) asked rows));
      statuses =
          ap (given_below (status_among c.phasers s (awaited_in_findings c))) (tasks_c ∙ tasks_now)
          ∙ ap (λ n. given_below (status_among n s (awaited_in_findings c)) (length plan.parents)) (phasers_c ∙ phasers_now)
          ∙ ap (statuses_on plan s) (ap is_marked marks ∙ asked);
    }

-- and they keep the marks
pub marks_stay :
    (a b c : Findings) → b.tasks ≡ a.tasks → c.tasks ≡ b.tasks → c.events.items ≡ b.events.items → c.awaited.items ≡ b.awaited.items →
    ((p : ℕ) → awaited_in_findings b p ≡ some_before (λ t. is_event_of p (event_for b.events.items t)) a.tasks) →
    (p : ℕ) → awaited_in_findings c p ≡ some_before (λ t. is_event_of p (event_for c.events.items t)) c.tasks
marks_stay a b c tasks_b tasks_c events marks awaited p =
    ap (λ (xs : List Bool). is_marked xs p) marks ∙ awaited p
    ∙ ap (λ n. some_before (λ t. is_event_of p (event_for b.events.items t)) n) (sym (tasks_c ∙ tasks_b))
    ∙ ap (λ (xs : List (Option Event)). some_before (λ t. is_event_of p (event_for xs t)) c.tasks) (sym events)

-- and what it means
module _ (f : Frame) (list : List Status) (before now : Known) (of : IsOf before f) (checked : IsCheckedPlan f.plan) (c : IsCollect f.plan list before now) where
  here : IsCheckedPlan before.view.plan
  here = subst IsCheckedPlan (sym of.plan) checked

  own : IsCollect before.view.plan list before now
  own = subst (λ (q : Plan). IsCollect q list before now) (sym of.plan) c

  pub cells_collected : HasCollected f.plan list before now
  cells_collected =
      record {
        goes_on = collect_goes before now list here (some_task before.view.plan here) own;
        collect = c;
        loads = subst (λ (q : Plan). CountsLoads q list before now) of.plan (counts_loads before now list here (some_task before.view.plan here) own);
        tells = collected before now list here (some_task before.view.plan here) own;
        finds = collect_finds before now list here (some_task before.view.plan here) own;
        settled = tells_state before now list here (some_task before.view.plan here) own;
      }

  pub cells_in_order : IsInOrder list
  cells_in_order = subst IsInOrder (sym c.statuses) (statuses_are f.plan c.found (is_awaited f.plan c.found) checked).in_order

  pub cells_listed : (t : ℕ) (e : Event) → IsListedOn list t e → t < length f.plan.parents
  cells_listed t e is =
      subst (λ (q : Plan). t < length q.parents) of.plan
      (((are before now list here (some_task before.view.plan here) own).events t e).0 is).0

  pub cells_possible : IsPossible before (λ s. Unit {0})
  cells_possible = some_possible before now list here (some_task before.view.plan here) own
