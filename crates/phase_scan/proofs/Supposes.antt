-- The tables give the statuses of a task that has published an event, or exclude that it lies on a cycle of them.
use mathlib.Core.Path.{fun_ext}
use Rattle.std.proofs.Common.{◌≡◌, ℕ, true, List, Option, None, Some, length, refl, sym, ap, ◌∙◌, subst, arith}
use Rattle.std.specs.Prelude.{unwrap_or}
use Rattle.armus_base.specs.declared.event.Event.{Event}
use Rattle.armus_base.specs.declared.status.Status.{Status}
use Rattle.armus_base.specs.CheckedPlans.{IsCheckedPlan}
use Rattle.armus_base.specs.calls.Places.{phases_at_place}
use Rattle.armus_base.specs.Places.{some_before}
use Rattle.armus_base.specs.States.{Phases, updated}
use Rattle.armus_base.specs.Finals.{given_below, is_awaited, is_event_of, statuses_on}
use Rattle.armus_base.specs.calls.StatusLists.{status_among}
use Rattle.board.specs.calls.Views.{place_in, task_of}
use Rattle.board.specs.calls.Steps.{own_phase}
use Rattle.board.specs.calls.Seats.{Frame, IsOf, IsSeat, Known}
use Rattle.phase_scan.specs.calls.Looks.{LoadsAlone}
use Rattle.phase_scan.specs.calls.Supposed.{IsSupposed, LoadsColumn, phase_used}
use Rattle.phase_scan.specs.calls.OffCycle.{SupposesOrExcludes}
use Rattle.phase_scan.specs.declared.findings.Findings.{Findings}
use Rattle.phase_scan.specs.calls.Tables.{awaited_in_findings, event_for, state_of_findings, state_supposed, statuses_of_findings}
use Rattle.phase_scan.specs.inside.Behind.{ExcludesCycle}
use Rattle.phase_scan.specs.inside.Phases.{phase_in}
use Rattle.phase_scan.specs.inside.Supposing.{KeepsColumn}
use Rattle.phase_scan.proofs.Columns.{column_goes, column_used}
use Rattle.phase_scan.proofs.Excluding.{off_cycle}

-- the own phases stay as they are while a seat makes loads alone
pub own_phase_stays : (k m : Known) (t : ℕ) → IsSeat k → k.view.own ≡ Some t → LoadsAlone k m → own_phase m.view ≡ own_phase k.view
own_phase_stays k m t seat own goes =
    let task : task_of m.view ≡ task_of k.view = ap (λ o. unwrap_or o 0) goes.same.own in
    let is_t : task_of k.view ≡ t = ap (λ o. unwrap_or o 0) own in
    let here : place_in m.view.sight.places (task_of m.view) ≡ place_in k.view.sight.places (task_of k.view) =
    ap (place_in m.view.sight.places) (task ∙ is_t) ∙ goes.seen_now.here t (seat.own t own).1 ∙ ap (place_in k.view.sight.places) (sym is_t) in
    λ i. phases_at_place (goes.same.plan i) (task i) (here i)

module _ (f : Frame) (before between now : Known) (fd : Findings) (event : Event) (column : List (Option ℕ)) (t : ℕ) (of : IsOf before f) (seat : IsSeat before)
    (own : before.view.own ≡ Some t) (tasks : fd.tasks ≡ length f.plan.parents) (keeps : KeepsColumn fd event.p.0 column fd.tasks before between) (same : now ≡ between) where
  loads_here : LoadsColumn (event_for fd.events.items) event.p.0 keeps.loaded (length f.plan.parents) before now
  loads_here =
      subst (λ k. LoadsColumn (event_for fd.events.items) event.p.0 keeps.loaded (length f.plan.parents) before k) (sym same)
      (subst (λ n. LoadsColumn (event_for fd.events.items) event.p.0 keeps.loaded n before between) tasks keeps.loads)

  pub supposed_goes : LoadsAlone before now
  supposed_goes = (column_goes (event_for fd.events.items) event.p.0 f.plan keeps.loaded (length f.plan.parents) before now of.plan (omega arith) seat loads_here).goes

  task : t ≡ task_of before.view
  task = sym (ap (λ o. unwrap_or o 0) own)

  phases : own_phase between.view ≡ own_phase before.view
  phases = ap (λ (k : Known). own_phase k.view) (sym same) ∙ own_phase_stays before now t seat own supposed_goes

  module _ (count : length column ≡ fd.tasks) (phasers : fd.phasers ≡ length f.plan.makers)
      (marked : (p : ℕ) → awaited_in_findings fd p ≡ some_before (λ u. is_event_of p (event_for fd.events.items u)) fd.tasks) where
    asked : awaited_in_findings fd ≡ is_awaited f.plan (state_of_findings fd)
    asked = fun_ext (λ p. marked p ∙ ap (some_before (λ u. is_event_of p (event_for fd.events.items u))) tasks)

    -- the phases on the event's phaser that count
    abbrev counting : ℕ → Option ℕ
    counting = phase_used (is_awaited f.plan (state_of_findings fd) event.p.0) (state_of_findings fd) event.p.0 keeps.loaded

    used : phase_in column ≡ counting
    used =
        column_used fd event.p.0 column before between count keeps
        ∙ ap (λ a. phase_used (a event.p.0) (state_of_findings fd) event.p.0 keeps.loaded) asked

    -- the statuses that are supposed, by the plan, the seat, and what was found
    abbrev these : List Status
    these =
        statuses_on f.plan (state_supposed (state_of_findings fd) (task_of before.view) event (own_phase before.view) counting)
        (updated (is_awaited f.plan (state_of_findings fd)) event.p.0 true)

    supposes_these : (list : List Status) → list ≡ these → IsSupposed f.plan (statuses_of_findings fd) event list before now
    supposes_these list is =
        let s = state_of_findings fd in
        record {
          found = s;
          column = keeps.loaded;
          statuses =
              ap (given_below (status_among fd.phasers s (awaited_in_findings fd))) tasks
              ∙ ap (λ n. given_below (status_among n s (awaited_in_findings fd)) (length f.plan.parents)) phasers
              ∙ ap (statuses_on f.plan s) asked;
          loads = loads_here;
          supposed_are = is;
        }

    pub supposes :
        (list : List Status) →
        list ≡ given_below (status_among fd.phasers (state_supposed (state_of_findings fd) t event (own_phase between.view) (phase_in column))
        (updated (awaited_in_findings fd) event.p.0 true)) fd.tasks →
        IsSupposed f.plan (statuses_of_findings fd) event list before now
    supposes list is =
        let s = state_of_findings fd in
        let found = state_supposed s t event (own_phase between.view) (phase_in column) in
        let too = updated (awaited_in_findings fd) event.p.0 true in
        supposes_these list
        (is
        ∙ ap (given_below (status_among fd.phasers found too)) tasks
        ∙ ap (λ n. given_below (status_among n found too) (length f.plan.parents)) phasers
        ∙ (λ i. statuses_on f.plan (state_supposed s (task i) event (phases i) (used i)) (updated (asked i) event.p.0 true)))

    pub excludes :
        IsCheckedPlan f.plan → ExcludesCycle (event_for fd.events.items) fd.tasks event (own_phase between.view) (phase_in column) →
        SupposesOrExcludes f.plan (statuses_of_findings fd) event None before now
    excludes checked off =
        let events = event_for fd.events.items in
        let own_off = subst (λ (m : Phases). ExcludesCycle events fd.tasks event m (phase_in column)) phases off in
        let tasks_off = subst (λ n. ExcludesCycle events n event (own_phase before.view) (phase_in column)) tasks own_off in
        let all_off = subst (λ (g : ℕ → Option ℕ). ExcludesCycle events (length f.plan.parents) event (own_phase before.view) g) used tasks_off in (
          these,
          supposes_these these refl,
          off_cycle f.plan checked (state_of_findings fd) (task_of before.view) event (own_phase before.view) counting
              (updated (is_awaited f.plan (state_of_findings fd)) event.p.0 true) all_off,
        )
