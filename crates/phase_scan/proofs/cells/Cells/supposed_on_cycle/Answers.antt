use Rattle.std.proofs.Common.{◌≡◌, ◌∙◌, ap, arith, sym, subst, true, List, Option, None, ℕ, length}
use Rattle.armus_base.specs.declared.status.Status.{Status}
use Rattle.armus_base.specs.CheckedPlans.{IsCheckedPlan}
use Rattle.armus_base.specs.States.{updated}
use Rattle.armus_base.specs.Finals.{given_below}
use Rattle.armus_base.specs.calls.StatusLists.{status_among}
use Rattle.board.specs.calls.Steps.{own_phase}
use Rattle.phase_scan.specs.calls.Collects.{Collection}
use Rattle.phase_scan.specs.calls.Looks.{LoadsAlone}
use Rattle.phase_scan.specs.calls.OffCycle.{SupposesOrExcludes}
use Rattle.phase_scan.specs.calls.Supposed.{IsSupposed}
use Rattle.phase_scan.specs.inside.Supposing.{KeepsColumn}
use Rattle.phase_scan.specs.calls.Tables.{awaited_in_findings, event_for, state_of_findings, state_supposed}
use Rattle.phase_scan.specs.inside.Behind.{ExcludesCycle}
use Rattle.phase_scan.specs.inside.Phases.{phase_in}
use Rattle.phase_scan.proofs.Columns.{read_back}
use Rattle.phase_scan.proofs.Supposes.{excludes, supposed_goes, supposes}
use Rattle.phase_scan.proofs.cells.Cells.supposed_on_cycle.Goals as goal
use Rattle.phase_scan.proofs.cells.Cells.supposed_on_cycle.Goals.{After-as_slice-column, After-load_column, After-supposed}

-- the cells are for the tasks of the board
tasks_are : (c : After-load_column) → c.self.inside.found.tasks ≡ length c.args.board.now.plan.parents
tasks_are c = ap (λ (v : Collection). v.tasks) c.self.view_is ∙ c.requires.tasks

phasers_are : (c : After-load_column) → c.self.inside.found.phasers ≡ length c.args.board.now.plan.makers
phasers_are c = ap (λ (v : Collection). v.phasers) c.self.view_is ∙ c.requires.phasers

-- the column is what its loads found
column_is : (c : After-as_slice-column) → c.as_slice-column.result.now ≡ c.load_column.new.column
column_is c =
    c.as_slice-column.ensures.value
    ∙ read_back c.self.inside.column.len c.load_column.new.column _ (let many : c.self.inside.column.len ≡ length c.self.inside.column.items = c.self.inside.column.ok.0 in
    let room = c.self.invariant.room in let count = c.load_column.ensures.count in omega arith)

-- its loads, from the seat before to the seat after the test of a cycle
column_loads : (c : After-supposed) →
    KeepsColumn c.self.inside.found c.args.event.p.0 c.load_column.new.column c.self.inside.found.tasks c.args.seat.now
    c.excludes_cycle.new.seat
column_loads c =
    subst (KeepsColumn c.self.inside.found c.args.event.p.0 c.load_column.new.column c.self.inside.found.tasks c.args.seat.now)
    (sym c.excludes_cycle.ensures.seat) c.load_column.ensures.keeps

loads_alone : (c : After-supposed) → LoadsAlone c.args.seat.now c.supposed.new.seat
loads_alone c =
    supposed_goes c.args.board.now c.args.seat.now c.excludes_cycle.new.seat c.supposed.new.seat c.self.inside.found c.args.event c.load_column.new.column c.id-t.result.0
    c.requires.made c.id-t.ensures.seat c.id-t.ensures.task (ap (λ (v : Collection). v.tasks) c.self.view_is ∙ c.requires.tasks) (column_loads c) c.supposed.ensures.seat

pub returns-in_err-list-clause-goes_on : goal.returns-in_err-list-clause-goes_on
returns-in_err-list-clause-goes_on c = loads_alone (goal.at.returns-in_err-list-clause-goes_on c).After-supposed

pub returns-clause-goes_on : goal.returns-clause-goes_on
returns-clause-goes_on c = loads_alone (goal.at.returns-clause-goes_on c).After-supposed

pub returns-clause-supposed : goal.returns-clause-supposed
returns-clause-supposed c =
    let self = c.self.inside.found in
    let at = goal.at.returns-clause-supposed c in
    subst (λ (list : List Status). IsSupposed c.args.board.now.plan list c.args.event c.in_ok-list.list c.args.seat.now c.supposed.new.seat)
    (ap (λ (v : Collection). v.statuses) c.self.view_is)
    (supposes c.args.board.now c.args.seat.now c.excludes_cycle.new.seat c.supposed.new.seat self c.args.event c.load_column.new.column c.id-t.result.0
    c.requires.made c.id-t.ensures.seat c.id-t.ensures.task (tasks_are at.After-load_column) (column_loads at.After-supposed) c.supposed.ensures.seat
    c.load_column.ensures.count (phasers_are at.After-load_column) c.self.invariant.marked c.in_ok-list.list
    (c.in_ok-list.ensures.statuses
    ∙ ap (λ xs. given_below (status_among self.phasers (state_supposed (state_of_findings self) c.id-t.result.0 c.args.event (own_phase c.excludes_cycle.new.seat.view)
    (phase_in xs))
    (updated (awaited_in_findings self) c.args.event.p.0 true)) self.tasks) (column_is at.After-as_slice-column)))

pub returns-then-excludes_cycle-clause-goes_on : goal.returns-then-excludes_cycle-clause-goes_on
returns-then-excludes_cycle-clause-goes_on c =
    supposed_goes c.args.board.now c.args.seat.now c.load_column.new.seat c.excludes_cycle.new.seat c.self.inside.found c.args.event c.load_column.new.column c.id-t.result.0
    c.requires.made c.id-t.ensures.seat c.id-t.ensures.task (tasks_are (goal.at.returns-then-excludes_cycle-clause-goes_on c).After-load_column) c.load_column.ensures.keeps
    c.excludes_cycle.ensures.seat

pub returns-then-excludes_cycle-clause-supposed : goal.returns-then-excludes_cycle-clause-supposed
returns-then-excludes_cycle-clause-supposed c =
    let self = c.self.inside.found in
    let at = goal.at.returns-then-excludes_cycle-clause-supposed c in
    let off = c.excludes_cycle.ensures.excludes c.if-excludes_cycle.true in
    subst (λ (list : List Status). SupposesOrExcludes c.args.board.now.plan list c.args.event None c.args.seat.now c.excludes_cycle.new.seat)
    (ap (λ (v : Collection). v.statuses) c.self.view_is)
    (excludes c.args.board.now c.args.seat.now c.load_column.new.seat c.excludes_cycle.new.seat self c.args.event c.load_column.new.column c.id-t.result.0
    c.requires.made c.id-t.ensures.seat c.id-t.ensures.task (tasks_are at.After-load_column) c.load_column.ensures.keeps c.excludes_cycle.ensures.seat
    c.load_column.ensures.count (phasers_are at.After-load_column) c.self.invariant.marked (subst IsCheckedPlan c.requires.made.plan c.id-t.ensures.seat.checked)
    (subst (λ (xs : List (Option ℕ)). ExcludesCycle (event_for self.events.items) self.tasks c.args.event (own_phase c.load_column.new.seat.view) (phase_in xs))
    (column_is at.After-as_slice-column) off))
