use Rattle.std.proofs.Common.{◌≡◌, ◌∙◌, ap, arith, subst, true, List, length}
use Rattle.armus_base.specs.declared.status.Status.{Status}
use Rattle.armus_base.specs.States.{updated}
use Rattle.armus_base.specs.Finals.{given_below}
use Rattle.armus_base.specs.calls.StatusLists.{status_among}
use Rattle.board.specs.calls.Steps.{own_phase}
use Rattle.phase_scan.specs.calls.Collects.{Collection}
use Rattle.phase_scan.specs.calls.Looks.{LoadsAlone}
use Rattle.phase_scan.specs.calls.Supposed.{IsSupposed}
use Rattle.phase_scan.specs.calls.Tables.{awaited_in_findings, state_of_findings, state_supposed}
use Rattle.phase_scan.specs.inside.Phases.{phase_in}
use Rattle.phase_scan.proofs.Columns.{read_back}
use Rattle.phase_scan.proofs.Supposes.{supposed_goes, supposes}
use Rattle.phase_scan.proofs.cells.Cells.supposed.Goals as goal
use Rattle.phase_scan.proofs.cells.Cells.supposed.Goals.{After-supposed}

loads_alone : (c : After-supposed) → LoadsAlone c.args.seat.now c.supposed.new.seat
loads_alone c =
    let tasks : c.self.inside.found.tasks ≡ length c.args.board.now.plan.parents = ap (λ (v : Collection). v.tasks) c.self.view_is ∙ c.requires.tasks in
    supposed_goes c.args.board.now c.args.seat.now c.load_column.new.seat c.supposed.new.seat c.self.inside.found c.args.event c.load_column.new.column c.id-t.result.0
    c.requires.made c.id-t.ensures.seat c.id-t.ensures.task tasks c.load_column.ensures.keeps c.supposed.ensures.seat

pub returns-in_err-list-clause-goes_on : goal.returns-in_err-list-clause-goes_on
returns-in_err-list-clause-goes_on c = loads_alone (goal.at.returns-in_err-list-clause-goes_on c).After-supposed

pub returns-clause-goes_on : goal.returns-clause-goes_on
returns-clause-goes_on c = loads_alone (goal.at.returns-clause-goes_on c).After-supposed

pub returns-clause-supposed : goal.returns-clause-supposed
returns-clause-supposed c =
    let self = c.self.inside.found in
    let tasks : self.tasks ≡ length c.args.board.now.plan.parents = ap (λ (v : Collection). v.tasks) c.self.view_is ∙ c.requires.tasks in
    let phasers : self.phasers ≡ length c.args.board.now.plan.makers = ap (λ (v : Collection). v.phasers) c.self.view_is ∙ c.requires.phasers in
    let column : c.as_slice.result.now ≡ c.load_column.new.column =
    c.as_slice.ensures.value ∙ read_back c.self.inside.column.len c.load_column.new.column _
    (let many : c.self.inside.column.len ≡ length c.self.inside.column.items = c.self.inside.column.ok.0 in
    let room = c.self.invariant.room in let count = c.load_column.ensures.count in omega arith) in
    subst (λ (list : List Status). IsSupposed c.args.board.now.plan list c.args.event c.in_ok-list.list c.args.seat.now c.supposed.new.seat)
    (ap (λ (v : Collection). v.statuses) c.self.view_is)
    (supposes c.args.board.now c.args.seat.now c.load_column.new.seat c.supposed.new.seat self c.args.event c.load_column.new.column c.id-t.result.0
    c.requires.made c.id-t.ensures.seat c.id-t.ensures.task tasks c.load_column.ensures.keeps c.supposed.ensures.seat
    c.load_column.ensures.count phasers c.self.invariant.marked c.in_ok-list.list
    (c.in_ok-list.ensures.statuses
    ∙ ap (λ xs. given_below (status_among self.phasers (state_supposed (state_of_findings self) c.id-t.result.0 c.args.event (own_phase c.load_column.new.seat.view)
    (phase_in xs))
    (updated (awaited_in_findings self) c.args.event.p.0 true)) self.tasks) column))
