use Rattle.std.proofs.Common.{rules, sym, ap, ◌∙◌}
use Rattle.armus_base.specs.Finals.{is_event_of}
use Rattle.armus_base.specs.calls.StatusLists.{status_among}
use Rattle.phase_scan.specs.calls.Tables.{awaited_in_findings, event_for, state_of_findings, statuses_of_findings}
use Rattle.armus_base.proofs.StatusLists.{status_none}
use Rattle.phase_scan.proofs.Tables.{given_below_nothing, none_before, nothing_in_order}
use Rattle.phase_scan.proofs.cells.Cells.start.Goals as goal

pub invariant_of-result : goal.invariant_of-result
invariant_of-result c =
    let f = c.in_ok-new.field-0 in
    record {
      in_order =
          nothing_in_order (statuses_of_findings f)
          (given_below_nothing (status_among f.phasers (state_of_findings f) (awaited_in_findings f)) f.tasks
          (λ t. status_none f.phasers (state_of_findings f) (awaited_in_findings f) t (c.in_ok-new.ensures.nothing t)));
      marked = λ p. c.in_ok-new.ensures.unmarked p
          ∙ sym (none_before (λ t. is_event_of p (event_for f.events.items t)) f.tasks (λ t. ap (is_event_of p) (c.in_ok-new.ensures.nothing t)));
      room = search rules;
    }

pub returns-clause-nothing : goal.returns-clause-nothing
returns-clause-nothing c =
    let f = c.in_ok-new.field-0 in
    given_below_nothing (status_among f.phasers (state_of_findings f) (awaited_in_findings f)) f.tasks
    (λ t. status_none f.phasers (state_of_findings f) (awaited_in_findings f) t (c.in_ok-new.ensures.nothing t))
