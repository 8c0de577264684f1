use Rattle.std.proofs.Common.{◌∙◌, ◌++◌, ap}
use Rattle.report.specs.Lines.{cycle_line}
use Rattle.report.proofs.DeadTasks.{no_cycle, a_cycle}
use Rattle.report.proofs.reports.put_found_cycle.Goals as goal

pub returns-in-None : goal.returns-in-None
returns-in-None c = no_cycle c.args.blocked.now c.args.dead.now c.requires.dead (rw c.in-None.is at c.in_ok-cycle.ensures.cycle) c.args.out.now.items

pub returns-in_ok-put_cycle-in-Some : goal.returns-in_ok-put_cycle-in-Some
returns-in_ok-put_cycle-in-Some c =
    a_cycle c.args.blocked.now c.args.dead.now c.requires.dead c.in-Some.found (rw c.in-Some.is at c.in_ok-cycle.ensures.cycle) c.args.out.now.items
    c.put_cycle.new.out.items (c.in_ok-put_cycle-in-Some.ensures ∙ ap (λ ts. c.args.out.now.items ++ cycle_line ts) c.as_slice.ensures.items)
