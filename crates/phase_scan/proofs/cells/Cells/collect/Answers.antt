use Rattle.std.proofs.Common.{◌∙◌, ap, sym}
use Rattle.phase_scan.specs.calls.Collects.{Collection, IsCollect}
use Rattle.phase_scan.specs.calls.Tables.{statuses_of_findings}
use Rattle.phase_scan.proofs.Collecting.{cells_collected, cells_in_order, marks_stay, tables_collect}
use Rattle.phase_scan.proofs.cells.Cells.collect.Goals as goal

the_collect : (g : _) (c : goal.After-load_rows g) →
    IsCollect c.args.board.now.plan (statuses_of_findings c.load_rows.new.self) (g.L.Loads.known c.args.by.now) (g.L.Loads.known c.load_rows.new.by)
the_collect g c =
    let awaits = c.load_awaits.ensures.awaits in
    let rows = c.load_rows.ensures in
    tables_collect c.args.board.now (g.L.Loads.known c.args.by.now) (g.L.Loads.known c.load_awaits.new.by) (g.L.Loads.known c.load_rows.new.by)
    c.unmark.new.self c.load_awaits.new.self c.load_rows.new.self
    (c.unmark.ensures.tasks ∙ ap (λ (v : Collection). v.tasks) c.self.view_is ∙ c.requires.tasks)
    (c.unmark.ensures.phasers ∙ ap (λ (v : Collection). v.phasers) c.self.view_is ∙ c.requires.phasers)
    awaits.tasks awaits.phasers rows.same.tasks rows.same.phasers rows.same.events rows.same.awaited awaits.loads rows.loads awaits.awaited

pub invariant_of-self : goal.invariant_of-self
invariant_of-self g c =
    let awaits = c.load_awaits.ensures.awaits in
    let rows = c.load_rows.ensures in
    record {
      in_order =
          cells_in_order c.args.board.now (statuses_of_findings c.load_rows.new.self) (g.L.Loads.known c.args.by.now) (g.L.Loads.known c.load_rows.new.by)
          c.requires.made c.load_awaits.ensures.checked (the_collect g c);
      marked = marks_stay c.unmark.new.self c.load_awaits.new.self c.load_rows.new.self awaits.tasks rows.same.tasks rows.same.events rows.same.awaited awaits.awaited;
      room = c.self.invariant.room ∙ sym (rows.same.tasks ∙ awaits.tasks ∙ c.unmark.ensures.tasks);
    }

pub returns-clause-collected : goal.returns-clause-collected
returns-clause-collected g c =
    cells_collected c.args.board.now (statuses_of_findings c.load_rows.new.self) (g.L.Loads.known c.args.by.now) (g.L.Loads.known c.load_rows.new.by)
    c.requires.made c.load_awaits.ensures.checked (the_collect g c)
