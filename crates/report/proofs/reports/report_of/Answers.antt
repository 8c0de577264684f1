use Rattle.std.proofs.Common.{◌∙◌, ◌++◌, ap, subst, refl, length}
use Rattle.std.specs.Prelude.{◌==◌}
use Rattle.armus_base.specs.DeadLists.{IsDeadList}
use Rattle.armus_base.specs.Deadlocks.{IsDeadBy}
use Rattle.adaptive.specs.calls.Choice.{IsAnalysis}
use Rattle.report.specs.Counts.{counts_of}
use Rattle.report.specs.Lines.{counts_line, task_lines, graph_line}
use Rattle.report.specs.inside.Appending.{AppendsCycle}
use Rattle.report.specs.Standings.{AreStandings}
use Rattle.report.specs.inside.Merging.{IsIn}
use Rattle.report.proofs.DeadTasks.{dead_in, four_pieces, some_dead}
use Rattle.report.proofs.Passing.{standings_same}
use Rattle.report.proofs.reports.report_of.Goals as goal

pub returns-clause-text : goal.returns-clause-text
returns-clause-text c =
    let blocked = c.args.end.now.blocked in
    let found = c.in_ok-analysis.analysis in
    let all = c.in_ok-standings.standings.items in
    let h : IsAnalysis blocked c.args.wanted found = subst (λ ss. IsAnalysis ss c.args.wanted found) c.as_slice-blocked.ensures.items c.in_ok-analysis.ensures in
    let listed : AreStandings (IsIn found.dead) c.args.end.now.ends all =
    subst (λ ts. AreStandings (IsIn ts) c.args.end.now.ends all) c.as_slice-dead.ensures.items
    (subst (λ es. AreStandings (IsIn c.as_slice-dead.result.now) es all) c.as_slice.ensures.items c.in_ok-standings.ensures) in
    let cycle : AppendsCycle blocked c.put_tasks.new.out.items c.put_found_cycle.new.out.items =
    subst (λ ss. AppendsCycle ss c.put_tasks.new.out.items c.put_found_cycle.new.out.items) c.as_slice-blocked.ensures.items c.in_ok-put_found_cycle.ensures in
    record {
      standings = all;
      cycle_text = cycle.0;
      graph_text = graph_line found.used found.edges;
      stand = standings_same (IsIn found.dead) (IsDeadBy blocked) (dead_in blocked found.dead h.dead) c.args.end.now.ends all listed;
      cycle = cycle.1;
      graph = (found.used, found.edges, h.used, h.edges, refl);
      lines =
          c.from_vec.ensures.items
          ∙ four_pieces (counts_line (counts_of all)) (task_lines all) cycle.0 (graph_line found.used found.edges) c.put_counts.new.out.items
          c.put_tasks.new.out.items c.put_found_cycle.new.out.items c.put_graph.new.out.items
          (c.in_ok-put_counts.ensures ∙ ap (λ o. o ++ counts_line c.counts_of.result) c.new-out.ensures.items
          ∙ ap (λ k. counts_line k) (c.counts_of.ensures ∙ ap counts_of c.deref.ensures.value))
          (c.in_ok-put_tasks.ensures ∙ ap (λ xs. c.put_counts.new.out.items ++ task_lines xs) c.deref-2.ensures.value)
          cycle.2
          c.in_ok-put_graph.ensures;
    }

pub returns-clause-dead : goal.returns-clause-dead
returns-clause-dead c =
    let dead = c.in_ok-analysis.analysis.dead in
    let h : IsDeadList c.args.end.now.blocked dead = subst (λ ss. IsDeadList ss dead) c.as_slice-blocked.ensures.items c.in_ok-analysis.ensures.dead in
    some_dead c.args.end.now.blocked dead c.is_empty.result h (c.is_empty.ensures ∙ ap (λ ts. length ts == 0) c.as_slice-dead.ensures.items)
