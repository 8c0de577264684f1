use Rattle.std.proofs.Common.{◌∙◌, ◌++◌, ap, subst, sym}
use Rattle.armus_base.specs.DeadLists.{IsDeadList}
use Rattle.armus_base.specs.Deadlocks.{IsDeadBy}
use Rattle.report.specs.Counts.{counts_of}
use Rattle.report.specs.Lines.{counts_line}
use Rattle.report.specs.Standings.{AreStandings}
use Rattle.report.specs.inside.Merging.{IsIn}
use Rattle.report.proofs.DeadTasks.{dead_in}
use Rattle.report.proofs.Passing.{standings_same}
use Rattle.report.proofs.outline.outline_of.Goals as goal

pub returns : goal.returns
returns c =
    let blocked = c.args.end.now.blocked in
    let dead = c.in_ok-found.found in
    let all = c.in_ok-standings.standings.items in
    let h : IsDeadList blocked dead = subst (λ ss. IsDeadList ss dead) c.as_slice-blocked.ensures.items c.in_ok-found.ensures in
    let listed : AreStandings (IsIn dead) c.args.end.now.ends all =
    subst (λ ts. AreStandings (IsIn ts) c.args.end.now.ends all) c.as_slice-dead.ensures.items
    (subst (λ es. AreStandings (IsIn c.as_slice-dead.result.now) es all) c.as_slice.ensures.items c.in_ok-standings.ensures) in
    record {
      stand = subst (λ xs. AreStandings (IsDeadBy blocked) c.args.end.now.ends xs) (sym c.from_vec.ensures.items)
          (standings_same (IsIn dead) (IsDeadBy blocked) (dead_in blocked dead h) c.args.end.now.ends all listed);
      counts =
          c.from_vec-2.ensures.items ∙ c.in_ok-put_counts.ensures ∙ ap (λ o. o ++ counts_line c.counts_of.result) c.new-counts.ensures.items
          ∙ ap (λ k. counts_line k) (c.counts_of.ensures ∙ ap counts_of (c.deref.ensures.value ∙ sym c.from_vec.ensures.items));
    }
