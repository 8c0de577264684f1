use Rattle.std.proofs.Common.{◌∙◌, ap, sym}
use Rattle.monitor_laws.specs.States.{is_live_task}
use Rattle.monitor_search.proofs.NumberSearch.{none_passes_numbered, one_passes_numbered}
use Rattle.monitor_search.proofs.leaving.lives_with_number.Goals as goal

pub returns-in-None-clause-lives : goal.returns-in-None-clause-lives
returns-in-None-clause-lives c = none_passes_numbered (λ u. is_live_task u.condition) c.args.state.now.list c.args.k c.in-None.ensures.none

pub returns-in-Some-clause-lives : goal.returns-in-Some-clause-lives
returns-in-Some-clause-lives c =
    c.is_live_task.ensures ∙ ap is_live_task c.condition.ensures
    ∙ one_passes_numbered (λ u. is_live_task u.condition) c.args.state.now.list c.args.k c.in-Some.u.now c.in-Some.ensures.listed c.in-Some.ensures.number c.in-Some.ensures.one

pub returns-in-Some-clause-has : goal.returns-in-Some-clause-has
returns-in-Some-clause-has c = λ on. (c.in-Some.u.now, c.in-Some.ensures.listed, c.in-Some.ensures.number, sym (c.is_live_task.ensures ∙ ap is_live_task c.condition.ensures) ∙ on)
