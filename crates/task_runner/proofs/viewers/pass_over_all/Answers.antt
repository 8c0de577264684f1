use Rattle.std.proofs.Common.{◌≡◌, ◌++◌, ◌∙◌, drop, length, subst, sym, take}
use Rattle.std.proofs.lemmas.List.{take_at}
use Rattle.sites.specs.calls.Passes.{AreBacked, HaveLookedOn}
use Rattle.task_runner.specs.inside.SiteRounds.{AreWatching}
use Rattle.task_runner.proofs.SitesWatched.{watching_after}
use Rattle.task_runner.proofs.viewers.pass_over_all.Goals.{After-pass_over}
use Rattle.task_runner.proofs.viewers.pass_over_all.Goals as goal

-- after the pass, whether it failed or not, the viewers watch what the keeper holds then
watching :
    (g : _) (c : After-pass_over g) →
    AreWatching c.args.board.now (length (g.K.KeepsRows.kept c.args.keeper.now))
    (take c.args.views.now.len (c.pass_over.new.views ++ drop (length c.pass_over.new.views) c.args.views.now.items)) (g.K.KeepsRows.kept c.pass_over.new.keeper)
watching g c =
    let f = c.args.board.now in
    let items = c.args.views.now.items in
    let now = c.pass_over.new.views in
    let old = g.K.KeepsRows.kept c.args.keeper.now in
    let rows = g.K.KeepsRows.kept c.pass_over.new.keeper in
    let looked = subst (λ v. HaveLookedOn f v now) c.as_mut_slice.ensures.value c.pass_over.ensures.looked in
    let count : c.args.views.now.len ≡ length items = c.args.views.now.ok.0 in
    subst (λ v. AreWatching f (length old) v rows) (sym (take_at now (drop (length now) items) c.args.views.now.len (looked.count ∙ sym count)))
    (watching_after f (length old) items now old rows c.requires.watching looked c.pass_over.ensures.rows
    (λ b. c.pass_over.ensures.backed (subst (AreBacked f.plan old) (sym c.as_mut_slice.ensures.value) b)))

pub returns-in_err-pass_over-clause-watching : goal.returns-in_err-pass_over-clause-watching
returns-in_err-pass_over-clause-watching g c = watching g (goal.at.returns-in_err-pass_over-clause-watching g c).After-pass_over

pub returns-clause-watching : goal.returns-clause-watching
returns-clause-watching g c = watching g (goal.at.returns-clause-watching g c).After-pass_over
