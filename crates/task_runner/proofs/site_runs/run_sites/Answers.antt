use Rattle.std.proofs.Common.{◌≡◌, ◌∙◌, None, All, ap, rules, subst}
use Rattle.armus_base.specs.Plans.{Plan}
use Rattle.armus_base.specs.calls.Seats.{SeenBy}
use Rattle.board.specs.calls.Seats.{IsNewSeat, Known}
use Rattle.board.specs.calls.Views.{seen}
use Rattle.sites.specs.calls.Parts.{HoldParts, PutsParts}
use Rattle.task_runner.specs.inside.SiteRounds.{IsWholeEnd}
use Rattle.task_runner.proofs.SitesWatched.{final_held, rows_of_rounds, rows_put, watching_first}
use Rattle.task_runner.proofs.site_runs.run_sites.Goals.{In_ok-end}
use Rattle.task_runner.proofs.site_runs.run_sites.Goals as goal

-- the end is that of the plan
whole : (g : _) (c : In_ok-end g) → IsWholeEnd c.args.plan.now c.in_ok-end.end c.in_ok-end.statuses
whole g c =
    let same : c.go.new.self.plan.now ≡ c.args.plan.now = search rules in
    subst (λ (q : Plan). IsWholeEnd q c.in_ok-end.end c.in_ok-end.statuses) same c.in_ok-end.ensures.end

pub go-requires-clause-fits : goal.go-requires-clause-fits
go-requires-clause-fits g c κs within =
    let first = c.in_ok-board.ensures.viewer in
    let views = c.in_ok-views.views.items in
    watching_first c.in_ok-board.board c.args.sites views (g.K.Keeper.rows c.args.keeper.now) c.requires.sites.0 c.requires.sites.1
    (subst (λ (s : SeenBy). All (IsNewSeat c.in_ok-board.board None s) views) first.seen_is c.in_ok-views.ensures.new) c.in_ok-views.ensures.count c.requires.empty

pub end_of_board-requires-clause-unknown : goal.end_of_board-requires-clause-unknown
end_of_board-requires-clause-unknown g c κs within = λ u.
    ap (λ (k : Known). (seen k.view).exact u) c.in_ok-views.ensures.same ∙ ap (λ (s : SeenBy). s.exact u) c.in_ok-board.ensures.viewer.seen_is

pub returns-in_err-go-clause-rows : goal.returns-in_err-go-clause-rows
returns-in_err-go-clause-rows g c =
    rows_of_rounds c.in_ok-board.board c.args.plan.now c.args.sites c.in_ok-board.view c.go.new.beside.views.items (g.K.Keeper.rows c.args.keeper.now)
    (g.K.Keeper.rows c.go.new.out) c.in_ok-board.ensures.board.0 c.in_ok-board.ensures.board.1 c.in_ok-board.ensures.viewer c.requires.empty
    c.go.ensures.passes.0

pub returns-in_err-end-clause-rows : goal.returns-in_err-end-clause-rows
returns-in_err-end-clause-rows g c =
    rows_of_rounds c.in_ok-board.board c.args.plan.now c.args.sites c.in_ok-board.view c.go.new.beside.views.items (g.K.Keeper.rows c.args.keeper.now)
    (g.K.Keeper.rows c.go.new.out) c.in_ok-board.ensures.board.0 c.in_ok-board.ensures.board.1 c.in_ok-board.ensures.viewer c.requires.empty
    c.go.ensures.passes.0

pub returns-in_err-put_final-clause-rows : goal.returns-in_err-put_final-clause-rows
returns-in_err-put_final-clause-rows g c =
    let mid = g.K.Keeper.rows c.go.new.out in
    let new = g.K.Keeper.rows c.put_final.new.keeper in
    rows_put c.args.plan.now c.args.sites c.in_ok-end.end c.in_ok-end.statuses mid new
    (rows_of_rounds c.in_ok-board.board c.args.plan.now c.args.sites c.in_ok-board.view c.go.new.beside.views.items (g.K.Keeper.rows c.args.keeper.now) mid
    c.in_ok-board.ensures.board.0 c.in_ok-board.ensures.board.1 c.in_ok-board.ensures.viewer c.requires.empty c.go.ensures.passes.0)
    (whole g (goal.at.returns-in_err-put_final-clause-rows g c).In_ok-end) (subst (λ ss. PutsParts c.args.sites ss mid new) c.as_slice.ensures.items c.put_final.ensures.rows)

pub returns-clause-parts : goal.returns-clause-parts
returns-clause-parts g c =
    let new = g.K.Keeper.rows c.put_final.new.keeper in
    final_held c.args.plan.now c.args.sites new c.in_ok-end.end c.in_ok-end.statuses (whole g (goal.at.returns-clause-parts g c).In_ok-end)
    (subst (HoldParts c.args.sites new) c.as_slice.ensures.items c.in_ok-put_final.ensures.parts)

pub returns-clause-rows : goal.returns-clause-rows
returns-clause-rows g c =
    let mid = g.K.Keeper.rows c.go.new.out in
    let new = g.K.Keeper.rows c.put_final.new.keeper in
    rows_put c.args.plan.now c.args.sites c.in_ok-end.end c.in_ok-end.statuses mid new
    (rows_of_rounds c.in_ok-board.board c.args.plan.now c.args.sites c.in_ok-board.view c.go.new.beside.views.items (g.K.Keeper.rows c.args.keeper.now) mid
    c.in_ok-board.ensures.board.0 c.in_ok-board.ensures.board.1 c.in_ok-board.ensures.viewer c.requires.empty c.go.ensures.passes.0)
    (whole g (goal.at.returns-clause-rows g c).In_ok-end) (subst (λ ss. PutsParts c.args.sites ss mid new) c.as_slice.ensures.items c.put_final.ensures.rows)
