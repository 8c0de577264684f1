use Rattle.std.proofs.Common.{◌≡◌, ◌∙◌, [], ◌∷◌, ap, arith, subst, sym, length}
use Rattle.armus_base.specs.Places.{members_below}
use Rattle.armus_base.specs.Plans.{Blocks, Plan}
use Rattle.board.specs.calls.Seats.{IsSeat, Known, aim_at}
use Rattle.board.specs.calls.Steps.{own_phase}
use Rattle.board.specs.calls.Views.{avoids, next_action}
use Rattle.avoider.specs.declared.decision.Decision.{Decision}
use Rattle.avoider.specs.calls.OnBoard.{IsDecidedOnBoard}
use Rattle.board_runs.specs.calls.Turns.{EndsTurn, Goes}
use Rattle.board_runs.specs.inside.Attempts.{IsRefusedAt}
use Rattle.board_runs.proofs.Attempting.{ends_locked_out, goes_locked_out, goes_published, goes_refused, loads_published, loads_refused}
use Rattle.board_runs.proofs.beginning.decide_with.Goals.{in-Published, in-Refused}
use Rattle.board_runs.proofs.beginning.decide_with.Goals as goal

pub try_take-requires-clause-next : goal.try_take-requires-clause-next
try_take-requires-clause-next c = (aim_at c.args.p.0 c.args.off, ap (λ (k : Known). next_action k.view) c.memberships-phasers.ensures.seat ∙ c.requires.ready.next)

pub returns-in-Err-clause-attempt : goal.returns-in-Err-clause-attempt
returns-in-Err-clause-attempt c =
    let same = c.memberships-phasers.ensures.seat in
    let own = ap (λ (k : Known). k.view.own) same ∙ c.id.ensures.task in
    let seat = subst IsSeat (sym same) c.id.ensures.seat in
    let avoiding = ap (λ (k : Known). avoids k.view.mode) same ∙ ap avoids c.requires.ready.made.mode ∙ c.requires.ready.avoids in
    let next = ap (λ (k : Known). next_action k.view) same ∙ c.requires.ready.next in
    subst (λ (k : Known). Goes [] k c.try_take.new.seat × EndsTurn k c.try_take.new.seat) same (
      goes_locked_out c.in-Err.field-0.holder.0 c.memberships-phasers.new.seat c.try_take.new.seat c.id.result.0 own seat avoiding c.in-Err.ensures.busy,
      ends_locked_out c.in-Err.field-0.holder.0 c.memberships-phasers.new.seat c.try_take.new.seat
          c.id.result.0 own seat avoiding c.in-Err.ensures.busy (aim_at c.args.p.0 c.args.off) next,
    )

pub returns-clause-attempt : goal.returns-clause-attempt
returns-clause-attempt c =
    let first = c.memberships-phasers.new.seat in
    let now = c.decide.new.seat in
    let same = c.memberships-phasers.ensures.seat in
    let own = ap (λ (k : Known). k.view.own) same ∙ c.id.ensures.task in
    let free = ap (λ (k : Known). k.view.holds) same ∙ c.requires.ready.unlocked in
    let next = ap (λ (k : Known). next_action k.view) same ∙ c.requires.ready.next in
    let told : (d : Decision) → c.in_ok-decide.field-0 ≡ d → IsDecidedOnBoard c.decide.new.cells.statuses (aim_at c.args.p.0 c.args.off) c.try_take.new.seat now d =
    λ d is. subst (λ e. IsDecidedOnBoard c.decide.new.cells.statuses (aim_at c.args.p.0 c.args.off) c.try_take.new.seat now e) is c.in_ok-decide.ensures.decision in
    elim c.match-branch-2.branch [
      | in-Published w ↦
          rw w.result-is
          (subst (λ (k : Known). Goes (Blocks (aim_at c.args.p.0 c.args.off) ∷ []) k now) same
          (goes_published first c.try_take.new.seat now c.id.result.0 (aim_at c.args.p.0 c.args.off) own free next c.in-Ok.ensures.taken _ _ (told _ w.in-Published.is)))
      | in-Refused w ↦
          rw w.result-is
          (subst (λ (k : Known). IsRefusedAt (aim_at c.args.p.0 c.args.off) c.memberships-phasers.result k now) same
          (goes_refused first c.try_take.new.seat now c.id.result.0 (aim_at c.args.p.0 c.args.off)
          own free next c.in-Ok.ensures.taken _ _ (told _ w.in-Refused.is) c.memberships-phasers.result
          (c.memberships-phasers.ensures.counted ∙ ap (λ (q : Plan). members_below (own_phase c.args.seat.now.view) (length q.makers)) (sym c.requires.ready.made.plan)
          ∙ ap (λ (k : Known). members_below (own_phase k.view) (length k.view.plan.makers)) (sym same))))
    ]

pub returns-in-Err-clause-loads : goal.returns-in-Err-clause-loads
returns-in-Err-clause-loads c =
    (let same = ap (λ (k : Known). k.view.loads) c.memberships-phasers.ensures.seat in let one = c.in-Err.ensures.busy.meets.loads in omega arith)

pub returns-clause-loads : goal.returns-clause-loads
returns-clause-loads c =
    let first = c.memberships-phasers.new.seat in
    let now = c.decide.new.seat in
    let same = c.memberships-phasers.ensures.seat in
    let own = ap (λ (k : Known). k.view.own) same ∙ c.id.ensures.task in
    let free = ap (λ (k : Known). k.view.holds) same ∙ c.requires.ready.unlocked in
    let next = ap (λ (k : Known). next_action k.view) same ∙ c.requires.ready.next in
    let loads = ap (λ (k : Known). k.view.loads) same in
    let tasks = ap (λ (k : Known). length k.view.plan.parents) same ∙ ap (λ (q : Plan). length q.parents) c.requires.ready.made.plan in
    let told : (d : Decision) → c.in_ok-decide.field-0 ≡ d → IsDecidedOnBoard c.decide.new.cells.statuses (aim_at c.args.p.0 c.args.off) c.try_take.new.seat now d =
    λ d is. subst (λ e. IsDecidedOnBoard c.decide.new.cells.statuses (aim_at c.args.p.0 c.args.off) c.try_take.new.seat now e) is c.in_ok-decide.ensures.decision in
    elim c.match-branch-2.branch [
      | in-Published w ↦
          rw w.result-is
          (let l = loads_published first c.try_take.new.seat now c.id.result.0 (aim_at c.args.p.0 c.args.off) own free next c.in-Ok.ensures.taken _ _ (told _ w.in-Published.is) in omega arith)
      | in-Refused w ↦
          rw w.result-is
          (let l = loads_refused first c.try_take.new.seat now c.id.result.0 (aim_at c.args.p.0 c.args.off) own free next c.in-Ok.ensures.taken _ _ (told _ w.in-Refused.is) in omega arith)
    ]
