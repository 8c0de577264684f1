use Rattle.std.proofs.Common.{refl, sym, ap, ◌∙◌, subst, Some, None, length, List}
use Rattle.armus_base.specs.declared.status.Member.{Member}
use Rattle.sites.specs.calls.Rows.{HasNumbers}
use Rattle.sites.specs.inside.Snapping.{FindsStatus}
use Rattle.sites.proofs.Fields.{some_is}
use Rattle.sites.proofs.snapping.load_status.Goals as goal

pub returns-in_default-clause-status : goal.returns-in_default-clause-status
returns-in_default-clause-status c =
    subst (λ o. FindsStatus (length c.args.board.now.plan.makers) c.args.t.0 o None c.args.view.now c.args.view.now) (sym c.in_default.is)
    (record { phases = λ p. None; loads = refl; status_is = refl; numbers = λ s e. absurd cc })

pub returns-clause-status : goal.returns-clause-status
returns-clause-status c =
    let row = c.in_ok-phases.ensures.row in
    let made = c.status_of.ensures.status ∙ ap (λ (ps : List Member). record { t = c.args.t; event = c.in-Some.event; phases = ps }) row.listed in
    subst (λ o. FindsStatus (length c.args.board.now.plan.makers) c.args.t.0 o (Some c.status_of.result) c.args.view.now c.load_row.new.view) (sym c.in-Some.is)
    (record {
      phases = row.phases;
      loads = row.loads;
      status_is = ap Some made;
      numbers = λ s e. subst HasNumbers (some_is c.status_of.result s e) c.status_of.ensures.numbers;
    })
