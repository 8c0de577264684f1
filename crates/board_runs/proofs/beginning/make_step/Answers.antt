use Rattle.std.proofs.Common.{[], ◌∷◌, sym, subst, append-nil}
use Rattle.board.specs.inside.Walking.{begins}
use Rattle.board_runs.specs.calls.Turns.{AreChildSeats, tasks_forked, no_child}
use Rattle.board_runs.proofs.beginning.make_step.Goals as goal

pub returns-in-Make-clause-children : goal.returns-in-Make-clause-children
returns-in-Make-clause-children c =
    ([], sym (append-nil c.args.children.now.items), subst (λ o. AreChildSeats c.args.board.now (tasks_forked (begins o ∷ [])) []) (sym c.in-Make.is) no_child)

pub returns-in-Reg-clause-children : goal.returns-in-Reg-clause-children
returns-in-Reg-clause-children c =
    ([], sym (append-nil c.args.children.now.items), subst (λ o. AreChildSeats c.args.board.now (tasks_forked (begins o ∷ [])) []) (sym c.in-Reg.is) no_child)

pub returns-in-Adv-clause-children : goal.returns-in-Adv-clause-children
returns-in-Adv-clause-children c =
    ([], sym (append-nil c.args.children.now.items), subst (λ o. AreChildSeats c.args.board.now (tasks_forked (begins o ∷ [])) []) (sym c.in-Adv.is) no_child)

pub returns-in-Drop-clause-children : goal.returns-in-Drop-clause-children
returns-in-Drop-clause-children c =
    ([], sym (append-nil c.args.children.now.items), subst (λ o. AreChildSeats c.args.board.now (tasks_forked (begins o ∷ [])) []) (sym c.in-Drop.is) no_child)

pub returns-in-Await-clause-children : goal.returns-in-Await-clause-children
returns-in-Await-clause-children c =
    ([], sym (append-nil c.args.children.now.items), subst (λ o. AreChildSeats c.args.board.now (tasks_forked (begins o ∷ [])) []) (sym c.in-Await.is) no_child)
