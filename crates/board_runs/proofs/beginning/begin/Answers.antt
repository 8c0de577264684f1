use Rattle.std.proofs.Common.{[], ◌∷◌, Result, Ok, Err, OnOk, sym, subst, append-nil}
use Rattle.board.specs.inside.Walking.{begins}
use Rattle.board_runs.specs.calls.Turns.{AreChildSeats, tasks_forked, no_child}
use Rattle.board_runs.proofs.Goings.{goes_step}
use Rattle.board_runs.proofs.Halting.{no_refusal}
use Rattle.board_runs.proofs.Onward.{goes_begins}
use Rattle.board_runs.proofs.beginning.begin.Goals as goal

on_ok : {A B : Type 0} {P : Type 0} (r : Result A B) → P → OnOk r P
on_ok (Ok x) p = p
on_ok (Err e) p = tt

pub returns-in-Some-clause-children : goal.returns-in-Some-clause-children
returns-in-Some-clause-children c =
    on_ok c.try_to_decide.result
    ([], sym (append-nil c.args.children.now.items), subst (λ o. AreChildSeats c.args.board.now (tasks_forked (begins o ∷ [])) []) (sym c.in-Some.ensures.awaits.0) no_child)

pub returns-in_ok-make_step-in-None-clause-begins : goal.returns-in_ok-make_step-in-None-clause-begins
returns-in_ok-make_step-in-None-clause-begins c =
    goes_begins c.args.op c.args.seat.now c.make_step.new.seat (goes_step c.args.seat.now c.make_step.new.seat (begins c.args.op) c.requires.ready.next
    (no_refusal c.args.op) c.in_ok-make_step-in-None.ensures.step)
