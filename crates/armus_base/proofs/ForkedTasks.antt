-- Forked tasks are tasks of the plan.
use Rattle.std.proofs.Common.{◌≡◌, ℕ, ◌<◌, true, List, [], ◌∷◌, length, arith, sym, subst, inl, inr}
use Rattle.std.proofs.lemmas.Bool.{eqb-true}
use Rattle.armus_base.specs.Plans.{Action, Advances, Blocks, Drops, Forks, Makes, Passes, Plan, Refuses, Registers}
use Rattle.armus_base.specs.Runs.{IsLegalRun, state_after}
use Rattle.armus_base.specs.States.{IsLegal, State, Step, after}
use Rattle.armus_base.proofs.Codes.{child_within}
use Rattle.armus_base.proofs.Steps.{updated_is}

forked_after :
    (plan : Plan) (s : State) (u : ℕ) (x : Action) → IsLegal plan s u x → ((t : ℕ) → s.forked t ≡ true → t < length plan.parents) →
    (t : ℕ) → (after s u x).forked t ≡ true → t < length plan.parents
forked_after plan s u (Makes q) legal before t f = before t f
forked_after plan s u (Registers c q) legal before t f = before t f
forked_after plan s u (Forks c) legal before t f =
    elim (updated_is s.forked c t true true f) [
      | inl w ↦ subst (λ v. v < length plan.parents) (sym w.0) (child_within plan u c legal.1)
      | inr w ↦ before t w.1
    ]
forked_after plan s u (Advances q) legal before t f = before t f
forked_after plan s u (Drops q) legal before t f = before t f
forked_after plan s u (Blocks q) legal before t f = before t f
forked_after plan s u (Passes q) legal before t f = before t f
forked_after plan s u (Refuses q) legal before t f = before t f

-- who is forked is a task of the plan
pub forked_within :
    (plan : Plan) → 0 < length plan.parents → (h : List Step) → IsLegalRun plan h → (t : ℕ) → (state_after h).forked t ≡ true → t < length plan.parents
forked_within plan some [] run t f = (let zeroth = eqb-true t 0 f in omega arith)
forked_within plan some (e ∷ h) run t f = forked_after plan (state_after h) e.task e.action run.1.legal (forked_within plan some h run.0) t f
