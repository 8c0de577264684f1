-- Before the first visit, and the plan at the end.
use Rattle.std.proofs.Common.{◌≡◌, ℕ, zero, suc, ◌<◌, ◌≤◌, ◌⊎◌, false, inl, inr, List, [], ◌∷◌, length, Ok, Err, Result, Some, None, arith, sym, ◌∙◌, ap, subst, refl}
use Rattle.std.specs.Prelude.{slice_index_or}
use Rattle.std.proofs.lemmas.Bool.{cases_lt}
use Rattle.std.proofs.lemmas.List.{get_or_past}
use Rattle.armus_base.specs.Limits.{max_tasks}
use Rattle.armus_base.specs.Plans.{Plan}
use Rattle.pl_syntax.specs.declared.tree.Program.{Program}
use Rattle.pl_syntax.specs.Tree.{Tree}
use Rattle.pl_plan.specs.declared.step.FlatStep.{FlatStep}
use Rattle.pl_plan.specs.declared.fault.PlanEnd.{PlanEnd}
use Rattle.pl_plan.specs.declared.fault.PlanEnd.TheVariants as ends
use Rattle.pl_plan.specs.inside.Steps.{IsSpelled}
use Rattle.pl_plan.specs.inside.Checker.{Checker, CheckerStart, Counts}
use Rattle.pl_plan.specs.inside.CheckerSteps.{thing_of}
use Rattle.pl_plan.specs.inside.Opening.{IsOpeningChecker}
use Rattle.pl_plan.specs.calls.Forks.{GivesUnfolded}
use Rattle.pl_plan.specs.calls.Planning.{GivesOutcome}
use Rattle.pl_plan.specs.declared.planning.Unfolded.{Unfolded}
use Rattle.pl_plan.specs.Unfolding.{UnfoldingState, Start, ◌>>=◌, opening_state, unfold_tasks, plan_of, with_pieces}
use Rattle.pl_plan.specs.inside.Visited.{GivesVisited}
use Rattle.pl_plan.specs.inside.Shows.{ShowsState, MaybeStartShows, StartShows, IsNumbering, WhereUnfolded}

pub opens : (spelling : ℕ → List ℕ) (steps : List FlatStep) (names : ℕ) (k : Checker) (tree : Tree) → IsOpeningChecker steps names k → IsNumbering names spelling →
    IsSpelled names spelling steps 0 tree (length steps) → ShowsState spelling k (opening_state tree)
opens spelling steps names k tree o distinct spelled = record {
  distinct = subst (λ n. IsNumbering n spelling) (sym o.bindings.slots_many) distinct;
  plan = record { parents = sym o.parents; makers = sym o.makers; codes = sym o.codes; ops = ap (λ (c : Counts). c.ops) (sym o.counts) };
  starts_many = ap (λ xs. length xs) (sym o.starts);
  starts = λ c. subst (λ xs. MaybeStartShows spelling k.bindings.slots k.steps (slice_index_or (Some start ∷ []) c None) (slice_index_or xs c None)) (sym o.starts)
      (by c (cases_lt c 1));
  members = λ v q. nobody v q ∙ ap (λ rows. slice_index_or (slice_index_or rows v []) q false) (sym o.members);
  named = λ x lt. ap thing_of (sym (o.bindings.things (slice_index_or k.bindings.slots x 0)));
  visits = ap (λ (c : Counts). c.visits) (sym o.counts);
}
  where
    nobody : (v q : ℕ) → false ≡ slice_index_or (slice_index_or ([] ∷ []) v []) q false
    nobody zero q = refl
    nobody (suc v) q = refl

    start : Start
    start = record { body = tree; first = 1; names = λ _. None }

    kept : CheckerStart
    kept = record { first = 0; after = length steps; things = k.bindings.things }

    first_ : StartShows spelling k.bindings.slots k.steps start kept
    first_ = record {
      first = refl;
      spelled = subst (λ n. IsSpelled n spelling k.steps 0 tree (length steps)) (sym o.bindings.slots_many)
          (subst (λ z. IsSpelled names spelling z 0 tree (length steps)) (sym o.steps_are) spelled);
      named = λ x lt. ap thing_of (sym (o.bindings.things (slice_index_or k.bindings.slots x 0)));
    }

    by : (c : ℕ) → (c < 1) ⊎ (1 ≤ c) → MaybeStartShows spelling k.bindings.slots k.steps (slice_index_or (Some start ∷ []) c None) (slice_index_or (Some kept ∷ []) c None)
    by c (inl lt) = (let e : c ≡ 0 = omega arith in subst (λ i. MaybeStartShows spelling k.bindings.slots k.steps (slice_index_or (Some start ∷ []) i None)
        (slice_index_or (Some kept ∷ []) i None)) (sym e) first_)
    by c (inr le) = subst (λ a. MaybeStartShows spelling k.bindings.slots k.steps a (slice_index_or (Some kept ∷ []) c None))
        (sym (get_or_past (Some start ∷ []) c None le))
        (subst (MaybeStartShows spelling k.bindings.slots k.steps None) (sym (get_or_past (Some kept ∷ []) c None le)) tt)

pub plan_found : (program : Program) (s : UnfoldingState) (plan : Plan) → unfold_tasks program.two max_tasks 0 (opening_state program.body) ≡ Ok s →
    plan ≡ with_pieces s → plan_of program ≡ Ok plan
unfolding plan_of
plan_found program s plan e is = ap (λ o. o >>= λ s. Ok (with_pieces s)) e ∙ ap Ok (sym is)

pub plan_fault : (program : Program) (e : PlanEnd) (shows : UnfoldingState → Type 0) →
    WhereUnfolded {A = Unit {0}} (Err e) (unfold_tasks program.two max_tasks 0 (opening_state program.body)) shows → (r : Result Plan PlanEnd) → r ≡ Err e →
    GivesOutcome r (plan_of program)
unfolding plan_of
plan_fault program ends.NoMemory shows g r is = subst (λ z. GivesOutcome z (plan_of program)) (sym is) tt
plan_fault program (ends.Check f) shows g r is = subst (λ z. GivesOutcome z (plan_of program)) (sym is) (ap (λ o. o >>= λ s. Ok (with_pieces s)) g)

pub visited_fault : (program : Program) (e : PlanEnd) (shows : UnfoldingState → Type 0) →
    WhereUnfolded {A = Unit {0}} (Err e) (unfold_tasks program.two max_tasks 0 (opening_state program.body)) shows → (r : Result Checker PlanEnd) → r ≡ Err e →
    GivesVisited r program
unfolding plan_of
visited_fault program ends.NoMemory shows g r is = subst (λ z. GivesVisited z program) (sym is) tt
visited_fault program (ends.Check f) shows g r is = subst (λ z. GivesVisited z program) (sym is) (ap (λ o. o >>= λ s. Ok (with_pieces s)) g)

pub unfold_fault : (program : Program) (e : PlanEnd) → GivesVisited (Err e) program → (r : Result Unfolded PlanEnd) → r ≡ Err e → GivesUnfolded r program
unfold_fault program ends.NoMemory g r is = subst (λ z. GivesUnfolded z program) (sym is) tt
unfold_fault program (ends.Check f) g r is = subst (λ z. GivesUnfolded z program) (sym is) g
