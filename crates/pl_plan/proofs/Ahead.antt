-- What a turn of the walk's loop needs and gives.
use Rattle.std.proofs.Common.{◌≡◌, ℕ, suc, ◌+◌, ◌-◌, ◌<◌, ◌≤◌, Bool, List, length, Ok, Err, Result, arith, sym, ◌∙◌, ap, subst, refl}
use Rattle.pl_syntax.specs.Tree.{Tree}
use Rattle.pl_plan.specs.declared.step.NameId.{NameId}
use Rattle.pl_plan.specs.declared.step.FlatStep.{FlatStep}
use Rattle.pl_plan.specs.declared.step.FlatStep.TheVariants as a_step
use Rattle.pl_plan.specs.declared.fault.CheckFault.{CheckFault}
use Rattle.pl_plan.specs.declared.fault.PlanEnd.{PlanEnd}
use Rattle.pl_plan.specs.declared.fault.PlanEnd.TheVariants as ends
use Rattle.pl_plan.specs.inside.Steps.{step_at, IsSpelled, IsList}
use Rattle.pl_plan.specs.inside.Checker.{Checker, IsChecker, Keeps}
use Rattle.pl_plan.specs.inside.CheckerSteps.{checker_act, HasNames, checker_count, checker_fork, GivesChecker}
use Rattle.armus_base.specs.Pieces.{times}
use Rattle.pl_plan.specs.Unfolding.{UnfoldingState, Outcome, ◌>>=◌, visits_of, make_visits, count_visit}
use Rattle.pl_plan.specs.inside.Shows.{ShowsState, WhereUnfolded, FollowsFrom}
use Rattle.pl_plan.proofs.Simulating as simulating
use Rattle.pl_plan.proofs.Walks.{make_visits-append, On, Failed, on_through, on_failed, simulates_ok, simulates_err, IsPlain}
use Rattle.pl_plan.proofs.Turns.{turn, Turned}
use Rattle.pl_plan.proofs.Onward.{respell, count_keeps, count_fails, plain_on, plain_fails, plain_names, fork_on, fork_fails, fork_bounds, loop_on, loop_fails, loop_bounds, loop_list, on_same, failed_same}

end_follows : (from to t : ℕ) (old kk : Checker) (e : PlanEnd)
    (fails : (f : CheckFault) → e ≡ ends.Check f → Failed (length old.bindings.slots) to t old.steps from old f) (r : Result (Unit {0}) PlanEnd) → r ≡ Err e →
    FollowsFrom from to t old r kk
end_follows from to t old kk ends.NoMemory fails r is names s tree sp h = subst (λ z. WhereUnfolded z (make_visits t (visits_of (from + 1) tree) s) (ShowsState names kk)) (sym is) tt
end_follows from to t old kk (ends.Check f) fails r is names s tree sp h = subst
    (λ z. WhereUnfolded z (make_visits t (visits_of (from + 1) tree) s) (ShowsState names kk)) (sym is) (fails f refl names s tree sp h)

gave : (e : PlanEnd) (o : Outcome Checker) (k : Checker) (f : CheckFault) → GivesChecker {A = Unit {0}} (Err e) o k → e ≡ ends.Check f → o ≡ Err f
gave e o k f g is = subst (λ z. GivesChecker {A = Unit {0}} (Err z) o k) is g

went_err : (e : PlanEnd) (o : Outcome UnfoldingState) (shows : UnfoldingState → Type 0) (f : CheckFault) → WhereUnfolded {A = Unit {0}} (Err e) o shows → e ≡ ends.Check f → o ≡ Err f
went_err e o shows f g is = subst (λ z. WhereUnfolded {A = Unit {0}} (Err z) o shows) is g

module _ (from to t : ℕ) (old : Checker) (at : ℕ) (k : Checker) (old_runs : t < length old.parents) (inv : On
    (length old.bindings.slots) to t old.steps from old at k) (lt : at < to) where
  here_fits : IsChecker k
  here_fits = inv.keeps.fits

  run : t < length k.parents
  run = omega (arith, inv.keeps.more)

  list : IsList (length k.bindings.slots) k.steps at to
  list = (inv.list.0, inv.list.1, respell old k inv.list.0 at inv.list.1 to inv.keeps inv.list.2)

  next_on : (at' : ℕ) (k' : Checker) → On (length k.bindings.slots) to t k.steps at k at' k' → On (length old.bindings.slots) to t old.steps from old at' k'
  next_on at' k' h = on_through (length old.bindings.slots) to t old.steps from old at k at' k' inv
      (on_same (length k.bindings.slots) (length old.bindings.slots) to t k.steps old.steps at k at' k' inv.keeps.slots inv.keeps.steps h)

  failed_from : (f : CheckFault) → Failed (length k.bindings.slots) to t k.steps at k f → Failed (length old.bindings.slots) to t old.steps from old f
  failed_from f h = on_failed (length old.bindings.slots) to t old.steps from old at k f inv
      (failed_same (length k.bindings.slots) (length old.bindings.slots) to t k.steps old.steps at k f inv.keeps.slots inv.keeps.steps h)

  pub ahead_count_fails : (e : PlanEnd) (k1 kk : Checker) → GivesChecker {A = Unit {0}} (Err e) (checker_count (at + 1) k) k1 →
      (r : Result (Unit {0}) PlanEnd) → r ≡ Err e → FollowsFrom from to t old r kk
  ahead_count_fails e k1 kk g = end_follows from to t old kk e (λ f is. failed_from f (count_fails to t at k here_fits run lt list f (gave e (checker_count (at + 1) k) k1 f g is)))

  module _ (k1 : Checker) (visited : checker_count (at + 1) k ≡ Ok k1) where
    pub kept1 : Keeps k k1
    kept1 = count_keeps k k1 (at + 1) here_fits visited

    pub fits1 : IsChecker k1
    fits1 = kept1.fits

    pub run1 : t < length k1.parents
    run1 = omega (arith, kept1.more, run)

    pub steps1 : k1.steps ≡ old.steps
    steps1 = kept1.steps ∙ inv.keeps.steps

    pub ahead_names : (step : FlatStep) → step ≡ step_at k.steps at → IsPlain step → HasNames (length k1.bindings.slots) step
    ahead_names step is p = subst (HasNames (length k1.bindings.slots)) (sym is) (plain_names to t at k here_fits run lt list k1 visited (subst IsPlain is p))

    pub ahead_plain : (step : FlatStep) → step ≡ step_at k.steps at → IsPlain step → (k2 : Checker) → checker_act t (at + 1) step k1 ≡ Ok k2 →
        On (length old.bindings.slots) to t old.steps from old (at + 1) k2
    ahead_plain step is p k2 did = next_on (at + 1) k2
        (plain_on to t at k here_fits run lt list k1 visited (subst IsPlain is p) k2 (ap (λ z. checker_act t (at + 1) z k1) (sym is) ∙ did))

    pub ahead_plain_fails : (step : FlatStep) → step ≡ step_at k.steps at → IsPlain step → (e : PlanEnd) (k2 kk : Checker) →
        GivesChecker {A = Unit {0}} (Err e) (checker_act t (at + 1) step k1) k2 → (r : Result (Unit {0}) PlanEnd) → r ≡ Err e → FollowsFrom from to t old r kk
    ahead_plain_fails step is p e k2 kk g = end_follows from to t old kk e
        (λ f ef. failed_from f (plain_fails to t at k here_fits run lt list k1 visited (subst IsPlain is p) f
        (ap (λ z. checker_act t (at + 1) z k1) (sym is) ∙ gave e (checker_act t (at + 1) step k1) k2 f g ef)))

    module _ (x : NameId) (after : ℕ) (is : a_step.Fork x after ≡ step_at k.steps at) (whole : to ≤ length old.steps) where
      whole_k : to ≤ length k.steps
      whole_k = (let e = ap (λ z. length z) inv.keeps.steps in omega arith)

      pub ahead_bounds : (x.0 < length k1.bindings.slots) × (at < after) × (after ≤ to)
      ahead_bounds = fork_bounds to t at k here_fits run lt list k1 visited x after (sym is) whole_k

      pub ahead_fork : (k2 : Checker) → checker_fork t (at + 1) x.0 after k1 ≡ Ok k2 → On (length old.bindings.slots) to t old.steps from old after k2
      ahead_fork k2 did = next_on after k2 (fork_on to t at k here_fits run lt list k1 visited x after (sym is) whole_k k2 did)

      pub ahead_fork_fails : (e : PlanEnd) (k2 kk : Checker) → GivesChecker {A = Unit {0}} (Err e) (checker_fork t (at + 1) x.0 after k1) k2 →
          (r : Result (Unit {0}) PlanEnd) → r ≡ Err e → FollowsFrom from to t old r kk
      ahead_fork_fails e k2 kk g = end_follows from to t old kk e
          (λ f ef. failed_from f (fork_fails to t at k here_fits run lt list k1 visited x after (sym is) whole_k f
          (gave e (checker_fork t (at + 1) x.0 after k1) k2 f g ef)))

    module _ (i after : ℕ) (steady : Bool) (is : a_step.Loop i after steady ≡ step_at k.steps at) where
      pub ahead_loop_bounds : (at < after) × (after ≤ to)
      ahead_loop_bounds = loop_bounds to t at k here_fits run lt list k1 visited i after steady (sym is)

      pub ahead_loop_list : IsList (length k1.bindings.slots) k1.steps (at + 1) after
      ahead_loop_list = loop_list to t at k here_fits run lt list k1 visited i after steady (sym is)

      pub ahead_loop : (k2 : Checker) → Keeps k1 k2 →
          ((names : ℕ → List ℕ) (s : UnfoldingState) (tree : Tree) → IsSpelled (length k1.bindings.slots) names k1.steps (at + 1) tree after → ShowsState names k1 s →
          (s' : UnfoldingState) × (make_visits t (times i (turn at tree)) s ≡ Ok s') × ShowsState names k2 s') →
          On (length old.bindings.slots) to t old.steps from old after k2
      ahead_loop k2 keeps went = next_on after k2 (loop_on to t at k here_fits run lt list k1 visited i after steady (sym is) k2 keeps went)

      pub ahead_loop_fails : (e : PlanEnd) (k2 kk : Checker) →
          ((names : ℕ → List ℕ) (s : UnfoldingState) (tree : Tree) → IsSpelled (length k1.bindings.slots) names k1.steps (at + 1) tree after → ShowsState names k1 s →
          WhereUnfolded {A = Unit {0}} (Err e) (make_visits t (times i (turn at tree)) s) (ShowsState names k2)) →
          (r : Result (Unit {0}) PlanEnd) → r ≡ Err e → FollowsFrom from to t old r kk
      ahead_loop_fails e k2 kk went = end_follows from to t old kk e (λ f ef. failed_from f (loop_fails to t at k here_fits run lt list k1 visited i after steady (sym is) f
          (λ names s tree sp h. went_err e (make_visits t (times i (turn at tree)) s) (ShowsState names k2) f (went names s tree sp h) ef)))

-- ---- turns

abbrev pub TurnsGo : ℕ → ℕ → ℕ → ℕ → Checker → Result (Unit {0}) PlanEnd → Checker → Type 0
TurnsGo at after t i old r kk =
    (names : ℕ → List ℕ) (s : UnfoldingState) (tree : Tree) → IsSpelled (length old.bindings.slots) names old.steps (at + 1) tree after → ShowsState names old s →
    WhereUnfolded r (make_visits t (times i (turn at tree)) s) (ShowsState names kk)

turns_end : (at after t i : ℕ) (old kk : Checker) (e : PlanEnd) →
    ((f : CheckFault) → e ≡ ends.Check f → (names : ℕ → List ℕ) (s : UnfoldingState) (tree : Tree) →
    IsSpelled (length old.bindings.slots) names old.steps (at + 1) tree after → ShowsState names old s → make_visits t (times i (turn at tree)) s ≡ Err f) →
    (r : Result (Unit {0}) PlanEnd) → r ≡ Err e → TurnsGo at after t i old r kk
turns_end at after t i old kk ends.NoMemory fails r is names s tree sp h = subst (λ z. WhereUnfolded z (make_visits t (times i (turn at tree)) s) (ShowsState names kk)) (sym is) tt
turns_end at after t i old kk (ends.Check f) fails r is names s tree sp h = subst
    (λ z. WhereUnfolded z (make_visits t (times i (turn at tree)) s) (ShowsState names kk)) (sym is) (fails f refl names s tree sp h)

module _ (at after t i : ℕ) (old : Checker) (j : ℕ) (k : Checker) (inv : Turned at after t i old j k) where
  pub turns_done : i ≤ j → (names : ℕ → List ℕ) (s : UnfoldingState) (tree : Tree) → IsSpelled (length old.bindings.slots) names old.steps (at + 1) tree after →
      ShowsState names old s → (s' : UnfoldingState) × (make_visits t (times i (turn at tree)) s ≡ Ok s') × ShowsState names k s'
  unfolding make_visits
  turns_done le names s tree sp h =
      let l = inv.all names s tree sp h in
      let e : i - j ≡ 0 = omega arith in
      (l.state, sym l.same ∙ ap (λ m. make_visits t (times m (turn at tree)) l.state) e, l.shows)

  module _ (lt : j < i) where
    left_is : (tree : Tree) (s' : UnfoldingState) → make_visits t (times (i - j) (turn at tree))
        s' ≡ ((count_visit (at + 1) s' >>= λ z. Ok z) >>= λ z. make_visits t (visits_of (at + 1 + 1) tree) z >>= make_visits t
        (times (i - (j + 1)) (turn at tree)))
    unfolding make_visits
    left_is tree s' =
        let e : i - j ≡ suc (i - (j + 1)) = omega arith in
        ap (λ m. make_visits t (times m (turn at tree)) s') e
        ∙ ap (λ g. (count_visit (at + 1) s' >>= λ z. Ok z) >>= g) (λ p z. make_visits-append t (visits_of (at + 1 + 1) tree) (times (i - (j + 1)) (turn at tree)) z p)

    pub turn_count_fails : (e : PlanEnd) (k1 kk : Checker) → GivesChecker {A = Unit {0}} (Err e) (checker_count (at + 1) k) k1 →
        (r : Result (Unit {0}) PlanEnd) → r ≡ Err e → TurnsGo at after t i old r kk
    turn_count_fails e k1 kk g = turns_end at after t i old kk e (λ f ef names s tree sp h.
        let l = inv.all names s tree sp h in
        let c = simulates_err names (checker_count (at + 1) k) f (count_visit (at + 1) l.state) (gave e (checker_count (at + 1) k) k1 f g ef)
        (simulating.simulates_count names k l.state inv.keeps.fits l.shows (at + 1)) in
        sym l.same ∙ left_is tree l.state ∙ ap (λ o. (o >>= λ z. Ok z) >>= λ z. make_visits t (visits_of (at + 1 + 1) tree) z >>= make_visits t
        (times (i - (j + 1)) (turn at tree))) c)

    module _ (k1 : Checker) (visited : checker_count (at + 1) k ≡ Ok k1) where
      pub turn_kept : Keeps old k1
      turn_kept = simulating.keeps_through old k k1 inv.keeps (count_keeps k k1 (at + 1) inv.keeps.fits visited)

      after_count : (names : ℕ → List ℕ) (tree : Tree) (s' : UnfoldingState) → ShowsState names k s' →
          (s1 : UnfoldingState) × (make_visits t (times (i - j) (turn at tree))
          s' ≡ (make_visits t (visits_of (at + 1 + 1) tree) s1 >>= make_visits t (times (i - (j + 1)) (turn at tree)))) × ShowsState names k1 s1
      after_count names tree s' h =
          let c = simulates_ok names (checker_count (at + 1) k) k1 (count_visit (at + 1) s') visited (simulating.simulates_count names k s' inv.keeps.fits h (at + 1)) in (
            c.0,
            left_is tree s' ∙ ap (λ o. (o >>= λ z. Ok z) >>= λ z. make_visits t (visits_of (at + 1 + 1) tree) z >>= make_visits t
                (times (i - (j + 1)) (turn at tree))) c.1,
            c.2,
          )

      pub turn_on : (k2 : Checker) → Keeps k1 k2 →
          ((names : ℕ → List ℕ) (s : UnfoldingState) (tree : Tree) → IsSpelled (length k1.bindings.slots) names k1.steps (at + 1) tree after → ShowsState names k1 s →
          (s' : UnfoldingState) × (make_visits t (visits_of (at + 1 + 1) tree) s ≡ Ok s') × ShowsState names k2 s') →
          Turned at after t i old (j + 1) k2
      turn_on k2 keeps went = record {
        keeps = simulating.keeps_through old k1 k2 turn_kept keeps;
        all = λ names s tree sp h.
            let l = inv.all names s tree sp h in
            let a = after_count names tree l.state l.shows in
            let w = went names a.0 tree (respell old k1 names (at + 1) tree after turn_kept sp) a.2 in
            record { state = w.0; shows = w.2; same = sym (ap (λ o. o >>= make_visits t (times (i - (j + 1)) (turn at tree))) w.1) ∙ sym a.1 ∙ l.same };
      }

      pub turn_fails : (e : PlanEnd) (k2 kk : Checker) →
          ((names : ℕ → List ℕ) (s : UnfoldingState) (tree : Tree) → IsSpelled (length k1.bindings.slots) names k1.steps (at + 1) tree after → ShowsState names k1 s →
          WhereUnfolded {A = Unit {0}} (Err e) (make_visits t (visits_of (at + 1 + 1) tree) s) (ShowsState names k2)) →
          (r : Result (Unit {0}) PlanEnd) → r ≡ Err e → TurnsGo at after t i old r kk
      turn_fails e k2 kk went = turns_end at after t i old kk e (λ f ef names s tree sp h.
          let l = inv.all names s tree sp h in
          let a = after_count names tree l.state l.shows in
          let w = went_err e (make_visits t (visits_of (at + 1 + 1) tree) a.0) (ShowsState names k2) f
          (went names a.0 tree (respell old k1 names (at + 1) tree after turn_kept sp) a.2) ef in
          sym l.same ∙ a.1 ∙ ap (λ o. o >>= make_visits t (times (i - (j + 1)) (turn at tree))) w)

pub turn_spelled : (a b : Checker) (names : ℕ → List ℕ) (i : ℕ) (tree : Tree) (to : ℕ) → Keeps a b → IsSpelled (length a.bindings.slots) names a.steps i tree to →
    IsSpelled (length b.bindings.slots) names b.steps i tree to
turn_spelled = respell

pub plain_is : (step : FlatStep) → ((x : NameId) (a : ℕ) → step ≡ a_step.Fork x a → ⊥) → ((i a : ℕ) (steady : Bool) → step ≡ a_step.Loop i a steady → ⊥) → IsPlain step
plain_is (a_step.Fork x a) f l = f x a refl
plain_is (a_step.Loop i a steady) f l = l i a steady refl
plain_is (a_step.NewTask x) f l = tt
plain_is (a_step.NewPhaser x) f l = tt
plain_is (a_step.Reg x y) f l = tt
plain_is (a_step.Dereg x) f l = tt
plain_is (a_step.Adv x) f l = tt
plain_is (a_step.Await x off) f l = tt
plain_is a_step.Skip f l = tt
