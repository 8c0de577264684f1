-- One step of the walk.
use Rattle.std.proofs.Common.{◌≡◌, ℕ, ◌+◌, ◌<◌, ◌≤◌, Bool, List, ◌∷◌, ◌++◌, length, Ok, Err, arith, sym, ◌∙◌, ap, subst}
use Rattle.pl_syntax.specs.Tree.{Tree, done, plain, fork, loop, Plain, count}
use Rattle.pl_plan.specs.declared.step.NameId.{NameId}
use Rattle.pl_plan.specs.declared.step.FlatStep.{FlatStep}
use Rattle.pl_plan.specs.declared.step.FlatStep.TheVariants as a_step
use Rattle.pl_plan.specs.declared.fault.CheckFault.{CheckFault}
use Rattle.pl_plan.specs.inside.Steps.{IsStep, step_at, IsSpelled, IsList}
use Rattle.pl_plan.specs.inside.Checker.{Checker, IsChecker, Keeps}
use Rattle.pl_plan.specs.inside.CheckerSteps.{checker_act, HasNames, checker_count, checker_fork}
use Rattle.armus_base.specs.Pieces.{times}
use Rattle.pl_plan.specs.Unfolding.{UnfoldingState, ◌>>=◌, visit, a_fork, a_turn, visits_of, make_visits, count_visit, act, act_fork}
use Rattle.pl_plan.specs.inside.Shows.{ShowsState}
use Rattle.pl_plan.specs.inside.Simulates.{Simulates, KeepsAll}
use Rattle.pl_plan.proofs.Simulating as simulating
use Rattle.pl_plan.proofs.Spelled.{spelled_count}
use Rattle.pl_plan.proofs.Walks.{make_visits-append, simulates_acting, keeps_acting, names_of, On, Failed, simulates_ok, simulates_err, keeps_ok, IsPlain, plain_at, fork_at, loop_at, ForkAt, LoopAt}
use Rattle.pl_plan.proofs.Turns.{turn}

pub respell : (a b : Checker) (names : ℕ → List ℕ) (i : ℕ) (tree : Tree) (to : ℕ) → Keeps a b → IsSpelled (length a.bindings.slots) names a.steps i tree to →
    IsSpelled (length b.bindings.slots) names b.steps i tree to
respell a b names i tree to h e = subst (λ z. IsSpelled (length b.bindings.slots) names z i tree to) (sym h.steps) (subst
    (λ z. IsSpelled z names a.steps i tree to) (sym h.slots) e)

pub count_keeps : (k k1 : Checker) (n : ℕ) → IsChecker k → checker_count n k ≡ Ok k1 → Keeps k k1
count_keeps k k1 n f e = keeps_ok k (checker_count n k) k1 e (simulating.keeps_count k f n)

module _ (to t at : ℕ) (k : Checker) (f : IsChecker k) (run : t < length k.parents) (lt : at < to) (list : IsList (length k.bindings.slots) k.steps at to) where
  -- no further visit
  pub count_fails : (err : CheckFault) → checker_count (at + 1) k ≡ Err err → Failed (length k.bindings.slots) to t k.steps at k err
  unfolding make_visits
  count_fails err e names s tree sp h =
      let c = simulates_err names (checker_count (at + 1) k) err (count_visit (at + 1) s) e (simulating.simulates_count names k s f h (at + 1)) in
      first tree sp c
    where
      first : (u : Tree) → IsSpelled (length k.bindings.slots) names k.steps at u to → count_visit (at + 1) s ≡ Err err → make_visits t (visits_of (at + 1) u) s ≡ Err err
      first done sp' c = absurd (omega arith)
      first (plain q rest) sp' c = ap (λ o. (o >>= act t (at + 1) q) >>= make_visits t (visits_of (at + 1 + 1) rest)) c
      first (fork x body rest) sp' c = ap (λ o. (o >>= act_fork t (at + 1) x body) >>= make_visits t (visits_of (at + 1 + 1 + count body) rest)) c
      first (loop i body rest) sp' c = ap (λ o. (o >>= λ z. Ok z) >>= make_visits t
          (times i (visit (at + 1) a_turn ∷ visits_of (at + 1 + 1) body) ++ visits_of (at + 1 + 1 + count body) rest)) c

  module _ (k1 : Checker) (visited : checker_count (at + 1) k ≡ Ok k1) where
    k1_keeps : Keeps k k1
    k1_keeps = count_keeps k k1 (at + 1) f visited

    visited_state : (names : ℕ → List ℕ) (s : UnfoldingState) → ShowsState names k s → (s1 : UnfoldingState) × (count_visit (at + 1) s ≡ Ok s1) × ShowsState names k1 s1
    visited_state names s h = simulates_ok names (checker_count (at + 1) k) k1 (count_visit (at + 1) s) visited (simulating.simulates_count names k s f h (at + 1))

    runs : t < length k1.parents
    runs = omega (arith, k1_keeps.more)

    -- ---- statements without a body
    module _ (is : IsPlain (step_at k.steps at)) where
      pub plain_names : HasNames (length k1.bindings.slots) (step_at k.steps at)
      plain_names =
          let p = plain_at (length k.bindings.slots) list.0 k.steps at to list.1 list.2 lt is in
          subst (λ z. HasNames z (step_at k.steps at)) (sym k1_keeps.slots) (names_of (length k.bindings.slots) list.0 (step_at k.steps at) p.statement p.here)

      act_sim : (names : ℕ → List ℕ) (s1 : UnfoldingState) (c : Plain) → ShowsState names k1 s1 → IsStep (length k.bindings.slots) names (step_at k.steps at) c →
          Simulates names (checker_act t (at + 1) (step_at k.steps at) k1) (act t (at + 1) c s1)
      act_sim names s1 c h1 i = simulates_acting names k1 s1 k1_keeps.fits h1 t (at + 1) runs (step_at k.steps at) c
          (subst (λ z. IsStep z names (step_at k.steps at) c) (sym k1_keeps.slots) i)

      pub plain_on : (k2 : Checker) → checker_act t (at + 1) (step_at k.steps at) k1 ≡ Ok k2 → On (length k.bindings.slots) to t k.steps at k (at + 1) k2
      unfolding make_visits
      plain_on k2 did = record {
        within = omega arith;
        forward = omega arith;
        list = (let p = plain_at (length k.bindings.slots) list.0 k.steps at to list.1 list.2 lt is in (list.0, p.rest, p.rest_there));
        keeps = simulating.keeps_through k k1 k2 k1_keeps
            (keeps_ok k1 (checker_act t (at + 1) (step_at k.steps at) k1) k2 did (keeps_acting k1 k1_keeps.fits t (at + 1) (step_at k.steps at) plain_names));
        all = λ names s tree sp h.
            let p = plain_at (length k.bindings.slots) names k.steps at to tree sp lt is in
            let m = visited_state names s h in
            let a = simulates_ok names (checker_act t (at + 1) (step_at k.steps at) k1) k2 (act t (at + 1) p.statement m.0) did (act_sim names m.0 p.statement m.2 p.here) in
            let rest = make_visits t (visits_of (at + 1 + 1) p.rest) in
            record {
              rest = p.rest;
              state = a.0;
              spelled = p.rest_there;
              shows = a.2;
              same = sym (ap (λ u. make_visits t (visits_of (at + 1) u) s) p.tree_is ∙ ap (λ o. (o >>= act t (at + 1) p.statement) >>= rest) m.1 ∙ ap (λ o. o >>= rest) a.1);
            };
      }

      pub plain_fails : (err : CheckFault) → checker_act t (at + 1) (step_at k.steps at) k1 ≡ Err err → Failed (length k.bindings.slots) to t k.steps at k err
      unfolding make_visits
      plain_fails err did names s tree sp h =
          let p = plain_at (length k.bindings.slots) names k.steps at to tree sp lt is in
          let m = visited_state names s h in
          let a = simulates_err names (checker_act t (at + 1) (step_at k.steps at) k1) err (act t (at + 1) p.statement m.0) did (act_sim names m.0 p.statement m.2 p.here) in
          let rest = make_visits t (visits_of (at + 1 + 1) p.rest) in
          ap (λ u. make_visits t (visits_of (at + 1) u) s) p.tree_is ∙ ap (λ o. (o >>= act t (at + 1) p.statement) >>= rest) m.1 ∙ ap (λ o. o >>= rest) a

    -- ---- forks
    module _ (x : NameId) (after : ℕ) (is : step_at k.steps at ≡ a_step.Fork x after) (whole : to ≤ length k.steps) where
      some : ForkAt (length k.bindings.slots) list.0 k.steps at to x after list.1
      some = fork_at (length k.bindings.slots) list.0 k.steps at to x after list.1 list.2 lt is

      pub fork_bounds : (x.0 < length k1.bindings.slots) × (at < after) × (after ≤ to)
      fork_bounds =
          let b = spelled_count (length k.bindings.slots) list.0 k.steps (at + 1) some.body after some.body_there in
          let r = spelled_count (length k.bindings.slots) list.0 k.steps after some.rest to some.rest_there in
          let q = some.named.0 in
          let e = k1_keeps.slots in
          (omega arith, omega arith, omega arith)

      fork_sim : (names : ℕ → List ℕ) (s1 : UnfoldingState) (tree : Tree) → ShowsState names k1 s1 →
          (p : ForkAt (length k.bindings.slots) names k.steps at to x after tree) →
          Simulates names (checker_fork t (at + 1) x.0 after k1) (act_fork t (at + 1) p.name p.body s1)
      fork_sim names s1 tree h1 p = subst (λ y. Simulates names (checker_fork t (at + 1) x.0 after k1) (act_fork t (at + 1) y p.body s1)) p.named.1
          (simulating.simulates_fork names k1 s1 k1_keeps.fits h1 t (at + 1) runs x.0 after p.body (omega (arith, p.named.0, k1_keeps.slots))
          (let e = ap (λ z. length z) k1_keeps.steps in omega (arith, fork_bounds.2)) (respell k k1 names (at + 1) p.body after k1_keeps p.body_there))

      fork_keeps : KeepsAll k1 (checker_fork t (at + 1) x.0 after k1)
      fork_keeps = simulating.keeps_fork k1 k1_keeps.fits t (at + 1) x.0 after (let e = ap (λ z. length z) k1_keeps.steps in
          omega (arith, fork_bounds.2)) (list.0, some.body, respell k k1 list.0 (at + 1) some.body after k1_keeps some.body_there)

      fork_visits : (names : ℕ → List ℕ) (tree : Tree) (p : ForkAt (length k.bindings.slots) names k.steps at to x after tree) →
          visits_of (at + 1) tree ≡ visit (at + 1) (a_fork p.name p.body) ∷ visits_of (after + 1) p.rest
      fork_visits names tree p =
          let b = spelled_count (length k.bindings.slots) names k.steps (at + 1) p.body after p.body_there in
          ap (visits_of (at + 1)) p.tree_is ∙ ap (λ m. visit (at + 1) (a_fork p.name p.body) ∷ visits_of m p.rest)
          (let e : at + 1 + 1 + count p.body ≡ after + 1 = omega arith in e)

      pub fork_on : (k2 : Checker) → checker_fork t (at + 1) x.0 after k1 ≡ Ok k2 → On (length k.bindings.slots) to t k.steps at k after k2
      unfolding make_visits
      fork_on k2 did = record {
        within = fork_bounds.2;
        forward = omega (arith, fork_bounds.1);
        list = (list.0, some.rest, some.rest_there);
        keeps = simulating.keeps_through k k1 k2 k1_keeps (keeps_ok k1 (checker_fork t (at + 1) x.0 after k1) k2 did fork_keeps);
        all = λ names s tree sp h.
            let p = fork_at (length k.bindings.slots) names k.steps at to x after tree sp lt is in
            let m = visited_state names s h in
            let a = simulates_ok names (checker_fork t (at + 1) x.0 after k1) k2 (act_fork t (at + 1) p.name p.body m.0) did (fork_sim names m.0 tree m.2 p) in
            let rest = make_visits t (visits_of (after + 1) p.rest) in
            record {
              rest = p.rest;
              state = a.0;
              spelled = p.rest_there;
              shows = a.2;
              same = sym (ap (λ u. make_visits t u s) (fork_visits names tree p) ∙ ap (λ o. (o >>= act_fork t (at + 1) p.name p.body) >>= rest) m.1 ∙ ap (λ o. o >>= rest) a.1);
            };
      }

      pub fork_fails : (err : CheckFault) → checker_fork t (at + 1) x.0 after k1 ≡ Err err → Failed (length k.bindings.slots) to t k.steps at k err
      unfolding make_visits
      fork_fails err did names s tree sp h =
          let p = fork_at (length k.bindings.slots) names k.steps at to x after tree sp lt is in
          let m = visited_state names s h in
          let a = simulates_err names (checker_fork t (at + 1) x.0 after k1) err (act_fork t (at + 1) p.name p.body m.0) did (fork_sim names m.0 tree m.2 p) in
          let rest = make_visits t (visits_of (after + 1) p.rest) in
          ap (λ u. make_visits t u s) (fork_visits names tree p) ∙ ap (λ o. (o >>= act_fork t (at + 1) p.name p.body) >>= rest) m.1 ∙ ap (λ o. o >>= rest) a

    -- ---- loops
    module _ (i after : ℕ) (steady : Bool) (is : step_at k.steps at ≡ a_step.Loop i after steady) where
      one : LoopAt (length k.bindings.slots) list.0 k.steps at to i after steady list.1
      one = loop_at (length k.bindings.slots) list.0 k.steps at to i after steady list.1 list.2 lt is

      pub loop_bounds : (at < after) × (after ≤ to)
      loop_bounds =
          let b = spelled_count (length k.bindings.slots) list.0 k.steps (at + 1) one.body after one.body_there in
          let r = spelled_count (length k.bindings.slots) list.0 k.steps after one.rest to one.rest_there in
          (omega arith, omega arith)

      pub loop_list : IsList (length k1.bindings.slots) k1.steps (at + 1) after
      loop_list = (list.0, one.body, respell k k1 list.0 (at + 1) one.body after k1_keeps one.body_there)

      loop_all : (names : ℕ → List ℕ) (tree : Tree) (s : UnfoldingState) (p : LoopAt (length k.bindings.slots) names k.steps at to i after steady tree) →
          (s1 : UnfoldingState) → count_visit (at + 1) s ≡ Ok s1 →
          make_visits t (visits_of (at + 1) tree) s ≡ (make_visits t (times i (turn at p.body)) s1 >>= make_visits t (visits_of (after + 1) p.rest))
      unfolding make_visits
      loop_all names tree s p s1 e =
          let b = spelled_count (length k.bindings.slots) names k.steps (at + 1) p.body after p.body_there in
          let n : at + 1 + 1 + count p.body ≡ after + 1 = omega arith in
          let ms = times i (turn at p.body) in
          ap (λ u. make_visits t (visits_of (at + 1) u) s) p.tree_is
          ∙ ap (λ o. (o >>= λ z. Ok z) >>= make_visits t (ms ++ visits_of (at + 1 + 1 + count p.body) p.rest)) e
          ∙ make_visits-append t ms (visits_of (at + 1 + 1 + count p.body) p.rest) s1
          ∙ ap (λ m. make_visits t ms s1 >>= make_visits t (visits_of m p.rest)) n

      pub loop_on : (k2 : Checker) → Keeps k1 k2 →
          ((names : ℕ → List ℕ) (s : UnfoldingState) (tree : Tree) → IsSpelled (length k1.bindings.slots) names k1.steps (at + 1) tree after → ShowsState names k1 s →
          (s' : UnfoldingState) × (make_visits t (times i (turn at tree)) s ≡ Ok s') × ShowsState names k2 s') →
          On (length k.bindings.slots) to t k.steps at k after k2
      loop_on k2 keeps went = record {
        within = loop_bounds.1;
        forward = omega (arith, loop_bounds.0);
        list = (list.0, one.rest, one.rest_there);
        keeps = simulating.keeps_through k k1 k2 k1_keeps keeps;
        all = λ names s tree sp h.
            let p = loop_at (length k.bindings.slots) names k.steps at to i after steady tree sp lt is in
            let m = visited_state names s h in
            let w = went names m.0 p.body (respell k k1 names (at + 1) p.body after k1_keeps p.body_there) m.2 in
            let rest = make_visits t (visits_of (after + 1) p.rest) in
            record { rest = p.rest; state = w.0; spelled = p.rest_there; shows = w.2; same = sym (loop_all names tree s p m.0 m.1 ∙ ap (λ o. o >>= rest) w.1) };
      }

      pub loop_fails : (err : CheckFault) →
          ((names : ℕ → List ℕ) (s : UnfoldingState) (tree : Tree) → IsSpelled (length k1.bindings.slots) names k1.steps (at + 1) tree after → ShowsState names k1 s →
          make_visits t (times i (turn at tree)) s ≡ Err err) →
          Failed (length k.bindings.slots) to t k.steps at k err
      loop_fails err went names s tree sp h =
          let p = loop_at (length k.bindings.slots) names k.steps at to i after steady tree sp lt is in
          let m = visited_state names s h in
          let w = went names m.0 p.body (respell k k1 names (at + 1) p.body after k1_keeps p.body_there) m.2 in
          let rest = make_visits t (visits_of (after + 1) p.rest) in
          loop_all names tree s p m.0 m.1 ∙ ap (λ o. o >>= rest) w

-- what is said at the lists of a later state holds at those of an earlier one
pub on_same : (n n' to t : ℕ) (steps steps' : List FlatStep) (at : ℕ) (k : Checker) (at' : ℕ) (k' : Checker) → n ≡ n' → steps ≡ steps' →
    On n to t steps at k at' k' → On n' to t steps' at k at' k'
on_same n n' to t steps steps' at k at' k' p q h = subst (λ z. On z to t steps' at k at' k') p (subst (λ z. On n to t z at k at' k') q h)

pub failed_same : (n n' to t : ℕ) (steps steps' : List FlatStep) (at : ℕ) (k : Checker) (f : CheckFault) → n ≡ n' → steps ≡ steps' → Failed n to t steps at k f →
    Failed n' to t steps' at k f
failed_same n n' to t steps steps' at k f p q h = subst (λ z. Failed z to t steps' at k f) p (subst (λ z. Failed n to t z at k f) q h)
