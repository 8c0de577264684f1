-- Steps that spell a tree, and the way over them.
use Rattle.std.proofs.Common.{◌≡◌, ℕ, ◌+◌, ◌<◌, ◌≤◌, Bool, List, [], ◌∷◌, ◌++◌, length, Ok, Err, arith, sym, ◌∙◌, ap, subst, refl}
use Rattle.pl_syntax.specs.Tree.{Tree, done, plain, fork, loop, Plain, new_task, new_phaser, reg, dereg, adv, await, skip}
use Rattle.pl_plan.specs.FoldedOps.{is_steady}
use Rattle.pl_plan.specs.declared.step.NameId.{NameId}
use Rattle.pl_plan.specs.declared.step.FlatStep.{FlatStep}
use Rattle.pl_plan.specs.declared.step.FlatStep.TheVariants as a_step
use Rattle.pl_plan.specs.declared.fault.CheckFault.{CheckFault}
use Rattle.pl_plan.specs.inside.Steps.{IsNumberOfName, IsStep, step_at, IsSpelled, IsList}
use Rattle.pl_plan.specs.inside.Checker.{Checker, IsChecker, Keeps}
use Rattle.pl_plan.specs.inside.CheckerSteps.{checker_act, HasNames}
use Rattle.pl_plan.specs.Unfolding.{UnfoldingState, Outcome, ◌>>=◌, Visit, visits_of, make_visit, make_visits, act}
use Rattle.pl_plan.specs.inside.Shows.{ShowsState}
use Rattle.pl_plan.specs.inside.Simulates.{Simulates, KeepsAll}
use Rattle.pl_plan.proofs.Spelled.{spelled_count}
use Rattle.pl_plan.proofs.Simulating as simulating

pub bind_bind : (o : Outcome UnfoldingState) (f g : UnfoldingState → Outcome UnfoldingState) → ((o >>= f) >>= g) ≡ (o >>= λ s. f s >>= g)
bind_bind (Ok s) f g = refl
bind_bind (Err e) f g = refl

pub make_visits-append : (t : ℕ) (xs ys : List Visit) (s : UnfoldingState) → make_visits t (xs ++ ys) s ≡ (make_visits t xs s >>= make_visits t ys)
unfolding make_visits
make_visits-append t [] ys s = refl
make_visits-append t (x ∷ xs) ys s = ap (λ f. make_visit t x s >>= f) (λ i s'. make_visits-append t xs ys s' i) ∙
    sym (bind_bind (make_visit t x s) (make_visits t xs) (make_visits t ys))

-- ---- a statement without a body

pub simulates_acting : (names : ℕ → List ℕ) (k : Checker) (s : UnfoldingState) → IsChecker k → ShowsState names k s → (t n : ℕ) → t < length k.parents →
    (step : FlatStep) (c : Plain) → IsStep (length k.bindings.slots) names step c → Simulates names (checker_act t n step k) (act t n c s)
unfolding act
simulates_acting names k s f h t n r step (new_task x) e = subst (λ z. Simulates names (checker_act t n z k) (act t n (new_task x) s)) (sym e.1)
    (subst (λ y. Simulates names (checker_act t n (a_step.NewTask e.0) k) (act t n (new_task y) s)) e.2.1
    (simulating.simulates_new_task names k s f h t n r e.0.0 e.2.0))
simulates_acting names k s f h t n r step (new_phaser x) e = subst (λ z. Simulates names (checker_act t n z k) (act t n (new_phaser x) s)) (sym e.1)
    (subst (λ y. Simulates names (checker_act t n (a_step.NewPhaser e.0) k) (act t n (new_phaser y) s)) e.2.1
    (simulating.simulates_new_phaser names k s f h t n r e.0.0 e.2.0))
simulates_acting names k s f h t n r step (reg x y) e = subst (λ z. Simulates names (checker_act t n z k) (act t n (reg x y) s)) (sym e.2)
    (subst (λ v. Simulates names (checker_act t n (a_step.Reg e.0 e.1) k) (act t n (reg v y) s)) e.3.1
    (subst (λ v. Simulates names (checker_act t n (a_step.Reg e.0 e.1) k) (act t n (reg (names e.0.0) v) s)) e.4.1
    (simulating.simulates_reg names k s f h t n r e.0.0 e.1.0 e.3.0 e.4.0)))
simulates_acting names k s f h t n r step (dereg x) e = subst (λ z. Simulates names (checker_act t n z k) (act t n (dereg x) s)) (sym e.1)
    (subst (λ y. Simulates names (checker_act t n (a_step.Dereg e.0) k) (act t n (dereg y) s)) e.2.1
    (simulating.simulates_dereg names k s f h t n r e.0.0 e.2.0))
simulates_acting names k s f h t n r step (adv x) e = subst (λ z. Simulates names (checker_act t n z k) (act t n (adv x) s)) (sym e.1)
    (subst (λ y. Simulates names (checker_act t n (a_step.Adv e.0) k) (act t n (adv y) s)) e.2.1 (simulating.simulates_adv names k s f h t n r e.0.0 e.2.0))
simulates_acting names k s f h t n r step (await x off) e = subst (λ z. Simulates names (checker_act t n z k) (act t n (await x off) s)) (sym e.1)
    (subst (λ y. Simulates names (checker_act t n (a_step.Await e.0 off) k) (act t n (await y off) s)) e.2.1
    (simulating.simulates_await names k s f h t n r e.0.0 off e.2.0))
simulates_acting names k s f h t n r step skip e = subst (λ z. Simulates names (checker_act t n z k) (act t n skip s)) (sym e) (s, refl, h)

pub keeps_acting : (k : Checker) → IsChecker k → (t n : ℕ) (step : FlatStep) → HasNames (length k.bindings.slots) step → KeepsAll k (checker_act t n step k)
keeps_acting k f t n (a_step.NewTask x) h = simulating.keeps_new_task k f t n x.0 h
keeps_acting k f t n (a_step.NewPhaser x) h = simulating.keeps_new_phaser k f t n x.0 h
keeps_acting k f t n (a_step.Reg x y) h = simulating.keeps_reg k f t n x.0 y.0
keeps_acting k f t n (a_step.Dereg x) h = simulating.keeps_dereg k f t n x.0
keeps_acting k f t n (a_step.Adv x) h = simulating.keeps_adv k f t n x.0
keeps_acting k f t n (a_step.Await x off) h = simulating.keeps_await k f t n x.0 off
keeps_acting k f t n (a_step.Fork x a) h = simulating.keeps_itself k f
keeps_acting k f t n (a_step.Loop i a steady) h = simulating.keeps_itself k f
keeps_acting k f t n a_step.Skip h = simulating.keeps_itself k f

pub names_of : (n : ℕ) (names : ℕ → List ℕ) (step : FlatStep) (c : Plain) → IsStep n names step c → HasNames n step
names_of n names step (new_task x) e = subst (HasNames n) (sym e.1) e.2.0
names_of n names step (new_phaser x) e = subst (HasNames n) (sym e.1) e.2.0
names_of n names step (reg x y) e = subst (HasNames n) (sym e.2) (e.3.0, e.4.0)
names_of n names step (dereg x) e = subst (HasNames n) (sym e.1) e.2.0
names_of n names step (adv x) e = subst (HasNames n) (sym e.1) e.2.0
names_of n names step (await x off) e = subst (HasNames n) (sym e.1) e.2.0
names_of n names step skip e = subst (HasNames n) (sym e) tt

-- ---- on from one index to another

pub record Rest (names : ℕ → List ℕ) (n to t : ℕ) (steps : List FlatStep) (all : Outcome UnfoldingState) (at : ℕ) (k : Checker) : Type 0 where
  pub rest : Tree
  pub state : UnfoldingState
  pub spelled : IsSpelled n names steps at rest to
  pub shows : ShowsState names k state
  pub same : make_visits t (visits_of (at + 1) rest) state ≡ all

pub record On (n to t : ℕ) (steps : List FlatStep) (at : ℕ) (k : Checker) (at' : ℕ) (k' : Checker) : Type 0 where
  pub within : at' ≤ to
  pub forward : at ≤ at'
  pub list : IsList n steps at' to
  pub keeps : Keeps k k'
  pub all : (names : ℕ → List ℕ) (s : UnfoldingState) (tree : Tree) → IsSpelled n names steps at tree to → ShowsState names k s →
      Rest names n to t steps (make_visits t (visits_of (at + 1) tree) s) at' k'

-- a fault from an index on
abbrev pub Failed : ℕ → ℕ → ℕ → List FlatStep → ℕ → Checker → CheckFault → Type 0
Failed n to t steps at k f = (names : ℕ → List ℕ) (s : UnfoldingState) (tree : Tree) → IsSpelled n names steps at tree to → ShowsState names k s →
    make_visits t (visits_of (at + 1) tree) s ≡ Err f

pub on_start : (n to t : ℕ) (steps : List FlatStep) (at : ℕ) (k : Checker) → IsChecker k → IsList n steps at to → On n to t steps at k at k
on_start n to t steps at k f list = record {
  within = (let c = spelled_count n list.0 steps at list.1 to list.2 in omega arith);
  forward = omega arith;
  list = list;
  keeps = simulating.keeps_itself k f;
  all = λ names s tree e h. record { rest = tree; state = s; spelled = e; shows = h; same = refl };
}

pub on_through : (n to t : ℕ) (steps : List FlatStep) (a : ℕ) (ka : Checker) (b : ℕ) (kb : Checker) (c : ℕ) (kc : Checker) → On n to t steps a ka b kb →
    On n to t steps b kb c kc → On n to t steps a ka c kc
on_through n to t steps a ka b kb c kc p q = record {
  within = q.within;
  forward = omega (arith, p.forward, q.forward);
  list = q.list;
  keeps = simulating.keeps_through ka kb kc p.keeps q.keeps;
  all = λ names s tree e h.
      let r = p.all names s tree e h in
      let r' = q.all names r.state r.rest r.spelled r.shows in
      record { rest = r'.rest; state = r'.state; spelled = r'.spelled; shows = r'.shows; same = r'.same ∙ r.same };
}

pub on_failed : (n to t : ℕ) (steps : List FlatStep) (a : ℕ) (ka : Checker) (b : ℕ) (kb : Checker) (f : CheckFault) → On n to t steps a ka b kb →
    Failed n to t steps b kb f → Failed n to t steps a ka f
on_failed n to t steps a ka b kb f p q = λ names s tree e h.
    let r = p.all names s tree e h in
    sym r.same ∙ q names r.state r.rest r.spelled r.shows

pub on_ended : (n to t : ℕ) (steps : List FlatStep) (a : ℕ) (ka : Checker) (b : ℕ) (kb : Checker) (names : ℕ → List ℕ) (s : UnfoldingState) (tree : Tree) → to ≤ b →
    IsSpelled n names steps a tree to → ShowsState names ka s → On n to t steps a ka b kb →
    (s' : UnfoldingState) × (make_visits t (visits_of (a + 1) tree) s ≡ Ok s') × ShowsState names kb s'
unfolding make_visits
on_ended n to t steps a ka b kb names s tree le e h p =
    let r = p.all names s tree e h in
    (r.state, sym r.same ∙ last r.state r.rest r.spelled, r.shows)
  where
    last : (s' : UnfoldingState) (u : Tree) → IsSpelled n names steps b u to → make_visits t (visits_of (b + 1) u) s' ≡ Ok s'
    last s' done e' = refl
    last s' (plain c rest) e' = absurd (let x = spelled_count n names steps b (plain c rest) to e' in omega arith)
    last s' (fork y body rest) e' = absurd (let x = spelled_count n names steps b (fork y body rest) to e' in omega arith)
    last s' (loop i body rest) e' = absurd (let x = spelled_count n names steps b (loop i body rest) to e' in omega arith)

-- ---- one visit

pub simulates_ok : (names : ℕ → List ℕ) (o : Outcome Checker) (k : Checker) (g : Outcome UnfoldingState) → o ≡ Ok k → Simulates names o g →
    (s : UnfoldingState) × (g ≡ Ok s) × ShowsState names k s
simulates_ok names o k g e h = subst (λ v. Simulates names v g) e h

pub simulates_err : (names : ℕ → List ℕ) (o : Outcome Checker) (f : CheckFault) (g : Outcome UnfoldingState) → o ≡ Err f → Simulates names o g → g ≡ Err f
simulates_err names o f g e h = subst (λ v. Simulates names v g) e h

pub keeps_ok : (k : Checker) (o : Outcome Checker) (new : Checker) → o ≡ Ok new → KeepsAll k o → Keeps k new
keeps_ok k o new e h = subst (KeepsAll k) e h

-- the step at an index is no fork and no loop
abbrev pub IsPlain : FlatStep → Type 0
IsPlain (a_step.Fork x a) = ⊥
IsPlain (a_step.Loop i a steady) = ⊥
IsPlain _ = Unit {0}

pub record PlainAt (n : ℕ) (names : ℕ → List ℕ) (steps : List FlatStep) (i to : ℕ) (tree : Tree) : Type 0 where
  pub statement : Plain
  pub rest : Tree
  pub tree_is : tree ≡ plain statement rest
  pub here : IsStep n names (step_at steps i) statement
  pub rest_there : IsSpelled n names steps (i + 1) rest to

pub plain_at : (n : ℕ) (names : ℕ → List ℕ) (steps : List FlatStep) (i to : ℕ) (tree : Tree) → IsSpelled n names steps i tree to → i < to →
    IsPlain (step_at steps i) → PlainAt n names steps i to tree
plain_at n names steps i to done e lt p = absurd (omega arith)
plain_at n names steps i to (plain s rest) e lt p = record { statement = s; rest = rest; tree_is = refl; here = e.0; rest_there = e.1 }
plain_at n names steps i to (fork x body rest) e lt p = absurd (subst IsPlain e.2 p)
plain_at n names steps i to (loop k body rest) e lt p = absurd (subst IsPlain e.1 p)

pub record ForkAt (n : ℕ) (names : ℕ → List ℕ) (steps : List FlatStep) (i to : ℕ) (x : NameId) (after : ℕ) (tree : Tree) : Type 0 where
  pub name : List ℕ
  pub body : Tree
  pub rest : Tree
  pub tree_is : tree ≡ fork name body rest
  pub named : IsNumberOfName n names x name
  pub body_there : IsSpelled n names steps (i + 1) body after
  pub rest_there : IsSpelled n names steps after rest to

fork_at_same : (n : ℕ) (names : ℕ → List ℕ) (steps : List FlatStep) (i to : ℕ) (x x' : NameId) (after after' : ℕ) (name : List ℕ) (body rest : Tree) → x' ≡ x →
    after' ≡ after → IsNumberOfName n names x' name → IsSpelled n names steps (i + 1) body after' → IsSpelled n names steps after' rest to →
    ForkAt n names steps i to x after (fork name body rest)
fork_at_same n names steps i to x x' after after' name body rest p q a b r = record {
  name = name;
  body = body;
  rest = rest;
  tree_is = refl;
  named = subst (λ z. IsNumberOfName n names z name) p a;
  body_there = subst (λ z. IsSpelled n names steps (i + 1) body z) q b;
  rest_there = subst (λ z. IsSpelled n names steps z rest to) q r;
}

pub fork_at : (n : ℕ) (names : ℕ → List ℕ) (steps : List FlatStep) (i to : ℕ) (x : NameId) (after : ℕ) (tree : Tree) → IsSpelled n names steps i tree to → i < to →
    step_at steps i ≡ a_step.Fork x after → ForkAt n names steps i to x after tree
fork_at n names steps i to x after done e lt is = absurd (omega arith)
fork_at n names steps i to x after (plain s rest) e lt is = absurd (no_plain (step_at steps i) s e.0 is)
  where
    no_plain : (z : FlatStep) (c : Plain) → IsStep n names z c → z ≡ a_step.Fork x after → ⊥
    no_plain z (new_task y) a b = (let h = sym a.1 ∙ b in cc)
    no_plain z (new_phaser y) a b = (let h = sym a.1 ∙ b in cc)
    no_plain z (reg y y') a b = (let h = sym a.2 ∙ b in cc)
    no_plain z (dereg y) a b = (let h = sym a.1 ∙ b in cc)
    no_plain z (adv y) a b = (let h = sym a.1 ∙ b in cc)
    no_plain z (await y off) a b = (let h = sym a.1 ∙ b in cc)
    no_plain z skip a b = (let h = sym a ∙ b in cc)
fork_at n names steps i to x after (loop k body rest) e lt is = absurd (let h = sym e.1 ∙ is in cc)
fork_at n names steps i to x after (fork y body rest) e lt is =
    let h = sym e.2 ∙ is in
    let p : e.0 ≡ x = cc in
    let q : e.1 ≡ after = cc in
    fork_at_same n names steps i to x e.0 after e.1 y body rest p q e.3 e.4 e.5

pub record LoopAt (n : ℕ) (names : ℕ → List ℕ) (steps : List FlatStep) (i to k after : ℕ) (steady : Bool) (tree : Tree) : Type 0 where
  pub body : Tree
  pub rest : Tree
  pub tree_is : tree ≡ loop k body rest
  pub steady_is : is_steady body ≡ steady
  pub body_there : IsSpelled n names steps (i + 1) body after
  pub rest_there : IsSpelled n names steps after rest to

loop_at_same : (n : ℕ) (names : ℕ → List ℕ) (steps : List FlatStep) (i to k after k' after' : ℕ) (steady : Bool) (body rest : Tree) → k' ≡ k → after' ≡ after →
    is_steady body ≡ steady → IsSpelled n names steps (i + 1) body after' → IsSpelled n names steps after' rest to →
    LoopAt n names steps i to k after steady (loop k' body rest)
loop_at_same n names steps i to k after k' after' steady body rest p q same b r = record {
  body = body;
  rest = rest;
  tree_is = ap (λ z. loop z body rest) p;
  steady_is = same;
  body_there = subst (λ z. IsSpelled n names steps (i + 1) body z) q b;
  rest_there = subst (λ z. IsSpelled n names steps z rest to) q r;
}

pub loop_at : (n : ℕ) (names : ℕ → List ℕ) (steps : List FlatStep) (i to k after : ℕ) (steady : Bool) (tree : Tree) → IsSpelled n names steps i tree to → i < to →
    step_at steps i ≡ a_step.Loop k after steady → LoopAt n names steps i to k after steady tree
loop_at n names steps i to k after steady done e lt is = absurd (omega arith)
loop_at n names steps i to k after steady (plain s rest) e lt is = absurd (no_plain (step_at steps i) s e.0 is)
  where
    no_plain : (z : FlatStep) (c : Plain) → IsStep n names z c → z ≡ a_step.Loop k after steady → ⊥
    no_plain z (new_task y) a b = (let h = sym a.1 ∙ b in cc)
    no_plain z (new_phaser y) a b = (let h = sym a.1 ∙ b in cc)
    no_plain z (reg y y') a b = (let h = sym a.2 ∙ b in cc)
    no_plain z (dereg y) a b = (let h = sym a.1 ∙ b in cc)
    no_plain z (adv y) a b = (let h = sym a.1 ∙ b in cc)
    no_plain z (await y off) a b = (let h = sym a.1 ∙ b in cc)
    no_plain z skip a b = (let h = sym a ∙ b in cc)
loop_at n names steps i to k after steady (fork y body rest) e lt is = absurd (let h = sym e.2 ∙ is in cc)
loop_at n names steps i to k after steady (loop k' body rest) e lt is =
    let h = sym e.1 ∙ is in
    let p : k' ≡ k = cc in
    let q : e.0 ≡ after = cc in
    let r : is_steady body ≡ steady = cc in
    loop_at_same n names steps i to k after k' e.0 steady body rest p q r e.3 e.4
