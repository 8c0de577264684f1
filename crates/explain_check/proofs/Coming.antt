-- A coming to a step, by what is kept, is the visit of the unfolding.
use Rattle.std.proofs.Common.{◌≡◌, ℕ, ◌+◌, ◌<◌, List, length, Ok, Err, Option, Some, None, arith, sym, ◌∙◌, ap, subst, refl}
use Rattle.pl_plan.specs.Unfolding.{Coming, Outcome, ◌>>=◌, UnfoldingState, Visit, a_loop, a_plain, a_turn, act, act_fork, come_to, count_visit, fault, make_visit, visit}
use Rattle.pl_syntax.specs.Tree.{Plain, new_task, new_phaser, reg, dereg, adv, await, skip}
use Rattle.pl_plan.specs.Stages.{FailsAt, StagePasses, after_stage, at_visit, comes}
use Rattle.pl_plan.specs.Tests.{table}
use Rattle.pl_plan.specs.declared.fault.CheckFault.{CheckFault}
use Rattle.pl_plan.specs.declared.step.FlatStep.{FlatStep}
use Rattle.pl_plan.specs.declared.step.FlatStep.TheVariants as a_step
use Rattle.pl_plan.specs.inside.Checker.{Checker, IsChecker, Keeps}
use Rattle.pl_plan.specs.inside.CheckerSteps.{HasNames, checker_act, checker_count, checker_fork}
use Rattle.pl_plan.specs.inside.Shows.{ShowsState}
use Rattle.pl_plan.specs.inside.Simulates.{KeepsAll, Simulates}
use Rattle.pl_plan.specs.inside.Steps.{IsStep}
use Rattle.pl_plan.proofs.ByTable.{first_if, first_kind, passes_if, visit_by}
use Rattle.pl_plan.proofs.FirstRows.{answer}
use Rattle.pl_plan.proofs.Onward.{count_keeps, respell}
use Rattle.pl_plan.proofs.Simulating as simulating
use Rattle.pl_plan.proofs.Walks.{keeps_acting, keeps_ok, simulates_acting}
use Rattle.explain_check.specs.declared.frames.Item.{Item}
use Rattle.explain_check.specs.inside.Framed.{Comes, to_adv, to_await, to_dereg, to_fork, to_loop, to_new_phaser, to_new_task, to_reg, to_skip, to_turn}
use Rattle.explain_check.specs.inside.Seen.{visit_checked}

pub has_names : (n : ℕ) (names : ℕ → List ℕ) (steps : List FlatStep) (item : Item) (m : Visit) → Comes n names steps item m → HasNames n item.step
has_names n names steps i m (to_new_task x l) = l
has_names n names steps i m (to_new_phaser x l) = l
has_names n names steps i m (to_reg x y l r) = (l, r)
has_names n names steps i m (to_dereg x l) = l
has_names n names steps i m (to_adv x l) = l
has_names n names steps i m (to_await x off l near) = l
has_names n names steps i m to_skip = tt
has_names n names steps i m (to_fork x after body l within spelled) = l
has_names n names steps i m (to_loop k after steady) = tt
has_names n names steps i m to_turn = tt

pub statement_is : (n : ℕ) (names : ℕ → List ℕ) (steps : List FlatStep) (item : Item) (m : Visit) → Comes n names steps item m → m.statement ≡ item.at + 1
statement_is n names steps i m (to_new_task x l) = refl
statement_is n names steps i m (to_new_phaser x l) = refl
statement_is n names steps i m (to_reg x y l r) = refl
statement_is n names steps i m (to_dereg x l) = refl
statement_is n names steps i m (to_adv x l) = refl
statement_is n names steps i m (to_await x off l near) = refl
statement_is n names steps i m to_skip = refl
statement_is n names steps i m (to_fork x after body l within spelled) = refl
statement_is n names steps i m (to_loop k after steady) = refl
statement_is n names steps i m to_turn = refl

module _ (names : ℕ → List ℕ) (k : Checker) (s : UnfoldingState) (f : IsChecker k) (h : ShowsState names k s) (t : ℕ) (run : t < length k.parents) where
  on_count :
      (n : ℕ) (do_k : Checker → Outcome Checker) (do_s : UnfoldingState → Outcome UnfoldingState) →
      ((k1 : Checker) (s1 : UnfoldingState) → Keeps k k1 → ShowsState names k1 s1 → Simulates names (do_k k1) (do_s s1)) →
      Simulates names (checker_count n k >>= do_k) (count_visit n s >>= do_s)
  on_count n do_k do_s then = by (checker_count n k) refl (simulating.simulates_count names k s f h n)
    where
      by : (o : Outcome Checker) → checker_count n k ≡ o → Simulates names o (count_visit n s) → Simulates names (o >>= do_k) (count_visit n s >>= do_s)
      by (Ok k1) is shows =
          subst (λ z. Simulates names (do_k k1) (z >>= do_s)) (sym shows.1) (then k1 shows.0 (count_keeps k k1 n f is) shows.2)
      by (Err e) is shows = ap (λ z. z >>= do_s) shows

  keeps_count_then :
      (n : ℕ) (do_k : Checker → Outcome Checker) → ((k1 : Checker) → Keeps k k1 → KeepsAll k1 (do_k k1)) → KeepsAll k (checker_count n k >>= do_k)
  keeps_count_then n do_k then = by (checker_count n k) refl
    where
      on : (k1 : Checker) → Keeps k k1 → (o : Outcome Checker) → KeepsAll k1 o → KeepsAll k o
      on k1 a (Ok k2) b = simulating.keeps_through k k1 k2 a b
      on k1 a (Err e) b = tt

      by : (o : Outcome Checker) → checker_count n k ≡ o → KeepsAll k (o >>= do_k)
      by (Ok k1) is = let a = count_keeps k k1 n f is in on k1 a (do_k k1) (then k1 a)
      by (Err e) is = tt

  -- a statement without a body
  plain_sim :
      (at : ℕ) (step : FlatStep) (c : Plain) → IsStep (length k.bindings.slots) names step c →
      Simulates names (checker_count (at + 1) k >>= checker_act t (at + 1) step) (make_visit t (visit (at + 1) (a_plain c)) s)
  plain_sim at step c is =
      on_count (at + 1) (checker_act t (at + 1) step) (act t (at + 1) c)
      (λ k1 s1 keeps shows. simulates_acting names k1 s1 keeps.fits shows t (at + 1) (omega (arith, keeps.more, run)) step c
      (subst (λ n. IsStep n names step c) (sym keeps.slots) is))

  nothing_sim :
      (at : ℕ) (step : FlatStep) (c : Coming) → ((k1 : Checker) → checker_act t (at + 1) step k1 ≡ Ok k1) → ((s1 : UnfoldingState) → come_to t (at + 1) c s1 ≡ Ok s1) →
      Simulates names (checker_count (at + 1) k >>= checker_act t (at + 1) step) (make_visit t (visit (at + 1) c) s)
  nothing_sim at step c ks ss =
      on_count (at + 1) (checker_act t (at + 1) step) (come_to t (at + 1) c)
      (λ k1 s1 keeps shows. subst (λ o. Simulates names o (come_to t (at + 1) c s1)) (sym (ks k1)) (s1, ss s1, shows))

  pub simulates_come :
      (item : Item) (m : Visit) → Comes (length k.bindings.slots) names k.steps item m → Simulates names (visit_checked t item.at item.step k) (make_visit t m s)
  simulates_come i m (to_new_task {at} x l) = plain_sim at (a_step.NewTask x) (new_task (names x.0)) (x, refl, (l, refl))
  simulates_come i m (to_new_phaser {at} x l) = plain_sim at (a_step.NewPhaser x) (new_phaser (names x.0)) (x, refl, (l, refl))
  simulates_come i m (to_reg {at} x y l r) = plain_sim at (a_step.Reg x y) (reg (names x.0) (names y.0)) (x, y, refl, (l, refl), (r, refl))
  simulates_come i m (to_dereg {at} x l) = plain_sim at (a_step.Dereg x) (dereg (names x.0)) (x, refl, (l, refl))
  simulates_come i m (to_adv {at} x l) = plain_sim at (a_step.Adv x) (adv (names x.0)) (x, refl, (l, refl))
  simulates_come i m (to_await {at} x off l near) = plain_sim at (a_step.Await x off) (await (names x.0) off) (x, refl, (l, refl), near)
  simulates_come i m (to_skip {at}) = plain_sim at a_step.Skip skip refl
  simulates_come i m (to_fork {at} x after body l within spelled) =
      on_count (at + 1) (checker_fork t (at + 1) x.0 after) (act_fork t (at + 1) (names x.0) body)
      (λ k1 s1 keeps shows. simulating.simulates_fork names k1 s1 keeps.fits shows t (at + 1) (omega (arith, keeps.more, run)) x.0 after body
      (omega (arith, l, keeps.slots)) (omega (arith, within, ap length keeps.steps)) (respell k k1 names (at + 1) body after keeps spelled))
  simulates_come i m (to_loop {at} n after steady) = nothing_sim at (a_step.Loop n after steady) a_loop (λ k1. refl) (λ s1. refl)
  simulates_come i m (to_turn {at}) = nothing_sim at a_step.Skip a_turn (λ k1. refl) (λ s1. refl)

  plain_keeps : (at : ℕ) (step : FlatStep) → HasNames (length k.bindings.slots) step → KeepsAll k (checker_count (at + 1) k >>= checker_act t (at + 1) step)
  plain_keeps at step l =
      keeps_count_then (at + 1) (checker_act t (at + 1) step) (λ k1 keeps. keeps_acting k1 keeps.fits t (at + 1) step (subst (λ n. HasNames n step) (sym keeps.slots) l))

  pub keeps_come : (item : Item) (m : Visit) → Comes (length k.bindings.slots) names k.steps item m → KeepsAll k (visit_checked t item.at item.step k)
  keeps_come i m (to_new_task {at} x l) = plain_keeps at (a_step.NewTask x) l
  keeps_come i m (to_new_phaser {at} x l) = plain_keeps at (a_step.NewPhaser x) l
  keeps_come i m (to_reg {at} x y l r) = plain_keeps at (a_step.Reg x y) (l, r)
  keeps_come i m (to_dereg {at} x l) = plain_keeps at (a_step.Dereg x) l
  keeps_come i m (to_adv {at} x l) = plain_keeps at (a_step.Adv x) l
  keeps_come i m (to_await {at} x off l near) = plain_keeps at (a_step.Await x off) l
  keeps_come i m (to_skip {at}) = plain_keeps at a_step.Skip tt
  keeps_come i m (to_fork {at} x after body l within spelled) =
      keeps_count_then (at + 1) (checker_fork t (at + 1) x.0 after)
      (λ k1 keeps. simulating.keeps_fork k1 keeps.fits t (at + 1) x.0 after (omega (arith, within, ap length keeps.steps))
      (names, body, respell k k1 names (at + 1) body after keeps spelled))
  keeps_come i m (to_loop {at} n after steady) = plain_keeps at (a_step.Loop n after steady) tt
  keeps_come i m (to_turn {at}) = plain_keeps at a_step.Skip tt

  -- ---- by the table

  -- a visit that passed
  pub record CamePast (m : Visit) (new : Checker) : Type 0 where
    pub keeps : Keeps k new
    pub passes : StagePasses (comes t m) s
    pub shows : ShowsState names new (after_stage (comes t m) s)

  ok_is : (a b : UnfoldingState) → ◌≡◌ {A = Outcome UnfoldingState} (Ok a) (Ok b) → a ≡ b
  ok_is a b e = cc

  err_is : (a b : CheckFault) → ◌≡◌ {A = Outcome UnfoldingState} (Err a) (Err b) → a ≡ b
  err_is a b e = cc

  pub came_past : (item : Item) (m : Visit) (new : Checker) → Comes (length k.bindings.slots) names k.steps item m → visit_checked t item.at item.step k ≡ Ok new → CamePast m new
  came_past item m new c is =
      by (first_kind table s t m.coming) refl (subst (λ o. Simulates names o (make_visit t m s)) is (simulates_come item m c))
    where
      by : (o : Option ℕ) → first_kind table s t m.coming ≡ o → ((e : UnfoldingState) × (make_visit t m s ≡ Ok e) × ShowsState names new e) → CamePast m new
      by None none shows =
          let same : shows.0 ≡ after_stage (comes t m) s =
          ok_is shows.0 (after_stage (comes t m) s) (sym shows.1 ∙ visit_by t m s ∙ ap (λ o. answer m.statement o (after_stage (comes t m) s)) none) in
          record {
            keeps = keeps_ok k (visit_checked t item.at item.step k) new is (keeps_come item m c);
            passes = passes_if s t m.coming none;
            shows = subst (λ z. ShowsState names new z) same shows.2;
          }
      by (Some kind) some shows =
          absurd (let e = sym shows.1 ∙ visit_by t m s ∙ ap (λ o. answer m.statement o (after_stage (comes t m) s)) some in cc)

  pub came_fails : (item : Item) (m : Visit) (f : CheckFault) → Comes (length k.bindings.slots) names k.steps item m → visit_checked t item.at item.step k ≡ Err f → FailsAt s (comes t m) f
  came_fails item m g c is =
      by (first_kind table s t m.coming) refl (subst (λ o. Simulates names o (make_visit t m s)) is (simulates_come item m c))
    where
      by : (o : Option ℕ) → first_kind table s t m.coming ≡ o → make_visit t m s ≡ Err g → FailsAt s (comes t m) g
      by None none e =
          absurd (let x = sym e ∙ visit_by t m s ∙ ap (λ o. answer m.statement o (after_stage (comes t m) s)) none in cc)
      by (Some kind) some e =
          let x : fault kind m.statement ≡ g = err_is (fault kind m.statement) g (sym (sym e ∙ visit_by t m s ∙ ap (λ o. answer m.statement o (after_stage (comes t m) s)) some)) in
          subst (λ z. FailsAt s (comes t m) z) x (at_visit (first_if s t m.coming kind some) refl)
