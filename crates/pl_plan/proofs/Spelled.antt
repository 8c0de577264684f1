-- What is spelled stays spelled behind more steps and with more names.
use Rattle.std.proofs.Common.{◌≡◌, ℕ, ◌+◌, ◌<◌, ◌≤◌, List, ◌++◌, length, arith, sym, ◌∙◌}
use Rattle.std.proofs.lemmas.List.{get_or_append_left}
use Rattle.pl_syntax.specs.calls.Tree.{AreNear, PlainIsNear}
use Rattle.pl_syntax.specs.Tree.{Tree, done, plain, fork, loop, Plain, new_task, new_phaser, reg, dereg, adv, await, skip, count}
use Rattle.pl_plan.specs.declared.step.NameId.{NameId}
use Rattle.pl_plan.specs.declared.step.FlatStep.{FlatStep}
use Rattle.pl_plan.specs.declared.step.FlatStep.TheVariants as a_step
use Rattle.pl_plan.specs.calls.Folding.{HasFewTurns}
use Rattle.pl_plan.specs.inside.Steps.{IsNumberOfName, IsStep, step_at, IsSpelled}

-- the names below n are the same
pub record NamesAgree (n : ℕ) (names : ℕ → List ℕ) (n' : ℕ) (names' : ℕ → List ℕ) : Type 0 where
  pub more : n ≤ n'
  pub same : (i : ℕ) → i < n → names' i ≡ names i

pub name_more : (n : ℕ) (names : ℕ → List ℕ) (n' : ℕ) (names' : ℕ → List ℕ) (i : NameId) (x : List ℕ) → NamesAgree n names n' names' →
    IsNumberOfName n names i x → IsNumberOfName n' names' i x
name_more n names n' names' i x a h = (omega (arith, a.more, h.0), a.same i.0 h.0 ∙ h.1)

step_more : (n : ℕ) (names : ℕ → List ℕ) (n' : ℕ) (names' : ℕ → List ℕ) (step step' : FlatStep) (s : Plain) → step' ≡ step → NamesAgree n names n' names' →
    IsStep n names step s → IsStep n' names' step' s
step_more n names n' names' z z' (new_task x) e a h = (h.0, e ∙ h.1, name_more n names n' names' h.0 x a h.2)
step_more n names n' names' z z' (new_phaser x) e a h = (h.0, e ∙ h.1, name_more n names n' names' h.0 x a h.2)
step_more n names n' names' z z' (reg x y) e a h = (h.0, h.1, e ∙ h.2, name_more n names n' names' h.0 x a h.3, name_more n names n' names' h.1 y a h.4)
step_more n names n' names' z z' (dereg x) e a h = (h.0, e ∙ h.1, name_more n names n' names' h.0 x a h.2)
step_more n names n' names' z z' (adv x) e a h = (h.0, e ∙ h.1, name_more n names n' names' h.0 x a h.2)
step_more n names n' names' z z' (await x off) e a h = (h.0, e ∙ h.1, name_more n names n' names' h.0 x a h.2, h.3)
step_more n names n' names' z z' skip e a h = e ∙ h

-- a tree's steps are as many as its statements
pub spelled_count : (n : ℕ) (names : ℕ → List ℕ) (steps : List FlatStep) (i : ℕ) (tree : Tree) (to : ℕ) → IsSpelled n names steps i tree to → to ≡ i + count tree
spelled_count n names steps i done to e = omega (arith, sym e)
spelled_count n names steps i (plain s rest) to e = omega (arith, spelled_count n names steps (i + 1) rest to e.1)
spelled_count n names steps i (fork x body rest) to e =
    let a = spelled_count n names steps (i + 1) body e.1 e.4 in
    let b = spelled_count n names steps e.1 rest to e.5 in
    omega arith
spelled_count n names steps i (loop k body rest) to e =
    let a = spelled_count n names steps (i + 1) body e.0 e.3 in
    let b = spelled_count n names steps e.0 rest to e.4 in
    omega arith

step_near : (n : ℕ) (names : ℕ → List ℕ) (step : FlatStep) (s : Plain) → IsStep n names step s → PlainIsNear s
step_near n names step (new_task x) h = tt
step_near n names step (new_phaser x) h = tt
step_near n names step (reg x y) h = tt
step_near n names step (dereg x) h = tt
step_near n names step (adv x) h = tt
step_near n names step (await x off) h = h.3
step_near n names step skip h = tt

-- no await of a tree with steps looks farther than it may
pub spelled_near : (n : ℕ) (names : ℕ → List ℕ) (steps : List FlatStep) (i : ℕ) (tree : Tree) (to : ℕ) → IsSpelled n names steps i tree to → AreNear tree
spelled_near n names steps i done to e = tt
spelled_near n names steps i (plain s rest) to e = (step_near n names (step_at steps i) s e.0, spelled_near n names steps (i + 1) rest to e.1)
spelled_near n names steps i (fork x body rest) to e = (spelled_near n names steps (i + 1) body e.1 e.4, spelled_near n names steps e.1 rest to e.5)
spelled_near n names steps i (loop k body rest) to e = (spelled_near n names steps (i + 1) body e.0 e.3, spelled_near n names steps e.0 rest to e.4)

-- no loop of it has too many turns
pub spelled_few : (n : ℕ) (names : ℕ → List ℕ) (steps : List FlatStep) (i : ℕ) (tree : Tree) (to : ℕ) → IsSpelled n names steps i tree to → HasFewTurns tree
spelled_few n names steps i done to e = tt
spelled_few n names steps i (plain s rest) to e = spelled_few n names steps (i + 1) rest to e.1
spelled_few n names steps i (fork x body rest) to e = (spelled_few n names steps (i + 1) body e.1 e.4, spelled_few n names steps e.1 rest to e.5)
spelled_few n names steps i (loop k body rest) to e = (e.2, spelled_few n names steps (i + 1) body e.0 e.3, spelled_few n names steps e.0 rest to e.4)

module _ (n : ℕ) (names : ℕ → List ℕ) (n' : ℕ) (names' : ℕ → List ℕ) (a : NamesAgree n names n' names') (steps later : List FlatStep) where
  same_step : (i : ℕ) → i < length steps → step_at (steps ++ later) i ≡ step_at steps i
  same_step i lt = get_or_append_left steps later a_step.Skip i lt

  pub spelled_more : (i : ℕ) (tree : Tree) (to : ℕ) → to ≤ length steps → IsSpelled n names steps i tree to → IsSpelled n' names' (steps ++ later) i tree to
  spelled_more i done to le h = h
  spelled_more i (plain s rest) to le h =
      let c = spelled_count n names steps (i + 1) rest to h.1 in
      (step_more n names n' names' (step_at steps i) (step_at (steps ++ later) i) s (same_step i (omega arith)) a h.0, spelled_more (i + 1) rest to le h.1)
  spelled_more i (fork x body rest) to le h =
      let b = spelled_count n names steps (i + 1) body h.1 h.4 in
      let c = spelled_count n names steps h.1 rest to h.5 in
      (h.0, h.1, same_step i (omega arith) ∙ h.2, name_more n names n' names' h.0 x a h.3, spelled_more (i + 1) body h.1 (omega arith) h.4, spelled_more h.1 rest to le h.5)
  spelled_more i (loop k body rest) to le h =
      let b = spelled_count n names steps (i + 1) body h.0 h.3 in
      let c = spelled_count n names steps h.0 rest to h.4 in
      (h.0, same_step i (omega arith) ∙ h.1, h.2, spelled_more (i + 1) body h.0 (omega arith) h.3, spelled_more h.0 rest to le h.4)
