-- A journal has no more steps than its plan has actions, and only tasks of the plan.
use Rattle.std.proofs.Common.{◌≡◌, ◌<◌, ◌≤◌, ◌*◌, ℕ, zero, suc, List, [], ◌∷◌, length, arith, sym, subst, ap, refl, inl, inr, length-append}
use Rattle.std.specs.Prelude.{Contains, slice_get, sum_by, unwrap_or}
use Rattle.std.proofs.lemmas.List.Elements.{Contains-push_cases}
use Rattle.std.proofs.lemmas.List.Sums.{sum_by-cons}
use Rattle.armus_base.specs.declared.ids.TaskId.{TaskId}
use Rattle.armus_base.specs.declared.op.Op.{Op}
use Rattle.armus_base.specs.declared.op.Op.TheVariants.{Make, Reg, Fork, Adv, Drop, Await}
use Rattle.armus_base.specs.CheckedPlans.{IsCheckedPlan}
use Rattle.armus_base.specs.Limits.{max_ops, max_tasks}
use Rattle.armus_base.specs.Places.{done_by}
use Rattle.armus_base.specs.Plans.{Plan, actions, actions_of}
use Rattle.armus_base.specs.Runs.{IsPlainRun, places}
use Rattle.armus_base.specs.States.{Step}
use Rattle.armus_base.proofs.Elements.{nothing_in_nil}
use Rattle.armus_base.proofs.Members.{plain_step, other_step}
use Rattle.armus_base.proofs.Tasks.{action_of_task, done_within_code}
use Rattle.armus_base.proofs.Sums.{sum_at_most, sum_below, sum_first, sum_more}
use Rattle.armus_base.proofs.OwnSteps.{last_goes_on}
use Rattle.locked_world.specs.Journals.{journal_of}
use Rattle.schedule.specs.calls.Records.{JournalFitsPlan}
use Rattle.schedule.proofs.RecordIsRead.{steps_short}

-- a code has two actions for each op at most
two_each : (ops : List Op) → length (actions_of ops) ≤ 2 * length ops
two_each [] = omega arith
two_each (Make p ∷ ops) = let a = two_each ops in omega arith
two_each (Reg c p ∷ ops) = let a = two_each ops in omega arith
two_each (Fork c ∷ ops) = let a = two_each ops in omega arith
two_each (Adv p ∷ ops) = let a = two_each ops in omega arith
two_each (Drop p ∷ ops) = let a = two_each ops in omega arith
two_each (Await p off ∷ ops) = let a = two_each ops in omega arith

abbrev code_length : List (List Op) → ℕ → ℕ
code_length codes t = length (actions_of (unwrap_or (slice_get codes t) []))

all_codes : (codes : List (List Op)) → sum_below (code_length codes) (length codes) ≤ 2 * sum_by length codes
unfolding sum_below
all_codes [] = omega arith
all_codes (code ∷ codes) =
    let a = sum_first (code_length (code ∷ codes)) (length codes) in
    let b = all_codes codes in
    let c = two_each code in
    omega (arith, sum_by-cons length code codes)

module _ (plan : Plan) (checked : IsCheckedPlan plan) where
  -- who makes a step is a task of the plan
  steps_within : (e : Step) (h : List Step) → IsPlainRun plan (e ∷ h) → e.task < length plan.parents
  steps_within e h run = let next = last_goes_on plan h e run in action_of_task plan checked e.task _ e.action next.by_code

  done_is : (h : List Step) → IsPlainRun plan h → sum_below (done_by (places h)) (length plan.parents) ≡ length h
  unfolding sum_below
  done_is [] run = nothing (length plan.parents)
    where
      nothing : (n : ℕ) → sum_below (λ t. 0) n ≡ 0
      nothing zero = refl
      nothing (suc n) = let a = nothing n in omega arith
  done_is (e ∷ h) run =
      let before : IsPlainRun plan h = (run.0.0, run.1.0) in
      let grown = sum_more (done_by (places h)) (done_by (places (e ∷ h))) e.task (ap (λ v. v.done) (plain_step plan e h run))
      (λ u n. ap (λ v. v.done) (other_step e h u n)) (length plan.parents) (steps_within e h run) in
      omega (arith, grown, done_is h before)

  run_short : (h : List Step) → IsPlainRun plan h → length h ≤ 2 * max_ops
  unfolding actions
  run_short h run =
      let most = sum_at_most (done_by (places h)) (code_length plan.codes) (done_within_code plan checked h run) (length plan.parents) in
      let same : sum_below (code_length plan.codes) (length plan.parents) ≡ sum_below (code_length plan.codes) (length plan.codes) =
      ap (sum_below (code_length plan.codes)) (sym checked.tables.one_code_each) in
      omega (arith, done_is h run, all_codes plan.codes, checked.limits.few_ops)

  journal_length : (h : List Step) → length (journal_of h) ≡ length h
  journal_length [] = refl
  journal_length (e ∷ h) = omega (arith, length-append (journal_of h) (record { 0 = e.task } ∷ []), journal_length h)

  tasks_within : (h : List Step) → IsPlainRun plan h → (t : TaskId) → Contains (journal_of h) t → t.0 < length plan.parents
  tasks_within [] run t m = absurd (nothing_in_nil t m)
  tasks_within (e ∷ h) run t m =
      let before : IsPlainRun plan h = (run.0.0, run.1.0) in
      elim (Contains-push_cases (journal_of h) (record { 0 = e.task }) t m) [
        | inl earlier ↦ tasks_within h before t earlier
        | inr last ↦ subst (λ (u : TaskId). u.0 < length plan.parents) last (steps_within e h run)
      ]

pub journal_fits_plan : JournalFitsPlan
journal_fits_plan plan journal h checked is =
    let within : (t : TaskId) → Contains journal t → t.0 < max_tasks =
    λ t m. omega (arith, tasks_within plan checked h is.run t (subst (λ j. Contains j t) is.tasks m), checked.limits.few_tasks) in
    record {
      tasks = within;
      few = omega (arith, ap length is.tasks, journal_length plan checked h, run_short plan checked h is.run);
      short = steps_short journal (λ t m. omega (arith, within t m));
    }
