-- One more step of a run.
use Rattle.std.proofs.Common.{◌≡◌, ◌∙◌, ℕ, suc, ◌+◌, ◌-◌, ◌*◌, ◌<◌, ◌≤◌, List, [], ◌∷◌, ◌++◌, Some, length, length-append, drop, ap, arith, inl, inr, refl, subst, sym}
use Rattle.std.proofs.lemmas.Bool.{cases_lt}
use Rattle.armus_base.specs.CheckedPlans.{IsCheckedPlan}
use Rattle.armus_base.specs.declared.ending.Final.{Final}
use Rattle.armus_base.specs.Finals.{final_of}
use Rattle.armus_base.specs.Limits.{max_ops}
use Rattle.armus_base.specs.Plans.{Action, Plan, action_at, code_of}
use Rattle.armus_base.specs.Runs.{IsMaximal, IsPlainRun, Place, places, state_after, IsOwnNextStep}
use Rattle.armus_base.specs.States.{Step}
use Rattle.armus_base.proofs.Again.{in_code_plain}
use Rattle.armus_base.proofs.MaximalExists.{ends_or_goes}
use Rattle.armus_base.proofs.Members.{by_code_next, plain_undropped}
use Rattle.armus_base.proofs.Tasks.{action_of_task}
use Rattle.pl_core.specs.calls.Moves.{IsWorldStep}
use Rattle.pl_core.specs.calls.Stands.{IsEnabled}
use Rattle.pl_core.specs.Tasks.{IsAtOp}
use Rattle.pl_core.specs.calls.Worlds.{IsOpeningWorld, WorldValue, action_by_code, state_of}
use Rattle.pl_syntax.specs.declared.tree.Program.{Program}
use Rattle.locked_world.specs.Journals.{journal_of}
use Rattle.schedule.specs.inside.Following.{IsAt}
use Rattle.schedule.proofs.Following.{state_is}
use Rattle.schedule.proofs.JournalFits.{journal_fits_plan}
use Rattle.schedule.proofs.LineByLine.{enabled_from, opening_is, step_follows}
use Rattle.explain_tasks.specs.Places.{said_of}
use Rattle.explain_steps.specs.SerialRuns.{IsSerialRun, TaskMayGoOn}
use Rattle.explain_steps.specs.ShownSteps.{AreLinesOf, IsLineOf, LineWords, first_steps, most_shown, more_steps_line}
use Rattle.explain_steps.specs.StepWords.{shown_step_line}
use Rattle.explain_steps.specs.calls.SteppedRuns.{HasNextLine, IsRunBy, IsSteppedRun, next_line}
use Rattle.explain_facts.specs.declared.facts.TextFacts.{TextFacts}
use Rattle.explain_steps.specs.declared.stepping.SteppedRun.{SteppedRun}
use Rattle.explain_steps.specs.declared.stepping.Stepping.{Stepping}
use Rattle.explain_facts.specs.calls.Known.{AreKnownFacts, kept_layout}
use Rattle.explain_steps.specs.inside.SoFar.{IsSoFar}

-- ---- which steps are shown

-- one more of those that are shown
pub shown_more : (e : Step) (h : List Step) → length h < most_shown → first_steps most_shown (e ∷ h) ≡ e ∷ h
shown_more e h l =
    let none : length (e ∷ h) - most_shown ≡ 0 = let one : length (e ∷ h) ≡ suc (length h) = refl in omega (arith, l, one) in
    ap (λ n. drop n (e ∷ h)) none

pub shown_all : (h : List Step) → length h < most_shown → first_steps most_shown h ≡ h
shown_all h l = let none : length h - most_shown ≡ 0 = omega (arith, l) in ap (λ n. drop n h) none

-- one more that is not shown
pub shown_same : (e : Step) (h : List Step) → most_shown ≤ length h → first_steps most_shown (e ∷ h) ≡ first_steps most_shown h
shown_same e h l =
    let more : length (e ∷ h) - most_shown ≡ suc (length h - most_shown) = let one : length (e ∷ h) ≡ suc (length h) = refl in omega (arith, l, one) in
    ap (λ n. drop n (e ∷ h)) more

-- ---- a world that follows a run

-- a task that may go on after a run is enabled in a world at its end
pub enabled_there : (w : WorldValue) (h : List Step) (t : ℕ) → IsAt w h → TaskMayGoOn w.plan h t → IsEnabled w t
enabled_there w h t at (x, by_code, legal) = enabled_from w.plan w h t x refl at (record { by_code = by_code; legal = legal })

-- the last step of a plain run is the next by its task's code
pub own_next : (plan : Plan) (e : Step) (h : List Step) → IsPlainRun plan (e ∷ h) → action_at plan e.task (places h e.task).done ≡ Some e.action
own_next plan e h run =
    by_code_next plan e.task (places h e.task).done (places h e.task).dropped e.action (plain_undropped plan h (run.0.0, run.1.0) e.task) run.0.1.by_code
    ∙ ap Some (in_code_plain e.action run.1.1)

-- so after the steps before it, it may be made
pub last_may_go_on : (plan : Plan) (e : Step) (h : List Step) → IsPlainRun plan (e ∷ h) → TaskMayGoOn plan h e.task
last_may_go_on plan e h run = (e.action, own_next plan e h run, run.0.1.legal)

-- the line of the next step is that of the step
line_there : (words : LineWords) (w : WorldValue) (h : List Step) (t number : ℕ) (x : Action) (old new : List ℕ) → IsAt w h
    → action_at w.plan t (places h t).done ≡ Some x → number ≡ length h + 1 → HasNextLine words number w t old new
    → (line : List ℕ) × IsLineOf words w.plan h (record { task = t; action = x }) line × (new ≡ old ++ line)
line_there words w h t number x old new at next counted goes = (
  words w.plan (length h + 1) (state_after h) t x goes.op,
  record { op = goes.op; stands = subst (λ (a : ℕ → Place). IsAtOp (code_of w.plan t) (a t).done goes.op) at.there goes.stands; line_is = refl },
  goes.is ∙ ap (λ (line : List ℕ). old ++ line) is,
)
  where
    by_code : action_by_code w t ≡ Some x
    by_code = ap (λ (a : ℕ → Place). action_at w.plan t (a t).done) at.there ∙ next

    is : next_line words number w t goes.op ≡ words w.plan (length h + 1) (state_after h) t x goes.op
    is =
        ap (said_of (λ y. words w.plan number (state_of w) t y goes.op)) by_code
        ∙ ap (λ n. words w.plan n (state_of w) t x goes.op) counted
        ∙ ap (λ s. words w.plan (length h + 1) s t x goes.op) (state_is w h at)

-- ---- one more step

module _ (words : LineWords) (old new : Stepping) (t : ℕ) (h : List Step) (so_far : IsSoFar words h old) (makes : IsWorldStep old.world new.world t)
    (least : (u : ℕ) → u < t → IsEnabled old.world u → ⊥) (counted : new.steps ≡ old.steps + 1)
    (shown : old.steps < most_shown → HasNextLine words (old.steps + 1) old.world t old.lines.items new.lines.items)
    (rest : most_shown ≤ old.steps → new.lines.items ≡ old.lines.items) where
  follows : (x : Action) × IsOwnNextStep old.world.plan h t x × IsAt new.world (record { task = t; action = x } ∷ h)
  follows = step_follows old.world.plan old.world new.world h t refl so_far.at makes

  abbrev e : Step
  e = record { task = t; action = follows.0 }

  next : action_at old.world.plan t (places h t).done ≡ Some follows.0
  next = follows.1.by_code

  at : IsAt new.world (e ∷ h)
  at = follows.2

  run : IsPlainRun old.world.plan (e ∷ h)
  run = subst (λ (q : Plan). IsPlainRun q (e ∷ h)) makes.plan at.run

  serial : IsSerialRun old.world.plan (e ∷ h)
  serial = (so_far.serial, record { next = run.0.1; plain = run.1.1; least = λ u less may. least u less (enabled_there old.world h u so_far.at may) })

  lines : AreLinesOf words old.world.plan (first_steps most_shown (e ∷ h)) new.lines.items
  lines = elim (cases_lt old.steps most_shown) [
    | inl below ↦
        let few : length h < most_shown = subst (λ n. n < most_shown) so_far.counted below in
        let before : AreLinesOf words old.world.plan h old.lines.items =
        subst (λ (g : List Step). AreLinesOf words old.world.plan g old.lines.items) (shown_all h few) so_far.lines in
        let (line, is_line, is) = line_there words old.world h t (old.steps + 1) follows.0 old.lines.items new.lines.items so_far.at next
        (ap (λ n. n + 1) so_far.counted) (shown below) in
        subst (λ (g : List Step). AreLinesOf words old.world.plan g new.lines.items) (sym (shown_more (record { task = t; action = follows.0 }) h few))
        (old.lines.items, line, before, is_line, is)
    | inr above ↦
        let many : most_shown ≤ length h = subst (λ n. most_shown ≤ n) so_far.counted above in
        let same : AreLinesOf words old.world.plan (first_steps most_shown h) new.lines.items =
        subst (AreLinesOf words old.world.plan (first_steps most_shown h)) (sym (rest above)) so_far.lines in
        subst (λ (g : List Step). AreLinesOf words old.world.plan g new.lines.items) (sym (shown_same (record { task = t; action = follows.0 }) h many)) same
  ]

  pub one_more : (d : Step) × IsSoFar words (d ∷ h) new
  one_more = (
    e,
    record {
      at = at;
      serial = subst (λ (q : Plan). IsSerialRun q (e ∷ h)) (sym makes.plan) serial;
      counted = counted ∙ ap (λ n. n + 1) so_far.counted ∙ one;
      lines = subst (λ (q : Plan). AreLinesOf words q (first_steps most_shown (e ∷ h)) new.lines.items) (sym makes.plan) lines;
    },
  )
    where
      one : length h + 1 ≡ length (e ∷ h)
      one = omega arith

-- ---- the beginning, and the end

pub none_yet : (words : LineWords) (plan : Plan) (s : Stepping) → IsCheckedPlan plan → IsOpeningWorld plan s.world → s.steps ≡ 0 → s.lines.items ≡ []
    → IsSoFar words [] s
none_yet words plan s checked opens none empty = record { at = opening_is plan s.world checked opens; serial = tt; counted = none; lines = empty }

pub journal_length : (h : List Step) → length (journal_of h) ≡ length h
journal_length [] = refl
journal_length (e ∷ h) =
    let more = length-append (journal_of h) (record { 0 = e.task } ∷ []) in
    let rest = journal_length h in
    omega (arith, more, rest)

-- a run has no more steps than its plan has actions
pub few_steps : (words : LineWords) (h : List Step) (s : Stepping) → IsSoFar words h s → s.steps ≤ 2 * max_ops
few_steps words h s so_far =
    let fits = (journal_fits_plan s.world.plan (journal_of h) h so_far.at.checked (record { run = so_far.at.run; tasks = refl })).few in
    let same = journal_length h in
    omega (arith, fits, same, so_far.counted)

-- where no task may go on, the run is whole
pub whole_there : (w : WorldValue) (h : List Step) → IsAt w h → ((t : ℕ) → t < length w.plan.parents → IsEnabled w t → ⊥) → IsMaximal w.plan h
whole_there w h at quiet t forked = elim (ends_or_goes w.plan at.checked h at.run t) [
  | inl ends ↦ ends forked
  | inr (e, run) ↦
      absurd (quiet e.task (action_of_task w.plan at.checked e.task (places h e.task).done e.action (own_next w.plan e h run))
      (enabled_there w h e.task at (last_may_go_on w.plan e h run)))
]

-- a run that has come to its end
module _ (words : LineWords) (plan : Plan) (run : Stepping) (h : List Step) (so_far : IsSoFar words h run) (same : run.world.plan ≡ plan)
    (quiet : (t : ℕ) → t < length run.world.plan.parents → IsEnabled run.world t → ⊥) (lines : List ℕ) (end : Final)
    (lines_are : lines ≡ run.lines.items ++ more_steps_line (run.steps - most_shown)) (end_is : end ≡ final_of run.world.plan (state_of run.world)) where
  by_world : IsRunBy words run.world.plan (record { lines = lines; world = run.world; end = end })
  by_world = record {
    steps = h;
    whole = record { serial = so_far.serial; maximal = whole_there run.world h so_far.at quiet };
    shows = record {
      shown = run.lines.items;
      each = so_far.lines;
      lines_are = lines_are ∙ ap (λ n. run.lines.items ++ more_steps_line (n - most_shown)) so_far.counted;
    };
    plan_is = refl;
    there = so_far.at.there;
    end_is = end_is;
  }

  pub run_by : IsRunBy words plan (record { lines = lines; world = run.world; end = end })
  run_by = let s : SteppedRun = record { lines = lines; world = run.world; end = end } in subst (λ (q : Plan). IsRunBy words q s) same by_world

-- by what is known of a text it is a run of the text's plan
pub stepped_run : (facts : TextFacts) → AreKnownFacts facts → (plan : Plan) (s : SteppedRun) (text : List ℕ) (p : Program) → facts.places.now ≡ text
    → facts.program.now ≡ p → IsRunBy (λ q. shown_step_line (kept_layout facts) facts.program.now) plan s → IsSteppedRun text p plan s
stepped_run facts known plan s text p text_is program_is run =
    let by_facts : IsSteppedRun facts.places.now facts.program.now plan s =
    record {
      steps = run.steps;
      whole = run.whole;
      shown = record { reads = known.reads; layout = kept_layout facts; of_text = refl; is_layout = known.layout; shows = run.shows };
      plan_is = run.plan_is;
      there = run.there;
      end_is = run.end_is;
    } in
    let by_text : IsSteppedRun text facts.program.now plan s = subst (λ (t : List ℕ). IsSteppedRun t facts.program.now plan s) text_is by_facts in
    subst (λ (r : Program). IsSteppedRun text r plan s) program_is by_text
