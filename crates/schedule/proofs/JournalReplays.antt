-- The lines of a journal replay to its run.
use Rattle.std.proofs.Common.{◌≡◌, ℕ, ◌≤◌, List, [], ◌∷◌, ◌++◌, None, length, map, arith, length-append, sym, ◌∙◌, ap, subst, refl}
use Rattle.std.specs.Prelude.{Ok, Err}
use Rattle.std.proofs.lemmas.List.{map-append}
use Rattle.armus_base.specs.declared.ids.TaskId.{TaskId}
use Rattle.armus_base.specs.CheckedPlans.{IsCheckedPlan}
use Rattle.armus_base.specs.Plans.{Action, Plan}
use Rattle.armus_base.specs.Runs.{places, state_after, IsOwnNextStep}
use Rattle.armus_base.specs.States.{Step}
use Rattle.armus_base.proofs.Tasks.{no_action}
use Rattle.locked_world.specs.calls.Journals.{JournalLeadsTo, no_step, one_more as one_step}
use Rattle.locked_world.specs.Journals.{journal_of}
use Rattle.locked_world.proofs.Journals.{each_goes_on, journal_fixes_run, journal_leads}
use Rattle.schedule.specs.declared.lines.Line.{Line}
use Rattle.schedule.specs.declared.lines.Line.TheVariants as line
use Rattle.schedule.specs.declared.verdict.PassVerdict.{PassVerdict}
use Rattle.schedule.specs.declared.verdict.ReplayEnd.TheVariants.{Schedule, NoMemory}
use Rattle.schedule.specs.Passes.{PassLoads}
use Rattle.schedule.specs.Replays.{IsFault, LinesLead, Progress, Takes, load_without_pass, no_line, one_more, second_pass, strange_task, stuck_task, unreadable}
use Rattle.schedule.specs.Replaying.{AreDeadIn, AreVerdicts, no_pass, one_pass}
use Rattle.schedule.specs.calls.Records.{JournalReplays, step_of}

-- the lines of a journal lead to its run
pub journal_progress :
    (plan : Plan) (journal : List TaskId) (h : List Step) → JournalLeadsTo plan journal h →
    LinesLead plan (map step_of journal) (record { run = h; open_pass = None; passes = [] })
journal_progress plan _ _ no_step = no_line
journal_progress plan _ _ (one_step journal h t x leads next) =
    subst (λ ls. LinesLead plan ls (record { run = record { task = t.0; action = x } ∷ h; open_pass = None; passes = [] })) (sym (map-append step_of journal (t ∷ [])))
    (one_more (map step_of journal) (record { run = h; open_pass = None; passes = [] }) (line.Step t.0) _ (journal_progress plan journal h leads)
    (x, record { by_code = next.by_code; legal = next.legal }, refl))

-- the last line of a journal is that of its last task
last_task :
    (lines : List Line) (next : Line) (journal : List TaskId) → lines ++ next ∷ [] ≡ map step_of journal →
    (before : List TaskId) × (t : TaskId) × (journal ≡ before ++ t ∷ []) × (lines ≡ map step_of before) × (next ≡ step_of t)
last_task [] next [] e = absurd (cc)
last_task [] next (t ∷ []) e = ([], t, refl, refl, cc)
last_task [] next (t ∷ (u ∷ ts)) e = absurd (cc)
last_task (l ∷ lines) next [] e = absurd (cc)
last_task (l ∷ lines) next (t ∷ ts) e =
    let head : l ≡ step_of t = cc in
    let tail : lines ++ next ∷ [] ≡ map step_of ts = cc in
    let (before, u, same, front, last) = last_task lines next ts tail in
    (t ∷ before, u, ap (λ xs. t ∷ xs) same, ap (λ m. m ∷ lines) head ∙ ap (λ ms. step_of t ∷ ms) front, last)

-- a line inside is that of a task inside
task_between :
    (before : List Line) (here : Line) (rest : List Line) (journal : List TaskId) → map step_of journal ≡ before ++ here ∷ rest →
    (ahead : List TaskId) × (t : TaskId) × (behind : List TaskId) × (journal ≡ ahead ++ t ∷ behind) × (before ≡ map step_of ahead) × (here ≡ step_of t)
task_between [] here rest [] e = absurd (cc)
task_between [] here rest (t ∷ ts) e = ([], t, ts, refl, refl, cc)
task_between (l ∷ before) here rest [] e = absurd (cc)
task_between (l ∷ before) here rest (t ∷ ts) e =
    let head : l ≡ step_of t = cc in
    let tail : map step_of ts ≡ before ++ here ∷ rest = cc in
    let (ahead, u, behind, same, front, is) = task_between before here rest ts tail in
    (t ∷ ahead, u, behind, ap (λ xs. t ∷ xs) same, ap (λ m. m ∷ before) head ∙ ap (λ ms. step_of t ∷ ms) front, is)

empty_journal : (journal : List TaskId) → [] ≡ map step_of journal → journal ≡ []
empty_journal [] e = refl
empty_journal (t ∷ ts) e = absurd (cc)

-- and only to runs of the journal, with no pass
journal_of_leads :
    (plan : Plan) (lines : List Line) (a : Progress) → LinesLead plan lines a → (journal : List TaskId) → lines ≡ map step_of journal →
    JournalLeadsTo plan journal a.run × (a.open_pass ≡ None) × (a.passes ≡ [])
journal_of_leads plan _ _ no_line journal same = (subst (λ j. JournalLeadsTo plan j []) (sym (empty_journal journal same)) no_step, refl, refl)
journal_of_leads plan _ _ (one_more lines a next b leads takes) journal same =
    let (before, t, is, front, last) = last_task lines next journal same in
    let (led, none, no_passes) = journal_of_leads plan lines a leads before front in
    let (x, goes, there) = subst (λ l. Takes plan a l b) last takes in (
      subst (λ j. JournalLeadsTo plan j b.run) (sym is)
          (subst (λ r. JournalLeadsTo plan (before ++ t ∷ []) r) (sym (ap (λ (p : Progress). p.run) there))
          (one_step before a.run t x led (record { by_code = goes.by_code; legal = goes.legal }))),
      ap (λ (p : Progress). p.open_pass) there ∙ none,
      ap (λ (p : Progress). p.passes) there ∙ no_passes,
    )

-- a task that goes on is at no fault
no_fault :
    (plan : Plan) (a : Progress) (l : Line) (kind : ℕ) → IsCheckedPlan plan → IsFault plan a l kind → (t : ℕ) (x : Action) → l ≡ line.Step t →
    IsOwnNextStep plan a.run t x → ⊥
no_fault plan a _ _ checked unreadable t x e goes = absurd (cc)
no_fault plan a _ _ checked (strange_task u beyond) t x e goes =
    let same : u ≡ t = cc in
    let none = no_action plan checked t (places a.run t).done (subst (λ v. length plan.parents ≤ v) same beyond) in
    let some = goes.by_code in
    absurd (cc)
no_fault plan a _ _ checked (stuck_task u here stuck) t x e goes =
    let same : u ≡ t = cc in
    stuck x (subst (λ v. IsOwnNextStep plan a.run v x) (sym same) (record { by_code = goes.by_code; legal = goes.legal }))
no_fault plan a _ _ checked (load_without_pass none) t x e goes = absurd (cc)
no_fault plan a _ _ checked (second_pass some) t x e goes = absurd (cc)

nothing_behind : {A : Type 0} (xs : List A) (x : A) → xs ++ x ∷ [] ≡ [] → ⊥
nothing_behind [] x e = absurd (cc)
nothing_behind (y ∷ ys) x e = absurd (cc)

no_verdicts : (plan : Plan) (passes : List PassLoads) (verdicts : List PassVerdict) → AreVerdicts plan passes verdicts → passes ≡ [] → verdicts ≡ []
no_verdicts plan _ _ no_pass e = refl
no_verdicts plan _ _ (one_pass passes verdicts loads v before dead) e = absurd (nothing_behind passes loads e)

as_long : (h : List Step) → length (journal_of h) ≡ length h
as_long [] = refl
as_long (e ∷ h) = (let n = as_long h in omega (arith, length-append (journal_of h) (record { 0 = e.task } ∷ [])))

pub journal_replays : JournalReplays
journal_replays plan journal h (Ok done) checked of replays =
    let (led, none, no_passes) = journal_of_leads plan (map step_of journal) replays.progress replays.leads journal refl in
    let same = journal_fixes_run plan journal replays.progress.run h led (journal_leads plan journal h of) in (
      subst (λ r. AreDeadIn (state_after r) done.dead) same replays.dead,
      replays.steps ∙ ap length same ∙ sym (as_long h) ∙ ap length (sym of.tasks),
      no_verdicts plan replays.progress.passes done.verdicts replays.verdicts no_passes,
    )
journal_replays plan journal h (Err (Schedule f)) checked of replays =
    let (ahead, t, behind, is, front, here) = task_between replays.before replays.here replays.rest journal replays.parts in
    let (g, led, x, goes) = each_goes_on plan ahead t behind h (subst (λ j. JournalLeadsTo plan j h) is (journal_leads plan journal h of)) in
    let (own, none, no_passes) = journal_of_leads plan replays.before replays.progress replays.leads ahead front in
    let same = journal_fixes_run plan ahead g replays.progress.run led own in
    no_fault plan replays.progress replays.here f.kind checked replays.fault t.0 x here (subst (λ r. IsOwnNextStep plan r t.0 x) same goes)
journal_replays plan journal h (Err NoMemory) checked of replays = tt
