-- A journal and its run fix each other.
use Rattle.std.proofs.Common.{◌≡◌, List, [], ◌∷◌, ◌++◌, Some, sym, ◌∙◌, ap, subst, refl, inl, inr}
use Rattle.armus_base.specs.declared.ids.TaskId.{TaskId}
use Rattle.armus_base.specs.Plans.{Plan, Action, action_at}
use Rattle.armus_base.specs.Runs.{IsPlainRun, places, IsOwnNextStep}
use Rattle.armus_base.specs.States.{Step}
use Rattle.armus_base.proofs.Lists.{same_ends}
use Rattle.armus_base.proofs.OwnSteps.{last_goes_on, plain_longer}
use Rattle.locked_world.specs.calls.Journals.{JournalLeadsTo, no_step, one_more}
use Rattle.locked_world.specs.Journals.{journal_of}
use Rattle.locked_world.specs.calls.Laws.{EachGoesOn, JournalFixesRun, JournalLeads, LeadsIsJournal}
use Rattle.locked_world.proofs.Ahead.{ahead_of_last}

run_leads : (plan : Plan) (h : List Step) → IsPlainRun plan h → JournalLeadsTo plan (journal_of h) h
run_leads plan [] run = no_step
run_leads plan (e ∷ h) run = one_more (journal_of h) h (record { 0 = e.task }) e.action (run_leads plan h (run.0.0, run.1.0)) (last_goes_on plan h e run)

pub journal_leads : JournalLeads
journal_leads plan journal h of = subst (λ j. JournalLeadsTo plan j h) (sym of.tasks) (run_leads plan h of.run)

pub leads_is_journal : LeadsIsJournal
leads_is_journal plan _ _ no_step = record { run = (tt, tt); tasks = refl }
leads_is_journal plan _ _ (one_more journal h t x leads next) =
    let of = leads_is_journal plan journal h leads in
    record { run = plain_longer plan h t.0 x of.run next; tasks = ap (λ j. j ++ t ∷ []) of.tasks }

-- two plain runs with the same tasks are the same
one_run : (plan : Plan) (h g : List Step) → IsPlainRun plan h → IsPlainRun plan g → journal_of h ≡ journal_of g → h ≡ g
one_run plan [] [] run_h run_g same = refl
one_run plan [] (f ∷ g) run_h run_g same = absurd (none (journal_of g) (record { 0 = f.task }) same)
  where
    none : (ts : List TaskId) (t : TaskId) → [] ≡ ts ++ t ∷ [] → ⊥
    none [] t e = cc
    none (u ∷ ts) t e = cc
one_run plan (e ∷ h) [] run_h run_g same = absurd (none (journal_of h) (record { 0 = e.task }) same)
  where
    none : (ts : List TaskId) (t : TaskId) → ts ++ t ∷ [] ≡ [] → ⊥
    none [] t e = cc
    none (u ∷ ts) t e = cc
one_run plan (e ∷ h) (f ∷ g) run_h run_g same =
    let ends = same_ends (journal_of h) (journal_of g) (record { 0 = e.task }) (record { 0 = f.task }) same in
    let before = one_run plan h g (run_h.0.0, run_h.1.0) (run_g.0.0, run_g.1.0) ends.0 in
    let task = ap (λ t. t.0) ends.1 in
    let own = (last_goes_on plan h e run_h).by_code in
    let other = (last_goes_on plan g f run_g).by_code in
    let there : action_at plan e.task (places h e.task).done ≡ Some f.action =
    subst (λ k. action_at plan e.task (places k e.task).done ≡ Some f.action) (sym before) (subst (λ t. action_at plan t (places g t).done ≡ Some f.action) (sym task) other) in
    let action : e.action ≡ f.action = (let two = sym own ∙ there in cc) in
    ap (λ k. e ∷ k) before ∙ ap (λ t. record { task = t; action = e.action } ∷ g) task ∙ ap (λ x. record { task = f.task; action = x } ∷ g) action

pub journal_fixes_run : JournalFixesRun
journal_fixes_run plan journal h g leads_h leads_g =
    let of_h = leads_is_journal plan journal h leads_h in
    let of_g = leads_is_journal plan journal g leads_g in
    one_run plan h g of_h.run of_g.run (sym of_h.tasks ∙ of_g.tasks)

goes_on_inside :
    (plan : Plan) (before : List TaskId) (t : TaskId) (rest : List TaskId) (h : List Step) → IsPlainRun plan h → journal_of h ≡ before ++ t ∷ rest →
    (g : List Step) × JournalLeadsTo plan before g × (x : Action) × IsOwnNextStep plan g t.0 x
goes_on_inside plan before t rest [] run same = absurd (none before same)
  where
    none : (ts : List TaskId) → [] ≡ ts ++ t ∷ rest → ⊥
    none [] e = cc
    none (u ∷ ts) e = cc
goes_on_inside plan before t rest (e ∷ h) run same =
    elim (ahead_of_last (journal_of h) before rest (record { 0 = e.task }) t same) [
      | inl here ↦ (
        h,
        subst (λ j. JournalLeadsTo plan j h) here.0 (run_leads plan h (run.0.0, run.1.0)),
        e.action,
        subst (λ u. IsOwnNextStep plan h u.0 e.action) here.1 (last_goes_on plan h e run),
      )
      | inr there ↦ goes_on_inside plan before t there.0 h (run.0.0, run.1.0) there.1
    ]

pub each_goes_on : EachGoesOn
each_goes_on plan before t rest h leads =
    let of = leads_is_journal plan (before ++ t ∷ rest) h leads in
    goes_on_inside plan before t rest h of.run (sym of.tasks)
