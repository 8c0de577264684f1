-- What an explanation tells of each task where the run has ended.
use Rattle.std.proofs.Common.{◌≡◌, ◌∙◌, ◌++◌, ◌<◌, ℕ, Bool, true, Option, Some, None, List, [], ◌∷◌, ap, inl, inr, length, refl, subst, sym}
use Rattle.std.specs.Prelude.{◌⊎◌, Contains, flat_map, map, option_map, slice_get, slice_index_or}
use Rattle.std.proofs.lemmas.Bool.{false≢true}
use Rattle.std.proofs.lemmas.List.Elements.{Contains-append_cases, Contains-append_left, Contains-append_right}
use Rattle.std.proofs.lemmas.Option.{slice_get-get_or}
use Rattle.armus_base.specs.declared.ending.TaskEnd.{TaskEnd}
use Rattle.armus_base.specs.declared.ending.TaskEnd.TheVariants as ends
use Rattle.armus_base.specs.declared.event.Event.{Event}
use Rattle.armus_base.specs.declared.ids.TaskId.{TaskId}
use Rattle.armus_base.specs.CheckedPlans.{IsCheckedPlan}
use Rattle.armus_base.specs.Deadlocks.{IsDeadBy, IsPublishedOn}
use Rattle.armus_base.specs.Finals.{end_by, end_of, final_of, list_below}
use Rattle.armus_base.specs.Plans.{Plan}
use Rattle.armus_base.specs.Runs.{state_after}
use Rattle.armus_base.specs.States.{State}
use Rattle.armus_base.proofs.AvoidanceAgrees.{plain_unrefused}
use Rattle.armus_base.proofs.Elements.{Contains-head, nothing_in_nil}
use Rattle.report.specs.Counts.{counts_of}
use Rattle.report.specs.Lines.{counts_line}
use Rattle.report.specs.Standings.{Stands}
use Rattle.report.specs.declared.standing.Standing.{Standing}
use Rattle.report.specs.declared.standing.Standing.TheVariants as way
use Rattle.explain_facts.specs.RunStates.{done_after}
use Rattle.explain_deadlock.specs.ImpederLines.{group_line, group_of, lines_by, rest_line, rest_of}
use Rattle.explain_deadlock.specs.Laws.{told_in_lines}
use Rattle.explain_deadlock.specs.Paragraphs.{explained_tasks, lines_of_impeders, sayings_of, shown_waiting, tasks_of}
use Rattle.explain_deadlock.specs.RunEnds.{AreFactsAt}
use Rattle.explain_deadlock.specs.VerdictWords.{verdict_line}
use Rattle.explain_deadlock.specs.Verdicts.{shown_of}
use Rattle.explain_deadlock.proofs.EachToldOnce.{each_impeder_told, nothing_twice}
use Rattle.explain_deadlock.proofs.FitsEnds.{all_stand, blocked_is, blocked_waits, of_plan_here, published_is, stands_here, wait_is, wait_told, waiting_is}
use Rattle.explain_deadlock.proofs.RestsAtEnd.{leads_there}
use Rattle.explain_deadlock.proofs.TasksThat.{that_has}
use Rattle.explain_deadlock.proofs.WaitingAlike.{wait_alike}
use Rattle.explain_facts.specs.declared.account.Forked.{Forked}
use Rattle.explain_facts.specs.declared.account.Waiting.{Waiting}
use Rattle.explain_tasks.specs.declared.impeders.Impeder.{Impeder}
use Rattle.explain_tasks.specs.declared.situation.Situation.{Situation}
use Rattle.explain_tasks.specs.declared.situation.Situation.TheVariants.{Deadlocked, HasEnded, Held, NeverForked, NotForkedYet}
use Rattle.explain_tasks.specs.Facts.{FactsValue, facts_of, forking_of, is_waiting, situation_by, situation_of, stands_unforked, tasks_that, wait_of}
use Rattle.explain_tasks.specs.Impeders.{impeders_by_facts}
use Rattle.explain_tasks.specs.Nexts.{next_of}
use Rattle.explain_tasks.specs.Sayings.{Said, own_said, same_said, said_as}
use Rattle.explain_tasks.proofs.EachOnce.{once_has}
use Rattle.explain_tasks.proofs.Filters.{below_is, has_map, passed_from, passed_is}
use Rattle.explain_tasks.proofs.SameSaid.{same_said_is, same_said_itself}
use Rattle.program_io.specs.Texts.{Text}
use Rattle.program_io.proofs.OnePlan.{checked_plan}
use Rattle.explain.specs.Explained.{IsExplanationOf}
use Rattle.explain.specs.Requests.{Form}
use Rattle.report_laws.proofs.ReportedStandings.{not_refused}
use Rattle.report_laws.specs.ToldTasks.{EachTaskIsTold, NamesImpeders, TellsOfEach}

-- ---- situations

unforked_stands : (fork : Option Forked) → stands_unforked (situation_by way.Unforked fork) ≡ true
unforked_stands (Some x) = refl
unforked_stands None = refl

-- who is explained waits or was not forked, and so has not ended
explained_stands : (s : Situation) → (is_waiting s ≡ true) ⊎ (stands_unforked s ≡ true) → s ≡ HasEnded → ⊥
explained_stands s (inl waits) ended = false≢true (sym (ap is_waiting ended) ∙ waits)
explained_stands s (inr unforked) ended = false≢true (sym (ap stands_unforked ended) ∙ unforked)

-- what is told of the event of one that waits
event_told : (f : FactsValue) (t : ℕ) (s : Situation) → is_waiting s ≡ true → (said_as f t s).event ≡ option_map (λ (w : Waiting). w.event) (wait_of f t)
event_told f t Deadlocked waits = refl
event_told f t Held waits = refl
event_told f t HasEnded waits = absurd (cc)
event_told f t NotForkedYet waits = absurd (cc)
event_told f t NeverForked waits = absurd (cc)

-- a task that stands so, and whose situation this is, has this standing
unforked_is : (s : Standing) (fork : Option Forked) → stands_unforked (situation_by s fork) ≡ true → s ≡ way.Unforked
unforked_is way.Unforked fork on = refl
unforked_is way.Done fork on = absurd (cc)
unforked_is (way.Dead e) fork on = absurd (cc)
unforked_is (way.Held e) fork on = absurd (cc)
unforked_is (way.Refused e) fork on = absurd (cc)

-- two that wait for one event, and are both deadlocked or both held, have one standing
alike_by : (P Q : Type 0) (e : Event) (a b : Standing) (x y : Option Forked) → Stands P (ends.Blocked e) a → Stands Q (ends.Blocked e) b
    → situation_by a x ≡ situation_by b y → a ≡ b
alike_by P Q e a b x y (inl (p, is)) (inl (q, also)) same = is ∙ sym also
alike_by P Q e a b x y (inr (p, is)) (inr (q, also)) same = is ∙ sym also
alike_by P Q e a b x y (inl (p, is)) (inr (q, also)) same =
    absurd (let one : Deadlocked ≡ Held = ap (λ s. situation_by s x) (sym is) ∙ same ∙ ap (λ s. situation_by s y) also in cc)
alike_by P Q e a b x y (inr (p, is)) (inl (q, also)) same =
    absurd (let one : Held ≡ Deadlocked = ap (λ s. situation_by s x) (sym is) ∙ same ∙ ap (λ s. situation_by s y) also in cc)

some_event : (o : Option Waiting) (w : Waiting) → o ≡ Some w → option_map (λ (v : Waiting). v.event) o ≡ Some w.event
some_event o w is = ap (option_map (λ (v : Waiting). v.event)) is

not_both : (s : Situation) → is_waiting s ≡ true → stands_unforked s ≡ true → ⊥
not_both Deadlocked waits unforked = cc
not_both Held waits unforked = cc
not_both HasEnded waits unforked = cc
not_both NotForkedYet waits unforked = cc
not_both NeverForked waits unforked = cc

module _ (plan : Plan) (s : State) (counts : ℕ → ℕ) (f : FactsValue) (at : AreFactsAt plan s counts f) where
  abbrev n : ℕ
  n = length plan.parents

  abbrev IsDeadHere : ℕ → Type 0
  IsDeadHere t = IsDeadBy (final_of plan s).blocked t

  abbrev standing : ℕ → Standing
  standing t = slice_index_or f.standings t way.Done

  -- ---- who is explained

  -- who is explained is a task of the plan that waits or was not forked
  explained_is : (t : TaskId) → Contains (explained_tasks f) t → (t.0 < n) × ((is_waiting (situation_of f t.0) ≡ true) ⊎ (stands_unforked (situation_of f t.0) ≡ true))
  explained_is t m = elim (Contains-append_cases (tasks_that is_waiting f) (tasks_that stands_unforked f) t m) [
    | inl waits ↦ let (below, on) = that is_waiting waits in (below, inl on)
    | inr unforked ↦ let (below, on) = that stands_unforked unforked in (below, inr on)
  ]
    where
      that : (test : Situation → Bool) → Contains (tasks_that test f) t → (t.0 < n) × (test (situation_of f t.0) ≡ true)
      that test there =
          let passed = passed_is (λ (u : TaskId). test (situation_of f u.0)) (list_below (λ u. record { 0 = u }) (length f.standings)) t there in
          let below = below_is (λ (u : ℕ). record { 0 = u }) (length f.standings) t passed.0 in
          (subst (λ k. t.0 < k) (all_stand plan s counts f at) (subst (λ k. k < length f.standings) (ap (λ (u : TaskId). u.0) below.2) below.1), passed.1)

  -- and has not ended as done
  explained_goes : (t : TaskId) → Contains (explained_tasks f) t → end_of s t.0 ≡ ends.Done → ⊥
  explained_goes t m done =
      let (below, stands) = explained_is t m in
      let is : standing t.0 ≡ way.Done = subst (λ e. Stands (IsDeadHere t.0) e (standing t.0)) done (stands_here plan s counts f at t.0 below) in
      explained_stands (situation_of f t.0) stands (ap (λ x. situation_by x (forking_of f t.0)) is)

  module _ (unrefused : (t : ℕ) (e : Event) → end_of s t ≡ ends.Refused e → ⊥) where
    -- and each task that is not done is explained
    goes_explained : (t : TaskId) → t.0 < n → (end_of s t.0 ≡ ends.Done → ⊥) → Contains (explained_tasks f) t
    goes_explained t below not_done = by (end_of s t.0) refl
      where
        counted : t.0 < length f.standings
        counted = subst (λ k. t.0 < k) (sym (all_stand plan s counts f at)) below

        by : (end : TaskEnd) → end_of s t.0 ≡ end → Contains (explained_tasks f) t
        by ends.Done is = absurd (not_done is)
        by (ends.Refused e) is = absurd (unrefused t.0 e is)
        by (ends.Blocked e) is =
            Contains-append_left (tasks_that is_waiting f) (tasks_that stands_unforked f) t
            (that_has f is_waiting t counted
            (elim (blocked_waits plan s counts f at t.0 e below is) [ inl dead ↦ ap is_waiting dead.1 | inr held ↦ ap is_waiting held.1 ]))
        by ends.Unforked is =
            let so : standing t.0 ≡ way.Unforked = subst (λ e. Stands (IsDeadHere t.0) e (standing t.0)) is (stands_here plan s counts f at t.0 below) in
            Contains-append_right (tasks_that is_waiting f) (tasks_that stands_unforked f) t
            (that_has f stands_unforked t counted (ap (λ x. stands_unforked (situation_by x (forking_of f t.0))) so ∙ unforked_stands (forking_of f t.0)))

  -- ---- one paragraph

  paragraph_there : (shown : List TaskId) (t : TaskId) → Contains (explained_tasks f) t → Contains (sayings_of f shown) (own_said f t.0) × Contains (tasks_of f (own_said f t.0)) t
  paragraph_there shown t m = (
    once_has same_said same_said_is same_said_itself (map (λ (u : TaskId). own_said f u.0) (shown_waiting f shown ++ explained_tasks f)) (own_said f t.0)
        (has_map (λ (u : TaskId). own_said f u.0) (shown_waiting f shown ++ explained_tasks f) t (Contains-append_right (shown_waiting f shown) (explained_tasks f) t m)),
    passed_from (λ (u : TaskId). same_said (own_said f t.0) (own_said f u.0)) (explained_tasks f) t m (same_said_itself (own_said f t.0)),
  )

  said_there : (x : Said) (t : TaskId) → Contains (tasks_of f x) t → Contains (explained_tasks f) t × (x ≡ own_said f t.0)
  said_there x t m =
      let passed = passed_is (λ (u : TaskId). same_said x (own_said f u.0)) (explained_tasks f) t m in
      (passed.0, same_said_is x (own_said f t.0) passed.1)

  -- ---- its tasks stand alike

  standing_there : (t : TaskId) → t.0 < n → slice_get f.standings t.0 ≡ Some (standing t.0)
  standing_there t below = slice_get-get_or f.standings t.0 way.Done (subst (λ k. t.0 < k) (sym (all_stand plan s counts f at)) below)

  stand_alike : (t u : TaskId) (x : Said) → Contains (tasks_of f x) t → Contains (tasks_of f x) u → standing t.0 ≡ standing u.0
  stand_alike t u x m m' = by (explained_is t (said_there x t m).0).1 (explained_is u (said_there x u m').0).1
    where
      waiters : is_waiting (situation_of f t.0) ≡ true → standing t.0 ≡ standing u.0
      waiters waits =
          let same = (wait_alike f s.phases x t u m m' waits).0 in
          let also = ap is_waiting same ∙ waits in
          let (lt, e, ended, so) = waiting_is plan s counts f at t.0 waits in
          let (lu, d, ended_too, too) = waiting_is plan s counts f at u.0 also in
          let (w, there, w_is) = wait_told plan s counts f at t.0 e lt ended in
          let (v, there_too, v_is) = wait_told plan s counts f at u.0 d lu ended_too in
          let said : own_said f t.0 ≡ own_said f u.0 = sym (said_there x t m).1 ∙ (said_there x u m').1 in
          let events : Some w.event ≡ Some v.event =
          sym (event_told f t.0 (situation_of f t.0) waits ∙ some_event (wait_of f t.0) w there)
          ∙ ap (λ (y : Said). y.event) said
          ∙ event_told f u.0 (situation_of f u.0) also
          ∙ some_event (wait_of f u.0) v there_too in
          let one : d ≡ e = sym v_is ∙ (let same_event : v.event ≡ w.event = cc in same_event) ∙ w_is in
          let stands = subst (λ end. Stands (IsDeadHere t.0) end (standing t.0)) ended (stands_here plan s counts f at t.0 lt) in
          let stands_too = subst (λ end. Stands (IsDeadHere u.0) end (standing u.0)) (ended_too ∙ ap ends.Blocked one) (stands_here plan s counts f at u.0 lu) in
          alike_by (IsDeadHere t.0) (IsDeadHere u.0) e (standing t.0) (standing u.0) (forking_of f t.0) (forking_of f u.0) stands stands_too (sym same)

      by : (is_waiting (situation_of f t.0) ≡ true) ⊎ (stands_unforked (situation_of f t.0) ≡ true)
          → (is_waiting (situation_of f u.0) ≡ true) ⊎ (stands_unforked (situation_of f u.0) ≡ true) → standing t.0 ≡ standing u.0
      by (inl waits) other = waiters waits
      by (inr one) (inr two) = unforked_is (standing t.0) (forking_of f t.0) one ∙ sym (unforked_is (standing u.0) (forking_of f u.0) two)
      by (inr one) (inl waits) =
          absurd (not_both (situation_of f t.0) (ap is_waiting (wait_alike f s.phases x u t m' m waits).0 ∙ waits) one)

  -- ---- who keeps it waiting

  module _ (t : TaskId) (e : Event) (published : IsPublishedOn s t.0 e) where
    below : t.0 < n
    below = (of_plan_here plan s counts f at).published t.0 e published

    ended : end_of s t.0 ≡ ends.Blocked e
    ended = blocked_is plan s counts f at t.0 e published

    waits : is_waiting (situation_of f t.0) ≡ true
    waits = elim (blocked_waits plan s counts f at t.0 e below ended) [ inl dead ↦ ap is_waiting dead.1 | inr held ↦ ap is_waiting held.1 ]

    within : t.0 < length f.standings
    within = subst (λ k. t.0 < k) (sym (all_stand plan s counts f at)) below

    abbrev tasks : List TaskId
    tasks = tasks_of f (own_said f t.0)

    inside : Contains tasks t
    inside =
        (paragraph_there [] t (Contains-append_left (tasks_that is_waiting f) (tasks_that stands_unforked f) t (that_has f is_waiting t within waits))).1

    abbrev behind : List Impeder
    behind = impeders_by_facts f s.phases t.0

    abbrev told : List Said
    told = told_in_lines f s.phases t.0

    lines_by_first : (xs : List TaskId) → tasks ≡ xs → lines_of_impeders f s.phases xs
        ≡ flat_map (λ said. group_line f (length xs) said (group_of f behind said)) told ++ rest_line f (rest_of f behind told)
    lines_by_first [] is = absurd (nothing_in_nil t (subst (λ ys. Contains ys t) is inside))
    lines_by_first (v ∷ rest) is =
        let alike = wait_alike f s.phases (own_said f t.0) t v inside (subst (λ ys. Contains ys v) (sym is) (Contains-head v rest)) waits in
        ap (λ o. lines_by f (length (v ∷ rest)) o (impeders_by_facts f s.phases v.0)) alike.2
        ∙ ap (lines_by f (length (v ∷ rest)) (next_of f s.phases t.0)) alike.1

    names : NamesImpeders f s tasks t
    names = record {
      told = told;
      group = group_of f behind;
      rest = rest_of f behind told;
      lines_are = lines_by_first tasks refl;
      once = (each_impeder_told f s.phases t.0).0;
      exact = λ u. (
        λ m.
            let (w, wait, lt, k, phase, less) = ((each_impeder_told f s.phases t.0).1 u).0 m in
            (w.event, k, published_is plan s counts f at t.0 w.event (wait_is plan s counts f at t.0 w wait).1, phase, less),
        λ (d, k, on, phase, less).
            let (w, wait, is) = wait_told plan s counts f at t.0 d below (blocked_is plan s counts f at t.0 d on) in
            let there = subst (λ j. u.0 < j) (sym (all_stand plan s counts f at)) ((of_plan_here plan s counts f at).member u.0 d.p.0 k phase) in
            ((each_impeder_told f s.phases t.0).1 u).1
            (w, wait, there, k, subst (λ (x : Event). s.phases u.0 x.p.0 ≡ Some k) (sym is) phase, subst (λ (x : Event). k < x.n) (sym is) less),
      );
    }

module _ (form : Form) (text : Text) (status : ℕ) (lines : Text) (e : IsExplanationOf form text status lines) where
  abbrev own_plan : Plan
  own_plan = e.plan

  abbrev end_state : State
  end_state = state_after e.steps

  abbrev end_counts : ℕ → ℕ
  end_counts = done_after e.steps

  abbrev facts : FactsValue
  facts = facts_of text form.file e.explains.tells.account e.explains.tells.explains.standings

  facts_there : AreFactsAt own_plan end_state end_counts facts
  facts_there =
      record { account = e.explains.tells.is_account; reached = leads_there own_plan e.steps e.ended.run.0; stand = e.explains.tells.explains.stand }

  checked : IsCheckedPlan own_plan
  checked = checked_plan text own_plan e.ended.plan_is

  none_refused : (t : ℕ) (v : Event) → end_of end_state t ≡ ends.Refused v → ⊥
  none_refused t v is =
      let s = end_state in
      let none : s.refused t ≡ None = plain_unrefused own_plan checked e.steps e.ended.run t in
      not_refused (s.forked t) (s.published t) v (subst (λ o. end_by (s.forked t) (s.published t) o ≡ ends.Refused v) none is)

  tells : TellsOfEach facts own_plan (state_after e.steps) e.explains.whole
  tells =
      let x = e.explains.tells.explains.explains in
      let shown = shown_of x.verdict in
      record {
        front = counts_line (counts_of e.explains.tells.explains.standings) ++ verdict_line facts x.verdict;
        said = sayings_of facts shown;
        lines_are = (x.verdict, x.is_it);
        once = nothing_twice facts shown;
        told = λ t below not_done.
            paragraph_there own_plan end_state end_counts facts facts_there shown t (goes_explained own_plan end_state end_counts facts facts_there none_refused t below not_done);
        only = λ t y m.
            let (among, is) = said_there own_plan end_state end_counts facts facts_there y t m in
            (is, (explained_is own_plan end_state end_counts facts facts_there t among).0, explained_goes own_plan end_state end_counts facts facts_there t among);
        alike = λ t u y m m'.
            standing_there own_plan end_state end_counts facts facts_there t (explained_is own_plan end_state end_counts facts facts_there t (said_there own_plan end_state end_counts facts facts_there y t m).0).0
            ∙ ap Some (stand_alike own_plan end_state end_counts facts facts_there t u y m m')
            ∙ sym (standing_there own_plan end_state end_counts facts facts_there u
            (explained_is own_plan end_state end_counts facts facts_there u (said_there own_plan end_state end_counts facts facts_there y u m').0).0);
        named = λ t v published. names own_plan end_state end_counts facts facts_there t v published;
      }

pub each_task_is_told : EachTaskIsTold
each_task_is_told form text status lines e = tells form text status lines e
