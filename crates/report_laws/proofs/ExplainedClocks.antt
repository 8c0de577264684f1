-- The explanation of a clock text, and the report of `clock`.
use Rattle.std.proofs.Common.{◌≡◌, ◌∙◌, ◌++◌, ◌+◌, ℕ, suc, Bool, true, false, Some, None, List, [], ◌∷◌, ap, append_assoc, arith, cond, inl, inr, length, refl, subst, sym}
use Rattle.std.specs.Prelude.{◌↔◌, IsSome, Ok, codes, count_by, decimal, flat_map, if◌then◌else◌, slice_get}
use Rattle.std.proofs.lemmas.List.Sums.{sum_by-cons}
use Rattle.armus_base.specs.declared.ending.TaskEnd.{TaskEnd}
use Rattle.armus_base.specs.declared.ending.TaskEnd.TheVariants as ends
use Rattle.armus_base.specs.declared.event.Event.{Event}
use Rattle.armus_base.specs.Deadlocks.{IsDeadBy}
use Rattle.armus_base.specs.Finals.{end_by, end_of, final_of}
use Rattle.armus_base.specs.Plans.{Plan}
use Rattle.armus_base.specs.Runs.{IsMaximal, IsPlainRun, state_after}
use Rattle.armus_base.specs.States.{State}
use Rattle.armus_base.proofs.AvoidanceAgrees.{plain_unrefused}
use Rattle.armus_base.proofs.DeadByStatuses.{dead_by_final, run_is_of_plan}
use Rattle.armus_base.specs.calls.FinalLaws.{IsOfPlan}
use Rattle.armus_base.specs.declared.ids.TaskId.{TaskId}
use Rattle.armus_base.specs.declared.status.Status.{Status}
use Rattle.adaptive.specs.declared.analysis.Wanted.{Wanted}
use Rattle.pl_plan.specs.Unfolding.{◌>>=◌}
use Rattle.pl_syntax.specs.Printed.{line}
use Rattle.clock_syntax.specs.Trees.{ClockTree}
use Rattle.clock_semantics.specs.Unfolding.{ClockUnfolding, clock_plan_of, clock_unfolded, plan_of_moves}
use Rattle.report.specs.Counts.{counts_of, is_dead, is_done, is_held, is_refused, is_unforked}
use Rattle.report.specs.Lines.{counts_line, cycle_line, task_lines}
use Rattle.report.specs.Reports.{IsSomeDead}
use Rattle.report.proofs.OneReport.{one_cycle_text}
use Rattle.report.specs.Standings.{AreStandings, Stands}
use Rattle.report.specs.declared.standing.Standing.{Standing}
use Rattle.report.specs.declared.standing.Standing.TheVariants as way
use Rattle.explain_clock.specs.ClockCircles.{IsClockCircle, clock_verdict_line}
use Rattle.explain_clock.specs.ClockExplanations.{clock_end, ended_counts, is_ended, is_unstarted, paragraph_saying, paragraph_sayings, some_activity_waits, waiting_counts, waits_there}
use Rattle.command_line.specs.declared.command.RunKind.TheVariants.{Plain}
use Rattle.program_io.specs.Texts.{Text}
use Rattle.armus_top.specs.ClockRuns.{IsClockRunOf}
use Rattle.armus_top.specs.DeadStatus.{TellsDead}
use Rattle.armus_top.specs.Runs.{IsRunOf}
use Rattle.armus_top.proofs.OneClockPlan.{checked_clock_plan}
use Rattle.explain.specs.ClockExplained.{IsClockExplanationOf}
use Rattle.report_laws.proofs.Explained.{some_dead}
use Rattle.explain.specs.Explained.{SomeWaits}
use Rattle.explain.specs.Requests.{Form}
use Rattle.explain.proofs.ClockEnds.{clocks_tell_waiting}
use Rattle.report_laws.specs.ExplainedClocks.{CountAlike, ExplainsAsClock}
use Rattle.report_laws.specs.ReportedStandings.{AreStandingsIn}
use Rattle.report_laws.proofs.OneAnswer.{one_clock_plan}
use Rattle.report_laws.proofs.ReportedStandings.{activities_stand_as_reported, dead_waits, not_refused}

-- ---- counts

-- one where it is so, and none else
abbrev one_if : Bool → ℕ
one_if b = cond b 1 0

one_more : {A : Type 0} (p : A → Bool) (x : A) (xs : List A) → count_by p (x ∷ xs) ≡ one_if (p x) + count_by p xs
one_more p x xs = sum_by-cons (λ y. cond (p y) 1 0) x xs

-- these ends and standings have the same counts, and nobody stands as held or refused
record CountSame (all : List TaskEnd) (standings : List Standing) : Type 0 where
  done : count_by is_ended all ≡ count_by is_done standings
  waiting : count_by waits_there all ≡ count_by is_dead standings
  unstarted : count_by is_unstarted all ≡ count_by is_unforked standings
  held : count_by is_held standings ≡ 0
  refused : count_by is_refused standings ≡ 0

-- and so it is with one of each
record OneSame (end : TaskEnd) (s : Standing) : Type 0 where
  done : one_if (is_ended end) ≡ one_if (is_done s)
  waiting : one_if (waits_there end) ≡ one_if (is_dead s)
  unstarted : one_if (is_unstarted end) ≡ one_if (is_unforked s)
  held : one_if (is_held s) ≡ 0
  refused : one_if (is_refused s) ≡ 0

one_same : (P : Type 0) (end : TaskEnd) (s : Standing) → Stands P end s → ((e : Event) → s ≡ way.Held e → ⊥) → ((e : Event) → s ≡ way.Refused e → ⊥) → OneSame end s
one_same P ends.Done s is no_held no_refused =
    subst (OneSame ends.Done) (sym is) (record { done = refl; waiting = refl; unstarted = refl; held = refl; refused = refl })
one_same P ends.Unforked s is no_held no_refused =
    subst (OneSame ends.Unforked) (sym is) (record { done = refl; waiting = refl; unstarted = refl; held = refl; refused = refl })
one_same P (ends.Refused e) s is no_held no_refused = absurd (no_refused e is)
one_same P (ends.Blocked e) s (inl (dead, is)) no_held no_refused =
    subst (OneSame (ends.Blocked e)) (sym is) (record { done = refl; waiting = refl; unstarted = refl; held = refl; refused = refl })
one_same P (ends.Blocked e) s (inr (alive, is)) no_held no_refused = absurd (no_held e is)

counts_same : (P : ℕ → Type 0) (all : List TaskEnd) (standings : List Standing) → AreStandings P all standings
    → ((t : ℕ) (e : Event) → slice_get standings t ≡ Some (way.Held e) → ⊥) → ((t : ℕ) (e : Event) → slice_get standings t ≡ Some (way.Refused e) → ⊥)
    → CountSame all standings
counts_same P [] [] stand no_held no_refused = record { done = refl; waiting = refl; unstarted = refl; held = refl; refused = refl }
counts_same P [] (s ∷ standings) stand no_held no_refused = absurd (let e = stand.sized in omega (arith, e))
counts_same P (x ∷ all) [] stand no_held no_refused = absurd (let e = stand.sized in omega (arith, e))
counts_same P (x ∷ all) (s ∷ standings) stand no_held no_refused =
    let sized = stand.sized in
    let rest : AreStandings (λ t. P (suc t)) all standings =
    record { sized = omega (arith, sized); each = λ t e d lt. stand.each (suc t) e d (omega (arith, lt)) } in
    let more = counts_same (λ t. P (suc t)) all standings rest (λ t e is. no_held (suc t) e is) (λ t e is. no_refused (suc t) e is) in
    let here = one_same (P 0) x s (stand.each 0 x s (omega arith)) (λ e is. no_held 0 e (ap Some is)) (λ e is. no_refused 0 e (ap Some is)) in
    record {
      done = omega (arith, more.done, here.done, one_more is_ended x all, one_more is_done s standings);
      waiting = omega (arith, more.waiting, here.waiting, one_more waits_there x all, one_more is_dead s standings);
      unstarted = omega (arith, more.unstarted, here.unstarted, one_more is_unstarted x all, one_more is_unforked s standings);
      held = omega (arith, more.held, here.held, one_more is_held s standings);
      refused = omega (arith, more.refused, here.refused, one_more is_refused s standings);
    }

-- ---- plans

plan_is : (program : ClockTree) (u : ClockUnfolding) → clock_unfolded program ≡ Ok u → clock_plan_of program ≡ Ok (plan_of_moves u)
unfolding clock_plan_of
plan_is program u is = ap (λ o. o >>= λ s. Ok (plan_of_moves s)) is

-- ---- lines

-- the first line with these counts
abbrev first_line : ℕ → ℕ → ℕ → ℕ → Text
first_line n m k l = line (codes "activities " ++ decimal n ++ codes " ended " ++ decimal m ++ codes " waiting " ++ decimal k ++ codes " unstarted " ++ decimal l)

cut_so : (a n b m c k d l z r s : Text) → (a ++ n ++ b ++ m) ++ ((c ++ k ++ d ++ l) ++ z) ++ r ++ s ≡ ((a ++ n ++ b ++ m ++ c ++ k ++ d ++ l) ++ z) ++ (r ++ s)
cut_so a n b m c k d l z r s = simp append_assoc refl

first_of_four : (a b c d : Text) → a ++ b ++ c ++ d ≡ a ++ (b ++ c ++ d)
first_of_four a b c d = simp append_assoc refl

module _ (form : Form) (text : Text) (status number : ℕ) (lines report : Text) (g : Wanted) (x : IsClockExplanationOf form text status lines)
    (r : IsClockRunOf text Plain g number report) where
  abbrev moves : Plan
  moves = plan_of_moves x.unfolded

  abbrev plan : Plan
  plan = r.plan

  abbrev run : IsRunOf plan g number report
  run = r.run

  plans : plan ≡ moves
  plans = one_clock_plan text plan moves r.plan_is (x.program, x.ended.reads, plan_is x.program x.unfolded x.ended.unfolds)

  there : state_after x.steps ≡ run.state
  there =
      run.every x.steps (subst (λ (q : Plan). IsPlainRun q x.steps) (sym plans) x.ended.run) (subst (λ (q : Plan). IsMaximal q x.steps) (sym plans) x.ended.maximal)

  abbrev all : List TaskEnd
  all = x.explains.tells.facts.ends

  ends_are : all ≡ (final_of plan run.state).ends
  ends_are =
      x.explains.tells.are_facts.ends_are ∙ ap (λ (s : State). (final_of moves s).ends) there ∙ ap (λ (q : Plan). (final_of q run.state).ends) (sym plans)

  abbrev standings : List Standing
  standings = run.report_is.standings

  stand : AreStandings (IsDeadBy (final_of plan run.state).blocked) all standings
  stand = subst (λ es. AreStandings (IsDeadBy (final_of plan run.state).blocked) es standings) (sym ends_are) run.report_is.stand

  in_state : AreStandingsIn plan run.state standings
  in_state = activities_stand_as_reported text plan g number report r.plan_is run

  no_held : (t : ℕ) (e : Event) → slice_get standings t ≡ Some (way.Held e) → ⊥
  no_held t e is = r.unheld run.state t run.final ((in_state t (way.Held e)).0 is).1.0

  no_refused : (t : ℕ) (e : Event) → slice_get standings t ≡ Some (way.Refused e) → ⊥
  no_refused t e is =
      let none : run.state.refused t ≡ None =
      subst (λ (s : State). s.refused t ≡ None) run.final.there
      (plain_unrefused plan (checked_clock_plan text plan r.plan_is) run.final.steps run.final.run t) in
      let end : end_of run.state t ≡ ends.Refused e = ((in_state t (way.Refused e)).0 is).1 in
      not_refused (run.state.forked t) (run.state.published t) e
      (subst (λ o. end_by (run.state.forked t) (run.state.published t) o ≡ ends.Refused e) none end)

  counted : CountSame all standings
  counted = counts_same (IsDeadBy (final_of plan run.state).blocked) all standings stand no_held no_refused

  count_alike : CountAlike standings x.explains.whole report
  count_alike =
      let f = x.explains.tells.facts in
      let nobody = clock_verdict_line f x.explains.tells.circle (some_activity_waits all) in
      let said = flat_map (paragraph_saying f) (paragraph_sayings f x.explains.tells.circle) in
      let hint = clock_end f moves x.explains.tells.circle (some_activity_waits all) in
      let paragraphs = said ++ hint in
      let c = counts_of standings in
      record {
        rest = nobody ++ paragraphs;
        others = task_lines standings ++ run.report_is.cycle_text ++ run.report_is.graph_text;
        lines_are = x.explains.tells.lines_are
            ∙ append_assoc (ended_counts all ++ waiting_counts all ++ nobody) said hint
            ∙ cut_so (codes "activities ") (decimal (length all)) (codes " ended ") (decimal (count_by is_ended all)) (codes " waiting ")
            (decimal (count_by waits_there all)) (codes " unstarted ") (decimal (count_by is_unstarted all)) (10 ∷ []) nobody paragraphs
            ∙ ap (λ n. first_line n (count_by is_ended all) (count_by waits_there all) (count_by is_unstarted all) ++ (nobody ++ paragraphs)) (sym stand.sized)
            ∙ ap (λ n. first_line c.tasks n (count_by waits_there all) (count_by is_unstarted all) ++ (nobody ++ paragraphs)) counted.done
            ∙ ap (λ n. first_line c.tasks c.done n (count_by is_unstarted all) ++ (nobody ++ paragraphs)) counted.waiting
            ∙ ap (λ n. first_line c.tasks c.done c.dead n ++ (nobody ++ paragraphs)) counted.unstarted;
        report_is = run.report_is.lines
            ∙ first_of_four (counts_line c) (task_lines standings) run.report_is.cycle_text run.report_is.graph_text;
        held = counted.held;
        refused = counted.refused;
      }

  -- ---- the circle

  of_plan : IsOfPlan plan run.state
  of_plan = subst (IsOfPlan plan) run.final.there (run_is_of_plan plan run.final.steps (checked_clock_plan text plan r.plan_is) run.final.run.0)

  blocked_are : x.explains.tells.facts.blocked ≡ (final_of plan run.state).blocked
  blocked_are =
      x.explains.tells.are_facts.blocked_are ∙ ap (λ (s : State). (final_of moves s).blocked) there ∙ ap (λ (q : Plan). (final_of q run.state).blocked) (sym plans)

  circle_is : IsClockCircle (final_of plan run.state).blocked x.explains.tells.circle
  circle_is = subst (λ (ss : List Status). IsClockCircle ss x.explains.tells.circle) blocked_are x.explains.tells.circle_is

  cycle_of : IsSomeDead (final_of plan run.state).blocked → (circle : List TaskId) → IsClockCircle (final_of plan run.state).blocked circle
      → run.report_is.cycle_text ≡ cycle_line circle
  cycle_of some circle (inl (none, empty)) = absurd (none some)
  cycle_of some circle (inr reported) =
      one_cycle_text (final_of plan run.state).blocked run.report_is.cycle_text (cycle_line circle) run.report_is.cycle (inr (circle, reported, refl))

  shows_circle : number ≡ 1 → run.report_is.cycle_text ≡ cycle_line x.explains.tells.circle
  shows_circle one =
      let (t, dead) = some_dead run.state number run.status_is one in
      cycle_of (t, (dead_by_final plan run.state t of_plan).1 dead) x.explains.tells.circle circle_is

  -- ---- the status

  told : (x.waits ≡ true) ↔ SomeWaits (state_after x.steps)
  told = clocks_tell_waiting form text x.program x.unfolded x.steps lines x.waits x.ended x.explains

  status_by : (b : Bool) → x.waits ≡ b → TellsDead run.state number → status ≡ number
  status_by true on (inl (one, dead)) = x.status_is ∙ ap (λ (b : Bool). if b then 1 else 0) on ∙ sym one
  status_by true on (inr (zero, nobody)) =
      let (t, (e, waits)) = subst SomeWaits there (told.0 on) in
      absurd (r.unheld run.state t run.final (subst IsSome (sym waits) refl, nobody t))
  status_by false off (inl (one, (t, dead))) =
      let on = told.1 (subst SomeWaits (sym there) (t, dead_waits run.state t dead)) in absurd (cc)
  status_by false off (inr (zero, nobody)) = x.status_is ∙ ap (λ (b : Bool). if b then 1 else 0) off ∙ sym zero

pub explains_as_clock : ExplainsAsClock
explains_as_clock form text status number lines report g x r = (
  status_by form text status number lines report g x r x.waits refl r.run.status_is,
  count_alike form text status number lines report g x r,
  shows_circle form text status number lines report g x r,
)
