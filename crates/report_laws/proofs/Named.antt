-- Whoever a replay names is dead at the end of the run of its text.
use Rattle.std.proofs.Common.{suc, ◌≡◌, ◌++◌, ◌+◌, ℕ, List, [], ◌∷◌, Bool, true, false, inl, inr, sym, subst, refl, length, arith, if◌then◌else◌}
use Rattle.std.specs.Prelude.{◌==◌, Contains, None, Some, slice_get}
use Rattle.std.proofs.lemmas.List.Elements.{Contains-append_cases, Contains-append_left, Contains-append_right}
use Rattle.armus_base.specs.declared.ids.TaskId.{TaskId}
use Rattle.armus_base.specs.CheckedPlans.{IsCheckedPlan}
use Rattle.armus_base.specs.DeadLists.{IsDeadList}
use Rattle.armus_base.specs.Deadlocks.{IsDeadBy, IsDeadIn}
use Rattle.armus_base.specs.Plans.{Action, Plan}
use Rattle.armus_base.specs.Runs.{IsFinal, IsPlainRun, state_after, IsOwnNextStep}
use Rattle.armus_base.specs.States.{State, Step}
use Rattle.armus_base.proofs.AvoidanceAgrees.{dead_is_final}
use Rattle.armus_base.proofs.DeadStays.{dead_stays}
use Rattle.armus_base.proofs.Elements.{Contains-cons_cases, Contains-head, nothing_in_nil}
use Rattle.armus_base.proofs.Places.{step_later}
use Rattle.armus_base.proofs.OwnSteps.{plain_longer}
use Rattle.schedule.specs.declared.lines.Line.{Line}
use Rattle.schedule.specs.declared.lines.Line.TheVariants as line
use Rattle.schedule.specs.declared.verdict.PassVerdict.{PassVerdict}
use Rattle.schedule.specs.Passes.{PassLoads, loads_of, statuses_found}
use Rattle.schedule.specs.Replaying.{AreVerdicts, no_pass, one_pass}
use Rattle.schedule.specs.Replays.{LinesLead, Progress, Takes, at_start, no_line, one_more}
use Rattle.schedule.proofs.PassesNameTheDead.{passes_name_the_dead}
use Rattle.program_io.specs.Texts.{Text}
use Rattle.armus_top.specs.DeadStatus.{TellsDead}
use Rattle.armus_top.specs.Replays.{IsReplayOf}
use Rattle.program_io.proofs.OnePlan.{checked_plan}
use Rattle.report_laws.specs.calls.Replayed.{IsNamedInReplay, ReplayTellsAsRun, at_end, by_pass}

module _ (plan : Plan) (checked : IsCheckedPlan plan) where
  -- so far: the run is plain, and whoever a closed pass names is dead after it
  record Keeps (a : Progress) : Type 0 where
    plain : IsPlainRun plan a.run
    lasting : (loads : PassLoads) → Contains a.passes loads → (t : ℕ) → IsDeadBy (statuses_found plan loads) t → IsDeadIn (state_after a.run) t

  starts : Keeps at_start
  starts = record { plain = (tt, tt); lasting = λ loads c. absurd (nothing_in_nil loads c) }

  -- one more step
  stepped : (a : Progress) → Keeps a → (t : ℕ) (x : Action) → IsOwnNextStep plan a.run t x → Keeps (record a { run = record { task = t; action = x } ∷ a.run })
  stepped a kept t x next =
      let run = plain_longer plan a.run t x kept.plain next in
      record {
        plain = run;
        lasting = λ loads c u dead.
            (dead_stays plan a.run (record { task = t; action = x } ∷ a.run) u checked kept.plain.0 run.0
            (step_later a.run (record { task = t; action = x })) (kept.lasting loads c u dead)).0;
      }

  -- the last of these loads is the run
  last_is : (loads : PassLoads) (h : List Step) → (n : ℕ) × (length (loads ++ h ∷ []) ≡ n + 1) × (slice_get (loads ++ h ∷ []) n ≡ Some h)
  last_is [] h = (0, refl, refl)
  last_is (f ∷ loads) h = let more = last_is loads h in (suc more.0, omega (arith, more.1), more.2)

  -- one more load, which closes the pass or not, where a closed one names no task that is not dead now
  loaded_kept : (a : Progress) → Keeps a → (more : PassLoads) (now : Bool)
      → ((t : ℕ) → now ≡ true → IsDeadBy (statuses_found plan more) t → IsDeadIn (state_after a.run) t)
      → Keeps (if now then record a { open_pass = None; passes = a.passes ++ more ∷ [] } else record a { open_pass = Some more })
  loaded_kept a kept more true named =
      record {
        plain = kept.plain;
        lasting = λ loads c t dead.
            elim (Contains-append_cases a.passes (more ∷ []) loads c) [
              | inl old ↦ kept.lasting loads old t dead
              | inr here ↦ elim (Contains-cons_cases more [] loads here) [
                | inl same ↦ named t refl (subst (λ l. IsDeadBy (statuses_found plan l) t) (sym same) dead)
                | inr nothing ↦ absurd (nothing_in_nil loads nothing)
              ]
            ];
      }
  loaded_kept a kept more false named = record { plain = kept.plain; lasting = kept.lasting }

  -- a pass that is closed by these lines is among the closed ones
  closed_now : (a : Progress) (more : PassLoads) (now : Bool) → now ≡ true
      → Contains (if now then record a { open_pass = None; passes = a.passes ++ more ∷ [] } else record a { open_pass = Some more }).passes more
  closed_now a more true is = Contains-append_right a.passes (more ∷ []) more (Contains-head more [])
  closed_now a more false is = absurd (cc)

  takes_kept : (lines : List Line) (a : Progress) (next : Line) (b : Progress) → LinesLead plan lines a → Keeps a → Takes plan a next b → Keeps b
  takes_kept lines a (line.Step t) b leads kept (x, next, is) = subst Keeps (sym is) (stepped a kept t x next)
  takes_kept lines a line.Pass b leads kept (none, is) = subst Keeps (sym is) record { plain = kept.plain; lasting = kept.lasting }
  takes_kept lines a line.Load b leads kept (loads, opened, is) =
      let more = loads ++ a.run ∷ [] in
      let closes = length more == loads_of plan more in
      let all : LinesLead plan (lines ++ line.Load ∷ []) b = one_more lines a line.Load b leads (loads, opened, is) in
      let (n, counted, last) = last_is loads a.run in
      subst Keeps (sym is) (loaded_kept a kept more closes
      (λ t now dead.
      (passes_name_the_dead plan (lines ++ line.Load ∷ []) b more checked all
      (subst (λ (p : Progress). Contains p.passes more) (sym is) (closed_now a more closes now))).last a.run t n counted last dead))
  takes_kept lines a line.Unreadable b leads kept takes = absurd takes

  leads_kept : (lines : List Line) (a : Progress) → LinesLead plan lines a → Keeps a
  leads_kept _ _ no_line = starts
  leads_kept _ _ (one_more lines a next b leads takes) = takes_kept lines a next b leads (leads_kept lines a leads) takes

  -- a verdict is that of a closed pass
  pass_of : (passes : List PassLoads) (verdicts : List PassVerdict) → AreVerdicts plan passes verdicts → (v : PassVerdict) → Contains verdicts v
      → (loads : PassLoads) × Contains passes loads × IsDeadList (statuses_found plan loads) v.dead
  pass_of _ _ no_pass v c = absurd (nothing_in_nil v c)
  pass_of _ _ (one_pass passes verdicts loads w are dead) v c =
      elim (Contains-append_cases verdicts (w ∷ []) v c) [
        | inl old ↦ let (l, there, is) = pass_of passes verdicts are v old in (l, Contains-append_left passes (loads ∷ []) l there, is)
        | inr here ↦ elim (Contains-cons_cases w [] v here) [
          | inl same ↦
              (loads, Contains-append_right passes (loads ∷ []) loads (Contains-head loads []), subst (λ (x : PassVerdict). IsDeadList (statuses_found plan loads) x.dead) same dead)
          | inr nothing ↦ absurd (nothing_in_nil v nothing)
        ]
      ]

module _ (input : Text) (a : ℕ) (p : Text) (replay : IsReplayOf input a p) where
  the_checked : IsCheckedPlan replay.by.plan
  the_checked = checked_plan replay.text replay.by.plan replay.by.reads.plan_is

  kept : Keeps replay.by.plan the_checked replay.by.replayed.progress
  kept = leads_kept replay.by.plan the_checked replay.by.lines replay.by.replayed.progress replay.by.replayed.leads

  -- whoever is named is dead after the replayed steps
  dead_after : (t : TaskId) → IsNamedInReplay replay.done t → IsDeadIn (state_after replay.by.replayed.progress.run) t.0
  dead_after t (by_pass v verdict named) =
      let (loads, closed, is) = pass_of replay.by.plan the_checked replay.by.replayed.progress.passes replay.done.verdicts replay.by.replayed.verdicts v verdict in
      kept.lasting loads closed t.0 ((is.exact t).0 named)
  dead_after t (at_end named) = (replay.by.replayed.dead.exact t).0 named

  dead_in : (f : State) → IsFinal replay.by.plan f → (t : ℕ) → IsDeadIn (state_after replay.by.replayed.progress.run) t → IsDeadIn f t
  dead_in f final t dead = dead_is_final replay.by.plan replay.by.replayed.progress.run f t the_checked kept.plain final dead

one_of : (s f : State) (a b : ℕ) → ((t : ℕ) → IsDeadIn s t → IsDeadIn f t) → TellsDead s a → TellsDead f b → a ≡ 1 → b ≡ 1
one_of s f a b more tells (inl (one, some)) is = one
one_of s f a b more (inl (one, (t, dead))) (inr (zero, nobody)) is = absurd (nobody t (more t dead))
one_of s f a b more (inr (none, nobody)) (inr (zero, alive)) is = absurd (cc)

pub replay_tells_as_run : ReplayTellsAsRun
replay_tells_as_run input g a b p q replay run = (
  λ t named. dead_in input a p replay run.state run.final t.0 (dead_after input a p replay t named),
  one_of (state_after replay.by.replayed.progress.run) run.state a b (dead_in input a p replay run.state run.final) replay.status_is run.status_is,
)
