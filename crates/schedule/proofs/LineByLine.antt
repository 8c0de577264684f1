-- The replay, line by line.
use Rattle.std.proofs.Common.{◌≡◌, ◌≢◌, ◌<◌, ◌≤◌, ◌+◌, ◌∙◌, ◌⊎◌, ℕ, zero, suc, Bool, true, false, List, [], ◌∷◌, ◌++◌, Option, Some, None, length, arith, sym, subst, ap, inl, inr, refl}
use mathlib.Core.Path.{fun_ext}
use Rattle.std.specs.Prelude.{Result, Ok, Err, IfOk, slice_get, is_some, if◌then◌else◌, IsSome, replicate}
use Rattle.armus_base.specs.declared.ids.TaskId.{TaskId}
use Rattle.armus_base.specs.declared.errors.NoMemory.{NoMemory}
use Rattle.armus_base.specs.CheckedPlans.{IsCheckedPlan}
use Rattle.armus_base.specs.DeadLists.{IsDeadList}
use Rattle.armus_base.specs.calls.Finals.{statuses_of}
use Rattle.armus_base.specs.Plans.{Plan, Action, action_at}
use Rattle.armus_base.specs.Runs.{first_place, IsPlainRun, moved, places, state_after, IsOwnNextStep}
use Rattle.armus_base.specs.States.{State, Step, IsLegal}
use Rattle.armus_base.specs.calls.Statuses.{IsInOrder}
use Rattle.armus_base.specs.Deadlocks.{IsDeadIn}
use Rattle.armus_base.specs.calls.FinalLaws.{IsOfPlan}
use Rattle.armus_base.proofs.StatusesAre.{statuses_are}
use Rattle.pl_core.specs.declared.place.Place.{Place as KeptPlace}
use Rattle.pl_core.specs.calls.Moves.{IsWorldStep}
use Rattle.pl_core.specs.calls.Stands.{IsEnabled}
use Rattle.pl_core.specs.calls.Worlds.{WorldValue, IsOpeningWorld, action_by_code, place_from, places_at, places_of, state_of}
use Rattle.schedule.specs.declared.lines.Line.{Line}
use Rattle.schedule.specs.declared.lines.Line.TheVariants as line
use Rattle.schedule.specs.declared.pass.OpenPass.{OpenPass}
use Rattle.schedule.specs.declared.replaying.Replaying.{Replaying}
use Rattle.schedule.specs.declared.verdict.PassVerdict.{PassVerdict}
use Rattle.schedule.specs.inside.Following.{IsAt}
use Rattle.schedule.specs.inside.OpenPasses.{IsPassOf, IsMidPass}
use Rattle.schedule.specs.Passes.{PassLoads, loads_of, is_found_awaited, state_found, statuses_found}
use Rattle.std.proofs.Common.{get_or, take, drop, take-append-drop, ◌==◌}
use Rattle.std.proofs.lemmas.List.{take_more, drop_more, length-take-le}
use Rattle.schedule.specs.declared.replaying.LineEnd.{LineEnd}
use Rattle.schedule.specs.declared.replaying.LineEnd.TheVariants.{Fault, NoMemory as LineWantsMemory}
use Rattle.schedule.specs.Replays.{LinesLead, one_more, Progress, loaded, Takes}
use Rattle.schedule.specs.Replaying.{AreDeadIn, AreVerdicts, one_pass}
use Rattle.schedule.specs.calls.Replaying.{Replays}
use Rattle.schedule.specs.inside.KeptReplays.{IsOpenPass, HasOpenPass, KeepsProgress, TakesLine, end_at_line}
use Rattle.schedule.proofs.Following.{state_is}
use Rattle.std.proofs.lemmas.Bool.{eq-eqb, ne_eqb}
use Rattle.schedule.proofs.Passing.{loads_left}
use Rattle.armus_base.proofs.DeadByStatuses.{dead_by_statuses, run_is_of_plan}
use Rattle.armus_base.proofs.OwnSteps.{plain_longer}

replicated : (a : KeptPlace) (n t : ℕ) → (slice_get (replicate n a) t ≡ None) ⊎ (slice_get (replicate n a) t ≡ Some a)
replicated a zero t = inl refl
replicated a (suc n) zero = inr refl
replicated a (suc n) (suc t) = replicated a n t

-- the opening world
pub opening_is : (plan : Plan) (w : WorldValue) → IsCheckedPlan plan → IsOpeningWorld plan w → IsAt w []
unfolding places_at
opening_is plan w checked opens =
    record {
      checked = subst IsCheckedPlan (sym opens.plan_is) checked;
      run = (tt, tt);
      there = fun_ext at;
    }
  where
    at : (t : ℕ) → places_of w t ≡ first_place
    at t =
        ap (λ l. place_from w.plan t (slice_get l t)) opens.places
        ∙ elim (replicated (record { events = 0; refused = false }) (length plan.parents) t) [
          | inl e ↦ ap (place_from w.plan t) e
          | inr e ↦ ap (place_from w.plan t) e
        ]

-- a task is enabled exactly where it has a next step
pub next_is : (plan : Plan) (w : WorldValue) (h : List Step) (t : ℕ) (x : Action) → w.plan ≡ plan → IsAt w h → action_by_code w t ≡ Some x →
    IsLegal w.plan (state_of w) t x → IsOwnNextStep plan h t x
next_is plan w h t x same at next legal = record {
  by_code = ap (λ q. action_at q t (places h t).done) (sym same) ∙ ap (λ a. action_at w.plan t (a t).done) (sym at.there) ∙ next;
  legal = subst (λ q. IsLegal q (state_after h) t x) same (subst (λ s. IsLegal w.plan s t x) (state_is w h at) legal);
}

pub enabled_from : (plan : Plan) (w : WorldValue) (h : List Step) (t : ℕ) (x : Action) → w.plan ≡ plan → IsAt w h → IsOwnNextStep plan h t x → IsEnabled w t
enabled_from plan w h t x same at next = (
  x,
  ap (λ a. action_at w.plan t (a t).done) at.there ∙ ap (λ q. action_at q t (places h t).done) same ∙ next.by_code,
  subst (λ s. IsLegal w.plan s t x) (sym (state_is w h at)) (subst (λ q. IsLegal q (state_after h) t x) (sym same) next.legal),
)

-- a step of the world is one more step of the run
pub step_follows : (plan : Plan) (old new : WorldValue) (h : List Step) (t : ℕ) → old.plan ≡ plan → IsAt old h → IsWorldStep old new t
    → (x : Action) × IsOwnNextStep plan h t x × IsAt new (record { task = t; action = x } ∷ h)
step_follows plan old new h t same at makes =
    let x = makes.action in
    let next : IsOwnNextStep plan h t x = next_is plan old h t x same at makes.next makes.legal in
    let next_old : IsOwnNextStep old.plan h t x = subst (λ q. IsOwnNextStep q h t x) (sym same) next in (
      x,
      next,
      record {
        checked = subst IsCheckedPlan (sym makes.plan) at.checked;
        run = subst (λ q. IsPlainRun q (record { task = t; action = x } ∷ h)) (sym makes.plan) (plain_longer old.plan h t x at.run next_old);
        there = sym makes.run.4 ∙ ap (λ c. moved c t x) (sym makes.run.1 ∙ at.there);
      },
    )

-- the dead of a world's statuses are the dead of its state
pub dead_are : (w : WorldValue) (h : List Step) (dead : List TaskId) → IsAt w h → IsDeadList (statuses_of w.plan (state_of w)) dead → AreDeadIn (state_after h) dead
dead_are w h dead at are =
    let of_plan : IsOfPlan w.plan (state_of w) = subst (IsOfPlan w.plan) (sym (state_is w h at)) (run_is_of_plan w.plan h at.checked at.run.0) in
    record {
      ascends = are.ascends;
      exact = λ t. (
        λ inside. subst (λ s. IsDeadIn s t.0) (state_is w h at) ((dead_by_statuses w.plan (state_of w) t.0 of_plan).0 ((are.exact t).0 inside)),
        λ dies. (are.exact t).1 ((dead_by_statuses w.plan (state_of w) t.0 of_plan).1 (subst (λ s. IsDeadIn s t.0) (sym (state_is w h at)) dies)),
      );
    }

-- the statuses of a world are in order, and so are those that a pass finds
pub statuses_in_order : (plan : Plan) (s : State) → IsCheckedPlan plan → IsInOrder (statuses_of plan s)
statuses_in_order plan s checked = (statuses_are plan s (λ p. true) checked).in_order

pub found_in_order : (plan : Plan) (loads : PassLoads) → IsCheckedPlan plan → IsInOrder (statuses_found plan loads)
found_in_order plan loads checked = (statuses_are plan (state_found plan loads) (is_found_awaited plan loads) checked).in_order

-- a pass that is open and not full, with all await cells loaded
pub mid_pass : (plan : Plan) (pass : OpenPass) → HasOpenPass plan pass → length plan.parents ≤ pass.loaded → IsMidPass plan pass
mid_pass plan pass opened all =
    record {
      loads = opened.loads;
      of = opened.of;
      all_awaits = (let l = opened.of.awaits.loaded in omega arith);
      not_full = loads_left plan opened.loads pass opened.of (let l = opened.of.awaits.loaded in omega arith) opened.not_full;
    }

-- where a pass is kept, the progress has one; where none is, it has none
pub is_second : (plan : Plan) (loads : Option PassLoads) (pass : Option OpenPass) → is_some pass ≡ true → IsOpenPass plan loads pass → IsSome loads
is_second plan (Some l) pass some is = refl
is_second plan None (Some p) some is = absurd is
is_second plan None None some is = absurd (cc)

pub is_none : (plan : Plan) (loads : Option PassLoads) (pass : Option OpenPass) → is_some pass ≡ false → IsOpenPass plan loads pass → loads ≡ None
is_none plan None pass none is = refl
is_none plan (Some l) (Some p) none is = absurd (cc)
is_none plan (Some l) None none is = absurd is

pub the_open : (plan : Plan) (loads : Option PassLoads) (p : OpenPass) → IsOpenPass plan loads (Some p) → (l : PassLoads) × loads ≡ Some l × IsPassOf plan l p × length l ≢ loads_of plan l
the_open plan None p is = absurd is
the_open plan (Some l) p is = (l, refl, is.0, is.1)

-- the last load of a pass closes it
pub closes : (plan : Plan) (a : Progress) (old : Replaying) (l : PassLoads) (verdicts : List PassVerdict) (v : PassVerdict) → KeepsProgress plan a old
    → length (l ++ a.run ∷ []) ≡ loads_of plan (l ++ a.run ∷ []) → IsDeadList (statuses_found plan (l ++ a.run ∷ [])) v.dead → verdicts ≡ old.verdicts ++ v ∷ []
    → KeepsProgress plan (loaded plan a (l ++ a.run ∷ [])) (record { world = old.world; pass = None; verdicts = verdicts; steps = old.steps })
closes plan a old l verdicts v of full dead same =
    let more = l ++ a.run ∷ [] in
    subst (λ b. KeepsProgress plan (if b then record a { open_pass = None; passes = a.passes ++ more ∷ [] } else record a { open_pass = Some more })
    (record { world = old.world; pass = None; verdicts = verdicts; steps = old.steps }))
    (sym (eq-eqb (length more) (loads_of plan more) full))
    record {
      plan_is = of.plan_is;
      at = of.at;
      open_pass = tt;
      verdicts = subst (AreVerdicts plan (a.passes ++ more ∷ [])) (sym same) (one_pass a.passes old.verdicts more v of.verdicts dead);
      steps = of.steps;
    }

-- another load leaves it open
pub stays_open : (plan : Plan) (a : Progress) (old : Replaying) (l : PassLoads) (p : OpenPass) → KeepsProgress plan a old
    → length (l ++ a.run ∷ []) ≢ loads_of plan (l ++ a.run ∷ []) → IsPassOf plan (l ++ a.run ∷ []) p
    → KeepsProgress plan (loaded plan a (l ++ a.run ∷ [])) (record { world = old.world; pass = Some p; verdicts = old.verdicts; steps = old.steps })
stays_open plan a old l p of other is =
    let more = l ++ a.run ∷ [] in
    subst (λ b. KeepsProgress plan (if b then record a { open_pass = None; passes = a.passes ++ more ∷ [] } else record a { open_pass = Some more })
    (record { world = old.world; pass = Some p; verdicts = old.verdicts; steps = old.steps }))
    (sym (ne_eqb (length more) (loads_of plan more) other))
    record { plan_is = of.plan_is; at = of.at; open_pass = (is, other); verdicts = of.verdicts; steps = of.steps }

pub dead_are_if : (w : WorldValue) (result : Result (List TaskId) NoMemory) → IfOk result (IsDeadList (statuses_of w.plan (state_of w)))
    → IfOk result (λ dead. (h : List Step) → IsAt w h → AreDeadIn (state_after h) dead)
dead_are_if w (Ok dead) are = λ h at. dead_are w h dead at are
dead_are_if w (Err e) are = tt

-- a line makes one step at most
run_of_load : (b : Bool) (a : Progress) (loads : PassLoads) →
    length (if b then record a { open_pass = None; passes = a.passes ++ loads ∷ [] } else record a { open_pass = Some loads }).run ≡ length a.run
run_of_load true a loads = refl
run_of_load false a loads = refl

pub run_grows : (plan : Plan) (a : Progress) (next : Line) (b : Progress) → Takes plan a next b → length b.run ≤ length a.run + 1
run_grows plan a (line.Step t) b (x, next, is) = (let l = ap (λ p. length p.run) is in omega arith)
run_grows plan a line.Pass b (none, is) = (let l = ap (λ p. length p.run) is in omega arith)
run_grows plan a line.Load b (loads, opened, is) =
    let more = loads ++ a.run ∷ [] in
    (let l = ap (λ p. length p.run) is ∙ run_of_load (length more == loads_of plan more) a more in omega arith)
run_grows plan a line.Unreadable b takes = absurd takes

-- one line more
pub leads_more : (plan : Plan) (lines : List Line) (i : ℕ) (d : Line) (a b : Progress) → i < length lines → LinesLead plan (take i lines) a →
    Takes plan a (get_or lines i d) b → LinesLead plan (take (i + 1) lines) b
leads_more plan lines i d a b l leads takes = subst (λ v. LinesLead plan v b) (sym (take_more lines i d l)) (one_more (take i lines) a (get_or lines i d) b leads takes)

-- an end at a line
pub ends_at : (plan : Plan) (lines : List Line) (i : ℕ) (d : Line) (a : Progress) (new : Replaying) (end : LineEnd) → i < length lines → LinesLead plan (take i lines) a
    → TakesLine plan a (get_or lines i d) new (Err end) → Replays plan lines (Err (end_at_line end (i + 1)))
ends_at plan lines i d a new (Fault kind) l leads takes =
    record {
      before = take i lines;
      here = get_or lines i d;
      rest = drop (i + 1) lines;
      parts = sym (take-append-drop i lines) ∙ ap (λ v. take i lines ++ v) (drop_more lines i d l);
      progress = a;
      leads = leads;
      fault = takes;
      counted = (let n = length-take-le i lines (omega arith) in omega arith);
    }
ends_at plan lines i d a new LineWantsMemory l leads takes = tt
