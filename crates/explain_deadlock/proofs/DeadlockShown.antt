-- Where a task is dead, the verdict is a shortest circle that begins as the report's cycle, and the lines of a deadlocked task begin with those that are deadlocked.
use Rattle.std.proofs.Common.{◌≡◌, ℕ, ◌+◌, ◌<◌, ◌≤◌, true, Option, Some, None, IsSome, List, [], ◌∷◌, ◌++◌, length, length-append, arith, sym, ◌∙◌, ap, subst, refl, eq-eqb, inl, inr}
use borrow.Author.Tests.{eqb-true}
use Rattle.std.specs.Prelude.{Contains, filter, map, slice_get}
use Rattle.std.proofs.lemmas.Bool.{false≢true}
use Rattle.std.proofs.lemmas.List.{get_or-append-add}
use Rattle.armus_base.specs.declared.ids.TaskId.{TaskId}
use Rattle.armus_base.specs.declared.status.Status.{Status}
use Rattle.armus_base.specs.Deadlocks.{IsDeadBy, IsDeadIn}
use Rattle.armus_base.specs.Finals.{final_of}
use Rattle.armus_base.specs.Plans.{Plan}
use Rattle.armus_base.specs.States.{State}
use Rattle.report.specs.Reports.{IsLeastDead, IsReportedCycle, IsSomeDead}
use Rattle.verdict.specs.Cycles.{IsDeadStep}
use Rattle.explain_tasks.specs.declared.impeders.Impeder.{Impeder}
use Rattle.explain_deadlock.specs.declared.outcome.WaitVerdict.{WaitVerdict}
use Rattle.explain_deadlock.specs.declared.outcome.WaitVerdict.TheVariants.{Nobody, Circle, Chain}
use Rattle.explain_tasks.specs.declared.situation.Situation.{Situation}
use Rattle.explain_tasks.specs.declared.situation.Situation.TheVariants.{Deadlocked, Held, HasEnded, NotForkedYet, NeverForked}
use Rattle.explain_tasks.specs.Facts.{FactsValue, forking_of, is_deadlocked, is_waiting, situation_of, tasks_that}
use Rattle.explain_tasks.specs.Groups.{each_once}
use Rattle.explain_deadlock.specs.ImpederLines.{is_this_impeder, told_of}
use Rattle.explain_tasks.specs.Impeders.{impeders_by_facts}
use Rattle.explain_deadlock.specs.Laws.{DeadlockIsReported, IsDeadAndWaitsFor, ShownAreShortest, ShowsCircle}
use Rattle.explain_deadlock.specs.calls.Laws.{DeadlockStandsFirst, ShownAreDead}
use Rattle.explain_tasks.specs.Nexts.{IsNext, first_or, next_by, next_of}
use Rattle.explain_deadlock.specs.RunEnds.{AreFactsAt}
use Rattle.explain_tasks.specs.Sayings.{Said, impeder_said, impeder_words, same_said}
use Rattle.explain_deadlock.specs.Verdicts.{IsShownCircle, IsVerdictFrom, IsWalkTo, HasFollower, walk_start}
use Rattle.explain_deadlock.specs.Circles.{IsCircleThrough, IsNoLater, LeadsBackTo}
use Rattle.explain_deadlock.proofs.DeadNexts.{deadlocked_dead, follows_dead, next_dead, next_found, next_is_step, waits_follows}
use Rattle.explain_deadlock.proofs.CircleWalks.{circle_of, circle_shown, leads_map, shown_circle}
use Rattle.explain_deadlock.proofs.Followers.{next_follows}
use Rattle.explain_tasks.proofs.Filters.{passed_from, passed_is}
use Rattle.explain_deadlock.proofs.FitsEnds.{all_stand, dead_is, next_of_dead}
use Rattle.explain_deadlock.proofs.NextInside.{find_contains, first_contains}
use Rattle.explain_tasks.proofs.SameSaid.{same_said_is}
use Rattle.explain_deadlock.proofs.Starts.{that_is}
use Rattle.explain_deadlock.proofs.TasksThat.{some_first, that_has, that_least}
use Rattle.explain_deadlock.proofs.WalksMapped.{all_keep, cycle_maps}

-- with what a text begins
abbrev first_byte : List ℕ → ℕ
first_byte [] = 0
first_byte (c ∷ cs) = c

module _ (plan : Plan) (s : State) (done : ℕ → ℕ) (f : FactsValue) (at : AreFactsAt plan s done f) where
  abbrev blocked : List Status
  blocked = (final_of plan s).blocked

  abbrev IsDeadTask : TaskId → Type 0
  IsDeadTask t = IsDeadBy blocked t.0

  -- a dead task has a next
  has_next : (t : TaskId) → IsDeadTask t → next_of f s.phases t.0 ≡ None → ⊥
  has_next t dead none =
      let some = subst (λ (x : Situation). IsSome (next_by f (impeders_by_facts f s.phases t.0) (forking_of f t.0) x)) (sym (dead_is plan s done f at t.0 dead).3) (next_of_dead plan s done f at t.0 dead) in
      false≢true (subst IsSome none some)

  keeps : (t u : TaskId) → IsDeadTask t → IsNext f s.phases t u → IsDeadTask u
  keeps t u dead step = next_dead plan s done f at t u dead step

  -- the walk begins with the least dead task
  starts_dead : IsSomeDead blocked → (start : TaskId) × (walk_start f ≡ Some start) × IsLeastDead blocked start
  starts_dead (t, dead) =
      let within : (u : ℕ) → IsDeadBy blocked u → u < length f.standings = λ u d. (let lt = (dead_is plan s done f at u d).0 in let e = all_stand plan s done f at in omega arith) in
      let passes : (u : ℕ) → IsDeadBy blocked u → is_deadlocked (situation_of f u) ≡ true = λ u d. ap is_deadlocked (dead_is plan s done f at u d).3 in
      let (start, first) = some_first (tasks_that is_deadlocked f) (record { 0 = t }) (that_has f is_deadlocked (record { 0 = t }) (within t dead) (passes t dead)) in
      let is = that_is f is_deadlocked start (first_contains (tasks_that is_deadlocked f) start first) in (
        start,
        ap (λ o. first_or o (slice_get (tasks_that is_waiting f) 0)) first,
        record {
          dead = deadlocked_dead plan s done f at start.0 is.1;
          least = λ u d. that_least f is_deadlocked start first (record { 0 = u }) (within u d) (passes u d);
        },
      )

  module _ (start : TaskId) (dead : IsDeadTask start) where
    -- the walk of the dead comes to no end
    no_end : (held last : TaskId) → IsWalkTo f s.phases start held last → ⊥
    no_end held last w =
        let whole = w.before ++ held ∷ last ∷ [] in
        let n = length-append w.before (held ∷ last ∷ []) in
        let is = all_keep (IsNext f s.phases) IsDeadTask keeps start dead whole w.steps w.starts (length w.before + 1) start (omega arith) in
        has_next last (subst IsDeadTask (get_or-append-add w.before (held ∷ last ∷ []) 1 start) is) w.ends

    circle_of_verdict : (v : WaitVerdict) → IsVerdictFrom f s.phases (Some start) v → (shown : List TaskId) × (v ≡ Circle shown) × IsShownCircle f s.phases start shown
    circle_of_verdict Nobody is = absurd is
    circle_of_verdict (Circle c) is = (c, refl, is)
    circle_of_verdict (Chain held last) is = absurd (no_end held last is)

    -- the task in which the walk closes is dead
    dead_task : (shown : List TaskId) (w : IsShownCircle f s.phases start shown) → IsDeadTask w.task
    dead_task shown w =
        let cycle = w.task ∷ w.walked in
        let n = length-append w.closes.before cycle in
        subst IsDeadTask (get_or-append-add w.closes.before cycle 0 start)
        (all_keep (IsNext f s.phases) IsDeadTask keeps start dead (w.closes.before ++ cycle) w.closes.steps w.closes.starts (length w.closes.before + 0) start (omega arith))

  -- a circle begins with its task
  begins : (R : TaskId → TaskId → Type 0) (t : TaskId) (c : List TaskId) → IsCircleThrough R t c → (rest : List TaskId) × (c ≡ t ∷ rest) × LeadsBackTo R t t rest
  begins R t [] closes = absurd closes
  begins R t (u ∷ rest) closes = (rest, ap (λ x. x ∷ rest) closes.0, closes.1)

  -- what is not later is not longer
  not_longer : (xs ys : List TaskId) → IsNoLater xs ys → length xs ≤ length ys
  not_longer xs ys is = elim is [ inl same ↦ (let n = ap length same in omega arith) | inr before ↦ elim before [ inl less ↦ omega arith | inr (sized, less) ↦ omega arith ] ]

  -- what is shown where a task is dead
  record Shows (v : WaitVerdict) : Type 0 where
    start : TaskId
    least : IsLeastDead blocked start
    shown : List TaskId
    is : v ≡ Circle shown
    circle : IsShownCircle f s.phases start shown

  shows : (v : WaitVerdict) → IsVerdictFrom f s.phases (walk_start f) v → IsSomeDead blocked → Shows v
  shows v is some =
      let (start, starts, least) = starts_dead some in
      let (shown, same, circle) = circle_of_verdict start least.dead v (subst (λ o. IsVerdictFrom f s.phases o v) starts is) in
      record { start = start; least = least; shown = shown; is = same; circle = circle }

  pub reported : (v : WaitVerdict) → IsVerdictFrom f s.phases (walk_start f) v → IsSomeDead blocked →
      (t : TaskId) × (shown cycle : List TaskId) × (v ≡ Circle (t ∷ shown)) × IsReportedCycle blocked (t ∷ cycle) × (length shown ≤ length cycle)
  reported v is some =
      let all = shows v is some in
      let t = all.circle.task in
      let cycle = all.circle.walked in
      let (rest, same, leads) = begins (HasFollower f s.phases) t all.shown all.circle.first.closes in
      let walk = circle_of (IsNext f s.phases) (HasFollower f s.phases) (next_follows f s.phases) all.start t cycle all.circle.closes in
      let le = not_longer all.shown (t ∷ cycle) (all.circle.first.first (t ∷ cycle) walk) in
      let sized : length all.shown ≡ length (t ∷ rest) = ap length same in (
        t,
        rest,
        cycle,
        all.is ∙ ap Circle same,
        (all.start, all.least, cycle_maps (IsNext f s.phases) IsDeadTask keeps all.start all.least.dead (IsDeadStep blocked) (next_is_step plan s done f at) (t ∷ cycle) all.circle.closes),
        omega arith,
      )

  same_shown : (c d : List TaskId) → Circle c ≡ Circle d → c ≡ d
  same_shown c d e = cc

  pub shown_dead : (shown : List TaskId) → IsVerdictFrom f s.phases (walk_start f) (Circle shown) → IsSomeDead blocked → ShowsCircle (IsDeadAndWaitsFor s) shown
  shown_dead shown is some =
      let all = shows (Circle shown) is some in
      let t = all.circle.task in
      let (rest, same, leads) = begins (HasFollower f s.phases) t all.shown all.circle.first.closes in
      let dead = leads_map (HasFollower f s.phases) (IsDeadAndWaitsFor s) IsDeadTask (follows_dead plan s done f at) t t rest (dead_task all.start all.least.dead all.shown all.circle) leads in
      subst (λ xs. ShowsCircle (IsDeadAndWaitsFor s) xs) (sym (same_shown shown all.shown all.is ∙ same)) (circle_shown (IsDeadAndWaitsFor s) t rest dead)

  -- each task of a circle of the dead is dead
  is_dead : (last u : TaskId) (xs : List TaskId) → LeadsBackTo (IsDeadAndWaitsFor s) last u xs → IsDeadIn s u.0
  is_dead last u [] leads = leads.0
  is_dead last u (x ∷ xs) leads = leads.0.0

  -- so each is one for whom the one before it waits
  all_follow : (last u : TaskId) (xs : List TaskId) → IsDeadIn s last.0 → LeadsBackTo (IsDeadAndWaitsFor s) last u xs → LeadsBackTo (HasFollower f s.phases) last u xs
  all_follow last u [] dead leads = waits_follows plan s done f at u last leads dead
  all_follow last u (x ∷ xs) dead leads = (waits_follows plan s done f at u x leads.0 (is_dead last x xs leads.1), all_follow last x xs dead leads.1)

  pub shortest : (shown other : List TaskId) → IsVerdictFrom f s.phases (walk_start f) (Circle shown) → IsSomeDead blocked → ShowsCircle (IsDeadAndWaitsFor s) other →
      slice_get other 0 ≡ slice_get shown 0 → length shown ≤ length other
  shortest shown [] is some circle same = absurd (let n = circle.some in omega arith)
  shortest shown (u ∷ rest) is some circle same =
      let all = shows (Circle shown) is some in
      let t = all.circle.task in
      let (others, whole, leads) = begins (HasFollower f s.phases) t all.shown all.circle.first.closes in
      let shown_is : shown ≡ t ∷ others = same_shown shown all.shown all.is ∙ whole in
      let both : Some u ≡ Some t = same ∙ ap (λ xs. slice_get xs 0) shown_is in
      let first : u ≡ t = cc in
      let goes = shown_circle (IsDeadAndWaitsFor s) u rest circle in
      let follow = all_follow u u rest (is_dead u u rest goes) goes in
      let closes : IsCircleThrough (HasFollower f s.phases) t (u ∷ rest) = (first, subst (λ x. LeadsBackTo (HasFollower f s.phases) x x rest) first follow) in
      let le = not_longer all.shown (u ∷ rest) (all.circle.first.first (u ∷ rest) closes) in
      let sized : length shown ≡ length all.shown = ap length (same_shown shown all.shown all.is) in
      omega arith

  -- ---- the lines of the impeders

  -- what begins as what is said of a deadlocked impeder is said of one
  deadlocked_words : (t u : ℕ) (x : Situation) → impeder_words f t Deadlocked ≡ impeder_words f u x → x ≡ Deadlocked
  deadlocked_words t u Deadlocked same = refl
  deadlocked_words t u Held same = absurd (let e : 100 ≡ 104 = ap first_byte same in omega arith)
  deadlocked_words t u HasEnded same = absurd (let e : 100 ≡ 101 = ap first_byte same in omega arith)
  deadlocked_words t u NotForkedYet same = absurd (let e : 100 ≡ 110 = ap first_byte same in omega arith)
  deadlocked_words t u NeverForked same = absurd (let e : 100 ≡ 110 = ap first_byte same in omega arith)

  abbrev imps : ℕ → List Impeder
  imps t = impeders_by_facts f s.phases t

  -- what is said first is said of the first of these
  first_told : (next : Option TaskId) (is : List Impeder) (j : Impeder) → slice_get (filter (is_this_impeder next) is) 0 ≡ Some j → slice_get (told_of f next is) 0 ≡ Some (impeder_said f j)
  first_told next is j first = by (filter (is_this_impeder next) is) first
    where
      by : (xs : List Impeder) → slice_get xs 0 ≡ Some j → slice_get (each_once same_said (map (impeder_said f) (xs ++ is))) 0 ≡ Some (impeder_said f j)
      by [] e = absurd (cc)
      by (x ∷ xs) e = ap (λ i. Some (impeder_said f i)) (let same : x ≡ j = cc in same)

  pub stands_first : (t : ℕ) → situation_of f t ≡ Deadlocked →
      (said : Said) × (slice_get (told_of f (next_of f s.phases t) (imps t)) 0 ≡ Some said)
      × ((i : Impeder) → Contains (imps t) i → same_said said (impeder_said f i) ≡ true → situation_of f i.t.0 ≡ Deadlocked)
  stands_first t deadlocked = by (next_of f s.phases t) refl
    where
      dead : IsDeadBy blocked t
      dead = deadlocked_dead plan s done f at t (ap is_deadlocked deadlocked)

      by : (next : Option TaskId) → next_of f s.phases t ≡ next →
          (said : Said) × (slice_get (told_of f next (imps t)) 0 ≡ Some said)
          × ((i : Impeder) → Contains (imps t) i → same_said said (impeder_said f i) ≡ true → situation_of f i.t.0 ≡ Deadlocked)
      by None none = absurd (has_next (record { 0 = t }) dead none)
      by (Some u) next =
          let (i, found, same) = next_found plan s done f at (record { 0 = t }) u dead next in
          let there = find_contains (λ (k : Impeder). is_deadlocked (situation_of f k.t.0)) (imps t) i found in
          let number : i.t.0 ≡ u.0 = ap (λ (v : TaskId). v.0) same in
          let (j, first) = some_first (filter (is_this_impeder (Some u)) (imps t)) i (passed_from (is_this_impeder (Some u)) (imps t) i there (eq-eqb i.t.0 u.0 number)) in
          let own = (passed_is (is_this_impeder (Some u)) (imps t) j (first_contains (filter (is_this_impeder (Some u)) (imps t)) j first)).1 in
          let is_u : j.t.0 ≡ u.0 = eqb-true j.t.0 u.0 own in
          let also : situation_of f j.t.0 ≡ Deadlocked =
          subst (λ k. situation_of f k ≡ Deadlocked) (sym is_u) (dead_is plan s done f at u.0 (next_dead plan s done f at (record { 0 = t }) u dead next)).3 in (
            impeder_said f j,
            first_told (Some u) (imps t) j first,
            λ k in' alike.
                let words = ap (λ (x : Said). x.words) (same_said_is (impeder_said f j) (impeder_said f k) alike) in
                deadlocked_words j.t.0 k.t.0 (situation_of f k.t.0) (ap (impeder_words f j.t.0) (sym also) ∙ words),
          )

pub deadlock_is_reported : DeadlockIsReported
deadlock_is_reported plan s done f v at is some = reported plan s done f at v is some

pub shown_are_dead : ShownAreDead
shown_are_dead plan s done f shown at is some = shown_dead plan s done f at shown is some

pub shown_are_shortest : ShownAreShortest
shown_are_shortest plan s done f shown other at is some circle same = shortest plan s done f at shown other is some circle same

pub deadlock_stands_first : DeadlockStandsFirst
deadlock_stands_first plan s done f t at deadlocked = stands_first plan s done f at t deadlocked
