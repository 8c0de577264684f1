-- The walk along the nexts shows a verdict.
use Rattle.std.proofs.Common.{◌≡◌, ℕ, zero, suc, ◌+◌, ◌-◌, ◌<◌, ◌≤◌, true, Option, Some, None, IsSome, List, [], ◌∷◌, ◌++◌, length, sym, ap, ◌∙◌, subst, inl, inr, arith, get_or, refl, length-append}
use Rattle.std.specs.Prelude.{Contains}
use Rattle.std.proofs.lemmas.Bool.{cases_lt, false≢true}
use Rattle.std.proofs.lemmas.List.{get_or_default}
use Rattle.std.proofs.lemmas.List.Elements.{Contains-push_cases}
use Rattle.armus_base.specs.declared.ids.TaskId.{TaskId}
use Rattle.armus_base.specs.Finals.{list_below}
use Rattle.armus_base.specs.Plans.{Plan}
use Rattle.armus_base.specs.States.{Phases}
use Rattle.armus_base.proofs.Below.{length-list_below}
use Rattle.armus_base.proofs.Counts.{IsDistinct-push, distinct_le}
use Rattle.armus_base.proofs.WalkCycles.{IsWalkTo as Goes, walk_more}
use Rattle.adaptive.proofs.Deciding.{told_in}
use Rattle.report.proofs.CycleExists.{told_task}
use Rattle.explain_deadlock.specs.declared.outcome.WaitVerdict.{WaitVerdict}
use Rattle.explain_deadlock.specs.declared.outcome.WaitVerdict.TheVariants.{Nobody, Circle, Chain}
use Rattle.explain_tasks.specs.Facts.{FactsValue, is_waiting, situation_of}
use Rattle.explain_tasks.specs.Nexts.{IsNext, next_of}
use Rattle.explain_deadlock.specs.Verdicts.{IsVerdict, IsVerdictFrom, followers_of, walk_start}
use Rattle.explain_tasks.specs.calls.Fitting.{FactsFitPlan}
use Rattle.explain_deadlock.specs.inside.Fitting.{WaitForSome}
use Rattle.explain_deadlock.proofs.NextInside.{next_inside}
use Rattle.explain_deadlock.proofs.Starts.{start_waits}
use Rattle.explain_deadlock.proofs.TasksThat.{task_below}
use Rattle.explain_deadlock.proofs.VerdictWalks.{circle_there, closes, ends}
use Rattle.explain_deadlock.proofs.FirstCircles.{first_exists}
use Rattle.explain_deadlock.proofs.Followers.{followers_ascend}

abbrev task : ℕ → TaskId
task t = record { 0 = t }

-- nothing is something
none_is_none : {A : Type 0} (o : Option A) → o ≡ None → IsSome o → ⊥
none_is_none o none some = false≢true (subst IsSome none some)

module _ (f : FactsValue) (phases : ℕ → Phases) (plan : Plan) (fits : FactsFitPlan f plan) (wait : WaitForSome f phases) (start : TaskId) (waits : is_waiting (situation_of f start.0) ≡ true) where
  abbrev n : ℕ
  n = length plan.parents

  -- the walk so far stays among the tasks
  record Walked (path : List TaskId) (node : TaskId) : Type 0 where
    walk : Goes (IsNext f phases) start path node
    inside : node.0 < n
    all : (t : TaskId) → Contains path t → t.0 < n

  module _ (path : List TaskId) (node : TaskId) (h : Walked path node) where
    back_at : Contains path node → (v : WaitVerdict) × IsVerdictFrom f phases (Some start) v
    back_at there =
        let (circle, is) = circle_there f phases start node path h.walk there in
        let (first, shown) = first_exists (λ (u : TaskId). followers_of f phases u.0) (λ u. followers_ascend f phases u.0) node circle is in
        (Circle first, closes f phases start node path h.walk there (Circle first) shown)

    ends_at : next_of f phases node.0 ≡ None → (v : WaitVerdict) × IsVerdictFrom f phases (Some start) v
    ends_at none =
        elim (cases_lt 0 (length path)) [
          | inl some ↦
              let v = Chain (get_or path (length path - 1) node) node in
              (v, ends f phases start node path h.walk v some none (λ d. get_or_default path (length path - 1) d node (omega arith), refl))
          | inr empty ↦
              let first : node ≡ start = h.walk.none (omega arith) in
              absurd (none_is_none (next_of f phases start.0) (ap (λ (t : TaskId). next_of f phases t.0) (sym first) ∙ none) (wait start.0 waits))
        ]

    module _ (new : Contains path node → ⊥) where
      all_more : (t : TaskId) → Contains (path ++ node ∷ []) t → t.0 < n
      all_more t m = elim (Contains-push_cases path node t m) [ inl l ↦ h.all t l | inr e ↦ subst (λ (u : TaskId). u.0 < n) e h.inside ]

      shorter : length path < n
      shorter =
          let le = distinct_le (path ++ node ∷ []) (list_below (λ u. record { 0 = u }) n) (IsDistinct-push path node h.walk.distinct new)
          (λ t m. task_below n t (all_more t m)) in
          omega (arith, le, length-append path (node ∷ []), length-list_below task n)

      walk_on : (next : TaskId) → next_of f phases node.0 ≡ Some next → Walked (path ++ node ∷ []) next
      walk_on next is = record {
        walk = walk_more (IsNext f phases) start path node h.walk next new is;
        inside = next_inside f phases plan fits node.0 next is;
        all = all_more;
      }

  -- the walk ends here, or goes on
  next_or_end :
      (path : List TaskId) (node : TaskId) → Walked path node →
      ((next : TaskId) → next_of f phases node.0 ≡ Some next → (v : WaitVerdict) × IsVerdictFrom f phases (Some start) v) →
      (o : Option TaskId) → next_of f phases node.0 ≡ o → (v : WaitVerdict) × IsVerdictFrom f phases (Some start) v
  next_or_end path node h on None is = ends_at path node h is
  next_or_end path node h on (Some next) is = on next is

  goes : (fuel : ℕ) (path : List TaskId) (node : TaskId) → Walked path node → n ≤ length path + fuel → (v : WaitVerdict) × IsVerdictFrom f phases (Some start) v
  goes zero path node h few =
      elim (told_in told_task path node) [ inl there ↦ back_at path node h there | inr new ↦ absurd (let lt = shorter path node h new in omega arith) ]
  goes (suc fuel) path node h few =
      elim (told_in told_task path node) [
        | inl there ↦ back_at path node h there
        | inr new ↦
            next_or_end path node h
            (λ next is. goes fuel (path ++ node ∷ []) next (walk_on path node h new next is) (omega (arith, length-append path (node ∷ []))))
            (next_of f phases node.0) refl
      ]

  shown_from : start.0 < n → (v : WaitVerdict) × IsVerdictFrom f phases (Some start) v
  shown_from lt =
      goes n [] start
      (record {
        walk = record {
          starts = λ d some. absurd (omega arith);
          none = λ e. refl;
          steps = λ k d some. absurd (omega arith);
          next = λ d some. absurd (omega arith);
          distinct = tt;
        };
        inside = lt;
        all = λ t (k, some, e). absurd (omega arith);
      })
      (omega arith)

module _ (f : FactsValue) (phases : ℕ → Phases) (plan : Plan) (fits : FactsFitPlan f plan) (wait : WaitForSome f phases) where
  by_start : (o : Option TaskId) → walk_start f ≡ o → (v : WaitVerdict) × IsVerdictFrom f phases o v
  by_start None is = (Nobody, refl)
  by_start (Some s) is =
      let (lt, waits) = start_waits f s is in
      shown_from f phases plan fits wait s waits (omega (arith, lt, fits.sized))

  pub verdict_exists : (v : WaitVerdict) × IsVerdict f phases v
  verdict_exists = by_start (walk_start f) refl
