-- In an explanation of a run each task that was refused has its paragraph among the refusals, and each other task that is not done has one behind.
use Rattle.std.proofs.Common.{◌≡◌, ◌∙◌, ℕ, ◌<◌, true, [], ◌++◌, Option, Some, None, ap, inl, inr, length, map, refl, subst, sym}
use Rattle.std.specs.Prelude.{Contains, slice_index_or}
use Rattle.std.proofs.lemmas.Bool.{false≢true}
use Rattle.std.proofs.lemmas.List.Elements.{Contains-append_cases, Contains-append_left, Contains-append_right}
use Rattle.std.proofs.lemmas.Option.{get_or_from_slice_get}
use Rattle.armus_base.specs.declared.ending.TaskEnd.{TaskEnd}
use Rattle.armus_base.specs.declared.ending.TaskEnd.TheVariants as ends
use Rattle.armus_base.specs.declared.event.Event.{Event}
use Rattle.armus_base.specs.declared.ids.TaskId.{TaskId}
use Rattle.armus_base.specs.Deadlocks.{IsDeadBy}
use Rattle.armus_base.specs.Finals.{end_of, final_of, list_below}
use Rattle.armus_base.specs.Plans.{Plan}
use Rattle.armus_base.specs.Runs.{IsLegalRun, state_after}
use Rattle.armus_base.specs.States.{State}
use Rattle.armus_base.proofs.EndsTell.{ends_are}
use Rattle.armus_base.proofs.NobodyIsDead.{avoided_legal}
use Rattle.armus_base.proofs.RefusedEnds.{refused_ends}
use Rattle.armus_base.proofs.SerialFinalIsAvoided.{serial_final_is_avoided}
use Rattle.armus_base.proofs.SerialIsAvoided.{serial_is_avoided}
use Rattle.pl_plan.proofs.TextsAreNear.{text_is_checked}
use Rattle.report.specs.Standings.{AreStandings, Stands}
use Rattle.report.specs.declared.standing.Standing.{Standing}
use Rattle.report.specs.declared.standing.Standing.TheVariants as way
use Rattle.explain_facts.specs.declared.account.Forked.{Forked}
use Rattle.explain_tasks.specs.declared.situation.Situation.TheVariants.{HasEnded}
use Rattle.explain_tasks.specs.Facts.{FactsValue, facts_of, forking_of, is_waiting, situation_by, situation_of, stands_unforked, tasks_that}
use Rattle.explain_tasks.specs.Sayings.{Said, own_said, same_said}
use Rattle.explain_tasks.proofs.EachOnce.{once_has}
use Rattle.explain_tasks.proofs.Filters.{has_map, passed_from, passed_is}
use Rattle.explain_tasks.proofs.SameSaid.{same_said_is, same_said_itself}
use Rattle.explain_deadlock.specs.Paragraphs.{explained_tasks, shown_waiting, tasks_of}
use Rattle.explain_deadlock.proofs.EachToldOnce.{nothing_twice}
use Rattle.explain_deadlock.proofs.TasksThat.{that_has}
use Rattle.explain_avoid.specs.AvoidedWords.{tasks_with, was_refused}
use Rattle.explain_avoid.specs.calls.Laws.{EachIsToldOnce, HasOneBehind}
use Rattle.explain_avoid.proofs.RefusalTexts.{paragraph_for_each}
use Rattle.explain_avoid.proofs.RefusedOnce.{each_is_refused_once}
use Rattle.explain_avoid.proofs.StaysTold.{task_has, task_with}

-- who was refused, by its standing
pub refused_end : (IsDead : Type 0) (end : TaskEnd) (s : Standing) → Stands IsDead end s → was_refused s ≡ true → (e : Event) × (end ≡ ends.Refused e)
refused_end IsDead (ends.Refused e) s is on = (e, refl)
refused_end IsDead ends.Done s is on = absurd (let off = subst (λ x. was_refused x ≡ true) is on in cc)
refused_end IsDead ends.Unforked s is on = absurd (let off = subst (λ x. was_refused x ≡ true) is on in cc)
refused_end IsDead (ends.Blocked e) s (inl (dead, is)) on = absurd (let off = subst (λ x. was_refused x ≡ true) is on in cc)
refused_end IsDead (ends.Blocked e) s (inr (alive, is)) on = absurd (let off = subst (λ x. was_refused x ≡ true) is on in cc)

-- who stands so waits, or was not forked
waits_so : (IsDead : Type 0) (e : Event) (s : Standing) (fork : Option Forked) → Stands IsDead (ends.Blocked e) s → is_waiting (situation_by s fork) ≡ true
waits_so IsDead e s fork (inl (dead, is)) = ap (λ x. is_waiting (situation_by x fork)) is
waits_so IsDead e s fork (inr (alive, is)) = ap (λ x. is_waiting (situation_by x fork)) is

unforked_so : (fork : Option Forked) → stands_unforked (situation_by way.Unforked fork) ≡ true
unforked_so (Some x) = refl
unforked_so None = refl

-- a task that is explained has one paragraph
one_behind : (f : FactsValue) (t : TaskId) → Contains (explained_tasks f) t → HasOneBehind f t
one_behind f t m = record {
  once = nothing_twice f [];
  said = once_has same_said same_said_is same_said_itself (map (λ (u : TaskId). own_said f u.0) (shown_waiting f [] ++ explained_tasks f)) (own_said f t.0)
      (has_map (λ (u : TaskId). own_said f u.0) (shown_waiting f [] ++ explained_tasks f) t (Contains-append_right (shown_waiting f []) (explained_tasks f) t m));
  there = passed_from (λ (u : TaskId). same_said (own_said f t.0) (own_said f u.0)) (explained_tasks f) t m (same_said_itself (own_said f t.0));
  only = λ said there. same_said_is said (own_said f t.0) (passed_is (λ (u : TaskId). same_said said (own_said f u.0)) (explained_tasks f) t there).1;
}

-- a task that has ended has none
none_ended : (f : FactsValue) (t : TaskId) (said : Said) → situation_of f t.0 ≡ HasEnded → Contains (tasks_of f said) t → ⊥
none_ended f t said ended there =
    let among = (passed_is (λ (u : TaskId). same_said said (own_said f u.0)) (explained_tasks f) t there).0 in
    elim (Contains-append_cases (tasks_that is_waiting f) (tasks_that stands_unforked f) t among) [
      | inl waits ↦
          let on = (passed_is (λ (u : TaskId). is_waiting (situation_of f u.0)) (list_below (λ u. record { 0 = u }) (length f.standings)) t waits).1 in
          false≢true (sym (ap is_waiting ended) ∙ on)
      | inr unforked ↦
          let on = (passed_is (λ (u : TaskId). stands_unforked (situation_of f u.0)) (list_below (λ u. record { 0 = u }) (length f.standings)) t unforked).1 in
          false≢true (sym (ap stands_unforked ended) ∙ on)
    ]

module _ (plan : Plan) (state : State) (f : FactsValue) (stand : AreStandings (IsDeadBy (final_of plan state).blocked) (final_of plan state).ends f.standings) where
  sized : length f.standings ≡ length plan.parents
  sized = stand.sized ∙ (ends_are plan state).counted

  -- how task t stands, by its end
  stands : (t : ℕ) → t < length plan.parents → Stands (IsDeadBy (final_of plan state).blocked t) (end_of state t) (slice_index_or f.standings t way.Done)
  stands t below =
      let own = end_of state t in
      let all = (final_of plan state).ends in
      let within : t < length all = subst (λ n. t < n) (sym (ends_are plan state).counted) below in
      let here : slice_index_or all t own ≡ own = get_or_from_slice_get all t own own ((ends_are plan state).each t below) in
      subst (λ e. Stands (IsDeadBy (final_of plan state).blocked t) e (slice_index_or f.standings t way.Done)) here (stand.each t own way.Done within)

  -- who is named as refused has ended so
  named_end : (t : TaskId) → Contains (tasks_with was_refused f.standings) t → (t.0 < length plan.parents) × ((e : Event) × (end_of state t.0 ≡ ends.Refused e))
  named_end t m =
      let on = task_with f.standings was_refused t m in
      let below : t.0 < length plan.parents = subst (λ n. t.0 < n) sized on.0 in
      (below, refused_end (IsDeadBy (final_of plan state).blocked t.0) (end_of state t.0) (slice_index_or f.standings t.0 way.Done) (stands t.0 below) on.1)

  module _ (t : TaskId) (below : t.0 < length plan.parents) where
    within : t.0 < length f.standings
    within = subst (λ n. t.0 < n) (sym sized) below

    refused_stands : (e : Event) → end_of state t.0 ≡ ends.Refused e → slice_index_or f.standings t.0 way.Done ≡ way.Refused e
    refused_stands e is = subst (λ x. Stands (IsDeadBy (final_of plan state).blocked t.0) x (slice_index_or f.standings t.0 way.Done)) is (stands t.0 below)

    -- who has ended so is named
    end_named : (e : Event) → end_of state t.0 ≡ ends.Refused e → Contains (tasks_with was_refused f.standings) t
    end_named e is = task_has f.standings was_refused t within (ap was_refused (refused_stands e is))

    -- and stands in no paragraph behind
    refused_ended : (e : Event) → end_of state t.0 ≡ ends.Refused e → situation_of f t.0 ≡ HasEnded
    refused_ended e is = ap (λ x. situation_by x (forking_of f t.0)) (refused_stands e is)

    -- who is neither done nor refused is explained
    explained : (end_of state t.0 ≡ ends.Done → ⊥) → ((e : Event) → end_of state t.0 ≡ ends.Refused e → ⊥) → Contains (explained_tasks f) t
    explained not_done not_refused = by_end (end_of state t.0) refl
      where
        by_end : (end : TaskEnd) → end_of state t.0 ≡ end → Contains (explained_tasks f) t
        by_end ends.Done is = absurd (not_done is)
        by_end (ends.Refused e) is = absurd (not_refused e is)
        by_end (ends.Blocked e) is =
            let IsDead = IsDeadBy (final_of plan state).blocked t.0 in
            let s = slice_index_or f.standings t.0 way.Done in
            let on = waits_so IsDead e s (forking_of f t.0) (subst (λ x. Stands IsDead x s) is (stands t.0 below)) in
            Contains-append_left (tasks_that is_waiting f) (tasks_that stands_unforked f) t (that_has f is_waiting t within on)
        by_end ends.Unforked is =
            let IsDead = IsDeadBy (final_of plan state).blocked t.0 in
            let s = slice_index_or f.standings t.0 way.Done in
            let so : s ≡ way.Unforked = subst (λ x. Stands IsDead x s) is (stands t.0 below) in
            let on : stands_unforked (situation_of f t.0) ≡ true = ap (λ x. stands_unforked (situation_by x (forking_of f t.0))) so ∙ unforked_so (forking_of f t.0) in
            Contains-append_right (tasks_that is_waiting f) (tasks_that stands_unforked f) t (that_has f stands_unforked t within on)

pub each_is_told_once : EachIsToldOnce
each_is_told_once file text plan steps lines stays x =
    let checked = text_is_checked text x.is_account.program plan x.is_account.known.reads x.is_account.unfolds in
    let run : IsLegalRun plan steps = avoided_legal plan steps (serial_is_avoided plan steps checked x.ended.0) in
    let f = facts_of text file x.account x.standings in
    let s = state_after steps in
    let refused = λ (t : ℕ). refused_ends plan s t checked (serial_final_is_avoided plan s checked (record { steps = steps; ended = x.ended; there = refl })) in
    let in_run = each_is_refused_once plan steps run in
    record {
      named = λ t. (
        λ m. (refused t.0).1 (named_end plan s f x.stand t m),
        λ some. let at = (refused t.0).0 some in end_named plan s f x.stand t at.0 at.1.0 at.1.1,
      );
      refused = in_run.1;
      once = in_run.0;
      told = paragraph_for_each file x.are_refusals.layout x.program plan steps x.refusals x.are_refusals.each;
      not_behind = λ t said some there.
          let at = (refused t.0).0 some in none_ended f t said (refused_ended plan s f x.stand t at.0 at.1.0 at.1.1) there;
      behind = λ t below not_done not_refused.
          one_behind f t (explained plan s f x.stand t below not_done (λ e is. not_refused ((refused t.0).1 (below, (e, is)))));
    }
