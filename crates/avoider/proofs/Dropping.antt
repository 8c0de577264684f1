-- A refused task that has dropped the phasers below one.
use mathlib.Core.Path.{fun_ext}
use Rattle.std.proofs.Common.{◌≡◌, ℕ, ◌+◌, false, Some, None, add-one, sym, refl, ap, ◌∙◌, subst, arith}
use Rattle.std.specs.Prelude.{is_some, unwrap_or, IsSome}
use Rattle.armus_base.specs.Plans.{Action, Drops}
use Rattle.armus_base.specs.Runs.{Place, next_place}
use Rattle.armus_base.specs.Places.{kept, members_below, phases_after}
use Rattle.armus_base.specs.calls.Places.{phases_at_place}
use Rattle.armus_base.specs.States.{Phases}
use Rattle.armus_base.specs.calls.Seats.{SeenBy}
use Rattle.armus_base.proofs.Fixed.{kept_above, members_below-none, members_below-suc}
use Rattle.board.specs.calls.Views.{own_place, place_in, seen, task_of}
use Rattle.board.specs.calls.Seats.{Frame, IsOf, Known, MakesStep, MayDrop}
use Rattle.board.specs.calls.Seats.{refused as refused_drops}
use Rattle.board.specs.calls.Steps.{own_phase}
use Rattle.board.proofs.Fitting.{moved_same}
use Rattle.pl_core.proofs.Refusing.{dropped_below}
use Rattle.phase_scan.specs.calls.Collects.{IfAsked}
use Rattle.avoider.specs.calls.OnBoard.{DropsBelow}

-- who has dropped nothing since its refusal has all its phases
pub kept_all : (m : Phases) → kept (Some 0) m ≡ m
kept_all m = fun_ext (λ r. kept_above 0 r m (omega arith))

-- the place of the own task after an own step
pub own_place_next : (x : Action) (k m : Known) →
    (seen m.view).places (task_of k.view) ≡ next_place ((seen k.view).places (task_of k.view)).done ((seen k.view).places (task_of k.view)).dropped x → m.view.own ≡ k.view.own →
    own_place m.view ≡ next_place (own_place k.view).done (own_place k.view).dropped x
own_place_next x k m is own = ap (place_in m.view.sight.places) (ap (λ o. unwrap_or o 0) own) ∙ is

abbrev pub place_at : ℕ → ℕ → Place
place_at k d = record { done = k; dropped = Some d }

pub record IsDropping (f : Frame) (first : Known) (q : ℕ) (now : Known) : Type 0 where
  pub of : IsOf now f
  pub free : now.view.holds ≡ false
  pub plan : now.view.plan ≡ first.view.plan
  pub task : task_of now.view ≡ task_of first.view
  pub place : own_place now.view ≡ place_at (own_place first.view).done (members_below (own_phase first.view) q)
  pub drops : DropsBelow (own_phase first.view) q first now

module _ (f : Frame) (first : Known) (q : ℕ) (now : Known) (refused : (own_place first.view).dropped ≡ Some 0) (d : IsDropping f first q now) where
  abbrev m : Phases
  m = own_phase first.view

  all_phases : m ≡ phases_after first.view.plan (task_of first.view) (own_place first.view).done
  all_phases =
      ap (λ o. kept o (phases_after first.view.plan (task_of first.view) (own_place first.view).done)) refused
      ∙ kept_all (phases_after first.view.plan (task_of first.view) (own_place first.view).done)

  pub phases_left : own_phase now.view ≡ kept (Some (members_below m q)) m
  phases_left =
      (λ i. phases_at_place (d.plan i) (d.task i) (d.place i))
      ∙ ap (kept (Some (members_below m q))) (sym all_phases)

  pub phase_same : own_phase now.view q ≡ m q
  phase_same = ap (λ g. g q) phases_left ∙ kept_above (members_below m q) q m (omega arith)

  pub may_drop_it : (n : ℕ) → own_phase now.view q ≡ Some n → MayDrop now q
  may_drop_it n is =
      refused_drops (subst IsSome (sym (ap (λ (v : Place). v.dropped) d.place)) refl) (subst IsSome (sym is) refl)
      (λ r l. ap (λ g. g r) phases_left ∙ dropped_below m q r l)

  pub drops_one : (n : ℕ) (next : Known) → m q ≡ Some n → MakesStep (Drops q) now next → IsDropping f first (q + 1) next
  drops_one n next member step =
      let at : own_place next.view ≡ next_place (own_place now.view).done (own_place now.view).dropped (Drops q) =
      own_place_next (Drops q) now next (ap (λ (s : SeenBy). s.places (task_of now.view)) step.seen_now ∙ moved_same (seen now.view).places (task_of now.view) (Drops q))
      step.same.own in
      record {
        of = record { table = step.table ∙ d.of.table; plan = step.same.plan ∙ d.of.plan; mode = step.same.mode ∙ d.of.mode };
        free = step.same.holds ∙ d.free;
        plan = step.same.plan ∙ d.plan;
        task = ap (λ o. unwrap_or o 0) step.same.own ∙ d.task;
        place = at
            ∙ ap (λ (v : Place). next_place v.done v.dropped (Drops q)) d.place
            ∙ ap (place_at (own_place first.view).done) (sym (members_below-suc m q n member) ∙ ap (members_below m) (sym (add-one q)));
        drops = subst (λ k. DropsBelow m k first next) (sym (add-one q))
            (now, d.drops, subst (λ b. IfAsked b (MakesStep (Drops q)) now next) (sym (ap is_some member)) step);
      }

  pub drops_none : m q ≡ None → IsDropping f first (q + 1) now
  drops_none none =
      record {
        of = d.of;
        free = d.free;
        plan = d.plan;
        task = d.task;
        place = d.place ∙ ap (place_at (own_place first.view).done) (sym (members_below-none m q none) ∙ ap (members_below m) (sym (add-one q)));
        drops = subst (λ k. DropsBelow m k first now) (sym (add-one q))
            (now, d.drops, subst (λ b. IfAsked b (MakesStep (Drops q)) now now) (sym (ap is_some none)) refl);
      }
