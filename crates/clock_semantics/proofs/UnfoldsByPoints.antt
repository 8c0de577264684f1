-- The computation of the unfolding goes from point to point, and there is no other way: plan and first fault are those of the relation.
use Rattle.std.proofs.Common.{◌≡◌, ℕ, zero, suc, ◌+◌, ◌-◌, ◌≤◌, Ok, Err, Option, Some, None, List, [], ◌∷◌, length, arith, sym, ◌∙◌, ap, subst, refl}
use Rattle.std.specs.Prelude.{slice_get}
use Rattle.std.proofs.lemmas.List.{length-map}
use Rattle.std.proofs.lemmas.Option.{slice_get_within, slice_get_past}
use Rattle.armus_base.specs.Limits.{max_tasks}
use Rattle.armus_base.proofs.Lists.{past_end}
use Rattle.clock_syntax.specs.Trees.{ClockTree}
use Rattle.pl_plan.proofs.VisitsLeave.{bind_ok}
use Rattle.pl_plan.specs.Unfolding.{Outcome, ◌>>=◌}
use Rattle.pl_plan.specs.declared.fault.CheckFault.{CheckFault}
use Rattle.clock_semantics.specs.calls.ClockTests.{left_at_end}
use Rattle.clock_semantics.specs.Moves.{stops}
use Rattle.clock_semantics.specs.Unfolding.{ClockComing, ClockStart, ClockUnfolding, clock_opening, clock_unfolded, come, come_all, stop, unfold_activities, unfold_activity, unfold_started, with_known, with_move}
use Rattle.clock_semantics.proofs.ByClockTable.{comes_by_table, faults_by_table, stops_with_room, stops_without_room}
use Rattle.clock_semantics.proofs.ClockPlanIsChecked.{IsBetween, activity_keeps, opening_between}
use Rattle.clock_semantics.proofs.Unfolded.{as_forked}
use Rattle.clock_semantics.specs.calls.ClockUnfolds.{ClockFaultIsFirst, ComesTo, FailsFrom, FailsOnTheWay, GoesToEnd, UnfoldingIsUnfolded, UnfoldsFrom, after_part, at_end, at_part, comes, in_a_later_one, in_this_one, later, no_more, one_more, stops_there}
use Rattle.clock_semantics.specs.calls.ProgramPoints.{ProgramPoint, behind, finishes_around, first_point, part_at, starter_of}
use Rattle.clock_semantics.proofs.PointComings.{HaveOneFinish, HasOneFinish, comings_at, first_left, governs_on, none_left, one_finish_on, opening_finishes, starter_stays, whole_body}

abbrev Unfolded : Type 0
Unfolded = Outcome ClockUnfolding

same_ok : (x y : ClockUnfolding) → ◌≡◌ {A = Unfolded} (Ok x) (Ok y) → x ≡ y
same_ok x y e = cc

-- the first of two is at fault, or the second is
data FailsIn (o : Unfolded) (g : ClockUnfolding → Unfolded) (fault : CheckFault) : Type 0 where
  in_first : o ≡ Err fault → FailsIn o g fault
  in_second : (x : ClockUnfolding) → o ≡ Ok x → g x ≡ Err fault → FailsIn o g fault

fails_in : (o : Unfolded) (g : ClockUnfolding → Unfolded) (fault : CheckFault) → (o >>= g) ≡ Err fault → FailsIn o g fault
fails_in (Ok x) g fault e = in_second x refl e
fails_in (Err f) g fault e = in_first e

heads : (m n : ClockComing) (ms ns : List ClockComing) → m ∷ ms ≡ n ∷ ns → n ≡ m
heads m n ms ns e = cc

tails : (m n : ClockComing) (ms ns : List ClockComing) → m ∷ ms ≡ n ∷ ns → ns ≡ ms
tails m n ms ns e = cc

-- ---- one activity

module _ (t : ℕ) where
  -- from a point to the end, by the list of what it comes to
  abbrev goes_by : List ClockComing → ProgramPoint → ClockUnfolding → Unfolded
  goes_by ms point u = come_all t ms u >>= stop t (starter_of point)

  -- behind a part, of this list
  record IsBehind (point : ProgramPoint) (u v : ClockUnfolding) (ms : List ClockComing) : Type 0 where
    left : comings_at (behind (length u.makers) point) ≡ ms
    governs : v.now.governing ≡ finishes_around (behind (length u.makers) point)

  -- what is known of a point with something left
  record IsAt (point : ProgramPoint) (u : ClockUnfolding) (m : ClockComing) (ms : List ClockComing) : Type 0 where
    here : ComesTo point m u
    goes_on : IsBehind point u (after_part t m u) ms

  is_at :
      (point : ProgramPoint) (u : ClockUnfolding) (m : ClockComing) (ms : List ClockComing) (o : Option ClockComing) → part_at point ≡ o →
      comings_at point ≡ m ∷ ms → u.now.governing ≡ finishes_around point → IsAt point u m ms
  is_at point u m ms None none is governs = absurd (let empty = none_left point none in cc)
  is_at point u m ms (Some x) some is governs =
      let both : m ∷ ms ≡ x ∷ comings_at (behind (length u.makers) point) = sym is ∙ first_left (length u.makers) point x some in
      let here : part_at point ≡ Some m = some ∙ ap (λ z. Some z) (heads m x ms (comings_at (behind (length u.makers) point)) both) in
      record {
        here = record { part = here; governs = governs };
        goes_on = record { left = tails m x ms (comings_at (behind (length u.makers) point)) both; governs = governs_on t u point m here governs };
      }

  -- at the end nothing is left
  nothing_here : (point : ProgramPoint) (o : Option ClockComing) → part_at point ≡ o → comings_at point ≡ [] → part_at point ≡ None
  nothing_here point None none is = none
  nothing_here point (Some x) some is = absurd (let first = first_left 0 point x some in cc)

  goes :
      (ms : List ClockComing) (point : ProgramPoint) (u w : ClockUnfolding) → comings_at point ≡ ms → u.now.governing ≡ finishes_around point →
      goes_by ms point u ≡ Ok w → GoesToEnd t point u w
  unfolding come_all
  goes [] point u w is governs e =
      let stopped = (stops_with_room t (starter_of point) u w).0 e in
      subst (λ z. GoesToEnd t point u z) (sym stopped.1) (stops_there (nothing_here point (part_at point) refl is) stopped.0)
  goes (m ∷ ms) point u w is governs e =
      let a = is_at point u m ms (part_at point) refl is governs in
      let x = bind_ok (come t m u >>= come_all t ms) (stop t (starter_of point)) w e in
      let y = bind_ok (come t m u) (come_all t ms) x.0 x.1 in
      let c = (comes_by_table t m u y.0).0 y.1 in
      comes m a.here c.0
      (goes ms (behind (length u.makers) point) (after_part t m u) w a.goes_on.left a.goes_on.governs
      (ap (λ v. come_all t ms v >>= stop t (starter_of (behind (length u.makers) point))) (sym c.1)
      ∙ ap (λ o. o >>= stop t (starter_of (behind (length u.makers) point))) y.2
      ∙ ap (λ n. stop t n x.0) (starter_stays (length u.makers) point) ∙ x.2))

  went : (point : ProgramPoint) (u w : ClockUnfolding) → GoesToEnd t point u w → goes_by (comings_at point) point u ≡ Ok w
  unfolding come_all
  went point u w (comes m here passes rest) =
      let next = behind (length u.makers) point in
      let v = after_part t m u in
      ap (λ ms. come_all t ms u >>= stop t (starter_of point)) (first_left (length u.makers) point m here.part)
      ∙ ap (λ o. (o >>= come_all t (comings_at next)) >>= stop t (starter_of point)) ((comes_by_table t m u v).1 (passes, refl))
      ∙ ap (λ n. come_all t (comings_at next) v >>= stop t n) (sym (starter_stays (length u.makers) point)) ∙ went next v w rest
  went point u w (stops_there none room) =
      ap (λ ms. come_all t ms u >>= stop t (starter_of point)) (none_left point none)
      ∙ (stops_with_room t (starter_of point) u (with_move t (stops (left_at_end u)) u)).1 (room, refl)

  fails :
      (ms : List ClockComing) (point : ProgramPoint) (u : ClockUnfolding) (fault : CheckFault) → comings_at point ≡ ms → u.now.governing ≡ finishes_around point →
      goes_by ms point u ≡ Err fault → FailsOnTheWay t point u fault
  unfolding come_all
  fails [] point u fault is governs e =
      let full = (stops_without_room t (starter_of point) u fault).0 e in
      at_end (nothing_here point (part_at point) refl is) full.0 full.1 full.2
  fails (m ∷ ms) point u fault is governs e =
      let next = behind (length u.makers) point in
      let a = is_at point u m ms (part_at point) refl is governs in
      by_end a next refl (fails_in (come t m u >>= come_all t ms) (stop t (starter_of point)) fault e)
      (λ v c more. fails ms next (after_part t m u) fault a.goes_on.left a.goes_on.governs
      (ap (λ z. come_all t ms z >>= stop t (starter_of next)) (sym c) ∙ more))
    where
      by_end :
          IsAt point u m ms → (next : ProgramPoint) → next ≡ behind (length u.makers) point → FailsIn (come t m u >>= come_all t ms) (stop t (starter_of point)) fault →
          ((v : ClockUnfolding) → v ≡ after_part t m u → (come_all t ms v >>= stop t (starter_of (behind (length u.makers) point))) ≡ Err fault →
          FailsOnTheWay t (behind (length u.makers) point) (after_part t m u) fault) → FailsOnTheWay t point u fault
      by_end a next same (in_second x is_ok full) rest =
          let y = bind_ok (come t m u) (come_all t ms) x is_ok in
          let c = (comes_by_table t m u y.0).0 y.1 in
          later m a.here c.0
          (rest y.0 c.1 (ap (λ o. o >>= stop t (starter_of (behind (length u.makers) point))) y.2
          ∙ ap (λ n. stop t n x) (starter_stays (length u.makers) point) ∙ full))
      by_end a next same (in_first is_err) rest = by_part a (fails_in (come t m u) (come_all t ms) fault is_err) rest
        where
          by_part :
              IsAt point u m ms → FailsIn (come t m u) (come_all t ms) fault →
              ((v : ClockUnfolding) → v ≡ after_part t m u → (come_all t ms v >>= stop t (starter_of (behind (length u.makers) point))) ≡ Err fault →
              FailsOnTheWay t (behind (length u.makers) point) (after_part t m u) fault) → FailsOnTheWay t point u fault
          by_part a (in_first is_here) rest = let f = (faults_by_table t m u fault).0 is_here in at_part m a.here f.1 f.0
          by_part a (in_second v is_ok is_later) rest =
              let c = (comes_by_table t m u v).0 is_ok in
              later m a.here c.0 (rest v c.1 (ap (λ o. o >>= stop t (starter_of (behind (length u.makers) point))) is_later))

  failed : (point : ProgramPoint) (u : ClockUnfolding) (fault : CheckFault) → FailsOnTheWay t point u fault → goes_by (comings_at point) point u ≡ Err fault
  unfolding come_all
  failed point u fault (at_part m here first is) =
      ap (λ ms. come_all t ms u >>= stop t (starter_of point)) (first_left (length u.makers) point m here.part)
      ∙ ap (λ o. (o >>= come_all t (comings_at (behind (length u.makers) point))) >>= stop t (starter_of point)) ((faults_by_table t m u fault).1 (is, first))
  failed point u fault (at_end none full kind is) =
      ap (λ ms. come_all t ms u >>= stop t (starter_of point)) (none_left point none) ∙ (stops_without_room t (starter_of point) u fault).1 (full, kind, is)
  failed point u fault (later m here passes rest) =
      let next = behind (length u.makers) point in
      let v = after_part t m u in
      ap (λ ms. come_all t ms u >>= stop t (starter_of point)) (first_left (length u.makers) point m here.part)
      ∙ ap (λ o. (o >>= come_all t (comings_at next)) >>= stop t (starter_of point)) ((comes_by_table t m u v).1 (passes, refl))
      ∙ ap (λ n. come_all t (comings_at next) v >>= stop t n) (sym (starter_stays (length u.makers) point)) ∙ failed next v fault rest

  -- where it has gone each start still has one finish at most
  still_one : (point : ProgramPoint) (u w : ClockUnfolding) → GoesToEnd t point u w → HaveOneFinish u → HaveOneFinish w
  still_one point u w (comes m here passes rest) have =
      still_one (behind (length u.makers) point) (after_part t m u) w rest (one_finish_on t m.statement m.part u have)
  still_one point u w (stops_there none room) have = have

  -- an activity from its start to its end
  module _ (start : ClockStart) (u : ClockUnfolding) where
    abbrev begun : ClockUnfolding
    begun = with_known start.known u

    abbrev computed : Unfolded
    computed = unfold_activity t start u

    as_points : goes_by (comings_at (first_point start)) (first_point start) begun ≡ computed
    as_points = ap (λ ms. come_all t ms begun >>= stop t (start.first - 1)) (whole_body start)

    activity_goes : (w : ClockUnfolding) → HasOneFinish start → computed ≡ Ok w → GoesToEnd t (first_point start) begun w
    activity_goes w one e = goes (comings_at (first_point start)) (first_point start) begun w refl one (as_points ∙ e)

    activity_fails : (fault : CheckFault) → HasOneFinish start → computed ≡ Err fault → FailsOnTheWay t (first_point start) begun fault
    activity_fails fault one e = fails (comings_at (first_point start)) (first_point start) begun fault refl one (as_points ∙ e)

    activity_went : (w : ClockUnfolding) → GoesToEnd t (first_point start) begun w → computed ≡ Ok w
    activity_went w g = sym as_points ∙ went (first_point start) begun w g

    activity_failed : (fault : CheckFault) → FailsOnTheWay t (first_point start) begun fault → computed ≡ Err fault
    activity_failed fault f = sym as_points ∙ failed (first_point start) begun fault f

-- ---- all activities

-- between two activities there are no more than may be
few_starts : (t : ℕ) (u : ClockUnfolding) → IsBetween t u → length u.starts ≤ max_tasks
few_starts t u between = omega (arith, between.sound.checked.limits.few_tasks, between.sound.starts, length-map u.starts as_forked)

-- where there is none, none is unfolded
none_is_unfolded : (n t : ℕ) (u : ClockUnfolding) → slice_get u.starts t ≡ None → unfold_activities n t u ≡ Ok u
unfolding unfold_activities
none_is_unfolded zero t u none = refl
none_is_unfolded (suc n) t u none =
    ap (λ o. unfold_started t o u >>= unfold_activities n (t + 1)) none
    ∙ none_is_unfolded n (t + 1) u (slice_get_past u.starts (t + 1) (omega (arith, past_end u.starts t none)))

-- what is known of the activities from t on
record AreToCome (n t : ℕ) (u : ClockUnfolding) : Type 0 where
  between : IsBetween t u
  one : HaveOneFinish u
  enough : max_tasks ≤ t + n

to_come_on :
    (n t : ℕ) (u v : ClockUnfolding) (start : ClockStart) → AreToCome (suc n) t u → slice_get u.starts t ≡ Some start → unfold_activity t start u ≡ Ok v →
    AreToCome n (t + 1) v
to_come_on n t u v start h is e =
    record {
      between = activity_keeps t u v (Some start) h.between is e;
      one = still_one t (first_point start) (with_known start.known u) v (activity_goes t start u v (h.one t start is) e) h.one;
      enough = omega (arith, h.enough);
    }

unfolds : (n t : ℕ) (u w : ClockUnfolding) → AreToCome n t u → unfold_activities n t u ≡ Ok w → UnfoldsFrom t u w
unfolding unfold_activities
unfolds zero t u w h e =
    subst (λ z. UnfoldsFrom t u z) (same_ok u w e) (no_more (slice_get_past u.starts t (omega (arith, h.enough, few_starts t u h.between))))
unfolds (suc n) t u w h e = by_start (slice_get u.starts t) refl (λ start v is first more. unfolds n (t + 1) v w (to_come_on n t u v start h is first) more)
  where
    by_start :
        (o : Option ClockStart) → slice_get u.starts t ≡ o →
        ((start : ClockStart) (v : ClockUnfolding) → slice_get u.starts t ≡ Some start → unfold_activity t start u ≡ Ok v → unfold_activities n (t + 1) v ≡ Ok w →
        UnfoldsFrom (t + 1) v w) → UnfoldsFrom t u w
    by_start None none rest = subst (λ z. UnfoldsFrom t u z) (same_ok u w (sym (none_is_unfolded (suc n) t u none) ∙ e)) (no_more none)
    by_start (Some start) is rest =
        let whole : (unfold_activity t start u >>= unfold_activities n (t + 1)) ≡ Ok w =
        sym (ap (λ o. unfold_started t o u >>= unfold_activities n (t + 1)) is) ∙ e in
        let a = bind_ok (unfold_activity t start u) (unfold_activities n (t + 1)) w whole in
        one_more start is (activity_goes t start u a.0 (h.one t start is) a.1) (rest start a.0 is a.1 a.2)

first_fault : (n t : ℕ) (u : ClockUnfolding) (fault : CheckFault) → AreToCome n t u → unfold_activities n t u ≡ Err fault → FailsFrom t u fault
unfolding unfold_activities
first_fault zero t u fault h e = absurd cc
first_fault (suc n) t u fault h e =
    by_start (slice_get u.starts t) refl (λ start v is first more. first_fault n (t + 1) v fault (to_come_on n t u v start h is first) more)
  where
    by_start :
        (o : Option ClockStart) → slice_get u.starts t ≡ o →
        ((start : ClockStart) (v : ClockUnfolding) → slice_get u.starts t ≡ Some start → unfold_activity t start u ≡ Ok v → unfold_activities n (t + 1) v ≡ Err fault →
        FailsFrom (t + 1) v fault) → FailsFrom t u fault
    by_start None none rest = absurd (let same = sym (none_is_unfolded (suc n) t u none) ∙ e in cc)
    by_start (Some start) is rest =
        let whole : (unfold_activity t start u >>= unfold_activities n (t + 1)) ≡ Err fault =
        sym (ap (λ o. unfold_started t o u >>= unfold_activities n (t + 1)) is) ∙ e in
        elim (fails_in (unfold_activity t start u) (unfold_activities n (t + 1)) fault whole) [
          | in_first here ↦ in_this_one start is (activity_fails t start u fault (h.one t start is) here)
          | in_second v first more ↦ in_a_later_one start is (activity_goes t start u v (h.one t start is) first) (rest start v is first more)
        ]

-- and the other way round
unfolded : (n t : ℕ) (u w : ClockUnfolding) → AreToCome n t u → UnfoldsFrom t u w → unfold_activities n t u ≡ Ok w
unfolding unfold_activities
unfolded n t u w h (no_more none) = none_is_unfolded n t u none
unfolded zero t u w h (one_more start is first rest) =
    absurd (omega (arith, h.enough, few_starts t u h.between, slice_get_within u.starts t start is))
unfolded (suc n) t u w h (one_more {v = v} start is first rest) =
    let a = activity_went t start u v first in
    ap (λ o. unfold_started t o u >>= unfold_activities n (t + 1)) is ∙ ap (λ o. o >>= unfold_activities n (t + 1)) a
    ∙ unfolded n (t + 1) v w (to_come_on n t u v start h is a) rest

faulty : (n t : ℕ) (u : ClockUnfolding) (fault : CheckFault) → AreToCome n t u → FailsFrom t u fault → unfold_activities n t u ≡ Err fault
unfolding unfold_activities
faulty zero t u fault h (in_this_one start is here) = absurd (omega (arith, h.enough, few_starts t u h.between, slice_get_within u.starts t start is))
faulty zero t u fault h (in_a_later_one start is first rest) = absurd (omega (arith, h.enough, few_starts t u h.between, slice_get_within u.starts t start is))
faulty (suc n) t u fault h (in_this_one start is here) =
    ap (λ o. unfold_started t o u >>= unfold_activities n (t + 1)) is ∙ ap (λ o. o >>= unfold_activities n (t + 1)) (activity_failed t start u fault here)
faulty (suc n) t u fault h (in_a_later_one {v = v} start is first rest) =
    let a = activity_went t start u v first in
    ap (λ o. unfold_started t o u >>= unfold_activities n (t + 1)) is ∙ ap (λ o. o >>= unfold_activities n (t + 1)) a
    ∙ faulty n (t + 1) v fault (to_come_on n t u v start h is a) rest

-- ---- the laws

at_first : (p : ClockTree) → AreToCome max_tasks 0 (clock_opening p)
at_first p = record { between = opening_between p; one = opening_finishes p; enough = omega arith }

pub unfolding_is_unfolded : UnfoldingIsUnfolded
unfolding clock_unfolded
unfolding_is_unfolded p u = (
  λ e. unfolds max_tasks 0 (clock_opening p) u (at_first p) e,
  λ r. unfolded max_tasks 0 (clock_opening p) u (at_first p) r,
)

pub fault_is_first : ClockFaultIsFirst
unfolding clock_unfolded
fault_is_first p fault = (
  λ e. first_fault max_tasks 0 (clock_opening p) fault (at_first p) e,
  λ r. faulty max_tasks 0 (clock_opening p) fault (at_first p) r,
)
