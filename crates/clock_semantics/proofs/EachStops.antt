-- The moves of each activity end with its one stop.
use Rattle.std.proofs.Common.{◌≡◌, ◌≢◌, ℕ, zero, suc, ◌+◌, ◌-◌, ◌<◌, ◌≤◌, Ok, Option, Some, None, List, [], ◌∷◌, ◌++◌, length, arith, sym, ◌∙◌, ap, subst, refl, inl, inr}
use Rattle.std.specs.Prelude.{Contains, slice_get}
use Rattle.std.proofs.lemmas.Bool.{cases_eq}
use Rattle.std.proofs.lemmas.List.{get_or-set_other, get_or-set_same, length-append, length-map}
use Rattle.std.proofs.lemmas.List.Elements.{Contains-append_cases}
use Rattle.std.proofs.lemmas.Option.{slice_get-get_or, slice_get_within}
use Rattle.armus_base.proofs.Elements.{Contains-cons_cases, nothing_in_nil}
use Rattle.armus_base.specs.Limits.{max_tasks}
use Rattle.armus_base.proofs.Lists.{past_end}
use Rattle.pl_plan.proofs.Places.{at_more}
use Rattle.pl_plan.proofs.VisitsLeave.{bind_ok, ok_is}
use Rattle.clock_semantics.specs.calls.Laws.{EachActivityStops, HoldsNoStop}
use Rattle.clock_semantics.specs.Moves.{Move, advances, begins, code_of_moves, drops, ends, opens, resumes, starts, stops}
use Rattle.clock_semantics.specs.Unfolding.{ClockStart, ClockUnfolding, clock_opening, clock_unfolded, come_all, comings_of, numbers_of, stop, unfold_activities, unfold_started, with_known, with_move}
use Rattle.clock_semantics.specs.calls.Making.{MakesMove, MayMake}
use Rattle.clock_semantics.proofs.ClockPlanIsChecked.{IsBetween, begins_known, move_keeps, opening_between, passes_over, stops_between, visits_keep}
use Rattle.clock_semantics.proofs.Making.{Stops, comings_keep, stopped}
use Rattle.clock_semantics.proofs.MoveCodes.{moves_at}
use Rattle.clock_semantics.proofs.Unfolded.{IsUnfolding, as_forked}

-- these moves are some that are no stop, and then one that is
record EndsInStop (xs : List Move) : Type 0 where
  before : List Move
  last : List ℕ
  is : xs ≡ before ++ stops last ∷ []
  none : HoldsNoStop before

-- the activities below t have stopped, and t has not
record HasNotStopped (t : ℕ) (u : ClockUnfolding) : Type 0 where
  unfolding_so : IsUnfolding t u
  past : (a : ℕ) → a < t → EndsInStop (moves_at u a)
  running : HoldsNoStop (moves_at u t)

record HaveStopped (t : ℕ) (u : ClockUnfolding) : Type 0 where
  between : IsBetween t u
  past : (a : ℕ) → a < t → a < length u.starts → EndsInStop (moves_at u a)

-- ---- a move

no_stop : (t : ℕ) (u v : ClockUnfolding) (m : Move) → MayMake t u m v → (qs : List ℕ) → stops qs ≢ m
no_stop t u v (opens p) may qs e = absurd cc
no_stop t u v (starts c ps f) may qs e = absurd cc
no_stop t u v (advances p) may qs e = absurd cc
no_stop t u v (resumes p) may qs e = absurd cc
no_stop t u v (drops p) may qs e = absurd cc
no_stop t u v (begins f) may qs e = absurd cc
no_stop t u v (ends f) may qs e = absurd cc
no_stop t u v (stops ps) may qs e = absurd may

one_more : (ms : List Move) (m : Move) → ((qs : List ℕ) → stops qs ≢ m) → HoldsNoStop ms → HoldsNoStop (ms ++ m ∷ [])
one_more ms m n h qs c =
    elim (Contains-append_cases ms (m ∷ []) (stops qs) c) [
      | inl before ↦ h qs before
      | inr last ↦ elim (Contains-cons_cases m [] (stops qs) last) [ inl e ↦ n qs (sym e) | inr none ↦ nothing_in_nil (stops qs) none ]
    ]

-- the moves before it stay
same_moves : (t : ℕ) (u v : ClockUnfolding) (m : Move) → MayMake t u m v → (a : ℕ) → moves_at v a ≡ moves_at u a
same_moves t u v (opens p) may a = ap (λ z. moves_at z a) may.3
same_moves t u v (starts c ps f) may a = ap (λ z. moves_at z a) may.7 ∙ at_more u.moves [] a
same_moves t u v (advances p) may a = ap (λ z. moves_at z a) may.2
same_moves t u v (resumes p) may a = ap (λ z. moves_at z a) may.3
same_moves t u v (drops p) may a = ap (λ z. moves_at z a) may.2
same_moves t u v (begins f) may a = ap (λ z. moves_at z a) may.2
same_moves t u v (ends f) may a = ap (λ z. moves_at z a) may.2
same_moves t u v (stops ps) may a = absurd may

as_many : (t : ℕ) (u v : ClockUnfolding) (m : Move) → MayMake t u m v → length u.moves ≤ length v.moves
as_many t u v (opens p) may = omega (arith, ap (λ (z : ClockUnfolding). length z.moves) may.3)
as_many t u v (starts c ps f) may = omega (arith, ap (λ (z : ClockUnfolding). length z.moves) may.7, length-append u.moves ([] ∷ []))
as_many t u v (advances p) may = omega (arith, ap (λ (z : ClockUnfolding). length z.moves) may.2)
as_many t u v (resumes p) may = omega (arith, ap (λ (z : ClockUnfolding). length z.moves) may.3)
as_many t u v (drops p) may = omega (arith, ap (λ (z : ClockUnfolding). length z.moves) may.2)
as_many t u v (begins f) may = omega (arith, ap (λ (z : ClockUnfolding). length z.moves) may.2)
as_many t u v (ends f) may = omega (arith, ap (λ (z : ClockUnfolding). length z.moves) may.2)
as_many t u v (stops ps) may = absurd may

-- one move more
module _ (t : ℕ) (m : Move) (v w : ClockUnfolding) (here : t < length v.moves) (is : w ≡ with_move t m v) where
  own_more : moves_at w t ≡ moves_at v t ++ m ∷ []
  own_more = ap (λ z. moves_at z t) is ∙ get_or-set_same v.moves t (moves_at v t ++ m ∷ []) [] here

  other_moves : (a : ℕ) → a ≢ t → moves_at w a ≡ moves_at v a
  other_moves a n = ap (λ z. moves_at z a) is ∙ get_or-set_other v.moves t a (moves_at v t ++ m ∷ []) [] n

goes_on : (t : ℕ) (u w : ClockUnfolding) → HasNotStopped t u → MakesMove t u w → HasNotStopped t w
goes_on t u w h made =
    let v = made.base in
    let same = same_moves t u v made.move made.may in
    let here : t < length v.moves = omega (arith, h.unfolding_so.counts.here, as_many t u v made.move made.may) in
    record {
      unfolding_so = move_keeps t u h.unfolding_so w made;
      past =
          λ a l. subst EndsInStop (sym (other_moves t made.move v w here made.becomes a (λ e. absurd (omega arith)) ∙ same a)) (h.past a l);
      running =
          subst HoldsNoStop (sym (own_more t made.move v w here made.becomes ∙ ap (λ ms. ms ++ made.move ∷ []) (same t)))
          (one_more (moves_at u t) made.move (no_stop t u v made.move made.may) h.running);
    }

stops_now : (t : ℕ) (u w : ClockUnfolding) → HasNotStopped t u → Stops t u w → HaveStopped (t + 1) w
stops_now t u w h s =
    let ps = numbers_of u.now.standing.members (length u.makers) in
    record {
      between = stops_between t u w h.unfolding_so s;
      past = λ a l there. elim (cases_eq a t) [
        | inl same ↦
            subst (λ z. EndsInStop (moves_at w z)) (sym same)
            (record {
              before = moves_at u t;
              last = ps;
              is = own_more t (stops ps) u w h.unfolding_so.counts.here s.becomes;
              none = h.running;
            })
        | inr other ↦ subst EndsInStop (sym (other_moves t (stops ps) u w h.unfolding_so.counts.here s.becomes a other)) (h.past a (omega arith))
      ];
    }

-- ---- all activities

activity_stops : (t : ℕ) (u w : ClockUnfolding) (o : Option ClockStart) → HaveStopped t u → slice_get u.starts t ≡ o → unfold_started t o u ≡ Ok w → HaveStopped (t + 1) w
activity_stops t u w None h is e =
    subst (HaveStopped (t + 1)) (ok_is _ _ e)
    (record { between = passes_over t u h.between; past = λ a l there. h.past a (omega (arith, past_end u.starts t is)) there })
activity_stops t u w (Some start) h is e =
    let a = bind_ok (come_all t (comings_of start.first start.body) (with_known start.known u)) (stop t (start.first - 1)) w e in
    let there = slice_get_within u.starts t start is in
    stops_now t a.0 w
    (comings_keep (HasNotStopped t) t
    (λ n v g. record { unfolding_so = visits_keep t v g.unfolding_so n; past = g.past; running = g.running }) (λ v z g m. goes_on t v z g m)
    (comings_of start.first start.body) (with_known start.known u) a.0
    (record {
      unfolding_so = begins_known t u start h.between is;
      past = λ b l. h.past b l (omega arith);
      running = λ qs c. nothing_in_nil (stops qs) (subst (λ ms. Contains ms (stops qs)) (h.between.idle t (omega arith)) c);
    }) a.1)
    (stopped t (start.first - 1) a.0 w a.2)

activities_stop : (n t : ℕ) (u w : ClockUnfolding) → HaveStopped t u → unfold_activities n t u ≡ Ok w → HaveStopped (t + n) w
unfolding unfold_activities
activities_stop zero t u w h e = subst (HaveStopped (t + 0)) (ok_is _ _ e) (subst (λ k. HaveStopped k u) (omega arith) h)
activities_stop (suc n) t u w h e =
    let a = bind_ok (unfold_started t (slice_get u.starts t) u) (unfold_activities n (t + 1)) w e in
    subst (λ k. HaveStopped k w) (omega arith) (activities_stop n (t + 1) a.0 w (activity_stops t u a.0 (slice_get u.starts t) h refl a.1) a.2)

shown :
    (u : ClockUnfolding) (t : ℕ) → t < length u.moves → EndsInStop (moves_at u t) →
    (ms : List Move) × (ps : List ℕ) × (slice_get u.moves t ≡ Some (ms ++ stops ps ∷ [])) × HoldsNoStop ms
shown u t l h = (h.before, h.last, slice_get-get_or u.moves t [] l ∙ ap Some h.is, h.none)

pub each_activity_stops : EachActivityStops
unfolding clock_unfolded
each_activity_stops p u e t there =
    let h = activities_stop max_tasks 0 (clock_opening p) u (record { between = opening_between p; past = λ a l k. absurd (omega arith) }) e in
    let sound = h.between.sound in
    let starts_many = length-map u.starts as_forked in
    let moves_many = length-map u.moves code_of_moves in
    shown u t (omega (arith, sound.checked.tables.one_code_each)) (h.past t (omega (arith, sound.checked.limits.few_tasks)) (omega (arith, sound.starts)))
