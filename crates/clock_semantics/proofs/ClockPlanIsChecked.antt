-- The plan to which a clock program unfolds is checked.
use Rattle.std.proofs.Common.{◌≡◌, ℕ, zero, suc, ◌+◌, ◌-◌, ◌≤◌, Bool, false, Ok, Option, Some, None, [], ◌∷◌, length, arith, sym, ◌∙◌, ap, subst, refl}
use Rattle.std.specs.Prelude.{is_some, map, slice_get, sum_by}
use Rattle.std.proofs.lemmas.List.{get_or-map, length-map}
use Rattle.std.proofs.lemmas.Option.{slice_get_past, slice_get_within}
use Rattle.armus_base.specs.Limits.{max_tasks}
use Rattle.armus_base.specs.CheckedPlans.{IsCheckedPlan}
use Rattle.armus_base.proofs.CheckedByCodes.{checked_by_codes}
use Rattle.armus_base.specs.declared.op.Op.TheVariants as op
use Rattle.pl_syntax.specs.Tree.{done}
use Rattle.armus_base.specs.Numbers.{phaser}
use Rattle.pl_plan.proofs.Sound.{IsSound}
use Rattle.pl_plan.proofs.SoundSteps.{state_of}
use Rattle.pl_plan.proofs.UnfoldedIsChecked.{next_sound, sound_opening}
use Rattle.pl_plan.proofs.VisitsLeave.{bind_ok, ok_is}
use Rattle.clock_syntax.specs.Trees.{ClockTree}
use Rattle.clock_semantics.specs.calls.Laws.{ClockPlanIsChecked}
use Rattle.clock_semantics.specs.Moves.{Move, advances, begins, code_of_moves, drops, ends, no_standing, opens, ops_of, resumes, starts, stops}
use Rattle.clock_semantics.specs.Unfolding.{ClockStart, ClockUnfolding, clock_opening, clock_plan_of, clock_unfolded, come_all, comings_of, governed_by, innermost, naming, nothing_known, numbers_of, plan_of_moves, start_at, stop, unfold_activities, unfold_started, with_activity, with_clock_made, with_known, with_move}
use Rattle.clock_semantics.specs.calls.Making.{MakesMove, MayMake}
use Rattle.clock_semantics.proofs.Knows.{knows_nothing}
use Rattle.clock_semantics.proofs.Making.{Stops, comings_keep, stopped, with_visits}
use Rattle.clock_semantics.proofs.MoveCodes.{moves_at, plan_more, plan_now, stood}
use Rattle.clock_semantics.proofs.PlanSteps.{leaves_below, no_names}
use Rattle.clock_semantics.proofs.Starting.{starts_keeps}
use Rattle.clock_semantics.proofs.Unfolded.{IsReady, IsUnfolding, advances_keeps, as_forked, begins_keeps, counts_more, drops_keeps, ends_keeps, first_members, opens_keeps, resumes_keeps}

-- ---- a move

module _ (t : ℕ) (u : ClockUnfolding) (h : IsUnfolding t u) where
  by_move : (m : Move) (v : ClockUnfolding) → MayMake t u m v → u.ops + length (ops_of u.now.standing m) ≤ 1048576 → IsUnfolding t (with_move t m v)
  by_move (opens p) v may few =
      subst (λ z. IsUnfolding t (with_move t (opens p) z)) (sym may.3)
      (subst (λ z. IsUnfolding t (with_move t (opens z) (naming may.2 z (with_clock_made t u)))) (sym may.1) (opens_keeps t u h may.0 may.2 few))
  by_move (starts c ps f) v may few =
      subst (λ z. IsUnfolding t (with_move t (starts c ps f) z)) (sym may.7)
      (subst (λ z. IsUnfolding t (with_move t (starts c ps z) (with_activity t (start_at may.5 may.6 ps u.now) u))) (sym may.2)
      (subst (λ z. IsUnfolding t (with_move t (starts z ps (innermost u.now.governing)) (with_activity t (start_at may.5 may.6 ps u.now) u))) (sym may.1)
      (starts_keeps t u h may.5 may.6 may.3 ps may.4 may.0
      (subst (λ z. u.ops + length (ops_of u.now.standing (starts z ps (innermost u.now.governing))) ≤ 1048576) may.1
      (subst (λ z. u.ops + length (ops_of u.now.standing (starts c ps z)) ≤ 1048576) may.2 few)))))
  by_move (advances p) v may few =
      subst (λ z. IsUnfolding t (with_move t (advances p) z)) (sym may.2) (advances_keeps t u h p may.1.registered few)
  by_move (resumes p) v may few =
      subst (λ z. IsUnfolding t (with_move t (resumes p) z)) (sym may.3) (resumes_keeps t u h p may.1.registered few)
  by_move (drops p) v may few = subst (λ z. IsUnfolding t (with_move t (drops p) z)) (sym may.2) (drops_keeps t u h may.0 p may.1 few)
  by_move (begins f) v may few =
      subst (λ z. IsUnfolding t (with_move t (begins f) z)) (sym may.2)
      (subst (λ z. IsUnfolding t (with_move t (begins z) (governed_by (z ∷ u.now.governing) (with_clock_made t u)))) (sym may.1) (begins_keeps t u h may.0 few))
  by_move (ends f) v may few = subst (λ z. IsUnfolding t (with_move t (ends f) z)) (sym may.2) (ends_keeps t u h f may.0 may.1 few)
  by_move (stops ps) v may few = absurd may

  pub move_keeps : (w : ClockUnfolding) → MakesMove t u w → IsUnfolding t w
  move_keeps w m = subst (IsUnfolding t) (sym m.becomes) (by_move m.move m.base m.may m.few)

  pub visits_keep : (n : ℕ) → IsUnfolding t (with_visits n u)
  visits_keep n =
      record {
        members = h.members;
        acts = h.acts;
        own = h.own;
        later = h.later;
        knows = h.knows;
        ready = h.ready;
        counts = record { here = h.counts.here; idle = h.counts.idle; pending = h.counts.pending; counted = h.counts.counted };
      }

-- ---- between two activities

-- The activities below t have ended, and no other has begun.
pub record IsBetween (t : ℕ) (u : ClockUnfolding) : Type 0 where
  pub members : ℕ → ℕ → Bool
  pub sound : IsSound t (state_of (plan_now u) (map as_forked u.starts) members no_names 0)
  pub later : (a q : ℕ) → t ≤ a → members a q ≡ first_members (slice_get u.starts a) q
  pub ready : (a : ℕ) (start : ClockStart) → t ≤ a → slice_get u.starts a ≡ Some start → IsReady (length u.makers) start
  pub idle : (a : ℕ) → t ≤ a → moves_at u a ≡ []
  pub counted : u.ops ≡ sum_by length (map code_of_moves u.moves)

-- an activity begins
pub begins_known : (t : ℕ) (u : ClockUnfolding) (start : ClockStart) → IsBetween t u → slice_get u.starts t ≡ Some start → IsUnfolding t (with_known start.known u)
begins_known t u start h e =
    let inside = slice_get_within u.starts t start e in
    let many = length-map u.starts as_forked in
    let same = h.sound.starts in
    record {
      members = h.members;
      acts =
          record {
            sound = h.sound;
            here = omega arith;
            begun = ap is_some (get_or-map as_forked u.starts t start None inside);
          };
      own = λ q. h.later t q (omega arith) ∙ ap (λ o. first_members o q) e;
      later = λ a q l. h.later a q (omega arith);
      knows = (h.ready t start (omega arith) e).knows;
      ready = λ a s l f. h.ready a s (omega arith) f;
      counts =
          record {
            here = omega (arith, length-map u.moves code_of_moves, h.sound.checked.tables.one_code_each);
            idle = λ a l. h.idle a (omega arith);
            pending = λ q. ap (λ ms. (stood no_standing ms).pending q) (h.idle t (omega arith)) ∙ sym ((h.ready t start (omega arith) e).rests q);
            counted = h.counted;
          };
    }

-- and ends
pub stops_between : (t : ℕ) (u w : ClockUnfolding) → IsUnfolding t u → Stops t u w → IsBetween (t + 1) w
stops_between t u w h s =
    let ps = numbers_of u.now.standing.members (length u.makers) in
    let left =
    leaves_below t (length u.makers) (plan_now u) (map as_forked u.starts) h.members u.now.standing.members h.acts h.own
    (omega (arith, h.counts.counted, s.few, length-map ps (λ p. op.Drop (phaser p)))) in
    let more = counts_more t (stops ps) u h.counts in
    subst (IsBetween (t + 1)) (sym s.becomes)
    (record {
      members = left.left;
      sound =
          subst (λ p. IsSound (t + 1) (state_of p (map as_forked u.starts) left.left no_names 0)) (sym (plan_more t (stops ps) u h.counts.here h.counts.pending))
          (next_sound t _ left.acts.sound);
      later = λ a q l. left.others a q (λ e. absurd (omega arith)) ∙ h.later a q (omega arith);
      ready = λ a start l e. h.ready a start (omega arith) e;
      idle = λ a l. more.idle a (omega arith);
      counted = more.counted;
    })

pub passes_over : (t : ℕ) (u : ClockUnfolding) → IsBetween t u → IsBetween (t + 1) u
passes_over t u h =
    record {
      members = h.members;
      sound = next_sound t _ h.sound;
      later = λ a q l. h.later a q (omega arith);
      ready = λ a start l e. h.ready a start (omega arith) e;
      idle = λ a l. h.idle a (omega arith);
      counted = h.counted;
    }

-- ---- all activities

pub activity_keeps : (t : ℕ) (u w : ClockUnfolding) (o : Option ClockStart) → IsBetween t u → slice_get u.starts t ≡ o → unfold_started t o u ≡ Ok w → IsBetween (t + 1) w
activity_keeps t u w None h is e = subst (IsBetween (t + 1)) (ok_is _ _ e) (passes_over t u h)
activity_keeps t u w (Some start) h is e =
    let a = bind_ok (come_all t (comings_of start.first start.body) (with_known start.known u)) (stop t (start.first - 1)) w e in
    stops_between t a.0 w
    (comings_keep (IsUnfolding t) t (λ n v g. visits_keep t v g n) (λ v z g m. move_keeps t v g z m) (comings_of start.first start.body) (with_known start.known u) a.0
    (begins_known t u start h is) a.1)
    (stopped t (start.first - 1) a.0 w a.2)

pub activities_keep : (n t : ℕ) (u w : ClockUnfolding) → IsBetween t u → unfold_activities n t u ≡ Ok w → IsBetween (t + n) w
unfolding unfold_activities
activities_keep zero t u w h e = subst (IsBetween (t + 0)) (ok_is _ _ e) (subst (λ k. IsBetween k u) (omega arith) h)
activities_keep (suc n) t u w h e =
    let a = bind_ok (unfold_started t (slice_get u.starts t) u) (unfold_activities n (t + 1)) w e in
    subst (λ k. IsBetween k w) (omega arith) (activities_keep n (t + 1) a.0 w (activity_keeps t u a.0 (slice_get u.starts t) h refl a.1) a.2)

pub opening_between : (p : ClockTree) → IsBetween 0 (clock_opening p)
opening_between p =
    record {
      members = λ _ _. false;
      sound = sound_opening done tt;
      later = nothing;
      ready = first;
      idle = none;
      counted = refl;
    }
  where
    nothing : (a q : ℕ) → 0 ≤ a → false ≡ first_members (slice_get (clock_opening p).starts a) q
    nothing zero q l = refl
    nothing (suc a) q l = ap (λ o. first_members o q) (sym (slice_get_past (clock_opening p).starts (suc a) (omega arith)))

    first : (a : ℕ) (start : ClockStart) → 0 ≤ a → slice_get (clock_opening p).starts a ≡ Some start → IsReady 0 start
    first zero start l e =
        let whole : ClockStart = record { body = p; first = 1; known = nothing_known } in
        let same : whole ≡ start = (let q : Some whole ≡ Some start = e in cc) in
        subst (IsReady 0) same (record { knows = knows_nothing; rests = λ q. refl })
    first (suc a) start l e = absurd (let q = slice_get_past (clock_opening p).starts (suc a) (omega arith) in cc)

    none : (a : ℕ) → 0 ≤ a → moves_at (clock_opening p) a ≡ []
    none zero l = refl
    none (suc a) l = refl

-- what holds of a whole unfolding
pub unfolded_between : (p : ClockTree) (u : ClockUnfolding) → clock_unfolded p ≡ Ok u → IsBetween max_tasks u
unfolding clock_unfolded
unfolded_between p u e = activities_keep max_tasks 0 (clock_opening p) u (opening_between p) e

pub clock_plan_is_checked : ClockPlanIsChecked
unfolding clock_plan_of
clock_plan_is_checked p plan e =
    let a = bind_ok (clock_unfolded p) (λ s. Ok (plan_of_moves s)) plan e in
    let h = unfolded_between p a.0 a.1 in
    subst IsCheckedPlan (ok_is _ _ a.2) (checked_by_codes (plan_now a.0) (plan_of_moves a.0).pieces h.sound.checked)
