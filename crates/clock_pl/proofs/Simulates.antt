-- What the checker does is what the unfolding does.
use Rattle.std.proofs.Common.{◌≡◌, ℕ, zero, suc, ◌+◌, ◌-◌, Bool, true, false, List, [], ◌∷◌, ◌++◌, length, map, Option, Some, None, Ok, Err, sym, ap, ap₂, ◌∙◌, subst, refl, arith}
use Rattle.std.specs.Prelude.{slice_index_or, slice_get, nat_le, nat_lt}
use Rattle.std.specs.Option.{option_map}
use Rattle.std.proofs.lemmas.Option.{slice_get-map}
use Rattle.armus_base.specs.Limits.{max_tasks, max_phasers, max_ops}
use Rattle.armus_base.specs.Numbers.{phaser}
use Rattle.armus_base.specs.Plans.{straight_plan}
use Rattle.armus_base.specs.declared.ids.PhaserId.{PhaserId}
use Rattle.clock_syntax.specs.Trees.{ClockPlain, ClockTree, clock, advance, resume, drop, skip}
use Rattle.clock_semantics.specs.Moves.{Move, advances, begins, code_of_moves, drops, ends, opens, ops_of, resumes, starts, stops}
use Rattle.clock_semantics.specs.Unfolding.{ClockComing, ClockPart, ClockUnfolding, Current, a_close, a_finish, a_loop, a_plain, a_turn, act_async, act_close, act_finish, act_plain, an_async, clock_act, clock_of, clock_opening, clock_plan_of, clock_unfolded, clocks_of, come, come_all, comings_of, count_clock_visit, counted_coming, governed_by, innermost, move_at, naming, next_activity, next_clock, numbers_of, plan_of_moves, start_at, stop, too_many_activities, too_many_clock_cells, too_many_clock_ops, too_many_clock_visits, too_many_clocks, unfold_activities, unfold_started, with_activity, with_clock_made, with_known, with_move}
use Rattle.pl_plan.specs.Limits.{max_visits}
use Rattle.pl_plan.specs.Unfolding.{Outcome, ◌>>=◌, fault_unless, has_cells}
use Rattle.pl_plan.specs.declared.fault.CheckFault.{CheckFault}
use Rattle.clock_pl.specs.inside.ClockChecker.{ClockChecker, KeptStart, current, current_of, standing_by_rows, start_kept}
use Rattle.clock_pl.specs.inside.ClockCheckerSteps.{checker_part, checker_activities, checker_advance, checker_async, checker_close, checker_come, checker_come_all, checker_counted, checker_drop, checker_finish, checker_move, checker_next_activity, checker_next_clock, checker_open, checker_ops, checker_plain, checker_resume, checker_started, checker_stop, checker_visit, innermost_alone, kept_start_at, known_after, opening_checker, with_activity_begun, with_known_changed, with_ops, with_governing, with_kept_activity, with_kept_clock, with_kept_name}
use Rattle.clock_pl.proofs.ShowsUnfolding.{ShowsLists, ShowsNow, ops_shown, shows_activity, shows_begun, shows_clock, shows_governed, shows_moved, shows_named}

-- the same fault, or what is kept shows the state
abbrev pub Simulates : ℕ → Outcome ClockChecker → Outcome ClockUnfolding → Type 0
Simulates t (Ok k) o = (s : ClockUnfolding) × (o ≡ Ok s) × ShowsNow t k s
Simulates t (Err f) o = o ≡ Err f

simulates_unless : (t : ℕ) (b b' : Bool) (kind n : ℕ) (f : Outcome ClockChecker) (g : Outcome ClockUnfolding) → b' ≡ b →
    Simulates t f g → Simulates t (fault_unless b kind n >>= λ _. f) (fault_unless b' kind n >>= λ _. g)
simulates_unless t true b' kind n f g e h = subst (λ v. Simulates t f (fault_unless v kind n >>= λ _. g)) (sym e) h
simulates_unless t false b' kind n f g e h = ap (λ v. fault_unless v kind n >>= λ _. g) e

-- one value that both find
simulates_found : {A : Type 0} (t : ℕ) (o o' : Outcome A) (f : A → Outcome ClockChecker) (g : A → Outcome ClockUnfolding) → o' ≡ o →
    ((x : A) → Simulates t (f x) (g x)) → Simulates t (o >>= f) (o' >>= g)
simulates_found t (Ok x) o' f g e h = subst (λ z. Simulates t (f x) (z >>= g)) (sym e) (h x)
simulates_found t (Err z) o' f g e h = ap (λ z. z >>= g) e

-- one after the other
simulates_then : (t : ℕ) (o : Outcome ClockChecker) (g : Outcome ClockUnfolding) (f : ClockChecker → Outcome ClockChecker) (f' : ClockUnfolding → Outcome ClockUnfolding) →
    Simulates t o g → ((k : ClockChecker) (s : ClockUnfolding) → ShowsNow t k s → Simulates t (f k) (f' s)) → Simulates t (o >>= f) (g >>= f')
simulates_then t (Ok k) g f f' h r = subst (λ z. Simulates t (f k) (z >>= f')) (sym h.1) (r k h.0 h.2)
simulates_then t (Err e) g f f' h r = ap (λ z. z >>= f') h

module _ (t : ℕ) (k : ClockChecker) (s : ClockUnfolding) (h : ShowsNow t k s) (n : ℕ) where
  pub simulates_move : (m : Move) → Simulates t (checker_move n m k) (move_at t n m s)
  unfolding checker_move checker_ops move_at
  simulates_move m = by (nat_le (k.counts.ops + length (ops_of (standing_by_rows k.known) m)) max_ops) (nat_le (s.ops + length (ops_of s.now.standing m)) max_ops)
      (ap₂ (λ a b. nat_le (a + b) max_ops) h.lists.counts.0 (ap length (ops_shown t k s h m)))
    where
      by : (b b' : Bool) → b' ≡ b → Simulates t
          ((fault_unless b too_many_clock_ops n >>= λ _. Ok (with_ops (ops_of (standing_by_rows k.known) m) k))
          >>= λ k. Ok (with_known_changed (known_after m k.known) k))
          (fault_unless b' too_many_clock_ops n >>= λ _. Ok (with_move t m s))
      by true b' e = (with_move t m s, ap (λ v. fault_unless v too_many_clock_ops n >>= λ _. Ok (with_move t m s)) e, shows_moved t k s h m)
      by false b' e = ap (λ v. fault_unless v too_many_clock_ops n >>= λ _. Ok (with_move t m s)) e

  next_clock_same : next_clock n s ≡ checker_next_clock n k
  unfolding next_clock checker_next_clock
  next_clock_same =
      ap₂ (λ (ps : List _) (ms : List _). fault_unless (nat_lt (length ms) max_phasers) too_many_clocks n
      >>= λ _. fault_unless (has_cells (length ps) (length ms + 1)) too_many_clock_cells n >>= λ _. Ok (length ms)) h.lists.parents h.lists.makers

  next_activity_same : next_activity n s ≡ checker_next_activity n k
  unfolding next_activity checker_next_activity
  next_activity_same =
      ap₂ (λ (ps : List _) (ms : List _). fault_unless (nat_lt (length ps) max_tasks) too_many_activities n
      >>= λ _. fault_unless (has_cells (length ps + 1) (length ms)) too_many_clock_cells n >>= λ _. Ok (length ps)) h.lists.parents h.lists.makers

  simulates_clock_of : (idle : Bool) (x : List ℕ) (f : ℕ → Move) →
      Simulates t (clock_of idle n [] x (current k) >>= λ p. checker_move n (f p) k) (clock_of idle n [] x s.now >>= λ p. move_at t n (f p) s)
  simulates_clock_of idle x f = simulates_found t (clock_of idle n [] x (current k)) (clock_of idle n [] x s.now) (λ p. checker_move n (f p) k) (λ p. move_at t n (f p) s)
      (ap (clock_of idle n [] x) h.now) (λ p. simulates_move (f p))

module _ (t : ℕ) (k : ClockChecker) (s : ClockUnfolding) (h : ShowsNow t k s) (n : ℕ) where
  pub simulates_plain : (p : ClockPlain) → Simulates t (checker_plain n p k) (act_plain t n p s)
  unfolding act_plain checker_open checker_advance checker_resume checker_drop
  simulates_plain (clock x) = simulates_found t (checker_next_clock n k) (next_clock n s) _ _ (next_clock_same t k s h n)
      (λ p. simulates_move t (with_kept_name x p (with_kept_clock k)) (naming x p (with_clock_made t s))
      (shows_named t (with_kept_clock k) (with_clock_made t s) x p (shows_clock t k s h)) n (opens p))
  simulates_plain (advance x) = simulates_clock_of t k s h n false x advances
  simulates_plain (resume x) = simulates_clock_of t k s h n true x resumes
  simulates_plain (drop x) = simulates_clock_of t k s h n false x drops
  simulates_plain skip = (s, refl, h)

  pub simulates_async : (xs : List (List ℕ)) (body : ClockTree) → Simulates t (checker_async n xs body k) (act_async t n xs body s)
  unfolding act_async checker_async
  simulates_async xs body = simulates_found t (clocks_of n [] xs (current k)) (clocks_of n [] xs s.now) _ _ (ap (clocks_of n [] xs) h.now)
      (λ ps. simulates_found t (checker_next_activity n k) (next_activity n s) _ _ (next_activity_same t k s h n)
      (λ c. subst (λ (f : Option ℕ). Simulates t (checker_move n (starts c ps (innermost (current k).governing)) (kept ps)) (move_at t n (starts c ps f) (with_activity t
      (start_at n body ps s.now) s)))
      (ap (λ (w : Current). innermost w.governing) (sym h.now))
      (simulates_move t (kept ps) (with_activity t (start_at n body ps s.now) s) (shows_activity t k s n body ps h) n (starts c ps (innermost (current k).governing)))))
    where
      kept : List ℕ → ClockChecker
      kept ps = with_kept_activity (kept_start_at n body (map phaser ps ++ innermost_alone k.known.governing) k.known) k

  pub simulates_finish : Simulates t (checker_finish n k) (act_finish t n s)
  unfolding act_finish checker_finish
  simulates_finish = simulates_found t (checker_next_clock n k) (next_clock n s) _ _ (next_clock_same t k s h n)
      (λ f. subst (λ (fs : List ℕ). Simulates t (checker_move n (begins f) (with_governing (phaser f ∷ k.known.governing) (with_kept_clock k)))
      (move_at t n (begins f) (governed_by (f ∷ fs) (with_clock_made t s)))) (ap (λ (w : Current). w.governing) (sym h.now))
      (simulates_move t (with_governing (phaser f ∷ k.known.governing) (with_kept_clock k)) (governed_by (f ∷ map (λ (p : PhaserId). p.0) k.known.governing)
      (with_clock_made t s))
      (shows_governed t (with_kept_clock k) (with_clock_made t s) (phaser f ∷ k.known.governing) (shows_clock t k s h)) n (begins f)))

  close_by : (fs : List PhaserId) → Simulates t (checker_close n fs k) (act_close t n (map (λ (p : PhaserId). p.0) fs) s)
  unfolding act_close checker_close
  close_by [] = (s, refl, h)
  close_by (f ∷ fs) = simulates_move t (with_governing fs k) (governed_by (map (λ (p : PhaserId). p.0) fs) s) (shows_governed t k s fs h) n (ends f.0)

  pub simulates_close : Simulates t (checker_close n k.known.governing k) (act_close t n s.now.governing s)
  simulates_close = subst (λ (fs : List ℕ). Simulates t (checker_close n k.known.governing k) (act_close t n fs s)) (ap (λ (w : Current). w.governing) (sym h.now))
      (close_by k.known.governing)

  simulates_act : (part : ClockPart) → Simulates t (checker_part n part k) (clock_act t n part s)
  simulates_act (a_plain p) = simulates_plain p
  simulates_act (an_async xs body) = simulates_async xs body
  simulates_act a_finish = simulates_finish
  simulates_act a_close = simulates_close
  simulates_act a_loop = (s, refl, h)
  simulates_act a_turn = (s, refl, h)

  simulates_visit : Simulates t (checker_visit n k) (count_clock_visit n s)
  unfolding checker_visit count_clock_visit
  simulates_visit = simulates_unless t (nat_lt k.counts.visits max_visits) (nat_lt s.visits max_visits) too_many_clock_visits n _ _
      (ap (λ v. nat_lt v max_visits) h.lists.counts.1) (
        _,
        refl,
        record {
          lists = record {
            parents = h.lists.parents;
            makers = h.lists.makers;
            codes = h.lists.codes;
            starts = h.lists.starts;
            fits = h.lists.fits;
            many = h.lists.many;
            counts = (h.lists.counts.0, ap (λ v. v + 1) h.lists.counts.1);
            later = h.lists.later;
          };
          activity = h.activity;
          here = h.here;
          pending = h.pending;
          short = h.short;
          now = h.now;
        },
      )

  simulates_counted : (part : ClockPart) → Simulates t (checker_counted n part k) (counted_coming n part s)
  simulates_counted (a_plain p) = simulates_visit
  simulates_counted (an_async xs body) = simulates_visit
  simulates_counted a_finish = simulates_visit
  simulates_counted a_close = (s, refl, h)
  simulates_counted a_loop = simulates_visit
  simulates_counted a_turn = simulates_visit

simulates_come : (t : ℕ) (m : ClockComing) (k : ClockChecker) (s : ClockUnfolding) → ShowsNow t k s → Simulates t (checker_come m k) (come t m s)
simulates_come t m k s h = simulates_then t (checker_counted m.statement m.part k) (counted_coming m.statement m.part s) (checker_part m.statement m.part)
    (clock_act t m.statement m.part) (simulates_counted t k s h m.statement m.part) (λ k' s' h'. simulates_act t k' s' h' m.statement m.part)

pub simulates_come_all : (t : ℕ) (ms : List ClockComing) (k : ClockChecker) (s : ClockUnfolding) → ShowsNow t k s → Simulates t (checker_come_all ms k) (come_all t ms s)
unfolding checker_come_all come_all
simulates_come_all t [] k s h = (s, refl, h)
simulates_come_all t (m ∷ ms) k s h = simulates_then t (checker_come m k) (come t m s) (checker_come_all ms) (come_all t ms) (simulates_come t m k s h)
    (λ k' s' h'. simulates_come_all t ms k' s' h')

simulates_stop : (t n : ℕ) (k : ClockChecker) (s : ClockUnfolding) → ShowsNow t k s → Simulates t (checker_stop n k) (stop t n s)
unfolding checker_stop stop
simulates_stop t n k s h =
    subst (λ (ps : List ℕ). Simulates t (checker_move n (stops (numbers_of (standing_by_rows k.known).members (length k.makers))) k) (move_at t n (stops ps) s))
    (sym (ap₂ (λ (w : Current) (ms : List _). numbers_of w.standing.members (length ms)) h.now h.lists.makers))
    (simulates_move t k s h n (stops (numbers_of (standing_by_rows k.known).members (length k.makers))))

-- ---- activities

-- the same fault, or what is kept shows the lists, and the activities from t on have made no move
abbrev pub SimulatesLists : ℕ → Outcome ClockChecker → Outcome ClockUnfolding → Type 0
SimulatesLists t (Ok k) o = (s : ClockUnfolding) × (o ≡ Ok s) × ShowsLists t k s
SimulatesLists t (Err f) o = o ≡ Err f

lists_of : (t : ℕ) (o : Outcome ClockChecker) (g : Outcome ClockUnfolding) → Simulates t o g → SimulatesLists (t + 1) o g
lists_of t (Ok k) g h = (h.0, h.1, h.2.lists)
lists_of t (Err f) g h = h

lists_later : (t : ℕ) (k : ClockChecker) (s : ClockUnfolding) → ShowsLists t k s → ShowsLists (t + 1) k s
lists_later t k s h = record {
  parents = h.parents;
  makers = h.makers;
  codes = h.codes;
  starts = h.starts;
  fits = h.fits;
  many = h.many;
  counts = h.counts;
  later = λ u l. h.later u (omega arith);
}

simulates_started : (t : ℕ) (k : ClockChecker) (s : ClockUnfolding) → ShowsLists t k s →
    SimulatesLists (t + 1) (checker_started t (slice_get k.starts t) k) (unfold_started t (slice_get s.starts t) s)
simulates_started t k s h =
    subst (λ o. SimulatesLists (t + 1) (checker_started t (slice_get k.starts t) k) (unfold_started t o s))
    (sym (ap (λ xs. slice_get xs t) h.starts ∙ slice_get-map (start_kept k.names) k.starts t)) (by (slice_get k.starts t) refl)
  where
    by : (o : Option KeptStart) → slice_get k.starts t ≡ o →
        SimulatesLists (t + 1) (checker_started t o k) (unfold_started t (option_map (start_kept k.names) o) s)
    by None e = (s, refl, lists_later t k s h)
    by (Some st) e = lists_of t (checker_started t (Some st) k) (unfold_started t (Some (start_kept k.names st)) s)
        (simulates_then t (checker_come_all (comings_of (st.before + 1) st.body) (with_activity_begun t st.known k))
        (come_all t (comings_of (st.before + 1) st.body) (with_known (current_of k.names st.known) s)) (checker_stop st.before) (stop t (st.before + 1 - 1))
        (simulates_come_all t (comings_of (st.before + 1) st.body) (with_activity_begun t st.known k) (with_known (current_of k.names st.known) s) (shows_begun t k s st h e))
        (λ k' s' h'. subst (λ n. Simulates t (checker_stop st.before k') (stop t n s')) (let q : st.before ≡ st.before + 1 - 1 = omega arith in q)
        (simulates_stop t st.before k' s' h')))

pub simulates_activities : (n t : ℕ) (k : ClockChecker) (s : ClockUnfolding) → ShowsLists t k s →
    SimulatesLists (t + n) (checker_activities n t k) (unfold_activities n t s)
unfolding checker_activities unfold_activities
simulates_activities zero t k s h = (s, refl, subst (λ z. ShowsLists z k s) (let q : t ≡ t + 0 = omega arith in q) h)
simulates_activities (suc n) t k s h =
    subst (λ z. SimulatesLists z (checker_started t (slice_get k.starts t) k >>= checker_activities n (t + 1))
    (unfold_started t (slice_get s.starts t) s >>= unfold_activities n (t + 1))) (let q : t + 1 + n ≡ t + suc n = omega arith in q)
    (on (checker_started t (slice_get k.starts t) k) (unfold_started t (slice_get s.starts t) s) (simulates_started t k s h) (λ k' s' h'. simulates_activities n
    (t + 1) k' s' h'))
  where
    on : (o : Outcome ClockChecker) (g : Outcome ClockUnfolding) → SimulatesLists (t + 1) o g →
        ((k' : ClockChecker) (s' : ClockUnfolding) → ShowsLists (t + 1) k' s' → SimulatesLists (t + 1 + n) (checker_activities n (t + 1) k') (unfold_activities n (t + 1) s')) →
        SimulatesLists (t + 1 + n) (o >>= checker_activities n (t + 1)) (g >>= unfold_activities n (t + 1))
    on (Ok k') g h r = subst (λ z. SimulatesLists (t + 1 + n) (checker_activities n (t + 1) k') (z >>= unfold_activities n (t + 1))) (sym h.1) (r k' h.0 h.2)
    on (Err e) g h r = ap (λ z. z >>= unfold_activities n (t + 1)) h

-- ---- the plan

opening_shown : (p : ClockTree) → ShowsLists 0 (opening_checker p) (clock_opening p)
opening_shown p = record {
  parents = refl;
  makers = refl;
  codes = refl;
  starts = refl;
  fits = (omega arith, refl, tt);
  many = refl;
  counts = (refl, refl);
  later = λ u l. nothing u;
}
  where
    nothing : (u : ℕ) → slice_index_or {A = List Move} ([] ∷ []) u [] ≡ []
    nothing zero = refl
    nothing (suc u) = refl

pub planned : (p : ClockTree) (k : ClockChecker) → checker_activities max_tasks 0 (opening_checker p) ≡ Ok k → clock_plan_of p ≡ Ok (straight_plan k.parents k.makers k.codes)
unfolding clock_plan_of clock_unfolded
planned p k e =
    let h : SimulatesLists (0 + max_tasks) (Ok k) (unfold_activities max_tasks 0 (clock_opening p)) =
    subst (λ o. SimulatesLists (0 + max_tasks) o (unfold_activities max_tasks 0 (clock_opening p))) e (simulates_activities max_tasks 0 (opening_checker p)
    (clock_opening p) (opening_shown p)) in
    ap (λ o. o >>= λ s. Ok (plan_of_moves s)) h.1
    ∙ ap (λ xs. Ok (straight_plan xs h.0.makers (map code_of_moves h.0.moves))) h.2.parents
    ∙ ap₂ (λ ms cs. Ok (straight_plan k.parents ms cs)) h.2.makers h.2.codes

pub plan_fault : (p : ClockTree) (f : CheckFault) → checker_activities max_tasks 0 (opening_checker p) ≡ Err f → clock_plan_of p ≡ Err f
unfolding clock_plan_of clock_unfolded
plan_fault p f e =
    let h : SimulatesLists (0 + max_tasks) (Err f) (unfold_activities max_tasks 0 (clock_opening p)) =
    subst (λ o. SimulatesLists (0 + max_tasks) o (unfold_activities max_tasks 0 (clock_opening p))) e (simulates_activities max_tasks 0 (opening_checker p)
    (clock_opening p) (opening_shown p)) in
    ap (λ o. o >>= λ s. Ok (plan_of_moves s)) h
