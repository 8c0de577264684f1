-- What the workers do, and what task 0 does behind its loop.
use Rattle.std.proofs.Common.{◌≡◌, ℕ, ◌+◌, ◌*◌, ◌<◌, ◌≤◌, Bool, true, false, None, ◌∷◌, arith, ◌∙◌}
use Rattle.std.specs.Prelude.{slice_index_or}
use Rattle.armus_base.specs.Limits.{max_ops}
use Rattle.armus_base.specs.Pieces.{times}
use Rattle.pl_plan.specs.Unfolding.{UnfoldingState, with_member, make_visits, visits_of, visit, a_turn}
use Rattle.pl_generator.proofs.GeneratedProgram.{pc, pb, round, worker, waits, goes_on}
use Rattle.pl_generator.proofs.Succeeding.{Succeeds, so, Parts, Has, has_more, comes, both, no_visit, turns}
use Rattle.pl_generator.proofs.Statements.{left, loop_fits, turn_fits, adv_fits, await_fits, dereg_fits}
use Rattle.pl_generator.proofs.Drawing.{HasNames, IsOnBoth, CanWork, can_work_as, member_elsewhere, member_other}

-- each task from number t on may work where it is forked
abbrev pub CanGoOn : ℕ → Parts → Type 0
CanGoOn t a = (c : ℕ) → t ≤ c → CanWork (a.members c) (slice_index_or a.starts c None)

-- where task t leaves a phaser, those behind it stay members
pub left_behind : (t p : ℕ) (a : Parts) → CanGoOn (t + 1) a → CanGoOn (t + 1) (left t p a)
left_behind t p a h c l =
    can_work_as (a.members c) (with_member t p false a.members c) (slice_index_or a.starts c None) (λ e. other 0 ∙ e) (λ e. other 1 ∙ e) (h c l)
  where
    other : (q : ℕ) → with_member t p false a.members c q ≡ a.members c q
    other q = member_other t p false a.members c q (λ e. absurd (omega arith))

-- who leaves the first phaser is still a member of the second
still_second : (t : ℕ) (ms : ℕ → ℕ → Bool) → ms t 1 ≡ true → with_member t 0 false ms t 1 ≡ true
still_second t ms e = member_elsewhere t 0 false ms t 1 (λ q. absurd (omega arith)) ∙ e

module _ (t k : ℕ) (a : Parts) (s : UnfoldingState) (h : Has k a s) (names : HasNames a.names) (f : ℕ) where
  one_round :
      a.members t 0 ≡ true → k + 3 < max_ops → Succeeds (Has (k + 3) a) (make_visits t (visit f a_turn ∷ visits_of (f + 1) round) s)
  one_round on few =
      comes (Has (k + 1) a) (Has (k + 3) a) t s _ _ (turn_fits f k a s h (omega arith) t)
      (λ s1 h1. comes (Has (k + 1 + 1) a) (Has (k + 3) a) t s1 _ _ (adv_fits (f + 1) (k + 1) a s1 h1 (omega arith) t pc 0 names.first on)
      (λ s2 h2. comes (Has (k + 1 + 1 + 1) a) (Has (k + 3) a) t s2 _ _ (await_fits (f + 1 + 1) (k + 1 + 1) a s2 h2 (omega arith) t pc 0 names.first on)
      (λ s3 h3. no_visit (Has (k + 3) a) t s3 (has_more (k + 1 + 1 + 1) (k + 3) a s3 (omega arith) h3))))

  -- task t waits on the second phaser
  waits_second : a.members t 1 ≡ true → k + 2 < max_ops → Succeeds (Has (k + 2) a) (make_visits t (visits_of f waits) s)
  waits_second on few =
      comes (Has (k + 1) a) (Has (k + 2) a) t s _ _ (adv_fits f k a s h (omega arith) t pb 1 names.second on)
      (λ s1 h1. comes (Has (k + 1 + 1) a) (Has (k + 2) a) t s1 _ _ (await_fits (f + 1) (k + 1) a s1 h1 (omega arith) t pb 1 names.second on)
      (λ s2 h2. no_visit (Has (k + 2) a) t s2 (has_more (k + 1 + 1) (k + 2) a s2 (omega arith) h2)))

module _ (t k : ℕ) (a : Parts) (s : UnfoldingState) (h : Has k a s) (names : HasNames a.names) (on : IsOnBoth (a.members t)) (f : ℕ) where
  all_rounds : k + 24 < max_ops → Succeeds (Has (k + 3 * 8) a) (make_visits t (times 8 (visit f a_turn ∷ visits_of (f + 1) round)) s)
  all_rounds few =
      turns (λ i. Has (k + 3 * i) a) t 8 (visit f a_turn ∷ visits_of (f + 1) round)
      (λ i s' l h'. so (Has (k + 3 * i + 3) a) (Has (k + 3 * (i + 1)) a) (make_visits t (visit f a_turn ∷ visits_of (f + 1) round) s')
      (one_round t (k + 3 * i) a s' h' names f on.first (omega arith))
      (λ r e. has_more (k + 3 * i + 3) (k + 3 * (i + 1)) a r (omega arith) e))
      8 0 (omega arith) s (has_more k (k + 3 * 0) a s (omega arith) h)

module _ (t k : ℕ) (a : Parts) (s : UnfoldingState) (h : Has k a s) (names : HasNames a.names) (on : IsOnBoth (a.members t)) (f : ℕ) where
  -- a worker leaves both phasers in the end
  pub works : k + 27 < max_ops → Succeeds (Has (k + 27) (left t 1 (left t 0 a))) (make_visits t (visits_of f worker) s)
  works few =
      let Q : UnfoldingState → Type 0 = Has (k + 27) (left t 1 (left t 0 a)) in
      comes (Has (k + 1) a) Q t s _ _ (loop_fits f k a s h (omega arith) t)
      (λ s1 h1. both (Has (k + 1 + 3 * 8) a) Q t s1 (times 8 (visit f a_turn ∷ visits_of (f + 1) round)) _ (all_rounds t (k + 1) a s1 h1 names on f (omega arith))
      (λ s2 h2. comes (Has (k + 1 + 3 * 8 + 1) (left t 0 a)) Q t s2 _ _ (dereg_fits _ (k + 1 + 3 * 8) a s2 h2 (omega arith) t pc 0 names.first on.first)
      (λ s3 h3. comes (Has (k + 1 + 3 * 8 + 1 + 1) (left t 1 (left t 0 a))) Q t s3 _ _
      (dereg_fits _ (k + 1 + 3 * 8 + 1) (left t 0 a) s3 h3 (omega arith) t pb 1 names.second (still_second t a.members on.second))
      (λ s4 h4. no_visit Q t s4 (has_more (k + 1 + 3 * 8 + 1 + 1) (k + 27) (left t 1 (left t 0 a)) s4 (omega arith) h4)))))

module _ (k : ℕ) (a : Parts) (s : UnfoldingState) (h : Has k a s) (names : HasNames a.names) (on : IsOnBoth (a.members 0)) (later : CanGoOn 1 a) (few : k + 3 < max_ops) where
  -- task 0 waits for the workers, a member of their barrier or not
  pub ends : (f : ℕ) (stays : Bool) → Succeeds (λ s'. (b : Parts) × Has (k + 3) b s' × CanGoOn 1 b) (make_visits 0 (visits_of f (goes_on stays)) s)
  ends f true =
      so (Has (k + 2) a) (λ s'. (b : Parts) × Has (k + 3) b s' × CanGoOn 1 b) (make_visits 0 (visits_of f waits) s)
      (waits_second 0 k a s h names f on.second (omega arith))
      (λ r e. (a, has_more (k + 2) (k + 3) a r (omega arith) e, later))
  ends f false =
      comes (Has (k + 1) (left 0 0 a)) (λ s'. (b : Parts) × Has (k + 3) b s' × CanGoOn 1 b) 0 s _ _ (dereg_fits f k a s h (omega arith) 0 pc 0 names.first on.first)
      (λ s1 h1. so (Has (k + 1 + 2) (left 0 0 a)) (λ s'. (b : Parts) × Has (k + 3) b s' × CanGoOn 1 b) (make_visits 0 (visits_of (f + 1) waits) s1)
      (waits_second 0 (k + 1) (left 0 0 a) s1 h1 names (f + 1) (still_second 0 a.members on.second) (omega arith))
      (λ r e. (left 0 0 a, has_more (k + 1 + 2) (k + 3) (left 0 0 a) r (omega arith) e, left_behind 0 0 a later)))
