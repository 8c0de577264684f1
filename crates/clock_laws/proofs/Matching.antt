-- A state of the direct machine and a run of the plan: what each says of the other.
use Rattle.std.proofs.Common.{◌≡◌, ◌≢◌, ℕ, true, false, Option, Some, None, List, ◌∷◌, drop, sym, ◌∙◌, ap, subst, refl}
use Rattle.std.specs.Prelude.{◌==◌, is_some}
use Rattle.armus_base.specs.Plans.{Action, Plan, actions, actions_of, maker_of}
use Rattle.armus_base.specs.States.{IsLegal, State, Step}
use Rattle.armus_base.specs.Runs.{IsPlainRun, state_after}
use Rattle.armus_base.specs.Places.{first_phases}
use Rattle.armus_base.specs.CheckedPlans.{IsCheckedPlan}
use Rattle.armus_base.proofs.Members.{other_step}
use Rattle.clock_semantics.specs.Moves.{Move, ActivityStanding, code_from}
use Rattle.clock_laws.specs.calls.Direct.{ClockState}
use Rattle.clock_laws.proofs.Lawful.{AreLawfulMoves, ClockKinds}
use Rattle.clock_laws.proofs.Acting.{actions_left, acts_legally, step_of, then_left}
use Rattle.clock_laws.proofs.Cells.{AgreesAt}

-- these actions are those of these moves, for an activity that remembers this
pub record HasLeft (clock : ClockKinds) (maker : ℕ → ℕ) (t : ℕ) (memory : ℕ → Option ℕ) (ms : List Move) (xs : List Action) : Type 0 where
  pub standing : ActivityStanding
  pub pending : (p : ℕ) → standing.pending p ≡ is_some (memory p)
  pub code : xs ≡ actions_of (code_from standing ms)
  pub lawful : AreLawfulMoves clock maker t standing ms

-- each activity stands on each clock and finish as its task on the phaser
abbrev pub CellsAgree : ClockKinds → (ℕ → ℕ) → ClockState → State → Type 0
CellsAgree clock maker s σ =
    (p u : ℕ) →
    AgreesAt (clock.is p) (u == maker p) (s.phase p) (s.enrolled p u) (s.unsignalled p u) (s.remembered p u) (s.open_set p u) (σ.phases u p)

-- who is not forked is a member of nothing, but for a task that is just being registered
abbrev pub IdleOutside : Option ℕ → State → Type 0
IdleOutside e σ = (u : ℕ) → e ≢ Some u → σ.forked u ≡ false → (p : ℕ) → σ.phases u p ≡ None

-- who is forked begins with the phases that its standing says
abbrev pub FirstsAgree : Plan → ClockKinds → State → Type 0
FirstsAgree plan clock σ = (u : ℕ) → σ.forked u ≡ true → (q : ℕ) → (clock.first u).members q ≡ is_some (first_phases plan u q)

-- activity t is in the midst of a move, and its task has these actions left
pub record Midst (plan : Plan) (clock : ClockKinds) (t : ℕ) (e : Option ℕ) (s : ClockState) (h : List Step) (xs : List Action) : Type 0 where
  pub run : IsPlainRun plan h
  pub acting : (state_after h).forked t ≡ true
  pub quiet : (u : ℕ) → (state_after h).published u ≡ None
  pub started : (u : ℕ) → s.started u ≡ (state_after h).forked u
  pub cells : CellsAgree clock (maker_of plan) s (state_after h)
  pub idle : IdleOutside e (state_after h)
  pub firsts : FirstsAgree plan clock (state_after h)
  pub others : (u : ℕ) → u ≢ t → HasLeft clock (maker_of plan) u (λ p. s.remembered p u) (s.left u) (actions_left plan h u)
  pub own : actions_left plan h t ≡ xs

-- between two moves
pub record Matches (plan : Plan) (clock : ClockKinds) (s : ClockState) (h : List Step) : Type 0 where
  pub run : IsPlainRun plan h
  pub quiet : (u : ℕ) → (state_after h).published u ≡ None
  pub started : (u : ℕ) → s.started u ≡ (state_after h).forked u
  pub cells : CellsAgree clock (maker_of plan) s (state_after h)
  pub idle : IdleOutside None (state_after h)
  pub firsts : FirstsAgree plan clock (state_after h)
  pub left : (u : ℕ) → HasLeft clock (maker_of plan) u (λ p. s.remembered p u) (s.left u) (actions_left plan h u)
  pub live : (p u : ℕ) → s.enrolled p u ≡ true → (v : ℕ) × s.unsignalled p v ≡ true

-- a run of task t alone from h to h', after which it has these actions left
pub record Goes (plan : Plan) (t : ℕ) (h h' : List Step) (xs : List Action) : Type 0 where
  pub run : IsPlainRun plan h'
  pub own : actions_left plan h' t ≡ xs
  pub rest : (u : ℕ) → u ≢ t → actions_left plan h' u ≡ actions_left plan h u

-- what an activity has left stays where it remembers the same
pub left_stays :
    (clock : ClockKinds) (maker : ℕ → ℕ) (t : ℕ) (memory memory' : ℕ → Option ℕ) (ms ms' : List Move) (xs xs' : List Action) →
    HasLeft clock maker t memory ms xs → ((p : ℕ) → memory' p ≡ memory p) → ms' ≡ ms → xs' ≡ xs → HasLeft clock maker t memory' ms' xs'
left_stays clock maker t memory memory' ms ms' xs xs' l same em ex =
    record {
      standing = l.standing;
      pending = λ p. l.pending p ∙ ap is_some (sym (same p));
      code = ex ∙ l.code ∙ ap (λ v. actions_of (code_from l.standing v)) (sym em);
      lawful = subst (AreLawfulMoves clock maker t l.standing) (sym em) l.lawful;
    }

module _ (plan : Plan) (checked : IsCheckedPlan plan) (t : ℕ) where
  pub goes_first : (h : List Step) (xs : List Action) → IsPlainRun plan h → actions_left plan h t ≡ xs → Goes plan t h h xs
  goes_first h xs run own = record { run = run; own = own; rest = λ u n. refl }

  pub goes_on :
      (h h' : List Step) (x : Action) (xs : List Action) → Goes plan t h h' (x ∷ xs) → IsLegal plan (state_after h') t x →
      Goes plan t h (step_of t x ∷ h') xs
  goes_on h h' x xs g legal =
      let more = acts_legally plan checked h' g.run t x xs g.own legal in
      record {
        run = more;
        own = then_left plan checked h' g.run t x xs g.own more;
        rest = λ u n. ap (λ v. drop v.done (actions plan u)) (other_step (step_of t x) h' u n) ∙ g.rest u n;
      }

  -- the machine's state after a part of a move
  pub arrives :
      (clock : ClockKinds) (e e' : Option ℕ) (s s' : ClockState) (h h' : List Step) (xs ys : List Action) →
      Midst plan clock t e s h xs → Goes plan t h h' ys → (state_after h').forked t ≡ true →
      ((u : ℕ) → (state_after h').published u ≡ None) → ((u : ℕ) → s'.started u ≡ (state_after h').forked u) →
      CellsAgree clock (maker_of plan) s' (state_after h') → IdleOutside e' (state_after h') → FirstsAgree plan clock (state_after h') →
      ((u : ℕ) → u ≢ t → s'.left u ≡ s.left u) → ((p u : ℕ) → u ≢ t → s'.remembered p u ≡ s.remembered p u) →
      Midst plan clock t e' s' h' ys
  arrives clock e e' s s' h h' xs ys m g acting quiet started cells idle firsts lefts memories =
      record {
        run = g.run;
        acting = acting;
        quiet = quiet;
        started = started;
        cells = cells;
        idle = idle;
        firsts = firsts;
        others = λ u n.
            left_stays clock (maker_of plan) u (λ p. s.remembered p u) (λ p. s'.remembered p u) (s.left u) (s'.left u) (actions_left plan h u) (actions_left plan h' u)
            (m.others u n) (λ p. memories p u n) (lefts u n) (g.rest u n);
        own = g.own;
      }
