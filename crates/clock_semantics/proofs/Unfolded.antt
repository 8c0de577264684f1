-- What holds of an unfolding while activity t is unfolded.
use Rattle.std.proofs.Common.{◌≡◌, ℕ, ◌+◌, ◌<◌, ◌≤◌, Bool, true, false, Option, Some, None, List, [], ◌∷◌, ◌++◌, length, arith, sym, ◌∙◌, ap, subst, refl}
use Rattle.std.specs.Prelude.{◌&&◌, ◌==◌, if◌then◌else◌, map, slice_get, sum_by}
use Rattle.std.proofs.lemmas.Bool.{eq-eqb}
use Rattle.std.proofs.lemmas.List.{get_or-set_other, get_or-set_same, length-append, length-map, length-set}
use Rattle.armus_base.specs.States.{updated}
use Rattle.armus_base.specs.declared.offset.Offset.TheVariants.{Here}
use Rattle.armus_base.specs.declared.op.Op.{Op}
use Rattle.armus_base.specs.declared.op.Op.TheVariants as op
use Rattle.pl_syntax.specs.Tree.{done}
use Rattle.armus_base.specs.Numbers.{phaser, task}
use Rattle.pl_plan.specs.Unfolding.{Start, with_member}
use Rattle.pl_plan.proofs.SoundSteps.{member_other}
use Rattle.clock_semantics.specs.Moves.{Move, advances, after_move, begins, code_of_moves, drops, ends, no_standing, opens, ops_of, resumes}
use Rattle.clock_semantics.specs.Unfolding.{ClockStart, ClockUnfolding, governed_by, naming, with_clock_made, with_move}
use Rattle.clock_semantics.specs.calls.Making.{HasClockRoom, IsClockOf}
use Rattle.clock_semantics.proofs.Knows.{AreMembers, Knows, knows_clock, knows_end, knows_finish, knows_less, knows_more, knows_pending}
use Rattle.clock_semantics.proofs.MoveCodes.{SamePending, moves_at, pending_more, plan_more, plan_now, stood}
use Rattle.clock_semantics.proofs.PlanSteps.{Acts, adv_more, await_more, drop_more, make_more, no_names, one_more, sum_ops, with_ops}

-- an activity as a task that is forked
abbrev pub as_forked : ClockStart → Option Start
as_forked s = Some (record { body = done; first = 1; names = no_names })

-- on what an activity is registered at first
abbrev pub first_members : Option ClockStart → ℕ → Bool
first_members None q = false
first_members (Some start) q = start.known.standing.members q

-- what is known of an activity that is started, which has nothing pending
pub record IsReady (n : ℕ) (start : ClockStart) : Type 0 where
  pub knows : Knows n start.known
  pub rests : (q : ℕ) → start.known.standing.pending q ≡ false

-- the moves and ops so far, while activity t acts
pub record IsCounted (t : ℕ) (u : ClockUnfolding) : Type 0 where
  pub here : t < length u.moves
  pub idle : (a : ℕ) → t < a → moves_at u a ≡ []
  pub pending : SamePending (stood no_standing (moves_at u t)) u.now.standing
  pub counted : u.ops ≡ sum_by length (map code_of_moves u.moves)

-- The plan so far is one whose task t acts, and its members are those on which the activities are registered.
pub record IsUnfolding (t : ℕ) (u : ClockUnfolding) : Type 0 where
  pub members : ℕ → ℕ → Bool
  pub acts : Acts t (plan_now u) (map as_forked u.starts) members
  pub own : (q : ℕ) → members t q ≡ u.now.standing.members q
  pub later : (a q : ℕ) → t < a → members a q ≡ first_members (slice_get u.starts a) q
  pub knows : Knows (length u.makers) u.now
  pub ready : (a : ℕ) (start : ClockStart) → t < a → slice_get u.starts a ≡ Some start → IsReady (length u.makers) start
  pub counts : IsCounted t u

pub ready_more : (m n : ℕ) (start : ClockStart) → m ≤ n → IsReady m start → IsReady n start
ready_more m n start le h = record { knows = knows_more m n start.known le h.knows; rests = h.rests }

-- ---- one move more

pub counts_more : (t : ℕ) (m : Move) (v : ClockUnfolding) → IsCounted t v → IsCounted t (with_move t m v)
counts_more t m v h =
    let own : moves_at (with_move t m v) t ≡ moves_at v t ++ m ∷ [] = get_or-set_same v.moves t (moves_at v t ++ m ∷ []) [] h.here in
    record {
      here = omega (arith, h.here, length-set v.moves t (moves_at v t ++ m ∷ []));
      idle = λ a l. get_or-set_other v.moves t a (moves_at v t ++ m ∷ []) [] (λ e. absurd (omega arith)) ∙ h.idle a l;
      pending = λ q. ap (λ ms. (stood no_standing ms).pending q) own ∙ pending_more (moves_at v t) m v.now.standing h.pending q;
      counted =
          omega (
            arith,
            h.counted,
            sum_ops t (ops_of v.now.standing m) (plan_now v) (omega (arith, h.here, length-map v.moves code_of_moves)),
            ap (λ (p : _). sum_by length p.codes) (plan_more t m v h.here h.pending),
          );
    }

-- a move is made where its ops may be added
pub moved_on :
    (t : ℕ) (m : Move) (v : ClockUnfolding) (members : ℕ → ℕ → Bool) → IsCounted t v →
    Acts t (with_ops t (ops_of v.now.standing m) (plan_now v)) (map as_forked v.starts) members →
    ((q : ℕ) → members t q ≡ (after_move m v.now.standing).members q) →
    ((a q : ℕ) → t < a → members a q ≡ first_members (slice_get v.starts a) q) →
    Knows (length v.makers) (record v.now { standing = after_move m v.now.standing }) →
    ((a : ℕ) (start : ClockStart) → t < a → slice_get v.starts a ≡ Some start → IsReady (length v.makers) start) → IsUnfolding t (with_move t m v)
moved_on t m v members counts acts own later knows ready =
    record {
      members = members;
      acts = subst (λ p. Acts t p (map as_forked v.starts) members) (sym (plan_more t m v counts.here counts.pending)) acts;
      own = own;
      later = later;
      knows = knows;
      ready = ready;
      counts = counts_more t m v counts;
    }

-- membership of p changes, as it does for the activity
pub own_with : (t p : ℕ) (b : Bool) (members : ℕ → ℕ → Bool) (own : ℕ → Bool) → ((q : ℕ) → members t q ≡ own q) → (q : ℕ) → with_member t p b members t q ≡ updated own p b q
own_with t p b members own same q =
    ap (λ z. if z && (q == p) then b else members t q) (eq-eqb t t refl) ∙ ap (λ z. if q == p then b else z) (same q)

-- the ops of an advance of a clock that is pending or not
abbrev advance_ops : Bool → ℕ → List Op
advance_ops b p = (if b then [] else op.Adv (phaser p) ∷ []) ++ op.Await (phaser p) Here ∷ []

module _ (t : ℕ) (u : ClockUnfolding) (h : IsUnfolding t u) where
  pub few_ops : (n : ℕ) → u.ops + n ≤ 1048576 → sum_by length (plan_now u).codes + n ≤ 1048576
  few_ops n l = omega (arith, h.counts.counted)

  is_member : (p : ℕ) → u.now.standing.members p ≡ true → h.members t p ≡ true
  is_member p e = h.own p ∙ e

  later_with : (p : ℕ) (b : Bool) (a q : ℕ) → t < a → with_member t p b h.members a q ≡ first_members (slice_get u.starts a) q
  later_with p b a q l = member_other t p b h.members a q (λ e. absurd (omega arith)) ∙ h.later a q l

  more_makers : length u.makers ≤ length (with_clock_made t u).makers
  more_makers = omega (arith, length-append u.makers (task t ∷ []))

  ready_made : (a : ℕ) (start : ClockStart) → t < a → slice_get u.starts a ≡ Some start → IsReady (length (with_clock_made t u).makers) start
  ready_made a start l e = ready_more (length u.makers) (length (with_clock_made t u).makers) start more_makers (h.ready a start l e)

  pub opens_keeps : HasClockRoom u → (x : List ℕ) → u.ops + 1 ≤ 1048576 → IsUnfolding t (with_move t (opens (length u.makers)) (naming x (length u.makers) (with_clock_made t u)))
  opens_keeps room x few =
      let n = length u.makers in
      moved_on t (opens n) (naming x n (with_clock_made t u)) (with_member t n true h.members)
      (record { here = h.counts.here; idle = h.counts.idle; pending = h.counts.pending; counted = h.counts.counted })
      (make_more t (plan_now u) (map as_forked u.starts) h.members h.acts room.few room.cells (few_ops 1 few))
      (own_with t n true h.members u.now.standing.members h.own) (later_with n true)
      (subst (λ k. Knows k (record (naming x n u).now { standing = after_move (opens n) u.now.standing })) (sym (length-append u.makers (task t ∷ [])))
      (knows_clock n u.now x h.knows))
      ready_made

  pub begins_keeps :
      HasClockRoom u → u.ops + 1 ≤ 1048576 → IsUnfolding t (with_move t (begins (length u.makers)) (governed_by (length u.makers ∷ u.now.governing) (with_clock_made t u)))
  begins_keeps room few =
      let n = length u.makers in
      moved_on t (begins n) (governed_by (n ∷ u.now.governing) (with_clock_made t u)) (with_member t n true h.members)
      (record { here = h.counts.here; idle = h.counts.idle; pending = h.counts.pending; counted = h.counts.counted })
      (make_more t (plan_now u) (map as_forked u.starts) h.members h.acts room.few room.cells (few_ops 1 few))
      (own_with t n true h.members u.now.standing.members h.own) (later_with n true)
      (subst (λ k. Knows k (record (governed_by (n ∷ u.now.governing) u).now { standing = after_move (begins n) u.now.standing }))
      (sym (length-append u.makers (task t ∷ []))) (knows_finish n u.now [] h.knows))
      ready_made

  pub advances_keeps : (p : ℕ) → u.now.standing.members p ≡ true → u.ops + length (ops_of u.now.standing (advances p)) ≤ 1048576 → IsUnfolding t (with_move t (advances p) u)
  advances_keeps p e few =
      moved_on t (advances p) u h.members h.counts (by (u.now.standing.pending p) few) h.own h.later
      (knows_pending (length u.makers) u.now (updated u.now.standing.pending p false) h.knows) h.ready
    where
      by : (b : Bool) → u.ops + length (advance_ops b p) ≤ 1048576 → Acts t (with_ops t (advance_ops b p) (plan_now u)) (map as_forked u.starts) h.members
      by true few = await_more t (plan_now u) (map as_forked u.starts) h.members h.acts p (few_ops 1 few) (is_member p e)
      by false few =
          await_more t _ (map as_forked u.starts) h.members
          (adv_more t (plan_now u) (map as_forked u.starts) h.members h.acts p (omega (arith, few_ops 2 few)) (is_member p e)) p
          (omega (arith, few_ops 2 few, one_more t (plan_now u) (map as_forked u.starts) h.members h.acts (op.Adv (phaser p)))) (is_member p e)

  pub resumes_keeps : (p : ℕ) → u.now.standing.members p ≡ true → u.ops + 1 ≤ 1048576 → IsUnfolding t (with_move t (resumes p) u)
  resumes_keeps p e few =
      moved_on t (resumes p) u h.members h.counts
      (adv_more t (plan_now u) (map as_forked u.starts) h.members h.acts p (few_ops 1 few) (is_member p e)) h.own h.later
      (knows_pending (length u.makers) u.now (updated u.now.standing.pending p true) h.knows) h.ready

  pub drops_keeps : (x : List ℕ) (p : ℕ) → IsClockOf u.now x p → u.ops + 1 ≤ 1048576 → IsUnfolding t (with_move t (drops p) u)
  drops_keeps x p clock few =
      moved_on t (drops p) u (with_member t p false h.members) h.counts
      (drop_more t (plan_now u) (map as_forked u.starts) h.members h.acts p (few_ops 1 few) (is_member p clock.registered))
      (own_with t p false h.members u.now.standing.members h.own) (later_with p false)
      (knows_less (length u.makers) p u.now (updated u.now.standing.pending p false) (h.knows.apart x p clock.named) h.knows) h.ready

  pub ends_keeps : (f : ℕ) (fs : List ℕ) → u.now.governing ≡ f ∷ fs → u.ops + 3 ≤ 1048576 → IsUnfolding t (with_move t (ends f) (governed_by fs u))
  ends_keeps f fs is few =
      let member = is_member f (let inside : AreMembers u.now.standing.members (f ∷ fs) = subst (AreMembers u.now.standing.members) is h.knows.inside in inside.0) in
      let first = adv_more t (plan_now u) (map as_forked u.starts) h.members h.acts f (omega (arith, few_ops 3 few)) member in
      let one = one_more t (plan_now u) (map as_forked u.starts) h.members h.acts (op.Adv (phaser f)) in
      let second = await_more t _ (map as_forked u.starts) h.members first f (omega (arith, few_ops 3 few, one)) member in
      let two = one_more t _ (map as_forked u.starts) h.members first (op.Await (phaser f) Here) in
      moved_on t (ends f) (governed_by fs u) (with_member t f false h.members)
      (record { here = h.counts.here; idle = h.counts.idle; pending = h.counts.pending; counted = h.counts.counted })
      (drop_more t _ (map as_forked u.starts) h.members second f (omega (arith, few_ops 3 few, one, two)) member)
      (own_with t f false h.members u.now.standing.members h.own) (later_with f false)
      (knows_end (length u.makers) u.now f fs (updated u.now.standing.pending f false) is h.knows) h.ready
