-- In each state of a run whoever waits at an await at which nobody ever has to wait may go on.
use Rattle.std.proofs.Common.{◌≡◌, ◌∙◌, ◌+◌, ◌<◌, ◌≤◌, ◌&&◌, ℕ, suc, Bool, true, false, Option, Some, ap, arith, eq-eqb, inl, inr, length, refl, slice_get, subst, sym, ◌⊎◌}
use Rattle.std.specs.Prelude.{nat_lt, not, option_map}
use Rattle.std.proofs.lemmas.Bool.{cases_eq, cases_lt}
use Rattle.std.proofs.lemmas.Option.{slice_get_within}
use Rattle.armus_base.specs.declared.event.Event.{Event}
use Rattle.armus_base.specs.Places.{awaited_at, published_after, state_at}
use Rattle.armus_base.specs.Plans.{Action, Aim, Blocks, Plan, action_at, actions, actions_of, code_of}
use Rattle.armus_base.specs.Runs.{places, state_after}
use Rattle.armus_base.specs.States.{State}
use Rattle.armus_base.proofs.Codes.{passes_next}
use Rattle.armus_base.proofs.DeadByStatuses.{run_is_of_plan}
use Rattle.armus_base.proofs.Fixed.{some_before_from}
use Rattle.armus_base.proofs.Published.{published_after_is}
use Rattle.armus_base.proofs.Stepping.{places_fix}
use Rattle.pl_core.specs.Tasks.{IsAtOp, actions_before}
use Rattle.pl_core.specs.inside.Ops.{action_of}
use Rattle.pl_core.proofs.OpCounts.{actions_before-suc, await_is_two}
use Rattle.pl_core.proofs.Standing.{action_of_op}
use Rattle.pl_syntax.specs.declared.tree.Program.{Program}
use Rattle.source_map.specs.Origins.{op_origin}
use Rattle.explain_facts.specs.ImmediateAwaits.{comes_and_awaits, event_at_op, is_late, is_that_number, is_shared, some_op_awaits, some_task_awaits}
use Rattle.explain_facts.proofs.Awaiting.{at_await}
use Rattle.explain_deadlock.specs.Laws.{NobodyIsHeldUpThere}

in_code : (plan : Plan) (t k : ℕ) (x : Action) → action_at plan t k ≡ Some x → slice_get (actions_of (code_of plan t)) k ≡ Some x
unfolding action_at actions
in_code plan t k x is = is

either : (b j : ℕ) → b ≤ suc j → suc j < b + 2 → (b ≡ j) ⊎ (b ≡ suc j)
either b j from under =
    elim (cases_eq b j) [
      | inl same ↦ inl same
      | inr other ↦ inr (omega (arith, from, under, other))
    ]

-- the op at which a task stands that has published with its action j begins with this action
begins_there : (plan : Plan) (t j i : ℕ) (aim : Aim) → action_at plan t j ≡ Some (Blocks aim) → IsAtOp (code_of plan t) (suc j) i →
    (i < length (code_of plan t)) × (actions_before (code_of plan t) i ≡ j)
begins_there plan t j i aim blocks at =
    let (q, off, here) = at_await (code_of plan t) j i aim (in_code plan t j (Blocks aim) blocks) at in
    let inside = slice_get_within (code_of plan t) i _ here in
    let two = actions_before-suc (code_of plan t) i _ here in
    let both = await_is_two q off in
    let more : i + 1 ≡ suc i = omega arith in
    let same = ap (actions_before (code_of plan t)) more in
    let under = at.below inside in
    let first : action_at plan t (actions_before (code_of plan t) i) ≡ Some (Blocks (record { phaser = q.0; off = off })) =
    action_of_op plan t i (actions_before (code_of plan t) i) (omega (arith, inside)) refl ∙ ap (option_map action_of) here in (
      inside,
      elim (either (actions_before (code_of plan t) i) j at.from (omega (arith, under, two, both, same))) [
        | inl is ↦ is
        | inr later ↦
            absurd (let passes = passes_next plan t j aim blocks in
            let again : action_at plan t (suc j) ≡ Some (Blocks (record { phaser = q.0; off = off })) =
            subst (λ k. action_at plan t k ≡ Some (Blocks (record { phaser = q.0; off = off }))) later first in cc)
      ],
    )

-- what a test of all ops does not pass, one of them does not
not_one : (test : Option Event → Bool) (p : Program) (plan : Plan) (n t i : ℕ) → t < length plan.parents → i < length (code_of plan t) → op_origin p t i ≡ Some n →
    some_task_awaits test p plan n ≡ false → test (event_at_op plan t i) ≡ false
not_one test p plan n t i below inside from none = go (test (event_at_op plan t i)) refl
  where
    go : (b : Bool) → test (event_at_op plan t i) ≡ b → b ≡ false
    go false is = refl
    go true is =
        let comes : is_that_number n (op_origin p t i) ≡ true = ap (is_that_number n) from ∙ eq-eqb n n refl in
        let here : comes_and_awaits test p plan n t i ≡ true = ap (λ b. b && test (event_at_op plan t i)) comes ∙ is in
        let own : some_op_awaits test p plan n t (length (code_of plan t)) ≡ true =
        some_before_from (comes_and_awaits test p plan n t) (length (code_of plan t)) i inside here in
        let all : some_task_awaits test p plan n ≡ true =
        some_before_from (λ u. some_op_awaits test p plan n u (length (code_of plan u))) (length plan.parents) t below own in
        absurd (let both : true ≡ false = sym all ∙ none in cc)

not_right : (a b : Bool) → (a && not b) ≡ true → b ≡ false
not_right true false e = refl
not_right true true e = absurd (cc)
not_right false b e = absurd (cc)

not_late : (e : Event) → nat_lt 0 e.n ≡ false → (m : ℕ) → e.n ≤ m
not_late e is m = elim (cases_lt 0 e.n) [
  | inl more ↦ absurd (let yes : nat_lt 0 e.n ≡ true = lt_true 0 e.n more in cc)
  | inr none ↦ omega (arith, none)
]
  where
    lt_true : (a b : ℕ) → a < b → nat_lt a b ≡ true
    lt_true a b h = grind arith

pub nobody_is_held_up_there : NobodyIsHeldUpThere
nobody_is_held_up_there p plan steps n t i e checked run immediate from at published =
    let fixed : state_after steps ≡ state_at plan (places steps) = (places_fix plan checked steps run).0 in
    let here : published_after plan t (places steps t).done ≡ Some e = subst (λ (s : State). s.published t ≡ Some e) fixed published in
    let below : t < length plan.parents = (run_is_of_plan plan steps checked run).published t e published in
    let (j, done_is, aim, phaser_is, blocks) = published_after_is plan t (places steps t).done e here in
    let (inside, begins) = begins_there plan t j i aim blocks (subst (λ d. IsAtOp (code_of plan t) d i) done_is at) in
    let there : published_after plan t (suc j) ≡ Some e = subst (λ d. published_after plan t d ≡ Some e) done_is here in
    let event : event_at_op plan t i ≡ Some e = ap (awaited_at plan t) begins ∙ there in
    let none : some_task_awaits is_late p plan n ≡ false = not_right (some_task_awaits (is_shared plan) p plan n) (some_task_awaits is_late p plan n) immediate in
    let early : nat_lt 0 e.n ≡ false = ap is_late (sym event) ∙ not_one is_late p plan n t i below inside from none in
    λ u m member. not_late e early m
