-- The op at which a task stands that goes on.
use Rattle.std.proofs.Common.{◌≡◌, ◌≢◌, ◌∙◌, ◌⊎◌, ℕ, zero, suc, ◌+◌, ◌<◌, List, [], ◌∷◌, Some, length, add-one, ap, arith, inl, inr, refl, subst, sym}
use Rattle.std.specs.Prelude.{option_map, slice_get}
use Rattle.std.proofs.lemmas.Bool.{cases_eq, cases_lt}
use Rattle.std.proofs.lemmas.List.{take_all}
use Rattle.std.proofs.lemmas.Option.{slice_get_within}
use Rattle.armus_base.specs.declared.ids.PhaserId.{PhaserId}
use Rattle.armus_base.specs.declared.offset.Offset.{Offset}
use Rattle.armus_base.specs.declared.op.Op.{Op}
use Rattle.armus_base.specs.declared.op.Op.TheVariants.{Adv, Await, Drop, Fork, Make, Reg}
use Rattle.armus_base.specs.Plans.{Action, Aim, Blocks, Passes, Plan, action_at, actions, actions_of, code_of}
use Rattle.armus_base.proofs.Codes.{passes_next}
use Rattle.pl_core.specs.Tasks.{IsAtOp, actions_before}
use Rattle.pl_core.specs.inside.Ops.{action_of}
use Rattle.pl_core.proofs.OpCounts.{actions_before-suc, actions_in, await_is_two}
use Rattle.pl_core.proofs.Standing.{action_of_op}
use Rattle.explain_steps.specs.inside.SoFar.{IsNoAwait}

-- an op is an await, or none
await_or_none : (o : Op) → IsNoAwait o ⊎ ((p : PhaserId) × (off : Offset) × (o ≡ Await p off))
await_or_none (Make p) = inl tt
await_or_none (Reg c p) = inl tt
await_or_none (Fork c) = inl tt
await_or_none (Adv p) = inl tt
await_or_none (Drop p) = inl tt
await_or_none (Await p off) = inr (p, off, refl)

-- and where it is none, one action
one_more : (ops : List Op) (k : ℕ) (o : Op) → slice_get ops k ≡ Some o → IsNoAwait o → actions_before ops (suc k) ≡ suc (actions_before ops k)
one_more [] k o e n = absurd (cc)
one_more (Make p ∷ ops) zero o e n = refl
one_more (Reg c p ∷ ops) zero o e n = refl
one_more (Fork c ∷ ops) zero o e n = refl
one_more (Adv p ∷ ops) zero o e n = refl
one_more (Drop p ∷ ops) zero o e n = refl
one_more (Await p off ∷ ops) zero o e n = absurd (let is : o ≡ Await p off = cc in subst IsNoAwait is n)
one_more (Make p ∷ ops) (suc k) o e n = (let r = one_more ops k o e n in omega arith)
one_more (Reg c p ∷ ops) (suc k) o e n = (let r = one_more ops k o e n in omega arith)
one_more (Fork c ∷ ops) (suc k) o e n = (let r = one_more ops k o e n in omega arith)
one_more (Adv p ∷ ops) (suc k) o e n = (let r = one_more ops k o e n in omega arith)
one_more (Drop p ∷ ops) (suc k) o e n = (let r = one_more ops k o e n in omega arith)
one_more (Await p off ∷ ops) (suc k) o e n = (let r = one_more ops k o e n in omega arith)

pub begins_no_await : (o : Op) → ((aim : Aim) → action_of o ≢ Blocks aim) → IsNoAwait o
begins_no_await (Make p) other = tt
begins_no_await (Reg c p) other = tt
begins_no_await (Fork c) other = tt
begins_no_await (Adv p) other = tt
begins_no_await (Drop p) other = tt
begins_no_await (Await p off) other = absurd (other (record { phaser = p.0; off = off }) refl)

within_code : (plan : Plan) (t k : ℕ) (x : Action) → action_at plan t k ≡ Some x → k < length (actions_of (code_of plan t))
unfolding action_at actions
within_code plan t k x next = slice_get_within (actions_of (code_of plan t)) k x next

module _ (plan : Plan) (t k i : ℕ) (at : IsAtOp (code_of plan t) k i) (x : Action) (next : action_at plan t k ≡ Some x) where
  -- a task whose code goes on stands at an op
  pub stands_at_op : i < length (code_of plan t)
  stands_at_op = elim (cases_lt i (length (code_of plan t))) [
    | inl l ↦ l
    | inr l ↦ absurd (
        let all : actions_before (code_of plan t) i ≡ length (actions_of (code_of plan t)) = ap (λ ops. length (actions_of ops)) (take_all i (code_of plan t) l) in
        let more = within_code plan t k x next in
        let from = at.from in
        omega (arith, all, more, from))
  ]

  module _ (o : Op) (here : slice_get (code_of plan t) i ≡ Some o) where
    -- the action with which the op begins
    first : k ≡ actions_before (code_of plan t) i → x ≡ action_of o
    first is =
        let both : Some x ≡ Some (action_of o) =
        sym next ∙ action_of_op plan t i k at.within is ∙ ap (option_map action_of) here in cc

    -- the action behind that of an await
    second : (aim : Aim) → action_of o ≡ Blocks aim → k ≡ suc (actions_before (code_of plan t) i) → x ≡ Passes aim.phaser
    second aim blocks is =
        let begins : action_at plan t (actions_before (code_of plan t) i) ≡ Some (Blocks aim) =
        action_of_op plan t i (actions_before (code_of plan t) i) at.within refl ∙ ap (option_map action_of) here ∙ ap Some blocks in
        let both : Some x ≡ Some (Passes aim.phaser) =
        sym next ∙ ap (action_at plan t) is ∙ passes_next plan t (actions_before (code_of plan t) i) aim begins in cc

    -- the next action is that with which the op begins, or the second one of an await
    pub begins_or_passes : (x ≡ action_of o) ⊎ ((p : ℕ) × (x ≡ Passes p))
    begins_or_passes =
        let from = at.from in
        let below : k < actions_before (code_of plan t) (i + 1) = at.below stands_at_op in
        let next_op : actions_before (code_of plan t) (i + 1) ≡ actions_before (code_of plan t) (suc i) = ap (actions_before (code_of plan t)) (add-one i) in
        elim (cases_eq k (actions_before (code_of plan t) i)) [
          | inl same ↦ inl (first same)
          | inr other ↦
              elim (await_or_none o) [
                | inl none ↦ absurd (let one = one_more (code_of plan t) i o here none in other (omega (arith, from, below, next_op, one)))
                | inr (p, off, is) ↦
                    let aim : Aim = record { phaser = p.0; off = off } in
                    let more = actions_before-suc (code_of plan t) i o here in
                    let two = ap actions_in is ∙ await_is_two p off in
                    inr (
                      aim.phaser,
                      second aim (ap action_of is) (
                          elim (cases_lt (actions_before (code_of plan t) i) k) [
                            | inl l ↦ omega (arith, l, below, next_op, more, two)
                            | inr l ↦ absurd (other (omega (arith, from, l)))
                          ]
                          ),
                    )
              ]
        ]
